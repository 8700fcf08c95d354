-- Not needed to believe the program's promises: what a handle of a policy owns.
use Rattle.std.specs.Prelude.{◌≡◌, Option, None, Some}
use base.Fml.{Fml, ftrue, fsep, fex}
use denote.RawPtr.{Ptr, block_ptr, null_ptr}
use Rattle.std.specs.declared.alloc.Global.{Global}
use Rattle.std.specs.contracts.impls.GlobalAllocator.TheImpl.{ghosts}
use Rattle.std_alloc.specs.Box.Ownership.{box_owns}
use Rattle.verifier_core.specs.contracts.policy.Policy.{the_row}
use Rattle.verifier_core.specs.declared.policy.Policy.{Policy}

abbrev pub boxed : Global → Ptr → Policy → Fml
boxed alloc = box_owns (ghosts.dealloc_token alloc) the_row

-- a policy lies there, and is the one that is held
abbrev pub lies : Global → Ptr → Option Policy → Policy → Fml
lies alloc p held policy = fsep (boxed alloc p policy) (fex (held ≡ Some policy) (λ _. ftrue))

-- at null none is held
abbrev pub holds : Global → Ptr → Option Policy → Fml
holds alloc null_ptr held = fex (held ≡ None) (λ _. ftrue)
holds alloc (block_ptr b o) held = fex Policy (lies alloc (block_ptr b o) held)
