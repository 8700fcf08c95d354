use Rattle.std.proofs.Common.{◌≡◌, map, take}
use Rattle.claim_tree.specs.Tree.{Text}
use Rattle.digest_sites.specs.GivenView.{given_of}
use Rattle.audit_core.specs.Audited.{is_given}
use Rattle.audit_core.specs.Strange.{is_in}
use Rattle.audit_core.proofs.known.digests_of.Given as goal

abbrev pub invariant-loop-one : goal.invariant-loop-one
invariant-loop-one l = (digest : Text) → is_in l.digests.keys digest ≡ is_given (map given_of (take l.one-index l.one-items)) digest
