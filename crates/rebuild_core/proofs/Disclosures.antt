-- The set of disclosed names.
use Rattle.std.proofs.Common.{◌≡◌, ℕ, List, [], ◌∷◌, Bool, true, not, cond, ◌&&◌, ◌||◌, eqb, bytes_eq, if◌then◌else◌, refl, sym, ap, ap₂, ◌∙◌}
use Rattle.std.specs.List.{list_any}
use Rattle.std.specs.Borrow.{Bor}
use Rattle.std.specs.HashSet.{HashSet, contains}
use Rattle.claim_tree.specs.Tree.{Text}
use Rattle.digest_index.specs.declared.seeded.Seeded.{Seeded}
use Rattle.rebuild_core.specs.declared.names.Disclosed.{Disclosed}
use Rattle.rebuild_core.specs.contracts.names.DisclosedPartialEq.TheImpl.{eq-value}
use Rattle.rebuild_core.specs.Disclosed.{is_disclosed, is_name_disclosed}

-- an object, and a name that stands where another does
abbrev pub key : ℕ → Bor Text → Text → Disclosed
key object at name = record { object = object; name = record at { now = name } }

same : (object : ℕ) (at : Bor Text) (name : Text) (d : Disclosed) → eq-value.it (key object at name) d ≡ is_disclosed object name d
same object at name d = refl

any_same : (object : ℕ) (at : Bor Text) (name : Text) (ds : List Disclosed) → list_any (eq-value.it (key object at name)) ds ≡ list_any (is_disclosed object name) ds
any_same object at name [] = refl
any_same object at name (d ∷ ds) = ap₂ (λ (a b : Bool). a || b) (same object at name d) (any_same object at name ds)

contained : (object : ℕ) (at : Bor Text) (name : Text) (s : HashSet Disclosed Seeded) → contains eq-value.it s (key object at name) ≡ is_name_disclosed s object name
contained object at name s = any_same object at name s.keys

pub added_new : (s : HashSet Disclosed Seeded) (object : ℕ) (at : Bor Text) (name : Text) (new : Bool) → new ≡ not (contains eq-value.it s (key object at name)) → new ≡ not (is_name_disclosed s object name)
added_new s object at name new e = e ∙ ap not (contained object at name s)

pub added_noted : (s t : HashSet Disclosed Seeded) (object : ℕ) (at : Bor Text) (name : Text)
    → ((d : Disclosed) → contains eq-value.it t d ≡ cond (eq-value.it (key object at name) d) true (contains eq-value.it s d))
    → (o : ℕ) (n : Text) → is_name_disclosed t o n ≡ (if eqb object o && bytes_eq name n then true else is_name_disclosed s o n)
added_noted s t object at name h o n =
    sym (contained o at n t) ∙ h (key o at n) ∙ ap₂ (λ (a b : Bool). cond a true b) (same object at name (key o at n)) (contained o at n s)
