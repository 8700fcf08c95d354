-- Names that are there already.
use Rattle.std.proofs.Common.{◌≡◌, ◌∷◌, Bool, true, false, not, bytes_eq, if◌then◌else◌, IsTrue, Option, Some, None, is_some, option_map, inl, inr, refl, sym, ap, ◌∙◌}
use Rattle.claim_tree.specs.Tree.{Text, Tree, Members, no_members, member, names, member_named}
use Rattle.sd_outside.specs.Lists.{In}
use Rattle.claim_tree.specs.Removed.{removed}
use Rattle.sd_outside.proofs.Lists.{bytes_same, bytes_refl}
use Rattle.rebuild_core.specs.Payload.{alg_name}
use Rattle.rebuild_core.specs.Rows.{beside_names}

-- ---- the names beside a digest

named_in : (ms : Members) (name : Text) → is_some (member_named ms name) ≡ true → In name (names ms)
named_in no_members name h = cc
named_in (member other t ms) name h = go (bytes_eq other name) refl h (named_in ms name)
  where
    go : (b : Bool) → bytes_eq other name ≡ b → is_some (if b then Some t else member_named ms name) ≡ true → (is_some (member_named ms name) ≡ true → In name (names ms)) → In name (other ∷ names ms)
    go true e h rest = inl (sym (bytes_same other name e))
    go false e h rest = inr (rest h)

in_named : (ms : Members) (name : Text) → In name (names ms) → is_some (member_named ms name) ≡ true
in_named no_members name h = elim h [ ]
in_named (member other t ms) name h = go (bytes_eq other name) refl h (in_named ms name)
  where
    go : (b : Bool) → bytes_eq other name ≡ b → In name (other ∷ names ms) → (In name (names ms) → is_some (member_named ms name) ≡ true) → is_some (if b then Some t else member_named ms name) ≡ true
    go true e h rest = refl
    go false e (inl s) rest = let z = bytes_refl other name (sym s) in cc
    go false e (inr h) rest = rest h

without_in : (name other : Text) (ms : Members) → In other (names (removed ms name)) → In other (names ms) × (bytes_eq other name ≡ false)
without_in name other no_members h = elim h [ ]
without_in name other (member n t ms) h = go (bytes_eq n name) refl h (without_in name other ms)
  where
    go : (b : Bool) → bytes_eq n name ≡ b → In other (names (if b then removed ms name else member n t (removed ms name)))
        → (In other (names (removed ms name)) → In other (names ms) × (bytes_eq other name ≡ false)) → In other (n ∷ names ms) × (bytes_eq other name ≡ false)
    go true e h rest = let w = rest h in (inr w.0, w.1)
    go false e (inl s) rest = (inl s, ap (λ z. bytes_eq z name) s ∙ e)
    go false e (inr h) rest = let w = rest h in (inr w.0, w.1)

in_without : (name other : Text) (ms : Members) → In other (names ms) → bytes_eq other name ≡ false → In other (names (removed ms name))
in_without name other no_members h f = elim h [ ]
in_without name other (member n t ms) h f = go (bytes_eq n name) refl h (λ m. in_without name other ms m f)
  where
    go : (b : Bool) → bytes_eq n name ≡ b → In other (n ∷ names ms) → (In other (names ms) → In other (names (removed ms name)))
        → In other (names (if b then removed ms name else member n t (removed ms name)))
    go true e (inl s) rest = let z = ap (λ z. bytes_eq z name) s ∙ e in cc
    go true e (inr h) rest = rest h
    go false e (inl s) rest = inl s
    go false e (inr h) rest = inr (rest h)

beside_if : (top : Bool) (ms : Members) (name : Text) → In name (names ms) → (top ≡ true → bytes_eq name alg_name ≡ false) → In name (beside_names top ms)
beside_if true ms name h f = in_without alg_name name ms h (f refl)
beside_if false ms name h f = h

if_beside : (top : Bool) (ms : Members) (name : Text) → In name (beside_names top ms) → In name (names ms) × (top ≡ true → bytes_eq name alg_name ≡ false)
if_beside true ms name h = let w = without_in alg_name name ms h in (w.0, λ _. w.1)
if_beside false ms name h = (h, λ e. cc)

-- what `get` finds, and whether the name is `_sd_alg` in the payload
pub beside_found : {X : Type 0} (f : X → Tree) (r : Option X) (ms : Members) (name : Text) (top skipped : Bool) → option_map f r ≡ member_named ms name → is_some r ≡ true
    → (top ≡ true → skipped ≡ bytes_eq name alg_name) → (top ≡ false → skipped ≡ false) → (IsTrue (not skipped) → In name (beside_names top ms)) × (In name (beside_names top ms) → IsTrue (not skipped))
beside_found f None ms name top skipped e s on off = cc
beside_found f (Some x) ms name true skipped e s on off =
    (λ h. beside_if true ms name (named_in ms name (ap is_some (sym e))) (λ _. sym (on refl) ∙ was skipped h), λ h. is skipped (on refl ∙ (if_beside true ms name h).1 refl))
  where
    was : (b : Bool) → IsTrue (not b) → b ≡ false
    was true h = cc
    was false h = refl

    is : (b : Bool) → b ≡ false → IsTrue (not b)
    is true e = cc
    is false e = refl
beside_found f (Some x) ms name false skipped e s on off = (λ h. beside_if false ms name (named_in ms name (ap is_some (sym e))) (λ e. cc), λ h. rw (off refl) refl)

pub beside_missed : {X : Type 0} (f : X → Tree) (r : Option X) (ms : Members) (name : Text) (top : Bool) → option_map f r ≡ member_named ms name → is_some r ≡ false → In name (beside_names top ms) → ⊥
beside_missed f (Some x) ms name top e s h = cc
beside_missed f None ms name top e s h = let z = in_named ms name (if_beside top ms name h).0 in let y : is_some (member_named ms name) ≡ false = ap is_some (sym e) in cc
