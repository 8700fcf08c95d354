-- What the order of `gen` says: its members, its paths, and that the policy of `gen` suits what is asked for.
use Rattle.std.proofs.Common.{◌≡◌, ◌≢◌, ◌⊎◌, inl, inr, ℕ, zero, suc, ◌%◌, ◌<◌, ◌≤◌, [], ◌∷◌, ◌++◌, Bool, true, false, ◌||◌, ◌&&◌, bytes_eq, Option, Some, None, codes, refl, sym, ap, subst, ◌∙◌, arith}
use Rattle.std.specs.Prelude.{◌==◌, option_and_then, if◌then◌else◌}
use Rattle.std.proofs.lemmas.List.Folds.{list_any-append}
use Rattle.claim_tree.specs.Tree.{Text, Tree, object, members_depth, member_named, get}
use Rattle.sd_outside.specs.Lists.{In}
use Rattle.claim_tree.specs.Path.{tree_at}
use Rattle.sd_outside.proofs.Lists.{bytes_same, bytes_refl, In-append}
use Rattle.claim_tree.proofs.OtherMembers.{named_inserted, other_inserted, depth-inserted}
use Rattle.refusals.specs.declared.condition.Condition.{Condition}
use Rattle.refusals.specs.Lowest.{NoneFails}
use Rattle.refusals.proofs.Lowest.{holds_too, none_fails}
use Rattle.jws_part.specs.Times.{IsTimeUnreadable}
use Rattle.marked_tree.specs.Paths.{Path, is_among, same_path, below, chosen}
use Rattle.verifier_core.specs.Verdict.{ClaimFails, demands_of}
use Rattle.verifier_core.proofs.ClaimSteps.{claim_numbers, before_missing, before_times, before_expiry, before_start}
use Rattle.issuer_core.specs.Digests.{marked_claims}
use Rattle.sdjwt_cli.specs.Generated.{number, member_name, member_value, members_below, paths_below, hidden_below, to_a, to_second, generated, generated_key, generated_ask, generated_policy}
use Rattle.selection_core.specs.Never.{never_rule}
use Rattle.holder_core.specs.Present.{shown_for}
use Rattle.sdjwt_cli.specs.Suits.{Suits}
use Rattle.marked_tree.proofs.KeptMembers.{NonePasses, claim_kept}
use Rattle.marked_tree.proofs.LeftOut.{chosen_is_left}
use Rattle.selection_core.proofs.NeverShown.{unrefused}

-- ---- the members

pub shallow : (n : ℕ) → members_depth (members_below n) ≤ 2
shallow zero = omega arith
shallow (suc n) = let more = depth-inserted (members_below n) (member_name n) (member_value n) in omega (arith, more, shallow n)

lower : (a b : ℕ) → a < suc b → (a ≡ b → ⊥) → a < b
lower a b l d = grind arith

-- each has the value of a number
named : (n i : ℕ) → i < n → (j : ℕ) × (member_named (members_below n) (member_name i) ≡ Some (member_value j))
named zero i low = absurd (omega (arith, low))
named (suc n) i low = go (bytes_eq (member_name n) (member_name i)) refl (named n i)
  where
    go : (b : Bool) → bytes_eq (member_name n) (member_name i) ≡ b → (i < n → (j : ℕ) × (member_named (members_below n) (member_name i) ≡ Some (member_value j)))
        → (j : ℕ) × (member_named (members_below (suc n)) (member_name i) ≡ Some (member_value j))
    go true e ih =
        let same : member_name n ≡ member_name i = bytes_same (member_name n) (member_name i) e in
        (n, ap (member_named (members_below (suc n))) (sym same) ∙ named_inserted (members_below n) (member_name n) (member_value n))
    go false e ih =
        let rest = ih (lower i n low (λ same. let clash : false ≡ true = sym e ∙ bytes_refl (member_name n) (member_name i) (ap member_name (sym same)) in cc clash)) in
        (rest.0, other_inserted (members_below n) (member_name n) (member_value n) (member_name i) e ∙ rest.1)

-- no other name is there
none_named : (name : Text) → ((i : ℕ) → bytes_eq (member_name i) name ≡ false) → (n : ℕ) → member_named (members_below n) name ≡ None
none_named name other zero = refl
none_named name other (suc n) = other_inserted (members_below n) (member_name n) (member_value n) name (other n) ∙ none_named name other n

-- ---- the paths

path_in : (k : ℕ) (inside : Path) (n : ℕ) (path : Path) → In path (paths_below k inside n) → (i : ℕ) × (i < n) × (path ≡ member_name i ∷ inside)
path_in k inside zero path there = absurd there
path_in k inside (suc n) path there = go (path_in k inside n path) (In-append path (paths_below k inside n) (if n % k == 0 then (member_name n ∷ inside) ∷ [] else []) there)
  where
    one : (b : Bool) → In path (if b then (member_name n ∷ inside) ∷ [] else []) → (i : ℕ) × (i < suc n) × (path ≡ member_name i ∷ inside)
    one true (inl same) = (n, omega arith, same)
    one true (inr none) = absurd none
    one false none = absurd none

    go : (In path (paths_below k inside n) → (i : ℕ) × (i < n) × (path ≡ member_name i ∷ inside)) → In path (paths_below k inside n) ⊎ In path (if n % k == 0 then (member_name n ∷ inside) ∷ [] else [])
        → (i : ℕ) × (i < suc n) × (path ≡ member_name i ∷ inside)
    go ih (inl earlier) = let found = ih earlier in let low = found.1 in (found.0, omega (arith, low), found.2)
    go ih (inr here) = one (n % k == 0) here

wanted_there : (n : ℕ) (path : Path) → In path (generated_ask n).want → tree_at (generated n).payload path ≢ None
wanted_there n path there none =
    let at = path_in 4 to_a n path there in
    let value = named n at.0 at.1 in
    let found : tree_at (object (members_below n)) (member_name at.0 ∷ to_a) ≡ Some (number value.0) = ap (λ o. option_and_then (λ t. tree_at t to_a) o) value.1 in
    let lost : tree_at (object (members_below n)) (member_name at.0 ∷ to_a) ≡ None = ap (tree_at (object (members_below n))) (sym at.2) ∙ none in
    cc (sym found ∙ lost)

-- none begins with another step
none_begin : (name : Text) → ((i : ℕ) → bytes_eq name (member_name i) ≡ false) → (k : ℕ) (inside : Path) (n : ℕ) (p : Path) → is_among (paths_below k inside n) (name ∷ p) ≡ false
none_begin name other k inside zero p = refl
none_begin name other k inside (suc n) p =
    list_any-append (same_path (name ∷ p)) (paths_below k inside n) (if n % k == 0 then (member_name n ∷ inside) ∷ [] else [])
    ∙ ap (λ b. b || is_among (if n % k == 0 then (member_name n ∷ inside) ∷ [] else []) (name ∷ p)) (none_begin name other k inside n p) ∙ one (n % k == 0)
  where
    one : (b : Bool) → is_among (if b then (member_name n ∷ inside) ∷ [] else []) (name ∷ p) ≡ false
    one true = ap (λ c. (c && same_path p inside) || false) (other n)
    one false = refl

none_hidden : (name : Text) → ((i : ℕ) → bytes_eq name (member_name i) ≡ false) → (n : ℕ) → NonePasses (below name (is_among (hidden_below n)))
none_hidden name other n p =
    let seconds = paths_below 2 [] n in
    let thirds = paths_below 3 to_a n in
    let fifths = paths_below 5 to_second n in
    list_any-append (same_path (name ∷ p)) (seconds ++ thirds) fifths
    ∙ ap (λ b. b || is_among fifths (name ∷ p)) (list_any-append (same_path (name ∷ p)) seconds thirds)
    ∙ ap (λ b. (b || is_among thirds (name ∷ p)) || is_among fifths (name ∷ p)) (none_begin name other 2 [] n p)
    ∙ ap (λ b. b || is_among fifths (name ∷ p)) (none_begin name other 3 to_a n p)
    ∙ none_begin name other 5 to_second n p

-- ---- the claims that are shown

not_shown : (name : Text) → ((i : ℕ) → bytes_eq name (member_name i) ≡ false) → ((i : ℕ) → bytes_eq (member_name i) name ≡ false) → (n : ℕ) → get (shown_for (marked_claims (generated n)) (generated_ask n).want) name ≡ None
not_shown name other turned n =
    claim_kept (object (members_below n)) (hidden_below n) name (none_hidden name other n) (chosen (marked_claims (generated n)) (generated_ask n).want) ∙ none_named name turned n

no_expiry : (n : ℕ) → get (shown_for (marked_claims (generated n)) (generated_ask n).want) (codes "exp") ≡ None
no_expiry n = not_shown (codes "exp") (λ i. refl) (λ i. refl) n

no_start : (n : ℕ) → get (shown_for (marked_claims (generated n)) (generated_ask n).want) (codes "nbf") ≡ None
no_start n = not_shown (codes "nbf") (λ i. refl) (λ i. refl) n

absent : (o : Option Tree) (t : Tree) → o ≡ None → o ≡ Some t → ⊥
absent o t none some = cc (sym none ∙ some)

claims_hold : (n : ℕ) → NoneFails (ClaimFails (shown_for (marked_claims (generated n)) (generated_ask n).want) (demands_of generated_policy) 0)
claims_hold n =
    let shown = shown_for (marked_claims (generated n)) (generated_ask n).want in
    let issuer = before_missing shown (demands_of generated_policy) 0 (λ h. cc h.1) in
    let required = before_times shown (demands_of generated_policy) 0 issuer (λ i name is. absurd is) in
    let readable = before_expiry shown (demands_of generated_policy) 0 required unreadable in
    let fresh = before_start shown (demands_of generated_policy) 0 readable (λ late. absent (get shown (codes "exp")) _ (no_expiry n) late.1) in
    none_fails (ClaimFails shown (demands_of generated_policy) 0) 27
    (holds_too (ClaimFails shown (demands_of generated_policy) 0) Condition.NotYet fresh (λ place h. absent (get shown (codes "nbf")) _ (no_start n) h.1.1))
    (λ c place h. let range = claim_numbers shown (demands_of generated_policy) 0 c place h in range.1)
  where
    unreadable : IsTimeUnreadable (shown_for (marked_claims (generated n)) (generated_ask n).want) → ⊥
    unreadable (inl h) = absent (get (shown_for (marked_claims (generated n)) (generated_ask n).want) (codes "exp")) h.0 (no_expiry n) h.1
    unreadable (inr h) = absent (get (shown_for (marked_claims (generated n)) (generated_ask n).want) (codes "nbf")) h.0 (no_start n) h.1

pub generated_suits : (n : ℕ) → Suits never_rule [] (generated n) generated_key (generated_ask n) generated_key.block generated_policy 0 0
generated_suits n = record {
  holder_finds = refl;
  verifier_finds = refl;
  alg = inl refl;
  typ = λ name asked. asked;
  there = wanted_there n;
  unrefused = λ place hidden leads. unrefused [] place (λ front none l. none);
  named = λ ask asked. cc asked;
  bound = λ binding asked. cc asked;
  claims = subst (λ (t : Tree). NoneFails (ClaimFails t (demands_of generated_policy) 0)) (chosen_is_left (generated n).payload (generated n).hide (generated_ask n).want) (claims_hold n);
}
