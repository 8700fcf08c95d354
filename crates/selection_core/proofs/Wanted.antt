-- Wanted paths in turn: the marks on the ways so far, and that each path leads somewhere.
use Rattle.std.proofs.Common.{◌≡◌, ℕ, ◌+◌, ◌<◌, ◌≤◌, List, ◌∷◌, length, drop, get_or, Bool, true, false, ◌||◌, ◌⊎◌, inl, inr, Option, Some, None, refl, sym, ap, subst, ◌∙◌, arith}
use Rattle.std.specs.Prelude.{is_some}
use Rattle.std.specs.List.{list_any}
use Rattle.std.proofs.Math.Bool.{or-false, or_assoc}
use Rattle.std.proofs.lemmas.List.{drop_more, drop_all}
use Rattle.claim_tree.specs.Tree.{Tree}
use Rattle.sd_outside.specs.Lists.{StandsAt, IsLeast}
use Rattle.claim_tree.specs.Path.{tree_at}
use Rattle.claim_tree.proofs.Counting.{before_or_at}
use Rattle.sd_outside.proofs.Lists.{At-same, At-below, At-get_or}
use Rattle.marked_tree.specs.Choice.{is_on_way}
use Rattle.marked_tree.specs.Marked.{Marked}
use Rattle.marked_tree.specs.Numbers.{has}
use Rattle.marked_tree.specs.Paths.{Path, chosen}
use Rattle.marked_tree.proofs.LeastChoice.{chosen_by_ways}
use Rattle.selection_core.specs.ChoiceRefusals.{IsMissing}

abbrev pub ways_to : Marked → List Path → ℕ → Bool
ways_to m want i = list_any (λ p. is_on_way m p i) want

-- the marks, with those on the ways to the rest, are those on the ways to all
abbrev pub AreGathered : Marked → List Path → List ℕ → List Path → Type 0
AreGathered m want marks rest = (i : ℕ) → (has marks i || ways_to m rest i) ≡ ways_to m want i

-- none of the first k paths leads nowhere
abbrev pub NoneMissing : Tree → List Path → ℕ → Type 0
NoneMissing t want k = (q : ℕ) → q < k → IsMissing t want q → ⊥

pub gathered_more : (m : Marked) (want : List Path) (marks more : List ℕ) (k : ℕ) (p : Path) → k < length want → p ≡ get_or want k p
    → AreGathered m want marks (drop k want) → ((i : ℕ) → has more i ≡ (has marks i || is_on_way m p i))
    → AreGathered m want more (drop (k + 1) want)
gathered_more m want marks more k p l e gathered added i =
    ap (λ b. b || ways_to m (drop (k + 1) want) i) (added i)
    ∙ or_assoc (has marks i) (is_on_way m p i) (ways_to m (drop (k + 1) want) i)
    ∙ ap (λ (ps : List Path). has marks i || ways_to m ps i) (sym (drop_more want k p l ∙ ap (λ (q : Path). q ∷ drop (k + 1) want) (sym e)))
    ∙ gathered i

pub gathered_all : (m : Marked) (want : List Path) (marks : List ℕ) (k : ℕ) → length want ≤ k → AreGathered m want marks (drop k want)
    → (i : ℕ) → has marks i ≡ chosen m want i
gathered_all m want marks k l gathered i =
    sym (ap (λ (ps : List Path). has marks i || ways_to m ps i) (drop_all k want l) ∙ or-false (has marks i))
    ∙ gathered i ∙ sym (chosen_by_ways m want i)

pub none_missing_more : (t : Tree) (want : List Path) (k : ℕ) (p : Path) → p ≡ get_or want k p → true ≡ is_some (tree_at t p)
    → NoneMissing t want k → NoneMissing t want (k + 1)
none_missing_more t want k p e there none q l missing = go (before_or_at q k l)
  where
    go : (q < k) ⊎ (q ≡ k) → ⊥
    go (inl less) = none q less missing
    go (inr same) =
        let at : StandsAt want k missing.0 = subst (λ n. StandsAt want n missing.0) same missing.1 in
        let is : missing.0 ≡ p = At-same want k missing.0 p at (subst (λ (x : Path). StandsAt want k x) (sym e) (At-get_or want k p (At-below want k missing.0 at))) in
        let clash : true ≡ false = there ∙ ap (λ (x : Path). is_some (tree_at t x)) (sym is) ∙ ap (λ (o : Option Tree). is_some o) missing.2 in
        cc clash

pub first_missing : (t : Tree) (want : List Path) (k : ℕ) (p : Path) → k < length want → p ≡ get_or want k p → false ≡ is_some (tree_at t p)
    → NoneMissing t want k → IsLeast (IsMissing t want) k
first_missing t want k p l e nowhere none = record {
  fails = (p, subst (λ (x : Path). StandsAt want k x) (sym e) (At-get_or want k p l), is_none (tree_at t p) nowhere);
  first = none;
}
  where
    is_none : (o : Option Tree) → false ≡ is_some o → o ≡ None
    is_none None e = refl
    is_none (Some t) e = cc e

pub none_missing_all : (t : Tree) (want : List Path) (k : ℕ) → length want ≤ k → NoneMissing t want k → (q : ℕ) → IsMissing t want q → ⊥
none_missing_all t want k l none q missing = let b = At-below want q missing.0 missing.1 in none q (omega (arith, b)) missing
