-- Small facts of the parts of an audit.
use Rattle.std.proofs.Common.{◌≡◌, ◌≤◌, List, [], ◌∷◌, length, Bool, true, false, cond, ◌||◌, refl, sym, ap, ◌∙◌}
use Rattle.std.specs.Prelude.{bytes_eq}
use Rattle.sd_outside.specs.Limits.{count_max}
use Rattle.claim_tree.specs.Tree.{Text, Members, no_members, member}
use Rattle.claim_tree.specs.View.{tree_of}
use Rattle.claim_tree.specs.ListViews.{members_of}
use Rattle.claim_tree.proofs.Walks.{Named}
use Rattle.refusals.specs.Lowest.{NoneApplies}
use Rattle.digest_index.proofs.Positions.{bytes_eq-flip}
use Rattle.issuer_core.specs.declared.errors.IssueError.TheVariants.{TooManyDecoys}
use Rattle.issuer_core.specs.Decoys.{decoys_of}
use Rattle.issuer_core.specs.Order.{Order}
use Rattle.issuer_core.specs.OrderRefusals.{AppliesToOrder}
use Rattle.claim_tree.proofs.Counting.{not_below}

pub no_members_empty : (ms : List Named) → members_of ms ≡ no_members → length ms ≡ 0
no_members_empty [] e = refl
no_members_empty (m ∷ ms) e = let w : no_members ≡ member m.0 (tree_of m.1) (members_of ms) = sym e in absurd (apart m ms w)
  where
    is_none : Members → Bool
    is_none no_members = true
    is_none (member k t ns) = false

    apart : (m : Named) (ms : List Named) → no_members ≡ member m.0 (tree_of m.1) (members_of ms) → ⊥
    apart m ms w = let v : true ≡ false = ap is_none w in cc

-- ---- an order that nothing refuses

pub few_decoys : (o : Order) → NoneApplies (AppliesToOrder o) → length (decoys_of o) ≤ count_max
few_decoys o none = not_below (length (decoys_of o)) count_max (none TooManyDecoys)

-- ---- a text that is put among others

pub put_turned : (a b : Text) (x : Bool) → cond (bytes_eq a b) true x ≡ (bytes_eq b a || x)
put_turned a b x = ap (λ (t : Bool). cond t true x) (bytes_eq-flip a b) ∙ go (bytes_eq b a)
  where
    go : (t : Bool) → cond t true x ≡ (t || x)
    go true = refl
    go false = refl
