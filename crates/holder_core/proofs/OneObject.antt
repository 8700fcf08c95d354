-- What is said of one object, by its members, is one.
use Rattle.std.proofs.Common.{◌≡◌, List, [], Option, sym, subst, ◌∙◌}
use Rattle.claim_tree.specs.Tree.{Text, Tree, object, Members, member_named}
use Rattle.claim_tree.specs.TreeValues.{Says, MaySay, SaysOr, IsListOf}
use Rattle.claim_tree.proofs.ListForms.{one_list}
use Rattle.claim_tree.proofs.TreeValues as values
use Rattle.claim_tree.proofs.TreeValues.{SaysOne}

pub one_members : (t : Tree) (ms ns : Members) → t ≡ object ms → t ≡ object ns → ms ≡ ns
one_members t ms ns h k = let same : object ms ≡ object ns = sym h ∙ k in cc same

module _ {X : Type 0} (Is : Tree → X → Type 0) (one : SaysOne Is) {ms ns : Members} (same : ms ≡ ns) (name : Text) where
  pub one_said : (x y : X) → Says Is (member_named ms name) x → Says Is (member_named ns name) y → x ≡ y
  one_said x y h = values.says_one Is (member_named ns name) x y one (subst (λ os. Says Is (member_named os name) x) same h)

  pub one_maybe_said : (x y : Option X) → MaySay Is (member_named ms name) x → MaySay Is (member_named ns name) y → x ≡ y
  one_maybe_said x y h = values.may_say_one Is (member_named ns name) x y one (subst (λ os. MaySay Is (member_named os name) x) same h)

  pub one_listed : (xs ys : List X) → SaysOr (IsListOf Is) [] (member_named ms name) xs → SaysOr (IsListOf Is) [] (member_named ns name) ys → xs ≡ ys
  one_listed xs ys h = values.says_or_one (IsListOf Is) [] (member_named ns name) xs ys (one_list Is one) (subst (λ os. SaysOr (IsListOf Is) [] (member_named os name) xs) same h)
