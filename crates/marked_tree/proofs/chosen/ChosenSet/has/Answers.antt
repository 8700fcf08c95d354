use Rattle.std.proofs.Common.{ℕ, List, length, nat_cmp, ap, subst, ◌∙◌}
use Rattle.std.specs.List.Sorted.{IsSearchInRange, IsBinarySearchResult}
use Rattle.marked_tree.specs.Numbers.{has}
use Rattle.marked_tree.proofs.RisingSearch.{search_tells}
use Rattle.marked_tree.proofs.chosen.ChosenSet.has.Goals as goal

pub returns : goal.returns
returns c =
    let ns = c.self.inside.marks.items in
    let r = c.binary_search.result in
    let within = subst (λ (ms : List ℕ). IsSearchInRange r (length ms)) c.deref.ensures.value c.binary_search.ensures.bound in
    let found = subst (λ (ms : List ℕ). IsBinarySearchResult (λ (m : ℕ). nat_cmp m c.args.mark) ms r) c.deref.ensures.value c.binary_search.ensures.position in
    c.is_ok.ensures.value ∙ search_tells ns c.args.mark r c.self.invariant within found ∙ ap (λ (ms : List ℕ). has ms c.args.mark) c.self.view_is
