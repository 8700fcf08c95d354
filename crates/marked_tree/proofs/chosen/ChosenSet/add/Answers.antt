use Rattle.std.proofs.Common.{◌≡◌, ℕ, ◌<◌, List, Err, length, Equal, nat_cmp, get_or, ap, sym, subst, ◌∙◌}
use Rattle.std.specs.BTreeSet.{insert_key}
use Rattle.std.specs.List.Sorted.{IsSearchInRange, IsBinarySearchResult}
use Rattle.marked_tree.specs.Numbers.{has, IsRising}
use Rattle.marked_tree.proofs.NumberSets.{has-inserted}
use Rattle.marked_tree.proofs.RisingSearch.{place_of, put_at, put_there, rising_inserted, same}
use Rattle.marked_tree.proofs.chosen.ChosenSet.add.Goals.{In_ok-insert, In_default}
use Rattle.marked_tree.proofs.chosen.ChosenSet.add.Goals as goal

inserted : (c : In_ok-insert) → c.insert.new.self.items ≡ insert_key nat_cmp c.self.inside.marks.items c.args.mark
inserted c =
    let ns = c.self.inside.marks.items in
    let i = c.in-Err.position in
    let within = subst (λ (ms : List ℕ). IsSearchInRange (Err i) (length ms)) c.deref.ensures.value c.in-Err.ensures.bound in
    let found = subst (λ (ms : List ℕ). IsBinarySearchResult (λ (m : ℕ). nat_cmp m c.args.mark) ms (Err i)) c.deref.ensures.value c.in-Err.ensures.position in
    c.in_ok-insert.ensures.items ∙ put_at ns c.args.mark i (place_of ns c.args.mark i c.self.invariant within found)

kept : (c : In_default) → insert_key nat_cmp c.self.inside.marks.items c.args.mark ≡ c.self.inside.marks.items
kept c =
    let ns = c.self.inside.marks.items in
    let i = c.in_default.field-0 in
    let within = subst (λ (ms : List ℕ). i < length ms) c.deref.ensures.value c.in_default.ensures.bound in
    let found = subst (λ (ms : List ℕ). nat_cmp (get_or ms i 0) c.args.mark ≡ Equal) c.deref.ensures.value (c.in_default.ensures.position 0) in
    put_there ns c.args.mark i 0 c.self.invariant within (same (get_or ns i 0) c.args.mark found)

pub invariant_of-self : goal.invariant_of-self
invariant_of-self c = subst IsRising (sym (inserted c)) (rising_inserted c.self.inside.marks.items c.args.mark c.self.invariant)

pub returns-in_ok-insert-clause-ok : goal.returns-in_ok-insert-clause-ok
returns-in_ok-insert-clause-ok c = inserted c ∙ ap (λ (ns : List ℕ). insert_key nat_cmp ns c.args.mark) c.self.view_is

pub returns-in_ok-insert-clause-has : goal.returns-in_ok-insert-clause-has
returns-in_ok-insert-clause-has c i =
    ap (λ (ns : List ℕ). has ns i) (inserted c ∙ ap (λ (ns : List ℕ). insert_key nat_cmp ns c.args.mark) c.self.view_is)
    ∙ has-inserted c.args.self.now c.args.mark i

pub returns-in_default-clause-ok : goal.returns-in_default-clause-ok
returns-in_default-clause-ok c = sym (ap (λ (ns : List ℕ). insert_key nat_cmp ns c.args.mark) (sym c.self.view_is) ∙ kept c ∙ c.self.view_is)

pub returns-in_default-clause-has : goal.returns-in_default-clause-has
returns-in_default-clause-has c i =
    ap (λ (ns : List ℕ). has ns i) (sym (ap (λ (ns : List ℕ). insert_key nat_cmp ns c.args.mark) (sym c.self.view_is) ∙ kept c ∙ c.self.view_is))
    ∙ has-inserted c.args.self.now c.args.mark i
