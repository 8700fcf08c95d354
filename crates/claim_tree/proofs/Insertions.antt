-- The order in which members are put is no matter.
use Rattle.std.proofs.Common.{◌≡◌, Ordering, Less, Equal, Greater, refl, sym, ap, subst, ◌∙◌}
use Rattle.std.specs.Ordering.{ordering_reverse}
use Rattle.claim_tree.specs.Tree.{Text, Tree, Members, no_members, member, inserted, IsBefore}
use Rattle.claim_tree.proofs.MapPlaces.{cmp, order, same_name, before_after, after_before}

passes : (k : Text) (u : Tree) (ms : Members) (name : Text) (t : Tree) → IsBefore k name → inserted (member k u ms) name t ≡ member k u (inserted ms name t)
passes k u ms name t e = rw e refl

takes : (k : Text) (u : Tree) (ms : Members) (name : Text) (t : Tree) → cmp k name ≡ Equal → inserted (member k u ms) name t ≡ member name t ms
takes k u ms name t e = rw e refl

stands : (k : Text) (u : Tree) (ms : Members) (name : Text) (t : Tree) → IsBefore name k → inserted (member k u ms) name t ≡ member name t (member k u ms)
stands k u ms name t l = let e : cmp k name ≡ Greater = after_before name k l in rw e refl

stands_first : (a b k : Text) (x y v : Tree) (ms : Members) → IsBefore a b → IsBefore a k → inserted (inserted (member k v ms) b y) a x ≡ member a x (inserted (member k v ms) b y)
stands_first a b k x y v ms l m = go (cmp k b) refl
  where
    go : (o : Ordering) → cmp k b ≡ o → inserted (inserted (member k v ms) b y) a x ≡ member a x (inserted (member k v ms) b y)
    go Less e = let is = passes k v ms b y e in rw is (stands k v (inserted ms b y) a x m)
    go Equal e = let is = takes k v ms b y e in rw is (stands b y ms a x l)
    go Greater e = let is = stands k v ms b y (before_after k b e) in rw is (stands b y (member k v ms) a x l)

swaps_up : (a b : Text) (x y : Tree) → IsBefore a b → (ms : Members) → inserted (inserted ms a x) b y ≡ inserted (inserted ms b y) a x
swaps_up a b x y l no_members = passes a x no_members b y l ∙ sym (stands b y no_members a x l)
swaps_up a b x y l (member k v ms) = go (cmp k a) refl (swaps_up a b x y l ms)
  where
    go : (o : Ordering) → cmp k a ≡ o → inserted (inserted ms a x) b y ≡ inserted (inserted ms b y) a x → inserted (inserted (member k v ms) a x) b y ≡ inserted (inserted (member k v ms) b y) a x
    go Less e ih =
        let d : IsBefore k b = (order).trans k a b e l in
        ap (λ ns. inserted ns b y) (passes k v ms a x e) ∙ passes k v (inserted ms a x) b y d ∙ ap (member k v) ih
        ∙ sym (ap (λ ns. inserted ns a x) (passes k v ms b y d) ∙ passes k v (inserted ms b y) a x e)
    go Equal e ih =
        let d : IsBefore k b = subst (λ n. IsBefore n b) (sym (same_name k a e)) l in
        ap (λ ns. inserted ns b y) (takes k v ms a x e) ∙ passes a x ms b y l
        ∙ sym (ap (λ ns. inserted ns a x) (passes k v ms b y d) ∙ takes k v (inserted ms b y) a x e)
    go Greater e ih =
        let m : IsBefore a k = before_after k a e in
        ap (λ ns. inserted ns b y) (stands k v ms a x m) ∙ passes a x (member k v ms) b y l ∙ sym (stands_first a b k x y v ms l m)

-- members of two names change places
pub inserted-swap : (a b : Text) (x y : Tree) (ms : Members) → (a ≡ b → ⊥) → inserted (inserted ms a x) b y ≡ inserted (inserted ms b y) a x
inserted-swap a b x y ms differ = go (cmp a b) refl
  where
    go : (o : Ordering) → cmp a b ≡ o → inserted (inserted ms a x) b y ≡ inserted (inserted ms b y) a x
    go Less e = swaps_up a b x y e ms
    go Equal e = absurd (differ (same_name a b e))
    go Greater e = sym (swaps_up b a y x (before_after a b e) ms)

own_order : (a : Text) → cmp a a ≡ Equal
own_order a = go (cmp a a) refl
  where
    go : (o : Ordering) → cmp a a ≡ o → cmp a a ≡ Equal
    go Less e = let turned = (order).antisymm a a in let both : Less ≡ Greater = sym e ∙ turned ∙ ap ordering_reverse e in cc
    go Equal e = e
    go Greater e = let turned = (order).antisymm a a in let both : Greater ≡ Less = sym e ∙ turned ∙ ap ordering_reverse e in cc

-- a member that is put a second time changes nothing
pub inserted-again : (a : Text) (x : Tree) (ms : Members) → inserted (inserted ms a x) a x ≡ inserted ms a x
inserted-again a x no_members = takes a x no_members a x (own_order a)
inserted-again a x (member k v ms) = go (cmp k a) refl (inserted-again a x ms)
  where
    go : (o : Ordering) → cmp k a ≡ o → inserted (inserted ms a x) a x ≡ inserted ms a x → inserted (inserted (member k v ms) a x) a x ≡ inserted (member k v ms) a x
    go Less e ih = let is = passes k v ms a x e in rw is (passes k v (inserted ms a x) a x e ∙ ap (member k v) ih)
    go Equal e ih = let is = takes k v ms a x e in rw is (takes a x ms a x (own_order a))
    go Greater e ih = let is = stands k v ms a x (before_after k a e) in rw is (takes a x (member k v ms) a x (own_order a))
