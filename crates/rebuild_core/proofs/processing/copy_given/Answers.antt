use Rattle.std.proofs.Common.{◌≡◌, ℕ, zero, suc, ◌+◌, ◌<◌, ◌≤◌, List, [], ◌∷◌, ◌++◌, map, length, get_or, take, add-one, inl, inr, Option, refl, sym, ap, ◌∙◌, subst, arith}
use Rattle.std.proofs.lemmas.List.{map-append, take_all}
use Rattle.std.proofs.Math.Seq.{take-suc}
use Rattle.claim_tree.specs.Tree.{Text, Tree, depth}
use Rattle.sd_outside.specs.Lists.{In}
use Rattle.claim_tree.specs.View.{tree_of}
use Rattle.sd_outside.proofs.Lists.{In-map}
use Rattle.digest_sites.specs.Given.{Given as Seen}
use Rattle.digest_sites.specs.GivenView.{given_of}
use Rattle.digest_sites.specs.declared.given.Given.{Given}
use Rattle.rebuild_core.specs.Answer.{ValuesShallow}
use Rattle.rebuild_core.proofs.processing.copy_given.Goals as goal

item_among : (xs : List Given) (i : ℕ) (x : Given) → i < length xs → x ≡ get_or xs i x → In x xs
item_among [] i x l e = absurd (omega arith)
item_among (y ∷ xs) zero x l e = inl e
item_among (y ∷ xs) (suc i) x l e = inr (item_among xs i x (omega arith) e)

item_shallow : (xs : List Given) (g : List Seen) (i : ℕ) (x : Given) → i < length xs → x ≡ get_or xs i x → map given_of xs ≡ g → ValuesShallow g → depth (tree_of x.value) ≤ 127
item_shallow xs g i x l e same shallow = shallow (given_of x) (subst (In (given_of x)) same (In-map given_of x xs (item_among xs i x l e)))

one_more : (xs : List Given) (i : ℕ) (x : Given) (digest : Text) (name : Option Text) (value : Tree) → i < length xs → x ≡ get_or xs i x
    → digest ≡ x.digest → name ≡ x.name → value ≡ tree_of x.value
    → map given_of (take i xs) ++ record { digest = digest; name = name; value = value } ∷ [] ≡ map given_of (take (i + 1) xs)
one_more xs i x digest name value l e a b v =
    let front : take (i + 1) xs ≡ take i xs ++ x ∷ [] = rw add-one (take-suc xs i x l ∙ ap (λ w. take i xs ++ w ∷ []) (sym e)) in
    let y : Seen = record { digest = digest; name = name; value = value } in
    let same : y ≡ given_of x = rw (a, b, v) refl in
    ap (λ (w : Seen). map given_of (take i xs) ++ w ∷ []) same ∙ sym (map-append given_of (take i xs) (x ∷ [])) ∙ ap (map given_of) (sym front)

pub copy-requires : goal.copy-requires
copy-requires c = item_shallow c.items-item-items.result.now _ c.loop-item.item-index c.item-item.result c.loop-item-test.true c.item-item.is c.items-item-items.ensures c.requires

pub loop-item-preserved : goal.loop-item-preserved
loop-item-preserved c =
    c.in_ok-push.ensures.ok ∙ ap (λ (g : List Seen). g ++ record { digest = c.in_ok-make.field-0; name = c.in_ok-copy_text.field-0; value = tree_of c.in_ok-copy.field-0 } ∷ []) c.loop-item.invariant
    ∙ one_more c.items-item-items.result.now c.loop-item.item-index c.item-item.result _ _ _ c.loop-item-test.true c.item-item.is
    (c.in_ok-make.ensures ∙ c.as_str.ensures) c.in_ok-copy_text.ensures c.in_ok-copy.ensures.ok

pub returns : goal.returns
returns c = c.loop-item.invariant ∙ ap (map given_of) (take_all c.loop-item.item-index c.items-item-items.result.now c.loop-item-test.false) ∙ c.items-item-items.ensures
