-- An order, and what is laid for it: the definitions computed, and the premises of the laws met.
use Rattle.std.proofs.Common.{◌≡◌, ℕ, ◌+◌, List, [], ◌∷◌, None, Some, arith, codes, inl, inr, length, map, pos, refl, subst, sym}
use Rattle.std.specs.Fmt.{digits}
use Rattle.issuer_core.specs.declared.order.Decoy.{Decoy}
use Rattle.sd_outside.specs.Lists.{In}
use Rattle.claim_tree.specs.Path.{tree_at}
use Rattle.claim_tree.specs.Tree.{IsRanged, Text, Tree, array, element, leaf, member, no_elements, no_members, object, text, whole}
use Rattle.disclosure.specs.declared.digests.HashAlg.{HashAlg}
use Rattle.digest_sites.specs.Given.{Given}
use Rattle.digest_sites.specs.Reserved.{dots_name, sd_name}
use Rattle.marked_tree.specs.Marked.{marked_array, marked_element, marked_leaf, marked_member, marked_object, no_marked_elements, no_marked_members}
use Rattle.marked_tree.specs.Paths.{mark_path}
use Rattle.rebuild_core.specs.Soundness.{IsSound}
use Rattle.rebuild_core.specs.Payload.{alg_name}
use Rattle.issuer_core.specs.Decoys.{decoys_of}
use Rattle.issuer_core.specs.Digests.{Maker, hidden_of, marked_claims}
use Rattle.issuer_core.specs.IssueCalls.{AllDiffer}
use Rattle.issuer_core.specs.GoodOrder.{HoldsOthers, IsGoodOrder}
use Rattle.issuer_core.specs.ShortLists.{HasShortLists}
use Rattle.issuer_core.specs.Issued.{IsIssuedFor}
use Rattle.issuer_core.specs.Laid.{IsLaid, laid_given, lay, order_decoys}
use Rattle.issuer_core.specs.Order.{Order}
use Rattle.issuer_core.proofs.IssuedSound.{issued_is_sound_holds}
use Rattle.issuer_core.proofs.LaidDecoys.{laid_is_issued_holds}

abbrev number : ℕ → Tree
number n = leaf (whole (pos n))

-- {"a":1,"b":{"c":2,"d":3},"l":[4,5]}, where /a, /b, /b/c and /l/0 are hidden, /a twice, with a decoy at the top, one at /b and two at /l
abbrev order : Order
order = record {
  payload = object (member (codes "a") (number 1)
      (member (codes "b") (object (member (codes "c") (number 2) (member (codes "d") (number 3) no_members)))
      (member (codes "l") (array (element (number 4) (element (number 5) no_elements))) no_members)));
  hide = (codes "b" ∷ []) ∷ (codes "b" ∷ codes "c" ∷ []) ∷ (codes "a" ∷ []) ∷ (codes "l" ∷ codes "0" ∷ []) ∷ (codes "a" ∷ []) ∷ [];
  decoys = record { at = []; count = 1 } ∷ record { at = codes "b" ∷ []; count = 1 } ∷ record { at = codes "l" ∷ []; count = 2 } ∷ [];
  kid = None;
  typ = None;
  hash = HashAlg.Sha384;
}

-- a digest for each number
abbrev digests : ℕ → Text
digests k = 68 ∷ k ∷ []

abbrev maker : Maker
maker = record { disclosure = λ k name v. digests k; piece = digests; digest = λ hash t. t }

marks_are : marked_claims order
    ≡ marked_object (marked_member (codes "a") (Some 0) (marked_leaf (whole (pos 1)))
    (marked_member (codes "b") (Some 2) (marked_object (marked_member (codes "c") (Some 1) (marked_leaf (whole (pos 2))) (marked_member (codes "d") None (marked_leaf (whole (pos 3))) no_marked_members)))
    (marked_member (codes "l") None (marked_array (marked_element (Some 3) (marked_leaf (whole (pos 4))) (marked_element None (marked_leaf (whole (pos 5))) no_marked_elements))) no_marked_members)))
unfolding digits
marks_are = refl

hidden_are : hidden_of order ≡ 4
unfolding digits
hidden_are = refl

place_is : mark_path (marked_claims order) 1 ≡ Some (codes "b" ∷ codes "c" ∷ [])
unfolding digits
place_is = refl

abbrev payload : Tree
payload = lay (order_decoys order digests) digests (marked_claims order)

abbrev given : List Given
given = laid_given (order_decoys order digests) digests (marked_claims order)

abbrev word : ℕ → Tree
word k = leaf (text (digests k))

abbrev dots : ℕ → Tree
dots k = object (member (codes "...") (word k) no_members)

-- {"_sd":[#0,#2,#4],"l":[{"...":#3},5,{"...":#6},{"...":#7}]}
payload_is : payload
    ≡ object (member (codes "_sd") (array (element (word 0) (element (word 2) (element (word 4) no_elements))))
    (member (codes "l") (array (element (dots 3) (element (number 5) (element (dots 6) (element (dots 7) no_elements))))) no_members))
unfolding sd_name dots_name digits
payload_is = refl

-- the value of /b is {"_sd":[#1,#5],"d":3}
given_are : map (λ (x : Given). x.value) given
    ≡ number 1 ∷ number 2 ∷ object (member (codes "_sd") (array (element (word 1) (element (word 5) no_elements))) (member (codes "d") (number 3) no_members)) ∷ number 4 ∷ []
unfolding sd_name dots_name digits
given_are = refl

good : IsGoodOrder order
unfolding sd_name dots_name alg_name
good = record {
  is_object = tt;
  no_reserved = ((refl, refl, refl), tt, ((refl, refl, refl), ((refl, refl, refl), tt, ((refl, refl, refl), tt, tt)), ((refl, refl, refl), (tt, (tt, (tt, tt))), tt)));
  shallow = omega arith;
  decoys_held = λ entry m. held entry m;
  ordered = ((refl, (refl, tt)), tt, ((refl, tt), ((refl, tt), tt, (tt, tt, tt)), (tt, (tt, (tt, tt)), tt)));
}
  where
    held : (entry : Decoy) → In entry order.decoys → HoldsOthers (tree_at order.payload entry.at)
    held entry (inl e) = subst (λ (z : Decoy). HoldsOthers (tree_at order.payload z.at)) (sym e) tt
    held entry (inr (inl e)) = subst (λ (z : Decoy). HoldsOthers (tree_at order.payload z.at)) (sym e) tt
    held entry (inr (inr (inl e))) = subst (λ (z : Decoy). HoldsOthers (tree_at order.payload z.at)) (sym e) tt
    held entry (inr (inr (inr m))) = elim m [ ]

ranged : IsRanged order.payload
ranged = (omega arith, ((omega arith, (omega arith, tt)), ((omega arith, (omega arith, tt)), tt)))

short : HasShortLists order.payload
short = (tt, tt, (tt, (tt, tt, (tt, tt, tt)), (tt, (omega arith, (tt, (tt, tt))), tt)))

laid : IsLaid maker order payload given digests
laid = record { payload_laid = refl; given_laid = refl; disclosures = λ k x a. refl; decoys = λ d l. refl }

differ : (n : ℕ) → AllDiffer digests n
differ n i j l b e = let same : i ≡ j = cc in omega (arith, l, same)

issued : IsIssuedFor maker order payload given
issued = laid_is_issued_holds maker order payload given digests good ranged short laid (differ (hidden_of order + length (decoys_of order)))

-- the premises of the laws can be met
sound : IsSound payload given
sound = issued_is_sound_holds maker order payload given good issued
