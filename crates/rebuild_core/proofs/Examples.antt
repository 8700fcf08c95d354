-- Small payloads, opened: the definitions computed on closed values.
use Rattle.std.proofs.Common.{◌≡◌, ℕ, zero, suc, List, [], ◌∷◌, map, true, false, Some, None, pos, codes, refl}
use Rattle.claim_tree.specs.Tree.{Text, Tree, whole, text, leaf, array, object, no_elements, element, no_members, member}
use Rattle.digest_sites.specs.Reserved.{sd_name, dots_name, misuses}
use Rattle.digest_sites.specs.Given.{Given}
use Rattle.marked_tree.specs.Marked.{marked_leaf, marked_array, marked_object, no_marked_elements, marked_element, no_marked_members, marked_member, prune}
use Rattle.marked_tree.specs.Ways.{ways}
use Rattle.rebuild_core.specs.Payload.{alg_name}
use Rattle.rebuild_core.specs.Reached.{met, owned_digests, is_in_round, given_digests}
use Rattle.rebuild_core.specs.Opening.{processed}
use Rattle.rebuild_core.specs.Laws.{renumbered}
use Rattle.rebuild_core.specs.Rows.{SeenRow, all_rows, row_ends}
use Rattle.rebuild_core.specs.DigestNumbers.{numbers}
use Rattle.rebuild_core.specs.Graph.{pieces_at, is_met_in}

abbrev number : ℕ → Tree
number n = leaf (whole (pos n))

abbrev word : Text → Tree
word s = leaf (text s)

-- {"_sd":["A"],"_sd_alg":"sha-256","b":[{"...":"B"},5]}
abbrev payload : Tree
unfolding sd_name dots_name alg_name
payload =
    object (member (codes "_sd") (array (element (word (codes "A")) no_elements))
    (member (codes "b") (array (element (object (member (codes "...") (word (codes "B")) no_members)) (element (number 5) no_elements))) no_members))

-- x: {"_sd":["C"]}, an element 7, and y: 8
abbrev given : List Given
given =
    record { digest = codes "A"; name = Some (codes "x"); value = object (member (codes "_sd") (array (element (word (codes "C")) no_elements)) no_members) }
    ∷ record { digest = codes "B"; name = None; value = number 7 }
    ∷ record { digest = codes "C"; name = Some (codes "y"); value = number 8 } ∷ []

-- {"b":[7,5],"x":{"y":8}}
opens : processed payload given
    ≡ marked_object (marked_member (codes "b") None (marked_array (marked_element (Some 1) (marked_leaf (whole (pos 7))) (marked_element None (marked_leaf (whole (pos 5))) no_marked_elements)))
    (marked_member (codes "x") (Some 0) (marked_object (marked_member (codes "y") (Some 2) (marked_leaf (whole (pos 8))) no_marked_members)) no_marked_members))
unfolding sd_name dots_name alg_name
opens = refl

meets : owned_digests (met payload given) ≡ codes "A" ∷ codes "B" ∷ codes "C" ∷ []
unfolding sd_name dots_name alg_name
meets = refl

no_misuse : misuses payload ≡ false
unfolding sd_name dots_name alg_name
no_misuse = refl

-- a name that is taken, and a digest that leads to itself
abbrev round_trip : List Given
round_trip = record { digest = codes "Z"; name = Some (codes "z"); value = object (member (codes "_sd") (array (element (word (codes "Z")) no_elements)) no_members) } ∷ []

not_reached : is_in_round payload round_trip 1 (codes "Z") ≡ false
unfolding sd_name dots_name alg_name
not_reached = refl

-- without disclosure 2 and 1, disclosure 0 first and only
prunes : renumbered (0 ∷ []) (prune (processed payload given) (λ i. elim i [ zero ↦ true | suc j ↦ false ]))
    ≡ marked_object (marked_member (codes "b") None (marked_array (marked_element None (marked_leaf (whole (pos 5))) no_marked_elements)) (marked_member (codes "x") (Some 0) (marked_object no_marked_members) no_marked_members))
unfolding sd_name dots_name alg_name
prunes = refl

ways_are : ways (processed payload given) ≡ (1, []) ∷ (0, []) ∷ (2, 0 ∷ []) ∷ []
unfolding sd_name dots_name alg_name
ways_are = refl

-- the same, flat and by numbers
digests_are : map (λ (r : SeenRow). r.digest) (all_rows payload given) ≡ codes "A" ∷ codes "B" ∷ codes "C" ∷ []
unfolding sd_name dots_name alg_name
digests_are = refl

objects_are : map (λ (r : SeenRow). r.object) (all_rows payload given) ≡ 0 ∷ 1 ∷ 2 ∷ []
unfolding sd_name dots_name alg_name
objects_are = refl

ends_are : row_ends payload given ≡ 2 ∷ 3 ∷ 3 ∷ 3 ∷ []
unfolding sd_name dots_name alg_name
ends_are = refl

numbers_are : numbers (given_digests given) (codes "C" ∷ codes "Z" ∷ codes "B" ∷ codes "Z" ∷ []) ≡ 2 ∷ 3 ∷ 1 ∷ 3 ∷ []
numbers_are = refl

pieces_are : pieces_at 0 (2 ∷ 3 ∷ 3 ∷ 3 ∷ []) (0 ∷ 1 ∷ 2 ∷ []) ≡ (0 ∷ 1 ∷ []) ∷ (2 ∷ []) ∷ [] ∷ [] ∷ []
pieces_are = refl

reached_by_numbers : is_met_in (0 ∷ 1 ∷ []) ((2 ∷ []) ∷ [] ∷ [] ∷ []) 1 2 ≡ true
reached_by_numbers = refl
