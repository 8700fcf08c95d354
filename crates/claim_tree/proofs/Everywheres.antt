-- What is so of every part of a tree.
use Rattle.std.proofs.Common.{Ordering, Less, Equal, Greater}
use Rattle.std.specs.Cmp.Lexicographic.{slice_cmp}
use Rattle.std.specs.Ordering.{match_ordering, nat_cmp}
use Rattle.claim_tree.specs.Tree.{Text, Leaf, Tree, leaf, array, object, Elements, no_elements, element, Members, no_members, member, inserted}
use Rattle.claim_tree.specs.Everywhere.{Everywhere, InElements, InMembers}

-- of the elements and of the members, where only members are spoken of
abbrev pub EachMemberIn : (Text → Tree → Type 0) → Members → Type 0
EachMemberIn OfMember ms = InMembers (λ _. Unit {0}) (λ _. Unit {0}) OfMember ms

abbrev pub EachElementIn : (Text → Tree → Type 0) → Elements → Type 0
EachElementIn OfMember es = InElements (λ _. Unit {0}) (λ _. Unit {0}) OfMember es

module _ {P Q : Leaf → Type 0} {L M : Elements → Type 0} {N O : Text → Tree → Type 0}
    (leaves : (l : Leaf) → P l → Q l) (lists : (es : Elements) → L es → M es) (members : (name : Text) (t : Tree) → N name t → O name t) where
  mutual
    -- what follows of each part follows everywhere
    pub everywhere_else : (t : Tree) → Everywhere P L N t → Everywhere Q M O t
    everywhere_else (leaf l) h = leaves l h
    everywhere_else (array es) h = (lists es h.0, elements_else es h.1)
    everywhere_else (object ms) h = members_else ms h

    elements_else : (es : Elements) → InElements P L N es → InElements Q M O es
    elements_else no_elements h = tt
    elements_else (element t es) h = (everywhere_else t h.0, elements_else es h.1)

    members_else : (ms : Members) → InMembers P L N ms → InMembers Q M O ms
    members_else no_members h = tt
    members_else (member name t ms) h = (members name t h.0, everywhere_else t h.1, members_else ms h.2)

module _ (P : Leaf → Type 0) (L : Elements → Type 0) (N : Text → Tree → Type 0) where
  -- a member is put among others
  pub inserted_everywhere : (ms : Members) (name : Text) (t : Tree) → N name t → Everywhere P L N t → InMembers P L N ms → InMembers P L N (inserted ms name t)
  inserted_everywhere no_members name t n h k = (n, h, tt)
  inserted_everywhere (member l u ms) name t n h k = go (slice_cmp nat_cmp l name) (inserted_everywhere ms name t n h k.2)
    where
      go : (o : Ordering) → InMembers P L N (inserted ms name t) → InMembers P L N (match_ordering o (member l u (inserted ms name t)) (member name t ms) (member name t (member l u ms)))
      go Less ih = (k.0, k.1, ih)
      go Equal ih = (n, h, k.2)
      go Greater ih = (n, h, k)
