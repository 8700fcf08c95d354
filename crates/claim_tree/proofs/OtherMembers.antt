-- Members that are put in or taken out, and the others.
use Rattle.std.proofs.Common.{◌≡◌, max, ◌≤◌, Bool, true, false, Option, Some, None, Ordering, Less, Equal, Greater, refl, sym, ap, ◌∙◌, arith}
use Rattle.std.specs.Prelude.{bytes_eq, if◌then◌else◌}
use Rattle.std.specs.Ordering.{match_ordering, is_eq}
use Rattle.std.proofs.lemmas.Map.Text.{is_eq-slice_cmp}
use Rattle.std.proofs.lemmas.Slice.Eq.{bytes_eq-Decides}
use Rattle.claim_tree.specs.Tree.{Text, Tree, depth, Members, no_members, member, members_depth, MembersRanged, inserted, member_named}
use Rattle.claim_tree.specs.Removed.{removed}
use Rattle.sd_outside.proofs.Lists.{bytes_refl}
use Rattle.claim_tree.proofs.MapPlaces.{cmp, of_either}

-- names in an order are one exactly where they tie
tied : (a b : Text) (o : Ordering) → cmp a b ≡ o → bytes_eq a b ≡ is_eq o
tied a b o e = sym (is_eq-slice_cmp a b) ∙ ap is_eq e

-- what is one with a name differs where the name does
differs : (a b other : Text) → bytes_eq a b ≡ true → bytes_eq b other ≡ false → bytes_eq a other ≡ false
differs a b other same apart = ap (λ (name : Text). bytes_eq name other) ((bytes_eq-Decides a b).0 same) ∙ apart

-- ---- taken out

pub named_other : (ms : Members) (name other : Text) → bytes_eq name other ≡ false → member_named (removed ms name) other ≡ member_named ms other
named_other no_members name other apart = refl
named_other (member k t ms) name other apart = go (bytes_eq k name) refl (named_other ms name other apart)
  where
    go : (b : Bool) → bytes_eq k name ≡ b → member_named (removed ms name) other ≡ member_named ms other
        → member_named (if b then removed ms name else member k t (removed ms name)) other ≡ (if bytes_eq k other then Some t else member_named ms other)
    go true e ih = rw (differs k name other e apart) ih
    go false e ih = ap (λ o. if bytes_eq k other then Some t else o) ih

pub named_gone : (ms : Members) (name : Text) → member_named (removed ms name) name ≡ None
named_gone no_members name = refl
named_gone (member k t ms) name = go (bytes_eq k name) refl (named_gone ms name)
  where
    go : (b : Bool) → bytes_eq k name ≡ b → member_named (removed ms name) name ≡ None → member_named (if b then removed ms name else member k t (removed ms name)) name ≡ None
    go true e ih = ih
    go false e ih = rw e ih

pub removed_absent : (ms : Members) (name : Text) → member_named ms name ≡ None → removed ms name ≡ ms
removed_absent no_members name none = refl
removed_absent (member k t ms) name none = go (bytes_eq k name) none (removed_absent ms name)
  where
    go : (b : Bool) → (if b then Some t else member_named ms name) ≡ None → (member_named ms name ≡ None → removed ms name ≡ ms)
        → (if b then removed ms name else member k t (removed ms name)) ≡ member k t ms
    go true e ih = cc e
    go false e ih = ap (member k t) (ih e)

pub ranged-removed : (ms : Members) (name : Text) → MembersRanged ms → MembersRanged (removed ms name)
ranged-removed no_members name ranged = tt
ranged-removed (member k t ms) name ranged = let ih = ranged-removed ms name ranged.1 in of_either MembersRanged (bytes_eq k name) _ _ ih (ranged.0, ih)

pub depth-removed : (ms : Members) (name : Text) → members_depth (removed ms name) ≤ members_depth ms
depth-removed no_members name = omega arith
depth-removed (member k t ms) name = let ih = depth-removed ms name in of_either (λ ns. members_depth ns ≤ max (depth t) (members_depth ms)) (bytes_eq k name) _ _ (omega (arith, ih)) (omega (arith, ih))

-- ---- found

pub depth-member_named : (ms : Members) (name : Text) (u : Tree) → member_named ms name ≡ Some u → depth u ≤ members_depth ms
depth-member_named no_members name u e = cc e
depth-member_named (member k t ms) name u e = go (bytes_eq k name) e (depth-member_named ms name u)
  where
    go : (b : Bool) → (if b then Some t else member_named ms name) ≡ Some u → (member_named ms name ≡ Some u → depth u ≤ members_depth ms) → depth u ≤ max (depth t) (members_depth ms)
    go true found ih = let same : t ≡ u = cc found in omega (arith, ap depth same)
    go false found ih = omega (arith, ih found)

-- ---- put in

-- the member that is put in is there
pub named_inserted : (ms : Members) (name : Text) (t : Tree) → member_named (inserted ms name t) name ≡ Some t
named_inserted no_members name t = rw (bytes_refl name name refl) refl
named_inserted (member k u ms) name t = go (cmp k name) refl (named_inserted ms name t)
  where
    go : (o : Ordering) → cmp k name ≡ o → member_named (inserted ms name t) name ≡ Some t
        → member_named (match_ordering o (member k u (inserted ms name t)) (member name t ms) (member name t (member k u ms))) name ≡ Some t
    go Less e ih = rw (tied k name Less e) ih
    go Equal e ih = rw (bytes_refl name name refl) refl
    go Greater e ih = rw (bytes_refl name name refl) refl

-- and the others are as before
pub other_inserted : (ms : Members) (name : Text) (t : Tree) (other : Text) → bytes_eq name other ≡ false → member_named (inserted ms name t) other ≡ member_named ms other
other_inserted no_members name t other apart = rw apart refl
other_inserted (member k u ms) name t other apart = go (cmp k name) refl (other_inserted ms name t other apart)
  where
    go : (o : Ordering) → cmp k name ≡ o → member_named (inserted ms name t) other ≡ member_named ms other
        → member_named (match_ordering o (member k u (inserted ms name t)) (member name t ms) (member name t (member k u ms))) other ≡ (if bytes_eq k other then Some u else member_named ms other)
    go Less e ih = ap (λ o. if bytes_eq k other then Some u else o) ih
    go Equal e ih = rw (apart, differs k name other (tied k name Equal e) apart) refl
    go Greater e ih = rw apart refl

clash : (b : Bool) (t : Tree) (rest : Option Tree) → b ≡ true → (if b then Some t else rest) ≡ None → ⊥
clash true t rest e none = cc none
clash false t rest e none = cc e

-- a new member that is taken out again leaves the others
pub removed_inserted : (ms : Members) (name : Text) (t : Tree) → member_named ms name ≡ None → removed (inserted ms name t) name ≡ ms
removed_inserted no_members name t none = rw (bytes_refl name name refl) refl
removed_inserted (member k u ms) name t none = go (cmp k name) refl (removed_inserted ms name t)
  where
    later : bytes_eq k name ≡ false → member_named ms name ≡ None
    later apart = rw apart at none

    go : (o : Ordering) → cmp k name ≡ o → (member_named ms name ≡ None → removed (inserted ms name t) name ≡ ms)
        → removed (match_ordering o (member k u (inserted ms name t)) (member name t ms) (member name t (member k u ms))) name ≡ member k u ms
    go Less e ih = let apart : bytes_eq k name ≡ false = tied k name Less e in rw apart (ap (member k u) (ih (later apart)))
    go Equal e ih = absurd (clash (bytes_eq k name) u (member_named ms name) (tied k name Equal e) none)
    go Greater e ih = rw (bytes_refl name name refl) (removed_absent (member k u ms) name none)

pub depth-inserted : (ms : Members) (name : Text) (t : Tree) → members_depth (inserted ms name t) ≤ max (depth t) (members_depth ms)
depth-inserted no_members name t = omega arith
depth-inserted (member k u ms) name t = go (cmp k name) (depth-inserted ms name t)
  where
    go : (o : Ordering) → members_depth (inserted ms name t) ≤ max (depth t) (members_depth ms)
        → members_depth (match_ordering o (member k u (inserted ms name t)) (member name t ms) (member name t (member k u ms))) ≤ max (depth t) (max (depth u) (members_depth ms))
    go Less ih = omega (arith, ih)
    go Equal ih = omega arith
    go Greater ih = omega arith
