-- A payload without its own `_sd_alg` has the same digests, and misuses a reserved name where the payload does. Without
-- it once more it stays the same, and is a payload.
use Rattle.std.proofs.Common.{◌≡◌, Bool, true, false, ◌||◌, Some, bytes_eq, refl, sym, ap, ◌∙◌, subst, inl, inr}
use Rattle.std.specs.Prelude.{[], if◌then◌else◌, unwrap_or}
use Rattle.claim_tree.specs.Tree.{Text, Tree, leaf, text, array, object, Members, no_members, member, member_named, names, IsBeforeAll, IsOrdered, MembersOrdered}
use Rattle.sd_outside.specs.Lists.{In}
use Rattle.claim_tree.specs.Removed.{removed}
use Rattle.sd_outside.proofs.Lists.{bytes_same}
use Rattle.claim_tree.proofs.OtherMembers.{named_gone, removed_absent}
use Rattle.digest_sites.specs.Reserved.{sd_name, dots_name, sd_texts, text_list, misuses, members_misuse, is_ill_named}
use Rattle.rebuild_core.specs.Payload.{alg_name, without_alg}
use Rattle.rebuild_core.specs.Answer.{IsPayload}
use Rattle.marked_tree.proofs.Puts.{IsBeforeAll-not_in}

-- each member `_sd_alg` is a text
abbrev pub HasTextAlg : Members → Type 0
HasTextAlg no_members = Unit {0}
HasTextAlg (member name t ms) = (bytes_eq name alg_name ≡ true → (s : Text) × (t ≡ leaf (text s))) × HasTextAlg ms

no_alg : (ms : Members) → (In alg_name (names ms) → ⊥) → HasTextAlg ms
no_alg no_members h = tt
no_alg (member name t ms) h = ((λ e. absurd (h (inl (sym (bytes_same name alg_name e))))), no_alg ms (λ i. h (inr i)))

members_text_alg : (ms : Members) → MembersOrdered ms → ((t : Tree) → member_named ms alg_name ≡ Some t → (s : Text) × (t ≡ leaf (text s))) → HasTextAlg ms
members_text_alg no_members o h = tt
members_text_alg (member name t ms) o h = go (bytes_eq name alg_name) refl h (members_text_alg ms o.2)
  where
    go : (b : Bool) → bytes_eq name alg_name ≡ b → ((u : Tree) → (if b then Some t else member_named ms alg_name) ≡ Some u → (s : Text) × (u ≡ leaf (text s)))
        → (((u : Tree) → member_named ms alg_name ≡ Some u → (s : Text) × (u ≡ leaf (text s))) → HasTextAlg ms)
        → (bytes_eq name alg_name ≡ true → (s : Text) × (t ≡ leaf (text s))) × HasTextAlg ms
    go true e h ih = ((λ _. h t refl), no_alg ms (λ i. IsBeforeAll-not_in alg_name (names ms) (subst (λ z. IsBeforeAll z (names ms)) (bytes_same name alg_name e) o.0) i))
    go false e h ih = ((λ f. let z = sym e ∙ f in cc), ih h)

pub has_text_alg : (ms : Members) → IsOrdered (object ms) → IsPayload (object ms) → HasTextAlg ms
has_text_alg ms o h = members_text_alg ms o h

-- `_sd_alg` is neither `_sd` nor `...`
pub alg_is_not_sd : (name : Text) → bytes_eq name alg_name ≡ true → bytes_eq name sd_name ≡ false
unfolding alg_name sd_name
alg_is_not_sd name e = rw (bytes_same name alg_name e) refl

pub alg_is_not_dots : (name : Text) → bytes_eq name alg_name ≡ true → bytes_eq name dots_name ≡ false
unfolding alg_name dots_name
alg_is_not_dots name e = rw (bytes_same name alg_name e) refl

pub sd_texts_without : (ms : Members) → sd_texts (removed ms alg_name) ≡ sd_texts ms
sd_texts_without no_members = refl
sd_texts_without (member name t ms) = go (bytes_eq name alg_name) refl (sd_texts_without ms)
  where
    go : (b : Bool) → bytes_eq name alg_name ≡ b → sd_texts (removed ms alg_name) ≡ sd_texts ms
        → sd_texts (if b then removed ms alg_name else member name t (removed ms alg_name)) ≡ (if bytes_eq name sd_name then unwrap_or (text_list t) [] else sd_texts ms)
    go true e ih = rw (alg_is_not_sd name e) ih
    go false e ih = ap (λ ds. if bytes_eq name sd_name then unwrap_or (text_list t) [] else ds) ih

members_misuse_without : (ms : Members) → HasTextAlg ms → members_misuse (removed ms alg_name) ≡ members_misuse ms
members_misuse_without no_members h = refl
members_misuse_without (member name t ms) h = go (bytes_eq name alg_name) refl (members_misuse_without ms h.1)
  where
    go : (b : Bool) → bytes_eq name alg_name ≡ b → members_misuse (removed ms alg_name) ≡ members_misuse ms
        → members_misuse (if b then removed ms alg_name else member name t (removed ms alg_name)) ≡ (is_ill_named name t || misuses t || members_misuse ms)
    go true e ih = rw (alg_is_not_sd name e, alg_is_not_dots name e, (h.0 e).1) ih
    go false e ih = ap (λ b. is_ill_named name t || misuses t || b) ih

pub misuses_without : (t : Tree) → IsOrdered t → IsPayload t → misuses (without_alg t) ≡ misuses t
misuses_without (object ms) o h = members_misuse_without ms (has_text_alg ms o h)
misuses_without (leaf l) o h = elim h [ ]
misuses_without (array es) o h = elim h [ ]

-- ---- once more

pub without_twice : (t : Tree) → without_alg (without_alg t) ≡ without_alg t
without_twice (leaf l) = refl
without_twice (array es) = refl
without_twice (object ms) = ap object (removed_absent (removed ms alg_name) alg_name (named_gone ms alg_name))

pub without_is_payload : (t : Tree) → IsPayload t → IsPayload (without_alg t)
without_is_payload (object ms) h = λ t is. let gone = named_gone ms alg_name in cc
without_is_payload (leaf l) h = elim h [ ]
without_is_payload (array es) h = elim h [ ]
