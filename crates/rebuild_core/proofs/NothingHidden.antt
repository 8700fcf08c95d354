-- Where nothing is hidden and nothing is given: no condition but the last can fail, and the payload opens to itself.
use Rattle.std.proofs.Common.{◌≡◌, ℕ, zero, suc, ◌≤◌, ◌<◌, ◌-◌, ◌^◌, List, [], Bool, true, false, None, refl, sym, ap, ap₂, ◌∙◌, subst, arith}
use Rattle.std.specs.Prelude.{bytes_eq, if◌then◌else◌, Result, Ok, Err, IfOk, IfErr, MatchResult}
use Rattle.std.proofs.lemmas.Bool.{not-true, and_parts}
use Rattle.claim_tree.specs.Tree.{Text, Tree, leaf, array, object, Elements, no_elements, element, Members, no_members, member, depth, members_depth}
use Rattle.claim_tree.specs.EveryMember.{elements_pass, members_pass}
use Rattle.claim_tree.specs.View.{tree_of}
use Rattle.claim_tree.specs.declared.tree.Tree as code
use Rattle.claim_tree.specs.Removed.{removed}
use Rattle.sd_outside.specs.Lists.{StandsAt, Repeats}
use Rattle.digest_sites.specs.Reserved.{sd_name, dots_name, sd_texts, element_digest, misuses, elements_misuse, members_misuse}
use Rattle.digest_sites.specs.Sites.{sites, element_sites, member_sites}
use Rattle.marked_tree.specs.Marked.{strip, strip_elements, strip_members}
use Rattle.rebuild_core.specs.Payload.{alg_name, without_alg}
use Rattle.rebuild_core.specs.Reached.{OwnedSite, met, owned_digests}
use Rattle.rebuild_core.specs.LookUps.{look_ups, counted}
use Rattle.rebuild_core.specs.Opening.{Shown, reveal, open_tree, open_elements, open_members, processed}
use Rattle.rebuild_core.specs.Answer.{IsProcessRefused}
use Rattle.rebuild_core.specs.declared.errors.ProcessError.{ProcessError}
use Rattle.rebuild_core.specs.declared.errors.ProcessError.TheVariants.{TooDeep}
use Rattle.rebuild_core.specs.Conditions.{IsTooDeep, Misused}
use Rattle.rebuild_core.specs.Soundness.{IsSound, IsReferencedOnce, IsWellNamed}
use Rattle.rebuild_core.specs.Unhidden.{is_unhidden_member, is_unhidden}

abbrev elements_unhidden : Elements → Bool
elements_unhidden es = elements_pass is_unhidden_member es

abbrev members_unhidden : Members → Bool
members_unhidden ms = members_pass is_unhidden_member ms

name_is_free : (name : Text) (t : Tree) → is_unhidden_member name t ≡ true → (bytes_eq name sd_name ≡ false) × (bytes_eq name dots_name ≡ false)
name_is_free name t h = let s = and_parts _ _ h in (not-true _ s.0, not-true _ s.1)

-- ---- no digest stands in it

no_sd : (ms : Members) → members_unhidden ms ≡ true → sd_texts ms ≡ []
no_sd no_members h = refl
no_sd (member name t ms) h =
    let s = and_parts _ _ h in
    let r = and_parts _ _ s.1 in
    rw (name_is_free name t s.0).0 (no_sd ms r.1)

no_digest : (t : Tree) → is_unhidden t ≡ true → element_digest t ≡ None
no_digest (leaf l) h = refl
no_digest (array es) h = refl
no_digest (object no_members) h = refl
no_digest (object (member name t no_members)) h = let s = and_parts _ _ h in rw (name_is_free name t s.0).1 refl
no_digest (object (member name t (member other u ms))) h = refl

mutual
  pub unhidden_opens : (r : Text → Shown) (t : Tree) → is_unhidden t ≡ true → strip (open_tree r t) ≡ t
  unhidden_opens r (leaf l) h = refl
  unhidden_opens r (array es) h = ap array (elements_open r es h)
  unhidden_opens r (object ms) h = rw (no_sd ms h) (ap object (members_open r ms h))

  elements_open : (r : Text → Shown) (es : Elements) → elements_unhidden es ≡ true → strip_elements (open_elements r es) ≡ es
  elements_open r no_elements h = refl
  elements_open r (element t es) h =
      let s = and_parts _ _ h in
      rw (no_digest t s.0) (ap₂ element (unhidden_opens r t s.0) (elements_open r es s.1))

  members_open : (r : Text → Shown) (ms : Members) → members_unhidden ms ≡ true → strip_members (open_members r ms) ≡ ms
  members_open r no_members h = refl
  members_open r (member name t ms) h =
      let s = and_parts _ _ h in
      let q = and_parts _ _ s.1 in
      rw (name_is_free name t s.0).0 (ap₂ (member name) (unhidden_opens r t q.0) (members_open r ms q.1))

mutual
  pub unhidden_sites : (t : Tree) → is_unhidden t ≡ true → sites t ≡ []
  unhidden_sites (leaf l) h = refl
  unhidden_sites (array es) h = no_element_sites 0 es h
  unhidden_sites (object ms) h = rw (no_sd ms h) (no_member_sites ms h)

  no_element_sites : (i : ℕ) (es : Elements) → elements_unhidden es ≡ true → element_sites i es ≡ []
  no_element_sites i no_elements h = refl
  no_element_sites i (element t es) h =
      let s = and_parts _ _ h in
      rw (no_digest t s.0) (rw (unhidden_sites t s.0) (no_element_sites (suc i) es s.1))

  no_member_sites : (ms : Members) → members_unhidden ms ≡ true → member_sites ms ≡ []
  no_member_sites no_members h = refl
  no_member_sites (member name t ms) h =
      let s = and_parts _ _ h in
      let q = and_parts _ _ s.1 in
      rw (name_is_free name t s.0).0 (rw (unhidden_sites t q.0) (no_member_sites ms q.1))

mutual
  pub unhidden_misuses : (t : Tree) → is_unhidden t ≡ true → misuses t ≡ false
  unhidden_misuses (leaf l) h = refl
  unhidden_misuses (array es) h = elements_misuse_not es h
  unhidden_misuses (object ms) h = members_misuse_not ms h

  elements_misuse_not : (es : Elements) → elements_unhidden es ≡ true → elements_misuse es ≡ false
  elements_misuse_not no_elements h = refl
  elements_misuse_not (element t es) h =
      let s = and_parts _ _ h in
      rw (no_digest t s.0) (rw (unhidden_misuses t s.0) (elements_misuse_not es s.1))

  members_misuse_not : (ms : Members) → members_unhidden ms ≡ true → members_misuse ms ≡ false
  members_misuse_not no_members h = refl
  members_misuse_not (member name t ms) h =
      let s = and_parts _ _ h in
      let q = and_parts _ _ s.1 in
      rw ((name_is_free name t s.0).0, (name_is_free name t s.0).1) (rw (unhidden_misuses t q.0) (members_misuse_not ms q.1))

-- ---- its own `_sd_alg`

without_shallow : (name : Text) (ms : Members) → members_depth (removed ms name) ≤ members_depth ms
without_shallow name no_members = omega arith
without_shallow name (member other t ms) = go (bytes_eq other name) (without_shallow name ms)
  where
    go : (b : Bool) → members_depth (removed ms name) ≤ members_depth ms
        → members_depth (if b then removed ms name else member other t (removed ms name)) ≤ members_depth (member other t ms)
    go true ih = omega (arith, ih)
    go false ih = omega (arith, ih)

pub without_alg_shallow : (t : Tree) → depth (without_alg t) ≤ depth t
without_alg_shallow (leaf l) = omega arith
without_alg_shallow (array es) = omega arith
without_alg_shallow (object ms) = let l = without_shallow alg_name ms in omega (arith, l)

without_unhidden : (name : Text) (ms : Members) → members_unhidden ms ≡ true → members_unhidden (removed ms name) ≡ true
without_unhidden name no_members h = refl
without_unhidden name (member other t ms) h =
    let s = and_parts _ _ h in
    let q = and_parts _ _ s.1 in
    go (bytes_eq other name) s.0 q.0 (without_unhidden name ms q.1)
  where
    go : (b : Bool) → is_unhidden_member other t ≡ true → is_unhidden t ≡ true → members_unhidden (removed ms name) ≡ true
        → members_unhidden (if b then removed ms name else member other t (removed ms name)) ≡ true
    go true n u ih = ih
    go false n u ih = rw (n, u) ih

pub without_alg_unhidden : (t : Tree) → is_unhidden t ≡ true → is_unhidden (without_alg t) ≡ true
without_alg_unhidden (leaf l) h = h
without_alg_unhidden (array es) h = h
without_alg_unhidden (object ms) h = without_unhidden alg_name ms h

-- ---- the conditions

module _ (p : Tree) (h : is_unhidden p ≡ true) where
  pub opens_to_itself : strip (processed p []) ≡ p
  opens_to_itself = unhidden_opens (reveal 1 []) p h

  pub none_looked_up : look_ups p [] ≡ 0
  none_looked_up = rw (unhidden_sites p h) refl

  none_met : met p [] ≡ []
  none_met = rw (unhidden_sites p h) refl

  none_misused : (i : ℕ) → Misused p [] i → ⊥
  none_misused zero m = let f = unhidden_misuses p h in cc
  none_misused (suc i) (x, there, m) = there

  pub unhidden_referenced : IsReferencedOnce p []
  unhidden_referenced = record {
    no_repeated_disclosure = λ i d. d.1;
    no_misuse = none_misused;
    no_repeated_digest = λ place d. (subst (λ (ms : List OwnedSite). Repeats (owned_digests ms) place) none_met d).1;
    no_unreferenced = λ i u. u.1;
  }

  pub unhidden_named : IsWellNamed p []
  unhidden_named = record {
    no_wrong_shape = λ i s. s.1;
    no_reserved_name = λ i s. s.1;
    no_name_clash = λ place c. subst (λ (ms : List OwnedSite). StandsAt ms place c.0) none_met c.1;
  }

  pub unhidden_sound : depth p ≤ 100 → IsSound p []
  unhidden_sound low = record { referenced = unhidden_referenced; named = unhidden_named; shallow = subst (λ (t : Tree). depth t ≤ 100) (sym opens_to_itself) low }

  pub unhidden_too_deep : 100 < depth p → IsTooDeep p []
  unhidden_too_deep deep = subst (λ (t : Tree). 100 < depth t) (sym opens_to_itself) deep

-- ---- what is answered

module _ (p : Tree) (h : is_unhidden p ≡ true) (answer : Result code.Tree ProcessError)
    (is : MatchResult answer (λ t. (tree_of t ≡ without_alg p) × (depth (tree_of t) ≤ 100)) (λ e. (e ≡ TooDeep) × (100 < depth (without_alg p)))) where
  pub answer_sound : IfOk answer (λ _. IsSound (without_alg p) [])
  answer_sound = go answer is
    where
      go : (r : Result code.Tree ProcessError) → MatchResult r (λ t. (tree_of t ≡ without_alg p) × (depth (tree_of t) ≤ 100)) (λ e. (e ≡ TooDeep) × (100 < depth (without_alg p)))
          → IfOk r (λ _. IsSound (without_alg p) [])
      go (Ok t) w = unhidden_sound (without_alg p) (without_alg_unhidden p h) (subst (λ (u : Tree). depth u ≤ 100) w.0 w.1)
      go (Err e) w = tt

  pub answer_processed : IfOk answer (λ t. tree_of t ≡ strip (processed (without_alg p) []))
  answer_processed = go answer is
    where
      go : (r : Result code.Tree ProcessError) → MatchResult r (λ t. (tree_of t ≡ without_alg p) × (depth (tree_of t) ≤ 100)) (λ e. (e ≡ TooDeep) × (100 < depth (without_alg p)))
          → IfOk r (λ t. tree_of t ≡ strip (processed (without_alg p) []))
      go (Ok t) w = w.0 ∙ sym (opens_to_itself (without_alg p) (without_alg_unhidden p h))
      go (Err e) w = tt

  pub answer_refused : IfErr answer (IsProcessRefused (without_alg p) [])
  answer_refused = go answer is
    where
      go : (r : Result code.Tree ProcessError) → MatchResult r (λ t. (tree_of t ≡ without_alg p) × (depth (tree_of t) ≤ 100)) (λ e. (e ≡ TooDeep) × (100 < depth (without_alg p)))
          → IfErr r (IsProcessRefused (without_alg p) [])
      go (Ok t) w = tt
      go (Err e) w =
          let free = without_alg_unhidden p h in
          rw w.0 (unhidden_referenced (without_alg p) free, unhidden_named (without_alg p) free, unhidden_too_deep (without_alg p) free w.1)

  pub answer_counted : (steps : ℕ) → steps ≤ 2 ^ 64 - 1 → steps ≡ counted steps (look_ups (without_alg p) [])
  answer_counted steps fits = omega (arith, fits, none_looked_up (without_alg p) (without_alg_unhidden p h))
