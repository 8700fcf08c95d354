-- What the conditions give to opening, and what opening answers by them.
use Rattle.std.proofs.Common.{◌≡◌, ℕ, suc, ◌+◌, ◌^◌, ◌<◌, ◌≤◌, List, [], ◌∷◌, map, length, drop, Bool, true, false, cond, inl, Option, Some, None, MatchResult, Result, Ok, Err, refl, sym, ap, ◌∙◌, subst, arith}
use Rattle.std.specs.Prelude.{bytes_eq}
use Rattle.claim_tree.specs.Tree.{Text, Tree, leaf, array, object, Elements, no_elements, element, Members, no_members, member, names, depth}
use Rattle.digest_sites.specs.Reserved.{sd_name, sd_texts, element_digest}
use Rattle.digest_sites.specs.Sites.{Step, to_member, to_element, Site, sites, element_sites, member_sites, sites_on, own_site, element_site, under}
use Rattle.digest_sites.specs.SiteCalls.{digests}
use Rattle.digest_sites.specs.Given.{Given}
use Rattle.digest_sites.specs.declared.site.SiteKind.TheVariants.{Element}
use Rattle.marked_tree.specs.Marked.{Marked, strip}
use Rattle.marked_tree.specs.Ways.{weight, only}
use Rattle.rebuild_core.specs.Answer.{IsProcessRefused}
use Rattle.rebuild_core.specs.Opening.{Shown, nothing_shown, shown, open_tree, processed}
use Rattle.rebuild_core.specs.Soundness.{IsReferencedOnce, IsWellNamed, IsSound}
use Rattle.rebuild_core.specs.Cursor.{tree_digests, TellFirst, NumbersTell}
use Rattle.rebuild_core.specs.Whole.{settled, IfTooDeep, IsElement, WholeOn, WholeUnless, OpensWhole, ElementsWhole, MembersWhole, shown_weight, uses, IsOpenable, OpensFrom, TakesOnly, whole_object}
use Rattle.rebuild_core.specs.declared.errors.ProcessError.{ProcessError}
use Rattle.rebuild_core.specs.declared.shown.OpenedMembers.{OpenedMembers}
use Rattle.rebuild_core.proofs.Fits.{AreFit, Suits, fit_left, fit_right, fit_under, object_new}
use Rattle.marked_tree.proofs.MarkFacts.{up_to_le}
use Rattle.rebuild_core.proofs.Fixed.{processed_settles}
use Rattle.rebuild_core.proofs.Named.{payload_fits, value_fits}
use Rattle.rebuild_core.proofs.Marks.{sites_weight, open_weight}
use Rattle.rebuild_core.proofs.Presented.{mark_once}
use Rattle.rebuild_core.proofs.Goes.{digests-sites}

-- ---- where all disclosures fit, nothing is left out

is_element : (s : Shown) → Suits Element s → IsElement s
is_element nothing_shown h = tt
is_element (shown i None t) h = tt
is_element (shown i (Some k) t) h = h tt

whole_on : (r : Text → Shown) (step : Step) (o : Option Text) (inside : List Site) (Inside : Type 0) → AreFit r (sites_on step o inside) → (AreFit r inside → Inside) → WholeOn r o Inside
whole_on r step None inside Inside fit f = f (fit_under r step inside fit)
whole_on r step (Some d) inside Inside fit f = is_element (r d) (fit.suits (element_site step d) (inl refl))

whole_unless : (r : Text → Shown) (step : Step) (own : Bool) (inside : List Site) (Inside : Type 0) → AreFit r (cond own [] (map (under step) inside)) → (AreFit r inside → Inside) → WholeUnless own Inside
whole_unless r step true inside Inside fit f = tt
whole_unless r step false inside Inside fit f = f (fit_under r step inside fit)

mutual
  pub opens_whole : (r : Text → Shown) (t : Tree) → AreFit r (sites t) → OpensWhole r t
  opens_whole r (leaf l) fit = tt
  opens_whole r (array es) fit = elements_whole r 0 es fit
  opens_whole r (object ms) fit = (object_new r ms fit, members_whole r ms (fit_right r (map (own_site (names ms)) (sd_texts ms)) (member_sites ms) fit))

  elements_whole : (r : Text → Shown) (i : ℕ) (es : Elements) → AreFit r (element_sites i es) → ElementsWhole r es
  elements_whole r i no_elements fit = tt
  elements_whole r i (element t es) fit = (
    whole_on r (to_element i) (element_digest t) (sites t) (OpensWhole r t) (fit_left r (sites_on (to_element i) (element_digest t) (sites t)) (element_sites (suc i) es) fit) (opens_whole r t),
    elements_whole r (suc i) es (fit_right r (sites_on (to_element i) (element_digest t) (sites t)) (element_sites (suc i) es) fit),
  )

  members_whole : (r : Text → Shown) (ms : Members) → AreFit r (member_sites ms) → MembersWhole r ms
  members_whole r no_members fit = tt
  members_whole r (member k t ms) fit = (
    whole_unless r (to_member k) (bytes_eq k sd_name) (sites t) (OpensWhole r t) (fit_left r (cond (bytes_eq k sd_name) [] (map (under (to_member k)) (sites t))) (member_sites ms) fit) (opens_whole r t),
    members_whole r ms (fit_right r (cond (bytes_eq k sd_name) [] (map (under (to_member k)) (sites t))) (member_sites ms) fit),
  )

-- ---- the payload

module _ (p : Tree) (g : List Given) (ok : IsReferencedOnce p g) (named : IsWellNamed p g) where
  sites_uses : (k : ℕ) (ss : List Site) → sites_weight (only k) (settled g) ss ≡ uses g k (digests ss)
  sites_uses k [] = refl
  sites_uses k (s ∷ ss) = ap (λ n. shown_weight (only k) (settled g s.digest) + n) (sites_uses k ss)

  opened_uses : (k : ℕ) (t : Tree) → AreFit (settled g) (sites t) → weight (only k) (open_tree (settled g) t) ≡ uses g k (tree_digests t)
  opened_uses k t fit = open_weight (only k) (settled g) t fit ∙ sites_uses k (sites t) ∙ ap (uses g k) (digests-sites t)

  openable : (numbers ends : List ℕ) → length g < 2 ^ 32 → NumbersTell p g numbers ends → IsOpenable g numbers ends
  openable numbers ends few told = record {
    few = few;
    told = λ j x a. let w = told.values j x a in (w.0, w.1, subst (λ ds. TellFirst g (drop w.0 numbers) ds) (digests-sites x.value) w.2);
    whole = λ j x a. opens_whole (settled g) x.value (value_fits p g ok named (length g) j x a);
    shows = λ j k x a. opened_uses k x.value (value_fits p g ok named (length g) j x a);
  }

  -- a disclosure is shown once, or there is none with the number
  payload_once : (k : ℕ) → uses g k (tree_digests p) ≤ 1
  payload_once k =
      omega (
        arith,
        opened_uses k p (payload_fits p g ok named (length g)),
        ap (weight (only k)) (processed_settles p g ok),
        mark_once p g ok named k,
        up_to_le k (length g),
      )

  pub payload_opens : (q : Tree) → p ≡ q → (numbers ends : List ℕ) → length g < 2 ^ 32 → NumbersTell p g numbers ends
      → OpensFrom g g numbers ends 0 (tree_digests q) (OpensWhole (settled g) q)
  payload_opens q e numbers ends few told =
      subst (λ (t : Tree). OpensFrom g g numbers ends 0 (tree_digests t) (OpensWhole (settled g) t)) e
      (record {
        ready = openable numbers ends few told;
        told = subst (λ ds. TellFirst g numbers ds) (digests-sites p) told.payload;
        whole = opens_whole (settled g) p (payload_fits p g ok named (length g));
        once = payload_once;
        there = λ k x a l. a;
        as_many = refl;
      })

  is_processed : (m : Marked) → m ≡ open_tree (settled g) p → depth (strip m) ≤ 100 → IsSound p g × (m ≡ processed p g)
  is_processed m is low =
      let e : m ≡ processed p g = is ∙ sym (processed_settles p g ok) in
      (record { referenced = ok; named = named; shallow = subst (λ (z : Marked). depth (strip z) ≤ 100) e low }, e)

  is_refused : (e : ProcessError) → IfTooDeep e (100 < depth (strip (open_tree (settled g) p))) → IsProcessRefused p g e
  is_refused ProcessError.Memory h = tt
  is_refused ProcessError.TooDeep h = (ok, named, subst (λ (z : Marked). 100 < depth (strip z)) (sym (processed_settles p g ok)) h)
  is_refused (ProcessError.RepeatedDisclosure i) h = elim h [ ]
  is_refused (ProcessError.ReservedMisused i) h = elim h [ ]
  is_refused (ProcessError.RepeatedDigest i) h = elim h [ ]
  is_refused (ProcessError.Unreferenced i) h = elim h [ ]
  is_refused (ProcessError.WrongShape i) h = elim h [ ]
  is_refused (ProcessError.ReservedName i) h = elim h [ ]
  is_refused (ProcessError.NameClash i) h = elim h [ ]

  pub answered : (q : Tree) → p ≡ q → (r : Result OpenedMembers ProcessError) (new : List Given)
      → MatchResult r (λ o. (whole_object o ≡ open_tree (settled g) q) × (depth (strip (whole_object o)) ≤ 100) × TakesOnly g g new (tree_digests q)) (λ e. IfTooDeep e (100 < depth (strip (open_tree (settled g) q))))
      → MatchResult r (λ o. IsSound p g × (whole_object o ≡ processed p g)) (IsProcessRefused p g)
  answered q same (Ok o) new h = is_processed (whole_object o) (h.0 ∙ ap (open_tree (settled g)) (sym same)) h.1
  answered q same (Err e) new h = is_refused e (subst (λ t. IfTooDeep e (100 < depth (strip (open_tree (settled g) t)))) (sym same) h)
