-- The marks of an opened tree: those of what its sites show.
use Rattle.std.proofs.Common.{◌≡◌, ℕ, suc, ◌+◌, List, [], ◌∷◌, ◌++◌, map, Bool, true, false, cond, ◌⊎◌, inl, inr, ⊎_elim, Option, Some, None, refl, subst, arith}
use Rattle.std.specs.Prelude.{bytes_eq}
use Rattle.claim_tree.specs.Tree.{Text, Tree, leaf, array, object, Elements, no_elements, element, Members, no_members, member, names}
use Rattle.sd_outside.specs.Lists.{In}
use Rattle.digest_sites.specs.Reserved.{sd_name, sd_texts, element_digest}
use Rattle.digest_sites.specs.Sites.{Step, to_member, to_element, Site, sites, element_sites, member_sites, sites_on, own_site, element_site, under}
use Rattle.digest_sites.specs.declared.site.SiteKind.TheVariants.{Element}
use Rattle.marked_tree.specs.Marked.{Marked, MarkedElements, MarkedMembers, marked_member}
use Rattle.marked_tree.specs.Ways.{weight, elements_weight, members_weight, ways, elements_ways, members_ways, way_of}
use Rattle.rebuild_core.specs.Opening.{Shown, nothing_shown, shown, open_tree, open_elements, open_members, open_element, show_members, show_element, show_member}
use Rattle.sd_outside.proofs.Lists.{In-left, In-right, In-append, In-of_map}
use Rattle.marked_tree.proofs.Spots.{Way}
use Rattle.marked_tree.proofs.Sums.{sum_of, sum_of-append, sum_of-map}
use Rattle.marked_tree.proofs.Puts.{put_weight, put_way, put_way_other}
use Rattle.rebuild_core.specs.Whole.{IsNew, AllNew, shown_weight}
use Rattle.rebuild_core.proofs.Fits.{AreFit, Suits, object_new, fit_left, fit_right, fit_under}

abbrev pub sites_weight : (ℕ → ℕ) → (Text → Shown) → List Site → ℕ
sites_weight w r ss = sum_of (λ s. shown_weight w (r s.digest)) ss

show_member_weight : (w : ℕ → ℕ) (x : Shown) (ms : MarkedMembers) → IsNew x ms → members_weight w (show_member x ms) ≡ shown_weight w x + members_weight w ms
show_member_weight w nothing_shown ms new = omega arith
show_member_weight w (shown i None t) ms new = absurd new
show_member_weight w (shown i (Some k) t) ms new = put_weight w k (Some i) t ms new

show_members_weight : (w : ℕ → ℕ) (r : Text → Shown) (ks : List Text) (ds : List Text) (ms : MarkedMembers) → AllNew r ds ms
    → members_weight w (show_members r ds ms) ≡ sites_weight w r (map (own_site ks) ds) + members_weight w ms
show_members_weight w r ks [] ms new = omega arith
show_members_weight w r ks (d ∷ ds) ms new = omega (arith, show_members_weight w r ks ds (show_member (r d) ms) new.1, show_member_weight w (r d) ms new.0)

show_element_weight : (w : ℕ → ℕ) (x : Shown) (es : MarkedElements) → Suits Element x → elements_weight w (show_element x es) ≡ shown_weight w x + elements_weight w es
show_element_weight w nothing_shown es s = omega arith
show_element_weight w (shown i None t) es s = refl
show_element_weight w (shown i (Some k) t) es s = absurd (s tt)

under_weight : (w : ℕ → ℕ) (r : Text → Shown) (k : Step) (ss : List Site) → sites_weight w r (map (under k) ss) ≡ sites_weight w r ss
under_weight w r k ss = sum_of-map (λ s. shown_weight w (r s.digest)) (under k) ss

element_weight : (w : ℕ → ℕ) (r : Text → Shown) (step : Step) (o : Option Text) (inside : List Site) (t : Marked) (es : MarkedElements)
    → AreFit r (sites_on step o inside) → (AreFit r inside → weight w t ≡ sites_weight w r inside)
    → elements_weight w (open_element r o t es) ≡ sites_weight w r (sites_on step o inside) + elements_weight w es
element_weight w r step None inside t es fit same = omega (arith, same (fit_under r step inside fit), under_weight w r step inside)
element_weight w r step (Some d) inside t es fit same = omega (arith, show_element_weight w (r d) es (fit.suits (element_site step d) (inl refl)))

member_weight : (w : ℕ → ℕ) (r : Text → Shown) (k : Text) (b : Bool) (inside : List Site) (t : Marked) (ms : MarkedMembers)
    → AreFit r (cond b [] (map (under (to_member k)) inside)) → (AreFit r inside → weight w t ≡ sites_weight w r inside)
    → members_weight w (cond b ms (marked_member k None t ms)) ≡ sites_weight w r (cond b [] (map (under (to_member k)) inside)) + members_weight w ms
member_weight w r k true inside t ms fit same = omega arith
member_weight w r k false inside t ms fit same = omega (arith, same (fit_under r (to_member k) inside fit), under_weight w r (to_member k) inside)

mutual
  pub open_weight : (w : ℕ → ℕ) (r : Text → Shown) (t : Tree) → AreFit r (sites t) → weight w (open_tree r t) ≡ sites_weight w r (sites t)
  open_weight w r (leaf l) fit = refl
  open_weight w r (array es) fit = open_elements_weight w r 0 es fit
  open_weight w r (object ms) fit =
      omega (
        arith,
        show_members_weight w r (names ms) (sd_texts ms) (open_members r ms) (object_new r ms fit),
        open_members_weight w r ms (fit_right r (map (own_site (names ms)) (sd_texts ms)) (member_sites ms) fit),
        sum_of-append (λ s. shown_weight w (r s.digest)) (map (own_site (names ms)) (sd_texts ms)) (member_sites ms),
      )

  open_elements_weight : (w : ℕ → ℕ) (r : Text → Shown) (i : ℕ) (es : Elements) → AreFit r (element_sites i es) → elements_weight w (open_elements r es) ≡ sites_weight w r (element_sites i es)
  open_elements_weight w r i no_elements fit = refl
  open_elements_weight w r i (element t es) fit =
      omega (
        arith,
        element_weight w r (to_element i) (element_digest t) (sites t) (open_tree r t) (open_elements r es)
            (fit_left r (sites_on (to_element i) (element_digest t) (sites t)) (element_sites (suc i) es) fit) (open_weight w r t),
        open_elements_weight w r (suc i) es (fit_right r (sites_on (to_element i) (element_digest t) (sites t)) (element_sites (suc i) es) fit),
        sum_of-append (λ s. shown_weight w (r s.digest)) (sites_on (to_element i) (element_digest t) (sites t)) (element_sites (suc i) es),
      )

  open_members_weight : (w : ℕ → ℕ) (r : Text → Shown) (ms : Members) → AreFit r (member_sites ms) → members_weight w (open_members r ms) ≡ sites_weight w r (member_sites ms)
  open_members_weight w r no_members fit = refl
  open_members_weight w r (member k t ms) fit =
      omega (
        arith,
        member_weight w r k (bytes_eq k sd_name) (sites t) (open_tree r t) (open_members r ms)
            (fit_left r (cond (bytes_eq k sd_name) [] (map (under (to_member k)) (sites t))) (member_sites ms) fit) (open_weight w r t),
        open_members_weight w r ms (fit_right r (cond (bytes_eq k sd_name) [] (map (under (to_member k)) (sites t))) (member_sites ms) fit),
        sum_of-append (λ s. shown_weight w (r s.digest)) (cond (bytes_eq k sd_name) [] (map (under (to_member k)) (sites t))) (member_sites ms),
      )

-- ---- the way to each

abbrev pub shown_ways : Shown → List Way
shown_ways nothing_shown = []
shown_ways (shown i n t) = way_of (Some i) (ways t)

-- v is a way of what some site shows
abbrev pub Leads : (Text → Shown) → List Site → Way → Type 0
Leads r ss v = (s : Site) × In s ss × In v (shown_ways (r s.digest))

show_member_way : (x : Shown) (ms : MarkedMembers) (v : Way) → IsNew x ms → In v (shown_ways x) → In v (members_ways (show_member x ms))
show_member_way nothing_shown ms v new h = elim h [ ]
show_member_way (shown i None t) ms v new h = absurd new
show_member_way (shown i (Some k) t) ms v new h = put_way k (Some i) t ms v new h

show_member_other : (x : Shown) (ms : MarkedMembers) (v : Way) → In v (members_ways ms) → In v (members_ways (show_member x ms))
show_member_other nothing_shown ms v h = h
show_member_other (shown i None t) ms v h = h
show_member_other (shown i (Some k) t) ms v h = put_way_other k (Some i) t ms v h

show_members_other : (r : Text → Shown) (ds : List Text) (ms : MarkedMembers) (v : Way) → In v (members_ways ms) → In v (members_ways (show_members r ds ms))
show_members_other r [] ms v h = h
show_members_other r (d ∷ ds) ms v h = show_members_other r ds (show_member (r d) ms) v (show_member_other (r d) ms v h)

show_members_way : (r : Text → Shown) (ds : List Text) (ms : MarkedMembers) (v : Way) → AllNew r ds ms → (d : Text) → In d ds → In v (shown_ways (r d)) → In v (members_ways (show_members r ds ms))
show_members_way r [] ms v new d m h = elim m [ ]
show_members_way r (e ∷ ds) ms v new d (inl q) h =
    show_members_other r ds (show_member (r e) ms) v (show_member_way (r e) ms v new.0 (subst (λ z. In v (shown_ways (r z))) q h))
show_members_way r (e ∷ ds) ms v new d (inr m) h = show_members_way r ds (show_member (r e) ms) v new.1 d m h

show_element_way : (x : Shown) (es : MarkedElements) (v : Way) → Suits Element x → In v (shown_ways x) → In v (elements_ways (show_element x es))
show_element_way nothing_shown es v s h = elim h [ ]
show_element_way (shown i None t) es v s h = In-left v (way_of (Some i) (ways t)) (elements_ways es) h
show_element_way (shown i (Some k) t) es v s h = absurd (s tt)

show_element_other : (x : Shown) (es : MarkedElements) (v : Way) → In v (elements_ways es) → In v (elements_ways (show_element x es))
show_element_other nothing_shown es v h = h
show_element_other (shown i None t) es v h = In-right v (way_of (Some i) (ways t)) (elements_ways es) h
show_element_other (shown i (Some k) t) es v h = h

element_other : (r : Text → Shown) (o : Option Text) (t : Marked) (es : MarkedElements) (v : Way) → In v (elements_ways es) → In v (elements_ways (open_element r o t es))
element_other r None t es v h = In-right v (ways t) (elements_ways es) h
element_other r (Some d) t es v h = show_element_other (r d) es v h

element_way : (r : Text → Shown) (step : Step) (o : Option Text) (inside : List Site) (t : Marked) (es : MarkedElements) (v : Way)
    → AreFit r (sites_on step o inside) → (AreFit r inside → Leads r inside v → In v (ways t))
    → Leads r (sites_on step o inside) v → In v (elements_ways (open_element r o t es))
element_way r step None inside t es v fit way (s, m, h) =
    let w = In-of_map (under step) s inside m in
    In-left v (ways t) (elements_ways es)
    (way (fit_under r step inside fit) (w.0, w.1, subst (λ (z : Site). In v (shown_ways (r z.digest))) w.2 h))
element_way r step (Some d) inside t es v fit way (s, inl e, h) =
    show_element_way (r d) es v (fit.suits (element_site step d) (inl refl)) (subst (λ (z : Site). In v (shown_ways (r z.digest))) e h)
element_way r step (Some d) inside t es v fit way (s, inr m, h) = elim m [ ]

member_other : (k : Text) (b : Bool) (t : Marked) (ms : MarkedMembers) (v : Way) → In v (members_ways ms) → In v (members_ways (cond b ms (marked_member k None t ms)))
member_other k true t ms v h = h
member_other k false t ms v h = In-right v (ways t) (members_ways ms) h

member_way : (r : Text → Shown) (k : Text) (b : Bool) (inside : List Site) (t : Marked) (ms : MarkedMembers) (v : Way)
    → AreFit r (cond b [] (map (under (to_member k)) inside)) → (AreFit r inside → Leads r inside v → In v (ways t))
    → Leads r (cond b [] (map (under (to_member k)) inside)) v → In v (members_ways (cond b ms (marked_member k None t ms)))
member_way r k true inside t ms v fit way (s, m, h) = elim m [ ]
member_way r k false inside t ms v fit way (s, m, h) =
    let w = In-of_map (under (to_member k)) s inside m in
    In-left v (ways t) (members_ways ms)
    (way (fit_under r (to_member k) inside fit) (w.0, w.1, subst (λ (z : Site). In v (shown_ways (r z.digest))) w.2 h))

leads_split : (r : Text → Shown) (xs ys : List Site) (v : Way) → Leads r (xs ++ ys) v → Leads r xs v ⊎ Leads r ys v
leads_split r xs ys v (s, m, h) = ⊎_elim (λ a. inl (s, a, h)) (λ a. inr (s, a, h)) (In-append s xs ys m)

mutual
  pub open_way : (r : Text → Shown) (t : Tree) (v : Way) → AreFit r (sites t) → Leads r (sites t) v → In v (ways (open_tree r t))
  open_way r (leaf l) v fit (s, m, h) = elim m [ ]
  open_way r (array es) v fit h = open_elements_way r 0 es v fit h
  open_way r (object ms) v fit h =
      ⊎_elim
      (λ (a : Leads r (map (own_site (names ms)) (sd_texts ms)) v).
      let w = In-of_map (own_site (names ms)) a.0 (sd_texts ms) a.1 in
      show_members_way r (sd_texts ms) (open_members r ms) v (object_new r ms fit) w.0 w.1 (subst (λ (z : Site). In v (shown_ways (r z.digest))) w.2 a.2))
      (λ a. show_members_other r (sd_texts ms) (open_members r ms) v
      (open_members_way r ms v (fit_right r (map (own_site (names ms)) (sd_texts ms)) (member_sites ms) fit) a))
      (leads_split r (map (own_site (names ms)) (sd_texts ms)) (member_sites ms) v h)

  open_elements_way : (r : Text → Shown) (i : ℕ) (es : Elements) (v : Way) → AreFit r (element_sites i es) → Leads r (element_sites i es) v → In v (elements_ways (open_elements r es))
  open_elements_way r i no_elements v fit (s, m, h) = elim m [ ]
  open_elements_way r i (element t es) v fit h =
      ⊎_elim
      (λ a. element_way r (to_element i) (element_digest t) (sites t) (open_tree r t) (open_elements r es) v
      (fit_left r (sites_on (to_element i) (element_digest t) (sites t)) (element_sites (suc i) es) fit) (open_way r t v) a)
      (λ a. element_other r (element_digest t) (open_tree r t) (open_elements r es) v
      (open_elements_way r (suc i) es v (fit_right r (sites_on (to_element i) (element_digest t) (sites t)) (element_sites (suc i) es) fit) a))
      (leads_split r (sites_on (to_element i) (element_digest t) (sites t)) (element_sites (suc i) es) v h)

  open_members_way : (r : Text → Shown) (ms : Members) (v : Way) → AreFit r (member_sites ms) → Leads r (member_sites ms) v → In v (members_ways (open_members r ms))
  open_members_way r no_members v fit (s, m, h) = elim m [ ]
  open_members_way r (member k t ms) v fit h =
      ⊎_elim
      (λ a. member_way r k (bytes_eq k sd_name) (sites t) (open_tree r t) (open_members r ms) v
      (fit_left r (cond (bytes_eq k sd_name) [] (map (under (to_member k)) (sites t))) (member_sites ms) fit) (open_way r t v) a)
      (λ a. member_other k (bytes_eq k sd_name) (open_tree r t) (open_members r ms) v
      (open_members_way r ms v (fit_right r (cond (bytes_eq k sd_name) [] (map (under (to_member k)) (sites t))) (member_sites ms) fit) a))
      (leads_split r (cond (bytes_eq k sd_name) [] (map (under (to_member k)) (sites t))) (member_sites ms) v h)
