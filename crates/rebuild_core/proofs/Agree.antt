-- Opening reads the digests of the tree's sites alone.
use Rattle.std.proofs.Common.{◌≡◌, ℕ, suc, List, [], ◌∷◌, ◌++◌, map, Bool, true, false, cond, inl, inr, Option, Some, None, refl, ap, ap₂, ◌∙◌}
use Rattle.std.specs.Prelude.{bytes_eq}
use Rattle.claim_tree.specs.Tree.{Text, Tree, leaf, array, object, Elements, no_elements, element, Members, no_members, member, names}
use Rattle.sd_outside.specs.Lists.{In}
use Rattle.digest_sites.specs.Reserved.{sd_name, sd_texts, element_digest}
use Rattle.digest_sites.specs.Sites.{Step, to_member, to_element, Site, sites, element_sites, member_sites, sites_on, own_site, element_site, under}
use Rattle.marked_tree.specs.Marked.{Marked, marked_array, marked_object, MarkedElements, marked_element, MarkedMembers, marked_member}
use Rattle.rebuild_core.specs.Opening.{Shown, open_tree, open_elements, open_members, open_element, show_members, show_element, show_member}
use Rattle.sd_outside.proofs.Lists.{In-left, In-right, In-map}

-- P holds of the digest of each site
abbrev pub Each : (Text → Type 0) → List Site → Type 0
Each P ss = (s : Site) → In s ss → P s.digest

abbrev pub Agree : (Text → Shown) → (Text → Shown) → List Site → Type 0
Agree r q ss = Each (λ d. r d ≡ q d) ss

pub Each-left : (P : Text → Type 0) (xs ys : List Site) → Each P (xs ++ ys) → Each P xs
Each-left P xs ys h s m = h s (In-left s xs ys m)

pub Each-right : (P : Text → Type 0) (xs ys : List Site) → Each P (xs ++ ys) → Each P ys
Each-right P xs ys h s m = h s (In-right s xs ys m)

pub Each-under : (P : Text → Type 0) (k : Step) (ss : List Site) → Each P (map (under k) ss) → Each P ss
Each-under P k ss h s m = h (under k s) (In-map (under k) s ss m)

pub Each-own : (P : Text → Type 0) (ks : List Text) (d : Text) (ds : List Text) → Each P (map (own_site ks) (d ∷ ds)) → P d
Each-own P ks d ds h = h (own_site ks d) (inl refl)

pub Each-rest : (P : Text → Type 0) (ks : List Text) (d : Text) (ds : List Text) → Each P (map (own_site ks) (d ∷ ds)) → Each P (map (own_site ks) ds)
Each-rest P ks d ds h s m = h s (inr m)

show_members_agree : (r q : Text → Shown) (ks : List Text) (ds : List Text) (ms : MarkedMembers) → Agree r q (map (own_site ks) ds) → show_members r ds ms ≡ show_members q ds ms
show_members_agree r q ks [] ms h = refl
show_members_agree r q ks (d ∷ ds) ms h =
    ap (λ x. show_members r ds (show_member x ms)) (Each-own (λ d. r d ≡ q d) ks d ds h)
    ∙ show_members_agree r q ks ds (show_member (q d) ms) (Each-rest (λ d. r d ≡ q d) ks d ds h)

element_agrees : (r q : Text → Shown) (step : Step) (o : Option Text) (inside : List Site) (t u : Marked) (es fs : MarkedElements)
    → Agree r q (sites_on step o inside) → (Agree r q inside → t ≡ u) → es ≡ fs → open_element r o t es ≡ open_element q o u fs
element_agrees r q step None inside t u es fs h same rest = ap₂ (marked_element None) (same (Each-under (λ d. r d ≡ q d) step inside h)) rest
element_agrees r q step (Some d) inside t u es fs h same rest = ap₂ show_element (h (element_site step d) (inl refl)) rest

abbrev inner : Bool → Text → List Site → List Site
inner b k ss = cond b [] (map (under (to_member k)) ss)

member_agrees : (r q : Text → Shown) (k : Text) (b : Bool) (inside : List Site) (t u : Marked) (ms ns : MarkedMembers)
    → Agree r q (inner b k inside) → (Agree r q inside → t ≡ u) → ms ≡ ns → cond b ms (marked_member k None t ms) ≡ cond b ns (marked_member k None u ns)
member_agrees r q k true inside t u ms ns h same rest = rest
member_agrees r q k false inside t u ms ns h same rest = ap₂ (marked_member k None) (same (Each-under (λ d. r d ≡ q d) (to_member k) inside h)) rest

mutual
  pub agree : (r q : Text → Shown) (t : Tree) → Agree r q (sites t) → open_tree r t ≡ open_tree q t
  agree r q (leaf l) h = refl
  agree r q (array es) h = ap marked_array (agree_elements r q 0 es h)
  agree r q (object ms) h =
      ap marked_object
      (ap (show_members r (sd_texts ms)) (agree_members r q ms (Each-right (λ d. r d ≡ q d) (map (own_site (names ms)) (sd_texts ms)) (member_sites ms) h))
      ∙ show_members_agree r q (names ms) (sd_texts ms) (open_members q ms) (Each-left (λ d. r d ≡ q d) (map (own_site (names ms)) (sd_texts ms)) (member_sites ms) h))

  pub agree_elements : (r q : Text → Shown) (i : ℕ) (es : Elements) → Agree r q (element_sites i es) → open_elements r es ≡ open_elements q es
  agree_elements r q i no_elements h = refl
  agree_elements r q i (element t es) h =
      element_agrees r q (to_element i) (element_digest t) (sites t) (open_tree r t) (open_tree q t) (open_elements r es) (open_elements q es)
      (Each-left (λ d. r d ≡ q d) (sites_on (to_element i) (element_digest t) (sites t)) (element_sites (suc i) es) h)
      (agree r q t)
      (agree_elements r q (suc i) es (Each-right (λ d. r d ≡ q d) (sites_on (to_element i) (element_digest t) (sites t)) (element_sites (suc i) es) h))

  pub agree_members : (r q : Text → Shown) (ms : Members) → Agree r q (member_sites ms) → open_members r ms ≡ open_members q ms
  agree_members r q no_members h = refl
  agree_members r q (member k t ms) h =
      member_agrees r q k (bytes_eq k sd_name) (sites t) (open_tree r t) (open_tree q t) (open_members r ms) (open_members q ms)
      (Each-left (λ d. r d ≡ q d) (inner (bytes_eq k sd_name) k (sites t)) (member_sites ms) h)
      (agree r q t)
      (agree_members r q ms (Each-right (λ d. r d ≡ q d) (inner (bytes_eq k sd_name) k (sites t)) (member_sites ms) h))
