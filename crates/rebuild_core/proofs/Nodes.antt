-- How many nodes an opened tree has.
use Rattle.std.proofs.Common.{◌≡◌, ℕ, suc, ◌+◌, ◌≤◌, List, [], ◌∷◌, map, Bool, true, false, cond, Option, Some, None, Ordering, Less, Equal, Greater, arith}
use Rattle.std.specs.Prelude.{bytes_eq}
use Rattle.std.specs.Ordering.{match_ordering, nat_cmp}
use Rattle.std.specs.Cmp.Lexicographic.{slice_cmp}
use Rattle.claim_tree.specs.Tree.{Text, Tree, leaf, array, object, Elements, no_elements, element, Members, no_members, member, names}
use Rattle.claim_tree.specs.Nodes.{nodes, elements_nodes, members_nodes}
use Rattle.digest_sites.specs.Reserved.{sd_name, sd_texts, element_digest}
use Rattle.digest_sites.specs.Sites.{Step, to_member, to_element, Site, sites, element_sites, member_sites, sites_on, own_site, under}
use Rattle.marked_tree.specs.Marked.{Marked, MarkedElements, MarkedMembers, no_marked_members, marked_member, put, strip, strip_elements, strip_members}
use Rattle.rebuild_core.specs.Opening.{Shown, nothing_shown, shown, open_tree, open_elements, open_members, open_element, show_members, show_element, show_member}
use Rattle.marked_tree.proofs.Sums.{sum_of, sum_of-append, sum_of-map}

abbrev pub size : Marked → ℕ
size m = nodes (strip m)

abbrev elements_size : MarkedElements → ℕ
elements_size es = elements_nodes (strip_elements es)

abbrev members_size : MarkedMembers → ℕ
members_size ms = members_nodes (strip_members ms)

abbrev pub shown_size : Shown → ℕ
shown_size nothing_shown = 0
shown_size (shown i k m) = size m

-- what the sites show, together
abbrev pub sites_size : (Text → Shown) → List Site → ℕ
sites_size r ss = sum_of (λ s. shown_size (r s.digest)) ss

put_cases : (o : Ordering) (k : Text) (i : Option ℕ) (t : Marked) (l : Text) (j : Option ℕ) (u : Marked) (ms ns : MarkedMembers)
    → members_size ns ≤ size t + members_size ms
    → members_size (match_ordering o (marked_member k i t (marked_member l j u ms)) (marked_member l j u ms) (marked_member l j u ns)) ≤ size t + (size u + members_size ms)
put_cases Less k i t l j u ms ns h = omega arith
put_cases Equal k i t l j u ms ns h = omega arith
put_cases Greater k i t l j u ms ns h = omega arith

put_size : (k : Text) (i : Option ℕ) (t : Marked) (ms : MarkedMembers) → members_size (put k i t ms) ≤ size t + members_size ms
put_size k i t no_marked_members = omega arith
put_size k i t (marked_member l j u ms) = put_cases (slice_cmp nat_cmp k l) k i t l j u ms (put k i t ms) (put_size k i t ms)

show_member_size : (x : Shown) (ms : MarkedMembers) → members_size (show_member x ms) ≤ shown_size x + members_size ms
show_member_size nothing_shown ms = omega arith
show_member_size (shown i None t) ms = omega arith
show_member_size (shown i (Some k) t) ms = put_size k (Some i) t ms

show_members_size : (r : Text → Shown) (ks : List Text) (ds : List Text) (ms : MarkedMembers) → members_size (show_members r ds ms) ≤ members_size ms + sites_size r (map (own_site ks) ds)
show_members_size r ks [] ms = omega arith
show_members_size r ks (d ∷ ds) ms = omega (arith, show_members_size r ks ds (show_member (r d) ms), show_member_size (r d) ms)

show_element_size : (x : Shown) (es : MarkedElements) → elements_size (show_element x es) ≤ shown_size x + elements_size es
show_element_size nothing_shown es = omega arith
show_element_size (shown i None t) es = omega arith
show_element_size (shown i (Some k) t) es = omega arith

under_size : (r : Text → Shown) (k : Step) (ss : List Site) → sites_size r (map (under k) ss) ≡ sites_size r ss
under_size r k ss = sum_of-map (λ s. shown_size (r s.digest)) (under k) ss

element_size : (r : Text → Shown) (step : Step) (o : Option Text) (inside : List Site) (n : ℕ) (t : Marked) (es : MarkedElements)
    → size t ≤ n + sites_size r inside → elements_size (open_element r o t es) ≤ (n + elements_size es) + sites_size r (sites_on step o inside)
element_size r step None inside n t es h = omega (arith, under_size r step inside)
element_size r step (Some d) inside n t es h = omega (arith, show_element_size (r d) es)

member_size : (r : Text → Shown) (k : Text) (b : Bool) (inside : List Site) (n : ℕ) (t : Marked) (ms : MarkedMembers)
    → size t ≤ n + sites_size r inside → members_size (cond b ms (marked_member k None t ms)) ≤ (n + members_size ms) + sites_size r (cond b [] (map (under (to_member k)) inside))
member_size r k true inside n t ms h = omega arith
member_size r k false inside n t ms h = omega (arith, under_size r (to_member k) inside)

mutual
  pub open_size : (r : Text → Shown) (t : Tree) → size (open_tree r t) ≤ nodes t + sites_size r (sites t)
  open_size r (leaf l) = omega arith
  open_size r (array es) = omega (arith, elements_open_size r 0 es)
  open_size r (object ms) =
      omega (
        arith,
        members_open_size r ms,
        show_members_size r (names ms) (sd_texts ms) (open_members r ms),
        sum_of-append (λ s. shown_size (r s.digest)) (map (own_site (names ms)) (sd_texts ms)) (member_sites ms),
      )

  elements_open_size : (r : Text → Shown) (i : ℕ) (es : Elements) → elements_size (open_elements r es) ≤ elements_nodes es + sites_size r (element_sites i es)
  elements_open_size r i no_elements = omega arith
  elements_open_size r i (element t es) =
      omega (
        arith,
        elements_open_size r (suc i) es,
        element_size r (to_element i) (element_digest t) (sites t) (nodes t) (open_tree r t) (open_elements r es) (open_size r t),
        sum_of-append (λ s. shown_size (r s.digest)) (sites_on (to_element i) (element_digest t) (sites t)) (element_sites (suc i) es),
      )

  members_open_size : (r : Text → Shown) (ms : Members) → members_size (open_members r ms) ≤ members_nodes ms + sites_size r (member_sites ms)
  members_open_size r no_members = omega arith
  members_open_size r (member k t ms) =
      omega (
        arith,
        members_open_size r ms,
        member_size r k (bytes_eq k sd_name) (sites t) (nodes t) (open_tree r t) (open_members r ms) (open_size r t),
        sum_of-append (λ s. shown_size (r s.digest)) (cond (bytes_eq k sd_name) [] (map (under (to_member k)) (sites t))) (member_sites ms),
      )
