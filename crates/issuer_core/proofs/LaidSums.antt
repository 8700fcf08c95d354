-- The digests of what is laid: those of the disclosures and of the decoys, each as often as it is laid.
use Rattle.std.proofs.Common.{◌≡◌, ℕ, suc, ◌+◌, List, [], ◌∷◌, ◌++◌, Equal, Greater, Less, None, Ordering, Some, ap, arith, cond, decimal, map, refl, true}
use Rattle.std.specs.Cmp.Lexicographic.{slice_cmp}
use Rattle.std.specs.Ordering.{match_ordering, nat_cmp}
use Rattle.std.specs.Prelude.{bytes_eq}
use Rattle.claim_tree.specs.Tree.{Text, Tree, names}
use Rattle.digest_sites.specs.Given.{Given}
use Rattle.digest_sites.specs.Reserved.{element_digest, sd_name, sd_texts}
use Rattle.digest_sites.specs.Sites.{Site, Step, element_sites, member_sites, own_site, sites, sites_on, to_element, to_member, under}
use Rattle.marked_tree.specs.Marked.{Marked, MarkedElements, MarkedMembers, marked_array, marked_element, marked_leaf, marked_member, marked_object, no_marked_elements, no_marked_members, strip, strip_elements, strip_members}
use Rattle.marked_tree.specs.Paths.{Path}
use Rattle.rebuild_core.specs.Reached.{OwnedSite, owned_site, payload, value_sites, value_of, all_sites, all_digests}
use Rattle.issuer_core.specs.Issued.{occurs}
use Rattle.issuer_core.specs.Laid.{digest_elements, digest_object, hidden_digests, laid_elements, laid_given, laid_members, lay, lay_elements, lay_members, sorted, sorted_with, with_sd}
use Rattle.marked_tree.proofs.Sums.{sum_of, sum_of-append, sum_of-map}
use Rattle.issuer_core.proofs.DecoySums.{decoy_sum, elements_decoy_sum, members_decoy_sum}
use Rattle.issuer_core.proofs.Plain.{ElementsPlain, IsPlain, MembersPlain}
use Rattle.issuer_core.proofs.SdMembers.{digest_read, laid_no_digest, lay_has_no, with_sd_sites, with_sd_texts}

-- the sum over the sites of a tree
abbrev pub site_sum : (Text → ℕ) → List Site → ℕ
site_sum f ss = sum_of (λ s. f s.digest) ss

abbrev pub value_sum : (Text → ℕ) → List Given → ℕ
value_sum f g = sum_of (λ x. site_sum f (sites x.value)) g

abbrev pub digest_sum : (Text → ℕ) → List Given → ℕ
digest_sum f g = sum_of (λ x. f x.digest) g

under_sum : (f : Text → ℕ) (k : Step) (ss : List Site) → site_sum f (map (under k) ss) ≡ site_sum f ss
under_sum f k ss = sum_of-map (λ s. f s.digest) (under k) ss

own_sum : (f : Text → ℕ) (ks : List Text) (ds : List Text) → site_sum f (map (own_site ks) ds) ≡ sum_of f ds
own_sum f ks ds = sum_of-map (λ s. f s.digest) (own_site ks) ds

-- ---- sorted

insert_sum : (f : Text → ℕ) (d : Text) (ds : List Text) → sum_of f (sorted_with d ds) ≡ f d + sum_of f ds
insert_sum f d [] = refl
insert_sum f d (e ∷ ds) = go (slice_cmp nat_cmp d e) (insert_sum f d ds)
  where
    go : (o : Ordering) → sum_of f (sorted_with d ds) ≡ f d + sum_of f ds → sum_of f (match_ordering o (d ∷ e ∷ ds) (d ∷ e ∷ ds) (e ∷ sorted_with d ds)) ≡ f d + (f e + sum_of f ds)
    go Less ih = refl
    go Equal ih = refl
    go Greater ih = omega (arith, ih)

sort_sum : (f : Text → ℕ) (ds : List Text) → sum_of f (sorted ds) ≡ sum_of f ds
sort_sum f [] = refl
sort_sum f (d ∷ ds) = omega (arith, insert_sum f d (sorted ds), sort_sum f ds)

-- ---- laid

-- by how much the values of a node's items, of its own and of those that follow exceed their digests
items_sum : (f : Text → ℕ) (xs own ys : List Given) → value_sum f ((xs ++ own) ++ ys) + (digest_sum f xs + digest_sum f own + digest_sum f ys) ≡ digest_sum f ((xs ++ own) ++ ys) + (value_sum f xs + value_sum f own + value_sum f ys)
items_sum f xs own ys =
    omega (
      arith,
      sum_of-append (λ (x : Given). site_sum f (sites x.value)) (xs ++ own) ys,
      sum_of-append (λ (x : Given). site_sum f (sites x.value)) xs own,
      sum_of-append (λ (x : Given). f x.digest) (xs ++ own) ys,
      sum_of-append (λ (x : Given). f x.digest) xs own,
    )

decoy_sites : (f : Text → ℕ) (i : ℕ) (ds : List Text) → site_sum f (element_sites i (digest_elements ds)) ≡ sum_of f ds
decoy_sites f i [] = refl
decoy_sites f i (d ∷ ds) =
    omega (
      arith,
      sum_of-append (λ (s : Site). f s.digest) (sites_on (to_element i) (element_digest (digest_object d)) (sites (digest_object d))) (element_sites (suc i) (digest_elements ds)),
      ap (λ o. site_sum f (sites_on (to_element i) o (sites (digest_object d)))) (digest_read d),
      decoy_sites f (suc i) ds,
    )

mutual
  pub laid_sum : (f : Text → ℕ) (dec : Path → List Text) (dg : ℕ → Text) (m : Marked) → IsPlain m
      → site_sum f (sites (lay dec dg m)) + value_sum f (laid_given dec dg m) ≡ digest_sum f (laid_given dec dg m) + decoy_sum f dec (strip m)
  laid_sum f dec dg (marked_leaf l) p = refl
  laid_sum f dec dg (marked_array es) p = omega (arith, elements_laid f dec dg 0 es p)
  laid_sum f dec dg (marked_object ms) p =
      let none = lay_has_no sd_name (λ k a c. a) dec dg ms p in
      let ds = sorted (hidden_digests dg ms ++ dec []) in
      let new = with_sd ds (lay_members dec dg ms) in
      omega (
        arith,
        sum_of-append (λ (s : Site). f s.digest) (map (own_site (names new)) (sd_texts new)) (member_sites new),
        own_sum f (names new) (sd_texts new),
        ap (sum_of f) (with_sd_texts ds (lay_members dec dg ms) none),
        sort_sum f (hidden_digests dg ms ++ dec []),
        sum_of-append f (hidden_digests dg ms) (dec []),
        ap (site_sum f) (with_sd_sites ds (lay_members dec dg ms) none),
        members_laid f dec dg ms p,
      )

  elements_laid : (f : Text → ℕ) (dec : Path → List Text) (dg : ℕ → Text) (i : ℕ) (es : MarkedElements) → ElementsPlain es
      → site_sum f (element_sites i (lay_elements dec dg i es)) + value_sum f (laid_elements dec dg i es) ≡ digest_sum f (laid_elements dec dg i es) + (sum_of f (dec []) + elements_decoy_sum f dec i (strip_elements es))
  elements_laid f dec dg i no_marked_elements p = omega (arith, decoy_sites f i (dec []))
  elements_laid f dec dg i (marked_element None t es) p =
      let d : Path → List Text = λ q. dec (decimal i ∷ q) in
      let v = lay d dg t in
      let xs = laid_given d dg t in
      let ys = laid_elements dec dg (suc i) es in
      omega (
        arith,
        sum_of-append (λ (s : Site). f s.digest) (sites_on (to_element i) (element_digest v) (sites v)) (element_sites (suc i) (lay_elements dec dg (suc i) es)),
        ap (λ o. site_sum f (sites_on (to_element i) o (sites v))) (laid_no_digest d dg t p.0),
        under_sum f (to_element i) (sites v),
        items_sum f xs [] ys,
        laid_sum f d dg t p.0,
        elements_laid f dec dg (suc i) es p.1,
      )
  elements_laid f dec dg i (marked_element (Some k) t es) p =
      let d : Path → List Text = λ q. dec (decimal i ∷ q) in
      let v = lay d dg t in
      let xs = laid_given d dg t in
      let own : List Given = record { digest = dg k; name = None; value = v } ∷ [] in
      let ys = laid_elements dec dg (suc i) es in
      omega (
        arith,
        sum_of-append (λ (s : Site). f s.digest) (sites_on (to_element i) (element_digest (digest_object (dg k))) (sites (digest_object (dg k)))) (element_sites (suc i) (lay_elements dec dg (suc i) es)),
        ap (λ o. site_sum f (sites_on (to_element i) o (sites (digest_object (dg k))))) (digest_read (dg k)),
        items_sum f xs own ys,
        laid_sum f d dg t p.0,
        elements_laid f dec dg (suc i) es p.1,
      )

  members_laid : (f : Text → ℕ) (dec : Path → List Text) (dg : ℕ → Text) (ms : MarkedMembers) → MembersPlain ms
      → site_sum f (member_sites (lay_members dec dg ms)) + sum_of f (hidden_digests dg ms) + value_sum f (laid_members dec dg ms) ≡ digest_sum f (laid_members dec dg ms) + members_decoy_sum f dec (strip_members ms)
  members_laid f dec dg no_marked_members p = refl
  members_laid f dec dg (marked_member k None t ms) p =
      let d : Path → List Text = λ q. dec (k ∷ q) in
      let v = lay d dg t in
      let xs = laid_given d dg t in
      let ys = laid_members dec dg ms in
      omega (
        arith,
        sum_of-append (λ (s : Site). f s.digest) (cond (bytes_eq k sd_name) [] (map (under (to_member k)) (sites v))) (member_sites (lay_members dec dg ms)),
        ap (λ b. site_sum f (cond b [] (map (under (to_member k)) (sites v)))) p.0,
        under_sum f (to_member k) (sites v),
        items_sum f xs [] ys,
        laid_sum f d dg t p.3,
        members_laid f dec dg ms p.4,
      )
  members_laid f dec dg (marked_member k (Some i) t ms) p =
      let d : Path → List Text = λ q. dec (k ∷ q) in
      let v = lay d dg t in
      let xs = laid_given d dg t in
      let own : List Given = record { digest = dg i; name = Some k; value = v } ∷ [] in
      let ys = laid_members dec dg ms in
      omega (
        arith,
        items_sum f xs own ys,
        laid_sum f d dg t p.3,
        members_laid f dec dg ms p.4,
      )

-- ---- all digests

values_all : (f : Text → ℕ) (i : ℕ) (g : List Given) → sum_of (λ (m : OwnedSite). f m.site.digest) (value_sites (λ x. true) i g) ≡ value_sum f g
values_all f i [] = refl
values_all f i (x ∷ g) =
    omega (
      arith,
      sum_of-append (λ (m : OwnedSite). f m.site.digest) (map (owned_site (value_of i)) (sites x.value)) (value_sites (λ x. true) (suc i) g),
      sum_of-map (λ (m : OwnedSite). f m.site.digest) (owned_site (value_of i)) (sites x.value),
      values_all f (suc i) g,
    )

pub all_sum : (f : Text → ℕ) (p : Tree) (g : List Given) → sum_of f (all_digests p g) ≡ site_sum f (sites p) + value_sum f g
all_sum f p g =
    omega (
      arith,
      sum_of-map f (λ (m : OwnedSite). m.site.digest) (all_sites p g),
      sum_of-append (λ (m : OwnedSite). f m.site.digest) (map (owned_site payload) (sites p)) (value_sites (λ x. true) 0 g),
      sum_of-map (λ (m : OwnedSite). f m.site.digest) (owned_site payload) (sites p),
      values_all f 0 g,
    )

pub occurs_is : (d : Text) (ds : List Text) → occurs d ds ≡ sum_of (λ e. cond (bytes_eq e d) 1 0) ds
occurs_is d [] = refl
occurs_is d (e ∷ ds) = ap (λ n. cond (bytes_eq e d) 1 0 + n) (occurs_is d ds)
