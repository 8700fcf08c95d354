-- The cursor goes over the numbers of a tree's digests.
use Rattle.std.proofs.Common.{◌≡◌, ℕ, zero, suc, ◌+◌, ◌<◌, List, [], ◌∷◌, ◌++◌, map, length, drop, Bool, true, false, cond, Option, Some, None, refl, ap, ap₂, ◌∙◌, subst, arith}
use Rattle.std.specs.Prelude.{bytes_eq, slice_index}
use Rattle.std.proofs.lemmas.List.{map-append}
use Rattle.claim_tree.specs.Tree.{Text, Tree, leaf, array, object, Elements, no_elements, element, Members, no_members, member, names}
use Rattle.digest_sites.specs.Reserved.{sd_name, sd_texts, element_digest}
use Rattle.digest_sites.specs.Sites.{Step, to_member, to_element, Site, sites, element_sites, member_sites, sites_on, own_site, under}
use Rattle.digest_sites.specs.SiteCalls.{digests}
use Rattle.digest_sites.specs.Given.{Given}
use Rattle.rebuild_core.specs.Cursor.{digests_on, tree_digests, elements_digests, members_digests, NumberTells, TellFirst}

-- ---- the digests of the sites are those of the tree

digests-under : (step : Step) (ss : List Site) → digests (map (under step) ss) ≡ digests ss
digests-under step [] = refl
digests-under step (s ∷ ss) = ap (λ ds. s.digest ∷ ds) (digests-under step ss)

digests-own : (beside : List Text) (ds : List Text) → digests (map (own_site beside) ds) ≡ ds
digests-own beside [] = refl
digests-own beside (d ∷ ds) = ap (λ es. d ∷ es) (digests-own beside ds)

digests-sites_on : (step : Step) (o : Option Text) (ss : List Site) (ds : List Text) → digests ss ≡ ds → digests (sites_on step o ss) ≡ digests_on o ds
digests-sites_on step None ss ds h = digests-under step ss ∙ h
digests-sites_on step (Some d) ss ds h = refl

digests-unless : (own : Bool) (step : Step) (ss : List Site) (ds : List Text) → digests ss ≡ ds → digests (cond own [] (map (under step) ss)) ≡ cond own [] ds
digests-unless true step ss ds h = refl
digests-unless false step ss ds h = digests-under step ss ∙ h

parts : (xs ys : List Site) (us vs : List Text) → digests xs ≡ us → digests ys ≡ vs → digests (xs ++ ys) ≡ us ++ vs
parts xs ys us vs g h = map-append (λ (s : Site). s.digest) xs ys ∙ ap₂ (λ (a b : List Text). a ++ b) g h

mutual
  pub digests-sites : (t : Tree) → digests (sites t) ≡ tree_digests t
  digests-sites (leaf l) = refl
  digests-sites (array es) = digests-element_sites 0 es
  digests-sites (object ms) =
      parts (map (own_site (names ms)) (sd_texts ms)) (member_sites ms) (sd_texts ms) (members_digests ms) (digests-own (names ms) (sd_texts ms)) (digests-member_sites ms)

  digests-element_sites : (i : ℕ) (es : Elements) → digests (element_sites i es) ≡ elements_digests es
  digests-element_sites i no_elements = refl
  digests-element_sites i (element t es) =
      parts (sites_on (to_element i) (element_digest t) (sites t)) (element_sites (suc i) es) (digests_on (element_digest t) (tree_digests t)) (elements_digests es)
      (digests-sites_on (to_element i) (element_digest t) (sites t) (tree_digests t) (digests-sites t)) (digests-element_sites (suc i) es)

  digests-member_sites : (ms : Members) → digests (member_sites ms) ≡ members_digests ms
  digests-member_sites no_members = refl
  digests-member_sites (member k t ms) =
      parts (cond (bytes_eq k sd_name) [] (map (under (to_member k)) (sites t))) (member_sites ms) (cond (bytes_eq k sd_name) [] (tree_digests t)) (members_digests ms)
      (digests-unless (bytes_eq k sd_name) (to_member k) (sites t) (tree_digests t) (digests-sites t)) (digests-member_sites ms)

-- ---- the first numbers, and those after them

pub first_part : (g : List Given) (ks : List ℕ) (ds es : List Text) → TellFirst g ks (ds ++ es) → TellFirst g ks ds
first_part g ks [] es h = tt
first_part g (k ∷ ks) (d ∷ ds) es h = (h.0, first_part g ks ds es h.1)
first_part g [] (d ∷ ds) es h = elim h [ ]

last_part : (g : List Given) (ks : List ℕ) (ds es : List Text) → TellFirst g ks (ds ++ es) → TellFirst g (drop (length ds) ks) es
last_part g ks [] es h = h
last_part g (k ∷ ks) (d ∷ ds) es h = last_part g ks ds es h.1
last_part g [] (d ∷ ds) es h = elim h [ ]

drop_twice : (a b : ℕ) (ks : List ℕ) → drop a (drop b ks) ≡ drop (b + a) ks
drop_twice a zero ks = let e : 0 + a ≡ a = omega arith in rw e refl
drop_twice a (suc b) (k ∷ ks) = let e : suc b + a ≡ suc (b + a) = omega arith in rw e (drop_twice a b ks)
drop_twice zero (suc b) [] = let e : suc b + 0 ≡ suc b = omega arith in rw e refl
drop_twice (suc a) (suc b) [] = let e : suc b + suc a ≡ suc (b + suc a) = omega arith in rw e refl

pub length-join : (xs ys : List Text) → length (xs ++ ys) ≡ length xs + length ys
length-join [] ys = omega arith
length-join (x ∷ xs) ys = omega (arith, length-join xs ys)

-- from the place `at` on, the numbers tell of the digests, and end at the place `end`
abbrev pub Goes : List Given → List ℕ → List Text → ℕ → ℕ → Type 0
Goes g ks ds at end = TellFirst g (drop at ks) ds × (at + length ds ≡ end)

pub goes_past : (g : List Given) (ks : List ℕ) (ds es : List Text) (at next end : ℕ) → Goes g ks (ds ++ es) at end → next ≡ at + length ds → Goes g ks es next end
goes_past g ks ds es at next end h q =
    let rest : TellFirst g (drop (length ds) (drop at ks)) es = last_part g (drop at ks) ds es h.0 in
    rw q (subst (λ z. TellFirst g z es) (drop_twice (length ds) at ks) rest, omega (arith, h.1, length-join ds es))

-- the number at the cursor
pub record IsTold (g : List Given) (ks : List ℕ) (at : ℕ) (d : Text) : Type 0 where
  pub within : at < length ks
  pub tells : NumberTells g (slice_index ks at) d

pub told_here : (g : List Given) (d : Text) (ds : List Text) (at : ℕ) (ks : List ℕ) → TellFirst g (drop at ks) (d ∷ ds) → IsTold g ks at d
told_here g d ds zero (k ∷ ks) h = record { within = omega arith; tells = h.0 }
told_here g d ds (suc at) (k ∷ ks) h = let w = told_here g d ds at ks h in record { within = omega (arith, w.within); tells = w.tells }
told_here g d ds zero [] h = elim h [ ]
told_here g d ds (suc at) [] h = elim h [ ]
