-- Rows of members have one object where their sites lie in one.
use Rattle.std.proofs.Common.{◌≡◌, ℕ, suc, ◌+◌, ◌<◌, ◌≤◌, List, [], ◌∷◌, ◌++◌, map, length, Bool, true, false, Option, Some, None, bytes_eq, inl, inr, ⊎_elim, refl, sym, ap, ap₂, ◌∙◌, subst, arith}
use Rattle.std.specs.Prelude.{if◌then◌else◌}
use Rattle.std.proofs.lemmas.List.{length-append, length-map}
use Rattle.claim_tree.specs.Tree.{Text, Tree, leaf, array, object, Elements, no_elements, element, Members, no_members, member, names, IsOrdered, ElementsOrdered, MembersOrdered}
use Rattle.sd_outside.specs.Lists.{In}
use Rattle.sd_outside.proofs.Lists.{In-append, In-of_map}
use Rattle.digest_sites.specs.Reserved.{sd_name, sd_texts, element_digest}
use Rattle.digest_sites.specs.Sites.{Site, Step, to_member, to_element, sites, element_sites, member_sites, sites_on, element_site, under, own_site}
use Rattle.digest_sites.specs.declared.site.SiteKind.{SiteKind}
use Rattle.digest_sites.specs.declared.site.SiteKind.TheVariants.{Member, Element}
use Rattle.rebuild_core.specs.Rows.{SeenRow, own_row, rows_on, tree_rows, element_rows, member_rows}
use Rattle.marked_tree.proofs.Puts.{IsBeforeAll-not_in}
use Rattle.rebuild_core.proofs.SideBySide.{Both, both_left, both_right, both_append, both_map}

-- these rows have numbers of objects from low to below high, and members have one number where their keys are one
pub record IsLaid {X K : Type 0} (kind : X → SiteKind) (key : X → K) (xs : List X) (rs : List SeenRow) (low high : ℕ) : Type 0 where
  pub length : length xs ≡ length rs
  pub within : (r : SeenRow) → In r rs → (low ≤ r.object) × (r.object < high)
  pub joins : (x y : X) (r v : SeenRow) → Both xs rs x r → Both xs rs y v → kind x ≡ Member → kind y ≡ Member → key x ≡ key y → r.object ≡ v.object
  pub parts : (x y : X) (r v : SeenRow) → Both xs rs x r → Both xs rs y v → kind x ≡ Member → kind y ≡ Member → r.object ≡ v.object → key x ≡ key y

pub laid_none : {X K : Type 0} (kind : X → SiteKind) (key : X → K) (low high : ℕ) → IsLaid kind key [] [] low high
laid_none kind key low high = record {
  length = refl;
  within = λ r h. elim h [ ];
  joins = λ x y r v h. elim h [ ];
  parts = λ x y r v h. elim h [ ];
}

pub laid_wider : {X K : Type 0} (kind : X → SiteKind) (key : X → K) (xs : List X) (rs : List SeenRow) (low high more : ℕ) → high ≤ more → IsLaid kind key xs rs low high → IsLaid kind key xs rs low more
laid_wider kind key xs rs low high more l h = record {
  length = h.length;
  within = λ r i. let w = h.within r i in (w.0, omega (arith, w.1, l));
  joins = h.joins;
  parts = h.parts;
}

pub laid_append : {X K : Type 0} (kind : X → SiteKind) (key : X → K) (xs us : List X) (rs vs : List SeenRow) (low mid high : ℕ) → low ≤ mid → mid ≤ high
    → IsLaid kind key xs rs low mid → IsLaid kind key us vs mid high → ((x y : X) → In x xs → In y us → key x ≡ key y → ⊥) → IsLaid kind key (xs ++ us) (rs ++ vs) low high
laid_append {X} kind key xs us rs vs low mid high a b g h apart = record {
  length = length-append xs us ∙ (ap₂ (λ (n m : ℕ). n + m) g.length h.length ∙ sym (length-append rs vs));
  within = λ r i. ⊎_elim (λ l. let w = g.within r l in (w.0, omega (arith, w.1, b))) (λ l. let w = h.within r l in (omega (arith, w.0, a), w.1)) (In-append r rs vs i);
  joins = λ x y r v i j m n e. ⊎_elim
      (λ l. ⊎_elim (λ k. g.joins x y r v l k m n e) (λ k. absurd (apart x y (both_left xs rs x r l) (both_left us vs y v k) e)) (both_append xs us rs vs y v g.length j))
      (λ l. ⊎_elim (λ k. absurd (apart y x (both_left xs rs y v k) (both_left us vs x r l) (sym e))) (λ k. h.joins x y r v l k m n e) (both_append xs us rs vs y v g.length j))
      (both_append xs us rs vs x r g.length i);
  parts = λ x y r v i j m n e. ⊎_elim
      (λ l. ⊎_elim (λ k. g.parts x y r v l k m n e) (λ k. absurd (omega (arith, e, (g.within r (both_right xs rs x r l)).1, (h.within v (both_right us vs y v k)).0))) (both_append xs us rs vs y v g.length j))
      (λ l. ⊎_elim (λ k. absurd (omega (arith, e, (g.within v (both_right xs rs y v k)).1, (h.within r (both_right us vs x r l)).0))) (λ k. h.parts x y r v l k m n e) (both_append xs us rs vs y v g.length j))
      (both_append xs us rs vs x r g.length i);
}

pub laid_map : {X Z K L : Type 0} (kind : X → SiteKind) (key : X → K) (kind' : Z → SiteKind) (key' : Z → L) (f : X → Z)
    → ((x : X) → kind' (f x) ≡ kind x) → ((x y : X) → key' (f x) ≡ key' (f y) → key x ≡ key y) → ((x y : X) → key x ≡ key y → key' (f x) ≡ key' (f y))
    → (xs : List X) (rs : List SeenRow) (low high : ℕ) → IsLaid kind key xs rs low high → IsLaid kind' key' (map f xs) rs low high
laid_map kind key kind' key' f kinds back forth xs rs low high h = record {
  length = length-map xs f ∙ h.length;
  within = h.within;
  joins = λ x y r v i j m n e.
      let a = both_map f xs rs x r i in
      let b = both_map f xs rs y v j in
      h.joins a.0 b.0 r v a.2 b.2 (sym (kinds a.0) ∙ ap kind' (sym a.1) ∙ m) (sym (kinds b.0) ∙ ap kind' (sym b.1) ∙ n) (back a.0 b.0 (ap key' (sym a.1) ∙ e ∙ ap key' b.1));
  parts = λ x y r v i j m n e.
      let a = both_map f xs rs x r i in
      let b = both_map f xs rs y v j in
      ap key' a.1 ∙ forth a.0 b.0 (h.parts a.0 b.0 r v a.2 b.2 (sym (kinds a.0) ∙ ap kind' (sym a.1) ∙ m) (sym (kinds b.0) ∙ ap kind' (sym b.1) ∙ n) e) ∙ ap key' (sym b.1);
}

-- ---- the sites of a tree

abbrev pub site_kind : Site → SiteKind
site_kind s = s.kind

abbrev pub site_at : Site → List Step
site_at s = s.at

some_there : {X : Type 0} (x : X) (xs : List X) → In x xs → 0 < length xs
some_there x (y ∷ xs) h = omega arith
some_there x [] h = elim h [ ]

-- those of an object's own digests
own_laid : (top : Bool) (n : ℕ) (beside others ds : List Text) → IsLaid site_kind site_at (map (own_site beside) ds) (map (own_row top n others) ds) n (n + length ds)
own_laid top n beside others ds = record {
  length = length-map ds (own_site beside) ∙ sym (length-map ds (own_row top n others));
  within = λ r i. let w = In-of_map (own_row top n others) r ds i in (omega (arith, number r i), omega (arith, number r i, some_there w.0 ds w.1));
  joins = λ x y r v i j m l e. number r (both_right _ _ x r i) ∙ sym (number v (both_right _ _ y v j));
  parts = λ x y r v i j m l e. place x (both_left _ _ x r i) ∙ sym (place y (both_left _ _ y v j));
}
  where
    number : (r : SeenRow) → In r (map (own_row top n others) ds) → r.object ≡ n
    number r i = let w = In-of_map (own_row top n others) r ds i in ap (λ (z : SeenRow). z.object) w.2

    place : (s : Site) → In s (map (own_site beside) ds) → s.at ≡ []
    place s i = let w = In-of_map (own_site beside) s ds i in ap (λ (z : Site). z.at) w.2

under_laid : (step : Step) (ss : List Site) (rs : List SeenRow) (low high : ℕ) → IsLaid site_kind site_at ss rs low high → IsLaid site_kind site_at (map (under step) ss) rs low high
under_laid step ss rs low high h = laid_map site_kind site_at site_kind site_at (under step) (λ x. refl) (λ x y e. let z : x.at ≡ y.at = cc in z) (λ x y e. ap (λ (z : List Step). step ∷ z) e) ss rs low high h

abbrev element_row : ℕ → Text → SeenRow
element_row n d = record { kind = Element; digest = d; beside = []; top = false; object = n }

-- one for an element with a digest stands for no member
element_laid : (step : Step) (n : ℕ) (d : Text) → IsLaid site_kind site_at (element_site step d ∷ []) (element_row n d ∷ []) n (n + 1)
element_laid step n d = record {
  length = refl;
  within = λ r i. ⊎_elim (λ e. let o : r.object ≡ n = ap (λ (z : SeenRow). z.object) e in (omega (arith, o), omega (arith, o))) (λ z. elim z [ ]) i;
  joins = λ x y r v i j m. absurd (no_member x (both_left (element_site step d ∷ []) (element_row n d ∷ []) x r i) m);
  parts = λ x y r v i j m. absurd (no_member x (both_left (element_site step d ∷ []) (element_row n d ∷ []) x r i) m);
}
  where
    no_member : (s : Site) → In s (element_site step d ∷ []) → s.kind ≡ Member → ⊥
    no_member s (inl e) m = let z : Element ≡ Member = ap (λ (z : Site). z.kind) (sym e) ∙ m in cc
    no_member s (inr h) m = elim h [ ]

on_laid : (i n : ℕ) (digest : Option Text) (ss : List Site) (rs : List SeenRow) → IsLaid site_kind site_at ss rs n (n + length rs)
    → IsLaid site_kind site_at (sites_on (to_element i) digest ss) (rows_on n digest rs) n (n + length (rows_on n digest rs))
on_laid i n None ss rs h = under_laid (to_element i) ss rs n (n + length rs) h
on_laid i n (Some d) ss rs h = element_laid (to_element i) n d

in_laid : (own : Bool) (name : Text) (n : ℕ) (ss : List Site) (rs : List SeenRow) → IsLaid site_kind site_at ss rs n (n + length rs)
    → IsLaid site_kind site_at (if own then [] else map (under (to_member name)) ss) (if own then [] else rs) n (n + length (if own then [] else rs))
in_laid true name n ss rs h = laid_none site_kind site_at n (n + 0)
in_laid false name n ss rs h = under_laid (to_member name) ss rs n (n + length rs) h

-- ---- where they start

abbrev pub Starts : Step → Site → Type 0
Starts step s = (rest : List Step) × (s.at ≡ step ∷ rest)

under_starts : (step : Step) (ss : List Site) (s : Site) → In s (map (under step) ss) → Starts step s
under_starts step ss s h = let w = In-of_map (under step) s ss h in (w.0.at, ap (λ (z : Site). z.at) w.2)

pub on_starts : (step : Step) (digest : Option Text) (ss : List Site) (s : Site) → In s (sites_on step digest ss) → Starts step s
on_starts step None ss s h = under_starts step ss s h
on_starts step (Some d) ss s (inl e) = ([], ap (λ (z : Site). z.at) e)
on_starts step (Some d) ss s (inr h) = elim h [ ]

pub in_starts : (own : Bool) (name : Text) (ss : List Site) (s : Site) → In s (if own then [] else map (under (to_member name)) ss) → Starts (to_member name) s
in_starts true name ss s h = elim h [ ]
in_starts false name ss s h = under_starts (to_member name) ss s h

pub element_starts : (i : ℕ) (es : Elements) (s : Site) → In s (element_sites i es) → (j : ℕ) × (i ≤ j) × Starts (to_element j) s
element_starts i no_elements s h = elim h [ ]
element_starts i (element t es) s h = ⊎_elim
    (λ l. (i, omega arith, on_starts (to_element i) (element_digest t) (sites t) s l))
    (λ r. let w = element_starts (suc i) es s r in (w.0, omega (arith, w.1), w.2))
    (In-append s (sites_on (to_element i) (element_digest t) (sites t)) (element_sites (suc i) es) h)

pub member_starts : (ms : Members) (s : Site) → In s (member_sites ms) → (name : Text) × In name (names ms) × Starts (to_member name) s
member_starts no_members s h = elim h [ ]
member_starts (member name t ms) s h = ⊎_elim
    (λ l. (name, inl refl, in_starts (bytes_eq name sd_name) name (sites t) s l))
    (λ r. let w = member_starts ms s r in (w.0, inr w.1, w.2))
    (In-append s (if bytes_eq name sd_name then [] else map (under (to_member name)) (sites t)) (member_sites ms) h)

pub same_step : (step other : Step) (s u : Site) → Starts step s → Starts other u → s.at ≡ u.at → step ≡ other
same_step step other s u a b e = let z : (step ∷ a.0) ≡ (other ∷ b.0) = sym a.1 ∙ e ∙ b.1 in cc

-- ---- a tree

own_place : (beside ds : List Text) (s : Site) → In s (map (own_site beside) ds) → s.at ≡ []
own_place beside ds s h = let w = In-of_map (own_site beside) s ds h in ap (λ (z : Site). z.at) w.2

pub object_laid : (top : Bool) (n : ℕ) (beside others ds : List Text) (ms : Members) (rs : List SeenRow) → IsLaid site_kind site_at (member_sites ms) rs (n + length ds) ((n + length ds) + length rs)
    → IsLaid site_kind site_at (map (own_site beside) ds ++ member_sites ms) (map (own_row top n others) ds ++ rs) n (n + length (map (own_row top n others) ds ++ rs))
object_laid top n beside others ds ms rs h =
    let whole = length-append (map (own_row top n others) ds) rs in
    let own = length-map ds (own_row top n others) in
    laid_wider site_kind site_at _ _ n ((n + length ds) + length rs) _ (omega (arith, whole, own))
    (laid_append site_kind site_at (map (own_site beside) ds) (member_sites ms) (map (own_row top n others) ds) rs n (n + length ds) ((n + length ds) + length rs) (omega arith) (omega arith) (own_laid top n beside others ds) h
    (λ s u a b e. let w = member_starts ms u b in let z : [] ≡ (to_member w.0 ∷ w.2.0) = sym (own_place beside ds s a) ∙ e ∙ w.2.1 in cc))

mutual
  pub tree_laid : (top : Bool) (n : ℕ) (t : Tree) → IsOrdered t → IsLaid site_kind site_at (sites t) (tree_rows top n t) n (n + length (tree_rows top n t))
  tree_laid top n (leaf l) o = laid_none site_kind site_at n (n + 0)
  tree_laid top n (array es) o = elements_laid n 0 es o
  tree_laid top n (object ms) o = object_laid top n (names ms) _ (sd_texts ms) ms (member_rows (n + length (sd_texts ms)) ms) (members_laid (n + length (sd_texts ms)) ms o)

  elements_laid : (n i : ℕ) (es : Elements) → ElementsOrdered es → IsLaid site_kind site_at (element_sites i es) (element_rows n es) n (n + length (element_rows n es))
  elements_laid n i no_elements o = laid_none site_kind site_at n (n + 0)
  elements_laid n i (element t es) o =
      let here = rows_on n (element_digest t) (tree_rows false n t) in
      let rest = element_rows (n + length here) es in
      laid_wider site_kind site_at _ _ n ((n + length here) + length rest) _ (omega (arith, length-append here rest))
      (laid_append site_kind site_at (sites_on (to_element i) (element_digest t) (sites t)) (element_sites (suc i) es) here rest n (n + length here) ((n + length here) + length rest) (omega arith) (omega arith)
      (on_laid i n (element_digest t) (sites t) (tree_rows false n t) (tree_laid false n t o.0)) (elements_laid (n + length here) (suc i) es o.1)
      (λ s u a b e.
      let w = element_starts (suc i) es u b in
      let z = same_step (to_element i) (to_element w.0) s u (on_starts (to_element i) (element_digest t) (sites t) s a) w.2 e in
      let y : i ≡ w.0 = cc in
      omega (arith, y, w.1)))

  pub members_laid : (n : ℕ) (ms : Members) → MembersOrdered ms → IsLaid site_kind site_at (member_sites ms) (member_rows n ms) n (n + length (member_rows n ms))
  members_laid n no_members o = laid_none site_kind site_at n (n + 0)
  members_laid n (member name t ms) o =
      let here = if bytes_eq name sd_name then [] else tree_rows false n t in
      let rest = member_rows (n + length here) ms in
      laid_wider site_kind site_at _ _ n ((n + length here) + length rest) _ (omega (arith, length-append here rest))
      (laid_append site_kind site_at (if bytes_eq name sd_name then [] else map (under (to_member name)) (sites t)) (member_sites ms) here rest n (n + length here) ((n + length here) + length rest) (omega arith) (omega arith)
      (in_laid (bytes_eq name sd_name) name n (sites t) (tree_rows false n t) (tree_laid false n t o.1)) (members_laid (n + length here) ms o.2)
      (λ s u a b e.
      let w = member_starts ms u b in
      let z = same_step (to_member name) (to_member w.0) s u (in_starts (bytes_eq name sd_name) name (sites t) s a) w.2 e in
      let y : w.0 ≡ name = cc in
      IsBeforeAll-not_in name (names ms) o.0 (subst (λ v. In v (names ms)) y w.1)))
