-- Sites whose disclosures fit: their kinds, and names that are new in their object.
use Rattle.std.proofs.Common.{◌≡◌, ℕ, suc, List, [], ◌∷◌, ◌++◌, map, Bool, true, false, cond, ◌⊎◌, inl, inr, ⊎_elim, Option, Some, None, option_map, refl, sym, ap, ap₂, ◌∙◌, subst}
use Rattle.std.specs.Prelude.{bytes_eq}
use Rattle.claim_tree.specs.Tree.{Text, Tree, leaf, array, object, Elements, no_elements, element, Members, no_members, member, names, IsBeforeAll, IsOrdered, MembersOrdered, ElementsOrdered}
use Rattle.sd_outside.specs.Lists.{In}
use Rattle.digest_sites.specs.Reserved.{sd_name, sd_texts, element_digest}
use Rattle.digest_sites.specs.Sites.{Step, to_member, to_element, Site, sites, element_sites, member_sites, sites_on, own_site, element_site, under}
use Rattle.digest_sites.specs.declared.site.SiteKind.{SiteKind}
use Rattle.digest_sites.specs.declared.site.SiteKind.TheVariants.{Member}
use Rattle.marked_tree.specs.Marked.{Marked, MarkedElements, MarkedMembers, marked_member, marked_element, marked_array, marked_object, remark, remark_elements, remark_members, keep_element}
use Rattle.marked_tree.specs.MarkedCalls.{marked_names}
use Rattle.rebuild_core.specs.Opening.{Shown, nothing_shown, shown, open_tree, open_elements, open_members, open_element, show_members, show_element, show_member}
use Rattle.rebuild_core.specs.Conditions.{IsWrong}
use Rattle.rebuild_core.specs.Whole.{IsNew, AllNew}
use Rattle.sd_outside.proofs.Lists.{In-left, In-right, In-append, In-map, In-of_map}
use Rattle.rebuild_core.proofs.Agree.{Each, Each-left, Each-right, Each-under, Each-own, Each-rest}
use Rattle.marked_tree.proofs.Names.{Ascend}
use Rattle.marked_tree.proofs.Puts.{put_names, put_ascending, put_kept, remark_put}

-- R holds of each element and each later one
abbrev pub Pairwise : {X : Type 0} → (X → X → Type 0) → List X → Type 0
Pairwise R [] = Unit {0}
Pairwise {X} R (x ∷ xs) = ((y : X) → In y xs → R x y) × Pairwise R xs

pub Pairwise-left : {X : Type 0} (R : X → X → Type 0) (xs ys : List X) → Pairwise R (xs ++ ys) → Pairwise R xs
Pairwise-left R [] ys h = tt
Pairwise-left R (x ∷ xs) ys h = (λ y m. h.0 y (In-left y xs ys m), Pairwise-left R xs ys h.1)

pub Pairwise-right : {X : Type 0} (R : X → X → Type 0) (xs ys : List X) → Pairwise R (xs ++ ys) → Pairwise R ys
Pairwise-right R [] ys h = h
Pairwise-right R (x ∷ xs) ys h = Pairwise-right R xs ys h.1

pub Pairwise-join : {X : Type 0} (R : X → X → Type 0) (xs ys : List X) → Pairwise R xs → Pairwise R ys → ((x y : X) → In x xs → In y ys → R x y) → Pairwise R (xs ++ ys)
Pairwise-join R [] ys h k cross = k
Pairwise-join R (x ∷ xs) ys h k cross = (
  (λ y m. ⊎_elim (λ a. h.0 y a) (λ b. cross x y (inl refl) b) (In-append y xs ys m)),
  Pairwise-join R xs ys h.1 k (λ a b m n. cross a b (inr m) n),
)

-- from a list to its image, and back
pub Pairwise-map : {X Y : Type 0} (R : X → X → Type 0) (Q : Y → Y → Type 0) (f : X → Y) → ((x y : X) → R x y → Q (f x) (f y)) → (xs : List X) → Pairwise R xs → Pairwise Q (map f xs)
Pairwise-map R Q f h [] k = tt
Pairwise-map R Q f h (x ∷ xs) k = (
  (λ y m. let w = In-of_map f y xs m in subst (λ z. Q (f x) z) (sym w.2) (h x w.0 (k.0 w.0 w.1))),
  Pairwise-map R Q f h xs k.1,
)

pub Pairwise-of_map : {X Y : Type 0} (R : X → X → Type 0) (Q : Y → Y → Type 0) (f : X → Y) → ((x y : X) → Q (f x) (f y) → R x y) → (xs : List X) → Pairwise Q (map f xs) → Pairwise R xs
Pairwise-of_map R Q f h [] k = tt
Pairwise-of_map R Q f h (x ∷ xs) k = ((λ y m. h x y (k.0 (f y) (In-map f y xs m))), Pairwise-of_map R Q f h xs k.1)

abbrev pub Suits : SiteKind → Shown → Type 0
Suits k nothing_shown = Unit {0}
Suits k (shown i n t) = IsWrong k n → ⊥

abbrev pub Names : Shown → Text → Type 0
Names nothing_shown k = ⊥
Names (shown i n t) k = n ≡ Some k

-- two member sites of one object do not disclose one name
abbrev pub NamesApart : (Text → Shown) → Site → Site → Type 0
NamesApart r s e = s.at ≡ e.at → s.kind ≡ Member → e.kind ≡ Member → (k : Text) → Names (r s.digest) k → Names (r e.digest) k → ⊥

pub record AreFit (r : Text → Shown) (ss : List Site) : Type 0 where
  pub suits : (s : Site) → In s ss → Suits s.kind (r s.digest)
  pub fresh : (s : Site) → In s ss → s.kind ≡ Member → (k : Text) → Names (r s.digest) k → In k s.beside → ⊥
  pub apart : Pairwise (NamesApart r) ss

pub fit_left : (r : Text → Shown) (xs ys : List Site) → AreFit r (xs ++ ys) → AreFit r xs
fit_left r xs ys h = record {
  suits = λ s m. h.suits s (In-left s xs ys m);
  fresh = λ s m. h.fresh s (In-left s xs ys m);
  apart = Pairwise-left (NamesApart r) xs ys h.apart;
}

pub fit_right : (r : Text → Shown) (xs ys : List Site) → AreFit r (xs ++ ys) → AreFit r ys
fit_right r xs ys h = record {
  suits = λ s m. h.suits s (In-right s xs ys m);
  fresh = λ s m. h.fresh s (In-right s xs ys m);
  apart = Pairwise-right (NamesApart r) xs ys h.apart;
}

pub fit_under : (r : Text → Shown) (k : Step) (ss : List Site) → AreFit r (map (under k) ss) → AreFit r ss
fit_under r k ss h = record {
  suits = λ s m. h.suits (under k s) (In-map (under k) s ss m);
  fresh = λ s m. h.fresh (under k s) (In-map (under k) s ss m);
  apart = Pairwise-of_map (NamesApart r) (NamesApart r) (under k) (λ s e q same. q (ap (λ (p : List Step). k ∷ p) same)) ss h.apart;
}

show_names : (x : Shown) (ms : MarkedMembers) (k : Text) → In k (marked_names (show_member x ms)) → Names x k ⊎ In k (marked_names ms)
show_names nothing_shown ms k m = inr m
show_names (shown i None t) ms k m = inr m
show_names (shown i (Some l) t) ms k m = ⊎_elim (λ e. inl (ap Some (sym e))) (λ z. inr z) (put_names l (Some i) t ms k m)

is_new : (x : Shown) (ms : MarkedMembers) → Suits Member x → ((k : Text) → Names x k → In k (marked_names ms) → ⊥) → IsNew x ms
is_new nothing_shown ms s h = tt
is_new (shown i None t) ms s h = s tt
is_new (shown i (Some k) t) ms s h = h k refl

all_new : (r : Text → Shown) (ks : List Text) (ds : List Text) (ms : MarkedMembers) → AreFit r (map (own_site ks) ds)
    → ((d : Text) → In d ds → (k : Text) → Names (r d) k → In k (marked_names ms) → ⊥) → AllNew r ds ms
all_new r ks [] ms h out = tt
all_new r ks (d ∷ ds) ms h out = (
  is_new (r d) ms (h.suits (own_site ks d) (inl refl)) (out d (inl refl)),
  all_new r ks ds (show_member (r d) ms)
      (record { suits = λ s m. h.suits s (inr m); fresh = λ s m. h.fresh s (inr m); apart = h.apart.1 })
      (λ e m k n i.
      ⊎_elim (λ a. h.apart.0 (own_site ks e) (In-map (own_site ks) e ds m) refl refl refl k a n)
      (λ b. out e (inr m) k n b) (show_names (r d) ms k i)),
)

open_names : (r : Text → Shown) (ms : Members) (k : Text) → In k (marked_names (open_members r ms)) → In k (names ms)
open_names r no_members k h = h
open_names r (member l t ms) k h = go (bytes_eq l sd_name) h (open_names r ms k)
  where
    go : (b : Bool) → In k (marked_names (cond b (open_members r ms) (marked_member l None (open_tree r t) (open_members r ms))))
        → (In k (marked_names (open_members r ms)) → In k (names ms)) → In k (l ∷ names ms)
    go true m ih = inr (ih m)
    go false (inl e) ih = inl e
    go false (inr m) ih = inr (ih m)

pub object_new : (r : Text → Shown) (ms : Members) → AreFit r (sites (object ms)) → AllNew r (sd_texts ms) (open_members r ms)
object_new r ms h =
    let own = fit_left r (map (own_site (names ms)) (sd_texts ms)) (member_sites ms) h in
    all_new r (names ms) (sd_texts ms) (open_members r ms) own
    (λ d m k n i. own.fresh (own_site (names ms) d) (In-map (own_site (names ms)) d (sd_texts ms) m) refl k n (open_names r ms k i))

open_after : (r : Text → Shown) (n : Text) (ms : Members) → IsBeforeAll n (names ms) → IsBeforeAll n (marked_names (open_members r ms))
open_after r n no_members a = tt
open_after r n (member l t ms) a = go (bytes_eq l sd_name) (open_after r n ms a.1)
  where
    go : (b : Bool) → IsBeforeAll n (marked_names (open_members r ms)) → IsBeforeAll n (marked_names (cond b (open_members r ms) (marked_member l None (open_tree r t) (open_members r ms))))
    go true ih = ih
    go false ih = (a.0, ih)

pub open_ascending : (r : Text → Shown) (ms : Members) → MembersOrdered ms → Ascend (marked_names (open_members r ms))
open_ascending r no_members a = tt
open_ascending r (member l t ms) a = go (bytes_eq l sd_name) (open_ascending r ms a.2)
  where
    go : (b : Bool) → Ascend (marked_names (open_members r ms)) → Ascend (marked_names (cond b (open_members r ms) (marked_member l None (open_tree r t) (open_members r ms))))
    go true ih = ih
    go false ih = (open_after r l ms a.0, ih)

-- ---- leaving out marks

abbrev pub reshown_as : Option ℕ → Option Text → Marked → Shown
reshown_as None n t = nothing_shown
reshown_as (Some i) n t = shown i n t

abbrev pub reshown : (ℕ → Option ℕ) → Shown → Shown
reshown f nothing_shown = nothing_shown
reshown f (shown i n t) = reshown_as (f i) n (remark f t)

pub show_ascending : (x : Shown) (ms : MarkedMembers) → Ascend (marked_names ms) → Ascend (marked_names (show_member x ms))
show_ascending nothing_shown ms a = a
show_ascending (shown i None t) ms a = a
show_ascending (shown i (Some k) t) ms a = put_ascending k (Some i) t ms a

remark_show : (f : ℕ → Option ℕ) (x : Shown) (ms : MarkedMembers) → Ascend (marked_names ms) → IsNew x ms
    → remark_members f (show_member x ms) ≡ show_member (reshown f x) (remark_members f ms)
remark_show f nothing_shown ms a new = refl
remark_show f (shown i None t) ms a new = absurd new
remark_show f (shown i (Some k) t) ms a new = remark_put f k (Some i) t ms a new ∙ go (f i)
  where
    go : (o : Option ℕ) → put_kept k (option_map Some o) (remark f t) (remark_members f ms) ≡ show_member (reshown_as o (Some k) (remark f t)) (remark_members f ms)
    go None = refl
    go (Some j) = refl

remark_shows : (f : ℕ → Option ℕ) (r q : Text → Shown) (ks : List Text) (ds : List Text) (ms : MarkedMembers)
    → Ascend (marked_names ms) → AllNew r ds ms → Each (λ d. q d ≡ reshown f (r d)) (map (own_site ks) ds)
    → remark_members f (show_members r ds ms) ≡ show_members q ds (remark_members f ms)
remark_shows f r q ks [] ms a new h = refl
remark_shows f r q ks (d ∷ ds) ms a new h =
    remark_shows f r q ks ds (show_member (r d) ms) (show_ascending (r d) ms a) new.1 (Each-rest (λ d. q d ≡ reshown f (r d)) ks d ds h)
    ∙ ap (show_members q ds) (remark_show f (r d) ms a new.0 ∙ ap (λ x. show_member x (remark_members f ms)) (sym (Each-own (λ d. q d ≡ reshown f (r d)) ks d ds h)))

remark_show_element : (f : ℕ → Option ℕ) (x : Shown) (es : MarkedElements) → remark_elements f (show_element x es) ≡ show_element (reshown f x) (remark_elements f es)
remark_show_element f nothing_shown es = refl
remark_show_element f (shown i None t) es = go (f i)
  where
    go : (o : Option ℕ) → keep_element (option_map Some o) (remark f t) (remark_elements f es) ≡ show_element (reshown_as o None (remark f t)) (remark_elements f es)
    go None = refl
    go (Some j) = refl
remark_show_element f (shown i (Some k) t) es = go (f i)
  where
    go : (o : Option ℕ) → remark_elements f es ≡ show_element (reshown_as o (Some k) (remark f t)) (remark_elements f es)
    go None = refl
    go (Some j) = refl

remark_element : (f : ℕ → Option ℕ) (r q : Text → Shown) (step : Step) (o : Option Text) (inside : List Site) (t u : Marked) (es fs : MarkedElements)
    → AreFit r (sites_on step o inside) → Each (λ d. q d ≡ reshown f (r d)) (sites_on step o inside)
    → (AreFit r inside → Each (λ d. q d ≡ reshown f (r d)) inside → remark f t ≡ u) → remark_elements f es ≡ fs
    → remark_elements f (open_element r o t es) ≡ open_element q o u fs
remark_element f r q step None inside t u es fs fit h same rest =
    ap₂ (marked_element None) (same (fit_under r step inside fit) (Each-under (λ d. q d ≡ reshown f (r d)) step inside h)) rest
remark_element f r q step (Some d) inside t u es fs fit h same rest =
    remark_show_element f (r d) es ∙ ap₂ show_element (sym (h (element_site step d) (inl refl))) rest

remark_member : (f : ℕ → Option ℕ) (r q : Text → Shown) (k : Text) (b : Bool) (inside : List Site) (t u : Marked) (ms ns : MarkedMembers)
    → AreFit r (cond b [] (map (under (to_member k)) inside)) → Each (λ d. q d ≡ reshown f (r d)) (cond b [] (map (under (to_member k)) inside))
    → (AreFit r inside → Each (λ d. q d ≡ reshown f (r d)) inside → remark f t ≡ u) → remark_members f ms ≡ ns
    → remark_members f (cond b ms (marked_member k None t ms)) ≡ cond b ns (marked_member k None u ns)
remark_member f r q k true inside t u ms ns fit h same rest = rest
remark_member f r q k false inside t u ms ns fit h same rest =
    ap₂ (marked_member k None) (same (fit_under r (to_member k) inside fit) (Each-under (λ d. q d ≡ reshown f (r d)) (to_member k) inside h)) rest

mutual
  pub remark_open : (f : ℕ → Option ℕ) (r q : Text → Shown) (t : Tree) → IsOrdered t → AreFit r (sites t) → Each (λ d. q d ≡ reshown f (r d)) (sites t)
      → remark f (open_tree r t) ≡ open_tree q t
  remark_open f r q (leaf l) ord fit h = refl
  remark_open f r q (array es) ord fit h = ap marked_array (remark_open_elements f r q 0 es ord fit h)
  remark_open f r q (object ms) ord fit h =
      ap marked_object
      (remark_shows f r q (names ms) (sd_texts ms) (open_members r ms) (open_ascending r ms ord) (object_new r ms fit)
      (Each-left (λ d. q d ≡ reshown f (r d)) (map (own_site (names ms)) (sd_texts ms)) (member_sites ms) h)
      ∙ ap (show_members q (sd_texts ms))
      (remark_open_members f r q ms ord
      (fit_right r (map (own_site (names ms)) (sd_texts ms)) (member_sites ms) fit)
      (Each-right (λ d. q d ≡ reshown f (r d)) (map (own_site (names ms)) (sd_texts ms)) (member_sites ms) h)))

  remark_open_elements : (f : ℕ → Option ℕ) (r q : Text → Shown) (i : ℕ) (es : Elements) → ElementsOrdered es → AreFit r (element_sites i es)
      → Each (λ d. q d ≡ reshown f (r d)) (element_sites i es) → remark_elements f (open_elements r es) ≡ open_elements q es
  remark_open_elements f r q i no_elements ord fit h = refl
  remark_open_elements f r q i (element t es) ord fit h =
      remark_element f r q (to_element i) (element_digest t) (sites t) (open_tree r t) (open_tree q t) (open_elements r es) (open_elements q es)
      (fit_left r (sites_on (to_element i) (element_digest t) (sites t)) (element_sites (suc i) es) fit)
      (Each-left (λ d. q d ≡ reshown f (r d)) (sites_on (to_element i) (element_digest t) (sites t)) (element_sites (suc i) es) h)
      (remark_open f r q t ord.0)
      (remark_open_elements f r q (suc i) es ord.1
      (fit_right r (sites_on (to_element i) (element_digest t) (sites t)) (element_sites (suc i) es) fit)
      (Each-right (λ d. q d ≡ reshown f (r d)) (sites_on (to_element i) (element_digest t) (sites t)) (element_sites (suc i) es) h))

  remark_open_members : (f : ℕ → Option ℕ) (r q : Text → Shown) (ms : Members) → MembersOrdered ms → AreFit r (member_sites ms)
      → Each (λ d. q d ≡ reshown f (r d)) (member_sites ms) → remark_members f (open_members r ms) ≡ open_members q ms
  remark_open_members f r q no_members ord fit h = refl
  remark_open_members f r q (member k t ms) ord fit h =
      remark_member f r q k (bytes_eq k sd_name) (sites t) (open_tree r t) (open_tree q t) (open_members r ms) (open_members q ms)
      (fit_left r (cond (bytes_eq k sd_name) [] (map (under (to_member k)) (sites t))) (member_sites ms) fit)
      (Each-left (λ d. q d ≡ reshown f (r d)) (cond (bytes_eq k sd_name) [] (map (under (to_member k)) (sites t))) (member_sites ms) h)
      (remark_open f r q t ord.1)
      (remark_open_members f r q ms ord.2
      (fit_right r (cond (bytes_eq k sd_name) [] (map (under (to_member k)) (sites t))) (member_sites ms) fit)
      (Each-right (λ d. q d ≡ reshown f (r d)) (cond (bytes_eq k sd_name) [] (map (under (to_member k)) (sites t))) (member_sites ms) h))
