-- Each way in an opened tree comes from a site that shows: of the right kind, with a name that is new.
use Rattle.std.proofs.Common.{◌≡◌, ℕ, suc, ◌≤◌, List, [], ◌∷◌, ◌++◌, map, Bool, true, false, cond, ◌⊎◌, inl, inr, ⊎_elim, Option, Some, None, refl, sym, ap, ◌∙◌, subst, arith, append_assoc}
use Rattle.std.proofs.lemmas.List.{map-append}
use Rattle.std.specs.Prelude.{bytes_eq}
use Rattle.sd_outside.specs.Lists.{In}
use Rattle.claim_tree.specs.Tree.{Elements, ElementsOrdered, IsOrdered, Members, MembersOrdered, Text, Tree, array, element, leaf, member, names, no_elements, no_members, object}
use Rattle.digest_sites.specs.Reserved.{element_digest, sd_name, sd_texts}
use Rattle.digest_sites.specs.Sites.{Step, to_member, to_element, Site, element_site, element_sites, member_sites, own_site, sites, sites_on, under}
use Rattle.marked_tree.specs.Marked.{Marked, MarkedElements, MarkedMembers, marked_member, put, strip, strip_elements, strip_members}
use Rattle.marked_tree.specs.Ways.{elements_ways, members_ways, way_of, ways}
use Rattle.marked_tree.specs.MarkedCalls.{marked_names}
use Rattle.rebuild_core.specs.Free.{HasNoReserved, IsFree}
use Rattle.rebuild_core.proofs.FreeMembers.{ElementsNoReserved, MembersNoReserved}
use Rattle.rebuild_core.specs.Opening.{Shown, nothing_shown, open_element, open_elements, open_members, open_tree, show_element, show_member, show_members, shown}
use Rattle.sd_outside.proofs.Lists.{In-append, In-of_map, In-right, bytes_same}
use Rattle.marked_tree.proofs.Names.{Ascend}
use Rattle.marked_tree.proofs.Puts.{IsBeforeAll-not_in}
use Rattle.rebuild_core.proofs.Fits.{Names, NamesApart, Suits, open_ascending, show_ascending}
use Rattle.marked_tree.proofs.Spots.{Way}
use Rattle.rebuild_core.proofs.Marks.{shown_ways}
use Rattle.rebuild_core.proofs.ObjectFacts.{on_starts, in_starts, element_starts, member_starts, same_step}
use Rattle.rebuild_core.proofs.ShownPuts.{put_adds, put_has, put_keeps, put_new_free, shows_each}
use Rattle.digest_sites.specs.declared.site.SiteKind.TheVariants.{Member, Element}

-- what is shown has no reserved name
abbrev pub ShownFree : Shown → Type 0
ShownFree nothing_shown = Unit {0}
ShownFree (shown i None u) = HasNoReserved (strip u)
ShownFree (shown i (Some k) u) = IsFree k × HasNoReserved (strip u)

-- s is one of the sites, and what it shows is put there
pub record Shows (r : Text → Shown) (ss : List Site) (s : Site) : Type 0 where
  pub before : List Site
  pub after : List Site
  pub is : ss ≡ before ++ (s ∷ after)
  pub suits : Suits s.kind (r s.digest)
  pub fresh : s.kind ≡ Member → (k : Text) → Names (r s.digest) k → In k s.beside → k ≡ sd_name
  pub apart : (e : Site) → In e before → NamesApart r e s
  pub free : ShownFree (r s.digest)

shows_left : (r : Text → Shown) (xs ys : List Site) (s : Site) → Shows r xs s → Shows r (xs ++ ys) s
shows_left r xs ys s h = record {
  before = h.before;
  after = h.after ++ ys;
  is = ap (λ zs. zs ++ ys) h.is ∙ append_assoc h.before (s ∷ h.after) ys;
  suits = h.suits;
  fresh = h.fresh;
  apart = h.apart;
  free = h.free;
}

shows_right : (r : Text → Shown) (xs ys : List Site) (s : Site) → ((e : Site) → In e xs → NamesApart r e s) → Shows r ys s → Shows r (xs ++ ys) s
shows_right r xs ys s cross h = record {
  before = xs ++ h.before;
  after = h.after;
  is = ap (λ zs. xs ++ zs) h.is ∙ sym (append_assoc xs h.before (s ∷ h.after));
  suits = h.suits;
  fresh = h.fresh;
  apart = λ e m. ⊎_elim (λ a. cross e a) (λ b. h.apart e b) (In-append e xs h.before m);
  free = h.free;
}

tail_same : (k : Step) (p q : List Step) → ◌≡◌ {A = List Step} (k ∷ p) (k ∷ q) → p ≡ q
tail_same k p q e = cc

shows_under : (r : Text → Shown) (k : Step) (ss : List Site) (s : Site) → Shows r ss s → Shows r (map (under k) ss) (under k s)
shows_under r k ss s h = record {
  before = map (under k) h.before;
  after = map (under k) h.after;
  is = ap (map (under k)) h.is ∙ map-append (under k) h.before (s ∷ h.after);
  suits = h.suits;
  fresh = h.fresh;
  apart = λ e m.
      let w = In-of_map (under k) e h.before m in
      subst (λ (z : Site). NamesApart r z (under k s)) (sym w.2) (λ same. h.apart w.0 w.1 (tail_same k w.0.at s.at same));
  free = h.free;
}

shows_in : (r : Text → Shown) (ss : List Site) (s : Site) → Shows r ss s → In s ss
shows_in r ss s h = subst (λ (zs : List Site). In s zs) (sym h.is) (In-right s h.before (s ∷ h.after) (inl refl))

later_element : (i j : ℕ) → suc i ≤ j → to_element i ≡ to_element j → ⊥
later_element i j l e = let same : i ≡ j = cc in omega (arith, l, same)

same_name : (k l : Text) → to_member k ≡ to_member l → k ≡ l
same_name k l e = cc

abbrev pub Shown_at : (Text → Shown) → List Site → Way → Type 0
Shown_at r ss v = (s : Site) × Shows r ss s × In v (shown_ways (r s.digest))

-- ---- the texts of `_sd`

pub shows_free : (r : Text → Shown) (ds : List Text) (ms : MarkedMembers) → MembersNoReserved (strip_members (show_members r ds ms)) → MembersNoReserved (strip_members ms)
shows_free r ds ms f = shows_each (λ _. Unit {0}) (λ _. Unit {0}) (λ name _. IsFree name) r ds ms f

show_keeps : (x : Shown) (ms : MarkedMembers) (l : Text) → In l (marked_names ms) → In l (marked_names (show_member x ms))
show_keeps nothing_shown ms l m = m
show_keeps (shown i None t) ms l m = m
show_keeps (shown i (Some k) t) ms l m = put_keeps k (Some i) t ms l m

show_has_name : (x : Shown) (ms : MarkedMembers) (l : Text) → Names x l → In l (marked_names (show_member x ms))
show_has_name nothing_shown ms l n = absurd n
show_has_name (shown i None t) ms l n = cc
show_has_name (shown i (Some k) t) ms l n = let e : k ≡ l = cc in subst (λ z. In z (marked_names (put k (Some i) t ms))) e (put_has k (Some i) t ms)

-- a way of what the texts show comes from one of them whose name is new
record Added (r : Text → Shown) (ds : List Text) (ms : MarkedMembers) (v : Way) : Type 0 where
  before : List Text
  d : Text
  after : List Text
  is : ds ≡ before ++ (d ∷ after)
  suits : Suits Member (r d)
  fresh : (k : Text) → Names (r d) k → In k (marked_names ms) → ⊥
  apart : (e : Text) → In e before → (k : Text) → Names (r e) k → Names (r d) k → ⊥
  free : ShownFree (r d)
  way : In v (shown_ways (r d))

one_added : (x : Shown) (ms : MarkedMembers) (v : Way) → Ascend (marked_names ms) → MembersNoReserved (strip_members (show_member x ms)) → In v (members_ways (show_member x ms))
    → (Suits Member x × ((k : Text) → Names x k → In k (marked_names ms) → ⊥) × ShownFree x × In v (shown_ways x)) ⊎ In v (members_ways ms)
one_added nothing_shown ms v a f h = inr h
one_added (shown i None t) ms v a f h = inr h
one_added (shown i (Some k) t) ms v a f h =
    ⊎_elim
    (λ x. inl ((λ w. w), (λ l n. let e : k ≡ l = cc in subst (λ z. In z (marked_names ms) → ⊥) e x.1), put_new_free k (Some i) t ms x.1 f, x.0))
    (λ y. inr y) (put_adds k (Some i) t ms v a h)

added : (r : Text → Shown) (ds : List Text) (ms : MarkedMembers) (v : Way) → Ascend (marked_names ms) → MembersNoReserved (strip_members (show_members r ds ms))
    → In v (members_ways (show_members r ds ms)) → Added r ds ms v ⊎ In v (members_ways ms)
added r [] ms v a f h = inr h
added r (d ∷ ds) ms v a f h =
    ⊎_elim
    (λ (w : Added r ds (show_member (r d) ms) v). inl (record {
      before = d ∷ w.before;
      d = w.d;
      after = w.after;
      is = ap (λ zs. d ∷ zs) w.is;
      suits = w.suits;
      fresh = λ k n m. w.fresh k n (show_keeps (r d) ms k m);
      apart = λ e m k n o. ⊎_elim (λ q. w.fresh k o (show_has_name (r d) ms k (subst (λ z. Names (r z) k) q n))) (λ z. w.apart e z k n o) m;
      free = w.free;
      way = w.way;
    }))
    (λ b. ⊎_elim
    (λ c. inl (record {
      before = [];
      d = d;
      after = ds;
      is = refl;
      suits = c.0;
      fresh = c.1;
      apart = λ e m. elim m [ ];
      free = c.2;
      way = c.3;
    }))
    (λ c. inr c)
    (one_added (r d) ms v a (shows_free r ds (show_member (r d) ms) f) b))
    (added r ds (show_member (r d) ms) v (show_ascending (r d) ms a) f h)

opened_has : (r : Text → Shown) (ms : Members) (k : Text) → In k (names ms) → (k ≡ sd_name) ⊎ In k (marked_names (open_members r ms))
opened_has r no_members k h = elim h [ ]
opened_has r (member l t ms) k h = go (bytes_eq l sd_name) refl h (opened_has r ms k)
  where
    go : (b : Bool) → bytes_eq l sd_name ≡ b → In k (l ∷ names ms) → (In k (names ms) → (k ≡ sd_name) ⊎ In k (marked_names (open_members r ms)))
        → (k ≡ sd_name) ⊎ In k (marked_names (cond b (open_members r ms) (marked_member l None (open_tree r t) (open_members r ms))))
    go true c (inl e) ih = inl (e ∙ bytes_same l sd_name c)
    go true c (inr m) ih = ih m
    go false c (inl e) ih = inr (inl e)
    go false c (inr m) ih = ⊎_elim (λ x. inl x) (λ y. inr (inr y)) (ih m)

-- ---- the tree

element_shown : (r : Text → Shown) (k : Step) (o : Option Text) (inside : List Site) (t : Marked) (es : MarkedElements) (v : Way)
    → (HasNoReserved (strip t) → In v (ways t) → Shown_at r inside v) → ElementsNoReserved (strip_elements (open_element r o t es)) → In v (elements_ways (open_element r o t es))
    → Shown_at r (sites_on k o inside) v ⊎ In v (elements_ways es)
element_shown r k None inside t es v ih f h =
    ⊎_elim (λ a. let w = ih f.0 a in inl (under k w.0, shows_under r k inside w.0 w.1, w.2)) (λ b. inr b) (In-append v (ways t) (elements_ways es) h)
element_shown r k (Some d) inside t es v ih f h = go (r d) refl f h
  where
    go : (x : Shown) → r d ≡ x → ElementsNoReserved (strip_elements (show_element x es)) → In v (elements_ways (show_element x es)) → Shown_at r (element_site k d ∷ []) v ⊎ In v (elements_ways es)
    go nothing_shown e f h = inr h
    go (shown i None u) e f h =
        ⊎_elim
        (λ a. inl (
          element_site k d,
          record {
            before = [];
            after = [];
            is = refl;
            suits = subst (λ z. Suits Element z) (sym e) (λ w. w);
            fresh = λ q. let bad : Element ≡ Member = q in cc;
            apart = λ c m. elim m [ ];
            free = subst ShownFree (sym e) f.0;
          },
          subst (λ z. In v (shown_ways z)) (sym e) a,
        ))
        (λ b. inr b) (In-append v (way_of (Some i) (ways u)) (elements_ways es) h)
    go (shown i (Some l) u) e f h = inr h

element_rest : (r : Text → Shown) (o : Option Text) (t : Marked) (es : MarkedElements) → ElementsNoReserved (strip_elements (open_element r o t es)) → ElementsNoReserved (strip_elements es)
element_rest r None t es f = f.1
element_rest r (Some d) t es f = go (r d) f
  where
    go : (x : Shown) → ElementsNoReserved (strip_elements (show_element x es)) → ElementsNoReserved (strip_elements es)
    go nothing_shown f = f
    go (shown i None u) f = f.1
    go (shown i (Some l) u) f = f

member_shown : (r : Text → Shown) (k : Text) (b : Bool) (inside : List Site) (t : Marked) (ms : MarkedMembers) (v : Way)
    → (HasNoReserved (strip t) → In v (ways t) → Shown_at r inside v) → MembersNoReserved (strip_members (cond b ms (marked_member k None t ms))) → In v (members_ways (cond b ms (marked_member k None t ms)))
    → Shown_at r (cond b [] (map (under (to_member k)) inside)) v ⊎ In v (members_ways ms)
member_shown r k true inside t ms v ih f h = inr h
member_shown r k false inside t ms v ih f h =
    ⊎_elim (λ a. let w = ih f.1 a in inl (under (to_member k) w.0, shows_under r (to_member k) inside w.0 w.1, w.2)) (λ b. inr b) (In-append v (ways t) (members_ways ms) h)

member_rest : (k : Text) (b : Bool) (t : Marked) (ms : MarkedMembers) → MembersNoReserved (strip_members (cond b ms (marked_member k None t ms))) → MembersNoReserved (strip_members ms)
member_rest k true t ms f = f
member_rest k false t ms f = f.2

mutual
  pub shown_back : (r : Text → Shown) (t : Tree) (v : Way) → IsOrdered t → HasNoReserved (strip (open_tree r t)) → In v (ways (open_tree r t)) → Shown_at r (sites t) v
  shown_back r (leaf l) v o f h = elim h [ ]
  shown_back r (array es) v o f h = elements_back r 0 es v o f.1 h
  shown_back r (object ms) v o f h =
      let own = map (own_site (names ms)) (sd_texts ms) in
      ⊎_elim
      (λ (w : Added r (sd_texts ms) (open_members r ms) v). (
        own_site (names ms) w.d,
        shows_left r own (member_sites ms) (own_site (names ms) w.d) (record {
          before = map (own_site (names ms)) w.before;
          after = map (own_site (names ms)) w.after;
          is = ap (map (own_site (names ms))) w.is ∙ map-append (own_site (names ms)) w.before (w.d ∷ w.after);
          suits = w.suits;
          fresh = λ q k a m. ⊎_elim (λ e. e) (λ z. absurd (w.fresh k a z)) (opened_has r ms k m);
          apart = λ e m.
              let z = In-of_map (own_site (names ms)) e w.before m in
              subst (λ (c : Site). NamesApart r c (own_site (names ms) w.d)) (sym z.2) (λ a b c k x y. w.apart z.0 z.1 k x y);
          free = w.free;
        }),
        w.way,
      ))
      (λ b.
      let w = members_back r ms v o (shows_free r (sd_texts ms) (open_members r ms) f) b in (
        w.0,
        shows_right r own (member_sites ms) w.0
            (λ e m. let z = In-of_map (own_site (names ms)) e (sd_texts ms) m in
            let c = member_starts ms w.0 (shows_in r (member_sites ms) w.0 w.1) in
            λ same. let bad : ◌≡◌ {A = List Step} [] (to_member c.0 ∷ c.2.0) = ap (λ (x : Site). x.at) (sym z.2) ∙ same ∙ c.2.1 in cc) w.1,
        w.2,
      ))
      (added r (sd_texts ms) (open_members r ms) v (open_ascending r ms o) f h)

  elements_back : (r : Text → Shown) (i : ℕ) (es : Elements) (v : Way) → ElementsOrdered es
      → ElementsNoReserved (strip_elements (open_elements r es)) → In v (elements_ways (open_elements r es)) → Shown_at r (element_sites i es) v
  elements_back r i no_elements v o f h = elim h [ ]
  elements_back r i (element t es) v o f h =
      let here = sites_on (to_element i) (element_digest t) (sites t) in
      ⊎_elim (λ a. (a.0, shows_left r here (element_sites (suc i) es) a.0 a.1, a.2))
      (λ a.
      let w = elements_back r (suc i) es v o.1 (element_rest r (element_digest t) (open_tree r t) (open_elements r es) f) a in (
        w.0,
        shows_right r here (element_sites (suc i) es) w.0
            (λ e m. let z = on_starts (to_element i) (element_digest t) (sites t) e m in
            let c = element_starts (suc i) es w.0 (shows_in r (element_sites (suc i) es) w.0 w.1) in
            λ same. absurd (later_element i c.0 c.1 (same_step (to_element i) (to_element c.0) e w.0 z c.2 same))) w.1,
        w.2,
      ))
      (element_shown r (to_element i) (element_digest t) (sites t) (open_tree r t) (open_elements r es) v (λ g x. shown_back r t v o.0 g x) f h)

  members_back : (r : Text → Shown) (ms : Members) (v : Way) → MembersOrdered ms
      → MembersNoReserved (strip_members (open_members r ms)) → In v (members_ways (open_members r ms)) → Shown_at r (member_sites ms) v
  members_back r no_members v o f h = elim h [ ]
  members_back r (member k t ms) v o f h =
      let here = cond (bytes_eq k sd_name) [] (map (under (to_member k)) (sites t)) in
      ⊎_elim (λ a. (a.0, shows_left r here (member_sites ms) a.0 a.1, a.2))
      (λ a.
      let w = members_back r ms v o.2 (member_rest k (bytes_eq k sd_name) (open_tree r t) (open_members r ms) f) a in (
        w.0,
        shows_right r here (member_sites ms) w.0
            (λ e m. let z = in_starts (bytes_eq k sd_name) k (sites t) e m in
            let c = member_starts ms w.0 (shows_in r (member_sites ms) w.0 w.1) in
            λ same. absurd (IsBeforeAll-not_in k (names ms) o.0 (subst (λ x. In x (names ms)) (sym (same_name k c.0 (same_step (to_member k) (to_member c.0) e w.0 z c.2 same))) c.1))) w.1,
        w.2,
      ))
      (member_shown r k (bytes_eq k sd_name) (sites t) (open_tree r t) (open_members r ms) v (λ g x. shown_back r t v o.1 g x) f h)
