-- Where each disclosure is shown, each digest stands once and nothing shown is reserved, conditions 14 to 20 hold.
use Rattle.std.proofs.Common.{◌≡◌, ℕ, zero, suc, ◌+◌, ◌<◌, ◌≤◌, List, [], ◌∷◌, ◌++◌, map, length, Bool, true, false, cond, not, is_some, ◌||◌, ◌&&◌, option_map, inl, inr, ⊎_elim, Option, Some, None, refl, sym, ap, ap₂, ◌∙◌, subst, arith}
use Rattle.std.specs.Prelude.{bytes_eq, option_and_then}
use Rattle.std.proofs.lemmas.Bool.{and_from, or_right}
use Rattle.sd_outside.specs.Lists.{StandsAt, In, AtNone, Repeats}
use Rattle.claim_tree.specs.Tree.{Elements, IsOrdered, Members, Text, Tree, text_of, array, element, leaf, member, no_elements, no_members, object}
use Rattle.digest_sites.specs.Given.{Given}
use Rattle.digest_sites.specs.Reserved.{dots_name, element_digest, elements_misuse, members_misuse, misuses, sd_name, sd_texts, text_list, texts_of}
use Rattle.digest_sites.specs.Sites.{Site, sites}
use Rattle.marked_tree.specs.Marked.{Marked, marked_member, strip, strip_elements, strip_members}
use Rattle.marked_tree.specs.Ways.{ways}
use Rattle.rebuild_core.specs.AllShown.{IsTextList, HasTextLists, AreAllShown, ShownIsSound}
use Rattle.rebuild_core.specs.Readable.{IsReadable}
use Rattle.rebuild_core.specs.Conditions.{Discloses, EarlierName, IsWrong, Misused, NameClash, RepeatedDigest, ReservedName, Unreferenced, WrongShape}
use Rattle.rebuild_core.specs.Soundness.{IsReferencedOnce, IsSound, IsWellNamed}
use Rattle.rebuild_core.specs.Free.{HasNoReserved, IsFree}
use Rattle.rebuild_core.proofs.FreeMembers.{ElementsNoReserved, MembersNoReserved}
use Rattle.rebuild_core.specs.Reached.{OwnedSite, Owner, find, is_in_round, is_reached, owned_site, owned_digests, met, payload, stands, value_sites, value_of}
use Rattle.rebuild_core.specs.Opening.{Shown, nothing_shown, open_element, open_elements, open_members, open_tree, opened, processed, reveal, show_element, shown, shown_by}
use Rattle.rebuild_core.specs.Payload.{alg_name}
use Rattle.claim_tree.proofs.Everywheres.{EachElementIn, EachMemberIn}
use Rattle.sd_outside.proofs.Lists.{At-In, At-below, At-left, At-map, At-right, At-same, In-At, In-append, In-left, In-map, In-of_map, In-right, bytes_refl, bytes_same, list_any-from, one_place, same_by_image}
use Rattle.rebuild_core.proofs.Chains.{item_of_value}
use Rattle.rebuild_core.proofs.Fits.{Names, Suits}
use Rattle.rebuild_core.proofs.Fixed.{find_at}
use Rattle.rebuild_core.proofs.Found.{found}
use Rattle.marked_tree.proofs.Spots.{Way}
use Rattle.rebuild_core.proofs.Marks.{shown_ways}
use Rattle.rebuild_core.proofs.Pick.{met_item}
use Rattle.rebuild_core.proofs.Reach.{later_round, stands-from}
use Rattle.rebuild_core.proofs.ShownAt.{ShownFree, Shows, shown_back, shows_free}
use Rattle.digest_sites.specs.declared.site.SiteKind.TheVariants.{Member}

-- ---- an element before another

abbrev Before : {X : Type 0} → List X → X → X → Type 0
Before {X} xs a b = (i : ℕ) × (j : ℕ) × (i < j) × StandsAt xs i a × StandsAt xs j b

before_left : {X : Type 0} (xs ys : List X) (a b : X) → Before xs a b → Before (xs ++ ys) a b
before_left xs ys a b h = (h.0, h.1, h.2, At-left xs ys h.0 a h.3, At-left xs ys h.1 b h.4)

before_right : {X : Type 0} (xs ys : List X) (a b : X) → Before ys a b → Before (xs ++ ys) a b
before_right xs ys a b h = (length xs + h.0, length xs + h.1, omega (arith, h.2), At-right xs ys h.0 a h.3, At-right xs ys h.1 b h.4)

before_map : {X Y : Type 0} (f : X → Y) (xs : List X) (a b : X) → Before xs a b → Before (map f xs) (f a) (f b)
before_map f xs a b h = (h.0, h.1, h.2, At-map f xs h.0 a h.3, At-map f xs h.1 b h.4)

before_later : {X : Type 0} (xs ys : List X) (a b : X) → In b ys → Before (xs ++ (a ∷ ys)) a b
before_later xs ys a b m =
    let w = In-At ys b m in
    before_right xs (a ∷ ys) a b (0, suc w.0, omega arith, refl, w.1)

before_value : (p : Given → Bool) (g : List Given) (i k n : ℕ) (x : Given) (a b : OwnedSite) → n ≡ i + k → StandsAt g k x → p x ≡ true → Before (map (owned_site (value_of n)) (sites x.value)) a b → Before (value_sites p i g) a b
before_value p (y ∷ g) i zero n x a b e h t m =
    let q : n ≡ i = omega arith in
    let z : x ≡ y = h in
    before_left (cond (p y) (map (owned_site (value_of i)) (sites y.value)) []) (value_sites p (suc i) g) a b (rw (← z, t, ← q) m)
before_value p (y ∷ g) i (suc k) n x a b e h t m =
    before_right (cond (p y) (map (owned_site (value_of i)) (sites y.value)) []) (value_sites p (suc i) g) a b (before_value p g (suc i) k n x a b (omega arith) h t m)
before_value p [] i k n x a b e h t m = elim h [ ]

-- ---- no misuse

or_false : (a b : Bool) → a ≡ false → b ≡ false → (a || b) ≡ false
or_false false b h k = k
or_false true b h k = cc

-- a list of texts
text_clean : (t : Tree) → is_some (text_of t) ≡ true → (not (is_some (element_digest t)) && misuses t) ≡ false
text_clean (leaf l) h = refl
text_clean (array es) h = cc
text_clean (object ms) h = cc

texts_clean : (es : Elements) → is_some (texts_of es) ≡ true → elements_misuse es ≡ false
texts_clean no_elements h = refl
texts_clean (element t es) h = go (text_of t) (texts_of es) h (text_clean t) (texts_clean es)
  where
    go : (o : Option Text) (os : Option (List Text)) → is_some (option_and_then (λ s. option_map (λ ss. s ∷ ss) os) o) ≡ true
        → (is_some o ≡ true → (not (is_some (element_digest t)) && misuses t) ≡ false) → (is_some os ≡ true → elements_misuse es ≡ false)
        → ((not (is_some (element_digest t)) && misuses t) || elements_misuse es) ≡ false
    go None os h one rest = cc
    go (Some s) None h one rest = cc
    go (Some s) (Some ss) h one rest = or_false (not (is_some (element_digest t)) && misuses t) (elements_misuse es) (one refl) (rest refl)

list_clean : (t : Tree) → is_some (text_list t) ≡ true → misuses t ≡ false
list_clean (leaf l) h = cc
list_clean (array es) h = texts_clean es h
list_clean (object ms) h = cc

pub sd_no_dots : bytes_eq sd_name dots_name ≡ false
unfolding sd_name dots_name
sd_no_dots = refl

clean_element : (o : Option Text) (misuse rest : Bool) → (o ≡ None → misuse ≡ false) → rest ≡ false → ((not (is_some o) && misuse) || rest) ≡ false
clean_element None misuse rest h k = or_false misuse rest (h refl) k
clean_element (Some d) misuse rest h k = k

clean_name : (sd listed dots : Bool) → (sd ≡ true → listed ≡ true) → dots ≡ false → ((sd && not listed) || dots) ≡ false
clean_name false listed dots h k = k
clean_name true true dots h k = k
clean_name true false dots h k = let e : false ≡ true = h refl in cc

element_free : (r : Text → Shown) (o : Option Text) (t : Tree) (es : Elements) → ElementsNoReserved (strip_elements (open_element r o (open_tree r t) (open_elements r es)))
    → (o ≡ None → HasNoReserved (strip (open_tree r t))) × ElementsNoReserved (strip_elements (open_elements r es))
element_free r None t es f = ((λ e. f.0), f.1)
element_free r (Some d) t es f = ((λ e. cc), go (r d) f)
  where
    go : (x : Shown) → ElementsNoReserved (strip_elements (show_element x (open_elements r es))) → ElementsNoReserved (strip_elements (open_elements r es))
    go nothing_shown f = f
    go (shown i None u) f = f.1
    go (shown i (Some l) u) f = f

mutual
  pub clean : (r : Text → Shown) (t : Tree) → HasTextLists t → HasNoReserved (strip (open_tree r t)) → misuses t ≡ false
  clean r (leaf l) d f = refl
  clean r (array es) d f = clean_elements r es d.1 f.1
  clean r (object ms) d f = clean_members r ms d (shows_free r (sd_texts ms) (open_members r ms) f)

  clean_elements : (r : Text → Shown) (es : Elements) → EachElementIn IsTextList es → ElementsNoReserved (strip_elements (open_elements r es)) → elements_misuse es ≡ false
  clean_elements r no_elements d f = refl
  clean_elements r (element t es) d f =
      let w = element_free r (element_digest t) t es f in
      clean_element (element_digest t) (misuses t) (elements_misuse es) (λ e. clean r t d.0 (w.0 e)) (clean_elements r es d.1 w.1)

  clean_members : (r : Text → Shown) (ms : Members) → EachMemberIn IsTextList ms → MembersNoReserved (strip_members (open_members r ms)) → members_misuse ms ≡ false
  clean_members r no_members d f = refl
  clean_members r (member k t ms) d f = go (bytes_eq k sd_name) refl f (λ h. clean r t d.1 h) (λ h. clean_members r ms d.2 h)
    where
      go : (b : Bool) → bytes_eq k sd_name ≡ b → MembersNoReserved (strip_members (cond b (open_members r ms) (marked_member k None (open_tree r t) (open_members r ms))))
          → (HasNoReserved (strip (open_tree r t)) → misuses t ≡ false) → (MembersNoReserved (strip_members (open_members r ms)) → members_misuse ms ≡ false)
          → ((((b && not (is_some (text_list t))) || bytes_eq k dots_name) || misuses t) || members_misuse ms) ≡ false
      go true e f tree rest =
          let same : k ≡ sd_name = bytes_same k sd_name e in
          or_false (((true && not (is_some (text_list t))) || bytes_eq k dots_name) || misuses t) (members_misuse ms)
          (or_false ((true && not (is_some (text_list t))) || bytes_eq k dots_name) (misuses t)
          (clean_name true (is_some (text_list t)) (bytes_eq k dots_name) (λ q. d.0 e) (ap (λ z. bytes_eq z dots_name) same ∙ sd_no_dots)) (list_clean t (d.0 e)))
          (rest f)
      go false e f tree rest =
          or_false (bytes_eq k dots_name || misuses t) (members_misuse ms) (or_false (bytes_eq k dots_name) (misuses t) f.0.1 (tree f.1)) (rest f.2)

-- ---- the item that shows a disclosure

pub value_free : (j : ℕ) (n : Option Text) (u : Marked) → ShownFree (shown j n u) → HasNoReserved (strip u)
value_free j None u f = f
value_free j (Some k) u f = f.1

module _ (t : Tree) (g : List Given) (readable : IsReadable t g) (is : AreAllShown t g) where
  abbrev TreeOf : Owner → Tree → Type 0
  TreeOf payload u = u ≡ t
  TreeOf (value_of j) u = (x : Given) × StandsAt g j x × (u ≡ x.value)

  tree_ordered : (o : Owner) (u : Tree) → TreeOf o u → IsOrdered u
  tree_ordered payload u e = subst IsOrdered (sym e) readable.in_payload
  tree_ordered (value_of j) u (x, a, e) = subst IsOrdered (sym e) (readable.in_values x (At-In g j x a))

  record ShownItem (i : ℕ) : Type 0 where
    owner : Owner
    tree : Tree
    tree_of : TreeOf owner tree
    f : ℕ
    site : Site
    shows : Shows (reveal (suc f) g) (sites tree) site
    x : Given
    at : StandsAt g i x
    same : x.digest ≡ site.digest
    is_found : find g site.digest ≡ Some (i, x)
    round : is_in_round t g (length g) x.digest ≡ true

  later_item : (i j : ℕ) → j ≡ i → ShownItem i → ShownItem j
  later_item i j e h = subst ShownItem (sym e) h

  shown_item : (f r : ℕ) (o : Owner) (u : Tree) → f + r ≤ suc (length g) → TreeOf o u → ((s : Site) → In s (sites u) → is_in_round t g r s.digest ≡ true)
      → HasNoReserved (strip (opened f g u)) → (v : Way) → In v (ways (opened f g u)) → ShownItem v.0
  shown_item zero r o u b tree rounds free v h =
      let w = shown_back (reveal zero g) u v (tree_ordered o u tree) free h in
      elim w.2 [ ]
  shown_item (suc f) r o u b tree rounds free v h =
      let w = shown_back (reveal (suc f) g) u v (tree_ordered o u tree) free h in
      go w.0 w.1 (find g w.0.digest) refl w.2 (shown_item f (suc r))
    where
      go : (s : Site) → Shows (reveal (suc f) g) (sites u) s → (q : Option (ℕ × Given)) → find g s.digest ≡ q → In v (shown_ways (shown_by (open_tree (reveal f g)) q))
          → ((o : Owner) (u : Tree) → f + suc r ≤ suc (length g) → TreeOf o u → ((s : Site) → In s (sites u) → is_in_round t g (suc r) s.digest ≡ true)
          → HasNoReserved (strip (opened f g u)) → (v : Way) → In v (ways (opened f g u)) → ShownItem v.0)
          → ShownItem v.0
      go s shows None e m ih = elim m [ ]
      go s shows (Some (j, x)) e m ih =
          let z = found 0 g s.digest j x e in
          let a : StandsAt g j x = subst (λ c. StandsAt g c x) (let c : z.0 ≡ j = omega (arith, z.3) in c) z.1 in
          let inside : In s (sites u) = subst (λ (ss : List Site). In s ss) (sym shows.is) (In-right s shows.before (s ∷ shows.after) (inl refl)) in
          let here : is_in_round t g r x.digest ≡ true = subst (λ d. is_in_round t g r d ≡ true) (sym z.2) (rounds s inside) in
          let within : HasNoReserved (strip (opened f g x.value)) = value_free j x.name (opened f g x.value) (subst (λ c. ShownFree (shown_by (open_tree (reveal f g)) c)) e shows.free) in
          ⊎_elim
          (λ k. later_item j v.0 (ap (λ (c : Way). c.0) k) (record {
            owner = o;
            tree = u;
            tree_of = tree;
            f = f;
            site = s;
            shows = shows;
            x = x;
            at = a;
            same = z.2;
            is_found = e;
            round = later_round t g x.digest (length g) r (omega (arith, b)) here;
          }))
          (λ k.
          let y = In-of_map (λ (c : Way). (c.0, j ∷ c.1)) v (ways (opened f g x.value)) k in
          later_item y.0.0 v.0 (ap (λ (c : Way). c.0) y.2)
          (ih (value_of j) x.value (omega (arith, b)) (x, a, refl)
          (λ c n. or_right (is_in_round t g r c.digest) _
          (list_any-from (λ z. is_in_round t g r z.digest && stands c.digest (sites z.value)) g x (At-In g j x a)
          (and_from (is_in_round t g r x.digest) (stands c.digest (sites x.value)) here (stands-from c.digest (sites x.value) c n refl))))
          within y.0 y.1))
          m

  processed_is : processed t g ≡ opened (suc (length g)) g t
  processed_is = refl

  item_of : (i : ℕ) → i < length g → ShownItem i
  item_of i l =
      let w = is.each_shown i l in
      later_item w.0.0 i (sym w.2)
      (shown_item (suc (length g)) 0 payload t (omega arith) refl (λ s m. stands-from s.digest (sites t) s m refl)
      (subst (λ m. HasNoReserved (strip m)) processed_is is.free) w.0 (subst (λ m. In w.0 (ways m)) processed_is w.1))

  item_at : (i : ℕ) (x : Given) → StandsAt g i x → ShownItem i
  item_at i x a = item_of i (At-below g i x a)

  reached : (x : Given) → In x g → is_reached t g x ≡ true
  reached x m =
      let w = In-At g x m in
      let z = item_at w.0 x w.1 in
      subst (λ (y : Given). is_in_round t g (length g) y.digest ≡ true) (At-same g w.0 z.x x z.at w.1) z.round

  c17_shown : AtNone (Unreferenced t g)
  c17_shown i (x, a, e) = let h = reached x (At-In g i x a) in cc

  value_items_all : (i : ℕ) (xs : List Given) → ((x : Given) → In x xs → is_reached t g x ≡ true) → value_sites (λ x. true) i xs ≡ value_sites (is_reached t g) i xs
  value_items_all i [] h = refl
  value_items_all i (x ∷ xs) h = ap₂ (λ b (zs : List OwnedSite). cond b (map (owned_site (value_of i)) (sites x.value)) [] ++ zs) (sym (h x (inl refl))) (value_items_all (suc i) xs (λ y m. h y (inr m)))

  c16_shown : AtNone (RepeatedDigest t g)
  c16_shown = subst (λ (zs : List OwnedSite). AtNone (Repeats (owned_digests (map (owned_site payload) (sites t) ++ zs)))) (value_items_all 0 g reached) is.no_repeated_digest

  in_met : (o : Owner) (u : Tree) (s : Site) → TreeOf o u → In s (sites u) → In (owned_site o s) (met t g)
  in_met payload u s e m =
      In-left (owned_site payload s) (map (owned_site payload) (sites t)) (value_sites (is_reached t g) 0 g) (In-map (owned_site payload) s (sites t) (subst (λ (c : Tree). In s (sites c)) e m))
  in_met (value_of j) u s (x, a, e) m =
      In-right (owned_site (value_of j) s) (map (owned_site payload) (sites t)) (value_sites (is_reached t g) 0 g)
      (item_of_value (is_reached t g) g 0 j j x s (omega arith) a (reached x (At-In g j x a)) (subst (λ (c : Tree). In s (sites c)) e m))

  before_met : (o : Owner) (u : Tree) (s e : Site) → TreeOf o u → Before (sites u) s e → Before (met t g) (owned_site o s) (owned_site o e)
  before_met payload u s e q h =
      before_left (map (owned_site payload) (sites t)) (value_sites (is_reached t g) 0 g) (owned_site payload s) (owned_site payload e)
      (before_map (owned_site payload) (sites t) s e (subst (λ (c : Tree). Before (sites c) s e) q h))
  before_met (value_of j) u s e (x, a, q) h =
      before_right (map (owned_site payload) (sites t)) (value_sites (is_reached t g) 0 g) (owned_site (value_of j) s) (owned_site (value_of j) e)
      (before_value (is_reached t g) g 0 j j x (owned_site (value_of j) s) (owned_site (value_of j) e) (omega arith) a (reached x (At-In g j x a))
      (before_map (owned_site (value_of j)) (sites x.value) s e (subst (λ (c : Tree). Before (sites c) s e) q h)))

  site_inside : (i : ℕ) (z : ShownItem i) → In z.site (sites z.tree)
  site_inside i z = subst (λ (ss : List Site). In z.site ss) (sym z.shows.is) (In-right z.site z.shows.before (z.site ∷ z.shows.after) (inl refl))

  -- the item of a disclosure's digest is the one that shows it
  its_item : (i : ℕ) (x : Given) (a : StandsAt g i x) (m : OwnedSite) → In m (met t g) → m.site.digest ≡ x.digest → m ≡ owned_site (item_at i x a).owner (item_at i x a).site
  its_item i x a m n e =
      let z = item_at i x a in
      same_by_image (λ c. c.site.digest) (met t g) c16_shown m (owned_site z.owner z.site) n (in_met z.owner z.tree z.site z.tree_of (site_inside i z))
      (e ∙ ap (λ (c : Given). c.digest) (At-same g i x z.x a z.at) ∙ z.same)

  c18_shown : AtNone (WrongShape t g)
  c18_shown i (x, a, m, n, e, wrong) =
      let z = item_at i x a in
      let s = its_item i x a m n e in
      let suits = subst (λ c. Suits z.site.kind (shown_by (open_tree (reveal z.f g)) c)) z.is_found z.shows.suits in
      suits (subst (λ (y : Given). IsWrong z.site.kind y.name) (At-same g i x z.x a z.at) (subst (λ (c : OwnedSite). IsWrong c.site.kind x.name) s wrong))

  name_free : (i : ℕ) (x : Given) → StandsAt g i x → (k : Text) → x.name ≡ Some k → IsFree k
  name_free i x a k e =
      let z = item_at i x a in
      let n : z.x.name ≡ Some k = ap (λ (y : Given). y.name) (At-same g i z.x x z.at a) ∙ e in
      (subst (λ o. ShownFree (shown i o (opened z.f g z.x.value))) n (subst (λ c. ShownFree (shown_by (open_tree (reveal z.f g)) c)) z.is_found z.shows.free)).0

  not_named : (k l : Text) → bytes_eq k l ≡ false → k ≡ l → ⊥
  not_named k l f e = let h : bytes_eq k l ≡ true = bytes_refl k l e in cc

  c19_shown : AtNone (ReservedName t g)
  c19_shown i (x, a, m, n, e, bad) =
      let f = name_free i x a bad.1 bad.2 in
      ⊎_elim (λ q. not_named bad.1 sd_name f.0 q) (λ q. ⊎_elim (λ c. not_named bad.1 dots_name f.1 c) (λ c. not_named bad.1 alg_name f.2 c.0) q) bad.3

  discloses_names : (f : ℕ) (m : OwnedSite) (k : Text) → Discloses g m k → Names (reveal (suc f) g m.site.digest) k
  discloses_names f m k (kind, x, n, e, name) =
      let w = In-At g x n in
      let q : find g m.site.digest ≡ Some (w.0, x) = subst (λ d. find g d ≡ Some (w.0, x)) e (find_at g w.0 x is.no_repeated_disclosure w.1) in
      subst (λ c. Names (shown_by (open_tree (reveal f g)) c) k) (sym q) name

  c20_shown : AtNone (NameClash t g)
  c20_shown q (m, at, k, (kind, x, n, e, name), clash) =
      let w = In-At g x n in
      let i = w.0 in
      let a = w.1 in
      let z = item_at i x a in
      let s = its_item i x a m (At-In (met t g) q m at) (sym e) in
      let r : Text → Shown = reveal (suc z.f) g in
      let names : Names (r z.site.digest) k = subst (λ (c : OwnedSite). Names (r c.site.digest) k) s (discloses_names z.f m k (kind, x, n, e, name)) in
      let member_kind : z.site.kind ≡ Member = subst (λ (c : OwnedSite). c.site.kind ≡ Member) s kind in
      ⊎_elim
      (λ b. not_named k sd_name (name_free i x a k name).0 (z.shows.fresh member_kind k names (subst (λ (c : OwnedSite). In k c.site.beside) s b)))
      (λ (b : EarlierName t g q m k). earlier b z.owner z.tree z.site z.tree_of z.f z.shows names member_kind s)
      clash
    where
      earlier : EarlierName t g q m k → (o : Owner) (u : Tree) (site : Site) → TreeOf o u → (f : ℕ) → Shows (reveal (suc f) g) (sites u) site → Names (reveal (suc f) g site.digest) k → site.kind ≡ Member → m ≡ owned_site o site → ⊥
      earlier (j, less, c, there, same_owner, same_at, discloses) o u site tree f shows names kind s =
          let own : c.owner ≡ o = same_owner ∙ ap (λ (d : OwnedSite). d.owner) s in
          let inside : In c.site (sites u) = of_tree o u tree c (At-In (met t g) j c there) own in
          let cs = In-append c.site shows.before (site ∷ shows.after) (subst (λ (ss : List Site). In c.site ss) shows.is inside) in
          let place : (j : ℕ) (p : ℕ) (d : OwnedSite) → StandsAt (met t g) j d → StandsAt (met t g) p d → j ≡ p =
          λ j p d x y. one_place (owned_digests (met t g)) c16_shown j p d.site.digest (At-map (λ (d : OwnedSite). d.site.digest) (met t g) j d x) (At-map (λ (d : OwnedSite). d.site.digest) (met t g) p d y) in
          let c_is : c ≡ owned_site o c.site = ap (λ w. owned_site w c.site) own in
          ⊎_elim
          (λ b. shows.apart c.site b (same_at ∙ ap (λ (d : OwnedSite). d.site.at) s) discloses.0 kind k (discloses_names f c k discloses) names)
          (λ b. ⊎_elim
          (λ y. let z : c ≡ m = c_is ∙ ap (owned_site o) y ∙ sym s in
          absurd (omega (arith, less, place j q m (subst (λ (d : OwnedSite). StandsAt (met t g) j d) z there) at)))
          (λ y.
          let v = before_met o u site c.site tree (subst (λ (ss : List Site). Before ss site c.site) (sym shows.is) (before_later shows.before shows.after site c.site y)) in
          absurd (omega (
            arith,
            less,
            v.2,
            place q v.0 m at (subst (λ (d : OwnedSite). StandsAt (met t g) v.0 d) (sym s) v.3),
            place j v.1 c there (subst (λ (d : OwnedSite). StandsAt (met t g) v.1 d) (sym c_is) v.4),
          )))
          b)
          cs
        where
          of_tree : (o : Owner) (u : Tree) → TreeOf o u → (c : OwnedSite) → In c (met t g) → c.owner ≡ o → In c.site (sites u)
          of_tree payload u e c m own =
              ⊎_elim (λ w. subst (λ (v : Tree). In c.site (sites v)) (sym e) (subst (λ (d : OwnedSite). In d.site (sites t)) (sym w.2) w.1))
              (λ w. let bad : payload ≡ value_of w.n = sym own ∙ ap (λ (d : OwnedSite). d.owner) w.is in cc) (met_item t g c m)
          of_tree (value_of j) u (x, a, e) c m own =
              ⊎_elim (λ w. let bad : value_of j ≡ payload = sym own ∙ ap (λ (d : OwnedSite). d.owner) w.2 in cc)
              (λ w.
              let num : w.k ≡ j = let z : value_of j ≡ value_of w.n = sym own ∙ ap (λ (d : OwnedSite). d.owner) w.is in let y : j ≡ w.n = cc in omega (arith, w.is_n) in
              let same : w.x ≡ x = At-same g j w.x x (subst (λ y. StandsAt g y w.x) num w.there) a in
              subst (λ (v : Tree). In c.site (sites v)) (sym e)
              (subst (λ (y : Given). In c.site (sites y.value)) same (subst (λ (y : Site). In y (sites w.x.value)) (sym (ap (λ (d : OwnedSite). d.site) w.is)) w.inside)))
              (met_item t g c m)

  c15_shown : AtNone (Misused t g)
  c15_shown zero h = let f = clean (reveal (suc (length g)) g) t is.payload_lists (subst (λ m. HasNoReserved (strip m)) processed_is is.free) in cc
  c15_shown (suc i) (x, a, h) =
      let z = item_at i x a in
      let f = clean (reveal z.f g) z.x.value (is.value_lists z.x (At-In g i z.x z.at))
      (value_free i z.x.name (opened z.f g z.x.value) (subst (λ c. ShownFree (shown_by (open_tree (reveal z.f g)) c)) z.is_found z.shows.free)) in
      let y : misuses x.value ≡ false = subst (λ (c : Given). misuses c.value ≡ false) (At-same g i z.x x z.at a) f in cc

  referenced : IsReferencedOnce t g
  referenced = record { no_repeated_disclosure = is.no_repeated_disclosure; no_misuse = c15_shown; no_repeated_digest = c16_shown; no_unreferenced = c17_shown }

  named : IsWellNamed t g
  named = record { no_wrong_shape = c18_shown; no_reserved_name = c19_shown; no_name_clash = c20_shown }

  pub sound : IsSound t g
  sound = record { referenced = referenced; named = named; shallow = is.shallow }

pub shown_is_sound_holds : ShownIsSound
shown_is_sound_holds t g readable is = sound t g readable is
