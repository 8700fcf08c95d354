-- The lists `_sd` of what is laid are not empty and ascend strictly.
use Rattle.std.proofs.Common.{◌≡◌, ℕ, suc, ◌+◌, ◌<◌, ◌≤◌, List, [], ◌∷◌, ◌++◌, Bool, Equal, Greater, Less, None, Option, Ordering, Some, arith, cond, decimal, false, inl, inr, length, refl, subst, sym, true, ⊎_elim, ◌∙◌, ◌⊎◌}
use Rattle.std.proofs.lemmas.Map.Lookups.{exact_bytes}
use Rattle.std.specs.Cmp.Lexicographic.{slice_cmp}
use Rattle.std.specs.Ordering.{match_ordering, nat_cmp}
use Rattle.std.specs.Prelude.{bytes_eq}
use Rattle.claim_tree.proofs.Everywheres.{EachElementIn, EachMemberIn, inserted_everywhere}
use Rattle.claim_tree.specs.TreeValues.{text_elements}
use Rattle.sd_outside.specs.Lists.{In}
use Rattle.claim_tree.specs.Tree.{Elements, IsBefore, IsBeforeAll, Members, Text, Tree, array, element, inserted, leaf, member, no_elements, no_members, object}
use Rattle.digest_sites.specs.Given.{Given}
use Rattle.digest_sites.specs.Reserved.{dots_name, sd_name}
use Rattle.marked_tree.specs.Marked.{Marked, MarkedElements, MarkedMembers, marked_element, marked_member}
use Rattle.marked_tree.specs.Paths.{Path, below, hidden_elements, hidden_in, hidden_members, mark_elements, mark_from, mark_if, mark_members, one_if, same_path}
use Rattle.rebuild_core.specs.Free.{HasNoReserved}
use Rattle.rebuild_core.proofs.FreeMembers.{ElementsNoReserved, MembersNoReserved}
use Rattle.issuer_core.specs.Decoys.{decoys_at}
use Rattle.issuer_core.specs.IssueCalls.{AllDiffer}
use Rattle.issuer_core.specs.Issued.{HasDigestLists, IsDigestList, Rises}
use Rattle.issuer_core.specs.Laid.{digest_elements, digest_object, hidden_digests, laid_elements, laid_given, laid_members, lay, lay_elements, lay_members, own_given, sorted, sorted_with, with_sd}
use Rattle.sd_outside.proofs.Lists.{In-append, compare_lt}
use Rattle.rebuild_core.proofs.Sums.{Apart}
use Rattle.issuer_core.proofs.DecoyPlaces.{in_decoys}
use Rattle.issuer_core.proofs.PutSwaps.{sort_in}
use Rattle.issuer_core.proofs.SdMembers.{texts_are}
use Rattle.claim_tree.proofs.MapPlaces.{before_after, before_through}

-- ---- sorting

insert_after : (l d : Text) (es : List Text) → IsBefore l d → IsBeforeAll l es → IsBeforeAll l (sorted_with d es)
insert_after l d [] b a = (b, tt)
insert_after l d (e ∷ es) b a = go (slice_cmp nat_cmp d e) (insert_after l d es b a.1)
  where
    go : (o : Ordering) → IsBeforeAll l (sorted_with d es) → IsBeforeAll l (match_ordering o (d ∷ e ∷ es) (d ∷ e ∷ es) (e ∷ sorted_with d es))
    go Less ih = (b, a)
    go Equal ih = (b, a)
    go Greater ih = (a.0, ih)

insert_rises : (d : Text) (es : List Text) → Rises es → (In d es → ⊥) → Rises (sorted_with d es)
insert_rises d [] r out = (tt, tt)
insert_rises d (e ∷ es) r out = go (slice_cmp nat_cmp d e) refl (insert_rises d es r.1 (λ m. out (inr m)))
  where
    go : (o : Ordering) → slice_cmp nat_cmp d e ≡ o → Rises (sorted_with d es) → Rises (match_ordering o (d ∷ e ∷ es) (d ∷ e ∷ es) (e ∷ sorted_with d es))
    go Less c ih = ((c, before_through d e es c r.0), r)
    go Equal c ih = absurd (out (inl (exact_bytes d e c)))
    go Greater c ih = (insert_after e d es (before_after d e c) r.0, ih)

sort_rises : (ds : List Text) → Apart ds → Rises (sorted ds)
sort_rises [] a = tt
sort_rises (d ∷ ds) a = insert_rises d (sorted ds) (sort_rises ds a.1) (λ m. a.0 (sort_in ds d m))

apart_join : (xs ys : List Text) → Apart xs → Apart ys → ((e : Text) → In e xs → In e ys → ⊥) → Apart (xs ++ ys)
apart_join [] ys a b c = b
apart_join (x ∷ xs) ys a b c = ((λ m. ⊎_elim (λ z. a.0 z) (λ z. c x (inl refl) z) (In-append x xs ys m)), apart_join xs ys a.1 b (λ e m n. c e (inr m) n))

-- ---- setting members

-- a member `_sd` is a list of digests
abbrev pub IsSdList : Text → Tree → Type 0
IsSdList name value = bytes_eq name sd_name ≡ true → IsDigestList value

abbrev ElementsDigestLists : Elements → Type 0
ElementsDigestLists es = EachElementIn IsSdList es

abbrev MembersDigestLists : Members → Type 0
MembersDigestLists ms = EachMemberIn IsSdList ms

set_lists : (k : Text) (t : Tree) (ms : Members) → (bytes_eq k sd_name ≡ true → IsDigestList t) → HasDigestLists t → MembersDigestLists ms → MembersDigestLists (inserted ms k t)
set_lists k t ms l h rest = inserted_everywhere (λ _. Unit {0}) (λ _. Unit {0}) IsSdList ms k t l h rest

texts_lists : (ds : List Text) → ElementsDigestLists (text_elements ds)
texts_lists [] = tt
texts_lists (d ∷ ds) = (tt, texts_lists ds)

with_sd_lists : (ds : List Text) (ms : Members) → Rises ds → MembersDigestLists ms → MembersDigestLists (with_sd ds ms)
with_sd_lists [] ms r h = h
with_sd_lists (d ∷ ds) ms r h = set_lists sd_name (array (text_elements (d ∷ ds))) ms (λ e. (d, ds, texts_are (d ∷ ds), r)) (tt, texts_lists (d ∷ ds)) h

dots_not_sd : bytes_eq dots_name sd_name ≡ false
unfolding dots_name sd_name
dots_not_sd = refl

decoys_lists : (ds : List Text) → ElementsDigestLists (digest_elements ds)
decoys_lists [] = tt
decoys_lists (d ∷ ds) = (((λ e. let f : bytes_eq dots_name sd_name ≡ false = dots_not_sd in cc), tt, tt), decoys_lists ds)

digest_lists : (d : Text) → HasDigestLists (digest_object d)
digest_lists d = ((λ e. let f : bytes_eq dots_name sd_name ≡ false = dots_not_sd in cc), tt, tt)

-- ---- the digests of marks and of decoys differ

module _ (dg : ℕ → Text) (n c : ℕ) (differ : AllDiffer dg (n + c)) where
  not_same : (i j : ℕ) → i < n + c → j < n + c → dg i ≡ dg j → i ≡ j
  not_same i j a b e = go (compare_lt i j)
    where
      go : (i < j) ⊎ ((i ≡ j) ⊎ (j < i)) → i ≡ j
      go (inl l) = absurd (differ i j l b e)
      go (inr (inl q)) = q
      go (inr (inr l)) = absurd (differ j i l a (sym e))

  abbrev InRange : ℕ → ℕ → Text → Type 0
  InRange a b e = (i : ℕ) × (a ≤ i) × (i < b) × (e ≡ dg i)

  range_step : (b : Bool) (k a w : ℕ) (l : Text) (u : Marked) (ns : MarkedMembers) (e : Text) → (In e (hidden_digests dg ns) → InRange (k + (a + one_if b)) (k + (a + one_if b) + w) e)
      → In e (hidden_digests dg (marked_member l (mark_if b (k + a)) u ns)) → InRange k (k + ((a + one_if b) + w)) e
  range_step true k a w l u ns e ih (inl q) = (k + a, omega arith, omega arith, q)
  range_step true k a w l u ns e ih (inr m) = let z = ih m in (z.0, omega (arith, z.1), omega (arith, z.2), z.3)
  range_step false k a w l u ns e ih m = let z = ih m in (z.0, omega (arith, z.1), omega (arith, z.2), z.3)

  hidden_range : (h : Path → Bool) (k : ℕ) (ms : Members) (e : Text) → In e (hidden_digests dg (mark_members h k ms)) → InRange k (k + hidden_members h ms) e
  hidden_range h k no_members e = λ m. elim m [ ]
  hidden_range h k (member l t ms) e =
      let a = hidden_in (below l h) t in
      let b = h (l ∷ []) in
      range_step b k a (hidden_members h ms) l (mark_from (below l h) k t) (mark_members h (k + (a + one_if b)) ms) e (hidden_range h (k + (a + one_if b)) ms e)

  apart_step : (b : Bool) (k a w : ℕ) (l : Text) (u : Marked) (ns : MarkedMembers) → ((e : Text) → In e (hidden_digests dg ns) → InRange (k + (a + one_if b)) (k + (a + one_if b) + w) e)
      → k + ((a + one_if b) + w) ≤ n → Apart (hidden_digests dg ns) → Apart (hidden_digests dg (marked_member l (mark_if b (k + a)) u ns))
  apart_step true k a w l u ns r le ih = ((λ m. let z = r (dg (k + a)) m in let q = not_same (k + a) z.0 (omega (arith, le)) (omega (arith, z.2, le)) z.3 in omega (arith, q, z.1)), ih)
  apart_step false k a w l u ns r le ih = ih

  hidden_apart : (h : Path → Bool) (k : ℕ) (ms : Members) → k + hidden_members h ms ≤ n → Apart (hidden_digests dg (mark_members h k ms))
  hidden_apart h k no_members le = tt
  hidden_apart h k (member l t ms) le =
      let a = hidden_in (below l h) t in
      let b = h (l ∷ []) in
      apart_step b k a (hidden_members h ms) l (mark_from (below l h) k t) (mark_members h (k + (a + one_if b)) ms) (hidden_range h (k + (a + one_if b)) ms) le
      (hidden_apart h (k + (a + one_if b)) ms (omega (arith, le)))

  pub record AreDecoys (dec : Path → List Text) : Type 0 where
    pub apart : (q : Path) → Apart (dec q)
    pub within : (q : Path) (e : Text) → In e (dec q) → InRange n (n + c) e

  under_decoys : (k : Text) (dec : Path → List Text) → AreDecoys dec → AreDecoys (λ q. dec (k ∷ q))
  under_decoys k dec d = record { apart = λ q. d.apart (k ∷ q); within = λ q. d.within (k ∷ q) }

  all_apart : (dec : Path → List Text) → AreDecoys dec → (h : Path → Bool) (k : ℕ) (ms : Members) → k + hidden_members h ms ≤ n → Apart (hidden_digests dg (mark_members h k ms) ++ dec [])
  all_apart dec d h k ms le =
      apart_join (hidden_digests dg (mark_members h k ms)) (dec []) (hidden_apart h k ms le) (d.apart [])
      (λ e x y. let a = hidden_range h k ms e x in let b = d.within [] e y in
      let q = not_same a.0 b.0 (omega (arith, a.2, le)) b.2 (sym a.3 ∙ b.3) in omega (arith, q, a.2, b.1, le))

  lay_element : (b : Bool) (dec : Path → List Text) (i j : ℕ) (u : Marked) (es : MarkedElements) → HasDigestLists (lay (λ q. dec (decimal i ∷ q)) dg u) → ElementsDigestLists (lay_elements dec dg (suc i) es)
      → ElementsDigestLists (lay_elements dec dg i (marked_element (mark_if b j) u es))
  lay_element true dec i j u es h k = (digest_lists (dg j), k)
  lay_element false dec i j u es h k = (h, k)

  lay_member : (b : Bool) (dec : Path → List Text) (l : Text) (j : ℕ) (u : Marked) (ms : MarkedMembers) → bytes_eq l sd_name ≡ false → HasDigestLists (lay (λ q. dec (l ∷ q)) dg u) → MembersDigestLists (lay_members dec dg ms)
      → MembersDigestLists (lay_members dec dg (marked_member l (mark_if b j) u ms))
  lay_member true dec l j u ms f h k = k
  lay_member false dec l j u ms f h k = ((λ e. cc), h, k)

  mutual
    pub lay_lists : (dec : Path → List Text) → AreDecoys dec → (h : Path → Bool) (k : ℕ) (t : Tree) → HasNoReserved t → k + hidden_in h t ≤ n → HasDigestLists (lay dec dg (mark_from h k t))
    lay_lists dec d h k (leaf l) f le = tt
    lay_lists dec d h k (array es) f le = (tt, elements_lists dec d h k 0 es f.1 le)
    lay_lists dec d h k (object ms) f le =
        with_sd_lists (sorted (hidden_digests dg (mark_members h k ms) ++ dec [])) (lay_members dec dg (mark_members h k ms))
        (sort_rises (hidden_digests dg (mark_members h k ms) ++ dec []) (all_apart dec d h k ms le)) (members_lists dec d h k ms f le)

    elements_lists : (dec : Path → List Text) → AreDecoys dec → (h : Path → Bool) (k i : ℕ) (es : Elements) → ElementsNoReserved es → k + hidden_elements h i es ≤ n → ElementsDigestLists (lay_elements dec dg i (mark_elements h k i es))
    elements_lists dec d h k i no_elements f le = decoys_lists (dec [])
    elements_lists dec d h k i (element t es) f le =
        let a = hidden_in (below (decimal i) h) t in
        let b = h (decimal i ∷ []) in
        lay_element b dec i (k + a) (mark_from (below (decimal i) h) k t) (mark_elements h (k + (a + one_if b)) (suc i) es)
        (lay_lists (λ q. dec (decimal i ∷ q)) (under_decoys (decimal i) dec d) (below (decimal i) h) k t f.0 (omega (arith, le)))
        (elements_lists dec d h (k + (a + one_if b)) (suc i) es f.1 (omega (arith, le)))

    members_lists : (dec : Path → List Text) → AreDecoys dec → (h : Path → Bool) (k : ℕ) (ms : Members) → MembersNoReserved ms → k + hidden_members h ms ≤ n → MembersDigestLists (lay_members dec dg (mark_members h k ms))
    members_lists dec d h k no_members f le = tt
    members_lists dec d h k (member l t ms) f le =
        let a = hidden_in (below l h) t in
        let b = h (l ∷ []) in
        lay_member b dec l (k + a) (mark_from (below l h) k t) (mark_members h (k + (a + one_if b)) ms) f.0.0
        (lay_lists (λ q. dec (l ∷ q)) (under_decoys l dec d) (below l h) k t f.1 (omega (arith, le)))
        (members_lists dec d h (k + (a + one_if b)) ms f.2 (omega (arith, le)))

  abbrev ValuesListed : List Given → Type 0
  ValuesListed xs = (x : Given) → In x xs → HasDigestLists x.value

  listed_join : (xs ys : List Given) → ValuesListed xs → ValuesListed ys → ValuesListed (xs ++ ys)
  listed_join xs ys a b x m = ⊎_elim (λ z. a x z) (λ z. b x z) (In-append x xs ys m)

  listed_own : (name : Option Text) (b : Bool) (j : ℕ) (v : Tree) → HasDigestLists v → ValuesListed (own_given dg name (mark_if b j) v)
  listed_own name true j v h x (inl e) = subst (λ (z : Given). HasDigestLists z.value) (sym e) h
  listed_own name true j v h x (inr m) = elim m [ ]
  listed_own name false j v h x m = elim m [ ]

  mutual
    pub items_listed : (dec : Path → List Text) → AreDecoys dec → (h : Path → Bool) (k : ℕ) (t : Tree) → HasNoReserved t → k + hidden_in h t ≤ n → ValuesListed (laid_given dec dg (mark_from h k t))
    items_listed dec d h k (leaf l) f le = λ x m. elim m [ ]
    items_listed dec d h k (array es) f le = elements_listed dec d h k 0 es f.1 le
    items_listed dec d h k (object ms) f le = members_listed dec d h k ms f le

    elements_listed : (dec : Path → List Text) → AreDecoys dec → (h : Path → Bool) (k i : ℕ) (es : Elements) → ElementsNoReserved es → k + hidden_elements h i es ≤ n → ValuesListed (laid_elements dec dg i (mark_elements h k i es))
    elements_listed dec d h k i no_elements f le = λ x m. elim m [ ]
    elements_listed dec d h k i (element t es) f le =
        let s : Path → List Text = λ q. dec (decimal i ∷ q) in
        let a = hidden_in (below (decimal i) h) t in
        let b = h (decimal i ∷ []) in
        let u = mark_from (below (decimal i) h) k t in
        let dd = under_decoys (decimal i) dec d in
        listed_join (laid_given s dg u ++ own_given dg None (mark_if b (k + a)) (lay s dg u)) (laid_elements dec dg (suc i) (mark_elements h (k + (a + one_if b)) (suc i) es))
        (listed_join (laid_given s dg u) (own_given dg None (mark_if b (k + a)) (lay s dg u)) (items_listed s dd (below (decimal i) h) k t f.0 (omega (arith, le)))
        (listed_own None b (k + a) (lay s dg u) (lay_lists s dd (below (decimal i) h) k t f.0 (omega (arith, le)))))
        (elements_listed dec d h (k + (a + one_if b)) (suc i) es f.1 (omega (arith, le)))

    members_listed : (dec : Path → List Text) → AreDecoys dec → (h : Path → Bool) (k : ℕ) (ms : Members) → MembersNoReserved ms → k + hidden_members h ms ≤ n → ValuesListed (laid_members dec dg (mark_members h k ms))
    members_listed dec d h k no_members f le = λ x m. elim m [ ]
    members_listed dec d h k (member l t ms) f le =
        let s : Path → List Text = λ q. dec (l ∷ q) in
        let a = hidden_in (below l h) t in
        let b = h (l ∷ []) in
        let u = mark_from (below l h) k t in
        let dd = under_decoys l dec d in
        listed_join (laid_given s dg u ++ own_given dg (Some l) (mark_if b (k + a)) (lay s dg u)) (laid_members dec dg (mark_members h (k + (a + one_if b)) ms))
        (listed_join (laid_given s dg u) (own_given dg (Some l) (mark_if b (k + a)) (lay s dg u)) (items_listed s dd (below l h) k t f.1 (omega (arith, le)))
        (listed_own (Some l) b (k + a) (lay s dg u) (lay_lists s dd (below l h) k t f.1 (omega (arith, le)))))
        (members_listed dec d h (k + (a + one_if b)) ms f.2 (omega (arith, le)))

  decoys_apart : (k : ℕ) (ps : List Path) (q : Path) → k + length ps ≤ n + c → Apart (decoys_at dg k ps q)
  decoys_apart k [] q le = tt
  decoys_apart k (r ∷ ps) q le = go (same_path r q) (decoys_apart (suc k) ps q (omega (arith, le)))
    where
      go : (b : Bool) → Apart (decoys_at dg (suc k) ps q) → Apart (cond b (dg k ∷ []) [] ++ decoys_at dg (suc k) ps q)
      go true ih = ((λ m. let w = in_decoys dg (suc k) ps q (dg k) m in let e = not_same k (suc k + w.0) (omega (arith, le)) (omega (arith, le, w.1)) w.2 in omega (arith, e)), ih)
      go false ih = ih

  pub are_decoys : (ps : List Path) → length ps ≡ c → AreDecoys (decoys_at dg n ps)
  are_decoys ps e = record {
    apart = λ q. decoys_apart n ps q (omega (arith, e));
    within = λ q d m. let w = in_decoys dg n ps q d m in (n + w.0, omega arith, omega (arith, w.1, e), w.2);
  }
