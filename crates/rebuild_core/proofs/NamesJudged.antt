-- Conditions 18 to 20 hold where they do over the flat list of digests.
use Rattle.std.proofs.Common.{◌≡◌, ℕ, zero, suc, List, [], ◌∷◌, length, Option, Some, inl, inr, ⊎_elim, refl, sym, ap, ap₂, ◌∙◌, subst, arith}
use Rattle.std.specs.Prelude.{option_and_then, slice_get}
use Rattle.claim_tree.specs.Tree.{Text, Tree}
use Rattle.sd_outside.specs.Lists.{StandsAt, In, AtNone, IsLeast}
use Rattle.sd_outside.proofs.Lists.{At-below, At-In, In-At, At-get}
use Rattle.digest_sites.specs.Sites.{Step}
use Rattle.digest_sites.specs.Given.{Given}
use Rattle.digest_sites.specs.declared.site.SiteKind.{SiteKind}
use Rattle.digest_sites.specs.declared.site.SiteKind.TheVariants.{Member}
use Rattle.rebuild_core.specs.Payload.{without_alg}
use Rattle.rebuild_core.specs.Reached.{Owner, OwnedSite, met, all_sites}
use Rattle.rebuild_core.specs.Conditions.{IsWrong, WrongShape, IsReserved, ReservedName, Discloses, NameClash}
use Rattle.rebuild_core.specs.Soundness.{IsReferencedOnce}
use Rattle.rebuild_core.specs.Answer.{IsPayload}
use Rattle.rebuild_core.specs.Readable.{IsReadable}
use Rattle.rebuild_core.specs.Rows.{SeenRow, all_rows}
use Rattle.rebuild_core.specs.DigestNumbers.{IsNumbered}
use Rattle.rebuild_core.specs.RowNames.{IsWrongRow, IsReservedRow, IsReservedIn, StandsAtRow, given_name, NamesAt, Clashes}
use Rattle.rebuild_core.proofs.Judged.{met_all}
use Rattle.rebuild_core.proofs.RowFacts.{row_is_item}
use Rattle.rebuild_core.proofs.SideBySide.{both_at}
use Rattle.rebuild_core.proofs.ObjectFacts.{IsLaid}
use Rattle.rebuild_core.proofs.ItemObjects.{Object, object_of, item_kind, all_laid, all_top}

-- ---- disclosures by number

get_at : (given : List Given) (i : ℕ) (x : Given) → StandsAt given i x → slice_get given i ≡ Some x
get_at (y ∷ given) zero x h = ap Some (sym h)
get_at (y ∷ given) (suc i) x h = get_at given i x h
get_at [] i x h = elim h [ ]

at_get : (given : List Given) (i : ℕ) (name : Text) → option_and_then (λ (x : Given). x.name) (slice_get given i) ≡ Some name → (x : Given) × StandsAt given i x × (x.name ≡ Some name)
at_get (x ∷ given) zero name h = (x, refl, h)
at_get (x ∷ given) (suc i) name h = at_get given i name h
at_get [] i name h = cc

gives_name : (kind : SiteKind) (given : List Given) (i : ℕ) (x : Given) (name : Text) → kind ≡ Member → StandsAt given i x → x.name ≡ Some name → given_name kind given i ≡ Some name
gives_name SiteKind.Member given i x name k a e = ap (λ (z : Option Given). option_and_then (λ (y : Given). y.name) z) (get_at given i x a) ∙ e
gives_name SiteKind.Element given i x name k a e = cc

name_given : (kind : SiteKind) (given : List Given) (i : ℕ) (name : Text) → given_name kind given i ≡ Some name → (kind ≡ Member) × (x : Given) × StandsAt given i x × (x.name ≡ Some name)
name_given SiteKind.Member given i name h = let w = at_get given i name h in (refl, w.0, w.1, w.2)
name_given SiteKind.Element given i name h = cc

pub least_as : (A B : ℕ → Type 0) → ((i : ℕ) → A i → B i) → ((i : ℕ) → B i → A i) → (i : ℕ) → IsLeast A i → IsLeast B i
least_as A B f h i l = record { fails = f i l.fails; first = λ r lt x. l.first r lt (h r x) }

-- ---- the conditions

module _ (t : Tree) (given : List Given) (numbers : List ℕ) (o : IsReadable t given) (h : IsPayload t) (ok : IsReferencedOnce (without_alg t) given) (w : IsNumbered (without_alg t) given numbers) where
  laid : IsLaid item_kind object_of (met (without_alg t) given) (all_rows t given) 0 (length (all_rows t given))
  laid = subst (λ z. IsLaid item_kind object_of z (all_rows t given) 0 (length (all_rows t given))) (met_all (without_alg t) given ok) (all_laid t given o h)

  row_at : (q : ℕ) (m : OwnedSite) → StandsAt (met (without_alg t) given) q m → (r : SeenRow) × StandsAt (all_rows t given) q r
  row_at q m a = At-get (all_rows t given) q (omega (arith, At-below (met (without_alg t) given) q m a, laid.length))

  item_at : (q : ℕ) (r : SeenRow) → StandsAt (all_rows t given) q r → (m : OwnedSite) × StandsAt (met (without_alg t) given) q m
  item_at q r a = At-get (met (without_alg t) given) q (omega (arith, At-below (all_rows t given) q r a, laid.length))

  alike : (q : ℕ) (m : OwnedSite) (r : SeenRow) → StandsAt (met (without_alg t) given) q m → StandsAt (all_rows t given) q r → (r.kind ≡ m.site.kind) × (r.digest ≡ m.site.digest) × (r.beside ≡ m.site.beside)
  alike q m r a b = row_is_item t given o.in_payload h q r m b (subst (λ z. StandsAt z q m) (sym (met_all (without_alg t) given ok)) a)

  number_of : (i : ℕ) (x : Given) (m : OwnedSite) → StandsAt given i x → In m (met (without_alg t) given) → m.site.digest ≡ x.digest → (q : ℕ) × StandsAt numbers q i × StandsAt (met (without_alg t) given) q m
  number_of i x m a b e =
      let v = In-At (met (without_alg t) given) m b in
      let n = At-get numbers v.0 (omega (arith, At-below (met (without_alg t) given) v.0 m v.1, w.length)) in
      (v.0, subst (λ z. StandsAt numbers v.0 z) (w.back v.0 n.0 i m x n.1 v.1 a e) n.1, v.1)

  wrong_there : (i : ℕ) → WrongShape (without_alg t) given i → StandsAtRow IsWrongRow (all_rows t given) numbers given i
  wrong_there i b =
      let v = number_of i b.0 b.2 b.1 b.3 b.4 in
      let r = row_at v.0 b.2 v.2 in
      (v.0, v.1, r.0, r.1, b.0, b.1, subst (λ z. IsWrong z b.0.name) (sym (alike v.0 b.2 r.0 v.2 r.1).0) b.5)

  there_wrong : (i : ℕ) → StandsAtRow IsWrongRow (all_rows t given) numbers given i → WrongShape (without_alg t) given i
  there_wrong i b =
      let m = item_at b.0 b.2 b.3 in
      (b.4, b.5, m.0, At-In (met (without_alg t) given) b.0 m.0 m.1, w.same b.0 i m.0 b.4 b.1 m.1 b.5, subst (λ z. IsWrong z b.4.name) (alike b.0 m.0 b.2 m.1 b.3).0 b.6)

  reserved_in : (q : ℕ) (m : OwnedSite) (r : SeenRow) (name : Text) → StandsAt (met (without_alg t) given) q m → StandsAt (all_rows t given) q r → IsReserved m name → IsReservedIn r name
  reserved_in q m r name a b (inl e) = inl e
  reserved_in q m r name a b (inr (inl e)) = inr (inl e)
  reserved_in q m r name a b (inr (inr e)) =
      inr (inr (e.0, (all_top t given o h m r (both_at (all_sites (without_alg t) given) (all_rows t given) q m r (subst (λ z. StandsAt z q m) (sym (met_all (without_alg t) given ok)) a) b)).1 e.1 e.2))

  in_reserved : (q : ℕ) (m : OwnedSite) (r : SeenRow) (name : Text) → StandsAt (met (without_alg t) given) q m → StandsAt (all_rows t given) q r → IsReservedIn r name → IsReserved m name
  in_reserved q m r name a b (inl e) = inl e
  in_reserved q m r name a b (inr (inl e)) = inr (inl e)
  in_reserved q m r name a b (inr (inr e)) =
      let z = (all_top t given o h m r (both_at (all_sites (without_alg t) given) (all_rows t given) q m r (subst (λ z. StandsAt z q m) (sym (met_all (without_alg t) given ok)) a) b)).0 e.1 in
      inr (inr (e.0, z.0, z.1))

  reserved_there : (i : ℕ) → ReservedName (without_alg t) given i → StandsAtRow IsReservedRow (all_rows t given) numbers given i
  reserved_there i b =
      let v = number_of i b.0 b.2 b.1 b.3 b.4 in
      let r = row_at v.0 b.2 v.2 in
      let c = b.5 in
      (v.0, v.1, r.0, r.1, b.0, b.1, ((alike v.0 b.2 r.0 v.2 r.1).0 ∙ c.0, c.1, c.2, reserved_in v.0 b.2 r.0 c.1 v.2 r.1 c.3))

  there_reserved : (i : ℕ) → StandsAtRow IsReservedRow (all_rows t given) numbers given i → ReservedName (without_alg t) given i
  there_reserved i b =
      let m = item_at b.0 b.2 b.3 in
      let c = b.6 in (
        b.4,
        b.5,
        m.0,
        At-In (met (without_alg t) given) b.0 m.0 m.1,
        w.same b.0 i m.0 b.4 b.1 m.1 b.5,
        (sym (alike b.0 m.0 b.2 m.1 b.3).0 ∙ c.0, c.1, c.2, in_reserved b.0 m.0 b.2 c.1 m.1 b.3 c.3),
      )

  names_at : (q : ℕ) (m : OwnedSite) (r : SeenRow) (name : Text) → StandsAt (met (without_alg t) given) q m → StandsAt (all_rows t given) q r → Discloses given m name → NamesAt (all_rows t given) numbers given q r name
  names_at q m r name a b d =
      let i = In-At given d.1 d.2 in
      let n = At-get numbers q (omega (arith, At-below (met (without_alg t) given) q m a, w.length)) in
      let e : n.0 ≡ i.0 = w.back q n.0 i.0 m d.1 n.1 a i.1 (sym d.3) in
      (b, i.0, subst (λ z. StandsAt numbers q z) e n.1, gives_name r.kind given i.0 d.1 name ((alike q m r a b).0 ∙ d.0) i.1 d.4)

  discloses_at : (q : ℕ) (m : OwnedSite) (r : SeenRow) (name : Text) → StandsAt (met (without_alg t) given) q m → NamesAt (all_rows t given) numbers given q r name → Discloses given m name
  discloses_at q m r name a n =
      let x = name_given r.kind given n.1 name n.3 in
      (sym (alike q m r a n.0).0 ∙ x.0, x.1, At-In given n.1 x.1 x.2, sym (w.same q n.1 m x.1 n.2 a x.2), x.3)

  clash_there : (q : ℕ) → NameClash (without_alg t) given q → Clashes (all_rows t given) numbers given q
  clash_there q c =
      let r = row_at q c.0 c.1 in (
        r.0,
        c.2,
        names_at q c.0 r.0 c.2 c.1 r.1 c.3,
        ⊎_elim
            (λ l. inl (subst (λ z. In c.2 z) (sym (alike q c.0 r.0 c.1 r.1).2) l))
            (λ b.
            let s = row_at b.0 b.2 b.3 in
            let e : object_of b.2 ≡ object_of c.0 = ap₂ (λ (u : Owner) (a : List Step). let z : Object = record { owner = u; at = a } in z) b.4 b.5 in
            inr (b.0, b.1, s.0, names_at b.0 b.2 s.0 c.2 b.3 s.1 b.6, laid.joins b.2 c.0 s.0 r.0 (both_at (met (without_alg t) given) (all_rows t given) b.0 b.2 s.0 b.3 s.1) (both_at (met (without_alg t) given) (all_rows t given) q c.0 r.0 c.1 r.1) b.6.0 c.3.0 e))
            c.4,
      )

  there_clash : (q : ℕ) → Clashes (all_rows t given) numbers given q → NameClash (without_alg t) given q
  there_clash q c =
      let m = item_at q c.0 c.2.0 in
      let d = discloses_at q m.0 c.0 c.1 m.1 c.2 in (
        m.0,
        m.1,
        c.1,
        d,
        ⊎_elim
            (λ l. inl (subst (λ z. In c.1 z) (alike q m.0 c.0 m.1 c.2.0).2 l))
            (λ b.
            let s = item_at b.0 b.2 b.3.0 in
            let f = discloses_at b.0 s.0 b.2 c.1 s.1 b.3 in
            let e : object_of s.0 ≡ object_of m.0 = laid.parts s.0 m.0 b.2 c.0 (both_at (met (without_alg t) given) (all_rows t given) b.0 s.0 b.2 s.1 b.3.0) (both_at (met (without_alg t) given) (all_rows t given) q m.0 c.0 m.1 c.2.0) f.0 d.0 b.4 in
            inr (b.0, b.1, s.0, s.1, ap (λ (z : Object). z.owner) e, ap (λ (z : Object). z.at) e, f))
            c.3,
      )

module _ (t : Tree) (given : List Given) (numbers : List ℕ) (rows : List SeenRow) (o : IsReadable t given) (h : IsPayload t) (ok : IsReferencedOnce (without_alg t) given) (w : IsNumbered (without_alg t) given numbers) (same : rows ≡ all_rows t given) where
  pub rows_fit : length numbers ≡ length rows
  rows_fit = w.length ∙ (laid t given numbers o h ok w).length ∙ ap length (sym same)

  pub wrong_least : (i : ℕ) → IsLeast (StandsAtRow IsWrongRow rows numbers given) i → IsLeast (WrongShape (without_alg t) given) i
  wrong_least i l = least_as (StandsAtRow IsWrongRow (all_rows t given) numbers given) (WrongShape (without_alg t) given) (there_wrong t given numbers o h ok w) (wrong_there t given numbers o h ok w) i
      (subst (λ z. IsLeast (StandsAtRow IsWrongRow z numbers given) i) same l)

  pub wrong_none : AtNone (StandsAtRow IsWrongRow rows numbers given) → AtNone (WrongShape (without_alg t) given)
  wrong_none n = λ i d. n i (subst (λ z. StandsAtRow IsWrongRow z numbers given i) (sym same) (wrong_there t given numbers o h ok w i d))

  pub reserved_least : (i : ℕ) → IsLeast (StandsAtRow IsReservedRow rows numbers given) i → IsLeast (ReservedName (without_alg t) given) i
  reserved_least i l = least_as (StandsAtRow IsReservedRow (all_rows t given) numbers given) (ReservedName (without_alg t) given) (there_reserved t given numbers o h ok w) (reserved_there t given numbers o h ok w) i
      (subst (λ z. IsLeast (StandsAtRow IsReservedRow z numbers given) i) same l)

  pub reserved_none : AtNone (StandsAtRow IsReservedRow rows numbers given) → AtNone (ReservedName (without_alg t) given)
  reserved_none n = λ i d. n i (subst (λ z. StandsAtRow IsReservedRow z numbers given i) (sym same) (reserved_there t given numbers o h ok w i d))

  pub clash_least : (i : ℕ) → IsLeast (Clashes rows numbers given) i → IsLeast (NameClash (without_alg t) given) i
  clash_least i l = least_as (Clashes (all_rows t given) numbers given) (NameClash (without_alg t) given) (there_clash t given numbers o h ok w) (clash_there t given numbers o h ok w) i
      (subst (λ z. IsLeast (Clashes z numbers given) i) same l)

  pub clash_none : AtNone (Clashes rows numbers given) → AtNone (NameClash (without_alg t) given)
  clash_none n = λ i d. n i (subst (λ z. Clashes z numbers given i) (sym same) (clash_there t given numbers o h ok w i d))
