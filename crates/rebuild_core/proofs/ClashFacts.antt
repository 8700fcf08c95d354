-- The first name that is there already, found in one pass.
use Rattle.std.proofs.Common.{◌≡◌, ℕ, ◌+◌, ◌<◌, ◌≤◌, List, length, Bool, true, false, not, ◌&&◌, eqb, if◌then◌else◌, Option, Some, None, ◌⊎◌, inl, inr, ⊎_elim, refl, sym, ap, ◌∙◌, subst, arith, eqb-true, eq-eqb}
use Rattle.std.specs.Prelude.{bytes_eq}
use Rattle.std.proofs.lemmas.Bool.{and_parts, and_from}
use Rattle.claim_tree.specs.Tree.{Text}
use Rattle.sd_outside.specs.Lists.{StandsAt, In, AtNone, IsLeast}
use Rattle.claim_tree.proofs.Counting.{before_or_at}
use Rattle.sd_outside.proofs.Lists.{At-same, At-below, bytes_same, bytes_refl}
use Rattle.digest_sites.specs.Given.{Given}
use Rattle.rebuild_core.specs.Rows.{SeenRow}
use Rattle.rebuild_core.specs.RowNames.{given_name, NamesAt, Clashes}

-- what has the names that are disclosed at the first q places, where none of them clashes
pub record IsNoted (rows : List SeenRow) (numbers : List ℕ) (g : List Given) (q : ℕ) (has : ℕ → Text → Bool) : Type 0 where
  pub from : (object : ℕ) (name : Text) → has object name ≡ true → (j : ℕ) × (j < q) × (e : SeenRow) × NamesAt rows numbers g j e name × (e.object ≡ object)
  pub whole : (j : ℕ) (e : SeenRow) (name : Text) → j < q → NamesAt rows numbers g j e name → has e.object name ≡ true
  pub none : (r : ℕ) → r < q → Clashes rows numbers g r → ⊥

same_name : (k l : Text) → ◌≡◌ {A = Option Text} (Some k) (Some l) → k ≡ l
same_name k l e = cc

-- a place discloses one name at one row
one_name : (rows : List SeenRow) (numbers : List ℕ) (g : List Given) (q : ℕ) (m n : SeenRow) (k l : Text) → NamesAt rows numbers g q m k → NamesAt rows numbers g q n l → (m ≡ n) × (k ≡ l)
one_name rows numbers g q m n k l a b =
    let i : a.1 ≡ b.1 = At-same numbers q a.1 b.1 a.2 b.2 in
    let r : m ≡ n = At-same rows q m n a.0 b.0 in
    (r, same_name k l (sym a.3 ∙ ap (λ z. given_name m.kind g z) i ∙ ap (λ (z : SeenRow). given_name z.kind g b.1) r ∙ b.3))

pub noted_found : (rows : List SeenRow) (numbers : List ℕ) (g : List Given) (q : ℕ) (has : ℕ → Text → Bool) → IsNoted rows numbers g q has → (m : SeenRow) (k : Text) → NamesAt rows numbers g q m k
    → (In k m.beside ⊎ (has m.object k ≡ true)) → IsLeast (Clashes rows numbers g) q
noted_found rows numbers g q has s m k n h = record { fails = (m, k, n, ⊎_elim (λ l. inl l) (λ r. inr (s.from m.object k r)) h); first = s.none }

pub noted_step : (rows : List SeenRow) (numbers : List ℕ) (g : List Given) (q : ℕ) (has more : ℕ → Text → Bool) → IsNoted rows numbers g q has → (m : SeenRow) (k : Text) → NamesAt rows numbers g q m k
    → (In k m.beside → ⊥) → has m.object k ≡ false → ((o : ℕ) (n : Text) → more o n ≡ (if eqb m.object o && bytes_eq k n then true else has o n)) → IsNoted rows numbers g (q + 1) more
noted_step rows numbers g q has more s m k n b c e = record {
  from = λ o l h. taken o l (eqb m.object o && bytes_eq k l) refl (sym (e o l) ∙ h);
  whole = λ j i l lt d. ⊎_elim (λ z. e i.object l ∙ kept (eqb m.object i.object && bytes_eq k l) (has i.object l) (s.whole j i l z d)) (λ z. here j i l z d) (before_or_at j q lt);
  none = λ r lt d. ⊎_elim (λ o. s.none r o d) (λ o. fresh (subst (λ z. Clashes rows numbers g z) o d)) (before_or_at r q lt);
}
  where
    kept : (t h : Bool) → h ≡ true → (if t then true else h) ≡ true
    kept true h e = refl
    kept false h e = e

    taken : (o : ℕ) (l : Text) (t : Bool) → (eqb m.object o && bytes_eq k l) ≡ t → (if t then true else has o l) ≡ true
        → (j : ℕ) × (j < q + 1) × (i : SeenRow) × NamesAt rows numbers g j i l × (i.object ≡ o)
    taken o l true t h =
        let w = and_parts (eqb m.object o) (bytes_eq k l) t in
        (q, omega arith, m, subst (λ z. NamesAt rows numbers g q m z) (bytes_same k l w.1) n, eqb-true m.object o w.0)
    taken o l false t h = let w = s.from o l h in (w.0, omega (arith, w.1), w.2, w.3, w.4)

    here : (j : ℕ) (i : SeenRow) (l : Text) → j ≡ q → NamesAt rows numbers g j i l → more i.object l ≡ true
    here j i l z d =
        let w = one_name rows numbers g q m i k l n (subst (λ y. NamesAt rows numbers g y i l) z d) in
        let t : (eqb m.object i.object && bytes_eq k l) ≡ true = and_from (eqb m.object i.object) (bytes_eq k l) (eq-eqb m.object i.object (ap (λ (y : SeenRow). y.object) w.0)) (bytes_refl k l w.1) in
        e i.object l ∙ ap (λ y. if y then true else has i.object l) t

    fresh : Clashes rows numbers g q → ⊥
    fresh d =
        let w = one_name rows numbers g q d.0 m d.1 k d.2 n in
        ⊎_elim (λ l. b (subst (λ (z : SeenRow). In k z.beside) w.0 (subst (λ z. In z d.0.beside) w.1 l)))
        (λ r. let z : has m.object k ≡ true = sym (ap (λ y. has y k) (r.4 ∙ ap (λ (y : SeenRow). y.object) w.0)) ∙ s.whole r.0 r.2 k r.1 (subst (λ y. NamesAt rows numbers g r.0 r.2 y) w.1 r.3) in cc) d.3

-- the place discloses nothing
pub noted_skip : (rows : List SeenRow) (numbers : List ℕ) (g : List Given) (q i : ℕ) (row : SeenRow) (has : ℕ → Text → Bool) → IsNoted rows numbers g q has
    → StandsAt rows q row → StandsAt numbers q i → None ≡ given_name row.kind g i → IsNoted rows numbers g (q + 1) has
noted_skip rows numbers g q i row has s a b h = record {
  from = λ o l m. let w = s.from o l m in (w.0, omega (arith, w.1), w.2, w.3, w.4);
  whole = λ j m l lt d. ⊎_elim (λ o. s.whole j m l o d) (λ o. absurd (nothing m l (subst (λ z. NamesAt rows numbers g z m l) o d))) (before_or_at j q lt);
  none = λ r lt d. ⊎_elim (λ o. s.none r o d) (λ o. let w : Clashes rows numbers g q = subst (λ z. Clashes rows numbers g z) o d in nothing w.0 w.1 w.2) (before_or_at r q lt);
}
  where
    nothing : (m : SeenRow) (l : Text) → NamesAt rows numbers g q m l → ⊥
    nothing m l d =
        let r : m ≡ row = At-same rows q m row d.0 a in
        let j : d.1 ≡ i = At-same numbers q d.1 i d.2 b in
        let z : ◌≡◌ {A = Option Text} None (Some l) = h ∙ sym (ap (λ y. given_name m.kind g y) j ∙ ap (λ (y : SeenRow). given_name y.kind g i) r) ∙ d.3 in
        cc

pub noted_end : (rows : List SeenRow) (numbers : List ℕ) (g : List Given) (q : ℕ) (has : ℕ → Text → Bool) → IsNoted rows numbers g q has → length rows ≤ q → AtNone (Clashes rows numbers g)
noted_end rows numbers g q has s l r d = s.none r (omega (arith, l, At-below rows r d.0 d.2.0)) d

pub was_noted : (new had : Bool) → new ≡ not had → new ≡ false → had ≡ true
was_noted new true e h = refl
was_noted new false e h = let z : new ≡ true = e in cc

pub is_new : (new had : Bool) → new ≡ not had → new ≡ true → had ≡ false
is_new new false e h = refl
is_new new true e h = let z : new ≡ false = e in cc
