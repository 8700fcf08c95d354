-- The first four conditions, by numbers.
use Rattle.std.proofs.Common.{◌≡◌, ℕ, suc, ◌<◌, List, [], ◌∷◌, ◌++◌, map, length, get_or, Bool, true, false, inl, inr, refl, sym, ap, ◌∙◌, subst, arith}
use Rattle.claim_tree.specs.Tree.{Text, Tree, IsOrdered}
use Rattle.sd_outside.specs.Lists.{StandsAt, In, AtNone, IsLeast, Repeats}
use Rattle.digest_sites.specs.Sites.{sites}
use Rattle.digest_sites.specs.Given.{Given}
use Rattle.rebuild_core.specs.Payload.{without_alg}
use Rattle.rebuild_core.specs.Reached.{OwnedSite, owned_site, payload, value_of, value_sites, is_reached, met, owned_digests, given_digests, all_sites}
use Rattle.rebuild_core.specs.LookUps.{look_ups, counted, RoseWithin}
use Rattle.rebuild_core.specs.Rows.{seen, all_rows, row_ends}
use Rattle.rebuild_core.specs.Conditions.{RepeatedDisclosure, Misused, RepeatedDigest, Unreferenced}
use Rattle.rebuild_core.specs.Soundness.{IsReferencedOnce}
use Rattle.sd_outside.proofs.Lists.{At-same, At-map, In-At, one_place}
use Rattle.rebuild_core.specs.DigestNumbers.{numbers, all_interned, row_texts, AllAt, IsFlatList, IsNumbered}
use Rattle.rebuild_core.specs.Answer.{IsPayload}
use Rattle.rebuild_core.specs.declared.rows.Row.{Row}
use Rattle.rebuild_core.specs.Graph.{roots_in, rows_in, is_met_in, flagged_rows, IsClear}
use Rattle.rebuild_core.proofs.Chains.{reached_all}
use Rattle.rebuild_core.proofs.RowFacts.{all_row_texts, rows_looked_up}
use Rattle.rebuild_core.proofs.Transfer.{length-all_at, graph_of_flat, IsGraph, Grows, grows_texts, numbers_stand, all_at, all_below, Apart, Reaches, met_stand, digest_recurs, recurs_digest, unreferenced_clear, clear_unreferenced}

-- the numbers of the digests, in turn after those of the disclosures
pub flat_found : (t : Tree) (g : List Given) → IsOrdered t → IsPayload t → (rows : List Row) (ix jx : List Text) (ks es : List ℕ) {ends : List ℕ} → AtNone (RepeatedDisclosure g) → ix ≡ given_digests g
    → map seen rows ≡ all_rows t g → ks ≡ numbers ix (row_texts rows) → jx ≡ all_interned ix (row_texts rows) → es ≡ ends → ends ≡ row_ends t g → IsFlatList t g jx ks es
flat_found t g o is rows ix jx ks es none a b c d e f =
    let ts = row_texts rows in
    let are : ts ≡ owned_digests (all_sites (without_alg t) g) = all_row_texts t g rows o is b in
    let w : Grows ix jx = subst (λ z. Grows ix z) (sym d) (grows_texts ix ts) in
    record {
      apart = w.apart (subst Apart (sym a) none);
      given_first = λ i x h. w.keeps i x.digest (subst (λ z. StandsAt z i x.digest) (sym a) (At-map (λ (z : Given). z.digest) g i x h));
      all = subst (λ z. AllAt jx ks z) are (subst (λ z. AllAt jx z ts) (sym c) (subst (λ z. AllAt z (numbers ix ts) ts) (sym d) (numbers_stand ix ts)));
      cuts = e ∙ f;
    }

-- where each disclosure is reached, the met list has the digests of all values
reached_items : (passes : Given → Bool) (i : ℕ) (g : List Given) → ((x : Given) → In x g → passes x ≡ true) → value_sites passes i g ≡ value_sites (λ _. true) i g
reached_items passes i [] h = refl
reached_items passes i (x ∷ g) h =
    let e : passes x ≡ true = h x (inl refl) in
    rw e (ap (λ (z : List OwnedSite). map (owned_site (value_of i)) (sites x.value) ++ z) (reached_items passes (suc i) g (λ y m. h y (inr m))))

pub met_all : (p : Tree) (g : List Given) → IsReferencedOnce p g → all_sites p g ≡ met p g
met_all p g ok =
    ap (λ (z : List OwnedSite). map (owned_site payload) (sites p) ++ z) (sym (reached_items (is_reached p g) 0 g (λ x m. let w = In-At g x m in reached_all p g ok w.0 x w.1)))

length-items : (ms : List OwnedSite) → length (owned_digests ms) ≡ length ms
length-items [] = refl
length-items (m ∷ ms) = ap suc (length-items ms)

-- what the numbers, the flags and the met list say of conditions 16 and 17
pub record IsJudged (p : Tree) (g : List Given) (ix : List Text) (fs : List Bool) (ks : List ℕ) : Type 0 where
  pub below : (k : ℕ) → In k ks → k < length ix
  pub repeated : (q : ℕ) → IsLeast (Repeats ks) q → IsLeast (RepeatedDigest p g) q
  pub apart : AtNone (Repeats ks) → AtNone (RepeatedDigest p g)
  pub unreferenced : (i : ℕ) → IsLeast (IsClear fs) i → IsLeast (Unreferenced p g) i
  pub referenced : AtNone (IsClear fs) → AtNone (Unreferenced p g)

module _ (p : Tree) (g : List Given) (ix : List Text) (roots : List ℕ) (rows : List (List ℕ)) (w : IsGraph p g ix roots rows) (fs : List Bool) (few : length fs ≡ length g) (reaches : Reaches (length g) roots rows fs) where
  clear_there : (k : ℕ) → Unreferenced p g k → IsClear fs k
  clear_there k u = let z = unreferenced_clear p g ix roots rows w fs few reaches k u in (omega (arith, z.0, few), z.1)

  graph_judged : IsJudged p g ix fs (roots ++ flagged_rows fs rows)
  graph_judged = record {
    below = all_below ix (roots ++ flagged_rows fs rows) (owned_digests (met p g)) (met_stand p g ix roots rows w fs few reaches);
    repeated = λ q l. record {
      fails = recurs_digest p g ix roots rows w fs few reaches q l.fails;
      first = λ r lt d. l.first r lt (digest_recurs p g ix roots rows w fs few reaches r d);
    };
    apart = λ n q d. n q (digest_recurs p g ix roots rows w fs few reaches q d);
    unreferenced = λ i l. record {
      fails = clear_unreferenced p g ix roots rows w fs few reaches i (omega (arith, l.fails.0, few)) l.fails.1;
      first = λ r lt u. l.first r lt (clear_there r u);
    };
    referenced = λ n r u. n r (clear_there r u);
  }

pub judged : (t : Tree) (g : List Given) → IsOrdered t → IsPayload t → (ix : List Text) (ks ends : List ℕ) → IsFlatList t g ix ks ends → (n : ℕ) → n ≡ length g
    → (flags fs : List Bool) → length flags ≡ n → ((k : ℕ) → k < n → get_or flags k false ≡ is_met_in (roots_in ends ks) (rows_in ends ks) n k) → fs ≡ flags
    → IsJudged (without_alg t) g ix fs (roots_in ends ks ++ flagged_rows fs (rows_in ends ks))
judged t g o is ix ks ends w n many flags fs few reaches same =
    let roots = roots_in ends ks in
    let rows = rows_in ends ks in
    let few : length fs ≡ length g = ap length same ∙ (few ∙ many) in
    let reaches : Reaches (length g) roots rows fs = subst (λ (z : List Bool). Reaches (length g) roots rows z) (sym same) (subst (λ z. Reaches z roots rows flags) many reaches) in
    graph_judged (without_alg t) g ix roots rows (graph_of_flat t g o is ix ks ends w) fs few reaches

pub referenced_once : (p : Tree) (g : List Given) (ix : List Text) (fs : List Bool) (ks : List ℕ) → IsJudged p g ix fs ks → AtNone (RepeatedDisclosure g) → AtNone (Misused p g)
    → AtNone (Repeats ks) → AtNone (IsClear fs) → IsReferencedOnce p g
referenced_once p g ix fs ks j a b c d = record { no_repeated_disclosure = a; no_misuse = b; no_repeated_digest = j.apart c; no_unreferenced = j.referenced d }

-- the look-ups for the disclosures and those for the rows
pub risen_both : (t : Tree) (g : List Given) (rows : List Row) (a b c : ℕ) → IsOrdered t → IsPayload t → map seen rows ≡ all_rows t g
    → RoseWithin (length g) a b → RoseWithin (length rows) b c → RoseWithin (look_ups (without_alg t) g) a c
risen_both t g rows a b c o is same h k = let n = rows_looked_up t g rows o is same in (omega (arith, h.0, k.0), omega (arith, n, h.1, k.1))

pub counted_both : (t : Tree) (g : List Given) (rows : List Row) (a b c : ℕ) → IsOrdered t → IsPayload t → map seen rows ≡ all_rows t g
    → b ≡ counted a (length g) → c ≡ counted b (length rows) → c ≡ counted a (look_ups (without_alg t) g)
counted_both t g rows a b c o is same h k = let n = rows_looked_up t g rows o is same in omega (arith, n, h, k)

-- the flat list is the met list, by numbers
pub numbered : (t : Tree) (g : List Given) (ix : List Text) (ks ends : List ℕ) → IsFlatList t g ix ks ends → IsReferencedOnce (without_alg t) g → IsNumbered (without_alg t) g ks
numbered t g ix ks ends w ok =
    let p = without_alg t in
    let stand : AllAt ix ks (owned_digests (met p g)) = subst (λ (z : List OwnedSite). AllAt ix ks (owned_digests z)) (met_all p g ok) w.all in
    record {
      length = length-all_at ix ks (owned_digests (met p g)) stand ∙ length-items (met p g);
      same = λ q k m x a b c.
          let v = all_at ix ks (owned_digests (met p g)) q k stand a in
          At-same (owned_digests (met p g)) q m.site.digest v.0 (At-map (λ (z : OwnedSite). z.site.digest) (met p g) q m b) v.1 ∙ At-same ix k v.0 x.digest v.2 (w.given_first k x c);
      back = λ q k i m x a b c d.
          let v = all_at ix ks (owned_digests (met p g)) q k stand a in
          let s : v.0 ≡ x.digest = At-same (owned_digests (met p g)) q v.0 m.site.digest v.1 (At-map (λ (z : OwnedSite). z.site.digest) (met p g) q m b) ∙ d in
          one_place ix w.apart k i x.digest (subst (λ z. StandsAt ix k z) s v.2) (w.given_first i x c);
    }
