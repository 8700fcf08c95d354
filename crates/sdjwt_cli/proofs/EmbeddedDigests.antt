-- How many digests are embedded in what is issued, and in a part of it.
use Rattle.std.proofs.Common.{◌≡◌, ℕ, suc, ◌+◌, ◌≤◌, List, [], ◌∷◌, map, length, Bool, true, false, bytes_eq, refl, sym, ap, ◌∙◌, arith, length-append}
use Rattle.std.specs.Prelude.{sum_by, if◌then◌else◌}
use Rattle.std.specs.List.{count_by, range_with_len}
use Rattle.std.proofs.lemmas.List.{length-map}
use Rattle.std.proofs.lemmas.List.FromFn.{length-map-range_with_len}
use Rattle.std.proofs.lemmas.List.Sums.{sum_by-cons}
use Rattle.claim_tree.specs.Tree.{Text, Tree}
use Rattle.sd_outside.proofs.Lists.{bytes_same, bytes_refl}
use Rattle.digest_sites.specs.Given.{Given}
use Rattle.digest_sites.specs.Sites.{sites}
use Rattle.rebuild_core.specs.Reached.{OwnedSite, owned_site, payload, value_of, value_sites, all_sites, all_digests, given_digests}
use Rattle.issuer_core.specs.Decoys.{decoys_of}
use Rattle.issuer_core.specs.Digests.{Maker, hidden_of, decoy_digests, issued_digests}
use Rattle.issuer_core.specs.Issued.{occurs, IsIssuedFor}
use Rattle.issuer_core.specs.Order.{Order}
use Rattle.holder_core.specs.Present.{picked}
use Rattle.holder_core.proofs.Picking.{first_if}
use Rattle.sdjwt_cli.specs.Summary.{embedded_digests}

-- ---- a list in which no text is more often than in another is no longer

abbrev one_for : Text → Text → ℕ
one_for other d = if bytes_eq other d then 1 else 0

-- without the first that is this text
without : Text → List Text → List Text
without x [] = []
without x (y ∷ ys) = if bytes_eq y x then ys else y ∷ without x ys

occurs_without : (x d : Text) (ys : List Text) → 1 ≤ occurs x ys → one_for x d + occurs d (without x ys) ≡ occurs d ys
unfolding without
occurs_without x d [] some = absurd (omega (arith, some))
occurs_without x d (y ∷ ys) some = go (bytes_eq y x) refl some (occurs_without x d ys)
  where
    go : (b : Bool) → bytes_eq y x ≡ b → 1 ≤ (if b then 1 else 0) + occurs x ys → (1 ≤ occurs x ys → one_for x d + occurs d (without x ys) ≡ occurs d ys)
        → one_for x d + occurs d (if b then ys else y ∷ without x ys) ≡ one_for y d + occurs d ys
    go true e more ih = ap (λ (z : Text). one_for z d + occurs d ys) (sym (bytes_same y x e))
    go false e more ih = let rest = ih (omega (arith, more)) in omega (arith, rest)

length_without : (x : Text) (ys : List Text) → 1 ≤ occurs x ys → suc (length (without x ys)) ≡ length ys
unfolding without
length_without x [] some = absurd (omega (arith, some))
length_without x (y ∷ ys) some = go (bytes_eq y x) some (length_without x ys)
  where
    go : (b : Bool) → 1 ≤ (if b then 1 else 0) + occurs x ys → (1 ≤ occurs x ys → suc (length (without x ys)) ≡ length ys) → suc (length (if b then ys else y ∷ without x ys)) ≡ suc (length ys)
    go true more ih = refl
    go false more ih = ap suc (ih (omega (arith, more)))

no_longer : (xs ys : List Text) → ((d : Text) → occurs d xs ≤ occurs d ys) → length xs ≤ length ys
no_longer [] ys fewer = omega arith
no_longer (x ∷ xs) ys fewer =
    let own : one_for x x ≡ 1 = ap (λ (b : Bool). if b then 1 else 0) (bytes_refl x x refl) in
    let first = fewer x in
    let some : 1 ≤ occurs x ys = omega (arith, own, first) in
    let less : (d : Text) → occurs d xs ≤ occurs d (without x ys) = λ d. let here = fewer d in let there = occurs_without x d ys some in omega (arith, here, there) in
    let rest = no_longer xs (without x ys) less in
    omega (arith, rest, length_without x ys some)

-- ---- the digests of what is issued

abbrev value_count : List Given → ℕ
value_count given = sum_by (λ (x : Given). length (sites x.value)) given

length_values : (i : ℕ) (given : List Given) → length (value_sites (λ _. true) i given) ≡ value_count given
length_values i [] = refl
length_values i (x ∷ given) =
    omega (
      arith,
      length-append (map (owned_site (value_of i)) (sites x.value)) (value_sites (λ _. true) (suc i) given),
      length-map (sites x.value) (owned_site (value_of i)),
      length_values (suc i) given,
      sum_by-cons (λ (y : Given). length (sites y.value)) x given,
    )

length_all : (p : Tree) (given : List Given) → length (all_digests p given) ≡ embedded_digests p given
length_all p given =
    omega (
      arith,
      length-map (all_sites p given) (λ (m : OwnedSite). m.site.digest),
      length-append (map (owned_site payload) (sites p)) (value_sites (λ _. true) 0 given),
      length-map (sites p) (owned_site payload),
      length_values 0 given,
    )

pub issued_count : (maker : Maker) (o : Order) (p : Tree) (given : List Given) → IsIssuedFor maker o p given → embedded_digests p given ≤ hidden_of o + length (decoys_of o)
issued_count maker o p given issued =
    let shorter = no_longer (all_digests p given) (issued_digests maker o given) (λ d. let same = issued.each_once d in omega (arith, same)) in
    let count = issued.count in
    omega (
      arith,
      shorter,
      length_all p given,
      length-append (given_digests given) (decoy_digests maker o),
      length-map given (λ (x : Given). x.digest),
      length-map-range_with_len (λ k. maker.digest o.hash (maker.piece k)) (hidden_of o) (length (decoys_of o)),
      count,
    )

-- ---- what is picked

value_picked : (s : ℕ → Bool) (given : List Given) → value_count (picked s given) ≤ value_count given
value_picked s [] = omega arith
value_picked s (x ∷ given) = go (s 0) (value_picked (λ k. s (suc k)) given)
  where
    go : (b : Bool) → value_count (picked (λ k. s (suc k)) given) ≤ value_count given → value_count (first_if b x (picked (λ k. s (suc k)) given)) ≤ value_count (x ∷ given)
    go true ih = omega (arith, ih, sum_by-cons (λ (y : Given). length (sites y.value)) x given, sum_by-cons (λ (y : Given). length (sites y.value)) x (picked (λ k. s (suc k)) given))
    go false ih = omega (arith, ih, sum_by-cons (λ (y : Given). length (sites y.value)) x given)

pub fewer_embedded : (p : Tree) (s : ℕ → Bool) (given : List Given) → embedded_digests p (picked s given) ≤ embedded_digests p given
fewer_embedded p s given = let fewer = value_picked s given in omega (arith, fewer)

-- the number of those that are picked is the number of numbers of the set
picked_from : {X : Type 0} (s t : ℕ → Bool) (first : ℕ) → ((k : ℕ) → s k ≡ t (first + k)) → (xs : List X) → length (picked s xs) ≡ count_by t (range_with_len first (length xs))
picked_from s t first same [] = refl
picked_from {X} s t first same (x ∷ xs) =
    let rest = picked_from (λ k. s (suc k)) t (first + 1) (λ k. same (suc k) ∙ ap t (let more : first + suc k ≡ first + 1 + k = omega arith in more)) xs in
    let here : s 0 ≡ t first = same 0 ∙ ap t (let none : first + 0 ≡ first = omega arith in none) in
    first_counts (s 0) (picked (λ k. s (suc k)) xs)
    ∙ ap (λ (b : Bool). (if b then 1 else 0) + length (picked (λ k. s (suc k)) xs)) here
    ∙ ap (λ n. (if t first then 1 else 0) + n) rest
    ∙ sym (sum_by-cons (λ k. if t k then 1 else 0) first (range_with_len (first + 1) (length xs)))
  where
    first_counts : (b : Bool) (ys : List X) → length (first_if b x ys) ≡ (if b then 1 else 0) + length ys
    first_counts true ys = omega arith
    first_counts false ys = omega arith

pub length_picked : {X : Type 0} (s : ℕ → Bool) (xs : List X) → length (picked s xs) ≡ count_by s (range_with_len 0 (length xs))
length_picked s xs = picked_from s s 0 (λ k. ap s (let none : k ≡ 0 + k = omega arith in none)) xs

pub fewer_picked : {X : Type 0} (s : ℕ → Bool) (xs : List X) → length (picked s xs) ≤ length xs
fewer_picked s [] = omega arith
fewer_picked {X} s (x ∷ xs) = go (s 0) (fewer_picked (λ k. s (suc k)) xs)
  where
    go : (b : Bool) → length (picked (λ k. s (suc k)) xs) ≤ length xs → length (first_if b x (picked (λ k. s (suc k)) xs)) ≤ suc (length xs)
    go true ih = omega (arith, ih)
    go false ih = omega (arith, ih)
