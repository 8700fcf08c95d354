-- From the mask of one load to the number of letters at its front.
use Rattle.std.proofs.Common.{◌≡◌, ℕ, ◌+◌, ◌%◌, ◌^◌, ◌<◌, ◌≤◌, eqb, Bool, true, not, List, [], ◌∷◌, map, length, get_or, take, drop, bit_or, Fits, w8, refl, sym, ap, ap₂, ◌∙◌, arith, cond}
use Rattle.std.proofs.lemmas.Bool.{agree_below, agree_below_at, eq-eqb, ne_eqb, eqb-true, cond-true, cond-false}
use Rattle.std.proofs.lemmas.Nat.{le_or_l, le_or_r}
use Rattle.std.proofs.lemmas.Simd.{map-map, mask_l-mod, length-chunk, chunk-fits, first_set_mask_l}
use Rattle.std.proofs.lemmas.List.{length-map, take-append-drop, drop-drop}
use Rattle.std.proofs.lemmas.List.Folds.{prefix_len-append}
use Rattle.std.proofs.lemmas.List.Sums.{prefix_len-le-length}
use Rattle.std.specs.List.{prefix_len}
use lib.Lanes.{Each1, chunk, mask_l, top}
use Rattle.b64url_text.specs.Base64url.{is_letter}
use Rattle.b64url_text.specs.Lanes.{first_set}

-- tests that agree on each byte give runs of one length
same_run : (p q : ℕ → Bool) (v : List ℕ) → Each1 (Fits w8) v → agree_below p q 256 ≡ true → prefix_len p v ≡ prefix_len q v
same_run p q [] fits all = refl
same_run p q (x ∷ v) fits all =
    ap₂ (λ (b : Bool) (n : ℕ). cond b (1 + n) 0) (agree_below_at p q 256 x all fits.0.fits) (same_run p q v fits.1 all)

-- a load of n bytes at i, whose lanes stop just where q fails
pub run_in : (q : ℕ → Bool) (d : List ℕ) (i n : ℕ) (z : List ℕ) (f : ℕ → ℕ) → i + n ≤ length d → n ≤ 64 → ((k : ℕ) → Fits w8 (get_or d k 0))
    → z ≡ map f (chunk i n d) → agree_below (λ x. not (top 7 (f x))) q 256 ≡ true → first_set (mask_l (map (top 7) z) % 2 ^ 64) n ≡ prefix_len q (take n (drop i d))
run_in q d i n z f room few fits lanes all =
    let v = chunk i n d in
    let stops = λ (x : ℕ). top 7 (f x) in
    let long : length v ≡ n = length-chunk i n d room in
    let mask = ap (λ l. mask_l l % 2 ^ 64) (ap (map (top 7)) lanes ∙ map-map (top 7) f v) ∙ mask_l-mod (map stops v) 64 (omega (arith, length-map v stops, long)) in
    ap (λ m. first_set m n) mask ∙ first_set_mask_l stops v n long few ∙ same_run (λ x. not (stops x)) q v (chunk-fits w8 i n d fits) all

-- the run at i, by the r of its first n bytes
run_on : (q : ℕ → Bool) (x : List ℕ) (i n r : ℕ) → i + n ≤ length x → r ≡ prefix_len q (take n (drop i x))
    → prefix_len q (drop i x) ≡ cond (eqb r n) (n + prefix_len q (drop (i + n) x)) r
run_on q x i n r room counted =
    let y = drop i x in
    let long : length (take n y) ≡ n = length-chunk i n x room in
    ap (prefix_len q) (sym (take-append-drop n y))
    ∙ prefix_len-append q (take n y) (drop n y)
    ∙ ap₂ (λ (m k : ℕ). cond (eqb m k) (k + prefix_len q (drop n y)) m) (sym counted) long
    ∙ ap (λ (z : List ℕ). cond (eqb r n) (n + prefix_len q z) r) (drop-drop n i x)

-- it ends within them
pub run_ends : (q : ℕ → Bool) (x : List ℕ) (i n r : ℕ) → i + n ≤ length x → r ≡ prefix_len q (take n (drop i x)) → r < n → prefix_len q (drop i x) ≡ r
run_ends q x i n r room counted less = run_on q x i n r room counted ∙ cond-false _ _ _ (ne_eqb r n (λ e. omega arith))

-- it goes on behind them
pub run_goes_on : (q : ℕ → Bool) (x : List ℕ) (i n r : ℕ) → i + n ≤ length x → r ≡ prefix_len q (take n (drop i x)) → n ≤ r → prefix_len q (drop i x) ≡ n + prefix_len q (drop (i + n) x)
run_goes_on q x i n r room counted full =
    let bound = prefix_len-le-length q (take n (drop i x)) in
    let long : length (take n (drop i x)) ≡ n = length-chunk i n x room in
    run_on q x i n r room counted ∙ cond-true _ _ _ (eq-eqb r n (omega (arith, bound, long, counted)))

-- two masks without a bit: each run goes on
pub first_full : (a b n r : ℕ) → first_set a n ≡ r → eqb (bit_or a b) 0 ≡ true → r ≡ n
first_full a b n r is none =
    let clear : a ≡ 0 = omega (arith, eqb-true (bit_or a b) 0 none, le_or_l a b) in
    sym is ∙ ap (λ m. first_set m n) clear

pub second_full : (a b n r : ℕ) → first_set b n ≡ r → eqb (bit_or a b) 0 ≡ true → r ≡ n
second_full a b n r is none =
    let clear : b ≡ 0 = omega (arith, eqb-true (bit_or a b) 0 none, le_or_r a b) in
    sym is ∙ ap (λ m. first_set m n) clear

-- a place within the text up to which all are letters: those behind it count on from there
abbrev pub IsLettersTo : List ℕ → ℕ → Type 0
IsLettersTo text at = record {
  within : at ≤ length text;
  counted : at + prefix_len is_letter (drop at text) ≡ prefix_len is_letter text;
}
