-- The words of a wallet, apart.
use Rattle.std.proofs.Math.Seq.{take-length}
use Rattle.std.proofs.lemmas.List.{length-map}
use Rattle.std.proofs.Common.{◌≡◌, Global, String, false, ℕ, zero, suc, ◌-◌, ◌<◌, ◌≤◌, List, [], ◌∷◌, length, take, drop, map, get_or, string_bytes, codes, sym, ap, ◌∙◌, arith}
use Rattle.std.specs.Prelude.{◌==◌}
use Rattle.wallet_core.specs.WalletRun.{IsWallet}

-- the words behind the first two
abbrev pub tokens_of : List (String Global) → List (String Global)
tokens_of words = take (length words - 2) (drop 2 words)

apart : (words : List (String Global)) (name query : String Global) → 2 ≤ length words → name ≡ get_or words 0 name → query ≡ get_or words 1 query
    → map string_bytes words ≡ string_bytes name ∷ string_bytes query ∷ map string_bytes (tokens_of words)
apart [] name query long first second = absurd (omega (arith, long))
apart (a ∷ []) name query long first second = absurd (omega (arith, long))
apart (a ∷ b ∷ rest) name query long first second =
    let few : length (a ∷ b ∷ rest) - 2 ≡ length rest = omega arith in
    let all : take (length (a ∷ b ∷ rest) - 2) rest ≡ rest = ap (λ (n : ℕ). take n rest) few ∙ take-length rest in
    ap (λ (x : String Global). string_bytes x ∷ string_bytes b ∷ map string_bytes rest) (sym first)
    ∙ (ap (λ (x : String Global). string_bytes name ∷ string_bytes x ∷ map string_bytes rest) (sym second)
    ∙ ap (λ (xs : List (String Global)). string_bytes name ∷ string_bytes query ∷ map string_bytes xs) (sym all))

none_or_some : (n : ℕ) → false ≡ (n == 0) → 0 < n
none_or_some zero is = cc is
none_or_some (suc n) is = omega arith

pub is_wallet : (words : List (String Global)) (name query : String Global) (first second : List ℕ) → 2 ≤ length words → name ≡ get_or words 0 name → query ≡ get_or words 1 query
    → first ≡ string_bytes name → second ≡ string_bytes query → first ≡ codes "wallet" → false ≡ (length (tokens_of words) == 0) → length (tokens_of words) ≤ 64
    → IsWallet (map string_bytes words) second (map string_bytes (tokens_of words))
is_wallet words name query first second long is_name is_query said also named some few = record {
  words_are =
      apart words name query long is_name is_query
      ∙ (ap (λ (x : List ℕ). x ∷ string_bytes query ∷ map string_bytes (tokens_of words)) (sym said ∙ named)
      ∙ ap (λ (x : List ℕ). codes "wallet" ∷ x ∷ map string_bytes (tokens_of words)) (sym also));
  some = let more = none_or_some (length (tokens_of words)) some in omega (arith, more, length-map (tokens_of words) (string_bytes {Z = Global}));
  within = omega (arith, few, length-map (tokens_of words) (string_bytes {Z = Global}));
}
