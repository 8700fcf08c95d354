-- What is presented of an issued token is no longer than a compact text may be.
use Rattle.std.proofs.Common.{◌≡◌, ℕ, suc, ◌+◌, ◌≤◌, List, [], ◌∷◌, ◌++◌, length, Bool, true, false, Option, None, Some, IfSome, codes, sym, ap, subst, arith}
use Rattle.std.specs.Prelude.{if◌then◌else◌}
use Rattle.std.specs.List.{AllByRecursion}
use Rattle.std.proofs.lemmas.List.{length-append}
use Rattle.b64url_text.specs.Base64url.{IsWord}
use Rattle.b64url_text.proofs.Codes.{IsWord-b64}
use Rattle.b64url_text.proofs.Lengths.{length-b64}
use Rattle.claim_tree.specs.Tree.{Text}
use Rattle.sd_outside.specs.Limits.{compact_max, issue_max, count_max}
use Rattle.compact_form.specs.declared.parts.JwtParts.{JwtParts}
use Rattle.compact_form.specs.declared.parts.Parts.{Parts}
use Rattle.compact_form.specs.Compact.{jwt, spelled, hashed, ending, compact, HasWords, AreWords}
use Rattle.disclosure.specs.declared.digests.HashAlg.{HashAlg}
use Rattle.jws_part.specs.Header.{header_members}
use Rattle.key_binding.specs.Binding.{IsBinding, binding_header, claim_members, claims_for}
use Rattle.key_binding.proofs.Bindings.{object_word}
use Rattle.holder_core.specs.Asked.{BindingAsked}
use Rattle.holder_core.specs.Present.{picked, PicksParts, IsBoundWith, IsBoundAs}
use Rattle.holder_core.proofs.Picking.{picked_words}
use Rattle.sdjwt_cli.specs.AnySigner.{AnySigner, FitsBehind, BindingFits}
use Rattle.sdjwt_cli.specs.PresentedValues.{IsSendable}
use Rattle.sdjwt_cli.proofs.EmbeddedDigests.{fewer_picked}

-- ---- disclosures that are picked

pub spelled_more : (d : Text) (ds : List Text) → length (spelled (d ∷ ds)) ≡ suc (length d) + length (spelled ds)
spelled_more d ds = omega (arith, length-append (d ++ codes "~") (spelled ds), length-append d (codes "~"))

picked_short : (s : ℕ → Bool) (ds : List Text) → length (spelled (picked s ds)) ≤ length (spelled ds)
picked_short s [] = omega arith
picked_short s (d ∷ ds) = go (s 0) (picked (λ k. s (suc k)) ds) (picked_short (λ k. s (suc k)) ds)
  where
    go : (b : Bool) (es : List Text) → length (spelled es) ≤ length (spelled ds) → length (spelled (if b then d ∷ es else es)) ≤ length (spelled (d ∷ ds))
    go true es ih = omega (arith, ih, spelled_more d es, spelled_more d ds)
    go false es ih = omega (arith, ih, spelled_more d ds)

hashed_length : (parts : Parts) → length (hashed parts) ≡ length (jwt parts.signed) + suc (length (spelled parts.disclosures))
hashed_length parts = omega (arith, length-append (jwt parts.signed) (codes "~" ++ spelled parts.disclosures), length-append (codes "~") (spelled parts.disclosures))

compact_length : (parts : Parts) → length (compact parts) ≡ length (hashed parts) + length (ending parts.binding)
compact_length parts = length-append (hashed parts) (ending parts.binding)

-- ---- a key binding token

binding_words : (holder : AnySigner) (hash : HashAlg) (text aud nonce : Text) (now : ℕ) (token : JwtParts) → IsBinding holder.alg holder.good hash text aud nonce now token → FitsBehind token → HasWords token
binding_words holder hash text aud nonce now token is fits = record {
  protected = subst IsWord (sym is.protected) (object_word (header_members (binding_header holder.alg)));
  payload = subst IsWord (sym is.payload) (object_word (claim_members (claims_for hash text aud nonce now)));
  signature = subst IsWord (sym is.signature_text) (IsWord-b64 is.signature (omega (arith, fits.some, ap length is.signature_text, length-b64 is.signature)));
}

module _ (holder : AnySigner) (hash : HashAlg) (text : Text) (now : ℕ) where
  ending_words : (asked : Option BindingAsked) (binding : Option JwtParts) → BindingFits asked holder now → IsBoundWith asked holder.alg holder.good hash text now binding → IfSome binding HasWords
  ending_words None binding fits is = subst (λ b. IfSome b HasWords) (sym is) tt
  ending_words (Some ask) None fits is = absurd is
  ending_words (Some ask) (Some token) fits is = binding_words holder hash text ask.aud ask.nonce now token is.is_binding (fits hash text token is.is_binding)

  ending_short : (asked : Option BindingAsked) (binding : Option JwtParts) → BindingFits asked holder now → IsBoundWith asked holder.alg holder.good hash text now binding → issue_max + length (ending binding) ≤ compact_max
  ending_short None binding fits is = omega (arith, ap (λ b. length (ending b)) is)
  ending_short (Some ask) None fits is = absurd is
  ending_short (Some ask) (Some token) fits is = let fit = fits hash text token is.is_binding in fit.short

-- ---- what is presented

module _ (parts answer : Parts) (s : ℕ → Bool) (presents : PicksParts parts s answer.binding answer) where
  pub answer_few : length parts.disclosures ≤ count_max → length answer.disclosures ≤ count_max
  answer_few few = omega (arith, few, ap length presents.disclosures, fewer_picked s parts.disclosures)

module _ (holder : AnySigner) (hash : HashAlg) (now : ℕ) (asked : Option BindingAsked) (fits : BindingFits asked holder now) (parts answer : Parts) (s : ℕ → Bool)
    (presents : PicksParts parts s answer.binding answer) (bound : IsBoundAs asked holder.alg holder.good hash now answer) where
  answer_words : AreWords parts → AreWords answer
  answer_words words = record {
    signed = subst HasWords (sym presents.signed) words.signed;
    disclosures = subst (AllByRecursion IsWord) (sym presents.disclosures) (picked_words s parts.disclosures words.disclosures);
    binding = ending_words holder hash (hashed answer) now asked answer.binding fits bound;
  }

  pub answer_short : length (compact parts) ≤ issue_max → length (compact answer) ≤ compact_max
  answer_short short =
      let signed = ap (λ j. length (jwt j)) presents.signed in
      let disclosed = ap (λ ds. length (spelled ds)) presents.disclosures in
      let bound_short = ending_short holder hash (hashed answer) now asked answer.binding fits bound in
      omega (
        arith,
        short,
        signed,
        disclosed,
        bound_short,
        picked_short s parts.disclosures,
        hashed_length parts,
        hashed_length answer,
        compact_length parts,
        compact_length answer,
      )

  -- so it can be sent
  pub answer_sendable : AreWords parts → length (compact parts) ≤ issue_max → IsSendable answer
  answer_sendable words short = record { words = answer_words words; short = answer_short short }
