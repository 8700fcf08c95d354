-- A header that is neither unreadable nor critical is read.
use Rattle.std.proofs.Common.{◌≡◌, Bool, true, false, ◌⊎◌, inl, inr, ⊎_elim, Option, Some, None, option_map, codes, refl, ap, ap₂, ◌∙◌}
use Rattle.std.specs.Option.{option_or}
use Rattle.claim_tree.specs.Tree.{Text, text, Tree, leaf, object, Members, member_named, text_of}
use Rattle.jws_part.specs.Header.{text_tree, shares_name, has_crit, HeadersSay, IsHeader, IsHeaderCritical, IsNoText, SayNothing, shared_name, no_alg, odd_alg, odd_typ, odd_kid, odd_outer_kid, IsHeaderUnreadable, no_object, nothing_said}
use Rattle.jws_part.specs.Part.{Carries}
use Rattle.jws_part.specs.declared.header.Header.{Header}

-- a tree is a text or none
text_or : (t : Tree) → (text_of t ≡ None) ⊎ ((s : Text) × (t ≡ text_tree s))
text_or (leaf (text s)) = inr (s, refl)
text_or _ = inl refl

-- what stands under a name is no text, or is one where it is there
module _ (ms : Members) (name : Text) where
  text_there : (o : Option Tree) → member_named ms name ≡ o → IsNoText ms name ⊎ ((s : Option Text) × (o ≡ option_map text_tree s))
  text_there None e = inr (None, refl)
  text_there (Some t) e = ⊎_elim (λ none. inl (record { found = t; stands = e; no_text = none })) (λ is. inr (Some is.0, ap (λ (x : Tree). Some x) is.1)) (text_or t)

  text_said : (IsNoText ms name → ⊥) → (s : Option Text) × (member_named ms name ≡ option_map text_tree s)
  text_said other = ⊎_elim (λ no_text. absurd (other no_text)) (λ is. is) (text_there (member_named ms name) refl)

either_kid : (own outer : Option Text) → option_or (option_map text_tree own) (option_map text_tree outer) ≡ option_map text_tree (option_or own outer)
either_kid None outer = refl
either_kid (Some s) outer = refl

module _ (ms outer : Members) (other : SayNothing ms outer → ⊥) where
  are_apart : (b : Bool) → shares_name ms outer ≡ b → shares_name ms outer ≡ false
  are_apart true e = absurd (other (shared_name e))
  are_apart false e = e

  alg_said : (s : Option Text) → member_named ms (codes "alg") ≡ option_map text_tree s → (alg : Text) × (member_named ms (codes "alg") ≡ Some (text_tree alg))
  alg_said None e = absurd (other (no_alg e))
  alg_said (Some s) e = (s, e)

  -- headers say something where nothing is against it
  headers_say : (h : Header) × HeadersSay ms outer h
  headers_say =
      let (s, found) = text_said ms (codes "alg") (λ no_text. other (odd_alg no_text)) in
      let (alg, alg_is) = alg_said s found in
      let (typ, typ_is) = text_said ms (codes "typ") (λ no_text. other (odd_typ no_text)) in
      let (own, own_is) = text_said ms (codes "kid") (λ no_text. other (odd_kid no_text)) in
      let (beside, beside_is) = text_said outer (codes "kid") (λ no_text. other (odd_outer_kid no_text)) in (
        record { alg = alg; kid = option_or own beside; typ = typ },
        record {
          apart = are_apart (shares_name ms outer) refl;
          alg = alg_is;
          typ = typ_is;
          kid = ap₂ option_or own_is beside_is ∙ either_kid own beside;
        },
      )

pub header_read : (protected : Text) (outer : Members) → (IsHeaderUnreadable protected outer → ⊥) → (IsHeaderCritical protected outer → ⊥) → ((h : Header) → IsHeader protected outer h → ⊥) → ⊥
header_read protected outer readable uncritical none = readable (no_object (λ ms carried.
    let (h, says) = headers_say ms outer (λ cause. readable (nothing_said ms carried cause)) in
    go ms h (has_crit ms outer) refl carried says))
  where
    go : (ms : Members) (h : Header) (critical : Bool) → has_crit ms outer ≡ critical → Carries protected (object ms) → HeadersSay ms outer h → ⊥
    go ms h true e carried says = uncritical (h, record { members = ms; carried = carried; says = says; crit = e })
    go ms h false e carried says = none h (record { members = ms; carried = carried; says = says; crit = e })
