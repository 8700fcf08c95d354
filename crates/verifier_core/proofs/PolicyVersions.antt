-- What each version of a policy file says of issuers and audiences.
use Rattle.std.proofs.Common.{◌≡◌, ⊎_elim, ℕ, ◌+◌, ◌<◌, ◌≤◌, pos, List, [], ◌∷◌, length, Option, Some, None, refl, sym, ap, subst, ◌∙◌}
use Rattle.claim_tree.specs.Tree.{Text, leaf, whole, array, Tree, Elements}
use Rattle.sd_outside.specs.Lists.{StandsAt}
use Rattle.sd_outside.proofs.Lists.{At-same}
use Rattle.claim_tree.proofs.Counting.{before_or_at}
use Rattle.sd_outside.specs.Limits.{binding_text_max}
use Rattle.claim_tree.specs.TreeValues.{IsText, IsTexts, text_elements, Says}
use Rattle.claim_tree.proofs.TreeValues as values
use Rattle.claim_tree.proofs.TreeValues.{SaysOne}
use Rattle.key_binding.specs.ShortText.{IsShortText}
use Rattle.verifier_core.specs.PolicyVersion.{IsVersion, IsAlone, IsIssuers, IsAudiences}
use Rattle.verifier_core.specs.declared.policy_version.PolicyVersion.{PolicyVersion}

-- ---- one value

pub one_version : SaysOne IsVersion
one_version t PolicyVersion.One PolicyVersion.One h k = refl
one_version t PolicyVersion.Two PolicyVersion.Two h k = refl
one_version t PolicyVersion.One PolicyVersion.Two h k = let both : leaf (whole (pos 1)) ≡ leaf (whole (pos 2)) = sym h ∙ k in cc both
one_version t PolicyVersion.Two PolicyVersion.One h k = let both : leaf (whole (pos 2)) ≡ leaf (whole (pos 1)) = sym h ∙ k in cc both

pub one_short_text : SaysOne IsShortText
one_short_text t x y h k = values.one_text t x y h.is k.is

one_alone : (Is : Tree → Text → Type 0) → SaysOne Is → (t : Tree) (xs ys : List Text) → IsAlone Is t xs → IsAlone Is t ys → xs ≡ ys
one_alone Is one t xs ys h k = h.2 ∙ (ap (λ s. s ∷ []) (one t h.0 k.0 h.1 k.1) ∙ sym k.2)

pub one_issuers : (version : PolicyVersion) → SaysOne (IsIssuers version)
one_issuers PolicyVersion.One t xs ys h k = one_alone IsText values.one_text t xs ys h k
one_issuers PolicyVersion.Two t xs ys h k = values.one_texts t xs ys h.0 k.0

pub one_audiences : (version : PolicyVersion) → SaysOne (IsAudiences version)
one_audiences PolicyVersion.One t xs ys h k = one_alone IsShortText one_short_text t xs ys h k
one_audiences PolicyVersion.Two t xs ys h k = values.one_texts t xs ys h.0 k.0

-- ---- a member that says none

-- a member that is no short text is not one alone
pub not_alone : (o : Option Tree) → ((s : Text) → Says IsShortText o s → ⊥) → (list : List Text) → Says (IsAudiences PolicyVersion.One) o list → ⊥
not_alone None none list h = h
not_alone (Some t) none list h = none h.0 h.1

-- a list whose texts are not such is none of such texts
pub other_texts : (P : List Text → Type 0) (es : Elements) (texts : List Text) → text_elements texts ≡ es → (P texts → ⊥) → (list : List Text) → IsTexts (array es) list → P list → ⊥
other_texts P es texts is odd list listed such =
    let same : es ≡ text_elements list = cc listed in
    odd (subst P (sym (values.one_list texts list (is ∙ same))) such)

-- ---- the texts of a list

pub one_more : (texts : List Text) (i : ℕ) (s : Text) → StandsAt texts i s → length s ≤ binding_text_max → ((j : ℕ) (t : Text) → j < i → StandsAt texts j t → length t ≤ binding_text_max)
    → (j : ℕ) (t : Text) → j < i + 1 → StandsAt texts j t → length t ≤ binding_text_max
one_more texts i s at short before j t less there =
    ⊎_elim (λ l. before j t l there)
    (λ same. subst (λ u. length u ≤ binding_text_max) (At-same texts i s t at (subst (λ k. StandsAt texts k t) same there)) short)
    (before_or_at j i less)
