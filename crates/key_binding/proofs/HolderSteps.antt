-- What is so of a key binding token, by what checks its signature.
use Rattle.std.proofs.Common.{◌≡◌, Some, sym, subst, ◌∙◌}
use Rattle.claim_tree.specs.Tree.{Text}
use Rattle.hmac_sign.specs.Hmac.{IsGoodText, hs256_key}
use Rattle.jws_part.specs.declared.header.Header.{Header}
use Rattle.key_binding.specs.Caller.{Caller, IsAlgUntaken, IsUnknownTo, IsBadTo}
use Rattle.key_binding.specs.BindingConditions.{IsHolderAlgRefused, IsHolderUnknown, IsBadBindingSignature}
use Rattle.key_binding.specs.Judged.{Judged, Holders, of_keys, of_caller, HasBindingHeader}
use Rattle.key_binding.specs.JudgedSteps.{IsHolder, IsAlgRefusedBy, IsUnknownBy, IsBadBy}
use Rattle.key_binding.specs.declared.judging.Holder.{Holder}
use Rattle.key_binding.proofs.BindingSteps.{one_header}

module _ (j : Judged) where
  -- where the header is not read, nobody is asked for a key
  pub known_unread : (who : Holders) (holder : Holder) → IsHolder who j.payload holder → ((h : Header) → HasBindingHeader j.token h → ⊥) → IsHolderUnknown who j → ⊥
  known_unread (of_keys keys) (Holder.Key key) is none unknown = cc (sym is ∙ unknown)
  known_unread (of_keys keys) (Holder.Caller own) is none unknown = is
  known_unread (of_caller caller) (Holder.Key key) is none unknown = is
  known_unread (of_caller caller) (Holder.Caller own) is none ((h, has, taken), told) = none h has

  pub alg_refused : (who : Holders) (holder : Holder) → IsHolder who j.payload holder → (alg : Text) → IsAlgRefusedBy holder alg → IsHolderAlgRefused who alg
  alg_refused (of_keys keys) (Holder.Key key) is alg refused = refused
  alg_refused (of_keys keys) (Holder.Caller own) is alg refused = absurd is
  alg_refused (of_caller caller) (Holder.Key key) is alg refused = absurd is
  alg_refused (of_caller caller) (Holder.Caller own) is alg refused = subst (λ (x : Caller). IsAlgUntaken x alg) is refused

  pub alg_taken : (who : Holders) (holder : Holder) → IsHolder who j.payload holder → (alg : Text) → (IsAlgRefusedBy holder alg → ⊥) → IsHolderAlgRefused who alg → ⊥
  alg_taken (of_keys keys) (Holder.Key key) is alg taken refused = taken refused
  alg_taken (of_keys keys) (Holder.Caller own) is alg taken refused = is
  alg_taken (of_caller caller) (Holder.Key key) is alg taken refused = is
  alg_taken (of_caller caller) (Holder.Caller own) is alg taken refused = taken (subst (λ (x : Caller). IsAlgUntaken x alg) (sym is) refused)

  -- nor where its algorithm is refused
  pub known_refused : (who : Holders) (holder : Holder) → IsHolder who j.payload holder → (h : Header) → HasBindingHeader j.token h → IsAlgRefusedBy holder h.alg → IsHolderUnknown who j → ⊥
  known_refused (of_keys keys) (Holder.Key key) is h has refused unknown = cc (sym is ∙ unknown)
  known_refused (of_keys keys) (Holder.Caller own) is h has refused unknown = is
  known_refused (of_caller caller) (Holder.Key key) is h has refused unknown = is
  known_refused (of_caller caller) (Holder.Caller own) is h has refused ((k, other, taken), told) =
      taken (subst (λ (x : Header). IsAlgUntaken caller x.alg) (one_header j h k has other) (subst (λ (x : Caller). IsAlgUntaken x h.alg) is refused))

  pub unknown_by : (who : Holders) (holder : Holder) → IsHolder who j.payload holder → (h : Header) → HasBindingHeader j.token h → (IsAlgRefusedBy holder h.alg → ⊥) → IsUnknownBy holder j.token → IsHolderUnknown who j
  unknown_by (of_keys keys) (Holder.Key key) is h has taken unknown = absurd unknown
  unknown_by (of_keys keys) (Holder.Caller own) is h has taken unknown = absurd is
  unknown_by (of_caller caller) (Holder.Key key) is h has taken unknown = absurd is
  unknown_by (of_caller caller) (Holder.Caller own) is h has taken unknown =
      ((h, has, λ untaken. taken (subst (λ (x : Caller). IsAlgUntaken x h.alg) (sym is) untaken)), subst (λ (x : Caller). IsUnknownTo x j.token.signature) is unknown)

  pub known_by : (who : Holders) (holder : Holder) → IsHolder who j.payload holder → (IsUnknownBy holder j.token → ⊥) → IsHolderUnknown who j → ⊥
  known_by (of_keys keys) (Holder.Key key) is known unknown = cc (sym is ∙ unknown)
  known_by (of_keys keys) (Holder.Caller own) is known unknown = is
  known_by (of_caller caller) (Holder.Key key) is known unknown = is
  known_by (of_caller caller) (Holder.Caller own) is known unknown = known (subst (λ (x : Caller). IsUnknownTo x j.token.signature) (sym is) unknown.1)

  pub bad_by : (who : Holders) (holder : Holder) → IsHolder who j.payload holder → IsBadBy holder j.token → IsBadBindingSignature who j
  bad_by (of_keys keys) (Holder.Key key) is bad = (key.now, is, bad)
  bad_by (of_keys keys) (Holder.Caller own) is bad = absurd is
  bad_by (of_caller caller) (Holder.Key key) is bad = absurd is
  bad_by (of_caller caller) (Holder.Caller own) is bad = subst (λ (x : Caller). IsBadTo x j.token.signature) is bad

  pub good_by : (who : Holders) (holder : Holder) → IsHolder who j.payload holder → (IsBadBy holder j.token → ⊥) → IsBadBindingSignature who j → ⊥
  good_by (of_keys keys) (Holder.Key key) is good (other, other_is, bad) =
      let both : Some other ≡ Some key.now = sym other_is ∙ is in
      let same : other ≡ key.now = cc both in
      good (subst (λ x. IsGoodText (hs256_key x) j.token.protected j.token.payload j.token.signature → ⊥) same bad)
  good_by (of_keys keys) (Holder.Caller own) is good bad = is
  good_by (of_caller caller) (Holder.Key key) is good bad = is
  good_by (of_caller caller) (Holder.Caller own) is good bad = good (subst (λ (x : Caller). IsBadTo x j.token.signature) (sym is) bad)
