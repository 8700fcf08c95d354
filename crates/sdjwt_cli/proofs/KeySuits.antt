-- Where the keys are held: what suits keys and a policy suits whoever signs with them.
use Rattle.std.proofs.Common.{◌≡◌, inl, inr, ℕ, ◌<◌, ◌≤◌, ◌^◌, List, length, map, Option, None, Some, codes, refl, sym, ap, subst, ◌∙◌, arith}
use Rattle.std.specs.Prelude.{option_and_then, option_map}
use Rattle.b64url_text.proofs.Codes.{IsWord-b64}
use Rattle.sd_outside.specs.Lists.{In}
use Rattle.claim_tree.specs.Tree.{Text, Tree}
use Rattle.compact_form.specs.declared.parts.Parts.{Parts}
use Rattle.hmac_sign.specs.Algs.{alg_text, algs}
use Rattle.hmac_sign.specs.CodeLengths.{code_length}
use Rattle.hmac_sign.specs.Hmac.{AlgKey, hs256_key}
use Rattle.hmac_sign.specs.Keys.{picked_key, key_named}
use Rattle.hmac_sign.specs.declared.alg.Alg.{Alg}
use Rattle.hmac_sign.specs.declared.key_set.NamedKey.{NamedKey}
use Rattle.hmac_sign.proofs.AlgNames.{of_its_text, text_utf8}
use Rattle.hmac_sign.proofs.Macs.{length-mac}
use Rattle.key_binding.specs.Judged.{holder_kid, BindingRules, binding_rules}
use Rattle.key_binding.specs.declared.policy.BindingPolicy.{BindingPolicy}
use Rattle.selection_core.specs.Consent.{RuleAnswers}
use Rattle.verifier_core.specs.Verdict.{asked, demands_of}
use Rattle.verifier_core.specs.declared.policy.Policy.{Policy}
use Rattle.issuer_core.specs.Order.{Order}
use Rattle.holder_core.specs.Asked.{binding_asked, asked_by}
use Rattle.holder_core.specs.Present.{NamesKey}
use Rattle.holder_core.specs.declared.ask.Ask.{Ask}
use Rattle.holder_core.specs.declared.ask.BindingAsk.{BindingAsk}
use Rattle.sdjwt_cli.specs.AnySigner.{key_signer, TakesIssued, IsLegible, BindingFits, IsShortAsk, SignsShort, RulesSuit, DemandsSuit}
use Rattle.sdjwt_cli.specs.PresentedValues.{IsIssuedByAnyone, AreShort}
use Rattle.sdjwt_cli.specs.Suits.{Suits}
use Rattle.sdjwt_cli.proofs.BindingRoom.{short_name, short_fits}
use Rattle.sdjwt_cli.proofs.HeldIssued.{IsTokenOf, token_of}

is_known : (alg : Alg) → In (alg_text alg) (map alg_text algs)
is_known Alg.Hs256 = inl refl
is_known Alg.Hs384 = inr (inl refl)
is_known Alg.Hs512 = inr (inr (inl refl))

some_code : (alg : Alg) → 0 < code_length alg
some_code Alg.Hs256 = omega arith
some_code Alg.Hs384 = omega arith
some_code Alg.Hs512 = omega arith

-- ---- what is signed with a key

pub key_legible : (seed : List ℕ) (o : Order) (key : AlgKey) (parts : Parts) → IsIssuedByAnyone seed o (key_signer key) parts → IsLegible (alg_text key.alg) parts
key_legible seed o key parts issued =
    let w = issued.issued.written in
    let word = IsWord-b64 w.signature (omega (arith, ap length w.signed, length-mac key parts.signed.protected parts.signed.payload, some_code key.alg)) in
    record { name = text_utf8 key.alg; some = subst (λ (t : Text). 0 < length t) (sym w.signature_text) word.some }

pub key_token_of : (seed : List ℕ) (o : Order) (key : AlgKey) (parts : Parts) → IsIssuedByAnyone seed o (key_signer key) parts → IsTokenOf seed o (key_signer key) parts
key_token_of seed o key parts issued = token_of seed o (key_signer key) parts issued (key_legible seed o key parts issued)

key_signs : (signing : List ℕ) → SignsShort (key_signer (hs256_key signing))
key_signs signing = record {
  header = short_name (codes "HS256") (omega arith);
  signature = λ head body signature good.
      let long = length-mac (hs256_key signing) head body in
      let same = ap length good in
      (omega (arith, long, same), omega (arith, long, same));
}

asks_short : (asked : Option BindingAsk) → AreShort asked → IsShortAsk (option_map binding_asked asked)
asks_short None small = tt
asks_short (Some ask) small = small

pub key_fits : (signing : List ℕ) (now : ℕ) → now < 2 ^ 64 → (asked : Option BindingAsk) → AreShort asked → BindingFits (option_map binding_asked asked) (key_signer (hs256_key signing)) now
key_fits signing now in_range asked small = short_fits (key_signer (hs256_key signing)) (option_map binding_asked asked) now (key_signs signing) (asks_short asked small) in_range

-- ---- who finds the keys

key_takes : (o : Order) (key : AlgKey) (keys : List NamedKey) (names : List Text) (typ : Option Text) → In (alg_text key.alg) names → picked_key keys o.kid key.alg ≡ Some key
    → ((name : Text) → typ ≡ Some name → o.typ ≡ Some name) → TakesIssued (asked keys names typ) o (key_signer key)
key_takes o key keys names typ taken finds same = record {
  trusts = (taken, key, ap (option_and_then (picked_key keys o.kid)) (sym (of_its_text key.alg)) ∙ finds, λ head body signature good. good);
  typ = same;
}

names_key : (asked : Option BindingAsk) (payload : Tree) → ((ask : BindingAsk) → asked ≡ Some ask → holder_kid payload ≡ Some ask.kid) → NamesKey (option_map binding_asked asked) payload
names_key None payload named = tt
names_key (Some ask) payload named = named ask refl

-- what is asked of a key binding token is what the policy asks
binding_of : (wanted : Option BindingPolicy) (rules : BindingRules) → option_map binding_rules wanted ≡ Some rules → (b : BindingPolicy) × (wanted ≡ Some b) × (rules ≡ binding_rules b)
binding_of None rules e = cc e
binding_of (Some b) rules e = let same : binding_rules b ≡ rules = cc e in (b, refl, sym same)

pub key_suits : {F : Type 0} (answers : RuleAnswers F) (rule : F) (o : Order) (key : AlgKey) (ask : Ask) (signing : List ℕ) (policy : Policy) (now later : ℕ)
    → Suits answers rule o key ask signing policy now later
    → DemandsSuit answers rule o (key_signer key) (asked_by ask) (key_signer (hs256_key signing)) (demands_of policy) now later
key_suits answers rule o key ask signing policy now later suits = record {
  holder_takes = key_takes o key ask.keys (map alg_text algs) None (is_known key.alg) suits.holder_finds (λ name none. cc none);
  verifier_takes = key_takes o key policy.keys policy.algs policy.typ suits.alg suits.verifier_finds suits.typ;
  there = suits.there;
  unrefused = suits.unrefused;
  named = names_key ask.binding o.payload suits.named;
  bound = bound;
  claims = suits.claims;
}
  where
    bound : (rules : BindingRules) → option_map binding_rules policy.binding ≡ Some rules → RulesSuit o.payload (option_map binding_asked ask.binding) (key_signer (hs256_key signing)) rules policy.skew now later
    bound rules wanted =
        let (b, is, rules_are) = binding_of policy.binding rules wanted in
        let suit = suits.bound b is in
        subst (λ (r : BindingRules). RulesSuit o.payload (option_map binding_asked ask.binding) (key_signer (hs256_key signing)) r policy.skew now later) (sym rules_are)
        (record {
          ask = binding_asked suit.ask;
          asked_for = ap (option_map binding_asked) suit.asked_for;
          aud = suit.aud;
          nonce = suit.nonce;
          trusts = (refl, signing, ap (option_and_then (key_named b.keys)) (suits.named suit.ask suit.asked_for) ∙ suit.known, λ head body signature good. good);
          not_stale = suit.not_stale;
          not_early = suit.not_early;
        })
