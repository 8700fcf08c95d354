-- Of the worked token the given name is presented without key binding: each premise of the law against forgery is met, where a
-- policy has the key of the issuer, and where a caller checks its signature by ES256.
use Rattle.std.proofs.Common.{inl, inr, [], ◌∷◌, None, refl}
use Rattle.sd_outside.specs.Lists.{In}
use Rattle.claim_tree.specs.Tree.{Text}
use Rattle.compact_form.specs.declared.parts.Parts.{Parts}
use Rattle.compact_form.specs.Compact.{compact}
use Rattle.hmac_sign.specs.Algs.{alg_text}
use Rattle.hmac_sign.specs.Hmac.{IsGood, hs256_key}
use Rattle.json_form.specs.Alone.{alone}
use Rattle.json_form.specs.Token.{IsToken}
use Rattle.marked_tree.specs.Marked.{strip}
use Rattle.marked_tree.specs.Paths.{chosen}
use Rattle.key_binding.specs.declared.caller.SignatureAnswer.{SignatureAnswer}
use Rattle.refusals.specs.declared.condition.Condition.{Condition}
use Rattle.refusals.specs.declared.fault.Place.{Place}
use Rattle.verifier_core.specs.Asking.{IsAcceptedForAs, caller_demands}
use Rattle.verifier_core.specs.Verdict.{ClaimFails, Demands, demands_of}
use Rattle.verifier_core.specs.declared.asking.Answers.{Answers}
use Rattle.verifier_core.specs.Verdicts.{IsAcceptedAs}
use Rattle.verifier_core.specs.declared.policy.Policy.{Policy}
use Rattle.issuer_core.specs.Digests.{marked_claims}
use Rattle.issuer_core.specs.Seed.{maker_of}
use Rattle.holder_core.specs.Asked.{Asked, asked_by}
use Rattle.holder_core.specs.declared.ask.Ask.{Ask}
use Rattle.holder_core.specs.Present.{picked}
use Rattle.selection_core.specs.Never.{never_rule}
use Rattle.sdjwt_cli.specs.AnySigner.{AnySigner, DemandsSuit, key_signer}
use Rattle.sdjwt_cli.specs.NoForgery.{NoneCollides, IsChoiceOf}
use Rattle.sdjwt_cli.specs.PresentedValues.{said_good}
use Rattle.sdjwt_cli.specs.Suits.{claims_for, Suits}
use Rattle.sdjwt_cli.proofs.HeldIssued.{IsTokenOf, by_anyone, token_of}
use Rattle.sdjwt_cli.proofs.KeySuits.{key_token_of, key_suits}
use Rattle.issuer_core.proofs.EachTexts.{held_utf8, utf8_bytes}
use Rattle.issuer_core.proofs.WorkedOrders.{seed}
use Rattle.sdjwt_cli.proofs.IssuedValues.{parts, issued}
use Rattle.sdjwt_cli.proofs.CallerExample as called
use Rattle.sdjwt_cli.proofs.NoForgery.{by_policy, to_caller}
use Rattle.sdjwt_cli.proofs.PresentedAccepted.{IsPresentedOf, can_be_sent, answer_text, answer_accepted}
use Rattle.sdjwt_cli.proofs.SuitsExample.{order, issuer_key, said, policy_with, suits, claims_hold}

-- the given name, with no key binding token
abbrev ask : Ask
ask = record { keys = said.ask.keys; want = said.ask.want; binding = None }

abbrev policy : Policy
policy = policy_with None

suits_too : Suits never_rule said.never order issuer_key ask [] policy 1000 1300
suits_too = record {
  holder_finds = refl;
  verifier_finds = refl;
  alg = inl refl;
  typ = λ name asked. asked;
  there = suits.there;
  unrefused = suits.unrefused;
  named = λ binding none. cc none;
  bound = λ binding none. cc none;
  claims = claims_hold None;
}

abbrev sent : Parts
sent = record { signed = parts.signed; disclosures = picked (chosen (marked_claims order) ask.want) parts.disclosures; binding = None }

abbrev issuer : AnySigner
issuer = key_signer issuer_key

-- with no key there is nothing to sign
abbrev nobody : AnySigner
nobody = key_signer (hs256_key [])

is : IsTokenOf seed order issuer parts
is = key_token_of seed order issuer_key parts (by_anyone seed order issuer_key parts issued)

presented : IsPresentedOf order (asked_by ask) nobody parts 1000 sent
presented = record { presents = record { signed = refl; disclosures = refl; binding_is = refl }; bound = refl }

is_text : IsToken (compact sent) (alone sent)
is_text = answer_text seed order issuer parts is (asked_by ask) nobody 1000 sent presented (can_be_sent seed order issuer parts is (asked_by ask) nobody 1000 sent presented tt)

accepted : IsAcceptedAs (compact sent) policy 1300 (claims_for order ask.want)
accepted =
    let suits_all = key_suits never_rule said.never order issuer_key ask [] policy 1000 1300 suits_too in
    answer_accepted seed order issuer parts is (asked_by ask) nobody 1000 sent presented never_rule said.never (demands_of policy) 1300 suits_all (compact sent) is_text

-- what is sent is the second of the two that were issued
sent_issued : (disclosure : Text) → In disclosure sent.disclosures → In disclosure parts.disclosures
sent_issued disclosure (inl same) = inr (inl same)
sent_issued disclosure (inr none) = absurd none

none_collides : NoneCollides (maker_of seed) order parts.disclosures sent.disclosures
none_collides disclosure there out stands = out (sent_issued disclosure there)

-- so the law says of it what it says
holds : IsChoiceOf (marked_claims order) parts.disclosures sent.disclosures (strip accepted.0)
holds =
    by_policy (alg_text issuer_key.alg) (IsGood issuer_key) seed order parts issued.passes issued.writable.good.ordered (utf8_bytes order.payload (held_utf8 order.payload issued.writable.held)) issued.issued
    (compact sent) (alone sent) is_text refl policy 1300 accepted.0 accepted.1 none_collides

-- ---- the same by ES256, of a caller that said that the issuer's signature is good

-- as in the worked values of a caller, without a key binding token
abbrev asked_too : Asked
asked_too = record called.asked { binding = None }

abbrev policy_too : Policy
policy_too = record called.policy { binding = None }

abbrev said_issuer : Answers
said_issuer = Answers.Issuer SignatureAnswer.Good

abbrev demands : Demands
demands = caller_demands policy_too [] said_issuer

claims_too : (c : Condition) (place : Place) → ClaimFails (claims_for order asked_too.want) demands 1300 c place → ⊥
claims_too c place h = called.suits_caller.claims c place (as_bound c place h)
  where
    as_bound : (c : Condition) (place : Place) → ClaimFails (claims_for order asked_too.want) demands 1300 c place
        → ClaimFails (claims_for order called.asked.want) (caller_demands called.policy (called.es256 ∷ []) said_good) 1300 c place
    as_bound Condition.IssuerRefused place h = h
    as_bound _ place h = h

suits_unbound : DemandsSuit never_rule said.never order called.issuer asked_too called.holder demands 1000 1300
suits_unbound = record {
  holder_takes = called.suits_caller.holder_takes;
  verifier_takes = called.suits_caller.verifier_takes;
  there = called.suits_caller.there;
  unrefused = called.suits_caller.unrefused;
  named = tt;
  bound = λ rules none. cc none;
  claims = claims_too;
}

abbrev sent_too : Parts
sent_too = record { signed = called.sent.signed; disclosures = sent.disclosures; binding = None }

is_too : IsTokenOf seed order called.issuer called.sent
is_too = token_of seed order called.issuer called.sent called.anyone called.legible

presented_too : IsPresentedOf order asked_too called.holder called.sent 1000 sent_too
presented_too = record { presents = record { signed = refl; disclosures = refl; binding_is = refl }; bound = refl }

text_too : IsToken (compact sent_too) (alone sent_too)
text_too =
    answer_text seed order called.issuer called.sent is_too asked_too called.holder 1000 sent_too presented_too
    (can_be_sent seed order called.issuer called.sent is_too asked_too called.holder 1000 sent_too presented_too tt)

accepted_too : IsAcceptedForAs (compact sent_too) demands 1300 (claims_for order asked_too.want)
accepted_too =
    answer_accepted seed order called.issuer called.sent is_too asked_too called.holder 1000 sent_too presented_too never_rule said.never demands 1300 suits_unbound (compact sent_too) text_too

-- so the law says of it what it says
holds_too : IsChoiceOf (marked_claims order) called.sent.disclosures sent_too.disclosures (claims_for order asked_too.want)
holds_too =
    to_caller called.es256 called.issuer.good seed order called.sent called.anyone.passes called.anyone.ordered (utf8_bytes order.payload called.anyone.texts) called.sent_issued
    (compact sent_too) (alone sent_too) text_too refl policy_too [] 1300 said_issuer (claims_for order asked_too.want) accepted_too none_collides
