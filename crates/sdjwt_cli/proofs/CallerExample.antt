-- The worked order, issued and presented with signatures that a caller checks: each premise of the law of presenting to a caller
-- is met.
use Rattle.std.proofs.Common.{◌≡◌, inl, inr, ℕ, ◌≤◌, true, false, bytes_eq, List, [], ◌∷◌, ◌++◌, length, length-append, None, Some, IsUtf8, codes, refl, sym, ap, subst, arith}
use Rattle.json.proofs.Printed.Utf8.{IsUtf8-are_ascii}
use Rattle.json.specs.Print.{escape_byte}
use Rattle.b64url_text.specs.Base64url.{b64}
use Rattle.b64url_text.proofs.Codes.{IsWord-b64}
use Rattle.b64url_text.proofs.Lengths.{length-b64}
use Rattle.b64url_text.proofs.Texts.{AreBytes-text}
use Rattle.claim_tree.specs.JsonText.{json_text}
use Rattle.claim_tree.specs.Tree.{Text, object}
use Rattle.compact_form.specs.Compact.{compact, hashed, jwt, spelled}
use Rattle.refusals.specs.declared.condition.Condition.{Condition}
use Rattle.refusals.specs.declared.fault.Place.{Place}
use Rattle.compact_form.specs.declared.parts.Parts.{Parts}
use Rattle.hmac_sign.specs.Agreement.{IsOfBytes}
use Rattle.jws_part.specs.Header.{header_members}
use Rattle.key_binding.specs.Caller.{IsAlgUntaken}
use Rattle.key_binding.specs.Judged.{BindingRules}
use Rattle.key_binding.specs.declared.caller.SignatureAnswer.{SignatureAnswer}
use Rattle.sd_outside.specs.Limits.{issue_max}
use Rattle.verifier_core.specs.Asking.{saying, asked_rules, caller_demands}
use Rattle.verifier_core.specs.Meanings.{Meanings, meanings}
use Rattle.verifier_core.specs.Verdict.{ClaimFails, demands_of}
use Rattle.verifier_core.specs.declared.policy.Policy.{Policy}
use Rattle.issuer_core.specs.Seed.{maker_of}
use Rattle.issuer_core.specs.Written.{IsIssued, header_of}
use Rattle.issuer_core.proofs.WorkedOrders.{seed}
use Rattle.holder_core.specs.Asked.{Asked, BindingAsked, caller_rules}
use Rattle.selection_core.specs.Never.{never_rule}
use Rattle.sdjwt_cli.specs.AnySigner.{AnySigner, any_signer, IsLegible, BindingFits, SignsShort, RulesSuit, DemandsSuit}
use Rattle.sdjwt_cli.specs.PresentedValues.{IsIssuedByAnyone, AreMeant, IsShownByAnyone, IsJudgedWith, said_good}
use Rattle.sdjwt_cli.specs.Suits.{claims_for}
use Rattle.sdjwt_cli.proofs.BindingRoom.{short_name, short_fits}
use Rattle.sdjwt_cli.proofs.HeldIssued.{by_anyone}
use Rattle.sdjwt_cli.proofs.IssuedValues.{parts, parts_short, issued}
use Rattle.sdjwt_cli.proofs.PresentedToCaller.{presented_to_caller}
use Rattle.sdjwt_cli.proofs.SuitsExample.{order, said, asked_binding, policy_with, suits, claims_hold}

-- ---- who signs

-- of an issuer and of a holder one signature is good, whatever is signed
abbrev by_issuer : List ℕ
by_issuer = codes "by the issuer"

abbrev by_holder : List ℕ
by_holder = codes "by the holder"

abbrev pub es256 : Text
es256 = codes "ES256"

abbrev pub issuer : AnySigner
issuer = any_signer es256 (λ head body signature. signature ≡ by_issuer)

abbrev pub holder : AnySigner
holder = any_signer es256 (λ head body signature. signature ≡ by_holder)

abbrev by : Meanings
by = meanings issuer.good (λ payload. holder.good)

issuer_bytes : IsOfBytes issuer.good
issuer_bytes head body signature is = AreBytes-text signature (subst IsUtf8 (sym is) (IsUtf8-are_ascii by_issuer refl))

holder_bytes : IsOfBytes holder.good
holder_bytes head body signature is = AreBytes-text signature (subst IsUtf8 (sym is) (IsUtf8-are_ascii by_holder refl))

-- the caller takes its algorithm
taken : IsAlgUntaken (saying (es256 ∷ []) (Some SignatureAnswer.Good)) es256 → ⊥
taken (inl (inl none)) = let clash : true ≡ false = ap (bytes_eq es256) none in cc clash
taken (inl (inr none)) = let clash : true ≡ false = ap (bytes_eq es256) none in cc clash
taken (inr none) = none (inl refl)

-- ---- what is issued

abbrev head : Text
head = json_text (object (header_members (header_of es256 order)))

abbrev pub sent : Parts
sent = record {
  signed = record { protected = b64 head; payload = parts.signed.payload; signature = b64 by_issuer };
  disclosures = parts.disclosures;
  binding = None;
}

head_short : length head ≤ 1000
unfolding escape_byte
head_short = omega arith

pub sent_issued : IsIssued (maker_of seed) order es256 issuer.good sent
sent_issued =
    let i = issued.issued in
    record {
      payload = i.payload;
      given = i.given;
      issued = i.issued;
      written = record { protected = refl; body = i.written.body; signature = by_issuer; signature_text = refl; signed = refl; disclosures = i.written.disclosures; unbound = refl };
    }

sent_short : length (compact sent) ≤ issue_max
sent_short =
    omega (
      arith,
      parts_short,
      head_short,
      length-b64 head,
      length-b64 by_issuer,
      length-append (b64 head) (codes "." ++ (parts.signed.payload ++ (codes "." ++ b64 by_issuer))),
      length-append parts.signed.payload (codes "." ++ b64 by_issuer),
      length-append (jwt sent.signed) (codes "~" ++ spelled sent.disclosures),
      length-append (hashed sent) [],
      length-append parts.signed.protected (codes "." ++ (parts.signed.payload ++ (codes "." ++ parts.signed.signature))),
      length-append parts.signed.payload (codes "." ++ parts.signed.signature),
      length-append (jwt parts.signed) (codes "~" ++ spelled parts.disclosures),
      length-append (hashed parts) [],
    )

pub anyone : IsIssuedByAnyone seed order issuer sent
anyone =
    let same = by_anyone seed order _ parts issued in
    record { issued = sent_issued; passes = same.passes; short = sent_short; ordered = same.ordered; texts = same.texts; kid = same.kid; typ = same.typ }

pub legible : IsLegible es256 sent
legible = let word = IsWord-b64 by_issuer (omega arith) in record { name = IsUtf8-are_ascii es256 refl; some = word.some }

-- ---- what suits

abbrev bind : BindingAsked
bind = record { kid = Some (codes "h"); aud = codes "v"; nonce = codes "7" }

-- as in the worked present order, of a caller that said that the issuer's signature is good
abbrev pub asked : Asked
asked = record { rules = caller_rules (es256 ∷ []) (Some SignatureAnswer.Good); want = said.ask.want; binding = Some bind }

-- the worked policy, but for its algorithms
abbrev pub policy : Policy
policy = record (policy_with (Some asked_binding)) { algs = es256 ∷ [] }

claims : (c : Condition) (place : Place) → ClaimFails (claims_for order asked.want) (caller_demands policy (es256 ∷ []) said_good) 1300 c place → ⊥
claims c place h = claims_hold None c place (as_keyed c place h)
  where
    as_keyed : (c : Condition) (place : Place) → ClaimFails (claims_for order asked.want) (caller_demands policy (es256 ∷ []) said_good) 1300 c place
        → ClaimFails (claims_for order said.ask.want) (demands_of (policy_with None)) 1300 c place
    as_keyed Condition.IssuerRefused place h = h
    as_keyed _ place h = h

at_work : RulesSuit order.payload asked.binding holder (asked_rules (es256 ∷ []) (Some SignatureAnswer.Good) asked_binding) 5 1000 1300
at_work = record {
  ask = bind;
  asked_for = refl;
  aud = inl refl;
  nonce = refl;
  trusts = (taken, refl, holder_bytes);
  not_stale = omega arith;
  not_early = omega arith;
}

pub suits_caller : DemandsSuit never_rule said.never order issuer asked holder (caller_demands policy (es256 ∷ []) said_good) 1000 1300
suits_caller = record {
  holder_takes = record { trusts = (taken, refl, issuer_bytes); typ = λ name none. cc none };
  verifier_takes = record { trusts = (taken, refl, issuer_bytes); typ = λ name typ. typ };
  there = suits.there;
  unrefused = suits.unrefused;
  named = refl;
  bound = λ rules wanted.
      let same : asked_rules (es256 ∷ []) (Some SignatureAnswer.Good) asked_binding ≡ rules = cc wanted in
      subst (λ (r : BindingRules). RulesSuit order.payload asked.binding holder r 5 1000 1300) same at_work;
  claims = claims;
}

meant : AreMeant issuer holder by (claims_for order asked.want)
meant = record { issued = λ head body signature is. is; bound = λ head body signature is. is; bytes = holder_bytes }

-- key binding tokens of this holder fit

signs : SignsShort holder
signs = record {
  header = short_name es256 (omega arith);
  signature = λ head body signature is. let long = ap length is in (omega (arith, long), omega (arith, long));
}

fits : BindingFits asked.binding holder 1000
fits = short_fits holder asked.binding 1000 signs (omega arith, omega arith) (omega arith)

-- so the law says of it what it says
shown : IsShownByAnyone never_rule said.never sent asked holder 1000 (IsJudgedWith by policy (es256 ∷ []) 1300 (claims_for order asked.want))
shown = presented_to_caller never_rule said.never issuer holder by seed order sent anyone legible asked policy (es256 ∷ []) 1000 1300 suits_caller meant
