-- The worked token by HS256, presented at once, and in two steps of a caller that takes HS256: each premise of the law that both
-- give the same is met.
use Rattle.std.proofs.Common.{◌≡◌, inl, inr, ℕ, true, false, bytes_eq, List, [], ◌∷◌, Some, None, IsUtf8, codes, refl, sym, ap, subst, ◌∙◌, arith, rules}
use Rattle.std.proofs.lemmas.Str.{IsUtf8-from_ascii}
use denote.Ref.{Bor}
use Rattle.json.proofs.Printed.Utf8.{IsUtf8-are_ascii}
use Rattle.sd_outside.proofs.Lists.{At-In}
use Rattle.b64url_text.specs.Base64url.{AreBytes, b64}
use Rattle.b64url_text.proofs.Codes.{letters-b64}
use Rattle.b64url_text.proofs.Words.{IsAscii-letters}
use Rattle.claim_tree.specs.JsonText.{json_text}
use Rattle.claim_tree.specs.Path.{tree_at}
use Rattle.claim_tree.specs.Tree.{Text, Tree, object, Members, no_members, member, IsOrdered, IsRanged}
use Rattle.claim_tree.specs.declared.tree.Tree as owned
use Rattle.claim_tree.proofs.TreeTexts.{HasTexts}
use Rattle.compact_form.specs.Compact.{compact, hashed}
use Rattle.compact_form.specs.declared.parts.JwtParts.{JwtParts}
use Rattle.compact_form.specs.declared.parts.Parts.{Parts}
use Rattle.disclosure.specs.Digest.{digest_of, hash_of}
use Rattle.hmac_sign.specs.Agreement.{IsOfBytes}
use Rattle.hmac_sign.specs.Algs.{alg_text}
use Rattle.hmac_sign.specs.Hmac.{AlgKey, IsGood, hs256_key, mac}
use Rattle.hmac_sign.proofs.Macs.{AreBytes-mac, length-mac}
use Rattle.jws_part.specs.Header.{header_members}
use Rattle.jws_part.proofs.ReadBack.{carried_back, header_back}
use Rattle.json_form.specs.Alone.{alone}
use Rattle.key_binding.specs.Binding.{AreReadBack, binding_header, claim_members, claims_for}
use Rattle.key_binding.specs.Caller.{IsAlgUntaken}
use Rattle.key_binding.specs.declared.caller.SignatureAnswer.{SignatureAnswer}
use Rattle.marked_tree.specs.Marked.{Marked, strip}
use Rattle.marked_tree.specs.Paths.{Path, chosen, mark_path}
use Rattle.marked_tree.proofs.LeftOut.{chosen_leads}
use Rattle.marked_tree.proofs.MarkFacts.{mark_strips_holds}
use Rattle.selection_core.specs.ChoiceRefusals.{IsMissing}
use Rattle.selection_core.specs.Consent.{Allows}
use Rattle.selection_core.specs.Never.{MayBeShown, never_rule}
use Rattle.verifier_core.specs.Asking.{saying}
use Rattle.verifier_core.specs.Verdict.{HasHash}
use Rattle.issuer_core.specs.Digests.{marked_claims}
use Rattle.issuer_core.specs.Laid.{with_alg}
use Rattle.issuer_core.proofs.WorkedOrders.{seed}
use Rattle.holder_core.specs.Asked.{AskTheSame, Asked, BindingAsked, asked_by, caller_rules}
use Rattle.holder_core.specs.Present.{IsAgreed, IsPresented, picked}
use Rattle.holder_core.specs.ToSign.{IsSentBy, IsToPresent}
use Rattle.holder_core.specs.declared.signing.UnsignedPresentation.{UnsignedPresentation}
use Rattle.sdjwt_cli.specs.AnySigner.{AnySigner, TakesIssued, key_signer}
use Rattle.sdjwt_cli.proofs.HeldIssued.{IsTokenOf, by_anyone, issued_held, issued_text}
use Rattle.sdjwt_cli.proofs.IssuedValues.{issued, parts}
use Rattle.sdjwt_cli.proofs.KeySuits.{key_suits, key_token_of}
use Rattle.holder_core.proofs.TwoSteps.{same_in_two_steps}
use Rattle.sdjwt_cli.proofs.SuitsExample.{holder_key, issuer_key, may_be_shown, named, order, policy, said, suits}

abbrev hs256 : Text
hs256 = codes "HS256"

abbrev issuer : AnySigner
issuer = key_signer issuer_key

abbrev key : AlgKey
key = hs256_key holder_key

-- ---- what is asked

-- of a holder that has the issuer's key
abbrev asked : Asked
asked = asked_by said.ask

abbrev bind : BindingAsked
bind = record { kid = Some (codes "h"); aud = codes "v"; nonce = codes "7" }

-- of a caller that takes HS256, and said that the issuer's signature is good
abbrev other : Asked
other = record { rules = caller_rules (hs256 ∷ []) (Some SignatureAnswer.Good); want = said.ask.want; binding = Some bind }

same : AskTheSame asked other
same = record { want = refl; binding = (refl, refl) }

taken : IsAlgUntaken (saying (hs256 ∷ []) (Some SignatureAnswer.Good)) hs256 → ⊥
taken (inl (inl none)) = let clash : true ≡ false = ap (bytes_eq hs256) none in cc clash
taken (inl (inr none)) = let clash : true ≡ false = ap (bytes_eq hs256) none in cc clash
taken (inr none) = none (inl refl)

key_bytes : IsOfBytes issuer.good
key_bytes head body signature is = subst AreBytes (sym is) (AreBytes-mac issuer_key head body)

takes : TakesIssued asked.rules order issuer
takes = (key_suits never_rule said.never order issuer_key said.ask holder_key policy 1000 1300 suits).holder_takes

takes_other : TakesIssued other.rules order issuer
takes_other = record { trusts = (taken, refl, key_bytes); typ = λ name none. cc none }

-- ---- what is agreed

is : IsTokenOf seed order issuer parts
is = key_token_of seed order issuer_key parts (by_anyone seed order issuer_key parts issued)

abbrev claims : Marked
claims = marked_claims order

abbrev text : Text
text = compact parts

not_missing : (k : ℕ) → IsMissing (strip claims) said.ask.want k → ⊥
not_missing k (path, at, none) = suits.there path (At-In said.ask.want k path at) (ap (λ t. tree_at t path) (sym (mark_strips_holds order.payload order.hide)) ∙ none)

allowed : (i : ℕ) (at : Path) → chosen claims said.ask.want i ≡ true → mark_path claims i ≡ Some at → Allows never_rule said.never at true
allowed i at is_chosen stands =
    let leads = chosen_leads order.payload order.hide said.ask.want i at is_chosen stands in
    let may : MayBeShown said.never at = may_be_shown at leads.0 leads.1 in
    let place : Bor Path = record { ref_ptr = (0, 0); now = at } in
    record { shown = place; shows = refl; says = record { met = ((λ is. may), (λ free. refl)) } }

agreed : (ask : Asked) → TakesIssued ask.rules order issuer → ask.want ≡ said.ask.want → IsAgreed never_rule said.never (alone parts) ask claims
agreed ask taking wants =
    let held = issued_held seed order issuer parts is ask taking in
    record {
      held = held;
      there = subst (λ (w : List Path). (k : ℕ) → IsMissing (strip claims) w k → ⊥) (sym wants) not_missing;
      allowed = subst (λ (w : List Path). (i : ℕ) (at : Path) → chosen claims w i ≡ true → mark_path claims i ≡ Some at → Allows never_rule said.never at true) (sym wants) allowed;
    }

has_hash : HasHash (alone parts) order.hash
has_hash = (with_alg order.hash is.has.payload, is.has.back.body, is.has.hash)

-- ---- what is sent

abbrev front : Parts
front = record { signed = parts.signed; disclosures = picked (chosen claims said.ask.want) parts.disclosures; binding = None }

abbrev head : Text
head = b64 (json_text (object (header_members (binding_header hs256))))

abbrev said_members : Members
said_members = claim_members (claims_for order.hash (hashed front) (codes "v") (codes "7") 1000)

abbrev body : Text
body = b64 (json_text (object said_members))

abbrev code : List ℕ
code = mac key head body

abbrev token : JwtParts
token = record { protected = head; payload = body; signature = b64 code }

abbrev sent : Parts
sent = record { signed = front.signed; disclosures = front.disclosures; binding = Some token }

digest_utf8 : (hash_text : Text) → IsUtf8 (digest_of order.hash hash_text)
digest_utf8 hash_text = IsUtf8-from_ascii (digest_of order.hash hash_text) (IsAscii-letters (digest_of order.hash hash_text) (letters-b64 (hash_of order.hash hash_text)))

read_back : AreReadBack hs256 order.hash (hashed front) (codes "v") (codes "7") 1000 head body
read_back = record {
  header = header_back head (binding_header hs256) refl (IsUtf8-are_ascii hs256 refl) tt (IsUtf8-are_ascii (codes "kb+jwt") refl);
  body = record {
    members = said_members;
    is_object = refl;
    carried = carried_back body (object said_members) refl texts ranged ordered (omega arith);
  };
}
  where
    texts : HasTexts (object said_members)
    texts = (
      IsUtf8-are_ascii (codes "aud") refl,
      IsUtf8-are_ascii (codes "v") refl,
      (IsUtf8-are_ascii (codes "iat") refl, tt, (IsUtf8-are_ascii (codes "nonce") refl, IsUtf8-are_ascii (codes "7") refl, (IsUtf8-are_ascii (codes "sd_hash") refl, digest_utf8 (hashed front), tt))),
    )

    ranged : IsRanged (object said_members)
    ranged = (tt, (omega arith, (tt, (tt, tt))))

    ordered : IsOrdered (object said_members)
    ordered = search rules

presented : IsPresented never_rule said.never text asked (alg_text key.alg) (IsGood key) 1000 sent
presented = record {
  token = alone parts;
  is_token = issued_text seed order issuer parts is;
  is_answer = record {
    marked = claims;
    agreed = agreed asked takes refl;
    key = refl;
    presents = record { signed = refl; disclosures = refl; binding_is = refl };
    hash = order.hash;
    has_hash = has_hash;
    bound = record { is_binding = record { protected = refl; payload = refl; signature = code; signature_text = refl; signed = refl }; read_back = read_back };
  };
}

-- ---- the same in two steps

-- what is shown: all but the family name
abbrev shown : Members
shown = member (codes "cnf") (object (member (codes "kid") (named (codes "h")) no_members)) (member (codes "given_name") (named (codes "Ann")) (member (codes "iss") (named (codes "i")) no_members))

abbrev unsigned : UnsignedPresentation
unsigned = record { parts = front; binding = record { protected = head; payload = body }; payload = owned.Tree.Object shown }

to_present : IsToPresent never_rule said.never text other (alg_text key.alg) 1000 unsigned
to_present = record {
  token = alone parts;
  is_token = issued_text seed order issuer parts is;
  is_to_sign = record {
    marked = claims;
    agreed = agreed other takes_other refl;
    key = refl;
    presents = record { signed = refl; disclosures = refl; binding_is = refl };
    hash = order.hash;
    has_hash = has_hash;
    binding = bind;
    asked_for = refl;
    to_sign = record { texts = record { protected = refl; payload = refl }; read_back = read_back };
    payload = refl;
  };
}

sent_by : IsSentBy unsigned (IsGood key) sent
sent_by = record {
  signature = code;
  some = omega (arith, length-mac key head body);
  with_it = record { signed = refl; disclosures = refl; token = token; binding = refl; with_it = record { protected = refl; payload = refl; signature_text = refl } };
  signed = refl;
}

-- so the law says of it what it says
holds : sent ≡ sent
holds = same_in_two_steps never_rule said.never key text asked other 1000 unsigned sent sent same presented to_present sent_by
