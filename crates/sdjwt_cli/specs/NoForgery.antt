-- What the law against forgery says: a text that is accepted with the signed part of an issued
-- token shows some of the disclosures that were issued with it, and nothing else.
use Rattle.std.specs.Prelude.{◌≡◌, ℕ, List, ◌++◌, map, eqb}
use Rattle.std.specs.List.{AllZip, IsDistinct, list_any}
use Rattle.b64url_text.specs.Base64url.{AreBytes}
use Rattle.sd_outside.specs.Lists.{StandsAt, In}
use Rattle.claim_tree.specs.Tree.{Text, Tree, IsOrdered}
use Rattle.compact_form.specs.declared.parts.Parts.{Parts}
use Rattle.refusals.specs.Lowest.{NoneApplies}
use Rattle.disclosure.specs.Digest.{digest_of}
use Rattle.hmac_sign.specs.Signatures.{Meaning}
use Rattle.json_form.specs.Token.{IsToken}
use Rattle.json_form.specs.declared.token.Token.{Token}
use Rattle.marked_tree.specs.Closed.{IsClosed}
use Rattle.marked_tree.specs.Marked.{Marked, strip, prune}
use Rattle.verifier_core.specs.Verdict.{Demands, IsAccepted, IsAcceptedFor}
use Rattle.verifier_core.specs.declared.policy.Policy.{Policy}
use Rattle.issuer_core.specs.Digests.{Maker, marked_claims, decoy_digests}
use Rattle.issuer_core.specs.GoodOrder.{EachText}
use Rattle.issuer_core.specs.Order.{Order}
use Rattle.issuer_core.specs.OrderRefusals.{AppliesToOrder}
use Rattle.issuer_core.specs.Seed.{maker_of}
use Rattle.issuer_core.specs.Written.{IsIssued}

-- the digests of a token: those of the disclosures that were issued with it,
-- then those of its decoys
abbrev pub token_digests : Maker → Order → List Text → List Text
token_digests maker o issued = map (digest_of o.hash) issued ++ decoy_digests maker o

-- none of the disclosures that are sent and were not issued has one of these digests
abbrev pub NoneCollides : Maker → Order → List Text → List Text → Type 0
NoneCollides maker o issued sent =
    (disclosure : Text) → In disclosure sent → (In disclosure issued → ⊥)
    → In (digest_of o.hash disclosure) (token_digests maker o issued) → ⊥

-- the disclosures that are sent are issued ones in some order, none twice, with those of all hidden
-- places above; and the payload is the claims without the places of the others
pub record IsChoiceOf (claims : Marked) (issued sent : List Text) (payload : Tree) : Type 0 where
  pub numbers : List ℕ
  pub none_twice : IsDistinct eqb numbers
  pub disclosures : AllZip (StandsAt issued) numbers sent
  pub all_above : IsClosed claims (λ i. list_any (eqb i) numbers)
  pub shows : payload ≡ strip (prune claims (λ i. list_any (eqb i) numbers))

-- of each text that is read as a token with the signed part of these, whatever
-- is demanded and at every moment
abbrev pub ShowsIssued : Maker → Order → Parts → Type 0
ShowsIssued maker o parts =
    (text : List ℕ) (token : Token) → IsToken text token → token.parts.signed ≡ parts.signed
    → (demands : Demands) (now : ℕ) (marked : Marked) → IsAcceptedFor text demands now marked
    → NoneCollides maker o parts.disclosures token.parts.disclosures
    → IsChoiceOf (marked_claims o) parts.disclosures token.parts.disclosures (strip marked)

-- so it is under every policy
abbrev pub ShowsIssuedByPolicy : Maker → Order → Parts → Type 0
ShowsIssuedByPolicy maker o parts =
    (text : List ℕ) (token : Token) → IsToken text token → token.parts.signed ≡ parts.signed
    → (policy : Policy) (now : ℕ) (marked : Marked) → IsAccepted text policy now marked
    → NoneCollides maker o parts.disclosures token.parts.disclosures
    → IsChoiceOf (marked_claims o) parts.disclosures token.parts.disclosures (strip marked)

-- this is so of parts that are issued with a good signature, by the algorithm of this name, for an
-- order that nothing of 51 to 59 refuses, and whose claims are a JSON value, each text and each
-- name of which is a list of bytes, as texts are
abbrev pub OfIssued : Text → Meaning → (Maker → Order → Parts → Type 0) → Type 0
OfIssued alg good IsSo =
    (seed : List ℕ) (o : Order) (parts : Parts)
    → NoneApplies (AppliesToOrder o) → IsOrdered o.payload → EachText AreBytes o.payload
    → IsIssued (maker_of seed) o alg good parts → IsSo (maker_of seed) o parts
