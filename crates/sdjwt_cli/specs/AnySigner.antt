-- Not needed to believe the program's promises: who signs, by whatever algorithm, who trusts it,
-- and when what a verifier demands suits what a holder is asked to present.
use Rattle.std.specs.Prelude.{◌≡◌, ◌≢◌, ◌≤◌, ◌<◌, ◌^◌, ℕ, ◌+◌, true, false, List, length, Option, None, Some, IfSome}
use Rattle.std.specs.Str.{IsUtf8}
use Rattle.sd_outside.specs.Limits.{binding_text_max, compact_max, issue_max}
use Rattle.claim_tree.specs.JsonText.{json_text}
use Rattle.sd_outside.specs.Lists.{In}
use Rattle.claim_tree.specs.Path.{tree_at}
use Rattle.claim_tree.specs.Tree.{Text, Tree, object}
use Rattle.compact_form.specs.Compact.{jwt}
use Rattle.refusals.specs.Lowest.{NoneFails}
use Rattle.compact_form.specs.declared.parts.JwtParts.{JwtParts}
use Rattle.compact_form.specs.declared.parts.Parts.{Parts}
use Rattle.disclosure.specs.declared.digests.HashAlg.{HashAlg}
use Rattle.hmac_sign.specs.Agreement.{Implies, IsOfBytes}
use Rattle.hmac_sign.specs.Algs.{alg_text}
use Rattle.hmac_sign.specs.Hmac.{AlgKey, IsGood}
use Rattle.hmac_sign.specs.Signatures.{Meaning}
use Rattle.jws_part.specs.declared.header.Header.{Header}
use Rattle.jws_part.specs.Header.{header_members}
use Rattle.key_binding.specs.Binding.{IsBinding, binding_header}
use Rattle.key_binding.specs.Caller.{IsAlgUntaken}
use Rattle.key_binding.specs.Judged.{BindingRules}
use Rattle.key_binding.specs.Trusted.{TrustsHolder}
use Rattle.key_binding.specs.declared.caller.SignatureAnswer.{SignatureAnswer}
use Rattle.marked_tree.specs.LeftOut.{leads_to}
use Rattle.marked_tree.specs.Paths.{Path}
use Rattle.selection_core.specs.Consent.{RuleAnswers, Allows}
use Rattle.verifier_core.specs.Verdict.{Issuers, of_keys, of_caller, Rules, Demands, ClaimFails, key_for}
use Rattle.issuer_core.specs.Order.{Order}
use Rattle.issuer_core.specs.Written.{header_of}
use Rattle.holder_core.specs.Asked.{Asked, BindingAsked}
use Rattle.holder_core.specs.Present.{NamesKey}
use Rattle.sdjwt_cli.specs.Suits.{claims_for}

-- who signs: the name of the algorithm, and which signatures are good
pub record AnySigner : Type 1 where
  pub alg : Text
  pub good : Meaning

abbrev pub any_signer : Text → Meaning → AnySigner
any_signer alg good = record { alg = alg; good = good }

-- who signs with this key
abbrev pub key_signer : AlgKey → AnySigner
key_signer key = any_signer (alg_text key.alg) (IsGood key)

-- ---- who is trusted

-- the algorithm of the header is taken, and the signer that makes these good signatures is known:
-- by a key that is found for the header, or as the caller says
abbrev pub TrustsIssuer : Issuers → Header → Meaning → Type 0
TrustsIssuer (of_keys keys algs) header good =
    In header.alg algs
    × (key : AlgKey) × (key_for keys header ≡ Some key) × Implies good (IsGood key)
TrustsIssuer (of_caller caller) header good =
    (IsAlgUntaken caller header.alg → ⊥)
    × (caller.answer ≡ Some SignatureAnswer.Good)
    × IsOfBytes good

-- what is issued for the order is taken: who signs it is trusted, and it has the type that is asked
-- for
pub record TakesIssued (rules : Rules) (o : Order) (issuer : AnySigner) : Type 0 where
  pub trusts : TrustsIssuer rules.issuers (header_of issuer.alg o) issuer.good
  pub typ : (name : Text) → rules.typ ≡ Some name → o.typ ≡ Some name

-- ---- what can be read

-- the name of the issuer's algorithm is UTF-8, and the signature is not empty
pub record IsLegible (alg : Text) (parts : Parts) : Type 0 where
  pub name : IsUtf8 alg
  pub some : 0 < length parts.signed.signature

-- the signature of the key binding token is not empty, and the token is no longer than what an
-- issuer leaves free for it
pub record FitsBehind (token : JwtParts) : Type 0 where
  pub some : 0 < length token.signature
  pub short : issue_max + length (jwt token) ≤ compact_max

-- so is each key binding token that the holder signs as it is asked, where one is asked for
abbrev pub BindingFits : Option BindingAsked → AnySigner → ℕ → Type 0
BindingFits None holder now = Unit {0}
BindingFits (Some ask) holder now =
    (hash : HashAlg) (text : Text) (token : JwtParts)
    → IsBinding holder.alg holder.good hash text ask.aud ask.nonce now token
    → FitsBehind token

-- an audience and a nonce have as many bytes as they may
abbrev pub IsShortAsk : Option BindingAsked → Type 0
IsShortAsk asked =
    IfSome asked
    (λ ask. (length ask.aud ≤ binding_text_max) × (length ask.nonce ≤ binding_text_max))

-- the header that names the algorithm has at most 700 bytes
abbrev pub HasShortHeader : Text → Type 0
HasShortHeader alg = length (json_text (object (header_members (binding_header alg)))) ≤ 700

-- so it has, and a signature has from 1 to 2,048
pub record SignsShort (holder : AnySigner) : Type 0 where
  pub header : HasShortHeader holder.alg
  pub signature : (head body signature : List ℕ) → holder.good head body signature
      → (0 < length signature) × (length signature ≤ 2048)

-- so each key binding token fits; a moment has 64 bits
abbrev pub ShortFits : AnySigner → Type 0
ShortFits holder =
    (asked : Option BindingAsked) (now : ℕ)
    → SignsShort holder → IsShortAsk asked → now < 2 ^ 64 → BindingFits asked holder now

-- ---- what suits

-- the holder is asked for a key binding token for an audience and with the nonce of the rules, who
-- signs it is trusted as the holder whom the payload names, and both moments lie within its age, as
-- far as clocks may differ
pub record RulesSuit (payload : Tree) (asked : Option BindingAsked) (holder : AnySigner)
    (rules : BindingRules) (skew presented verified : ℕ) : Type 0 where
  pub ask : BindingAsked
  pub asked_for : asked ≡ Some ask
  pub aud : In ask.aud rules.aud
  pub nonce : ask.nonce ≡ rules.nonce
  pub trusts : TrustsHolder rules.holders payload holder.alg holder.good
  pub not_stale : verified ≤ presented + rules.max_age + skew
  pub not_early : presented ≤ verified + skew

-- what `Suits` says of keys and a policy, of whoever signs and whatever a verifier demands: with a
-- rule of consent, and the moments of presenting and of verifying, in seconds since 1970
pub record DemandsSuit {F : Type 0} (answers : RuleAnswers F) (rule : F) (o : Order)
    (issuer : AnySigner) (asked : Asked) (holder : AnySigner) (demands : Demands)
    (presented verified : ℕ) : Type 0 where
  -- holder and verifier take what is issued
  pub holder_takes : TakesIssued asked.rules o issuer
  pub verifier_takes : TakesIssued demands.rules o issuer
  -- each wanted path is in the payload, and the rule refuses none of the hidden places that lead to
  -- one
  pub there : (path : Path) → In path asked.want → tree_at o.payload path ≢ None
  pub unrefused : (place : Path) → In place o.hide → leads_to asked.want place ≡ true
      → Allows answers rule place false
      → ⊥
  -- where the holder is asked for a key binding token, the payload names its key, if the ask does
  -- (RFC 7800 section 3.4)
  pub named : NamesKey asked.binding o.payload
  -- where the verifier asks for a key binding token, so is the holder
  pub bound : (rules : BindingRules) → demands.binding ≡ Some rules
      → RulesSuit o.payload asked.binding holder rules demands.skew presented verified
  -- what is shown has the claims that the verifier wants, and its times hold
  pub claims : NoneFails (ClaimFails (claims_for o asked.want) demands verified)
