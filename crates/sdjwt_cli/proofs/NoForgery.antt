-- The law against forgery: what is accepted with the signed part of an issued token, whatever is demanded, is a closed choice of what was issued.
use Rattle.std.proofs.Common.{◌≡◌, ℕ, zero, suc, List, [], ◌∷◌, ◌++◌, Bool, true, false, ◌⊎◌, inl, inr, ⊎_elim, Some, refl, sym, ap, ◌∙◌, subst}
use Rattle.std.specs.Prelude.{bytes_eq}
use Rattle.std.specs.List.{AllZip}
use Rattle.sd_outside.specs.Lists.{StandsAt, In}
use Rattle.claim_tree.specs.Tree.{Text, Tree}
use Rattle.sd_outside.proofs.Lists.{At-In, In-At, At-map, In-left, In-map, one_place, bytes_same, bytes_refl}
use Rattle.compact_form.specs.declared.parts.JwtParts.{JwtParts}
use Rattle.compact_form.specs.declared.parts.Parts.{Parts}
use Rattle.digest_sites.specs.Given.{Given}
use Rattle.disclosure.specs.declared.digests.HashAlg.{HashAlg}
use Rattle.hmac_sign.specs.Signatures.{Meaning}
use Rattle.json_form.specs.Token.{IsToken}
use Rattle.json_form.specs.declared.token.Token.{Token}
use Rattle.json_form.proofs.Tokens as tokens
use Rattle.jws_part.specs.Part.{IsBody}
use Rattle.marked_tree.specs.Marked.{Marked, strip}
use Rattle.rebuild_core.specs.Laws.{IsPick}
use Rattle.rebuild_core.specs.Opening.{processed}
use Rattle.rebuild_core.specs.Reached.{given_digests}
use Rattle.rebuild_core.specs.Soundness.{IsSound}
use Rattle.rebuild_core.proofs.Forgery.{IsHonest}
use Rattle.verifier_core.specs.Asking.{caller_demands}
use Rattle.verifier_core.specs.Verdict.{Gives, HasContent, Opens, Demands, IsAcceptedFor, demands_of, of_token}
use Rattle.verifier_core.proofs.ContentFacts.{content_sound}
use Rattle.issuer_core.specs.Digests.{Maker, marked_claims, issued_digests, decoy_digests}
use Rattle.issuer_core.specs.GoodOrder.{IsGoodOrder}
use Rattle.issuer_core.specs.Issued.{IsIssuedFor}
use Rattle.issuer_core.specs.Order.{Order}
use Rattle.issuer_core.specs.Seed.{maker_of}
use Rattle.issuer_core.proofs.IssuedForgery.{issued_not_forged}
use Rattle.issuer_core.proofs.IssuedRead.{IsReadOnlyAs, read_only_as}
use Rattle.issuer_core.proofs.IssuedSound.{issued_is_sound_holds}
use Rattle.issuer_core.proofs.Judged.{good_order}
use Rattle.sdjwt_cli.specs.JudgedIssued.{ShowsIssuedToCaller}
use Rattle.sdjwt_cli.specs.NoForgery.{ShowsIssued, ShowsIssuedByPolicy, OfIssued, NoneCollides, IsChoiceOf, token_digests}

-- ---- what stands beside each other in two lists

text_of : (hash : HashAlg) (ds : List Text) (g : List Given) → AllZip (Gives hash) ds g → (k : ℕ) (x : Given) → StandsAt g k x → (d : Text) × StandsAt ds k d × Gives hash d x
text_of hash (d ∷ ds) (y ∷ g) all zero x a = (d, refl, subst (Gives hash d) (sym a) all.0)
text_of hash (d ∷ ds) (y ∷ g) all (suc k) x a = text_of hash ds g all.1 k x a
text_of hash [] (y ∷ g) all k x a = absurd all
text_of hash ds [] all k x a = elim a [ ]

-- a text is in a list or it is not
is_in : (d : Text) (ds : List Text) → In d ds ⊎ (In d ds → ⊥)
is_in d [] = inr (λ m. m)
is_in d (e ∷ ds) = go (bytes_eq d e) refl (is_in d ds)
  where
    go : (b : Bool) → bytes_eq d e ≡ b → In d ds ⊎ (In d ds → ⊥) → In d (e ∷ ds) ⊎ (In d (e ∷ ds) → ⊥)
    go true q rest = inl (inl (bytes_same d e q))
    go false q (inl there) = inl (inr there)
    go false q (inr out) = inr (λ m. ⊎_elim (λ same. let clash : false ≡ true = sym q ∙ bytes_refl d e same in cc clash) (λ there. out there) m)

module _ (maker : Maker) (o : Order) (parts : Parts) (p : Tree) (g : List Given) (good : IsGoodOrder o) (issued : IsIssuedFor maker o p g) (only : IsReadOnlyAs o.hash parts p g)
    (text : List ℕ) (token : Token) (is_token : IsToken text token) (same_signed : token.parts.signed ≡ parts.signed)
    (demands : Demands) (now : ℕ) (marked : Marked) (accepted : IsAcceptedFor text demands now marked) (none : NoneCollides maker o parts.disclosures token.parts.disclosures) where
  abbrev Sent : List Given → Type 0
  Sent h = AllZip (Gives o.hash) token.parts.disclosures h

  -- ---- what is sent is opened over the issued payload

  opens : Opens token marked
  opens = subst (λ (t : Token). Opens t marked) (tokens.one text accepted.token token accepted.is_token is_token) accepted.opens

  abbrev h : List Given
  h = opens.1

  sent_content : HasContent token opens.0 h
  sent_content = opens.2

  same_payload : opens.0 ≡ p
  same_payload = sent_content.payload_is ∙ only.payload sent_content.body (subst (λ (j : JwtParts). IsBody j.payload sent_content.body) same_signed sent_content.is_body)

  same_hash : sent_content.hash ≡ o.hash
  same_hash =
      let issued_body = subst (λ (j : JwtParts). IsBody j.payload sent_content.body) same_signed sent_content.is_body in
      let hashes : Some sent_content.hash ≡ Some o.hash = sym sent_content.hash_is ∙ only.hash sent_content.body issued_body in
      cc hashes

  sent : Sent h
  sent = subst (λ (a : HashAlg). AllZip (Gives a) token.parts.disclosures h) same_hash sent_content.disclosures

  sound : IsSound p h
  sound = subst (λ (t : Tree). IsSound t h) same_payload (content_sound token demands.rules opens.0 h sent_content (λ c place fails. accepted.passes c place (of_token token is_token fails)))

  -- ---- each disclosure is an issued one

  digests_same : issued_digests maker o g ≡ token_digests maker o parts.disclosures
  digests_same = ap (λ (ds : List Text). ds ++ decoy_digests maker o) only.digests

  known : (x : Given) → In x h → In x g ⊎ (In x.digest (issued_digests maker o g) → ⊥)
  known x m =
      let a = In-At h x m in
      let d = text_of o.hash token.parts.disclosures h sent a.0 x a.1 in
      ⊎_elim
      (λ there. let b = In-At parts.disclosures d.0 there in inl (At-In g b.0 x (only.disclosures b.0 d.0 x b.1 d.2)))
      (λ out. inr (λ stands. none d.0 (At-In token.parts.disclosures a.0 d.0 d.1) out (subst (λ e. In e (token_digests maker o parts.disclosures)) d.2.0 (subst (λ ds. In x.digest ds) digests_same stands))))
      (is_in d.0 parts.disclosures)

  honest : IsHonest (marked_claims o) p g h
  honest = issued_not_forged maker o p g good issued h sound known

  -- the text of an issued disclosure stands at its number
  text_at : (i k : ℕ) (x : Given) (d : Text) → StandsAt g i x → StandsAt token.parts.disclosures k d → Gives o.hash d x → StandsAt parts.disclosures i d
  text_at i k x d a b gives =
      ⊎_elim
      (λ there.
      let c = In-At parts.disclosures d there in
      let place : c.0 ≡ i = one_place (given_digests g) (issued_is_sound_holds maker o p g good issued).referenced.no_repeated_disclosure c.0 i x.digest
      (At-map (λ (z : Given). z.digest) g c.0 x (only.disclosures c.0 d x c.1 gives)) (At-map (λ (z : Given). z.digest) g i x a) in
      subst (λ n. StandsAt parts.disclosures n d) place c.1)
      (λ out.
      let stands : In x.digest (issued_digests maker o g) = In-left x.digest (given_digests g) (decoy_digests maker o) (In-map (λ (z : Given). z.digest) x g (At-In g i x a)) in
      absurd (none d (At-In token.parts.disclosures k d b) out (subst (λ e. In e (token_digests maker o parts.disclosures)) gives.0 (subst (λ ds. In x.digest ds) digests_same stands))))
      (is_in d parts.disclosures)

  texts_at : (order : List ℕ) (hs : List Given) (ds : List Text) → IsPick g order hs → AllZip (Gives o.hash) ds hs → ((k : ℕ) (d : Text) → StandsAt ds k d → In d token.parts.disclosures) → AllZip (StandsAt parts.disclosures) order ds
  texts_at [] [] [] pick all inside = tt
  texts_at [] [] (d ∷ ds) pick all inside = absurd all
  texts_at [] (x ∷ hs) ds pick all inside = absurd pick
  texts_at (i ∷ order) [] ds pick all inside = absurd pick
  texts_at (i ∷ order) (x ∷ hs) [] pick all inside = absurd all
  texts_at (i ∷ order) (x ∷ hs) (d ∷ ds) pick all inside =
      let there = In-At token.parts.disclosures d (inside 0 d refl) in
      (text_at i there.0 x d pick.0 there.1 all.0, texts_at order hs ds pick.1 all.1 (λ k e a. inside (suc k) e a))

  choice_of : IsChoiceOf (marked_claims o) parts.disclosures token.parts.disclosures (strip marked)
  choice_of = record {
    numbers = honest.order;
    none_twice = honest.once;
    disclosures = texts_at honest.order h token.parts.disclosures honest.pick sent (λ k d a. At-In token.parts.disclosures k d a);
    all_above = honest.closed;
    shows = ap strip (opens.3 ∙ ap (λ t. processed t h) same_payload) ∙ honest.shows;
  }

pub no_forgery_holds : (alg : Text) (good : Meaning) → OfIssued alg good ShowsIssued
no_forgery_holds alg good seed o parts none ordered bytes is text token is_token same_signed demands now marked accepted collides =
    let fine = good_order o (λ error h. absurd (none error h)) ordered in
    choice_of (maker_of seed) o parts is.payload is.given fine is.issued (read_only_as seed o alg good is.payload is.given parts fine bytes is.issued is.written)
    text token is_token same_signed demands now marked accepted collides

-- so it is under a policy, and where a caller checks the signatures

pub by_policy : (alg : Text) (good : Meaning) → OfIssued alg good ShowsIssuedByPolicy
by_policy alg good seed o parts none ordered bytes is text token is_token same_signed policy =
    no_forgery_holds alg good seed o parts none ordered bytes is text token is_token same_signed (demands_of policy)

pub to_caller : (alg : Text) (good : Meaning) → OfIssued alg good ShowsIssuedToCaller
to_caller alg good seed o parts none ordered bytes is text token is_token same_signed policy algs now answers payload accepted collides =
    let demands = caller_demands policy algs answers in
    let choice = no_forgery_holds alg good seed o parts none ordered bytes is text token is_token same_signed demands now accepted.0 accepted.1 collides in
    subst (λ (t : Tree). IsChoiceOf (marked_claims o) parts.disclosures token.parts.disclosures t) (sym accepted.2) choice
