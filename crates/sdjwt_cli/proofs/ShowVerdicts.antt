-- The command `show` has one verdict over a file.
use Rattle.std.proofs.Common.{◌≡◌, ◌<◌, ℕ, List, ◌∷◌, ◌++◌, length, Option, None, Some, refl, ap, ◌∙◌, sym, subst, arith}
use Rattle.std.specs.List.{AllZip}
use Rattle.sd_outside.specs.Lists.{StandsAt, IsSuchAt, IsLeast}
use Rattle.claim_tree.specs.Tree.{Text, Tree}
use Rattle.sd_outside.proofs.Lists.{At-get, At-left, At-right, At-same, least_one}
use Rattle.jws_part.specs.Part.{IsBody, IsNoObject}
use Rattle.jws_part.specs.Header.{IsHeaderUnreadable}
use Rattle.jws_part.proofs.Parts as bodies
use Rattle.disclosure.specs.Digest.{payload_hash}
use Rattle.refusals.specs.declared.condition.Condition.{Condition}
use Rattle.refusals.specs.Faults.{placed}
use Rattle.refusals.specs.declared.fault.Fault.{Fault}
use Rattle.compact_form.specs.declared.parts.JwtParts.{JwtParts}
use Rattle.json_form.specs.declared.token.Token.{Token}
use Rattle.json_form.specs.Token.{IsToken}
use Rattle.json_form.proofs.Tokens as tokens
use Rattle.digest_sites.specs.Given.{Given}
use Rattle.disclosure.specs.declared.digests.HashAlg.{HashAlg}
use Rattle.verifier_core.specs.Verdict.{Gives, IsNoDisclosure}
use Rattle.sdjwt_cli.specs.Show.{show_lines, IsHead, IsShownPayload, Shows, IsShowRefused, form, header, payload, hash, disclosure}
use Rattle.verifier_core.proofs.CheckSteps.{all_read, one_list}

-- no disclosure of a front that is read is one that is not
pub none_before : (alg : HashAlg) (front rest : List Text) (shown : List Given) (j : ℕ) → AllZip (Gives alg) front shown → j < length front → IsSuchAt IsNoDisclosure (front ++ rest) j → ⊥
none_before alg front rest shown j read less (text, there, unread) =
    let own = At-get front j less in
    let same : text ≡ own.0 = At-same (front ++ rest) j text own.0 there (At-left front rest j own.0 own.1) in
    all_read alg front shown j own.0 read own.1 (subst IsNoDisclosure same unread)

-- behind such a front the first that is not read
pub first_unread : (alg : HashAlg) (front rest : List Text) (shown : List Given) (text : Text) (disclosures : List Text)
    → AllZip (Gives alg) front shown → disclosures ≡ front ++ text ∷ rest → IsNoDisclosure text → IsLeast (IsSuchAt IsNoDisclosure disclosures) (length front)
first_unread alg front rest shown text disclosures read stand unread =
    subst (λ (ds : List Text). IsLeast (IsSuchAt IsNoDisclosure ds) (length front)) (sym stand) (record {
      fails = (text, subst (λ (i : ℕ). StandsAt (front ++ text ∷ rest) i text) (omega arith) (At-right front (text ∷ rest) 0 text refl), unread);
      first = λ j less u. none_before alg front (text ∷ rest) shown j read less u;
    })

-- over the token that one file has
abbrev UnreadAt : Token → ℕ → Type 0
UnreadAt token = IsSuchAt IsNoDisclosure token.parts.disclosures

headless : (file : List ℕ) (p q : Token) (head : Tree) → IsToken file p → IsToken file q → IsHeaderUnreadable p.parts.signed.protected p.outer → IsHead q.parts.signed.protected q.outer head → ⊥
headless file p q head r s u h = h.readable (subst (λ (x : Token). IsHeaderUnreadable x.parts.signed.protected x.outer) (tokens.one file p q r s) u)

bodiless : (file : List ℕ) (p q : Token) (body : Tree) → IsToken file p → IsToken file q → IsNoObject p.parts.signed.payload → IsBody q.parts.signed.payload body → ⊥
bodiless file p q body r s n b = bodies.not_both q.parts.signed.payload body b (subst (λ (x : Token). IsNoObject x.parts.signed.payload) (tokens.one file p q r s) n)

one_payload : (file : List ℕ) (p q : Token) (b c : Tree) → IsToken file p → IsToken file q → IsBody p.parts.signed.payload b → IsBody q.parts.signed.payload c → b ≡ c
one_payload file p q b c r s g h = bodies.one_body q.parts.signed.payload b c (subst (λ (x : Token). IsBody x.parts.signed.payload b) (tokens.one file p q r s) g) h

hashless : (file : List ℕ) (p q : Token) (b c : Tree) (alg : HashAlg) → IsToken file p → IsToken file q → IsBody p.parts.signed.payload b → payload_hash b ≡ None → IsShownPayload q.parts.signed.payload c alg → ⊥
hashless file p q b c alg r s g none h =
    let same : Some alg ≡ None = sym h.hash_is ∙ (ap payload_hash (sym (one_payload file p q b c r s g h.body)) ∙ none) in
    cc same

same_unread : (file : List ℕ) (p q : Token) (i j : ℕ) (f g : Fault) → IsToken file p → IsToken file q → IsLeast (UnreadAt p) i → f ≡ placed Condition.DisclosureUnreadable i
    → IsLeast (UnreadAt q) j → g ≡ placed Condition.DisclosureUnreadable j → f ≡ g
same_unread file p q i j f g r s u e v d =
    let same : i ≡ j = least_one (UnreadAt q) i j (subst (λ (x : Token). IsLeast (UnreadAt x) i) (tokens.one file p q r s) u) v in
    e ∙ (ap (placed Condition.DisclosureUnreadable) same ∙ sym d)

same_lines : (h k p q : Tree) (ss ts : List Given) (b c : Option JwtParts) → h ≡ k → p ≡ q → ss ≡ ts → b ≡ c → show_lines h p ss b ≡ show_lines k q ts c
same_lines h k p q ss ts b c heads payloads all bindings =
    ap (λ (x : Tree). show_lines x p ss b) heads
    ∙ (ap (λ (x : Tree). show_lines k x ss b) payloads
    ∙ (ap (λ (x : List Given). show_lines k q x b) all
    ∙ ap (λ (x : Option JwtParts). show_lines k q ts x) bindings))

pub one_shown : (file a b : List ℕ) → Shows file a → Shows file b → a ≡ b
one_shown file a b g h =
    let same : g.token ≡ h.token = tokens.one file g.token h.token g.reads h.reads in
    let head : IsBody h.token.parts.signed.protected g.header = subst (λ (x : Token). IsBody x.parts.signed.protected g.header) same g.head.body in
    let heads : g.header ≡ h.header = bodies.one_body h.token.parts.signed.protected g.header h.header head h.head.body in
    let payloads : g.payload ≡ h.payload = one_payload file g.token h.token g.payload h.payload g.reads h.reads g.body.body h.body.body in
    let hashes : g.hash ≡ h.hash = (let known : Some g.hash ≡ Some h.hash = sym g.body.hash_is ∙ (ap payload_hash payloads ∙ h.body.hash_is) in cc known) in
    let there : AllZip (Gives g.hash) h.token.parts.disclosures g.shown = subst (λ (x : Token). AllZip (Gives g.hash) x.parts.disclosures g.shown) same g.disclosures in
    let read : AllZip (Gives h.hash) h.token.parts.disclosures g.shown = subst (λ (alg : HashAlg). AllZip (Gives alg) h.token.parts.disclosures g.shown) hashes there in
    let all : g.shown ≡ h.shown = one_list h.hash h.token.parts.disclosures g.shown h.shown read h.disclosures in
    let bindings : g.token.parts.binding ≡ h.token.parts.binding = ap (λ (x : Token). x.parts.binding) same in
    g.lines ∙ (same_lines g.header h.header g.payload h.payload g.shown h.shown g.token.parts.binding h.token.parts.binding heads payloads all bindings ∙ sym h.lines)

pub no_refusal : (file a : List ℕ) (f : Fault) → Shows file a → IsShowRefused file f → ⊥
no_refusal file a f g (form r) = tokens.not_both file g.token f g.reads r
no_refusal file a f g (header p r u e) = headless file p g.token g.header r g.reads u g.head
no_refusal file a f g (payload p h r i n e) = bodiless file p g.token g.payload r g.reads n g.body.body
no_refusal file a f g (hash p h b r i j n e) = hashless file p g.token b g.payload g.hash r g.reads j n g.body
no_refusal file a f g (disclosure p h b alg r i j n u e) =
    let same : g.token ≡ p = tokens.one file g.token p g.reads r in
    let read : AllZip (Gives g.hash) p.parts.disclosures g.shown = subst (λ (x : Token). AllZip (Gives g.hash) x.parts.disclosures g.shown) same g.disclosures in
    all_read g.hash p.parts.disclosures g.shown n u.fails.0 read u.fails.1 u.fails.2

pub same_fault : (file : List ℕ) (f g : Fault) → IsShowRefused file f → IsShowRefused file g → f ≡ g
same_fault file f g (form r) (form s) = tokens.one_refusal file f g r s
same_fault file f g (form r) (header q s v d) = absurd (tokens.not_both file q f s r)
same_fault file f g (form r) (payload q k s l m d) = absurd (tokens.not_both file q f s r)
same_fault file f g (form r) (hash q k c s l m o d) = absurd (tokens.not_both file q f s r)
same_fault file f g (form r) (disclosure q k c other s l m o v d) = absurd (tokens.not_both file q f s r)
same_fault file f g (header p r u e) (form s) = absurd (tokens.not_both file p g r s)
same_fault file f g (header p r u e) (header q s v d) = e ∙ sym d
same_fault file f g (header p r u e) (payload q k s l m d) = absurd (headless file p q k r s u l)
same_fault file f g (header p r u e) (hash q k c s l m o d) = absurd (headless file p q k r s u l)
same_fault file f g (header p r u e) (disclosure q k c other s l m o v d) = absurd (headless file p q k r s u l)
same_fault file f g (payload p h r i n e) (form s) = absurd (tokens.not_both file p g r s)
same_fault file f g (payload p h r i n e) (header q s v d) = absurd (headless file q p h s r v i)
same_fault file f g (payload p h r i n e) (payload q k s l m d) = e ∙ sym d
same_fault file f g (payload p h r i n e) (hash q k c s l m o d) = absurd (bodiless file p q c r s n m)
same_fault file f g (payload p h r i n e) (disclosure q k c other s l m o v d) = absurd (bodiless file p q c r s n m.body)
same_fault file f g (hash p h b r i j n e) (form s) = absurd (tokens.not_both file p g r s)
same_fault file f g (hash p h b r i j n e) (header q s v d) = absurd (headless file q p h s r v i)
same_fault file f g (hash p h b r i j n e) (payload q k s l m d) = absurd (bodiless file q p b s r m j)
same_fault file f g (hash p h b r i j n e) (hash q k c s l m o d) = e ∙ sym d
same_fault file f g (hash p h b r i j n e) (disclosure q k c other s l m o v d) = absurd (hashless file p q b c other r s j n m)
same_fault file f g (disclosure p h b alg r i j n u e) (form s) = absurd (tokens.not_both file p g r s)
same_fault file f g (disclosure p h b alg r i j n u e) (header q s v d) = absurd (headless file q p h s r v i)
same_fault file f g (disclosure p h b alg r i j n u e) (payload q k s l m d) = absurd (bodiless file q p b s r m j.body)
same_fault file f g (disclosure p h b alg r i j n u e) (hash q k c s l m o d) = absurd (hashless file q p c b alg s r m o j)
same_fault file f g (disclosure p h b alg r i j n u e) (disclosure q k c other s l m o v d) = same_unread file p q n o f g r s u e v d
