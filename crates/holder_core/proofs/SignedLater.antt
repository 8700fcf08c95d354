-- From what is presented but for its signature to what is presented with one, and what more good signatures do.
use Rattle.std.proofs.Common.{◌≡◌, ◌⊎◌, inl, inr, ℕ, ◌<◌, List, Option, Some, None, IfSome, Result, Ok, Err, IfOk, IfErr, refl, sym, ap, ap₂, subst, ◌∙◌}
use Rattle.std.specs.Prelude.{◌++◌, length, codes}
use Rattle.std.specs.Option.{option_map}
use Rattle.std.specs.List.{AllByRecursion}
use Rattle.b64url_text.specs.Base64url.{IsWord}
use Rattle.b64url_text.proofs.Codes.{IsWord-b64}
use Rattle.claim_tree.specs.Tree.{Text, Tree}
use Rattle.claim_tree.specs.View.{tree_of}
use Rattle.claim_tree.specs.declared.tree.Tree as declared
use Rattle.compact_form.specs.Compact.{jwt, spelled, hashed, HasWords, AreWords}
use Rattle.compact_form.specs.declared.parts.JwtParts.{JwtParts}
use Rattle.compact_form.specs.declared.parts.Parts.{Parts}
use Rattle.disclosure.specs.declared.digests.HashAlg.{HashAlg}
use Rattle.hmac_sign.specs.Signatures.{Meaning}
use Rattle.json_form.specs.Token.{IsToken}
use Rattle.json_form.specs.declared.token.Token.{Token}
use Rattle.json_form.proofs.Tokens as tokens
use Rattle.key_binding.specs.Binding.{AreReadBack}
use Rattle.marked_tree.specs.Marked.{Marked}
use Rattle.selection_core.specs.Consent.{RuleAnswers}
use Rattle.refusals.specs.Lowest.{IsLowest}
use Rattle.verifier_core.specs.Verdict.{TokenFails, HasHash}
use Rattle.holder_core.specs.declared.ask.CallerAsk.{CallerAsk}
use Rattle.holder_core.specs.PresentCalls.{OnTokenFault}
use Rattle.holder_core.specs.Asked.{Asked, BindingAsked}
use Rattle.holder_core.specs.declared.errors.PresentError.{PresentError}
use Rattle.holder_core.specs.declared.errors.PresentError.TheVariants.{Memory, Token as OnCondition, HasBinding, SignFailed, TooLong}
use Rattle.holder_core.specs.declared.presenting.Unbound.{Unbound}
use Rattle.holder_core.specs.declared.signing.Unsigned.{Unsigned}
use Rattle.holder_core.specs.declared.signing.Unsigned.TheVariants.{Alone, ToSign}
use Rattle.holder_core.specs.declared.signing.UnsignedPresentation.{UnsignedPresentation}
use Rattle.holder_core.specs.Present.{shown_for, NamesKey, IsBoundBy, IsBoundWith, IsBoundAs, IsAnswer, IsNoAnswer, IsPresented, IsNotPresented, no_memory, not_read, refused}
use Rattle.holder_core.specs.PresentSteps.{IsUnread, IsShown, IsReady, IsUnsignedOf, IsLongAlone, IsUnsigned, IsAnswered, IsUnsent}
use Rattle.holder_core.specs.ToSign.{none_good, AreUnsignedWords, IsIssuerAsked, AsksOrNoMemory, IsToSign, IsSentWith, IsSentBy, IsUnsentWith}

payload_shown : (shown : Tree) (payload : Option declared.Tree) (own : declared.Tree) → option_map tree_of payload ≡ Some shown → payload ≡ Some own → tree_of own ≡ shown
payload_shown shown payload own is same = let both : Some (tree_of own) ≡ Some shown = ap (option_map tree_of) (sym same) ∙ is in cc both

hashed_same : (a b : Parts) → a.signed ≡ b.signed → a.disclosures ≡ b.disclosures → hashed a ≡ hashed b
hashed_same a b signed disclosures = ap₂ (λ (j : JwtParts) (ds : List Text). jwt j ++ (codes "~" ++ spelled ds)) signed disclosures

-- ---- more signatures are good

module _ (alg : Text) (less more : Meaning) (all : (head body signature : List ℕ) → less head body signature → more head body signature) where
  bound_more : (ask : Option BindingAsked) (hash : HashAlg) (text : Text) (now : ℕ) (binding : Option JwtParts) → IsBoundWith ask alg less hash text now binding → IsBoundWith ask alg more hash text now binding
  bound_more None hash text now binding h = h
  bound_more (Some ask) hash text now None h = absurd h
  bound_more (Some ask) hash text now (Some token) h =
      let b = h.is_binding in
      record {
        is_binding = record { protected = b.protected; payload = b.payload; signature = b.signature; signature_text = b.signature_text; signed = all token.protected token.payload b.signature b.signed };
        read_back = h.read_back;
      }

  module _ {F : Type 0} (answers : RuleAnswers F) (rule : F) (asked : Asked) (now : ℕ) where
    pub answer_more : (token : Token) (answer : Parts) → IsAnswer answers rule token asked alg less now answer → IsAnswer answers rule token asked alg more now answer
    answer_more token answer h = record {
      marked = h.marked;
      agreed = h.agreed;
      key = h.key;
      presents = h.presents;
      hash = h.hash;
      has_hash = h.has_hash;
      bound = bound_more asked.binding h.hash (hashed answer) now answer.binding h.bound;
    }

    pub refusal_more : (token : Token) (e : PresentError) → IsNoAnswer answers rule token asked alg less now e → IsNoAnswer answers rule token asked alg more now e
    refusal_more token TooLong h = record { answer = h.answer; is_answer = answer_more token h.answer h.is_answer; long = h.long }
    refusal_more token _ h = h

    pub presented_more : (content : Text) (answer : Parts) → IsPresented answers rule content asked alg less now answer → IsPresented answers rule content asked alg more now answer
    presented_more content answer h = record { token = h.token; is_token = h.is_token; is_answer = answer_more h.token answer h.is_answer }

    pub not_presented_more : (content : Text) (e : PresentError) → IsNotPresented answers rule content asked alg less now e → IsNotPresented answers rule content asked alg more now e
    not_presented_more content e (no_memory is) = no_memory is
    not_presented_more content e (not_read fault is r) = not_read fault is r
    not_presented_more content e (refused token is r) = refused token is (refusal_more token e r)

-- ---- the steps

module _ {F : Type 0} (answers : RuleAnswers F) (rule : F) (token : Token) (asked : Asked) (alg : Text) (now : ℕ) where
  module _ (marked : Marked) (unbound : Unbound) (is : IsReady answers rule token asked marked unbound) (hash : HashAlg) (has_hash : HasHash token hash) where
    pub unsigned_ready : (made : Unsigned) → IsUnsignedOf asked.binding alg hash now unbound made → IsUnsigned answers rule token asked alg now made
    unsigned_ready (Alone parts) h = record {
      marked = marked;
      agreed = is.agreed;
      key = is.key;
      presents = record {
        signed = ap (λ (p : Parts). p.signed) h.1 ∙ is.presents.signed;
        disclosures = ap (λ (p : Parts). p.disclosures) h.1 ∙ is.presents.disclosures;
        binding_is = refl;
      };
      hash = hash;
      has_hash = has_hash;
      bound = subst (λ (b : Option BindingAsked). IsBoundAs b alg none_good hash now parts) (sym h.0) (ap (λ (p : Parts). p.binding) h.1 ∙ is.presents.binding_is);
    }
    unsigned_ready (ToSign unsigned) h = record {
      marked = marked;
      agreed = is.agreed;
      key = is.key;
      presents = record {
        signed = ap (λ (p : Parts). p.signed) h.parts ∙ is.presents.signed;
        disclosures = ap (λ (p : Parts). p.disclosures) h.parts ∙ is.presents.disclosures;
        binding_is = ap (λ (p : Parts). p.binding) h.parts ∙ is.presents.binding_is;
      };
      hash = hash;
      has_hash = has_hash;
      binding = h.ask;
      asked_for = h.asked_for;
      to_sign = h.to_sign;
      payload = payload_shown (shown_for marked asked.want) unbound.payload unsigned.payload
          (subst (λ (b : Option BindingAsked). IsShown b (shown_for marked asked.want) unbound.payload) h.asked_for is.shown) h.payload;
    }

    pub long_refused : (e : PresentError) → IsLongAlone asked.binding unbound.parts e → IsNoAnswer answers rule token asked alg none_good now e
    long_refused Memory h = tt
    long_refused TooLong h = record { answer = unbound.parts; is_answer = unsigned_ready (Alone unbound.parts) (h.0, refl); long = h.1 }
    long_refused _ h = absurd h

  module _ (good : Meaning) (unsigned : UnsignedPresentation) (is : IsToSign answers rule token asked alg now unsigned) where
    module _ (signature : List ℕ) (signed : good unsigned.binding.protected unsigned.binding.payload signature) (answer : Parts) (sent : IsSentWith unsigned signature answer) where
      token_bound : IsBoundBy is.binding alg good is.hash (hashed unsigned.parts) now sent.token
      token_bound =
          let w = sent.with_it in
          let texts = is.to_sign.texts in
          let own = subst (λ (h : Text). good h unsigned.binding.payload signature) (sym w.protected) signed in
          let back = is.to_sign.read_back in
          let head_back = subst (λ (h : Text). AreReadBack alg is.hash (hashed unsigned.parts) is.binding.aud is.binding.nonce now h unsigned.binding.payload) (sym w.protected) back in
          record {
            is_binding = record {
              protected = w.protected ∙ texts.protected;
              payload = w.payload ∙ texts.payload;
              signature = signature;
              signature_text = w.signature_text;
              signed = subst (λ (b : Text). good sent.token.protected b signature) (sym w.payload) own;
            };
            read_back = subst (λ (b : Text). AreReadBack alg is.hash (hashed unsigned.parts) is.binding.aud is.binding.nonce now sent.token.protected b) (sym w.payload) head_back;
          }

      answer_bound : IsBoundAs asked.binding alg good is.hash now answer
      answer_bound =
          let over = subst (λ (t : Text). IsBoundBy is.binding alg good is.hash t now sent.token) (sym (hashed_same answer unsigned.parts sent.signed sent.disclosures)) token_bound in
          let with_token = subst (λ (o : Option JwtParts). IsBoundWith (Some is.binding) alg good is.hash (hashed answer) now o) (sym sent.binding) over in
          subst (λ (b : Option BindingAsked). IsBoundAs b alg good is.hash now answer) (sym is.asked_for) with_token

      -- with a good signature it is the answer
      pub signed_answer : IsAnswer answers rule token asked alg good now answer
      signed_answer = record {
        marked = is.marked;
        agreed = is.agreed;
        key = is.key;
        presents = record { signed = sent.signed ∙ is.presents.signed; disclosures = sent.disclosures ∙ is.presents.disclosures; binding_is = refl };
        hash = is.hash;
        has_hash = is.has_hash;
        bound = answer_bound;
      }

    pub sent_answer : (answer : Parts) → IsSentBy unsigned good answer → IsAnswer answers rule token asked alg good now answer
    sent_answer answer sent = signed_answer sent.signature sent.signed answer sent.with_it

    pub unsent_refused : (e : PresentError) → IsUnsent unsigned good e → IsNoAnswer answers rule token asked alg good now e
    unsent_refused Memory h = tt
    unsent_refused SignFailed h = record {
      marked = is.marked;
      agreed = is.agreed;
      binding = is.binding;
      asked_for = is.asked_for;
      key = subst (λ (b : Option BindingAsked). NamesKey b (shown_for is.marked asked.want)) is.asked_for is.key;
    }
    unsent_refused TooLong h = record { answer = h.0; is_answer = sent_answer h.0 h.1; long = h.2 }
    unsent_refused _ h = absurd h

    -- the same of a signature that a caller made
    pub unsent_with_refused : (signature : List ℕ) → good unsigned.binding.protected unsigned.binding.payload signature → (e : PresentError) → IsUnsentWith unsigned signature e
        → IsNoAnswer answers rule token asked alg good now e
    unsent_with_refused signature signed Memory h = tt
    unsent_with_refused signature signed SignFailed h = unsent_refused SignFailed tt
    unsent_with_refused signature signed TooLong h = record { answer = h.0; is_answer = signed_answer signature signed h.0 h.1; long = h.2 }
    unsent_with_refused signature signed _ h = absurd h

-- ---- under other names

module _ {F : Type 0} (answers : RuleAnswers F) (rule : F) (token : Token) (own asked : Asked) (same : own ≡ asked) (name alg : Text) (named : name ≡ alg) (now : ℕ) where
  pub to_sign_as : (unsigned : UnsignedPresentation) → IsToSign answers rule token own name now unsigned → IsToSign answers rule token asked alg now unsigned
  to_sign_as unsigned is = subst (λ (t : Text). IsToSign answers rule token asked t now unsigned) named (subst (λ (a : Asked). IsToSign answers rule token a name now unsigned) same is)

  pub alone_as : (parts : Parts) → IsAnswer answers rule token own name none_good now parts → IsAnswer answers rule token asked alg none_good now parts
  alone_as parts is = subst (λ (t : Text). IsAnswer answers rule token asked t none_good now parts) named (subst (λ (a : Asked). IsAnswer answers rule token a name none_good now parts) same is)

  pub refused_as : (e : PresentError) → IsNoAnswer answers rule token own name none_good now e → IsNoAnswer answers rule token asked alg none_good now e
  refused_as e is = subst (λ (t : Text). IsNoAnswer answers rule token asked t none_good now e) named (subst (λ (a : Asked). IsNoAnswer answers rule token a name none_good now e) same is)

  module _ (good : Meaning) where
    pub alone_answer : (parts : Parts) → IsAnswer answers rule token own name none_good now parts → IsAnswer answers rule token asked alg good now parts
    alone_answer parts is = answer_more alg none_good good (λ head body signature none. absurd none) answers rule asked now token parts (alone_as parts is)

    pub refused_answer : (e : PresentError) → IsNoAnswer answers rule token own name none_good now e → IsNoAnswer answers rule token asked alg good now e
    refused_answer e is = refusal_more alg none_good good (λ head body signature none. absurd none) answers rule asked now token e (refused_as e is)

    pub sent_answered : (unsigned : UnsignedPresentation) → IsToSign answers rule token own name now unsigned → (r : Result Parts PresentError) → IfOk r (IsSentBy unsigned good) → IfErr r (IsUnsent unsigned good)
        → IsAnswered answers rule token asked alg good now r
    sent_answered unsigned is (Ok answer) sent unsent = sent_answer answers rule token asked alg now good unsigned (to_sign_as unsigned is) answer sent
    sent_answered unsigned is (Err e) sent unsent = unsent_refused answers rule token asked alg now good unsigned (to_sign_as unsigned is) e unsent

-- ---- what is sent is well formed

pub sent_words : (unsigned : UnsignedPresentation) (signature : List ℕ) (answer : Parts) → AreUnsignedWords unsigned → 0 < length signature → IsSentWith unsigned signature answer → AreWords answer
sent_words unsigned signature answer words some sent =
    let w = sent.with_it in
    record {
      signed = subst HasWords (sym sent.signed) words.parts.signed;
      disclosures = subst (AllByRecursion IsWord) (sym sent.disclosures) words.parts.disclosures;
      binding = subst (λ (o : Option JwtParts). IfSome o HasWords) (sym sent.binding) (record {
        protected = subst IsWord (sym w.protected) words.protected;
        payload = subst IsWord (sym w.payload) words.payload;
        signature = subst IsWord (sym w.signature_text) (IsWord-b64 signature some);
      });
    }

-- ---- where the issuer's signature is asked for

-- the fault of a refusal is the lowest
pub refused_fault : {F : Type 0} (answers : RuleAnswers F) (rule : F) (token : Token) (asked : Asked) (alg : Text) (good : Meaning) (now : ℕ) (e : PresentError) → IsNoAnswer answers rule token asked alg good now e
    → OnTokenFault e (IsLowest (TokenFails token asked.rules))
refused_fault answers rule token asked alg good now (OnCondition fault) h = h.1
refused_fault answers rule token asked alg good now _ h = tt

-- it is answered, or want of memory
pub same_refused : {F : Type 0} (answers : RuleAnswers F) (rule : F) (token : Token) (asked : Asked) (alg : Text) (good : Meaning) (now : ℕ) (error : PresentError) → IsNoAnswer answers rule token asked alg good now error
    → (e : PresentError) → (e ≡ error) ⊎ (e ≡ Memory) → IsNoAnswer answers rule token asked alg good now e
same_refused answers rule token asked alg good now error h e (inl same) = subst (IsNoAnswer answers rule token asked alg good now) (sym same) h
same_refused answers rule token asked alg good now error h e (inr memory) = subst (IsNoAnswer answers rule token asked alg good now) (sym memory) tt

-- a text that is not read as a token without key binding token asks for nothing
pub unread_unasked : (text : Text) (ask : CallerAsk) (e : PresentError) → IsUnread text e → (token : Token) → IsToken text token → IsIssuerAsked ask token → AsksOrNoMemory (Err e)
unread_unasked text ask Memory h token is asked = tt
unread_unasked text ask (OnCondition fault) h token is asked = tokens.not_both text token fault is h
unread_unasked text ask HasBinding h token is asked = h.2 (subst (λ (t : Token). t.parts.binding ≡ None) (tokens.one text token h.0 is h.1) asked.unbound)
unread_unasked text ask _ h token is asked = h
