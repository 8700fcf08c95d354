-- An order, what a holder is asked, and a policy that suits: the premise of the law of presenting at worked values.
use Rattle.std.proofs.Common.{◌≡◌, ◌≢◌, inl, inr, ℕ, zero, suc, true, false, List, [], ◌∷◌, Option, None, Some, codes, refl, sym, ap, subst, ◌∙◌, arith}
use Rattle.claim_tree.specs.Tree.{Text, Tree, leaf, text, object, Members, no_members, member, get}
use Rattle.sd_outside.specs.Lists.{StandsAt, In}
use Rattle.claim_tree.specs.Path.{is_front, tree_at}
use Rattle.refusals.specs.Lowest.{NoneFails}
use Rattle.refusals.specs.declared.condition.Condition.{Condition}
use Rattle.refusals.proofs.Lowest.{holds_too, none_fails}
use Rattle.disclosure.specs.declared.digests.HashAlg.{HashAlg}
use Rattle.hmac_sign.specs.Hmac.{AlgKey, alg_key, key_block}
use Rattle.hmac_sign.specs.declared.alg.Alg.{Alg}
use Rattle.hmac_sign.specs.declared.key_set.NamedKey.{NamedKey}
use Rattle.jws_part.specs.Times.{IsTimeUnreadable}
use Rattle.key_binding.specs.declared.policy.BindingPolicy.{BindingPolicy}
use Rattle.marked_tree.specs.LeftOut.{leads_to}
use Rattle.marked_tree.specs.Paths.{Path}
use Rattle.verifier_core.specs.Verdict.{ClaimFails, demands_of}
use Rattle.verifier_core.specs.declared.policy.Policy.{Policy}
use Rattle.verifier_core.proofs.ClaimSteps.{claim_numbers, before_missing, before_times, before_expiry, before_start}
use Rattle.issuer_core.specs.Order.{Order}
use Rattle.holder_core.specs.declared.ask.BindingAsk.{BindingAsk}
use Rattle.holder_core.specs.declared.present_file.PresentFile.{PresentFile}
use Rattle.selection_core.specs.Never.{MayBeShown, never_rule}
use Rattle.sdjwt_cli.specs.Suits.{Suits, BindingSuits, claims_for}
use Rattle.selection_core.proofs.NeverShown.{unrefused}

abbrev pub named : Text → Tree
named s = leaf (text s)

-- {"cnf":{"kid":"h"},"family_name":"Bee","given_name":"Ann","iss":"i"}, of which both names are hidden
abbrev pub claims_members : Members
claims_members =
    member (codes "cnf") (object (member (codes "kid") (named (codes "h")) no_members))
    (member (codes "family_name") (named (codes "Bee")) (member (codes "given_name") (named (codes "Ann")) (member (codes "iss") (named (codes "i")) no_members)))

abbrev pub order : Order
order = record {
  payload = object claims_members;
  hide = (codes "family_name" ∷ []) ∷ (codes "given_name" ∷ []) ∷ [];
  decoys = [];
  kid = None;
  typ = Some (codes "dc+sd-jwt");
  hash = HashAlg.Sha256;
}

-- two keys of 32 bytes
abbrev pub issuer_bytes : List ℕ
issuer_bytes = codes "the key of an issuer, 32 bytes.."

abbrev pub holder_bytes : List ℕ
holder_bytes = codes "the key of a holder, of 32 bytes"

abbrev pub issuer_key : AlgKey
issuer_key = alg_key Alg.Hs256 issuer_bytes

abbrev pub holder_key : List ℕ
holder_key = key_block Alg.Hs256 holder_bytes

-- 32 bytes are enough for HS256 alone
abbrev pub in_a_set : Option Text → List ℕ → NamedKey
in_a_set kid block = record { kid = kid; hs256 = block; hs384 = None; hs512 = None }

-- the given name is wanted, with a key binding token, and the family name is never shown
abbrev pub said : PresentFile
said = record {
  ask = record {
    keys = in_a_set None issuer_key.block ∷ [];
    want = (codes "given_name" ∷ []) ∷ [];
    binding = Some (record { kid = codes "h"; aud = codes "v"; nonce = codes "7" });
  };
  never = (codes "family_name" ∷ []) ∷ [];
  key = Some holder_key;
}

abbrev pub asked_binding : BindingPolicy
asked_binding = record { aud = codes "v" ∷ []; nonce = codes "7"; keys = in_a_set (Some (codes "h")) holder_key ∷ []; max_age = 300 }

-- the verifier wants a given name by this issuer, and a key binding token where it says so
abbrev pub policy_with : Option BindingPolicy → Policy
policy_with binding = record {
  keys = in_a_set None issuer_key.block ∷ [];
  algs = codes "HS256" ∷ [];
  typ = Some (codes "dc+sd-jwt");
  iss = Some (codes "i" ∷ []);
  require = codes "given_name" ∷ [];
  skew = 5;
  binding = binding;
}

-- of at most 300 seconds
abbrev pub policy : Policy
policy = policy_with (Some asked_binding)

-- the family name is left out
shown_are : claims_for order said.ask.want
    ≡ object (member (codes "cnf") (object (member (codes "kid") (named (codes "h")) no_members)) (member (codes "given_name") (named (codes "Ann")) (member (codes "iss") (named (codes "i")) no_members)))
shown_are = refl

there : (path : Path) → In path said.ask.want → tree_at order.payload path ≢ None
there path (inl same) none = let found = ap (λ (p : Path). tree_at order.payload p) same in cc (sym found ∙ none)
there path (inr other) none = absurd other

pub claims_hold : (binding : Option BindingPolicy) → NoneFails (ClaimFails (claims_for order said.ask.want) (demands_of (policy_with binding)) 1300)
claims_hold binding =
    let shown = claims_for order said.ask.want in
    let asks = demands_of (policy_with binding) in
    let issuer = before_missing shown asks 1300 (λ h. let same : codes "i" ∷ [] ≡ h.0 = cc h.1 in h.2 (codes "i", subst (λ list. In (codes "i") list) same (inl refl), refl)) in
    let required = before_times shown asks 1300 issuer wanted in
    let readable = before_expiry shown asks 1300 required unreadable in
    let fresh = before_start shown asks 1300 readable (λ late. cc late.1) in
    none_fails (ClaimFails shown asks 1300) 27 (holds_too (ClaimFails shown asks 1300) Condition.NotYet fresh (λ mark_path h. cc h.1.1))
    (λ c mark_path h. let n = claim_numbers shown asks 1300 c mark_path h in n.1)
  where
    wanted : (i : ℕ) (name : Text) → StandsAt (policy_with binding).require i name → get (claims_for order said.ask.want) name ≢ None
    wanted zero name is none = let found = ap (get (claims_for order said.ask.want)) is in cc (sym found ∙ none)
    wanted (suc i) name is none = absurd is

    unreadable : IsTimeUnreadable (claims_for order said.ask.want) → ⊥
    unreadable (inl h) = cc h.1
    unreadable (inr h) = cc h.1

given_name : (place : Path) → place ≡ codes "given_name" ∷ [] → MayBeShown said.never place
given_name place given front (inl is) never =
    let other : false ≡ true = subst (λ (p : Path). is_front p (codes "given_name" ∷ []) ≡ true) is (subst (λ (p : Path). is_front front p ≡ true) given never) in
    cc other
given_name place given front (inr none) never = absurd none

-- of the hidden places the given name leads to a wanted one, and may be shown
pub may_be_shown : (place : Path) → In place order.hide → leads_to said.ask.want place ≡ true → MayBeShown said.never place
may_be_shown place (inl family) leads = let other : false ≡ true = subst (λ (p : Path). leads_to said.ask.want p ≡ true) family leads in cc other
may_be_shown place (inr (inl given)) leads = given_name place given
may_be_shown place (inr (inr none)) leads = absurd none

-- what is bound is bound as the policy asks for it
at_work : BindingSuits said.ask.binding holder_key asked_binding policy.skew 1000 1300
at_work = record {
  ask = record { kid = codes "h"; aud = codes "v"; nonce = codes "7" };
  asked_for = refl;
  aud = inl refl;
  nonce = refl;
  known = refl;
  not_stale = omega arith;
  not_early = omega arith;
}

pub suits : Suits never_rule said.never order issuer_key said.ask holder_key policy 1000 1300
suits = record {
  holder_finds = refl;
  verifier_finds = refl;
  alg = inl refl;
  typ = λ name asked. asked;
  there = there;
  unrefused = λ place hidden leads. unrefused said.never place (may_be_shown place hidden leads);
  named = λ ask asked. let same : record { kid = codes "h"; aud = codes "v"; nonce = codes "7" } ≡ ask = cc asked in ap (λ (a : BindingAsk). Some a.kid) same;
  bound = bound;
  claims = claims_hold (Some asked_binding);
}
  where
    bound : (binding : BindingPolicy) → policy.binding ≡ Some binding → BindingSuits said.ask.binding holder_key binding policy.skew 1000 1300
    bound binding asked = let same : asked_binding ≡ binding = cc asked in subst (λ (b : BindingPolicy). BindingSuits said.ask.binding holder_key b policy.skew 1000 1300) same at_work
