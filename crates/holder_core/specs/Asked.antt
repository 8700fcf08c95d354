-- What is asked of a holder, whoever may have signed the token, and whoever
-- signs the key binding token.
use Rattle.std.specs.Prelude.{◌≡◌, List, [], map, Option, None, Some, option_map}
use Rattle.claim_tree.specs.Tree.{Text}
use Rattle.hmac_sign.specs.Algs.{algs, alg_text}
use Rattle.hmac_sign.specs.declared.key_set.NamedKey.{NamedKey}
use Rattle.key_binding.specs.declared.caller.SignatureAnswer.{SignatureAnswer}
use Rattle.marked_tree.specs.Paths.{Path}
use Rattle.verifier_core.specs.Asking.{saying}
use Rattle.verifier_core.specs.Verdict.{Rules, of_caller, asked}
use Rattle.holder_core.specs.declared.ask.Ask.{Ask}
use Rattle.holder_core.specs.declared.ask.BindingAsk.{BindingAsk}
use Rattle.holder_core.specs.declared.ask.CallerAsk.{CallerAsk}
use Rattle.holder_core.specs.declared.ask.CallerBinding.{CallerBinding}

-- what a key binding token is to say, and the name of the holder's key, where
-- the claim `cnf` has to tell one
pub record BindingAsked : Type 0 where
  pub kid : Option Text
  pub aud : Text
  pub nonce : Text

-- who may have signed the token, which places are wanted, and what a key
-- binding token is to say, where one is asked for
pub record Asked : Type 0 where
  pub rules : Rules
  pub want : List Path
  pub binding : Option BindingAsked

-- the key binding tokens that are asked for say the same, whatever names the holder's key
abbrev pub SayTheSame : Option BindingAsked → Option BindingAsked → Type 0
SayTheSame None None = Unit {0}
SayTheSame (Some ask) (Some other) = (ask.aud ≡ other.aud) × (ask.nonce ≡ other.nonce)
SayTheSame _ _ = ⊥

-- they want the same places, and the same key binding token, of whomever the token may be
pub record AskTheSame (asked other : Asked) : Type 0 where
  pub want : asked.want ≡ other.want
  pub binding : SayTheSame asked.binding other.binding

-- ---- where the keys are held

-- it may be signed by these keys, with any algorithm that is known, and its type is not judged
abbrev pub held_rules : List NamedKey → Rules
held_rules keys = asked keys (map alg_text algs) None

abbrev pub binding_asked : BindingAsk → BindingAsked
binding_asked ask = record { kid = Some ask.kid; aud = ask.aud; nonce = ask.nonce }

abbrev pub asked_by : Ask → Asked
asked_by ask =
    record {
      rules = held_rules ask.keys;
      want = ask.want;
      binding = option_map binding_asked ask.binding;
    }

-- ---- where a caller checks the issuer's signature, and makes the holder's

-- it may be signed with these algorithms, and this was said of its signature;
-- its type is not judged
abbrev pub caller_rules : List Text → Option SignatureAnswer → Rules
caller_rules algs answer = record { issuers = of_caller (saying algs answer); typ = None }

abbrev pub caller_binding : CallerBinding → BindingAsked
caller_binding ask = record { kid = ask.kid; aud = ask.aud; nonce = ask.nonce }

abbrev pub asked_by_caller : CallerAsk → Option SignatureAnswer → Asked
asked_by_caller ask answer =
    record {
      rules = caller_rules ask.algs answer;
      want = ask.want;
      binding = option_map caller_binding ask.binding;
    }

-- the name of the algorithm of the holder's signature; where none is to be made, it says nothing
abbrev pub alg_asked : Option CallerBinding → Text
alg_asked None = []
alg_asked (Some binding) = binding.alg
