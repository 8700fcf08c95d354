-- Two serializations of one token are judged alike.
use Rattle.std.proofs.Common.{◌≡◌, ℕ, false, List, refl, subst}
use Rattle.refusals.specs.declared.condition.Condition.{Condition}
use Rattle.refusals.specs.Faults.{fault_at, unplaced, failed_of}
use Rattle.refusals.specs.declared.fault.Fault.{Fault}
use Rattle.refusals.specs.declared.fault.Place.{Place}
use Rattle.refusals.specs.Lowest.{IsLowest}
use Rattle.refusals.specs.Passing.{Passes}
use Rattle.claim_tree.specs.Tree.{Tree}
use Rattle.compact_form.specs.declared.parts.JwtParts.{JwtParts}
use Rattle.compact_form.specs.Trim.{trimmed, is_too_long}
use Rattle.json_form.specs.declared.token.Token.{Token}
use Rattle.json_form.specs.Token.{IsToken, Spells, IsTooMuch, too_much}
use Rattle.json_form.proofs.Tokens as tokens
use Rattle.json_form.proofs.Lines.{read_spelled}
use Rattle.marked_tree.specs.Marked.{Marked}
use Rattle.verifier_core.specs.Asking.{caller_demands, IsIssuerAsked, IsHolderAsked, AsksIssuer, AsksHolder, WasAsked, IsAskedNext}
use Rattle.verifier_core.specs.Verdict.{Demands, demands_of, FailsFor, of_file, of_missing, of_token, of_claims, of_holder, IsAcceptedFor}
use Rattle.verifier_core.specs.Verdicts.{HaveOneVerdict, HaveOneQuestion, AreJudgedAlike}
use Rattle.verifier_core.specs.declared.asking.Answers.{Answers}
use Rattle.verifier_core.specs.declared.asking.Question.{Question}

module _ (text other : List ℕ) (token : Token) (demands : Demands) (now : ℕ) (here : IsToken text token) (there : IsToken other token) where
  moved : (t : Token) → IsToken text t → IsToken other t
  moved t is = subst (IsToken other) (tokens.one text token t here is) there

  fails : (c : Condition) (place : Place) → FailsFor text demands now c place → FailsFor other demands now c place
  fails c place (of_file h) = absurd (here.passes (fault_at c place) h)
  fails c place (of_missing t is h) = of_missing t (moved t is) h
  fails c place (of_token t is h) = of_token t (moved t is) h
  fails c place (of_claims t marked is opens h) = of_claims t marked (moved t is) opens h
  fails c place (of_holder t marked hash is opens has h) = of_holder t marked hash (moved t is) opens has h

module _ (text other : List ℕ) (token : Token) (demands : Demands) (now : ℕ) (here : IsToken text token) (there : IsToken other token) where
  accepted : (marked : Marked) → IsAcceptedFor text demands now marked → IsAcceptedFor other demands now marked
  accepted marked is = record {
    passes = λ c place h. is.passes c place (fails other text token demands now there here c place h);
    token = is.token;
    is_token = moved text other token demands now here there is.token is.is_token;
    opens = is.opens;
  }

  lowest : (fault : Fault) → IsLowest (FailsFor text demands now) fault → IsLowest (FailsFor other demands now) fault
  lowest fault is = record {
    fails = fails text other token demands now here there (failed_of fault) fault.place is.fails;
    lowest = λ c place h. is.lowest c place (fails other text token demands now there here c place h);
  }

  -- ---- where a caller checks the signatures

  passing : (number : ℕ) → Passes number (FailsFor text demands now) → Passes number (FailsFor other demands now)
  passing number passes c place h = passes c place (fails other text token demands now there here c place h)

  issuer_asked : (t : Token) → IsIssuerAsked text demands now t → IsIssuerAsked other demands now t
  issuer_asked t is = record { is_token = moved text other token demands now here there t is.is_token; passes = passing 9 is.passes; signature = is.signature }

  holder_asked : (t : Token) (binding : JwtParts) → IsHolderAsked text demands now t binding → IsHolderAsked other demands now t binding
  holder_asked t binding is = record {
    is_token = moved text other token demands now here there t is.is_token;
    passes = passing 27 is.passes;
    header = λ place h. is.header place (fails other text token demands now there here Condition.BindingHeader place h);
    alg = λ place h. is.alg place (fails other text token demands now there here Condition.BindingAlg place h);
    rules = is.rules;
    wanted = is.wanted;
    sent = is.sent;
    signature = is.signature;
  }

  asks_issuer : (answers : Answers) (question : Question) → AsksIssuer text demands now answers question → AsksIssuer other demands now answers question
  asks_issuer answers question is = record { unsaid = is.unsaid; token = is.token; asked = issuer_asked is.token is.asked; question_is = is.question_is }

  asks_holder : (answers : Answers) (question : Question) (payload : Tree) → AsksHolder text demands now answers question payload → AsksHolder other demands now answers question payload
  asks_holder answers question payload is = record {
    said = is.said;
    token = is.token;
    binding = is.binding;
    asked = holder_asked is.token is.binding is.asked;
    question_is = is.question_is;
    marked = is.marked;
    opens = is.opens;
    payload_is = is.payload_is;
  }

  was_asked : (answers : Answers) → WasAsked text demands now answers → WasAsked other demands now answers
  was_asked Answers.Nothing is = tt
  was_asked (Answers.Issuer answer) (t, is) = (t, issuer_asked t is)
  was_asked (Answers.Holder answer) (t, binding, is) = (t, binding, holder_asked t binding is)

  asked_next : (answers : Answers) → IsAskedNext text demands now answers → IsAskedNext other demands now answers
  asked_next Answers.Nothing (t, is) = (t, issuer_asked t is)
  asked_next (Answers.Issuer answer) (t, binding, is) = (t, binding, holder_asked t binding is)
  asked_next (Answers.Holder answer) is = is

module _ (text other : List ℕ) (token : Token) (here : IsToken text token) (there : IsToken other token) where
  one_verdict : (demands : Demands) (now : ℕ) → HaveOneVerdict text other demands now
  one_verdict demands now = record {
    accepted = λ marked. (accepted text other token demands now here there marked, accepted other text token demands now there here marked);
    refused = λ fault. (lowest text other token demands now here there fault, lowest other text token demands now there here fault);
  }

  one_question : (demands : Demands) (now : ℕ) (answers : Answers) → HaveOneQuestion text other demands now answers
  one_question demands now answers = record {
    issuer = λ question. (asks_issuer text other token demands now here there answers question, asks_issuer other text token demands now there here answers question);
    holder = λ question payload.
        (asks_holder text other token demands now here there answers question payload, asks_holder other text token demands now there here answers question payload);
    was_asked = (was_asked text other token demands now here there answers, was_asked other text token demands now there here answers);
    asked_next = (asked_next text other token demands now here there answers, asked_next other text token demands now there here answers);
  }

  pub judged_alike : AreJudgedAlike text other
  judged_alike = record {
    demanded = one_verdict;
    by_policy = λ policy. one_verdict (demands_of policy);
    by_caller = λ policy algs now answers.
        let demands = caller_demands policy algs answers in
        (one_verdict demands now, one_question demands now answers);
  }

-- what is read has no more parts than it may have
pub few : (text : List ℕ) (token : Token) → IsToken text token → IsTooMuch token.parts → ⊥
few text token is much = is.passes (unplaced Condition.TooMuch) (too_much token refl is.spells much)

pub spelled : (text other : List ℕ) (token : Token) → IsToken text token → Spells (trimmed other) token → is_too_long other ≡ false → AreJudgedAlike text other
spelled text other token here spells short = judged_alike text other token here (read_spelled other token spells short (few text token here))
