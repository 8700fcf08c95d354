-- Not needed to believe the program's promises: the question about a signature,
-- as the JSON that C gets.
use Rattle.std.specs.Prelude.{Option, None, Some, codes}
use Rattle.b64url_text.specs.Base64url.{b64}
use Rattle.claim_tree.specs.Tree.{Text, text, Tree, leaf, object, Members, no_members, member, inserted}
use Rattle.verifier_core.specs.declared.asking.Question.{Question}

abbrev pub with_text : Members → Text → Text → Members
with_text members name value = inserted members name (leaf (text value))

abbrev pub with_maybe : Members → Text → Option Text → Members
with_maybe members name None = members
with_maybe members name (Some value) = with_text members name value

-- whose signature it is about, and what is in every question, in the order of the names
abbrev pub with_asked : Text → Question → Members
with_asked whose question =
    with_maybe
    (with_text (with_text no_members (codes "alg") question.header.alg) (codes "ask") whose)
    (codes "kid") question.header.kid

abbrev pub question_members : Text → Question → Members
question_members whose question =
    with_maybe
    (with_text (with_text (with_asked whose question) (codes "signature") (b64 question.signature))
    (codes "text") question.text) (codes "typ") question.header.typ

abbrev pub issuer_question : Question → Tree
issuer_question question = object (question_members (codes "issuer") question)

-- the members in their order, and this one behind them
abbrev pub with_last : Members → Text → Tree → Members
with_last no_members name t = member name t no_members
with_last (member other u ms) name t = member other u (with_last ms name t)

-- about the holder's; the processed payload stands at the end, so that no claim in it comes before
-- what is asked
abbrev pub holder_question : Question → Tree → Tree
holder_question question payload =
    object (with_last (question_members (codes "holder") question) (codes "payload") payload)
