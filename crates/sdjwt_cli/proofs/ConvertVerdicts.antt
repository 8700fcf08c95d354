-- The command `convert` has one verdict over a file.
use Rattle.std.proofs.Common.{◌≡◌, ◌<◌, ℕ, List, length, ap, ◌∙◌, sym, subst, arith}
use Rattle.refusals.specs.declared.fault.Fault.{Fault}
use Rattle.sd_outside.specs.Limits.{file_max}
use Rattle.json_form.specs.declared.token.Token.{Token}
use Rattle.json_form.proofs.Tokens as tokens
use Rattle.sdjwt_cli.specs.declared.form.Form.{Form}
use Rattle.cli_parts.specs.Lines.{line}
use Rattle.cli_parts.specs.Telling.{TellsFault}
use Rattle.cli_parts.proofs.OneReply.{one_readable_reply, one_refusal_line}
use Rattle.sdjwt_cli.specs.Converting.{written, Converts, IsConvertRefused, unread, too_much}
use Rattle.cli_parts.specs.Replies.{Reply}
use Rattle.sdjwt_cli.specs.Answers.{ConvertAnswers}

one_line : (form : Form) (file a b : List ℕ) → Converts form file a → Converts form file b → a ≡ b
one_line form file a b g h = g.line_is ∙ (ap (λ (t : Token). line (written form t)) (tokens.one file g.token h.token g.reads h.reads) ∙ sym h.line_is)

no_refusal : (form : Form) (file a : List ℕ) (f : Fault) → Converts form file a → IsConvertRefused form file f → ⊥
no_refusal form file a f g (unread r) = tokens.not_both file g.token f g.reads r
no_refusal form file a f g (too_much t r long e) =
    let over : file_max < length (line (written form g.token)) = subst (λ (x : Token). file_max < length (line (written form x))) (tokens.one file t g.token r g.reads) long in
    omega (arith, over, g.short, ap length g.line_is)

one_fault : (form : Form) (file : List ℕ) (f g : Fault) → IsConvertRefused form file f → IsConvertRefused form file g → f ≡ g
one_fault form file f g (unread r) (unread s) = tokens.one_refusal file f g r s
one_fault form file f g (unread r) (too_much u s over d) = absurd (tokens.not_both file u f s r)
one_fault form file f g (too_much t r long e) (unread s) = absurd (tokens.not_both file t g r s)
one_fault form file f g (too_much t r long e) (too_much u s over d) = e ∙ sym d

pub one_convert : (form : Form) (file : List ℕ) (v w : Reply) → ConvertAnswers form file v → ConvertAnswers form file w → v ≡ w
one_convert form file =
    one_readable_reply (Converts form file) (TellsFault (IsConvertRefused form file)) (one_line form file) (one_refusal_line (IsConvertRefused form file) (one_fault form file))
    (λ a b g h. no_refusal form file a h.fault g h.refused)
