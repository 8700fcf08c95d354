use Rattle.claim_tree.specs.JsonText.{json_text}
use Rattle.claim_tree.specs.Tree.{object}
use Rattle.compact_form.specs.Compact.{compact}
use Rattle.json_form.specs.Written.{flat_of, general_of}
use Rattle.json_form.proofs.AloneForms.{compact_read, flat_read, general_read}
use Rattle.json_form.proofs.Lines.{read_json_text}
use Rattle.verifier_core.proofs.SameVerdict.{few, judged_alike, spelled}
use Rattle.verifier_core.proofs.laws.same_verdict.Goals as goal

pub returns : goal.returns
returns c =
    record {
      spelled = spelled;
      written = λ text token members here is short. judged_alike text (json_text (object members)) token here (read_json_text token members is short (few text token here));
      compact = λ text token here none. judged_alike text (compact token.parts) token here (compact_read text token here none);
      flat = λ text token here none. judged_alike text (json_text (flat_of token)) token here (flat_read text token here none);
      general = λ text token here none. judged_alike text (json_text (general_of token)) token here (general_read text token here none);
    }
