use Rattle.std.proofs.Common.{sym, ap, ◌∙◌}
use Rattle.std.specs.Option.{option_copied}
use Rattle.json_form.proofs.Lists.{drop_more}
use Rattle.json_form.proofs.disclosures.next_text.Goals as goal

pub returns : goal.returns
returns c =
    let there = sym c.at.ensures ∙ ap option_copied c.unwrap-text.ensures in
    rw c.as_str.ensures (drop_more c.args.rest.now.texts.now c.args.rest.now.at c.unwrap-text.result.now there)
