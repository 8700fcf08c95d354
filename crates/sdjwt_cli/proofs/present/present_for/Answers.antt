use Rattle.sdjwt_cli.specs.Presenting.{Presents, DoesNotPresent}
use Rattle.sdjwt_cli.specs.PresentingSteps.{IsLineOf, IsRefusalOf}
use Rattle.sdjwt_cli.proofs.Presentings.{presents, refuses}
use Rattle.cli_parts.proofs.Stopped.{of_text, of_refused}
use Rattle.sdjwt_cli.proofs.present.present_for.Goals as goal

pub returns-clause-presents : goal.returns-clause-presents
returns-clause-presents c file is_order =
    let shown = presents c.args.said c.args.token_file.now c.args.now c.present_parts-presented.result file is_order (rw c.signer-key.ensures at c.present_parts-presented.ensures.presented) c.present_parts-presented.ensures.short in
    of_text (IsLineOf c.present_parts-presented.result) (Presents file c.args.token_file.now c.args.now) shown c.told.result c.told.ensures.presents

pub returns-clause-refuses : goal.returns-clause-refuses
returns-clause-refuses c file is_order =
    let refused = refuses c.args.said c.args.token_file.now c.args.now c.present_parts-presented.result file is_order (rw c.signer-key.ensures at c.present_parts-presented.ensures.refused) c.present_parts-presented.ensures.signed in
    of_refused (IsRefusalOf c.present_parts-presented.result) (DoesNotPresent file c.args.token_file.now c.args.now) refused c.told.result c.told.ensures.refuses
