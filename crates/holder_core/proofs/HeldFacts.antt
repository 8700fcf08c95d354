-- What follows for a token that is checked: its payload is not too deep, and no mark stands on two nodes of it.
use Rattle.std.proofs.Common.{◌≤◌, sym, subst, arith}
use Rattle.claim_tree.specs.Tree.{depth}
use Rattle.json_form.specs.declared.token.Token.{Token}
use Rattle.marked_tree.specs.Choice.{IsUnmixed}
use Rattle.marked_tree.specs.Marked.{Marked, strip}
use Rattle.rebuild_core.proofs.ChosenShown.{processed_unmixed}
use Rattle.verifier_core.specs.Verdict.{Rules, IsChecked}
use Rattle.verifier_core.proofs.ContentFacts.{content_sound, content_readable}

pub checked_unmixed : (token : Token) (rules : Rules) (marked : Marked) → IsChecked token rules marked → IsUnmixed marked
checked_unmixed token rules marked checked =
    let p = checked.opens.0 in
    let g = checked.opens.1 in
    let has = checked.opens.2 in
    subst IsUnmixed (sym checked.opens.3) (processed_unmixed p g (content_readable token p g has) (content_sound token rules p g has checked.passes))

pub checked_shallow : (token : Token) (rules : Rules) (marked : Marked) → IsChecked token rules marked → depth (strip marked) ≤ 127
checked_shallow token rules marked checked =
    let p = checked.opens.0 in
    let g = checked.opens.1 in
    let sound = content_sound token rules p g checked.opens.2 checked.passes in
    let low = sound.shallow in
    subst (λ (m : Marked). depth (strip m) ≤ 127) (sym checked.opens.3) (omega (arith, low))
