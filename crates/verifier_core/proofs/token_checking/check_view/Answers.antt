use Rattle.std.proofs.Common.{◌≡◌, IfErr, refl, subst, ◌∙◌}
use Rattle.claim_tree.specs.Tree.{Members, no_members}
use Rattle.refusals.specs.Lowest.{IsLowest}
use Rattle.compact_form.specs.declared.parts.Parts.{Parts}
use Rattle.json_form.specs.Alone.{alone}
use Rattle.json_form.specs.declared.token.Token.{Token}
use Rattle.verifier_core.specs.Verdict.{Rules, TokenFails}
use Rattle.verifier_core.specs.Check.{OnFault}
use Rattle.verifier_core.proofs.token_checking.check_view.Goals as goal

abbrev token_of : Parts → Members → Token
token_of parts outer = record { parts = parts; outer = outer }

same_token : (copy parts : Parts) (outer : Members) → copy ≡ parts → outer ≡ no_members → token_of copy outer ≡ alone parts
same_token copy parts outer copied none = rw (copied, none) refl

pub returns-clause-refused : goal.returns-clause-refused
returns-clause-refused c =
    let same : c.in_text-token.result ≡ alone c.args.view.now = c.in_text-token.ensures ∙ same_token c.copy.result c.args.view.now c.new-outer.result c.copy.ensures c.new-outer.ensures in
    subst (λ (r : Rules). IfErr c.check.result (λ e. OnFault e (IsLowest (TokenFails (alone c.args.view.now) r)))) c.of_keys.ensures
    (subst (λ (t : Token). IfErr c.check.result (λ e. OnFault e (IsLowest (TokenFails t c.of_keys.result)))) same c.check.ensures.refused)
