use Rattle.std.proofs.Common.{sym, ◌∙◌}
use Rattle.verifier_core.proofs.CheckTests.{among_told}
use Rattle.verifier_core.proofs.check_signed.is_name_refused.Goals as goal

pub returns : goal.returns
returns c = among_told c.args.algs.now c.args.alg.now _ (sym c.alg_named.ensures.value ∙ c.in-Some.is) c.contains.result c.contains.ensures
