use Rattle.std.proofs.Common.{ap, ◌∙◌}
use Rattle.std.specs.Prelude.{bytes_eq}
use Rattle.rebuild_core.specs.Payload.{alg_name}
use Rattle.issuer_core.proofs.reserved.is_alg.Goals as goal

pub returns : goal.returns
unfolding alg_name
returns c = c.eq.ensures ∙ ap (λ name. bytes_eq name alg_name) c.as_str.ensures
