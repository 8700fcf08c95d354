-- The law of the definitions.
use Rattle.issuer_core.specs.Seed.{maker_of}
use Rattle.issuer_core.proofs.OneToken as tokens
use Rattle.issuer_core.proofs.laws.one_token.Goals as goal

pub returns : goal.returns
returns c seed o key parts other = tokens.one_token (maker_of seed) o key parts other
