use Rattle.verifier_core.proofs.VersionTwo.{says_in_two, same_policy}
use Rattle.verifier_core.proofs.laws.version_one.Goals as goal

pub returns : goal.returns
returns c = record { said = says_in_two; equal = λ one two policy other short says h k. same_policy one two policy short says h other k }
