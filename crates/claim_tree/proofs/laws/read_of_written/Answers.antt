use Rattle.claim_tree.proofs.RoundTrip.{read_of_text}
use Rattle.claim_tree.proofs.laws.read_of_written.Goals as goal

pub returns : goal.returns
returns c t ranged ordered shallow = read_of_text t ranged ordered shallow
