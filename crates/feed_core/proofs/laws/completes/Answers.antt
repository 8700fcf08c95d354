use Rattle.feed_core.proofs.Completes as all
use Rattle.feed_core.proofs.laws.completes.Goals as goal

pub returns : goal.returns
returns c = λ words before after now name content most policy status named held is_policy kept given written within ends.
    all.completes words before after now name content most policy named held is_policy kept given written within status ends
