use Rattle.issuer_core.proofs.SortedDigests.{sort_is}
use Rattle.issuer_core.proofs.laying.sort_digests.Goals as goal

pub returns : goal.returns
returns c = sort_is c.args.digests.now.items c.sort.new.self.items c.in_ok-sort.ensures.sorted c.in_ok-sort.ensures.stable
