use Rattle.jws_part.proofs.Headers.{one_header, read_not_unreadable, read_not_critical, critical_not_unreadable}
use Rattle.jws_part.proofs.laws.one_header.Goals as goal

pub returns : goal.returns
returns c = record { one = one_header; readable = read_not_unreadable; plain = read_not_critical; critical = critical_not_unreadable }
