use Rattle.compact_form.proofs.Printed.{reads_printed}
use Rattle.compact_form.proofs.laws.printed_is_read.Goals as goal

pub returns : goal.returns
returns c = reads_printed
