use Rattle.compact_form.proofs.Printed.{is_compact, same_parts, not_refused}
use Rattle.compact_form.proofs.laws.printed_is_parsed.Goals as goal

pub returns : goal.returns
returns c = record { parsed = is_compact; same = same_parts; not_refused = not_refused }
