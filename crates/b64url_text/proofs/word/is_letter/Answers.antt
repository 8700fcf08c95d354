use Rattle.std.proofs.Common.{arith}
use Rattle.b64url_text.proofs.Letters.{by_ranges}
use Rattle.b64url_text.proofs.word.is_letter.Goals as goal

pub returns-then-byte-eq45 : goal.returns-then-byte-eq45
returns-then-byte-eq45 c = grind (arith, by_ranges c.args.byte (omega arith))

pub returns-else-byte-eq45 : goal.returns-else-byte-eq45
returns-else-byte-eq45 c = grind (arith, by_ranges c.args.byte (omega arith))
