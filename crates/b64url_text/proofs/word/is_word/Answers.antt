use Rattle.std.proofs.Common.{arith, ◌<◌, length}
use Rattle.b64url_text.proofs.Words.{tells_word}
use Rattle.b64url_text.proofs.word.is_word.Goals as goal

pub returns-then-not-is_empty : goal.returns-then-not-is_empty
returns-then-not-is_empty c =
    let some : 0 < length c.args.text.now = grind (arith, c.is_empty.ensures) in
    tells_word c.args.text.now c.word_len.result some c.word_len.ensures
