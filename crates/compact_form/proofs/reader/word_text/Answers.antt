use Rattle.b64url_text.proofs.Words.{IsAscii-letters}
use Rattle.compact_form.proofs.reader.word_text.Goals as goal

pub text_of-requires : goal.text_of-requires
text_of-requires c = IsAscii-letters c.args.word.now c.requires.letters
