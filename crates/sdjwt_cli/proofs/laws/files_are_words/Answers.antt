use Rattle.sdjwt_cli.proofs.FileWords.{files_are_words}
use Rattle.sdjwt_cli.proofs.laws.files_are_words.Goals as goal

pub returns : goal.returns
returns c = files_are_words
