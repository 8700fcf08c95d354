use Rattle.tools_cli.proofs.FirstWords.{first_is}
use Rattle.tools_cli.proofs.tools.names_tool.Goals as goal

pub returns : goal.returns
returns c = first_is c.args.words.now c.word-item.result c.as_str.result.now c.args.name.now c.eq.result c.in-len1-up.len_at_least c.word-item.is c.as_str.ensures.value c.eq.ensures
