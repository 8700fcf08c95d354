use Rattle.std.proofs.Common.{codes}
use Rattle.wallet_core.proofs.Sames.{named_same}
use Rattle.wallet_core.proofs.WordsApart.{is_wallet}
use Rattle.wallet_core.proofs.words.wallet_words.Goals as goal

pub returns-clause-some : goal.returns-clause-some
returns-clause-some c =
    is_wallet c.args.words.now c.name-item.result c.query-item.result c.as_str.result.now c.as_str-2.result.now c.in-len2-up.len_at_least c.name-item.is c.query-item.is c.as_str.ensures.value c.as_str-2.ensures.value
    (named_same c.as_str.result.now (codes "wallet") c.if-ne.ensures)
    c.if-is_empty.ensures
    c.if-tokens-gt-TOKENS_MAX.false
