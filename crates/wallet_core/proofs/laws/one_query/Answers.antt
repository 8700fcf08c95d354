use Rattle.wallet_core.proofs.OneQuery as queries
use Rattle.wallet_core.proofs.laws.one_query.Goals as goal

pub returns : goal.returns
returns c = record { one = queries.one_query; not_both = queries.not_both; one_fault = queries.one_fault }
