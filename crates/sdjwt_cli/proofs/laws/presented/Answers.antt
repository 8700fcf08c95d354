use Rattle.sdjwt_cli.proofs.PresentedRuns.{presented_over_files, presented_over_runs}
use Rattle.sdjwt_cli.proofs.laws.presented.Goals as goal

pub returns-clause-over_files : goal.returns-clause-over_files
returns-clause-over_files c = presented_over_files

pub returns-clause-over_runs : goal.returns-clause-over_runs
returns-clause-over_runs c = presented_over_runs
