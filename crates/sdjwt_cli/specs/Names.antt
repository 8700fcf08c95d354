-- For private functions: a command by its names, as the code has it.
use Rattle.sdjwt_cli.specs.Command.{Command, split, show, verify, issue, present, convert, gen}
use Rattle.sdjwt_cli.specs.declared.command.Command.{Command as Named}
use Rattle.sdjwt_cli.specs.declared.command.Command.TheVariants.{Split, Show, Verify, Issue, Present, Convert, Gen}

abbrev pub meant_by : Named → Command
meant_by (Split token) = split token.now
meant_by (Show token) = show token.now
meant_by (Verify policy token) = verify policy.now token.now
meant_by (Issue order seed) = issue order.now seed.now
meant_by (Present order token) = present order.now token.now
meant_by (Convert form token) = convert form token.now
meant_by (Gen count) = gen count
