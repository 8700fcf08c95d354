use Rattle.cli_parts.proofs.host.Ending.tell.Goals as goal

abbrev pub returns-in-Clock-clause-told : goal.returns-in-Clock-clause-told
returns-in-Clock-clause-told g c = rw c.in-Clock.is c.tell-in-Clock.ensures.told
