use Rattle.std.proofs.Common.{arith}
use Rattle.sd_outside.proofs.Files.{stored_set, others_set, stored_push, others_push}
use Rattle.sd_outside.proofs.memory_cabinet.store.Goals as goal

pub returns-in-Some-clause-stored : goal.returns-in-Some-clause-stored
returns-in-Some-clause-stored c =
    let place = c.in-Some.ensures in
    grind (arith, stored_set c.args.files.now.items c.in-Some.i, place.within, place.none_before)

pub returns-in-Some-clause-others : goal.returns-in-Some-clause-others
returns-in-Some-clause-others c =
    let place = c.in-Some.ensures in
    λ other ne. grind (arith, others_set c.args.files.now.items c.in-Some.i, place.within, place.named)

pub returns-in_ok-push-in-None-clause-stored : goal.returns-in_ok-push-in-None-clause-stored
returns-in_ok-push-in-None-clause-stored c = grind (arith, stored_push, c.in-None.ensures)

pub returns-in_ok-push-in-None-clause-others : goal.returns-in_ok-push-in-None-clause-others
returns-in_ok-push-in-None-clause-others c = λ other ne. grind (arith, others_push)
