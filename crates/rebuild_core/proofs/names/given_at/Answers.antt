use Rattle.digest_sites.specs.GivenView.{given_of}
use Rattle.rebuild_core.proofs.GivenFacts.{item_at}
use Rattle.std.proofs.lemmas.List.{length-map}
use Rattle.std.proofs.Common.{◌<◌, length, ap, arith}
use Rattle.rebuild_core.proofs.names.given_at.Goals as goal

pub returns : goal.returns
returns c =
    let few : c.args.number < length c.items.result.now = omega (arith, c.requires, length-map c.items.result.now given_of, ap length c.items.ensures) in
    item_at c.items.result.now c.args.given.now c.args.number c.index-items-number.result c.items.ensures few c.index-items-number.is
