-- The order of which this is known has no decoys.
use Rattle.std.proofs.Common.{List, None, subst}
use Rattle.sdjwt_lib.specs.claim_tree.View.{tree_of}
use Rattle.sdjwt_lib.specs.disclosure.declared.digests.HashAlg.{HashAlg}
use Rattle.sdjwt_lib.specs.issuer_core.Issue.{HasNoClash}
use Rattle.sdjwt_lib.specs.issuer_core.Order.{Order}
use Rattle.sdjwt_lib.specs.issuer_core.Seed.{maker_of}
use Rattle.sdjwt_lib.specs.issuer_core.declared.order.Decoy.{Decoy}
use Rattle.examples_service.proofs.token.token_for.Goals as goal

pub returns-clause-differ : goal.returns-clause-differ
returns-clause-differ g c =
    let order : List Decoy → Order = λ decoys. record { payload = tree_of c.args.payload; hide = c.args.hide; decoys = decoys; kid = None; typ = None; hash = HashAlg.Sha256 } in
    subst (λ (decoys : List Decoy). HasNoClash (maker_of c.args.seed.now) (order decoys)) c.new.ensures c.in_ok-parts.ensures.differ
