use Rattle.claim_tree.specs.Tree.{Tree}
use Rattle.verifier_core.specs.Meanings.{meanings}
use Rattle.sdjwt_cli.specs.AnySigner.{any_signer}
use Rattle.sdjwt_cli.proofs.PresentedToCaller.{presented_to_caller}
use Rattle.sdjwt_cli.proofs.laws.presented_to_caller.Goals as goal

pub returns : goal.returns
returns g c issuer holder check check_holder rule alg binding_alg =
    presented_to_caller g.F.Fn rule (any_signer alg (g.I.Signatures.good issuer)) (any_signer binding_alg (g.H.Signatures.good holder))
    (meanings (g.C.Signatures.good check) (λ (payload : Tree). g.D.Signatures.good (check_holder payload)))
