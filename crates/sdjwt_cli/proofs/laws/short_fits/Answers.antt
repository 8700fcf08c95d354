use Rattle.sdjwt_cli.specs.AnySigner.{any_signer}
use Rattle.sdjwt_cli.proofs.BindingRoom as room
use Rattle.sdjwt_cli.proofs.laws.short_fits.Goals as goal

pub returns : goal.returns
returns g c = record { fits = λ holder alg. room.short_fits (any_signer alg (g.H.Signatures.good holder)); named = room.short_name }
