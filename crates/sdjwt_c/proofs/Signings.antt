-- What is told of an order that someone else signs.
use Rattle.std.proofs.Common.{◌≡◌, ℕ, List, inl, inr, refl, subst}
use Rattle.std.specs.Array.{IsFirstChunk}
use Rattle.std.specs.Prelude.{Result, Err, IfErr}
use Rattle.file_members.specs.declared.file_fault.FileFault.{FileFault}
use Rattle.cli_parts.specs.Stops.{OnRefused, OnUnreadable}
use Rattle.cli_parts.specs.Telling.{TellsFileFault}
use Rattle.cli_parts.specs.declared.stop.Stop.{Stop}
use Rattle.cli_parts.specs.declared.stop.Stop.TheVariants as stop
use Rattle.issuer_core.specs.Order.{order_of}
use Rattle.issuer_core.specs.UnsignedOrder.{IsUnsignedOrderFile, IsUnsignedOrderRefused}
use Rattle.issuer_core.specs.declared.order.Order as code
use Rattle.issuer_core.specs.declared.unsigned_token.UnsignedToken.{UnsignedToken}
use Rattle.sd_outside.specs.Limits.{seed_len}
use Rattle.sdjwt_c.specs.Signing.{IsAskedApart, IsUnsignedFor, RefusesToSign, HasNoUnsignedOrder, no_order, IsOverlongLine, RefusesToken}

pub is_asked : (order_file seed_file seed : List ℕ) (said : code.Order) → IsUnsignedOrderFile order_file said → IsFirstChunk seed_file seed seed_len → IsAskedApart order_file seed_file (order_of said) seed
is_asked order_file seed_file seed said is_order chunk = record { said = said; is_order = is_order; order_is = refl; enough = chunk.enough; seed_is = chunk.same }

-- what tells that the file is no order tells that the two files ask for nothing
pub has_no_order : (order_file seed_file : List ℕ) (read : Result code.Order FileFault) → IfErr read (IsUnsignedOrderRefused order_file)
    → (told : Stop) → OnUnreadable told (TellsFileFault (λ fault. read ≡ Err fault)) → OnUnreadable told (HasNoUnsignedOrder order_file seed_file)
has_no_order order_file seed_file read refused stop.Memory told = tt
has_no_order order_file seed_file read refused (stop.Unread word) told = tt
has_no_order order_file seed_file read refused (stop.Unreadable text) told =
    no_order told.fault (subst (λ (r : Result code.Order FileFault). IfErr r (IsUnsignedOrderRefused order_file)) told.refused refused) told.cause told.line_is
has_no_order order_file seed_file read refused (stop.Refused text) told = tt

-- a refusal before the signature, and one behind it
pub refused_before : (order alg seed signature : List ℕ) (told : Stop) → OnRefused told (RefusesToSign order seed) → OnRefused told (RefusesToken order alg seed signature)
refused_before order alg seed signature stop.Memory tells = tt
refused_before order alg seed signature (stop.Unread word) tells = tt
refused_before order alg seed signature (stop.Unreadable text) tells = tt
refused_before order alg seed signature (stop.Refused text) tells = inl tells

pub refused_behind : (order alg seed signature : List ℕ) (token : UnsignedToken) → IsUnsignedFor order alg seed token → (told : Stop) → OnRefused told (IsOverlongLine token signature) → OnRefused told (RefusesToken order alg seed signature)
refused_behind order alg seed signature token is_unsigned stop.Memory tells = tt
refused_behind order alg seed signature token is_unsigned (stop.Unread word) tells = tt
refused_behind order alg seed signature token is_unsigned (stop.Unreadable text) tells = tt
refused_behind order alg seed signature token is_unsigned (stop.Refused text) tells = inr (record { token = token; is_unsigned = is_unsigned; is_so = tells })
