-- A handle may go to another thread: what it owns names no key, and its block may be freed in any thread.
use Rattle.std.proofs.Common.{Option}
use base.Shift.{Keyless}
use denote.RawPtr.{Ptr, block_ptr, null_ptr}
use denote.Memory.{lone}
use denote.Struct.Owning.{shape, fields, to}
use denote.Struct.Struct.{exits_of}
use denote.Param.Send.{IsSend, AllSend, owning_send, struct_send, sendable}
use mir.Raw.{raw as bare}
use Rattle.std.specs.declared.alloc.Global.{Global}
use Rattle.std.proofs.Crossing as crossing
use Rattle.std_alloc.proofs.SendSync.{lies, quiet}
use Rattle.verifier_core.specs.declared.policy.Policy.{Policy}
use Rattle.verifier_core.proofs.policy.Policy.TheSendSync as policy
use Rattle.verifier_core.specs.contracts.policy.Policy.{the_row as policy_row}
use Rattle.sdjwt_c.specs.Held.{holds}
use Rattle.sdjwt_c.specs.contracts.handle.SdjwtPolicy.{the_row, the_type}

keyless : (alloc : Global) (p : Ptr) (held : Option Policy) → Keyless (holds alloc p held)
keyless alloc null_ptr held = λ e. tt
keyless alloc (block_ptr b o) held = λ x. ((lies policy_row policy.the_send (block_ptr b o) x, crossing.frees.frees alloc (bare (lone policy_row.mir)) (block_ptr b o)), λ e. tt)

pub send : IsSend the_row
send =
    let all : AllSend (fields the_type) = (search sendable depth 20, (search sendable depth 20, tt)) in
    owning_send the_type all (λ d. keyless d.alloc d.at d.held) (λ k. quiet (to the_type) (exits_of k (fields the_type)) ((struct_send (shape the_type) all).leaving k))
