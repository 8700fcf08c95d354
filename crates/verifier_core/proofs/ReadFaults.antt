-- What is refused before a token is opened has a number of at most 13.
use Rattle.std.proofs.Common.{◌≡◌, List, sym, subst, arith}
use Rattle.claim_tree.specs.Tree.{Text, Members}
use Rattle.refusals.specs.Faults.{placed}
use Rattle.refusals.specs.declared.condition.Condition.{Condition}
use Rattle.refusals.specs.declared.fault.Fault.{Fault}
use Rattle.compact_form.specs.declared.parts.JwtParts.{JwtParts}
use Rattle.disclosure.specs.declared.digests.HashAlg.{HashAlg}
use Rattle.verifier_core.specs.Check.{IsUnopened, IsSignedFault, bad_header, critical, bad_alg, bad_type, no_key, not_signed, IsPayloadFault, no_body, no_hash, IsUnreadAt}
use Rattle.verifier_core.specs.Verdict.{Rules}

same_fault : (fault other : Fault) → fault ≡ other → IsUnopened other → IsUnopened fault
same_fault fault other is = subst IsUnopened (sym is)

pub signed_unopened : (signed : JwtParts) (outer : Members) (rules : Rules) (fault : Fault) → IsSignedFault signed outer rules fault → IsUnopened fault
signed_unopened signed outer rules fault (bad_header w is) = same_fault fault _ is (omega arith)
signed_unopened signed outer rules fault (critical w is) = same_fault fault _ is (omega arith)
signed_unopened signed outer rules fault (bad_alg h has w is) = same_fault fault _ is (omega arith)
signed_unopened signed outer rules fault (bad_type h has alg w is) = same_fault fault _ is (omega arith)
signed_unopened signed outer rules fault (no_key h has alg typ w is) = same_fault fault _ is (omega arith)
signed_unopened signed outer rules fault (not_signed h has alg typ known w is) = same_fault fault _ is (omega arith)

pub payload_unopened : (payload : Text) (fault : Fault) → IsPayloadFault payload fault → IsUnopened fault
payload_unopened payload fault (no_body w is) = same_fault fault _ is (omega arith)
payload_unopened payload fault (no_hash body has w is) = same_fault fault _ is (omega arith)

pub given_unopened : (hash : HashAlg) (disclosures : List Text) (fault : Fault) → IsUnreadAt hash disclosures fault → IsUnopened fault
given_unopened hash disclosures fault unread = same_fault fault (placed Condition.DisclosureUnreadable unread.i) unread.fault_is (omega arith)
