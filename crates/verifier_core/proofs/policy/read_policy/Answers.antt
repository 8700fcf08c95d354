use Rattle.std.proofs.lemmas.Result.{err_from_is_err_and}
use Rattle.verifier_core.proofs.PolicyFaults.{by_version, at_keys, at_algs, at_typ, at_iss, at_require, at_skew, at_binding}
use Rattle.verifier_core.proofs.policy.read_policy.Goals as goal

pub returns-in_err-version-clause-refused : goal.returns-in_err-version-clause-refused
returns-in_err-version-clause-refused c =
    let handed = err_from_is_err_and c.from_residual-in_err-version.result c.from_residual-in_err-version.ensures.1 in
    rw (handed.1, handed.2) (by_version c.args.bytes.now c.in_ok-members.members c.in_err-version.field-0.0 c.in_ok-members.ensures.ok c.in_err-version.ensures.refused)

pub returns-in_err-keys-clause-refused : goal.returns-in_err-keys-clause-refused
returns-in_err-keys-clause-refused c =
    let handed = err_from_is_err_and c.from_residual-in_err-keys.result c.from_residual-in_err-keys.ensures.1 in
    rw (handed.1, handed.2) (at_keys c.in_ok-version.version c.args.bytes.now c.in_ok-members.members c.in_ok-members.ensures.ok c.in_ok-version.ensures.ok c.in_err-keys.field-0.0 c.in_err-keys.ensures.refused)

pub returns-in_err-algs-clause-refused : goal.returns-in_err-algs-clause-refused
returns-in_err-algs-clause-refused c =
    let handed = err_from_is_err_and c.from_residual-in_err-algs.result c.from_residual-in_err-algs.ensures.1 in
    rw (handed.1, handed.2) (at_algs c.in_ok-version.version c.args.bytes.now c.in_ok-members.members c.in_ok-members.ensures.ok c.in_ok-version.ensures.ok c.in_ok-keys.keys c.in_ok-keys.ensures.ok c.in_err-algs.field-0.0 c.in_err-algs.ensures.refused)

pub returns-in_err-typ-clause-refused : goal.returns-in_err-typ-clause-refused
returns-in_err-typ-clause-refused c =
    let handed = err_from_is_err_and c.from_residual-in_err-typ.result c.from_residual-in_err-typ.ensures.1 in
    rw (handed.1, handed.2) (at_typ c.in_ok-version.version c.args.bytes.now c.in_ok-members.members c.in_ok-members.ensures.ok c.in_ok-version.ensures.ok c.in_ok-keys.keys c.in_ok-keys.ensures.ok c.in_ok-algs.algs c.in_ok-algs.ensures.ok c.in_err-typ.field-0.0 c.in_err-typ.ensures.refused)

pub returns-in_err-iss-clause-refused : goal.returns-in_err-iss-clause-refused
returns-in_err-iss-clause-refused c =
    let handed = err_from_is_err_and c.from_residual-in_err-iss.result c.from_residual-in_err-iss.ensures.1 in
    rw (handed.1, handed.2) (at_iss c.in_ok-version.version c.args.bytes.now c.in_ok-members.members c.in_ok-members.ensures.ok c.in_ok-version.ensures.ok c.in_ok-keys.keys c.in_ok-keys.ensures.ok c.in_ok-algs.algs c.in_ok-algs.ensures.ok c.in_ok-typ.typ c.in_ok-typ.ensures.ok c.in_err-iss.field-0.0 c.in_err-iss.ensures.refused)

pub returns-in_err-require-clause-refused : goal.returns-in_err-require-clause-refused
returns-in_err-require-clause-refused c =
    let handed = err_from_is_err_and c.from_residual-in_err-require.result c.from_residual-in_err-require.ensures.1 in
    rw (handed.1, handed.2) (at_require c.in_ok-version.version c.args.bytes.now c.in_ok-members.members c.in_ok-members.ensures.ok c.in_ok-version.ensures.ok c.in_ok-keys.keys c.in_ok-keys.ensures.ok c.in_ok-algs.algs c.in_ok-algs.ensures.ok c.in_ok-typ.typ c.in_ok-typ.ensures.ok c.in_ok-iss.iss c.in_ok-iss.ensures.ok c.in_err-require.field-0.0 c.in_err-require.ensures.refused)

pub returns-in_err-skew-clause-refused : goal.returns-in_err-skew-clause-refused
returns-in_err-skew-clause-refused c =
    let handed = err_from_is_err_and c.from_residual-in_err-skew.result c.from_residual-in_err-skew.ensures.1 in
    rw (handed.1, handed.2) (at_skew c.in_ok-version.version c.args.bytes.now c.in_ok-members.members c.in_ok-members.ensures.ok c.in_ok-version.ensures.ok c.in_ok-keys.keys c.in_ok-keys.ensures.ok c.in_ok-algs.algs c.in_ok-algs.ensures.ok c.in_ok-typ.typ c.in_ok-typ.ensures.ok c.in_ok-iss.iss c.in_ok-iss.ensures.ok c.in_ok-require.require c.in_ok-require.ensures.ok c.in_err-skew.field-0.0 c.in_err-skew.ensures.refused)

pub returns-in_err-binding-clause-refused : goal.returns-in_err-binding-clause-refused
returns-in_err-binding-clause-refused c =
    let handed = err_from_is_err_and c.from_residual-in_err-binding.result c.from_residual-in_err-binding.ensures.1 in
    rw (handed.1, handed.2) (at_binding c.in_ok-version.version c.args.bytes.now c.in_ok-members.members c.in_ok-members.ensures.ok c.in_ok-version.ensures.ok c.in_ok-keys.keys c.in_ok-keys.ensures.ok c.in_ok-algs.algs c.in_ok-algs.ensures.ok c.in_ok-typ.typ c.in_ok-typ.ensures.ok c.in_ok-iss.iss c.in_ok-iss.ensures.ok c.in_ok-require.require c.in_ok-require.ensures.ok c.in_ok-skew.skew c.in_ok-skew.ensures.ok c.in_err-binding.field-0.0 c.in_err-binding.ensures.refused)
