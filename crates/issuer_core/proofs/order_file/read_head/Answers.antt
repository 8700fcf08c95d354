use Rattle.std.proofs.Common.{[], inl, inr}
use Rattle.std.proofs.lemmas.Result.{err_from_is_err_and}
use Rattle.claim_tree.specs.TreeValues.{IsListOf, IsPointer}
use Rattle.file_members.specs.declared.field.Field.TheVariants.{Hide}
use Rattle.file_members.proofs.FileMembers.{says_or_meets}
use Rattle.issuer_core.proofs.order_file.read_head.Goals as goal

pub returns-in_err-hide-clause-refused : goal.returns-in_err-hide-clause-refused
returns-in_err-hide-clause-refused c =
    let handed = err_from_is_err_and c.from_residual-in_err-hide.result c.from_residual-in_err-hide.ensures.1 in
    rw (handed.1, handed.2) (inr (c.in_ok-members.members, c.in_ok-members.ensures.ok, inr (c.in_ok-need_payload.ensures.there, inl c.in_err-hide.ensures.refused)))

pub returns-in_err-decoys-clause-refused : goal.returns-in_err-decoys-clause-refused
returns-in_err-decoys-clause-refused c =
    let handed = err_from_is_err_and c.from_residual-in_err-decoys.result c.from_residual-in_err-decoys.ensures.1 in
    let hide = says_or_meets (IsListOf IsPointer) [] Hide c.in_ok-members.members c.in_ok-hide.hide c.in_ok-hide.ensures.ok in
    rw (handed.1, handed.2) (inr (c.in_ok-members.members, c.in_ok-members.ensures.ok, inr (c.in_ok-need_payload.ensures.there, inr (hide, inl c.in_err-decoys.ensures.refused))))
