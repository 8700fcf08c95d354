-- A text whose JSON is not read is no disclosure.
use Rattle.std.proofs.Common.{◌≡◌, Result, IfErr}
use Rattle.std.proofs.lemmas.Result.{err_from_is_err_and}
use Rattle.std.specs.Result.{IsErrAnd}
use Rattle.b64url_text.specs.Base64url.{Decodes}
use Rattle.claim_tree.specs.Tree.{Text}
use Rattle.claim_tree.specs.JsonRefusals.{IsReadRefused}
use Rattle.claim_tree.specs.declared.text.ReadError.{ReadError}
use Rattle.disclosure.specs.DisclosureRefusals.{IsDisclosureRefused}
use Rattle.disclosure.specs.declared.errors.DisclosureError.{DisclosureError}
use Rattle.disclosure.specs.ReadSteps.{of_read}

unread : (error : ReadError) (text json : Text) → Decodes text json → IsReadRefused json error → IsDisclosureRefused text (of_read error)
unread ReadError.Memory text json d h = tt
unread ReadError.NotJson text json d h = record { json = json; decodes = d; so = h }
unread ReadError.NotWhole text json d h = record { json = json; decodes = d; so = h }

-- where the reader's error is passed on
pub unread_exit : {X : Type 0} (r : Result X DisclosureError) (error : ReadError) (text json : Text) → IsErrAnd r (λ e. e ≡ of_read error) → Decodes text json → IsReadRefused json error → IfErr r (IsDisclosureRefused text)
unread_exit r error text json given d h = let from = err_from_is_err_and r given in rw (from.1, from.2) (unread error text json d h)
