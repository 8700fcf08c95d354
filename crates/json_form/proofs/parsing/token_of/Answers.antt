use Rattle.std.proofs.Common.{◌≡◌, Err, sym, ap, subst, ◌∙◌}
use Rattle.claim_tree.specs.TreeValues.{Says}
use Rattle.refusals.specs.declared.fault.JsonPlace.TheVariants.{Stray}
use Rattle.refusals.specs.declared.fault.Part.TheVariants.{Payload}
use Rattle.json_form.specs.Json.{found_part, IsWordTree}
use Rattle.json_form.specs.JsonPlaces.{IsNoWord}
use Rattle.json_form.proofs.SayOrFail.{same_place, same_error}
use Rattle.json_form.proofs.Objects.{first_payload, first_signatures, settled, no_entries_at, first_of_rest, stray_of_rest, token_of_rest}
use Rattle.json_form.proofs.parsing.token_of.Goals as goal

pub returns-in_err-payload-clause-refused : goal.returns-in_err-payload-clause-refused
returns-in_err-payload-clause-refused c place is =
    first_payload c.args.members place (subst (IsNoWord c.args.members Payload) (same_place c.from_residual.result c.in_err-payload.field-0.0 place c.from_residual.ensures.1 is) c.in_err-payload.ensures.refused)

pub returns-in_err-entries-clause-refused : goal.returns-in_err-entries-clause-refused
returns-in_err-entries-clause-refused c place is =
    let ms = c.args.members in
    let rest = c.take_word.new.members in
    let same = same_place c.from_residual-in_err-entries.result c.in_err-entries.field-0.0 place c.from_residual-in_err-entries.ensures.1 is in
    first_signatures ms c.in_ok-payload.payload place c.in_ok-payload.ensures.ok (sym same ∙ c.in_err-entries.ensures.place) (no_entries_at ms rest c.in_ok-payload.ensures.others c.in_err-entries.ensures.refused)

pub returns-in_err-token-clause-refused : goal.returns-in_err-token-clause-refused
returns-in_err-token-clause-refused c place is =
    let ms = c.args.members in
    let rest = c.take_word.new.members in
    let same = same_error c.from_residual-in_err-token.result c.in_err-token.field-0.0 place c.from_residual-in_err-token.ensures.1 is in
    first_of_rest ms c.in_ok-payload.payload c.in_ok-entries.entries place c.in_ok-payload.ensures.ok (settled ms rest c.in_ok-entries.entries c.in_ok-payload.ensures.others c.in_ok-entries.ensures.ok)
    (c.in_err-token.ensures.refused place (ap Err same))

pub returns-in-None-clause-ok : goal.returns-in-None-clause-ok
returns-in-None-clause-ok c =
    let ms = c.args.members in
    let rest = c.take_word.new.members in
    let says = subst (Says IsWordTree (found_part ms Payload)) (sym c.in_ok-token.ensures.payload) c.in_ok-payload.ensures.ok in
    token_of_rest ms c.in_ok-token.token c.in_ok-entries.entries says (settled ms rest c.in_ok-entries.entries c.in_ok-payload.ensures.others c.in_ok-entries.ensures.ok) c.in_ok-token.ensures.ok c.in-None.is

pub returns-in-Some-clause-refused : goal.returns-in-Some-clause-refused
returns-in-Some-clause-refused c place is =
    let ms = c.args.members in
    let rest = c.take_word.new.members in
    let named : Stray c.in-Some.entry ≡ place = cc is in
    let says = subst (Says IsWordTree (found_part ms Payload)) (sym c.in_ok-token.ensures.payload) c.in_ok-payload.ensures.ok in
    stray_of_rest ms c.in_ok-token.token c.in_ok-entries.entries c.in-Some.entry place says (settled ms rest c.in_ok-entries.entries c.in_ok-payload.ensures.others c.in_ok-entries.ensures.ok) c.in_ok-token.ensures.ok c.in-Some.is (sym named)
