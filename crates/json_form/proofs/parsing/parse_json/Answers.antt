use Rattle.std.proofs.Common.{◌≡◌, ◌≤◌, sym, subst}
use Rattle.std.proofs.lemmas.Result.{IfOk-weaker}
use Rattle.claim_tree.specs.Tree.{depth}
use Rattle.claim_tree.specs.View.{tree_of}
use Rattle.claim_tree.specs.Kept.{ReadsKept}
use Rattle.refusals.specs.PartWords.{part_word}
use Rattle.refusals.specs.declared.fault.JsonPlace.TheVariants.{NotObject}
use Rattle.refusals.specs.declared.fault.Part.TheVariants.{Header}
use Rattle.json_form.specs.Json.{IsJson}
use Rattle.json_form.specs.MembersRead.{MembersSay}
use Rattle.json_form.specs.Printable.{IsPrintable}
use Rattle.json_form.proofs.WrittenForms.{printable}
use Rattle.json_form.proofs.Members.{no_object}
use Rattle.json_form.proofs.KeptForms.{form_names, as_form, kept_json, kept_place, kept_no_object}
use Rattle.json_form.proofs.parsing.parse_json.Goals as goal

pub returns-in_default : goal.returns-in_default
returns-in_default c =
    record {
      ok = tt;
      printable = tt;
      fault = λ place is.
          let named : NotObject ≡ place = cc is in
          let reads = as_form _ _ _ _ _ _ _ c.word.ensures c.word-2.ensures c.word-3.ensures c.word-4.ensures c.word-header.ensures c.in_ok-tree.ensures.ok in
          kept_no_object c.args.text.now (tree_of c.in_ok-tree.tree) place (sym named) reads (no_object c.in_ok-tree.tree c.in_default.not-Object);
    }

pub returns-clause-ok : goal.returns-clause-ok
returns-clause-ok c =
    let reads = as_form _ _ _ _ _ _ _ c.word.ensures c.word-2.ensures c.word-3.ensures c.word-4.ensures c.word-header.ensures c.in_ok-tree.ensures.ok in
    let here = subst (λ t. ReadsKept form_names (part_word Header) c.args.text.now (tree_of t)) c.in-Object.is reads in
    IfOk-weaker c.token_of.result (MembersSay c.in-Object.members) (λ token. IsJson token c.args.text.now) (λ token says. kept_json c.args.text.now c.in-Object.members token here says) c.token_of.ensures.ok

pub returns-clause-fault : goal.returns-clause-fault
returns-clause-fault c place is =
    let reads = as_form _ _ _ _ _ _ _ c.word.ensures c.word-2.ensures c.word-3.ensures c.word-4.ensures c.word-header.ensures c.in_ok-tree.ensures.ok in
    let here = subst (λ t. ReadsKept form_names (part_word Header) c.args.text.now (tree_of t)) c.in-Object.is reads in
    kept_place c.args.text.now c.in-Object.members place here (c.token_of.ensures.refused place is)

pub returns-clause-printable : goal.returns-clause-printable
returns-clause-printable c =
    let low = subst (λ t. depth (tree_of t) ≤ 127) c.in-Object.is c.in_ok-tree.ensures.depth in
    IfOk-weaker c.token_of.result (MembersSay c.in-Object.members) IsPrintable (λ token says. printable c.in-Object.members token says low) c.token_of.ensures.ok
