use Rattle.std.proofs.Common.{Err, ap, subst, ◌∙◌}
use Rattle.claim_tree.specs.Tree.{Members}
use Rattle.claim_tree.specs.TreeValues.{MaySay}
use Rattle.claim_tree.specs.Removed.{removed}
use Rattle.refusals.specs.PartWords.{part_word}
use Rattle.refusals.specs.declared.fault.Part.TheVariants.{Protected, Signature, Header, KbJwt}
use Rattle.json_form.specs.Json.{IsJwtTree, IsObjectOf}
use Rattle.json_form.specs.JsonPlaces.{IsNoWord, IsWrongMember}
use Rattle.json_form.proofs.SayOrFail.{both_said, no_signature, header_kept, header_said, binding_kept, wrong_at, same_place, same_error, first_protected, first_signature, first_header, first_disclosures, first_kb_jwt}
use Rattle.json_form.proofs.signature_entry.read_entry.Goals as goal

pub returns-in_err-protected-clause-refused : goal.returns-in_err-protected-clause-refused
returns-in_err-protected-clause-refused c place is =
    let same = same_place c.from_residual.result c.in_err-protected.field-0.0 place c.from_residual.ensures.1 is in
    first_protected c.args.entry place (subst (IsNoWord c.args.entry Protected) same c.in_err-protected.ensures.refused)

pub returns-in_err-signature-clause-refused : goal.returns-in_err-signature-clause-refused
returns-in_err-signature-clause-refused c place is =
    let after = c.take_word.new.members in
    let same = same_place c.from_residual-in_err-signature.result c.in_err-signature.field-0.0 place c.from_residual-in_err-signature.ensures.1 is in
    first_signature c.args.entry c.in_ok-protected.protected place c.in_ok-protected.ensures.ok
    (no_signature c.args.entry after place c.in_ok-protected.ensures.others (subst (IsNoWord after Signature) same c.in_err-signature.ensures.refused))

pub returns-in_err-outer-clause-refused : goal.returns-in_err-outer-clause-refused
returns-in_err-outer-clause-refused c place is =
    let both = both_said c.args.entry c.take_word.new.members c.in_ok-protected.protected c.in_ok-signature.signature c.in_ok-protected.ensures.others c.in_ok-protected.ensures.ok c.in_ok-signature.ensures.ok in
    let kept = header_kept c.args.entry c.take_word.new.members c.take_word-2.new.members c.in_ok-protected.ensures.others c.in_ok-signature.ensures.others in
    let same = same_place c.from_residual-in_err-outer.result c.in_err-outer.field-0.0 place c.from_residual-in_err-outer.ensures.1 is in
    first_header c.args.entry c.in_ok-protected.protected c.in_ok-signature.signature place both
    (wrong_at IsObjectOf c.take_word-2.new.members c.args.entry Header place kept (subst (IsWrongMember IsObjectOf c.take_word-2.new.members Header) same c.in_err-outer.ensures.refused))

pub returns-in_err-disclosures-clause-refused : goal.returns-in_err-disclosures-clause-refused
returns-in_err-disclosures-clause-refused c place is =
    let both = both_said c.args.entry c.take_word.new.members c.in_ok-protected.protected c.in_ok-signature.signature c.in_ok-protected.ensures.others c.in_ok-protected.ensures.ok c.in_ok-signature.ensures.ok in
    let says = header_said c.args.entry c.take_word.new.members c.take_word-2.new.members c.in_ok-outer.outer c.in_ok-protected.ensures.others c.in_ok-signature.ensures.others c.in_ok-outer.ensures.ok in
    let same = same_error c.from_residual-in_err-disclosures.result c.in_err-disclosures.field-0.0 place c.from_residual-in_err-disclosures.ensures.1 is in
    first_disclosures c.args.entry c.in_ok-protected.protected c.in_ok-signature.signature c.in_ok-outer.outer place both says (c.in_err-disclosures.ensures.refused place (ap Err same))

pub returns-in_err-binding-clause-refused : goal.returns-in_err-binding-clause-refused
returns-in_err-binding-clause-refused c place is =
    let both = both_said c.args.entry c.take_word.new.members c.in_ok-protected.protected c.in_ok-signature.signature c.in_ok-protected.ensures.others c.in_ok-protected.ensures.ok c.in_ok-signature.ensures.ok in
    let says = header_said c.args.entry c.take_word.new.members c.take_word-2.new.members c.in_ok-outer.outer c.in_ok-protected.ensures.others c.in_ok-signature.ensures.others c.in_ok-outer.ensures.ok in
    let k = c.in_ok-outer.outer in
    let rest = c.take_disclosures.new.header in
    let same = same_error c.from_residual-in_err-binding.result c.in_err-binding.field-0.0 place c.from_residual-in_err-binding.ensures.1 is in
    let wrong = wrong_at IsJwtTree rest k KbJwt place (binding_kept k rest c.in_ok-disclosures.ensures.others) (c.in_err-binding.ensures.refused place (ap Err same)) in
    first_kb_jwt c.args.entry c.in_ok-protected.protected c.in_ok-signature.signature k c.in_ok-disclosures.disclosures place both says c.in_ok-disclosures.ensures.ok wrong

pub returns-clause-ok : goal.returns-clause-ok
returns-clause-ok c =
    let both = both_said c.args.entry c.take_word.new.members c.in_ok-protected.protected c.in_ok-signature.signature c.in_ok-protected.ensures.others c.in_ok-protected.ensures.ok c.in_ok-signature.ensures.ok in
    let k = c.in_ok-outer.outer in
    let rest = c.take_disclosures.new.header in
    record {
      protected = both.protected;
      signature = both.signature;
      header = k;
      unprotected = header_said c.args.entry c.take_word.new.members c.take_word-2.new.members k c.in_ok-protected.ensures.others c.in_ok-signature.ensures.others c.in_ok-outer.ensures.ok;
      says = record {
        disclosures = c.in_ok-disclosures.ensures.ok;
        binding = subst (λ t. MaySay IsJwtTree t c.in_ok-binding.binding) (binding_kept k rest c.in_ok-disclosures.ensures.others) c.in_ok-binding.ensures.ok;
        outer = c.in_ok-binding.ensures.others ∙ ap (λ (ms : Members). removed ms (part_word KbJwt)) c.in_ok-disclosures.ensures.others;
      };
    }
