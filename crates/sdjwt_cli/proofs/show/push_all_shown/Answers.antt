use Rattle.std.proofs.Common.{[], ◌∷◌, ◌++◌, length, length-append, string_bytes, append_assoc, append-nil, sym, ap, ◌∙◌, arith, rules}
use Rattle.std.proofs.lemmas.Slice.Zip.{all_zipped_more}
use Rattle.refusals.specs.Faults.{placed}
use Rattle.refusals.specs.declared.condition.Condition.{Condition}
use Rattle.verifier_core.specs.Verdict.{Gives}
use Rattle.verifier_core.proofs.CheckTests.{unread_of}
use Rattle.cli_parts.proofs.Stopped.{of_fault}
use Rattle.sdjwt_cli.specs.ShowSteps.{IsUnread}
use Rattle.sdjwt_cli.proofs.ShowVerdicts.{first_unread}
use Rattle.sdjwt_cli.proofs.Shown.{line_more}
use Rattle.sdjwt_cli.proofs.show.push_all_shown.Goals as goal

pub loop-i-init : goal.loop-i-init
loop-i-init c = record {
  ready = search rules;
  finite = search rules;
  done = [];
  shown = [];
  are = tt;
  stand = search rules;
  counted = search rules;
  so_far = sym (append-nil (string_bytes c.args.text.now));
}

pub loop-i-preserved : goal.loop-i-preserved
loop-i-preserved c =
    let l = c.loop-i.invariant in
    let part = c.in-Some.part.now in
    let adds = c.in-Ok.ensures.ok in
    record {
      ready = search rules;
      finite = search rules;
      done = l.done ++ part ∷ [];
      shown = l.shown ++ adds.shown ∷ [];
      are = all_zipped_more (Gives c.args.hash) l.done l.shown part adds.shown l.are adds.is;
      stand = l.stand ∙ (ap (λ w. l.done ++ w) c.in-Some.ensures.steps.0 ∙ sym (append_assoc l.done (part ∷ []) c.next.new.self.iter));
      counted = (let more = length-append l.done (part ∷ []) in omega (arith, more, l.counted, c.in-Some.ensures.steps.2));
      so_far = line_more c.args.hash (string_bytes c.args.text.now) (string_bytes c.loop-i.text) (string_bytes c.push_shown.new.text) l.done l.shown part c.in-Some.i adds l.are (c.in-Some.ensures.steps.1 ∙ l.counted) l.so_far;
    }

pub returns-in-Err-clause-unread : goal.returns-in-Err-clause-unread
returns-in-Err-clause-unread c =
    let l = c.loop-i.invariant in
    let part = c.in-Some.part.now in
    let unread = unread_of part c.in-Err.field-0 c.in-Err.ensures.refused (search rules) in
    of_fault (IsUnread c.args.disclosures) c.fault_at.result
    (record {
      i = length l.done;
      first = first_unread c.args.hash l.done c.next.new.self.iter l.shown part _ l.are (l.stand ∙ ap (λ w. l.done ++ w) c.in-Some.ensures.steps.0) unread;
      fault_is = c.fault_at.ensures ∙ ap (placed Condition.DisclosureUnreadable) (c.in-Some.ensures.steps.1 ∙ l.counted);
    })
    c.refused.result c.refused.ensures.line
