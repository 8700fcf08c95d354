use Rattle.std.proofs.Common.{◌≤◌, [], ◌∷◌, ◌++◌, length-append, append_assoc, sym, ap, subst, ◌∙◌, arith, rules}
use Rattle.std.proofs.lemmas.Slice.Zip.{all_zipped_more}
use Rattle.std.specs.List.{AllZip}
use Rattle.claim_tree.specs.Tree.{depth}
use Rattle.sd_outside.specs.Lists.{In}
use Rattle.verifier_core.specs.Verdict.{Gives}
use Rattle.verifier_core.proofs.CheckTests.{more_in, next_unread}
use Rattle.verifier_core.proofs.given_reading.read_given.Goals as goal

pub loop-i-init : goal.loop-i-init
loop-i-init c = record {
  ready = search rules;
  finite = search rules;
  done = [];
  stand = search rules;
  counted = search rules;
  read = rw c.in_ok-given.ensures tt;
  shallow = λ x there. absurd (subst (λ g. In x g) c.in_ok-given.ensures there);
}

pub loop-i-preserved : goal.loop-i-preserved
loop-i-preserved c =
    let l = c.loop-i.invariant in
    let text = c.in-Some.text.now in
    let adds = c.in_default.ensures.ok in
    record {
      ready = search rules;
      finite = search rules;
      done = l.done ++ text ∷ [];
      stand = l.stand ∙ (ap (λ w. l.done ++ w) c.in-Some.ensures.steps.0 ∙ sym (append_assoc l.done (text ∷ []) c.next.new.self.iter));
      counted = (let more = length-append l.done (text ∷ []) in omega (arith, more, l.counted, c.in-Some.ensures.steps.2));
      read = subst (λ g. AllZip (Gives c.args.hash) (l.done ++ text ∷ []) g) (sym adds.more) (all_zipped_more (Gives c.args.hash) l.done c.loop-i.given text adds.one l.read adds.gives);
      shallow = more_in (λ x. depth x.value ≤ 127) c.loop-i.given c.push_given.new.given adds.one adds.more l.shallow adds.shallow;
    }

pub returns-in-Err-clause-refused : goal.returns-in-Err-clause-refused
returns-in-Err-clause-refused c =
    let l = c.loop-i.invariant in
    let text = c.in-Some.text.now in
    rw c.unread.ensures
    (next_unread c.args.hash c.args.disclosures l.done c.next.new.self.iter c.in-Some.i text c.loop-i.given c.in-Err.error (l.stand ∙ ap (λ w. l.done ++ w) c.in-Some.ensures.steps.0)
    (c.in-Some.ensures.steps.1 ∙ l.counted) l.read c.in-Err.ensures.refused)
