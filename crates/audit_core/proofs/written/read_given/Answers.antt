use Rattle.std.proofs.Common.{◌≤◌, [], ◌∷◌, ◌++◌, append_assoc, sym, ap, subst, ◌∙◌, rules}
use Rattle.std.proofs.lemmas.Slice.Zip.{all_zipped_more}
use Rattle.std.specs.List.{AllZip}
use Rattle.claim_tree.specs.Tree.{depth}
use Rattle.sd_outside.specs.Lists.{In}
use Rattle.digest_sites.specs.GivenView.{given_of}
use Rattle.audit_core.specs.Audited.{GivesSalted}
use Rattle.audit_core.proofs.Writtens.{one_unsalted, values_more}
use Rattle.audit_core.proofs.written.read_given.Goals as goal

pub loop-text-preserved : goal.loop-text-preserved
loop-text-preserved c =
    let l = c.loop-text.invariant in
    let text = c.in-Some.text.now in
    let one = given_of c.in-Some-2.one in
    let some = rw c.in-Some-2.is at c.in_ok-one.ensures.some in
    let shallow = rw c.in-Some-2.is at c.in_ok-one.ensures.depth in
    let more = sym c.in_ok-push-in-Some-2.ensures.ok in
    let s = c.in-Some.ensures.steps in
    record {
      ready = search rules;
      finite = search rules;
      done = l.done ++ text ∷ [];
      stand = l.stand ∙ ap (λ w. l.done ++ w) s ∙ sym (append_assoc l.done (text ∷ []) c.next.new.self);
      read = subst (λ g. AllZip (GivesSalted c.args.hash) (l.done ++ text ∷ []) g) more (all_zipped_more (GivesSalted c.args.hash) l.done c.loop-text.given text one l.read some);
      shallow = subst (λ g. (x : _) → In x g → depth x.value ≤ 127) more (values_more c.loop-text.given one l.shallow shallow);
    }

pub returns-in-None-2-clause-none : goal.returns-in-None-2-clause-none
returns-in-None-2-clause-none c = λ given z.
    let l = c.loop-text.invariant in
    let none = rw c.in-None-2.is at c.in_ok-one.ensures.none in
    one_unsalted c.args.hash l.done c.in-Some.text.now c.next.new.self none given
    (subst (λ ds. AllZip (GivesSalted c.args.hash) ds given) (l.stand ∙ ap (λ w. l.done ++ w) c.in-Some.ensures.steps) z)
