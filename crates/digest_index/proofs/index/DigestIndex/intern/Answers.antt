use Rattle.std.proofs.Common.{sym, ap, ◌∙◌}
use Rattle.digest_index.specs.Index.{position_of, position_or_end, interned}
use Rattle.digest_index.proofs.Keys.{position_or_end-texts, inserted-texts, at_err, absent-text, distinct-inserted}
use Rattle.digest_index.proofs.index.DigestIndex.intern.Goals as goal

pub invariant_of-self-2 : goal.invariant_of-self-2
invariant_of-self-2 c = distinct-inserted c.args.text c.self.inside.texts.keys c.insert_full.new.self.keys c.in_ok-position.ensures.keys c.self.invariant

pub returns-clause-position : goal.returns-clause-position
returns-clause-position c = c.in_ok-position.ensures.index ∙ position_or_end-texts c.args.text.now c.self.inside.texts.keys ∙ ap (position_or_end c.args.text.now) c.self.view_is

pub returns-clause-ok : goal.returns-clause-ok
returns-clause-ok c = inserted-texts c.args.text c.self.inside.texts.keys c.insert_full.new.self.keys c.in_ok-position.ensures.keys ∙ ap (interned c.args.text.now) c.self.view_is

pub returns-clause-distinct : goal.returns-clause-distinct
returns-clause-distinct c = distinct-inserted c.args.text c.self.inside.texts.keys c.insert_full.new.self.keys c.in_ok-position.ensures.keys c.self.invariant

pub returns-in_err-position-clause-only_new : goal.returns-in_err-position-clause-only_new
returns-in_err-position-clause-only_new c =
    at_err c.from_residual.result (ap (position_of c.args.text.now) (sym c.self.view_is) ∙ absent-text c.args.text c.self.inside.texts.keys c.in_err-position.ensures.absent)
