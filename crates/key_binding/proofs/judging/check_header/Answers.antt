use Rattle.std.proofs.Common.{refl, sym, subst, ◌∙◌}
use Rattle.refusals.specs.declared.condition.Condition.{Condition}
use Rattle.key_binding.specs.CallerSeen.{Tells}
use Rattle.key_binding.specs.JudgedSteps.{judged_of, IsAlgRefusedBy, IsUnknownBy, IsBadBy}
use Rattle.key_binding.proofs.BindingSteps.{refuse, at28, at29, at30, at_type, at32}
use Rattle.key_binding.proofs.HolderSteps.{known_refused, alg_refused, alg_taken, known_by, bad_by, good_by}
use Rattle.key_binding.proofs.BindingTests.{no_truth}
use Rattle.key_binding.proofs.judging.check_header.Goals as goal

pub returns-then-is_alg_refused-clause-refused : goal.returns-then-is_alg_refused-clause-refused
returns-then-is_alg_refused-clause-refused c =
    let j = judged_of c.args.bound in
    let h = c.args.header.now in
    let refused = subst (IsAlgRefusedBy c.args.holder) c.as_str.ensures (c.is_alg_refused.ensures.0 c.if-is_alg_refused.true) in
    let known = known_refused j j.rules.holders c.args.holder c.requires.holder h c.requires.read refused in
    refuse j Condition.BindingAlg (at29 j (at28 j known) h c.requires.read) (refl, (h, c.requires.read, alg_refused j j.rules.holders c.args.holder c.requires.holder h.alg refused))

pub returns-in-Ok-Bad-clause-refused : goal.returns-in-Ok-Bad-clause-refused
returns-in-Ok-Bad-clause-refused c =
    let j = judged_of c.args.bound in
    let h = c.args.header.now in
    let told = subst (λ answer. Tells answer (IsUnknownBy c.args.holder j.token) (IsBadBy c.args.holder j.token)) c.in-Ok-Bad.field-0-is c.in-Ok-Bad.ensures in
    let known = known_by j j.rules.holders c.args.holder c.requires.holder told.0 in
    let taken = alg_taken j j.rules.holders c.args.holder c.requires.holder h.alg
    (λ refused. no_truth _ c.if-is_alg_refused.false (c.is_alg_refused.ensures.1 (subst (IsAlgRefusedBy c.args.holder) (sym c.as_str.ensures) refused))) in
    refuse j Condition.BindingSignature (at30 j (at29 j (at28 j known) h c.requires.read) h c.requires.read taken) (refl, bad_by j j.rules.holders c.args.holder c.requires.holder told.1)

pub returns-then-not-is_binding_type-clause-refused : goal.returns-then-not-is_binding_type-clause-refused
returns-then-not-is_binding_type-clause-refused c =
    let j = judged_of c.args.bound in
    let h = c.args.header.now in
    let told = subst (λ answer. Tells answer (IsUnknownBy c.args.holder j.token) (IsBadBy c.args.holder j.token)) c.in-Ok-Good.field-0-is c.in-Ok-Good.ensures in
    let known = known_by j j.rules.holders c.args.holder c.requires.holder told.0 in
    let good = good_by j j.rules.holders c.args.holder c.requires.holder told.1 in
    let taken = alg_taken j j.rules.holders c.args.holder c.requires.holder h.alg
    (λ refused. no_truth _ c.if-is_alg_refused.false (c.is_alg_refused.ensures.1 (subst (IsAlgRefusedBy c.args.holder) (sym c.as_str.ensures) refused))) in
    refuse j Condition.BindingType (at_type j known h c.requires.read taken good)
    (refl, (h, c.requires.read, λ typ. no_truth _ c.if-not-is_binding_type.true (c.is_binding_type.ensures.1 (c.as_ref.ensures.value ∙ typ))))

pub returns-clause-ok : goal.returns-clause-ok
returns-clause-ok c =
    let j = judged_of c.args.bound in
    let h = c.args.header.now in
    let told = subst (λ answer. Tells answer (IsUnknownBy c.args.holder j.token) (IsBadBy c.args.holder j.token)) c.in-Ok-Good.field-0-is c.in-Ok-Good.ensures in
    let known = known_by j j.rules.holders c.args.holder c.requires.holder told.0 in
    let good = good_by j j.rules.holders c.args.holder c.requires.holder told.1 in
    let taken = alg_taken j j.rules.holders c.args.holder c.requires.holder h.alg
    (λ refused. no_truth _ c.if-is_alg_refused.false (c.is_alg_refused.ensures.1 (subst (IsAlgRefusedBy c.args.holder) (sym c.as_str.ensures) refused))) in
    at32 j (at_type j known h c.requires.read taken good) h c.requires.read (sym c.as_ref.ensures.value ∙ c.is_binding_type.ensures.0 c.if-not-is_binding_type.false)
