use Rattle.std.proofs.Common.{◌≡◌, Ok, Err, inl, refl, ap}
use Rattle.verifier_core.specs.declared.token_checking.VerifyError.{VerifyError}
use Rattle.verifier_core.proofs.Contents.{open_refused, is_opened, verdict_of}
use Rattle.verifier_core.proofs.verdict.judged.Goals as goal

pub returns-in-Err-clause-refused : goal.returns-in-Err-clause-refused
returns-in-Err-clause-refused g c = c.in-Err.ensures.refused c.args.now

pub returns-in-Err-clause-verdict : goal.returns-in-Err-clause-verdict
returns-in-Err-clause-verdict g c = record {
  no_memory = λ failed is. (let same : c.in-Err.error ≡ VerifyError.Memory = cc is in c.in-Err.ensures.no_memory failed (ap Err same));
  counted = tt;
  within = inl refl;
  uncounted = λ condition place fails low. refl;
}

pub returns-in-Err-open-clause-refused : goal.returns-in-Err-open-clause-refused
returns-in-Err-open-clause-refused g c = open_refused _ _ _ _ c.in-Ok.ensures.read c.args.now _ (λ t rules is. (c.in-Err-open.ensures.opened t rules is).refused)

pub returns-in-Err-open-clause-verdict : goal.returns-in-Err-open-clause-verdict
returns-in-Err-open-clause-verdict g c = verdict_of _ _ _ _ c.in-Ok.ensures.read c.args.now (Err c.in-Err-open.error) _ _ tt (λ t rules is. (c.in-Err-open.ensures.opened t rules is).within)

pub returns-in-Err-check_shown-clause-refused : goal.returns-in-Err-check_shown-clause-refused
returns-in-Err-check_shown-clause-refused g c =
    let told = c.in-Ok-open.ensures.checked c.in-Ok.read.0 c.args.demands.now.rules c.in-Ok.ensures.read.is_content in
    c.in-Err-check_shown.ensures.refused c.args.text.now told.0 (is_opened _ _ _ _ c.in-Ok.ensures.read _ _ told.1 c.hash-hash.ensures) (c.payload.ensures told.0 told.2)

pub returns-in-Err-check_shown-clause-verdict : goal.returns-in-Err-check_shown-clause-verdict
returns-in-Err-check_shown-clause-verdict g c = verdict_of _ _ _ _ c.in-Ok.ensures.read c.args.now (Err c.in-Err-check_shown.error) _ _ tt (λ t rules is. (c.in-Ok-open.ensures.opened t rules is).within)

pub returns-clause-accepted : goal.returns-clause-accepted
returns-clause-accepted g c =
    let told = c.in-Ok-open.ensures.checked c.in-Ok.read.0 c.args.demands.now.rules c.in-Ok.ensures.read.is_content in
    (told.0, c.in_default.ensures.accepted c.args.text.now told.0 (is_opened _ _ _ _ c.in-Ok.ensures.read _ _ told.1 c.hash-hash.ensures) (c.payload.ensures told.0 told.2), told.2)

pub returns-clause-verdict : goal.returns-clause-verdict
returns-clause-verdict g c =
    let counted = (c.in-Ok-open.ensures.opened c.in-Ok.read.0 c.args.demands.now.rules c.in-Ok.ensures.read.is_content).counted in
    verdict_of _ _ _ _ c.in-Ok.ensures.read c.args.now (Ok c.in-Ok-open.opened) _ _ counted (λ t rules is. (c.in-Ok-open.ensures.opened t rules is).within)
