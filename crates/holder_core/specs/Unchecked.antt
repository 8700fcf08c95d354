-- For private functions: the answer for a token that is not checked.
use Rattle.verifier_core.specs.declared.token_checking.VerifyError.{VerifyError}
use Rattle.holder_core.specs.declared.errors.PresentError.{PresentError}

abbrev pub unchecked : VerifyError → PresentError
unchecked VerifyError.Memory = PresentError.Memory
unchecked (VerifyError.Fault fault) = PresentError.Token fault
