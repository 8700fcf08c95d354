-- For private functions: why a payload is not read.
use Rattle.b64url_text.specs.declared.errors.DecodeError.{DecodeError}
use Rattle.claim_tree.specs.declared.text.ReadError.{ReadError}
use Rattle.jws_part.specs.declared.body.BodyError.{BodyError}

-- the answer for a text that is not decoded, or not read
abbrev pub body_undecoded : DecodeError → BodyError
body_undecoded DecodeError.Memory = BodyError.Memory
body_undecoded DecodeError.NotBase64 = BodyError.Unreadable

abbrev pub body_unread : ReadError → BodyError
body_unread ReadError.Memory = BodyError.Memory
body_unread _ = BodyError.Unreadable
