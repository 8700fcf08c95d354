-- For private functions: why a header is not read.
use Rattle.std.specs.Prelude.{Option, Some, None}
use Rattle.claim_tree.specs.Tree.{Text, Members, inserted}
use Rattle.jws_part.specs.declared.body.BodyError.{BodyError}
use Rattle.jws_part.specs.declared.header.HeaderError.{HeaderError}
use Rattle.jws_part.specs.Header.{text_tree}

-- for private functions: the members, with the text put under the name, where it is some
abbrev pub with_text : Members → Text → Option Text → Members
with_text ms name None = ms
with_text ms name (Some s) = inserted ms name (text_tree s)

-- for conversions: the answer for a header that is not read
abbrev pub unread_header : BodyError → HeaderError
unread_header BodyError.Memory = HeaderError.Memory
unread_header BodyError.Unreadable = HeaderError.Unreadable
