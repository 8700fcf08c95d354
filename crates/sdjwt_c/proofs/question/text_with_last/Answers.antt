-- The pieces of the text, one behind the other, are the text of the object with the member.
use Rattle.std.proofs.Common.{◌∙◌}
use Rattle.claim_tree.specs.View.{tree_of}
use Rattle.sdjwt_c.proofs.LastMember.{without_last, text_with_one_more}
use Rattle.sdjwt_c.proofs.question.text_with_last.Goals as goal

pub returns : goal.returns
returns c =
    let front = without_last c.into_string-text.result c.pop.new.self c.args.members (c.into_string-text.ensures ∙ c.in_ok-write.ensures.ok) c.pop.ensures.ascii_bytes in
    let pieces = text_with_one_more c.args.members c.args.name.now (tree_of c.args.last.now) c.requires.some in
    rw (
      c.from_string.ensures,
      c.in_ok-push_str-5.ensures.bytes,
      c.in_ok-push_str-4.ensures.bytes,
      c.in_ok-push_str-3.ensures.bytes,
      c.in_ok-push_str-2.ensures.bytes,
      c.in_ok-push_str.ensures.bytes,
      front,
      c.as_str.ensures,
      c.in_ok-name.ensures.ok,
      c.in_ok-make.ensures,
      c.as_str-3.ensures,
      c.in_ok-write-2.ensures.ok,
    ) pieces
