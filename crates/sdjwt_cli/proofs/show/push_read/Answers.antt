use Rattle.std.proofs.Common.{◌≡◌, ◌++◌, OnOk, string_bytes, subst, ◌∙◌, refl}
use Rattle.claim_tree.specs.JsonText.{json_text}
use Rattle.claim_tree.specs.View.{tree_of}
use Rattle.disclosure.specs.Digest.{digest_of}
use Rattle.sdjwt_cli.specs.Show.{kind_text}
use Rattle.sdjwt_cli.proofs.show.push_read.Goals as goal

pub returns : goal.returns
returns c =
    let d = c.args.read.now in
    let digest : c.as_str.result.now ≡ digest_of c.args.hash c.args.part.now = c.as_str.ensures ∙ c.in_ok-digest.ensures in
    let kind : c.as_str-2.result.now ≡ kind_text d.name = c.as_str-2.ensures.value ∙ c.in_ok-kind.ensures in
    let value : c.as_str-3.result.now ≡ json_text (tree_of d.value) = c.as_str-3.ensures ∙ c.in_ok-value.ensures.ok in
    subst (λ t. OnOk c.push_line.result (string_bytes c.push_line.new.text ≡ string_bytes c.args.text.now ++ t)) (rw (digest, kind, value) refl) c.push_line.ensures
