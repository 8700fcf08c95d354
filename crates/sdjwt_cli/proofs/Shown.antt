-- The lines of the disclosures, one by one.
use Rattle.std.proofs.Common.{◌≡◌, ℕ, suc, ◌+◌, List, [], ◌∷◌, ◌++◌, length, sym, ap, ◌∙◌, arith, append_assoc, append-nil, codes}
use Rattle.std.proofs.lemmas.Slice.Zip.{AllZip-long}
use Rattle.std.specs.List.{AllZip}
use Rattle.claim_tree.specs.Tree.{Text, Tree}
use Rattle.claim_tree.specs.JsonText.{json_text}
use Rattle.json_form.specs.declared.token.Token.{Token}
use Rattle.json_form.specs.Token.{IsToken}
use Rattle.digest_sites.specs.Given.{Given}
use Rattle.disclosure.specs.declared.digests.HashAlg.{HashAlg}
use Rattle.verifier_core.specs.Verdict.{Gives}
use Rattle.cli_parts.specs.Lines.{line}
use Rattle.sdjwt_cli.specs.Split.{binding_line}
use Rattle.sdjwt_cli.specs.Show.{shown_line, shown_lines, IsHead, IsShownPayload, Shows}
use Rattle.sdjwt_cli.specs.ShowSteps.{AddsLine, AddsLines}

lines_more : (i : ℕ) (ss : List Given) (s : Given) → shown_lines i (ss ++ s ∷ []) ≡ shown_lines i ss ++ shown_line (i + length ss) s
lines_more i [] s = let same : i + 0 ≡ i = omega arith in rw same (append-nil (shown_line i s))
lines_more i (t ∷ ss) s =
    let rest = lines_more (i + 1) ss s in
    let same : i + 1 + length ss ≡ i + suc (length ss) = omega arith in
    ap (λ w. shown_line i t ++ w) (rest ∙ ap (λ n. shown_lines (i + 1) ss ++ shown_line n s) same) ∙ sym (append_assoc (shown_line i t) _ _)

-- one line more, at its number
pub line_more : (hash : HashAlg) (old text new : Text) (xs : List Text) (ss : List Given) (x : Text) (i : ℕ) (adds : AddsLine hash i x text new) → AllZip (Gives hash) xs ss → i ≡ length xs → text ≡ old ++ shown_lines 0 ss → new ≡ old ++ shown_lines 0 (ss ++ adds.shown ∷ [])
line_more hash old text new xs ss x i adds all at before =
    let same : i ≡ length ss = at ∙ sym (AllZip-long (Gives hash) xs ss all) in
    let place : i ≡ 0 + length ss = omega (arith, same) in
    let more : shown_lines 0 (ss ++ adds.shown ∷ []) ≡ shown_lines 0 ss ++ shown_line i adds.shown = lines_more 0 ss adds.shown ∙ ap (λ n. shown_lines 0 ss ++ shown_line n adds.shown) (sym place) in
    adds.more ∙ (ap (λ t. t ++ shown_line i adds.shown) before ∙ (append_assoc old (shown_lines 0 ss) (shown_line i adds.shown) ∙ ap (λ t. old ++ t) (sym more)))

regrouped : (a b c d : Text) → ((a ++ b) ++ c) ++ d ≡ a ++ (b ++ (c ++ d))
regrouped a b c d = simp append_assoc

-- the lines of a token, put one behind the other
pub shows : (hash : HashAlg) (file : List ℕ) (token : Token) (header payload : Tree) (start more answer : Text) → IsToken file token → IsHead token.parts.signed.protected token.outer header → IsShownPayload token.parts.signed.payload payload hash
    → start ≡ line (codes "header " ++ json_text header) ++ line (codes "payload " ++ json_text payload) → AddsLines hash token.parts.disclosures start more → answer ≡ more ++ binding_line token.parts.binding → Shows file answer
shows hash file token header payload start more answer reads head body begun adds ended =
    let first = line (codes "header " ++ json_text header) in
    let second = line (codes "payload " ++ json_text payload) in
    let middle : more ≡ (first ++ second) ++ shown_lines 0 adds.shown = adds.more ∙ ap (λ (t : Text). t ++ shown_lines 0 adds.shown) begun in
    record {
      token = token;
      reads = reads;
      header = header;
      head = head;
      payload = payload;
      hash = hash;
      body = body;
      shown = adds.shown;
      disclosures = adds.are;
      lines = ended ∙ (ap (λ (t : Text). t ++ binding_line token.parts.binding) middle ∙ regrouped first second (shown_lines 0 adds.shown) (binding_line token.parts.binding));
    }
