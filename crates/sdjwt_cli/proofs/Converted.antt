-- What `convert` writes is read as what it keeps of a token.
use Rattle.std.proofs.Common.{◌≡◌, ◌≤◌, ℕ, List, length, refl, sym, ap, subst, ◌∙◌}
use Rattle.claim_tree.specs.Tree.{Tree, object, Members, no_members}
use Rattle.sd_outside.specs.Limits.{file_max}
use Rattle.json_form.specs.declared.token.Token.{Token}
use Rattle.json_form.specs.Token.{IsToken}
use Rattle.json_form.specs.Written.{flat_of, general_of}
use Rattle.json_form.specs.Printable.{IsPrintable}
use Rattle.json_form.proofs.Lines.{read_compact_line, read_json_line}
use Rattle.sdjwt_cli.specs.declared.form.Form.{Form}
use Rattle.sdjwt_cli.specs.declared.form.Form.TheVariants.{Compact, Flat, General}
use Rattle.cli_parts.specs.Lines.{line}
use Rattle.sdjwt_cli.specs.Converting.{written, kept_in, HasRoom, Converts}
use Rattle.sdjwt_cli.specs.ConvertingSteps.{IsJsonOf}
use Rattle.verifier_core.proofs.SameVerdict.{few}

abbrev members_of : Tree → Members
members_of (object ms) = ms
members_of _ = no_members

read_back : (form : Form) (file : List ℕ) (token : Token) → IsToken file token → IsPrintable token → IsJsonOf form token (written form token) → length (line (written form token)) ≤ file_max
    → IsToken (line (written form token)) (kept_in form token)
read_back Compact file token reads good is short = read_compact_line token.parts good.words (few file token reads)
read_back Flat file token reads good is short = read_json_line token (members_of (flat_of token)) is short (few file token reads)
read_back General file token reads good is short = read_json_line token (members_of (general_of token)) is short (few file token reads)

pub converts : (form : Form) (file : List ℕ) (token : Token) (text answer : List ℕ) → IsToken file token → IsPrintable token → text ≡ written form token → (HasRoom form token → IsJsonOf form token text)
    → answer ≡ line text → length answer ≤ file_max → Converts form file answer
converts form file token text answer reads good is back line_is short =
    let whole : answer ≡ line (written form token) = line_is ∙ ap line is in
    record {
      token = token;
      reads = reads;
      line_is = whole;
      short = short;
      back = λ room. subst (λ (x : List ℕ). IsToken x (kept_in form token)) (sym whole)
          (read_back form file token reads good (subst (IsJsonOf form token) is (back room)) (subst (λ (x : List ℕ). length x ≤ file_max) whole short));
    }

-- ---- the same form again

kept_again : (form : Form) (token : Token) → written form (kept_in form token) ≡ written form token
kept_again Compact token = refl
kept_again Flat token = refl
kept_again General token = refl

kept_twice : (form : Form) (token : Token) → kept_in form (kept_in form token) ≡ kept_in form token
kept_twice Compact token = refl
kept_twice Flat token = refl
kept_twice General token = refl

pub converted_again : (form : Form) (file answer : List ℕ) (read : Converts form file answer) → HasRoom form read.token → Converts form answer answer
converted_again form file answer read room =
    record {
      token = kept_in form read.token;
      reads = read.back room;
      line_is = read.line_is ∙ ap line (sym (kept_again form read.token));
      short = read.short;
      back = λ again. subst (IsToken answer) (sym (kept_twice form read.token)) (read.back room);
    }
