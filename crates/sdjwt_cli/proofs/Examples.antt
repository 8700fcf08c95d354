-- Worked values, by the definitions.
use Rattle.std.proofs.Common.{◌≡◌, [], ◌∷◌, Option, Some, None, codes, inl, refl, sym, arith}
use Rattle.std.specs.Fmt.{digits}
use Rattle.json.specs.Print.{escape_byte}
use Rattle.b64url_text.specs.Base64url.{letters, is_letter}
use Rattle.claim_tree.specs.Tree.{Text, Tree, leaf, text, object, Members, no_members, member}
use Rattle.refusals.specs.Faults.{placed, unplaced}
use Rattle.refusals.specs.declared.condition.Condition.{Condition}
use Rattle.compact_form.specs.declared.parts.Parts.{Parts}
use Rattle.compact_form.specs.Compact.{IsCompact}
use Rattle.compact_form.proofs.Examples.{bound, presented, no_tilde}
use Rattle.compact_form.proofs.Verdicts.{reads, refused_form}
use Rattle.json_form.specs.Token.{IsTextRefused, IsToken}
use Rattle.json_form.specs.declared.token.Token.{Token}
use Rattle.json_form.proofs.Tokens.{refused_plainly, read_plainly}
use Rattle.disclosure.specs.Digest.{payload_hash}
use Rattle.disclosure.specs.declared.digests.HashAlg.{HashAlg}
use Rattle.disclosure.proofs.Examples.{salt, value, a_disclosure, its_digest}
use Rattle.jws_part.proofs.Examples.{alg_alone, a_head, a_header, sd_alg_alone, a_body}
use Rattle.jws_part.proofs.Headers.{read_not_unreadable}
use Rattle.file_members.specs.declared.field.Field.TheVariants.{Keys}
use Rattle.file_members.specs.declared.file_fault.FileFault.TheVariants.{NotJson, Missing}
use Rattle.holder_core.specs.declared.errors.PresentError.TheVariants.{HasBinding, ConsentRefused}
use Rattle.issuer_core.specs.declared.errors.IssueError.TheVariants.{ReservedName, DigestClash, TooLong as IssueTooLong}
use Rattle.issuer_core.specs.RefusalLine.{issue_refusal_text}
use Rattle.sdjwt_cli.specs.declared.form.Form.TheVariants.{Compact, Flat, General}
use Rattle.sdjwt_cli.specs.Command.{split, verify, issue, present, convert, command_of}
use Rattle.cli_parts.specs.Lines.{line, refusal, unread_text, unreadable_line, short_seed}
use Rattle.selection_core.specs.Never.{MayBeShown}
use Rattle.holder_core.specs.PresentRefusal.{present_refusal_text}
use Rattle.sdjwt_cli.specs.Split.{Splits}
use Rattle.digest_sites.specs.Given.{Given}
use Rattle.sdjwt_cli.specs.Show.{show_lines, Shows}
use Rattle.sdjwt_cli.specs.Converting.{written}
use Rattle.cli_parts.specs.Telling.{TellsFault}

-- ---- the words

a_command : command_of (codes "split" ∷ codes "token.txt" ∷ []) ≡ Some (split (codes "token.txt"))
a_command = refl

no_command : command_of (codes "join" ∷ codes "token.txt" ∷ []) ≡ None
no_command = refl

of_two_files : command_of (codes "verify" ∷ codes "policy.json" ∷ codes "token.txt" ∷ []) ≡ Some (verify (codes "policy.json") (codes "token.txt"))
of_two_files = refl

of_an_order : command_of (codes "issue" ∷ codes "order.json" ∷ codes "seed" ∷ []) ≡ Some (issue (codes "order.json") (codes "seed"))
of_an_order = refl

of_a_present_order : command_of (codes "present" ∷ codes "order.json" ∷ codes "token.txt" ∷ []) ≡ Some (present (codes "order.json") (codes "token.txt"))
of_a_present_order = refl

of_a_form : command_of (codes "convert" ∷ codes "flat" ∷ codes "token.txt" ∷ []) ≡ Some (convert Flat (codes "token.txt"))
of_a_form = refl

no_form : command_of (codes "convert" ∷ codes "xml" ∷ codes "token.txt" ∷ []) ≡ None
no_form = refl

one_word_less : command_of (codes "verify" ∷ codes "token.txt" ∷ []) ≡ None
one_word_less = refl

one_word_more : command_of (codes "show" ∷ codes "token.txt" ∷ codes "more" ∷ []) ≡ None
one_word_more = refl

-- ---- lines of standard error

at_a_byte : refusal (placed Condition.Form 5) ≡ codes "refused 2 form at 5\n"
unfolding digits
at_a_byte = refl

nowhere : refusal (unplaced Condition.TooLong) ≡ codes "refused 1 tooLong\n"
unfolding digits
nowhere = refl

first_file : unread_text 0 ≡ codes "unread 1\n"
unfolding digits
first_file = refl

no_json : unreadable_line 1 NotJson ≡ codes "unreadable 1 notJson\n"
unfolding digits
no_json = refl

no_keys : unreadable_line 1 (Missing Keys) ≡ codes "unreadable 1 missing keys\n"
unfolding digits
no_keys = refl

too_short : short_seed ≡ codes "unreadable 2 short\n"
too_short = refl

at_a_pointer : line (issue_refusal_text (ReservedName (codes "list" ∷ codes "0" ∷ codes "..." ∷ []))) ≡ codes "refused 52 reservedInPayload at \"/list/0/...\"\n"
unfolding digits escape_byte
at_a_pointer = refl

at_two_places : line (issue_refusal_text (DigestClash 0 2)) ≡ codes "refused 60 digestClash at 0 2\n"
unfolding digits
at_two_places = refl

of_a_long_token : line (issue_refusal_text IssueTooLong) ≡ codes "refused 61 issueTooLong\n"
unfolding digits
of_a_long_token = refl

of_a_bound_token : line (present_refusal_text HasBinding) ≡ codes "refused 71 hasBinding\n"
unfolding digits
of_a_bound_token = refl

of_a_refused_place : line (present_refusal_text (ConsentRefused 1)) ≡ codes "refused 73 consentRefused at 1\n"
unfolding digits
of_a_refused_place = refl

-- ---- the rule of consent

-- a path leads to itself and to what is inside it
not_shown : MayBeShown ((codes "a" ∷ []) ∷ []) (codes "a" ∷ codes "b" ∷ []) → ⊥
not_shown h = h (codes "a" ∷ []) (inl refl) refl

none_is_shown : MayBeShown ([] ∷ []) [] → ⊥
none_is_shown h = h [] (inl refl) refl

all_are_shown : MayBeShown [] (codes "a" ∷ [])
all_are_shown front is = absurd is

-- ---- split

abbrev token_of : Parts → Members → Token
token_of parts outer = record { parts = parts; outer = outer }

is_read : IsToken (codes "a.b.c~d~e.f.g") (token_of bound no_members)
is_read = read_plainly (codes "a.b.c~d~e.f.g") (token_of bound no_members) refl (reads (codes "a.b.c~d~e.f.g") bound refl presented (omega arith)) refl

of_a_presentation : Splits (codes "a.b.c~d~e.f.g") (codes "protected a\npayload b\nsignature c\ndisclosure 0 d\nbinding e.f.g\n")
unfolding digits
of_a_presentation = record { token = token_of bound no_members; reads = is_read; lines = refl }

of_a_jwt : TellsFault (IsTextRefused (codes "a.b.c")) (codes "refused 2 form at 5\n")
unfolding digits
of_a_jwt = record {
  fault = placed Condition.Form 5;
  refused = refused_plainly (codes "a.b.c") (placed Condition.Form 5) refl (refused_form (codes "a.b.c") (placed Condition.Form 5) 5 refl refl no_tilde);
  line_is = refl;
}

-- ---- show

-- of the header {"alg":"HS256"}, the payload {"_sd_alg":"sha-256"} and the disclosure ["lklxF5jMYlGTPUovMNIvCA","FR"]
abbrev token : Text
token = codes "eyJhbGciOiJIUzI1NiJ9.eyJfc2RfYWxnIjoic2hhLTI1NiJ9.c~WyJsa2x4RjVqTVlsR1RQVW92TU5JdkNBIiwiRlIiXQ~"

abbrev parts : Parts
parts = record {
  signed = record { protected = codes "eyJhbGciOiJIUzI1NiJ9"; payload = codes "eyJfc2RfYWxnIjoic2hhLTI1NiJ9"; signature = codes "c" };
  disclosures = codes "WyJsa2x4RjVqTVlsR1RQVW92TU5JdkNBIiwiRlIiXQ" ∷ [];
  binding = None;
}

spells : IsCompact parts token
unfolding is_letter letters
spells = record {
  signed = record {
    protected = record { some = omega arith; letters = refl };
    payload = record { some = omega arith; letters = refl };
    signature = record { some = omega arith; letters = refl };
  };
  disclosures = (record { some = omega arith; letters = refl }, tt);
  binding = tt;
  spelling = refl;
}

abbrev header : Tree
header = object alg_alone

abbrev payload : Tree
payload = object sd_alg_alone

abbrev shown : Option Text → Given
shown name = record { digest = codes "qswwxPH-MjwEMOgKBBv2x2CF7lufmWFrWvVq7pj7YJE"; name = name; value = value }

of_a_token : Shows token (codes "header {\"alg\":\"HS256\"}\npayload {\"_sd_alg\":\"sha-256\"}\ndisclosure 0 qswwxPH-MjwEMOgKBBv2x2CF7lufmWFrWvVq7pj7YJE element \"FR\"\n")
unfolding digits escape_byte
of_a_token = record {
  token = token_of parts no_members;
  reads = read_plainly token (token_of parts no_members) refl (reads token parts refl spells (omega arith)) refl;
  header = header;
  head = record { body = a_head; readable = read_not_unreadable (codes "eyJhbGciOiJIUzI1NiJ9") no_members (record { alg = codes "HS256"; kid = None; typ = None }) a_header };
  payload = payload;
  hash = HashAlg.Sha256;
  body = record { body = a_body; hash_is = refl };
  shown = shown None ∷ [];
  disclosures = ((sym its_digest, salt, a_disclosure), tt);
  lines = refl;
}

of_a_member : show_lines header payload (shown (Some (codes "country")) ∷ []) None ≡ codes "header {\"alg\":\"HS256\"}\npayload {\"_sd_alg\":\"sha-256\"}\ndisclosure 0 qswwxPH-MjwEMOgKBBv2x2CF7lufmWFrWvVq7pj7YJE member \"country\" \"FR\"\n"
unfolding digits escape_byte
of_a_member = refl

no_hash : payload_hash header ≡ Some HashAlg.Sha256
no_hash = refl

longer_hash : payload_hash (object (member (codes "_sd_alg") (leaf (text (codes "sha-512"))) no_members)) ≡ Some HashAlg.Sha512
longer_hash = refl

other_hash : payload_hash (object (member (codes "_sd_alg") (leaf (text (codes "sha-1"))) no_members)) ≡ None
other_hash = refl

-- ---- convert

flattened : written Flat (token_of bound no_members) ≡ codes "{\"header\":{\"disclosures\":[\"d\"],\"kb_jwt\":\"e.f.g\"},\"payload\":\"b\",\"protected\":\"a\",\"signature\":\"c\"}"
unfolding escape_byte
flattened = refl

in_general : written General (token_of bound alg_alone)
    ≡ codes "{\"payload\":\"b\",\"signatures\":[{\"header\":{\"alg\":\"HS256\",\"disclosures\":[\"d\"],\"kb_jwt\":\"e.f.g\"},\"protected\":\"a\",\"signature\":\"c\"}]}"
unfolding escape_byte
in_general = refl

without_outer : written Compact (token_of bound alg_alone) ≡ codes "a.b.c~d~e.f.g"
without_outer = refl
