-- The files of the worked values: what the law of presenting asks of its files is met.
use Rattle.std.proofs.Common.{◌≡◌, ◌≤◌, ◌^◌, pos, negsuc, Bool, true, false, ◌&&◌, nat_lt, ltb-true, List, [], ◌∷◌, length, None, Some, codes, rules, refl, arith}
use Rattle.json.specs.Print.{escape_byte}
use Rattle.json.proofs.Printed.Utf8.{are_ascii, IsUtf8-are_ascii}
use Rattle.std.specs.Fmt.{digits}
use Rattle.std.proofs.lemmas.Bool.{and_parts}
use Rattle.b64url_text.specs.Base64url.{letters, bits, sixes, b64, Decodes}
use Rattle.b64url_text.proofs.Texts.{AreBytes-text}
use Rattle.claim_tree.specs.declared.tree.Tree as code
use Rattle.claim_tree.specs.Tree.{Text, Leaf, Tree, leaf, null, flag, text, whole, array, object, Elements, no_elements, element, Members, no_members, member, depth, IsOrdered, MembersOrdered, IsRanged, ElementsRanged, MembersRanged}
use Rattle.file_members.specs.FileForms.{has_unknown, HasMembers}
use Rattle.claim_tree.specs.JsonText.{json_text, Reads}
use Rattle.file_members.specs.declared.field.Field.{Field}
use Rattle.sd_outside.specs.Limits.{file_max}
use Rattle.hmac_sign.specs.Keys.{IsKeySet, key, no_keys}
use Rattle.hmac_sign.specs.declared.alg.Alg.{Alg}
use Rattle.hmac_sign.specs.KeyText.{IsKeyBytes, IsKeyText}
use Rattle.verifier_core.specs.PolicyFile.{IsPolicyFile}
use Rattle.verifier_core.specs.declared.policy_version.PolicyVersion.{PolicyVersion}
use Rattle.issuer_core.specs.OrderFile.{IsOrderFile}
use Rattle.issuer_core.specs.declared.order_file.IssueFile.{IssueFile}
use Rattle.claim_tree.proofs.TreeTexts.{HasTexts, ElementsTexts, MembersTexts, read_back}
use Rattle.holder_core.specs.PresentFile.{IsPresentFile}
use Rattle.sdjwt_cli.specs.Presented.{AllSuits}
use Rattle.sdjwt_cli.proofs.SuitsExample.{issuer_bytes, holder_bytes, issuer_key, holder_key, in_a_set, named, claims_members, order, said, policy, suits}

-- ---- keys

abbrev issuer_code : Text
issuer_code = codes "dGhlIGtleSBvZiBhbiBpc3N1ZXIsIDMyIGJ5dGVzLi4"

abbrev holder_code : Text
holder_code = codes "dGhlIGtleSBvZiBhIGhvbGRlciwgb2YgMzIgYnl0ZXM"

issuer_decodes : Decodes issuer_code issuer_bytes
unfolding letters bits sixes b64
issuer_decodes = record { fit = AreBytes-text issuer_bytes (IsUtf8-are_ascii issuer_bytes refl); spelling = refl }

holder_decodes : Decodes holder_code holder_bytes
unfolding letters bits sixes b64
holder_decodes = record { fit = AreBytes-text holder_bytes (IsUtf8-are_ascii holder_bytes refl); spelling = refl }

issuer_text : IsKeyBytes (named issuer_code) issuer_bytes
issuer_text = record { code = issuer_code; is = refl; decodes = issuer_decodes; enough = omega arith }

holder_text : IsKeyText (named holder_code) holder_key
holder_text = record { bytes = holder_bytes; are = record { code = holder_code; is = refl; decodes = holder_decodes; enough = omega arith }; key_is = refl }

-- a set of one key
abbrev issuer_tree : Tree
issuer_tree = object (member (codes "k") (named issuer_code) (member (codes "kty") (named (codes "oct")) no_members))

abbrev holder_tree : Tree
holder_tree = object (member (codes "k") (named holder_code) (member (codes "kid") (named (codes "h")) (member (codes "kty") (named (codes "oct")) no_members)))

abbrev set_of : Tree → Tree
set_of t = object (member (codes "keys") (array (element t no_elements)) no_members)

issuer_set : IsKeySet (set_of issuer_tree) (in_a_set None issuer_key.block ∷ [])
issuer_set = record {
  elements = element issuer_tree no_elements;
  stand = refl;
  good = refl;
  keys_are = key issuer_tree no_elements (in_a_set None issuer_key.block) [] issuer_bytes (record { code = issuer_code; is = refl; decodes = issuer_decodes }) (omega arith) (record { kid = refl; hs256 = refl; hs384 = refl; hs512 = refl }) no_keys;
}

holder_set : IsKeySet (set_of holder_tree) (in_a_set (Some (codes "h")) holder_key ∷ [])
holder_set = record {
  elements = element holder_tree no_elements;
  stand = refl;
  good = refl;
  keys_are = key holder_tree no_elements (in_a_set (Some (codes "h")) holder_key) [] holder_bytes (record { code = holder_code; is = refl; decodes = holder_decodes }) (omega arith) (record { kid = refl; hs256 = refl; hs384 = refl; hs512 = refl }) no_keys;
}

-- ---- files

-- each text is ASCII, and each number 0 or more, and below 2 ^ 64
abbrev leaf_plain : Leaf → Bool
leaf_plain null = true
leaf_plain (flag b) = true
leaf_plain (whole (pos n)) = nat_lt n (2 ^ 64)
leaf_plain (whole (negsuc n)) = false
leaf_plain (text s) = are_ascii s

abbrev mutual
  is_plain : Tree → Bool
  is_plain (leaf l) = leaf_plain l
  is_plain (array es) = elements_plain es
  is_plain (object ms) = members_plain ms

  elements_plain : Elements → Bool
  elements_plain no_elements = true
  elements_plain (element t es) = is_plain t && elements_plain es

  members_plain : Members → Bool
  members_plain no_members = true
  members_plain (member name t ms) = are_ascii name && (is_plain t && members_plain ms)

mutual
  plain_texts : (t : Tree) → is_plain t ≡ true → HasTexts t × IsRanged t
  plain_texts (leaf null) e = (tt, tt)
  plain_texts (leaf (flag b)) e = (tt, tt)
  plain_texts (leaf (whole (pos n))) e = (tt, ltb-true n (2 ^ 64) e)
  plain_texts (leaf (whole (negsuc n))) e = cc e
  plain_texts (leaf (text s)) e = (IsUtf8-are_ascii s e, tt)
  plain_texts (array es) e = let both = elements_texts es e in ((tt, both.0), both.1)
  plain_texts (object ms) e = members_texts ms e

  elements_texts : (es : Elements) → elements_plain es ≡ true → ElementsTexts es × ElementsRanged es
  elements_texts no_elements e = (tt, tt)
  elements_texts (element t es) e =
      let both = and_parts (is_plain t) (elements_plain es) e in
      let here = plain_texts t both.0 in
      let rest = elements_texts es both.1 in
      ((here.0, rest.0), (here.1, rest.1))

  members_texts : (ms : Members) → members_plain ms ≡ true → MembersTexts ms × MembersRanged ms
  members_texts no_members e = (tt, tt)
  members_texts (member name t ms) e =
      let both = and_parts (are_ascii name) (is_plain t && members_plain ms) e in
      let more = and_parts (is_plain t) (members_plain ms) both.1 in
      let here = plain_texts t more.0 in
      let rest = members_texts ms more.1 in
      ((IsUtf8-are_ascii name both.0, here.0, rest.0), (here.1, rest.1))

reads_plain : (t : Tree) → is_plain t ≡ true → IsOrdered t → depth t ≤ 127 → Reads (json_text t) t
reads_plain t e ordered shallow = let both = plain_texts t e in read_back t both.0 both.1 ordered shallow

-- the text of plain members is a file of them
file_of : (fields : List Field) (ms : Members) → length (json_text (object ms)) ≤ file_max → members_plain ms ≡ true → MembersOrdered ms → depth (object ms) ≤ 127 → has_unknown fields ms ≡ false
    → HasMembers file_max fields (json_text (object ms)) ms
file_of fields ms short plain ordered shallow known = record { object = record { short = short; reads = reads_plain (object ms) plain ordered shallow }; known = known }

abbrev policy_members : Members
policy_members =
    member (codes "binding") (object (member (codes "aud") (named (codes "v")) (member (codes "keys") (set_of holder_tree) (member (codes "max_age") (leaf (whole (pos 300))) (member (codes "nonce") (named (codes "7")) no_members)))))
    (member (codes "iss") (named (codes "i"))
    (member (codes "keys") (set_of issuer_tree)
    (member (codes "require") (array (element (named (codes "given_name")) no_elements)) (member (codes "skew") (leaf (whole (pos 5))) (member (codes "typ") (named (codes "dc+sd-jwt")) no_members)))))

abbrev pub policy_file : Text
policy_file = json_text (object policy_members)

pub is_policy : IsPolicyFile policy_file policy
unfolding escape_byte digits
is_policy = record {
  members = policy_members;
  file = file_of _ policy_members (omega arith) refl (search rules) (omega arith) refl;
  version = PolicyVersion.One;
  version_is = refl;
  keys = issuer_set;
  algs = refl;
  typ = refl;
  iss = (codes "i", refl, refl);
  require = refl;
  skew = record { is = refl; within = omega arith };
  binding = record {
    members = _;
    is = refl;
    four = refl;
    aud = (codes "v", record { is = refl; short = omega arith }, refl);
    nonce = record { is = refl; short = omega arith };
    keys = holder_set;
    max_age = record { is = refl; within = omega arith };
  };
}

abbrev present_members : Members
present_members =
    member (codes "binding") (object (member (codes "aud") (named (codes "v")) (member (codes "key") (named holder_code) (member (codes "kid") (named (codes "h")) (member (codes "nonce") (named (codes "7")) no_members)))))
    (member (codes "keys") (set_of issuer_tree)
    (member (codes "never") (array (element (named (codes "/family_name")) no_elements)) (member (codes "want") (array (element (named (codes "/given_name")) no_elements)) no_members)))

abbrev pub present_file : Text
present_file = json_text (object present_members)

pub is_said : IsPresentFile present_file said
unfolding escape_byte digits
is_said = record {
  members = present_members;
  file = file_of _ present_members (omega arith) refl (search rules) (omega arith) refl;
  keys = issuer_set;
  want = record { elements = _; is = refl; each = (refl, tt) };
  never = record { elements = _; is = refl; each = (refl, tt) };
  binding = record {
    members = _;
    is = refl;
    four = refl;
    key = holder_text;
    kid = refl;
    aud = record { is = refl; short = omega arith };
    nonce = record { is = refl; short = omega arith };
  };
  together = refl;
}

-- ---- the order, and a seed

abbrev order_members : Members
order_members =
    member (codes "hide") (array (element (named (codes "/family_name")) (element (named (codes "/given_name")) no_elements)))
    (member (codes "key") (named issuer_code) (member (codes "payload") order.payload (member (codes "typ") (named (codes "dc+sd-jwt")) no_members)))

abbrev pub order_file : Text
order_file = json_text (object order_members)

abbrev asked : IssueFile
asked = record { order = record { payload = code.Tree.Object claims_members; hide = order.hide; decoys = []; kid = None; typ = order.typ; hash = order.hash }; key = issuer_key }

pub is_asked : IsOrderFile order_file asked
unfolding escape_byte digits
is_asked = record {
  members = order_members;
  file = file_of _ order_members (omega arith) refl (search rules) (omega arith) refl;
  payload = refl;
  hide = record { elements = _; is = refl; each = (refl, (refl, tt)) };
  decoys = refl;
  key_bytes = issuer_bytes;
  says_key = issuer_text;
  kid = tt;
  typ = refl;
  alg = Alg.Hs256;
  says_alg = refl;
  key = refl;
  hash = refl;
}

abbrev pub seed_file : Text
seed_file = codes "a seed of bytes, no fewer than 32."

-- what the law asks of the four files
abbrev pub all_suits : AllSuits order_file seed_file present_file policy_file 1000 1300
all_suits = record {
  order = order;
  key = issuer_key;
  seed = codes "a seed of bytes, no fewer than 3";
  asked = record { asks = record { said = asked; is_order = is_asked; order_is = refl; key_is = refl }; enough = omega arith; seed_is = refl };
  said = said;
  is_said = is_said;
  policy = policy;
  is_policy = is_policy;
  moment = omega arith;
  suits = suits;
}

-- ---- the files as texts

pub order_text : order_file ≡ codes "{\"hide\":[\"/family_name\",\"/given_name\"],\"key\":\"dGhlIGtleSBvZiBhbiBpc3N1ZXIsIDMyIGJ5dGVzLi4\",\"payload\":{\"cnf\":{\"kid\":\"h\"},\"family_name\":\"Bee\",\"given_name\":\"Ann\",\"iss\":\"i\"},\"typ\":\"dc+sd-jwt\"}"
unfolding escape_byte digits
order_text = refl

pub present_text : present_file ≡ codes "{\"binding\":{\"aud\":\"v\",\"key\":\"dGhlIGtleSBvZiBhIGhvbGRlciwgb2YgMzIgYnl0ZXM\",\"kid\":\"h\",\"nonce\":\"7\"},\"keys\":{\"keys\":[{\"k\":\"dGhlIGtleSBvZiBhbiBpc3N1ZXIsIDMyIGJ5dGVzLi4\",\"kty\":\"oct\"}]},\"never\":[\"/family_name\"],\"want\":[\"/given_name\"]}"
unfolding escape_byte digits
present_text = refl

pub policy_text : policy_file ≡ codes "{\"binding\":{\"aud\":\"v\",\"keys\":{\"keys\":[{\"k\":\"dGhlIGtleSBvZiBhIGhvbGRlciwgb2YgMzIgYnl0ZXM\",\"kid\":\"h\",\"kty\":\"oct\"}]},\"max_age\":300,\"nonce\":\"7\"},\"iss\":\"i\",\"keys\":{\"keys\":[{\"k\":\"dGhlIGtleSBvZiBhbiBpc3N1ZXIsIDMyIGJ5dGVzLi4\",\"kty\":\"oct\"}]},\"require\":[\"given_name\"],\"skew\":5,\"typ\":\"dc+sd-jwt\"}"
unfolding escape_byte digits
policy_text = refl
