-- A file says one query, or is refused.
use Rattle.std.proofs.Common.{◌≡◌, ◌≢◌, [], refl, sym, ap, ◌∙◌, codes}
use Rattle.sd_outside.specs.Limits.{file_max}
use Rattle.claim_tree.specs.Tree as spec
use Rattle.claim_tree.specs.Tree.{Text, null, flag, whole, text, leaf, array, object}
use Rattle.claim_tree.specs.View.{tree_of}
use Rattle.claim_tree.specs.TreeValues.{IsListOf, IsPointer}
use Rattle.claim_tree.specs.declared.tree.Tree as code
use Rattle.claim_tree.proofs.TreeValues.{SaysOne}
use Rattle.claim_tree.proofs.ListForms.{one_pointer}
use Rattle.file_members.specs.FileWords.{field_word}
use Rattle.file_members.specs.declared.field.Field.TheVariants.{Keys, Want, Equal, Never}
use Rattle.file_members.specs.declared.file_fault.FileFault.{FileFault}
use Rattle.file_members.proofs.FileMembers.{says_meets, says_or_meets}
use Rattle.file_members.proofs.FileVerdicts as verdicts
use Rattle.hmac_sign.specs.Keys.{IsKeySet}
use Rattle.hmac_sign.proofs.KeySetVerdicts.{one_key_set}
use Rattle.holder_core.proofs.OneObject.{one_members, one_said, one_listed}
use Rattle.wallet_core.specs.QueryFile.{IsPlain, IsEqual, query_table, IsQueryFile, IsQueryFileRefused}
use Rattle.wallet_core.specs.declared.query_file.QueryFile.{QueryFile}

-- ---- plain values

-- the value of the code that a tree is
abbrev value_of : spec.Tree → code.Tree
value_of (leaf null) = code.Tree.Null
value_of (leaf (flag b)) = code.Tree.Flag b
value_of (leaf (whole n)) = code.Tree.Whole n
value_of (leaf (text s)) = code.Tree.Text s
value_of (array es) = code.Tree.List es
value_of (object ms) = code.Tree.Object ms

value_of_tree : (value : code.Tree) → value_of (tree_of value) ≡ value
value_of_tree code.Tree.Null = refl
value_of_tree (code.Tree.Flag b) = refl
value_of_tree (code.Tree.Whole n) = refl
value_of_tree (code.Tree.Text s) = refl
value_of_tree (code.Tree.List es) = refl
value_of_tree (code.Tree.Object ms) = refl

one_plain : SaysOne IsPlain
one_plain t x y h k =
    let same : tree_of x ≡ tree_of y = h.said ∙ (sym h.is ∙ (k.is ∙ sym k.said)) in
    sym (value_of_tree x) ∙ (ap value_of same ∙ value_of_tree y)

-- ---- the values that are asked for

one_equal : SaysOne IsEqual
one_equal t d e h k =
    let same = one_members t h.members k.members h.is k.is in
    λ i. record { at = one_said IsPointer one_pointer same (codes "at") d.at e.at h.at k.at i; value = one_said IsPlain one_plain same (codes "value") d.value e.value h.value k.value i }

-- ---- the file

pub one_query : (bytes : Text) (p q : QueryFile) → IsQueryFile bytes p → IsQueryFile bytes q → p ≡ q
one_query bytes p q h k =
    let same = verdicts.one_object file_max bytes h.members k.members h.file.object k.file.object in
    let keys = one_said IsKeySet one_key_set same (field_word Keys) p.query.keys q.query.keys h.keys k.keys in
    let want = one_listed IsPointer one_pointer same (field_word Want) p.query.want q.query.want h.want k.want in
    let equal = one_listed IsEqual one_equal same (field_word Equal) p.query.equal q.query.equal h.equal k.equal in
    let never = one_listed IsPointer one_pointer same (field_word Never) p.never q.never h.never k.never in
    λ i. record { query = record { keys = keys i; want = want i; equal = equal i }; never = never i }

pub not_both : (bytes : Text) (said : QueryFile) (fault : FileFault) → IsQueryFile bytes said → IsQueryFileRefused bytes fault → fault ≡ FileFault.Memory
not_both bytes said fault says refused =
    let ms = says.members in
    let keys = says_meets IsKeySet Keys ms said.query.keys says.keys in
    let want = says_or_meets (IsListOf IsPointer) [] Want ms said.query.want says.want in
    let equal = says_or_meets (IsListOf IsEqual) [] Equal ms said.query.equal says.equal in
    let never = says_or_meets (IsListOf IsPointer) [] Never ms said.never says.never in
    verdicts.not_refused file_max query_table bytes ms fault says.file (keys, (want, (equal, (never, tt)))) refused

pub one_fault : (bytes : Text) (fault other : FileFault) → IsQueryFileRefused bytes fault → IsQueryFileRefused bytes other → fault ≢ FileFault.Memory → other ≢ FileFault.Memory → fault ≡ other
one_fault bytes fault other h k = verdicts.one_fault file_max query_table bytes fault other h k
