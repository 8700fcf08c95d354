-- A disclosure that is made is read again.
use Rattle.std.proofs.Common.{◌≤◌, None, Option, Some, IfSome, IsUtf8, refl}
use Rattle.b64url_text.proofs.Texts.{AreBytes-text}
use Rattle.claim_tree.specs.Tree.{Text, Tree, leaf, text, depth, IsOrdered, IsRanged}
use Rattle.claim_tree.specs.JsonText.{json_text}
use Rattle.claim_tree.proofs.TreeTexts.{HasTexts, read_back}
use Rattle.disclosure.specs.Disclosure.{array_of, disclosure_text, IsDisclosure}
use Rattle.disclosure.proofs.Arrays.{depth-array_of}

pub array_texts : (salt : Text) (name : Option Text) (value : Tree) → IsUtf8 salt → IfSome name IsUtf8 → HasTexts value → HasTexts (array_of (leaf (text salt)) name value)
array_texts salt None value s n v = (tt, (s, (v, tt)))
array_texts salt (Some name) value s n v = (tt, (s, (n, (v, tt))))

pub array_ranged : (salt : Text) (name : Option Text) (value : Tree) → IsRanged value → IsRanged (array_of (leaf (text salt)) name value)
array_ranged salt None value r = (tt, (r, tt))
array_ranged salt (Some name) value r = (tt, (tt, (r, tt)))

pub array_ordered : (salt : Text) (name : Option Text) (value : Tree) → IsOrdered value → IsOrdered (array_of (leaf (text salt)) name value)
array_ordered salt None value o = (tt, (o, tt))
array_ordered salt (Some name) value o = (tt, (tt, (o, tt)))

pub disclosure_back : (salt : Text) (name : Option Text) (value : Tree) → IsUtf8 salt → IfSome name IsUtf8 → HasTexts value → IsRanged value → IsOrdered value → depth value ≤ 126
    → IsDisclosure (disclosure_text (leaf (text salt)) name value) (leaf (text salt)) name value
disclosure_back salt name value s n v ranged ordered shallow =
    let t = array_of (leaf (text salt)) name value in
    let reads = read_back t (array_texts salt name value s n v) (array_ranged salt name value ranged) (array_ordered salt name value ordered) (depth-array_of salt name value shallow) in
    record { json = json_text t; decodes = record { fit = AreBytes-text (json_text t) reads.utf8; spelling = refl }; reads = reads }
