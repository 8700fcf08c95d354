-- What a base64url text of JSON carries.
use Rattle.std.proofs.Common.{◌≡◌, inl, inr, true, false, refl, sym, ap, subst, ◌∙◌}
use Rattle.serde_json.specs.Written.{has_float}
use Rattle.b64url_text.specs.Base64url.{Decodes}
use Rattle.b64url_text.proofs.Codes.{one_code}
use Rattle.claim_tree.specs.Tree.{Text, Tree, leaf, null, flag, whole, text, array, object, Members}
use Rattle.claim_tree.specs.JsonText.{Reads, IsNotJson, IsNotWhole, data_of}
use Rattle.claim_tree.specs.JsonRefusals.{IsReadRefused}
use Rattle.claim_tree.specs.declared.text.ReadError.{ReadError}
use Rattle.claim_tree.specs.View.{tree_of}
use Rattle.claim_tree.specs.declared.tree.Tree as tree
use Rattle.claim_tree.specs.declared.tree.TreeMap.{TreeMap}
use Rattle.claim_tree.proofs.Datas.{no_float}
use Rattle.claim_tree.proofs.OneTree.{one_tree}
use Rattle.jws_part.specs.Part.{Carries, IsBody, IsNoObject}

not_json : (bytes : Text) (t : Tree) → IsNotJson bytes → Reads bytes t → ⊥
not_json bytes t (inl odd) r = odd r.utf8
not_json bytes t (inr none) r = let both = sym none ∙ r.value in cc both

not_whole : (bytes : Text) (t : Tree) → IsNotWhole bytes → Reads bytes t → ⊥
not_whole bytes t n r =
    let both = sym n.value ∙ r.value in
    let same : n.data_is ≡ data_of t = cc both in
    let clash : true ≡ false = sym n.float ∙ (ap has_float same ∙ no_float t) in
    cc clash

-- the bytes of the text read to no object
pub nothing_inside : (part bytes : Text) → Decodes part bytes → ((ms : Members) → Reads bytes (object ms) → ⊥) → IsNoObject part
nothing_inside part bytes d none ms c = none ms (subst (λ x. Reads x (object ms)) (one_code part c.bytes bytes c.decodes d) c.reads)

pub no_text : (part bytes : Text) (error : ReadError) → Decodes part bytes → IsReadRefused bytes error → (error ≡ ReadError.Memory → ⊥) → IsNoObject part
no_text part bytes ReadError.Memory d u some = absurd (some refl)
no_text part bytes ReadError.NotJson d u some = nothing_inside part bytes d (λ ms. not_json bytes (object ms) u)
no_text part bytes ReadError.NotWhole d u some = nothing_inside part bytes d (λ ms. not_whole bytes (object ms) u)

-- a text whose bytes read to another tree
pub no_object : (part bytes : Text) (t : Tree) → Decodes part bytes → Reads bytes t → ((ms : Members) → t ≡ object ms → ⊥) → IsNoObject part
no_object part bytes (leaf null) d r other = nothing_inside part bytes d (λ ms s. let both = sym r.value ∙ s.value in cc both)
no_object part bytes (leaf (flag b)) d r other = nothing_inside part bytes d (λ ms s. let both = sym r.value ∙ s.value in cc both)
no_object part bytes (leaf (whole z)) d r other = nothing_inside part bytes d (λ ms s. let both = sym r.value ∙ s.value in cc both)
no_object part bytes (leaf (text x)) d r other = nothing_inside part bytes d (λ ms s. let both = sym r.value ∙ s.value in cc both)
no_object part bytes (array es) d r other = nothing_inside part bytes d (λ ms s. let both = sym r.value ∙ s.value in cc both)
no_object part bytes (object ms) d r other = absurd (other ms refl)

pub other_tree : (part bytes : Text) (t : tree.Tree) → Decodes part bytes → Reads bytes (tree_of t) → ((m : TreeMap) → t ≡ tree.Tree.Object m → ⊥) → IsNoObject part
other_tree part bytes tree.Tree.Null d r other = no_object part bytes _ d r (λ ms e. cc e)
other_tree part bytes (tree.Tree.Flag b) d r other = no_object part bytes _ d r (λ ms e. cc e)
other_tree part bytes (tree.Tree.Whole z) d r other = no_object part bytes _ d r (λ ms e. cc e)
other_tree part bytes (tree.Tree.Text x) d r other = no_object part bytes _ d r (λ ms e. cc e)
other_tree part bytes (tree.Tree.List es) d r other = no_object part bytes _ d r (λ ms e. cc e)
other_tree part bytes (tree.Tree.Object m) d r other = absurd (other m refl)

-- a text carries one tree
pub one_carried : (part : Text) (t u : Tree) → Carries part t → Carries part u → t ≡ u
one_carried part t u c d = one_tree c.bytes t u c.reads (subst (λ x. Reads x u) (one_code part d.bytes c.bytes d.decodes c.decodes) d.reads)

pub one_object : (part : Text) (ms ns : Members) → Carries part (object ms) → Carries part (object ns) → ms ≡ ns
one_object part ms ns c d = let same = one_carried part (object ms) (object ns) c d in cc same

pub one_body : (part : Text) (t u : Tree) → IsBody part t → IsBody part u → t ≡ u
one_body part t u a b = one_carried part t u a.carried b.carried

pub not_both : (part : Text) (t : Tree) → IsBody part t → IsNoObject part → ⊥
not_both part t body none = none body.members (subst (Carries part) body.is_object body.carried)

pub body_of : (part : Text) (ms : Members) → Carries part (object ms) → IsBody part (object ms)
body_of part ms carried = record { members = ms; is_object = refl; carried = carried }
