-- Members under their names, found and taken out.
use Rattle.std.proofs.Common.{◌≡◌, ◌≢◌, Bool, false, ◌||◌, Some, None, bytes_eq, sym, ap, ◌∙◌}
use Rattle.std.specs.Option.{is_some}
use Rattle.claim_tree.specs.Tree as spec
use Rattle.claim_tree.specs.Tree.{Text, Members, object, member_named}
use Rattle.claim_tree.specs.Removed.{removed}
use Rattle.claim_tree.specs.View.{tree_of}
use Rattle.claim_tree.specs.declared.tree.Tree as tree
use Rattle.claim_tree.proofs.OtherMembers.{named_other, removed_absent}
use Rattle.claim_tree.proofs.ObjectTrees.{object_inside}
use Rattle.refusals.specs.PartWords.{part_word}
use Rattle.refusals.specs.declared.fault.Part.{Part}
use Rattle.refusals.specs.declared.fault.Part.TheVariants.{Protected, Signature, Header}
use Rattle.json_form.specs.Json.{found_part, has_part, has_beside}

pub found_here : (ms : Members) (part : Part) (word : Text) (t : spec.Tree) → word ≡ part_word part → Some t ≡ member_named ms word → found_part ms part ≡ Some t
found_here ms part word t is stands = ap (member_named ms) (sym is) ∙ sym stands

pub absent_here : (ms : Members) (part : Part) (word : Text) → word ≡ part_word part → None ≡ member_named ms word → found_part ms part ≡ None
absent_here ms part word is none = ap (member_named ms) (sym is) ∙ sym none

-- the others are found as before
pub found_other : (ms : Members) (gone part : Part) → bytes_eq (part_word gone) (part_word part) ≡ false → found_part (removed ms (part_word gone)) part ≡ found_part ms part
found_other ms gone part apart = named_other ms (part_word gone) (part_word part) apart

-- where nothing is taken out, nothing changes
pub same_members : (ms new : Members) (part : Part) (word : Text) → word ≡ part_word part → None ≡ member_named ms word → new ≡ removed ms word → new ≡ ms
same_members ms new part word is none gone = gone ∙ removed_absent ms word (sym none)

pub either_of : (a b c d e f : Bool) → a ≡ d → b ≡ e → c ≡ f → (a || b || c) ≡ (d || e || f)
either_of a b c d e f p q r = cc

pub beside_kept : (ms : Members) (gone : Part) → bytes_eq (part_word gone) (part_word Protected) ≡ false → bytes_eq (part_word gone) (part_word Signature) ≡ false → bytes_eq (part_word gone) (part_word Header) ≡ false
    → has_beside (removed ms (part_word gone)) ≡ has_beside ms
beside_kept ms gone p s h =
    either_of _ _ _ (has_part ms Protected) (has_part ms Signature) (has_part ms Header) (ap is_some (found_other ms gone Protected p)) (ap is_some (found_other ms gone Signature s)) (ap is_some (found_other ms gone Header h))

pub no_object : (t : tree.Tree) → ((ms : Members) → t ≢ tree.Tree.Object ms) → (ms : Members) → tree_of t ≢ object ms
no_object t other ms e = other ms (object_inside t ms e)
