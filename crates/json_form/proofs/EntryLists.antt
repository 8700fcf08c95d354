-- Lists of entries, and the stray ones among them.
use Rattle.std.proofs.Common.{◌≡◌, ℕ, ◌<◌, ◌≤◌, true, false, List, [], ◌∷◌, ◌&&◌, length, get_or, Some, None, refl, sym, ap, ◌∙◌}
use Rattle.std.specs.List.{list_all}
use Rattle.claim_tree.specs.Tree.{element_at, get}
use Rattle.claim_tree.specs.View.{tree_of}
use Rattle.claim_tree.specs.ListViews.{elements_of}
use Rattle.claim_tree.specs.declared.tree.Tree as tree
use Rattle.claim_tree.proofs.Views.{element_at-there, element_at-past}
use Rattle.refusals.specs.PartWords.{part_word}
use Rattle.refusals.specs.declared.fault.Part.TheVariants.{Header}
use Rattle.json_form.specs.Json.{is_object, are_objects, has_first_only, IsStray}

pub objects_of : (ts : List tree.Tree) → list_all (λ t. is_object (tree_of t)) ts ≡ are_objects (elements_of ts)
objects_of [] = refl
objects_of (t ∷ ts) = ap (λ rest. is_object (tree_of t) && rest) (objects_of ts)

there : (ts : List tree.Tree) (i : ℕ) (t : tree.Tree) → i < length ts → t ≡ get_or ts i t → element_at (elements_of ts) i ≡ Some (tree_of t)
there ts i t within is = element_at-there ts i t within ∙ ap (λ u. Some (tree_of u)) (sym is)

pub stray_here : (ts : List tree.Tree) (i : ℕ) (t : tree.Tree) → 0 < i → i < length ts → t ≡ get_or ts i t → has_first_only (get (tree_of t) (part_word Header)) ≡ true → IsStray (elements_of ts) i
stray_here ts i t later within is odd = record { later = later; entry = tree_of t; stands = there ts i t within is; odd = odd }

pub not_here : (ts : List tree.Tree) (i : ℕ) (t : tree.Tree) → i < length ts → t ≡ get_or ts i t → has_first_only (get (tree_of t) (part_word Header)) ≡ false → IsStray (elements_of ts) i → ⊥
not_here ts i t within is even stray =
    let both : Some stray.entry ≡ Some (tree_of t) = sym stray.stands ∙ there ts i t within is in
    let same : stray.entry ≡ tree_of t = cc both in
    let clash : true ≡ false = sym stray.odd ∙ (ap (λ u. has_first_only (get u (part_word Header))) same ∙ even) in
    cc clash

pub not_past : (ts : List tree.Tree) (i : ℕ) → length ts ≤ i → IsStray (elements_of ts) i → ⊥
not_past ts i past stray = let both : Some stray.entry ≡ None = sym stray.stands ∙ element_at-past ts i past in cc both
