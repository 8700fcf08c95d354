-- What the tests of an order tell.
use Rattle.std.proofs.Common.{◌≡◌, List, [], ◌∷◌, true, inl, inr, Option, Some, None, refl, sym, subst, arith}
use Rattle.std.specs.Prelude.{bytes_eq, is_none, slice_get}
use Rattle.std.specs.List.{list_any}
use Rattle.std.proofs.lemmas.Bool.{or_left, or_right}
use Rattle.claim_tree.specs.Tree.{Text, Tree, leaf, array, object, depth, IsOrdered}
use Rattle.claim_tree.specs.Path.{tree_at}
use Rattle.sd_outside.specs.Lists.{In}
use Rattle.sd_outside.proofs.Lists.{bytes_same, bytes_refl, list_any-In, In-At}
use Rattle.claim_tree.proofs.Counting.{not_below}
use Rattle.marked_tree.specs.Paths.{Path}
use Rattle.issuer_core.specs.declared.order.Decoy.{Decoy}
use Rattle.issuer_core.specs.declared.errors.IssueError.TheVariants.{PayloadNotObject, ReservedName, TooDeep, DecoyPlace}
use Rattle.issuer_core.specs.Order.{Order}
use Rattle.issuer_core.specs.ReservedPaths.{reserved_paths}
use Rattle.issuer_core.specs.GoodOrder.{IsObject, HoldsOthers, IsGoodOrder}
use Rattle.issuer_core.specs.OrderRefusals.{IsRoot, IsNowhere, IsProtected, IsMisplaced, protected_names}
use Rattle.issuer_core.specs.Judging.{is_root, is_nowhere, is_protected, is_no_holder, is_misplaced, PassesBelow}
use Rattle.issuer_core.proofs.Firsts.{Tells}
use Rattle.issuer_core.proofs.ReservedPlaces.{no_reserved}

root_is : (path : Path) → is_root path ≡ true → IsRoot path
root_is [] h = refl
root_is (step ∷ path) h = cc h

root_passes : (path : Path) → IsRoot path → is_root path ≡ true
root_passes [] h = refl
root_passes (step ∷ path) h = cc h

pub root_tells : Tells IsRoot is_root
root_tells = record { is = root_is; passes = root_passes }

none_is : (o : Option Tree) → is_none o ≡ true → o ≡ None
none_is None h = refl
none_is (Some t) h = cc h

none_passes : (o : Option Tree) → o ≡ None → is_none o ≡ true
none_passes None h = refl
none_passes (Some t) h = cc h

pub nowhere_tells : (claims : Tree) → Tells (IsNowhere claims) (is_nowhere claims)
nowhere_tells claims = record { is = λ path h. none_is (tree_at claims path) h; passes = λ path h. none_passes (tree_at claims path) h }

any_In : (x : Text) (xs : List Text) → In x xs → list_any (bytes_eq x) xs ≡ true
any_In x [] h = elim h [ ]
any_In x (y ∷ ys) (inl e) = or_left (bytes_eq x y) (list_any (bytes_eq x) ys) (bytes_refl x y e)
any_In x (y ∷ ys) (inr h) = or_right (bytes_eq x y) (list_any (bytes_eq x) ys) (any_In x ys h)

protected_is : (path : Path) → is_protected path ≡ true → IsProtected path
protected_is [] h = cc h
protected_is (step ∷ path) h =
    let found = list_any-In (bytes_eq step) protected_names h in
    subst (λ name. In name protected_names) (sym (bytes_same step found.0 found.2)) found.1

protected_passes : (path : Path) → IsProtected path → is_protected path ≡ true
protected_passes [] h = absurd h
protected_passes (step ∷ path) h = any_In step protected_names h

pub protected_tells : Tells IsProtected is_protected
protected_tells = record { is = protected_is; passes = protected_passes }

no_holder_is : (o : Option Tree) → is_no_holder o ≡ true → HoldsOthers o → ⊥
no_holder_is None h holds = holds
no_holder_is (Some (leaf l)) h holds = holds
no_holder_is (Some (array es)) h holds = cc h
no_holder_is (Some (object ms)) h holds = cc h

no_holder_passes : (o : Option Tree) → (HoldsOthers o → ⊥) → is_no_holder o ≡ true
no_holder_passes None h = refl
no_holder_passes (Some (leaf l)) h = refl
no_holder_passes (Some (array es)) h = absurd (h tt)
no_holder_passes (Some (object ms)) h = absurd (h tt)

pub misplaced_tells : (claims : Tree) → Tells (IsMisplaced claims) (is_misplaced claims)
misplaced_tells claims = record {
  is = λ (entry : Decoy) h. no_holder_is (tree_at claims entry.at) h;
  passes = λ (entry : Decoy) h. no_holder_passes (tree_at claims entry.at) h;
}

-- ---- what is so of an order that is not refused

object_there : (t : Tree) → ((IsObject t → ⊥) → ⊥) → IsObject t
object_there (leaf l) h = absurd (h (λ x. x))
object_there (array es) h = absurd (h (λ x. x))
object_there (object ms) h = tt

holder_there : (o : Option Tree) → ((HoldsOthers o → ⊥) → ⊥) → HoldsOthers o
holder_there None h = absurd (h (λ x. x))
holder_there (Some (leaf l)) h = absurd (h (λ x. x))
holder_there (Some (array es)) h = tt
holder_there (Some (object ms)) h = tt

none_there : (o : Option Path) → ((path : Path) → o ≡ Some path → ⊥) → o ≡ None
none_there None h = refl
none_there (Some path) h = absurd (h path refl)

pub good_order : (o : Order) → PassesBelow 58 o → IsOrdered o.payload → IsGoodOrder o
good_order o below ordered = record {
  is_object = object_there o.payload (λ h. let over = below PayloadNotObject h in omega (arith, over));
  no_reserved = no_reserved o.payload (none_there (slice_get (reserved_paths o.payload) 0) (λ path e. let over = below (ReservedName path) e in omega (arith, over)));
  shallow = not_below (depth o.payload) 100 (λ h. let over = below TooDeep h in omega (arith, over));
  decoys_held = λ entry stands.
      let w = In-At o.decoys entry stands in
      holder_there (tree_at o.payload entry.at) (λ m. let over = below (DecoyPlace w.0) (entry, w.1, m) in omega (arith, over));
  ordered = ordered;
}
