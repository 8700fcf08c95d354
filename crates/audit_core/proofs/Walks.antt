-- Two slices of marked trees, side by side.
use Rattle.std.proofs.Common.{◌≡◌, ◌≢◌, ℕ, suc, List, [], ◌∷◌, length, drop, Bool, true, false, ◌&&◌, refl, ap}
use Rattle.std.specs.Prelude.{bytes_eq}
use Rattle.marked_tree.specs.View.{marked_of, marked_elements_of, marked_members_of}
use Rattle.marked_tree.proofs.MarkedViews.{Element, Entry}
use Rattle.audit_core.specs.SameMarked.{same_mark, same_marked, same_elements, same_members}

abbrev pub same_lists : List Element → List Element → ℕ → Bool
same_lists es fs n = same_elements (marked_elements_of (drop n es)) (marked_elements_of (drop n fs))

abbrev pub same_maps : List Entry → List Entry → ℕ → Bool
same_maps ms ns n = same_members (marked_members_of (drop n ms)) (marked_members_of (drop n ns))

pub lists_end : (es fs : List Element) → length es ≢ length fs → same_elements (marked_elements_of es) (marked_elements_of fs) ≡ false
lists_end [] [] n = absurd (n refl)
lists_end [] (f ∷ fs) n = refl
lists_end (e ∷ es) [] n = refl
lists_end (e ∷ es) (f ∷ fs) n = let rest = lists_end es fs (λ s. n (ap suc s)) in go (same_mark e.0 f.0) (same_marked (marked_of e.1) (marked_of f.1)) (same_elements (marked_elements_of es) (marked_elements_of fs)) rest
  where
    go : (a b d : Bool) → d ≡ false → (a && (b && d)) ≡ false
    go true true d e = e
    go true false d e = refl
    go false b d e = refl

pub maps_end : (ms ns : List Entry) → length ms ≢ length ns → same_members (marked_members_of ms) (marked_members_of ns) ≡ false
maps_end [] [] n = absurd (n refl)
maps_end [] (o ∷ ns) n = refl
maps_end (m ∷ ms) [] n = refl
maps_end (m ∷ ms) (o ∷ ns) n =
    let rest = maps_end ms ns (λ s. n (ap suc s)) in
    go (bytes_eq m.0 o.0) (same_mark m.1 o.1) (same_marked (marked_of m.2) (marked_of o.2)) (same_members (marked_members_of ms) (marked_members_of ns)) rest
  where
    go : (a b d f : Bool) → f ≡ false → (a && (b && (d && f))) ≡ false
    go true true true f e = e
    go true true false f e = refl
    go true false d f e = refl
    go false b d f e = refl
