use Rattle.std.proofs.Common.{◌≡◌, ℕ, ◌+◌, ◌%◌, List, [], ◌∷◌, ◌++◌, add-one, append_assoc, append-nil, ap, sym, ◌∙◌}
use Rattle.std.proofs.lemmas.Bool.{eq-eqb, ne_eqb}
use Rattle.marked_tree.specs.Paths.{Path}
use Rattle.sdjwt_cli.specs.Generated.{member_name, paths_below}
use Rattle.sdjwt_cli.proofs.generated.push_paths.Goals as goal
use Rattle.sdjwt_cli.proofs.generated.push_paths.Goals.{then-i-every-eq0+in_ok-spell_name+in_ok-path_inside+in_ok-push, else-i-every-eq0}

one_more : (front now new : List Path) (k i : ℕ) (inside path : Path) → now ≡ front ++ paths_below k inside i → path ≡ member_name i ∷ inside → new ≡ now ++ path ∷ [] → i % k ≡ 0 → new ≡ front ++ paths_below k inside (i + 1)
one_more front now new k i inside path so is pushed here =
    rw (pushed, so, is, add-one i, eq-eqb (i % k) 0 here) (append_assoc front (paths_below k inside i) ((member_name i ∷ inside) ∷ []))

none_more : (front now new : List Path) (k i : ℕ) (inside : Path) → now ≡ front ++ paths_below k inside i → new ≡ now → (i % k ≡ 0 → ⊥) → new ≡ front ++ paths_below k inside (i + 1)
none_more front now new k i inside so same differs =
    rw (same, so, add-one i, ne_eqb (i % k) 0 differs) (ap (λ (paths : List Path). front ++ paths) (sym (append-nil (paths_below k inside i))))

pub loop-i-preserved : goal.loop-i-preserved
loop-i-preserved c =
    let a = c.args in
    let l = c.loop-i in
    elim c.if-i-every-eq0.branch [
      | then-i-every-eq0+in_ok-spell_name+in_ok-path_inside+in_ok-push w ↦
          let is : w.in_ok-path_inside.field-0 ≡ member_name l.i ∷ a.inside.now =
          let path = w.in_ok-path_inside.ensures in
          let name = w.in_ok-spell_name.ensures in
          let text = w.as_str.ensures in
          cc in
          one_more a.paths.now l.paths c.if-i-every-eq0.paths a.every l.i a.inside.now w.in_ok-path_inside.field-0 l.invariant is (w.paths-is ∙ w.in_ok-push.ensures.ok) w.if-i-every-eq0.true
      | else-i-every-eq0 w ↦ none_more a.paths.now l.paths c.if-i-every-eq0.paths a.every l.i a.inside.now l.invariant w.paths-is w.if-i-every-eq0.false
    ]
