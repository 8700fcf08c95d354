-- What is so of the different ones of some paths, and so of all.
use Rattle.std.proofs.Common.{◌≡◌, ℕ, ◌+◌, List, [], ◌∷◌, Bool, true, false, inl, inr, None, refl, ◌∙◌}
use Rattle.std.specs.List.{position_from}
use Rattle.sd_outside.specs.Lists.{In}
use Rattle.sd_outside.proofs.Lists.{list_any-from, list_any-In, In-At}
use Rattle.claim_tree.proofs.SamePaths.{path_same, path_refl}
use Rattle.marked_tree.specs.Paths.{Path, same_path, is_among}
use Rattle.issuer_core.proofs.Firsts.{found_none}

none_passes : (test : Path → Bool) (i : ℕ) (paths : List Path) → ((path : Path) → In path paths → test path ≡ false) → position_from test i paths ≡ None
none_passes test i [] fails = refl
none_passes test i (p ∷ ps) fails = rw (fails p (inl refl)) (none_passes test (i + 1) ps (λ path there. fails path (inr there)))

is_false : (b : Bool) → (b ≡ true → ⊥) → b ≡ false
is_false true h = absurd (h refl)
is_false false h = refl

-- a test that none of the different ones passes is passed by none
module _ (test : Path → Bool) (different paths : List Path) (same : (path : Path) → is_among different path ≡ is_among paths path) (none : position_from test 0 different ≡ None) where
  fails : (path : Path) → In path paths → test path ≡ false
  fails path there =
      let among = same path ∙ list_any-from (same_path path) paths path there (path_refl path path refl) in
      let found = list_any-In (same_path path) different among in
      let stands = In-At different found.0 found.1 in
      let refused : test found.0 ≡ false = is_false (test found.0) (λ passes. found_none (λ p. test p ≡ true) test (record { is = λ p h. h; passes = λ p h. h }) different none stands.0 (found.0, stands.1, passes)) in
      rw (path_same path found.0 found.2) refused

  pub none_of_all : position_from test 0 paths ≡ None
  none_of_all = none_passes test 0 paths fails
