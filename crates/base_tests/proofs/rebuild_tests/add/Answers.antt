use Rattle.std.proofs.Common.{◌≡◌, ◌≤◌, List, [], ◌∷◌, ◌++◌, ◌⊎◌, inl, inr, sym, subst}
use Rattle.claim_tree.specs.Tree.{depth}
use Rattle.sd_outside.specs.Lists.{In}
use Rattle.sd_outside.proofs.Lists.{In-append}
use Rattle.digest_sites.specs.Given.{Given}
use Rattle.base_tests.proofs.rebuild_tests.add.Goals as goal

kept : (P : Given → Type 0) (xs ys : List Given) (y : Given) → ys ≡ xs ++ y ∷ [] → ((x : Given) → In x xs → P x) → P y → (x : Given) → In x ys → P x
kept P xs ys y e all one x h = go (In-append x xs (y ∷ []) (subst (λ z. In x z) e h))
  where
    go : In x xs ⊎ In x (y ∷ []) → P x
    go (inl i) = all x i
    go (inr (inl s)) = subst P (sym s) one
    go (inr (inr b)) = elim b [ ]

pub returns-clause-depths : goal.returns-clause-depths
returns-clause-depths c = kept (λ x. depth x.value ≤ 127) c.args.list.now c.push.new.self _ c.in_ok-push.ensures.ok c.requires.depths c.in_ok-value.ensures.depth
