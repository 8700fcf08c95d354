-- The processed payload has no more nodes than the payload and the values together.
use Rattle.std.proofs.Common.{◌≡◌, ℕ, ◌+◌, ◌≤◌, List, [], ◌∷◌, length, refl, ap, subst, sym, ◌∙◌, arith, sum_by}
use Rattle.std.proofs.lemmas.List.Sums.{sum_by-cons}
use Rattle.claim_tree.specs.Tree.{Text, Tree, leaf, array, object}
use Rattle.claim_tree.specs.Nodes.{nodes}
use Rattle.claim_tree.proofs.RemovedNodes.{removed_nodes}
use Rattle.digest_sites.specs.Sites.{sites}
use Rattle.digest_sites.specs.Given.{Given}
use Rattle.rebuild_core.specs.Opening.{Shown, reveal, processed}
use Rattle.rebuild_core.specs.Laws.{SizeBound, PayloadSizeBound, IsWithinNodes}
use Rattle.rebuild_core.specs.Payload.{alg_name, without_alg}
use Rattle.rebuild_core.specs.Soundness.{IsSound}
use Rattle.marked_tree.specs.Marked.{Marked, strip}
use Rattle.sd_outside.proofs.Lists.{In-At}
use Rattle.marked_tree.proofs.Sums.{sum_of}
use Rattle.rebuild_core.proofs.Sums.{sum_of-le}
use Rattle.rebuild_core.proofs.Nodes.{size, shown_size, sites_size, open_size}
use Rattle.rebuild_core.proofs.Fixed.{unknown, fixed, processed_settles, disclosures_sum}

sum_by_is : (f : Given → ℕ) (g : List Given) → sum_by f g ≡ sum_of f g
sum_by_is f [] = refl
sum_by_is f (x ∷ g) = sum_by-cons f x g ∙ ap (λ n. f x + n) (sum_by_is f g)

pub size_bound_holds : SizeBound
size_bound_holds p g ok =
    let r : Text → Shown = reveal (length g) g in
    let each = sum_of-le (λ x. shown_size (r x.digest)) (λ x. nodes x.value) (λ x. sites_size r (sites x.value)) g
    (λ x m. let w = In-At g x m in
    omega (arith, open_size r x.value, ap shown_size (fixed p g ok w.0 x w.1))) in
    let all = disclosures_sum p g ok (λ d. shown_size (r d)) (λ d h. ap shown_size (unknown (length g) g d h)) in
    omega (arith, each, all, open_size r p, ap size (processed_settles p g ok), sum_by_is (λ x. nodes x.value) g)

nodes_without : (p : Tree) → nodes (without_alg p) ≤ nodes p
nodes_without (leaf l) = omega arith
nodes_without (array es) = omega arith
nodes_without (object ms) = omega (arith, removed_nodes ms alg_name)

pub payload_size_bound : PayloadSizeBound
payload_size_bound p g ok = omega (arith, size_bound_holds (without_alg p) g ok, nodes_without p)

-- so of what is processed
pub processed_within : (p : Tree) (g : List Given) (m : Marked) → IsSound (without_alg p) g → m ≡ processed (without_alg p) g → IsWithinNodes p g (strip m)
processed_within p g m sound is = subst (λ (x : Marked). IsWithinNodes p g (strip x)) (sym is) (payload_size_bound p g sound.referenced)

pub shown_within : (p : Tree) (g : List Given) (t : Tree) → IsSound (without_alg p) g → t ≡ strip (processed (without_alg p) g) → IsWithinNodes p g t
shown_within p g t sound is = subst (IsWithinNodes p g) (sym is) (payload_size_bound p g sound.referenced)
