use Rattle.std.proofs.Common.{◌≡◌, ℕ, ◌+◌, List, length, arith, sym, ◌∙◌, refl}
use Rattle.std.proofs.lemmas.Bool.{true≢false}
use Rattle.claim_tree.specs.Tree.{Tree}
use Rattle.claim_tree.specs.View.{tree_of}
use Rattle.digest_sites.specs.Given.{Given}
use Rattle.issuer_core.specs.Order.{Order}
use Rattle.issuer_core.specs.Decoys.{decoys_of}
use Rattle.audit_core.specs.Audit.{digests_differ, order_differs}
use Rattle.audit_core.specs.Audited.{ShowsClaims}
use Rattle.audit_core.specs.Counts.{count_in, values_count}
use Rattle.audit_core.specs.Found.{AreCounted, sites_in, trees_of}
use Rattle.audit_core.proofs.Contents.{count_told}
use Rattle.audit_core.proofs.Counting.{counted}
use Rattle.audit_core.proofs.auditing.judge_digests.Goals as goal

-- so many sites are those of the disclosures and of the decoys
all_counted : (o : Order) (p : Tree) (g : List Given) (many decoys : ℕ) → count_in p + values_count g ≡ many + decoys → many ≡ length g → decoys ≡ length (decoys_of o) → ShowsClaims o p g → AreCounted o p g
all_counted o p g many decoys told is_many are_decoys shows =
    let count : sites_in (trees_of p g) ≡ length g + length (decoys_of o) = omega (arith, told, counted p g, is_many, are_decoys) in
    record { shows = shows; count = count }

pub overflow_add-len : goal.overflow_add-len
overflow_add-len c = omega (arith, c.requires.decoys, c.len.ensures, c.requires.few)

pub returns-then-not-are_so_many-clause-differs : goal.returns-then-not-are_so_many-clause-differs
returns-then-not-are_so_many-clause-differs c o is shows =
    let p = tree_of c.args.content.now.body in
    let g = c.args.content.now.given in
    rw c.differs.ensures
    (digests_differ refl shows
    (λ h.
    let sum : count_in p + values_count g ≡ c.len.result + c.args.asked.now.decoys = omega (arith, counted p g, count_told o p g (c.requires.count ∙ is.hidden) h, c.len.ensures, is.decoys) in
    true≢false (sym (c.are_so_many.ensures.1 sum) ∙ c.if-not-are_so_many.true)))

pub returns-in-Err-clause-differs : goal.returns-in-Err-clause-differs
returns-in-Err-clause-differs c o is shows =
    let p = tree_of c.args.content.now.body in
    let g = c.args.content.now.given in
    c.in-Err.ensures.differs o is (all_counted o p g _ _ (c.are_so_many.ensures.0 c.if-not-are_so_many.false) c.len.ensures is.decoys shows)

pub returns-then-not-has_sorted_digests-clause-differs : goal.returns-then-not-has_sorted_digests-clause-differs
returns-then-not-has_sorted_digests-clause-differs c o is shows =
    let p = tree_of c.args.content.now.body in
    let g = c.args.content.now.given in
    let all = all_counted o p g _ _ (c.are_so_many.ensures.0 c.if-not-are_so_many.false) c.len.ensures is.decoys shows in
    let both = c.in_default.ensures.hold o is all in
    rw c.differs-then-not-has_sorted_digests.ensures
    (order_differs refl shows both.0 both.1 (λ s. true≢false (sym (c.has_sorted_digests.ensures.1 s) ∙ c.if-not-has_sorted_digests.true)))

pub returns-clause-audited : goal.returns-clause-audited
returns-clause-audited c o is shows =
    let p = tree_of c.args.content.now.body in
    let g = c.args.content.now.given in
    let all = all_counted o p g _ _ (c.are_so_many.ensures.0 c.if-not-are_so_many.false) c.len.ensures is.decoys shows in
    let both = c.in_default.ensures.hold o is all in
    record { shows = shows; digests = both.0; decoys = both.1; sorted = c.has_sorted_digests.ensures.0 c.if-not-has_sorted_digests.false }
