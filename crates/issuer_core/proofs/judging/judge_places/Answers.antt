use Rattle.std.proofs.Common.{sym, ◌∙◌}
use Rattle.issuer_core.specs.Order.{order_of}
use Rattle.issuer_core.specs.OrderRefusals.{IsRoot, IsNowhere, IsProtected, IsMisplaced}
use Rattle.issuer_core.specs.Judging.{is_root, is_nowhere, is_protected, is_misplaced}
use Rattle.issuer_core.proofs.Firsts.{found_first, found_none}
use Rattle.issuer_core.proofs.Judged.{root_tells, nowhere_tells, protected_tells, misplaced_tells}
use Rattle.issuer_core.proofs.Lowest.{one_more, root, nowhere, protected, misplaced, none_at, lowest_at}
use Rattle.issuer_core.proofs.judging.judge_places.Goals as goal

pub returns-in-Some-clause-refused : goal.returns-in-Some-clause-refused
returns-in-Some-clause-refused c =
    let o = order_of c.args.order.now in
    lowest_at o root c.in-Some.k c.requires.below (found_first IsRoot is_root root_tells o.hide c.in-Some.k (sym c.first_root.ensures ∙ c.in-Some.is))

pub returns-in-Some-first_nowhere-clause-refused : goal.returns-in-Some-first_nowhere-clause-refused
returns-in-Some-first_nowhere-clause-refused c =
    let o = order_of c.args.order.now in
    let below = one_more o 54 c.requires.below (none_at o root (found_none IsRoot is_root root_tells o.hide (sym c.first_root.ensures ∙ c.in_default.is))) in
    let k = c.in-Some-first_nowhere.k in
    lowest_at o nowhere k below (found_first (IsNowhere o.payload) (is_nowhere o.payload) (nowhere_tells o.payload) o.hide k (sym c.first_nowhere.ensures ∙ c.in-Some-first_nowhere.is))

pub returns-in-Some-first_protected-clause-refused : goal.returns-in-Some-first_protected-clause-refused
returns-in-Some-first_protected-clause-refused c =
    let o = order_of c.args.order.now in
    let below = one_more o 54 c.requires.below (none_at o root (found_none IsRoot is_root root_tells o.hide (sym c.first_root.ensures ∙ c.in_default.is))) in
    let more = one_more o 55 below (none_at o nowhere (found_none (IsNowhere o.payload) (is_nowhere o.payload) (nowhere_tells o.payload) o.hide (sym c.first_nowhere.ensures ∙ c.in_default-first_nowhere.is))) in
    let k = c.in-Some-first_protected.k in
    lowest_at o protected k more (found_first IsProtected is_protected protected_tells o.hide k (sym c.first_protected.ensures ∙ c.in-Some-first_protected.is))

pub returns-in-Some-first_misplaced-clause-refused : goal.returns-in-Some-first_misplaced-clause-refused
returns-in-Some-first_misplaced-clause-refused c =
    let o = order_of c.args.order.now in
    let below = one_more o 54 c.requires.below (none_at o root (found_none IsRoot is_root root_tells o.hide (sym c.first_root.ensures ∙ c.in_default.is))) in
    let more = one_more o 55 below (none_at o nowhere (found_none (IsNowhere o.payload) (is_nowhere o.payload) (nowhere_tells o.payload) o.hide (sym c.first_nowhere.ensures ∙ c.in_default-first_nowhere.is))) in
    let most = one_more o 56 more (none_at o protected (found_none IsProtected is_protected protected_tells o.hide (sym c.first_protected.ensures ∙ c.in_default-first_protected.is))) in
    let k = c.in-Some-first_misplaced.k in
    lowest_at o misplaced k most (found_first (IsMisplaced o.payload) (is_misplaced o.payload) (misplaced_tells o.payload) o.decoys k (sym c.first_misplaced.ensures ∙ c.in-Some-first_misplaced.is))

pub returns-clause-passes : goal.returns-clause-passes
returns-clause-passes c =
    let o = order_of c.args.order.now in
    let below = one_more o 54 c.requires.below (none_at o root (found_none IsRoot is_root root_tells o.hide (sym c.first_root.ensures ∙ c.in_default.is))) in
    let more = one_more o 55 below (none_at o nowhere (found_none (IsNowhere o.payload) (is_nowhere o.payload) (nowhere_tells o.payload) o.hide (sym c.first_nowhere.ensures ∙ c.in_default-first_nowhere.is))) in
    let most = one_more o 56 more (none_at o protected (found_none IsProtected is_protected protected_tells o.hide (sym c.first_protected.ensures ∙ c.in_default-first_protected.is))) in
    one_more o 57 most (none_at o misplaced (found_none (IsMisplaced o.payload) (is_misplaced o.payload) (misplaced_tells o.payload) o.decoys (sym c.first_misplaced.ensures ∙ c.in_default-first_misplaced.is)))
