use Rattle.std.proofs.Common.{◌≡◌, ◌-◌, ◌<◌, length, Some, None, ap, ◌∙◌, arith}
use Rattle.json.specs.Json.{after_end_array, parse_map, value}
use Rattle.serde_json.specs.Data.{item}
use Rattle.claim_tree.specs.View.{tree_of}
use Rattle.claim_tree.specs.JsonText.{data_of}
use Rattle.claim_tree.proofs.TreeReading.{item_read}
use Rattle.claim_tree.proofs.ListTails.{last_read}
use Rattle.claim_tree.proofs.tail.build_one_or_two.Goals as goal

pub returns-then-take_end_array-2 : goal.returns-then-take_end_array-2
returns-then-take_end_array-2 c =
    let ts = c.args.reader.now in
    let going : (after_end_array ts ≡ None) × (c.take_end_array.new.self ≡ ts) = grind arith in
    let end : after_end_array c.build.new.reader ≡ Some c.take_end_array-2.new.self = grind arith in
    let shorter : length c.build.new.reader < length ts = rw (← going.1) c.in_ok-second.ensures.shorter in
    record { ok = last_read (value c.args.depth) (length ts) ts c.build.new.reader c.take_end_array-2.new.self (data_of (tree_of c.in_ok-second.second)) (omega (arith, shorter)) (omega (arith, shorter)) going.0 (rw (← going.1) c.in_ok-second.ensures.ok) end }

pub returns : goal.returns
returns c =
    let ts = c.args.reader.now in
    let p = value c.args.depth in
    let r = c.build.new.reader in
    let s = c.build-2.new.reader in
    let going : (after_end_array ts ≡ None) × (c.take_end_array.new.self ≡ ts) = grind arith in
    let shorter : length r < length ts = rw (← going.1) c.in_ok-second.ensures.shorter in
    let second = item_read p (length ts) ts r (data_of (tree_of c.in_ok-second.second)) (omega (arith, shorter)) going.0 (rw (← going.1) c.in_ok-second.ensures.ok) in
    let going_on : (after_end_array r ≡ None) × (c.take_end_array-2.new.self ≡ r) = grind arith in
    let shorter_still : length s < length r = rw (← going_on.1) c.in_ok-build.ensures.shorter in
    let end : after_end_array s ≡ Some c.take_end_array-3.new.self = grind arith in
    record { ok = second ∙ ap (parse_map (item (data_of (tree_of c.in_ok-second.second)))) (last_read p (length ts - 1) r s c.take_end_array-3.new.self (data_of (tree_of c.in_ok-build.field-0)) (omega (arith, shorter, shorter_still)) (omega (arith, shorter, shorter_still)) going_on.0 (rw (← going_on.1) c.in_ok-build.ensures.ok) end) }
