use Rattle.std.proofs.Common.{◌≡◌, ◌-◌, ◌<◌, [], ◌∷◌, length, Some, None, option_map, refl, sym, ap, ◌∙◌, arith, rules}
use Rattle.std.proofs.lemmas.Result.{IfOk-weaker}
use Rattle.json.specs.Token.{Token}
use Rattle.json.specs.Json.{parse_map, after_end_array, read_key, items, members, value}
use Rattle.json.specs.Reads.{token_of}
use Rattle.json.proofs.Grammar.{value_is, read_key-shorter}
use Rattle.serde_json.specs.Data.{array, object, number, put}
use Rattle.serde_json.specs.Read.{number_of, of_json, of_items, of_members, converted}
use Rattle.serde_json.specs.Written.{has_float}
use Rattle.claim_tree.specs.View.{tree_of}
use Rattle.claim_tree.specs.ListViews.{members_of}
use Rattle.claim_tree.specs.JsonText.{data_of, members_data}
use Rattle.claim_tree.specs.Passes.{member_pass, seen, seen_items, seen_members}
use Rattle.claim_tree.proofs.TreeReading.{array_begun, object_begun, array_too_deep, object_too_deep, none_begun, parse_some, unread, item_refused, items_over, member_read, member_refused, key_refused, members_over, items_before, items_before-no_items, none_before, one_more_item, members_data-put}
use Rattle.claim_tree.specs.declared.pass.Pass.TheVariants.{First}
use Rattle.claim_tree.proofs.FloatNames.{put_ascends}
use Rattle.claim_tree.proofs.Passes.{all_seen, all_members, later_inside, number_seen, array_seen, object_seen, item_seen, member_put, passed_over}
use Rattle.claim_tree.proofs.build.+build.Goals as goal

pub build-returns-clause-ok : goal.build-returns-clause-ok
build-returns-clause-ok t c =
    IfOk-weaker c.build_value.result _ _ (λ u read. let was = parse_some (seen First) (converted of_json (value c.args.depth c.args.reader.now)) (data_of (tree_of u)) c.build_value.new.reader read in was.1 ∙ ap (λ d. Some (d, c.build_value.new.reader)) (sym (all_seen was.0) ∙ was.2)) c.build_value.ensures.ok

pub build_value-returns-in_ok-make-in-String-clause-ok :
    goal.build_value-returns-in_ok-make-in-String-clause-ok
build_value-returns-in_ok-make-in-String-clause-ok t c =
    let first : c.args.reader.now ≡ token_of c.in_ok-token.token ∷ c.next.new.self = grind arith in
    let is : c.args.reader.now ≡ Token.string c.in-String.text.now ∷ c.next.new.self = grind (arith, first) in
    let copied : c.in_ok-make-in-String.field-0 ≡ c.in-String.text.now = search rules in
    ap (λ o. parse_map (seen c.args.pass) (converted of_json o)) (ap (value c.args.depth) is ∙ value_is c.args.depth _) ∙ rw copied

pub build_value-returns-in_ok-number_tree-in-Number-clause-ok :
    goal.build_value-returns-in_ok-number_tree-in-Number-clause-ok
build_value-returns-in_ok-number_tree-in-Number-clause-ok t c =
    let first : c.args.reader.now ≡ token_of c.in_ok-token.token ∷ c.next.new.self = grind arith in
    let is : c.args.reader.now ≡ Token.number c.in-Number.text.now ∷ c.next.new.self = grind (arith, first) in
    ap (λ o. parse_map (seen c.args.pass) (converted of_json o)) (ap (value c.args.depth) is ∙ value_is c.args.depth _) ∙ number_seen c.args.pass (number_of c.in-Number.text.now) c.next.new.self
    ∙ ap (option_map (λ d. (d, c.next.new.self))) c.in_ok-number_tree-in-Number.ensures.ok

pub build_value-returns-in-Bool-clause-ok : goal.build_value-returns-in-Bool-clause-ok
build_value-returns-in-Bool-clause-ok t c =
    let first : c.args.reader.now ≡ token_of c.in_ok-token.token ∷ c.next.new.self = grind arith in
    let is : c.args.reader.now ≡ Token.boolean c.in-Bool.flag ∷ c.next.new.self = grind (arith, first) in
    ap (λ o. parse_map (seen c.args.pass) (converted of_json o)) (ap (value c.args.depth) is ∙ value_is c.args.depth _)

pub build_value-returns-in-Null-clause-ok : goal.build_value-returns-in-Null-clause-ok
build_value-returns-in-Null-clause-ok t c =
    let first : c.args.reader.now ≡ token_of c.in_ok-token.token ∷ c.next.new.self = grind arith in
    let is : c.args.reader.now ≡ Token.null ∷ c.next.new.self = grind (arith, first) in
    ap (λ o. parse_map (seen c.args.pass) (converted of_json o)) (ap (value c.args.depth) is ∙ value_is c.args.depth _)

pub build_value-returns-in_ok-build_elements-in-BeginArray-clause-ok :
    goal.build_value-returns-in_ok-build_elements-in-BeginArray-clause-ok
build_value-returns-in_ok-build_elements-in-BeginArray-clause-ok t c =
    let first : c.args.reader.now ≡ token_of c.in_ok-token.token ∷ c.next.new.self = grind arith in
    let inner = c.in_ok-inside-in-BeginArray in
    let opened = array_begun c.args.depth inner.field-0 c.args.reader.now c.next.new.self (first ∙ ap (λ k. token_of k ∷ c.next.new.self) c.in-BeginArray.is) inner.ensures.some inner.ensures.less in
    ap (parse_map (seen c.args.pass)) opened ∙ array_seen c.args.pass _ ∙ ap (parse_map array) c.in_ok-build_elements-in-BeginArray.ensures.ok

pub build_value-returns-in_ok-build_object-in-BeginObject-clause-ok :
    goal.build_value-returns-in_ok-build_object-in-BeginObject-clause-ok
build_value-returns-in_ok-build_object-in-BeginObject-clause-ok t c =
    let first : c.args.reader.now ≡ token_of c.in_ok-token.token ∷ c.next.new.self = grind arith in
    let inner = c.in_ok-inside-in-BeginObject in
    let opened = object_begun c.args.depth inner.field-0 c.args.reader.now c.next.new.self (first ∙ ap (λ k. token_of k ∷ c.next.new.self) c.in-BeginObject.is) inner.ensures.some inner.ensures.less in
    ap (parse_map (seen c.args.pass)) opened ∙ object_seen c.args.pass _ ∙ ap (parse_map object) c.in_ok-build_object-in-BeginObject.ensures.ok

pub build_value-returns-in_err-token-clause-err : goal.build_value-returns-in_err-token-clause-err
build_value-returns-in_err-token-clause-err t c later refused =
    let empty : c.args.reader.now ≡ [] = grind arith in
    ap (converted of_json) (ap (value c.args.depth) empty ∙ value_is c.args.depth [])

pub build_value-returns-in_err-number_tree-in-Number-clause-err :
    goal.build_value-returns-in_err-number_tree-in-Number-clause-err
build_value-returns-in_err-number_tree-in-Number-clause-err t c later refused =
    let first : c.args.reader.now ≡ token_of c.in_ok-token.token ∷ c.next.new.self = grind arith in
    let is : c.args.reader.now ≡ Token.number c.in-Number.text.now ∷ c.next.new.self = grind (arith, first) in
    let none = c.number_tree.ensures.err later (grind arith) in
    ap (converted of_json) (ap (value c.args.depth) is ∙ value_is c.args.depth _) ∙ ap (λ n. option_map (λ d. (d, c.next.new.self)) (option_map number n)) none

pub build_value-returns-in_err-inside-in-BeginArray-clause-err :
    goal.build_value-returns-in_err-inside-in-BeginArray-clause-err
build_value-returns-in_err-inside-in-BeginArray-clause-err t c later refused =
    let first : c.args.reader.now ≡ token_of c.in_ok-token.token ∷ c.next.new.self = grind arith in
    array_too_deep c.args.depth c.args.reader.now c.next.new.self (first ∙ ap (λ k. token_of k ∷ c.next.new.self) c.in-BeginArray.is) c.in_err-inside-in-BeginArray.ensures.none

pub build_value-returns-in_err-build_elements-in-BeginArray-clause-err :
    goal.build_value-returns-in_err-build_elements-in-BeginArray-clause-err
build_value-returns-in_err-build_elements-in-BeginArray-clause-err t c later refused =
    let first : c.args.reader.now ≡ token_of c.in_ok-token.token ∷ c.next.new.self = grind arith in
    let inner = c.in_ok-inside-in-BeginArray in
    array_begun c.args.depth inner.field-0 c.args.reader.now c.next.new.self (first ∙ ap (λ k. token_of k ∷ c.next.new.self) c.in-BeginArray.is) inner.ensures.some inner.ensures.less ∙ ap (parse_map array) (c.build_elements.ensures.err later (grind arith))

pub build_value-returns-in_err-inside-in-BeginObject-clause-err :
    goal.build_value-returns-in_err-inside-in-BeginObject-clause-err
build_value-returns-in_err-inside-in-BeginObject-clause-err t c later refused =
    let first : c.args.reader.now ≡ token_of c.in_ok-token.token ∷ c.next.new.self = grind arith in
    object_too_deep c.args.depth c.args.reader.now c.next.new.self (first ∙ ap (λ k. token_of k ∷ c.next.new.self) c.in-BeginObject.is) c.in_err-inside-in-BeginObject.ensures.none

pub build_value-returns-in_err-build_object-in-BeginObject-clause-err :
    goal.build_value-returns-in_err-build_object-in-BeginObject-clause-err
build_value-returns-in_err-build_object-in-BeginObject-clause-err t c later refused =
    let first : c.args.reader.now ≡ token_of c.in_ok-token.token ∷ c.next.new.self = grind arith in
    let inner = c.in_ok-inside-in-BeginObject in
    object_begun c.args.depth inner.field-0 c.args.reader.now c.next.new.self (first ∙ ap (λ k. token_of k ∷ c.next.new.self) c.in-BeginObject.is) inner.ensures.some inner.ensures.less ∙ ap (parse_map object) (c.build_object.ensures.err later (grind arith))

pub build_value-returns-in-EndObject-clause-err : goal.build_value-returns-in-EndObject-clause-err
build_value-returns-in-EndObject-clause-err t c later refused =
    let first : c.args.reader.now ≡ token_of c.in_ok-token.token ∷ c.next.new.self = grind arith in
    none_begun c.args.depth c.in_ok-token.token c.args.reader.now c.next.new.self first c.in-EndObject.is

pub build_object-returns-in-First-clause-ok : goal.build_object-returns-in-First-clause-ok
build_object-returns-in-First-clause-ok t c =
    let r = c.build_members.new.reader in
    IfOk-weaker c.build_members.result _ _ (λ ms read. ap (parse_map (seen_members c.args.pass)) read ∙ ap (λ b. Some (seen_members b (members_data ms), r)) c.in-First.is ∙ ap (λ d. Some (d, r)) (all_members (members_data ms))) c.build_members.ensures.ok

pub sort_members-loop-found-init : goal.sort_members-loop-found-init
sort_members-loop-found-init t c =
    (length c.args.reader.now, _, omega arith, refl, omega arith, ap (λ es. members_data (members_of es)) (sym c.new-found.ensures.empty), tt)

pub build_elements-loop-alloc-init : goal.build_elements-loop-alloc-init
build_elements-loop-alloc-init t c =
    let all = parse_map (seen_items c.args.pass) (converted of_items (items (value c.args.depth) (length c.args.reader.now) c.args.reader.now)) in
    (length c.args.reader.now, omega arith, none_before all ∙ ap (λ es. parse_map (items_before es) all) (sym c.new-trees.ensures), omega arith)

pub build_elements-loop-alloc-preserved : goal.build_elements-loop-alloc-preserved
build_elements-loop-alloc-preserved t c =
    let p = value c.args.depth in
    let l = c.loop-alloc in
    let n = l.invariant.0 in
    let going : (after_end_array l.reader ≡ None) × (c.take_end_array.new.self ≡ l.reader) = grind arith in
    let done = c.in_ok-tree.ensures in
    let u = tree_of c.in_ok-tree.tree in
    let r = c.build_value.new.reader in
    let less : length r < length l.reader = rw (← going.1) done.shorter in
    let turn = item_seen c.args.pass p n l.reader r (data_of u) (omega (arith, l.invariant.1)) going.0 (rw (← going.1) done.ok) in (
      n - 1,
      omega (arith, l.invariant.1),
      l.invariant.2 ∙ ap (parse_map (items_before l.trees)) turn ∙ one_more_item l.trees u _
          ∙ ap (λ es. parse_map (items_before es) (parse_map (seen_items c.args.pass) (converted of_items (items p (n - 1) r)))) (sym c.in_ok-push.ensures.ok),
      omega (arith, l.invariant.3),
    )

pub build_elements-returns-in_err-tree-clause-err : goal.build_elements-returns-in_err-tree-clause-err
build_elements-returns-in_err-tree-clause-err t c later refused =
    let p = value c.args.depth in
    let l = c.loop-alloc in
    let going : (after_end_array l.reader ≡ None) × (c.take_end_array.new.self ≡ l.reader) = grind arith in
    let none = item_refused p l.invariant.0 l.reader going.0 (rw (← going.1) (c.build_value.ensures.err later (grind arith))) in
    unread (seen_items c.args.pass) _ (l.invariant.2 ∙ ap (λ o. parse_map (items_before l.trees) (parse_map (seen_items c.args.pass) o)) none)

pub build_elements-returns-clause-ok : goal.build_elements-returns-clause-ok
build_elements-returns-clause-ok t c =
    let l = c.loop-alloc in
    let r = c.take_end_array.new.self in
    l.invariant.2 ∙ ap (λ o. parse_map (items_before l.trees) (parse_map (seen_items c.args.pass) o)) (items_over (value c.args.depth) l.invariant.0 l.reader r l.invariant.1 (grind arith)) ∙ ap (λ ds. Some (ds, r)) (items_before-no_items l.trees)

pub sort_members-returns-in_err-name-clause-err : goal.sort_members-returns-in_err-name-clause-err
sort_members-returns-in_err-name-clause-err t c later refused =
    let l = c.loop-found in
    l.invariant.3 ∙ key_refused (value c.args.depth) l.invariant.1 l.invariant.0 l.reader c.in_err-name.ensures.value

pub sort_members-returns-in_err-tree-in-Some-of_member-clause-err : goal.sort_members-returns-in_err-tree-in-Some-of_member-clause-err
sort_members-returns-in_err-tree-in-Some-of_member-clause-err t c later refused =
    let l = c.loop-found in
    let k = c.in-Some.name.now in
    let s = c.next_key.new.self in
    let named : read_key l.reader ≡ Some (Some k, s) = grind arith in
    let inside = later_inside c.args.pass c.in-Some-of_member.inner k later (grind arith) in
    l.invariant.3 ∙ member_refused (value c.args.depth) l.invariant.1 l.invariant.0 k l.reader s named (c.build_value.ensures.err inside (grind arith))

pub sort_members-returns-in_err-judge-in-None-clause-err : goal.sort_members-returns-in_err-judge-in-None-clause-err
sort_members-returns-in_err-judge-in-None-clause-err t c later refused =
    let l = c.loop-found in
    let k = c.in-Some.name.now in
    let s = c.next_key.new.self in
    let named : read_key l.reader ≡ Some (Some k, s) = grind arith in
    l.invariant.3 ∙ member_refused (value c.args.depth) l.invariant.1 l.invariant.0 k l.reader s named (c.judge.ensures.err (grind arith))

-- a member that is read
pub sort_members-loop-found-preserved-in-Continue-branch-5 : goal.sort_members-loop-found-preserved-in-Continue-branch-5
sort_members-loop-found-preserved-in-Continue-branch-5 t c =
    let p = value c.args.depth in
    let l = c.loop-found in
    let n = l.invariant.0 in
    let was = l.invariant.1 in
    let k = c.in-Some.name.now in
    let s = c.next_key.new.self in
    let inner = c.in-Some-of_member.inner in
    let named : read_key l.reader ≡ Some (Some k, s) = grind arith in
    let inside : member_pass c.args.pass k ≡ Some inner = grind arith in
    let done = c.in_ok-tree-in-Some-of_member.ensures in
    let u = tree_of c.in_ok-tree-in-Some-of_member.tree in
    let r = c.build_value.new.reader in
    let d = parse_some (seen inner) (converted of_json (p s)) (data_of u) r done.ok in
    let less = read_key-shorter l.reader (Some k) s named in
    let lesser = done.shorter in
    let copied : c.in_ok-name-in-Some-of_member.name ≡ k = search rules in
    let before = seen_members c.args.pass was in
    let entered : seen_members c.args.pass (put k d.0 was) ≡ members_data (members_of c.put_sorted.new.members.entries) =
    member_put c.args.pass k inner d.0 was l.invariant.6 inside ∙ ap (λ e. put k e before) d.2 ∙ ap (put k (data_of u)) l.invariant.5
    ∙ ap (λ name. put name (data_of u) (members_data (members_of l.found.entries))) (sym copied) ∙ sym c.in_ok-put_sorted-in-Some-of_member.ensures in (
      n - 1,
      put k d.0 was,
      omega (arith, l.invariant.2),
      l.invariant.3 ∙ member_read p was n k l.reader s r d.0 (omega (arith, l.invariant.2)) named d.1,
      omega (arith, l.invariant.4),
      entered,
      put_ascends k d.0 was l.invariant.6,
    )

-- one that is passed over
pub sort_members-loop-found-preserved : goal.sort_members-loop-found-preserved
sort_members-loop-found-preserved t c =
    let p = value c.args.depth in
    let l = c.loop-found in
    let n = l.invariant.0 in
    let was = l.invariant.1 in
    let k = c.in-Some.name.now in
    let s = c.next_key.new.self in
    let named : read_key l.reader ≡ Some (Some k, s) = grind arith in
    let over : member_pass c.args.pass k ≡ None = grind arith in
    let done = c.in_ok-judge-in-None.ensures in
    let r = c.judge.new.reader in
    let d = parse_some has_float (converted of_json (p s)) c.in_ok-judge-in-None.field-0 r done.ok in
    let less = read_key-shorter l.reader (Some k) s named in
    let lesser = done.shorter in (
      n - 1,
      put k d.0 was,
      omega (arith, l.invariant.2),
      l.invariant.3 ∙ member_read p was n k l.reader s r d.0 (omega (arith, l.invariant.2)) named d.1,
      omega (arith, l.invariant.4),
      passed_over c.args.pass k d.0 was l.invariant.6 over ∙ l.invariant.5,
      put_ascends k d.0 was l.invariant.6,
    )

pub sort_members-returns-clause-ok : goal.sort_members-returns-clause-ok
sort_members-returns-clause-ok t c =
    let l = c.loop-found in
    ap (parse_map (seen_members c.args.pass)) (l.invariant.3 ∙ members_over (value c.args.depth) l.invariant.1 l.invariant.0 l.reader c.next_key.new.self l.invariant.2 (grind arith)) ∙ ap (λ ms. Some (ms, c.next_key.new.self)) l.invariant.5

pub build_members-loop-trees-preserved : goal.build_members-loop-trees-preserved
build_members-loop-trees-preserved t c =
    let p = value c.args.depth in
    let l = c.loop-trees in
    let n = l.invariant.0 in
    let k = c.in-Some.name.now in
    let s = c.next_key.new.self in
    let named : read_key l.reader ≡ Some (Some k, s) = grind arith in
    let done = c.in_ok-tree.ensures in
    let u = tree_of c.in_ok-tree.tree in
    let r = c.build.new.reader in
    let less = read_key-shorter l.reader (Some k) s named in
    let lesser = done.shorter in
    let copied : c.in_ok-name-2.name ≡ k = search rules in
    let inserted : members_data c.insert.new.self ≡ put k (data_of u) (members_data l.trees) =
    ap members_data c.in_ok-insert.ensures.ok ∙ members_data-put l.trees c.in_ok-name-2.name u ∙ ap (λ name. put name (data_of u) (members_data l.trees)) copied in (
      n - 1,
      omega (arith, l.invariant.1),
      l.invariant.2 ∙ member_read p (members_data l.trees) n k l.reader s r (data_of u) (omega (arith, l.invariant.1)) named done.ok
          ∙ ap (λ found. converted (λ ms. of_members ms found) (members p (n - 1) r)) (sym inserted),
      omega (arith, l.invariant.3),
    )

pub build_members-returns-clause-ok : goal.build_members-returns-clause-ok
build_members-returns-clause-ok t c =
    let l = c.loop-trees in
    l.invariant.2 ∙ members_over (value c.args.depth) (members_data l.trees) l.invariant.0 l.reader c.next_key.new.self l.invariant.1 (grind arith)
