use Rattle.std.proofs.Common.{◌≡◌, ◌-◌, ◌<◌, [], ◌∷◌, length, ◌||◌, true, Some, None, option_map, sym, ap, ◌∙◌, refl, arith}
use Rattle.json.specs.Token.{Token}
use Rattle.json.specs.Json.{parse_map, after_end_array, read_key, items, members, value}
use Rattle.json.specs.Reads.{token_of}
use Rattle.json.proofs.Grammar.{value_is, read_key-shorter}
use Rattle.serde_json.specs.Data.{array, object, number, no_members, put}
use Rattle.serde_json.specs.Find.{is_float}
use Rattle.serde_json.specs.Read.{number_of, of_json, of_items, of_members, converted}
use Rattle.serde_json.specs.Written.{has_float, items_have_float, members_have_float}
use Rattle.claim_tree.proofs.Datas.{whole_no_float}
use Rattle.claim_tree.specs.Floats.{noted}
use Rattle.claim_tree.proofs.TreeReading.{parse_some, unread, array_begun, object_begun, array_too_deep, object_too_deep, none_begun, item_refused, items_over, member_read, member_refused, key_refused, members_over}
use Rattle.claim_tree.proofs.Judging.{plain_judged, number_judged, array_judged, object_judged, none_yet, or_none, item_judged}
use Rattle.claim_tree.proofs.FloatNames.{float_names, put_ascends, float_names-put, have_float, has_one, has_one-empty}
use Rattle.claim_tree.proofs.judge.+judge.Goals as goal

pub judge-returns-in_err-token-clause-err : goal.judge-returns-in_err-token-clause-err
judge-returns-in_err-token-clause-err t c refused =
    let empty : c.args.reader.now ≡ [] = grind arith in
    ap (converted of_json) (ap (value c.args.depth) empty ∙ value_is c.args.depth [])

pub judge-returns-in_err-inside-in-BeginArray-clause-err : goal.judge-returns-in_err-inside-in-BeginArray-clause-err
judge-returns-in_err-inside-in-BeginArray-clause-err t c refused =
    let first : c.args.reader.now ≡ token_of c.in_ok-token.token ∷ c.next.new.self = grind arith in
    array_too_deep c.args.depth c.args.reader.now c.next.new.self (first ∙ ap (λ k. token_of k ∷ c.next.new.self) c.in-BeginArray.is) c.in_err-inside-in-BeginArray.ensures.none

pub judge-returns-in_err-inside-in-BeginObject-clause-err : goal.judge-returns-in_err-inside-in-BeginObject-clause-err
judge-returns-in_err-inside-in-BeginObject-clause-err t c refused =
    let first : c.args.reader.now ≡ token_of c.in_ok-token.token ∷ c.next.new.self = grind arith in
    object_too_deep c.args.depth c.args.reader.now c.next.new.self (first ∙ ap (λ k. token_of k ∷ c.next.new.self) c.in-BeginObject.is) c.in_err-inside-in-BeginObject.ensures.none

pub judge-returns-in-String-clause-ok : goal.judge-returns-in-String-clause-ok
judge-returns-in-String-clause-ok t c =
    let first : c.args.reader.now ≡ token_of c.in_ok-token.token ∷ c.next.new.self = grind arith in
    plain_judged c.args.depth c.in_ok-token.token c.args.reader.now c.next.new.self first c.in-String.is

pub judge-returns-in-Ok-clause-ok : goal.judge-returns-in-Ok-clause-ok
judge-returns-in-Ok-clause-ok t c =
    let first : c.args.reader.now ≡ token_of c.in_ok-token.token ∷ c.next.new.self = grind arith in
    let is : c.args.reader.now ≡ Token.number c.in-Number.text.now ∷ c.next.new.self = grind (arith, first) in
    ap (λ o. parse_map has_float (converted of_json o)) (ap (value c.args.depth) is ∙ value_is c.args.depth _) ∙ number_judged (number_of c.in-Number.text.now) c.next.new.self
    ∙ ap (option_map (λ float. (float, c.next.new.self))) (ap (option_map is_float) c.in-Ok.ensures.value ∙ ap Some (whole_no_float c.in-Ok.field-0))

pub judge-returns-in-Err-Float-clause-ok : goal.judge-returns-in-Err-Float-clause-ok
judge-returns-in-Err-Float-clause-ok t c =
    let first : c.args.reader.now ≡ token_of c.in_ok-token.token ∷ c.next.new.self = grind arith in
    let is : c.args.reader.now ≡ Token.number c.in-Number.text.now ∷ c.next.new.self = grind (arith, first) in
    let known : option_map is_float (number_of c.in-Number.text.now) ≡ Some true = rw c.in-Err-Float.field-0-is at c.in-Err-Float.ensures.value in
    ap (λ o. parse_map has_float (converted of_json o)) (ap (value c.args.depth) is ∙ value_is c.args.depth _) ∙ number_judged (number_of c.in-Number.text.now) c.next.new.self
    ∙ ap (option_map (λ float. (float, c.next.new.self))) known

pub judge-returns-in-Err-TooGreat-clause-err : goal.judge-returns-in-Err-TooGreat-clause-err
judge-returns-in-Err-TooGreat-clause-err t c refused =
    let first : c.args.reader.now ≡ token_of c.in_ok-token.token ∷ c.next.new.self = grind arith in
    let is : c.args.reader.now ≡ Token.number c.in-Number.text.now ∷ c.next.new.self = grind (arith, first) in
    let known : number_of c.in-Number.text.now ≡ None = rw c.in-Err-TooGreat.field-0-is at c.in-Err-TooGreat.ensures.value in
    ap (converted of_json) (ap (value c.args.depth) is ∙ value_is c.args.depth _) ∙ ap (λ n. option_map (λ d. (d, c.next.new.self)) (option_map number n)) known

pub judge-returns-in_ok-inside-in-BeginArray-clause-ok : goal.judge-returns-in_ok-inside-in-BeginArray-clause-ok
judge-returns-in_ok-inside-in-BeginArray-clause-ok t c =
    let first : c.args.reader.now ≡ token_of c.in_ok-token.token ∷ c.next.new.self = grind arith in
    let inner = c.in_ok-inside-in-BeginArray in
    let opened = array_begun c.args.depth inner.field-0 c.args.reader.now c.next.new.self (first ∙ ap (λ k. token_of k ∷ c.next.new.self) c.in-BeginArray.is) inner.ensures.some inner.ensures.less in
    let all = ap (parse_map has_float) opened ∙ array_judged (converted of_items (items (value inner.field-0) (length c.next.new.self) c.next.new.self)) in
    rw all c.judge_elements.ensures.ok

pub judge-returns-in_ok-inside-in-BeginArray-clause-err : goal.judge-returns-in_ok-inside-in-BeginArray-clause-err
judge-returns-in_ok-inside-in-BeginArray-clause-err t c refused =
    let first : c.args.reader.now ≡ token_of c.in_ok-token.token ∷ c.next.new.self = grind arith in
    let inner = c.in_ok-inside-in-BeginArray in
    let opened = array_begun c.args.depth inner.field-0 c.args.reader.now c.next.new.self (first ∙ ap (λ k. token_of k ∷ c.next.new.self) c.in-BeginArray.is) inner.ensures.some inner.ensures.less in
    opened ∙ ap (parse_map array) (c.judge_elements.ensures.err refused)

pub judge-returns-in_ok-inside-in-BeginObject-clause-ok : goal.judge-returns-in_ok-inside-in-BeginObject-clause-ok
judge-returns-in_ok-inside-in-BeginObject-clause-ok t c =
    let first : c.args.reader.now ≡ token_of c.in_ok-token.token ∷ c.next.new.self = grind arith in
    let inner = c.in_ok-inside-in-BeginObject in
    let opened = object_begun c.args.depth inner.field-0 c.args.reader.now c.next.new.self (first ∙ ap (λ k. token_of k ∷ c.next.new.self) c.in-BeginObject.is) inner.ensures.some inner.ensures.less in
    let all = ap (parse_map has_float) opened ∙ object_judged (converted (λ ms. of_members ms no_members) (members (value inner.field-0) (length c.next.new.self) c.next.new.self)) in
    rw all c.judge_members.ensures.ok

pub judge-returns-in_ok-inside-in-BeginObject-clause-err : goal.judge-returns-in_ok-inside-in-BeginObject-clause-err
judge-returns-in_ok-inside-in-BeginObject-clause-err t c refused =
    let first : c.args.reader.now ≡ token_of c.in_ok-token.token ∷ c.next.new.self = grind arith in
    let inner = c.in_ok-inside-in-BeginObject in
    let opened = object_begun c.args.depth inner.field-0 c.args.reader.now c.next.new.self (first ∙ ap (λ k. token_of k ∷ c.next.new.self) c.in-BeginObject.is) inner.ensures.some inner.ensures.less in
    opened ∙ ap (parse_map object) (c.judge_members.ensures.err refused)

pub judge-returns-in-EndObject-clause-err : goal.judge-returns-in-EndObject-clause-err
judge-returns-in-EndObject-clause-err t c refused =
    let first : c.args.reader.now ≡ token_of c.in_ok-token.token ∷ c.next.new.self = grind arith in
    none_begun c.args.depth c.in_ok-token.token c.args.reader.now c.next.new.self first c.in-EndObject.is

pub judge_elements-loop-alloc-init : goal.judge_elements-loop-alloc-init
judge_elements-loop-alloc-init t c =
    (length c.args.reader.now, omega arith, none_yet (converted of_items (items (value c.args.depth) (length c.args.reader.now) c.args.reader.now)), omega arith)

pub judge_elements-loop-alloc-preserved : goal.judge_elements-loop-alloc-preserved
judge_elements-loop-alloc-preserved t c =
    let p = value c.args.depth in
    let l = c.loop-alloc in
    let n = l.invariant.0 in
    let going : (after_end_array l.reader ≡ None) × (c.take_end_array.new.self ≡ l.reader) = grind arith in
    let done = c.in_ok-found.ensures in
    let r = c.judge.new.reader in
    let less : length r < length l.reader = rw (← going.1) done.shorter in (
      n - 1,
      omega (arith, l.invariant.1),
      l.invariant.2 ∙ item_judged p n l.reader r l.float c.in_ok-found.found (omega (arith, l.invariant.1)) going.0 (rw (← going.1) done.ok),
      omega (arith, l.invariant.3),
    )

pub judge_elements-returns-in_err-found-clause-err : goal.judge_elements-returns-in_err-found-clause-err
judge_elements-returns-in_err-found-clause-err t c refused =
    let p = value c.args.depth in
    let l = c.loop-alloc in
    let n = l.invariant.0 in
    let going : (after_end_array l.reader ≡ None) × (c.take_end_array.new.self ≡ l.reader) = grind arith in
    let none = item_refused p n l.reader going.0 (rw (← going.1) (c.judge.ensures.err (grind arith))) in
    unread items_have_float _ (l.invariant.2 ∙ ap (λ o. parse_map (λ b. l.float || b) (parse_map items_have_float o)) none)

pub judge_elements-returns-clause-ok : goal.judge_elements-returns-clause-ok
judge_elements-returns-clause-ok t c =
    let l = c.loop-alloc in
    let r = c.take_end_array.new.self in
    l.invariant.2 ∙ ap (λ o. parse_map (λ b. l.float || b) (parse_map items_have_float o)) (items_over (value c.args.depth) l.invariant.0 l.reader r l.invariant.1 (grind arith)) ∙ ap (λ b. Some (b, r)) (or_none l.float)

pub judge_members-loop-floats-init : goal.judge_members-loop-floats-init
judge_members-loop-floats-init t c =
    (length c.args.reader.now, _, omega arith, refl, omega arith, c.new-floats.ensures.empty, tt)

pub judge_members-returns-in_err-name-clause-err :
    goal.judge_members-returns-in_err-name-clause-err
judge_members-returns-in_err-name-clause-err t c refused =
    let p = value c.args.depth in
    let l = c.loop-floats in
    l.invariant.3 ∙ key_refused p l.invariant.1 l.invariant.0 l.reader c.in_err-name.ensures.value

pub judge_members-returns-in_err-float-clause-err :
    goal.judge_members-returns-in_err-float-clause-err
judge_members-returns-in_err-float-clause-err t c refused =
    let p = value c.args.depth in
    let l = c.loop-floats in
    let k = c.in-Some.name.now in
    let s = c.next_key.new.self in
    let named : read_key l.reader ≡ Some (Some k, s) = grind arith in
    l.invariant.3 ∙ member_refused p l.invariant.1 l.invariant.0 k l.reader s named (c.judge.ensures.err (grind arith))

pub judge_members-loop-floats-preserved : goal.judge_members-loop-floats-preserved
judge_members-loop-floats-preserved t c =
    let p = value c.args.depth in
    let l = c.loop-floats in
    let n = l.invariant.0 in
    let found = l.invariant.1 in
    let k = c.in-Some.name.now in
    let s = c.next_key.new.self in
    let named : read_key l.reader ≡ Some (Some k, s) = grind arith in
    let done = c.in_ok-float.ensures in
    let r = c.judge.new.reader in
    let d = parse_some has_float (converted of_json (p s)) c.in_ok-float.float r done.ok in
    let less = read_key-shorter l.reader (Some k) s named in
    let lesser = done.shorter in
    let noted_names = c.in_ok-note.ensures ∙ ap (λ names. noted names k c.in_ok-float.float) l.invariant.5 ∙ ap (noted (float_names found) k) (sym d.2) ∙ sym (float_names-put k d.0 found l.invariant.6) in (
      n - 1,
      put k d.0 found,
      omega (arith, l.invariant.2),
      l.invariant.3 ∙ member_read p found n k l.reader s r d.0 (omega (arith, l.invariant.2)) named d.1,
      omega (arith, l.invariant.4),
      noted_names,
      put_ascends k d.0 found l.invariant.6,
    )

pub judge_members-returns-in_err-note-clause-err :
    goal.judge_members-returns-in_err-note-clause-err
judge_members-returns-in_err-note-clause-err t c refused = absurd (grind arith)

pub judge_members-returns-clause-ok : goal.judge_members-returns-clause-ok
judge_members-returns-clause-ok t c =
    let l = c.loop-floats in
    let r = c.next_key.new.self in
    let over = l.invariant.3 ∙ members_over (value c.args.depth) l.invariant.1 l.invariant.0 l.reader r l.invariant.2 (grind arith) in
    let have = have_float l.invariant.1 ∙ ap has_one (sym l.invariant.5) ∙ has_one-empty l.floats.keys c.is_empty.result c.is_empty.ensures in
    ap (parse_map members_have_float) over ∙ ap (λ b. Some (b, r)) have
