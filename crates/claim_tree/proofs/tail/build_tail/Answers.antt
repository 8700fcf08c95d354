use Rattle.std.proofs.Common.{◌≡◌, [], ◌∷◌, ap, ◌∙◌, arith}
use Rattle.json.specs.Token.{Token}
use Rattle.json.specs.Lex.{tokens}
use Rattle.claim_tree.specs.JsonText.{elements_data}
use Rattle.claim_tree.specs.ListTails.{tail_elements}
use Rattle.claim_tree.proofs.ListTails.{tail_read}
use Rattle.claim_tree.proofs.tail.build_tail.Goals as goal

pub returns-in-None : goal.returns-in-None
returns-in-None c =
    let first = c.in-Some-String.field-0-0.now in
    let r = c.next-2.new.self in
    let begins : tokens c.args.text.now ≡ Token.begin_array ∷ c.next.new.self = grind arith in
    let behind : c.next.new.self ≡ Token.string first ∷ r = grind arith in
    let over : c.build_one_or_two.new.reader ≡ [] = grind arith in
    record { ok = (first, tail_read c.args.text.now first r (elements_data (tail_elements c.in_ok-tail.tail)) (begins ∙ ap (λ w. Token.begin_array ∷ w) behind) (rw (← over) c.in_ok-tail.ensures.ok)) }
