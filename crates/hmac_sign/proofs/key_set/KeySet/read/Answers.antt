use Rattle.std.proofs.Common.{◌≡◌, Some, Err, false, true, codes, ap, sym, ◌∙◌}
use Rattle.std.proofs.lemmas.Result.{err_from_is_err_and}
use Rattle.claim_tree.specs.Tree.{get}
use Rattle.claim_tree.specs.View.{tree_of}
use Rattle.claim_tree.specs.ListViews.{elements_of}
use Rattle.hmac_sign.specs.Keys.{array_in, keys_under, are_keys}
use Rattle.hmac_sign.specs.KeyRefusals.{no_key, IsKeyNotBase64}
use Rattle.hmac_sign.proofs.KeySets.{none_at_all}
use Rattle.hmac_sign.specs.declared.key_set.KeySetError.TheVariants.{KeyShort}
use Rattle.hmac_sign.proofs.key_set.KeySet.read.Goals as goal

pub returns-then-not-are_keys-clause-not_a_set : goal.returns-then-not-are_keys-clause-not_a_set
returns-then-not-are_keys-clause-not_a_set c e =
    let found : Some (tree_of c.in-Some-List.field-0.now) ≡ get (tree_of c.args.tree.now) (codes "keys") = c.in-Some-List.ensures.value in
    let stand : keys_under (tree_of c.args.tree.now) ≡ Some c.in-Some-List.list = sym (ap array_in found) ∙ ap (λ t. array_in (Some (tree_of t))) c.in-Some-List.field-0-is in
    let bad : are_keys c.in-Some-List.list ≡ false = sym (ap are_keys c.trees-trees.ensures.value) ∙ (sym c.are_keys.ensures ∙ c.if-not-are_keys.true) in
    no_key c.in-Some-List.list stand bad

pub returns-in_err-keys-clause-short : goal.returns-in_err-keys-clause-short
returns-in_err-keys-clause-short c =
    let from = err_from_is_err_and c.from_residual-in_err-keys.result c.from_residual-in_err-keys.ensures.1 in
    let ts = c.trees-trees.result.now in
    let all : elements_of ts ≡ c.in-Some-List.list = c.trees-trees.ensures.value in
    let found : Some (tree_of c.in-Some-List.field-0.now) ≡ get (tree_of c.args.tree.now) (codes "keys") = c.in-Some-List.ensures.value in
    let stand : keys_under (tree_of c.args.tree.now) ≡ Some (elements_of ts) = sym (ap array_in found) ∙ (ap (λ t. array_in (Some (tree_of t))) c.in-Some-List.field-0-is ∙ sym (ap Some all)) in
    let good : are_keys (elements_of ts) ≡ true = sym c.are_keys.ensures ∙ c.if-not-are_keys.false in
    rw (from.1, from.2) (λ place e.
    let same : c.in_err-keys.field-0.0 ≡ KeyShort place = cc e in
    record {
      elements = elements_of ts;
      stand = stand;
      good = good;
      codes_are = none_at_all IsKeyNotBase64 ts c.in_ok-all_decode.ensures.codes;
      first = c.in_err-keys.ensures.short place (ap Err same);
    })
