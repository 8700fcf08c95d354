use Rattle.std.proofs.Common.{◌≡◌, Err, ap, subst, sym, arith}
use Rattle.std.proofs.lemmas.Result.{err_from_is_err_and}
use Rattle.claim_tree.specs.View.{tree_of}
use Rattle.claim_tree.specs.ListViews.{elements_of}
use Rattle.claim_tree.proofs.Walks.{elements_turn}
use Rattle.hmac_sign.specs.Keys.{no_keys}
use Rattle.hmac_sign.specs.KeyRefusals.{IsKeyShort, IsFirstKey}
use Rattle.hmac_sign.specs.declared.key_set.KeySetError.TheVariants.{KeyShort}
use Rattle.hmac_sign.proofs.KeySets.{at_is, none_more, first_at, added, added_long}
use Rattle.hmac_sign.proofs.key_set_elements.make_keys.Goals as goal

pub loop-place-init : goal.loop-place-init
loop-place-init c = (rw c.new-keys.ensures.items no_keys, λ i t below at p. absurd (omega (arith, below)))

pub add_key-requires : goal.add_key-requires
add_key-requires c none =
    let ts = c.args.trees.now in
    let i = c.loop-place.place in
    let t = c.index-trees-place.result in
    c.requires i (tree_of t) c.loop-place-test.true (at_is ts i t c.loop-place-test.true c.index-trees-place.is) none

pub returns-in_err-add_key-clause-short : goal.returns-in_err-add_key-clause-short
returns-in_err-add_key-clause-short c =
    let from = err_from_is_err_and c.from_residual.result c.from_residual.ensures.1 in
    let ts = c.args.trees.now in
    let t = c.index-trees-place.result in
    rw (from.1, from.2) (λ place e.
    let same : c.in_err-add_key.field-0.0 ≡ KeyShort place = cc e in
    let told = c.in_err-add_key.ensures.short place (ap Err same) in
    subst (λ j. IsFirstKey IsKeyShort (elements_of ts) j) (sym told.0) (first_at IsKeyShort ts c.loop-place.place t c.loop-place-test.true c.index-trees-place.is c.loop-place.invariant.1 told.1))

pub loop-place-preserved : goal.loop-place-preserved
loop-place-preserved c =
    let ts = c.args.trees.now in
    let i = c.loop-place.place in
    let t = c.index-trees-place.result in
    let turn = elements_turn ts i t c.loop-place-test.true c.index-trees-place.is in
    let more = c.in_ok-add_key.ensures.ok in (
      rw turn (added _ (tree_of t) c.loop-place.keys.items c.add_key.new.keys.items c.loop-place.invariant.0 more),
      none_more IsKeyShort ts i t c.loop-place-test.true c.index-trees-place.is c.loop-place.invariant.1 (added_long (tree_of t) c.loop-place.keys.items c.add_key.new.keys.items more),
    )
