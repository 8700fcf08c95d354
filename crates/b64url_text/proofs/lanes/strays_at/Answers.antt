use Rattle.std.proofs.Common.{ℕ, ◌/◌, take, bit_and, refl, arith, w8}
use Rattle.std.proofs.lemmas.Simd.{zip2_splat, zip2_of_maps, splat_is_map, length-chunk, chunk-fits}
use lib.Lanes.{chunk}
use Rattle.b64url_text.specs.declared.lanes.TheConstants.{CLASS, CLASSES}
use Rattle.b64url_text.specs.Base64url.{letters, is_letter}
use Rattle.b64url_text.proofs.LaneRuns.{run_in}
use Rattle.b64url_text.proofs.LookUps.{high_small, low_small, are_places, looked_up}
use Rattle.b64url_text.proofs.lanes.strays_at.Goals as goal

pub swizzle-class : goal.swizzle-class
swizzle-class c =
    let v = chunk c.args.at 32 c.args.text.now in
    let long = length-chunk c.args.at 32 c.args.text.now c.requires in
    are_places (λ x. x / 16) v _ long (zip2_splat {Y = ℕ} _ v 32 4 long) (high_small v (chunk-fits w8 c.args.at 32 c.args.text.now c.type_inv.text))

pub swizzle-classes : goal.swizzle-classes
swizzle-classes c =
    let v = chunk c.args.at 32 c.args.text.now in
    let long = length-chunk c.args.at 32 c.args.text.now c.requires in
    are_places (λ x. bit_and x 15) v _ long (zip2_splat {Y = ℕ} _ v 32 15 long) (low_small v)

pub returns : goal.returns
unfolding is_letter letters
returns c =
    let v = chunk c.args.at 32 c.args.text.now in
    let long = length-chunk c.args.at 32 c.args.text.now c.requires in
    let high = looked_up (take 16 CLASS) (λ x. x / 16) v _ refl long (zip2_splat {Y = ℕ} _ v 32 4 long) (high_small v (chunk-fits w8 c.args.at 32 c.args.text.now c.type_inv.text)) in
    let low = looked_up (take 16 CLASSES) (λ x. bit_and x 15) v _ refl long (zip2_splat {Y = ℕ} _ v 32 15 long) (low_small v) in
    run_in is_letter c.args.text.now c.args.at 32 _ _ c.requires (omega arith) c.type_inv.text
    (zip2_of_maps {X = ℕ} {Y = ℕ} {Z = ℕ} _ _ _ v (zip2_of_maps {X = ℕ} {Y = ℕ} {Z = ℕ} _ _ _ v high low) (splat_is_map v 32 0 long))
    refl
