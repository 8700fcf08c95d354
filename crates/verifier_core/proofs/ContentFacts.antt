-- What a token says where no condition fails: its content is sound, and the names in it ascend.
use Rattle.std.proofs.Common.{List, [], ◌∷◌, Option, Some, None, inl, inr, refl, sym, subst, arith}
use Rattle.std.proofs.Math.Nat.{lt_of_not-le}
use Rattle.std.specs.List.{AllZip}
use Rattle.claim_tree.specs.Tree.{Text, Tree, leaf, array, object, IsOrdered}
use Rattle.sd_outside.specs.Lists.{In}
use Rattle.claim_tree.proofs.MapPlaces.{ordered-removed}
use Rattle.claim_tree.proofs.ReadOrdered.{reads_ordered}
use Rattle.refusals.specs.declared.fault.Place.TheVariants.{Nowhere, At}
use Rattle.refusals.specs.declared.condition.Condition.{Condition}
use Rattle.refusals.specs.Lowest.{NoneFails}
use Rattle.refusals.specs.Passing.{Passes}
use Rattle.digest_sites.specs.Given.{Given}
use Rattle.disclosure.specs.declared.digests.HashAlg.{HashAlg}
use Rattle.disclosure.specs.Disclosure.{array_of}
use Rattle.json_form.specs.declared.token.Token.{Token}
use Rattle.rebuild_core.specs.Soundness.{IsSound}
use Rattle.rebuild_core.specs.Readable.{IsReadable}
use Rattle.rebuild_core.specs.Payload.{alg_name, without_alg}
use Rattle.verifier_core.specs.Verdict.{Rules, TokenFails, HasContent, Gives}

-- ---- what is read has ascending names

payload_ordered : (t : Tree) → IsOrdered t → IsOrdered (without_alg t)
payload_ordered (leaf l) o = tt
payload_ordered (array es) o = o
payload_ordered (object ms) o = ordered-removed ms alg_name o

value_ordered : (salt : Tree) (name : Option Text) (value : Tree) → IsOrdered (array_of salt name value) → IsOrdered value
value_ordered salt None value o = o.1.0
value_ordered salt (Some name) value o = o.1.1.0

values_ordered : (hash : HashAlg) (ds : List Text) (g : List Given) → AllZip (Gives hash) ds g → (x : Given) → In x g → IsOrdered x.value
values_ordered hash [] [] all x there = absurd there
values_ordered hash [] (y ∷ g) all x there = absurd all
values_ordered hash (d ∷ ds) [] all x there = absurd there
values_ordered hash (d ∷ ds) (y ∷ g) all x (inl same) =
    let read = all.0.2.reads in
    subst (λ (z : Given). IsOrdered z.value) (sym same) (value_ordered all.0.1 y.name y.value (reads_ordered all.0.2.json (array_of all.0.1 y.name y.value) read))
values_ordered hash (d ∷ ds) (y ∷ g) all x (inr there) = values_ordered hash ds g all.1 x there

pub content_readable : (token : Token) (p : Tree) (g : List Given) → HasContent token p g → IsReadable p g
content_readable token p g has = record {
  in_payload = subst IsOrdered (sym has.payload_is) (payload_ordered has.body (reads_ordered has.is_body.carried.bytes has.body has.is_body.carried.reads));
  in_values = values_ordered has.hash token.parts.disclosures g has.disclosures;
}

-- ---- no condition fails

-- none below 22
pub content_passes : (token : Token) (rules : Rules) (p : Tree) (g : List Given) → HasContent token p g → Passes 22 (TokenFails token rules) → IsSound p g
content_passes token rules p g has passes = record {
  referenced = record {
    no_repeated_disclosure = λ i h. let low = passes Condition.RepeatedDisclosure (At i) (i, refl, (p, g, has, h)) in omega (arith, low);
    no_misuse = λ i h. let low = passes Condition.ReservedMisused (At i) (i, refl, (p, g, has, h)) in omega (arith, low);
    no_repeated_digest = λ i h. let low = passes Condition.RepeatedDigest (At i) (i, refl, (p, g, has, h)) in omega (arith, low);
    no_unreferenced = λ i h. let low = passes Condition.UnreferencedDisclosure (At i) (i, refl, (p, g, has, h)) in omega (arith, low);
  };
  named = record {
    no_wrong_shape = λ i h. let low = passes Condition.WrongShape (At i) (i, refl, (p, g, has, h)) in omega (arith, low);
    no_reserved_name = λ i h. let low = passes Condition.ReservedName (At i) (i, refl, (p, g, has, h)) in omega (arith, low);
    no_name_clash = λ i h. let low = passes Condition.NameClash (At i) (i, refl, (p, g, has, h)) in omega (arith, low);
  };
  shallow = (let low = lt_of_not-le (λ more. let deep = passes Condition.TooDeep Nowhere (refl, (p, g, has, more)) in omega (arith, deep)) in omega (arith, low));
}

pub content_sound : (token : Token) (rules : Rules) (p : Tree) (g : List Given) → HasContent token p g → NoneFails (TokenFails token rules) → IsSound p g
content_sound token rules p g has none = content_passes token rules p g has (λ c place fails. absurd (none c place fails))
