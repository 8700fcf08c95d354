-- The payload with its `_sd_alg`: it is an object that names its hash.
use Rattle.std.proofs.Common.{◌≡◌, ℕ, List, Some, false, refl, subst, sym}
use Rattle.std.specs.Prelude.{bytes_eq}
use Rattle.claim_tree.specs.Tree.{IsOrdered, Text, Tree, array, get, leaf, object, text}
use Rattle.disclosure.specs.Digest.{hash_name}
use Rattle.disclosure.specs.declared.digests.HashAlg.{HashAlg}
use Rattle.digest_sites.specs.Given.{Given}
use Rattle.digest_sites.specs.Reserved.{sd_name}
use Rattle.marked_tree.specs.Marked.{Marked, marked_array, marked_leaf, marked_object, strip}
use Rattle.marked_tree.specs.Paths.{Path}
use Rattle.rebuild_core.specs.Payload.{alg_name}
use Rattle.issuer_core.specs.Digests.{Maker, marked_claims}
use Rattle.issuer_core.specs.GoodOrder.{IsGoodOrder, IsObject}
use Rattle.issuer_core.specs.Laid.{IsLaid, lay, order_decoys, with_alg}
use Rattle.issuer_core.specs.Order.{Order}
use Rattle.claim_tree.proofs.MapPlaces.{ordered-inserted}
use Rattle.claim_tree.proofs.OtherMembers.{named_inserted}
use Rattle.marked_tree.proofs.MarkFacts.{mark_strips_holds}

pub sd_not_alg : bytes_eq sd_name alg_name ≡ false
unfolding sd_name alg_name
sd_not_alg = refl

pub with_alg_ordered : (hash : HashAlg) (t : Tree) → IsOrdered t → IsOrdered (with_alg hash t)
with_alg_ordered hash (leaf l) o = o
with_alg_ordered hash (array es) o = o
with_alg_ordered hash (object ms) o = ordered-inserted ms alg_name (leaf (text (hash_name hash))) o tt

-- an object names its hash
pub alg_named : (hash : HashAlg) (t : Tree) → IsObject t → get (with_alg hash t) alg_name ≡ Some (leaf (text (hash_name hash)))
alg_named hash (object ms) h = named_inserted ms alg_name (leaf (text (hash_name hash)))
alg_named hash (leaf l) h = absurd h
alg_named hash (array es) h = absurd h

-- what is laid from an object is one
pub laid_object : (dec : Path → List Text) (dg : ℕ → Text) (m : Marked) → IsObject (strip m) → IsObject (lay dec dg m)
laid_object dec dg (marked_object ms) h = tt
laid_object dec dg (marked_leaf l) h = absurd h
laid_object dec dg (marked_array es) h = absurd h

pub payload_object : (mk : Maker) (o : Order) (p : Tree) (g : List Given) (dg : ℕ → Text) → IsGoodOrder o → IsLaid mk o p g dg → IsObject p
payload_object mk o p g dg good laid =
    subst IsObject (sym laid.payload_laid) (laid_object (order_decoys o dg) dg (marked_claims o) (subst IsObject (sym (mark_strips_holds o.payload o.hide)) good.is_object))
