-- A payload and disclosures that meet every condition, so that no law speaks of nothing.
use Rattle.std.proofs.Common.{◌≡◌, ℕ, zero, suc, ◌<◌, ◌≤◌, List, [], ◌∷◌, true, false, ◌⊎◌, inl, inr, Option, Some, pos, codes, refl, sym, subst, ◌∙◌, ap, arith}
use Rattle.std.specs.Prelude.{bytes_eq}
use Rattle.claim_tree.specs.Tree.{Text, Tree, whole, text, leaf, array, object, no_elements, element, no_members, member, IsOrdered, depth}
use Rattle.sd_outside.specs.Lists.{StandsAt, In, Repeats, AtNone}
use Rattle.digest_sites.specs.Reserved.{sd_name, dots_name, misuses}
use Rattle.digest_sites.specs.Given.{Given}
use Rattle.digest_sites.specs.declared.site.SiteKind.TheVariants.{Member}
use Rattle.marked_tree.specs.Marked.{Marked, strip, marked_leaf, marked_object, no_marked_members, marked_member}
use Rattle.marked_tree.specs.Laws.{HasEachMarkOnce}
use Rattle.rebuild_core.specs.Payload.{alg_name}
use Rattle.rebuild_core.specs.Reached.{payload as payload_owner}
use Rattle.rebuild_core.specs.Reached.{value_of, OwnedSite, met, owned_digests, is_reached}
use Rattle.rebuild_core.specs.Opening.{processed}
use Rattle.rebuild_core.specs.Conditions.{Misused, Unreferenced, IsWrong, WrongShape, IsReserved, ReservedName, NameClash, Discloses}
use Rattle.rebuild_core.specs.Soundness.{IsReferencedOnce, IsSound}
use Rattle.rebuild_core.specs.Laws.{HasOneSite}
use Rattle.rebuild_core.specs.Readable.{IsReadable}
use Rattle.sd_outside.proofs.Lists.{bytes_refl, In-At, At-In}
use Rattle.rebuild_core.proofs.OneSite.{one_site_holds}
use Rattle.rebuild_core.proofs.Presented.{one_node_holds}

-- an object with one digest of a hidden member
abbrev hides : Text → Tree
unfolding sd_name dots_name alg_name
hides digest = object (member (codes "_sd") (array (element (leaf (text digest)) no_elements)) no_members)

-- {"_sd":["A"]}
abbrev payload : Tree
payload = hides (codes "A")

-- x: {"_sd":["B"]}
abbrev outer : Given
outer = record { digest = codes "A"; name = Some (codes "x"); value = hides (codes "B") }

-- y: 7
abbrev inner : Given
inner = record { digest = codes "B"; name = Some (codes "y"); value = leaf (whole (pos 7)) }

abbrev given : List Given
given = outer ∷ inner ∷ []

-- {"x":{"y":7}}
opens : processed payload given ≡ marked_object (marked_member (codes "x") (Some 0) (marked_object (marked_member (codes "y") (Some 1) (marked_leaf (whole (pos 7))) no_marked_members)) no_marked_members)
unfolding sd_name dots_name alg_name
opens = refl

differ : codes "A" ≡ codes "B" → ⊥
differ e = let same : false ≡ true = bytes_refl (codes "A") (codes "B") e in cc

two_texts : AtNone (Repeats (codes "A" ∷ codes "B" ∷ []))
two_texts zero (t, there, earlier, below, before) = absurd (omega arith)
two_texts (suc zero) (t, there, zero, below, before) = differ (sym before ∙ there)
two_texts (suc zero) (t, there, suc earlier, below, before) = absurd (omega arith)
two_texts (suc (suc place)) (t, there, earlier, below, before) = elim there [ ]

-- A in the payload, and B in the value of disclosure 0
meets : owned_digests (met payload given) ≡ codes "A" ∷ codes "B" ∷ []
unfolding sd_name dots_name alg_name
meets = refl

well_used : AtNone (Misused payload given)
unfolding sd_name dots_name alg_name
well_used zero misused = cc
well_used (suc zero) (x, there, misused) = let same : misuses outer.value ≡ true = subst (λ (y : Given). misuses y.value ≡ true) there misused in cc
well_used (suc (suc zero)) (x, there, misused) = let same : misuses inner.value ≡ true = subst (λ (y : Given). misuses y.value ≡ true) there misused in cc
well_used (suc (suc (suc i))) (x, there, misused) = elim there [ ]

all_reached : AtNone (Unreferenced payload given)
unfolding sd_name dots_name alg_name
all_reached zero (x, there, missed) = let same : is_reached payload given outer ≡ false = subst (λ (y : Given). is_reached payload given y ≡ false) there missed in cc
all_reached (suc zero) (x, there, missed) = let same : is_reached payload given inner ≡ false = subst (λ (y : Given). is_reached payload given y ≡ false) there missed in cc
all_reached (suc (suc i)) (x, there, missed) = elim there [ ]

-- each stands at a member site, and has a name that is not reserved
abbrev IsMember : OwnedSite → Type 0
IsMember m = m.site.kind ≡ Member

members : (m : OwnedSite) → In m (met payload given) → IsMember m
unfolding sd_name dots_name alg_name
members m (inl e) = ap (λ (n : OwnedSite). n.site.kind) e
members m (inr (inl e)) = ap (λ (n : OwnedSite). n.site.kind) e
members m (inr (inr h)) = elim h [ ]

named : (i : ℕ) (x : Given) → StandsAt given i x → (name : Text) × (x.name ≡ Some name) × (name ≡ codes "x" ⊎ name ≡ codes "y")
named zero x there = (codes "x", ap (λ (y : Given). y.name) there, inl refl)
named (suc zero) x there = (codes "y", ap (λ (y : Given). y.name) there, inr refl)
named (suc (suc i)) x there = elim there [ ]

right_shapes : AtNone (WrongShape payload given)
right_shapes i (x, there, m, met_there, same, wrong) =
    let n = named i x there in
    subst (λ (o : Option Text). IsWrong Member o) n.1 (subst (λ k. IsWrong k x.name) (members m met_there) wrong)

free : (name : Text) → (name ≡ codes "x" ⊎ name ≡ codes "y") → (reserved : Text) → bytes_eq (codes "x") reserved ≡ false → bytes_eq (codes "y") reserved ≡ false → name ≡ reserved → ⊥
free name (inl e) reserved x y same = let z : bytes_eq (codes "x") reserved ≡ true = bytes_refl (codes "x") reserved (sym e ∙ same) in let clash : false ≡ true = sym x ∙ z in cc
free name (inr e) reserved x y same = let z : bytes_eq (codes "y") reserved ≡ true = bytes_refl (codes "y") reserved (sym e ∙ same) in let clash : false ≡ true = sym y ∙ z in cc

none_reserved : (name : Text) → (name ≡ codes "x" ⊎ name ≡ codes "y") → (m : OwnedSite) → IsReserved m name → ⊥
unfolding sd_name dots_name alg_name
none_reserved name is m (inl e) = free name is sd_name refl refl e
none_reserved name is m (inr (inl e)) = free name is dots_name refl refl e
none_reserved name is m (inr (inr e)) = free name is alg_name refl refl e.0

free_names : AtNone (ReservedName payload given)
free_names i (x, there, m, met_there, same, (kind, name, is, reserved)) =
    let n = named i x there in
    let e : name ≡ n.0 = let z : Some name ≡ Some n.0 = sym is ∙ n.1 in cc in
    none_reserved name (subst (λ z. z ≡ codes "x" ⊎ z ≡ codes "y") (sym e) n.2) m reserved

-- the name of what stands at a place, and what stands beside it
disclosed : (m : OwnedSite) (name : Text) → Discloses given m name → (name ≡ codes "x" ⊎ name ≡ codes "y")
disclosed m name (kind, x, there, same, is) =
    let at = In-At given x there in
    let n = named at.0 x at.1 in
    let e : name ≡ n.0 = let z : Some name ≡ Some n.0 = sym is ∙ n.1 in cc in
    subst (λ z. z ≡ codes "x" ⊎ z ≡ codes "y") (sym e) n.2

beside_is : (m : OwnedSite) → In m (met payload given) → m.site.beside ≡ sd_name ∷ []
unfolding sd_name dots_name alg_name
beside_is m (inl e) = ap (λ (n : OwnedSite). n.site.beside) e
beside_is m (inr (inl e)) = ap (λ (n : OwnedSite). n.site.beside) e
beside_is m (inr (inr h)) = elim h [ ]

not_beside : (m : OwnedSite) (name : Text) → In m (met payload given) → Discloses given m name → In name m.site.beside → ⊥
unfolding sd_name dots_name alg_name
not_beside m name there discloses beside = go (subst (λ (names : List Text). In name names) (beside_is m there) beside)
  where
    go : In name (sd_name ∷ []) → ⊥
    go (inl e) = free name (disclosed m name discloses) sd_name refl refl e
    go (inr h) = elim h [ ]

-- the two stand in objects of two owners
owners_differ : (place earlier : ℕ) (m e : OwnedSite) → earlier < place → StandsAt (met payload given) place m → StandsAt (met payload given) earlier e → e.owner ≡ m.owner → ⊥
unfolding sd_name dots_name alg_name
owners_differ zero earlier m e below there before same = absurd (omega arith)
owners_differ (suc zero) zero m e below there before same =
    let clash : payload_owner ≡ value_of 0 = sym (ap (λ (n : OwnedSite). n.owner) before) ∙ (same ∙ ap (λ (n : OwnedSite). n.owner) there) in cc
owners_differ (suc zero) (suc earlier) m e below there before same = absurd (omega arith)
owners_differ (suc (suc place)) earlier m e below there before same = elim there [ ]

no_clash : AtNone (NameClash payload given)
no_clash place (m, there, name, discloses, inl beside) = not_beside m name (At-In (met payload given) place m there) discloses beside
no_clash place (m, there, name, discloses, inr (earlier, below, e, before, owner, at, again)) = owners_differ place earlier m e below there before owner

referenced : IsReferencedOnce payload given
referenced = record {
  no_repeated_disclosure = two_texts;
  no_misuse = well_used;
  no_repeated_digest = subst (λ (ds : List Text). AtNone (Repeats ds)) (sym meets) two_texts;
  no_unreferenced = all_reached;
}

sound : IsSound payload given
sound = record {
  referenced = referenced;
  named = record { no_wrong_shape = right_shapes; no_reserved_name = free_names; no_name_clash = no_clash };
  shallow = subst (λ (m : Marked). depth (strip m) ≤ 100) (sym opens) (omega arith);
}

readable : IsReadable payload given
unfolding sd_name dots_name alg_name
readable = record { in_payload = (tt, (tt, tt), tt); in_values = λ x there. values x there }
  where
    values : (x : Given) → In x given → IsOrdered x.value
    values x (inl e) = subst (λ (y : Given). IsOrdered y.value) (sym e) (tt, (tt, tt), tt)
    values x (inr (inl e)) = subst (λ (y : Given). IsOrdered y.value) (sym e) tt
    values x (inr (inr h)) = elim h [ ]

-- so the laws speak of it
has_one_site : HasOneSite payload given
has_one_site = one_site_holds payload given referenced

has_each_mark : HasEachMarkOnce (processed payload given) 2
has_each_mark = one_node_holds payload given readable sound
