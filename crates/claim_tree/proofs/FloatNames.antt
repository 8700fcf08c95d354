-- The names under which a number stands that is not whole, as members are read one after another.
use Rattle.std.proofs.Common.{◌≡◌, ◌↔◌, List, [], ◌∷◌, length, Bool, true, false, not, ◌||◌, IsTrue, Ordering, Less, Equal, Greater, nat_cmp, refl, sym, ap, subst, ◌∙◌}
use Rattle.std.specs.Prelude.{if◌then◌else◌}
use Rattle.std.specs.Cmp.Lexicographic.{slice_cmp}
use Rattle.std.specs.Ordering.{match_ordering, ordering_reverse}
use Rattle.std.proofs.lemmas.Cmp.{nat_list_cmp_total}
use Rattle.serde_json.specs.Data.{Data, Members, no_members, member, put}
use Rattle.serde_json.specs.Written.{has_float, members_have_float}
use Rattle.claim_tree.specs.Tree.{Text, IsBefore}
use Rattle.claim_tree.specs.Floats.{noted}
use Rattle.claim_tree.proofs.MapPlaces.{same_name}
use Rattle.claim_tree.proofs.ReadOrdered.{AreAfter, after_put, after_through}

abbrev pub float_names : Members → List Text
float_names no_members = []
float_names (member k d ms) = if has_float d then k ∷ float_names ms else float_names ms

-- the names ascend
abbrev pub Ascend : Members → Type 0
Ascend no_members = Unit {0}
Ascend (member k d ms) = AreAfter k ms × Ascend ms

ascends_by : (o : Ordering) (k l : Text) (d e : Data) (ms : Members) → slice_cmp nat_cmp k l ≡ o → Ascend (member l e ms) → Ascend (put k d ms)
    → Ascend (match_ordering o (member k d (member l e ms)) (member l d ms) (member l e (put k d ms)))
ascends_by Less k l d e ms is a more = ((is, after_through k l ms is a.0), a)
ascends_by Equal k l d e ms is a more = a
ascends_by Greater k l d e ms is a more =
    let before : IsBefore l k = nat_list_cmp_total.antisymm l k ∙ ap ordering_reverse is in
    (after_put l k d ms before a.0, more)

pub put_ascends : (k : Text) (d : Data) (ms : Members) → Ascend ms → Ascend (put k d ms)
put_ascends k d no_members a = (tt, tt)
put_ascends k d (member l e ms) a = ascends_by (slice_cmp nat_cmp k l) k l d e ms refl a (put_ascends k d ms a.1)

-- ---- one name more

first_there : (b : Bool) (k l : Text) (ls : List Text) → IsBefore k l → noted ls k true ≡ k ∷ ls → noted (if b then l ∷ ls else ls) k true ≡ k ∷ (if b then l ∷ ls else ls)
first_there true k l ls is e = rw is
first_there false k l ls is e = e

first_none : (b : Bool) (k l : Text) (ls : List Text) → IsBefore k l → noted ls k false ≡ ls → noted (if b then l ∷ ls else ls) k false ≡ (if b then l ∷ ls else ls)
first_none true k l ls is e = rw is (ap (λ more. l ∷ more) e)
first_none false k l ls is e = e

-- before all others
put_first : (k : Text) (ms : Members) → AreAfter k ms → noted (float_names ms) k true ≡ k ∷ float_names ms
put_first k no_members a = refl
put_first k (member l e ms) a = first_there (has_float e) k l (float_names ms) a.0 (put_first k ms a.1)

put_none : (k : Text) (ms : Members) → AreAfter k ms → noted (float_names ms) k false ≡ float_names ms
put_none k no_members a = refl
put_none k (member l e ms) a = first_none (has_float e) k l (float_names ms) a.0 (put_none k ms a.1)

before_all : (b : Bool) (k : Text) (ms : Members) → AreAfter k ms → (if b then k ∷ float_names ms else float_names ms) ≡ noted (float_names ms) k b
before_all true k ms a = sym (put_first k ms a)
before_all false k ms a = sym (put_none k ms a)

in_place : (b f : Bool) (k l : Text) (ms : Members) → slice_cmp nat_cmp k l ≡ Equal → k ≡ l → AreAfter k ms → (if b then l ∷ float_names ms else float_names ms) ≡ noted (if f then l ∷ float_names ms else float_names ms) k b
in_place true true k l ms is same a = rw is
in_place false true k l ms is same a = rw is
in_place true false k l ms is same a = ap (λ n. n ∷ float_names ms) (sym same) ∙ sym (put_first k ms a)
in_place false false k l ms is same a = sym (put_none k ms a)

behind : (b f : Bool) (k l : Text) (ls : List Text) → slice_cmp nat_cmp k l ≡ Greater → (if f then l ∷ noted ls k b else noted ls k b) ≡ noted (if f then l ∷ ls else ls) k b
behind true true k l ls is = rw is
behind false true k l ls is = rw is
behind b false k l ls is = refl

named_by : (o : Ordering) (k l : Text) (d e : Data) (ms : Members) → slice_cmp nat_cmp k l ≡ o → Ascend (member l e ms) → float_names (put k d ms) ≡ noted (float_names ms) k (has_float d)
    → float_names (match_ordering o (member k d (member l e ms)) (member l d ms) (member l e (put k d ms))) ≡ noted (float_names (member l e ms)) k (has_float d)
named_by Less k l d e ms is a more = before_all (has_float d) k (member l e ms) (is, after_through k l ms is a.0)
named_by Equal k l d e ms is a more =
    let same : k ≡ l = same_name k l is in
    in_place (has_float d) (has_float e) k l ms is same (subst (λ n. AreAfter n ms) (sym same) a.0)
named_by Greater k l d e ms is a more = ap (λ ls. if has_float e then l ∷ ls else ls) more ∙ behind (has_float d) (has_float e) k l (float_names ms) is

pub float_names-put : (k : Text) (d : Data) (ms : Members) → Ascend ms → float_names (put k d ms) ≡ noted (float_names ms) k (has_float d)
float_names-put k d no_members a = before_all (has_float d) k no_members tt
float_names-put k d (member l e ms) a = named_by (slice_cmp nat_cmp k l) k l d e ms refl a (float_names-put k d ms a.1)

-- ---- whether there is one

-- whether a list has an element
abbrev pub has_one : List Text → Bool
has_one [] = false
has_one (l ∷ ls) = true

one_more : (b : Bool) (k : Text) (ls : List Text) (rest : Bool) → rest ≡ has_one ls → (b || rest) ≡ has_one (if b then k ∷ ls else ls)
one_more true k ls rest e = refl
one_more false k ls rest e = e

pub have_float : (ms : Members) → members_have_float ms ≡ has_one (float_names ms)
have_float no_members = refl
have_float (member k d ms) = one_more (has_float d) k (float_names ms) (members_have_float ms) (have_float ms)

pub has_one-empty : (ls : List Text) (b : Bool) → (IsTrue b ↔ (length ls ≡ 0)) → has_one ls ≡ not b
has_one-empty [] true e = refl
has_one-empty [] false e = absurd (cc (e.1 refl))
has_one-empty (l ∷ ls) true e = absurd (cc (e.0 refl))
has_one-empty (l ∷ ls) false e = refl
