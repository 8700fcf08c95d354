-- The loops that open the members of an object.
use Rattle.std.proofs.Common.{◌≡◌, ℕ, suc, ◌+◌, ◌-◌, ◌<◌, ◌≤◌, max, List, [], ◌∷◌, ◌++◌, length, get_or, drop, Bool, true, false, cond, not, ◌&&◌, Option, None, Greater, nat_cmp, refl, sym, ap, ap₂, ◌∙◌, subst, arith}
use Rattle.std.specs.Prelude.{bytes_eq}
use Rattle.std.specs.Ordering.{ordering_reverse}
use Rattle.std.specs.Cmp.Lexicographic.{slice_cmp}
use Rattle.std.proofs.lemmas.Cmp.{nat_list_cmp_total}
use Rattle.std.proofs.lemmas.List.{at_drop_more}
use Rattle.claim_tree.specs.Tree.{Text, Tree, Members, no_members, member, object, names, depth, IsBefore, IsBeforeAll, MembersOrdered}
use Rattle.claim_tree.specs.View.{tree_of}
use Rattle.claim_tree.specs.ListViews.{members_of}
use Rattle.claim_tree.specs.Removed.{removed}
use Rattle.claim_tree.proofs.Walks.{Named}
use Rattle.digest_sites.specs.Reserved.{sd_name, sd_texts}
use Rattle.digest_sites.specs.Given.{Given}
use Rattle.marked_tree.specs.Marked.{Marked, MarkedMembers, no_marked_members, marked_member, put, strip}
use Rattle.marked_tree.specs.MarkedCalls.{members_joined, put_all}
use Rattle.rebuild_core.specs.Payload.{alg_name}
use Rattle.rebuild_core.specs.Opening.{Shown, open_tree, open_members, show_members}
use Rattle.rebuild_core.specs.Cursor.{tree_digests, members_digests, TellFirst}
use Rattle.rebuild_core.specs.Whole.{settled, shown_member, shown_members, shown_depth, shown_depths, topped, stays, AllNew, WholeUnless, OpensWhole, MembersWhole, IsOpenable, OpensFrom, TakesOnly}
use Rattle.rebuild_core.proofs.AlgFacts.{sd_texts_without}
use Rattle.rebuild_core.proofs.Goes.{Goes, goes_past, first_part, length-join}
use Rattle.rebuild_core.proofs.Taking.{Taking, taking_start, taking_past, taking_last, opens_part, opens_rest}
use Rattle.marked_tree.proofs.MarkSame.{members_joined-none}
use Rattle.rebuild_core.proofs.ShownDepths.{map_depth, members_joined_depth, put_shown, put_depth_most, members_most, members_keep, members_new}

-- ---- the payload's own object

pub sd_texts-topped : (top : Bool) (ms : Members) → sd_texts (topped top ms) ≡ sd_texts ms
sd_texts-topped true ms = sd_texts_without ms
sd_texts-topped false ms = refl

-- a member that stays
pub topped_stays : (top : Bool) (k : Text) (t : Tree) (ms : Members) → stays top k ≡ true → (topped top (member k t ms) ≡ member k t (topped top ms)) × (bytes_eq k sd_name ≡ false)
topped_stays top k t ms h = go top (bytes_eq k sd_name) (bytes_eq k alg_name) h
  where
    go : (top own alg : Bool) → (not own && not (top && alg)) ≡ true
        → (cond top (cond alg (removed ms alg_name) (member k t (removed ms alg_name))) (member k t ms) ≡ member k t (topped top ms)) × (own ≡ false)
    go top true alg e = cc
    go true false true e = cc
    go true false false e = (refl, refl)
    go false false alg e = (refl, refl)

abbrev pub Drops : (top : Bool) → Text → Tree → Members → Members → Type 0
Drops top k t ms rest = (members_digests rest ≡ members_digests (topped top ms)) × ((g : List Given) → open_members (settled g) rest ≡ open_members (settled g) (topped top ms))
    × ((g : List Given) → MembersWhole (settled g) rest → MembersWhole (settled g) (topped top ms))

-- one that does not
pub topped_drops : (top : Bool) (k : Text) (t : Tree) (ms : Members) → stays top k ≡ false → Drops top k t ms (topped top (member k t ms))
topped_drops top k t ms h = go top (bytes_eq k sd_name) refl (bytes_eq k alg_name) h
  where
    go : (top own : Bool) → bytes_eq k sd_name ≡ own → (alg : Bool) → (not own && not (top && alg)) ≡ false
        → Drops top k t ms (cond top (cond alg (removed ms alg_name) (member k t (removed ms alg_name))) (member k t ms))
    go true own q true e = (refl, (λ g. refl), (λ g w. w))
    go true true q false e = (rw q refl, (λ g. rw q refl), (λ g w. w.1))
    go false true q alg e = (rw q refl, (λ g. rw q refl), (λ g w. w.1))
    go true false q false e = cc
    go false false q alg e = cc

kept_digests : (top : Bool) (k : Text) (t : Tree) (ms : Members) → stays top k ≡ true → members_digests (topped top (member k t ms)) ≡ tree_digests t ++ members_digests (topped top ms)
kept_digests top k t ms h =
    let w = topped_stays top k t ms h in
    ap members_digests w.0 ∙ ap (λ b. cond b [] (tree_digests t) ++ members_digests (topped top ms)) w.1

-- ---- the hidden members

pub record OwnState (g : List Given) (ks : List ℕ) (limit : ℕ) (all : List Text) (end : ℕ) (rest : List Text) (out : MarkedMembers) (at : ℕ) : Type 0 where
  pub goes : Goes g ks rest at end
  pub joins : members_joined out (shown_members (settled g) rest) ≡ shown_members (settled g) all
  pub low : shown_depths (settled g) all ≤ max limit (shown_depths (settled g) rest)
  pub part : shown_depths (settled g) rest ≤ shown_depths (settled g) all

pub own_ends : (g : List Given) (ks : List ℕ) (limit : ℕ) (all : List Text) (end : ℕ) (rest : List Text) (out : MarkedMembers) (at : ℕ) → OwnState g ks limit all end rest out at → rest ≡ []
    → (at ≡ end) × (out ≡ shown_members (settled g) all) × (shown_depths (settled g) all ≤ limit)
own_ends g ks limit all end rest out at s e = (
  (let l : at + length rest ≡ end = s.goes.1 in omega (arith, l, ap length e)),
  sym (members_joined-none out) ∙ ap (λ ds. members_joined out (shown_members (settled g) ds)) (sym e) ∙ s.joins,
  omega (arith, s.low, ap (shown_depths (settled g)) e),
)

text_here : (ds : List Text) (i : ℕ) → i < length ds → drop i ds ≡ get_or ds i [] ∷ drop (i + 1) ds
text_here ds i l = at_drop_more (λ (es : List Text). es) ds i [] l

pub own_here : (g old now : List Given) (ks : List ℕ) (limit : ℕ) (all : List Text) (end i : ℕ) (out : MarkedMembers) (at : ℕ) → i < length all
    → OwnState g ks limit all end (drop i all) out at × Taking g old now all (drop i all)
    → OwnState g ks limit all end (get_or all i [] ∷ drop (i + 1) all) out at × Taking g old now all (get_or all i [] ∷ drop (i + 1) all)
own_here g old now ks limit all end i out at l w = subst (λ (ds : List Text). OwnState g ks limit all end ds out at × Taking g old now all ds) (text_here all i l) w

module _ (g : List Given) (ks : List ℕ) (limit : ℕ) (all : List Text) (end : ℕ) (d : Text) (rest : List Text) (out : MarkedMembers) (at : ℕ) (s : OwnState g ks limit all end (d ∷ rest) out at) where
  pub own_after : (next : ℕ) (x : Shown) (new : MarkedMembers) → next ≡ at + 1 → x ≡ settled g d → shown_depth x ≤ limit
      → ((ms : MarkedMembers) → members_joined new ms ≡ members_joined out (shown_member x ms)) → OwnState g ks limit all end rest new next
  own_after next x new q is low pushed =
      record {
        goes = goes_past g ks (d ∷ []) rest at next end s.goes q;
        joins = pushed (shown_members (settled g) rest) ∙ ap (λ z. members_joined out (shown_member z (shown_members (settled g) rest))) is ∙ s.joins;
        low = omega (arith, s.low, low, ap shown_depth is);
        part = omega (arith, s.part);
      }

  pub own_deep : limit < shown_depth (settled g d) → limit < shown_depths (settled g) all
  own_deep h = omega (arith, h, s.part)

-- what is taken with a hidden member
module _ (g old now : List Given) (ks ends : List ℕ) (limit : ℕ) (all : List Text) (end : ℕ) (d : Text) (rest : List Text) (out : MarkedMembers) (at : ℕ)
    (ready : IsOpenable g ks ends) (s : OwnState g ks limit all end (d ∷ rest) out at) (w : Taking g old now all (d ∷ rest)) where
  pub own_opens : OpensFrom g now ks ends at (d ∷ []) (Unit {0})
  own_opens = opens_part g old now ks ends at all (d ∷ []) rest (Unit {0}) w ready (first_part g (drop at ks) (d ∷ []) rest s.goes.0) tt

  pub own_taken : (new : List Given) → TakesOnly g now new (d ∷ []) → Taking g old new all rest
  own_taken new o = taking_past g old now new all (d ∷ []) rest w o

-- ---- the other members

-- all names come before those
abbrev pub AllBefore : MarkedMembers → List Text → Type 0
AllBefore no_marked_members ns = Unit {0}
AllBefore (marked_member k i t ms) ns = IsBeforeAll k ns × AllBefore ms ns

later : (k l : Text) → IsBefore l k → slice_cmp nat_cmp k l ≡ Greater
later k l h = nat_list_cmp_total.antisymm k l ∙ ap ordering_reverse h

-- a name that comes after all is put last
pub put_last : (ms ns : MarkedMembers) (k : Text) (ls : List Text) (i : Option ℕ) (t : Marked) → AllBefore ms (k ∷ ls) → members_joined (put k i t ms) ns ≡ members_joined ms (marked_member k i t ns)
put_last no_marked_members ns k ls i t h = refl
put_last (marked_member l j u ms) ns k ls i t h = rw (later k l h.0.0) (ap (marked_member l j u) (put_last ms ns k ls i t h.1))

pub before_put : (ms : MarkedMembers) (k : Text) (ls : List Text) (i : Option ℕ) (t : Marked) → AllBefore ms (k ∷ ls) → IsBeforeAll k ls → AllBefore (put k i t ms) ls
before_put no_marked_members k ls i t h a = (a, tt)
before_put (marked_member l j u ms) k ls i t h a = rw (later k l h.0.0) (h.0.1, before_put ms k ls i t h.1 a)

pub before_less : (ms : MarkedMembers) (k : Text) (ls : List Text) → AllBefore ms (k ∷ ls) → AllBefore ms ls
before_less no_marked_members k ls h = tt
before_less (marked_member l j u ms) k ls h = (h.0.1, before_less ms k ls h.1)

pub record MapState (g : List Given) (ks : List ℕ) (limit : ℕ) (top : Bool) (all : Members) (end : ℕ) (rest : Members) (out : MarkedMembers) (at : ℕ) : Type 0 where
  pub goes : Goes g ks (members_digests (topped top rest)) at end
  pub joins : members_joined out (open_members (settled g) (topped top rest)) ≡ open_members (settled g) (topped top all)
  pub whole : MembersWhole (settled g) (topped top rest)
  pub ordered : MembersOrdered rest
  pub before : AllBefore out (names rest)
  pub low : map_depth out ≤ limit

topped_none : (top : Bool) → topped top no_members ≡ no_members
topped_none true = refl
topped_none false = refl

-- the next member
pub map_here : (g old now : List Given) (ks : List ℕ) (limit : ℕ) (top : Bool) (all : Members) (end : ℕ) (us : List Named) (m : Named) (rest : List Named) (out : MarkedMembers) (at : ℕ) (ds : List Text)
    → us ≡ m ∷ rest → MapState g ks limit top all end (members_of us) out at × Taking g old now ds (members_digests (topped top (members_of us)))
    → MapState g ks limit top all end (member m.0 (tree_of m.1) (members_of rest)) out at × Taking g old now ds (members_digests (topped top (member m.0 (tree_of m.1) (members_of rest))))
map_here g old now ks limit top all end us m rest out at ds e w =
    subst (λ vs. MapState g ks limit top all end (members_of vs) out at × Taking g old now ds (members_digests (topped top (members_of vs)))) e w

pub map_ends : (g : List Given) (ks : List ℕ) (limit : ℕ) (top : Bool) (all : Members) (end : ℕ) (rest : Members) (out : MarkedMembers) (at : ℕ)
    → MapState g ks limit top all end rest out at → rest ≡ no_members → (at ≡ end) × (out ≡ open_members (settled g) (topped top all)) × (map_depth out ≤ limit)
map_ends g ks limit top all end rest out at s e =
    let f : topped top rest ≡ no_members = ap (topped top) e ∙ topped_none top in (
      (let l : at + length (members_digests (topped top rest)) ≡ end = s.goes.1 in omega (arith, l, ap (λ es. length (members_digests es)) f)),
      sym (members_joined-none out) ∙ ap (λ ms. members_joined out (open_members (settled g) ms)) (sym f) ∙ s.joins,
      s.low,
    )

module _ (g : List Given) (ks : List ℕ) (limit : ℕ) (top : Bool) (all : Members) (end : ℕ) (k : Text) (t : Tree) (rest : Members) (out : MarkedMembers) (at : ℕ)
    (s : MapState g ks limit top all end (member k t rest) out at) where
  pub dropped_after : stays top k ≡ false → MapState g ks limit top all end rest out at
  dropped_after h =
      let d = topped_drops top k t rest h in
      record {
        goes = subst (λ ds. Goes g ks ds at end) d.0 s.goes;
        joins = ap (members_joined out) (sym (d.1 g)) ∙ s.joins;
        whole = d.2 g s.whole;
        ordered = s.ordered.2;
        before = before_less out k (names rest) s.before;
        low = s.low;
      }

  module _ (h : stays top k ≡ true) where
    own_false : bytes_eq k sd_name ≡ false
    own_false = (topped_stays top k t rest h).1

    goes_kept : Goes g ks (tree_digests t ++ members_digests (topped top rest)) at end
    goes_kept = subst (λ ds. Goes g ks ds at end) (kept_digests top k t rest h) s.goes

    joins_kept : members_joined out (marked_member k None (open_tree (settled g) t) (open_members (settled g) (topped top rest))) ≡ open_members (settled g) (topped top all)
    joins_kept =
        let e : open_members (settled g) (topped top (member k t rest)) ≡ marked_member k None (open_tree (settled g) t) (open_members (settled g) (topped top rest)) =
        ap (open_members (settled g)) (topped_stays top k t rest h).0
        ∙ ap (λ b. cond b (open_members (settled g) (topped top rest)) (marked_member k None (open_tree (settled g) t) (open_members (settled g) (topped top rest)))) own_false in
        ap (members_joined out) (sym e) ∙ s.joins

    whole_kept : OpensWhole (settled g) t × MembersWhole (settled g) (topped top rest)
    whole_kept =
        let w : MembersWhole (settled g) (member k t (topped top rest)) = subst (λ ms. MembersWhole (settled g) ms) (topped_stays top k t rest h).0 s.whole in
        (subst (λ b. WholeUnless b (OpensWhole (settled g) t)) own_false w.0, w.1)

    kept_at : TellFirst g (drop at ks) (tree_digests t) × OpensWhole (settled g) t
    kept_at = (first_part g (drop at ks) (tree_digests t) (members_digests (topped top rest)) goes_kept.0, whole_kept.0)

    pub kept_after : (next : ℕ) (m : Marked) (new : MarkedMembers) → next ≡ at + length (tree_digests t) → m ≡ open_tree (settled g) t → depth (strip m) ≤ limit
        → new ≡ put k None m out → MapState g ks limit top all end rest new next
    kept_after next m new q is low new_is =
        record {
          goes = goes_past g ks (tree_digests t) (members_digests (topped top rest)) at next end goes_kept q;
          joins =
              ap (λ xs. members_joined xs (open_members (settled g) (topped top rest))) new_is ∙ put_last out (open_members (settled g) (topped top rest)) k (names rest) None m s.before
              ∙ ap (λ (z : Marked). members_joined out (marked_member k None z (open_members (settled g) (topped top rest)))) is ∙ joins_kept;
          whole = whole_kept.1;
          ordered = s.ordered.2;
          before = subst (λ xs. AllBefore xs (names rest)) (sym new_is) (before_put out k (names rest) None m s.before s.ordered.0);
          low = omega (arith, ap map_depth new_is, put_depth_most k None m out, s.low, low);
        }

    pub kept_deep : limit < depth (strip (open_tree (settled g) t)) → limit < map_depth (open_members (settled g) (topped top all))
    kept_deep h =
        omega (arith, h, members_joined_depth out (marked_member k None (open_tree (settled g) t) (open_members (settled g) (topped top rest))), ap map_depth joins_kept)

-- what is taken with a member
module _ (g old now : List Given) (ks ends : List ℕ) (limit : ℕ) (top : Bool) (all : Members) (end : ℕ) (k : Text) (t : Tree) (rest : Members) (out : MarkedMembers) (at : ℕ) (ds : List Text)
    (ready : IsOpenable g ks ends) (s : MapState g ks limit top all end (member k t rest) out at) (w : Taking g old now ds (members_digests (topped top (member k t rest)))) where
  pub dropped_taken : stays top k ≡ false → Taking g old now ds (members_digests (topped top rest))
  dropped_taken h = subst (Taking g old now ds) (topped_drops top k t rest h).0 w

  module _ (h : stays top k ≡ true) where
    taking_kept : Taking g old now ds (tree_digests t ++ members_digests (topped top rest))
    taking_kept = subst (Taking g old now ds) (kept_digests top k t rest h) w

    pub kept_opens : OpensFrom g now ks ends at (tree_digests t) (OpensWhole (settled g) t)
    kept_opens =
        let p = kept_at g ks limit top all end k t rest out at s h in
        opens_part g old now ks ends at ds (tree_digests t) (members_digests (topped top rest)) (OpensWhole (settled g) t) taking_kept ready p.0 p.1

    pub kept_taken : (new : List Given) → TakesOnly g now new (tree_digests t) → Taking g old new ds (members_digests (topped top rest))
    kept_taken new o = taking_past g old now new ds (tree_digests t) (members_digests (topped top rest)) taking_kept o

-- ---- the object

module _ (g old : List Given) (ks ends : List ℕ) (top : Bool) (ms : Members) (at : ℕ)
    (o : OpensFrom g old ks ends at (tree_digests (object (topped top ms))) (OpensWhole (settled g) (object (topped top ms)))) where
  abbrev object_digests : List Text
  object_digests = tree_digests (object (topped top ms))

  object_taking : Taking g old old object_digests (sd_texts ms ++ members_digests (topped top ms))
  object_taking =
      subst (λ ds. Taking g old old object_digests (ds ++ members_digests (topped top ms))) (sd_texts-topped top ms)
      (taking_start g old ks ends at object_digests (OpensWhole (settled g) (object (topped top ms))) o)

  pub object_own : OpensFrom g old ks ends at (sd_texts ms) (Unit {0})
  object_own =
      let told = subst (λ ds. TellFirst g (drop at ks) ds) (sd_texts-topped top ms) (first_part g (drop at ks) (sd_texts (topped top ms)) (members_digests (topped top ms)) o.told) in
      opens_part g old old ks ends at object_digests (sd_texts ms) (members_digests (topped top ms)) (Unit {0}) object_taking o.ready told tt

  module _ (now : List Given) (taken : TakesOnly g old now (sd_texts ms)) where
    object_rest : Taking g old now object_digests (members_digests (topped top ms))
    object_rest = taking_past g old old now object_digests (sd_texts ms) (members_digests (topped top ms)) object_taking taken

    pub object_plain : (next : ℕ) → next ≡ at + length (sd_texts ms) → OpensFrom g now ks ends next (members_digests (topped top ms)) (MembersWhole (settled g) (topped top ms))
    object_plain next q =
        let l : next ≡ at + length (sd_texts (topped top ms)) = q ∙ ap (λ (ds : List Text). at + length ds) (sym (sd_texts-topped top ms)) in
        let told = (goes_past g ks (sd_texts (topped top ms)) (members_digests (topped top ms)) at next _ (o.told, refl) l).0 in
        opens_rest g old now ks ends next object_digests (members_digests (topped top ms)) (MembersWhole (settled g) (topped top ms)) object_rest o.ready told o.whole.1

    pub object_taken : (new : List Given) → TakesOnly g now new (members_digests (topped top ms)) → TakesOnly g old new object_digests
    object_taken new t = taking_last g old now new object_digests (members_digests (topped top ms)) object_rest t

pub object_moved : (top : Bool) (ms : Members) (at next end : ℕ) → next ≡ at + length (sd_texts ms) → end ≡ next + length (members_digests (topped top ms))
    → end ≡ at + length (tree_digests (object (topped top ms)))
object_moved top ms at next end q r =
    omega (arith, q, r, length-join (sd_texts (topped top ms)) (members_digests (topped top ms)), ap (λ (ds : List Text). length ds) (sd_texts-topped top ms))

module _ (g : List Given) (limit : ℕ) (top : Bool) (ms : Members) (some : 0 < limit) where
  abbrev plain_part : MarkedMembers
  plain_part = open_members (settled g) (topped top ms)

  pub object_is : (hidden plain map : MarkedMembers) → hidden ≡ shown_members (settled g) (sd_texts ms) → plain ≡ plain_part → map ≡ put_all hidden plain
      → map ≡ show_members (settled g) (sd_texts (topped top ms)) plain_part
  object_is hidden plain map a b c =
      c ∙ ap₂ put_all a b ∙ put_shown (settled g) (sd_texts ms) plain_part ∙ ap (λ (ds : List Text). show_members (settled g) ds plain_part) (sym (sd_texts-topped top ms))

  pub object_low : (map : MarkedMembers) → map ≡ show_members (settled g) (sd_texts (topped top ms)) plain_part → shown_depths (settled g) (sd_texts ms) ≤ limit - 1
      → map_depth plain_part ≤ limit - 1 → suc (map_depth map) ≤ limit
  object_low map is a b =
      omega (arith, some, a, b, ap map_depth is, members_most (settled g) (sd_texts (topped top ms)) plain_part, ap (λ (ds : List Text). shown_depths (settled g) ds) (sd_texts-topped top ms))

  pub object_deep_own : AllNew (settled g) (sd_texts (topped top ms)) plain_part → limit - 1 < shown_depths (settled g) (sd_texts ms)
      → limit < depth (strip (open_tree (settled g) (object (topped top ms))))
  object_deep_own new h =
      omega (arith, some, h, members_new (settled g) (sd_texts (topped top ms)) plain_part new, ap (λ (ds : List Text). shown_depths (settled g) ds) (sd_texts-topped top ms))

  pub object_deep_plain : limit - 1 < map_depth plain_part → limit < depth (strip (open_tree (settled g) (object (topped top ms))))
  object_deep_plain h = omega (arith, some, h, members_keep (settled g) (sd_texts (topped top ms)) plain_part)
