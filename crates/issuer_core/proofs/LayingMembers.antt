-- One member more of an object that is laid.
use Rattle.std.proofs.Common.{◌≡◌, ℕ, ◌+◌, ◌≤◌, List, [], ◌∷◌, ◌++◌, length, map, append_assoc, append-nil, Option, None, Some, refl, sym, ap, ap₂, subst, ◌∙◌, arith}
use Rattle.claim_tree.specs.Tree.{Text, Tree, Members, no_members, member, inserted, names, IsBefore, IsBeforeAll, MembersOrdered, members_depth}
use Rattle.claim_tree.specs.Nodes.{members_nodes}
use Rattle.claim_tree.specs.View.{tree_of}
use Rattle.claim_tree.specs.declared.tree.Tree as code
use Rattle.digest_sites.specs.Given.{Given}
use Rattle.disclosure.specs.Digest.{digest_of}
use Rattle.marked_tree.specs.Marked.{Marked, MarkedMembers, marked_member, no_marked_members, strip_members}
use Rattle.marked_tree.specs.Ways.{weight, members_weight, mark_weight}
use Rattle.marked_tree.specs.MarkedCalls.{marked_names}
use Rattle.marked_tree.specs.Paths.{Path}
use Rattle.marked_tree.proofs.Names.{Ascend, ascend}
use Rattle.issuer_core.specs.Laid.{with_sd, sorted, hidden_digests, laid_given, laid_members, own_given, lay, lay_members}
use Rattle.issuer_core.specs.Digests.{made_texts}
use Rattle.issuer_core.specs.Laying.{digest_at, salted, placed_at, DecoysTell, IsLaidNode, members_with, hidden_with}
use Rattle.issuer_core.specs.Closing.{one, MembersClose}
use Rattle.issuer_core.specs.declared.decoys.Decoys.{Decoys}
use Rattle.issuer_core.specs.declared.laying.Hiding.{Hiding}
use Rattle.issuer_core.specs.declared.laying.LaidNode.{LaidNode}
use Rattle.issuer_core.proofs.LaidOrdered.{lay_names_after}
use Rattle.issuer_core.proofs.LayingSteps.{grown, behind, IsMade}

abbrev pub members_joined : Members → Members → Members
members_joined no_members others = others
members_joined (member name t ms) others = member name t (members_joined ms others)

pub joined_no_members : (ms : Members) → members_joined ms no_members ≡ ms
joined_no_members no_members = refl
joined_no_members (member name t ms) = ap (member name t) (joined_no_members ms)

before_joined : (name k : Text) (u : Tree) (ms rest : Members) → IsBeforeAll name (names (members_joined ms (member k u rest))) → IsBefore name k
before_joined name k u no_members rest all = all.0
before_joined name k u (member l v ms) rest all = before_joined name k u ms rest all.1

inserted_last : (k : Text) (u : Tree) (ms rest : Members) → Ascend (names (members_joined ms (member k u rest))) → members_joined (inserted ms k u) rest ≡ members_joined ms (member k u rest)
inserted_last k u no_members rest o = refl
inserted_last k u (member l v ms) rest o = rw (before_joined l k u ms rest o.0) (ap (member l v) (inserted_last k u ms rest o.1))

module _ (dec : Path → List Text) (dg : ℕ → Text) where
  names_ascend : (ms : MarkedMembers) → Ascend (marked_names ms) → Ascend (names (lay_members dec dg ms))
  names_ascend no_marked_members o = tt
  names_ascend (marked_member k None t ms) o = (lay_names_after dg dec k ms o.0, names_ascend ms o.1)
  names_ascend (marked_member k (Some i) t ms) o = names_ascend ms o.1

-- what is known where an object is laid up to some of its members
pub record LaysMembers (decoys : Decoys) (hiding : Hiding) (first : List Text) (all : MarkedMembers) (laid : Members) (hidden texts digests : List Text) (left : MarkedMembers) : Type 0 where
  pub so_far : (dec : Path → List Text) → DecoysTell decoys dec → (more : List Text) → members_joined laid (lay_members dec (digest_at hiding.hash (texts ++ more)) left) ≡ lay_members dec (digest_at hiding.hash (texts ++ more)) all
  pub hidden_so_far : (more : List Text) → hidden ++ hidden_digests (digest_at hiding.hash (texts ++ more)) left ≡ hidden_digests (digest_at hiding.hash (texts ++ more)) all
  pub made : (dec : Path → List Text) → DecoysTell decoys dec → (more : List Text)
      → texts ++ made_texts (salted hiding.salts.now) (length texts) (laid_members dec (digest_at hiding.hash (texts ++ more)) left) ≡ first ++ made_texts (salted hiding.salts.now) (length first) (laid_members dec (digest_at hiding.hash (texts ++ more)) all)
  pub ordered : MembersOrdered (strip_members all)
  pub closes : MembersClose (length texts) left
  pub count : length texts + members_weight one left ≡ length first + members_weight one all
  pub digested : digests ≡ map (digest_of hiding.hash) texts
  pub low : members_depth (strip_members left) ≤ members_depth (strip_members all)
  pub few : members_nodes (strip_members left) ≤ members_nodes (strip_members all)

member_laid : (dec : Path → List Text) (dg : ℕ → Text) (name : Text) (k : Option ℕ) (m : Marked) (ms : MarkedMembers) (t : code.Tree) → IsLaidNode (λ at. dec (name ∷ at)) dg k m (LaidNode.Shown t)
    → member name (tree_of t) (lay_members dec dg ms) ≡ lay_members dec dg (marked_member name k m ms)
member_laid dec dg name None m ms t p = ap (λ (u : Tree). member name u (lay_members dec dg ms)) p
member_laid dec dg name (Some k) m ms t p = elim p [ ]

member_shown : (dec : Path → List Text) (dg : ℕ → Text) (name : Text) (k : Option ℕ) (m : Marked) (ms : MarkedMembers) (t : code.Tree) → IsLaidNode dec dg k m (LaidNode.Shown t)
    → hidden_digests dg ms ≡ hidden_digests dg (marked_member name k m ms)
member_shown dec dg name None m ms t p = refl
member_shown dec dg name (Some k) m ms t p = elim p [ ]

member_left_out : (dec : Path → List Text) (dg : ℕ → Text) (below : Path → List Text) (name : Text) (k : Option ℕ) (m : Marked) (ms : MarkedMembers) (d : Text) → IsLaidNode below dg k m (LaidNode.Hidden d)
    → lay_members dec dg ms ≡ lay_members dec dg (marked_member name k m ms)
member_left_out dec dg below name None m ms d p = elim p [ ]
member_left_out dec dg below name (Some k) m ms d p = refl

member_hidden : (dec : Path → List Text) (dg : ℕ → Text) (name : Text) (k : Option ℕ) (m : Marked) (ms : MarkedMembers) (d : Text) → IsLaidNode dec dg k m (LaidNode.Hidden d)
    → d ∷ hidden_digests dg ms ≡ hidden_digests dg (marked_member name k m ms)
member_hidden dec dg name None m ms d p = elim p [ ]
member_hidden dec dg name (Some k) m ms d p = ap (λ (e : Text). e ∷ hidden_digests dg ms) p

module _ (decoys : Decoys) (hiding : Hiding) (first : List Text) (all : MarkedMembers) (laid : Members) (hidden texts digests : List Text) (name : Text) (k : Option ℕ) (m : Marked) (left : MarkedMembers)
    (so : LaysMembers decoys hiding first all laid hidden texts digests (marked_member name k m left))
    (below : Decoys) (step : (at : Path) → placed_at below at ≡ placed_at decoys (name ∷ at))
    (part : LaidNode) (texts2 digests2 : List Text)
    (is : (dec : Path → List Text) → DecoysTell below dec → (more : List Text) → IsLaidNode dec (digest_at hiding.hash (texts2 ++ more)) k m part)
    (made : IsMade below hiding (Some name) k m texts texts2)
    (count : length texts2 ≡ length texts + (mark_weight one k + weight one m))
    (digested : digests2 ≡ map (digest_of hiding.hash) texts2)
  where
    module _ (more : List Text) where
      abbrev dg : ℕ → Text
      dg = digest_at hiding.hash (texts2 ++ more)

      abbrev own : List Given
      own = laid_given (placed_at below) dg m ++ own_given dg (Some name) k (lay (placed_at below) dg m)

      abbrev added : List Text
      added = made_texts (salted hiding.salts.now) (length texts) own

      same : texts ++ (added ++ more) ≡ texts2 ++ more
      same = behind texts texts2 added more (made (placed_at below) (λ at. refl) more)

      hidden_before : hidden ++ hidden_digests dg (marked_member name k m left) ≡ hidden_digests dg all
      hidden_before = subst (λ (ts : List Text). hidden ++ hidden_digests (digest_at hiding.hash ts) (marked_member name k m left) ≡ hidden_digests (digest_at hiding.hash ts) all) same (so.hidden_so_far (added ++ more))

      module _ (dec : Path → List Text) (tells : DecoysTell decoys dec) where
        abbrev inner : Path → List Text
        inner = λ at. dec (name ∷ at)

        tells_below : DecoysTell below inner
        tells_below at = step at ∙ tells (name ∷ at)

        abbrev parts : List Given
        parts = laid_given inner dg m ++ own_given dg (Some name) k (lay inner dg m)

        before : members_joined laid (lay_members dec dg (marked_member name k m left)) ≡ lay_members dec dg all
        before = subst (λ (ts : List Text). members_joined laid (lay_members dec (digest_at hiding.hash ts) (marked_member name k m left)) ≡ lay_members dec (digest_at hiding.hash ts) all) same (so.so_far dec tells (added ++ more))

        made_further : texts2 ++ made_texts (salted hiding.salts.now) (length texts2) (laid_members dec dg left) ≡ first ++ made_texts (salted hiding.salts.now) (length first) (laid_members dec dg all)
        made_further =
            grown (salted hiding.salts.now) texts texts2 parts (laid_members dec dg left) (made inner tells_below more)
            ∙ subst (λ (ts : List Text). texts ++ made_texts (salted hiding.salts.now) (length texts) (laid_members dec (digest_at hiding.hash ts) (marked_member name k m left)) ≡ first ++ made_texts (salted hiding.salts.now) (length first) (laid_members dec (digest_at hiding.hash ts) all)) same (so.made dec tells (added ++ more))

    -- what the next one needs besides
    abbrev Rest : (Members → List Text → Type 0)
    Rest laid2 hidden2 =
        ((dec : Path → List Text) → DecoysTell decoys dec → (more : List Text) → members_joined laid2 (lay_members dec (digest_at hiding.hash (texts2 ++ more)) left) ≡ lay_members dec (digest_at hiding.hash (texts2 ++ more)) all)
        × ((more : List Text) → hidden2 ++ hidden_digests (digest_at hiding.hash (texts2 ++ more)) left ≡ hidden_digests (digest_at hiding.hash (texts2 ++ more)) all)

    next : (laid2 : Members) (hidden2 : List Text) → Rest laid2 hidden2 → LaysMembers decoys hiding first all laid2 hidden2 texts2 digests2 left
    next laid2 hidden2 rest = record {
      so_far = rest.0;
      hidden_so_far = rest.1;
      made = λ dec tells more. made_further more dec tells;
      ordered = so.ordered;
      closes = subst (λ n. MembersClose n left) (sym count) so.closes.2;
      count = let old = so.count in omega (arith, old, count);
      digested = digested;
      low = let old = so.low in omega (arith, old);
      few = let old = so.few in omega (arith, old);
    }

    shown_more : (t : code.Tree) → part ≡ LaidNode.Shown t → LaysMembers decoys hiding first all (inserted laid name (tree_of t)) hidden texts2 digests2 left
    shown_more t e = next (inserted laid name (tree_of t)) hidden (so_far, hidden_so_far)
      where
        told : (dec : Path → List Text) → DecoysTell below dec → (more : List Text) → IsLaidNode dec (digest_at hiding.hash (texts2 ++ more)) k m (LaidNode.Shown t)
        told dec tells more = subst (λ p. IsLaidNode dec (digest_at hiding.hash (texts2 ++ more)) k m p) e (is dec tells more)

        so_far : (dec : Path → List Text) → DecoysTell decoys dec → (more : List Text)
            → members_joined (inserted laid name (tree_of t)) (lay_members dec (digest_at hiding.hash (texts2 ++ more)) left) ≡ lay_members dec (digest_at hiding.hash (texts2 ++ more)) all
        so_far dec tells more =
            let whole = ap (members_joined laid) (member_laid dec (dg more) name k m left t (told (inner more dec tells) (tells_below more dec tells) more)) ∙ before more dec tells in
            let rises = subst (λ us. Ascend (names us)) (sym whole) (names_ascend dec (dg more) all (ascend all so.ordered)) in
            inserted_last name (tree_of t) laid (lay_members dec (dg more) left) rises ∙ whole

        hidden_so_far : (more : List Text) → hidden ++ hidden_digests (digest_at hiding.hash (texts2 ++ more)) left ≡ hidden_digests (digest_at hiding.hash (texts2 ++ more)) all
        hidden_so_far more = ap (λ (ds : List Text). hidden ++ ds) (member_shown (placed_at below) (dg more) name k m left t (told (placed_at below) (λ at. refl) more)) ∙ hidden_before more

    hidden_more : (d : Text) → part ≡ LaidNode.Hidden d → LaysMembers decoys hiding first all laid (hidden ++ d ∷ []) texts2 digests2 left
    hidden_more d e = next laid (hidden ++ d ∷ []) (so_far, hidden_so_far)
      where
        told : (more : List Text) → IsLaidNode (placed_at below) (digest_at hiding.hash (texts2 ++ more)) k m (LaidNode.Hidden d)
        told more = subst (λ p. IsLaidNode (placed_at below) (digest_at hiding.hash (texts2 ++ more)) k m p) e (is (placed_at below) (λ at. refl) more)

        so_far : (dec : Path → List Text) → DecoysTell decoys dec → (more : List Text) → members_joined laid (lay_members dec (digest_at hiding.hash (texts2 ++ more)) left) ≡ lay_members dec (digest_at hiding.hash (texts2 ++ more)) all
        so_far dec tells more = ap (members_joined laid) (member_left_out dec (dg more) (placed_at below) name k m left d (told more)) ∙ before more dec tells

        hidden_so_far : (more : List Text) → (hidden ++ d ∷ []) ++ hidden_digests (digest_at hiding.hash (texts2 ++ more)) left ≡ hidden_digests (digest_at hiding.hash (texts2 ++ more)) all
        hidden_so_far more =
            append_assoc hidden (d ∷ []) (hidden_digests (dg more) left)
            ∙ (ap (λ (ds : List Text). hidden ++ ds) (member_hidden (placed_at below) (dg more) name k m left d (told more)) ∙ hidden_before more)

    pub member_more : LaysMembers decoys hiding first all (members_with laid name part) (hidden_with hidden part) texts2 digests2 left
    member_more = go part refl
      where
        go : (p : LaidNode) → part ≡ p → LaysMembers decoys hiding first all (members_with laid name p) (hidden_with hidden p) texts2 digests2 left
        go (LaidNode.Shown t) e = shown_more t e
        go (LaidNode.Hidden d) e = hidden_more d e

-- ---- the first and the last

pub members_start : (decoys : Decoys) (hiding : Hiding) (first digests : List Text) (all : MarkedMembers) → MembersClose (length first) all → digests ≡ map (digest_of hiding.hash) first → MembersOrdered (strip_members all)
    → LaysMembers decoys hiding first all no_members [] first digests all
members_start decoys hiding first digests all closes digested ordered = record {
  so_far = λ dec tells more. refl;
  hidden_so_far = λ more. refl;
  made = λ dec tells more. refl;
  ordered = ordered;
  closes = closes;
  count = refl;
  digested = digested;
  low = omega arith;
  few = omega arith;
}

pub members_end : (decoys : Decoys) (hiding : Hiding) (first texts digests hidden : List Text) (all : MarkedMembers) (laid : Members) → LaysMembers decoys hiding first all laid hidden texts digests no_marked_members
    → (here : List Text) → here ≡ placed_at decoys [] → (dec : Path → List Text) → DecoysTell decoys dec → (more : List Text)
    → with_sd (sorted (hidden ++ here)) laid ≡ with_sd (sorted (hidden_digests (digest_at hiding.hash (texts ++ more)) all ++ dec [])) (lay_members dec (digest_at hiding.hash (texts ++ more)) all)
members_end decoys hiding first texts digests hidden all laid so here e dec tells more =
    ap₂ (λ (ds : List Text) (ms : Members). with_sd (sorted ds) ms)
    (ap₂ (λ (xs ys : List Text). xs ++ ys) (sym (append-nil hidden) ∙ so.hidden_so_far more) (e ∙ tells []))
    (sym (joined_no_members laid) ∙ so.so_far dec tells more)

pub members_made : (decoys : Decoys) (hiding : Hiding) (first texts digests hidden : List Text) (all : MarkedMembers) (laid : Members) → LaysMembers decoys hiding first all laid hidden texts digests no_marked_members
    → (dec : Path → List Text) → DecoysTell decoys dec → (more : List Text) → texts ≡ first ++ made_texts (salted hiding.salts.now) (length first) (laid_members dec (digest_at hiding.hash (texts ++ more)) all)
members_made decoys hiding first texts digests hidden all laid so dec tells more = sym (append-nil texts) ∙ so.made dec tells more
