-- Marking by tests that answer alike, and marking step by step.
use Rattle.std.proofs.Common.{◌≡◌, ℕ, suc, ◌+◌, ◌<◌, ◌≤◌, ◌^◌, List, [], ◌∷◌, Bool, Option, refl, sym, ap, ◌∙◌, subst, arith, decimal}
use Rattle.claim_tree.specs.Tree.{Text, Tree, leaf, array, object, Elements, no_elements, element, Members, no_members, member, elements_depth, members_depth, names, IsBefore, IsBeforeAll, MembersOrdered}
use Rattle.claim_tree.specs.Nodes.{elements_nodes, members_nodes}
use Rattle.marked_tree.specs.Marked.{Marked, marked_array, marked_object, MarkedElements, no_marked_elements, marked_element, MarkedMembers, no_marked_members, marked_member, put}
use Rattle.marked_tree.specs.MarkedCalls.{marked_elements_len, marked_names, marked_pushed, joined, members_joined}
use Rattle.marked_tree.specs.Paths.{Path, below, one_if, is_among, hidden_in, hidden_elements, hidden_members, mark_if, mark_from, mark_elements, mark_members}
use Rattle.marked_tree.specs.Rests.{headed}
use Rattle.marked_tree.proofs.HeadCounts.{taken, taken_more, decimals, decimals_more}
use Rattle.marked_tree.proofs.Names.{Ascend, ascend, turned_back}
use Rattle.marked_tree.proofs.MarkFacts.{strips_members}

abbrev pub Alike : (Path → Bool) → (Path → Bool) → Type 0
Alike g h = (p : Path) → g p ≡ h p

mutual
  pub hidden_same : (g h : Path → Bool) → Alike g h → (t : Tree) → hidden_in g t ≡ hidden_in h t
  hidden_same g h same (leaf l) = refl
  hidden_same g h same (array es) = hidden_elements_same g h same 0 es
  hidden_same g h same (object ms) = hidden_members_same g h same ms

  hidden_elements_same : (g h : Path → Bool) → Alike g h → (i : ℕ) (es : Elements) → hidden_elements g i es ≡ hidden_elements h i es
  hidden_elements_same g h same i no_elements = refl
  hidden_elements_same g h same i (element t es) =
      omega (arith, hidden_same (below (decimal i) g) (below (decimal i) h) (λ p. same (decimal i ∷ p)) t, ap one_if (same (decimal i ∷ [])), hidden_elements_same g h same (suc i) es)

  hidden_members_same : (g h : Path → Bool) → Alike g h → (ms : Members) → hidden_members g ms ≡ hidden_members h ms
  hidden_members_same g h same no_members = refl
  hidden_members_same g h same (member k t ms) =
      omega (arith, hidden_same (below k g) (below k h) (λ p. same (k ∷ p)) t, ap one_if (same (k ∷ [])), hidden_members_same g h same ms)

element_same : (b c : Bool) (n a d : ℕ) (t u : Marked) (rest : ℕ → MarkedElements) (other : ℕ → MarkedElements) → b ≡ c → a ≡ d → t ≡ u → ((m : ℕ) → rest m ≡ other m)
    → marked_element (mark_if b (n + a)) t (rest (n + (a + one_if b))) ≡ marked_element (mark_if c (n + d)) u (other (n + (d + one_if c)))
element_same b c n a d t u rest other e f g more = rw (e, f, g) (ap (marked_element (mark_if c (n + d)) u) (more (n + (d + one_if c))))

member_same : (k : Text) (b c : Bool) (n a d : ℕ) (t u : Marked) (rest : ℕ → MarkedMembers) (other : ℕ → MarkedMembers) → b ≡ c → a ≡ d → t ≡ u → ((m : ℕ) → rest m ≡ other m)
    → marked_member k (mark_if b (n + a)) t (rest (n + (a + one_if b))) ≡ marked_member k (mark_if c (n + d)) u (other (n + (d + one_if c)))
member_same k b c n a d t u rest other e f g more = rw (e, f, g) (ap (marked_member k (mark_if c (n + d)) u) (more (n + (d + one_if c))))

mutual
  pub mark_same : (g h : Path → Bool) → Alike g h → (n : ℕ) (t : Tree) → mark_from g n t ≡ mark_from h n t
  mark_same g h same n (leaf l) = refl
  mark_same g h same n (array es) = ap marked_array (mark_elements_same g h same n 0 es)
  mark_same g h same n (object ms) = ap marked_object (mark_members_same g h same n ms)

  mark_elements_same : (g h : Path → Bool) → Alike g h → (n i : ℕ) (es : Elements) → mark_elements g n i es ≡ mark_elements h n i es
  mark_elements_same g h same n i no_elements = refl
  mark_elements_same g h same n i (element t es) =
      element_same (g (decimal i ∷ [])) (h (decimal i ∷ [])) n (hidden_in (below (decimal i) g) t) (hidden_in (below (decimal i) h) t) (mark_from (below (decimal i) g) n t) (mark_from (below (decimal i) h) n t)
      (λ m. mark_elements g m (suc i) es) (λ m. mark_elements h m (suc i) es) (same (decimal i ∷ [])) (hidden_same (below (decimal i) g) (below (decimal i) h) (λ p. same (decimal i ∷ p)) t)
      (mark_same (below (decimal i) g) (below (decimal i) h) (λ p. same (decimal i ∷ p)) n t) (λ m. mark_elements_same g h same m (suc i) es)

  mark_members_same : (g h : Path → Bool) → Alike g h → (n : ℕ) (ms : Members) → mark_members g n ms ≡ mark_members h n ms
  mark_members_same g h same n no_members = refl
  mark_members_same g h same n (member k t ms) =
      member_same k (g (k ∷ [])) (h (k ∷ [])) n (hidden_in (below k g) t) (hidden_in (below k h) t) (mark_from (below k g) n t) (mark_from (below k h) n t)
      (λ m. mark_members g m ms) (λ m. mark_members h m ms) (same (k ∷ [])) (hidden_same (below k g) (below k h) (λ p. same (k ∷ p)) t)
      (mark_same (below k g) (below k h) (λ p. same (k ∷ p)) n t) (λ m. mark_members_same g h same m ms)

-- ---- what is done, and what is left

pub joined-pushed : (es : MarkedElements) (i : Option ℕ) (t : Marked) (rest : MarkedElements) → joined (marked_pushed es i t) rest ≡ joined es (marked_element i t rest)
joined-pushed no_marked_elements i t rest = refl
joined-pushed (marked_element j u es) i t rest = ap (marked_element j u) (joined-pushed es i t rest)

pub joined-none : (es : MarkedElements) → joined es no_marked_elements ≡ es
joined-none no_marked_elements = refl
joined-none (marked_element i t es) = ap (marked_element i t) (joined-none es)

pub members_joined-none : (ms : MarkedMembers) → members_joined ms no_marked_members ≡ ms
members_joined-none no_marked_members = refl
members_joined-none (marked_member k i t ms) = ap (marked_member k i t) (members_joined-none ms)

before_joined : (name k : Text) (i : Option ℕ) (t : Marked) (ms rest : MarkedMembers) → IsBeforeAll name (marked_names (members_joined ms (marked_member k i t rest))) → IsBefore name k
before_joined name k i t no_marked_members rest all = all.0
before_joined name k i t (marked_member l j u ms) rest all = before_joined name k i t ms rest all.1

joined-put : (k : Text) (i : Option ℕ) (t : Marked) (ms rest : MarkedMembers) → Ascend (marked_names (members_joined ms (marked_member k i t rest)))
    → members_joined (put k i t ms) rest ≡ members_joined ms (marked_member k i t rest)
joined-put k i t no_marked_members rest o = refl
joined-put k i t (marked_member l j u ms) rest o = rw (turned_back l k (before_joined l k i t ms rest o.0)) (ap (marked_member l j u) (joined-put k i t ms rest o.1))

-- where all of them are the marked members of a tree
pub joined-put_marked : (h : Path → Bool) (n : ℕ) (us : Members) → MembersOrdered us → (k : Text) (i : Option ℕ) (t : Marked) (ms rest : MarkedMembers)
    → members_joined ms (marked_member k i t rest) ≡ mark_members h n us → members_joined (put k i t ms) rest ≡ members_joined ms (marked_member k i t rest)
joined-put_marked h n us o k i t ms rest all =
    joined-put k i t ms rest (subst (λ ns. Ascend (marked_names ns)) (sym all) (ascend (mark_members h n us) (subst MembersOrdered (sym (strips_members h n us)) o)))

-- ---- one element more

-- what a step adds: its own mark, its inside, and where the next marks begin
pub record IsMarkedAt (h : Path → Bool) (n : ℕ) (step : Text) (t : Tree) (own : Option ℕ) (inside : Marked) (next : ℕ) : Type 0 where
  pub own_is : own ≡ mark_if (h (step ∷ [])) (n + hidden_in (below step h) t)
  pub inside_is : inside ≡ mark_from (below step h) n t
  pub next_is : next ≡ n + (hidden_in (below step h) t + one_if (h (step ∷ [])))

element_marked : (h : Path → Bool) (n i : ℕ) (t : Tree) (left : Elements) (done : MarkedElements) (own : Option ℕ) (inside : Marked) (next : ℕ) → IsMarkedAt h n (decimal i) t own inside next
    → joined (marked_pushed done own inside) (mark_elements h next (suc i) left) ≡ joined done (mark_elements h n i (element t left))
element_marked h n i t left done own inside next m =
    joined-pushed done own inside (mark_elements h next (suc i) left) ∙ ap (joined done) (rw (m.own_is, m.inside_is, m.next_is) refl)

element_counted : (h : Path → Bool) (n i : ℕ) (t : Tree) (left : Elements) (own : Option ℕ) (inside : Marked) (next : ℕ) → IsMarkedAt h n (decimal i) t own inside next
    → next + hidden_elements h (suc i) left ≡ n + hidden_elements h i (element t left)
element_counted h n i t left own inside next m = let begun = m.next_is in omega (arith, begun)

pushed_len : (es : MarkedElements) (i : Option ℕ) (t : Marked) → marked_elements_len (marked_pushed es i t) ≡ suc (marked_elements_len es)
pushed_len no_marked_elements i t = refl
pushed_len (marked_element j u es) i t = ap suc (pushed_len es i t)

-- the elements that are marked already, and those that are left
pub record MarksElements (ps : List Path) (first : ℕ) (all : Elements) (done : MarkedElements) (next : ℕ) (left : Elements) : Type 0 where
  pub marked : joined done (mark_elements (is_among ps) next (marked_elements_len done) left) ≡ mark_elements (is_among ps) first 0 all
  pub counted : next + hidden_elements (is_among ps) (marked_elements_len done) left ≡ first + hidden_elements (is_among ps) 0 all
  pub few : next ≤ first + taken (decimals (marked_elements_len done)) ps
  pub low : elements_depth left ≤ elements_depth all
  pub small : elements_nodes left ≤ elements_nodes all
  pub fits : marked_elements_len done ≤ 2 ^ 64

pub elements_begin : (ps : List Path) (first : ℕ) (all : Elements) → MarksElements ps first all no_marked_elements first all
elements_begin ps first all = record { marked = refl; counted = refl; few = omega arith; low = omega arith; small = omega arith; fits = omega arith }

pub elements_more : (ps : List Path) (first : ℕ) (all : Elements) (done : MarkedElements) (n : ℕ) (t : Tree) (left : Elements) → MarksElements ps first all done n (element t left) → marked_elements_len done < 2 ^ 64
    → (own : Option ℕ) (inside : Marked) (next : ℕ) → IsMarkedAt (is_among ps) n (decimal (marked_elements_len done)) t own inside next → next ≤ n + headed (decimal (marked_elements_len done)) ps
    → MarksElements ps first all (marked_pushed done own inside) next left
elements_more ps first all done n t left so fits own inside next m few =
    let i = marked_elements_len done in
    let more = pushed_len done own inside in
    let counted = so.counted in
    let so_far = so.few in
    let low = so.low in
    let small = so.small in
    record {
      marked = rw more (element_marked (is_among ps) n i t left done own inside next m ∙ so.marked);
      counted = rw more (element_counted (is_among ps) n i t left own inside next m ∙ counted);
      few = rw more (omega (arith, few, so_far, decimals_more i ps));
      low = omega (arith, low);
      small = omega (arith, small);
      fits = omega (arith, more, fits);
    }

-- ---- one member more

-- the members that are marked already, and those that are left
pub record MarksMembers (ps : List Path) (first : ℕ) (all : Members) (done : MarkedMembers) (next : ℕ) (left : Members) : Type 0 where
  pub marked : members_joined done (mark_members (is_among ps) next left) ≡ mark_members (is_among ps) first all
  pub counted : next + hidden_members (is_among ps) left ≡ first + hidden_members (is_among ps) all
  pub few : next + taken (names left) ps ≤ first + taken (names all) ps
  pub low : members_depth left ≤ members_depth all
  pub small : members_nodes left ≤ members_nodes all

pub members_begin : (ps : List Path) (first : ℕ) (all : Members) → MarksMembers ps first all no_marked_members first all
members_begin ps first all = record { marked = refl; counted = refl; few = omega arith; low = omega arith; small = omega arith }

pub members_more : (ps : List Path) (first : ℕ) (all : Members) → MembersOrdered all → (done : MarkedMembers) (n : ℕ) (k : Text) (t : Tree) (left : Members) → MarksMembers ps first all done n (member k t left)
    → (own : Option ℕ) (inside : Marked) (next : ℕ) → IsMarkedAt (is_among ps) n k t own inside next → next ≤ n + headed k ps
    → MarksMembers ps first all (put k own inside done) next left
members_more ps first all ordered done n k t left so own inside next m few =
    let h = is_among ps in
    let rest = mark_members h next left in
    let here : marked_member k own inside rest ≡ mark_members h n (member k t left) = rw (m.own_is, m.inside_is, m.next_is) refl in
    let whole : members_joined done (marked_member k own inside rest) ≡ mark_members h first all = ap (members_joined done) here ∙ so.marked in
    let begun = m.next_is in
    let counted = so.counted in
    let so_far = so.few in
    let low = so.low in
    let small = so.small in
    record {
      marked = joined-put_marked h first all ordered k own inside done rest whole ∙ whole;
      counted = omega (arith, begun, counted);
      few = omega (arith, few, so_far, taken_more k (names left) ps);
      low = omega (arith, low);
      small = omega (arith, small);
    }
