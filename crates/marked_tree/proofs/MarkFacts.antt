-- Marking changes no tree, and gives each number once.
use Rattle.std.proofs.Common.{◌≡◌, ℕ, zero, suc, ◌+◌, ◌<◌, ◌≤◌, [], ◌∷◌, Bool, true, false, cond, ltb, ◌⊎◌, inl, inr, refl, sym, ap, ap₂, ◌∙◌, arith, decimal}
use Rattle.std.proofs.lemmas.Bool.Decides.{nat_tests}
use Rattle.claim_tree.specs.Tree.{Tree, leaf, array, object, Elements, no_elements, element, Members, no_members, member}
use Rattle.marked_tree.specs.Marked.{strip, strip_elements, strip_members}
use Rattle.marked_tree.specs.Ways.{mark_weight, weight, elements_weight, members_weight, only}
use Rattle.marked_tree.specs.Paths.{Path, below, one_if, hidden_in, hidden_elements, hidden_members, mark_if, mark_from, mark_elements, mark_members, is_among}
use Rattle.marked_tree.specs.Laws.{MarkStrips, MarksOnce}

mutual
  pub strips : (h : Path → Bool) (n : ℕ) (t : Tree) → strip (mark_from h n t) ≡ t
  strips h n (leaf l) = refl
  strips h n (array es) = ap array (strips_elements h n 0 es)
  strips h n (object ms) = ap object (strips_members h n ms)

  strips_elements : (h : Path → Bool) (n i : ℕ) (es : Elements) → strip_elements (mark_elements h n i es) ≡ es
  strips_elements h n i no_elements = refl
  strips_elements h n i (element t es) = ap₂ element (strips (below (decimal i) h) n t) (strips_elements h (n + (hidden_in (below (decimal i) h) t + one_if (h (decimal i ∷ [])))) (suc i) es)

  pub strips_members : (h : Path → Bool) (n : ℕ) (ms : Members) → strip_members (mark_members h n ms) ≡ ms
  strips_members h n no_members = refl
  strips_members h n (member k t ms) = ap₂ (member k) (strips (below k h) n t) (strips_members h (n + (hidden_in (below k h) t + one_if (h (k ∷ [])))) ms)

-- the sum of w over c numbers from n
abbrev pub range_sum : (ℕ → ℕ) → ℕ → ℕ → ℕ
range_sum w n zero = 0
range_sum w n (suc c) = w n + range_sum w (suc n) c

pub range_split : (w : ℕ → ℕ) (n a b : ℕ) → range_sum w n (a + b) ≡ range_sum w n a + range_sum w (n + a) b
range_split w n zero b =
    let e : 0 + b ≡ b = omega arith in let f : n + 0 ≡ n = omega arith in
    omega (arith, ap (range_sum w n) e, ap (λ z. range_sum w z b) f)
range_split w n (suc a) b =
    let e : suc a + b ≡ suc (a + b) = omega arith in let f : n + suc a ≡ suc n + a = omega arith in
    omega (arith, ap (range_sum w n) e, range_split w (suc n) a b, ap (λ z. range_sum w z b) f)

own_weight : (w : ℕ → ℕ) (n : ℕ) (b : Bool) → mark_weight w (mark_if b n) ≡ range_sum w n (one_if b)
own_weight w n true = omega arith
own_weight w n false = refl

step_weight : (w : ℕ → ℕ) (n a c : ℕ) (b : Bool) → (mark_weight w (mark_if b (n + a)) + range_sum w n a) + range_sum w (n + (a + one_if b)) c ≡ range_sum w n ((a + one_if b) + c)
step_weight w n a c b = omega (arith, range_split w n (a + one_if b) c, range_split w n a (one_if b), own_weight w (n + a) b)

mutual
  pub weighs : (w : ℕ → ℕ) (h : Path → Bool) (n : ℕ) (t : Tree) → weight w (mark_from h n t) ≡ range_sum w n (hidden_in h t)
  weighs w h n (leaf l) = refl
  weighs w h n (array es) = elements_weigh w h n 0 es
  weighs w h n (object ms) = members_weigh w h n ms

  elements_weigh : (w : ℕ → ℕ) (h : Path → Bool) (n i : ℕ) (es : Elements) → elements_weight w (mark_elements h n i es) ≡ range_sum w n (hidden_elements h i es)
  elements_weigh w h n i no_elements = refl
  elements_weigh w h n i (element t es) =
      let a = hidden_in (below (decimal i) h) t in
      let b = h (decimal i ∷ []) in
      omega (arith, weighs w (below (decimal i) h) n t, elements_weigh w h (n + (a + one_if b)) (suc i) es, step_weight w n a (hidden_elements h (suc i) es) b)

  members_weigh : (w : ℕ → ℕ) (h : Path → Bool) (n : ℕ) (ms : Members) → members_weight w (mark_members h n ms) ≡ range_sum w n (hidden_members h ms)
  members_weigh w h n no_members = refl
  members_weigh w h n (member k t ms) =
      let a = hidden_in (below k h) t in
      let b = h (k ∷ []) in
      omega (arith, weighs w (below k h) n t, members_weigh w h (n + (a + one_if b)) ms, step_weight w n a (hidden_members h ms) b)

pub one_if_same : (i k : ℕ) → i ≡ k → only i k ≡ 1
one_if_same i k e = grind (arith, nat_tests)

pub none_if_less : (i k : ℕ) → i < k → only i k ≡ 0
none_if_less i k l = grind (arith, nat_tests)

pub none_if_more : (i k : ℕ) → k < i → only i k ≡ 0
none_if_more i k l = grind (arith, nat_tests)

abbrev pub up_to : ℕ → ℕ → ℕ
up_to i n = cond (ltb i n) 1 0

pub within_is : (i n : ℕ) → i < n → up_to i n ≡ 1
within_is i n l = grind (arith, nat_tests)

pub outside_is : (i n : ℕ) → n ≤ i → up_to i n ≡ 0
outside_is i n l = grind (arith, nat_tests)

pub up_to_le : (i n : ℕ) → up_to i n ≤ 1
up_to_le i n = grind (arith, nat_tests)

past : (i n c : ℕ) → i < n → range_sum (only i) n c ≡ 0
past i n zero l = refl
past i n (suc c) l = omega (arith, past i (suc n) c (omega arith), none_if_less i n l)

pub same_or_more : (i k : ℕ) → k ≤ i → (i ≡ k) ⊎ (k < i)
same_or_more i k l = grind arith

range_of_one : (i n c : ℕ) → n ≤ i → range_sum (only i) n c ≡ up_to i (n + c)
range_of_one i n zero l = sym (outside_is i (n + 0) (omega arith))
range_of_one i n (suc c) l = go (same_or_more i n l) (range_of_one i (suc n) c)
  where
    go : (i ≡ n) ⊎ (n < i) → (suc n ≤ i → range_sum (only i) (suc n) c ≡ up_to i (suc n + c)) → only i n + range_sum (only i) (suc n) c ≡ up_to i (n + suc c)
    go (inl e) ih = omega (arith, one_if_same i n e, past i (suc n) c (omega arith), within_is i (n + suc c) (omega arith))
    go (inr m) ih = omega (arith, none_if_more i n m, ih (omega arith), ap (up_to i) (let q : suc n + c ≡ n + suc c = omega arith in q))

pub mark_strips_holds : MarkStrips
mark_strips_holds t hide = strips (is_among hide) 0 t

pub marks_once_holds : MarksOnce
marks_once_holds t hide i =
    let c = hidden_in (is_among hide) t in
    weighs (only i) (is_among hide) 0 t ∙ range_of_one i 0 c (omega arith) ∙ ap (up_to i) (let e : 0 + c ≡ c = omega arith in e)
