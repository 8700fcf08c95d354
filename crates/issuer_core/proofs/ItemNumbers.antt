-- The disclosures of what is laid: each has its number, and each mark finds its own.
use Rattle.std.proofs.Common.{◌≡◌, ℕ, zero, suc, ◌+◌, ◌≤◌, List, [], ◌∷◌, ◌++◌, None, Option, Some, ap, arith, decimal, length, length-append, refl, subst, sym, ⊎_elim, ◌∙◌}
use Rattle.sd_outside.specs.Lists.{StandsAt, AtNone, Repeats}
use Rattle.claim_tree.specs.Tree.{Text, Tree}
use Rattle.digest_sites.specs.Given.{Given}
use Rattle.marked_tree.specs.Marked.{Marked, MarkedElements, MarkedMembers, marked_array, marked_element, marked_leaf, marked_member, marked_object, no_marked_elements, no_marked_members}
use Rattle.marked_tree.specs.Ways.{elements_weight, mark_weight, members_weight, weight}
use Rattle.marked_tree.specs.Paths.{Path}
use Rattle.rebuild_core.specs.Reached.{given_digests}
use Rattle.issuer_core.specs.Closing.{ClosesFrom, ElementsClose, HasNumber, MembersClose, one}
use Rattle.issuer_core.specs.Laid.{laid_elements, laid_given, laid_members, lay, own_given}
use Rattle.sd_outside.proofs.Lists.{At-either, At-left, At-right}
use Rattle.rebuild_core.proofs.Fixed.{find_at}
use Rattle.issuer_core.proofs.Closing.{items_length, own_items_length}
use Rattle.issuer_core.proofs.LaidOpens.{ElementsHaveItems, HasItems, MarkItem, MembersHaveItems, NoneFound, elements_mark_depth, mark_depth, members_mark_depth, one_deeper}

-- what is so of each disclosure and its number, from the number n on
abbrev pub EachFrom : (ℕ → Given → Type 0) → ℕ → List Given → Type 0
EachFrom Is n xs = (q : ℕ) (x : Given) → StandsAt xs q x → Is (n + q) x

-- g has the elements of xs, from place n on
abbrev pub Holds : List Given → ℕ → List Given → Type 0
Holds g n xs = EachFrom (StandsAt g) n xs

-- each item has the digest of its number
abbrev pub Numbered : (ℕ → Text) → ℕ → List Given → Type 0
Numbered dg n xs = EachFrom (λ i x. x.digest ≡ dg i) n xs

numbered_join : (dg : ℕ → Text) (n : ℕ) (xs ys : List Given) → Numbered dg n xs → Numbered dg (n + length xs) ys → Numbered dg n (xs ++ ys)
numbered_join dg n xs ys a b q x h =
    ⊎_elim (λ c. a q x c) (λ c. b c.0 x c.2 ∙ ap dg (let e : n + length xs + c.0 ≡ n + q = omega (arith, c.1) in e)) (At-either xs ys q x h)

numbered_own : (dg : ℕ → Text) (name : Option Text) (k : Option ℕ) (n : ℕ) (v : Tree) → HasNumber k n → Numbered dg n (own_given dg name k v)
numbered_own dg name None n v is q x h = elim h [ ]
numbered_own dg name (Some k) n v is zero x h = ap (λ (z : Given). z.digest) h ∙ ap dg (let e : k ≡ n + 0 = omega (arith, is) in e)
numbered_own dg name (Some k) n v is (suc q) x h = elim h [ ]

numbered_step : (dg : ℕ → Text) (n a : ℕ) (k : Option ℕ) (name : Option Text) (v : Tree) (xs ys : List Given) → length xs ≡ a → HasNumber k (n + a)
    → Numbered dg n xs → Numbered dg (n + (mark_weight one k + a)) ys → Numbered dg n ((xs ++ own_given dg name k v) ++ ys)
numbered_step dg n a k name v xs ys l is x y =
    let own = own_given dg name k v in
    numbered_join dg n (xs ++ own) ys
    (numbered_join dg n xs own x (subst (λ z. Numbered dg z own) (let e : n + a ≡ n + length xs = omega (arith, l) in e) (numbered_own dg name k (n + a) v is)))
    (subst (λ z. Numbered dg z ys) (let e : n + (mark_weight one k + a) ≡ n + length (xs ++ own) = omega (arith, l, length-append xs own, own_items_length dg name k v) in e) y)

mutual
  pub items_numbered : (dec : Path → List Text) (dg : ℕ → Text) (n : ℕ) (m : Marked) → ClosesFrom n m → Numbered dg n (laid_given dec dg m)
  items_numbered dec dg n (marked_leaf l) is = λ q x a. elim a [ ]
  items_numbered dec dg n (marked_array es) is = elements_numbered dec dg n 0 es is
  items_numbered dec dg n (marked_object ms) is = members_numbered dec dg n ms is

  elements_numbered : (dec : Path → List Text) (dg : ℕ → Text) (n i : ℕ) (es : MarkedElements) → ElementsClose n es → Numbered dg n (laid_elements dec dg i es)
  elements_numbered dec dg n i no_marked_elements is = λ q x a. elim a [ ]
  elements_numbered dec dg n i (marked_element k t es) is =
      let s : Path → List Text = λ q. dec (decimal i ∷ q) in
      numbered_step dg n (weight one t) k None (lay s dg t) (laid_given s dg t) (laid_elements dec dg (suc i) es) (items_length s dg t) is.1
      (items_numbered s dg n t is.0) (elements_numbered dec dg (n + (mark_weight one k + weight one t)) (suc i) es is.2)

  members_numbered : (dec : Path → List Text) (dg : ℕ → Text) (n : ℕ) (ms : MarkedMembers) → MembersClose n ms → Numbered dg n (laid_members dec dg ms)
  members_numbered dec dg n no_marked_members is = λ q x a. elim a [ ]
  members_numbered dec dg n (marked_member name k t ms) is =
      let s : Path → List Text = λ q. dec (name ∷ q) in
      numbered_step dg n (weight one t) k (Some name) (lay s dg t) (laid_given s dg t) (laid_members dec dg ms) (items_length s dg t) is.1
      (items_numbered s dg n t is.0) (members_numbered dec dg (n + (mark_weight one k + weight one t)) ms is.2)

module _ (Is : ℕ → Given → Type 0) where
  each_first : (n : ℕ) (xs ys : List Given) → EachFrom Is n (xs ++ ys) → EachFrom Is n xs
  each_first n xs ys h q x a = h q x (At-left xs ys q x a)

  each_last : (n k : ℕ) (xs ys : List Given) → k ≡ length xs → EachFrom Is n (xs ++ ys) → EachFrom Is (n + k) ys
  each_last n k xs ys e h q x a = subst (λ z. Is z x) (let c : n + (length xs + q) ≡ n + k + q = omega (arith, e) in c) (h (length xs + q) x (At-right xs ys q x a))

  -- what is so of a node's items: those inside it, its own, and those that follow
  pub record Parts (dg : ℕ → Text) (n a : ℕ) (k : Option ℕ) (name : Option Text) (v : Tree) (xs ys : List Given) : Type 0 where
    pub inner : EachFrom Is n xs
    pub own : EachFrom Is (n + a) (own_given dg name k v)
    pub rest : EachFrom Is (n + (mark_weight one k + a)) ys

  pub parts : (dg : ℕ → Text) (n a : ℕ) (k : Option ℕ) (name : Option Text) (v : Tree) (xs ys : List Given) → length xs ≡ a → EachFrom Is n ((xs ++ own_given dg name k v) ++ ys) → Parts dg n a k name v xs ys
  parts dg n a k name v xs ys l h =
      let o = own_given dg name k v in
      let first = each_first n (xs ++ o) ys h in
      record {
        inner = each_first n xs o first;
        own = each_last n a xs o (sym l) first;
        rest = each_last n (mark_weight one k + a) (xs ++ o) ys (omega (arith, l, length-append xs o, own_items_length dg name k v)) h;
      }

-- ---- each mark has its item

module _ (g : List Given) (dg : ℕ → Text) (once : AtNone (Repeats (given_digests g))) where
  mark_item : (name : Option Text) (k : Option ℕ) (n : ℕ) (v : Tree) → HasNumber k n → Holds g n (own_given dg name k v) → MarkItem g dg k name v
  mark_item name None n v is h = tt
  mark_item name (Some k) n v is h =
      let x : Given = record { digest = dg k; name = name; value = v } in
      find_at g k x once (subst (λ z. StandsAt g z x) (let e : n + 0 ≡ k = omega (arith, is) in e) (h 0 x refl))

  mutual
    pub has_items : (dec : Path → List Text) (n : ℕ) (m : Marked) → ClosesFrom n m → ((q : Path) → NoneFound g (dec q)) → Holds g n (laid_given dec dg m) → HasItems g dec dg m
    has_items dec n (marked_leaf l) is none all = tt
    has_items dec n (marked_array es) is none all = (none [], elements_have_items dec n 0 es is none all)
    has_items dec n (marked_object ms) is none all = (none [], members_have_items dec n ms is none all)

    elements_have_items : (dec : Path → List Text) (n i : ℕ) (es : MarkedElements) → ElementsClose n es → ((q : Path) → NoneFound g (dec q)) → Holds g n (laid_elements dec dg i es)
        → ElementsHaveItems g dec dg i es
    elements_have_items dec n i no_marked_elements is none all = tt
    elements_have_items dec n i (marked_element k t es) is none all =
        let s : Path → List Text = λ q. dec (decimal i ∷ q) in
        let w = parts (StandsAt g) dg n (weight one t) k None (lay s dg t) (laid_given s dg t) (laid_elements dec dg (suc i) es) (items_length s dg t) all in (
          mark_item None k (n + weight one t) (lay s dg t) is.1 w.own,
          has_items s n t is.0 (λ q. none (decimal i ∷ q)) w.inner,
          elements_have_items dec (n + (mark_weight one k + weight one t)) (suc i) es is.2 none w.rest,
        )

    members_have_items : (dec : Path → List Text) (n : ℕ) (ms : MarkedMembers) → MembersClose n ms → ((q : Path) → NoneFound g (dec q)) → Holds g n (laid_members dec dg ms)
        → MembersHaveItems g dec dg ms
    members_have_items dec n no_marked_members is none all = tt
    members_have_items dec n (marked_member name k t ms) is none all =
        let s : Path → List Text = λ q. dec (name ∷ q) in
        let w = parts (StandsAt g) dg n (weight one t) k (Some name) (lay s dg t) (laid_given s dg t) (laid_members dec dg ms) (items_length s dg t) all in (
          mark_item (Some name) k (n + weight one t) (lay s dg t) is.1 w.own,
          has_items s n t is.0 (λ q. none (name ∷ q)) w.inner,
          members_have_items dec (n + (mark_weight one k + weight one t)) ms is.2 none w.rest,
        )

-- ---- depth

deeper_by : (k : Option ℕ) (n : ℕ) → one_deeper k n ≡ n + mark_weight one k
deeper_by None n = omega arith
deeper_by (Some k) n = omega arith

mutual
  pub depth_within : (m : Marked) → mark_depth m ≤ weight one m
  depth_within (marked_leaf l) = omega arith
  depth_within (marked_array es) = elements_depth_within es
  depth_within (marked_object ms) = members_depth_within ms

  elements_depth_within : (es : MarkedElements) → elements_mark_depth es ≤ elements_weight one es
  elements_depth_within no_marked_elements = omega arith
  elements_depth_within (marked_element k t es) = omega (arith, deeper_by k (mark_depth t), depth_within t, elements_depth_within es)

  members_depth_within : (ms : MarkedMembers) → members_mark_depth ms ≤ members_weight one ms
  members_depth_within no_marked_members = omega arith
  members_depth_within (marked_member name k t ms) = omega (arith, deeper_by k (mark_depth t), depth_within t, members_depth_within ms)
