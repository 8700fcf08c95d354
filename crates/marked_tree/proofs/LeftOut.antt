-- What a choice of marks leaves is the tree without the hidden places that lead to no wanted one.
use Rattle.std.proofs.Common.{◌≡◌, ℕ, suc, ◌+◌, List, [], ◌∷◌, ◌++◌, map, Bool, true, false, not, ◌&&◌, if◌then◌else◌, decimal, Some, inl, inr, ⊎_elim, refl, sym, ap, ap₂, subst, ◌∙◌, arith}
use Rattle.claim_tree.specs.Tree.{Text, Tree, leaf, array, object, Elements, no_elements, element, Members, no_members, member}
use Rattle.sd_outside.specs.Lists.{In}
use Rattle.claim_tree.specs.Path.{is_front}
use Rattle.sd_outside.proofs.Lists.{In-left, In-right, In-map, In-of_map, In-append, list_any-In, list_any-from}
use Rattle.claim_tree.proofs.SamePaths.{path_same}
use Rattle.marked_tree.specs.LeftOut.{without, elements_without, members_without, leads_to}
use Rattle.marked_tree.specs.Laws.{ChosenIsLeft}
use Rattle.marked_tree.specs.Marked.{Marked, MarkedElements, MarkedMembers, strip, strip_elements, strip_members, new_mark, keep_element, keep_member, remark, remark_elements, remark_members, kept}
use Rattle.marked_tree.specs.Paths.{Path, Spot, inside, own_spot, spots, elements_spots, members_spots, below, one_if, hidden_in, mark_if, mark_from, mark_elements, mark_members, is_among, mark, mark_path, same_path, chosen}
use Rattle.marked_tree.specs.Ways.{only}
use Rattle.marked_tree.proofs.LeastChoice.{choose, is_wanted, unmixed_mark}
use Rattle.marked_tree.proofs.Finds.{node_spots}
use Rattle.marked_tree.proofs.Spots.{spots_weigh, same_spot, spot_of}

own_there : (b : Bool) (k : Text) (j : ℕ) (rest : List Spot) → b ≡ true → In (record { mark = j; at = k ∷ []; above = [] }) (own_spot k (mark_if b j) ++ rest)
own_there true k j rest e = inl refl
own_there false k j rest e = cc e

module _ (s : ℕ → Bool) where
  -- of the marks at these spots the set says what a test says of their paths
  abbrev Agrees : (Path → Bool) → List Spot → Type 0
  Agrees g ss = (a : Spot) → In a ss → s a.mark ≡ g a.at

  abbrev left : (Path → Bool) → (Path → Bool) → Path → Bool
  left h g p = h p && not (g p)

  element_left : (b : Bool) (j : ℕ) (g : Bool) (u : Marked) (v : Tree) (rest : MarkedElements) (others : Elements) → (b ≡ true → s j ≡ g) → strip u ≡ v → strip_elements rest ≡ others
      → strip_elements (keep_element (new_mark (kept s) (mark_if b j)) u rest) ≡ if b && not g then others else element v others
  element_left false j g u v rest others agree inner outer = ap₂ element inner outer
  element_left true j true u v rest others agree inner outer = rw (agree refl) (ap₂ element inner outer)
  element_left true j false u v rest others agree inner outer = rw (agree refl) outer

  member_left : (k : Text) (b : Bool) (j : ℕ) (g : Bool) (u : Marked) (v : Tree) (rest : MarkedMembers) (others : Members) → (b ≡ true → s j ≡ g) → strip u ≡ v → strip_members rest ≡ others
      → strip_members (keep_member k (new_mark (kept s) (mark_if b j)) u rest) ≡ if b && not g then others else member k v others
  member_left k false j g u v rest others agree inner outer = ap₂ (member k) inner outer
  member_left k true j true u v rest others agree inner outer = rw (agree refl) (ap₂ (member k) inner outer)
  member_left k true j false u v rest others agree inner outer = rw (agree refl) outer

  -- what the set says of the place on a step, of those inside it, and of the others
  node_agrees : (g : Path → Bool) (k : Text) (b : Bool) (j : ℕ) (u : Marked) (others : List Spot) → Agrees g (node_spots k (mark_if b j) u ++ others)
      → (b ≡ true → s j ≡ g (k ∷ [])) × Agrees (below k g) (spots u) × Agrees g others
  node_agrees g k b j u others agree =
      let own = own_spot k (mark_if b j) in
      let under = map (inside k (mark_if b j)) (spots u) in (
        λ e. agree (record { mark = j; at = k ∷ []; above = [] }) (In-left _ (own ++ under) others (own_there b k j under e)),
        λ a there. agree (inside k (mark_if b j) a) (In-left _ (own ++ under) others (In-right _ own under (In-map (inside k (mark_if b j)) a (spots u) there))),
        λ a there. agree a (In-right a (own ++ under) others there),
      )

  mutual
    tree_left : (h g : Path → Bool) (n : ℕ) (t : Tree) → Agrees g (spots (mark_from h n t)) → strip (remark (kept s) (mark_from h n t)) ≡ without (left h g) t
    tree_left h g n (leaf l) agree = refl
    tree_left h g n (array es) agree = ap array (elements_left h g n 0 es agree)
    tree_left h g n (object ms) agree = ap object (members_left h g n ms agree)

    elements_left : (h g : Path → Bool) (n i : ℕ) (es : Elements) → Agrees g (elements_spots i (mark_elements h n i es)) → strip_elements (remark_elements (kept s) (mark_elements h n i es)) ≡ elements_without (left h g) i es
    elements_left h g n i no_elements agree = refl
    elements_left h g n i (element t es) agree =
        let k = decimal i in
        let parts = node_agrees g k _ _ (mark_from (below k h) n t) _ agree in
        element_left (h (k ∷ [])) _ (g (k ∷ [])) _ _ _ _ parts.0 (tree_left (below k h) (below k g) n t parts.1) (elements_left h g _ (suc i) es parts.2)

    members_left : (h g : Path → Bool) (n : ℕ) (ms : Members) → Agrees g (members_spots (mark_members h n ms)) → strip_members (remark_members (kept s) (mark_members h n ms)) ≡ members_without (left h g) ms
    members_left h g n no_members agree = refl
    members_left h g n (member k t ms) agree =
        let parts = node_agrees g k _ _ (mark_from (below k h) n t) _ agree in
        member_left k (h (k ∷ [])) _ (g (k ∷ [])) _ _ _ _ parts.0 (tree_left (below k h) (below k g) n t parts.1) (members_left h g _ ms parts.2)

module _ (t : Tree) (hide want : List Path) where
  -- two spots with one mark are one
  pub one_spot : (a b : Spot) → In a (spots (mark t hide)) → In b (spots (mark t hide)) → b.mark ≡ a.mark → a ≡ b
  one_spot a b there here same =
      same_spot a.mark (spots (mark t hide)) a b (omega (arith, unmixed_mark t hide a.mark, spots_weigh (only a.mark) (mark t hide))) there here refl same

  -- a mark is chosen where its path leads to a wanted one
  pub chosen_is : (a : Spot) → In a (spots (mark t hide)) → chosen (mark t hide) want a.mark ≡ leads_to want a.at
  chosen_is a there = go (chosen (mark t hide) want a.mark) (leads_to want a.at) refl refl
    where
      go : (b c : Bool) → chosen (mark t hide) want a.mark ≡ b → leads_to want a.at ≡ c → b ≡ c
      go true true e f = refl
      go false false e f = refl
      go false true e f =
          let p = list_any-In (is_front a.at) want f in
          sym e ∙ choose (mark t hide) want a there p.0 p.1 p.2
      go true false e f =
          let w = is_wanted (mark t hide) want a.mark e in
          let same = one_spot a w.0 there w.1 w.2 in
          let leads : leads_to want a.at ≡ true = ap (λ (z : Spot). leads_to want z.at) same ∙ list_any-from (is_front w.0.at) want w.3 w.4 w.5 in
          sym leads ∙ f

pub chosen_is_left : ChosenIsLeft
chosen_is_left t hide want = tree_left (chosen (mark t hide) want) (is_among hide) (leads_to want) 0 t (chosen_is t hide want)

-- ---- the path of a mark is hidden

own_hidden : (b : Bool) (k : Text) (j : ℕ) (a : Spot) → In a (own_spot k (mark_if b j)) → (b ≡ true) × (a.at ≡ k ∷ [])
own_hidden true k j a (inl e) = (refl, ap (λ (z : Spot). z.at) e)
own_hidden true k j a (inr h) = elim h [ ]
own_hidden false k j a h = elim h [ ]

node_hidden : (h : Path → Bool) (k : Text) (j : ℕ) (u : Marked) (others : List Spot) → ((x : Spot) → In x (spots u) → h (k ∷ x.at) ≡ true) → ((x : Spot) → In x others → h x.at ≡ true)
    → (a : Spot) → In a ((own_spot k (mark_if (h (k ∷ [])) j) ++ map (inside k (mark_if (h (k ∷ [])) j)) (spots u)) ++ others) → h a.at ≡ true
node_hidden h k j u others inner outer a there =
    let i = mark_if (h (k ∷ [])) j in
    ⊎_elim
    (λ front. ⊎_elim
    (λ own. let is = own_hidden (h (k ∷ [])) k j a own in ap h is.1 ∙ is.0)
    (λ under. let x = In-of_map (inside k i) a (spots u) under in ap (λ (z : Spot). h z.at) x.2 ∙ inner x.0 x.1)
    (In-append a (own_spot k i) (map (inside k i) (spots u)) front))
    (outer a)
    (In-append a (own_spot k i ++ map (inside k i) (spots u)) others there)

mutual
  spot_hidden : (h : Path → Bool) (n : ℕ) (t : Tree) (a : Spot) → In a (spots (mark_from h n t)) → h a.at ≡ true
  spot_hidden h n (leaf l) a there = elim there [ ]
  spot_hidden h n (array es) a there = element_hidden h n 0 es a there
  spot_hidden h n (object ms) a there = member_hidden h n ms a there

  element_hidden : (h : Path → Bool) (n i : ℕ) (es : Elements) (a : Spot) → In a (elements_spots i (mark_elements h n i es)) → h a.at ≡ true
  element_hidden h n i no_elements a there = elim there [ ]
  element_hidden h n i (element t es) a there =
      let k = decimal i in
      let more = n + (hidden_in (below k h) t + one_if (h (k ∷ []))) in
      node_hidden h k (n + hidden_in (below k h) t) (mark_from (below k h) n t) (elements_spots (suc i) (mark_elements h more (suc i) es))
      (spot_hidden (below k h) n t) (element_hidden h more (suc i) es) a there

  member_hidden : (h : Path → Bool) (n : ℕ) (ms : Members) (a : Spot) → In a (members_spots (mark_members h n ms)) → h a.at ≡ true
  member_hidden h n no_members a there = elim there [ ]
  member_hidden h n (member k t ms) a there =
      let more = n + (hidden_in (below k h) t + one_if (h (k ∷ []))) in
      node_hidden h k (n + hidden_in (below k h) t) (mark_from (below k h) n t) (members_spots (mark_members h more ms))
      (spot_hidden (below k h) n t) (member_hidden h more ms) a there

-- the path of a chosen mark is hidden, and leads to a wanted one
pub chosen_leads : (t : Tree) (hide want : List Path) (i : ℕ) (at : Path) → chosen (mark t hide) want i ≡ true → mark_path (mark t hide) i ≡ Some at → In at hide × (leads_to want at ≡ true)
chosen_leads t hide want i at is_chosen stands =
    let a = spot_of i (spots (mark t hide)) at stands in
    let found = list_any-In (same_path a.0.at) hide (spot_hidden (is_among hide) 0 t a.0 a.1) in
    let same : found.0 ≡ at = sym (path_same a.0.at found.0 found.2) ∙ a.3 in (
      subst (λ (p : Path). In p hide) same found.1,
      ap (leads_to want) (sym a.3) ∙ sym (chosen_is t hide want a.0 a.1) ∙ ap (chosen (mark t hide) want) a.2 ∙ is_chosen,
    )
