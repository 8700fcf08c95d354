-- Places that a rule is asked for in turn.
use Rattle.std.proofs.Common.{◌≡◌, ℕ, suc, ◌+◌, ◌-◌, ◌<◌, List, [], ◌∷◌, ◌++◌, map, length, take, drop, get_or, Bool, true, false, ltb, ◌⊎◌, inl, inr, ⊎_elim, Option, Some, None, refl, sym, ap, ap₂, subst, ◌∙◌, arith, decimal}
use Rattle.std.proofs.lemmas.Bool.Decides.{nat_tests}
use Rattle.std.proofs.lemmas.List.{drop_more, map-append, length-append}
use Rattle.std.proofs.Math.Seq.{take-append_seam}
use Rattle.claim_tree.specs.Tree.{Text}
use Rattle.sd_outside.specs.Lists.{In}
use Rattle.sd_outside.proofs.Lists.{In-left, In-right, In-append, In-map, In-of_map}
use Rattle.marked_tree.specs.Marked as spec
use Rattle.marked_tree.specs.Ways.{only}
use Rattle.marked_tree.specs.Choice.{StandOnce}
use Rattle.marked_tree.specs.Paths.{Path, Spot, inside, own_spot, spots, elements_spots, members_spots, mark_path}
use Rattle.marked_tree.specs.View.{marked_of, marked_elements_of, marked_members_of}
use Rattle.marked_tree.proofs.Finds.{node_spots}
use Rattle.marked_tree.proofs.MarkedViews.{Element, Entry}
use Rattle.marked_tree.proofs.Spots.{first_is, spots_weigh}
use Rattle.selection_core.specs.Asked.{SeenMark, own_seen, seen_from, is_below, IsAskedOnWalk}
use Rattle.selection_core.specs.Consent.{RuleAnswers, Allows, AllAllowed, IsRefusedAt}
use Rattle.marked_tree.proofs.Spots.{spot_of}

module _ {F : Type 0} (answers : RuleAnswers F) (rule : F) (s : ℕ → Bool) where
  -- what is asked of the rest from here on is asked of all from the beginning
  abbrev pub IsAskedThrough : List SeenMark → List SeenMark → Option ℕ → Option ℕ → Type 0
  IsAskedThrough rest all before now = (after : Option ℕ) → IsAskedOnWalk answers rule s rest now after → IsAskedOnWalk answers rule s all before after

  pub asked_none : (now : Option ℕ) → IsAskedOnWalk answers rule s [] now now
  asked_none now = record { allowed = λ x m. elim m [ ]; falls = λ i b. b; refused = inl refl }

  -- nothing of the set was seen
  pub asked_unkept : (seen : List SeenMark) (now : Option ℕ) → ((x : SeenMark) → In x seen → s x.0 ≡ false) → IsAskedOnWalk answers rule s seen now now
  asked_unkept seen now none = record { allowed = λ x m k. absurd (clash x m k); falls = λ i b. b; refused = inl refl }
    where
      clash : (x : SeenMark) → In x seen → s x.0 ≡ true → ⊥
      clash x m k = let e : false ≡ true = sym (none x m) ∙ k in cc e

  pub asked_append : (xs ys : List SeenMark) (a b c : Option ℕ) → IsAskedOnWalk answers rule s xs a b → IsAskedOnWalk answers rule s ys b c → IsAskedOnWalk answers rule s (xs ++ ys) a c
  asked_append xs ys a b c first second = record {
    allowed = λ x m k l. ⊎_elim (λ n. first.allowed x n k (second.falls x.0 l)) (λ n. second.allowed x n k l) (In-append x xs ys m);
    falls = λ i l. first.falls i (second.falls i l);
    refused =
        ⊎_elim
        (λ e. ⊎_elim (λ f. inl (e ∙ f)) (λ w. inr (w.0, In-left w.0 xs ys w.1, w.2, e ∙ w.3, w.4)) first.refused)
        (λ w. inr (w.0, In-right w.0 xs ys w.1, w.2, w.3, w.4)) second.refused;
  }

  through_next : (seen xs rest all : List SeenMark) (before now next : Option ℕ) → seen ≡ xs ++ rest → IsAskedThrough seen all before now → IsAskedOnWalk answers rule s xs now next → IsAskedThrough rest all before next
  through_next seen xs rest all before now next e through asked after then =
      subst (λ (ys : List SeenMark). IsAskedThrough ys all before now) e through after (asked_append xs rest now next after asked then)

  -- one with nothing of the set
  pub asked_skipped : (own : Option ℕ) (at : Path) (ss : List Spot) (now : Option ℕ) → ((i : ℕ) → own ≡ Some i → s i ≡ false) → ss ≡ [] → IsAskedOnWalk answers rule s (own_seen own at ++ seen_from at ss) now now
  asked_skipped own at ss now none e = asked_unkept (own_seen own at ++ seen_from at ss) now (λ x m. go x (In-append x (own_seen own at) (seen_from at ss) m))
    where
      own_none : (o : Option ℕ) → own ≡ o → (x : SeenMark) → In x (own_seen o at) → s x.0 ≡ false
      own_none None q x m = elim m [ ]
      own_none (Some i) q x (inl f) = subst (λ (z : SeenMark). s z.0 ≡ false) (sym f) (none i q)
      own_none (Some i) q x (inr m) = elim m [ ]

      go : (x : SeenMark) → In x (own_seen own at) ⊎ In x (seen_from at ss) → s x.0 ≡ false
      go x (inl m) = own_none own refl x m
      go x (inr m) = let n : In x [] = subst (λ (zs : List Spot). In x (seen_from at zs)) e m in elim n [ ]

  -- the next node of a list was asked for at its place
  pub node_asked : (at l : Path) (step k : Text) (own : Option ℕ) (ss : List Spot) (seen rest all : List SeenMark) (before now next : Option ℕ) → seen ≡ (own_seen own (at ++ step ∷ []) ++ seen_from (at ++ step ∷ []) ss) ++ rest
      → IsAskedThrough seen all before now → l ≡ at → k ≡ step → IsAskedOnWalk answers rule s (own_seen own (l ++ k ∷ []) ++ seen_from (l ++ k ∷ []) ss) now next → IsAskedThrough rest all before next
  node_asked at l step k own ss seen rest all before now next e through there same asked =
      through_next seen (own_seen own (at ++ step ∷ []) ++ seen_from (at ++ step ∷ []) ss) rest all before now next e through
      (subst (λ (p : Path). IsAskedOnWalk answers rule s (own_seen own p ++ seen_from p ss) now next) (ap₂ (λ (p : Path) (w : Text). p ++ w ∷ []) there same) asked)

  pub asked_refused : (i : ℕ) (at : Path) (now : Option ℕ) → s i ≡ true → is_below i now ≡ true → Allows answers rule at false → IsAskedOnWalk answers rule s (own_seen (Some i) at) now (Some i)
  asked_refused i at now kept below hidden = record {
    allowed = λ x m k l. absurd (one x m l);
    falls = λ j l. through j now below (ltb_less j i l);
    refused = inr ((i, at), inl refl, kept, refl, hidden);
  }
    where
      ltb_less : (j i : ℕ) → ltb j i ≡ true → j < i
      ltb_less j i l = grind (arith, nat_tests)

      less_ltb : (j i : ℕ) → j < i → ltb j i ≡ true
      less_ltb j i l = grind (arith, nat_tests)

      one : (x : SeenMark) → In x ((i, at) ∷ []) → ltb x.0 i ≡ true → ⊥
      one x (inl e) l = let f = ltb_less i i (subst (λ (z : SeenMark). ltb z.0 i ≡ true) e l) in omega (arith, f)
      one x (inr m) l = elim m [ ]

      through : (j : ℕ) (o : Option ℕ) → is_below i o ≡ true → j < i → is_below j o ≡ true
      through j None b l = refl
      through j (Some k) b l = let f = ltb_less i k b in less_ltb j k (omega (arith, f, l))

-- ---- a step that was added and dropped

pub popped : (at now back : Path) (step : Text) → now ≡ at ++ step ∷ [] → back ≡ take (length now - 1) now → back ≡ at
popped at now back step e f =
    f ∙ ap (λ (p : Path). take (length p - 1) p) e
    ∙ ap (λ n. take n (at ++ step ∷ [])) (let long : length (at ++ step ∷ []) ≡ length at + 1 = length-append at (step ∷ []) in let less : length (at ++ step ∷ []) - 1 ≡ length at = omega (arith, long) in less)
    ∙ take-append_seam at (step ∷ [])

-- ---- the places of the nodes of a list and of an object

seen_append : (at : Path) (xs ys : List Spot) → seen_from at (xs ++ ys) ≡ seen_from at xs ++ seen_from at ys
seen_append at xs ys = map-append (λ (s : Spot). (s.mark, at ++ s.at)) xs ys

step_in : (at p : Path) (step : Text) → at ++ (step ∷ p) ≡ (at ++ step ∷ []) ++ p
step_in [] p step = refl
step_in (k ∷ at) p step = ap (λ (q : Path). k ∷ q) (step_in at p step)

seen_inside : (at : Path) (step : Text) (own : Option ℕ) (ss : List Spot) → seen_from at (map (inside step own) ss) ≡ seen_from (at ++ step ∷ []) ss
seen_inside at step own [] = refl
seen_inside at step own (s ∷ ss) = ap₂ (λ (x : Path) (xs : List SeenMark). (s.mark, x) ∷ xs) (step_in at s.at step) (seen_inside at step own ss)

own_is : (at : Path) (step : Text) (own : Option ℕ) → seen_from at (own_spot step own) ≡ own_seen own (at ++ step ∷ [])
own_is at step None = refl
own_is at step (Some i) = refl

pub node_seen : (at : Path) (step : Text) (own : Option ℕ) (t : spec.Marked)
    → seen_from at (node_spots step own t) ≡ own_seen own (at ++ step ∷ []) ++ seen_from (at ++ step ∷ []) (spots t)
node_seen at step own t = seen_append at (own_spot step own) (map (inside step own) (spots t)) ∙ ap₂ (λ (xs ys : List SeenMark). xs ++ ys) (own_is at step own) (seen_inside at step own (spots t))

pub element_seen : (at : Path) (n : ℕ) (es : List Element) (e : Element) → n < length es → e ≡ get_or es n e
    → seen_from at (elements_spots n (marked_elements_of (drop n es)))
    ≡ (own_seen e.0 (at ++ decimal n ∷ []) ++ seen_from (at ++ decimal n ∷ []) (spots (marked_of e.1))) ++ seen_from at (elements_spots (n + 1) (marked_elements_of (drop (n + 1) es)))
element_seen at n es e within is =
    let there : drop n es ≡ e ∷ drop (n + 1) es = drop_more es n e within ∙ ap (λ (d : Element). d ∷ drop (n + 1) es) (sym is) in
    let more : suc n ≡ n + 1 = omega arith in
    ap (λ us. seen_from at (elements_spots n (marked_elements_of us))) there
    ∙ seen_append at (node_spots (decimal n) e.0 (marked_of e.1)) (elements_spots (suc n) (marked_elements_of (drop (n + 1) es)))
    ∙ ap₂ (λ (xs : List SeenMark) (m : ℕ). xs ++ seen_from at (elements_spots m (marked_elements_of (drop (n + 1) es)))) (node_seen at (decimal n) e.0 (marked_of e.1)) more

pub member_seen : (at : Path) (n : ℕ) (ms : List Entry) (m : Entry) → n < length ms → m ≡ get_or ms n m
    → seen_from at (members_spots (marked_members_of (drop n ms)))
    ≡ (own_seen m.1 (at ++ m.0 ∷ []) ++ seen_from (at ++ m.0 ∷ []) (spots (marked_of m.2))) ++ seen_from at (members_spots (marked_members_of (drop (n + 1) ms)))
member_seen at n ms m within is =
    let there : drop n ms ≡ m ∷ drop (n + 1) ms = drop_more ms n m within ∙ ap (λ (d : Entry). d ∷ drop (n + 1) ms) (sym is) in
    ap (λ us. seen_from at (members_spots (marked_members_of us))) there
    ∙ seen_append at (node_spots m.0 m.1 (marked_of m.2)) (members_spots (marked_members_of (drop (n + 1) ms)))
    ∙ ap (λ (xs : List SeenMark). xs ++ seen_from at (members_spots (marked_members_of (drop (n + 1) ms)))) (node_seen at m.0 m.1 (marked_of m.2))

-- ---- all that was asked

module _ {F : Type 0} (answers : RuleAnswers F) (rule : F) (m : spec.Marked) (s : ℕ → Bool) where
  abbrev WasAsked : Option ℕ → Type 0
  WasAsked after = IsAskedOnWalk answers rule s (seen_from [] (spots m)) None after

  allowed_at : (after : Option ℕ) → WasAsked after → (i : ℕ) (at : Path) → s i ≡ true → mark_path m i ≡ Some at → is_below i after ≡ true → Allows answers rule at true
  allowed_at after asked i at kept stands below =
      let w = spot_of i (spots m) at stands in
      let seen : In (w.0.mark, w.0.at) (seen_from [] (spots m)) = In-map (λ (z : Spot). (z.mark, z.at)) w.0 (spots m) w.1 in
      subst (λ (p : Path). Allows answers rule p true) w.3
      (asked.allowed (w.0.mark, w.0.at) seen (subst (λ j. s j ≡ true) (sym w.2) kept) (subst (λ j. is_below j after ≡ true) (sym w.2) below))

  pub all_allowed : WasAsked None → AllAllowed answers rule m s
  all_allowed asked i at kept stands = allowed_at None asked i at kept stands refl

  pub one_refused : StandOnce m s → (i : ℕ) → WasAsked (Some i) → IsRefusedAt answers rule m s i
  one_refused once i asked = go asked.refused
    where
      less_ltb : (j i : ℕ) → j < i → ltb j i ≡ true
      less_ltb j i l = grind (arith, nat_tests)

      go : (Some i ≡ None) ⊎ ((x : SeenMark) × In x (seen_from [] (spots m)) × (s x.0 ≡ true) × (Some i ≡ Some x.0) × Allows answers rule x.1 false) → IsRefusedAt answers rule m s i
      go (inl e) = cc e
      go (inr w) =
          let same : i ≡ w.0.0 = cc w.3 in
          let kept : s i ≡ true = subst (λ j. s j ≡ true) (sym same) w.2 in
          let v = In-of_map (λ (z : Spot). (z.mark, z.at)) w.0 (spots m) w.1 in
          let marked : v.0.mark ≡ i = ap (λ (x : SeenMark). x.0) (sym v.2) ∙ sym same in
          record {
            chosen = kept;
            at = v.0.at;
            stands = first_is i (spots m) v.0 (omega (arith, once i kept, spots_weigh (only i) m)) v.1 marked;
            refused = subst (λ (x : SeenMark). Allows answers rule x.1 false) v.2 w.4;
            smaller = λ j there l k stands. allowed_at (Some i) asked j there k stands (less_ltb j i l);
          }
