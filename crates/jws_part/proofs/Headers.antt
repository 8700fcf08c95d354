-- What headers say.
use Rattle.std.proofs.Common.{◌≡◌, Bool, true, false, ◌||◌, Option, Some, None, option_map, codes, bytes_eq, if◌then◌else◌, refl, sym, ap, subst, ◌∙◌}
use Rattle.std.specs.List.{list_any}
use Rattle.std.specs.Option.{is_some, option_or}
use Rattle.std.proofs.lemmas.Slice.Eq.{bytes_eq-Decides}
use Rattle.claim_tree.specs.Tree.{Text, Tree, object, Members, no_members, member, names, member_named, text_of}
use Rattle.jws_part.specs.Header.{text_tree, has_name, shares_name, has_crit, HeadersSay, ReadsHeader, IsHeader, IsHeaderCritical, IsNoText, SayNothing, shared_name, no_alg, odd_alg, odd_typ, odd_kid, odd_outer_kid, IsHeaderUnreadable, no_object, nothing_said}
use Rattle.jws_part.specs.HeaderSteps.{unread_header}
use Rattle.jws_part.specs.declared.header.Header.{Header}
use Rattle.jws_part.specs.declared.header.HeaderError.{HeaderError}
use Rattle.jws_part.specs.declared.body.BodyError.{BodyError}
use Rattle.jws_part.proofs.Parts.{one_object}

-- only the one answer is handed on as it
pub unread_back : (error : BodyError) → unread_header error ≡ HeaderError.Unreadable → error ≡ BodyError.Unreadable
unread_back BodyError.Memory e = cc e
unread_back BodyError.Unreadable e = refl

text_back : (s s' : Text) → Some (text_tree s) ≡ Some (text_tree s') → s ≡ s'
text_back s s' e = cc e

texts_back : (s s' : Option Text) → option_map text_tree s ≡ option_map text_tree s' → s ≡ s'
texts_back None None e = refl
texts_back (Some s) (Some s') e = cc e
texts_back None (Some s') e = cc e
texts_back (Some s) None e = cc e

-- headers say one thing
pub one_saying : (ms outer : Members) (h h' : Header) → HeadersSay ms outer h → HeadersSay ms outer h' → h ≡ h'
one_saying ms outer h h' s s' =
    let alg : h.alg ≡ h'.alg = text_back _ _ (sym s.alg ∙ s'.alg) in
    let kid : h.kid ≡ h'.kid = texts_back _ _ (sym s.kid ∙ s'.kid) in
    let typ : h.typ ≡ h'.typ = texts_back _ _ (sym s.typ ∙ s'.typ) in
    let made : Text → Option Text → Option Text → Header = λ a k t. record { alg = a; kid = k; typ = t } in
    ap (λ a. made a h.kid h.typ) alg ∙ (ap (λ k. made h'.alg k h.typ) kid ∙ ap (λ t. made h'.alg h'.kid t) typ)

-- what is no text under a name is none of the texts that could be there
odd : (ms : Members) (name : Text) (s : Option Text) → IsNoText ms name → member_named ms name ≡ option_map text_tree s → ⊥
odd ms name None n e = let both = sym n.stands ∙ e in cc both
odd ms name (Some s) n e = let both = sym n.stands ∙ e in let found : n.found ≡ text_tree s = cc both in let none : Some s ≡ None = ap text_of (sym found) ∙ n.no_text in cc none

odd_own : (ms outer : Members) (name : Text) (s : Option Text) → IsNoText ms name → option_or (member_named ms name) (member_named outer name) ≡ option_map text_tree s → ⊥
odd_own ms outer name s n e = odd ms name s n (n.stands ∙ (ap (λ o. option_or o (member_named outer name)) (sym n.stands) ∙ e))

neither : (a b : Bool) → (a || b) ≡ false → (a ≡ false) × (b ≡ false)
neither true b e = cc e
neither false b e = (refl, e)

found_here : (b : Bool) (test : Text → Bool) (other : Text) (u : Tree) (ms : Members) (name : Text) (t : Tree) → (b ≡ true → other ≡ name)
    → (if b then Some u else member_named ms name) ≡ Some t → (test other || list_any test (names ms)) ≡ false
    → (member_named ms name ≡ Some t → list_any test (names ms) ≡ false → test name ≡ false) → test name ≡ false
found_here true test other u ms name t is e none rest = rw (← is refl) (neither (test other) _ none).0
found_here false test other u ms name t is e none rest = rest e (neither (test other) _ none).1

-- a name that is there is one of the names
named : (test : Text → Bool) (ms : Members) (name : Text) (t : Tree) → member_named ms name ≡ Some t → list_any test (names ms) ≡ false → test name ≡ false
named test no_members name t e none = cc e
named test (member other u ms) name t e none = found_here (bytes_eq other name) test other u ms name t (bytes_eq-Decides other name).0 e none (named test ms name t)

absent : (o : Option Tree) → is_some o ≡ false → o ≡ None
absent None e = refl
absent (Some t) e = cc e

odd_outer : (ms outer : Members) (name : Text) (s : Option Text) → shares_name ms outer ≡ false → IsNoText outer name → option_or (member_named ms name) (member_named outer name) ≡ option_map text_tree s → ⊥
odd_outer ms outer name s apart n e =
    let here : member_named ms name ≡ None = absent _ (named (has_name ms) outer name n.found n.stands apart) in
    odd outer name s n (ap (λ o. option_or o (member_named outer name)) (sym here) ∙ e)

-- a cause is there only where nothing is said
pub nothing : (ms outer : Members) (h : Header) → SayNothing ms outer → HeadersSay ms outer h → ⊥
nothing ms outer h (shared_name e) s = let both = sym e ∙ s.apart in cc both
nothing ms outer h (no_alg e) s = let both = sym e ∙ s.alg in cc both
nothing ms outer h (odd_alg n) s = odd ms (codes "alg") (Some h.alg) n s.alg
nothing ms outer h (odd_typ n) s = odd ms (codes "typ") h.typ n s.typ
nothing ms outer h (odd_kid n) s = odd_own ms outer (codes "kid") h.kid n s.kid
nothing ms outer h (odd_outer_kid n) s = odd_outer ms outer (codes "kid") h.kid s.apart n s.kid

module _ (protected : Text) (outer : Members) where
  one_read : (h k : Header) (c d : Bool) (a : ReadsHeader protected outer h c) (b : ReadsHeader protected outer k d) → b.members ≡ a.members
  one_read h k c d a b = one_object protected b.members a.members b.carried a.carried

  pub one_header : (h k : Header) → IsHeader protected outer h → IsHeader protected outer k → h ≡ k
  one_header h k a b = one_saying a.members outer h k a.says (subst (λ ms. HeadersSay ms outer k) (one_read h k false false a b) b.says)

  -- headers that are read are not unreadable
  read_not_unread : (h : Header) (c : Bool) → ReadsHeader protected outer h c → IsHeaderUnreadable protected outer → ⊥
  read_not_unread h c a (no_object none) = none a.members a.carried
  read_not_unread h c a (nothing_said ms carried cause) = nothing ms outer h cause (subst (λ ns. HeadersSay ns outer h) (one_object protected a.members ms a.carried carried) a.says)

  pub read_not_unreadable : (h : Header) → IsHeader protected outer h → IsHeaderUnreadable protected outer → ⊥
  read_not_unreadable h = read_not_unread h false

  pub critical_not_unreadable : IsHeaderCritical protected outer → IsHeaderUnreadable protected outer → ⊥
  critical_not_unreadable (h, a) = read_not_unread h true a

  pub read_not_critical : (h : Header) → IsHeader protected outer h → IsHeaderCritical protected outer → ⊥
  read_not_critical h a (k, b) =
      let clash : true ≡ false = sym b.crit ∙ (ap (λ ms. has_crit ms outer) (one_read h k false true a b) ∙ a.crit) in
      cc clash
