-- A file says one order, or is refused.
use Rattle.std.proofs.Common.{◌≡◌, ◌≢◌, ℕ, ◌<◌, ◌≤◌, List, [], ◌∷◌, inl, inr, Option, Some, None, length, refl, sym, ap, ap₂, subst, ◌∙◌, arith, codes}
use Rattle.sd_outside.specs.Limits.{count_max, file_max, key_min}
use Rattle.claim_tree.specs.Tree as spec
use Rattle.claim_tree.specs.Tree.{Text, text, leaf, object, Elements, no_elements, element, Members, member_named, depth, members_depth}
use Rattle.sd_outside.specs.Lists.{In}
use Rattle.claim_tree.specs.View.{tree_of}
use Rattle.claim_tree.specs.TreeValues.{IsText, IsWholeUpTo, Says, SaysOr, HasValue, IsListOf, EachSays, IsPointer}
use Rattle.file_members.specs.FileForms.{MemberMeets, MemberFails, missing, wrong, required, optional, found}
use Rattle.file_members.specs.FileRefusals.{IsMemberRefused}
use Rattle.file_members.specs.declared.field.Field.{Field}
use Rattle.file_members.specs.declared.field.Field.TheVariants.{Payload, Hide, Decoys, Key, Kid, Typ, SdAlg}
use Rattle.file_members.specs.declared.file_fault.FileFault.{FileFault}
use Rattle.file_members.specs.declared.file_fault.FileFault.TheVariants.{Memory, Wrong}
use Rattle.file_members.proofs.FileMembers.{says_meets, may_say_meets, says_or_meets, AllMeet}
use Rattle.claim_tree.proofs.TreeValues as values
use Rattle.file_members.proofs.FileVerdicts as verdicts
use Rattle.claim_tree.proofs.TreeValues.{SaysOne}
use Rattle.disclosure.specs.Digest.{hash_name, hash_of_text}
use Rattle.disclosure.specs.declared.digests.HashAlg.{HashAlg}
use Rattle.disclosure.proofs.HashNames.{of_its_name}
use Rattle.hmac_sign.specs.Algs.{alg_text, alg_of_text, key_least}
use Rattle.hmac_sign.proofs.AlgNames.{of_its_text}
use Rattle.hmac_sign.specs.Hmac.{alg_key}
use Rattle.hmac_sign.specs.KeyText.{IsKeyBytes}
use Rattle.hmac_sign.specs.declared.alg.Alg.{Alg}
use Rattle.issuer_core.specs.Order as seen
use Rattle.issuer_core.specs.Order.{order_of}
use Rattle.issuer_core.specs.OrderFile.{IsValue, IsDecoy, IsHashText, IsAlgText, IsAlgFor, IsAlgOf, HasKey, order_table, IsOrderFile, IsOrderFileRefused}
use Rattle.issuer_core.specs.UnsignedOrder.{unsigned_order_table, SaysOrder}
use Rattle.issuer_core.specs.declared.order.Decoy.{Decoy}
use Rattle.issuer_core.specs.declared.order.Order.{Order}
use Rattle.issuer_core.specs.declared.order_file.IssueFile.{IssueFile}
use Rattle.claim_tree.proofs.ListForms.{one_list, one_pointer}
use Rattle.claim_tree.proofs.OtherMembers.{depth-member_named}
use Rattle.hmac_sign.proofs.KeyTexts.{one_key_bytes}

-- ---- entries of decoys

entry_of : List Text → ℕ → Decoy
entry_of at count = record { at = at; count = count }

pub one_decoy : SaysOne IsDecoy
unfolding entry_of
one_decoy t d e h k =
    let both : object h.members ≡ object k.members = sym h.is ∙ k.is in
    let same : h.members ≡ k.members = cc both in
    let at : d.at ≡ e.at = values.says_one IsPointer (member_named k.members (codes "at")) d.at e.at one_pointer (subst (λ ns. Says IsPointer (member_named ns (codes "at")) d.at) same h.at) k.at in
    let count : d.count ≡ e.count = values.says_one (IsWholeUpTo count_max) (member_named k.members (codes "count")) d.count e.count (values.one_whole count_max) (subst (λ ns. Says (IsWholeUpTo count_max) (member_named ns (codes "count")) d.count) same h.count) k.count in
    ap (λ x. entry_of x d.count) at ∙ ap (λ n. entry_of e.at n) count

-- no entry asks for more than an order may have
count_within : (o : Option spec.Tree) (n : ℕ) → Says (IsWholeUpTo count_max) o n → n ≤ count_max
count_within None n h = absurd h
count_within (Some t) n h = h.within

each_within : (es : Elements) (ds : List Decoy) (entry : Decoy) → EachSays IsDecoy es ds → In entry ds → entry.count ≤ count_max
each_within no_elements [] entry h m = elim m [ ]
each_within no_elements (d ∷ ds) entry h m = absurd h
each_within (element t es) [] entry h m = absurd h
each_within (element t es) (d ∷ ds) entry h (inl e) = subst (λ (x : Decoy). x.count ≤ count_max) (sym e) (count_within (member_named h.0.members (codes "count")) d.count h.0.count)
each_within (element t es) (d ∷ ds) entry h (inr m) = each_within es ds entry h.1 m

pub counts_within : (o : Option spec.Tree) (ds : List Decoy) (entry : Decoy) → SaysOr (IsListOf IsDecoy) [] o ds → In entry ds → entry.count ≤ count_max
counts_within None ds entry h m = let none : In entry [] = subst (λ xs. In entry xs) h m in elim none [ ]
counts_within (Some t) ds entry h m = each_within h.elements ds entry h.each m

-- ---- the payload

pub one_value : SaysOne IsValue
one_value t x y h k = h ∙ sym k

value_named : (o : Option spec.Tree) (u : spec.Tree) → Says IsValue o u → o ≡ Some u
value_named None u h = absurd h
value_named (Some t) u h = ap Some (sym h)

pub value_depth : (ms : Members) (name : Text) (u : spec.Tree) → members_depth ms ≤ 126 → Says IsValue (member_named ms name) u → depth u ≤ 126
value_depth ms name u low says = omega (arith, low, depth-member_named ms name u (value_named (member_named ms name) u says))

-- ---- the hash

pub one_hash_text : SaysOne IsHashText
one_hash_text t x y h k =
    let both : leaf (text (hash_name x)) ≡ leaf (text (hash_name y)) = sym h ∙ k in
    let same : hash_name x ≡ hash_name y = cc both in
    let found_same : Some x ≡ Some y = of_its_name x ∙ (ap hash_of_text same ∙ sym (of_its_name y)) in
    cc found_same

-- ---- the algorithm, and the key

one_alg_name : (x y : Alg) → alg_text x ≡ alg_text y → x ≡ y
one_alg_name x y e = let found_same : Some x ≡ Some y = of_its_text x ∙ (ap alg_of_text e ∙ sym (of_its_text y)) in cc found_same

one_alg_text : SaysOne IsAlgText
one_alg_text t x y h k = let both : leaf (text (alg_text x)) ≡ leaf (text (alg_text y)) = sym h ∙ k in let same : alg_text x ≡ alg_text y = cc both in one_alg_name x y same

one_alg_for : (size : ℕ) → SaysOne (IsAlgFor size)
one_alg_for size t x y h k = one_alg_text t x y h.named k.named

-- what a member says of another form is wrong where it says nothing of this one
fails_as : {X Y : Type 0} (Is : spec.Tree → X → Type 0) (Was : spec.Tree → Y → Type 0) (field : Field) (ms : Members) (fault : FileFault) → ((t : spec.Tree) → HasValue Was t → HasValue Is t)
    → MemberFails (optional field Is) ms fault → MemberFails (optional field Was) ms fault
fails_as Is Was field ms fault into (missing none must is) = missing none must is
fails_as Is Was field ms fault into (wrong t there odd is) = wrong t there (λ h. odd (into t h)) is

pub refused_as : {X Y : Type 0} (Is : spec.Tree → X → Type 0) (Was : spec.Tree → Y → Type 0) (field : Field) (ms : Members) (fault : FileFault) → ((t : spec.Tree) → HasValue Was t → HasValue Is t)
    → IsMemberRefused (optional field Is) ms fault → IsMemberRefused (optional field Was) ms fault
refused_as Is Was field ms Memory into h = tt
refused_as Is Was field ms fault into h = fails_as Is Was field ms fault into h

pub unsized : (size : ℕ) (t : spec.Tree) → HasValue (IsAlgFor size) t → HasValue IsAlgText t
unsized size t h = (h.0, h.1.named)

-- an algorithm is wrong for a key that is too short for it, as no key is for the one that stands for a missing one
pub too_short : (size : ℕ) (ms : Members) (alg : Alg) → key_min ≤ size → size < key_least alg → SaysOr IsAlgText Alg.Hs256 (found ms Field.Alg) alg → MemberFails (optional Field.Alg (IsAlgFor size)) ms (Wrong Field.Alg)
too_short size ms alg least short says = go (found ms Field.Alg) refl says
  where
    go : (o : Option spec.Tree) → found ms Field.Alg ≡ o → SaysOr IsAlgText Alg.Hs256 o alg → MemberFails (optional Field.Alg (IsAlgFor size)) ms (Wrong Field.Alg)
    go None is h = let low : size < key_least Alg.Hs256 = subst (λ a. size < key_least a) h short in absurd (omega (arith, low, least))
    go (Some t) is h = wrong t is (λ k. let same = one_alg_text t k.0 alg k.1.named h in let enough = subst (λ a. key_least a ≤ size) same k.1.enough in omega (arith, enough, short)) refl

pub enough_bytes : (o : Option spec.Tree) (key : List ℕ) → Says IsKeyBytes o key → key_min ≤ length key
enough_bytes None key h = absurd h
enough_bytes (Some t) key h = h.enough

-- the key of a file is one
one_key : (bytes : Text) (key other : List ℕ) → HasKey bytes key → HasKey bytes other → key ≡ other
one_key bytes key other h k =
    let same = verdicts.one_object file_max bytes h.members k.members h.file k.file in
    values.says_one IsKeyBytes (found k.members Key) key other one_key_bytes (subst (λ ns. Says IsKeyBytes (found ns Key) key) same h.says) k.says

pub alg_of_file : (bytes : Text) (key : List ℕ) → HasKey bytes key → (t : spec.Tree) → HasValue (IsAlgOf bytes) t → HasValue (IsAlgFor (length key)) t
alg_of_file bytes key has t h = (h.0, subst (λ (k : List ℕ). IsAlgFor (length k) t h.0) (one_key bytes h.1.key key h.1.has has) h.1.is_for)

pub alg_meets : (bytes : Text) (key : List ℕ) (ms : Members) (alg : Alg) → HasKey bytes key → SaysOr (IsAlgFor (length key)) Alg.Hs256 (found ms Field.Alg) alg → MemberMeets (optional Field.Alg (IsAlgOf bytes)) ms
alg_meets bytes key ms alg has says = says_or_meets (IsAlgOf bytes) Alg.Hs256 Field.Alg ms alg (go (found ms Field.Alg) says)
  where
    go : (o : Option spec.Tree) → SaysOr (IsAlgFor (length key)) Alg.Hs256 o alg → SaysOr (IsAlgOf bytes) Alg.Hs256 o alg
    go None h = h
    go (Some t) h = record { key = key; has = has; is_for = h }

-- ---- the order

made : spec.Tree → List (List Text) → List Decoy → Option Text → Option Text → HashAlg → seen.Order
made payload hide decoys kid typ hash = record { payload = payload; hide = hide; decoys = decoys; kid = kid; typ = typ; hash = hash }

-- what members say is one order
pub one_said : (ms : Members) (f g : Order) → SaysOrder ms f → SaysOrder ms g → order_of f ≡ order_of g
unfolding made
one_said ms f g h k =
    let payload = values.says_one IsValue (found ms Payload) (tree_of f.payload) (tree_of g.payload) one_value h.payload k.payload in
    let hide = values.says_or_one (IsListOf IsPointer) [] (found ms Hide) f.hide g.hide (one_list IsPointer one_pointer) h.places.hide k.places.hide in
    let decoys = values.says_or_one (IsListOf IsDecoy) [] (found ms Decoys) f.decoys g.decoys (one_list IsDecoy one_decoy) h.places.decoys k.places.decoys in
    let kid = values.may_say_one IsText (found ms Kid) f.kid g.kid values.one_text h.kid k.kid in
    let typ = values.may_say_one IsText (found ms Typ) f.typ g.typ values.one_text h.typ k.typ in
    let hash = values.says_or_one IsHashText HashAlg.Sha256 (found ms SdAlg) f.hash g.hash one_hash_text h.hash k.hash in
    ap (λ x. made x f.hide f.decoys f.kid f.typ f.hash) payload
    ∙ (ap (λ x. made (tree_of g.payload) x f.decoys f.kid f.typ f.hash) hide
    ∙ (ap (λ x. made (tree_of g.payload) g.hide x f.kid f.typ f.hash) decoys
    ∙ (ap (λ x. made (tree_of g.payload) g.hide g.decoys x f.typ f.hash) kid
    ∙ (ap (λ x. made (tree_of g.payload) g.hide g.decoys g.kid x f.hash) typ
    ∙ ap (λ x. made (tree_of g.payload) g.hide g.decoys g.kid g.typ x) hash))))

-- members that say an order meet their entries
pub said_meet : (ms : Members) (order : Order) → SaysOrder ms order → AllMeet unsigned_order_table ms
said_meet ms order says =
    let payload = says_meets IsValue Payload ms (tree_of order.payload) says.payload in
    let hide = says_or_meets (IsListOf IsPointer) [] Hide ms order.hide says.places.hide in
    let decoys = says_or_meets (IsListOf IsDecoy) [] Decoys ms order.decoys says.places.decoys in
    let kid = may_say_meets IsText Kid ms order.kid says.kid in
    let typ = may_say_meets IsText Typ ms order.typ says.typ in
    let hash = says_or_meets IsHashText HashAlg.Sha256 SdAlg ms order.hash says.hash in
    (payload, (hide, (decoys, (kid, (typ, (hash, tt))))))

-- ---- the file

-- what the members say of the order
said_order : (bytes : Text) (said : IssueFile) (h : IsOrderFile bytes said) → SaysOrder h.members said.order
said_order bytes said h = record { payload = h.payload; places = record { hide = h.hide; decoys = h.decoys }; kid = h.kid; typ = h.typ; hash = h.hash }

pub one_order : (bytes : Text) (f g : IssueFile) → IsOrderFile bytes f → IsOrderFile bytes g → (order_of f.order ≡ order_of g.order) × (f.key ≡ g.key)
one_order bytes f g h k =
    let same : h.members ≡ k.members = verdicts.one_object file_max bytes h.members k.members h.file.object k.file.object in
    let order = one_said k.members f.order g.order (subst (λ ns. SaysOrder ns f.order) same (said_order bytes f h)) (said_order bytes g k) in
    let key = values.says_one IsKeyBytes (found k.members Key) h.key_bytes k.key_bytes one_key_bytes (subst (λ ns. Says IsKeyBytes (found ns Key) h.key_bytes) same h.says_key) k.says_key in
    let other = subst (λ (b : List ℕ). SaysOr (IsAlgFor (length b)) Alg.Hs256 (found h.members Field.Alg) h.alg) key h.says_alg in
    let alg = values.says_or_one (IsAlgFor (length k.key_bytes)) Alg.Hs256 (found k.members Field.Alg) h.alg k.alg (one_alg_for (length k.key_bytes)) (subst (λ ns. SaysOr (IsAlgFor (length k.key_bytes)) Alg.Hs256 (found ns Field.Alg) h.alg) same other) k.says_alg in
    (order, h.key ∙ (ap₂ alg_key alg key ∙ sym k.key))

-- the table has the key behind the head, and the algorithm before the hash
with_key : (bytes : Text) (ms : Members) → AllMeet unsigned_order_table ms → MemberMeets (required Key IsKeyBytes) ms → MemberMeets (optional Field.Alg (IsAlgOf bytes)) ms → AllMeet (order_table bytes) ms
with_key bytes ms (payload, (hide, (decoys, (kid, (typ, (hash, none)))))) key alg = (payload, (hide, (decoys, (key, (kid, (typ, (alg, (hash, none))))))))

pub not_both : (bytes : Text) (said : IssueFile) (fault : FileFault) → IsOrderFile bytes said → IsOrderFileRefused bytes fault → fault ≡ FileFault.Memory
not_both bytes said fault says refused =
    let ms = says.members in
    let key = says_meets IsKeyBytes Key ms says.key_bytes says.says_key in
    let alg = alg_meets bytes says.key_bytes ms says.alg (record { members = ms; file = says.file.object; says = says.says_key }) says.says_alg in
    let meet = with_key bytes ms (said_meet ms said.order (said_order bytes said says)) key alg in
    verdicts.not_refused file_max (order_table bytes) bytes ms fault says.file meet refused

pub one_fault : (bytes : Text) (fault other : FileFault) → IsOrderFileRefused bytes fault → IsOrderFileRefused bytes other → fault ≢ FileFault.Memory → other ≢ FileFault.Memory → fault ≡ other
one_fault bytes fault other h k = verdicts.one_fault file_max (order_table bytes) bytes fault other h k
