-- A file that says its members is not refused, and one that is refused has one fault.
use Rattle.std.proofs.Common.{◌≡◌, ◌≢◌, ℕ, ◌<◌, ◌≤◌, List, [], ◌∷◌, length, true, false, inl, inr, Some, None, refl, sym, ap, subst, ◌∙◌, arith}
use Rattle.claim_tree.specs.Tree.{Text, object, Members}
use Rattle.claim_tree.specs.JsonText.{IsNotJson, IsNotWhole}
use Rattle.file_members.specs.FileForms.{Entry, fields_of, MemberMeets, present, absent, MemberFails, missing, wrong, IsFirstFault, has_unknown, IsObjectFile, IsNotObject, HasMembers, HasFirstFault, IsFileRefused}
use Rattle.file_members.specs.declared.file_fault.FileFault.{FileFault}
use Rattle.file_members.specs.declared.file_fault.FileFault.TheVariants.{Memory, TooLong, NotJson, NotWhole, NotObject, Unknown, Missing, Wrong}
use Rattle.claim_tree.proofs.OneTree.{one_tree, is_json, is_whole, one_cause}
use Rattle.file_members.proofs.FileMembers.{AllMeet}

pub one_object : (most : ℕ) (bytes : Text) (ms ns : Members) → IsObjectFile most bytes ms → IsObjectFile most bytes ns → ms ≡ ns
one_object most bytes ms ns h k = let same : object ms ≡ object ns = one_tree bytes (object ms) (object ns) h.reads k.reads in cc same

fails_or_meets : (entry : Entry) (ms : Members) (fault : FileFault) → MemberMeets entry ms → MemberFails entry ms fault → ⊥
fails_or_meets entry ms fault (present t there good) (missing none must is) = let both : Some t ≡ None = sym there ∙ none in cc both
fails_or_meets entry ms fault (present t there good) (wrong u stands odd is) =
    let both : Some t ≡ Some u = sym there ∙ stands in
    let same : t ≡ u = cc both in
    odd (subst (λ v. entry.Form v) same good)
fails_or_meets entry ms fault (absent none may) (missing gone must is) = let both : false ≡ true = sym may ∙ must in cc both
fails_or_meets entry ms fault (absent none may) (wrong u stands odd is) = let both : None ≡ Some u = sym none ∙ stands in cc both

no_first_fault : (table : List Entry) (ms : Members) (fault : FileFault) → AllMeet table ms → IsFirstFault table ms fault → ⊥
no_first_fault [] ms fault meet first = first
no_first_fault (entry ∷ table) ms fault meet (inl fails) = fails_or_meets entry ms fault meet.0 fails
no_first_fault (entry ∷ table) ms fault meet (inr rest) = no_first_fault table ms fault meet.1 rest.1

-- a file whose members meet the table is refused for want of memory alone
pub not_refused : (most : ℕ) (table : List Entry) (bytes : Text) (ms : Members) (fault : FileFault) → HasMembers most (fields_of table) bytes ms → AllMeet table ms → IsFileRefused most table bytes fault → fault ≡ Memory
not_refused most table bytes ms Memory file meet refused = refl
not_refused most table bytes ms TooLong file meet refused = absurd (omega (arith, file.object.short, refused))
not_refused most table bytes ms NotJson file meet refused = absurd (is_json bytes (object ms) file.object.reads refused.1)
not_refused most table bytes ms NotWhole file meet refused = absurd (is_whole bytes (object ms) file.object.reads refused.1)
not_refused most table bytes ms NotObject file meet refused = absurd (refused.other ms (one_tree bytes refused.tree (object ms) refused.reads file.object.reads))
not_refused most table bytes ms Unknown file meet refused =
    let same : refused.0 ≡ ms = one_object most bytes refused.0 ms refused.1 file.object in
    let clash : true ≡ false = sym refused.2 ∙ (ap (has_unknown (fields_of table)) same ∙ file.known) in
    cc clash
not_refused most table bytes ms (Missing field) file meet refused =
    let same : refused.members ≡ ms = one_object most bytes refused.members ms refused.file.object file.object in
    absurd (no_first_fault table ms (Missing field) meet (subst (λ ns. IsFirstFault table ns (Missing field)) same refused.first))
not_refused most table bytes ms (Wrong field) file meet refused =
    let same : refused.members ≡ ms = one_object most bytes refused.members ms refused.file.object file.object in
    absurd (no_first_fault table ms (Wrong field) meet (subst (λ ns. IsFirstFault table ns (Wrong field)) same refused.first))

-- a file that is too long has no other fault
too_long_alone : (most : ℕ) (table : List Entry) (bytes : Text) (fault : FileFault) → most < length bytes → IsFileRefused most table bytes fault → fault ≢ Memory → fault ≡ TooLong
too_long_alone most table bytes Memory long refused cause = absurd (cause refl)
too_long_alone most table bytes TooLong long refused cause = refl
too_long_alone most table bytes NotJson long refused cause = absurd (omega (arith, long, refused.0))
too_long_alone most table bytes NotWhole long refused cause = absurd (omega (arith, long, refused.0))
too_long_alone most table bytes NotObject long refused cause = absurd (omega (arith, long, refused.short))
too_long_alone most table bytes Unknown long refused cause = absurd (omega (arith, long, refused.1.short))
too_long_alone most table bytes (Missing field) long refused cause = absurd (omega (arith, long, refused.file.object.short))
too_long_alone most table bytes (Wrong field) long refused cause = absurd (omega (arith, long, refused.file.object.short))

-- nor has one that is no JSON
not_json_alone : (most : ℕ) (table : List Entry) (bytes : Text) (fault : FileFault) → length bytes ≤ most → IsNotJson bytes → IsFileRefused most table bytes fault → fault ≢ Memory → fault ≡ NotJson
not_json_alone most table bytes Memory short odd refused cause = absurd (cause refl)
not_json_alone most table bytes TooLong short odd refused cause = absurd (omega (arith, short, refused))
not_json_alone most table bytes NotJson short odd refused cause = refl
not_json_alone most table bytes NotWhole short odd refused cause = absurd (one_cause bytes odd refused.1)
not_json_alone most table bytes NotObject short odd refused cause = absurd (is_json bytes refused.tree refused.reads odd)
not_json_alone most table bytes Unknown short odd refused cause = absurd (is_json bytes (object refused.0) refused.1.reads odd)
not_json_alone most table bytes (Missing field) short odd refused cause = absurd (is_json bytes (object refused.members) refused.file.object.reads odd)
not_json_alone most table bytes (Wrong field) short odd refused cause = absurd (is_json bytes (object refused.members) refused.file.object.reads odd)

-- nor one with a number that is not whole
not_whole_alone : (most : ℕ) (table : List Entry) (bytes : Text) (fault : FileFault) → length bytes ≤ most → IsNotWhole bytes → IsFileRefused most table bytes fault → fault ≢ Memory → fault ≡ NotWhole
not_whole_alone most table bytes Memory short odd refused cause = absurd (cause refl)
not_whole_alone most table bytes TooLong short odd refused cause = absurd (omega (arith, short, refused))
not_whole_alone most table bytes NotJson short odd refused cause = absurd (one_cause bytes refused.1 odd)
not_whole_alone most table bytes NotWhole short odd refused cause = refl
not_whole_alone most table bytes NotObject short odd refused cause = absurd (is_whole bytes refused.tree refused.reads odd)
not_whole_alone most table bytes Unknown short odd refused cause = absurd (is_whole bytes (object refused.0) refused.1.reads odd)
not_whole_alone most table bytes (Missing field) short odd refused cause = absurd (is_whole bytes (object refused.members) refused.file.object.reads odd)
not_whole_alone most table bytes (Wrong field) short odd refused cause = absurd (is_whole bytes (object refused.members) refused.file.object.reads odd)

-- nor one that is no object
not_object_alone : (most : ℕ) (table : List Entry) (bytes : Text) (fault : FileFault) → IsNotObject most bytes → IsFileRefused most table bytes fault → fault ≢ Memory → fault ≡ NotObject
not_object_alone most table bytes Memory file refused cause = absurd (cause refl)
not_object_alone most table bytes TooLong file refused cause = absurd (omega (arith, file.short, refused))
not_object_alone most table bytes NotJson file refused cause = absurd (is_json bytes file.tree file.reads refused.1)
not_object_alone most table bytes NotWhole file refused cause = absurd (is_whole bytes file.tree file.reads refused.1)
not_object_alone most table bytes NotObject file refused cause = refl
not_object_alone most table bytes Unknown file refused cause = absurd (file.other refused.0 (one_tree bytes file.tree (object refused.0) file.reads refused.1.reads))
not_object_alone most table bytes (Missing field) file refused cause = absurd (file.other refused.members (one_tree bytes file.tree (object refused.members) file.reads refused.file.object.reads))
not_object_alone most table bytes (Wrong field) file refused cause = absurd (file.other refused.members (one_tree bytes file.tree (object refused.members) file.reads refused.file.object.reads))

all_known : (most : ℕ) (table : List Entry) (bytes : Text) (ms : Members) → IsObjectFile most bytes ms → has_unknown (fields_of table) ms ≡ true → (ns : Members) → HasMembers most (fields_of table) bytes ns → ⊥
all_known most table bytes ms file unknown ns other =
    let same : ms ≡ ns = one_object most bytes ms ns file other.object in
    let clash : true ≡ false = sym unknown ∙ (ap (has_unknown (fields_of table)) same ∙ other.known) in
    cc clash

-- nor one with a member that is unknown
unknown_alone : (most : ℕ) (table : List Entry) (bytes : Text) (ms : Members) (fault : FileFault) → IsObjectFile most bytes ms → has_unknown (fields_of table) ms ≡ true → IsFileRefused most table bytes fault → fault ≢ Memory → fault ≡ Unknown
unknown_alone most table bytes ms Memory file unknown refused cause = absurd (cause refl)
unknown_alone most table bytes ms TooLong file unknown refused cause = absurd (omega (arith, file.short, refused))
unknown_alone most table bytes ms NotJson file unknown refused cause = absurd (is_json bytes (object ms) file.reads refused.1)
unknown_alone most table bytes ms NotWhole file unknown refused cause = absurd (is_whole bytes (object ms) file.reads refused.1)
unknown_alone most table bytes ms NotObject file unknown refused cause = absurd (refused.other ms (one_tree bytes refused.tree (object ms) refused.reads file.reads))
unknown_alone most table bytes ms Unknown file unknown refused cause = refl
unknown_alone most table bytes ms (Missing field) file unknown refused cause = absurd (all_known most table bytes ms file unknown refused.members refused.file)
unknown_alone most table bytes ms (Wrong field) file unknown refused cause = absurd (all_known most table bytes ms file unknown refused.members refused.file)

one_fail : (entry : Entry) (ms : Members) (f g : FileFault) → MemberFails entry ms f → MemberFails entry ms g → f ≡ g
one_fail entry ms f g (missing none must is) (missing gone need as_well) = is ∙ sym as_well
one_fail entry ms f g (missing none must is) (wrong u stands odd as_well) = let both : None ≡ Some u = sym none ∙ stands in cc both
one_fail entry ms f g (wrong t there bad is) (missing gone need as_well) = let both : Some t ≡ None = sym there ∙ gone in cc both
one_fail entry ms f g (wrong t there bad is) (wrong u stands odd as_well) = is ∙ sym as_well

one_first : (table : List Entry) (ms : Members) (f g : FileFault) → IsFirstFault table ms f → IsFirstFault table ms g → f ≡ g
one_first [] ms f g h k = absurd h
one_first (entry ∷ table) ms f g (inl h) (inl k) = one_fail entry ms f g h k
one_first (entry ∷ table) ms f g (inl h) (inr k) = absurd (fails_or_meets entry ms f k.0 h)
one_first (entry ∷ table) ms f g (inr h) (inl k) = absurd (fails_or_meets entry ms g h.0 k)
one_first (entry ∷ table) ms f g (inr h) (inr k) = one_first table ms f g h.1 k.1

one_member : (most : ℕ) (table : List Entry) (bytes : Text) (f g : FileFault) → HasFirstFault most table bytes f → HasFirstFault most table bytes g → f ≡ g
one_member most table bytes f g h k =
    let same : h.members ≡ k.members = one_object most bytes h.members k.members h.file.object k.file.object in
    one_first table k.members f g (subst (λ ms. IsFirstFault table ms f) same h.first) k.first

-- nor one with members that are missing or wrong, whose fault is that of the first
member_alone : (most : ℕ) (table : List Entry) (bytes : Text) (fault first : FileFault) → HasFirstFault most table bytes first → IsFileRefused most table bytes fault → fault ≢ Memory → fault ≡ first
member_alone most table bytes Memory first file refused cause = absurd (cause refl)
member_alone most table bytes TooLong first file refused cause = absurd (omega (arith, file.file.object.short, refused))
member_alone most table bytes NotJson first file refused cause = absurd (is_json bytes (object file.members) file.file.object.reads refused.1)
member_alone most table bytes NotWhole first file refused cause = absurd (is_whole bytes (object file.members) file.file.object.reads refused.1)
member_alone most table bytes NotObject first file refused cause = absurd (refused.other file.members (one_tree bytes refused.tree (object file.members) refused.reads file.file.object.reads))
member_alone most table bytes Unknown first file refused cause = absurd (all_known most table bytes refused.0 refused.1 refused.2 file.members file.file)
member_alone most table bytes (Missing field) first file refused cause = one_member most table bytes (Missing field) first refused file
member_alone most table bytes (Wrong field) first file refused cause = one_member most table bytes (Wrong field) first refused file

-- a file has one fault, beside want of memory
pub one_fault : (most : ℕ) (table : List Entry) (bytes : Text) (f g : FileFault) → IsFileRefused most table bytes f → IsFileRefused most table bytes g → f ≢ Memory → g ≢ Memory → f ≡ g
one_fault most table bytes Memory g h k a b = absurd (a refl)
one_fault most table bytes TooLong g h k a b = sym (too_long_alone most table bytes g h k b)
one_fault most table bytes NotJson g h k a b = sym (not_json_alone most table bytes g h.0 h.1 k b)
one_fault most table bytes NotWhole g h k a b = sym (not_whole_alone most table bytes g h.0 h.1 k b)
one_fault most table bytes NotObject g h k a b = sym (not_object_alone most table bytes g h k b)
one_fault most table bytes Unknown g h k a b = sym (unknown_alone most table bytes h.0 g h.1 h.2 k b)
one_fault most table bytes (Missing field) g h k a b = sym (member_alone most table bytes g (Missing field) h k b)
one_fault most table bytes (Wrong field) g h k a b = sym (member_alone most table bytes g (Wrong field) h k b)
