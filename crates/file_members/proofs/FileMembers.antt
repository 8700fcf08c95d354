-- What the members of a file say.
use Rattle.std.proofs.Common.{◌≡◌, ◌≢◌, ℕ, List, [], ◌∷◌, ◌++◌, Option, Some, None, inl, inr, refl, sym, ap, ◌∙◌}
use Rattle.claim_tree.specs.Tree as spec
use Rattle.claim_tree.specs.Tree.{Text, Members, member_named}
use Rattle.claim_tree.specs.TreeValues.{Says, MaySay, SaysOr}
use Rattle.file_members.specs.declared.field.Field.{Field}
use Rattle.file_members.specs.declared.file_fault.FileFault.{FileFault}
use Rattle.file_members.specs.declared.file_fault.FileFault.TheVariants.{Memory, TooLong, NotJson, NotWhole, NotObject, Unknown, Missing, Wrong}
use Rattle.file_members.specs.FileWords.{field_word}
use Rattle.file_members.specs.FileForms.{Entry, required, optional, fields_of, found, MemberMeets, present, absent, MemberFails, missing, wrong, IsFirstFault, HasMembers, IsFileRefused}
use Rattle.file_members.specs.FileRefusals.{IsMemberRefused}

-- ---- members

-- what is found has not the form
pub wrong_member : (entry : Entry) (ms : Members) (word : Text) (t : spec.Tree) → word ≡ field_word entry.field → Some t ≡ member_named ms word → (entry.Form t → ⊥) → MemberFails entry ms (Wrong entry.field)
wrong_member entry ms word t is stands none = wrong t (ap (member_named ms) (sym is) ∙ sym stands) none refl

-- a member that says its value meets its entry
pub says_meets : {X : Type 0} (Is : spec.Tree → X → Type 0) (field : Field) (ms : Members) (x : X) → Says Is (found ms field) x → MemberMeets (required field Is) ms
says_meets {X} Is field ms x says = go (found ms field) refl says
  where
    go : (o : Option spec.Tree) → found ms field ≡ o → Says Is o x → MemberMeets (required field Is) ms
    go None is h = absurd h
    go (Some t) is h = present t is (x, h)

pub may_say_meets : {X : Type 0} (Is : spec.Tree → X → Type 0) (field : Field) (ms : Members) (x : Option X) → MaySay Is (found ms field) x → MemberMeets (optional field Is) ms
may_say_meets {X} Is field ms x says = go (found ms field) x refl says
  where
    go : (o : Option spec.Tree) (y : Option X) → found ms field ≡ o → MaySay Is o y → MemberMeets (optional field Is) ms
    go None None is h = absent is refl
    go None (Some y) is h = absurd h
    go (Some t) None is h = absurd h
    go (Some t) (Some y) is h = present t is (y, h)

pub says_or_meets : {X : Type 0} (Is : spec.Tree → X → Type 0) (default : X) (field : Field) (ms : Members) (x : X) → SaysOr Is default (found ms field) x → MemberMeets (optional field Is) ms
says_or_meets {X} Is default field ms x says = go (found ms field) refl says
  where
    go : (o : Option spec.Tree) → found ms field ≡ o → SaysOr Is default o x → MemberMeets (optional field Is) ms
    go None is h = absent is refl
    go (Some t) is h = present t is (x, h)

-- ---- the first fault

abbrev pub AllMeet : List Entry → Members → Type 0
AllMeet [] ms = Unit {0}
AllMeet (entry ∷ table) ms = MemberMeets entry ms × AllMeet table ms

behind : (front : List Entry) (entry : Entry) (rest : List Entry) (ms : Members) (fault : FileFault) → AllMeet front ms → MemberFails entry ms fault → IsFirstFault (front ++ entry ∷ rest) ms fault
behind [] entry rest ms fault meet fails = inl fails
behind (other ∷ front) entry rest ms fault meet fails = inr (meet.0, behind front entry rest ms fault meet.1 fails)

-- a member fails by what it is, and by no fault of a whole file
whole_file : (entry : Entry) (ms : Members) (fault : FileFault) → ((field : Field) → fault ≢ Missing field) → ((field : Field) → fault ≢ Wrong field) → MemberFails entry ms fault → ⊥
whole_file entry ms fault not_missing not_wrong (missing none must is) = not_missing entry.field is
whole_file entry ms fault not_missing not_wrong (wrong t there odd is) = not_wrong entry.field is

-- a member that is refused, behind others that meet their entries, is the fault of the file
pub member_refused : (most : ℕ) (front : List Entry) (entry : Entry) (rest : List Entry) (bytes : Text) (ms : Members) (fault : FileFault)
    → HasMembers most (fields_of (front ++ entry ∷ rest)) bytes ms → AllMeet front ms → IsMemberRefused entry ms fault → IsFileRefused most (front ++ entry ∷ rest) bytes fault
member_refused most front entry rest bytes ms Memory file meet refused = tt
member_refused most front entry rest bytes ms TooLong file meet refused = absurd (whole_file entry ms TooLong (λ f e. cc e) (λ f e. cc e) refused)
member_refused most front entry rest bytes ms NotJson file meet refused = absurd (whole_file entry ms NotJson (λ f e. cc e) (λ f e. cc e) refused)
member_refused most front entry rest bytes ms NotWhole file meet refused = absurd (whole_file entry ms NotWhole (λ f e. cc e) (λ f e. cc e) refused)
member_refused most front entry rest bytes ms NotObject file meet refused = absurd (whole_file entry ms NotObject (λ f e. cc e) (λ f e. cc e) refused)
member_refused most front entry rest bytes ms Unknown file meet refused = absurd (whole_file entry ms Unknown (λ f e. cc e) (λ f e. cc e) refused)
member_refused most front entry rest bytes ms (Missing field) file meet refused = record { members = ms; file = file; first = behind front entry rest ms (Missing field) meet refused }
member_refused most front entry rest bytes ms (Wrong field) file meet refused = record { members = ms; file = file; first = behind front entry rest ms (Wrong field) meet refused }
