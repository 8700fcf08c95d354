-- Both present orders are files of a member that must be there, the wanted places, those that are never shown, and what a key binding token
-- is to say. Such a file says one order, or is refused by the first of its members that is.
use Rattle.std.proofs.Common.{◌≡◌, List, [], ◌∷◌, take, drop, Option}
use Rattle.sd_outside.specs.Limits.{file_max}
use Rattle.claim_tree.specs.Tree.{Text, Tree, Members}
use Rattle.claim_tree.specs.TreeValues.{Says, MaySay, SaysOr, IsListOf, IsPointer}
use Rattle.claim_tree.proofs.ListForms.{one_pointer}
use Rattle.claim_tree.proofs.TreeValues.{SaysOne}
use Rattle.file_members.specs.FileForms.{Entry, required, optional, fields_of, found, HasMembers, IsFileRefused}
use Rattle.file_members.specs.FileRefusals.{IsMemberRefused}
use Rattle.file_members.specs.FileWords.{field_word}
use Rattle.file_members.specs.declared.field.Field.{Field}
use Rattle.file_members.specs.declared.field.Field.TheVariants.{Want, Never, Binding}
use Rattle.file_members.specs.declared.file_fault.FileFault.{FileFault}
use Rattle.file_members.proofs.FileMembers.{AllMeet, says_meets, may_say_meets, says_or_meets, member_refused}
use Rattle.file_members.proofs.FileVerdicts as verdicts
use Rattle.holder_core.proofs.OneObject.{one_said, one_maybe_said, one_listed}

module _ {A B : Type 0} (first : Field) (IsFirst : Tree → A → Type 0) (IsBound : Tree → B → Type 0) where
  abbrev pub order_table : List Entry
  order_table = required first IsFirst ∷ optional Want (IsListOf IsPointer) ∷ optional Never (IsListOf IsPointer) ∷ optional Binding IsBound ∷ []

  -- ---- the first member that is refused

  module _ (bytes : Text) (ms : Members) (fault : FileFault) (file : HasMembers file_max (fields_of order_table) bytes ms) where
    pub at_first : IsMemberRefused (required first IsFirst) ms fault → IsFileRefused file_max order_table bytes fault
    at_first refused = member_refused file_max [] (required first IsFirst) (drop 1 order_table) bytes ms fault file tt refused

    module _ (a : A) (a_said : Says IsFirst (found ms first) a) where
      pub at_want : IsMemberRefused (optional Want (IsListOf IsPointer)) ms fault → IsFileRefused file_max order_table bytes fault
      at_want refused = member_refused file_max (take 1 order_table) (optional Want (IsListOf IsPointer)) (drop 2 order_table) bytes ms fault file (says_meets IsFirst first ms a a_said, tt) refused

      module _ (want : List (List Text)) (want_said : SaysOr (IsListOf IsPointer) [] (found ms Want) want) where
        pub at_never : IsMemberRefused (optional Never (IsListOf IsPointer)) ms fault → IsFileRefused file_max order_table bytes fault
        at_never refused =
            let first_meets = says_meets IsFirst first ms a a_said in
            let want_meets = says_or_meets (IsListOf IsPointer) [] Want ms want want_said in
            member_refused file_max (take 2 order_table) (optional Never (IsListOf IsPointer)) (drop 3 order_table) bytes ms fault file (first_meets, (want_meets, tt)) refused

        pub at_binding : (never : List (List Text)) → SaysOr (IsListOf IsPointer) [] (found ms Never) never → IsMemberRefused (optional Binding IsBound) ms fault → IsFileRefused file_max order_table bytes fault
        at_binding never never_said refused =
            let first_meets = says_meets IsFirst first ms a a_said in
            let want_meets = says_or_meets (IsListOf IsPointer) [] Want ms want want_said in
            let never_meets = says_or_meets (IsListOf IsPointer) [] Never ms never never_said in
            member_refused file_max (take 3 order_table) (optional Binding IsBound) [] bytes ms fault file (first_meets, (want_meets, (never_meets, tt))) refused

  -- ---- one order

  -- what the members say
  abbrev pub SayOrder : Members → A → List (List Text) → List (List Text) → Option B → Type 0
  SayOrder ms a want never bound =
      Says IsFirst (found ms first) a × SaysOr (IsListOf IsPointer) [] (found ms Want) want × SaysOr (IsListOf IsPointer) [] (found ms Never) never × MaySay IsBound (found ms Binding) bound

  order_meets : (ms : Members) (a : A) (want never : List (List Text)) (bound : Option B) → SayOrder ms a want never bound → AllMeet order_table ms
  order_meets ms a want never bound h =
      (says_meets IsFirst first ms a h.0, (says_or_meets (IsListOf IsPointer) [] Want ms want h.1, (says_or_meets (IsListOf IsPointer) [] Never ms never h.2, (may_say_meets IsBound Binding ms bound h.3, tt))))

  pub not_both : (bytes : Text) (fault : FileFault) (ms : Members) → HasMembers file_max (fields_of order_table) bytes ms → (a : A) (want never : List (List Text)) (bound : Option B) → SayOrder ms a want never bound
      → IsFileRefused file_max order_table bytes fault → fault ≡ FileFault.Memory
  not_both bytes fault ms file a want never bound h = verdicts.not_refused file_max order_table bytes ms fault file (order_meets ms a want never bound h)

  pub one_order : SaysOne IsFirst → SaysOne IsBound → (bytes : Text) (ms ns : Members) → HasMembers file_max (fields_of order_table) bytes ms → HasMembers file_max (fields_of order_table) bytes ns
      → (a b : A) (want also never ever : List (List Text)) (bound tied : Option B) → SayOrder ms a want never bound → SayOrder ns b also ever tied → (a ≡ b) × (want ≡ also) × (never ≡ ever) × (bound ≡ tied)
  one_order one_first one_bound bytes ms ns file other a b want also never ever bound tied h k =
      let same : ms ≡ ns = verdicts.one_object file_max bytes ms ns file.object other.object in (
        one_said IsFirst one_first same (field_word first) a b h.0 k.0,
        one_listed IsPointer one_pointer same (field_word Want) want also h.1 k.1,
        one_listed IsPointer one_pointer same (field_word Never) never ever h.2 k.2,
        one_maybe_said IsBound one_bound same (field_word Binding) bound tied h.3 k.3,
      )

pub ruleset refused_at = (at_first, at_want, at_never, at_binding)
