-- A command has one reply, where there is one line of each kind and no two kinds apply.
use Rattle.std.proofs.Common.{◌≡◌, ◌≢◌, ℕ, List, ap, sym, ◌∙◌}
use Rattle.file_members.specs.declared.file_fault.FileFault.{FileFault}
use Rattle.refusals.specs.declared.fault.Fault.{Fault}
use Rattle.cli_parts.specs.Lines.{refusal, unreadable_line}
use Rattle.cli_parts.specs.Replies.{Reply, Replies, gives, refuses, unreadable}
use Rattle.cli_parts.specs.Telling.{TellsFault, TellsFileFault}

-- there is one line of this kind
abbrev pub IsOneLine : (List ℕ → Type 0) → Type 0
IsOneLine Is = (a b : List ℕ) → Is a → Is b → a ≡ b

-- the two kinds do not both apply
abbrev pub AreApart : (List ℕ → Type 0) → (List ℕ → Type 0) → Type 0
AreApart Is IsOther = (a b : List ℕ) → Is a → IsOther b → ⊥

module _ (Gives Refuses Unreadable : List ℕ → Type 0) (answers : IsOneLine Gives) (refusals : IsOneLine Refuses) (reasons : IsOneLine Unreadable)
    (not_refused : AreApart Gives Refuses) (readable : AreApart Gives Unreadable) (refused_readable : AreApart Refuses Unreadable) where
  pub one_reply : (v w : Reply) → Replies Gives Refuses Unreadable v → Replies Gives Refuses Unreadable w → v ≡ w
  one_reply (gives a) (gives b) g h = ap gives (answers a b g h)
  one_reply (gives a) (refuses b) g h = absurd (not_refused a b g h)
  one_reply (gives a) (unreadable b) g h = absurd (readable a b g h)
  one_reply (refuses a) (gives b) g h = absurd (not_refused b a h g)
  one_reply (refuses a) (refuses b) g h = ap refuses (refusals a b g h)
  one_reply (refuses a) (unreadable b) g h = absurd (refused_readable a b g h)
  one_reply (unreadable a) (gives b) g h = absurd (readable b a h g)
  one_reply (unreadable a) (refuses b) g h = absurd (refused_readable b a h g)
  one_reply (unreadable a) (unreadable b) g h = ap unreadable (reasons a b g h)

-- where no file of a command can be unreadable
module _ (Gives Refuses : List ℕ → Type 0) (answers : IsOneLine Gives) (refusals : IsOneLine Refuses) (not_refused : AreApart Gives Refuses) where
  pub one_readable_reply : (v w : Reply) → Replies Gives Refuses (λ _. ⊥) v → Replies Gives Refuses (λ _. ⊥) w → v ≡ w
  one_readable_reply v w g h = one_reply Gives Refuses (λ _. ⊥) answers refusals (λ a b x y. absurd x) not_refused (λ a b x y. y) (λ a b x y. y) v w g h

-- the line of a fault is one where the fault is
pub one_refusal_line : (IsRefused : Fault → Type 0) → ((f g : Fault) → IsRefused f → IsRefused g → f ≡ g) → IsOneLine (TellsFault IsRefused)
one_refusal_line IsRefused one a b g h = g.line_is ∙ (ap refusal (one g.fault h.fault g.refused h.refused) ∙ sym h.line_is)

pub one_unreadable_line : (IsRefused : FileFault → Type 0) → ((f g : FileFault) → IsRefused f → IsRefused g → f ≢ FileFault.Memory → g ≢ FileFault.Memory → f ≡ g)
    → IsOneLine (TellsFileFault IsRefused)
one_unreadable_line IsRefused one a b g h = g.line_is ∙ (ap (unreadable_line 1) (one g.fault h.fault g.refused h.refused g.cause h.cause) ∙ sym h.line_is)

-- where each answer and each refusal is of a first file that says something, and one that says nothing is unreadable
module _ {Said : Type 0} (Says : Said → Type 0) (IsRefused : FileFault → Type 0) (one_fault : (f g : FileFault) → IsRefused f → IsRefused g → f ≢ FileFault.Memory → g ≢ FileFault.Memory → f ≡ g)
    (not_both : (said : Said) (f : FileFault) → Says said → IsRefused f → f ≡ FileFault.Memory) where
  -- each text of the kind is of a file that says something
  abbrev pub OfFile : (List ℕ → Type 0) → Type 0
  OfFile Is = (a : List ℕ) → Is a → (said : Said) × Says said

  of_readable : (Is : List ℕ → Type 0) → OfFile Is → AreApart Is (TellsFileFault IsRefused)
  of_readable Is of a b g h = let says = of a g in h.cause (not_both says.0 h.fault says.1 h.refused)

  pub one_reply_of_file : (Gives Refuses : List ℕ → Type 0) → OfFile Gives → OfFile Refuses → IsOneLine Gives → IsOneLine Refuses → AreApart Gives Refuses
      → (v w : Reply) → Replies Gives Refuses (TellsFileFault IsRefused) v → Replies Gives Refuses (TellsFileFault IsRefused) w → v ≡ w
  one_reply_of_file Gives Refuses gives_of refuses_of answers refusals not_refused =
      one_reply Gives Refuses (TellsFileFault IsRefused) answers refusals (one_unreadable_line IsRefused one_fault) not_refused (of_readable Gives gives_of) (of_readable Refuses refuses_of)
