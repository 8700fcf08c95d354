-- A part of a question: the text at a pointer, and how a part is handed over.
use Rattle.std.proofs.Common.{◌≡◌, ℕ, List, Option, Some, None, Result, Ok, Err, sym, ◌∙◌, subst}
use Rattle.std.specs.Prelude.{IfOk, IfErr}
use Rattle.claim_tree.specs.Path.{pointer_text}
use Rattle.claim_tree.specs.PointerRefusals.{IsNoPointer}
use Rattle.claim_tree.specs.Tree.{Text, Tree}
use Rattle.claim_tree.proofs.PointerRule.{is_no_pointer}
use Rattle.claim_tree.proofs.PointerTexts.{pointer_text-injective}
use Rattle.cli_parts.specs.Stops.{OnUnreadable, NotRefused, NotUnread}
use Rattle.cli_parts.specs.Telling.{TellsFileFault}
use Rattle.cli_parts.specs.declared.stop.Stop.{Stop}
use Rattle.cli_parts.specs.declared.stop.Stop.TheVariants.{Memory, Unread, Unreadable, Refused}
use Rattle.sdjwt_c.specs.QuestionParts.{text_at, IsTextAt, IsNoQuestion, RepliesPart, HandsPartBy, replied, missing}
use Rattle.sdjwt_c.specs.QuestionPartSteps.{IsHandedPart}
use Rattle.sdjwt_c.proofs.Handing.{given, handed_reply}

-- the text at the one path of a pointer is that at the pointer
pub text_of_path : (tree : Tree) (pointer : Text) (path : List Text) (said : Option Text) → pointer ≡ pointer_text path → said ≡ text_at tree path → IsTextAt tree pointer said
text_of_path tree pointer path (Some said) is found = (path, is, sym found)
text_of_path tree pointer path None is found =
    λ other other_is. subst (λ (p : List Text). text_at tree p ≡ None) (pointer_text-injective path other (sym is ∙ other_is)) (sym found)

-- at what is no pointer there is none
pub no_text_of_path : (tree : Tree) (pointer : Text) → IsNoPointer pointer → IsTextAt tree pointer None
no_text_of_path tree pointer broken = λ path is. absurd ((is_no_pointer pointer).0 broken path is)

module _ (Misused : Type 0) (kept : Misused → ⊥) (Is : Option (List ℕ) → Type 0) (question before after : List ℕ) (len number : ℕ) where
  pub handed_part : (part : Result (Option (List ℕ)) Stop) → IfOk part Is → IfErr part (λ stop. OnUnreadable stop (TellsFileFault (IsNoQuestion question))) → IfErr part NotRefused → IfErr part NotUnread
      → IsHandedPart part before after len number → HandsPartBy Misused Is question before after len number
  handed_part (Ok (Some part)) is unfit fit read h = replied (given Misused kept (RepliesPart Is question) before after len number h.0 h.1 part is h.2)
  handed_part (Ok None) is unfit fit read h = missing kept is h.0 h.1
  handed_part (Err (Refused text)) is unfit fit read h = absurd fit
  handed_part (Err (Unreadable text)) is unfit fit read h = replied (handed_reply Misused kept (RepliesPart Is question) before after len number h.0 h.1 (Err (Unreadable text)) unfit tt h.2)
  handed_part (Err (Unread word)) is unfit fit read h = absurd read
  handed_part (Err Memory) is unfit fit read h = replied (handed_reply Misused kept (RepliesPart Is question) before after len number h.0 h.1 (Err Memory) tt tt h.2)
