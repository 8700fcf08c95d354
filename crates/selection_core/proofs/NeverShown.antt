-- The rule of consent by the places that are never shown.
use Rattle.std.proofs.Common.{◌≡◌, ◌↔◌, List, Bool, true, false, not, refl, sym, subst, ◌∙◌}
use Rattle.std.specs.List.{list_any}
use Rattle.sd_outside.proofs.Lists.{list_any-from, list_any-In}
use Rattle.marked_tree.specs.Paths.{Path}
use Rattle.selection_core.specs.Consent.{Allows}
use Rattle.selection_core.specs.AllowCalls.{IsDecided}
use Rattle.selection_core.specs.Never.{MayBeShown, Judges, never_rule}
use Rattle.selection_core.proofs.OutermostPaths.{leads_to}

-- whether a path of the list leads to the place
pub judged : (never : List Path) (at : Path) (leads : Bool) → list_any (leads_to at) never ≡ leads → Judges never at (not leads)
judged never at true some =
    let hit = list_any-In (leads_to at) never some in
    (λ is. let no = is in cc no, λ free. absurd (free hit.0 hit.1 hit.2))
judged never at false none = (λ _ front there leads. let clash = sym none ∙ list_any-from (leads_to at) never front there leads in cc clash, λ _. refl)

-- lists of which the one leads to the place where the other does
pub shown_too : (never other : List Path) (at : Path) → list_any (leads_to at) never ≡ list_any (leads_to at) other → MayBeShown never at ↔ MayBeShown other at
shown_too never other at same = (carried never other same, carried other never (sym same))
  where
    carried : (never other : List Path) → list_any (leads_to at) never ≡ list_any (leads_to at) other → MayBeShown never at → MayBeShown other at
    carried never other same free front there leads =
        let hit = list_any-In (leads_to at) never (same ∙ list_any-from (leads_to at) other front there leads) in
        free hit.0 hit.1 hit.2

pub judges_too : (never other : List Path) (at : Path) (answer : Bool) → MayBeShown never at ↔ MayBeShown other at → Judges never at answer → Judges other at answer
judges_too never other at answer same judges = (λ is. same.0 (judges.0 is), λ free. judges.1 (same.1 free))

-- the rule does not refuse what may be shown
pub unrefused : (never : List Path) (at : Path) → MayBeShown never at → Allows never_rule never at false → ⊥
unrefused never at may refuses =
    let also : MayBeShown never refuses.shown.now = subst (MayBeShown never) (sym refuses.shows) may in
    let wrong : false ≡ true = refuses.says.met.1 also in
    cc wrong

-- it has one answer for each place
pub never_decided : (never : List Path) → IsDecided never_rule never
never_decided never at allows refuses = unrefused never at (subst (MayBeShown never) allows.shows (allows.says.met.0 refl)) refuses
