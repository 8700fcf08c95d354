-- What the version of a policy file decides: version 1 names one issuer and one
-- audience, version 2 lists them.
use Rattle.std.specs.Prelude.{◌≡◌, ◌≤◌, pos, List, [], ◌∷◌, length}
use Rattle.sd_outside.specs.Limits.{audiences_max, binding_text_max}
use Rattle.claim_tree.specs.Tree.{Text, whole, leaf, Tree}
use Rattle.sd_outside.specs.Lists.{In}
use Rattle.claim_tree.specs.TreeValues.{IsText, IsTexts}
use Rattle.key_binding.specs.ShortText.{IsShortText}
use Rattle.verifier_core.specs.declared.policy_version.PolicyVersion.{PolicyVersion}

-- the number of the version
abbrev pub IsVersion : Tree → PolicyVersion → Type 0
IsVersion t PolicyVersion.One = t ≡ leaf (whole (pos 1))
IsVersion t PolicyVersion.Two = t ≡ leaf (whole (pos 2))

-- the tree says one value, and the list has it alone
abbrev pub IsAlone : (Tree → Text → Type 0) → Tree → List Text → Type 0
IsAlone Is t texts = (s : Text) × Is t s × (texts ≡ s ∷ [])

-- the issuers of which a token is to name one
abbrev pub IsIssuers : PolicyVersion → Tree → List Text → Type 0
IsIssuers PolicyVersion.One t issuers = IsAlone IsText t issuers
IsIssuers PolicyVersion.Two t issuers = IsTexts t issuers × (1 ≤ length issuers)

abbrev pub AreShortTexts : List Text → Type 0
AreShortTexts texts = (s : Text) → In s texts → length s ≤ binding_text_max

-- at least one, no more than there may be, and each short
pub record AreAudiences (audiences : List Text) : Type 0 where
  pub some : 1 ≤ length audiences
  pub few : length audiences ≤ audiences_max
  pub short : AreShortTexts audiences

-- the audiences of which a key binding token is to name one
abbrev pub IsAudiences : PolicyVersion → Tree → List Text → Type 0
IsAudiences PolicyVersion.One t audiences = IsAlone IsShortText t audiences
IsAudiences PolicyVersion.Two t audiences = IsTexts t audiences × AreAudiences audiences
