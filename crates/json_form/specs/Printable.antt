-- Not needed to believe the program's promises: tokens that can be written.
use Rattle.std.specs.Prelude.{◌≡◌, ◌≤◌, None}
use Rattle.claim_tree.specs.Tree.{members_depth}
use Rattle.compact_form.specs.Compact.{AreWords}
use Rattle.refusals.specs.declared.fault.Part.TheVariants.{Disclosures, KbJwt}
use Rattle.json_form.specs.declared.token.Token.{Token}
use Rattle.json_form.specs.Json.{found_part}

-- what a token must be to be written, which each one is that was read
pub record IsPrintable (token : Token) : Type 0 where
  pub words : AreWords token.parts
  pub no_disclosures : found_part token.outer Disclosures ≡ None
  pub no_binding : found_part token.outer KbJwt ≡ None
  pub shallow : members_depth token.outer ≤ 125
