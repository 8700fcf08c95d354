-- The line that tells of a refusal of an order.
use Rattle.std.specs.Prelude.{◌++◌, Option, None, Some, codes}
use Rattle.std.specs.Fmt.{decimal}
use Rattle.claim_tree.specs.Tree.{Text, leaf, text}
use Rattle.claim_tree.specs.JsonText.{json_text}
use Rattle.claim_tree.specs.Path.{pointer_text}
use Rattle.refusals.specs.RefusedText.{told_text}
use Rattle.issuer_core.specs.declared.errors.IssueError.{IssueError}
use Rattle.issuer_core.specs.declared.errors.IssueError.TheVariants.{ReservedName, RootMarked, NoSuchPlace, ProtectedClaim, DecoyPlace, DigestClash}
use Rattle.issuer_core.specs.OrderRefusals.{refusal_of}

-- the words of its place, where there is one: a pointer is a JSON text
abbrev pub refusal_place_text : IssueError → Option Text
refusal_place_text (ReservedName path) = Some (json_text (leaf (text (pointer_text path))))
refusal_place_text (RootMarked k) = Some (decimal k)
refusal_place_text (NoSuchPlace k) = Some (decimal k)
refusal_place_text (ProtectedClaim k) = Some (decimal k)
refusal_place_text (DecoyPlace k) = Some (decimal k)
refusal_place_text (DigestClash i j) = Some (decimal i ++ (codes " " ++ decimal j))
refusal_place_text _ = None

-- the line of a refusal, without its line end; what is no refusal has none
abbrev pub issue_refusal_text : IssueError → Text
issue_refusal_text error = told_text (refusal_of error) (refusal_place_text error)
