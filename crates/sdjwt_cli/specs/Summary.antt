-- The command `gen`: what it prints of the order of a number of members, and
-- when it refuses the order.
use Rattle.std.specs.Prelude.{◌≡◌, ℕ, ◌+◌, List, [], ◌++◌, length, sum_by, codes}
use Rattle.std.specs.Fmt.{decimal}
use Rattle.std.specs.List.{count_by, range_with_len}
use Rattle.std.specs.Set.{distinct_count}
use Rattle.claim_tree.specs.Tree.{Tree}
use Rattle.claim_tree.specs.JsonText.{json_text}
use Rattle.compact_form.specs.declared.parts.Parts.{Parts}
use Rattle.compact_form.specs.Compact.{compact}
use Rattle.digest_sites.specs.Given.{Given}
use Rattle.digest_sites.specs.Sites.{sites}
use Rattle.hmac_sign.specs.Hmac.{IsGood}
use Rattle.marked_tree.specs.Marked.{Marked, strip}
use Rattle.marked_tree.specs.Paths.{same_path, chosen}
use Rattle.verifier_core.specs.Verdict.{HasContent, IsAccepted}
use Rattle.issuer_core.specs.Digests.{marked_claims, hidden_of}
use Rattle.holder_core.specs.Asked.{asked_by}
use Rattle.holder_core.specs.Present.{IsPresented}
use Rattle.sdjwt_cli.specs.Generated.{generated, generated_seed, generated_key, generated_ask, generated_policy}
use Rattle.sdjwt_cli.specs.Issuing.{IsIssuedBy, TellsRefusal}
use Rattle.cli_parts.specs.Lines.{line}
use Rattle.selection_core.specs.Never.{never_rule}
use Rattle.json_form.specs.Alone.{alone}
use Rattle.sdjwt_cli.specs.Suits.{claims_for}

-- ---- what is counted

-- how many different paths the order hides
abbrev pub hidden_paths : ℕ → ℕ
hidden_paths n = distinct_count same_path (generated n).hide

-- how many of the numbers of hidden places are chosen, since they lead to a wanted place
abbrev pub chosen_places : ℕ → ℕ
chosen_places n =
    count_by (chosen (marked_claims (generated n)) (generated_ask n).want)
    (range_with_len 0 (hidden_of (generated n)))

-- how many digests are embedded in a payload and in the values of disclosures
abbrev pub embedded_digests : Tree → List Given → ℕ
embedded_digests payload given = length (sites payload) + sum_by (λ x. length (sites x.value)) given

-- the claims that are shown for what is wanted
abbrev pub shown_claims : ℕ → Tree
shown_claims n = claims_for (generated n) (generated_ask n).want

-- how long they are, as JSON
abbrev pub shown_length : ℕ → ℕ
shown_length n = length (json_text (shown_claims n))

-- ---- the answer

abbrev pub count_line : List ℕ → ℕ → List ℕ
count_line word count = line (word ++ (codes " " ++ decimal count))

abbrev pub summary_lines : ℕ → ℕ → ℕ → ℕ → List ℕ
summary_lines hidden presented digests bytes =
    count_line (codes "hidden") hidden
    ++ (count_line (codes "presented") presented
    ++ (count_line (codes "digests") digests ++ count_line (codes "bytes") bytes))

-- a token is issued for the order, this is presented of it as it is asked, and it is accepted under
-- the policy with the claims that are wanted, all of it at the moment 0
pub record IsShownThrough (n : ℕ) (issued presented : Parts) : Type 0 where
  pub is_issued : IsIssuedBy generated_seed (generated n) generated_key issued
  pub is_presented : IsPresented never_rule [] (compact issued) (asked_by (generated_ask n))
      (codes "HS256") (IsGood generated_key) 0 presented
  pub marked : Marked
  pub is_accepted : IsAccepted (compact presented) generated_policy 0 marked
  pub claims_are : strip marked ≡ shown_claims n

-- and these are the lines of it
pub record Summarizes (n : ℕ) (answer : List ℕ) : Type 0 where
  pub issued : Parts
  pub presented : Parts
  pub shown : IsShownThrough n issued presented
  pub payload : Tree
  pub given : List Given
  pub content : HasContent (alone presented) payload given
  pub lines : answer
      ≡ summary_lines (hidden_paths n) (chosen_places n) (embedded_digests payload given)
      (shown_length n)

-- the order is refused, as `issue` would refuse it
abbrev pub DoesNotSummarize : ℕ → List ℕ → Type 0
DoesNotSummarize n text = TellsRefusal generated_seed (generated n) generated_key text
