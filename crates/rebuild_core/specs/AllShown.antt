-- Not needed to believe the program's promises: the converse of `OneNode`: where each disclosure is
-- shown and each digest stands once, the conditions hold.
use Rattle.std.specs.Prelude.{◌≡◌, ◌<◌, ◌≤◌, ℕ, List, length, true, is_some, bytes_eq}
use Rattle.sd_outside.specs.Limits.{depth_max}
use Rattle.claim_tree.specs.Tree.{Text, Tree, depth}
use Rattle.claim_tree.specs.Everywhere.{EachMember}
use Rattle.sd_outside.specs.Lists.{In, Repeats, AtNone}
use Rattle.digest_sites.specs.Reserved.{sd_name, text_list}
use Rattle.digest_sites.specs.Given.{Given}
use Rattle.marked_tree.specs.Marked.{strip}
use Rattle.marked_tree.specs.Ways.{ways}
use Rattle.rebuild_core.specs.Reached.{all_digests}
use Rattle.rebuild_core.specs.Opening.{processed}
use Rattle.rebuild_core.specs.Conditions.{RepeatedDisclosure}
use Rattle.rebuild_core.specs.Soundness.{IsSound}
use Rattle.rebuild_core.specs.Free.{HasNoReserved}
use Rattle.rebuild_core.specs.Readable.{IsReadable}

-- each member `_sd` is a list of texts
abbrev pub IsTextList : Text → Tree → Type 0
IsTextList name value = bytes_eq name sd_name ≡ true → is_some (text_list value) ≡ true

abbrev pub HasTextLists : Tree → Type 0
HasTextLists t = EachMember IsTextList t

-- the number is the mark of a node
abbrev pub IsMarkOf : ℕ → Tree → List Given → Type 0
IsMarkOf i p given = (way : ℕ × List ℕ) × In way (ways (processed p given)) × (way.0 ≡ i)

-- each disclosure is shown, each digest stands once, and nothing that is shown has a reserved name
pub record AreAllShown (p : Tree) (given : List Given) : Type 0 where
  pub no_repeated_disclosure : AtNone (RepeatedDisclosure given)
  pub no_repeated_digest : AtNone (Repeats (all_digests p given))
  pub each_shown : (i : ℕ) → i < length given → IsMarkOf i p given
  pub free : HasNoReserved (strip (processed p given))
  pub shallow : depth (strip (processed p given)) ≤ depth_max
  pub payload_lists : HasTextLists p
  pub value_lists : (x : Given) → In x given → HasTextLists x.value

abbrev pub ShownIsSound : Type 0
ShownIsSound =
    (p : Tree) (given : List Given) → IsReadable p given → AreAllShown p given → IsSound p given
