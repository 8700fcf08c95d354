-- For private functions: what one reading of a text sees of it.
use Rattle.std.specs.Prelude.{◌≡◌, Bool, true, false, ◌&&◌, if◌then◌else◌, bytes_eq, Option, Some, None, option_map}
use Rattle.std.specs.List.{list_any}
use Rattle.serde_json.specs.Data.{Data, null, boolean, number, string, array, object, Items, no_items, item, Members, no_members, member}
use Rattle.serde_json.specs.Find.{is_float}
use Rattle.serde_json.specs.Written.{has_float}
use Rattle.serde_json.specs.Read.{read as value_of_text}
use Rattle.claim_tree.specs.Tree.{Text, Tree}
use Rattle.claim_tree.specs.JsonText.{data_of}
use Rattle.claim_tree.specs.declared.pass.Wanted.{Wanted}
use Rattle.claim_tree.specs.declared.pass.Pass.{Pass}
use Rattle.claim_tree.specs.declared.pass.Pass.TheVariants.{First, Again, Named}

abbrev pub is_wanted : Wanted → Text → Bool
is_wanted wanted name = list_any (λ other. bytes_eq other.now name) wanted.names.now

-- how the member of a name is read, or None where it is passed over
abbrev pub member_pass : Pass → Text → Option Pass
member_pass First name = Some First
member_pass Again name = Some Again
member_pass (Named wanted) name =
    if is_wanted wanted name
    then Some (if bytes_eq wanted.whole.now name then Again else Named wanted) else None

-- the text was judged before
abbrev pub is_later : Pass → Bool
is_later First = false
is_later _ = true

-- a member in front of others, where it is seen
abbrev pub with_seen : Text → Option Data → Members → Members
with_seen name None ms = ms
with_seen name (Some d) ms = member name d ms

-- with null in place of numbers that are not whole, where the text was judged
-- before, and without what is passed over
abbrev mutual
  pub seen : Pass → Data → Data
  seen pass null = null
  seen pass (boolean b) = boolean b
  seen pass (number n) = if is_later pass && is_float n then null else number n
  seen pass (string s) = string s
  seen pass (array ds) = array (seen_items pass ds)
  seen pass (object ms) = object (seen_members pass ms)

  pub seen_items : Pass → Items → Items
  seen_items pass no_items = no_items
  seen_items pass (item d ds) = item (seen pass d) (seen_items pass ds)

  pub seen_members : Pass → Members → Members
  seen_members pass no_members = no_members
  seen_members pass (member name d ms) =
      with_seen name (option_map (λ inner. seen inner d) (member_pass pass name))
      (seen_members pass ms)

-- the text reads to a value without a number that is not whole, of which the pass sees this tree
pub record ReadsBy (pass : Pass) (bytes : Text) (t : Tree) : Type 0 where
  pub all : Data
  pub value : value_of_text bytes ≡ Some all
  pub whole : has_float all ≡ false
  pub is : seen pass all ≡ data_of t
