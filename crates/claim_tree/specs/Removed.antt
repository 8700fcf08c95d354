-- The members of an object without a name.
use Rattle.std.specs.Prelude.{bytes_eq, if◌then◌else◌}
use Rattle.claim_tree.specs.Tree.{Text, Members, no_members, member}

abbrev pub removed : Members → Text → Members
removed no_members name = no_members
removed (member other t ms) name =
    if bytes_eq other name then removed ms name else member other t (removed ms name)
