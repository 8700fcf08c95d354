-- For private functions: sorted paths that come to one place.
use Rattle.std.specs.Prelude.{List}
use Rattle.marked_tree.specs.Paths.{Path}
use Rattle.marked_tree.specs.Rests.{rests}
use Rattle.marked_tree.specs.declared.marking.PathsBelow.{PathsBelow}

-- what is left of each path behind the place
abbrev pub rests_of : PathsBelow → List Path
rests_of paths = rests paths.depth paths.sorted.now
