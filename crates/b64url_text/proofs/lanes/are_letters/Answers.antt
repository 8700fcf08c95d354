use Rattle.b64url_text.proofs.LaneRuns.{first_full, second_full}
use Rattle.b64url_text.proofs.lanes.are_letters.Goals as goal

pub returns-clause-first : goal.returns-clause-first
returns-clause-first c none = first_full c.strays_at.result c.strays_at-2.result 32 _ c.strays_at.ensures none

pub returns-clause-second : goal.returns-clause-second
returns-clause-second c none = second_full c.strays_at.result c.strays_at-2.result 32 _ c.strays_at-2.ensures none
