use Rattle.std.proofs.Common.{rules}
use Rattle.std.proofs.lemmas.List.Sorted.{ranks_by, answers_always}
use Rattle.marked_tree.proofs.MarkedViews.{Entry}
use Rattle.claim_tree.proofs.MapPlaces.{order}
use Rattle.marked_tree.proofs.Lookups.{lower, sorted_puts}
use Rattle.marked_tree.proofs.marked.sort_by_name.Goals as goal

pub returns : goal.returns
returns c = sorted_puts c.args.members.now.items c.sort_by.new.self.items (c.sort_by.ensures.stable lower (ranks_by order (λ (m : Entry). m.0)) (answers_always _ _ _ (λ f a r g h. search rules)))
