use Rattle.std.proofs.Common.{◌≡◌, ℕ, List, codes, inl, refl, subst}
use Rattle.std.specs.Fmt.{digits}
use Rattle.sd_outside.specs.declared.status.Status.{Status}
use Rattle.sd_outside.specs.declared.status.Status.TheVariants as status
use Rattle.cli_parts.specs.Finishing.{TellsStop}
use Rattle.cli_parts.specs.Lines.{unread_text}
use Rattle.cli_parts.specs.Outside.{Stream, Tells}
use Rattle.cli_parts.specs.declared.stop.Stop.TheVariants.{Unread}
use Rattle.cli_parts.proofs.telling.tell_unread.Goals as goal

first_word : codes "unread 1\n" ≡ unread_text 0
unfolding digits
first_word = refl

second_word : codes "unread 2\n" ≡ unread_text 1
unfolding digits
second_word = refl

tells_unread : (word : ℕ) (text : List ℕ) (before after : Stream) (told : Status) → text ≡ unread_text word → told ≡ status.Unread → Tells before after text → TellsStop (Unread word) before after told
tells_unread word text before after told same is tells = inl (is, subst (Tells before after) same tells)

pub returns-in-0-clause-told : goal.returns-in-0-clause-told
returns-in-0-clause-told g c = tells_unread c.args.word (codes "unread 1\n") _ _ c.tell.result (rw c.in-0.is first_word) c.tell.ensures.status c.tell.ensures.told

pub returns-in-1-clause-told : goal.returns-in-1-clause-told
returns-in-1-clause-told g c = tells_unread c.args.word (codes "unread 2\n") _ _ c.tell-in-1.result (rw c.in-1.is second_word) c.tell-in-1.ensures.status c.tell-in-1.ensures.told
