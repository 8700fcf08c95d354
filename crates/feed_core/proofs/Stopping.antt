-- How a run of the feed ends, by why it ends.
use Rattle.std.proofs.Common.{◌≡◌, inl, inr, ℕ, List, None, Some, codes, string_bytes, sym, subst}
use Rattle.std.specs.Fmt.{digits}
use Rattle.sd_outside.specs.Causes.{Rose}
use Rattle.sd_outside.specs.declared.status.Status.{Status}
use Rattle.sd_outside.specs.declared.status.Status.TheVariants as status
use Rattle.refusals.specs.declared.refusal.Refusal.{Refusal}
use Rattle.refusals.specs.RefusedText.{refused_text}
use Rattle.cli_parts.specs.Finishing.{TellsMemory, TellsStop}
use Rattle.cli_parts.specs.Lines.{line, unread_text}
use Rattle.cli_parts.specs.Outside.{Stream, Tells}
use Rattle.cli_parts.specs.Runs.{IsFetched}
use Rattle.cli_parts.specs.Stops.{OnRefused, OnUnread, OnUnreadable}
use Rattle.cli_parts.specs.Telling.{TellsFileFault}
use Rattle.cli_parts.specs.declared.stop.Stop.{Stop}
use Rattle.cli_parts.specs.declared.stop.Stop.TheVariants.{Memory, Unread, Unreadable, Refused}
use Rattle.verifier_core.specs.declared.policy.Policy.{Policy}
use Rattle.verifier_core.specs.PolicyFile.{IsPolicyFile, IsPolicyFileRefused}
use Rattle.feed_core.specs.FeedRun.{FeedOutside, IsFeed, Asks, Untouched, Fed, FeedTells, NoFeed, FeedDone, FeedEnds, of_policy, of_source, at_first, later_on}
use Rattle.feed_core.specs.Feed.{FeedState}
use Rattle.feed_core.specs.FeedCalls.{new_feed}
use Rattle.feed_core.specs.FeedSource.{FedAll, FedLong, FedPart, FedFront}

-- the line of 87, as it is printed
told_long : (before after : Stream) → Tells before after (codes "refused 87 feedTooLong\n") → Tells before after (line (refused_text Refusal.FeedTooLong None))
unfolding digits
told_long before after tells = tells

-- the words ask for a feed, which was new
module _ (words : List (List ℕ)) (before after : FeedOutside) (now : ℕ) (told : Status) (name : List ℕ) (most : ℕ) (policy : Policy) (feed : FeedState) (named : IsFeed words name most)
    (said : (file : List ℕ) × IsFetched before.files.holds name file × IsPolicyFile file policy) (fresh : feed ≡ new_feed policy now) where
  abbrev asks : Asks words before
  asks = record { name = name; most = most; named = named; file = said.0; fetched = said.1; policy = policy; is_policy = said.2 }

  ends_so : (s : Status) → told ≡ s → FeedEnds words before after now s → FeedEnds words before after now told
  ends_so s same ends = subst (FeedEnds words before after now) (sym same) ends

  -- what is so of the feed is so under the policy
  so_fed : (IsFed : Fed) → IsFed feed.policy feed.now most before.source after.source before.files.out.written after.files.out.written → IsFed policy now most before.source after.source before.files.out.written after.files.out.written
  so_fed IsFed fed = subst (λ (f : FeedState). IsFed f.policy f.now most before.source after.source before.files.out.written after.files.out.written) fresh fed

  feed_tells : (IsFed : Fed) (text : List ℕ) → IsFed feed.policy feed.now most before.source after.source before.files.out.written after.files.out.written
      → Tells before.files.err after.files.err (line text) → FeedTells IsFed text words before after now
  feed_tells IsFed text fed tells = record { asks = asks; fed = so_fed IsFed fed; err = tells }

  pub all_judged : FedAll feed.policy feed.now most before.source after.source before.files.out.written after.files.out.written → after.files.err.written ≡ before.files.err.written → FeedDone words before after now
  all_judged fed err = record { asks = asks; fed = so_fed FedAll fed; err = err }

  pub too_long : FedLong feed.policy feed.now most before.source after.source before.files.out.written after.files.out.written
      → told ≡ status.Refused → Tells before.files.err after.files.err (codes "refused 87 feedTooLong\n") → FeedEnds words before after now told
  too_long fed same tells = ends_so status.Refused same (feed_tells FedLong _ fed (told_long before.files.err after.files.err tells))

  pub source_failed : FedPart feed.policy feed.now most before.source after.source before.files.out.written after.files.out.written
      → told ≡ status.Unread → Tells before.files.err after.files.err (codes "unread source\n") → FeedEnds words before after now told
  source_failed fed same tells = ends_so status.Unread same (of_source (feed_tells FedPart _ fed tells))

  pub out_failed : FedFront feed.policy feed.now most before.source after.source before.files.out.written after.files.out.written → Rose before.files.out.faults after.files.out.faults
      → told ≡ status.Unwritten → Tells before.files.err after.files.err (codes "unwritten\n") → FeedEnds words before after now told
  out_failed fed rose same tells = ends_so status.Unwritten same (record { told = feed_tells FedFront _ fed tells; rose = rose })

  pub memory_failed : FedFront feed.policy feed.now most before.source after.source before.files.out.written after.files.out.written
      → told ≡ status.Memory → Tells before.files.err after.files.err (codes "memory\n") → FeedEnds words before after now told
  memory_failed fed same tells = ends_so status.Memory same (later_on (feed_tells FedFront _ fed tells))

-- it ended before a feed began
module _ (words : List (List ℕ)) (before after : FeedOutside) (now : ℕ) (told : Status) (name : List ℕ) (most : ℕ) (named : IsFeed words name most) (untouched : Untouched before after) where
  by_status : (s : Status) → told ≡ s → FeedEnds words before after now s → FeedEnds words before after now told
  by_status s same ends = subst (FeedEnds words before after now) (sym same) ends

  abbrev no_feed : (text : List ℕ) → Tells before.files.err after.files.err text → NoFeed text words before after
  no_feed text tells = record { name = name; most = most; named = named; untouched = untouched; err = tells }

  memory : TellsMemory before.files.err after.files.err told → FeedEnds words before after now told
  memory told_it = by_status status.Memory told_it.0 (at_first (no_feed _ told_it.1))

  pub stopped : (stop : Stop) → OnRefused stop (λ _. ⊥) → OnUnread stop (λ word. word ≡ 0) → OnUnread stop (λ _. after.files.missed ≡ Some name) → OnUnread stop (λ _. Rose before.files.faults after.files.faults)
      → OnUnreadable stop (λ text. (file : List ℕ) × IsFetched before.files.holds name file × TellsFileFault (IsPolicyFileRefused file) text)
      → TellsStop stop before.files.err after.files.err told → FeedEnds words before after now told
  stopped Memory fit first missed rose unfit is = memory is
  stopped (Unread word) fit first missed rose unfit (inl is) =
      by_status status.Unread is.0 (of_policy (record { no_feed = no_feed _ (subst (λ (n : ℕ). Tells before.files.err after.files.err (unread_text n)) first is.1); missed = missed; rose = rose }))
  stopped (Unread word) fit first missed rose unfit (inr is) = memory is
  stopped (Unreadable text) fit first missed rose unfit is =
      by_status status.Unreadable is.0 (record { text = string_bytes text; no_feed = no_feed (string_bytes text) is.1; file = unfit.0; fetched = unfit.1; told = unfit.2 })
  stopped (Refused text) fit first missed rose unfit is = absurd fit
