-- Where nothing fails, all is told, or there is no memory.
use Rattle.std.proofs.Common.{◌≡◌, ◌⊎◌, inl, inr, ℕ, ◌+◌, ◌≤◌, List, Some, IfSome, take, refl, sym, subst, ◌∙◌, arith, decimal}
use Rattle.std.proofs.lemmas.Fmt.{decimal_injective}
use Rattle.sd_outside.specs.Causes.{Rose}
use Rattle.sd_outside.specs.Limits.{file_max}
use Rattle.sd_outside.specs.declared.status.Status.{Status}
use Rattle.sd_outside.specs.declared.status.Status.TheVariants.{Done, Refused, Usage, Unread, Unwritten, Memory, Unreadable}
use Rattle.verifier_core.specs.PolicyFile.{IsPolicyFile}
use Rattle.verifier_core.specs.declared.policy.Policy.{Policy}
use Rattle.verifier_core.proofs.Policies.{not_both}
use Rattle.feed_core.specs.FeedRun.{FeedOutside, IsFeed, FeedRefused, FeedUnread, of_policy, of_source, FeedUnreadable, FeedEnds}

-- the words name one file
one_name : (words : List (List ℕ)) (name other : List ℕ) (most count : ℕ) → IsFeed words name most → IsFeed words other count → other ≡ name
one_name words name other most count one two = let same = sym two.words_are ∙ one.words_are in cc same

one_digits : (words : List (List ℕ)) (name other : List ℕ) (most count : ℕ) → IsFeed words name most → IsFeed words other count → decimal count ≡ decimal most
one_digits words name other most count one two = let same = sym two.words_are ∙ one.words_are in cc same

one_most : (words : List (List ℕ)) (name other : List ℕ) (most count : ℕ) → IsFeed words name most → IsFeed words other count → count ≡ most
one_most words name other most count one two = decimal_injective count most (omega (arith, two.within)) (omega (arith, one.within)) (one_digits words name other most count one two)

told_file : (held : List ℕ) (file : List ℕ) (content : Some held ≡ Some held) → IfSome (Some held) (λ bytes. file ≡ take (file_max + 1) bytes) → file ≡ take (file_max + 1) held
told_file held file content is = is

module _ (words : List (List ℕ)) (before after : FeedOutside) (now : ℕ) (name content : List ℕ) (most : ℕ) (policy : Policy)
    (named : IsFeed words name most) (held : before.files.holds name ≡ Some content) (is_policy : IsPolicyFile (take (file_max + 1) content) policy)
    (kept : Rose before.files.faults after.files.faults → ⊥) (given : Rose before.source.faults after.source.faults → ⊥)
    (written : Rose before.files.out.faults after.files.out.faults → ⊥) (within : after.source.taken ≤ before.source.taken + most) where
  not_refused : FeedRefused words before after now → ⊥
  not_refused ends =
      let same = one_most words name ends.asks.name most ends.asks.most named ends.asks.named in
      omega (arith, within, ends.fed.gave.taken, ends.fed.over, same)

  not_unread : FeedUnread words before after now → ⊥
  not_unread (of_policy ends) = kept ends.rose
  not_unread (of_source ends) = given ends.fed.rose

  not_unreadable : FeedUnreadable words before after → ⊥
  not_unreadable ends =
      let P : List ℕ → Type 0 = λ n. IfSome (before.files.holds n) (λ bytes. ends.file ≡ take (file_max + 1) bytes) in
      let there : IfSome (before.files.holds name) (λ bytes. ends.file ≡ take (file_max + 1) bytes) = subst P (one_name words name ends.no_feed.name most ends.no_feed.most named ends.no_feed.named) ends.fetched in
      let file : ends.file ≡ take (file_max + 1) content = told_file content ends.file refl (rw held at there) in
      let Q : List ℕ → Type 0 = λ bytes. IsPolicyFile bytes policy in
      ends.told.cause (not_both ends.file policy ends.told.fault (subst Q (sym file) is_policy) ends.told.refused)

  pub completes : (status : Status) → FeedEnds words before after now status → (status ≡ Done) ⊎ (status ≡ Memory)
  completes Done ends = inl refl
  completes Refused ends = absurd (not_refused ends)
  completes Usage ends = absurd (ends.none name most named)
  completes Unread ends = absurd (not_unread ends)
  completes Unwritten ends = absurd (written ends.rose)
  completes Memory ends = inr refl
  completes Unreadable ends = absurd (not_unreadable ends)
