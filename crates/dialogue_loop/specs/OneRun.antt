-- The asks of a dialogue, in the order of its lines, as one run.
use Rattle.std.specs.Prelude.{◌≡◌, ◌≤◌, ℕ, ◌+◌, Bool, true, false, List, [], ◌++◌, count_by, drop, length, slice_get, take}
use Rattle.std.specs.Prelude.{Option, Some, Result, Ok, Err}
use Rattle.std.specs.List.{AllByRecursion}
use Rattle.chain_lock.specs.Lists.{StartsWith}
use Rattle.chain_store.specs.Readings.{IsComing}
use Rattle.chain_store.specs.Replies.{Replies}
use Rattle.dialogue.specs.Protocol.{Look}
use Rattle.journal.specs.declared.faults.StoreFault.{StoreFault}
use Rattle.record_codec.specs.declared.entry.Entry.{Entry}
use Rattle.record_fields.specs.declared.versions.Version.{Version}
use Rattle.shop_core.specs.Answer.Plans.{answer}
use Rattle.shop_core.specs.Answer.Replies.{Tells}
use Rattle.shop_core.specs.Answer.Requests.{Asked}
use Rattle.shop_core.specs.History.{recs}
use Rattle.shop_core.specs.declared.answer.Reply.{Reply}
use Rattle.shop_core.specs.declared.answer.Reply.TheVariants.{Taken, Again, Refused}

-- the reply is the receipt of a new record
abbrev pub is_taken : Result Reply StoreFault → Bool
is_taken (Ok (Taken receipt)) = true
is_taken (Ok (Again receipt)) = false
is_taken (Ok (Refused why)) = false
is_taken (Err fault) = false

-- how many records these replies told as taken: a fault of the store is no such reply
abbrev pub taken_in : Replies → ℕ
taken_in replies = count_by is_taken replies

-- A history at which something was answered after these replies: it begins with the one at the start, is a front of the one at the
-- end, and its records are those at the start and one for each of these replies that told of one as taken, whatever notes stand
-- among them.
pub record IsAfter (start end : List Entry) (before : Replies) (history : List Entry) : Type 0 where
  pub starts : StartsWith history start
  pub ends : StartsWith end history
  pub records : recs history ≡ take (length (recs start) + taken_in before) (recs end)

-- The reply is the answer at such a history and at the clock's next reading after those for the replies before it, and a record that
-- was taken is the next entry there.
pub record AnswersAfter (version : Version) (issuer : List ℕ) (coming : ℕ → Option ℕ) (start end : List Entry) (before : Replies)
    (ask : Asked) (reply : Reply) : Type 0 where
  pub history : List Entry
  pub after : IsAfter start end before history
  pub gained : List Entry
  pub next : StartsWith end (history ++ gained)
  pub seconds : ℕ
  --= Each command of `serve` is answered at the clock's coming answer of its number, as each command of a script is.
  pub reading : IsComing coming before seconds
  pub tells : Tells history (answer version issuer history ask seconds) reply gained

-- The asks are one run: each reply that is no fault of the store is the answer after the replies before it, each question was
-- answered at a history after the replies before it, and the records at the end are those at the start and those that were taken.
pub record IsOneRun (version : Version) (issuer : List ℕ) (coming : ℕ → Option ℕ) (start end : List Entry) (asks : List Asked)
    (replies : Replies) (looks : List Look) : Type 0 where
  pub all : length (recs end) ≡ length (recs start) + taken_in replies
  pub each : (n : ℕ) (ask : Asked) (reply : Reply) → slice_get asks n ≡ Some ask → slice_get replies n ≡ Some (Ok reply) →
      AnswersAfter version issuer coming start end (take n replies) ask reply
  pub looked : AllByRecursion (λ (look : Look). IsAfter start end (take look.after replies) look.history) looks

-- As much of it as is known while others may add records too, of which none stand behind this many: at a history there are no fewer
-- records than were taken before, and behind it and what it gained no fewer than were taken since.
pub record StandsAmong (start end : List Entry) (before since : Replies) (top : ℕ) (history gained : List Entry) : Type 0 where
  pub starts : StartsWith history start
  pub ends : StartsWith end (history ++ gained)
  pub no_fewer : length (recs start) + taken_in before ≤ length (recs history)
  pub no_more : length (recs (history ++ gained)) + taken_in since ≤ top

-- a reply at such a history
pub record AnswersAmong (version : Version) (issuer : List ℕ) (coming : ℕ → Option ℕ) (start end : List Entry) (before since : Replies)
    (top : ℕ) (ask : Asked) (reply : Reply) : Type 0 where
  pub history : List Entry
  pub gained : List Entry
  pub stands : StandsAmong start end before since top history gained
  pub seconds : ℕ
  pub reading : IsComing coming before seconds
  pub tells : Tells history (answer version issuer history ask seconds) reply gained

-- a look at such a history
pub record LooksAmong (start end : List Entry) (replies : Replies) (top : ℕ) (look : Look) : Type 0 where
  pub before : look.after ≤ length replies
  pub stands : StandsAmong start end (take look.after replies) (drop look.after replies) top look.history []

pub record RunsAmong (version : Version) (issuer : List ℕ) (coming : ℕ → Option ℕ) (start end : List Entry) (asks : List Asked)
    (replies : Replies) (looks : List Look) (top : ℕ) : Type 0 where
  pub all : length (recs start) + taken_in replies ≤ top
  pub each : (n : ℕ) (ask : Asked) (reply : Reply) → slice_get asks n ≡ Some ask → slice_get replies n ≡ Some (Ok reply) →
      AnswersAmong version issuer coming start end (take n replies) (drop (n + 1) replies) top ask reply
  pub looked : AllByRecursion (LooksAmong start end replies top) looks
