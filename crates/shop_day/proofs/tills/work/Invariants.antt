use Rattle.std.proofs.Common.{◌≡◌, ◌≤◌, length, take, vec_capacity}
use Rattle.till_calls.specs.Client.{TillRun}
use Rattle.till_calls.specs.Shop.{till_knows, till_number, till_shop}
use Rattle.sender_beside.specs.Tills.{asks_of}
use Rattle.shop_day.proofs.tills.work.Given as goal

abbrev pub invariant-loop-ask : goal.invariant-loop-ask
invariant-loop-ask g l = record {
  shop : till_shop l.job.till ≡ till_shop l.initial.job.till;
  number : till_number l.job.till ≡ till_number l.initial.job.till;
  run : TillRun g.C.Clock.coming (till_knows l.initial.job.till) (asks_of (till_number l.initial.job.till) (take l.ask-index l.asks))
      l.job.answers.items (till_knows l.job.till);
  room : length (asks_of (till_number l.initial.job.till) l.asks) ≤ vec_capacity l.job.answers;
  count : length l.job.answers.items ≡ length (asks_of (till_number l.initial.job.till) (take l.ask-index l.asks));
}
