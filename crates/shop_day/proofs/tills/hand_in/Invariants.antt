use Rattle.std.proofs.Common.{◌≡◌, ◌≤◌, ◌+◌, ◌++◌, map, vec_capacity, All, length, List}
use Rattle.std.specs.Prelude.{reverse, vec_len}
use Rattle.till_calls.specs.Shop.{made_tills, numbers, seat_knows, seat_shop, till_shop, tills_know, tills_shop}
use Rattle.shop_day.specs.TillJobs.{day_of, job_knows}
use Rattle.shop_day.specs.declared.tills.TillJob.{TillJob}
use Rattle.shop_day.proofs.tills.hand_in.Given as goal

abbrev pub invariant-loop-job : goal.invariant-loop-job
invariant-loop-job g l = record {
  shop : tills_shop l.tills ≡ tills_shop l.fn.tills;
  made : made_tills l.tills ≡ made_tills l.fn.tills;
  back : (out : List (TillJob g.row.D.Denot g.row.C.Denot)) × (l.fn.jobs.items ≡ l.jobs.items ++ out) ×
      (l.days.items ≡ reverse (map day_of out)) × (tills_know l.tills ≡ reverse (map job_knows out));
  space : vec_len l.days + vec_len l.jobs ≤ vec_capacity l.days;
  count : length (numbers l.tills) + vec_len l.jobs ≤ made_tills l.tills;
  seat : (seat_shop l.seat ≡ seat_shop l.fn.seat) ×
      (seat_knows l.seat ≡ record (seat_knows l.fn.seat) { least = (seat_knows l.seat).least });
  told : All (λ k. k.least ≤ (seat_knows l.seat).least) (tills_know l.tills);
  own : All (λ j. till_shop j.till ≡ tills_shop l.tills) l.jobs.items;
}

abbrev pub decreases-loop-job : goal.decreases-loop-job
decreases-loop-job g l = goal.left-loop-job g l
