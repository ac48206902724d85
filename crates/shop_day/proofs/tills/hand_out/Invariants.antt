use Rattle.std.proofs.Common.{◌≡◌, ◌≤◌, ◌+◌, ◌++◌, map, vec_capacity, All}
use Rattle.std.specs.Prelude.{reverse, vec_len}
use Rattle.till_calls.specs.Shop.{made_tills, numbers, till_shop, tills_know, tills_shop}
use Rattle.shop_day.specs.TillJobs.{day_of, job_knows}
use Rattle.shop_day.proofs.tills.hand_out.Given as goal

abbrev pub invariant-loop-day : goal.invariant-loop-day
invariant-loop-day g l = record {
  shop : tills_shop l.tills ≡ tills_shop l.fn.tills;
  made : made_tills l.tills ≡ made_tills l.fn.tills;
  numbers : numbers l.tills ≡ map (λ d. d.till) l.days.items;
  days : l.days.items ++ reverse (map day_of l.jobs.items) ≡ l.fn.days.items;
  knows : tills_know l.tills ++ reverse (map job_knows l.jobs.items) ≡ tills_know l.fn.tills;
  room : vec_capacity l.days ≡ vec_capacity l.fn.days;
  space : vec_len l.days + vec_len l.jobs ≤ vec_capacity l.jobs;
  own : All (λ j. till_shop j.till ≡ tills_shop l.fn.tills) l.jobs.items;
}

abbrev pub decreases-loop-day : goal.decreases-loop-day
decreases-loop-day g l = goal.left-loop-day g l
