use Rattle.std.proofs.Common.{◌≡◌, take}
use Rattle.shop_core.specs.History.{recs, noted}
use Rattle.std.specs.Prelude.{zip}
use Rattle.shop_drain.proofs.opening.noted_pairs.Given as goal

abbrev pub invariant-loop-n : goal.invariant-loop-n
invariant-loop-n l = l.pairs.items ≡ take l.n (zip (recs l.state.entries) (noted l.state.entries))
