use Rattle.std.proofs.Common.{◌∙◌, ap, Some}
use Rattle.ports.specs.Counting.{counting}
use Rattle.ports.specs.declared.memory.CountingClock.{CountingClock}
use Rattle.shop_drain.proofs.opening.Opened.with_own_time.Goals as goal

pub returns-clause-clock : goal.returns-clause-clock
returns-clause-clock g c = λ k. ap (λ (x : CountingClock). Some (counting x.next x.step k)) c.with_clock-store.ensures.clocks.0 ∙
    c.new.ensures k
