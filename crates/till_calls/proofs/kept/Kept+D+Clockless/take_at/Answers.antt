use Rattle.std.proofs.Common.{ap, subst, refl, Option, Some, None, ℕ}
use Rattle.journal.specs.Journal.{disk_of, stopped_of}
use Rattle.shop_core.specs.History.{History}
use Rattle.shop_core.specs.Legal.{Legal}
use Rattle.till_calls.specs.Root.{parts_of, root_of}
use Rattle.till_calls.proofs.Asking.{Took, took_at}
use Rattle.till_calls.proofs.kept.Kept+D+Clockless.take_at.Goals as goal
use Rattle.till_calls.proofs.kept.Kept+D+Clockless.take_at.Given.{Over}

facts : (g : Over) (c : goal.After-is_legal g) → Took g.D.Disk.tells g.D.Disk.on_disk g.D.Disk.faults (λ (k : _) (n : ℕ). Some c.args.seconds)
    (root_of g.D.Disk.on_disk g.D.Disk.faults (parts_of c.self.inside.start.value))
    (parts_of c.self.inside.store) (parts_of c.take_at-reply.new.self) c.args.ask.now c.take_at-reply.result
facts g c =
    let e = c.take_at-reply.ensures.taken in
    record {
      ready = e.ready;
      legal = subst (λ (h : History). Legal h.version h.issuer h.entries) c.state.ensures c.is_legal.ensures;
      takes = e.takes;
      torn = e.torn;
      never_loses = e.never_loses;
      acknowledged = e.acknowledged;
      going_on = e.going_on;
      no_memory = λ none. (ap (λ j. disk_of j) (e.no_memory none), ap (λ j. stopped_of j) (e.no_memory none));
      fault = e.fault;
      stopped = e.stopped;
      untouched = λ was. ap (λ s. parts_of s) (e.untouched was);
      later = e.later;
    }

pub invariant_of-self : goal.invariant_of-self
invariant_of-self g c =
    (took_at g.D.Disk.tells g.D.Disk.on_disk g.D.Disk.faults (λ (k : _) (n : ℕ). None) (root_of g.D.Disk.on_disk g.D.Disk.faults
    (parts_of c.self.inside.start.value)) c.args.seconds
    (parts_of c.self.inside.store) (parts_of c.take_at-reply.new.self) c.args.ask.now c.take_at-reply.result (λ k n. refl) c.self.invariant
    (facts g c)).0

pub returns-clause-turn : goal.returns-clause-turn
returns-clause-turn g c =
    let turn = (took_at g.D.Disk.tells g.D.Disk.on_disk g.D.Disk.faults (λ (k : _) (n : ℕ). None) (root_of g.D.Disk.on_disk g.D.Disk.faults
    (parts_of c.self.inside.start.value)) c.args.seconds
    (parts_of c.self.inside.store) (parts_of c.take_at-reply.new.self) c.args.ask.now c.take_at-reply.result (λ k n. refl) c.self.invariant
    (facts g c)).1 in
    rw (← c.self.view_is) turn
