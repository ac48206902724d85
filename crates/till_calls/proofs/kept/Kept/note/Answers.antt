use Rattle.std.proofs.Common.{sym, ap, subst}
use Rattle.journal.specs.Journal.{disk_of, stopped_of}
use Rattle.shop_core.specs.History.{History}
use Rattle.shop_core.specs.Legal.{Legal}
use Rattle.till_calls.specs.Root.{parts_of, root_of}
use Rattle.till_calls.proofs.Noting.{Noted, notes, nothing, stopped_already}
use Rattle.till_calls.proofs.kept.Kept.note.Goals as goal
use Rattle.till_calls.proofs.kept.Kept.note.Given.{Over}

facts : (g : Over) (c : goal.After-is_legal g) → Noted g.D.Disk.tells g.D.Disk.on_disk g.D.Disk.faults g.C.Clock.coming
    (root_of g.D.Disk.on_disk g.D.Disk.faults (parts_of c.self.inside.start.value))
    (parts_of c.self.inside.store) (parts_of c.note-told.new.self) c.args.lines.now c.note-told.result
facts g c =
    let e = c.note-told.ensures in
    record {
      ready = e.ready;
      legal = subst (λ (h : History). Legal h.version h.issuer h.entries) c.state-3.ensures c.is_legal.ensures;
      issuer = e.issuer;
      version = e.version;
      added = e.noted;
      same = e.same;
      clock = e.clock;
      any_moment = e.any_moment (sym c.in_default.ensures);
      never_loses = e.never_loses;
      acknowledged = e.acknowledged;
      going_on = e.going_on;
      no_memory = λ none. (ap (λ j. disk_of j) (e.no_memory none), ap (λ j. stopped_of j) (e.no_memory none));
      fault = e.fault;
      torn = e.torn;
      stopped = e.stopped;
      later = e.later;
    }

pub invariant_of-self : goal.invariant_of-self
invariant_of-self g c =
    (notes g.D.Disk.tells g.D.Disk.on_disk g.D.Disk.faults g.C.Clock.coming (root_of g.D.Disk.on_disk g.D.Disk.faults
    (parts_of c.self.inside.start.value))
    (parts_of c.self.inside.store) (parts_of c.note-told.new.self) c.args.lines.now c.note-told.result c.self.invariant
    (sym c.in_default.ensures) (facts g c)).0

pub returns-clause-turn : goal.returns-clause-turn
returns-clause-turn g c =
    let turn = (notes g.D.Disk.tells g.D.Disk.on_disk g.D.Disk.faults g.C.Clock.coming (root_of g.D.Disk.on_disk g.D.Disk.faults
    (parts_of c.self.inside.start.value))
    (parts_of c.self.inside.store) (parts_of c.note-told.new.self) c.args.lines.now c.note-told.result c.self.invariant
    (sym c.in_default.ensures) (facts g c)).1 in
    rw (← c.self.view_is) turn

pub returns-in-Some-clause-turn : goal.returns-in-Some-clause-turn
returns-in-Some-clause-turn g c =
    let turn = stopped_already g.D.Disk.tells g.D.Disk.on_disk g.D.Disk.faults g.C.Clock.coming
    (root_of g.D.Disk.on_disk g.D.Disk.faults (parts_of c.self.inside.start.value))
    (parts_of c.self.inside.store) c.args.lines.now c.in-Some.faults c.self.invariant (sym c.in-Some.ensures) in
    rw (← c.self.view_is) turn

pub returns-then-records-noted-clause-turn : goal.returns-then-records-noted-clause-turn
returns-then-records-noted-clause-turn g c =
    let turn = nothing g.D.Disk.tells g.D.Disk.on_disk g.D.Disk.faults g.C.Clock.coming (root_of g.D.Disk.on_disk g.D.Disk.faults
    (parts_of c.self.inside.start.value))
    (parts_of c.self.inside.store) c.args.lines.now c.self.invariant (sym c.in_default.ensures) in
    rw (← c.self.view_is) turn
