use Rattle.std.proofs.Common.{◌∙◌, Bool, IsTrue, Result, Err, sym, ap, subst, subst₂}
use Rattle.chain_disk.specs.Memory.{fresh}
use Rattle.chain_disk.specs.OnDisk.{OnDisk}
use Rattle.journal.specs.declared.tails.TailFault.{TailFault}
use Rattle.mirror_disk.specs.Mirror.{Mirrored}
use Rattle.shop_core.specs.File.Files.{bodies_of}
use Rattle.second_disk.specs.Opened.{IsMirrored, IsTailReason, IsUnmirrored, StaysWhole}
use Rattle.second_disk.specs.declared.causes.LevelCause.{LevelCause}
use Rattle.second_disk.specs.declared.causes.LevelCause.TheVariants.{OtherGate}
use Rattle.second_disk.proofs.Mirrored.{at_some, both_held, one_front, other_gates, stands_by, stays_whole, tail_reason}
use Rattle.second_disk.proofs.levelling.mirror_of.Goals as goal

pub make_tails_equal-requires-clause-first : goal.make_tails_equal-requires-clause-first
make_tails_equal-requires-clause-first g c = λ tells.
    let others : IsTrue g.M.Disk.tells = subst (λ (x : Bool). IsTrue x) c.requires.alike tells in
    let a = c.args.first in
    let b = c.args.second in
    let held = both_held g.D.Disk.on_disk g.M.Disk.on_disk a b c.into_disk-first.result c.into_disk-second.result c.gate-gate.result
    c.into_disk-first.ensures.disk c.into_disk-second.ensures.disk c.gate-gate.ensures c.requires.version c.requires.issuer
    c.requires.entries (c.is_sound.ensures.ready.holds c.requires.first tells)
    (c.is_sound-2.ensures.ready.holds c.requires.second others) in
    at_some a.history c.gate-gate.result _ held.0

pub make_tails_equal-requires-clause-second : goal.make_tails_equal-requires-clause-second
make_tails_equal-requires-clause-second g c = λ others.
    let tells : IsTrue g.D.Disk.tells = subst (λ (x : Bool). IsTrue x) (sym c.requires.alike) others in
    let a = c.args.first in
    let b = c.args.second in
    let held = both_held g.D.Disk.on_disk g.M.Disk.on_disk a b c.into_disk-first.result c.into_disk-second.result c.gate-gate.result
    c.into_disk-first.ensures.disk c.into_disk-second.ensures.disk c.gate-gate.ensures c.requires.version c.requires.issuer
    c.requires.entries (c.is_sound.ensures.ready.holds c.requires.first tells)
    (c.is_sound-2.ensures.ready.holds c.requires.second others) in
    at_some a.history c.gate-gate.result _ held.1

pub make_tails_equal-requires-clause-front : goal.make_tails_equal-requires-clause-front
make_tails_equal-requires-clause-front g c = λ tells others.
    let a = c.args.first in
    let b = c.args.second in
    let held = both_held g.D.Disk.on_disk g.M.Disk.on_disk a b c.into_disk-first.result c.into_disk-second.result c.gate-gate.result
    c.into_disk-first.ensures.disk c.into_disk-second.ensures.disk c.gate-gate.ensures c.requires.version c.requires.issuer
    c.requires.entries (c.is_sound.ensures.ready.holds c.requires.first tells)
    (c.is_sound-2.ensures.ready.holds c.requires.second others) in
    one_front a.history c.gate-gate.result c.gate-gate.result _ _ held.0 held.1

pub of-requires-clause-first : goal.of-requires-clause-first
of-requires-clause-first g c = λ tells.
    let others : IsTrue g.M.Disk.tells = subst (λ (x : Bool). IsTrue x) c.requires.alike tells in
    let a = c.args.first in
    let b = c.args.second in
    let held = both_held g.D.Disk.on_disk g.M.Disk.on_disk a b c.into_disk-first.result c.into_disk-second.result c.gate-gate.result
    c.into_disk-first.ensures.disk c.into_disk-second.ensures.disk c.gate-gate.ensures c.requires.version c.requires.issuer
    c.requires.entries (c.is_sound.ensures.ready.holds c.requires.first tells)
    (c.is_sound-2.ensures.ready.holds c.requires.second others) in
    (c.in-Ok.ensures.stays.0 tells a.history.version a.history.issuer (bodies_of a.history.version a.history.entries) held.0.file).nothing_pending

pub of-requires-clause-second : goal.of-requires-clause-second
of-requires-clause-second g c = λ others.
    let tells : IsTrue g.D.Disk.tells = subst (λ (x : Bool). IsTrue x) (sym c.requires.alike) others in
    let a = c.args.first in
    let b = c.args.second in
    let held = both_held g.D.Disk.on_disk g.M.Disk.on_disk a b c.into_disk-first.result c.into_disk-second.result c.gate-gate.result
    c.into_disk-first.ensures.disk c.into_disk-second.ensures.disk c.gate-gate.ensures c.requires.version c.requires.issuer
    c.requires.entries (c.is_sound.ensures.ready.holds c.requires.first tells)
    (c.is_sound-2.ensures.ready.holds c.requires.second others) in
    (c.in-Ok.ensures.stays.1 others a.history.version a.history.issuer (bodies_of a.history.version a.history.entries) held.1.file).nothing_pending

pub returns-in-Ok-clause-mirrored : goal.returns-in-Ok-clause-mirrored
returns-in-Ok-clause-mirrored g c = λ tells others.
    let a = c.args.first in
    let b = c.args.second in
    let held = both_held g.D.Disk.on_disk g.M.Disk.on_disk a b c.into_disk-first.result c.into_disk-second.result c.gate-gate.result
    c.into_disk-first.ensures.disk c.into_disk-second.ensures.disk c.gate-gate.ensures c.requires.version c.requires.issuer
    c.requires.entries (c.is_sound.ensures.ready.holds c.requires.first tells)
    (c.is_sound-2.ensures.ready.holds c.requires.second others) in
    let old = g.D.Disk.on_disk a.disk in
    let other = g.M.Disk.on_disk b.disk in
    let is : IsMirrored a.history old other (g.D.Disk.on_disk c.make_tails_equal.new.first) (g.M.Disk.on_disk c.make_tails_equal.new.second) = record {
      first_whole = subst (λ (d : g.row.D.Denot). StaysWhole a.history (g.D.Disk.on_disk d) (g.D.Disk.on_disk c.make_tails_equal.new.first))
          c.into_disk-first.ensures.disk (stays_whole a.history c.gate-gate.result _ _ held.0 c.is_sound.ensures.legal (c.in-Ok.ensures.first tells));
      second_whole = subst (λ (d : g.row.M.Denot). StaysWhole a.history (g.M.Disk.on_disk d) (g.M.Disk.on_disk c.make_tails_equal.new.second))
          c.into_disk-second.ensures.disk (stays_whole a.history c.gate-gate.result _ _ held.1 c.is_sound.ensures.legal (c.in-Ok.ensures.second others));
      stands = stands_by a.history c.gate-gate.result _ _ held.0 c.is_sound.ensures.legal (c.in-Ok.ensures.stays.0 tells a.history.version a.history.issuer (bodies_of a.history.version a.history.entries) held.0.file);
      same = c.in-Ok.ensures.equal tells others;
      first_settled = (c.in-Ok.ensures.stays.0 tells a.history.version a.history.issuer (bodies_of a.history.version a.history.entries) held.0.file).nothing_pending;
      second_settled = (c.in-Ok.ensures.stays.1 others a.history.version a.history.issuer (bodies_of a.history.version a.history.entries) held.1.file).nothing_pending;
    } in
    subst (λ (m : Mirrored g.row.D.Denot g.row.M.Denot). IsMirrored a.history old other (g.D.Disk.on_disk m.first) (g.M.Disk.on_disk m.second))
    (sym c.of.ensures.made) is

pub returns-in-Err-clause-left : goal.returns-in-Err-clause-left
returns-in-Err-clause-left g c = λ tells others.
    let a = c.args.first in
    let b = c.args.second in
    let held = both_held g.D.Disk.on_disk g.M.Disk.on_disk a b c.into_disk-first.result c.into_disk-second.result c.gate-gate.result
    c.into_disk-first.ensures.disk c.into_disk-second.ensures.disk c.gate-gate.ensures c.requires.version c.requires.issuer
    c.requires.entries (c.is_sound.ensures.ready.holds c.requires.first tells)
    (c.is_sound-2.ensures.ready.holds c.requires.second others) in
    let old = g.D.Disk.on_disk a.disk in
    let other = g.M.Disk.on_disk b.disk in
    let new = g.D.Disk.on_disk c.make_tails_equal.new.first in
    let last = g.M.Disk.on_disk c.make_tails_equal.new.second in
    subst (λ (cause : LevelCause). IsUnmirrored a.history cause old other new last) (sym c.tail_cause.ensures) (record {
      first_whole = subst (λ (d : g.row.D.Denot). StaysWhole a.history (g.D.Disk.on_disk d) (g.D.Disk.on_disk c.make_tails_equal.new.first))
          c.into_disk-first.ensures.disk (stays_whole a.history c.gate-gate.result _ _ held.0 c.is_sound.ensures.legal (c.in-Err.ensures.first tells));
      second_whole = subst (λ (d : g.row.M.Denot). StaysWhole a.history (g.M.Disk.on_disk d) (g.M.Disk.on_disk c.make_tails_equal.new.second))
          c.into_disk-second.ensures.disk (stays_whole a.history c.gate-gate.result _ _ held.1 c.is_sound.ensures.legal (c.in-Err.ensures.second others));
      reason = tail_reason a.history c.in-Err.fault new last (λ is.
          let gates = c.in-Err.ensures.other_gate
          (ap (λ (f : TailFault). let r : Result (Unit {0}) TailFault = Err f in r) is) in
          subst₂ (λ (t u : OnDisk). IsTailReason a.history OtherGate t u) (sym gates.0) (sym gates.1)
          (other_gates a.history c.gate-gate.result _ _ held.0 held.1 c.is_sound.ensures.legal (gates.2 tells others)));
    })

pub returns-in-Ok-clause-told : goal.returns-in-Ok-clause-told
returns-in-Ok-clause-told g c = λ tells.
    c.of.ensures.told tells ∙ ap (λ (m : Mirrored g.row.D.Denot g.row.M.Denot). fresh (g.D.Disk.on_disk m.first).content)
    (sym c.of.ensures.made)
