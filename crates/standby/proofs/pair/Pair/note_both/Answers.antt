use Rattle.std.proofs.Common.{◌≡◌, ap, subst, sym, ◌∙◌, List}
use Rattle.chain_store.specs.Ready.{noted_next}
use Rattle.record_codec.specs.declared.entry.Entry.{Entry}
use Rattle.standby.specs.Pairs.{Both, GoOn, IsPair, NotesBoth, Paired, both_of}
use Rattle.standby.proofs.Pairing.{equal_going, keeps_roomless, notes_from, pair_kept, pair_roomy}
use Rattle.standby.proofs.pair.Pair.note_both.Goals as goal

pub invariant_of-self-in-Ok : goal.invariant_of-self-in-Ok
invariant_of-self-in-Ok g c =
    let s = c.self.inside in
    let start : Both g.row.D.Denot g.row.C.Denot g.row.M.Denot = both_of s.first.value s.second.value in
    let old : Both g.row.D.Denot g.row.C.Denot g.row.M.Denot = both_of s.store s.standby in
    let mid : Both g.row.D.Denot g.row.C.Denot g.row.M.Denot = both_of c.prepare_both.new.store c.prepare_both.new.standby in
    let new : Both g.row.D.Denot g.row.C.Denot g.row.M.Denot = both_of c.keep_both.new.store c.keep_both.new.standby in
    let room = c.prepare_both.ensures in
    let on : GoOn old = record { shop = sym c.in_default.ensures; standby = sym c.in_default-stopped.ensures } in
    let then : GoOn mid = record { shop = room.shop.stopped ∙ on.shop; standby = room.standby.stopped ∙ on.standby } in
    let one = pair_roomy g.D.Disk.tells g.D.Disk.on_disk g.D.Disk.faults g.M.Disk.tells g.M.Disk.on_disk g.M.Disk.faults start
    old mid c.self.invariant room.shop room.standby room.clock in
    let equal = equal_going mid.shop.stopped mid.standby.stopped mid.standby.torn mid.shop.history.entries
    mid.standby.history.entries then.shop then.standby one.beside in
    let next : c.in-Ok.twice.entry ≡ noted_next mid.standby.history.entries c.args.lines.now = c.in-Ok.ensures.entry.0 ∙
    ap (λ (es : List Entry). noted_next es c.args.lines.now) (sym room.shop.entries ∙ equal) in
    let both = pair_kept g.D.Disk.tells g.D.Disk.on_disk g.D.Disk.faults g.M.Disk.tells g.M.Disk.on_disk g.M.Disk.faults start
    mid new c.args.lines.now c.in-Ok.twice.entry c.keep_both.result one then c.keep_both.ensures.sound
    c.keep_both.ensures.standby_sound c.keep_both.ensures.clock next c.keep_both.ensures.keeps in
    both.0

pub returns-in-Ok-clause-notes : goal.returns-in-Ok-clause-notes
returns-in-Ok-clause-notes g c =
    let s = c.self.inside in
    let start : Both g.row.D.Denot g.row.C.Denot g.row.M.Denot = both_of s.first.value s.second.value in
    let old : Both g.row.D.Denot g.row.C.Denot g.row.M.Denot = both_of s.store s.standby in
    let mid : Both g.row.D.Denot g.row.C.Denot g.row.M.Denot = both_of c.prepare_both.new.store c.prepare_both.new.standby in
    let new : Both g.row.D.Denot g.row.C.Denot g.row.M.Denot = both_of c.keep_both.new.store c.keep_both.new.standby in
    let room = c.prepare_both.ensures in
    let on : GoOn old = record { shop = sym c.in_default.ensures; standby = sym c.in_default-stopped.ensures } in
    let then : GoOn mid = record { shop = room.shop.stopped ∙ on.shop; standby = room.standby.stopped ∙ on.standby } in
    let one = pair_roomy g.D.Disk.tells g.D.Disk.on_disk g.D.Disk.faults g.M.Disk.tells g.M.Disk.on_disk g.M.Disk.faults start
    old mid c.self.invariant room.shop room.standby room.clock in
    let equal = equal_going mid.shop.stopped mid.standby.stopped mid.standby.torn mid.shop.history.entries
    mid.standby.history.entries then.shop then.standby one.beside in
    let next : c.in-Ok.twice.entry ≡ noted_next mid.standby.history.entries c.args.lines.now = c.in-Ok.ensures.entry.0 ∙
    ap (λ (es : List Entry). noted_next es c.args.lines.now) (sym room.shop.entries ∙ equal) in
    let both = pair_kept g.D.Disk.tells g.D.Disk.on_disk g.D.Disk.faults g.M.Disk.tells g.M.Disk.on_disk g.M.Disk.faults start
    mid new c.args.lines.now c.in-Ok.twice.entry c.keep_both.result one then c.keep_both.ensures.sound
    c.keep_both.ensures.standby_sound c.keep_both.ensures.clock next c.keep_both.ensures.keeps in
    subst (λ (v : Paired g.row.D.Denot g.row.C.Denot g.row.M.Denot). NotesBoth g.D.Disk.faults g.M.Disk.faults v.present new c.args.lines.now c.keep_both.result)
    c.self.view_is
    (notes_from g.D.Disk.tells g.D.Disk.on_disk g.D.Disk.faults g.M.Disk.tells g.M.Disk.on_disk g.M.Disk.faults old mid new
    c.args.lines.now c.keep_both.result on then (record { shop = room.shop; standby = room.standby }) both.1
    (keeps_roomless g.D.Disk.tells g.D.Disk.on_disk g.D.Disk.faults g.M.Disk.tells g.M.Disk.on_disk g.M.Disk.faults mid new
    c.in-Ok.twice.entry c.keep_both.result c.keep_both.ensures.keeps))

pub returns-in-Ok-clause-after : goal.returns-in-Ok-clause-after
returns-in-Ok-clause-after g c =
    let s = c.self.inside in
    let start : Both g.row.D.Denot g.row.C.Denot g.row.M.Denot = both_of s.first.value s.second.value in
    let old : Both g.row.D.Denot g.row.C.Denot g.row.M.Denot = both_of s.store s.standby in
    let mid : Both g.row.D.Denot g.row.C.Denot g.row.M.Denot = both_of c.prepare_both.new.store c.prepare_both.new.standby in
    let new : Both g.row.D.Denot g.row.C.Denot g.row.M.Denot = both_of c.keep_both.new.store c.keep_both.new.standby in
    let room = c.prepare_both.ensures in
    let on : GoOn old = record { shop = sym c.in_default.ensures; standby = sym c.in_default-stopped.ensures } in
    let then : GoOn mid = record { shop = room.shop.stopped ∙ on.shop; standby = room.standby.stopped ∙ on.standby } in
    let one = pair_roomy g.D.Disk.tells g.D.Disk.on_disk g.D.Disk.faults g.M.Disk.tells g.M.Disk.on_disk g.M.Disk.faults start
    old mid c.self.invariant room.shop room.standby room.clock in
    let equal = equal_going mid.shop.stopped mid.standby.stopped mid.standby.torn mid.shop.history.entries
    mid.standby.history.entries then.shop then.standby one.beside in
    let next : c.in-Ok.twice.entry ≡ noted_next mid.standby.history.entries c.args.lines.now = c.in-Ok.ensures.entry.0 ∙
    ap (λ (es : List Entry). noted_next es c.args.lines.now) (sym room.shop.entries ∙ equal) in
    let both = pair_kept g.D.Disk.tells g.D.Disk.on_disk g.D.Disk.faults g.M.Disk.tells g.M.Disk.on_disk g.M.Disk.faults start
    mid new c.args.lines.now c.in-Ok.twice.entry c.keep_both.result one then c.keep_both.ensures.sound
    c.keep_both.ensures.standby_sound c.keep_both.ensures.clock next c.keep_both.ensures.keeps in
    subst (λ (v : Paired g.row.D.Denot g.row.C.Denot g.row.M.Denot). IsPair g.D.Disk.tells g.D.Disk.on_disk g.D.Disk.faults
    g.M.Disk.tells g.M.Disk.on_disk g.M.Disk.faults v.start new) c.self.view_is both.0
