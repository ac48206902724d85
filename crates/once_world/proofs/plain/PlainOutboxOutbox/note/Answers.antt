use Rattle.std.proofs.Common.{◌∷◌, [], length}
use Rattle.record_codec.specs.declared.entry.Entry.TheVariants.{Notes}
use Rattle.shop_core.specs.History.{noted}
use Rattle.once_world.proofs.Sights.{grows_by, grows_same, adds_notes, next_plain, never_stopped}
use Rattle.once_world.proofs.plain.PlainOutboxOutbox.note.Goals as goal

pub add_notes-requires : goal.add_notes-requires
add_notes-requires g c = next_plain c.args.self.now.state.entries c.args.lines.now c.requires.some c.requires.few c.requires.fits

pub returns-in-Ok-clause-grows : goal.returns-in-Ok-clause-grows
returns-in-Ok-clause-grows g c =
    let old = c.args.self.now in
    let new = c.add_notes.new.self in
    grows_by old.state.version new.state.version old.state.issuer new.state.issuer old.state.entries new.state.entries
    (Notes (length (noted old.state.entries))
    c.args.lines.now ∷ []) old.own.items new.own.items
    c.in-Ok.ensures.version c.in-Ok.ensures.issuer c.in-Ok.ensures.ok.0 c.is_legal.ensures

pub returns-in-Ok-clause-noted : goal.returns-in-Ok-clause-noted
returns-in-Ok-clause-noted g c =
    let old = c.args.self.now in
    let new = c.add_notes.new.self in
    adds_notes old.state.version new.state.version old.state.issuer new.state.issuer old.state.entries new.state.entries
    old.own.items new.own.items c.args.lines.now
    c.in-Ok.ensures.ok.0 c.in-Ok.ensures.ok.1

pub returns-in-Err-clause-grows : goal.returns-in-Err-clause-grows
returns-in-Err-clause-grows g c =
    let old = c.args.self.now in
    let new = c.add_notes.new.self in
    grows_same old.state.version new.state.version old.state.issuer new.state.issuer old.state.entries new.state.entries
    old.own.items new.own.items
    c.in-Err.ensures.version c.in-Err.ensures.issuer c.in-Err.ensures.err.0 c.is_legal-in-Err.ensures

pub returns-in-Err-clause-stopped : goal.returns-in-Err-clause-stopped
returns-in-Err-clause-stopped g c = λ faults.
    let new = c.add_notes.new.self in (
      (λ told. absurd cc),
      (λ stopped. absurd (never_stopped _ new.state.version new.state.issuer new.state.entries new.own.items
          faults stopped)),
    )
