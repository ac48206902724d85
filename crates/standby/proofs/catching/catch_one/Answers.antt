use Rattle.std.proofs.Common.{◌∙◌, List, ℕ, sym, subst₂}
use Rattle.record_fields.specs.declared.versions.Version.{Version}
use Rattle.shop_core.specs.Legal.{Legal}
use Rattle.standby.specs.Pieces.{IsPieceOf}
use Rattle.standby.proofs.Chained.{goes_same}
use Rattle.standby.proofs.CaughtUp.{caught_err, caught_ok, following_by, following_same}
use Rattle.standby.proofs.catching.catch_one.Goals as goal

pub returns-in_default-clause-goes : goal.returns-in_default-clause-goes
returns-in_default-clause-goes g c =
    goes_same g.D.Disk.tells g.D.Disk.on_disk g.D.Disk.faults c.args.standby.now c.is_sound.ensures

pub returns-in_default-clause-follows : goal.returns-in_default-clause-follows
returns-in_default-clause-follows g c =
    let s = c.args.state.now in
    following_same g.D.Disk.tells g.D.Disk.on_disk g.D.Disk.faults c.a_file_has_one_meaning.ensures.history c.args.standby.now
    s.version s.issuer s.entries c.is_sound.ensures c.requires.issuer c.requires.version c.requires.going_on c.is_legal.ensures
    c.requires.front

pub returns-in-Ok-arrive-clause-follows : goal.returns-in-Ok-arrive-clause-follows
returns-in-Ok-arrive-clause-follows g c =
    let s = c.args.state.now in
    let found = rw c.in-Some.is at c.in-Ok.ensures.some in
    following_by g.D.Disk.tells g.D.Disk.on_disk g.D.Disk.faults c.args.standby.now c.arrive.new.self c.in-Some.piece
    s.version s.issuer s.entries c.requires.issuer c.requires.version c.requires.going_on c.is_legal.ensures c.requires.front
    found.1 c.in-Ok-arrive.ensures.follows

pub returns-in-Ok-arrive-clause-caught : goal.returns-in-Ok-arrive-clause-caught
returns-in-Ok-arrive-clause-caught g c =
    let s = c.args.state.now in
    let old = c.args.standby.now in
    let piece = c.in-Some.piece in
    let found = rw c.in-Some.is at c.in-Ok.ensures.some in
    let legal : Legal old.history.version old.history.issuer s.entries =
    subst₂ (λ (v : Version) (n : List ℕ). Legal v n s.entries) (sym c.requires.version) (sym c.requires.issuer)
    c.is_legal.ensures in
    let own : IsPieceOf old.history.version old.history.issuer s.entries piece =
    subst₂ (λ (v : Version) (n : List ℕ). IsPieceOf v n s.entries piece) (sym c.requires.version) (sym c.requires.issuer)
    found.1 in
    caught_ok g.D.Disk.tells g.D.Disk.on_disk g.D.Disk.faults c.encodings_are_apart.ensures old c.arrive.new.self piece s.entries
    legal c.requires.front own (found.0 ∙ c.requires.index.0) c.in-Ok-arrive.field-0
    (c.in-Ok-arrive.ensures.arrives c.requires.going_on)

pub returns-clause-follows : goal.returns-clause-follows
returns-clause-follows g c =
    let s = c.args.state.now in
    let found = rw c.in-Some.is at c.in-Ok.ensures.some in
    following_by g.D.Disk.tells g.D.Disk.on_disk g.D.Disk.faults c.args.standby.now c.arrive.new.self c.in-Some.piece
    s.version s.issuer s.entries c.requires.issuer c.requires.version c.requires.going_on c.is_legal.ensures c.requires.front
    found.1 c.in-Err.ensures.follows

pub returns-clause-caught : goal.returns-clause-caught
returns-clause-caught g c =
    caught_err g.D.Disk.tells g.D.Disk.on_disk g.D.Disk.faults c.args.standby.now c.arrive.new.self c.in-Some.piece c.in-Err.fault
    c.requires.going_on (c.in-Err.ensures.arrives c.requires.going_on)
