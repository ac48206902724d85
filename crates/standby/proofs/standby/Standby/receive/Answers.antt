use Rattle.std.proofs.Common.{◌≡◌, ◌⊎◌, inl, inr, ℕ, suc, ◌+◌, List, [], ◌∷◌, ◌++◌, length, take, drop, refl, sym, ◌∙◌, ap, subst, subst₂, arith, None, Option}
use Rattle.std.specs.Prelude.{IsSome}
use Rattle.std.proofs.Common.{append_assoc, Ok}
use Rattle.std.proofs.lemmas.List.{take_more}
use Rattle.std.proofs.Math.Seq.{split_at, take-length}
use Rattle.record_codec.specs.declared.entry.Entry.{Entry}
use Rattle.record_fields.specs.declared.versions.Version.{Version}
use Rattle.standby.specs.Arriving.{ArrivesAs, Received, kept_by}
use Rattle.standby.specs.Arriving.Received.{none, more}
use Rattle.standby.specs.Following.{Follows}
use Rattle.standby.specs.declared.pieces.Piece.{Piece}
use Rattle.standby.proofs.Appended.{goes_appended}
use Rattle.standby.proofs.Chained.{goes_on, goes_same}
use Rattle.standby.proofs.Followed.{arrived_as, follows_front, follows_on, follows_same}
use Rattle.standby.proofs.Receiving.{as_begun, ends_by, going_by, never_stops, not_stopped, same_by_fault, stays_going, stops_by}
use Rattle.standby.proofs.standby.Standby.receive.Goals as goal

pub loop-piece-init : goal.loop-piece-init
loop-piece-init g c = record {
  sound = c.is_sound.ensures;
  goes = goes_same g.D.Disk.tells g.D.Disk.on_disk g.D.Disk.faults c.args.self.now c.is_sound.ensures;
  follows = follows_same g.D.Disk.tells g.D.Disk.on_disk g.D.Disk.faults c.a_file_has_one_meaning.ensures.history c.args.self.now
      c.is_sound.ensures [];
  received = none;
  stopped = refl;
  begun = inl (refl, refl);
  few = omega arith;
}

pub loop-piece-preserved : goal.loop-piece-preserved
loop-piece-preserved g c =
    let i = c.loop-piece.invariant in
    let start = c.args.self.now in
    let old = c.loop-piece.self in
    let new = c.arrive.new.self in
    let pieces = c.args.pieces.now in
    let piece = c.piece-item.result in
    let e = c.in-Ok.ensures in
    let lt = c.loop-piece-test.true in
    let longer : take (c.loop-piece.piece-index + 1) pieces ≡ take c.loop-piece.piece-index pieces ++ piece ∷ [] =
    take_more pieces c.loop-piece.piece-index piece lt ∙
    ap (λ (p : Piece). take c.loop-piece.piece-index pieces ++ p ∷ []) (sym c.piece-item.is) in
    let going : old.stopped ≡ None = going_by old.stopped (Ok c.in-Ok.told) e.stopped (not_stopped c.in-Ok.told) in
    let arrives = e.arrives going in
    let here = arrived_as g.D.Disk.tells g.D.Disk.on_disk g.D.Disk.faults old new piece c.in-Ok.told arrives in
    let came : ArrivesAs start.history.version start.history.issuer old.history.entries piece c.in-Ok.told new.history.entries =
    subst₂ (λ (v : Version) (n : List ℕ). ArrivesAs v n old.history.entries piece c.in-Ok.told new.history.entries) i.goes.version i.goes.issuer here in
    let most = c.kept_by-kept.ensures.most in
    let few = i.few in
    record {
      sound = e.sound;
      goes = goes_on g.D.Disk.tells g.D.Disk.on_disk g.D.Disk.faults start old new i.goes e.goes;
      follows = subst (λ (ps : List Piece). Follows g.D.Disk.tells g.D.Disk.on_disk start new ps) (sym longer)
          (follows_on g.D.Disk.tells g.D.Disk.on_disk g.D.Disk.faults start old new (take c.loop-piece.piece-index pieces)
          (piece ∷ []) i.follows e.follows);
      received =
          subst (λ (n : ℕ). Received start.history.version start.history.issuer start.history.entries (take (c.loop-piece.piece-index + 1) pieces)
          new.history.entries (c.loop-piece.kept + n)) (sym c.kept_by-kept.ensures.value)
          (subst (λ (ps : List Piece). Received start.history.version start.history.issuer start.history.entries ps new.history.entries
          (c.loop-piece.kept + kept_by c.in-Ok.told)) (sym longer)
          (more (take c.loop-piece.piece-index pieces) old.history.entries c.loop-piece.kept piece c.in-Ok.told
          new.history.entries i.received came));
      stopped = stays_going g.D.Disk.tells g.D.Disk.on_disk g.D.Disk.faults old new piece c.in-Ok.told going arrives ∙ sym going ∙
          i.stopped;
      begun = inr (sym i.stopped ∙ going);
      few = omega (arith, most, few);
    }

pub returns-in-Err-clause-goes : goal.returns-in-Err-clause-goes
returns-in-Err-clause-goes g c = goes_on g.D.Disk.tells g.D.Disk.on_disk g.D.Disk.faults c.args.self.now c.loop-piece.self
    c.arrive.new.self c.loop-piece.invariant.goes c.in-Err.ensures.goes

pub returns-in-Err-clause-appended : goal.returns-in-Err-clause-appended
returns-in-Err-clause-appended g c =
    goes_appended g.D.Disk.tells g.D.Disk.on_disk g.D.Disk.faults c.args.self.now c.arrive.new.self c.is_sound.ensures
    (goes_on g.D.Disk.tells g.D.Disk.on_disk g.D.Disk.faults c.args.self.now c.loop-piece.self c.arrive.new.self
    c.loop-piece.invariant.goes c.in-Err.ensures.goes)
    (λ says. g.met.D.Disk.reads_an_image c.arrive.new.self.disk says)

pub returns-clause-appended : goal.returns-clause-appended
returns-clause-appended g c =
    goes_appended g.D.Disk.tells g.D.Disk.on_disk g.D.Disk.faults c.args.self.now c.loop-piece.self c.is_sound.ensures
    c.loop-piece.invariant.goes (λ says. g.met.D.Disk.reads_an_image c.loop-piece.self.disk says)

pub returns-in-Err-clause-up_to : goal.returns-in-Err-clause-up_to
returns-in-Err-clause-up_to g c =
    let i = c.loop-piece.invariant in
    let start = c.args.self.now in
    let old = c.loop-piece.self in
    let new = c.arrive.new.self in
    let pieces = c.args.pieces.now in
    let piece = c.piece-item.result in
    let e = c.in-Err.ensures in
    let k = c.loop-piece.piece-index in
    let begun : ((take k pieces ≡ []) × (old ≡ start)) ⊎ (start.stopped ≡ None) =
    elim i.begun [ inl x ↦ inl (ap (λ (n : ℕ). take n pieces) x.0, x.1) | inr y ↦ inr y ] in
    let same = same_by_fault g.D.Disk.tells g.D.Disk.on_disk g.D.Disk.faults old new piece c.in-Err.fault e.arrives e.untouched in
    record {
      done = take k pieces;
      piece = piece;
      rest = drop (suc k) pieces;
      are = split_at pieces k piece c.loop-piece-test.true ∙
          ap (λ (p : Piece). take k pieces ++ p ∷ drop (suc k) pieces) (sym c.piece-item.is);
      kept = c.loop-piece.kept;
      received = subst (λ (es : List Entry). Received start.history.version start.history.issuer start.history.entries (take k pieces) es
          c.loop-piece.kept) (sym same) i.received;
      ends = ends_by g.D.Disk.tells g.D.Disk.on_disk g.D.Disk.faults start old new piece (take k pieces) i.goes i.stopped begun
          c.in-Err.fault e.arrives e.stopped e.untouched;
    }

pub returns-in-Err-clause-follows : goal.returns-in-Err-clause-follows
returns-in-Err-clause-follows g c =
    let i = c.loop-piece.invariant in
    let start = c.args.self.now in
    let new = c.arrive.new.self in
    let pieces = c.args.pieces.now in
    let piece = c.piece-item.result in
    let k = c.loop-piece.piece-index in
    let are : pieces ≡ (take k pieces ++ piece ∷ []) ++ drop (suc k) pieces =
    split_at pieces k piece c.loop-piece-test.true ∙
    ap (λ (p : Piece). take k pieces ++ p ∷ drop (suc k) pieces) (sym c.piece-item.is) ∙
    sym (append_assoc (take k pieces) (piece ∷ []) (drop (suc k) pieces)) in
    subst (λ (ps : List Piece). Follows g.D.Disk.tells g.D.Disk.on_disk start new ps) (sym are)
    (follows_front g.D.Disk.tells g.D.Disk.on_disk g.D.Disk.faults start new (take k pieces ++ piece ∷ []) (drop (suc k) pieces)
    (follows_on g.D.Disk.tells g.D.Disk.on_disk g.D.Disk.faults start c.loop-piece.self new (take k pieces) (piece ∷ []) i.follows
    c.in-Err.ensures.follows))

pub returns-clause-follows : goal.returns-clause-follows
returns-clause-follows g c =
    let pieces = c.args.pieces.now in
    let end : c.loop-piece.piece-index ≡ length pieces = omega arith in
    let whole : take c.loop-piece.piece-index pieces ≡ pieces = ap (λ (n : ℕ). take n pieces) end ∙ take-length pieces in
    subst (λ (ps : List Piece). Follows g.D.Disk.tells g.D.Disk.on_disk c.args.self.now c.loop-piece.self ps) whole
    c.loop-piece.invariant.follows

pub returns-in-Err-clause-stopped : goal.returns-in-Err-clause-stopped
returns-in-Err-clause-stopped g c =
    let lt = c.loop-piece-test.true in
    stops_by c.args.self.now.stopped c.loop-piece.self.stopped c.in-Err.fault c.args.pieces.now c.loop-piece.invariant.stopped
    (λ none. let empty = ap (λ (ps : List Piece). length ps) none in omega (arith, lt, empty)) c.in-Err.ensures.stopped

pub returns-in-Err-clause-untouched : goal.returns-in-Err-clause-untouched
returns-in-Err-clause-untouched g c = λ some.
    c.in-Err.ensures.untouched (subst (λ (o : Option ℕ). IsSome o) (sym c.loop-piece.invariant.stopped) some)
    ∙ as_begun c.args.self.now c.loop-piece.self c.loop-piece.piece-index c.loop-piece.invariant.begun some

pub returns-clause-stopped : goal.returns-clause-stopped
returns-clause-stopped g c =
    let end : c.loop-piece.piece-index ≡ length c.args.pieces.now = omega arith in
    let begun : (c.loop-piece.piece-index ≡ 0) ⊎ (c.args.self.now.stopped ≡ None) =
    elim c.loop-piece.invariant.begun [ inl first ↦ inl first.0 | inr going ↦ inr going ] in
    never_stops c.args.self.now.stopped c.args.pieces.now c.loop-piece.kept c.loop-piece.piece-index end begun

pub returns-clause-untouched : goal.returns-clause-untouched
returns-clause-untouched g c = λ some.
    as_begun c.args.self.now c.loop-piece.self c.loop-piece.piece-index c.loop-piece.invariant.begun some
