use Rattle.std.proofs.Common.{◌≡◌, ◌≤◌, [], None, ap, arith, drop, length, refl, subst, sym}
use Rattle.chain_disk.specs.OnDisk.{OnDisk}
use Rattle.frames.specs.Frames.{IsClosed}
use Rattle.journal.specs.Ahead.{Ahead, IsAheadIn}
use Rattle.shop_core.specs.File.Files.{IsSoundUpTo, furthest_gate}
use Rattle.shop_core.specs.History.{History}
use Rattle.shop_core.specs.File.Reading.{Grows, IsRead, IsSeen}
use Rattle.shop_core.specs.File.Reading.IsRead.{stands}
use Rattle.shop_core.specs.declared.file.reading.AtGate.{AtGate}
use Rattle.shop_core.specs.declared.file.reading.FileRead.TheVariants.{Sound}
use Rattle.shop_core.proofs.file.reading.read_frames.Goals as goal

pub loop-init : goal.loop-init
loop-init g c =
    let file = (g.D.Disk.on_disk c.args.disk.now).content in
    let start : History = record { issuer = c.args.issuer.now; version = c.args.version; entries = []; room = None } in
    let empty : c.empty-state.result ≡ start = c.empty-state.ensures in
    record {
      issuer = ap (λ (h : History). h.issuer) empty;
      version = ap (λ (h : History). h.version) empty;
      count = ap (λ (h : History). length h.entries) empty;
      place = subst (λ (h : History). 19 ≤ furthest_gate h.entries) (sym empty) (omega arith);
      sound = λ tells. subst (λ (h : History). IsSoundUpTo h.version h.issuer h.entries 19 file) (sym empty)
          (c.a_history_is_read_by_frames.ensures.begins c.args.version c.args.issuer.now file (c.requires.header tells));
      ahead = λ tells. subst (λ (a : Ahead). IsAheadIn file a) (sym c.new-ahead.ensures) (λ some. absurd (omega (arith, some)));
      same = refl;
      later = omega arith;
    }

pub unreachable-requires : goal.unreachable-requires
unreachable-requires g c = omega (arith, c.loop-test.false, c.loop.invariant.count, c.entries-few.ensures.few)

pub returns-in-Closed-clause-read : goal.returns-in-Closed-clause-read
returns-in-Closed-clause-read g c tells =
    let s = c.loop.state in
    let new = c.read_frame.new.state in
    let file = (g.D.Disk.on_disk c.args.disk.now).content in
    let now = g.D.Disk.on_disk c.loop.disk in
    let same : new ≡ s = subst (λ (seen : AtGate). Grows s new seen) c.in-Closed.is c.in_ok-next.ensures.grows in
    let shut : IsClosed (drop c.loop.at now.content) =
    subst (λ (seen : AtGate). IsSeen now.content c.loop.at s new seen) c.in-Closed.is (c.in_ok-next.ensures.seen tells) in
    let sound = c.loop.invariant.sound tells in
    let whole =
    c.a_history_is_read_by_frames.ensures.ends s.version s.issuer s.entries c.loop.at file sound
    (subst (λ (t : OnDisk). IsClosed (drop c.loop.at t.content)) c.loop.invariant.same shut) in
    subst (λ (h : History). IsRead file (Sound h c.loop.at)) (sym same) (stands s c.loop.at whole sound.frames.place)
