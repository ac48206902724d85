use Rattle.std.proofs.Common.{◌≡◌, ◌∙◌, length, ap, arith}
use Rattle.shop_core.specs.History.{History}
use Rattle.standby.proofs.Appended.{goes_appended}
use Rattle.standby.proofs.CaughtUp.{caught_up_err, following_on, following_same, no_longer, whole}
use Rattle.standby.proofs.Chained.{goes_on, goes_same}
use Rattle.standby.proofs.catching.catch_up.Goals as goal

pub loop-index-init : goal.loop-index-init
loop-index-init g c =
    let s = c.args.state.now in
    let count = c.entries-held.ensures.count ∙ ap (λ (h : History). length h.entries) c.state.ensures in
    record {
      end = c.entries-index-end.ensures.count;
      place = count;
      held = count;
      going_on = c.requires.going_on;
      sound = c.is_sound.ensures;
      goes = goes_same g.D.Disk.tells g.D.Disk.on_disk g.D.Disk.faults c.args.standby.now c.is_sound.ensures;
      follows = following_same g.D.Disk.tells g.D.Disk.on_disk g.D.Disk.faults c.a_file_has_one_meaning.ensures.history
          c.args.standby.now s.version s.issuer s.entries c.is_sound.ensures c.requires.issuer c.requires.version
          c.requires.going_on c.is_legal.ensures c.requires.front;
    }

pub catch_one-requires : goal.catch_one-requires
catch_one-requires g c =
    let i = c.loop-index.invariant in
    let lt = c.loop-index-test.true in
    let end = i.end in
    record {
      index = (i.place, omega (arith, lt, end));
      issuer = i.goes.issuer ∙ c.requires.issuer;
      version = i.goes.version ∙ c.requires.version;
      front = i.follows.within;
      going_on = i.going_on;
    }

pub loop-index-preserved : goal.loop-index-preserved
loop-index-preserved g c =
    let i = c.loop-index.invariant in
    let start = c.args.standby.now in
    let old = c.loop-index.standby in
    let new = c.catch_one.new.standby in
    let e = c.in-Ok.ensures in
    let caught = e.caught in
    let place = i.place in
    record {
      end = i.end;
      place = omega (arith, caught.1, place);
      held = i.held;
      going_on = caught.0;
      sound = e.sound;
      goes = goes_on g.D.Disk.tells g.D.Disk.on_disk g.D.Disk.faults start old new i.goes e.goes;
      follows = following_on g.D.Disk.tells g.D.Disk.on_disk g.D.Disk.faults start old new c.args.state.now.entries i.follows
          e.follows;
    }

pub returns-in-Err-clause-caught : goal.returns-in-Err-clause-caught
returns-in-Err-clause-caught g c =
    caught_up_err g.D.Disk.tells g.D.Disk.on_disk g.D.Disk.faults c.args.standby.now c.loop-index.standby c.catch_one.new.standby
    c.args.state.now.entries c.in-Err.fault c.loop-index.invariant.goes c.in-Err.ensures.caught

pub returns-in-Err-clause-goes : goal.returns-in-Err-clause-goes
returns-in-Err-clause-goes g c =
    goes_on g.D.Disk.tells g.D.Disk.on_disk g.D.Disk.faults c.args.standby.now c.loop-index.standby c.catch_one.new.standby
    c.loop-index.invariant.goes c.in-Err.ensures.goes

pub returns-in-Err-clause-follows : goal.returns-in-Err-clause-follows
returns-in-Err-clause-follows g c =
    following_on g.D.Disk.tells g.D.Disk.on_disk g.D.Disk.faults c.args.standby.now c.loop-index.standby c.catch_one.new.standby
    c.args.state.now.entries c.loop-index.invariant.follows c.in-Err.ensures.follows

pub returns-in-Err-clause-appended : goal.returns-in-Err-clause-appended
returns-in-Err-clause-appended g c =
    goes_appended g.D.Disk.tells g.D.Disk.on_disk g.D.Disk.faults c.args.standby.now c.catch_one.new.standby c.is_sound.ensures
    (goes_on g.D.Disk.tells g.D.Disk.on_disk g.D.Disk.faults c.args.standby.now c.loop-index.standby c.catch_one.new.standby
    c.loop-index.invariant.goes c.in-Err.ensures.goes)
    (λ says. g.met.D.Disk.reads_an_image c.catch_one.new.standby.disk says)

pub returns-clause-appended : goal.returns-clause-appended
returns-clause-appended g c =
    goes_appended g.D.Disk.tells g.D.Disk.on_disk g.D.Disk.faults c.args.standby.now c.loop-index.standby c.is_sound.ensures
    c.loop-index.invariant.goes (λ says. g.met.D.Disk.reads_an_image c.loop-index.standby.disk says)

pub returns-clause-caught : goal.returns-clause-caught
returns-clause-caught g c =
    let i = c.loop-index.invariant in
    let entries = c.args.state.now.entries in
    let standby = c.loop-index.standby.history.entries in
    let end = i.end in
    let place = i.place in
    let held = i.held in
    let most = no_longer standby entries i.follows.within in
    let n : length standby ≡ length entries = omega (arith, end, place, most) in
    (i.going_on, whole standby entries i.follows.within n, omega (arith, end, held, n, place, most))
