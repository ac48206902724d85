use Rattle.std.proofs.Common.{◌∷◌, [], ◌++◌, ◌+◌, ◌∙◌, refl}
use Rattle.journal.specs.File.{framed}
use Rattle.journal.specs.Whole.{IsHeldShut}
use Rattle.journal.proofs.Shut.{writing_within, writing_frame, both_runs}
use Rattle.journal.proofs.Losing.{shut_loses_none}
use Rattle.journal.proofs.whole.add_shut.Goals as goal

pub write_more-requires : goal.write_more-requires
write_more-requires g c = record {
  within = λ tells.
      let w = c.requires.within tells in
      writing_within w.0 w.1 w.2 c.args.at (g.D.Disk.on_disk c.args.disk.now) w.3;
}

pub returns-in_err-write_more-clause-any_moment : goal.returns-in_err-write_more-clause-any_moment
returns-in_err-write_more-clause-any_moment g c = λ tells version issuer bodies is.
    c.write_more.ensures.any_moment tells version issuer (framed bodies) is

pub write_more-requires-2 : goal.write_more-requires-2
write_more-requires-2 g c = record {
  within = λ tells.
      let w = c.requires.within tells in
      writing_within w.0 w.1 (w.2 ++ 1 ∷ []) (c.args.at + 1) (g.D.Disk.on_disk c.write_more.new.disk)
      (c.in_ok-write_more.ensures.ok tells w.0 w.1 w.2 w.3);
}

pub returns-in_err-write_more-2-clause-any_moment : goal.returns-in_err-write_more-2-clause-any_moment
returns-in_err-write_more-2-clause-any_moment g c = λ tells version issuer bodies is.
    both_runs _ _ _ (IsHeldShut version issuer) (c.write_more.ensures.any_moment tells version issuer (framed bodies) is)
    (c.write_more-2.ensures.any_moment tells version issuer (framed bodies ++ 1 ∷ [])
    (c.in_ok-write_more.ensures.ok tells version issuer (framed bodies) is))

pub returns-clause-ok : goal.returns-clause-ok
returns-clause-ok g c = λ tells version issuer bodies is.
    writing_frame version issuer bodies c.args.body.now c.as_slice.result.now _ _ (g.D.Disk.on_disk c.write_more-2.new.disk)
    (c.as_slice.ensures.value ∙ c.frame_bytes.ensures) (c.in_ok-write_more-2.ensures.ok tells version issuer (framed bodies ++ 1 ∷ [])
    (c.in_ok-write_more.ensures.ok tells version issuer (framed bodies) is)) c.args.at is.place refl

pub returns-clause-any_moment : goal.returns-clause-any_moment
returns-clause-any_moment g c = λ tells version issuer bodies is.
    both_runs _ _ _ (IsHeldShut version issuer) (c.write_more.ensures.any_moment tells version issuer (framed bodies) is)
    (c.write_more-2.ensures.any_moment tells version issuer (framed bodies ++ 1 ∷ [])
    (c.in_ok-write_more.ensures.ok tells version issuer (framed bodies) is))

pub returns-in_err-write_more-clause-never_loses : goal.returns-in_err-write_more-clause-never_loses
returns-in_err-write_more-clause-never_loses g c = λ tells version issuer bodies is.
    shut_loses_none version issuer _ _ (c.write_more.ensures.any_moment tells version issuer (framed bodies) is)

pub returns-in_err-write_more-2-clause-never_loses : goal.returns-in_err-write_more-2-clause-never_loses
returns-in_err-write_more-2-clause-never_loses g c = λ tells version issuer bodies is.
    shut_loses_none version issuer _ _ (both_runs _ _ _ (IsHeldShut version issuer)
    (c.write_more.ensures.any_moment tells version issuer (framed bodies) is)
    (c.write_more-2.ensures.any_moment tells version issuer (framed bodies ++ 1 ∷ [])
    (c.in_ok-write_more.ensures.ok tells version issuer (framed bodies) is)))

pub returns-clause-never_loses : goal.returns-clause-never_loses
returns-clause-never_loses g c = λ tells version issuer bodies is.
    shut_loses_none version issuer _ _ (both_runs _ _ _ (IsHeldShut version issuer)
    (c.write_more.ensures.any_moment tells version issuer (framed bodies) is)
    (c.write_more-2.ensures.any_moment tells version issuer (framed bodies ++ 1 ∷ [])
    (c.in_ok-write_more.ensures.ok tells version issuer (framed bodies) is)))
