use Rattle.std.proofs.Common.{◌+◌, ℕ, inl, subst, sym}
use Rattle.chain_disk.specs.Runs.{weaker, follows}
use Rattle.journal.specs.File.{framed, IsAt}
use Rattle.journal.specs.Whole.{IsHeldShut, IsShutOrWhole}
use Rattle.chain_disk.specs.Stays.{run_of}
use Rattle.journal.proofs.Losing.{frames_follow, shut_loses_none}
use Rattle.journal.proofs.whole.open_shut.Goals as goal

pub returns-in_err-write_more-clause-any_moment : goal.returns-in_err-write_more-clause-any_moment
returns-in_err-write_more-clause-any_moment g c = λ tells version issuer bodies sizes is.
    weaker _ _ (IsHeldShut version issuer) (IsShutOrWhole version issuer bodies) (c.write_more.ensures.any_moment tells version issuer (framed bodies) is)
    (λ f held. inl held)

pub returns-in_err-open_first-clause-any_moment : goal.returns-in_err-open_first-clause-any_moment
returns-in_err-open_first-clause-any_moment g c = λ tells version issuer bodies sizes is.
    follows _ _ _ (IsHeldShut version issuer) (IsShutOrWhole version issuer bodies) (IsShutOrWhole version issuer bodies)
    (c.write_more.ensures.any_moment tells version issuer (framed bodies) is)
    (c.open_first.ensures.any_moment tells version issuer bodies (c.args.at + 1) sizes
    (c.in_ok-write_more.ensures.ok tells version issuer (framed bodies) is)) (λ f held. inl held) (λ f whole. whole)

pub returns-clause-ok : goal.returns-clause-ok
returns-clause-ok g c = λ tells version issuer bodies sizes is.
    subst (λ (n : ℕ). IsAt version issuer bodies n (g.D.Disk.on_disk c.open_first.new.disk)) (sym is.place)
    (c.in_ok-open_first.ensures.ok tells version issuer bodies (c.args.at + 1) sizes
    (c.in_ok-write_more.ensures.ok tells version issuer (framed bodies) is))

pub returns-clause-any_moment : goal.returns-clause-any_moment
returns-clause-any_moment g c = λ tells version issuer bodies sizes is.
    follows _ _ _ (IsHeldShut version issuer) (IsShutOrWhole version issuer bodies) (IsShutOrWhole version issuer bodies)
    (c.write_more.ensures.any_moment tells version issuer (framed bodies) is)
    (c.open_first.ensures.any_moment tells version issuer bodies (c.args.at + 1) sizes
    (c.in_ok-write_more.ensures.ok tells version issuer (framed bodies) is)) (λ f held. inl held) (λ f whole. whole)

pub returns-in_err-write_more-clause-never_loses : goal.returns-in_err-write_more-clause-never_loses
returns-in_err-write_more-clause-never_loses g c = λ tells version issuer bodies sizes is.
    shut_loses_none version issuer _ _ (c.write_more.ensures.any_moment tells version issuer (framed bodies) is)

pub returns-in_err-open_first-clause-never_loses : goal.returns-in_err-open_first-clause-never_loses
returns-in_err-open_first-clause-never_loses g c = λ tells version issuer bodies sizes is.
    let first = c.write_more.ensures.any_moment tells version issuer (framed bodies) is in
    let more = c.in_ok-write_more.ensures.ok tells version issuer (framed bodies) is in
    frames_follow (g.D.Disk.on_disk c.args.disk.now) (g.D.Disk.on_disk c.write_more.new.disk) (g.D.Disk.on_disk c.open_first.new.disk)
    (run_of first) (run_of (c.open_first.ensures.any_moment tells version issuer bodies (c.args.at + 1) sizes more))
    (shut_loses_none version issuer _ _ first) (c.open_first.ensures.never_loses tells version issuer bodies (c.args.at + 1) sizes more)

pub returns-clause-never_loses : goal.returns-clause-never_loses
returns-clause-never_loses g c = λ tells version issuer bodies sizes is.
    let first = c.write_more.ensures.any_moment tells version issuer (framed bodies) is in
    let more = c.in_ok-write_more.ensures.ok tells version issuer (framed bodies) is in
    frames_follow (g.D.Disk.on_disk c.args.disk.now) (g.D.Disk.on_disk c.write_more.new.disk) (g.D.Disk.on_disk c.open_first.new.disk)
    (run_of first) (run_of (c.open_first.ensures.any_moment tells version issuer bodies (c.args.at + 1) sizes more))
    (shut_loses_none version issuer _ _ first) (c.open_first.ensures.never_loses tells version issuer bodies (c.args.at + 1) sizes more)
