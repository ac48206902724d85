use Rattle.std.proofs.Common.{inl}
use Rattle.chain_disk.specs.Runs.{follows, leaves_now}
use Rattle.chain_disk.specs.Stays.{run_of}
use Rattle.journal.proofs.Losing.{frames_follow, shut_loses_none}
use Rattle.journal.specs.File.{IsFile}
use Rattle.record_fields.specs.declared.versions.Version.TheVariants.{Two}
use Rattle.shop_core.specs.File.Files.{bodies_of}
use Rattle.recovery.specs.Moving.{IsHeldShut, IsShutOrWhole}
use Rattle.recovery.proofs.moving.rewrite.Goals as goal

pub returns-clause-ok : goal.returns-clause-ok
returns-clause-ok g c = λ tells sizes.
    let issuer = c.args.state.now.issuer in
    let bodies = bodies_of Two c.args.state.now.entries in
    let at = c.in_ok-open_shut.ensures.ok tells Two issuer bodies sizes (c.in_ok-at.ensures.ok tells) in
    leaves_now (g.M.Disk.on_disk c.open_shut.new.disk) (IsFile Two issuer bodies) at.nothing_pending at.file

pub returns-clause-any_moment : goal.returns-clause-any_moment
returns-clause-any_moment g c = λ tells sizes.
    let issuer = c.args.state.now.issuer in
    let bodies = bodies_of Two c.args.state.now.entries in
    follows _ _ _ (IsHeldShut issuer) (IsShutOrWhole issuer bodies) (IsShutOrWhole issuer bodies)
    (c.write_entries.ensures.any_moment tells)
    (c.open_shut.ensures.any_moment tells Two issuer bodies sizes (c.in_ok-at.ensures.ok tells)) (λ f held. inl held) (λ f whole. whole)

pub returns-in_err-open_shut-clause-any_moment : goal.returns-in_err-open_shut-clause-any_moment
returns-in_err-open_shut-clause-any_moment g c = λ tells sizes.
    let issuer = c.args.state.now.issuer in
    let bodies = bodies_of Two c.args.state.now.entries in
    follows _ _ _ (IsHeldShut issuer) (IsShutOrWhole issuer bodies) (IsShutOrWhole issuer bodies)
    (c.write_entries.ensures.any_moment tells)
    (c.open_shut.ensures.any_moment tells Two issuer bodies sizes (c.in_ok-at.ensures.ok tells)) (λ f held. inl held) (λ f whole. whole)

pub returns-in_err-at-clause-never_loses : goal.returns-in_err-at-clause-never_loses
returns-in_err-at-clause-never_loses g c = λ tells sizes.
    shut_loses_none Two c.args.state.now.issuer _ _ (c.write_entries.ensures.any_moment tells)

pub returns-in_err-open_shut-clause-never_loses : goal.returns-in_err-open_shut-clause-never_loses
returns-in_err-open_shut-clause-never_loses g c = λ tells sizes.
    let issuer = c.args.state.now.issuer in
    let bodies = bodies_of Two c.args.state.now.entries in
    let writing = c.in_ok-at.ensures.ok tells in
    frames_follow _ _ _ (run_of (c.write_entries.ensures.any_moment tells))
    (run_of (c.open_shut.ensures.any_moment tells Two issuer bodies sizes writing))
    (shut_loses_none Two issuer _ _ (c.write_entries.ensures.any_moment tells))
    (c.open_shut.ensures.never_loses tells Two issuer bodies sizes writing)

pub returns-clause-never_loses : goal.returns-clause-never_loses
returns-clause-never_loses g c = λ tells sizes.
    let issuer = c.args.state.now.issuer in
    let bodies = bodies_of Two c.args.state.now.entries in
    let writing = c.in_ok-at.ensures.ok tells in
    frames_follow _ _ _ (run_of (c.write_entries.ensures.any_moment tells))
    (run_of (c.open_shut.ensures.any_moment tells Two issuer bodies sizes writing))
    (shut_loses_none Two issuer _ _ (c.write_entries.ensures.any_moment tells))
    (c.open_shut.ensures.never_loses tells Two issuer bodies sizes writing)
