use Rattle.chain_store.specs.Losing.{sync_failed_loses_none}
use Rattle.recovery.proofs.Entries.{bodies_in_two}
use Rattle.recovery.proofs.Losing.{prepared_loses_none, rewritten_loses_none}
use Rattle.recovery.proofs.Moves.{kept_synced, prepared, rewritten, shut_before, sync_lost, whole_file}
use Rattle.recovery.proofs.moving.move_state.Goals as goal

pub returns-in_err-sync-clause-any_moment : goal.returns-in_err-sync-clause-any_moment
returns-in_err-sync-clause-any_moment g c = λ tells file stands.
    sync_lost c.args.state.now.issuer c.args.state.now.entries (g.M.Disk.on_disk c.args.disk.now) _ (c.in_err-sync.ensures.err tells)

pub returns-in_err-prepare-clause-any_moment : goal.returns-in_err-prepare-clause-any_moment
returns-in_err-prepare-clause-any_moment g c = λ tells file stands.
    prepared c.args.state.now.issuer c.args.state.now.entries (g.M.Disk.on_disk c.args.disk.now)
    (g.met.M.Disk.reads_an_image c.args.disk.now tells) _ _ _ c.issuer.ensures (c.in_ok-sync.ensures.ok tells)
    (c.prepare.ensures.any_moment tells)

pub returns-clause-ok : goal.returns-clause-ok
returns-clause-ok g c = λ tells file stands f left.
    let issuer = c.args.state.now.issuer in
    let entries = c.args.state.now.entries in
    whole_file issuer entries file f c.a_legal_history_is_legal_in_version_two.ensures stands (c.in_ok-rewrite.ensures.ok tells
    (bodies_in_two issuer entries c.an_encoding_is_a_body.ensures stands.encoded) f left)

pub returns-clause-any_moment : goal.returns-clause-any_moment
returns-clause-any_moment g c = λ tells file stands.
    let issuer = c.args.state.now.issuer in
    let entries = c.args.state.now.entries in
    let t = g.M.Disk.on_disk c.args.disk.now in
    rewritten issuer entries t c.a_legal_history_is_legal_in_version_two.ensures file stands
    (shut_before issuer entries t _ _ c.issuer.ensures (c.in_ok-sync.ensures.ok tells) (c.in_ok-prepare.ensures.free tells)) _ _
    (prepared issuer entries t (g.met.M.Disk.reads_an_image c.args.disk.now tells) _ _ _ c.issuer.ensures
    (c.in_ok-sync.ensures.ok tells) (c.prepare.ensures.any_moment tells))
    (c.rewrite.ensures.any_moment tells (bodies_in_two issuer entries c.an_encoding_is_a_body.ensures stands.encoded))

pub returns-in_err-rewrite-clause-any_moment : goal.returns-in_err-rewrite-clause-any_moment
returns-in_err-rewrite-clause-any_moment g c = λ tells file stands.
    let issuer = c.args.state.now.issuer in
    let entries = c.args.state.now.entries in
    let t = g.M.Disk.on_disk c.args.disk.now in
    rewritten issuer entries t c.a_legal_history_is_legal_in_version_two.ensures file stands
    (shut_before issuer entries t _ _ c.issuer.ensures (c.in_ok-sync.ensures.ok tells) (c.in_ok-prepare.ensures.free tells)) _ _
    (prepared issuer entries t (g.met.M.Disk.reads_an_image c.args.disk.now tells) _ _ _ c.issuer.ensures
    (c.in_ok-sync.ensures.ok tells) (c.prepare.ensures.any_moment tells))
    (c.rewrite.ensures.any_moment tells (bodies_in_two issuer entries c.an_encoding_is_a_body.ensures stands.encoded))

pub returns-in_err-prepare-clause-kept : goal.returns-in_err-prepare-clause-kept
returns-in_err-prepare-clause-kept g c = λ tells.
    kept_synced c.args.state.now.issuer c.args.state.now.entries (g.M.Disk.on_disk c.args.disk.now) _ _ _ c.issuer.ensures
    (c.in_ok-sync.ensures.ok tells) (c.prepare.ensures.kept tells)

pub returns-in_err-rewrite-clause-kept : goal.returns-in_err-rewrite-clause-kept
returns-in_err-rewrite-clause-kept g c = λ tells apart.
    absurd (apart (shut_before c.args.state.now.issuer c.args.state.now.entries (g.M.Disk.on_disk c.args.disk.now) _ _
    c.issuer.ensures (c.in_ok-sync.ensures.ok tells) (c.in_ok-prepare.ensures.free tells)))

pub returns-clause-kept : goal.returns-clause-kept
returns-clause-kept g c = λ tells apart.
    absurd (apart (shut_before c.args.state.now.issuer c.args.state.now.entries (g.M.Disk.on_disk c.args.disk.now) _ _
    c.issuer.ensures (c.in_ok-sync.ensures.ok tells) (c.in_ok-prepare.ensures.free tells)))

pub returns-in_err-sync-clause-never_loses : goal.returns-in_err-sync-clause-never_loses
returns-in_err-sync-clause-never_loses g c = λ tells file stands.
    sync_failed_loses_none (g.M.Disk.on_disk c.args.disk.now) _ (c.in_err-sync.ensures.err tells)

pub returns-in_err-prepare-clause-never_loses : goal.returns-in_err-prepare-clause-never_loses
returns-in_err-prepare-clause-never_loses g c = λ tells file stands.
    prepared_loses_none (g.M.Disk.on_disk c.args.disk.now) _ _ _ (c.in_ok-sync.ensures.ok tells)
    (g.met.M.Disk.reads_an_image c.args.disk.now tells) (c.prepare.ensures.any_moment tells)

pub returns-in_err-rewrite-clause-never_loses : goal.returns-in_err-rewrite-clause-never_loses
returns-in_err-rewrite-clause-never_loses g c = λ tells file stands.
    let issuer = c.args.state.now.issuer in
    let entries = c.args.state.now.entries in
    let sizes = bodies_in_two issuer entries c.an_encoding_is_a_body.ensures stands.encoded in
    rewritten_loses_none c.a_file_has_one_meaning.ensures.history c.a_legal_history_is_legal_in_version_two.ensures issuer entries file
    stands (g.M.Disk.on_disk c.args.disk.now) _ _
    (prepared_loses_none (g.M.Disk.on_disk c.args.disk.now) _ _ _ (c.in_ok-sync.ensures.ok tells)
    (g.met.M.Disk.reads_an_image c.args.disk.now tells) (c.prepare.ensures.any_moment tells))
    (c.rewrite.ensures.any_moment tells sizes) (c.rewrite.ensures.never_loses tells sizes)

pub returns-clause-never_loses : goal.returns-clause-never_loses
returns-clause-never_loses g c = λ tells file stands.
    let issuer = c.args.state.now.issuer in
    let entries = c.args.state.now.entries in
    let sizes = bodies_in_two issuer entries c.an_encoding_is_a_body.ensures stands.encoded in
    rewritten_loses_none c.a_file_has_one_meaning.ensures.history c.a_legal_history_is_legal_in_version_two.ensures issuer entries file
    stands (g.M.Disk.on_disk c.args.disk.now) _ _
    (prepared_loses_none (g.M.Disk.on_disk c.args.disk.now) _ _ _ (c.in_ok-sync.ensures.ok tells)
    (g.met.M.Disk.reads_an_image c.args.disk.now tells) (c.prepare.ensures.any_moment tells))
    (c.rewrite.ensures.any_moment tells sizes) (c.rewrite.ensures.never_loses tells sizes)
