use Rattle.std.proofs.Common.{length}
use Rattle.chain_disk.specs.Runs.{on_write_failed, on_sync_failed}
use Rattle.journal.proofs.Wholes.{header_start, header_image, header_written, header_synced, header_sure}
use Rattle.journal.proofs.whole.write_header.Goals as goal

pub returns-in_err-write_at-clause-any_moment : goal.returns-in_err-write_at-clause-any_moment
returns-in_err-write_at-clause-any_moment g c = λ tells.
    let nif = c.header_bytes-bytes.ensures.nif in
    let same = c.header_bytes-bytes.ensures.bytes in
    let t = g.D.Disk.on_disk c.args.disk.now in
    let bytes = c.header_bytes-bytes.result in
    on_write_failed (header_start c.args.version c.args.issuer.now bytes nif same t (c.requires tells)) 1 (length bytes)
    (c.in_err-write_at.ensures.err tells)
    (λ f image. header_image c.args.version c.args.issuer.now bytes nif same t (c.requires tells) f image)

pub returns-in_err-sync-clause-any_moment : goal.returns-in_err-sync-clause-any_moment
returns-in_err-sync-clause-any_moment g c = λ tells.
    let nif = c.header_bytes-bytes.ensures.nif in
    let same = c.header_bytes-bytes.ensures.bytes in
    let t = g.D.Disk.on_disk c.args.disk.now in
    let bytes = c.header_bytes-bytes.result in
    on_sync_failed (header_written c.args.version c.args.issuer.now bytes nif same t (c.requires tells) _ (c.in_ok-write_at.ensures.ok tells))
    (c.in_err-sync.ensures.err tells)
    (λ f image. header_image c.args.version c.args.issuer.now bytes nif same t (c.requires tells) f image)

pub returns-clause-ok : goal.returns-clause-ok
returns-clause-ok g c = λ tells.
    let nif = c.header_bytes-bytes.ensures.nif in
    let same = c.header_bytes-bytes.ensures.bytes in
    let t = g.D.Disk.on_disk c.args.disk.now in
    let bytes = c.header_bytes-bytes.result in
    header_sure c.args.version c.args.issuer.now bytes nif same t (c.requires tells) _
    (header_synced c.args.version c.args.issuer.now bytes nif same t (c.requires tells) _ _ (c.in_ok-write_at.ensures.ok tells)
    (c.in_ok-sync.ensures.ok tells))

pub returns-clause-any_moment : goal.returns-clause-any_moment
returns-clause-any_moment g c = λ tells.
    let nif = c.header_bytes-bytes.ensures.nif in
    let same = c.header_bytes-bytes.ensures.bytes in
    let t = g.D.Disk.on_disk c.args.disk.now in
    let bytes = c.header_bytes-bytes.result in
    (header_synced c.args.version c.args.issuer.now bytes nif same t (c.requires tells) _ _ (c.in_ok-write_at.ensures.ok tells)
    (c.in_ok-sync.ensures.ok tells)).so_far
