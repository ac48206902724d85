use Rattle.journal.specs.File.{IsNotBegun}
use Rattle.journal.proofs.Losing.{no_chain_to_lose, not_begun_no_chain}
use Rattle.journal.proofs.Creations.{creating, created, empty_content, creation_takes, creation_never_loses}
use Rattle.journal.proofs.creation.set_up.Goals as goal

pub returns-in_err-commit-clause-any_moment : goal.returns-in_err-commit-clause-any_moment
returns-in_err-commit-clause-any_moment g c = λ tells.
    let shut = c.in_ok-shut_first.ensures.ok tells in
    creating c.args.version c.args.issuer.now c.header_bytes-bytes.result c.header_bytes-bytes.ensures.nif
    c.header_bytes-bytes.ensures.bytes
    (g.D.Disk.on_disk c.args.disk.now) (g.D.Disk.on_disk c.shut_first.new.disk) (g.D.Disk.on_disk c.commit.new.disk)
    (c.shut_first.ensures.any_moment tells) shut (c.commit.ensures.any_moment tells shut.nothing_pending)

pub returns-clause-any_moment : goal.returns-clause-any_moment
returns-clause-any_moment g c = λ tells.
    let shut = c.in_ok-shut_first.ensures.ok tells in
    creating c.args.version c.args.issuer.now c.header_bytes-bytes.result c.header_bytes-bytes.ensures.nif
    c.header_bytes-bytes.ensures.bytes
    (g.D.Disk.on_disk c.args.disk.now) (g.D.Disk.on_disk c.shut_first.new.disk) (g.D.Disk.on_disk c.commit.new.disk)
    (c.shut_first.ensures.any_moment tells) shut (c.commit.ensures.any_moment tells shut.nothing_pending)

pub returns-clause-ok : goal.returns-clause-ok
returns-clause-ok g c = λ tells.
    let shut = c.in_ok-shut_first.ensures.ok tells in
    created c.args.version c.args.issuer.now c.header_bytes-bytes.result c.header_bytes-bytes.ensures.nif
    c.header_bytes-bytes.ensures.bytes
    (g.D.Disk.on_disk c.shut_first.new.disk) (g.D.Disk.on_disk c.commit.new.disk) shut (c.in_ok-commit.ensures.ok tells
    shut.nothing_pending)

pub returns-clause-content : goal.returns-clause-content
returns-clause-content g c = λ tells.
    let shut = c.in_ok-shut_first.ensures.ok tells in
    empty_content c.args.version c.args.issuer.now c.header_bytes-bytes.result c.header_bytes-bytes.ensures.nif
    c.header_bytes-bytes.ensures.bytes (g.D.Disk.on_disk c.shut_first.new.disk) (g.D.Disk.on_disk c.commit.new.disk) shut
    (c.in_ok-commit.ensures.ok tells shut.nothing_pending)

pub returns-clause-moments : goal.returns-clause-moments
returns-clause-moments g c = λ tells.
    creation_takes (g.D.Disk.on_disk c.args.disk.now) (g.D.Disk.on_disk c.shut_first.new.disk) (g.D.Disk.on_disk c.commit.new.disk)
    (c.in_ok-shut_first.ensures.writes tells) (c.in_ok-shut_first.ensures.leaves tells) (c.in_ok-commit.ensures.moments tells)

pub returns-in_err-shut_first-clause-never_loses : goal.returns-in_err-shut_first-clause-never_loses
returns-in_err-shut_first-clause-never_loses g c = λ tells.
    no_chain_to_lose (g.D.Disk.on_disk c.args.disk.now) (g.D.Disk.on_disk c.shut_first.new.disk) IsNotBegun
    (c.shut_first.ensures.any_moment tells) not_begun_no_chain

pub returns-in_err-commit-clause-never_loses : goal.returns-in_err-commit-clause-never_loses
returns-in_err-commit-clause-never_loses g c = λ tells.
    let shut = c.in_ok-shut_first.ensures.ok tells in
    creation_never_loses c.args.version c.args.issuer.now c.header_bytes-bytes.result c.header_bytes-bytes.ensures.nif
    c.header_bytes-bytes.ensures.bytes
    (g.D.Disk.on_disk c.args.disk.now) (g.D.Disk.on_disk c.shut_first.new.disk) (g.D.Disk.on_disk c.commit.new.disk)
    (c.shut_first.ensures.any_moment tells) shut
    (c.commit.ensures.any_moment tells shut.nothing_pending) (c.commit.ensures.before_the_last tells shut.nothing_pending)

pub returns-clause-never_loses : goal.returns-clause-never_loses
returns-clause-never_loses g c = λ tells.
    let shut = c.in_ok-shut_first.ensures.ok tells in
    creation_never_loses c.args.version c.args.issuer.now c.header_bytes-bytes.result c.header_bytes-bytes.ensures.nif
    c.header_bytes-bytes.ensures.bytes
    (g.D.Disk.on_disk c.args.disk.now) (g.D.Disk.on_disk c.shut_first.new.disk) (g.D.Disk.on_disk c.commit.new.disk)
    (c.shut_first.ensures.any_moment tells) shut
    (c.commit.ensures.any_moment tells shut.nothing_pending) (c.commit.ensures.before_the_last tells shut.nothing_pending)
