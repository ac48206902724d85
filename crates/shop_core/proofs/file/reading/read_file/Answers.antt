use Rattle.std.proofs.Common.{subst}
use Rattle.journal.specs.Header.{IsHeader}
use Rattle.journal.specs.declared.reading.Header.{Header}
use Rattle.shop_core.specs.File.Reading.IsRead.{not_begun, in_header}
use Rattle.shop_core.proofs.file.reading.read_file.Goals as goal

pub returns-in-Damaged-clause-read : goal.returns-in-Damaged-clause-read
returns-in-Damaged-clause-read g c tells =
    let file = (g.D.Disk.on_disk c.args.disk.now).content in
    in_header c.in-Damaged.at (subst (λ (h : Header). IsHeader file h) c.in-Damaged.is (c.in-Ok.ensures.header tells))

pub returns-in-NotBegun-clause-read : goal.returns-in-NotBegun-clause-read
returns-in-NotBegun-clause-read g c tells =
    let file = (g.D.Disk.on_disk c.args.disk.now).content in
    not_begun (subst (λ (h : Header). IsHeader file h) c.in-NotBegun.is (c.in-Ok.ensures.header tells))
