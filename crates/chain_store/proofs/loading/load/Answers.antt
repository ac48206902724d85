use Rattle.std.proofs.Common.{◌≡◌, ℕ, subst}
use Rattle.shop_core.specs.File.Files.{IsDamagedFile}
use Rattle.shop_core.specs.File.Reading.{IsRead}
use Rattle.shop_core.specs.declared.file.reading.FileRead.{FileRead}
use Rattle.chain_store.proofs.Loads.{loaded_none, loaded_sound}
use Rattle.chain_store.proofs.loading.load.Goals as goal

pub returns-in-Ok-NotBegun-clause-content : goal.returns-in-Ok-NotBegun-clause-content
returns-in-Ok-NotBegun-clause-content g c tells =
    let file = (g.D.Disk.on_disk c.args.disk.now).content in
    loaded_none file (subst (λ (r : FileRead). IsRead file r) c.in-Ok-NotBegun.field-0-is (c.in-Ok-NotBegun.ensures.read tells))

pub returns-in-Ok-Sound-clause-content : goal.returns-in-Ok-Sound-clause-content
returns-in-Ok-Sound-clause-content g c tells =
    let file = (g.D.Disk.on_disk c.args.disk.now).content in
    loaded_sound file c.in-Ok-Sound.state c.in-Ok-Sound.end
    (subst (λ (r : FileRead). IsRead file r) c.in-Ok-Sound.field-0-is (c.in-Ok-Sound.ensures.read tells))

pub returns-in-Ok-Broken-clause-damaged : goal.returns-in-Ok-Broken-clause-damaged
returns-in-Ok-Broken-clause-damaged g c byte is tells =
    let file = (g.D.Disk.on_disk c.args.disk.now).content in
    let at : c.in-Ok-Broken.at ≡ byte = cc in
    subst (λ (b : ℕ). IsDamagedFile file b) at
    (c.a_broken_file_is_damaged.ensures file _ c.in-Ok-Broken.at _
    (subst (λ (r : FileRead). IsRead file r) c.in-Ok-Broken.field-0-is (c.in-Ok-Broken.ensures.read tells)))
