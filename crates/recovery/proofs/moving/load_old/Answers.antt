use Rattle.std.proofs.Common.{subst, sym}
use Rattle.record_fields.specs.declared.versions.Version.{Version}
use Rattle.shop_core.specs.File.Files.{StandsFor}
use Rattle.chain_store.specs.Loading.{IsLoaded}
use Rattle.chain_store.specs.declared.loading.Loaded.{Loaded}
use Rattle.recovery.specs.Causes.IsNotOld.{newer, not_begun}
use Rattle.recovery.proofs.moving.load_old.Goals as goal

pub returns-in-Two-clause-cause : goal.returns-in-Two-clause-cause
returns-in-Two-clause-cause g c = λ tells.
    let file = (g.D.Disk.on_disk c.args.old.now).content in
    let state = c.in-Ok-Begun.state in
    let loaded = subst (λ (l : Loaded). IsLoaded file l) c.in-Ok-Begun.field-0-is (c.in-Ok-Begun.ensures.content tells) in
    newer state.issuer state.entries
    (subst (λ (v : Version). StandsFor v state.issuer state.entries file) (sym c.in-Two.ensures) loaded.0)

pub returns-in-Ok-NotBegun-clause-cause : goal.returns-in-Ok-NotBegun-clause-cause
returns-in-Ok-NotBegun-clause-cause g c = λ tells.
    let file = (g.D.Disk.on_disk c.args.old.now).content in
    not_begun (subst (λ (l : Loaded). IsLoaded file l) c.in-Ok-NotBegun.field-0-is (c.in-Ok-NotBegun.ensures.content tells))
