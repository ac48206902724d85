use Rattle.std.proofs.Common.{◌≡◌, ℕ, List, [], refl, sym, ◌∙◌, subst, arith, Bool, IsTrue, Option, None}
use Rattle.chain_disk.specs.OnDisk.{OnDisk}
use Rattle.journal.specs.File.{IsAt}
use Rattle.journal.specs.Journal.{disk_of, end_of, stopped_of}
use Rattle.record_fields.specs.declared.versions.Version.TheVariants.{Two}
use Rattle.shop_core.specs.History.{History}
use Rattle.chain_store.specs.Ready.{IsReady}
use Rattle.shop_tests.proofs.tills.begun.Goals as goal

ready_empty : (tells : Bool) (issuer : List ℕ) (history : History) (stopped : Option ℕ) (gate : ℕ) (t : OnDisk) →
    history ≡ record { issuer = issuer; version = Two; entries = []; room = None } →
    gate ≡ 19 → (IsTrue tells → IsAt Two issuer [] gate t) → IsReady tells history stopped gate t
ready_empty tells issuer history stopped gate t made at file = subst (λ (h : History). IsReady tells h stopped gate t) (sym made)
    (record {
      place = omega arith;
      holds = λ going told. record { file = file told; encoded = tt };
    })

pub of-requires-clause-ready : goal.of-requires-clause-ready
of-requires-clause-ready g c =
    ready_empty g.D.Disk.tells c.in-Ok.issuer c.empty-state.result _ _ _ c.empty-state.ensures c.in-Ok-create.ensures.place
    c.in-Ok-create.ensures.empty

pub returns-in-Ok-create-clause-ready : goal.returns-in-Ok-create-clause-ready
returns-in-Ok-create-clause-ready g c =
    let parts = c.of.ensures.parts in
    subst (λ (j : _). IsReady g.D.Disk.tells c.of.result.state (stopped_of j) (end_of j) (g.D.Disk.on_disk (disk_of j)))
    (sym parts.1)
    (ready_empty g.D.Disk.tells c.in-Ok.issuer c.of.result.state _ _ _ (parts.0 ∙ c.empty-state.ensures)
    c.in-Ok-create.ensures.place c.in-Ok-create.ensures.empty)
