use Rattle.std.proofs.Common.{◌≡◌, ap}
use Rattle.serde_json.specs.View.{view}
use Rattle.record_fields.specs.Records.{issuer_of}
use Rattle.record_fields.specs.declared.versions.Version.{Version}
use Rattle.record_fields.specs.declared.records.Alta.{Alta}
use Rattle.record_fields.specs.declared.records.Anulacion.{Anulacion}
use Rattle.record_fields.specs.declared.records.Record.{Record}
use Rattle.record_fields.specs.declared.records.Record.TheVariants as record_of
use Rattle.record_codec.specs.Validity.{IsBody}
use Rattle.export.specs.Fields.{HasBody}
use Rattle.export.proofs.records.body_at.Goals as goal

pub returns-in_ok-alta_at-clause-gives : goal.returns-in_ok-alta_at-clause-gives
returns-in_ok-alta_at-clause-gives c =
    let found : Alta = c.in_ok-alta_at.field-0 in
    λ (version : Version) body. elim body as (λ (k : Record). IsBody version k → issuer_of k ≡ c.args.issuer.now → HasBody k c.args.is_alta (view c.args.value.now) →
    ◌≡◌ {A = Record} (record_of.Alta found) k) [
      | record_of.Alta alta ↦ λ is of has. ap (λ (a : Alta). record_of.Alta a) (c.in_ok-alta_at.ensures.gives version alta is of (rw c.if-is_alta.true at has))
      | record_of.Anulacion anulacion ↦ λ is of has. absurd (rw c.if-is_alta.true at has)
    ]

pub returns-in_ok-anulacion_at-clause-gives : goal.returns-in_ok-anulacion_at-clause-gives
returns-in_ok-anulacion_at-clause-gives c =
    let found : Anulacion = c.in_ok-anulacion_at.field-0 in
    λ (version : Version) body. elim body as (λ (k : Record). IsBody version k → issuer_of k ≡ c.args.issuer.now → HasBody k c.args.is_alta (view c.args.value.now) →
    ◌≡◌ {A = Record} (record_of.Anulacion found) k) [
      | record_of.Alta alta ↦ λ is of has. absurd (rw c.if-is_alta.false at has)
      | record_of.Anulacion anulacion ↦ λ is of has. ap (λ (a : Anulacion). record_of.Anulacion a) (c.in_ok-anulacion_at.ensures.gives anulacion is of (rw c.if-is_alta.false at has))
    ]
