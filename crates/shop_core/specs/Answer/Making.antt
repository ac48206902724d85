-- The record that a request makes at a history. When Subsanacion, RechazoPrevio and SinRegistroPrevio are written is this
-- project's own; the link and the Huella are the tax agency's.
use Rattle.std.specs.Prelude.{ℕ, ◌+◌, List, max, not, ◌&&◌, true, false, if◌then◌else◌}
use Rattle.stamps.specs.Stamp.{moment_at, civil_day_of}
use Rattle.series.specs.Numbers.{number_text}
use Rattle.record_fields.specs.declared.records.Alta.{Alta}
use Rattle.record_fields.specs.declared.records.Anulacion.{Anulacion}
use Rattle.record_fields.specs.declared.drafts.Draft.{Draft}
use Rattle.record_fields.specs.declared.records.Record.{Record}
use Rattle.record_fields.specs.declared.records.Record.TheVariants as record_of
use Rattle.record_fields.specs.declared.records.Previo.{Previo}
use Rattle.record_fields.specs.declared.records.Previo.TheVariants as previo
use Rattle.record_fields.specs.declared.records.Sealed.{Sealed}
use Rattle.huella.specs.Texts.{sealed_of}
use Rattle.record_codec.specs.declared.entry.Entry.{Entry}
use Rattle.shop_core.specs.History.{recs, sales_in, next_link, last_seconds}
use Rattle.shop_core.specs.Standing.{is_held, ends_in_refused_alta, ends_in_refused_anulacion, day_of}
use Rattle.shop_core.specs.declared.answer.requests.Request.{Request}
use Rattle.shop_core.specs.declared.answer.requests.Request.TheVariants.{Sale, Fix, Cancel}

-- the alta of a sale
abbrev pub sale_alta : List ℕ → List Entry → List ℕ → Draft → ℕ → Alta
sale_alta issuer entries series draft seconds = record {
  issuer = issuer;
  id = record { num = number_text series (sales_in (recs entries) series + 1); day = civil_day_of (moment_at seconds) };
  draft = draft;
  subsanacion = false;
  rechazo = previo.N;
  link = next_link entries;
  moment = moment_at seconds;
}

-- RechazoPrevio of a fix
abbrev pub fix_rechazo : List Entry → List ℕ → Previo
fix_rechazo entries num =
    if is_held entries num then (if ends_in_refused_alta entries num then previo.S else previo.N) else previo.X

-- the alta of a fix
abbrev pub fix_alta : List ℕ → List Entry → List ℕ → Draft → ℕ → Alta
fix_alta issuer entries num draft seconds = record {
  issuer = issuer;
  id = record { num = num; day = day_of entries num };
  draft = draft;
  subsanacion = true;
  rechazo = fix_rechazo entries num;
  link = next_link entries;
  moment = moment_at seconds;
}

-- the anulación of a cancel
abbrev pub cancel_anulacion : List ℕ → List Entry → List ℕ → ℕ → Anulacion
cancel_anulacion issuer entries num seconds = record {
  issuer = issuer;
  id = record { num = num; day = day_of entries num };
  sin_registro = not (is_held entries num);
  rechazo = is_held entries num && ends_in_refused_anulacion entries num;
  link = next_link entries;
  moment = moment_at seconds;
}

-- the record that a request makes at these seconds
abbrev pub record_at : List ℕ → List Entry → Request → ℕ → Record
record_at issuer entries (Sale series draft) seconds = record_of.Alta (sale_alta issuer entries series draft seconds)
record_at issuer entries (Fix num draft) seconds = record_of.Alta (fix_alta issuer entries num draft seconds)
record_at issuer entries (Cancel num) seconds = record_of.Anulacion (cancel_anulacion issuer entries num seconds)

-- the record that a request makes, sealed; moments never fall
abbrev pub made_sealed : List ℕ → List Entry → Request → ℕ → Sealed
made_sealed issuer entries request seconds = sealed_of (record_at issuer entries request (max seconds (last_seconds entries)))
