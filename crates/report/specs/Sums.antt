-- The sums of one record more.
use Rattle.std.specs.Prelude.{◌+◌, ◌+ℤ◌}
use Rattle.tax_lines.specs.Totals.{bases, cuota}
use Rattle.record_fields.specs.declared.records.Record.{Record}
use Rattle.record_fields.specs.declared.records.Record.TheVariants as record_of
use Rattle.report.specs.declared.summary.Sums.{Sums}

abbrev pub added : Sums → Record → Sums
added s (record_of.Alta a) =
    record s { altas = s.altas + 1; bases = s.bases +ℤ bases a.draft.lines; cuotas = s.cuotas +ℤ cuota a.draft.lines }
added s (record_of.Anulacion a) = record s { anulaciones = s.anulaciones + 1 }
