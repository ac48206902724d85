-- Why the register refuses a record, as the code reads it: by whether the invoice is held and what the record's flags say.
use Rattle.std.specs.Prelude.{Option, Some, None, Bool, true, false}
use Rattle.record_fields.specs.declared.lines.Cause.{Cause}
use Rattle.record_fields.specs.declared.lines.Cause.TheVariants.{Held, NotHeld}
use Rattle.record_fields.specs.declared.records.Record.{Record}
use Rattle.record_fields.specs.declared.records.Record.TheVariants as record_of
use Rattle.agency_rules.specs.Judging.{is_x}

-- of an alta with this Subsanacion, and whether its RechazoPrevio is X
abbrev pub alta_clash : Bool → Bool → Bool → Option Cause
alta_clash true false x = Some Held
alta_clash true true true = Some Held
alta_clash true true false = None
alta_clash false false x = None
alta_clash false true true = None
alta_clash false true false = Some NotHeld

-- of an anulación with this SinRegistroPrevio
abbrev pub anulacion_clash : Bool → Bool → Option Cause
anulacion_clash true true = Some Held
anulacion_clash true false = None
anulacion_clash false true = None
anulacion_clash false false = Some NotHeld

abbrev pub clash : Bool → Record → Option Cause
clash held (record_of.Alta a) = alta_clash held a.subsanacion (is_x a.rechazo)
clash held (record_of.Anulacion a) = anulacion_clash held a.sin_registro
