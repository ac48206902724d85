-- The table of judgements, with its rows on the register read at once.
use Rattle.std.proofs.Common.{◌≡◌, [], ◌∷◌, refl, Option, Some, None, option_map, Bool, true, false, not, ◌&&◌, unwrap_or}
use Rattle.record_fields.specs.Picks.{first_of, when}
use Rattle.record_fields.specs.declared.lines.Line.{Line}
use Rattle.record_fields.specs.declared.lines.Line.TheVariants.{Correcto, Incorrecto}
use Rattle.record_fields.specs.declared.lines.Cause.{Cause}
use Rattle.record_fields.specs.declared.lines.Cause.TheVariants as cause
use Rattle.record_fields.specs.declared.records.Record.{Record}
use Rattle.record_fields.specs.declared.records.Record.TheVariants as record_of
use Rattle.agency_rules.specs.declared.judging.Past.{Past}
use Rattle.agency_rules.specs.declared.plans.Verdict.{Verdict}
use Rattle.agency_rules.specs.Judging.{judge, vetted, warned, is_x}
use Rattle.agency_rules.specs.Clashes.{alta_clash, anulacion_clash, clash}

-- four rows
abbrev pub short : Option Line → Bool → Option Cause → Option Line → Line
short vet gone why warn = unwrap_or (first_of (vet ∷ when gone (Incorrecto cause.Gone) ∷ option_map (λ (w : Cause). Incorrecto w)
    why ∷ warn ∷ [])) Correcto

-- the rows of a record that is a new alta, one that mends an unheld or a held invoice, or one that cancels such a one
abbrev long : Option Line → Bool → Bool → Bool → Bool → Bool → Bool → Bool → Option Line → Line
long vet gone held new mends_unheld mends_held cancels_unheld cancels_held warn = unwrap_or (first_of (
    vet
    ∷ when gone (Incorrecto cause.Gone)
    ∷ when (new && held) (Incorrecto cause.Held)
    ∷ when (mends_unheld && held) (Incorrecto cause.Held)
    ∷ when (mends_held && not held) (Incorrecto cause.NotHeld)
    ∷ when (cancels_unheld && held) (Incorrecto cause.Held)
    ∷ when (cancels_held && not held) (Incorrecto cause.NotHeld)
    ∷ warn
    ∷ [])) Correcto

alta_rows : (vet : Option Line) (gone held sub x : Bool) (warn : Option Line) →
    long vet gone held (not sub) (sub && x) (sub && not x) false false warn ≡ short vet gone (alta_clash held sub x) warn
alta_rows (Some line) gone held sub x warn = refl
alta_rows None true held sub x warn = refl
alta_rows None false true true true warn = refl
alta_rows None false true true false warn = refl
alta_rows None false true false true warn = refl
alta_rows None false true false false warn = refl
alta_rows None false false true true warn = refl
alta_rows None false false true false warn = refl
alta_rows None false false false true warn = refl
alta_rows None false false false false warn = refl

anulacion_rows : (vet : Option Line) (gone held sin : Bool) (warn : Option Line) →
    long vet gone held false false false sin (not sin) warn ≡ short vet gone (anulacion_clash held sin) warn
anulacion_rows (Some line) gone held sin warn = refl
anulacion_rows None true held sin warn = refl
anulacion_rows None false true true warn = refl
anulacion_rows None false true false warn = refl
anulacion_rows None false false true warn = refl
anulacion_rows None false false false warn = refl

pub judged_shortly : (past : Past) (verdict : Option Verdict) (body : Record) →
    judge past verdict body ≡ short (vetted verdict) past.gone (clash past.held body) (warned verdict)
judged_shortly past verdict (record_of.Alta a) = alta_rows (vetted verdict) past.gone past.held a.subsanacion (is_x a.rechazo)
    (warned verdict)
judged_shortly past verdict (record_of.Anulacion a) = anulacion_rows (vetted verdict) past.gone past.held a.sin_registro
    (warned verdict)

-- a record without a vet, by the rows after it
pub judged_gone : (past : Past) (verdict : Option Verdict) (body : Record) → vetted verdict ≡ None → past.gone ≡ true →
    Incorrecto cause.Gone ≡ judge past verdict body
judged_gone past verdict body v g = rw (judged_shortly past verdict body, v, g) refl

pub judged_clash : (past : Past) (verdict : Option Verdict) (body : Record) (why : Cause) → vetted verdict ≡ None →
    past.gone ≡ false →
    clash past.held body ≡ Some why → Incorrecto why ≡ judge past verdict body
judged_clash past verdict body why v g k = rw (judged_shortly past verdict body, v, g, k) refl

pub judged_warned : (past : Past) (verdict : Option Verdict) (body : Record) (warn : Option Line) → vetted verdict ≡ None →
    past.gone ≡ false →
    clash past.held body ≡ None → warned verdict ≡ warn → unwrap_or (first_of (warn ∷ [])) Correcto ≡ judge past verdict body
judged_warned past verdict body warn v g k w = rw (judged_shortly past verdict body, v, g, k, w) refl
