-- The field text of a record determines what the record states. That days, moments and amounts are determined by their texts
-- is said by the laws of their crates.
use Rattle.std.proofs.Common.{◌≡◌, ℕ, List, ◌++◌, get_or, length, codes, refl, sym, ap, ◌∙◌, arith, append_assoc, ℤ}
use Rattle.std.proofs.lemmas.List.{append_cancel_left}
use Rattle.amounts.specs.Text.{amount_text}
use Rattle.invoice_kinds.specs.Kinds.{kind_text}
use Rattle.stamps.specs.Stamp.{Moment, moment_text_of}
use Rattle.stamps.specs.Text.{date_text_of}
use Rattle.tax_lines.specs.Totals.{cuota, total}
use Rattle.record_fields.specs.declared.records.Alta.{Alta}
use Rattle.record_fields.specs.declared.records.Anulacion.{Anulacion}
use Rattle.record_fields.specs.declared.records.Record.{Record}
use Rattle.record_fields.specs.declared.records.Record.TheVariants as record_of
use Rattle.record_fields.specs.Valid.{IsMoment}
use Rattle.huella.specs.Texts.{joined_fields, joined_cancel, alta_text, anulacion_text, field_text, previous_text}
use Rattle.huella.specs.Stated.{IsStated, SameAlta, SameAnulacion, SameStated}
use Rattle.huella.proofs.Splitting.{same_front, same_end, same_value}
use Rattle.huella.proofs.Values.{length-date_text_of, length-moment_text_of, length-kind_text, kind_text_injective, plain_number}
use Rattle.huella.proofs.Values.{plain_amount, previous_text_injective}

-- what the laws of days, moments and amounts say
pub record TextsDetermine : Type 0 where
  pub day : (n m : ℕ) → date_text_of n ≡ date_text_of m → n ≡ m
  pub moment : (m k : Moment) → IsMoment m → IsMoment k → moment_text_of m ≡ moment_text_of k → m ≡ k
  pub amount : (v w : ℤ) → amount_text v ≡ amount_text w → v ≡ w

-- a text from its first value on, each part before the rest
after_first_name : (issuer num date kind cuota_total importe previous moment : List ℕ)
    → joined_fields issuer num date kind cuota_total importe previous moment
    ≡ codes "IDEmisorFactura=" ++ (issuer ++ (codes "&NumSerieFactura=" ++ (num ++ (codes "&FechaExpedicionFactura=" ++ (date
    ++ (codes "&TipoFactura=" ++ (kind ++ (codes "&CuotaTotal=" ++ (cuota_total ++ (codes "&ImporteTotal=" ++ (importe
    ++ (codes "&Huella=" ++ (previous ++ (codes "&FechaHoraHusoGenRegistro=" ++ moment))))))))))))))
unfolding joined_fields
after_first_name issuer num date kind cuota_total importe previous moment = simp append_assoc

after_first_name_of_cancel : (issuer num date previous moment : List ℕ)
    → joined_cancel issuer num date previous moment
    ≡ codes "IDEmisorFacturaAnulada=" ++ (issuer ++ (codes "&NumSerieFacturaAnulada=" ++ (num
    ++ (codes "&FechaExpedicionFacturaAnulada=" ++ (date ++ (codes "&Huella=" ++ (previous
    ++ (codes "&FechaHoraHusoGenRegistro=" ++ moment))))))))
unfolding joined_cancel
after_first_name_of_cancel issuer num date previous moment = simp append_assoc

-- the last part, with the Huella before it
same_last : (p q : List ℕ) (m k : Moment) → p ++ (codes "&FechaHoraHusoGenRegistro=" ++ moment_text_of m) ≡ q ++
    (codes "&FechaHoraHusoGenRegistro=" ++ moment_text_of k)
    → (p ≡ q) × (moment_text_of m ≡ moment_text_of k)
same_last p q m k e =
    let name = codes "&FechaHoraHusoGenRegistro=" in
    let long : length (name ++ moment_text_of m) ≡ length (name ++ moment_text_of k) =
    omega (arith, length-moment_text_of m, length-moment_text_of k) in
    let same = same_end p q (name ++ moment_text_of m) (name ++ moment_text_of k) long e in
    (same.0, append_cancel_left name (moment_text_of m) (moment_text_of k) same.1)

same_alta : TextsDetermine → (a b : Alta) → IsStated (record_of.Alta a) → IsStated (record_of.Alta b) →
    alta_text a ≡ alta_text b → SameAlta a b
same_alta by a b here there e =
    let grouped = sym (after_first_name _ _ _ _ _ _ _ _) ∙ e ∙ after_first_name _ _ _ _ _ _ _ _ in
    let issuer = same_front a.issuer b.issuer _ _ (here.issuer.nine ∙ sym there.issuer.nine)
    (append_cancel_left (codes "IDEmisorFactura=") _ _ grouped) in
    let num = same_value (codes "&FechaExpedicionFactura") a.id.num b.id.num _ _ refl (plain_number a.id.num here.id.num)
    (plain_number b.id.num there.id.num) (append_cancel_left (codes "&NumSerieFactura=") _ _ issuer.1) in
    let day = same_front (date_text_of a.id.day) (date_text_of b.id.day) _ _ (length-date_text_of a.id.day ∙
    sym (length-date_text_of b.id.day)) num.1 in
    let kind = same_front (kind_text a.draft.kind) (kind_text b.draft.kind) _ _ (length-kind_text a.draft.kind ∙
    sym (length-kind_text b.draft.kind)) (append_cancel_left (codes "&TipoFactura=") _ _ day.1) in
    let tax = same_value (codes "&ImporteTotal") (amount_text (cuota a.draft.lines)) (amount_text (cuota b.draft.lines)) _ _ refl
    (plain_amount (cuota a.draft.lines)) (plain_amount (cuota b.draft.lines)) (append_cancel_left (codes "&CuotaTotal=") _ _
    kind.1) in
    let due = same_value (codes "&Huella") (amount_text (total a.draft.lines)) (amount_text (total b.draft.lines)) _ _ refl
    (plain_amount (total a.draft.lines)) (plain_amount (total b.draft.lines)) tax.1 in
    let last = same_last (previous_text a.link) (previous_text b.link) a.moment b.moment due.1 in
    record {
      issuer = issuer.0;
      num = num.0;
      day = by.day _ _ day.0;
      kind = kind_text_injective _ _ kind.0;
      cuota = by.amount _ _ tax.0;
      total = by.amount _ _ due.0;
      before = previous_text_injective a.link b.link here.link there.link last.0;
      moment = by.moment a.moment b.moment here.moment there.moment last.1;
    }

same_anulacion : TextsDetermine → (a b : Anulacion) → IsStated (record_of.Anulacion a) → IsStated (record_of.Anulacion b) →
    anulacion_text a ≡ anulacion_text b → SameAnulacion a b
same_anulacion by a b here there e =
    let grouped = sym (after_first_name_of_cancel _ _ _ _ _) ∙ e ∙ after_first_name_of_cancel _ _ _ _ _ in
    let issuer = same_front a.issuer b.issuer _ _ (here.issuer.nine ∙ sym there.issuer.nine)
    (append_cancel_left (codes "IDEmisorFacturaAnulada=") _ _ grouped) in
    let num = same_value (codes "&FechaExpedicionFacturaAnulada") a.id.num b.id.num _ _ refl (plain_number a.id.num here.id.num)
    (plain_number b.id.num there.id.num) (append_cancel_left (codes "&NumSerieFacturaAnulada=") _ _ issuer.1) in
    let day = same_front (date_text_of a.id.day) (date_text_of b.id.day) _ _ (length-date_text_of a.id.day ∙
    sym (length-date_text_of b.id.day)) num.1 in
    let last = same_last (previous_text a.link) (previous_text b.link) a.moment b.moment (append_cancel_left (codes "&Huella=") _
    _ day.1) in
    record {
      issuer = issuer.0;
      num = num.0;
      day = by.day _ _ day.0;
      before = previous_text_injective a.link b.link here.link there.link last.0;
      moment = by.moment a.moment b.moment here.moment there.moment last.1;
    }

apart : {A : Type 0} (c d : ℕ) → c ≡ d → c ≡ 61 → d ≡ 65 → A
apart c d e sign letter = absurd (omega arith)

-- the first name goes on in an anulación where it ends in an alta
other_sort : {A : Type 0} (a : Alta) (b : Anulacion) → alta_text a ≡ anulacion_text b → A
unfolding joined_fields joined_cancel
other_sort a b e =
    apart (get_or (alta_text a) 15 0) (get_or (anulacion_text b) 15 0) (ap (λ (text : List ℕ). get_or text 15 0) e) refl refl

pub same_record : TextsDetermine → (a b : Record) → IsStated a → IsStated b → field_text a ≡ field_text b → SameStated a b
same_record by (record_of.Alta a) (record_of.Alta b) here there e = same_alta by a b here there e
same_record by (record_of.Anulacion a) (record_of.Anulacion b) here there e = same_anulacion by a b here there e
same_record by (record_of.Alta a) (record_of.Anulacion b) here there e = other_sort a b e
same_record by (record_of.Anulacion a) (record_of.Alta b) here there e = other_sort b a (sym e)
