use Rattle.std.proofs.Common.{◌≡◌, ◌/◌, ◌%◌, ◌+◌, ◌*◌, sym, ◌∙◌, ap, arith, subst, true, false}
use Rattle.std.proofs.lemmas.Bool.Decides.{Decides-eqb}
use Rattle.std.proofs.lemmas.Slice.Eq.{slice_eq-Decides}
use Rattle.statements.specs.Months.{IsMonth, month_text}
use Rattle.statements.proofs.Texts.{month_bytes, same_month}
use Rattle.statements.proofs.months.Month.read.Goals as goal

pub returns-then-bytes-ne7-clause-none : goal.returns-then-bytes-ne7-clause-none
returns-then-bytes-ne7-clause-none c = λ m h e.
    let is = month_bytes c.as_bytes-bytes.result.now m (c.as_bytes-bytes.ensures.value ∙ e) in
    omega (arith, is.seven)

pub returns-in_err-month-clause-none : goal.returns-in_err-month-clause-none
returns-in_err-month-clause-none c = rw c.from_residual.ensures (λ m h e.
    let is = month_bytes c.as_bytes-bytes.result.now m (c.as_bytes-bytes.ensures.value ∙ e) in
    let most = h.month in
    c.in_err-month.ensures.none m.month (omega (arith, most)) is.month_tens is.month_ones)

pub returns-in_err-century-clause-none : goal.returns-in_err-century-clause-none
returns-in_err-century-clause-none c = rw c.from_residual-in_err-century.ensures (λ m h e.
    let is = month_bytes c.as_bytes-bytes.result.now m (c.as_bytes-bytes.ensures.value ∙ e) in
    let most = h.year in
    c.in_err-century.ensures.none (m.year / 100) (omega (arith, most)) is.thousands is.hundreds)

pub returns-in_err-year-clause-none : goal.returns-in_err-year-clause-none
returns-in_err-year-clause-none c = rw c.from_residual-in_err-year.ensures (λ m h e.
    let is = month_bytes c.as_bytes-bytes.result.now m (c.as_bytes-bytes.ensures.value ∙ e) in
    c.in_err-year.ensures.none (m.year % 100) (omega arith) is.tens is.ones)

pub returns-in_err-read-clause-none : goal.returns-in_err-read-clause-none
returns-in_err-read-clause-none c = rw c.from_residual-in_err-read.ensures (λ m h e.
    let is = month_bytes c.as_bytes-bytes.result.now m (c.as_bytes-bytes.ensures.value ∙ e) in
    let same : record { year = c.from.result * 100 + c.from-2.result; month = c.in_ok-month.month } ≡ m =
    same_month c.as_bytes-bytes.result.now m c.in_ok-month.month c.from.result c.from-2.result is
    c.in_ok-month.ensures.tens c.in_ok-month.ensures.ones
    (rw c.from.ensures c.in_ok-century.ensures.tens) (rw c.from.ensures c.in_ok-century.ensures.ones)
    (rw c.from-2.ensures c.in_ok-year.ensures.tens) (rw c.from-2.ensures c.in_ok-year.ensures.ones) in
    let none : false ≡ true = c.in_err-read.ensures.valid.1 (subst IsMonth (sym same) h) in
    cc)

pub returns-else-eq-clause-none : goal.returns-else-eq-clause-none
returns-else-eq-clause-none c = λ m h e.
    let is = month_bytes c.as_bytes-bytes.result.now m (c.as_bytes-bytes.ensures.value ∙ e) in
    let same : record { year = c.from.result * 100 + c.from-2.result; month = c.in_ok-month.month } ≡ m =
    same_month c.as_bytes-bytes.result.now m c.in_ok-month.month c.from.result c.from-2.result is
    c.in_ok-month.ensures.tens c.in_ok-month.ensures.ones
    (rw c.from.ensures c.in_ok-century.ensures.tens) (rw c.from.ensures c.in_ok-century.ensures.ones)
    (rw c.from-2.ensures c.in_ok-year.ensures.tens) (rw c.from-2.ensures c.in_ok-year.ensures.ones) in
    let text : c.text.result ≡ c.as_bytes-bytes.result.now =
    c.text.ensures ∙ ap month_text (c.in_ok-read.ensures.value ∙ same) ∙ sym (c.as_bytes-bytes.ensures.value ∙ e) in
    let same_text : c.as_slice.result.now ≡ c.as_bytes-bytes.result.now = c.as_slice.ensures ∙ text in
    let equal = (slice_eq-Decides Decides-eqb c.as_slice.result.now c.as_bytes-bytes.result.now c.eq.result c.eq.ensures).1
    same_text in
    cc (equal, c.if-eq.false)
