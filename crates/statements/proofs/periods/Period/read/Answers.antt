use Rattle.std.proofs.Common.{◌≡◌, ap, sym, ◌∙◌, arith}
use Rattle.stamps.specs.declared.civil.CivilDate.{CivilDate}
use Rattle.statements.proofs.Texts.{same_year}
use Rattle.statements.specs.declared.periods.Period.{Period}
use Rattle.statements.specs.declared.periods.Period.TheVariants.{Month, Day}
use Rattle.statements.specs.Periods.{IsPeriod, period_text}
use Rattle.statements.proofs.periods.Period.read.Goals as goal

pub returns-then-date-lt-FIRST_YEAR-clause-none : goal.returns-then-date-lt-FIRST_YEAR-clause-none
returns-then-date-lt-FIRST_YEAR-clause-none c = none
  where
    none : (p : Period) → IsPeriod p → c.args.text.now ≡ period_text p → ⊥
    none (Month month) is e = c.in_default.ensures.none month is e
    none (Day day) is e =
        let year = is.year in
        let same = same_year c.in_ok-day.day day (sym c.in_ok-day.ensures.value ∙ e) in
        let at = ap (λ (date : CivilDate). date.year) c.date.ensures.value in
        let early = c.if-date-lt-FIRST_YEAR.true in
        omega (arith, year, same, at, early)
