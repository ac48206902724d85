-- The bytes of a month's text, and of a day's.
use Rattle.std.proofs.Common.{◌≡◌, ℕ, ◌+◌, ◌*◌, ◌/◌, ◌%◌, List, get_or, length, refl, ap, sym, ◌∙◌, arith}
use Rattle.stamps.specs.Day.{date_at}
use Rattle.stamps.specs.Text.{date_text_of}
use Rattle.stamps.proofs.TextLemmas.{date_text_of_injective, digits_injective}
use Rattle.statements.specs.Months.{YearMonth, month_text}

pub record IsMonthText (xs : List ℕ) (m : YearMonth) : Type 0 where
  pub month_tens : get_or xs 0 0 ≡ 48 + m.month / 10
  pub month_ones : get_or xs 1 0 ≡ 48 + m.month % 10
  pub thousands : get_or xs 3 0 ≡ 48 + m.year / 100 / 10
  pub hundreds : get_or xs 4 0 ≡ 48 + m.year / 100 % 10
  pub tens : get_or xs 5 0 ≡ 48 + m.year % 100 / 10
  pub ones : get_or xs 6 0 ≡ 48 + m.year % 100 % 10
  pub seven : length xs ≡ 7

pub month_bytes : (xs : List ℕ) (m : YearMonth) → xs ≡ month_text m → IsMonthText xs m
unfolding month_text
month_bytes xs m e = rw e record {
  month_tens = refl;
  month_ones = refl;
  thousands = refl;
  hundreds = refl;
  tens = refl;
  ones = refl;
  seven = refl;
}

-- the month whose digits stand in a month's text is that month
pub same_month : (xs : List ℕ) (m : YearMonth) (month century year : ℕ) → IsMonthText xs m →
    get_or xs 0 0 ≡ 48 + month / 10 → get_or xs 1 0 ≡ 48 + month % 10 → get_or xs 3 0 ≡ 48 + century / 10 →
    get_or xs 4 0 ≡ 48 + century % 10 → get_or xs 5 0 ≡ 48 + year / 10 → get_or xs 6 0 ≡ 48 + year % 10 →
    record { year = century * 100 + year; month = month } ≡ m
same_month xs m month century year is a b c d e f =
    let month-is = digits_injective m.month month (sym is.month_tens ∙ a) (sym is.month_ones ∙ b) in
    let century-is = digits_injective (m.year / 100) century (sym is.thousands ∙ c) (sym is.hundreds ∙ d) in
    let year-is = digits_injective (m.year % 100) year (sym is.tens ∙ e) (sym is.ones ∙ f) in
    let whole : m.year ≡ century * 100 + year = omega arith in
    rw (← whole, ← month-is) refl

-- days that are written alike have one year
pub same_year : (a b : ℕ) → date_text_of a ≡ date_text_of b → (date_at a).year ≡ (date_at b).year
same_year a b e = ap (λ (day : ℕ). (date_at day).year) (date_text_of_injective a b e)
