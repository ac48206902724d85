-- The bytes of a date's text.
use Rattle.std.proofs.Common.{◌≡◌, ℕ, ◌+◌, ◌*◌, ◌/◌, ◌%◌, List, get_or, length, refl, sym, ◌∙◌, subst, pos, arith}
use Rattle.jiff_core.specs.Calendar.{days_from_civil}
use Rattle.stamps.specs.declared.civil.CivilDate.{CivilDate}
use Rattle.stamps.proofs.CivilLemmas.{date_at-is, same_date, pos_injective}
use Rattle.stamps.specs.Day.{date_at, ymd}
use Rattle.stamps.specs.Text.{date_text_of}

-- the digits of a text that is the date's
pub record IsDateText (xs : List ℕ) (n : ℕ) : Type 0 where
  pub day_tens : get_or xs 0 0 ≡ 48 + (date_at n).day / 10
  pub day_ones : get_or xs 1 0 ≡ 48 + (date_at n).day % 10
  pub month_tens : get_or xs 3 0 ≡ 48 + (date_at n).month / 10
  pub month_ones : get_or xs 4 0 ≡ 48 + (date_at n).month % 10
  pub thousands : get_or xs 6 0 ≡ 48 + (date_at n).year / 100 / 10
  pub hundreds : get_or xs 7 0 ≡ 48 + (date_at n).year / 100 % 10
  pub tens : get_or xs 8 0 ≡ 48 + (date_at n).year % 100 / 10
  pub ones : get_or xs 9 0 ≡ 48 + (date_at n).year % 100 % 10
  pub ten : length xs ≡ 10

pub date_text_of-bytes : (xs : List ℕ) (n : ℕ) → xs ≡ date_text_of n → IsDateText xs n
unfolding date_text_of
date_text_of-bytes xs n e = rw e record {
  day_tens = refl;
  day_ones = refl;
  month_tens = refl;
  month_ones = refl;
  thousands = refl;
  hundreds = refl;
  tens = refl;
  ones = refl;
  ten = refl;
}

-- the digits of a two-digit number are those of no other
pub digits_injective : (m n : ℕ) → 48 + m / 10 ≡ 48 + n / 10 → 48 + m % 10 ≡ 48 + n % 10 → m ≡ n
digits_injective m n tens ones = omega arith

-- the date whose digits stand in a date's text is that date
pub IsDateText-date : (xs : List ℕ) (n : ℕ) (century year month day : ℕ) → IsDateText xs n → get_or xs 6 0 ≡ 48 + century / 10 →
    get_or xs 7 0 ≡ 48 + century % 10 → get_or xs 8 0 ≡ 48 + year / 10 → get_or xs 9 0 ≡ 48 + year % 10 →
    get_or xs 3 0 ≡ 48 + month / 10 → get_or xs 4 0 ≡ 48 + month % 10 → get_or xs 0 0 ≡ 48 + day / 10 → get_or xs 1 0 ≡ 48 + day %
    10 → date_at n ≡ ymd (century * 100 + year) month day
IsDateText-date xs n century year month day is a b c d e f g h =
    let century-is = digits_injective ((date_at n).year / 100) century (sym is.thousands ∙ a) (sym is.hundreds ∙ b) in
    let year-is = digits_injective ((date_at n).year % 100) year (sym is.tens ∙ c) (sym is.ones ∙ d) in
    let month-is = digits_injective (date_at n).month month (sym is.month_tens ∙ e) (sym is.month_ones ∙ f) in
    let day-is = digits_injective (date_at n).day day (sym is.day_tens ∙ g) (sym is.day_ones ∙ h) in
    let whole : (date_at n).year ≡ century * 100 + year = omega arith in
    sym (same_date (date_at n) _ _ _ (sym whole) (sym month-is) (sym day-is))

-- and its day is the text's
pub date_at_injective : (m n : ℕ) → date_at m ≡ date_at n → m ≡ n
date_at_injective m n e =
    let same = subst (λ (d : CivilDate). days_from_civil (pos d.year) d.month d.day ≡ pos m) e (date_at-is m).number in
    pos_injective (sym same ∙ (date_at-is n).number)

-- the date that stands in the text of a day
date_in : (xs : List ℕ) (n m : ℕ) → IsDateText xs n → IsDateText xs m
    → date_at n ≡ ymd ((date_at m).year / 100 * 100 + (date_at m).year % 100) (date_at m).month (date_at m).day
date_in xs n m here there =
    IsDateText-date xs n ((date_at m).year / 100) ((date_at m).year % 100) (date_at m).month (date_at m).day here
    there.thousands there.hundreds there.tens there.ones there.month_tens there.month_ones there.day_tens there.day_ones

-- two days with one text are one day
pub date_text_of_injective : (n m : ℕ) → date_text_of n ≡ date_text_of m → n ≡ m
date_text_of_injective n m e =
    let here = date_text_of-bytes (date_text_of n) n refl in
    let there = date_text_of-bytes (date_text_of n) m e in
    date_at_injective n m (date_in (date_text_of n) n m here there ∙ sym (date_in (date_text_of n) m m there there))
