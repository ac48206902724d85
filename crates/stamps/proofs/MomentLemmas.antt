-- The bytes of a moment's text.
use Rattle.std.proofs.Common.{◌≡◌, ℕ, ◌+◌, ◌/◌, ◌%◌, List, get_or, inl, inr, refl, sym, ◌∙◌, ap, ℤ, unsigned_abs, arith}
use Rattle.stamps.proofs.CivilLemmas.{same_date}
use Rattle.stamps.proofs.TextLemmas.{date_at_injective}
use Rattle.stamps.specs.Day.{date_at}
use Rattle.stamps.specs.Clock.{IsStampOffset}
use Rattle.stamps.specs.Stamp.{Moment, moment_text_of, local_seconds_of}
use Rattle.stamps.specs.Text.{local_text_of}

-- the digits of the text of a moment on a local clock
record IsLocalText (xs : List ℕ) (local ahead : ℕ) : Type 0 where
  thousands : get_or xs 0 0 ≡ 48 + (date_at (local / 86_400)).year / 100 / 10
  hundreds : get_or xs 1 0 ≡ 48 + (date_at (local / 86_400)).year / 100 % 10
  tens : get_or xs 2 0 ≡ 48 + (date_at (local / 86_400)).year % 100 / 10
  ones : get_or xs 3 0 ≡ 48 + (date_at (local / 86_400)).year % 100 % 10
  month_tens : get_or xs 5 0 ≡ 48 + (date_at (local / 86_400)).month / 10
  month_ones : get_or xs 6 0 ≡ 48 + (date_at (local / 86_400)).month % 10
  day_tens : get_or xs 8 0 ≡ 48 + (date_at (local / 86_400)).day / 10
  day_ones : get_or xs 9 0 ≡ 48 + (date_at (local / 86_400)).day % 10
  hour_tens : get_or xs 11 0 ≡ 48 + local % 86_400 / 3600 / 10
  hour_ones : get_or xs 12 0 ≡ 48 + local % 86_400 / 3600 % 10
  minute_tens : get_or xs 14 0 ≡ 48 + local % 3600 / 60 / 10
  minute_ones : get_or xs 15 0 ≡ 48 + local % 3600 / 60 % 10
  second_tens : get_or xs 17 0 ≡ 48 + local % 60 / 10
  second_ones : get_or xs 18 0 ≡ 48 + local % 60 % 10
  ahead_tens : get_or xs 20 0 ≡ 48 + ahead / 60 / 10
  ahead_ones : get_or xs 21 0 ≡ 48 + ahead / 60 % 10
  rest_tens : get_or xs 23 0 ≡ 48 + ahead % 60 / 10
  rest_ones : get_or xs 24 0 ≡ 48 + ahead % 60 % 10

local_text_of-bytes : (xs : List ℕ) (local ahead : ℕ) → xs ≡ local_text_of local ahead → IsLocalText xs local ahead
unfolding local_text_of
local_text_of-bytes xs local ahead e = rw e record {
  thousands = refl;
  hundreds = refl;
  tens = refl;
  ones = refl;
  month_tens = refl;
  month_ones = refl;
  day_tens = refl;
  day_ones = refl;
  hour_tens = refl;
  hour_ones = refl;
  minute_tens = refl;
  minute_ones = refl;
  second_tens = refl;
  second_ones = refl;
  ahead_tens = refl;
  ahead_ones = refl;
  rest_tens = refl;
  rest_ones = refl;
}

-- a number whose two digits are those of another is that one
same_number : {t o : ℕ} (m n : ℕ) → t ≡ 48 + m / 10 → t ≡ 48 + n / 10 → o ≡ 48 + m % 10 → o ≡ 48 + n % 10 → m ≡ n
same_number m n a b c d = omega arith

same_day : (xs : List ℕ) (local other ahead more : ℕ) → IsLocalText xs local ahead → IsLocalText xs other more
    → local / 86_400 ≡ other / 86_400
same_day xs local other ahead more a b =
    let here = date_at (local / 86_400) in
    let there = date_at (other / 86_400) in
    let century = same_number (here.year / 100) (there.year / 100) a.thousands b.thousands a.hundreds b.hundreds in
    let rest = same_number (here.year % 100) (there.year % 100) a.tens b.tens a.ones b.ones in
    let year : here.year ≡ there.year = omega arith in
    let month = same_number here.month there.month a.month_tens b.month_tens a.month_ones b.month_ones in
    let day = same_number here.day there.day a.day_tens b.day_tens a.day_ones b.day_ones in
    date_at_injective (local / 86_400) (other / 86_400) (sym (same_date here _ _ _ (sym year) (sym month) (sym day)) ∙
    same_date there _ _ _ refl refl refl)

-- seconds are those of their day, hour, minute and second
same_clock : (local other : ℕ) → local / 86_400 ≡ other / 86_400 → local % 86_400 / 3600 ≡ other % 86_400 / 3600
    → local % 3600 / 60 ≡ other % 3600 / 60 → local % 60 ≡ other % 60 → local ≡ other
same_clock local other day hour minute second = omega arith

local_text_of_injective : (local other ahead more : ℕ) → local_text_of local ahead ≡ local_text_of other more
    → (local ≡ other) × (ahead ≡ more)
local_text_of_injective local other ahead more e =
    let xs = local_text_of local ahead in
    let a = local_text_of-bytes xs local ahead refl in
    let b = local_text_of-bytes xs other more e in
    let day = same_day xs local other ahead more a b in
    let hour = same_number (local % 86_400 / 3600) (other % 86_400 / 3600) a.hour_tens b.hour_tens a.hour_ones b.hour_ones in
    let minute = same_number (local % 3600 / 60) (other % 3600 / 60) a.minute_tens b.minute_tens a.minute_ones b.minute_ones in
    let second = same_number (local % 60) (other % 60) a.second_tens b.second_tens a.second_ones b.second_ones in
    let hours = same_number (ahead / 60) (more / 60) a.ahead_tens b.ahead_tens a.ahead_ones b.ahead_ones in
    let rest = same_number (ahead % 60) (more % 60) a.rest_tens b.rest_tens a.rest_ones b.rest_ones in
    (same_clock local other day hour minute second, omega arith)

-- the size of an offset tells it
same_offset : (a b : ℤ) → IsStampOffset a → IsStampOffset b → unsigned_abs a ≡ unsigned_abs b → a ≡ b
same_offset a b (inl h) (inl k) e = h ∙ sym k
same_offset a b (inr h) (inr k) e = h ∙ sym k
same_offset a b (inl h) (inr k) e =
    let here : unsigned_abs a ≡ 60 = ap unsigned_abs h in
    let there : unsigned_abs b ≡ 120 = ap unsigned_abs k in
    absurd (omega arith)
same_offset a b (inr h) (inl k) e =
    let here : unsigned_abs a ≡ 120 = ap unsigned_abs h in
    let there : unsigned_abs b ≡ 60 = ap unsigned_abs k in
    absurd (omega arith)

-- the moment of these parts
abbrev of_parts : ℕ → ℤ → Moment
of_parts seconds offset_minutes = record { seconds = seconds; offset_minutes = offset_minutes }

same_moment : (m k : Moment) → m.seconds ≡ k.seconds → m.offset_minutes ≡ k.offset_minutes → m ≡ k
same_moment m k seconds offset =
    ap (λ (s : ℕ). of_parts s m.offset_minutes) seconds ∙ ap (λ (o : ℤ). of_parts k.seconds o) offset

-- two moments with one text are one moment
pub moment_text_of_injective : (m k : Moment) → IsStampOffset m.offset_minutes → IsStampOffset k.offset_minutes
    → moment_text_of m ≡ moment_text_of k → m ≡ k
moment_text_of_injective m k here there e =
    let same = local_text_of_injective (local_seconds_of m) (local_seconds_of k) (unsigned_abs m.offset_minutes)
    (unsigned_abs k.offset_minutes) e in
    let offset = same_offset m.offset_minutes k.offset_minutes here there same.1 in
    let seconds : m.seconds ≡ k.seconds = omega (arith, same.0, same.1) in
    same_moment m k seconds offset
