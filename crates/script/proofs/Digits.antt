-- Numbers that are read, and those that are none.
use Rattle.std.proofs.Common.{◌≡◌, ◌≢◌, ℕ, ◌≤◌, ◌<◌, List, refl, sym, subst, arith, inl, inr, min, Bool, true, false, ◌&&◌}
use Rattle.std.proofs.Common.{nat_le, bytes_eq, Some, None}
use Rattle.std.specs.Str.Parse.{digits_value}
use Rattle.std.proofs.lemmas.Bool.{and_parts, cases_Bool, cases_order, leb-true}
use Rattle.std.proofs.lemmas.Bool.Decides.{nat_tests}
use Rattle.std.proofs.lemmas.Slice.Eq.{bytes_eq-Decides}
use Rattle.amounts.specs.Text.{whole_text}
use Rattle.amounts.specs.declared.cents.TheConstants.{MAX_CENTS}
use Rattle.amounts.specs.declared.whole.TheConstants.{WHOLE_LIMIT}
use Rattle.record_fields.specs.Picks.{when}
use Rattle.script.specs.Numbers.{number_in}

picked : {A : Type 0} (b : Bool) (x : A) → b ≡ true → Some x ≡ when b x
picked b x e = rw e refl

dropped : {A : Type 0} (b : Bool) (x : A) → b ≡ false → None ≡ when b x
dropped b x e = rw e refl

all_three : (a b c : Bool) → a ≡ true → (b && c) ≡ true → (a && b && c) ≡ true
all_three true b c e h = h
all_three false b c e h = absurd cc

not_all : (a b c : Bool) → (b && c) ≡ false → (a && b && c) ≡ false
not_all true b c h = h
not_all false b c h = refl

not_first : (a b c : Bool) → a ≡ false → (a && b && c) ≡ false
not_first true b c e = absurd cc
not_first false b c e = refl

above_high : (low high d : ℕ) → high < d → (nat_le low d && nat_le d high) ≡ false
above_high low high d h = grind (arith, nat_tests)

moved : (low high n d : ℕ) (b : Bool) → n ≡ d → (nat_le low n && nat_le n high) ≡ b → (nat_le low d && nat_le d high) ≡ b
moved low high n d b same h = subst (λ (m : ℕ). (nat_le low m && nat_le m high) ≡ b) same h

pub number_yes : (low high n : ℕ) (text : List ℕ) → high ≤ MAX_CENTS → whole_text (digits_value 10 text) ≡ text →
    n ≡ min (digits_value 10 text) WHOLE_LIMIT
    → (nat_le low n && nat_le n high) ≡ true → Some n ≡ number_in low high text
number_yes low high n text most is small within =
    let d = digits_value 10 text in
    let top : n ≤ high = leb-true n high (and_parts (nat_le low n) (nat_le n high) within).1 in
    let same : n ≡ d = omega (arith, small, top, most) in
    let whole : bytes_eq text (whole_text d) ≡ true = (bytes_eq-Decides text (whole_text d)).1 (sym is) in
    rw same (picked _ d (all_three _ (nat_le low d) (nat_le d high) whole (moved low high n d true same within)))

pub number_no : (low high n : ℕ) (text : List ℕ) → high ≤ MAX_CENTS → n ≡ min (digits_value 10 text) WHOLE_LIMIT
    → (nat_le low n && nat_le n high) ≡ false → None ≡ number_in low high text
number_no low high n text most small without =
    let d = digits_value 10 text in
    let tests : (nat_le low d && nat_le d high) ≡ false =
    elim (cases_order d WHOLE_LIMIT) [
      | inl at ↦ above_high low high d (omega (arith, at, most))
      | inr (inl less) ↦ moved low high n d false (omega (arith, small, less)) without
      | inr (inr more) ↦ above_high low high d (omega (arith, more, most))
    ] in
    dropped _ d (not_all (bytes_eq text (whole_text d)) (nat_le low d) (nat_le d high) tests)

pub number_none : (low high : ℕ) (text : List ℕ) → ((v : ℕ) → text ≢ whole_text v) → None ≡ number_in low high text
number_none low high text none =
    let d = digits_value 10 text in
    let other : bytes_eq text (whole_text d) ≡ false =
    elim (cases_Bool (bytes_eq text (whole_text d))) [
      | inl same ↦ absurd (none d ((bytes_eq-Decides text (whole_text d)).0 same))
      | inr other ↦ other
    ] in
    dropped _ d (not_first _ (nat_le low d) (nat_le d high) other)
