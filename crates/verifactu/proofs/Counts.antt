-- Counts of commands, in decimal.
use Rattle.std.proofs.Common.{◌≡◌, ◌≢◌, ℕ, ◌<◌, ◌^◌, min, List, sym, ◌∙◌, ap, arith}
use Rattle.std.proofs.lemmas.Fmt.{decimal_is_IsNumeral}
use Rattle.std.specs.Int.{IsInRange}
use Rattle.std.specs.Str.Parse.{digits_value}
use Rattle.amounts.proofs.TextLemmas.{whole_text-decimal}
use Rattle.amounts.specs.Text.{whole_text}
use Rattle.amounts.specs.declared.whole.TheConstants.{WHOLE_LIMIT}
use Rattle.verifactu.specs.CommandLine.{IsCountOf}
use Rattle.file_commands.specs.declared.generated.TheConstants.{MAX_GENERATED}

-- the number that was read is the one that the word says
pub count_is : (word : List ℕ) (n m : ℕ) → n ≡ min (digits_value 10 word) WHOLE_LIMIT → IsCountOf word m → n ≡ m
count_is word n m value h =
    let range = h.range in
    let small : m < 2 ^ 64 = omega arith in
    let is : digits_value 10 word ≡ m = ap (digits_value 10) h.written ∙ (decimal_is_IsNumeral m small).1 in
    omega arith

pub counted : (word : List ℕ) (n : ℕ) → whole_text (digits_value 10 word) ≡ word → n ≡ min (digits_value 10 word) WHOLE_LIMIT →
    IsInRange 1 MAX_GENERATED n → IsCountOf word n
counted word n text value range =
    let same : digits_value 10 word ≡ n = omega arith in
    record { range = range; written = sym text ∙ ap whole_text same ∙ whole_text-decimal n (omega arith) }

pub no_count : (word : List ℕ) → ((v : ℕ) → word ≢ whole_text v) → (n : ℕ) → IsCountOf word n → ⊥
no_count word none n h =
    let range = h.range in
    none n (h.written ∙ sym (whole_text-decimal n (omega arith)))

-- a word says one number
pub one_count : (word : List ℕ) (n m : ℕ) → IsCountOf word n → IsCountOf word m → n ≡ m
one_count word n m h k =
    let first = h.range in
    let second = k.range in
    let a : n < 2 ^ 64 = omega (arith, first) in
    let b : m < 2 ^ 64 = omega (arith, second) in
    sym (decimal_is_IsNumeral n a).1 ∙ ap (digits_value 10) (sym h.written ∙ k.written) ∙ (decimal_is_IsNumeral m b).1
