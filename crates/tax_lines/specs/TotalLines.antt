-- What a total with its tax becomes: one line of a key, where there is one of that total, else two. The choice of the two is this
-- project's own.
use Rattle.std.specs.Prelude.{◌≡◌, ◌≤◌, ◌<◌, ◌⊎◌, length, get_or, ℕ, ◌+◌, ◌-◌, ◌*◌, ◌/◌, List, [], ◌∷◌, ℤ, Option, Some, None, unsigned_abs}
use Rattle.amounts.specs.Cents.{with_sign_of}
use Rattle.tax_lines.specs.declared.lines.TaxLine.{TaxLine}
use Rattle.tax_lines.specs.declared.lines.TheConstants.{MAX_BASE}
use Rattle.tax_lines.specs.declared.total_lines.TotalLines.{TotalLines}
use Rattle.tax_lines.specs.declared.total_lines.TotalLines.TheVariants.{One, Two}
use Rattle.tax_lines.specs.Classes.{class_surcharge}
use Rattle.tax_lines.specs.Keys.{Key, IsKey}

-- the tax of that many cents at a rate, rounded
abbrev pub rounded : ℕ → ℕ → ℕ
rounded base rate = (2 * (base * rate) + 10_000) / 20_000

-- what is to be paid for that many cents: they, their tax and their surcharge
abbrev pub gross : Key → ℕ → ℕ
gross key base = base + (rounded base key.rate + rounded base (class_surcharge key.class))

-- a base of that total
pub record IsOne (key : Key) (total base : ℕ) : Type 0 where
  pub limit : base ≤ MAX_BASE
  pub total_is : gross key base ≡ total

-- two bases of that total, the greater first
pub record IsTwo (key : Key) (total first second : ℕ) : Type 0 where
  pub order : second ≤ first
  pub limit : first ≤ MAX_BASE
  pub total_is : gross key first + gross key second ≡ total

-- 10,000 times one and the rate and the surcharge
abbrev pub factor : Key → ℕ
factor key = 10_000 + (key.rate + class_surcharge key.class)

-- how far a sum of bases is from the total over one and the rate and the surcharge, times the factor
abbrev pub distance : Key → ℕ → ℕ → ℕ
distance key total sum = (10_000 * total - sum * factor key) + (sum * factor key - 10_000 * total)

-- of all pairs of that total the one whose sum is nearest to that quotient, the greater of two sums that are equally near, and
-- of all with that sum the one that differs least
pub record IsNearest (key : Key) (total first second : ℕ) : Type 0 where
  pub two : IsTwo key total first second
  pub near : (a b : ℕ) → IsTwo key total a b → distance key total (first + second) ≤ distance key total (a + b)
  pub away : (a b : ℕ) → IsTwo key total a b → distance key total (a + b) ≡ distance key total (first + second) →
      a + b ≤ first + second
  pub even : (a b : ℕ) → IsTwo key total a b → a + b ≡ first + second → first ≤ a

-- the line of a base with the sign of a total
abbrev pub line_of : Key → ℤ → ℕ → TaxLine
line_of key total base = record { key = key; base = with_sign_of total base }

-- one line where there is one, else the nearest two; none exactly where neither is there
abbrev pub AreLinesOf : Key → ℤ → Option TotalLines → Type 0
AreLinesOf key total None = ((base : ℕ) → ¬ (IsOne key (unsigned_abs total) base))
    × ((first second : ℕ) → ¬ (IsTwo key (unsigned_abs total) first second))
AreLinesOf key total (Some (One line)) = IsOne key (unsigned_abs total) (unsigned_abs line.base)
    × (line ≡ line_of key total (unsigned_abs line.base))
AreLinesOf key total (Some (Two a b)) = ((base : ℕ) → ¬ (IsOne key (unsigned_abs total) base))
    × IsNearest key (unsigned_abs total) (unsigned_abs a.base) (unsigned_abs b.base)
    × (a ≡ line_of key total (unsigned_abs a.base)) × (b ≡ line_of key total (unsigned_abs b.base))

-- the lines, the greater first
abbrev pub lines_in : TotalLines → List TaxLine
lines_in (One line) = line ∷ []
lines_in (Two a b) = a ∷ b ∷ []

-- each total up to that of the greatest base has lines, whatever the key
abbrev pub EachTotalHasLines : Type 0
EachTotalHasLines = (key : Key) → IsKey key → (total : ℕ) → total ≤ gross key MAX_BASE →
    ((base : ℕ) × IsOne key total base) ⊎ ((first second : ℕ) × IsTwo key total first second)

-- no pair of that total has that sum
abbrev pub HasNone : Key → ℕ → ℕ → Type 0
HasNone key total sum = (a b : ℕ) → IsTwo key total a b → ¬ (a + b ≡ sum)

-- a pair of that total whose sum comes first in the list, and which differs least
pub record IsFirst (key : Key) (total : ℕ) (sums : List ℕ) (first second : ℕ) : Type 0 where
  pub two : IsTwo key total first second
  pub place : ℕ
  pub inside : place < length sums
  pub here : get_or sums place 0 ≡ first + second
  pub none : (i : ℕ) → i < place → HasNone key total (get_or sums i 0)
  pub even : (a b : ℕ) → IsTwo key total a b → a + b ≡ first + second → first ≤ a
