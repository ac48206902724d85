-- The clock of an issuer's commands, by the clock that was handed in and a script's clock line.
use Rattle.std.specs.Prelude.{◌≡◌, ℕ, Option, Some, None}
use Rattle.ports.specs.Counting.{counting}
use Rattle.many_issuers.specs.declared.own_clock.OwnClock.{OwnClock}
use Rattle.many_issuers.specs.declared.own_clock.OwnClock.TheVariants.{Given, Line}

-- its last answer
abbrev pub last_of : {C : Type 0} → (C → ℕ) → OwnClock C → ℕ
last_of last (Given clock) = last clock
last_of last (Line own clock) = own.last

-- its coming answers
abbrev pub coming_of : {C : Type 0} → (C → ℕ → Option ℕ) → OwnClock C → ℕ → Option ℕ
coming_of coming (Given clock) k = coming clock k
coming_of coming (Line own clock) k = Some (counting own.next own.step k)

-- the clock that was handed in
abbrev pub given_of : {C : Type 0} → OwnClock C → C
given_of (Given clock) = clock
given_of (Line own clock) = clock

-- the same where a clock line's stands in its place
abbrev pub replaced_of : {C : Type 0} → OwnClock C → Option C
replaced_of (Given clock) = None
replaced_of (Line own clock) = Some clock

-- the one became the other by readings, which leave a clock that was replaced as it was
abbrev pub IsReadOn : {C : Type 0} → OwnClock C → OwnClock C → Type 0
IsReadOn old new = replaced_of new ≡ replaced_of old
