-- What holds of passes alone.
use Rattle.std.specs.Prelude.{◌≡◌, ℕ, ◌≤◌, ◌<◌, List, length, All}
use Rattle.chain_lock.specs.Known.{Known, OwnsBelow, owners}
use Rattle.chain_lock.specs.Lists.{StartsWith}

-- Each place of the list from the length at opening on is owned once. Where each pass owns below the end of what was seen, that
-- is the whole list
abbrev pub SeesAll : {V I R : Type 0} → (V → List I) → (V → R) → Type 0
SeesAll {V} {I} {R} items root = (base log seen : List I) (passes : List (Known I R)) → StartsWith log seen →
    length base ≤ length seen → All (OwnsBelow (length seen)) passes →
    ((n : ℕ) → length base ≤ n → n < length log → owners n passes ≡ 1) → log ≡ seen
