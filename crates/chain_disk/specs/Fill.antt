-- The image of a moment with every byte in doubt filled in one way.
use Rattle.std.specs.Prelude.{◌≡◌, ◌⊎◌, ◌<◌, ◌≤◌, ℕ, List, length, slice_index}
use Rattle.chain_disk.specs.OnDisk.{Pending, IsCovered, furthest}
use Rattle.chain_disk.specs.declared.image.Fill.{Fill}
use Rattle.chain_disk.specs.declared.image.Fill.TheVariants.{Old, New, Zeros, Ones}

-- a crash may leave any byte there
abbrev pub IsInDoubt : Pending → ℕ → Type 0
IsInDoubt p i = (length p.synced ≤ i) ⊎ IsCovered p.ranges i

-- the synced length for old bytes, else the longest
abbrev pub filled_length : Fill → Pending → ℕ
filled_length Old p = length p.synced
filled_length New p = furthest (length p.synced) p.ranges
filled_length Zeros p = furthest (length p.synced) p.ranges
filled_length Ones p = furthest (length p.synced) p.ranges

-- what stands at a place in doubt: the synced byte, the one that a read gives (0 past its end), 0 or 1
abbrev pub fill_byte : Fill → List ℕ → List ℕ → ℕ → ℕ
fill_byte Old synced content i = slice_index synced i
fill_byte New synced content i = slice_index content i
fill_byte Zeros synced content i = 0
fill_byte Ones synced content i = 1

-- the image of this content, of which that is pending, so filled
pub record IsFilled (fill : Fill) (content : List ℕ) (p : Pending) (c : List ℕ) : Type 0 where
  pub size : length c ≡ filled_length fill p
  pub kept : (i : ℕ) → i < length c → (IsInDoubt p i → ⊥) → slice_index c i ≡ slice_index p.synced i
  pub in_doubt : (i : ℕ) → i < length c → IsInDoubt p i → slice_index c i ≡ fill_byte fill p.synced content i
