-- What a disk tells of itself, and what a crash at each moment may leave of it.
use Rattle.std.specs.Prelude.{◌≡◌, ◌⊎◌, ◌<◌, ◌≤◌, ◌+◌, ◌-◌, ℕ, max, min, List, [], ◌∷◌, ◌++◌, length, get_or, take, drop}
use Rattle.chain_disk.specs.declared.range.Range.{Range}

-- the content that the last sync made sure of, and the ranges written since, the newest first
pub record Pending : Type 0 where
  pub synced : List ℕ
  pub ranges : List Range

-- what a read gives, what is pending now, and what was pending at each earlier moment, the newest first
pub record OnDisk : Type 0 where
  pub content : List ℕ
  pub now : Pending
  pub past : List Pending

abbrev pub IsCovered : List Range → ℕ → Type 0
IsCovered [] i = ⊥
IsCovered (r ∷ ranges) i = ((r.at ≤ i) × (i < r.at + r.count)) ⊎ IsCovered ranges i

-- the furthest end of these ranges, or this length where none is further
abbrev pub furthest : ℕ → List Range → ℕ
furthest len [] = len
furthest len (r ∷ ranges) = max (r.at + r.count) (furthest len ranges)

-- What a crash may leave: the written ranges, and everything past the synced length, hold any bytes. The length is
-- between the synced one and the furthest written end. All other bytes stay.
pub record IsImage (p : Pending) (c : List ℕ) : Type 0 where
  pub no_shorter : length p.synced ≤ length c
  pub no_longer : length c ≤ furthest (length p.synced) p.ranges
  pub kept : (i : ℕ) → i < length p.synced → (IsCovered p.ranges i → ⊥) → get_or c i 0 ≡ get_or p.synced i 0

abbrev pub IsLeftOf : List Pending → ℕ → List ℕ → Type 0
IsLeftOf [] m c = ⊥
IsLeftOf (p ∷ older) m c = ((m ≡ length older) × IsImage p c) ⊎ IsLeftOf older m c

-- a moment is a number: how many moments were before it
abbrev pub moment : OnDisk → ℕ
moment t = length t.past

-- the test of a list of bytes at a moment: a crash then may leave it
abbrev pub IsLeft : OnDisk → ℕ → List ℕ → Type 0
IsLeft t m c = IsLeftOf (t.now ∷ t.past) m c

-- these bytes put at this place
abbrev pub pasted : ℕ → List ℕ → List ℕ → List ℕ
pasted at bytes content = take at content ++ bytes ++ drop (at + length bytes) content

-- after a write that failed: any bytes in the range, the same elsewhere
pub record IsTorn (at n : ℕ) (old new : List ℕ) : Type 0 where
  pub no_shorter : length old ≤ length new
  pub no_longer : length new ≤ max (length old) (at + n)
  pub kept : (i : ℕ) → i < length old → (i < at) ⊎ (at + n ≤ i) → get_or new i 0 ≡ get_or old i 0

-- one range more is pending
abbrev pub wider : ℕ → ℕ → Pending → Pending
wider at n p = record { synced = p.synced; ranges = (record { at = at; count = n }) ∷ p.ranges }

-- a moment later, with this content and this pending
abbrev pub moved : List ℕ → Pending → OnDisk → OnDisk
moved content now t = record { content = content; now = now; past = t.now ∷ t.past }

-- one range more is pending, a moment later
abbrev pub ranged : ℕ → ℕ → List ℕ → OnDisk → OnDisk
ranged at n content t = moved content (wider at n t.now) t

-- a write
abbrev pub written : ℕ → List ℕ → OnDisk → OnDisk
written at bytes t = ranged at (length bytes) (pasted at bytes t.content) t

-- a write that failed: it did nothing, or the range holds any bytes
abbrev pub IsWriteFailed : ℕ → ℕ → OnDisk → OnDisk → Type 0
IsWriteFailed at n old new = (new ≡ old) ⊎ ((content : List ℕ) × IsTorn at n old.content content ×
    (new ≡ ranged at n content old))

-- the content with nothing pending
abbrev pub settled : List ℕ → Pending
settled content = record { synced = content; ranges = [] }

-- nothing is pending
abbrev pub IsSettled : OnDisk → Type 0
IsSettled t = t.now ≡ settled t.content

-- a sync: nothing is pending, a moment later
abbrev pub synced : OnDisk → OnDisk
synced t = moved t.content (settled t.content) t

-- a moment later, with all that was pending
abbrev pub later : OnDisk → OnDisk
later t = moved t.content t.now t

-- a sync that failed: all that was pending stays pending
abbrev pub IsSyncFailed : OnDisk → OnDisk → Type 0
IsSyncFailed old new = (new ≡ old) ⊎ (new ≡ later old)

-- n bytes were read from this place into a buffer, as many as the content has and the buffer takes
pub record IsRead (content : List ℕ) (at n : ℕ) (old new : List ℕ) : Type 0 where
  pub count : n ≡ min (length old) (length content - at)
  pub bytes : new ≡ take n (drop at content) ++ drop n old

-- Each crash at a moment since old was told leaves a list of bytes with P. The tests of the moments up to that one are as they
-- were.
pub record LeavesOnly (old new : OnDisk) (P : List ℕ → Type 0) : Type 0 where
  pub later : moment old ≤ moment new
  pub each : (m : ℕ) (c : List ℕ) → moment old ≤ m → IsLeft new m c → P c
  pub before : (m : ℕ) (c : List ℕ) → m ≤ moment old → IsLeft new m c → IsLeft old m c
  pub stays : (m : ℕ) (c : List ℕ) → m ≤ moment old → IsLeft old m c → IsLeft new m c

-- each crash at this moment leaves a list of bytes with P
abbrev pub LeavesAt : OnDisk → ℕ → (List ℕ → Type 0) → Type 0
LeavesAt t m P = (c : List ℕ) → IsLeft t m c → P c

-- and so does each crash now
abbrev pub LeavesNow : OnDisk → (List ℕ → Type 0) → Type 0
LeavesNow t P = LeavesAt t (moment t) P

-- Where P holds of all that crashes at one moment of a run may leave, it holds of all that crashes at a later one may leave.
abbrev pub StillLeaves : OnDisk → OnDisk → (List ℕ → Type 0) → Type 0
StillLeaves old new P =
    (m later : ℕ) → moment old ≤ m → m ≤ later → later ≤ moment new → LeavesAt new m P → LeavesAt new later P

-- at each moment of a run before its last a crash may leave a list of bytes with P
abbrev pub MayLeave : OnDisk → OnDisk → (List ℕ → Type 0) → Type 0
MayLeave old new P = (m : ℕ) → moment old ≤ m → m < moment new → (c : List ℕ) × IsLeft new m c × P c

-- Calls led from old to new: the tests of the moments up to the first of them are as they were.
pub record IsRun (old new : OnDisk) : Type 0 where
  pub later : moment old ≤ moment new
  pub before : (m : ℕ) (c : List ℕ) → m ≤ moment old → IsLeft new m c → IsLeft old m c
  pub stays : (m : ℕ) (c : List ℕ) → m ≤ moment old → IsLeft old m c → IsLeft new m c

-- a crash at some moment since old was told may leave these bytes
abbrev pub IsLeftSince : OnDisk → OnDisk → List ℕ → Type 0
IsLeftSince old new c = (m : ℕ) × (moment old ≤ m) × IsLeft new m c
