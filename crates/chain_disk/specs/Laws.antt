-- Laws of what a disk tells.
use Rattle.std.specs.Prelude.{◌≡◌, ◌⊎◌, ◌↔◌, ℕ, List, Bool, IsTrue}
use Rattle.chain_disk.specs.OnDisk.{OnDisk, Pending, IsImage, IsLeft, moment, IsSettled, IsRun, IsLeftSince, StillLeaves, moved, synced}

-- with nothing pending a crash leaves the content alone
abbrev pub SettledLeaves : Type 0
SettledLeaves = (t : OnDisk) (c : List ℕ) → IsSettled t → IsLeft t (moment t) c ↔ (c ≡ t.content)

-- no call is a run, in which a crash leaves an image of now
abbrev pub NoCallIsARun : Type 0
NoCallIsARun = (t : OnDisk) → IsRun t t × ((c : List ℕ) → IsLeftSince t t c ↔ IsImage t.now c)

-- a call that takes a moment is a run, in which a crash leaves an image from before or after it
abbrev pub CallIsARun : Type 0
CallIsARun =
    (t : OnDisk) (content : List ℕ) (now : Pending) →
    IsRun t (moved content now t) × ((c : List ℕ) → IsLeftSince t (moved content now t) c ↔ (IsImage t.now c ⊎ IsImage now c))

-- two runs are one, in which a crash leaves what it leaves in the first or in the second
abbrev pub RunsFollow : Type 0
RunsFollow =
    (t u v : OnDisk) → IsRun t u → IsRun u v →
    IsRun t v × ((c : List ℕ) → IsLeftSince t v c ↔ (IsLeftSince t u c ⊎ IsLeftSince u v c))

-- in this run what each crash at a moment leaves by this test, each crash at a later one leaves too
abbrev pub StillPasses : OnDisk → OnDisk → (List ℕ → Bool) → Type 0
StillPasses old new test = StillLeaves old new (λ c. IsTrue (test c))

-- where no call is made, it stays so
abbrev pub NoCallStillPasses : Type 0
NoCallStillPasses = (t : OnDisk) (test : List ℕ → Bool) → StillPasses t t test

-- and in two runs, where it does in each
abbrev pub RunsStillPass : Type 0
RunsStillPass =
    (t u v : OnDisk) (test : List ℕ → Bool) → IsRun t u → IsRun u v → StillPasses t u test → StillPasses u v test →
    StillPasses t v test

-- and in a call that takes a moment, where the images from after it pass if all from before it do
abbrev pub CallStillPasses : Type 0
CallStillPasses =
    (t : OnDisk) (content : List ℕ) (now : Pending) (test : List ℕ → Bool) →
    (((c : List ℕ) → IsImage t.now c → IsTrue (test c)) → (c : List ℕ) → IsImage now c → IsTrue (test c)) →
    StillPasses t (moved content now t) test

-- and in a sync of a disk that reads as one of its images
abbrev pub SyncStillPasses : Type 0
SyncStillPasses = (t : OnDisk) (test : List ℕ → Bool) → IsImage t.now t.content → StillPasses t (synced t) test
