-- How far a file goes up.
use Rattle.std.proofs.Common.{◌≡◌, ◌<◌, ◌≤◌, ◌+◌, inl, inr, ℕ, List, [], ◌∷◌, ◌++◌, length, drop, refl, sym, ◌∙◌, ap}
use Rattle.std.proofs.Common.{arith, length-append, take-append-drop, Result, Ok, Err}
use Rattle.std.specs.Prelude.{IfErr, IfOk}
use Rattle.std.proofs.lemmas.List.{length-take, take_all}
use Rattle.chain_disk.specs.OnDisk.{OnDisk, LeavesOnly, synced}
use Rattle.chain_disk.specs.Runs.{follows, weaker}
use Rattle.chain_store.specs.Crashes.{StandsBetween}
use Rattle.chain_store.specs.Opening.{IsFound}
use Rattle.record_codec.specs.declared.entry.Entry.{Entry}
use Rattle.record_fields.specs.declared.versions.Version.{Version}
use Rattle.journal.specs.File.{IsNotBegun}
use Rattle.shop_core.specs.File.Files.{StandsFor}
use Rattle.shop_core.specs.File.Laws.{NotBegunIsNeither}
use Rattle.shop_core.specs.Prefix.{IsPrefix}
use Rattle.standby.specs.Catching.{IsFirstApart}
use Rattle.standby.proofs.Fronts.{front_on, front_same}
use Rattle.second_disk.specs.Level.{FirstEnd, GoesUp, IsHeld, IsHeldBetween, SecondEnd}

pub found_held : (created version : Version) (issuer : List ℕ) (entries : List Entry) (file : List ℕ) →
    IsFound created version issuer entries file → IsHeld version issuer entries file
found_held created version issuer entries file (inl not) = inl (not.0, not.1)
found_held created version issuer entries file (inr stands) = inr stands

held_alone : (version : Version) (issuer : List ℕ) (entries : List Entry) (file : List ℕ) → IsHeld version issuer entries file →
    IsHeldBetween version issuer entries entries file
held_alone version issuer entries file (inl not) = inl not
held_alone version issuer entries file (inr stands) = inr (record {
  history = entries;
  stands = stands;
  begins = front_same entries;
  within = front_same entries;
})

between_longer : (version : Version) (issuer : List ℕ) (start end longer : List Entry) (file : List ℕ) → IsPrefix end longer →
    IsHeldBetween version issuer start end file → IsHeldBetween version issuer start longer file
between_longer version issuer start end longer file front (inl not) = inl not
between_longer version issuer start end longer file front (inr between) = inr (record {
  history = between.history;
  stands = between.stands;
  begins = between.begins;
  within = front_on between.history end longer between.within front;
})

-- a file that was opened
pub opened_goes : (created version : Version) (issuer : List ℕ) (entries : List Entry) (old new : OnDisk) →
    IsFound created version issuer entries old.content → LeavesOnly (synced old) new (IsFound created version issuer entries) →
    GoesUp version issuer entries entries old new
opened_goes created version issuer entries old new found only = record {
  found = found_held created version issuer entries old.content found;
  any_moment = weaker (synced old) new (IsFound created version issuer entries) (IsHeldBetween version issuer entries entries)
      only (λ c is. held_alone version issuer entries c (found_held created version issuer entries c is));
}

-- and brought up
pub goes_on : (version : Version) (issuer : List ℕ) (start end : List Entry) (old mid new : OnDisk) → IsPrefix start end →
    GoesUp version issuer start start old mid → LeavesOnly mid new (StandsBetween version issuer start end) →
    GoesUp version issuer start end old new
goes_on version issuer start end old mid new front goes more = record {
  found = goes.found;
  any_moment = follows (synced old) mid new (IsHeldBetween version issuer start start) (StandsBetween version issuer start end)
      (IsHeldBetween version issuer start end) goes.any_moment more
      (λ c is. between_longer version issuer start start end c front is) (λ c is. inr is);
}

-- and given other bytes behind its gate
pub goes_whole : (version : Version) (issuer : List ℕ) (start end : List Entry) (old mid new : OnDisk) → IsPrefix start end →
    GoesUp version issuer start end old mid → LeavesOnly mid new (StandsFor version issuer end) →
    GoesUp version issuer start end old new
goes_whole version issuer start end old mid new front goes more = record {
  found = goes.found;
  any_moment = follows (synced old) mid new (IsHeldBetween version issuer start end) (StandsFor version issuer end)
      (IsHeldBetween version issuer start end) goes.any_moment more (λ c is. is)
      (λ c is. inr (record { history = end; stands = is; begins = front; within = front_same end }));
}

-- a file goes up to what it is a front of
pub first_front : (start other end : List Entry) → FirstEnd start other end → IsPrefix start end
first_front start other end (inl same) = record { rest = []; is = same ∙ sym (whole start) }
  where
    whole : (xs : List Entry) → xs ++ [] ≡ xs
    whole [] = refl
    whole (x ∷ xs) = ap (λ (l : List Entry). x ∷ l) (whole xs)
first_front start other end (inr more) = record { rest = more.0 ∷ []; is = more.2 ∙ more.1 }

pub second_front : (start other end : List Entry) → SecondEnd start other end → IsPrefix start end
second_front start other end (inl same) = first_front start other end (inl same)
second_front start other end (inr more) = record { rest = more.0.rest; is = more.1 ∙ more.0.is }

-- of two lists that are apart first where the one ends, it is a front of the other
pub ends_apart : (entries copy : List Entry) (at : ℕ) → IsFirstApart entries copy at → length entries ≤ at →
    IsPrefix entries copy × (at ≡ length entries)
ends_apart entries copy at apart far =
    let place : at ≡ length entries =
    omega (arith, far, apart.within, ap length apart.same, length-take at copy, length-take at entries) in (
      record {
        rest = drop at copy;
        is = sym (take-append-drop at copy)
            ∙ ap (λ (l : List Entry). l ++ drop at copy) (apart.same ∙ take_all at entries far);
      },
      place,
    )

one_of : (xs : List Entry) → length xs ≡ 1 → (entry : Entry) × (xs ≡ entry ∷ [])
one_of [] one = absurd (omega (arith, one))
one_of (x ∷ []) one = (x, refl)
one_of (x ∷ (y ∷ xs)) one = absurd (omega (arith, one))

-- and where the other has no second entry more, it has one
pub one_more : (entries copy : List Entry) (at : ℕ) → IsFirstApart entries copy at → length entries ≤ at →
    length copy ≤ at + 1 → FirstEnd entries copy copy
one_more entries copy at apart far few =
    let both = ends_apart entries copy at apart far in
    let more = one_of both.0.rest
    (omega (arith, ap length both.0.is, length-append entries both.0.rest, both.1, apart.within, few)) in
    inr (more.0, both.0.is ∙ ap (λ (l : List Entry). entries ++ l) more.1, refl)

-- a file with an entry is begun
pub begun_by_entry : NotBegunIsNeither → (created version : Version) (issuer : List ℕ) (entries : List Entry) (file : List ℕ) →
    IsFound created version issuer entries file → 0 < length entries → IsNotBegun file → ⊥
begun_by_entry neither created version issuer entries file (inl not) some none = omega (arith, some, ap length not.1)
begun_by_entry neither created version issuer entries file (inr stands) some none =
    (neither version issuer entries file 0 none).0 stands

-- what is found in a file that isn't begun
pub found_new : NotBegunIsNeither → (created version : Version) (issuer : List ℕ) (entries : List Entry) (file : List ℕ) →
    IsFound created version issuer entries file → IsNotBegun file → (entries ≡ []) × (version ≡ created)
found_new neither created version issuer entries file (inl not) none = (not.1, not.2)
found_new neither created version issuer entries file (inr stands) none =
    absurd ((neither version issuer entries file 0 none).0 stands)

pub no_entry : (entries : List Entry) → length entries ≤ 0 → entries ≡ []
no_entry [] few = refl
no_entry (x ∷ xs) few = absurd (omega (arith, few))

pub if_ok : {T E : Type 0} {P Q : T → Type 0} (r : Result T E) → IfOk r P → ((v : T) → P v → Q v) → IfOk r Q
if_ok (Ok v) is then = then v is
if_ok (Err e) is then = tt

pub if_err : {T E : Type 0} {P Q : E → Type 0} (r : Result T E) → IfErr r P → ((e : E) → P e → Q e) → IfErr r Q
if_err (Ok v) is then = tt
if_err (Err e) is then = then e is
