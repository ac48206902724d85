-- Lines and objects, place by place.
use Rattle.std.proofs.Common.{◌≡◌, ℕ, zero, suc, ◌+◌, ◌<◌, ◌≤◌, ◌⊎◌, inl, inr, List, [], ◌∷◌, length, drop, arith, refl, sym, subst, ap}
use Rattle.std.proofs.Common.{◌∙◌, ◌↔◌, add-one, Bool, true, false, IsTrue, Option, Some, None, slice_get, option_map}
use Rattle.std.proofs.lemmas.List.{length-map}
use Rattle.std.proofs.lemmas.Option.{slice_get-map, slice_get_past}
use Rattle.serde_json.specs.Data.{Data}
use Rattle.record_codec.specs.declared.entry.Entry.{Entry}
use Rattle.record_fields.specs.declared.versions.Version.{Version}
use Rattle.export.specs.Lines.{value_read}
use Rattle.export.specs.Objects.{object_of}
use Rattle.file_commands.specs.Exporting.{objects_of}
use Rattle.file_commands.specs.Exporting.Exported.{history}
use Rattle.file_commands.specs.Matching.{AreOne, AreOneAt, AreLinesOf, DifferFirst}

-- ---- the line at a place, where the lines from there on are known

line_at : (lines : List (List ℕ)) (n : ℕ) (line : List ℕ) (behind : List (List ℕ)) → drop n lines ≡ line ∷ behind →
    slice_get lines n ≡ Some line
line_at [] zero line behind e = absurd cc
line_at [] (suc n) line behind e = absurd cc
line_at (l ∷ lines) zero line behind e = cc
line_at (l ∷ lines) (suc n) line behind e = line_at lines n line behind e

none_from : (lines : List (List ℕ)) (n i : ℕ) → drop n lines ≡ [] → n ≤ i → slice_get lines i ≡ None
none_from [] n i e h = refl
none_from (l ∷ lines) zero i e h = absurd cc
none_from (l ∷ lines) (suc n) zero e h = absurd (omega arith)
none_from (l ∷ lines) (suc n) (suc i) e h = none_from lines n i e (omega (arith, h))

behind_line : (lines : List (List ℕ)) (n : ℕ) (line : List ℕ) (behind : List (List ℕ)) → drop n lines ≡ line ∷ behind →
    drop (suc n) lines ≡ behind
behind_line [] zero line behind e = absurd cc
behind_line [] (suc n) line behind e = absurd cc
behind_line (l ∷ lines) zero line behind e = cc
behind_line (l ∷ lines) (suc n) line behind e = behind_line lines n line behind e

-- ---- the objects of a history

behind_head : (version : Version) (issuer : List ℕ) (entries : List Entry) (n : ℕ) (entry : Entry) →
    slice_get entries n ≡ Some entry → slice_get (objects_of (history version issuer entries)) (suc n) ≡ Some (object_of entry)
behind_head version issuer entries n entry e = slice_get-map object_of entries n ∙ ap (λ (o : Option Entry). option_map object_of o) e

pub object_at : (version : Version) (issuer : List ℕ) (entries : List Entry) (n : ℕ) (entry : Entry) →
    slice_get entries n ≡ Some entry → slice_get (objects_of (history version issuer entries)) (n + 1) ≡ Some (object_of entry)
object_at version issuer entries n entry e = rw add-one (behind_head version issuer entries n entry e)

pub objects_end : (version : Version) (issuer : List ℕ) (entries : List Entry) (n : ℕ) → length entries ≤ n →
    length (objects_of (history version issuer entries)) ≤ n + 1
objects_end version issuer entries n h = omega (arith, length-map entries object_of)

-- ---- what a test said

pub reads : {P : Type 0} (b : Bool) → (IsTrue b ↔ P) → b ≡ true → P
reads b iff e = iff.0 e

pub reads_not : {P : Type 0} (b : Bool) → (IsTrue b ↔ P) → b ≡ false → ¬ P
reads_not b iff e h = let is : b ≡ true = iff.1 h in absurd cc

-- ---- one place

one : (lines : List (List ℕ)) (objects : List Data) (n : ℕ) (line : List ℕ) (value : Data) →
    slice_get lines n ≡ Some line → slice_get objects n ≡ Some value → value_read line ≡ Some value → AreOneAt lines objects n
one lines objects n line value e f h = subst (λ (o : Option (List ℕ)). AreOne o (slice_get objects n)) (sym e)
    (subst (λ (o : Option Data). AreOne (Some line) o) (sym f) h)

other : (lines : List (List ℕ)) (objects : List Data) (n : ℕ) (line : List ℕ) (value : Data) →
    slice_get lines n ≡ Some line → slice_get objects n ≡ Some value → ¬ (value_read line ≡ Some value) →
    ¬ (AreOneAt lines objects n)
other lines objects n line value e f apart h = apart (subst (λ (o : Option Data). AreOne (Some line) o) f
    (subst (λ (o : Option (List ℕ)). AreOne o (slice_get objects n)) e h))

missing : (lines : List (List ℕ)) (objects : List Data) (n : ℕ) (value : Data) →
    slice_get lines n ≡ None → slice_get objects n ≡ Some value → ¬ (AreOneAt lines objects n)
missing lines objects n value e f h = subst (λ (o : Option Data). AreOne None o) f
    (subst (λ (o : Option (List ℕ)). AreOne o (slice_get objects n)) e h)

left_over : (lines : List (List ℕ)) (objects : List Data) (n : ℕ) (line : List ℕ) →
    slice_get lines n ≡ Some line → slice_get objects n ≡ None → ¬ (AreOneAt lines objects n)
left_over lines objects n line e f h = subst (λ (o : Option Data). AreOne (Some line) o) f
    (subst (λ (o : Option (List ℕ)). AreOne o (slice_get objects n)) e h)

neither : (lines : List (List ℕ)) (objects : List Data) (n : ℕ) → slice_get lines n ≡ None → slice_get objects n ≡ None →
    AreOneAt lines objects n
neither lines objects n e f = subst (λ (o : Option (List ℕ)). AreOne o (slice_get objects n)) (sym e)
    (subst (λ (o : Option Data). AreOne None o) (sym f) tt)

-- ---- the lines so far

-- the first lines, this many, are those of their places, and these are left
pub record SameSoFar (lines : List (List ℕ)) (objects : List Data) (n : ℕ) (left : List (List ℕ)) : Type 0 where
  pub rest : drop n lines ≡ left
  pub each : (i : ℕ) → i < n → AreOneAt lines objects i

below_or_at : (i n m : ℕ) → m ≡ suc n → i < m → (i < n) ⊎ (i ≡ n)
below_or_at i n m e h = grind arith

pub one_more : (lines : List (List ℕ)) (objects : List Data) (n m : ℕ) (line : List ℕ) (rest left : List (List ℕ)) (value : Data) →
    m ≡ suc n → SameSoFar lines objects n rest → rest ≡ line ∷ left → slice_get objects n ≡ Some value →
    value_read line ≡ Some value → SameSoFar lines objects m left
one_more lines objects n m line rest left value next so e f h = record {
  rest = rw next (behind_line lines n line left (so.rest ∙ e));
  each = λ i below. elim (below_or_at i n m next below) [
    | inl front ↦ so.each i front
    | inr here ↦ subst (λ (k : ℕ). AreOneAt lines objects k) (sym here)
        (one lines objects n line value (line_at lines n line left (so.rest ∙ e)) f h)
  ];
}

at_place : (lines : List (List ℕ)) (objects : List Data) (n at : ℕ) (left : List (List ℕ)) → at ≡ n + 1 →
    SameSoFar lines objects n left → ¬ (AreOneAt lines objects n) → DifferFirst lines objects at
at_place lines objects n at left next so apart = record { index = n; number = next; before = so.each; here = apart }

pub differs_here : (lines : List (List ℕ)) (objects : List Data) (n at : ℕ) (line : List ℕ) (rest left : List (List ℕ)) (value : Data) →
    at ≡ n + 1 → SameSoFar lines objects n rest → rest ≡ line ∷ left → slice_get objects n ≡ Some value →
    ¬ (value_read line ≡ Some value) → DifferFirst lines objects at
differs_here lines objects n at line rest left value next so e f apart = at_place lines objects n at rest next so
    (other lines objects n line value (line_at lines n line left (so.rest ∙ e)) f apart)

pub missing_here : (lines : List (List ℕ)) (objects : List Data) (n at : ℕ) (rest : List (List ℕ)) (value : Data) →
    at ≡ n + 1 → SameSoFar lines objects n rest → rest ≡ [] → slice_get objects n ≡ Some value → DifferFirst lines objects at
missing_here lines objects n at rest value next so e f = at_place lines objects n at rest next so
    (missing lines objects n value (none_from lines n n (so.rest ∙ e) (omega arith)) f)

pub too_many_here : (lines : List (List ℕ)) (objects : List Data) (n at : ℕ) (line : List ℕ) (rest left : List (List ℕ)) →
    at ≡ n + 1 → SameSoFar lines objects n rest → rest ≡ line ∷ left → length objects ≤ n → DifferFirst lines objects at
too_many_here lines objects n at line rest left next so e few = at_place lines objects n at rest next so
    (left_over lines objects n line (line_at lines n line left (so.rest ∙ e)) (slice_get_past objects n few))

below_or_past : (i n : ℕ) → (i < n) ⊎ (n ≤ i)
below_or_past i n = grind arith

pub all_same : (lines : List (List ℕ)) (objects : List Data) (n : ℕ) (rest : List (List ℕ)) → SameSoFar lines objects n rest →
    rest ≡ [] → length objects ≤ n → AreLinesOf lines objects
all_same lines objects n rest so e few i = elim (below_or_past i n) [
  | inl front ↦ so.each i front
  | inr past ↦ neither lines objects i (none_from lines n i (so.rest ∙ e) past) (slice_get_past objects i (omega (arith, few, past)))
]

-- ---- where no history is begun

pub nothing_same : (lines : List (List ℕ)) → lines ≡ [] → AreLinesOf lines []
nothing_same lines none = all_same lines [] 0 lines (record { rest = refl; each = λ i h. absurd (omega (arith, h)) }) none
    (omega arith)

pub first_too_many : (lines : List (List ℕ)) (line : List ℕ) (left : List (List ℕ)) → lines ≡ line ∷ left →
    DifferFirst lines [] 1
first_too_many lines line left some = too_many_here lines [] 0 1 line lines left refl
    (record { rest = refl; each = λ i h. absurd (omega (arith, h)) }) some (omega arith)
