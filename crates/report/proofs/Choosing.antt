-- Which records are listed, and what is written of them.
use Rattle.std.proofs.Common.{◌≡◌, ℕ, zero, suc, ◌+◌, ◌-◌, ◌≤◌, List, [], ◌∷◌, ◌++◌, length, drop, filter, refl, sym, ◌∙◌, ap}
use Rattle.std.proofs.Common.{arith, Option, Some, option_map, slice_get, Bool, true, false, cond, inl, inr, append_assoc}
use Rattle.std.proofs.Common.{flat_map}
use Rattle.std.proofs.lemmas.Bool.{cases_Bool, eq-eqb, ne_eqb}
use Rattle.std.proofs.lemmas.Slice.Eq.{bytes_eq-Decides}
use Rattle.std.specs.List.{enumerate_from, list_any}
use Rattle.std.specs.Prelude.{not, ◌||◌, ◌&&◌}
use Rattle.record_fields.specs.Picks.{last_of}
use Rattle.record_fields.specs.Records.{num_of}
use Rattle.record_fields.specs.declared.records.Sealed.{Sealed}
use Rattle.record_codec.specs.declared.entry.Entry.{Entry}
use Rattle.shop_core.specs.History.{at_place, recs, noted, line_at}
use Rattle.shop_core.specs.Places.{is_place, last_place}
use Rattle.shop_core.specs.Standing.{has_num, is_refused}
use Rattle.report.specs.Listing.{listing, listing_text, record_line}
use Rattle.report.specs.Pieces.{chain_line}
use Rattle.report.specs.Chosen.{is_chosen, lines_among, chosen_lines, chosen_text, ends_its_invoice}
use Rattle.report.proofs.Listed.{at_next}
use Rattle.report.specs.declared.chosen.Choice.{Choice}
use Rattle.report.specs.declared.chosen.Choice.TheVariants.{All, Refused}

-- all records are listed
kept : {A : Type 0} (xs : List A) → filter (λ (x : A). true) xs ≡ xs
kept [] = refl
kept (x ∷ xs) = ap (λ (t : _). x ∷ t) (kept xs)

all_chosen : (entries : List Entry) → chosen_lines All entries ≡ listing entries
all_chosen entries = ap (flat_map (λ (p : ℕ × Sealed). record_line p.0 p.1 (line_at entries p.0))) (kept (enumerate_from 1 (recs entries)))

pub all_listed : (entries : List Entry) → chosen_text All entries ≡ listing_text entries
all_listed entries = ap (λ (t : List ℕ). t ++ chain_line (length (recs entries)) (length (noted entries))) (all_chosen entries)

-- what is written of a first one and of those after it
among : {A : Type 0} (test : A → Bool) (write : A → List ℕ) (b : Bool) (x : A) (xs : List A) → test x ≡ b →
    flat_map write (filter test (x ∷ xs)) ≡ flat_map write (filter test (x ∷ [])) ++ flat_map write (filter test xs)
among test write true x xs e = rw e (sym (append_assoc (write x) [] (flat_map write (filter test xs))))
among test write false x xs e = rw e refl

pub among_first : (choice : Choice) (entries : List Entry) (p : ℕ × Sealed) (ps : List (ℕ × Sealed)) →
    lines_among choice entries (p ∷ ps) ≡ lines_among choice entries (p ∷ []) ++ lines_among choice entries ps
among_first choice entries p ps =
    among (is_chosen choice entries) (λ (p : ℕ × Sealed). record_line p.0 p.1 (line_at entries p.0)) (is_chosen choice entries p) p
    ps refl

-- a last one after one more stays the last
last_behind : {A : Type 0} (x y : A) (ys : List A) → last_of ys ≡ Some y → last_of (x ∷ ys) ≡ Some y
last_behind x y [] e = absurd cc
last_behind x y (z ∷ ys) e =
    let less : length (x ∷ (z ∷ ys)) - 1 ≡ suc (length (z ∷ ys) - 1) = omega arith in ap (slice_get (x ∷ (z ∷ ys))) less ∙ e

-- those of these records that pass a test, with their places
module _ (test : Sealed → Bool) where
  own : ℕ → List Sealed → List (ℕ × Sealed)
  own n xs = filter (λ (p : ℕ × Sealed). test p.1) (enumerate_from n xs)

  record HasOwn (n : ℕ) (xs : List Sealed) : Type 0 where
    found : ℕ × Sealed
    last : last_of (own n xs) ≡ Some found
    later : n ≤ found.0

  own_first : (n : ℕ) (x : Sealed) (xs : List Sealed) → test x ≡ true → own n (x ∷ xs) ≡ (n, x) ∷ own (n + 1) xs
  unfolding own
  own_first n x xs e = rw e refl

  own_rest : (n : ℕ) (x : Sealed) (xs : List Sealed) → test x ≡ false → own n (x ∷ xs) ≡ own (n + 1) xs
  unfolding own
  own_rest n x xs e = rw e refl

  -- there is one or none
  own_or_none : (n : ℕ) (xs : List Sealed) (b : Bool) → list_any test xs ≡ b → cond b (HasOwn n xs) (own n xs ≡ [])
  unfolding own
  own_or_none n [] true e = absurd cc
  own_or_none n [] false e = refl
  own_or_none n (x ∷ xs) true e = elim (cases_Bool (list_any test xs)) [
    | inl some ↦
        let rest = own_or_none (n + 1) xs true some in
        let past : n ≤ rest.found.0 = (let l = rest.later in omega (arith, l)) in
        elim (cases_Bool (test x)) [
          | inl t ↦ record { found = rest.found; last = rw t (last_behind (n, x) rest.found (own (n + 1) xs) rest.last); later = past }
          | inr f ↦ record { found = rest.found; last = rw f rest.last; later = past }
        ]
    | inr none ↦
        let rest = own_or_none (n + 1) xs false none in
        elim (cases_Bool (test x)) [
          | inl t ↦ record { found = (n, x); last = rw t (ap (λ (ps : List (ℕ × Sealed)). last_of ((n, x) ∷ ps)) rest); later = omega arith }
          | inr f ↦ absurd (let g : (test x || list_any test xs) ≡ false = rw (f, none) refl in cc)
        ]
  ]
  own_or_none n (x ∷ xs) false e = elim (cases_Bool (test x)) [
    | inl t ↦ absurd (let g : (test x || list_any test xs) ≡ true = rw t refl in cc)
    | inr f ↦
        let none : list_any test xs ≡ false = (let g : (test x || list_any test xs) ≡ list_any test xs = rw f refl in sym g ∙ e) in
        rw f (own_or_none (n + 1) xs false none)
  ]

  last_own : ℕ → List Sealed → Option ℕ
  last_own n xs = option_map (λ (p : ℕ × Sealed). p.0) (last_of (own n xs))

  -- there is one after the first
  goes_on : (n : ℕ) (x : Sealed) (xs : List Sealed) → HasOwn (n + 1) xs → last_own n (x ∷ xs) ≡ last_own (n + 1) xs
  unfolding own last_own
  goes_on n x xs rest = elim (cases_Bool (test x)) [
    | inl t ↦ ap (option_map (λ (p : ℕ × Sealed). p.0))
        (ap last_of (own_first n x xs t) ∙ last_behind (n, x) rest.found (own (n + 1) xs) rest.last ∙ sym rest.last)
    | inr f ↦ ap (λ (ps : List (ℕ × Sealed)). option_map (λ (p : ℕ × Sealed). p.0) (last_of ps)) (own_rest n x xs f)
  ]

  any_at : (xs : List Sealed) (k : ℕ) (s : Sealed) → slice_get xs k ≡ Some s → test s ≡ true → list_any test xs ≡ true
  any_at [] k s here t = absurd cc
  any_at (x ∷ xs) zero s here t = (let same : x ≡ s = cc in rw (same, t) refl)
  any_at (x ∷ xs) (suc k) s here t = elim (cases_Bool (test x)) [
    | inl e ↦ rw e refl
    | inr e ↦ rw (e, any_at xs k s here t) refl
  ]

  -- one that passes is the last of those exactly where none passes after it
  last_is : (n : ℕ) (xs : List Sealed) (k : ℕ) (s : Sealed) → slice_get xs k ≡ Some s → test s ≡ true →
      is_place (last_own n xs) (n + k) ≡ not (list_any test (drop (suc k) xs))
  unfolding own last_own
  last_is n [] k s here t = absurd cc
  last_is n (x ∷ xs) zero s here t =
      let same : x ≡ s = cc in
      let first : test x ≡ true = rw same t in
      elim (cases_Bool (list_any test xs)) [
        | inl some ↦
            let rest = own_or_none (n + 1) xs true some in
            let past : (rest.found.0 ≡ n + 0) → ⊥ = (λ e. let l = rest.later in omega (arith, l, e)) in
            ap (λ (o : Option ℕ). is_place o (n + 0)) (goes_on n x xs rest)
            ∙ ap (λ (o : Option (ℕ × Sealed)). is_place (option_map (λ (p : ℕ × Sealed). p.0) o) (n + 0)) rest.last
            ∙ ne_eqb rest.found.0 (n + 0) past ∙ sym (ap not some)
        | inr none ↦
            let rest = own_or_none (n + 1) xs false none in
            ap (λ (ps : List (ℕ × Sealed)). is_place (option_map (λ (p : ℕ × Sealed). p.0) (last_of ps)) (n + 0))
            (own_first n x xs first ∙ ap (λ (ps : List (ℕ × Sealed)). (n, x) ∷ ps) rest)
            ∙ eq-eqb n (n + 0) (omega arith) ∙ sym (ap not none)
      ]
  last_is n (x ∷ xs) (suc k) s here t =
      let rest = own_or_none (n + 1) xs true (any_at xs k s here t) in
      ap (λ (o : Option ℕ). is_place o (n + suc k)) (goes_on n x xs rest)
      ∙ (let e : n + suc k ≡ n + 1 + k = omega arith in ap (is_place (last_own (n + 1) xs)) e)
      ∙ last_is (n + 1) xs k s here t

own_num : (s : Sealed) → has_num (num_of s.body) s ≡ true
own_num s = (bytes_eq-Decides (num_of s.body) (num_of s.body)).1 refl

-- a place that has a record is one more than its position
record IsAt {A : Type 0} (xs : List A) (place : ℕ) (x : A) : Type 0 where
  position : ℕ
  after : place ≡ suc position
  here : slice_get xs position ≡ Some x

is_at : {A : Type 0} (xs : List A) (place : ℕ) (x : A) → at_place xs place ≡ Some x → IsAt xs place x
is_at xs zero x e = absurd cc
is_at xs (suc k) x e =
    let next : k + 1 ≡ suc k = omega arith in
    record { position = k; after = refl; here = sym (at_next xs k) ∙ ap (at_place xs) next ∙ e }

-- the place of its invoice's last record is that of a record exactly where no later one is of its invoice
ends_invoice : (entries : List Entry) (place : ℕ) (s : Sealed) → at_place (recs entries) place ≡ Some s →
    is_place (last_place (recs entries) (num_of s.body)) place ≡ ends_its_invoice entries (place, s)
unfolding own last_own
ends_invoice entries place s here =
    let test : Sealed → Bool = has_num (num_of s.body) in
    let at = is_at (recs entries) place s here in
    let one : place ≡ 1 + at.position = (let a = at.after in omega (arith, a)) in
    ap (is_place (last_place (recs entries) (num_of s.body))) one
    ∙ last_is test 1 (recs entries) at.position s at.here (own_num s)
    ∙ ap (λ (n : ℕ). not (list_any test (drop n (recs entries)))) (sym at.after)

-- a refused record is listed where it ends its invoice
pub answered_by_none : (choice : Choice) (entries : List Entry) (place : ℕ) (s : Sealed) (last : Bool) → choice ≡ Refused →
    is_refused entries place ≡ true → at_place (recs entries) place ≡ Some s →
    last ≡ is_place (last_place (recs entries) (num_of s.body)) place → last ≡ is_chosen choice entries (place, s)
answered_by_none choice entries place s last which answered here is =
    is ∙ ends_invoice entries place s here ∙ sym (ap (λ (b : Bool). b && ends_its_invoice entries (place, s)) answered)
    ∙ ap (λ (c : Choice). is_chosen c entries (place, s)) (sym which)
