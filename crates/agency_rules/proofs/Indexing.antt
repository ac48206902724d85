-- The indexes over the processed records, after one pair more and after one fewer.
use Rattle.std.proofs.Common.{◌≡◌, ◌+◌, ◌∙◌, List, [], ◌∷◌, ◌++◌, refl, sym, ap, inl, inr, ℕ, zero, suc, ◌<◌, ◌≤◌, ◌-◌, ◌^◌, Bool}
use Rattle.std.proofs.Common.{true, false, true≢false, length, length-append, Option, None, Some, is_some, slice_get, arith}
use Rattle.std.proofs.Common.{bytes_eq, subst, if◌then◌else◌}
use Rattle.std.proofs.lemmas.Bool.{cases_lt}
use Rattle.std.proofs.lemmas.Bool.Decides.{Decides-eqb}
use Rattle.std.proofs.lemmas.Slice.Eq.{bytes_eq-Decides}
use Rattle.series.specs.declared.numbers.InvoiceId.{InvoiceId}
use Rattle.record_fields.specs.Records.{id_of}
use Rattle.record_fields.specs.declared.lines.Line.{Line}
use Rattle.record_fields.specs.declared.records.Sealed.{Sealed}
use Rattle.agency_rules.specs.declared.judging.Past.{Past}
use Rattle.agency_rules.specs.Judging.{same_id, of_id, past_of, past_after}
use Rattle.agency_rules.specs.Pairs.{line_of}
use Rattle.agency_rules.specs.declared.indexes.Places.{Places}
use Rattle.agency_rules.specs.declared.indexes.Pasts.{Pasts}
use Rattle.agency_rules.specs.Indexes.{place_of, line_if, line_at, place_at, past_at, IsIndexed}
use Rattle.agency_rules.proofs.Pasts.{by_cases, past_more, past_still, same_itself}

-- the line at the first place of a Huella
first_line : (xs : List (Sealed × Line)) (h : List ℕ) → line_if h (slice_get xs (place_of xs h)) ≡ line_of xs h
first_line [] h = refl
first_line (p ∷ xs) h = elim (by_cases (bytes_eq p.0.huella h)) [
  | inl e ↦ simp e refl
  | inr e ↦ let n : 1 + place_of xs h ≡ suc (place_of xs h) = omega arith in rw e (rw n (first_line xs h))
]

no_line : (xs : List (Sealed × Line)) (h : List ℕ) (i : ℕ) → line_of xs h ≡ None → line_if h (slice_get xs i) ≡ None
no_line [] h i none = refl
no_line (p ∷ xs) h zero none = elim (by_cases (bytes_eq p.0.huella h)) [
  | inl e ↦ let n : Some p.1 ≡ None = rw e at none in cc
  | inr e ↦ rw e refl
]
no_line (p ∷ xs) h (suc i) none = elim (by_cases (bytes_eq p.0.huella h)) [
  | inl e ↦ let n : Some p.1 ≡ None = rw e at none in cc
  | inr e ↦ no_line xs h i (rw e at none)
]

past_end : (xs : List (Sealed × Line)) (h : List ℕ) → length xs ≤ place_of xs h → line_of xs h ≡ None
past_end [] h far = refl
past_end (p ∷ xs) h far = elim (by_cases (bytes_eq p.0.huella h)) [
  | inl e ↦ let n : length (p ∷ xs) ≤ 0 = rw e at far in absurd (omega arith)
  | inr e ↦ let n : length (p ∷ xs) ≤ 1 + place_of xs h = rw e at far in rw e (past_end xs h (omega arith))
]

stands : (xs : List (Sealed × Line)) (h : List ℕ) → place_of xs h < length xs → is_some (line_of xs h) ≡ true
stands [] h within = absurd (omega arith)
stands (p ∷ xs) h within = elim (by_cases (bytes_eq p.0.huella h)) [
  | inl e ↦ rw e refl
  | inr e ↦ let n : 1 + place_of xs h < length (p ∷ xs) = rw e at within in rw e (stands xs h (omega arith))
]

-- a look-up at a noted place
pub line_found : (xs : List (Sealed × Line)) (h : List ℕ) (place : Option ℕ) →
    (place_of xs h < length xs → place ≡ Some (place_of xs h)) → line_at xs h place ≡ line_of xs h
line_found xs h place noted = elim (cases_lt (place_of xs h) (length xs)) [
  | inl within ↦ rw (noted within) (first_line xs h)
  | inr far ↦ nowhere place (past_end xs h far)
]
  where
    nowhere : (place : Option ℕ) → line_of xs h ≡ None → line_at xs h place ≡ line_of xs h
    nowhere None none = sym none
    nowhere (Some i) none = no_line xs h i none ∙ sym none

-- the first place with one pair more
place_kept : (xs : List (Sealed × Line)) (p : Sealed × Line) (h : List ℕ) → place_of xs h < length xs →
    place_of (xs ++ p ∷ []) h ≡ place_of xs h
place_kept [] p h within = absurd (omega arith)
place_kept (q ∷ xs) p h within = elim (by_cases (bytes_eq q.0.huella h)) [
  | inl e ↦ rw e refl
  | inr e ↦ let n : 1 + place_of xs h < length (q ∷ xs) = rw e at within in
      rw e (ap (λ (i : ℕ). 1 + i) (place_kept xs p h (omega arith)))
]

place_last : (xs : List (Sealed × Line)) (p : Sealed × Line) (h : List ℕ) → length xs ≤ place_of xs h →
    bytes_eq p.0.huella h ≡ true →
    place_of (xs ++ p ∷ []) h ≡ length xs
place_last [] p h far e = rw e refl
place_last (q ∷ xs) p h far e = elim (by_cases (bytes_eq q.0.huella h)) [
  | inl f ↦ let n : length (q ∷ xs) ≤ 0 = rw f at far in absurd (omega arith)
  | inr f ↦ let n : length (q ∷ xs) ≤ 1 + place_of xs h = rw f at far in let one : 1 + length xs ≡ suc (length xs) =
      omega arith in rw f (ap (λ (i : ℕ). 1 + i) (place_last xs p h (omega arith) e) ∙ one)
]

place_none : (xs : List (Sealed × Line)) (p : Sealed × Line) (h : List ℕ) → length xs ≤ place_of xs h →
    bytes_eq p.0.huella h ≡ false →
    place_of (xs ++ p ∷ []) h ≡ 1 + length xs
place_none [] p h far e = rw e refl
place_none (q ∷ xs) p h far e = elim (by_cases (bytes_eq q.0.huella h)) [
  | inl f ↦ let n : length (q ∷ xs) ≤ 0 = rw f at far in absurd (omega arith)
  | inr f ↦ let n : length (q ∷ xs) ≤ 1 + place_of xs h = rw f at far in let one : 1 + (1 + length xs) ≡ 1 + suc (length xs) =
      omega arith in rw f (ap (λ (i : ℕ). 1 + i) (place_none xs p h (omega arith) e) ∙ one)
]

-- each Huella of a pair is noted with its first place
abbrev pub ArePlaces : List (Sealed × Line) → (List ℕ → Option ℕ) → Type 0
ArePlaces xs at = (h : List ℕ) → place_of xs h < length xs → at h ≡ Some (place_of xs h)

-- the places after a note of the pair's Huella, unless it is known
abbrev pub NotesFirst : List (Sealed × Line) → Sealed → (List ℕ → Option ℕ) → (List ℕ → Option ℕ) → Type 0
NotesFirst xs s before now = (h : List ℕ) → now h ≡
    (if is_some (line_of xs s.huella) then before h else if bytes_eq s.huella h then Some (length xs) else before h)

-- the note changes nothing of the pairs before it
pub places_still : (xs : List (Sealed × Line)) (s : Sealed) (before now : List ℕ → Option ℕ) → ArePlaces xs before →
    NotesFirst xs s before now → ArePlaces xs now
places_still xs s before now are notes h within = elim (by_cases (is_some (line_of xs s.huella))) [
  | inl e ↦ let n : now h ≡ before h = notes h ∙ rw e refl in n ∙ are h within
  | inr e ↦ elim (by_cases (bytes_eq s.huella h)) [
    | inl f ↦
        let same : s.huella ≡ h = (bytes_eq-Decides s.huella h).0 f in
        let known : is_some (line_of xs s.huella) ≡ true = rw same (stands xs h within) in
        absurd (true≢false (sym known ∙ e))
    | inr f ↦ let n : now h ≡ before h = notes h ∙ rw (e, f) refl in n ∙ are h within
  ]
]

pub places_more : (xs : List (Sealed × Line)) (s : Sealed) (line : Line) (before now : List ℕ → Option ℕ) → ArePlaces xs before →
    NotesFirst xs s before now →
    ArePlaces (xs ++ (s, line) ∷ []) now
places_more xs s line before now are notes h within = elim (cases_lt (place_of xs h) (length xs)) [
  | inl there ↦ places_still xs s before now are notes h there ∙ ap (λ (i : ℕ). Some i) (sym (place_kept xs (s, line) h there))
  | inr far ↦ elim (by_cases (bytes_eq s.huella h)) [
    | inl f ↦
        let same : s.huella ≡ h = (bytes_eq-Decides s.huella h).0 f in
        let new : line_of xs s.huella ≡ None = rw same (past_end xs h far) in
        let n : now h ≡ Some (length xs) = notes h ∙ rw (new, f) refl in
        n ∙ ap (λ (i : ℕ). Some i) (sym (place_last xs (s, line) h far f))
    | inr f ↦ absurd (omega (arith, place_none xs (s, line) h far f, length-append xs ((s, line) ∷ [])))
  ]
]

pub places_fewer : (xs : List (Sealed × Line)) (p : Sealed × Line) (at : List ℕ → Option ℕ) → ArePlaces (xs ++ p ∷ []) at →
    ArePlaces xs at
places_fewer xs p at are h within =
    let same : place_of (xs ++ p ∷ []) h ≡ place_of xs h = place_kept xs p h within in
    are h (omega (arith, same, length-append xs (p ∷ []))) ∙ ap (λ (i : ℕ). Some i) same

same_id_is : (a b : InvoiceId) → same_id a b ≡ true → a ≡ b
same_id_is a b e = by (bytes_eq a.num b.num) refl
  where
    by : (x : Bool) → bytes_eq a.num b.num ≡ x → a ≡ b
    by true n = let d : a.day ≡ b.day = (Decides-eqb a.day b.day).0 (rw n at e) in let m : a.num ≡ b.num =
        (bytes_eq-Decides a.num b.num).0 n in λ i. record { num = m i; day = d i }
    by false n = absurd (true≢false (sym (rw n at e)))

-- each invoice has its past
abbrev pub ArePasts : List (Sealed × Line) → (InvoiceId → Past) → Type 0
ArePasts xs at = (id : InvoiceId) → at id ≡ past_of xs id

-- the pasts after a note of this one
abbrev pub Notes : InvoiceId → Past → (InvoiceId → Past) → (InvoiceId → Past) → Type 0
Notes id past before now = (other : InvoiceId) → now other ≡ (if same_id id other then past else before other)

pub pasts_more : (xs : List (Sealed × Line)) (s : Sealed) (line : Line) (before now : InvoiceId → Past) → ArePasts xs before →
    Notes (id_of s.body) (past_after (past_of xs (id_of s.body)) s.body line) before now → ArePasts (xs ++ (s, line) ∷ []) now
pasts_more xs s line before now are notes id = elim (by_cases (same_id (id_of s.body) id)) [
  | inl e ↦
      let n : now id ≡ past_after (past_of xs (id_of s.body)) s.body line = notes id ∙ rw e refl in
      n ∙ ap (λ (d : InvoiceId). past_after (past_of xs d) s.body line) (same_id_is (id_of s.body) id e) ∙
      sym (past_more xs (s, line) id e)
  | inr e ↦
      let n : now id ≡ before id = notes id ∙ rw e refl in
      n ∙ are id ∙ sym (past_still xs (s, line) id e)
]

pub pasts_fewer : (xs : List (Sealed × Line)) (p : Sealed × Line) (before now : InvoiceId → Past) → ArePasts (xs ++ p ∷ []) before
    →
    Notes (id_of p.0.body) (past_of xs (id_of p.0.body)) before now → ArePasts xs now
pasts_fewer xs p before now are notes id = elim (by_cases (same_id (id_of p.0.body) id)) [
  | inl e ↦
      let n : now id ≡ past_of xs (id_of p.0.body) = notes id ∙ rw e refl in
      n ∙ ap (λ (d : InvoiceId). past_of xs d) (same_id_is (id_of p.0.body) id e)
  | inr e ↦
      let n : now id ≡ before id = notes id ∙ rw e refl in
      n ∙ are id ∙ past_still xs p id e
]

-- an invoice of which there is a pair
pub some_past : (xs : List (Sealed × Line)) (p : Sealed × Line) (at : InvoiceId → Past) → ArePasts (xs ++ p ∷ []) at →
    0 < (at (id_of p.0.body)).count
some_past xs p at are =
    let id = id_of p.0.body in
    let n : (at id).count ≡ (past_of xs id).count + 1 = ap (λ (q : Past). q.count) (are id ∙ past_more xs p id (same_itself id))
    in
    omega (arith, n)

-- no more records than pairs
pub few_of_one : (xs : List (Sealed × Line)) (id : InvoiceId) → (past_of xs id).count ≤ length xs
few_of_one [] id = omega arith
few_of_one (p ∷ xs) id = elim (by_cases (same_id (id_of p.0.body) id)) [
  | inl e ↦ let n : length (of_id xs id) ≤ length xs = few_of_one xs id in rw e (omega arith)
  | inr e ↦ let n : length (of_id xs id) ≤ length xs = few_of_one xs id in rw e (omega arith)
]

-- a note by other names
pub notes_as : (id id' : InvoiceId) (past past' : Past) (before now : InvoiceId → Past) → id ≡ id' → past ≡ past' →
    Notes id past before now → Notes id' past' before now
notes_as id id' past past' before now i p notes other = notes other ∙ rw (i, p) refl

pub first_noted : (xs ys : List (Sealed × Line)) (s : Sealed) (line : Option Line) (known : Bool) (place : ℕ)
    (before now : List ℕ → Option ℕ) →
    xs ≡ ys → line ≡ line_of ys s.huella → known ≡ is_some line → place ≡ length xs →
    ((h : List ℕ) → now h ≡ (if known then before h else if bytes_eq s.huella h then Some place else before h)) →
    NotesFirst xs s before now
first_noted xs ys s line known place before now same is k at notes h =
    let known_is : known ≡ is_some (line_of xs s.huella) = k ∙ ap (λ (o : Option Line). is_some o)
    (is ∙ ap (λ (zs : List (Sealed × Line)). line_of zs s.huella) (sym same)) in
    notes h ∙ rw (known_is, at) refl

pub past_noted : (xs ys : List (Sealed × Line)) (s : Sealed) (line : Line) (id : InvoiceId) (past more : Past)
    (before now : InvoiceId → Past) →
    xs ≡ ys → id ≡ id_of s.body → past ≡ past_of ys id → more ≡ past_after past s.body line → Notes id more before now →
    Notes (id_of s.body) (past_after (past_of xs (id_of s.body)) s.body line) before now
past_noted xs ys s line id past more before now same i p t notes =
    let is : past ≡ past_of xs (id_of s.body) = p ∙ ap (λ (zs : List (Sealed × Line)). past_of zs id) (sym same) ∙
    ap (λ (d : InvoiceId). past_of xs d) i in
    notes_as id (id_of s.body) more (past_after (past_of xs (id_of s.body)) s.body line) before now i
    (t ∙ ap (λ (q : Past). past_after q s.body line) is) notes

-- nothing was added to the list
pub indexed_still : (xs ys : List (Sealed × Line)) (places places' : Places) (pasts pasts' : Pasts) → ys ≡ xs →
    IsIndexed xs places pasts →
    ArePlaces xs (place_at places') → ((id : InvoiceId) → past_at pasts' id ≡ past_at pasts id) → IsIndexed ys places' pasts'
indexed_still xs ys places places' pasts pasts' same was are still = subst (λ (zs : List (Sealed × Line)). IsIndexed zs places'
    pasts') (sym same) (record {
      few = was.few;
      places_are = are;
      pasts_are = λ id. still id ∙ was.pasts_are id;
    })

pub indexed_more : (xs ys : List (Sealed × Line)) (places places' : Places) (pasts pasts' : Pasts) (s : Sealed) (line : Line) →
    ys ≡ xs ++ (s, line) ∷ [] →
    length xs < 2 ^ 32 - 2 → IsIndexed xs places pasts → NotesFirst xs s (place_at places) (place_at places') →
    Notes (id_of s.body) (past_after (past_of xs (id_of s.body)) s.body line) (past_at pasts) (past_at pasts') →
    IsIndexed ys places' pasts'
indexed_more xs ys places places' pasts pasts' s line same few was first past = subst (λ (zs : List (Sealed × Line)). IsIndexed zs
    places' pasts') (sym same) (record {
      few = omega (arith, length-append xs ((s, line) ∷ []));
      places_are = places_more xs s line (place_at places) (place_at places') was.places_are first;
      pasts_are = pasts_more xs s line (past_at pasts) (past_at pasts') was.pasts_are past;
    })
