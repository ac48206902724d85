-- A legal history's lines of some days are few, and near.
use Rattle.std.proofs.Common.{◌≡◌, ℕ, zero, suc, ◌+◌, ◌*◌, ◌≤◌, List, [], ◌∷◌, ◌++◌, length, length-append, refl, sym}
use Rattle.std.proofs.Common.{subst, inl, inr, Bool, cond, arith, Some, None, append_assoc, nat_lt, take, eqb, unsigned_abs}
use Rattle.std.proofs.lemmas.Bool.{cases_Bool, ltb-false}
use Rattle.std.specs.List.{AllByRecursion, position_or_len}
use Rattle.record_fields.specs.declared.versions.Version.{Version}
use Rattle.tax_lines.specs.Breakdown.{HasKey, IsBreakdown, is_past}
use Rattle.tax_lines.specs.declared.lines.TaxLine.{TaxLine}
use Rattle.tax_lines.specs.declared.lines.TheConstants.{MAX_BASE}
use Rattle.record_fields.specs.Records.{num_of}
use Rattle.record_fields.specs.Valid.{IsDraft}
use Rattle.record_fields.specs.declared.records.Alta.{Alta}
use Rattle.record_fields.specs.declared.records.Record.{Record}
use Rattle.record_fields.specs.declared.records.Record.TheVariants as record_of
use Rattle.record_fields.specs.declared.records.Sealed.{Sealed}
use Rattle.record_codec.specs.declared.entry.Entry.{Entry}
use Rattle.record_codec.specs.declared.entry.Entry.TheVariants.{Rec, Notes}
use Rattle.series.specs.Numbers.{series_of}
use Rattle.shop_core.specs.History.{recs}
use Rattle.shop_core.specs.Legal.{Legal, request_of}
use Rattle.shop_core.specs.Answer.Requests.{IsRequest}
use Rattle.shop_core.specs.declared.answer.requests.Request.{Request}
use Rattle.shop_core.specs.declared.answer.requests.Request.TheVariants.{Sale, Fix}
use Rattle.statements.proofs.Changing.{near_both}
use Rattle.statements.proofs.Holding.{Holders}
use Rattle.statements.specs.Postings.{ArePostings, IsPosting, all_at, lines_at}
use Rattle.statements.specs.Rows.{AreFew, IsNear}
use Rattle.statements.specs.Statement.{held_from, is_at, lines_on}
use Rattle.statements.specs.declared.postings.Posting.{Posting}

-- lines of one invoice
pub record AreOfOne (lines : List TaxLine) : Type 0 where
  pub few : length lines ≤ 12
  pub near : AllByRecursion IsNear lines

none_of_one : AreOfOne []
none_of_one = record { few = omega arith; near = tt }

all_near : (lines : List TaxLine) → length lines ≤ position_or_len is_past lines → AllByRecursion HasKey lines →
    AllByRecursion IsNear lines
all_near [] le keys = tt
all_near (line ∷ lines) le keys = elim (cases_Bool (is_past line)) [
  | inl e ↦ absurd (let h : suc (length lines) ≤ 0 = rw e at le in omega arith)
  | inr e ↦
      let h : suc (length lines) ≤ 1 + position_or_len is_past lines = rw e at le in
      (record { key = keys.0; base = ltb-false MAX_BASE (unsigned_abs line.base) e }, all_near lines (omega (arith, h)) keys.1)
]

breakdown_of_one : (lines : List TaxLine) → IsBreakdown lines → AreOfOne lines
breakdown_of_one lines is =
    let few = is.few.1 in
    let le : length lines ≤ position_or_len is_past lines =
    elim (cases_Bool (nat_lt (position_or_len is_past lines) (length lines))) [
      | inl e ↦ absurd (let h : Some (position_or_len is_past lines) ≡ None = rw e at is.near in cc)
      | inr e ↦ ltb-false (position_or_len is_past lines) (length lines) e
    ] in
    record { few = omega (arith, few); near = all_near lines le is.keys }

-- ---- the records of a legal history

abbrev pub IsSmallRecord : Sealed → Type 0
IsSmallRecord s = (days : ℕ → Bool) → AreOfOne (lines_on days s.body)

draft_of : (a : Alta) → IsRequest (request_of (record_of.Alta a)) → IsDraft a.draft
draft_of a is = elim (cases_Bool a.subsanacion) [
  | inl e ↦
      let r : request_of (record_of.Alta a) ≡ Fix a.id.num a.draft = rw e refl in
      let h : IsRequest (Fix a.id.num a.draft) = subst (λ (q : Request). IsRequest q) r is in
      h.1
  | inr e ↦
      let r : request_of (record_of.Alta a) ≡ Sale (series_of a.id.num) a.draft = rw e refl in
      let h : IsRequest (Sale (series_of a.id.num) a.draft) = subst (λ (q : Request). IsRequest q) r is in
      h.1
]

small_body : (body : Record) → IsRequest (request_of body) → (days : ℕ → Bool) → AreOfOne (lines_on days body)
small_body (record_of.Anulacion a) is days = none_of_one
small_body (record_of.Alta a) is days = elim (cases_Bool (days a.id.day)) [
  | inl e ↦ rw e (breakdown_of_one a.draft.lines (draft_of a is).lines)
  | inr e ↦ rw e none_of_one
]

small_from : (version : Version) (issuer : List ℕ) (front entries : List Entry) → Legal version issuer (front ++ entries) →
    AllByRecursion IsSmallRecord
    (recs entries)
small_from version issuer front [] legal = tt
small_from version issuer front (Rec till serial s ∷ entries) legal =
    let next = legal front entries (Rec till serial s) refl in
    let a : (front ++ Rec till serial s ∷ []) ++ entries ≡ front ++ Rec till serial s ∷ entries =
    append_assoc front (Rec till serial s ∷ []) entries in (
      small_body s.body next.asked.request,
      small_from version issuer (front ++ Rec till serial s ∷ []) entries
          (subst (λ (es : List Entry). Legal version issuer es) (sym a) legal),
    )
small_from version issuer front (Notes first lines ∷ entries) legal =
    let a : (front ++ Notes first lines ∷ []) ++ entries ≡ front ++ Notes first lines ∷ entries =
    append_assoc front (Notes first lines ∷ []) entries in
    small_from version issuer (front ++ Notes first lines ∷ []) entries (subst (λ (es : List Entry). Legal version issuer es)
    (sym a) legal)

pub small_records : (version : Version) (issuer : List ℕ) (entries : List Entry) → Legal version issuer entries →
    AllByRecursion IsSmallRecord (recs entries)
small_records version issuer entries legal = small_from version issuer [] entries legal

pub small_take : (n : ℕ) (records : List Sealed) → AllByRecursion IsSmallRecord records →
    AllByRecursion IsSmallRecord (take n records)
small_take zero records all = tt
small_take (suc n) [] all = tt
small_take (suc n) (s ∷ records) all = (all.0, small_take n records all.1)

-- ---- lines of this many invoices

pub record AreOf (n : ℕ) (lines : List TaxLine) : Type 0 where
  pub few : length lines ≤ 12 * n
  pub near : AllByRecursion IsNear lines

pub of_records : (h : Holders) (days : ℕ → Bool) (place : ℕ) (records : List Sealed) → AllByRecursion IsSmallRecord records →
    AreOf (length records) (held_from h days place records)
of_records h days place [] all = record { few = omega arith; near = tt }
of_records h days place (s ∷ records) all =
    let rest = of_records h days (place + 1) records all.1 in
    let n = rest.few in
    let one : AreOfOne (cond (is_at (h (num_of s.body)) place) (lines_on days s.body) []) =
    elim (cases_Bool (is_at (h (num_of s.body)) place)) [
      | inl e ↦ rw e (all.0 days)
      | inr e ↦ rw e none_of_one
    ] in
    let m = one.few in
    let here : List TaxLine = cond (is_at (h (num_of s.body)) place) (lines_on days s.body) [] in
    let l = length-append here (held_from h days (place + 1) records) in
    record {
      few = omega (arith, n, m, l);
      near = near_both here (held_from h days (place + 1) records) one.near rest.near;
    }

pub posting_of_one : (p : Posting) (i : ℕ) → IsPosting p → AreOfOne (lines_at p i)
posting_of_one p i is = elim (cases_Bool (eqb p.month i)) [
  | inl e ↦ rw e (breakdown_of_one p.lines is.lines)
  | inr e ↦ rw e none_of_one
]

pub of_postings : (postings : List Posting) (i : ℕ) → ArePostings postings → AreOf (length postings) (all_at postings i)
of_postings [] i all = record { few = omega arith; near = tt }
of_postings (p ∷ postings) i all =
    let rest = of_postings postings i all.1 in
    let n = rest.few in
    let one = posting_of_one p i all.0 in
    let m = one.few in
    let l = length-append (lines_at p i) (all_at postings i) in
    record {
      few = omega (arith, n, m, l);
      near = near_both (lines_at p i) (all_at postings i) one.near rest.near;
    }

-- 1000 invoices more than a chain has records, and a record more
pub few_both : (n m : ℕ) (xs ys : List TaxLine) → n ≤ 1000 → m ≤ 1_000_001 → AreOf n xs → AreOf m ys → AreFew (xs ++ ys)
few_both n m xs ys a b x y =
    let p = x.few in
    let q = y.few in
    let l = length-append xs ys in
    record { few = omega (arith, a, b, p, q, l); near = near_both xs ys x.near y.near }
