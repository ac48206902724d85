-- A batch that is a run of a chain continues the agency's list.
use Rattle.std.proofs.Common.{◌≡◌, ◌≢◌, ℕ, List, [], ◌∷◌, ◌++◌, refl, sym, ◌∙◌, ap, subst, inl, inr, ◌⊎◌, Option, Some, None}
use Rattle.std.proofs.Common.{Bool, true, false, not, ◌&&◌, length, length-append, ◌≤◌, ◌+◌, arith, append_assoc, append-nil}
use Rattle.std.proofs.Common.{bytes_eq}
use Rattle.std.proofs.lemmas.Bool.{cases_Bool}
use Rattle.std.proofs.lemmas.List.{map-append, length-map}
use Rattle.std.specs.List.{AllByRecursion}
use Rattle.record_fields.specs.declared.versions.Version.{Version}
use Rattle.series.specs.declared.numbers.InvoiceId.{InvoiceId}
use Rattle.huella.specs.Linked.{Linked}
use Rattle.record_fields.specs.Records.{id_of, num_of, is_sale}
use Rattle.record_fields.specs.declared.records.Alta.{Alta}
use Rattle.record_fields.specs.declared.records.Record.{Record}
use Rattle.record_fields.specs.declared.records.Record.TheVariants as record_of
use Rattle.record_fields.specs.declared.records.Sealed.{Sealed}
use Rattle.record_fields.specs.declared.lines.Line.{Line}
use Rattle.record_codec.specs.declared.entry.Entry.{Entry}
use Rattle.shop_core.specs.History.{recs}
use Rattle.shop_core.specs.Legal.{Legal}
use Rattle.shop_core.specs.Sales.{SalesAreNew}
use Rattle.agency_rules.specs.declared.judging.Past.{Past}
use Rattle.agency_rules.specs.declared.plans.PlannedVerdict.{PlannedVerdict}
use Rattle.agency_rules.specs.declared.plans.Verdict.{Verdict}
use Rattle.agency_rules.specs.declared.plans.Verdict.TheVariants as verdict_of
use Rattle.agency_rules.specs.Judging.{of_id, past_of, verdict_for, judge, judgement}
use Rattle.agency_rules.specs.Pairs.{line_of, after_record, delivered}
use Rattle.shop_core.specs.Prefix.{IsPrefix}
use Rattle.once_world.specs.Agreement.{records_of, contradicts, is_sale_refused, AddsNoRefusedSale}
use Rattle.once_world.proofs.Lists.{bytes_same, not_same}

-- the records of a chain: no Huella stands twice, and the number of a sale is new
pub record IsChain (records : List Sealed) : Type 0 where
  pub huellas : (before after : List Sealed) (s : Sealed) → records ≡ before ++ s ∷ after →
      AllByRecursion (λ (t : Sealed). t.huella ≢ s.huella) before
  pub sales : (before after : List Sealed) (s : Sealed) → records ≡ before ++ s ∷ after → is_sale s.body ≡ true →
      AllByRecursion (λ (t : Sealed). num_of t.body ≢ num_of s.body) before

-- what is known of legal histories
abbrev pub AreLinked : Type 0
AreLinked = (version : Version) (issuer : List ℕ) (entries : List Entry) → Legal version issuer entries →
    Linked issuer (recs entries)

pub chain_of : AreLinked → SalesAreNew → (version : Version) (issuer : List ℕ) (entries : List Entry) →
    Legal version issuer entries → IsChain (recs entries)
chain_of linked sales version issuer entries legal = record {
  huellas = λ before after s e. (linked version issuer entries legal before after s e).new;
  sales = λ before after s e sale. sales version issuer entries before after s legal e sale;
}

-- a record that stands past this many is the next one, or is there already
pub record IsIn (xs before : List Sealed) (s : Sealed) : Type 0 where
  pub more : List Sealed
  pub is : xs ≡ before ++ s ∷ more

pub next_or_in : (xs rest before after : List Sealed) (s : Sealed) → xs ++ rest ≡ before ++ s ∷ after →
    length before ≤ length xs → (xs ≡ before) ⊎ IsIn xs before s
next_or_in [] rest [] after s e le = inl refl
next_or_in [] rest (b ∷ before) after s e le = absurd (omega arith)
next_or_in (x ∷ xs) rest [] after s e le = let h : x ≡ s = cc in inr (record { more = xs; is = ap (λ (y : Sealed). y ∷ xs) h })
next_or_in (x ∷ xs) rest (b ∷ before) after s e le =
    let h : x ≡ b = cc in
    let t : xs ++ rest ≡ before ++ s ∷ after = cc in
    elim (next_or_in xs rest before after s t (omega arith)) [
      | inl p ↦ inl (let q = p in cc)
      | inr p ↦ inr (record { more = p.more; is = (let q = p.is in cc) })
    ]

-- no record of the list has the Huella: it isn't seen
pub not_seen : (processed : List (Sealed × Line)) (s : Sealed) → AllByRecursion (λ (t : Sealed). t.huella ≢ s.huella)
    (records_of processed) → line_of processed s.huella ≡ None
not_seen [] s all = refl
not_seen (p ∷ processed) s all = rw (not_same p.0.huella s.huella all.0) (not_seen processed s all.1)

-- a Huella that is seen, with its line
pub record IsSeen (processed : List (Sealed × Line)) (huella : List ℕ) : Type 0 where
  pub line : Line
  pub is : line_of processed huella ≡ Some line

pub seen_next : (p : Sealed × Line) (processed : List (Sealed × Line)) (huella : List ℕ) → IsSeen processed huella →
    IsSeen (p ∷ processed) huella
seen_next p processed huella h = elim (cases_Bool (bytes_eq p.0.huella huella)) [
  | inl e ↦ record { line = p.1; is = rw e refl }
  | inr e ↦ record { line = h.line; is = rw e h.is }
]

-- a record that stands in the list is seen
pub seen_there : (processed : List (Sealed × Line)) (before more : List Sealed) (s : Sealed) → records_of processed ≡ before ++ s
    ∷ more → IsSeen processed s.huella
seen_there [] [] more s e = absurd cc
seen_there [] (b ∷ before) more s e = absurd cc
seen_there (p ∷ processed) [] more s e = let h : p.0 ≡ s = cc in record { line = p.1; is = rw (h, bytes_same s.huella) refl }
seen_there (p ∷ processed) (b ∷ before) more s e =
    let t : records_of processed ≡ before ++ s ∷ more = cc in
    seen_next p processed s.huella (seen_there processed before more s t)

pub after_in : (verdicts : List PlannedVerdict) (processed : List (Sealed × Line)) (s : Sealed) (line : Line) →
    line_of processed s.huella ≡ Some line → after_record verdicts processed s ≡ processed
after_in verdicts processed s line h = rw h refl

pub after_new : (verdicts : List PlannedVerdict) (processed : List (Sealed × Line)) (s : Sealed) → line_of processed s.huella ≡
    None →
    after_record verdicts processed s ≡ processed ++ (s, judgement verdicts processed s.body) ∷ []
after_new verdicts processed s h = rw h refl

-- no pair has the invoice's number
no_past : (processed : List (Sealed × Line)) (id : InvoiceId) → AllByRecursion (λ (t : Sealed). num_of t.body ≢ id.num)
    (records_of processed) → of_id processed id ≡ []
no_past [] id all = refl
no_past (p ∷ processed) id all = rw (not_same (num_of p.0.body) id.num all.0) (no_past processed id all.1)

-- a sale of a new invoice contradicts nothing
judge_new : (n : ℕ) (v : Option Verdict) (a : Alta) → a.subsanacion ≡ false →
    contradicts (judge (record { count = n; held = false; gone = false }) v (record_of.Alta a)) ≡ false
judge_new n None a e = rw e refl
judge_new n (Some (verdict_of.Vet code)) a e = refl
judge_new n (Some (verdict_of.Warn code)) a e = rw e refl

past_new : (processed : List (Sealed × Line)) (id : InvoiceId) → of_id processed id ≡ [] → past_of processed id ≡ record
    { count = 0; held = false; gone = false }
past_new processed id e = rw e refl

judged_new : (verdicts : List PlannedVerdict) (processed : List (Sealed × Line)) (a : Alta) → a.subsanacion ≡ false →
    of_id processed a.id ≡ [] → contradicts (judgement verdicts processed (record_of.Alta a)) ≡ false
judged_new verdicts processed a e none =
    subst (λ (past : Past). contradicts (judge past (verdict_for verdicts a.id.num (past.count + 1)) (record_of.Alta a)) ≡ false)
    (sym (past_new processed a.id none))
    (judge_new 0 (verdict_for verdicts a.id.num (0 + 1)) a e)

sale_judged : (verdicts : List PlannedVerdict) (processed : List (Sealed × Line)) (body : Record) → is_sale body ≡ true →
    of_id processed (id_of body) ≡ [] → contradicts (judgement verdicts processed body) ≡ false
sale_judged verdicts processed (record_of.Alta a) sale none = judged_new verdicts processed a (not_true a.subsanacion sale) none
  where
    not_true : (b : Bool) → not b ≡ true → b ≡ false
    not_true true h = absurd cc
    not_true false h = refl
sale_judged verdicts processed (record_of.Anulacion a) sale none = absurd cc

and_left : (a b : Bool) → a ≡ false → (a && b) ≡ false
and_left true b h = absurd cc
and_left false b h = refl

and_right : (a b : Bool) → b ≡ false → (a && b) ≡ false
and_right true b h = h
and_right false b h = refl

added_clean : (verdicts : List PlannedVerdict) (processed : List (Sealed × Line)) (s : Sealed) →
    (is_sale s.body ≡ true → AllByRecursion (λ (t : Sealed). num_of t.body ≢ num_of s.body) (records_of processed)) →
    is_sale_refused (s, judgement verdicts processed s.body) ≡ false
added_clean verdicts processed s new = elim (cases_Bool (is_sale s.body)) [
  | inl sale ↦ and_right (is_sale s.body) (contradicts (judgement verdicts processed s.body)) (sale_judged verdicts processed
      s.body sale (no_past processed (id_of s.body) (new sale)))
  | inr other ↦ and_left (is_sale s.body) (contradicts (judgement verdicts processed s.body)) other
]

-- what a delivery makes of the list
pub record Extends (records : List Sealed) (old new : List (Sealed × Line)) : Type 0 where
  pub prefix : IsPrefix (records_of new) records
  pub adds : AddsNoRefusedSale old new

then_adds : (old mid new : List (Sealed × Line)) (p : Sealed × Line) → mid ≡ old ++ p ∷ [] → is_sale_refused p ≡ false →
    AddsNoRefusedSale mid new → AddsNoRefusedSale old new
then_adds old mid new p e clean a = record {
  added = p ∷ a.added;
  is = a.is ∙ ap (λ (t : List (Sealed × Line)). t ++ a.added) e ∙ append_assoc old (p ∷ []) a.added;
  none = (clean, a.none);
}

pub shift_run : (records before batch after : List Sealed) (s : Sealed) → records ≡ before ++ s ∷ (batch ++ after) →
    records ≡ (before ++ s ∷ []) ++ (batch ++ after)
shift_run records before batch after s run =
    let e : (before ++ s ∷ []) ++ (batch ++ after) ≡ before ++ s ∷ (batch ++ after) = append_assoc before (s ∷ [])
    (batch ++ after) in
    run ∙ sym e

pub deliver_run : (verdicts : List PlannedVerdict) (records : List Sealed) → IsChain records → (batch before after : List Sealed)
    (processed : List (Sealed × Line)) →
    records ≡ before ++ (batch ++ after) → IsPrefix (records_of processed) records → length before ≤ length processed →
    Extends records processed (delivered verdicts processed batch)
deliver_run verdicts records chain [] before after processed run prefix le =
    record { prefix = prefix; adds = record { added = []; is = sym (append-nil processed); none = tt } }
deliver_run verdicts records chain (s ∷ batch) before after processed run prefix le =
    let shift : records ≡ (before ++ s ∷ []) ++ (batch ++ after) = shift_run records before batch after s run in
    let as_long : length (records_of processed) ≡ length processed = length-map processed (λ (p : Sealed × Line). p.0) in
    let long : length (before ++ s ∷ []) ≡ length before + 1 = length-append before (s ∷ []) in
    elim (next_or_in (records_of processed) prefix.rest before (batch ++ after) s (sym prefix.is ∙ run) (omega arith)) [
      | inl here ↦
          let fresh = subst (λ (xs : List Sealed). AllByRecursion (λ (t : Sealed). t.huella ≢ s.huella) xs) (sym here)
          (chain.huellas before (batch ++ after) s run) in
          let p : Sealed × Line = (s, judgement verdicts processed s.body) in
          let mid : after_record verdicts processed s ≡ processed ++ p ∷ [] = after_new verdicts processed s
          (not_seen processed s fresh) in
          let clean = added_clean verdicts processed s (λ sale. subst (λ (xs : List Sealed). AllByRecursion
          (λ (t : Sealed). num_of t.body ≢ num_of s.body) xs) (sym here) (chain.sales before (batch ++ after) s run sale)) in
          let both : records_of (processed ++ p ∷ []) ≡ before ++ s ∷ [] = map-append (λ (q : Sealed × Line). q.0) processed
          (p ∷ []) ∙ ap (λ (xs : List Sealed). xs ++ s ∷ []) here in
          let longer : length (processed ++ p ∷ []) ≡ length processed + 1 = length-append processed (p ∷ []) in
          let then : Extends records (processed ++ p ∷ []) (delivered verdicts (processed ++ p ∷ []) batch) =
          deliver_run verdicts records chain batch (before ++ s ∷ []) after (processed ++ p ∷ []) shift
          (record { rest = batch ++ after; is = shift ∙ ap (λ (xs : List Sealed). xs ++ (batch ++ after)) (sym both) })
          (omega arith) in
          subst (λ (m : List (Sealed × Line)). Extends records processed (delivered verdicts m batch)) (sym mid)
          (record {
            prefix = then.prefix;
            adds = then_adds processed (processed ++ p ∷ [])
                (delivered verdicts (processed ++ p ∷ []) batch) p refl clean then.adds;
          })
      | inr there ↦
          let seen = seen_there processed before there.more s there.is in
          let mid : after_record verdicts processed s ≡ processed = after_in verdicts processed s seen.line seen.is in
          let longer : length (records_of processed) ≡ length before + length (s ∷ there.more) = ap length there.is ∙
          length-append before (s ∷ there.more) in
          subst (λ (m : List (Sealed × Line)). Extends records processed (delivered verdicts m batch)) (sym mid)
          (deliver_run verdicts records chain batch (before ++ s ∷ []) after processed shift prefix (omega arith))
    ]
