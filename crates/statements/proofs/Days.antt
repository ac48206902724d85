-- In a legal history each alta of an invoice has the invoice's day.
use Rattle.std.proofs.Common.{◌≡◌, ◌≢◌, ℕ, zero, suc, List, [], ◌∷◌, ◌++◌, refl, sym, ◌∙◌, ap, subst, inl, inr, Bool, true, false}
use Rattle.std.proofs.Common.{◌&&◌, append_assoc, append-nil, Option, Some, None, slice_get}
use Rattle.std.proofs.lemmas.Bool.{and_parts, cases_Bool}
use Rattle.std.specs.List.{AllByRecursion}
use Rattle.std.specs.Option.{option_map_or}
use Rattle.record_fields.specs.declared.versions.Version.{Version}
use Rattle.record_fields.specs.Picks.{last_of}
use Rattle.record_fields.specs.Records.{id_of, num_of, moment_of, is_alta, is_sale}
use Rattle.record_fields.specs.declared.records.Alta.{Alta}
use Rattle.record_fields.specs.declared.records.Record.{Record}
use Rattle.record_fields.specs.declared.records.Record.TheVariants as record_of
use Rattle.record_fields.specs.declared.records.Sealed.{Sealed}
use Rattle.record_codec.specs.declared.entry.Entry.{Entry}
use Rattle.record_codec.specs.declared.entry.Entry.TheVariants.{Rec, Notes}
use Rattle.shop_core.specs.Answer.Making.{made_sealed}
use Rattle.shop_core.specs.Answer.Plans.{kept}
use Rattle.shop_core.specs.Answer.Refusals.{refusal}
use Rattle.shop_core.specs.History.{recs}
use Rattle.shop_core.specs.Legal.{Continues, IsNext, Legal, ask_of, request_of}
use Rattle.shop_core.specs.Sales.{SalesAreNew}
use Rattle.shop_core.specs.Standing.{day_of, has_num}
use Rattle.shop_core.specs.declared.answer.Planned.TheVariants.{Again, Made, Refused}
use Rattle.shop_core.specs.declared.answer.receipts.Receipt.{Receipt}
use Rattle.shop_core.specs.declared.answer.refusals.Refusal.{Refusal}
use Rattle.shop_core.specs.declared.answer.requests.Request.{Request}
use Rattle.shop_core.specs.declared.answer.requests.Request.TheVariants.{Fix}
use Rattle.statements.proofs.Holding.{same_num}
use Rattle.statements.proofs.Lasting.{last_passing, last_skips, passing}
use Rattle.statements.proofs.Recording.{recs_still, recs_then}

-- ---- what a record of a legal history was made of

made_only : (kept : Option Receipt) (refused : Option Refusal) (one other : Entry) →
    option_map_or Again kept (option_map_or Refused refused (Made one)) ≡ Made other → one ≡ other
made_only None None one other e = cc
made_only None (Some why) one other e = absurd cc
made_only (Some receipt) refused one other e = absurd cc

made_is : (version : Version) (issuer : List ℕ) (front : List Entry) (till serial : ℕ) (s : Sealed) →
    IsNext version issuer front till serial s →
    made_sealed issuer front (request_of s.body) (moment_of s.body).seconds ≡ s
made_is version issuer front till serial s next =
    let e : Rec till serial (made_sealed issuer front (request_of s.body) (moment_of s.body).seconds) ≡ Rec till serial s =
    made_only (kept front till serial) (refusal version issuer front (ask_of till serial s) (moment_of s.body).seconds)
    (Rec till serial (made_sealed issuer front (request_of s.body) (moment_of s.body).seconds)) (Rec till serial s) next.made in
    cc

-- ---- the altas of a number have the day of the last one

abbrev pub is_own : List ℕ → Sealed → Bool
is_own num s = has_num num s && is_alta s.body

abbrev IsOn : List ℕ → ℕ → Sealed → Type 0
IsOn num day s = is_own num s ≡ true → (id_of s.body).day ≡ day

abbrev AreOn : List ℕ → ℕ → List Sealed → Type 0
AreOn num day xs = AllByRecursion (IsOn num day) xs

abbrev day_in : Option (ℕ × Sealed) → ℕ
day_in o = option_map_or (λ (p : ℕ × Sealed). (id_of p.1.body).day) o 0

abbrev last_day : List ℕ → List Sealed → ℕ
last_day num xs = day_in (last_of (passing (λ (p : ℕ × Sealed). is_own num p.1) xs))

abbrev HaveLast : List Sealed → Type 0
HaveLast xs = (num : List ℕ) → AreOn num (last_day num xs) xs

on_more : (num : List ℕ) (day : ℕ) (xs : List Sealed) (x : Sealed) → AreOn num day xs → IsOn num day x →
    AreOn num day (xs ++ x ∷ [])
on_more num day [] x are one = (one, tt)
on_more num day (y ∷ xs) x are one = (are.0, on_more num day xs x are.1 one)

own_num : (num : List ℕ) (s : Sealed) → is_own num s ≡ true → num_of s.body ≡ num
own_num num s own = same_num (num_of s.body) num (and_parts (has_num num s) (is_alta s.body) own).0

before_sale : (num : List ℕ) (xs : List Sealed) (s : Sealed) → is_own num s ≡ true →
    AllByRecursion (λ (t : Sealed). num_of t.body ≢ num_of s.body) xs → AreOn num (id_of s.body).day xs
before_sale num [] s own new = tt
before_sale num (x ∷ xs) s own new = (
  λ it. absurd (new.0 (own_num num x it ∙ sym (own_num num s own))),
  before_sale num xs s own new.1,
)

fix_day : (issuer : List ℕ) (front : List Entry) (a : Alta) (huella : List ℕ) (seconds : ℕ) → a.subsanacion ≡ true →
    made_sealed issuer front (request_of (record_of.Alta a)) seconds ≡ record { body = record_of.Alta a; huella = huella } →
    day_of front a.id.num ≡ a.id.day
fix_day issuer front a huella seconds e h =
    let r : request_of (record_of.Alta a) ≡ Fix a.id.num a.draft = rw e refl in
    let made : made_sealed issuer front (Fix a.id.num a.draft) seconds ≡ record {
      body = record_of.Alta a;
      huella = huella;
    } =
    subst (λ (q : Request). made_sealed issuer front q seconds ≡ record { body = record_of.Alta a; huella = huella }) r h in
    ap (λ (s : Sealed). (id_of s.body).day) made

before_alta : (issuer : List ℕ) (front : List Entry) (num : List ℕ) (body : Record) (huella : List ℕ) (seconds : ℕ) →
    is_own num (record { body = body; huella = huella }) ≡ true →
    made_sealed issuer front (request_of body) seconds ≡ record { body = body; huella = huella } →
    (is_sale body ≡ true → AllByRecursion (λ (t : Sealed). num_of t.body ≢ num_of body) (recs front)) →
    HaveLast (recs front) → AreOn num (id_of body).day (recs front)
before_alta issuer front num (record_of.Alta a) huella seconds own made new have =
    let s : Sealed = record { body = record_of.Alta a; huella = huella } in
    elim (cases_Bool a.subsanacion) [
      | inl e ↦
          let day = fix_day issuer front a huella seconds e made in
          let same : last_day num (recs front) ≡ a.id.day = ap (λ (n : List ℕ). day_of front n) (sym (own_num num s own)) ∙ day in
          subst (λ (d : ℕ). AreOn num d (recs front)) same (have num)
      | inr e ↦ before_sale num (recs front) s own (new (rw e refl))
    ]
before_alta issuer front num (record_of.Anulacion a) huella seconds own made new have =
    absurd (let h = (and_parts (has_num num (record { body = record_of.Anulacion a; huella = huella })) false own).1 in cc)

record_step : (front : List Sealed) (s : Sealed) →
    ((num : List ℕ) → is_own num s ≡ true → AreOn num (id_of s.body).day front) → HaveLast front → HaveLast (front ++ s ∷ [])
record_step front s before have num = elim (cases_Bool (is_own num s)) [
  | inl own ↦
      let last : last_day num (front ++ s ∷ []) ≡ (id_of s.body).day =
      ap day_in (last_passing (λ (p : ℕ × Sealed). is_own num p.1) front s own) in
      subst (λ (d : ℕ). AreOn num d (front ++ s ∷ [])) (sym last)
      (on_more num (id_of s.body).day front s (before num own) (λ it. refl))
  | inr own ↦
      let last : last_day num (front ++ s ∷ []) ≡ last_day num front =
      ap day_in (last_skips (λ (p : ℕ × Sealed). is_own num p.1) front s own) in
      subst (λ (d : ℕ). AreOn num d (front ++ s ∷ [])) (sym last)
      (on_more num (last_day num front) front s (have num) (λ it. absurd cc))
]

day_step : SalesAreNew → (version : Version) (issuer : List ℕ) (front : List Entry) (entry : Entry) →
    Legal version issuer (front ++ entry ∷ []) → Continues version issuer front entry → HaveLast (recs front) →
    HaveLast (recs (front ++ entry ∷ []))
day_step new version issuer front (Notes first lines) legal c have = subst HaveLast (sym (recs_still front first lines)) have
day_step new version issuer front (Rec till serial s) legal c have =
    let e : recs (front ++ Rec till serial s ∷ []) ≡ recs front ++ s ∷ [] = recs_then front till serial s in
    subst HaveLast (sym e)
    (record_step (recs front) s (λ num own.
    before_alta issuer front num s.body s.huella (moment_of s.body).seconds own (made_is version issuer front till serial s c)
    (λ sale. new version issuer (front ++ Rec till serial s ∷ []) (recs front) [] s legal e sale) have) have)

legal_front : (version : Version) (issuer : List ℕ) (front rest : List Entry) → Legal version issuer (front ++ rest) →
    Legal version issuer front
legal_front version issuer front rest legal before after entry e =
    legal before (after ++ rest) entry (ap (λ (xs : List Entry). xs ++ rest) e ∙ append_assoc before (entry ∷ after) rest)

days_from : SalesAreNew → (version : Version) (issuer : List ℕ) (front rest : List Entry) → Legal version issuer (front ++ rest) →
    HaveLast (recs front) → HaveLast (recs (front ++ rest))
days_from new version issuer front [] legal have = subst (λ (xs : List Entry). HaveLast (recs xs)) (sym (append-nil front)) have
days_from new version issuer front (e ∷ rest) legal have =
    let a : (front ++ e ∷ []) ++ rest ≡ front ++ e ∷ rest = append_assoc front (e ∷ []) rest in
    let whole : Legal version issuer ((front ++ e ∷ []) ++ rest) =
    subst (λ (xs : List Entry). Legal version issuer xs) (sym a) legal in
    subst (λ (xs : List Entry). HaveLast (recs xs)) a
    (days_from new version issuer (front ++ e ∷ []) rest whole
    (day_step new version issuer front e (legal_front version issuer (front ++ e ∷ []) rest whole)
    (legal front rest e refl) have))

on_at : (num : List ℕ) (day : ℕ) (xs : List Sealed) (k : ℕ) (s : Sealed) → AreOn num day xs → slice_get xs k ≡ Some s →
    IsOn num day s
on_at num day [] k s are e = absurd cc
on_at num day (x ∷ xs) zero s are e = let same : x ≡ s = cc in subst (IsOn num day) same are.0
on_at num day (x ∷ xs) (suc k) s are e = on_at num day xs k s are.1 e

pub invoice_day : SalesAreNew → (version : Version) (issuer : List ℕ) (entries : List Entry) (num : List ℕ) (k : ℕ) (s : Sealed) →
    Legal version issuer entries → slice_get (recs entries) k ≡ Some s → is_own num s ≡ true →
    (id_of s.body).day ≡ day_of entries num
invoice_day new version issuer entries num k s legal at own =
    on_at num (day_of entries num) (recs entries) k s (days_from new version issuer [] entries legal (λ n. tt) num) at own
