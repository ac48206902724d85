-- In a legal history each alta of an invoice has the day of its last one.
use Rattle.std.proofs.Common.{◌≡◌, ◌≢◌, ℕ, ◌+◌, List, [], ◌∷◌, ◌++◌, refl, sym, ◌∙◌, ap, subst, inl, inr, Bool, true, false}
use Rattle.std.proofs.Common.{◌&&◌, ◌==◌, filter, append_assoc, append-nil, Option, Some, None, option_map, is_some}
use Rattle.std.proofs.lemmas.Bool.{cases_Bool}
use Rattle.std.proofs.lemmas.Slice.Eq.{bytes_eq-Decides}
use Rattle.std.specs.List.{AllByRecursion, enumerate_from}
use Rattle.std.specs.Option.{option_map_or}
use Rattle.record_fields.specs.declared.versions.Version.{Version}
use Rattle.record_fields.specs.Picks.{last_of}
use Rattle.record_fields.specs.Records.{id_of, num_of, moment_of, is_alta, is_sale}
use Rattle.record_fields.specs.declared.records.Alta.{Alta}
use Rattle.record_fields.specs.declared.records.Record.{Record}
use Rattle.record_fields.specs.declared.records.Record.TheVariants as record_of
use Rattle.record_fields.specs.declared.records.Sealed.{Sealed}
use Rattle.record_codec.specs.declared.entry.Entry.{Entry}
use Rattle.record_codec.specs.declared.entry.Entry.TheVariants.{Rec, Notes}
use Rattle.shop_core.specs.Found.{read_off}
use Rattle.shop_core.specs.History.{recs}
use Rattle.shop_core.specs.Standing.{has_num, last_alta, day_of, is_known_on}
use Rattle.shop_core.specs.Legal.{Legal, Continues, ask_of, request_of}
use Rattle.shop_core.specs.Answer.Making.{made_sealed}
use Rattle.shop_core.specs.Sales.{SalesAreNew}
use Rattle.shop_core.specs.declared.answer.requests.Request.{Request}
use Rattle.shop_core.specs.declared.answer.requests.Request.TheVariants.{Fix}
use Rattle.shop_core.specs.declared.standing.Found.{Found}
use Rattle.shop_core.proofs.Lasts.{last_passing, last_skips, recs_then, recs_still}
use Rattle.shop_core.proofs.Legality.{is_made, legal_front}
use Rattle.shop_core.proofs.Chain.{made_is}

abbrev is_own : List ℕ → Sealed → Bool
is_own num s = has_num num s && is_alta s.body

-- the altas of the number among these have this day
abbrev AreOn : List ℕ → ℕ → List Sealed → Type 0
AreOn num day xs = AllByRecursion (λ (s : Sealed). is_own num s ≡ true → (id_of s.body).day ≡ day) xs

-- those of another day are none, those of this day are all
listed_on : (num : List ℕ) (day other n : ℕ) (xs : List Sealed) → AreOn num day xs →
    filter (λ (p : ℕ × Sealed). is_own num p.1 && ((id_of p.1.body).day == other)) (enumerate_from n xs)
    ≡ filter (λ (p : ℕ × Sealed). is_own num p.1 && (day == other)) (enumerate_from n xs)
listed_on num day other n [] are = refl
listed_on num day other n (x ∷ xs) are =
    let rest = listed_on num day other (n + 1) xs are.1 in
    elim (cases_Bool (is_own num x)) [
      | inl own ↦ let at : (id_of x.body).day ≡ day = are.0 own in
          rw (own, at, rest) refl
      | inr own ↦ rw (own, rest) refl
    ]

filter_true : (num : List ℕ) (ps : List (ℕ × Sealed)) → filter (λ (p : ℕ × Sealed). is_own num p.1 && true) ps
    ≡ filter (λ (p : ℕ × Sealed). is_own num p.1) ps
filter_true num [] = refl
filter_true num (p ∷ ps) =
    let rest = filter_true num ps in
    elim (cases_Bool (is_own num p.1)) [
      | inl own ↦ rw (own, rest) refl
      | inr own ↦ rw (own, rest) refl
    ]

filter_false : (num : List ℕ) (ps : List (ℕ × Sealed)) → filter (λ (p : ℕ × Sealed). is_own num p.1 && false) ps ≡ []
filter_false num [] = refl
filter_false num (p ∷ ps) =
    let rest = filter_false num ps in
    elim (cases_Bool (is_own num p.1)) [
      | inl own ↦ rw (own, rest) refl
      | inr own ↦ rw (own, rest) refl
    ]

-- the day of a last alta, 0 where there is none
abbrev day_in : Option (ℕ × Sealed) → ℕ
day_in o = option_map_or (λ (p : ℕ × Sealed). (id_of p.1.body).day) o 0

abbrev is_on : ℕ → Option (ℕ × Sealed) → Bool
is_on day o = option_map_or (λ (p : ℕ × Sealed). (id_of p.1.body).day == day) o false

some_on : (o : Option (ℕ × Sealed)) (day : ℕ) → (day_in o == day) ≡ true → is_some o ≡ is_on day o
some_on None day e = refl
some_on (Some p) day e = sym e

none_on : (o : Option (ℕ × Sealed)) (day : ℕ) → (day_in o == day) ≡ false → false ≡ is_on day o
none_on None day e = refl
none_on (Some p) day e = sym e

-- where each alta of the number has its day, that of the last one tells
known_on : (entries : List Entry) (num : List ℕ) (day : ℕ) → AreOn num (day_of entries num) (recs entries) →
    is_known_on entries num day ≡ is_on day (last_alta entries num)
known_on entries num day are =
    let own = day_of entries num in
    let ps = enumerate_from 1 (recs entries) in
    let listed = listed_on num own day 1 (recs entries) are in
    elim (cases_Bool (own == day)) [
      | inl e ↦
          ap (λ (xs : List (ℕ × Sealed)). is_some (last_of xs)) (listed ∙ ap (λ (b : Bool). filter (λ (p : ℕ × Sealed).
          is_own num p.1 && b) ps) e ∙ filter_true num ps)
          ∙ some_on (last_alta entries num) day e
      | inr e ↦
          ap (λ (xs : List (ℕ × Sealed)). is_some (last_of xs)) (listed ∙ ap (λ (b : Bool). filter (λ (p : ℕ × Sealed).
          is_own num p.1 && b) ps) e ∙ filter_false num ps)
          ∙ none_on (last_alta entries num) day e
    ]

-- the day of the last alta of the number among these records
abbrev last_day : List ℕ → List Sealed → ℕ
last_day num xs = day_in (last_of (filter (λ (p : ℕ × Sealed). is_own num p.1) (enumerate_from 1 xs)))

abbrev HaveLast : List Sealed → Type 0
HaveLast xs = (num : List ℕ) → AreOn num (last_day num xs) xs

all_more : (P Q : Sealed → Type 0) → ((x : Sealed) → P x → Q x) → (xs : List Sealed) (x : Sealed) → AllByRecursion P xs → Q x →
    AllByRecursion Q (xs ++ x ∷ [])
all_more P Q f [] x h q = (q, tt)
all_more P Q f (y ∷ xs) x h q = (f y h.0, all_more P Q f xs x h.1 q)

abbrev IsOn : List ℕ → ℕ → Sealed → Type 0
IsOn num day s = is_own num s ≡ true → (id_of s.body).day ≡ day

and_left : (p q : Bool) → (p && q) ≡ true → p ≡ true
and_left true q h = refl
and_left false q h = absurd cc

and_right : (p q : Bool) → (p && q) ≡ true → q ≡ true
and_right true q h = h
and_right false q h = absurd cc

num_is : (num : List ℕ) (s : Sealed) → is_own num s ≡ true → num_of s.body ≡ num
num_is num s own = (bytes_eq-Decides (num_of s.body) num).0 (and_left (has_num num s) (is_alta s.body) own)

-- the altas before an alta of the number have its day
abbrev Before : List ℕ → List Entry → Sealed → Type 0
Before num front s = AreOn num (id_of s.body).day (recs front)

-- no record before a sale has its number
before_sale : (num : List ℕ) (xs : List Sealed) (s : Sealed) → is_own num s ≡ true →
    AllByRecursion (λ (t : Sealed). num_of t.body ≢ num_of s.body) xs → AreOn num (id_of s.body).day xs
before_sale num [] s own new = tt
before_sale num (x ∷ xs) s own new = (
  λ it. absurd (new.0 (num_is num x it ∙ sym (num_is num s own))),
  before_sale num xs s own new.1,
)

-- a fix has the day of the last alta
fix_day : (issuer : List ℕ) (front : List Entry) (a : Alta) (huella : List ℕ) (seconds : ℕ) → a.subsanacion ≡ true →
    made_sealed issuer front (request_of (record_of.Alta a)) seconds ≡ record { body = record_of.Alta a; huella = huella } →
    day_of front a.id.num ≡ a.id.day
fix_day issuer front a huella seconds e h =
    let r : request_of (record_of.Alta a) ≡ Fix a.id.num a.draft = rw e refl in
    let made : made_sealed issuer front (Fix a.id.num a.draft) seconds ≡ record {
      body = record_of.Alta a;
      huella = huella;
    } =
    subst (λ (q : Request). made_sealed issuer front q seconds ≡ record { body = record_of.Alta a; huella = huella }) r h in
    ap (λ (s : Sealed). (id_of s.body).day) made

before_alta : (issuer : List ℕ) (front : List Entry) (num : List ℕ) (body : Record) (huella : List ℕ) (seconds : ℕ) →
    is_own num (record { body = body; huella = huella }) ≡ true →
    made_sealed issuer front (request_of body) seconds ≡ record { body = body; huella = huella } →
    (is_sale body ≡ true → AllByRecursion (λ (t : Sealed). num_of t.body ≢ num_of body) (recs front)) →
    HaveLast (recs front) → Before num front (record { body = body; huella = huella })
before_alta issuer front num (record_of.Alta a) huella seconds own made new have =
    let s : Sealed = record { body = record_of.Alta a; huella = huella } in
    elim (cases_Bool a.subsanacion) [
      | inl e ↦
          let day = fix_day issuer front a huella seconds e made in
          let same : last_day num (recs front) ≡ a.id.day = ap (λ (n : List ℕ). day_of front n) (sym (num_is num s own)) ∙ day in
          subst (λ (d : ℕ). AreOn num d (recs front)) same (have num)
      | inr e ↦ before_sale num (recs front) s own (new (rw e refl))
    ]
before_alta issuer front num (record_of.Anulacion a) huella seconds own made new have =
    absurd (let h = and_right (has_num num (record { body = record_of.Anulacion a; huella = huella })) false own in cc)

record_step : (issuer : List ℕ) (front : List Entry) (s : Sealed) → ((num : List ℕ) → is_own num s ≡ true → Before num front s) →
    HaveLast (recs front) → HaveLast (recs front ++ s ∷ [])
record_step issuer front s before have num = elim (cases_Bool (is_own num s)) [
  | inl own ↦
      let last : last_day num (recs front ++ s ∷ []) ≡ (id_of s.body).day =
      ap day_in (last_passing (λ place t. is_own num t) (recs front) s own) in
      subst (λ (d : ℕ). AreOn num d (recs front ++ s ∷ [])) (sym last)
      (all_more (IsOn num (id_of s.body).day) (IsOn num (id_of s.body).day) (λ x h. h) (recs front) s (before num own)
      (λ it. refl))
  | inr own ↦
      let last : last_day num (recs front ++ s ∷ []) ≡ last_day num (recs front) =
      ap day_in (last_skips (λ place t. is_own num t) (recs front) s own) in
      subst (λ (d : ℕ). AreOn num d (recs front ++ s ∷ [])) (sym last)
      (all_more (IsOn num (last_day num (recs front))) (IsOn num (last_day num (recs front))) (λ x h. h) (recs front) s (have num)
      (λ it. absurd cc))
]

day_step : SalesAreNew → (version : Version) (issuer : List ℕ) (front : List Entry) (entry : Entry) →
    Legal version issuer (front ++ entry ∷ []) →
    Continues version issuer front entry → HaveLast (recs front) → HaveLast (recs (front ++ entry ∷ []))
day_step new version issuer front (Notes first lines) legal c have =
    subst HaveLast (sym (recs_still front (Notes first lines) refl)) have
day_step new version issuer front (Rec till serial s) legal c have =
    let e : recs (front ++ Rec till serial s ∷ []) ≡ recs front ++ s ∷ [] = recs_then front till serial s in
    let m = is_made version issuer front (ask_of till serial s) (moment_of s.body).seconds (Rec till serial s) c.made in
    let made = made_is version issuer front till serial s m in
    subst HaveLast (sym e)
    (record_step issuer front s (λ num own. before_alta issuer front num s.body s.huella (moment_of s.body).seconds own made
    (λ sale. new version issuer (front ++ Rec till serial s ∷ []) (recs front) [] s legal e sale) have) have)

days_from : SalesAreNew → (version : Version) (issuer : List ℕ) (front rest : List Entry) → Legal version issuer (front ++ rest) →
    HaveLast (recs front) →
    HaveLast (recs (front ++ rest))
days_from new version issuer front [] legal have = subst (λ (xs : List Entry). HaveLast (recs xs)) (sym (append-nil front)) have
days_from new version issuer front (e ∷ rest) legal have =
    let a : (front ++ e ∷ []) ++ rest ≡ front ++ e ∷ rest = append_assoc front (e ∷ []) rest in
    let whole : Legal version issuer ((front ++ e ∷ []) ++ rest) = subst (λ (xs : List Entry). Legal version issuer xs)
    (sym a) legal in
    subst (λ (xs : List Entry). HaveLast (recs xs)) a
    (days_from new version issuer (front ++ e ∷ []) rest whole
    (day_step new version issuer front e (legal_front version issuer (front ++ e ∷ []) rest whole)
    (legal front rest e refl) have))

have_last : SalesAreNew → (version : Version) (issuer : List ℕ) (entries : List Entry) → Legal version issuer entries →
    HaveLast (recs entries)
have_last new version issuer entries legal = days_from new version issuer [] entries legal (λ num. tt)

known_alta : SalesAreNew → (version : Version) (issuer : List ℕ) (entries : List Entry) (num : List ℕ) (day : ℕ) →
    Legal version issuer entries →
    is_known_on entries num day ≡ is_on day (last_alta entries num)
known_alta new version issuer entries num day legal = known_on entries num day (have_last new version issuer entries legal num)

-- as it is read off the last alta
pub none_known : SalesAreNew → (version : Version) (issuer : List ℕ) (entries : List Entry) (num : List ℕ) (day : ℕ) →
    Legal version issuer entries →
    None ≡ option_map read_off (last_alta entries num) → false ≡ is_known_on entries num day
none_known new version issuer entries num day legal e = by (last_alta entries num) e ∙
    sym (known_alta new version issuer entries num day legal)
  where
    by : (o : Option (ℕ × Sealed)) → None ≡ option_map read_off o → false ≡ is_on day o
    by None h = refl
    by (Some p) h = absurd cc

pub some_known : SalesAreNew → (version : Version) (issuer : List ℕ) (entries : List Entry) (num : List ℕ) (day : ℕ)
    (found : Found) →
    Legal version issuer entries → Some found ≡ option_map read_off (last_alta entries num) →
    (found.day == day) ≡ is_known_on entries num day
some_known new version issuer entries num day found legal e =
    by (last_alta entries num) e ∙ sym (known_alta new version issuer entries num day legal)
  where
    by : (o : Option (ℕ × Sealed)) → Some found ≡ option_map read_off o → (found.day == day) ≡ is_on day o
    by None h = absurd cc
    by (Some p) h = let same : found ≡ read_off p = cc in ap (λ (f : Found). f.day == day) same
