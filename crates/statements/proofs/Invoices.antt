-- The lines of a month, invoice by invoice.
use Rattle.std.proofs.Common.{◌≡◌, ℕ, ◌+◌, ◌-◌, List, [], ◌∷◌, ◌++◌, ◌⊎◌, refl, sym, ◌∙◌, ap, subst, inl, inr, Bool, true, false, cond}
use Rattle.std.proofs.Common.{arith, Option, Some, None, option_map, bytes_eq, filter, flat_map, map, not, ◌&&◌}
use Rattle.std.proofs.lemmas.Bool.{and_parts, cases_Bool}
use Rattle.std.specs.List.{AllByRecursion, enumerate_from}
use Rattle.std.specs.Option.{option_map_or}
use Rattle.tax_lines.specs.declared.lines.TaxLine.{TaxLine}
use Rattle.record_fields.specs.Picks.{last_of}
use Rattle.record_fields.specs.Records.{id_of, is_alta, num_of}
use Rattle.record_fields.specs.declared.records.Record.{Record}
use Rattle.record_fields.specs.declared.records.Record.TheVariants as record_of
use Rattle.record_fields.specs.declared.records.Sealed.{Sealed}
use Rattle.record_fields.specs.declared.versions.Version.{Version}
use Rattle.record_codec.specs.declared.entry.Entry.{Entry}
use Rattle.shop_core.specs.History.{noted, recs}
use Rattle.shop_core.specs.Legal.{Legal}
use Rattle.shop_core.specs.Sales.{SalesAreNew}
use Rattle.shop_core.specs.Standing.{day_of, has_num, is_held, is_refused, last_accepted}
use Rattle.statements.proofs.Days.{invoice_day}
use Rattle.statements.proofs.Holding.{Holders, held_by_none, held_by_one, num_itself, num_turned, same_num, without}
use Rattle.statements.proofs.Lasting.{filter_both, last_stays, match_is}
use Rattle.statements.proofs.Recording.{found_lines, holders}
use Rattle.statements.proofs.Sums.{same_append, same_by, same_refl, same_rows, same_sym}
use Rattle.statements.specs.Invoices.{LinesAreOfInvoices, StatementsAreOfInvoices, distinct, invoice_lines, invoices}
use Rattle.statements.specs.Invoices.{last_accepted_alta, lines_by_invoice, lines_of}
use Rattle.statements.specs.Months.{YearMonth, is_in}
use Rattle.statements.specs.Postings.{AreSame}
use Rattle.statements.specs.Statement.{held_lines, is_at, lines_from, lines_in}

-- ---- distinct numbers

abbrev IsAmong : List ℕ → List (List ℕ) → Type 0
IsAmong num [] = ⊥
IsAmong num (n ∷ nums) = (bytes_eq n num ≡ true) ⊎ IsAmong num nums

abbrev AreApart : List (List ℕ) → Type 0
AreApart [] = Unit {0}
AreApart (n ∷ nums) = AllByRecursion (λ (m : List ℕ). bytes_eq n m ≡ false) nums × AreApart nums

abbrev others : List ℕ → List ℕ → Bool
others num other = not (bytes_eq num other)

all_filter : (P : List ℕ → Type 0) (test : List ℕ → Bool) (nums : List (List ℕ)) → AllByRecursion P nums →
    AllByRecursion P (filter test nums)
all_filter P test [] all = tt
all_filter P test (n ∷ nums) all = elim (cases_Bool (test n)) [
  | inl e ↦ rw e (all.0, all_filter P test nums all.1)
  | inr e ↦ rw e (all_filter P test nums all.1)
]

apart_filter : (test : List ℕ → Bool) (nums : List (List ℕ)) → AreApart nums → AreApart (filter test nums)
apart_filter test [] apart = tt
apart_filter test (n ∷ nums) apart = elim (cases_Bool (test n)) [
  | inl e ↦ rw e (all_filter (λ (m : List ℕ). bytes_eq n m ≡ false) test nums apart.0, apart_filter test nums apart.1)
  | inr e ↦ rw e (apart_filter test nums apart.1)
]

not_true : (b : Bool) → not b ≡ true → b ≡ false
not_true true e = absurd cc
not_true false e = refl

apart_from : (num : List ℕ) (nums : List (List ℕ)) →
    AllByRecursion (λ (m : List ℕ). bytes_eq num m ≡ false) (filter (others num) nums)
apart_from num [] = tt
apart_from num (n ∷ nums) = elim (cases_Bool (not (bytes_eq num n))) [
  | inl e ↦ rw e (not_true (bytes_eq num n) e, apart_from num nums)
  | inr e ↦ rw e (apart_from num nums)
]

distinct_apart : (nums : List (List ℕ)) → AreApart (distinct nums)
distinct_apart [] = tt
distinct_apart (n ∷ nums) = (apart_from n (distinct nums), apart_filter (others n) (distinct nums) (distinct_apart nums))

among_filter : (test : List ℕ → Bool) (num : List ℕ) (nums : List (List ℕ)) → test num ≡ true → IsAmong num nums →
    IsAmong num (filter test nums)
among_filter test num [] passes none = none
among_filter test num (n ∷ nums) passes (inl is) =
    let e : test n ≡ true = ap test (same_num n num is) ∙ passes in
    rw e (inl is)
among_filter test num (n ∷ nums) passes (inr later) = elim (cases_Bool (test n)) [
  | inl e ↦ rw e (inr (among_filter test num nums passes later))
  | inr e ↦ rw e (among_filter test num nums passes later)
]

among_distinct : (num : List ℕ) (nums : List (List ℕ)) → IsAmong num nums → IsAmong num (distinct nums)
among_distinct num [] none = none
among_distinct num (n ∷ nums) (inl is) = inl is
among_distinct num (n ∷ nums) (inr later) = elim (cases_Bool (bytes_eq n num)) [
  | inl e ↦ inl e
  | inr e ↦
      let passes : others n num ≡ true = rw e refl in
      inr (among_filter (others n) num (distinct nums) passes (among_distinct num nums later))
]

-- ---- invoice by invoice

-- each record's invoice is among these, or held by nothing
abbrev AreCovered : Holders → List (List ℕ) → List Sealed → Type 0
AreCovered g nums records =
    AllByRecursion (λ (s : Sealed). IsAmong (num_of s.body) nums ⊎ (g (num_of s.body) ≡ None)) records

all_covered : (g : Holders) (nums : List (List ℕ)) (records : List Sealed) →
    ((num : List ℕ) → IsAmong num (map (λ (s : Sealed). num_of s.body) records) → IsAmong num nums) → AreCovered g nums records
all_covered g nums [] all = tt
all_covered g nums (s ∷ records) all = (
  inl (all (num_of s.body) (inl (num_itself (num_of s.body)))),
  all_covered g nums records (λ num later. all num (inr later)),
)

nothing_held : (g : Holders) (month : YearMonth) (place : ℕ) (records : List Sealed) → AreCovered g [] records →
    lines_from g month place records ≡ []
nothing_held g month place [] none = refl
nothing_held g month place (s ∷ records) none =
    let free : g (num_of s.body) ≡ None = elim none.0 [ inl impossible ↦ absurd impossible | inr e ↦ e ] in
    ap (λ (o : Option ℕ). cond (is_at o place) (lines_in month s.body) [] ++ lines_from g month (place + 1) records) free
    ∙ nothing_held g month (place + 1) records none.1

rest_covered : (g : Holders) (n : List ℕ) (nums : List (List ℕ)) (records : List Sealed) → AreCovered g (n ∷ nums) records →
    AreCovered (without n g) nums records
rest_covered g n nums [] all = tt
rest_covered g n nums (s ∷ records) all = (one all.0, rest_covered g n nums records all.1)
  where
    one : IsAmong (num_of s.body) (n ∷ nums) ⊎ (g (num_of s.body) ≡ None) →
        IsAmong (num_of s.body) nums ⊎ (without n g (num_of s.body) ≡ None)
    one (inl (inl is)) = inr (ap (λ (b : Bool). cond b None (g (num_of s.body))) (num_turned (num_of s.body) n ∙ is))
    one (inl (inr later)) = inl later
    one (inr free) = inr (elim (cases_Bool (bytes_eq (num_of s.body) n)) [
      | inl e ↦ ap (λ (b : Bool). cond b None (g (num_of s.body))) e
      | inr e ↦ ap (λ (b : Bool). cond b None (g (num_of s.body))) e ∙ free
    ])

rest_alike : (g h : Holders) (n : List ℕ) (nums : List (List ℕ)) → AllByRecursion (λ (m : List ℕ). bytes_eq n m ≡ false) nums →
    AllByRecursion (λ (m : List ℕ). g m ≡ h m) nums → AllByRecursion (λ (m : List ℕ). without n g m ≡ h m) nums
rest_alike g h n [] apart all = tt
rest_alike g h n (m ∷ nums) apart all = (
  ap (λ (b : Bool). cond b None (g m)) (num_turned m n ∙ apart.0) ∙ all.0,
  rest_alike g h n nums apart.1 all.1,
)

all_alike : (h : Holders) (nums : List (List ℕ)) → AllByRecursion (λ (m : List ℕ). h m ≡ h m) nums
all_alike h [] = tt
all_alike h (m ∷ nums) = (refl, all_alike h nums)

module _ (entries : List Entry) (month : YearMonth) where
  abbrev h : Holders
  h = holders (recs entries) (noted entries)

  abbrev lines_held : List ℕ → List TaxLine
  lines_held num = found_lines month (last_accepted entries num)

  -- the invoice's lines, and then the others
  one_held : (g : Holders) (num : List ℕ) → g num ≡ holders (recs entries) (noted entries) num →
      AreSame (lines_from g month 1 (recs entries))
      (found_lines month (last_accepted entries num) ++ lines_from (without num g) month 1 (recs entries))
  one_held g num alike = by (last_accepted entries num) refl
    where
      by : (o : Option (ℕ × Sealed)) → last_accepted entries num ≡ o → AreSame (lines_from g month 1 (recs entries))
          (found_lines month o ++ lines_from (without num g) month 1 (recs entries))
      by None e =
          let none : g num ≡ None = alike ∙ ap (option_map (λ (p : ℕ × Sealed). p.0)) e in
          subst (λ (ls : List TaxLine). AreSame (lines_from g month 1 (recs entries)) ls)
          (held_by_none month g num 1 (recs entries) none) (same_refl (lines_from g month 1 (recs entries)))
      by (Some p) e =
          let m = match_is (λ (q : ℕ × Sealed). has_num num q.1 && not (is_refused entries q.0)) (recs entries) p e in
          let own = (and_parts (has_num num p.1) (not (is_refused entries p.0)) m.passes).0 in
          let some = m.place in
          let n : p.0 ≡ 1 + (p.0 - 1) = omega (arith, some) in
          let at : g num ≡ Some (1 + (p.0 - 1)) =
          alike ∙ ap (option_map (λ (q : ℕ × Sealed). q.0)) e ∙ ap (λ (k : ℕ). Some k) n in
          held_by_one month g num 1 (p.0 - 1) (recs entries) p.1 at m.at own

  each_held : (nums : List (List ℕ)) (g : Holders) → AreApart nums →
      AllByRecursion (λ (m : List ℕ). g m ≡ holders (recs entries) (noted entries) m) nums → AreCovered g nums (recs entries) →
      AreSame (lines_from g month 1 (recs entries)) (flat_map lines_held nums)
  each_held [] g apart alike covered =
      subst (λ (ls : List TaxLine). AreSame ls []) (sym (nothing_held g month 1 (recs entries) covered)) (same_refl [])
  each_held (n ∷ nums) g apart alike covered =
      let rest = each_held nums (without n g) apart.1
      (rest_alike g (holders (recs entries) (noted entries)) n nums apart.0 alike.1)
      (rest_covered g n nums (recs entries) covered) in
      same_by (lines_from g month 1 (recs entries)) (lines_held n ++ lines_from (without n g) month 1 (recs entries))
      (lines_held n ++ flat_map lines_held nums) (one_held g n alike.0)
      (same_append (lines_held n) (lines_held n) (lines_from (without n g) month 1 (recs entries)) (flat_map lines_held nums)
      (same_refl (lines_held n)) rest)

  all_held : AreSame (held_lines entries month) (flat_map lines_held (invoices entries))
  all_held = each_held (invoices entries) (holders (recs entries) (noted entries))
      (distinct_apart (map (λ (s : Sealed). num_of s.body) (recs entries)))
      (all_alike (holders (recs entries) (noted entries)) (invoices entries))
      (all_covered (holders (recs entries) (noted entries)) (invoices entries) (recs entries)
      (λ num among. among_distinct num (map (λ (s : Sealed). num_of s.body) (recs entries)) among))

-- ---- what an invoice has

of_body : (month : YearMonth) (body : Record) (found : List TaxLine) (day : ℕ) → (is_alta body ≡ true → found ≡ lines_of body) →
    (is_alta body ≡ true → (id_of body).day ≡ day) → lines_in month body ≡ cond (is_alta body && is_in month day) found []
of_body month (record_of.Alta a) found day is on =
    ap (λ (d : ℕ). cond (is_in month d) a.draft.lines []) (on refl)
    ∙ ap (λ (ls : List TaxLine). cond (is_in month day) ls []) (sym (is refl))
of_body month (record_of.Anulacion a) found day is on = refl

-- where its last accepted record is an alta, it is its last accepted alta
held_is_last : (entries : List Entry) (num : List ℕ) (p : ℕ × Sealed) → last_accepted entries num ≡ Some p →
    is_alta p.1.body ≡ true → last_accepted_alta entries num ≡ Some p
held_is_last entries num p e alta =
    let all = enumerate_from 1 (recs entries) in
    let accepted : ℕ × Sealed → Bool = λ q. has_num num q.1 && not (is_refused entries q.0) in
    let is : ℕ × Sealed → Bool = λ q. is_alta q.1.body in
    ap last_of (filter_both accepted is all) ∙ last_stays is (filter accepted all) p e alta

of_invoice : SalesAreNew → (version : Version) (issuer : List ℕ) (entries : List Entry) (month : YearMonth) (num : List ℕ) →
    Legal version issuer entries → found_lines month (last_accepted entries num) ≡ invoice_lines entries month num
of_invoice new version issuer entries month num legal = by (last_accepted entries num) refl
  where
    lines : List TaxLine
    lines = option_map_or (λ (p : ℕ × Sealed). lines_of p.1.body) (last_accepted_alta entries num) []

    by : (o : Option (ℕ × Sealed)) → last_accepted entries num ≡ o →
        found_lines month o ≡ invoice_lines entries month num
    by None e =
        let free : is_held entries num ≡ false =
        ap (λ (o : Option (ℕ × Sealed)). option_map_or (λ (p : ℕ × Sealed). is_alta p.1.body) o false) e in
        sym (ap (λ (b : Bool). cond (b && is_in month (day_of entries num))
        (option_map_or (λ (p : ℕ × Sealed). lines_of p.1.body) (last_accepted_alta entries num) []) []) free)
    by (Some p) e =
        let m = match_is (λ (q : ℕ × Sealed). has_num num q.1 && not (is_refused entries q.0)) (recs entries) p e in
        let own = (and_parts (has_num num p.1) (not (is_refused entries p.0)) m.passes).0 in
        let held : is_held entries num ≡ is_alta p.1.body =
        ap (λ (o : Option (ℕ × Sealed)). option_map_or (λ (q : ℕ × Sealed). is_alta q.1.body) o false) e in
        of_body month p.1.body (option_map_or (λ (q : ℕ × Sealed). lines_of q.1.body) (last_accepted_alta entries num) [])
        (day_of entries num)
        (λ alta. ap (λ (o : Option (ℕ × Sealed)). option_map_or (λ (q : ℕ × Sealed). lines_of q.1.body) o [])
        (held_is_last entries num p e alta))
        (λ alta. invoice_day new version issuer entries num (p.0 - 1) p.1 legal m.at
        (ap (λ (b : Bool). b && is_alta p.1.body) own ∙ alta))
        ∙ sym (ap (λ (b : Bool). cond (b && is_in month (day_of entries num))
        (option_map_or (λ (q : ℕ × Sealed). lines_of q.1.body) (last_accepted_alta entries num) []) []) held)

flat_alike : (f g : List ℕ → List TaxLine) (nums : List (List ℕ)) → ((num : List ℕ) → f num ≡ g num) →
    flat_map f nums ≡ flat_map g nums
flat_alike f g [] same = refl
flat_alike f g (n ∷ nums) same =
    ap (λ (ls : List TaxLine). ls ++ flat_map f nums) (same n)
    ∙ ap (λ (ls : List TaxLine). g n ++ ls) (flat_alike f g nums same)

pub lines_are : SalesAreNew → LinesAreOfInvoices
lines_are new version issuer entries month legal =
    subst (λ (ls : List TaxLine). AreSame (held_lines entries month) ls)
    (flat_alike (λ (num : List ℕ). found_lines month (last_accepted entries num)) (invoice_lines entries month) (invoices entries)
    (λ num. of_invoice new version issuer entries month num legal)) (all_held entries month)

pub rows_are : SalesAreNew → StatementsAreOfInvoices
rows_are new version issuer entries month rows legal =
    let same = lines_are new version issuer entries month legal in (
      λ is. same_rows (held_lines entries month) (lines_by_invoice entries month) rows same is,
      λ are. same_rows (lines_by_invoice entries month) (held_lines entries month) rows
          (same_sym (held_lines entries month) (lines_by_invoice entries month) same) are,
    )
