-- What a line more changes in the lines of the months.
use Rattle.std.proofs.Common.{◌≡◌, ℕ, zero, suc, ◌+◌, ◌-◌, ◌<◌, ◌≤◌, List, [], ◌∷◌, ◌++◌, length, length-append, refl, sym, ◌∙◌}
use Rattle.std.proofs.Common.{ap, subst, inl, inr, Bool, true, false, cond, arith, Option, Some, None, option_map, slice_get, eqb}
use Rattle.std.proofs.Common.{append-nil, append_assoc, bytes_eq, not, ◌&&◌, option_to_list, take, get_or, ℤ, ◌+ℤ◌, MatchOption}
use Rattle.std.proofs.lemmas.Bool.{cases_Bool, and_parts, eqb-true, ne_eqb, false≢true}
use Rattle.std.proofs.lemmas.Int.{ints}
use Rattle.std.proofs.lemmas.List.{length-take-le, take_more}
use Rattle.tax_lines.specs.declared.lines.TaxLine.{TaxLine}
use Rattle.record_fields.specs.Picks.{last_of}
use Rattle.record_fields.specs.Records.{num_of}
use Rattle.record_fields.specs.declared.records.Sealed.{Sealed}
use Rattle.record_fields.specs.declared.lines.Line.{Line}
use Rattle.record_codec.specs.declared.entry.TheConstants.{MAX_NOTES}
use Rattle.record_codec.specs.Heads.{head_of}
use Rattle.record_codec.specs.declared.entry.Entry.{Entry}
use Rattle.record_codec.specs.declared.heads.Head.{Head}
use Rattle.record_codec.specs.declared.entry.Entry.TheVariants.{Notes}
use Rattle.shop_core.specs.Tables.ByNumber.{is_accepted_in}
use Rattle.shop_core.specs.History.{recs, noted, at_place, sealed_at}
use Rattle.shop_core.specs.Places.{is_place, last_place, settled_place, LinesSettle, LineSettles}
use Rattle.shop_core.specs.Standing.{has_num, is_incorrecto}
use Rattle.statements.proofs.Holding.{all_same, held_by_none, held_by_one, Holders, num_itself, num_turned, same_num, without}
use Rattle.statements.proofs.Lasting.{match_is, passing}
use Rattle.statements.proofs.Recording.{body_postings, holders, noted_then, of_body, recs_still}
use Rattle.statements.proofs.Sums.{count_append, same_refl, sum_append}
use Rattle.statements.specs.Months.{YearMonth, month_at}
use Rattle.statements.specs.Postings.{AreNoted, ArePostings, AreSame, IsPlan, IsPostingAt, IsPostingOf, all_at, lines_at}
use Rattle.statements.specs.Rows.{sum}
use Rattle.statements.specs.Statement.{held_lines, is_at, lines_from, lines_in}
use Rattle.statements.specs.declared.months.TheConstants.{MONTHS}
use Rattle.statements.specs.declared.postings.Posting.{Posting}

slice_some : {A : Type 0} (xs : List A) (k : ℕ) → k < length xs → (x : A) × (slice_get xs k ≡ Some x)
slice_some [] k le = absurd (omega arith)
slice_some (x ∷ xs) zero le = (x, refl)
slice_some (x ∷ xs) (suc k) le = slice_some xs k (omega arith)

pub at_is : {A : Type 0} (xs : List A) (k : ℕ) → at_place xs (1 + k) ≡ slice_get xs k
at_is xs k =
    let z : eqb (1 + k) 0 ≡ false = ne_eqb (1 + k) 0 (λ e. omega (arith, e)) in
    let n : 1 + k - 1 ≡ k = omega arith in
    rw z (ap (slice_get xs) n)

pub at_some : {A : Type 0} (xs : List A) (k : ℕ) → k < length xs → (x : A) × (at_place xs (1 + k) ≡ Some x)
at_some xs k lt = let s = slice_some xs k lt in (s.0, at_is xs k ∙ s.1)

-- what look-ups read of a record has its number
pub head_num : (o : Option Sealed) (head : Head) (s : Sealed) → Some head ≡ option_map head_of o → o ≡ Some s →
    head.id.num ≡ num_of s.body
head_num None head s e f = absurd cc
head_num (Some t) head s e f =
    let same : t ≡ s = cc in
    let h : head ≡ head_of t = cc in
    ap (λ (x : Head). x.id.num) h ∙ ap (λ (x : Sealed). num_of x.body) same

-- ---- the last record that its line accepts, line by line

pub settled_step : LinesSettle → (records : List Sealed) (before lines : List Line) (num : List ℕ) (k place : ℕ) (line : Line)
    (b : Bool) → k < length lines → length before + length lines ≤ length records → place ≡ 1 + (length before + k) →
    line ≡ get_or lines k line →
    ((s : Sealed) → at_place records place ≡ Some s → b ≡ has_num num s && not (is_incorrecto line)) →
    settled_place records (before ++ take (k + 1) lines) num
    ≡ cond b (Some place) (settled_place records (before ++ take k lines) num)
settled_step law records before lines num k place line b lt few at is test =
    let n : length (before ++ take k lines) ≡ length before + k =
    length-append before (take k lines) ∙ ap (λ (m : ℕ). length before + m) (length-take-le k lines (omega (arith, lt))) in
    let here = at_some records (length before + k) (omega (arith, lt, few)) in
    let s = here.0 in
    let p : 1 + length (before ++ take k lines) ≡ place = ap (λ (m : ℕ). 1 + m) n ∙ sym at in
    let at_s : at_place records place ≡ Some here.0 = ap (at_place records) at ∙ here.1 in
    let l = law records (before ++ take k lines) line here.0 num (ap (at_place records) p ∙ at_s) in
    let more : before ++ take (k + 1) lines ≡ (before ++ take k lines) ++ line ∷ [] =
    ap (λ (ls : List Line). before ++ ls) (take_more lines k line lt ∙ ap (λ (x : Line). take k lines ++ x ∷ []) (sym is))
    ∙ sym (append_assoc before (take k lines) (line ∷ [])) in
    ap (λ (ls : List Line). settled_place records ls num) more ∙ l.settled
    ∙ ap (λ (m : ℕ). cond (has_num num here.0 && not (is_incorrecto line)) (Some m) (settled_place records (before ++ take k lines)
    num)) p
    ∙ ap (λ (c : Bool). cond c (Some place) (settled_place records (before ++ take k lines) num)) (sym (test here.0 at_s))

-- ---- one line more

module _ (law : LinesSettle) (records : List Sealed) (lines : List Line) (line : Line) (s : Sealed)
    (at : at_place records (1 + length lines) ≡ Some s) where
  abbrev q : ℕ
  q = 1 + length lines

  abbrev h : Holders
  h = holders records lines

  abbrev h' : Holders
  h' = holders records (lines ++ line ∷ [])

  one : (num : List ℕ) → LineSettles records lines line s num
  one num = law records lines line s num at

  -- the last record of an invoice that stands here is s
  whose : (num : List ℕ) → is_place (last_place records num) q ≡ true → bytes_eq (num_of s.body) num ≡ true
  whose num e = by (last_of (passing (λ (p : ℕ × Sealed). has_num num p.1) records)) refl
    where
      by : (o : Option (ℕ × Sealed)) → last_of (passing (λ (p : ℕ × Sealed). has_num num p.1)
          records) ≡ o → bytes_eq (num_of s.body) num ≡ true
      by None f = absurd (let g : is_place None q ≡ true =
          sym (ap (λ (o : Option (ℕ × Sealed)). is_place (option_map (λ (p : ℕ × Sealed). p.0) o) q) f) ∙ e in cc)
      by (Some p) f =
          let m = match_is (λ (r : ℕ × Sealed). has_num num r.1) records p f in
          let n : p.0 ≡ q = eqb-true p.0 q
          (sym (ap (λ (o : Option (ℕ × Sealed)). is_place (option_map (λ (r : ℕ × Sealed). r.0) o) q) f) ∙ e) in
          let k : p.0 - 1 ≡ length lines = omega (arith, n) in
          let same : Some p.1 ≡ Some s = sym m.at ∙ ap (slice_get records) k ∙ sym (at_is records (length lines)) ∙ at in
          let t : p.1 ≡ s = cc in
          ap (λ (x : Sealed). bytes_eq (num_of x.body) num) (sym t) ∙ m.passes

  -- where the line doesn't take the record's invoice from it, nothing changes
  pub unchanged : (is_incorrecto line && is_place (last_place records (num_of s.body)) q) ≡ false → (month : YearMonth) →
      lines_from h' month 1 records ≡ lines_from h month 1 records
  unchanged idle month = all_same month h' h 1 records (λ p t lt. ap (λ (o : Option ℕ). is_at o p) (stays (num_of t.body)))
    where
      stays : (num : List ℕ) → h' num ≡ h num
      stays num = elim (cases_Bool (is_incorrecto line && is_place (last_place records num) q)) [
        | inr e ↦ (one num).accepted ∙ ap (λ (b : Bool). cond b (settled_place records lines num) (h num)) e
        | inl e ↦
            let both = and_parts (is_incorrecto line) (is_place (last_place records num) q) e in
            let same = same_num (num_of s.body) num (whose num both.1) in
            absurd (false≢true (sym idle ∙ ap (λ (n : List ℕ). is_incorrecto line && is_place (last_place records n) q) same ∙ e))
      ]

  module _ (yes : is_incorrecto line && is_place (last_place records (num_of s.body)) q ≡ true) where
    -- the others stay
    others : (month : YearMonth) → lines_from (without (num_of s.body) h') month 1 records
        ≡ lines_from (without (num_of s.body) h) month 1 records
    others month = all_same month (without (num_of s.body) h') (without (num_of s.body) h) 1 records (λ p t lt.
        elim (cases_Bool (bytes_eq (num_of t.body) (num_of s.body))) [
          | inl e ↦ ap (λ (b : Bool). is_at (cond b None (h' (num_of t.body))) p) e
              ∙ sym (ap (λ (b : Bool). is_at (cond b None (h (num_of t.body))) p) e)
          | inr e ↦ ap (λ (b : Bool). is_at (cond b None (h' (num_of t.body))) p) e
              ∙ ap (λ (o : Option ℕ). is_at o p) (stays (num_of t.body) e)
              ∙ sym (ap (λ (b : Bool). is_at (cond b None (h (num_of t.body))) p) e)
        ])
      where
        stays : (num : List ℕ) → bytes_eq num (num_of s.body) ≡ false → h' num ≡ h num
        stays num ne = elim (cases_Bool (is_incorrecto line && is_place (last_place records num) q)) [
          | inr e ↦ (one num).accepted ∙ ap (λ (b : Bool). cond b (settled_place records lines num) (h num)) e
          | inl e ↦
              let both = and_parts (is_incorrecto line) (is_place (last_place records num) q) e in
              absurd (false≢true (sym ne ∙ num_turned num (num_of s.body) ∙ whose num both.1))
        ]

    -- the record's lines, and then the others
    pub before_it : (month : YearMonth) → AreSame (lines_from h month 1 records)
        (lines_in month s.body ++ lines_from (without (num_of s.body) h) month 1 records)
    before_it month =
        let both = and_parts (is_incorrecto line) (is_place (last_place records (num_of s.body)) q) yes in
        held_by_one month h (num_of s.body) 1 (length lines) records s ((one (num_of s.body)).waits both.1)
        (sym (at_is records (length lines)) ∙ at) (num_itself (num_of s.body))

    now_at : h' (num_of s.body) ≡ settled_place records lines (num_of s.body)
    now_at = (one (num_of s.body)).accepted
        ∙ ap (λ (b : Bool). cond b (settled_place records lines (num_of s.body)) (h (num_of s.body))) yes

    -- the lines of the one that comes back, and then the others
    pub after_none : settled_place records lines (num_of s.body) ≡ None → (month : YearMonth) →
        lines_from h' month 1 records ≡ lines_from (without (num_of s.body) h) month 1 records
    after_none none month = held_by_none month h' (num_of s.body) 1 records (now_at ∙ none) ∙ others month

    pub after_one : (place : ℕ) (t : Sealed) → settled_place records lines (num_of s.body) ≡ Some place →
        at_place records place ≡ Some t → (month : YearMonth) → AreSame (lines_from h' month 1 records)
        (lines_in month t.body ++ lines_from (without (num_of s.body) h) month 1 records)
    after_one place t some there month =
        by (last_of (passing (λ (p : ℕ × Sealed). has_num (num_of s.body) p.1
        && is_accepted_in lines p.0) records)) refl
      where
        by : (o : Option (ℕ × Sealed)) → last_of (passing (λ (p : ℕ × Sealed).
            has_num (num_of s.body) p.1 && is_accepted_in lines p.0) records) ≡ o → AreSame (lines_from h' month 1 records)
            (lines_in month t.body ++ lines_from (without (num_of s.body) h) month 1 records)
        by None f = absurd (let g : None ≡ Some place = sym (ap (option_map (λ (p : ℕ × Sealed). p.0)) f) ∙ some in cc)
        by (Some p) f =
            let m = match_is (λ (r : ℕ × Sealed). has_num (num_of s.body) r.1 && is_accepted_in lines r.0) records p f in
            let own = (and_parts (has_num (num_of s.body) p.1) (is_accepted_in lines p.0) m.passes).0 in
            let g : Some p.0 ≡ Some place = sym (ap (option_map (λ (r : ℕ × Sealed). r.0)) f) ∙ some in
            let same : p.0 ≡ place = cc in
            let one_more = m.place in
            let n : place ≡ 1 + (p.0 - 1) = omega (arith, same, one_more) in
            let u : Some p.1 ≡ Some t = sym m.at ∙ sym (at_is records (p.0 - 1)) ∙ ap (at_place records) (sym n) ∙ there in
            let t_is : p.1 ≡ t = cc in
            let held = held_by_one month h' (num_of s.body) 1 (p.0 - 1) records t
            (now_at ∙ some ∙ ap (λ (k : ℕ). Some k) n) (ap (slice_get records) refl ∙ m.at ∙ u)
            (ap (λ (x : Sealed). bytes_eq (num_of x.body) (num_of s.body)) (sym t_is) ∙ own) in
            subst (λ (ls : List TaxLine). AreSame (lines_from h' month 1 records) (lines_in month t.body ++ ls)) (others month) held

-- ---- what is put and dropped

all_at_then : (xs ys : List Posting) (i : ℕ) → all_at (xs ++ ys) i ≡ all_at xs i ++ all_at ys i
all_at_then [] ys i = refl
all_at_then (x ∷ xs) ys i = ap (λ (ls : List TaxLine). lines_at x i ++ ls) (all_at_then xs ys i)
    ∙ sym (append_assoc (lines_at x i) (all_at xs i) (all_at ys i))

postings_then : (xs ys : List Posting) → ArePostings xs → ArePostings ys → ArePostings (xs ++ ys)
postings_then [] ys a b = b
postings_then (x ∷ xs) ys a b = (a.0, postings_then xs ys a.1 b)

-- d and h with what stands for them, where h is s and w, and the new ones are t and w
moved : (d p s t w h0 h k : List TaxLine) → AreSame (d ++ h) (p ++ h0) → AreSame h (s ++ w) → AreSame k (t ++ w) →
    AreSame ((d ++ s) ++ k) ((p ++ t) ++ h0)
moved d p s t w h0 h k one two three = record {
  count = λ key.
      let a = one.count key in
      let b = two.count key in
      let c = three.count key in
      let d1 = count_append key d h in
      let d2 = count_append key p h0 in
      let d3 = count_append key s w in
      let d4 = count_append key t w in
      let d5 = count_append key (d ++ s) k in
      let d6 = count_append key (p ++ t) h0 in
      let d7 = count_append key d s in
      let d8 = count_append key p t in
      omega (arith, a, b, c, d1, d2, d3, d4, d5, d6, d7, d8);
  sum = λ amount key.
      sum_append amount key (d ++ s) k ∙ ap (λ (n : ℤ). n +ℤ sum amount key k) (sum_append amount key d s)
      ∙ ints_moved (sum amount key d) (sum amount key p) (sum amount key s) (sum amount key t) (sum amount key w)
      (sum amount key h0) (sum amount key h) (sum amount key k)
      (sym (sum_append amount key d h) ∙ one.sum amount key ∙ sum_append amount key p h0)
      (two.sum amount key ∙ sum_append amount key s w) (three.sum amount key ∙ sum_append amount key t w)
      ∙ sym (ap (λ (n : ℤ). n +ℤ sum amount key h0) (sum_append amount key p t)) ∙ sym (sum_append amount key (p ++ t) h0);
}
  where
    ints_moved : (a b c e f g m n : ℤ) → a +ℤ m ≡ b +ℤ g → m ≡ c +ℤ f → n ≡ e +ℤ f → (a +ℤ c) +ℤ n ≡ (b +ℤ e) +ℤ g
    ints_moved a b c e f g m n x y z = omega (arith, ints)

few_more : (o : Option Posting) → length (option_to_list o) ≤ 1
few_more None = omega arith
few_more (Some p) = omega arith

line_more : (lines : List Line) (line : Line) (put : List Posting) (o : Option Posting) → length put ≤ length lines →
    length (put ++ option_to_list o) ≤ length (lines ++ line ∷ [])
line_more lines line put o few =
    let a = few_more o in
    let b = length-append put (option_to_list o) in
    let c : length (lines ++ line ∷ []) ≡ length lines + length (line ∷ []) = length-append lines (line ∷ []) in
    omega (arith, few, a, b, c)

module _ (law : LinesSettle) (entries : List Entry) (before : List Line) (line : Line) (s : Sealed) (place : ℕ)
    (is : place ≡ 1 + (length (noted entries) + length before)) (at : sealed_at entries place ≡ Some s) where
  q_is : place ≡ 1 + length (noted entries ++ before)
  q_is = is ∙ ap (λ (n : ℕ). 1 + n) (sym (length-append (noted entries) before))

  at_q : at_place (recs entries) (1 + length (noted entries ++ before)) ≡ Some s
  at_q = ap (at_place (recs entries)) (sym q_is) ∙ at

  more : noted entries ++ (before ++ line ∷ []) ≡ (noted entries ++ before) ++ line ∷ []
  more = sym (append_assoc (noted entries) before (line ∷ []))

  pub stays : (put drop : List Posting) → AreNoted entries before put drop →
      (is_incorrecto line && is_place (last_place (recs entries) (num_of s.body)) place) ≡ false →
      AreNoted entries (before ++ line ∷ []) put drop
  stays put drop are idle = record {
    puts = are.puts;
    drops = are.drops;
    few =
        let f = are.few in
        let c : length (before ++ line ∷ []) ≡ length before + length (line ∷ []) = length-append before (line ∷ []) in
        omega (arith, f, c);
    few_out =
        let f = are.few_out in
        let c : length (before ++ line ∷ []) ≡ length before + length (line ∷ []) = length-append before (line ∷ []) in
        omega (arith, f, c);
    same = λ i lt.
        let e : lines_from (holders (recs entries) (noted entries ++ (before ++ line ∷ []))) (month_at i) 1 (recs entries)
        ≡ lines_from (holders (recs entries) (noted entries ++ before)) (month_at i) 1 (recs entries) =
        ap (λ (ls : List Line). lines_from (holders (recs entries) ls) (month_at i) 1 (recs entries)) more
        ∙ unchanged law (recs entries) (noted entries ++ before) line s at_q
        (ap (λ (n : ℕ). is_incorrecto line && is_place (last_place (recs entries) (num_of s.body)) n) (sym q_is) ∙ idle) (month_at i) in
        subst (λ (ls : List TaxLine). AreSame (all_at drop i ++ ls) (all_at put i ++ held_lines entries (month_at i))) (sym e)
        (are.same i lt);
  }

  pub turns : (put drop : List Posting) (out back : Option Posting) → AreNoted entries before put drop →
      is_incorrecto line ≡ true → is_place (last_place (recs entries) (num_of s.body)) place ≡ true →
      IsPostingOf s.body out →
      IsPostingAt entries (settled_place (recs entries) (noted entries ++ before) (num_of s.body)) back →
      AreNoted entries (before ++ line ∷ []) (put ++ option_to_list back) (drop ++ option_to_list out)
  turns put drop out back are refuses last o b = by (settled_place (recs entries) (noted entries ++ before) (num_of s.body)) refl b
    where
      yes : is_incorrecto line && is_place (last_place (recs entries) (num_of s.body)) (1 + length (noted entries ++ before)) ≡ true
      yes =
          ap (λ (b : Bool). b && is_place (last_place (recs entries) (num_of s.body)) (1 + length (noted entries ++ before))) refuses
          ∙ ap (is_place (last_place (recs entries) (num_of s.body))) (sym q_is) ∙ last

      now_is : (i : ℕ) → lines_from (holders (recs entries) (noted entries ++ (before ++ line ∷ []))) (month_at i) 1 (recs entries)
          ≡ lines_from (holders (recs entries) ((noted entries ++ before) ++ line ∷ [])) (month_at i) 1 (recs entries)
      now_is i = ap (λ (ls : List Line). lines_from (holders (recs entries) ls) (month_at i) 1 (recs entries)) more

      made : ArePostings (option_to_list back) → ((i : ℕ) → i < MONTHS → AreSame
          (lines_from (holders (recs entries) ((noted entries ++ before) ++ line ∷ [])) (month_at i) 1 (recs entries))
          (all_at (option_to_list back) i ++ lines_from (without (num_of s.body) (holders (recs entries) (noted entries ++ before)))
          (month_at i) 1 (recs entries))) →
          AreNoted entries (before ++ line ∷ []) (put ++ option_to_list back) (drop ++ option_to_list out)
      made backs three = record {
        puts = postings_then put (option_to_list back) are.puts backs;
        drops = postings_then drop (option_to_list out) are.drops (body_postings s.body out o);
        few = line_more before line put back are.few;
        few_out = line_more before line drop out are.few_out;
        same = λ i lt.
            let w = lines_from (without (num_of s.body) (holders (recs entries) (noted entries ++ before))) (month_at i) 1
            (recs entries) in
            let h = lines_from (holders (recs entries) (noted entries ++ before)) (month_at i) 1 (recs entries) in
            let two : AreSame (lines_from (holders (recs entries) (noted entries ++ before)) (month_at i) 1 (recs entries))
            (all_at (option_to_list out) i ++ lines_from (without (num_of s.body) (holders (recs entries)
            (noted entries ++ before))) (month_at i) 1 (recs entries)) =
            subst (λ (ls : List TaxLine). AreSame (lines_from (holders (recs entries) (noted entries ++ before)) (month_at i) 1
            (recs entries)) (ls ++ lines_from (without (num_of s.body) (holders (recs entries) (noted entries ++ before)))
            (month_at i) 1 (recs entries))) (sym (of_body s.body out i lt o))
            (before_it law (recs entries) (noted entries ++ before) line s at_q yes (month_at i)) in
            subst (λ (ls : List TaxLine). AreSame (all_at (drop ++ option_to_list out) i ++ ls)
            (all_at (put ++ option_to_list back) i ++ held_lines entries (month_at i))) (sym (now_is i))
            (subst (λ (ls : List TaxLine). AreSame (ls ++ lines_from (holders (recs entries) ((noted entries ++ before) ++ line
            ∷ [])) (month_at i) 1 (recs entries)) (all_at (put ++ option_to_list back) i ++ held_lines entries (month_at i)))
            (sym (all_at_then drop (option_to_list out) i))
            (subst (λ (ls : List TaxLine). AreSame ((all_at drop i ++ all_at (option_to_list out) i) ++ lines_from (holders
            (recs entries) ((noted entries ++ before) ++ line ∷ [])) (month_at i) 1 (recs entries))
            (ls ++ held_lines entries (month_at i))) (sym (all_at_then put (option_to_list back) i))
            (moved (all_at drop i) (all_at put i) (all_at (option_to_list out) i) (all_at (option_to_list back) i) w
            (held_lines entries (month_at i)) h
            (lines_from (holders (recs entries) ((noted entries ++ before) ++ line ∷ [])) (month_at i) 1 (recs entries))
            (are.same i lt) two (three i lt))));
      }

      by : (o : Option ℕ) → settled_place (recs entries) (noted entries ++ before) (num_of s.body) ≡ o →
          IsPostingAt entries o back →
          AreNoted entries (before ++ line ∷ []) (put ++ option_to_list back) (drop ++ option_to_list out)
      by None e none = made (subst (λ (x : Option Posting). ArePostings (option_to_list x)) (sym none) tt) (λ i lt.
          subst (λ (x : Option Posting). AreSame (lines_from (holders (recs entries) ((noted entries ++ before) ++ line ∷ []))
          (month_at i) 1 (recs entries)) (all_at (option_to_list x) i ++ lines_from (without (num_of s.body) (holders (recs entries)
          (noted entries ++ before))) (month_at i) 1 (recs entries))) (sym none)
          (subst (λ (ls : List TaxLine). AreSame (lines_from (holders (recs entries) ((noted entries ++ before) ++ line ∷ []))
          (month_at i) 1 (recs entries)) ls)
          (after_none law (recs entries) (noted entries ++ before) line s at_q yes e (month_at i))
          (same_refl (lines_from (holders (recs entries) ((noted entries ++ before) ++ line ∷ [])) (month_at i) 1 (recs entries)))))
      by (Some r) e some = made (body_postings some.0.body back some.2) (λ i lt.
          subst (λ (ls : List TaxLine). AreSame (lines_from (holders (recs entries) ((noted entries ++ before) ++ line ∷ []))
          (month_at i) 1 (recs entries)) (ls ++ lines_from (without (num_of s.body) (holders (recs entries)
          (noted entries ++ before))) (month_at i) 1 (recs entries))) (sym (of_body some.0.body back i lt some.2))
          (after_one law (recs entries) (noted entries ++ before) line s at_q yes r some.0 e some.1 (month_at i)))

-- no lines at all
pub none_noted : (entries : List Entry) → AreNoted entries [] [] []
none_noted entries = record {
  puts = tt;
  drops = tt;
  few = omega arith;
  few_out = omega arith;
  same = λ i lt. subst (λ (ls : List Line). AreSame (lines_from (holders (recs entries) ls) (month_at i) 1 (recs entries))
      (held_lines entries (month_at i))) (sym (append-nil (noted entries))) (same_refl (held_lines entries (month_at i)));
}

-- the plan of notes
pub notes_plan : (entries : List Entry) (first : ℕ) (lines : List Line) (put drop : List Posting) → length lines ≤ MAX_NOTES →
    AreNoted entries lines put drop → IsPlan entries (entries ++ Notes first lines ∷ []) put drop
notes_plan entries first lines put drop few are = record {
  puts = are.puts;
  drops = are.drops;
  few = let n = are.few in omega (arith, n, few);
  few_out = let n = are.few_out in omega (arith, n, few);
  same = λ i lt.
      let e : held_lines (entries ++ Notes first lines ∷ []) (month_at i)
      ≡ lines_from (holders (recs entries) (noted entries ++ lines)) (month_at i) 1 (recs entries) =
      ap (λ (xs : List Sealed). lines_from (holders xs (noted (entries ++ Notes first lines ∷ []))) (month_at i) 1 xs)
      (recs_still entries first lines)
      ∙ ap (λ (ls : List Line). lines_from (holders (recs entries) ls) (month_at i) 1 (recs entries)) (noted_then entries first lines) in
      subst (λ (ls : List TaxLine). AreSame (all_at drop i ++ ls) (all_at put i ++ held_lines entries (month_at i))) (sym e)
      (are.same i lt);
}

-- what is settled is a record of the chain
pub settled_there : (records : List Sealed) (lines : List Line) (num : List ℕ) (o : Option ℕ) → o ≡ settled_place records lines num →
    MatchOption o (Unit {0}) (λ n. (x : Sealed) × (at_place records n ≡ Some x))
settled_there records lines num None e = tt
settled_there records lines num (Some n) e =
    by (last_of (passing (λ (p : ℕ × Sealed). has_num num p.1 && is_accepted_in lines p.0) records)) refl
  where
    by : (o : Option (ℕ × Sealed)) → last_of (passing (λ (p : ℕ × Sealed). has_num num p.1 && is_accepted_in lines p.0) records) ≡ o
        → (x : Sealed) × (at_place records n ≡ Some x)
    by None f = absurd (let g : Some n ≡ None = e ∙ ap (option_map (λ (p : ℕ × Sealed). p.0)) f in cc)
    by (Some p) f =
        let m = match_is (λ (r : ℕ × Sealed). has_num num r.1 && is_accepted_in lines r.0) records p f in
        let g : Some n ≡ Some p.0 = e ∙ ap (option_map (λ (r : ℕ × Sealed). r.0)) f in
        let same : n ≡ p.0 = cc in
        let some = m.place in
        let k : n ≡ 1 + (p.0 - 1) = omega (arith, same, some) in
        (p.1, ap (at_place records) k ∙ at_is records (p.0 - 1) ∙ m.at)
