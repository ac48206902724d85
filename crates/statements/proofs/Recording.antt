-- What a record changes in the lines of the months.
use Rattle.std.proofs.Common.{◌≡◌, ℕ, ◌+◌, ◌-◌, ◌<◌, ◌≤◌, List, [], ◌∷◌, ◌++◌, length, refl, sym, ◌∙◌}
use Rattle.std.proofs.Common.{ap, subst, inl, inr, Bool, true, false, cond, arith, Option, Some, None, option_map, eqb}
use Rattle.std.proofs.Common.{append-nil, append_assoc, bytes_eq, not, ◌&&◌, option_to_list}
use Rattle.std.proofs.lemmas.Bool.{cases_Bool, and_parts, eq-eqb, ne_eqb}
use Rattle.std.specs.Option.{option_map_or}
use Rattle.tax_lines.specs.declared.lines.TaxLine.{TaxLine}
use Rattle.record_fields.specs.Records.{num_of}
use Rattle.record_fields.specs.declared.records.Record.{Record}
use Rattle.record_fields.specs.declared.records.Sealed.{Sealed}
use Rattle.record_fields.specs.declared.lines.Line.{Line}
use Rattle.record_codec.specs.declared.entry.TheConstants.{MAX_NOTES}
use Rattle.record_codec.specs.declared.entry.Entry.{Entry}
use Rattle.record_codec.specs.declared.entry.Entry.TheVariants.{Rec, Notes}
use Rattle.shop_core.specs.History.{recs, noted}
use Rattle.shop_core.specs.Places.{accepted_place}
use Rattle.shop_core.specs.Standing.{has_num, is_refused, last_accepted}
use Rattle.statements.proofs.Holding.{all_same, held_by_none, held_by_one, here, Holders, lines_then, num_itself, num_turned, without}
use Rattle.statements.proofs.Lasting.{accepted_then, match_is}
use Rattle.statements.proofs.Monthly.{same_turned}
use Rattle.statements.proofs.Sums.{same_append, same_by, same_refl, same_sym, same_turn}
use Rattle.statements.specs.Months.{YearMonth, month_at}
use Rattle.statements.specs.Postings.{AreSame, ArePostings, IsPlan, IsPostingFor, IsPostingOf, all_at, lines_at}
use Rattle.statements.specs.Statement.{held_lines, is_at, lines_from, lines_in}
use Rattle.statements.specs.declared.months.TheConstants.{MONTHS}
use Rattle.statements.specs.declared.postings.Posting.{Posting}

-- ---- histories with an entry more

pub recs_then : (entries : List Entry) (till serial : ℕ) (s : Sealed) → recs (entries ++ Rec till serial s ∷ []) ≡ recs entries ++ s
    ∷ []
recs_then [] till serial s = refl
recs_then (Rec t n x ∷ entries) till serial s = ap (λ (xs : List Sealed). x ∷ xs) (recs_then entries till serial s)
recs_then (Notes first lines ∷ entries) till serial s = recs_then entries till serial s

pub noted_still : (entries : List Entry) (till serial : ℕ) (s : Sealed) → noted (entries ++ Rec till serial s ∷ []) ≡ noted entries
noted_still [] till serial s = refl
noted_still (Rec t n x ∷ entries) till serial s = noted_still entries till serial s
noted_still (Notes first lines ∷ entries) till serial s = ap (λ (ls : List Line). lines ++ ls) (noted_still entries till serial s)

pub recs_still : (entries : List Entry) (first : ℕ) (lines : List Line) → recs (entries ++ Notes first lines ∷ []) ≡ recs entries
recs_still [] first lines = refl
recs_still (Rec t n x ∷ entries) first lines = ap (λ (xs : List Sealed). x ∷ xs) (recs_still entries first lines)
recs_still (Notes f ls ∷ entries) first lines = recs_still entries first lines

pub noted_then : (entries : List Entry) (first : ℕ) (lines : List Line) → noted (entries ++ Notes first lines ∷ []) ≡ noted entries
    ++ lines
noted_then [] first lines = append-nil lines
noted_then (Rec t n x ∷ entries) first lines = noted_then entries first lines
noted_then (Notes f ls ∷ entries) first lines = ap (λ (ks : List Line). ls ++ ks) (noted_then entries first lines)
    ∙ sym (append_assoc ls (noted entries) lines)

-- ---- the lines

abbrev pub holders : List Sealed → List Line → Holders
holders records lines num = accepted_place records lines num

-- the lines of the record that was found
abbrev pub found_lines : YearMonth → Option (ℕ × Sealed) → List TaxLine
found_lines month o = option_map_or (λ (p : ℕ × Sealed). lines_in month p.1.body) o []

-- the invoice's lines, and then the others
pub held_first : (entries : List Entry) (num : List ℕ) (month : YearMonth) →
    AreSame (held_lines entries month) (found_lines month (last_accepted entries num)
    ++ lines_from (without num (holders (recs entries) (noted entries))) month 1 (recs entries))
held_first entries num month = by (last_accepted entries num) refl
  where
    by : (o : Option (ℕ × Sealed)) → last_accepted entries num ≡ o → AreSame (held_lines entries month) (found_lines month o
        ++ lines_from (without num (holders (recs entries) (noted entries))) month 1 (recs entries))
    by None e =
        let h : Holders = holders (recs entries) (noted entries) in
        let none : h num ≡ None = ap (option_map (λ (p : ℕ × Sealed). p.0)) e in
        subst (λ (ls : List TaxLine). AreSame (held_lines entries month) ls) (held_by_none month h num 1 (recs entries) none)
        (same_refl (held_lines entries month))
    by (Some p) e =
        let h : Holders = holders (recs entries) (noted entries) in
        let m = match_is (λ (q : ℕ × Sealed). has_num num q.1 && not (is_refused entries q.0)) (recs entries) p e in
        let own = (and_parts (has_num num p.1) (not (is_refused entries p.0)) m.passes).0 in
        let some = m.place in
        let n : p.0 ≡ 1 + (p.0 - 1) = omega (arith, some) in
        let at : h num ≡ Some (1 + (p.0 - 1)) = ap (option_map (λ (q : ℕ × Sealed). q.0)) e ∙ ap (λ (k : ℕ). Some k) n in
        held_by_one month h num 1 (p.0 - 1) (recs entries) p.1 at m.at own

-- with the record: the others, and then its own
pub held_then : (entries : List Entry) (till serial : ℕ) (s : Sealed) (month : YearMonth) →
    length (noted entries) ≤ length (recs entries) →
    held_lines (entries ++ Rec till serial s ∷ []) month
    ≡ lines_from (without (num_of s.body) (holders (recs entries) (noted entries))) month 1 (recs entries) ++ lines_in month s.body
held_then entries till serial s month le =
    let records = recs entries in
    let lines = noted entries in
    let num = num_of s.body in
    let h : Holders = holders (recs entries) (noted entries) in
    let h' : Holders = holders (recs entries ++ s ∷ []) (noted entries) in
    let new : h' (num_of s.body) ≡ Some (1 + length (recs entries)) =
    accepted_then (recs entries) (noted entries) s (num_of s.body) le
    ∙ ap (λ (b : Bool). cond b (Some (1 + length (recs entries))) (h (num_of s.body))) (num_itself (num_of s.body)) in
    let f : eqb (1 + length (recs entries)) (1 + length (recs entries)) ≡ true =
    eq-eqb (1 + length (recs entries)) (1 + length (recs entries)) refl in
    let last : here month h' (1 + length (recs entries)) s ≡ lines_in month s.body = rw (new, f) refl in
    let others : lines_from h' month 1 (recs entries) ≡ lines_from (without (num_of s.body) h) month 1 (recs entries) =
    all_same month h' (without (num_of s.body) h) 1 (recs entries) (λ p t lt.
    let then_is = accepted_then (recs entries) (noted entries) s (num_of t.body) le in
    let turned = num_turned (num_of s.body) (num_of t.body) in
    elim (cases_Bool (bytes_eq (num_of t.body) (num_of s.body))) [
      | inl e ↦
          let ne : eqb (1 + length (recs entries)) p ≡ false = ne_eqb (1 + length (recs entries)) p (λ q. omega (arith, lt, q)) in
          let a : h' (num_of t.body) ≡ Some (1 + length (recs entries)) =
          then_is ∙ ap (λ (b : Bool). cond b (Some (1 + length (recs entries))) (h (num_of t.body))) (turned ∙ e) in
          ap (λ (o : Option ℕ). is_at o p) a ∙ ne
          ∙ sym (ap (λ (b : Bool). is_at (cond b None (h (num_of t.body))) p) e)
      | inr e ↦
          let a : h' (num_of t.body) ≡ h (num_of t.body) =
          then_is ∙ ap (λ (b : Bool). cond b (Some (1 + length (recs entries))) (h (num_of t.body))) (turned ∙ e) in
          ap (λ (o : Option ℕ). is_at o p) a ∙ sym (ap (λ (b : Bool). is_at (cond b None (h (num_of t.body))) p) e)
    ]) in
    ap (λ (xs : List Sealed). lines_from (holders xs (noted (entries ++ Rec till serial s ∷ []))) month 1 xs)
    (recs_then entries till serial s)
    ∙ ap (λ (ls : List Line). lines_from (holders (recs entries ++ s ∷ []) ls) month 1 (recs entries ++ s ∷ []))
    (noted_still entries till serial s)
    ∙ lines_then month h' 1 (recs entries) s
    ∙ ap (λ (ls : List TaxLine). ls ++ here month h' (1 + length (recs entries)) s) others
    ∙ ap (λ (ls : List TaxLine). lines_from (without (num_of s.body) h) month 1 (recs entries) ++ ls) last

same_moved : (t w s held : List TaxLine) → AreSame held (t ++ w) → AreSame (t ++ (w ++ s)) (s ++ held)
same_moved t w s held same =
    same_by (t ++ (w ++ s)) ((w ++ t) ++ s) (s ++ held) (same_turned t w s)
    (same_by ((w ++ t) ++ s) (s ++ (w ++ t)) (s ++ held) (same_turn (w ++ t) s)
    (same_append s s (w ++ t) held (same_refl s)
    (same_by (w ++ t) (t ++ w) held (same_turn w t) (same_sym held (t ++ w) same))))

-- ---- the postings

pub of_body : (body : Record) (o : Option Posting) (i : ℕ) → i < MONTHS → IsPostingOf body o →
    all_at (option_to_list o) i ≡ lines_in (month_at i) body
of_body body None i lt is = sym (is i lt)
of_body body (Some p) i lt is = append-nil (lines_at p i) ∙ sym (is.1 i lt)

pub body_postings : (body : Record) (o : Option Posting) → IsPostingOf body o → ArePostings (option_to_list o)
body_postings body None is = tt
body_postings body (Some p) is = (is.0, tt)

of_found : (found : Option (ℕ × Sealed)) (o : Option Posting) (i : ℕ) → i < MONTHS → IsPostingFor found o →
    all_at (option_to_list o) i ≡ found_lines (month_at i) found
of_found None o i lt is = ap (λ (x : Option Posting). all_at (option_to_list x) i) is
of_found (Some p) o i lt is = of_body p.1.body o i lt is

found_postings : (found : Option (ℕ × Sealed)) (o : Option Posting) → IsPostingFor found o → ArePostings (option_to_list o)
found_postings None o is = subst (λ (x : Option Posting). ArePostings (option_to_list x)) (sym is) tt
found_postings (Some p) o is = body_postings p.1.body o is

one_at_most : (o : Option Posting) → length (option_to_list o) ≤ MAX_NOTES
one_at_most None = omega arith
one_at_most (Some p) = omega arith

pub record_plan : (entries : List Entry) (till serial : ℕ) (s : Sealed) (now before : Option Posting) (put drop : List Posting) →
    length (noted entries) ≤ length (recs entries) → IsPostingFor (last_accepted entries (num_of s.body)) before →
    IsPostingOf s.body now → put ≡ option_to_list now → drop ≡ option_to_list before →
    IsPlan entries (entries ++ Rec till serial s ∷ []) put drop
record_plan entries till serial s now before put drop le b n p d = record {
  puts = subst (λ (ps : List Posting). ArePostings ps) (sym p) (body_postings s.body now n);
  drops = subst (λ (ps : List Posting). ArePostings ps) (sym d) (found_postings (last_accepted entries (num_of s.body)) before b);
  few = subst (λ (ps : List Posting). length ps ≤ MAX_NOTES) (sym p) (one_at_most now);
  few_out = subst (λ (ps : List Posting). length ps ≤ MAX_NOTES) (sym d) (one_at_most before);
  same = λ i lt.
      let month = month_at i in
      let found = last_accepted entries (num_of s.body) in
      let w = lines_from (without (num_of s.body) (holders (recs entries) (noted entries))) (month_at i) 1 (recs entries) in
      let out : all_at drop i ≡ found_lines (month_at i) found =
      ap (λ (ps : List Posting). all_at ps i) d ∙ of_found found before i lt b in
      let into : all_at put i ≡ lines_in (month_at i) s.body =
      ap (λ (ps : List Posting). all_at ps i) p ∙ of_body s.body now i lt n in
      subst (λ (ls : List TaxLine). AreSame (ls ++ held_lines (entries ++ Rec till serial s ∷ []) (month_at i))
      (all_at put i ++ held_lines entries (month_at i))) (sym out)
      (subst (λ (ls : List TaxLine). AreSame (found_lines (month_at i) found ++ held_lines (entries ++ Rec till serial s ∷ [])
      (month_at i)) (ls ++ held_lines entries (month_at i))) (sym into)
      (subst (λ (ls : List TaxLine). AreSame (found_lines (month_at i) found ++ ls)
      (lines_in (month_at i) s.body ++ held_lines entries (month_at i))) (sym (held_then entries till serial s (month_at i) le))
      (same_moved (found_lines (month_at i) found) w (lines_in (month_at i) s.body) (held_lines entries (month_at i))
      (held_first entries (num_of s.body) (month_at i)))));
}
