-- The rows of a state, record by record.
use Rattle.std.proofs.Common.{◌≡◌, ℕ, zero, suc, ◌+◌, ◌<◌, ◌≤◌, List, [], ◌∷◌, ◌++◌, length, length-append, sym, ◌∙◌}
use Rattle.std.proofs.Common.{ap, subst, Bool, true, false, cond, arith, Option, Some, None, slice_get}
use Rattle.std.proofs.Common.{option_to_list, take}
use Rattle.std.proofs.lemmas.List.{length-take-le, take_all}
use Rattle.record_fields.specs.declared.versions.Version.{Version}
use Rattle.tax_lines.specs.declared.lines.TaxLine.{TaxLine}
use Rattle.record_fields.specs.Records.{num_of}
use Rattle.record_fields.specs.declared.records.Record.{Record}
use Rattle.record_fields.specs.declared.records.Sealed.{Sealed}
use Rattle.record_codec.specs.declared.entry.Entry.{Entry}
use Rattle.record_codec.specs.declared.entry.Entry.TheVariants.{Rec, Notes}
use Rattle.shop_core.specs.History.{recs, sealed_at}
use Rattle.shop_core.specs.Legal.{Legal}
use Rattle.statements.proofs.Fitting.{few_both, of_postings, of_records, small_records, small_take}
use Rattle.statements.proofs.Holding.{here, Holders, lines_then}
use Rattle.statements.proofs.Monthly.{months_same}
use Rattle.statements.proofs.Noting.{at_is}
use Rattle.statements.proofs.Recording.{body_postings, of_body, recs_still, recs_then}
use Rattle.statements.proofs.Sums.{same_sym, same_turn}
use Rattle.statements.specs.Ledger.{IsBooked, IsKept}
use Rattle.statements.specs.Months.{is_in, month_at}
use Rattle.statements.specs.Postings.{AreMonths, ArePostings, AreSame, HaveAll, HaveRoomFor, IsHeldPosting, IsPlan, all_at}
use Rattle.statements.specs.Statement.{accepted_place, held_lines, is_at, lines_from, lines_in}
use Rattle.statements.specs.declared.months.TheConstants.{MONTHS}
use Rattle.statements.specs.declared.postings.Posting.{Posting}
use Rattle.statements.specs.declared.rows.Row.{Row}

-- ---- from the first record on

held_here : (b : Bool) (body : Record) (found : Option Posting) (i : ℕ) → i < MONTHS → IsHeldPosting b body found →
    all_at (option_to_list found) i ≡ cond b (lines_in (month_at i) body) []
held_here true body found i lt is = of_body body found i lt is
held_here false body found i lt is = ap (λ (o : Option Posting). all_at (option_to_list o) i) is

pub held_postings : (b : Bool) (body : Record) (found : Option Posting) → IsHeldPosting b body found →
    ArePostings (option_to_list found)
held_postings true body found is = body_postings body found is
held_postings false body found is = subst (λ (o : Option Posting). ArePostings (option_to_list o)) (sym is) tt

pub take_then : {A : Type 0} (xs : List A) (n : ℕ) (x : A) → slice_get xs n ≡ Some x → take (n + 1) xs ≡ take n xs ++ x ∷ []
take_then [] n x e = absurd cc
take_then {A} (y ∷ xs) zero x e = let same : y ≡ x = cc in ap (λ (z : A). z ∷ []) same
take_then {A} (y ∷ xs) (suc n) x e =
    let m : suc n + 1 ≡ suc (n + 1) = omega arith in
    ap (λ (k : ℕ). take k (y ∷ xs)) m ∙ ap (λ (zs : List A). y ∷ zs) (take_then xs n x e)

pub booked_then : (entries : List Entry) (n place : ℕ) (s : Sealed) (found : Option Posting) (postings : List Posting)
    (months new : List (List Row)) → n < length (recs entries) → place ≡ n + 1 → sealed_at entries place ≡ Some s →
    IsHeldPosting (is_at (accepted_place entries (num_of s.body)) place) s.body found → postings ≡ option_to_list found →
    IsBooked entries n months →
    ((f : ℕ → List TaxLine) → AreMonths f months → AreMonths (λ (i : ℕ). all_at postings i ++ f i) new) →
    IsBooked entries (n + 1) new
booked_then entries n place s found postings months new lt p at is all booked puts =
    let h : Holders = accepted_place entries in
    let records = recs entries in
    let p1 : place ≡ 1 + n = omega (arith, p) in
    let got : slice_get (recs entries) n ≡ Some s = sym (at_is (recs entries) n) ∙ ap (sealed_at entries) (sym p1) ∙ at in
    let l : 1 + length (take n (recs entries)) ≡ place =
    ap (λ (k : ℕ). 1 + k) (length-take-le n (recs entries) (omega (arith, lt))) ∙ sym p1 in
    months_same (λ (i : ℕ). all_at postings i ++ lines_from (accepted_place entries) (month_at i) 1 (take n (recs entries)))
    (λ (i : ℕ). lines_from (accepted_place entries) (month_at i) 1 (take (n + 1) (recs entries))) new
    (λ i within.
    let one : all_at postings i ≡ here (month_at i) h (1 + length (take n (recs entries))) s =
    ap (λ (ps : List Posting). all_at ps i) all
    ∙ held_here (is_at (accepted_place entries (num_of s.body)) place) s.body found i within is
    ∙ ap (λ (k : ℕ). here (month_at i) h k s) (sym l) in
    let e : lines_from (accepted_place entries) (month_at i) 1 (take (n + 1) (recs entries))
    ≡ lines_from (accepted_place entries) (month_at i) 1 (take n (recs entries)) ++ all_at postings i =
    ap (λ (xs : List Sealed). lines_from (accepted_place entries) (month_at i) 1 xs) (take_then (recs entries) n s got)
    ∙ lines_then (month_at i) h 1 (take n (recs entries)) s
    ∙ ap (λ (ls : List TaxLine). lines_from (accepted_place entries) (month_at i) 1 (take n (recs entries)) ++ ls) (sym one) in
    subst (λ (ls : List TaxLine). AreSame (all_at postings i ++ lines_from (accepted_place entries) (month_at i) 1
    (take n (recs entries))) ls) (sym e)
    (same_turn (all_at postings i) (lines_from (accepted_place entries) (month_at i) 1 (take n (recs entries)))))
    (puts (λ (i : ℕ). lines_from (accepted_place entries) (month_at i) 1 (take n (recs entries))) booked)

one_at_most : (o : Option Posting) → length (option_to_list o) ≤ 1
one_at_most None = omega arith
one_at_most (Some p) = omega arith

pub booking_room : (version : Version) (issuer : List ℕ) (entries : List Entry) (n : ℕ) (found : Option Posting)
    (postings : List Posting)
    (months : List (List Row)) → Legal version issuer entries → n < length (recs entries) → length (recs entries) ≤ 1_000_000 →
    postings ≡ option_to_list found → ArePostings postings → IsBooked entries n months → HaveRoomFor (all_at postings) months
booking_room version issuer entries n found postings months legal lt few all are booked = record {
  held = λ (i : ℕ). lines_from (accepted_place entries) (month_at i) 1 (take n (recs entries));
  are = booked;
  few = λ i within.
      let a = one_at_most found in
      let b = ap (λ (ps : List Posting). length ps) all in
      let c = length-take-le n (recs entries) (omega (arith, lt)) in
      few_both (length postings) (length (take n (recs entries))) (all_at postings i)
      (lines_from (accepted_place entries) (month_at i) 1 (take n (recs entries))) (omega (arith, a, b)) (omega (arith, c, lt, few))
      (of_postings postings i are)
      (of_records (accepted_place entries) (is_in (month_at i)) 1 (take n (recs entries)) (small_take n (recs entries)
      (small_records version issuer entries legal)));
}

pub booked_all : (entries : List Entry) (n : ℕ) (months : List (List Row)) → n ≡ length (recs entries) →
    IsBooked entries n months → IsKept entries months
booked_all entries n months e booked =
    let all : take n (recs entries) ≡ recs entries = take_all n (recs entries) (omega (arith, e)) in
    subst (λ (xs : List Sealed). AreMonths (λ (i : ℕ). lines_from (accepted_place entries) (month_at i) 1 xs) months) all booked

-- ---- an entry more

pub plan_room : (version : Version) (issuer : List ℕ) (entries after : List Entry) (put drop : List Posting)
    (months : List (List Row)) →
    Legal version issuer entries → length (recs entries) ≤ 1_000_000 → IsPlan entries after put drop → IsKept entries months →
    HaveRoomFor (all_at put) months
plan_room version issuer entries after put drop months legal few plan kept = record {
  held = λ (i : ℕ). held_lines entries (month_at i);
  are = kept;
  few = λ i within.
      let a = plan.few in
      few_both (length put) (length (recs entries)) (all_at put i) (held_lines entries (month_at i)) (omega (arith, a)) (omega (arith, few))
      (of_postings put i plan.puts)
      (of_records (accepted_place entries) (is_in (month_at i)) 1 (recs entries) (small_records version issuer entries legal));
}

-- what was put in can be taken out
pub put_back : (version : Version) (issuer : List ℕ) (entries after : List Entry) (put drop : List Posting)
    (months new : List (List Row)) →
    Legal version issuer entries → length (recs entries) ≤ 1_000_000 → IsPlan entries after put drop → IsKept entries months →
    ((f : ℕ → List TaxLine) → AreMonths f months → AreMonths (λ (i : ℕ). all_at put i ++ f i) new) → HaveAll (all_at put) new
put_back version issuer entries after put drop months new legal few plan kept puts =
    let room = plan_room version issuer entries after put drop months legal few plan kept in record {
      rest = room.held;
      are = puts room.held room.are;
      few = room.few;
    }

pub moved_in : (entries : List Entry) (entry : Entry) (put drop : List Posting) (months new : List (List Row)) →
    IsPlan entries (entries ++ entry ∷ []) put drop → IsKept entries months →
    ((f : ℕ → List TaxLine) → AreMonths f months → AreMonths (λ (i : ℕ). all_at put i ++ f i) new) →
    AreMonths (λ (i : ℕ). all_at drop i ++ held_lines (entries ++ entry ∷ []) (month_at i)) new
moved_in entries entry put drop months new plan kept puts =
    months_same (λ (i : ℕ). all_at put i ++ held_lines entries (month_at i))
    (λ (i : ℕ). all_at drop i ++ held_lines (entries ++ entry ∷ []) (month_at i)) new
    (λ i lt. same_sym (all_at drop i ++ held_lines (entries ++ entry ∷ []) (month_at i))
    (all_at put i ++ held_lines entries (month_at i)) (plan.same i lt))
    (puts (λ (i : ℕ). held_lines entries (month_at i)) kept)

one_more : (entries : List Entry) (entry : Entry) → length (recs (entries ++ entry ∷ [])) ≤ length (recs entries) + 1
one_more entries (Rec till serial s) =
    let e = ap (λ (xs : List Sealed). length xs) (recs_then entries till serial s) in
    let l : length (recs entries ++ s ∷ []) ≡ length (recs entries) + length (s ∷ []) = length-append (recs entries) (s ∷ []) in
    omega (arith, e, l)
one_more entries (Notes first lines) =
    let e = ap (λ (xs : List Sealed). length xs) (recs_still entries first lines) in
    omega (arith, e)

-- what is to be taken out is there
pub drop_there : (version : Version) (issuer : List ℕ) (entries : List Entry) (entry : Entry) (put drop : List Posting)
    (months new : List (List Row)) →
    Legal version issuer (entries ++ entry ∷ []) → length (recs entries) ≤ 1_000_000 →
    IsPlan entries (entries ++ entry ∷ []) put drop → IsKept entries months →
    ((f : ℕ → List TaxLine) → AreMonths f months → AreMonths (λ (i : ℕ). all_at put i ++ f i) new) → HaveAll (all_at drop) new
drop_there version issuer entries entry put drop months new legal few plan kept puts = record {
  rest = λ (i : ℕ). held_lines (entries ++ entry ∷ []) (month_at i);
  are = moved_in entries entry put drop months new plan kept puts;
  few = λ i within.
      let a = plan.few_out in
      let m = one_more entries entry in
      few_both (length drop) (length (recs (entries ++ entry ∷ []))) (all_at drop i) (held_lines (entries ++ entry ∷ []) (month_at i))
      (omega (arith, a)) (omega (arith, few, m)) (of_postings drop i plan.drops)
      (of_records (accepted_place (entries ++ entry ∷ [])) (is_in (month_at i)) 1 (recs (entries ++ entry ∷ []))
      (small_records version issuer (entries ++ entry ∷ []) legal));
}
