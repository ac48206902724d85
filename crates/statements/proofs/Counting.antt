-- The rows of a period, record by record.
use Rattle.std.proofs.Common.{◌≡◌, ℕ, zero, suc, ◌+◌, ◌<◌, ◌≤◌, List, [], ◌∷◌, ◌++◌, length, sym, ◌∙◌, ap, subst, arith, Some, take, append-nil}
use Rattle.std.proofs.Common.{slice_get}
use Rattle.std.proofs.lemmas.List.{length-take-le, take_all}
use Rattle.std.specs.List.{AllByRecursion}
use Rattle.record_fields.specs.declared.versions.Version.{Version}
use Rattle.tax_lines.specs.declared.lines.TaxLine.{TaxLine}
use Rattle.record_fields.specs.declared.records.Sealed.{Sealed}
use Rattle.record_codec.specs.declared.entry.Entry.{Entry}
use Rattle.shop_core.specs.History.{recs, sealed_at}
use Rattle.shop_core.specs.Legal.{Legal}
use Rattle.statements.proofs.Booking.{take_then}
use Rattle.statements.proofs.Fitting.{AreOf, IsSmallRecord, few_both, of_records, small_records, small_take}
use Rattle.statements.proofs.Holding.{held_then}
use Rattle.statements.proofs.Noting.{at_is}
use Rattle.statements.proofs.Sums.{same_rows, same_turn}
use Rattle.statements.specs.Periods.{IsStatementOf, IsStatementUpTo, is_within, own_lines}
use Rattle.statements.specs.Rows.{AreRows, HasRoomFor}
use Rattle.statements.specs.Statement.{accepted_place, held_from}
use Rattle.statements.specs.declared.periods.Period.{Period}
use Rattle.statements.specs.declared.rows.Row.{Row}

small_at : (records : List Sealed) (n : ℕ) (s : Sealed) → slice_get records n ≡ Some s → AllByRecursion IsSmallRecord records →
    IsSmallRecord s
small_at [] n s at all = absurd cc
small_at (x ∷ records) zero s at all = let same : x ≡ s = cc in subst (λ (t : Sealed). IsSmallRecord t) same all.0
small_at (x ∷ records) (suc n) s at all = small_at records n s at all.1

module _ (entries : List Entry) (period : Period) (n : ℕ) (s : Sealed) (lt : n < length (recs entries))
    (at : sealed_at entries (n + 1) ≡ Some s) where
  before : List TaxLine
  before = held_from (accepted_place entries) (is_within period) 1 (take n (recs entries))

  got : slice_get (recs entries) n ≡ Some s
  got = let p : n + 1 ≡ 1 + n = omega arith in sym (at_is (recs entries) n) ∙ ap (sealed_at entries) (sym p) ∙ at

  -- one record more
  more : held_from (accepted_place entries) (is_within period) 1 (take (n + 1) (recs entries)) ≡ before ++ own_lines entries period (n + 1) s
  unfolding before
  more =
      let p : n + 1 ≡ 1 + n = omega arith in
      let l : 1 + length (take n (recs entries)) ≡ n + 1 =
      ap (λ (k : ℕ). 1 + k) (length-take-le n (recs entries) (omega (arith, lt))) ∙ sym p in
      ap (held_from (accepted_place entries) (is_within period) 1) (take_then (recs entries) n s got)
      ∙ held_then (is_within period) (accepted_place entries) 1 (take n (recs entries)) s
      ∙ ap (λ (k : ℕ). before ++ own_lines entries period k s) l

  -- that has no lines
  pub counted_none : (rows : List Row) → [] ≡ own_lines entries period (n + 1) s → IsStatementUpTo entries period n rows →
      IsStatementUpTo entries period (n + 1) rows
  unfolding before
  counted_none rows none are =
      subst (λ (ls : List TaxLine). AreRows ls rows) (sym (more ∙ ap (λ (ls : List TaxLine). before ++ ls) (sym none) ∙ append-nil before)) are

  -- that has some
  pub counted_some : (lines : List TaxLine) (rows new : List Row) → lines ≡ own_lines entries period (n + 1) s →
      IsStatementUpTo entries period n rows → ((ls : List TaxLine) → AreRows ls rows → AreRows (lines ++ ls) new) →
      IsStatementUpTo entries period (n + 1) new
  unfolding before
  counted_some lines rows new some are adds =
      subst (λ (ls : List TaxLine). AreRows ls new) (sym (more ∙ ap (λ (ls : List TaxLine). before ++ ls) (sym some)))
      (same_rows (lines ++ before) (before ++ lines) new (same_turn lines before) (adds before are))

  -- there is room for them
  pub room_for : (version : Version) (issuer : List ℕ) (lines : List TaxLine) (rows : List Row) →
      lines ≡ own_lines entries period (n + 1) s → Legal version issuer entries → length (recs entries) ≤ 1_000_000 →
      IsStatementUpTo entries period n rows → HasRoomFor lines rows
  unfolding before
  room_for version issuer lines rows some legal few are =
      let small = small_records version issuer entries legal in
      let one : AreOf 1 (held_from (accepted_place entries) (is_within period) (n + 1) (s ∷ [])) =
      of_records (accepted_place entries) (is_within period) (n + 1) (s ∷ []) (small_at (recs entries) n s got small, tt) in
      let own : AreOf 1 lines = subst (λ (ls : List TaxLine). AreOf 1 ls) (append-nil (own_lines entries period (n + 1) s) ∙ sym some) one in
      let c = length-take-le n (recs entries) (omega (arith, lt)) in
      record {
        held = before;
        are = are;
        few = few_both 1 (length (take n (recs entries))) lines before (omega arith) (omega (arith, c, lt, few)) own
            (of_records (accepted_place entries) (is_within period) 1 (take n (recs entries)) (small_take n (recs entries) small));
      }

pub counted_all : (entries : List Entry) (period : Period) (n : ℕ) (rows : List Row) → n ≡ length (recs entries) →
    IsStatementUpTo entries period n rows → IsStatementOf entries period rows
counted_all entries period n rows e are =
    let all : take n (recs entries) ≡ recs entries = take_all n (recs entries) (omega (arith, e)) in
    subst (λ (xs : List Sealed). AreRows (held_from (accepted_place entries) (is_within period) 1 xs) rows) all are
