-- The sums of one record more.
use Rattle.std.proofs.Common.{◌≡◌, ℕ, zero, suc, ◌+◌, ◌≤◌, ℤ, pos, ◌+ℤ◌, Bool, true, false, cond, append-nil, List, [], ◌∷◌, ◌++◌}
use Rattle.std.proofs.Common.{length, length-append, map, count_by, take, refl, sym, ◌∙◌, ap, arith, Some, None, slice_get}
use Rattle.std.proofs.lemmas.List.{map-append, take_more, take_all}
use Rattle.std.proofs.lemmas.List.Elements.{filter_map-append}
use Rattle.std.proofs.lemmas.List.Sums.{fold_push, sum_by_push}
use Rattle.std.proofs.lemmas.Option.{slice_get_within, get_or_from_slice_get}
use Rattle.tax_lines.specs.Totals.{bases, cuota, sum_of}
use Rattle.record_fields.specs.Records.{is_anulacion}
use Rattle.record_fields.specs.declared.records.Alta.{Alta}
use Rattle.record_fields.specs.declared.records.Record.{Record}
use Rattle.record_fields.specs.declared.records.Record.TheVariants as record_of
use Rattle.record_fields.specs.declared.records.Sealed.{Sealed}
use Rattle.shop_core.specs.History.{at_place}
use Rattle.report.specs.Summary.{alta_in, altas, sums}
use Rattle.report.specs.Sums.{added}
use Rattle.report.specs.declared.summary.Sums.{Sums}
use Rattle.report.proofs.Listed.{at_next}

sum_push : (f : Alta → ℤ) (xs : List Alta) (a : Alta) → sum_of (map f (xs ++ a ∷ [])) ≡ sum_of (map f xs) +ℤ f a
sum_push f xs a = ap sum_of (map-append f xs (a ∷ [])) ∙ fold_push ◌+ℤ◌ (pos 0) (map f xs) (f a)

sums_by : List Alta → ℕ → Sums
sums_by xs n = record {
  altas = length xs;
  anulaciones = n;
  bases = sum_of (map (λ (a : Alta). bases a.draft.lines) xs);
  cuotas = sum_of (map (λ (a : Alta). cuota a.draft.lines) xs);
}

altas_one : (xs : List Sealed) (x : Sealed) (found : List Alta) → altas (x ∷ []) ≡ found → altas (xs ++ x ∷ []) ≡ altas xs ++
    found
altas_one xs x found e = filter_map-append (λ (s : Sealed). alta_in s.body) xs (x ∷ []) ∙ ap (λ (l : List Alta). altas xs ++ l) e

counted : (xs : List Sealed) (x : Sealed) (b : Bool) → is_anulacion x.body ≡ b →
    count_by (λ (s : Sealed). is_anulacion s.body) (xs ++ x ∷ []) ≡ count_by (λ (s : Sealed). is_anulacion s.body) xs + cond b 1 0
counted xs x b e =
    sum_by_push (λ (s : Sealed). cond (is_anulacion s.body) 1 0) xs x
    ∙ ap (λ (c : Bool). count_by (λ (s : Sealed). is_anulacion s.body) xs + cond c 1 0) e

added_alta : (xs : List Alta) (n : ℕ) (a : Alta) → sums_by (xs ++ a ∷ []) n ≡ added (sums_by xs n) (record_of.Alta a)
unfolding sums_by
added_alta xs n a =
    ap (λ (k : ℕ). record {
      altas = k;
      anulaciones = n;
      bases = sum_of (map (λ (a : Alta). bases a.draft.lines) (xs ++ a ∷ []));
      cuotas = sum_of (map (λ (a : Alta). cuota a.draft.lines) (xs ++ a ∷ []));
    })
    (length-append xs (a ∷ []))
    ∙ ap (λ (z : ℤ). record {
      altas = length xs + 1;
      anulaciones = n;
      bases = z;
      cuotas = sum_of (map (λ (a : Alta). cuota a.draft.lines) (xs ++ a ∷ []));
    })
    (sum_push (λ (a : Alta). bases a.draft.lines) xs a)
    ∙ ap (λ (z : ℤ). record {
      altas = length xs + 1;
      anulaciones = n;
      bases = sum_of (map (λ (a : Alta). bases a.draft.lines) xs)
          +ℤ bases a.draft.lines;
      cuotas = z;
    })
    (sum_push (λ (a : Alta). cuota a.draft.lines) xs a)

sums_push : (xs : List Sealed) (x : Sealed) (b : Record) → x.body ≡ b → sums (xs ++ x ∷ []) ≡ added (sums xs) b
unfolding sums_by
sums_push xs x (record_of.Alta a) e =
    let kind : is_anulacion x.body ≡ false = rw e refl in
    let one : altas (x ∷ []) ≡ a ∷ [] = rw e refl in
    let same : count_by (λ (s : Sealed). is_anulacion s.body) (xs ++ x ∷ []) ≡ count_by (λ (s : Sealed). is_anulacion s.body) xs =
    counted xs x false kind ∙ omega arith in
    ap (λ (l : List Alta). sums_by l (count_by (λ (s : Sealed). is_anulacion s.body) (xs ++ x ∷ [])))
    (altas_one xs x (a ∷ []) one)
    ∙ ap (λ (n : ℕ). sums_by (altas xs ++ a ∷ []) n) same
    ∙ added_alta (altas xs) (count_by (λ (s : Sealed). is_anulacion s.body) xs) a
sums_push xs x (record_of.Anulacion a) e =
    let kind : is_anulacion x.body ≡ true = rw e refl in
    let one : altas (x ∷ []) ≡ [] = rw e refl in
    ap (λ (l : List Alta). sums_by l (count_by (λ (s : Sealed). is_anulacion s.body) (xs ++ x ∷ []))) (altas_one xs x [] one ∙
    append-nil (altas xs))
    ∙ ap (λ (n : ℕ). sums_by (altas xs) n) (counted xs x true kind)

-- one record more
pub sums_more : (xs : List Sealed) (n : ℕ) (x : Sealed) (old new : Sums) → at_place xs (n + 1) ≡ Some x → old ≡ sums (take n xs) →
    new ≡ added old x.body → new ≡ sums (take (n + 1) xs)
sums_more xs n x old new here was is =
    let found : slice_get xs n ≡ Some x = sym (at_next xs n) ∙ here in
    let more : take (n + 1) xs ≡ take n xs ++ x ∷ [] = take_more xs n x (slice_get_within xs n x found) ∙
    ap (λ (y : Sealed). take n xs ++ y ∷ []) (get_or_from_slice_get xs n x x found) in
    is ∙ ap (λ (s : Sums). added s x.body) was ∙ sym (sums_push (take n xs) x x.body refl) ∙ ap sums (sym more)

-- none is left
pub sums_none : (xs : List Sealed) (n : ℕ) (old : Sums) → at_place xs (n + 1) ≡ None → old ≡ sums (take n xs) → old ≡ sums xs
sums_none xs n old here was = was ∙ ap sums (take_none xs n (sym (at_next xs n) ∙ here))
  where
    take_none : (xs : List Sealed) (n : ℕ) → slice_get xs n ≡ None → take n xs ≡ xs
    take_none [] zero e = refl
    take_none [] (suc n) e = refl
    take_none (y ∷ xs) zero e = absurd cc
    take_none (y ∷ xs) (suc n) e = ap (λ (ys : List Sealed). y ∷ ys) (take_none xs n e)

pub sums_all : (xs : List Sealed) (n : ℕ) (old : Sums) → length xs ≤ n → old ≡ sums (take n xs) → old ≡ sums xs
sums_all xs n old past was = was ∙ ap sums (take_all n xs past)
