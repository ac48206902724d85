-- The sums of one row more.
use Rattle.std.proofs.Common.{◌≡◌, ℕ, ◌+◌, ◌<◌, ◌≤◌, ℤ, pos, ◌+ℤ◌, List, [], ◌∷◌, ◌++◌, length, get_or, map, sum_by, take, sym, ◌∙◌, ap}
use Rattle.std.proofs.lemmas.List.{map-append, take_all, take_more}
use Rattle.std.proofs.lemmas.List.Sums.{fold_push, sum_by_push}
use Rattle.tax_lines.specs.Totals.{sum_of}
use Rattle.report.specs.Statements.{more, totals}
use Rattle.report.specs.declared.statements.StatementLine.{StatementLine}
use Rattle.report.specs.declared.statements.Totals.{Totals}

sums_push : (f : StatementLine → ℤ) (xs : List StatementLine) (x : StatementLine) →
    sum_of (map f (xs ++ x ∷ [])) ≡ sum_of (map f xs) +ℤ f x
sums_push f xs x = ap sum_of (map-append f xs (x ∷ [])) ∙ fold_push ◌+ℤ◌ (pos 0) (map f xs) (f x)

made : ℕ → ℤ → ℤ → ℤ → Totals
made n b t u = record { lines = n; base = b; tax = t; surcharge = u }

same_made : (n n' : ℕ) (b b' t t' u u' : ℤ) → n ≡ n' → b ≡ b' → t ≡ t' → u ≡ u' → made n b t u ≡ made n' b' t' u'
same_made n n' b b' t t' u u' p q r s =
    ap (λ (k : ℕ). made k b t u) p ∙ ap (λ (k : ℤ). made n' k t u) q ∙ ap (λ (k : ℤ). made n' b' k u) r
    ∙ ap (λ (k : ℤ). made n' b' t' k) s

totals_push : (xs : List StatementLine) (x : StatementLine) → totals (xs ++ x ∷ []) ≡ more (totals xs) x
unfolding made
totals_push xs x = same_made (sum_by (λ (row : StatementLine). row.lines) (xs ++ x ∷ []))
    (sum_by (λ (row : StatementLine). row.lines) xs + x.lines)
    (sum_of (map (λ (row : StatementLine). row.base) (xs ++ x ∷ [])))
    (sum_of (map (λ (row : StatementLine). row.base) xs) +ℤ x.base)
    (sum_of (map (λ (row : StatementLine). row.tax) (xs ++ x ∷ [])))
    (sum_of (map (λ (row : StatementLine). row.tax) xs) +ℤ x.tax)
    (sum_of (map (λ (row : StatementLine). row.surcharge) (xs ++ x ∷ [])))
    (sum_of (map (λ (row : StatementLine). row.surcharge) xs) +ℤ x.surcharge)
    (sum_by_push (λ (row : StatementLine). row.lines) xs x) (sums_push (λ (row : StatementLine). row.base) xs x)
    (sums_push (λ (row : StatementLine). row.tax) xs x) (sums_push (λ (row : StatementLine). row.surcharge) xs x)

pub totals_more : (xs : List StatementLine) (n : ℕ) (x : StatementLine) (old new : Totals) → n < length xs → x ≡ get_or xs n x →
    old ≡ totals (take n xs) → new ≡ more old x → new ≡ totals (take (n + 1) xs)
totals_more xs n x old new lt at was is =
    let cut : take (n + 1) xs ≡ take n xs ++ x ∷ [] =
    take_more xs n x lt ∙ ap (λ (y : StatementLine). take n xs ++ y ∷ []) (sym at) in
    is ∙ ap (λ (t : Totals). more t x) was ∙ sym (totals_push (take n xs) x) ∙ ap totals (sym cut)

pub totals_all : (xs : List StatementLine) (n : ℕ) (old : Totals) → length xs ≤ n → old ≡ totals (take n xs) → old ≡ totals xs
totals_all xs n old past was = was ∙ ap totals (take_all n xs past)
