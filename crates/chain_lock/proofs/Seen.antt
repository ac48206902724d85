-- Who sees all that is owned sees all.
use Rattle.std.proofs.Common.{◌≡◌, ℕ, ◌<◌, ◌≤◌, ◌==◌, cond, List, [], ◌∷◌, ◌++◌, length, All, refl, ap, sym, ◌∙◌, arith}
use Rattle.std.proofs.lemmas.Bool.Decides.{nat_tests}
use Rattle.std.proofs.lemmas.List.{append-nil, length-append}
use Rattle.std.proofs.lemmas.List.Sums.{sum_by-cons}
use Rattle.chain_lock.specs.Known.{Known, OwnsBelow, owners, times_owned}
use Rattle.chain_lock.specs.Lists.{EachOf, StartsWith, placed}
use Rattle.chain_lock.proofs.Lists.{all_each, placed_is}

not_there : (m n : ℕ) → m < n → cond {A = ℕ} (m == n) 1 0 ≡ 0
not_there m n lt = grind (arith, nat_tests)

none_placed : {I : Type 0} (n : ℕ) (own : List (ℕ × I)) → EachOf (λ (x : ℕ × I). x.0 < n) own → placed n own ≡ 0
none_placed n [] below = refl
none_placed n (x ∷ xs) below =
    let first = not_there x.0 n below.0 in let rest = none_placed n xs below.1 in omega (arith, first, rest)

module _ {I R : Type 0} where
  none_owned : (n : ℕ) (k : Known I R) → OwnsBelow n k → times_owned n k ≡ 0
  none_owned n k below = sym (placed_is n k.own) ∙ none_placed n k.own (all_each (λ (x : ℕ × I). x.0 < n) k.own below)

  no_owners : (n : ℕ) (ks : List (Known I R)) → EachOf (OwnsBelow n) ks → owners n ks ≡ 0
  no_owners n [] each = refl
  no_owners n (k ∷ ks) each =
      let sum = sum_by-cons (times_owned n) k ks in
      let first = none_owned n k each.0 in let rest = no_owners n ks each.1 in omega (arith, sum, first, rest)

  pub sees_all : (base log seen : List I) (passes : List (Known I R)) → StartsWith log seen → length base ≤ length seen →
      All (OwnsBelow (length seen)) passes → ((n : ℕ) → length base ≤ n → n < length log → owners n passes ≡ 1) → log ≡ seen
  sees_all base log seen passes begins above below since = by_rest begins.0 begins.1
    where
      by_rest : (rest : List I) → log ≡ seen ++ rest → log ≡ seen
      by_rest [] is = is ∙ append-nil seen
      by_rest (x ∷ rest) is =
          let long = ap (λ (l : List I). length l) is in
          let sum = length-append seen (x ∷ rest) in
          let one = since (length seen) above (omega (arith, long, sum)) in
          let none = no_owners (length seen) passes (all_each (OwnsBelow (length seen)) passes below) in
          absurd (omega (arith, one, none))
