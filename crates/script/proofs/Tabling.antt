-- Tables of what is planned, with one line more.
use Rattle.std.proofs.Common.{◌≡◌, ◌∙◌, sym, ap, refl, ℕ, List, [], ◌∷◌, ◌++◌, Bool, true, false, cond, nat_eq, bytes_eq, ◌&&◌}
use Rattle.std.proofs.Common.{find, Option, Some, None, option_map, is_some}
use Rattle.std.specs.HashSet.{HashSet, Updates}
use Rattle.agency_rules.specs.declared.plans.PlannedFate.{PlannedFate}
use Rattle.agency_rules.specs.declared.plans.PlannedVerdict.{PlannedVerdict}
use Rattle.script.specs.Tables.{is_same_record, AreRecordsOf, AreCallsOf}

found_first : {A : Type 0} (b : Bool) (x : A) → is_some (cond b (Some x) None) ≡ cond b true false
found_first true x = refl
found_first false x = refl

found_next : {A : Type 0} (b c : Bool) (y : A) (o p : Option A) → is_some o ≡ cond c true (is_some p)
    → is_some (cond b (Some y) o) ≡ cond c true (is_some (cond b (Some y) p))
found_next true true y o p h = refl
found_next true false y o p h = refl
found_next false c y o p h = h

find_more : {A : Type 0} (test : A → Bool) (xs : List A) (x : A) → is_some (find test (xs ++ x ∷ [])) ≡ cond (test x) true
    (is_some (find test xs))
find_more test [] x = found_first (test x) x
find_more test (y ∷ xs) x = found_next (test y) (test x) y (find test (xs ++ x ∷ [])) (find test xs) (find_more test xs x)

mapped : {A B : Type 0} (f : A → B) (o : Option A) → is_some (option_map f o) ≡ is_some o
mapped f None = refl
mapped f (Some x) = refl

found_more : {A B : Type 0} (f : A → B) (test : A → Bool) (xs : List A) (x : A)
    → is_some (option_map f (find test (xs ++ x ∷ []))) ≡ cond (test x) true (is_some (option_map f (find test xs)))
found_more f test xs x =
    mapped f (find test (xs ++ x ∷ [])) ∙ find_more test xs x ∙ ap (λ b. cond (test x) true b) (sym (mapped f (find test xs)))

pub one_more_record : {S : Type 0} (verdicts : List PlannedVerdict) (verdict : PlannedVerdict) (old new : HashSet (List ℕ × ℕ) S)
    → AreRecordsOf verdicts old → Updates is_same_record old new (verdict.num, verdict.n) true →
    AreRecordsOf (verdicts ++ verdict ∷ []) new
one_more_record verdicts verdict old new h updates num n =
    let same = is_same_record (verdict.num, verdict.n) (num, n) in
    updates.0 (num, n) ∙ ap (λ b. cond same true b) (h num n)
    ∙ sym (found_more (λ (v : PlannedVerdict). v.verdict) (λ (v : PlannedVerdict). bytes_eq v.num num && nat_eq v.n n) verdicts
    verdict)

pub one_more_call : {S : Type 0} (fates : List PlannedFate) (fate : PlannedFate) (old new : HashSet ℕ S)
    → AreCallsOf fates old → Updates nat_eq old new fate.call true → AreCallsOf (fates ++ fate ∷ []) new
one_more_call fates fate old new h updates call =
    updates.0 call ∙ ap (λ b. cond (nat_eq fate.call call) true b) (h call)
    ∙ sym (found_more (λ (f : PlannedFate). f.fate) (λ (f : PlannedFate). nat_eq f.call call) fates fate)
