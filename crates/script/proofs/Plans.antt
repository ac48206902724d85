-- What the lines plan is in its ranges, and stands once.
use Rattle.std.proofs.Common.{◌≡◌, ℕ, ◌+◌, ◌≤◌, List, [], ◌∷◌, ◌++◌, count_by, refl, sym, ap, subst, arith, inl}
use Rattle.std.proofs.Common.{inr, Option, Some, None, Bool, true, false, ◌==◌, bytes_eq, cond, find, option_map, unwrap_or}
use Rattle.std.proofs.Common.{Ok, append_assoc, IfSome}
use Rattle.std.specs.List.{AllByRecursion}
use Rattle.std.specs.Option.{option_or}
use Rattle.std.proofs.lemmas.Bool.{and_parts, cases_Bool, eqb-true}
use Rattle.std.proofs.lemmas.List.{append-nil}
use Rattle.std.proofs.lemmas.List.Sums.{sum_by-append}
use Rattle.std.proofs.lemmas.Slice.Eq.{bytes_eq-Decides}
use Rattle.agency_rules.specs.Judging.{verdict_for}
use Rattle.agency_rules.specs.Plans.{fate_at}
use Rattle.agency_rules.specs.declared.plans.PlannedFate.{PlannedFate}
use Rattle.agency_rules.specs.declared.plans.PlannedVerdict.{PlannedVerdict}
use Rattle.pacing.specs.declared.pace.TheConstants.{FIRST_WAIT}
use Rattle.script.specs.declared.limits.TheConstants.{MAX_WAIT}
use Rattle.script.specs.Lines.{Above, above_of, line_said}
use Rattle.script.specs.Planned.{IsPlannedVerdict, IsPlannedCall, is_on, is_of, IsPlanned}
use Rattle.script.specs.Script.{EachSays, plan_of}
use Rattle.script.specs.declared.forms.Form.{Form}
use Rattle.script.specs.declared.lines.Meaning.{Meaning}
use Rattle.script.proofs.Gathering.{or_none}
use Rattle.script.proofs.Reading.{line_gives, with_line, above_more}

record Sound (verdicts : List PlannedVerdict) (wait : Option ℕ) (fates : List PlannedFate) : Type 0 where
  verdicts_fit : AllByRecursion IsPlannedVerdict verdicts
  fates_fit : AllByRecursion IsPlannedCall fates
  wait_fits : IfSome wait (λ seconds. seconds ≤ MAX_WAIT)
  one_verdict : (num : List ℕ) (n : ℕ) → count_by (is_on num n) verdicts ≤ 1
  one_fate : (call : ℕ) → count_by (is_of call) fates ≤ 1

all_more : {A : Type 0} (Q : A → Type 0) (xs : List A) (x : A) → AllByRecursion Q xs → Q x → AllByRecursion Q (xs ++ x ∷ [])
all_more Q [] x all h = (h, tt)
all_more Q (y ∷ ys) x all h = (all.0, all_more Q ys x all.1 h)

-- none is found where none is counted

found_none : {A B : Type 0} (p : A → Bool) (f : A → B) (b : Bool) (x : A) (xs : List A) →
    option_map f (cond b (Some x) (find p xs)) ≡ None → b ≡ false
found_none p f true x xs e = absurd cc
found_none p f false x xs e = refl

none_counted : {A B : Type 0} (p : A → Bool) (f : A → B) (xs : List A) → option_map f (find p xs) ≡ None → count_by p xs ≡ 0
none_counted p f [] e = refl
none_counted {A} {B} p f (x ∷ xs) e =
    let no = found_none p f (p x) x xs e in
    let rest : option_map f (find p xs) ≡ None = subst (λ (b : Bool). option_map f (cond b (Some x) (find p xs)) ≡ None) no e in
    let zero : ◌≡◌ {A = ℕ} (cond (p x) 1 0) 0 = ap (λ (b : Bool). cond {A = ℕ} b 1 0) no in
    let parts : count_by p (x ∷ xs) ≡ (0 + cond (p x) 1 0) + count_by p xs = sum_by-append (λ (y : A). cond (p y) 1 0) (x ∷ []) xs
    in
    omega (arith, parts, zero, none_counted p f xs rest)

one_more : {A : Type 0} (p : A → Bool) (xs : List A) (x : A) → count_by p xs ≤ 1 → (p x ≡ true → count_by p xs ≡ 0) →
    count_by p (xs ++ x ∷ []) ≤ 1
one_more {A} p xs x few none =
    let sum : count_by p (xs ++ x ∷ []) ≡ count_by p xs + (0 + cond (p x) 1 0) = sum_by-append (λ (y : A). cond (p y) 1 0) xs
    (x ∷ []) in
    elim (cases_Bool (p x)) [
      | inl holds ↦ let one : ◌≡◌ {A = ℕ} (cond (p x) 1 0) 1 = ap (λ (b : Bool). cond {A = ℕ} b 1 0) holds in
          omega (arith, sum, one, none holds)
      | inr fails ↦ let zero : ◌≡◌ {A = ℕ} (cond (p x) 1 0) 0 = ap (λ (b : Bool). cond {A = ℕ} b 1 0) fails in
          omega (arith, sum, zero, few)
    ]

unplanned : (verdicts : List PlannedVerdict) (wait : Option ℕ) (fates : List PlannedFate) → Sound verdicts wait fates
    → Sound (verdicts ++ []) (option_or wait None) (fates ++ [])
unplanned verdicts wait fates s = rw (append-nil verdicts, append-nil fates, ← or_none wait) s

more_verdict : (verdicts : List PlannedVerdict) (wait : Option ℕ) (fates : List PlannedFate) (v : PlannedVerdict) →
    Sound verdicts wait fates
    → IsPlannedVerdict v → verdict_for verdicts v.num v.n ≡ None → Sound (verdicts ++ v ∷ []) (option_or wait None) (fates ++ [])
more_verdict verdicts wait fates v s fits new =
    let same = unplanned verdicts wait fates s in
    record {
      verdicts_fit = all_more IsPlannedVerdict verdicts v s.verdicts_fit fits;
      fates_fit = same.fates_fit;
      wait_fits = same.wait_fits;
      one_verdict = λ num n. one_more (is_on num n) verdicts v (s.one_verdict num n) (λ yes.
          let parts = and_parts (bytes_eq v.num num) (v.n == n) yes in
          let number : v.num ≡ num = (bytes_eq-Decides v.num num).0 parts.0 in
          let nth : v.n ≡ n = eqb-true v.n n parts.1 in
          let none : verdict_for verdicts num n ≡ None = subst (λ (k : ℕ). verdict_for verdicts num k ≡ None) nth
          (subst (λ (t : List ℕ). verdict_for verdicts t v.n ≡ None) number new) in
          none_counted (is_on num n) (λ (w : PlannedVerdict). w.verdict) verdicts none);
      one_fate = same.one_fate;
    }

more_fate : (verdicts : List PlannedVerdict) (wait : Option ℕ) (fates : List PlannedFate) (f : PlannedFate) →
    Sound verdicts wait fates
    → IsPlannedCall f → fate_at fates f.call ≡ None → Sound (verdicts ++ []) (option_or wait None) (fates ++ f ∷ [])
more_fate verdicts wait fates f s fits new =
    let same = unplanned verdicts wait fates s in
    record {
      verdicts_fit = same.verdicts_fit;
      fates_fit = all_more IsPlannedCall fates f s.fates_fit fits;
      wait_fits = same.wait_fits;
      one_verdict = same.one_verdict;
      one_fate = λ call. one_more (is_of call) fates f (s.one_fate call) (λ yes.
          let none : fate_at fates call ≡ None = subst (λ (k : ℕ). fate_at fates k ≡ None) (eqb-true f.call call yes) new in
          none_counted (is_of call) (λ (g : PlannedFate). g.fate) fates none);
    }

more_wait : (verdicts : List PlannedVerdict) (wait : Option ℕ) (fates : List PlannedFate) (seconds : ℕ) →
    Sound verdicts wait fates
    → seconds ≤ MAX_WAIT → wait ≡ None → Sound (verdicts ++ []) (option_or wait (Some seconds)) (fates ++ [])
more_wait verdicts wait fates seconds s few none =
    let same = unplanned verdicts wait fates s in
    let new : option_or wait (Some seconds) ≡ Some seconds = ap (λ (o : Option ℕ). option_or o (Some seconds)) none in
    record {
      verdicts_fit = same.verdicts_fit;
      fates_fit = same.fates_fit;
      wait_fits = rw new few;
      one_verdict = same.one_verdict;
      one_fate = same.one_fate;
    }

abbrev IsSound : Above → Type 0
IsSound above = Sound above.verdicts above.wait above.fates

said_sound : (form : Form) (above : Above) (text : List ℕ) (meaning : Meaning) → line_said form above text ≡ Ok meaning →
    IsSound above → IsSound (with_line above meaning)
said_sound form above text meaning e s =
    line_gives form above (λ (m : Meaning). IsSound (with_line above m)) (record {
      skip = unplanned above.verdicts above.wait above.fates s;
      clock = λ start step clocks first. unplanned above.verdicts above.wait above.fates s;
      customer = λ key party first. unplanned above.verdicts above.wait above.fates s;
      command = λ ask full few. unplanned above.verdicts above.wait above.fates s;
      verdict = λ verdict plans fits first. more_verdict above.verdicts above.wait above.fates verdict s fits first;
      wait = λ seconds plans few first. more_wait above.verdicts above.wait above.fates seconds s few first;
      link = λ fate plans fits first. more_fate above.verdicts above.wait above.fates fate s fits first;
    }) text meaning e

all_sound : (form : Form) (before : List Meaning) (lines : List (List ℕ)) (meanings : List Meaning) → EachSays form before lines
    meanings → IsSound (above_of before)
    → IsSound (above_of (before ++ meanings))
all_sound form before [] [] h s = subst (λ (b : List Meaning). IsSound (above_of b)) (sym (append-nil before)) s
all_sound form before [] (m ∷ ms) h s = absurd h
all_sound form before (l ∷ ls) [] h s = absurd h
all_sound form before (l ∷ ls) (m ∷ ms) h s =
    let one : IsSound (above_of (before ++ m ∷ [])) = subst IsSound (sym (above_more before m)) (said_sound form (above_of before)
    l m h.0 s) in
    subst (λ (b : List Meaning). IsSound (above_of b)) (append_assoc before (m ∷ []) ms)
    (all_sound form (before ++ m ∷ []) ls ms h.1
    one)

waits : (o : Option ℕ) → IfSome o (λ seconds. seconds ≤ MAX_WAIT) → unwrap_or o FIRST_WAIT ≤ MAX_WAIT
waits None h = omega arith
waits (Some seconds) h = h

pub plan_sound : (form : Form) (lines : List (List ℕ)) (meanings : List Meaning) → EachSays form [] lines meanings →
    IsPlanned (plan_of meanings)
plan_sound form lines meanings h =
    let s = all_sound form [] lines meanings h (record {
      verdicts_fit = tt;
      fates_fit = tt;
      wait_fits = tt;
      one_verdict = λ num n. omega arith;
      one_fate = λ call. omega arith;
    }) in
    record {
      verdicts = s.verdicts_fit;
      fates = s.fates_fit;
      wait = waits (above_of meanings).wait s.wait_fits;
      one_verdict = s.one_verdict;
      one_fate = s.one_fate;
    }
