-- Which batches were handed over.
use Rattle.std.proofs.Common.{ℕ, suc, List, [], ◌∷◌, ◌++◌, refl, ◌∙◌, arith, Option, Some, None, Bool, true, false, cond, length}
use Rattle.std.proofs.Common.{length-append}
use Rattle.std.specs.Prelude.{Contains}
use Rattle.std.specs.List.{AllByRecursion, cons_option}
use Rattle.std.proofs.Math.ListN.{get_or-append}
use Rattle.std.proofs.Math.Seq.{get_or-append_seam}
use Rattle.record_fields.specs.declared.records.Sealed.{Sealed}
use Rattle.agency_rules.specs.declared.plans.Fate.{Fate}
use Rattle.agency_rules.specs.declared.plans.Fate.TheVariants.{Lost, Taken, Stale, Again, Late}
use Rattle.agency_port.specs.Rules.{AreAmong}
use Rattle.agency_port.specs.Messages.{batch_in}
use Rattle.agency_port.specs.Practice.{sent_in, is_late, late_for, again_before, own_of}
use Rattle.agency_port.specs.declared.messages.Logged.{Logged}

all_change : {A : Type 0} (P Q : A → Type 0) → ((x : A) → P x → Q x) → (xs : List A) → AllByRecursion P xs → AllByRecursion Q xs
all_change P Q f [] a = tt
all_change P Q f (x ∷ xs) a = (f x a.0, all_change P Q f xs a.1)

all_both : {A : Type 0} (P : A → Type 0) (xs ys : List A) → AllByRecursion P xs → AllByRecursion P ys →
    AllByRecursion P (xs ++ ys)
all_both P [] ys a b = b
all_both P (x ∷ xs) ys a b = (a.0, all_both P xs ys a.1 b)

later_one : (xs : List (List Sealed)) (x b : List Sealed) → Contains xs b → Contains (x ∷ xs) b
later_one xs x b c = (suc c.0, (let h = c.1 in omega arith), c.2)

first_one : (xs : List (List Sealed)) (x : List Sealed) → Contains (x ∷ xs) x
first_one xs x = (0, omega arith, refl)

in_front : (xs ys : List (List Sealed)) (b : List Sealed) → Contains xs b → Contains (xs ++ ys) b
in_front xs ys b c = (c.0, (let h = c.1 in omega (arith, length-append xs ys)), get_or-append xs ys b c.0 c.1 ∙ c.2)

at_end : (xs : List (List Sealed)) (x : List Sealed) → Contains (xs ++ x ∷ []) x
at_end xs x = (length xs, omega (arith, length-append xs (x ∷ [])), get_or-append_seam xs x [] x)

among_later : (sent batches : List (List Sealed)) (x : List Sealed) → AreAmong sent batches → AreAmong (x ∷ sent) batches
among_later sent batches x a = all_change (Contains sent) (Contains (x ∷ sent)) (λ b c. later_one sent x b c) batches a

pub among_more : (sent more batches : List (List Sealed)) → AreAmong sent batches → AreAmong (sent ++ more) batches
among_more sent more batches a = all_change (Contains sent) (Contains (sent ++ more)) (λ b c. in_front sent more b c) batches a

pub among_both : (sent a b : List (List Sealed)) → AreAmong sent a → AreAmong sent b → AreAmong sent (a ++ b)
among_both sent a b x y = all_both (Contains sent) a b x y

among_self : (sent : List (List Sealed)) → AreAmong sent sent
among_self [] = tt
among_self (x ∷ sent) = (first_one sent x, among_later sent sent x (among_self sent))

late_step : (late : Bool) (o : Option (List Sealed)) (sent lates : List (List Sealed)) → AreAmong sent lates →
    AreAmong (cons_option o sent) (cons_option (cond late o None) lates)
late_step true (Some b) sent lates a = (first_one sent b, among_later sent lates b a)
late_step true None sent lates a = a
late_step false (Some b) sent lates a = among_later sent lates b a
late_step false None sent lates a = a

pub late_among : (call : ℕ) (log : List Logged) → AreAmong (sent_in log) (late_for call log)
late_among call [] = tt
late_among call (l ∷ log) = late_step (is_late call l) (batch_in l.message) (sent_in log) (late_for call log)
    (late_among call log)

pub again_among : (fate : Option Fate) (sent : List (List Sealed)) → AreAmong sent (again_before fate sent)
again_among None sent = tt
again_among (Some Lost) sent = tt
again_among (Some Taken) sent = tt
again_among (Some Stale) sent = tt
again_among (Some Again) sent = among_self sent
again_among (Some (Late calls)) sent = tt

pub own_among : (fate : Option Fate) (sent : List (List Sealed)) (batch : List Sealed) → AreAmong (sent ++ batch ∷ [])
    (own_of fate batch)
own_among None sent batch = (at_end sent batch, tt)
own_among (Some Lost) sent batch = tt
own_among (Some Taken) sent batch = (at_end sent batch, tt)
own_among (Some Stale) sent batch = (at_end sent batch, tt)
own_among (Some Again) sent batch = (at_end sent batch, tt)
own_among (Some (Late calls)) sent batch = tt
