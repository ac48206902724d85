-- Jobs before a run and after it, as the rows of a day.
use Rattle.std.proofs.Common.{◌≡◌, ℕ, suc, ◌<◌, ◌≤◌, List, [], ◌∷◌, ◌++◌, length, get_or, map, Option, Some, refl, ap, sym, ◌∙◌}
use Rattle.std.proofs.Common.{subst, arith, append_assoc, All}
use Rattle.std.specs.Prelude.{reverse}
use Rattle.std.specs.List.{AllByRecursion}
use Rattle.std.proofs.lemmas.List.{map_push, reverse-append, reverse-reverse}
use Rattle.std.proofs.lemmas.List.Elements.{All-pop}
use Rattle.atomic_table.specs.Seated.{TableId}
use Rattle.chain_lock.specs.Known.{Known}
use Rattle.shop_core.specs.Answer.Requests.{Asked}
use Rattle.shop_core.specs.declared.items.Item.{Item}
use Rattle.till_calls.specs.Root.{Root}
use Rattle.till_calls.specs.Shop.{till_knows, till_number, till_shop}
use Rattle.sender_beside.specs.Tills.{asks_of}
use Rattle.sender_beside.specs.Days.{TillReplies}
use Rattle.sender_beside.specs.Works.{Ran, Row, Worked, Works, known_after}
use Rattle.shop_day.specs.TillJobs.{day_of, job_knows, tills_in, told_in}
use Rattle.shop_day.specs.declared.tills.TillJob.{TillJob}
use Rattle.shop_day.specs.declared.tills.TillDay.{TillDay}
use Rattle.sender_session.proofs.Lists.{all_of_each, each_of_all, each_reverse, each_snoc, each_unmap, each_weaker, map_reverse}

reverse_push : {X : Type 0} (xs : List X) (x : X) → reverse (xs ++ x ∷ []) ≡ x ∷ reverse xs
reverse_push xs x = reverse-append xs (x ∷ [])

-- the last of the one list went to the end of the other
pub put_back : {X Y : Type 0} (f : X → Y) (js all : List X) (j : X) (ys most whole : List Y) (y : Y) → all ≡ js ++ j ∷ [] →
    f j ≡ y → ys ≡ most ++ y ∷ [] → ys ++ reverse (map f js) ≡ whole → most ++ reverse (map f all) ≡ whole
put_back {X} {Y} f js all j ys most whole y a e l h =
    ap (λ (w : List X). most ++ reverse (map f w)) a ∙ ap (λ (w : List Y). most ++ reverse w) (map_push f js j) ∙
    ap (λ (w : List Y). most ++ w) (reverse_push (map f js) (f j))
    ∙ ap (λ (z : Y). most ++ z ∷ reverse (map f js)) e ∙ sym (append_assoc most (y ∷ []) (reverse (map f js))) ∙
    ap (λ (w : List Y). w ++ reverse (map f js)) (sym l) ∙ h

pub take_back : {X Y : Type 0} (f : X → Y) (out : List X) (j : X) (ys all : List Y) (y : Y) → ys ≡ reverse (map f out) →
    all ≡ ys ++ y ∷ [] → y ≡ f j → all ≡ reverse (map f (j ∷ out))
take_back {X} {Y} f out j ys all y h e s = e ∙ ap (λ (w : List Y). w ++ y ∷ []) h ∙ ap (λ (z : Y). reverse (map f out) ++ z ∷ [])
    s ∙ sym (reverse-append (f j ∷ []) (map f out))

-- what holds of all of a list that was turned round holds of each it was made of
pub all_turned : {X Y : Type 0} (f : X → Y) (P : Y → Type 0) (xs : List X) (ys : List Y) → reverse (map f xs) ≡ ys → All P ys →
    All (λ (x : X). P (f x)) xs
all_turned {X} {Y} f P xs ys e h =
    let each : AllByRecursion P (reverse (map f xs)) = subst (λ (l : List Y). AllByRecursion P l) (sym e) (each_of_all P ys h) in
    let back : AllByRecursion P (map f xs) = subst (λ (l : List Y). AllByRecursion P l) (reverse-reverse (map f xs))
    (each_reverse P (reverse (map f xs)) each) in
    all_of_each (λ (x : X). P (f x)) xs (each_unmap f P xs back)

-- each of these knew of no more items than the seat does now
pub told_more : {R : Type 0} (old new : ℕ) (ks : List (Known Item R)) (k : Known Item R) → old ≤ new → k.least ≤ new →
    All (λ (j : Known Item R). j.least ≤ old) ks → All (λ (j : Known Item R). j.least ≤ new) (ks ++ k ∷ [])
told_more {R} old new ks k more least h =
    all_of_each (λ (j : Known Item R). j.least ≤ new) (ks ++ k ∷ []) (each_snoc (λ (j : Known Item R). j.least ≤ new) ks k
    (each_weaker (λ (j : Known Item R). j.least ≤ old) (λ (j : Known Item R). j.least ≤ new) ks (λ j e. omega (arith, more, e))
    (each_of_all (λ (j : Known Item R). j.least ≤ old) ks h)) least)

pub all_front : {X : Type 0} (P : X → Type 0) (all xs : List X) (x : X) → all ≡ xs ++ x ∷ [] → All P all → All P xs
all_front P all xs x e h = (All-pop P all xs (Some x) e h).0

module _ {D C : Type 0} (coming : C → ℕ → Option ℕ) (asks : List Asked) where
  abbrev pub Does : TillJob D C → TillJob D C → Type 0
  Does a b = ((till_shop b.till ≡ till_shop a.till) × (till_number b.till ≡ till_number a.till))
      × Works coming (till_knows a.till) (asks_of (till_number a.till) asks) b.answers.items b.saw (till_knows b.till)

  row_of : (a b : TillJob D C) → Does a b → Row C
  row_of a b h = record { part = told_in (day_of b); from = job_knows a; last = h.1.last }

  worked_of : (a b : TillJob D C) (h : Does a b) → Worked coming asks (row_of a b h)
  unfolding row_of
  worked_of a b h = record { run = rw (h.0.1) h.1.run; at_least = h.1.at_least }

  -- the rows of two lists of jobs, one of each at a place
  record Rows (xs ys : List (TillJob D C)) : Type 0 where
    rows : List (Row C)
    tills_are : tills_in (map (λ (j : TillJob D C). day_of j) xs) ≡ map (λ (r : Row C). r.part.till) rows
    old_are : map (λ (j : TillJob D C). job_knows j) xs ≡ map (λ (r : Row C). r.from) rows
    parts_are : map told_in (map (λ (j : TillJob D C). day_of j) ys) ≡ map (λ (r : Row C). r.part) rows
    new_are : map (λ (j : TillJob D C). job_knows j) ys ≡ map (λ (r : Row C). known_after r) rows
    worked : AllByRecursion (λ (r : Row C). Worked coming asks r) rows

  by_index : (xs ys : List (TillJob D C)) → length ys ≡ length xs → ((i : ℕ) (d : TillJob D C) → i < length xs →
      Does (get_or xs i d) (get_or ys i d)) → Rows xs ys
  unfolding row_of
  by_index [] [] e h = record { rows = []; tills_are = refl; old_are = refl; parts_are = refl; new_are = refl; worked = tt }
  by_index [] (y ∷ ys) e h = absurd (omega (arith, e))
  by_index (x ∷ xs) [] e h = absurd (omega (arith, e))
  by_index (x ∷ xs) (y ∷ ys) e h =
      let more = by_index xs ys (omega (arith, e)) (λ i d l. h (suc i) d (omega (arith, l))) in
      let does = h 0 x (omega arith) in
      record {
        rows = row_of x y does ∷ more.rows;
        tills_are = ap (λ (n : ℕ). n ∷ tills_in (map (λ (j : TillJob D C). day_of j) xs)) (sym does.0.1) ∙
            ap (λ (l : List ℕ). till_number y.till ∷ l) more.tills_are;
        old_are = ap (λ (l : List (Known Item (Root C))). job_knows x ∷ l) more.old_are;
        parts_are = ap (λ (l : List TillReplies). told_in (day_of y) ∷ l) more.parts_are;
        new_are = ap (λ (k : Known Item (Root C)). k ∷ map (λ (j : TillJob D C). job_knows j) ys) does.1.new_is ∙
            ap (λ (l : List (Known Item (Root C))). known_after (row_of x y does) ∷ l) more.new_are;
        worked = (worked_of x y does, more.worked);
      }

  pub ran_of : (xs ys : List (TillJob D C)) → length ys ≡ length xs → ((i : ℕ) (d : TillJob D C) → i < length xs →
      Does (get_or xs i d) (get_or ys i d)) →
      Ran coming asks (tills_in (reverse (map (λ (j : TillJob D C). day_of j) xs))) (reverse (map (λ (j : TillJob D C). job_knows j) xs))
      (map told_in (reverse (map (λ (j : TillJob D C). day_of j) ys))) (reverse (map (λ (j : TillJob D C). job_knows j) ys))
  ran_of xs ys e h =
      let r = by_index xs ys e h in
      record {
        rows = reverse r.rows;
        tills_are = map_reverse (λ (d : TillDay). d.till) (map (λ (j : TillJob D C). day_of j) xs) ∙
            ap (λ (l : List ℕ). reverse l) r.tills_are ∙ sym (map_reverse (λ (x : Row C). x.part.till) r.rows);
        old_are = ap (λ (l : List (Known Item (Root C))). reverse l) r.old_are ∙ sym (map_reverse (λ (x : Row C). x.from) r.rows);
        parts_are = map_reverse told_in (map (λ (j : TillJob D C). day_of j) ys) ∙
            ap (λ (l : List TillReplies). reverse l) r.parts_are ∙ sym (map_reverse (λ (x : Row C). x.part) r.rows);
        new_are = ap (λ (l : List (Known Item (Root C))). reverse l) r.new_are ∙ sym (map_reverse (λ (x : Row C). known_after x)
            r.rows);
        worked = each_reverse (λ (x : Row C). Worked coming asks x) r.rows r.worked;
      }

  pub own_after : (xs ys : List (TillJob D C)) (t : TableId) → length ys ≡ length xs → All (λ (j : TillJob D C). till_shop j.till ≡ t) xs
      → ((i : ℕ) (d : TillJob D C) → i < length xs → Does (get_or xs i d) (get_or ys i d)) →
      All (λ (j : TillJob D C). till_shop j.till ≡ t) ys
  own_after xs ys t e h does = λ i d l. let within : i < length xs = omega (arith, l, e) in (does i d within).0.0 ∙ h i d within

-- the tills are those of their days
pub same_numbers : (days : List TillDay) → map (λ (t : TillReplies). t.till) (map told_in days) ≡
    map (λ (d : TillDay). d.till) days
same_numbers [] = refl
same_numbers (d ∷ days) = ap (λ (l : List ℕ). d.till ∷ l) (same_numbers days)
