-- Each step keeps the rule of the lock's table.
use Rattle.std.proofs.Common.{◌≡◌, ◌≢◌, ℕ, zero, suc, ◌+◌, ◌%◌, ◌^◌, ◌<◌, ◌≤◌, true, false, List, [], ◌∷◌, ◌++◌, length, set}
use Rattle.std.proofs.Common.{get_or, take, drop, Option, Some, refl, ap, sym, ◌∙◌, subst, ⊎_elim, inl, inr, arith, length-append}
use Rattle.std.proofs.lemmas.List.{append-nil}
use mathlib.Core.Logic.{dite}
use mathlib.Core.Option.{some, none, some-injective, some-ne-none}
use mathlib.Core.Option as maybe
use native.Mathlib.Decide.{ℕ_discrete, dec_le}
use lib.ListN.{get_elem?}
use lib.Seq.{set-get_or}
use Rattle.atomic_table.specs.Table.{State, Me, keeps, takes, gives, step, stepped, homes_after, put_back, rest, Allows, Splits}
use Rattle.atomic_table.specs.Table.{Joins, opening, Final, Seen}
use Rattle.atomic_table.proofs.Lists.{at_set, set_else, at_snoc, at_longer}
use Rattle.chain_lock.specs.declared.view.View.{View}
use Rattle.chain_lock.specs.Lists.{MayAdd, StartsWith, times, placed, total}
use Rattle.chain_lock.specs.Rule.{first_view, Knows, KeptByLock, glanced, tried, marked, freed, with_turn, with_added, split_left}
use Rattle.chain_lock.specs.Rule.{split_right, joined, note_of, raised, spent_view, known_of, Counted, FitsAll, HasTurn}
use Rattle.chain_lock.specs.Known.{Fits, Turns}
use Rattle.chain_lock.proofs.Lists.{total_set, total_snoc, total_two, total_only, times_append, times_cut, placed_append}
use Rattle.chain_lock.proofs.Lists.{placed_one, no_times, times_up, set_at, not_true, true_false, cut_lengths, starts_self}
use Rattle.chain_lock.proofs.Lists.{starts_trans, starts_length, each_trans, each_append, get_here, stand_starts, each_split}
use Rattle.chain_lock.proofs.Lists.{each_all}

module _ {I R : Type 0} where
  -- what a pass knows stays true where the list goes on and the turn is as it should be
  pub knows_longer : (home : R) (log log' : List I) (turn turn' holder holder' j : ℕ) (d : View I R) → StartsWith log' log →
      (d.turning ≡ true → (turn' ≡ 1) × (j ≡ holder') × (log' ≡ d.seen))
      → Knows log home turn holder j d → Knows log' home turn' holder' j d
  knows_longer home log log' turn turn' holder holder' j d on turns k = let l = starts_length log' log on in
      let least = k.least in record {
        seen = starts_trans log' log d.seen on k.seen;
        met = each_trans log' log d.met on k.met;
        least = (least.0, omega arith);
        root = k.root;
        spent = k.spent;
        turns = turns;
        stand = stand_starts log' log d.own on k.stand;
      }

  -- the holder is there with the turn after a change of a view that keeps its turn
  pub still_there : (vs : List (View I R)) (id holder : ℕ) (v w : View I R) → get_elem? vs id ≡ some v → w.turning ≡ v.turning →
      ((d : View I R) × (get_elem? vs holder ≡ some d) × (d.turning ≡ true))
      → (d : View I R) × (get_elem? (set vs id w) holder ≡ some d) × (d.turning ≡ true)
  still_there vs id holder v w at same (d, there, turns) = dite (ℕ_discrete holder id)
      (λ e. let same_view : v ≡ d = some-injective v d (sym at ∙ subst (λ (k : ℕ). get_elem? vs k ≡ some d) e there) in (
        w,
        subst (λ (k : ℕ). get_elem? (set vs id w) k ≡ some w) (sym e) (set_at vs id v w at),
        same ∙
            (ap (λ (z : View I R). z.turning) same_view ∙ turns),
      ))
      (λ ne. (d, set_else vs id holder w ne ∙ there, turns))

  pub fits_joined : (log : List I) (d e : View I R) → FitsAll log (joined d e) → FitsAll log d × FitsAll log e
  fits_joined log d e (seen, met, least, stand) = let m = each_split _ d.met (e.seen ∷ e.met) met in
      let o = each_split _ d.own e.own stand in
      ((seen, m.0, omega arith, o.0), (m.1.0, m.1.1, omega arith, o.1))

  -- what is known of the list at the end, where one pass has all numbers
  pub record Ends (base log : List I) (d : View I R) : Type 0 where
    pub begins : StartsWith log base
    pub fits : FitsAll log d
    pub before : (k : ℕ) → k < length base → placed k d.own ≡ 0
    pub since : (k : ℕ) → length base ≤ k → k < length log → placed k d.own ≡ 1

  pub fits_known : (log : List I) (d : View I R) → FitsAll log d → Fits log (known_of d)
  fits_known log d (seen, met, least, stand) = record { begins = seen; at_least = least; own = each_all _ d.own stand }

  -- to add nothing changes nothing, where the pass has seen all that it knows of
  adds_none : (d : View I R) → d.least ≡ length d.seen → d ≡ with_added d []
  adds_none d least = let seen : d.seen ≡ d.seen ++ [] = sym (append-nil d.seen) in let own : d.own ≡ d.own ++ [] =
      sym (append-nil d.own) in
      let long : d.least ≡ length (d.seen ++ []) = least ∙ ap length seen in λ i. record d {
        seen = seen i;
        own = own i;
        least = long i;
      }

  pub counts_none : (d : View I R) (after : List I) → d.least ≡ length d.seen → MayAdd d.seen after → length after ≡ length d.seen
      → Counted d after d
  counts_none d after least (inl e) same = ([], omega arith, e ∙ sym (append-nil d.seen), adds_none d least)
  counts_none d after least (inr (x, e)) same = absurd (omega (arith, ap length e, length-append d.seen (x ∷ [])))

-- the pass got the turn, counted what its act added, and gave the turn back
pub turned : {V I R : Type 0} (items : V → List I) (root : V → R) (P : R → List I → List I → Type 0) (d t e w f : View I R)
    (y : V) (m : Me (Option V) (View I R)) (after : List I) → HasTurn items root d y m → t ≡ m.0
    → Counted t after e → w ≡ e → f ≡ record w { turning = false } → P (root y) (items y) after →
    Turns P (known_of d) (known_of f)
turned items root P d t e w f y m after turn taken counted put freed related =
    let (added, short, list, view) : Counted (with_turn d (items y)) after e = subst (λ (z : View _ _). Counted z after e)
    (taken ∙ turn.view) counted in record {
      before = items y;
      added = added;
      home = root y;
      root = turn.root_is;
      begins = turn.begins;
      at_least = turn.at_least;
      at_most_one = short;
      related = subst (P (root y) (items y)) list related;
      after = ap known_of freed ∙ ap (λ (z : View _ _). known_of (record z { turning = false })) (put ∙ view);
    }

module _ {V I R : Type 0} (items : V → List I) (root : V → R) (base : List I) (home : R) (count : ℕ) where
  abbrev D : Type 0
  D = View I R

  abbrev St : Type 0
  St = State (Option V) D

  abbrev M : Type 0
  M = Me (Option V) D

  abbrev Homes : Type 0
  Homes = List (maybe.Option (Option V))

  abbrev Rule : St → Type 0
  Rule = KeptByLock items root base home count

  abbrev Numbers : ℕ → List D → ℕ
  Numbers k vs = total (λ (d : D). times k d.numbers) vs

  abbrev Places : ℕ → List D → ℕ
  Places k vs = total (λ (d : D). placed k d.own) vs

  -- only the views change, and what they have in all stays
  seats_change : (s : St) (r : Rule s) (views' : List D) → ((j : ℕ) (d : D) → get_elem? views' j ≡ some d →
      Knows r.log home r.turn r.holder j d)
      → (((d : D) × (get_elem? s.views r.holder ≡ some d) × (d.turning ≡ true)) → (d : D) × (get_elem? views' r.holder ≡ some d) ×
      (d.turning ≡ true))
      → ((k : ℕ) → Numbers k views' ≡ Numbers k s.views) → ((k : ℕ) → Places k views' ≡ Places k s.views) →
      Rule record { words = s.words; homes = s.homes; views = views' }
  seats_change s r views' each there nums places = record {
    log = r.log;
    turn = r.turn;
    holder = r.holder;
    words = r.words;
    at_home = r.at_home;
    away = λ z. let a = r.away z in (a.0, a.1, there a.2);
    begins = r.begins;
    each = each;
    numbers = λ k. let a = r.numbers k in let e = nums k in ((λ l. e ∙ a.0 l), (λ l. e ∙ a.1 l));
    places = λ k. let a = r.places k in let e = places k in ((λ l. e ∙ a.0 l), (λ l m. e ∙ a.1 l m), (λ l. e ∙ a.2 l));
  }

  each_set : (K : ℕ → D → Type 0) (vs : List D) (id : ℕ) (w : D) → K id w → ((j : ℕ) (d : D) → j ≢ id → get_elem? vs j ≡ some d →
      K j d)
      → (j : ℕ) (d : D) → get_elem? (set vs id w) j ≡ some d → K j d
  each_set K vs id w mine others j d e = ⊎_elim (λ (t : (j ≡ id) × (w ≡ d)). subst (λ (x : ℕ × D). K x.0 x.1)
      (λ i. (sym t.0 i, t.1 i)) mine)
      (λ (t : (j ≢ id) × (get_elem? vs j ≡ some d)). others j d t.0 t.1) (at_set vs id j w d e)

  -- a load, after which the pass has the same numbers and items
  load_keeps : (s : St) (r : Rule s) (i id : ℕ) (cs : List (ℕ × Option V)) (v w : D) → get_elem? s.views id ≡ some v →
      w.turning ≡ v.turning → w.numbers ≡ v.numbers → w.own ≡ v.own
      → Knows r.log home r.turn r.holder id w → Rule (stepped s i (get_or s.words i 0) id cs w keeps)
  load_keeps s r i id cs v w at same nums own known = subst (λ (ws : List ℕ). Rule record {
    words = ws;
    homes = s.homes;
    views = set s.views id w;
  }) (sym (set-get_or s.words i 0))
      (seats_change s r (set s.views id w) (each_set (Knows r.log home r.turn r.holder) s.views id w known (λ j d _. r.each j d))
      (still_there s.views id r.holder v w at same)
      (λ k. let a = total_set (λ (d : D). times k d.numbers) s.views id v w at in let b : times k w.numbers ≡ times k v.numbers =
      ap (times k) nums in omega arith)
      (λ k. let a = total_set (λ (d : D). placed k d.own) s.views id v w at in let b : placed k w.own ≡ placed k v.own =
      ap (placed k) own in omega arith))

  pub glances : (slots id : ℕ) (m : M) → Allows Rule slots id m 0 (λ n. n) (glanced (step slots 0 0 0 none) m)
  glances slots id m s r _ at small = let v : D = m.0 in let k = r.each id v at in let n : ℕ = get_or s.words 0 0 in
      let is : n ≡ length r.log = ap (λ (ws : List ℕ). get_or ws 0 0) r.words in
      let w : D = record v { least = n } in let least = k.least in (
        w,
        keeps,
        tt,
        load_keeps s r 0 id m.1 v w at refl refl refl (record {
          seen = k.seen;
          met = k.met;
          least = (omega arith, omega arith);
          root = k.root;
          spent = k.spent;
          turns = k.turns;
          stand = k.stand;
        }),
        (omega arith, refl, refl),
      )

  -- a step of the pass that has the turn, or gets it: no other turns
  acted : (s : St) (r : Rule s) (log' : List I) (turn' id : ℕ) (homes' : Homes) (v w : D) → get_elem? s.views id ≡ some v →
      StartsWith log' r.log
      → (turn' ≡ 0 → (y : V) × (homes' ≡ some (Some y) ∷ []) × (items y ≡ log') × (root y ≡ home)) →
      (turn' ≢ 0 → (turn' ≡ 1) × (homes' ≡ none ∷ []) × (w.turning ≡ true))
      → Knows log' home turn' id id w → ((j : ℕ) (d : D) → j ≢ id → get_elem? s.views j ≡ some d → d.turning ≡ false) →
      w.numbers ≡ v.numbers
      → ((k : ℕ) → (length r.log ≤ k → k < length log' → placed k w.own ≡ placed k v.own + 1) ×
      (k < length r.log → placed k w.own ≡ placed k v.own) × (length log' ≤ k → placed k w.own ≡ placed k v.own))
      → Rule record { words = length log' ∷ turn' ∷ []; homes = homes'; views = set s.views id w }
  acted s r log' turn' id homes' v w at on at_home away known idle nums own = record {
    log = log';
    turn = turn';
    holder = id;
    words = refl;
    at_home = at_home;
    away = λ z. let a = away z in (a.0, a.1, (w, set_at s.views id v w at, a.2));
    begins = starts_trans log' r.log base on r.begins;
    each = each_set (Knows log' home turn' id) s.views id w known
        (λ j d ne there. knows_longer home r.log log' r.turn turn' r.holder id j d on
        (λ turns. absurd (true_false d.turning turns (idle j d ne there))) (r.each j d there));
    numbers = λ k. let a = r.numbers k in let t = total_set (λ (d : D). times k d.numbers) s.views id v w at in
        let e : times k w.numbers ≡ times k v.numbers = ap (times k) nums in
        ((λ l. let b = a.0 l in omega arith), (λ l. let b = a.1 l in omega arith));
    places = λ k. let a = r.places k in let a₀ = a.0 in let a₁ = a.1 in let a₂ = a.2 in
        let t = total_set (λ (d : D). placed k d.own) s.views id v w at in
        let o = own k in let o₀ = o.0 in let o₁ = o.1 in let o₂ = o.2 in let l₁ = starts_length r.log base r.begins in
        let l₂ = starts_length log' r.log on in
        ((λ l. grind arith), (λ l m. grind arith), (λ l. grind arith));
  }

  -- while nobody has the turn
  none_turns : (s : St) (r : Rule s) → r.turn ≡ 0 → (j : ℕ) (d : D) → get_elem? s.views j ≡ some d → d.turning ≡ false
  none_turns s r free j d there = not_true d.turning (λ turns. let t = (r.each j d there).turns turns in let t₀ = t.0 in
      absurd (omega arith))

  -- while this pass has it
  others_idle : (s : St) (r : Rule s) (id : ℕ) → id ≡ r.holder → (j : ℕ) (d : D) → j ≢ id → get_elem? s.views j ≡ some d →
      d.turning ≡ false
  others_idle s r id holds j d ne there = not_true d.turning (λ turns. ne (((r.each j d there).turns turns).1 ∙ sym holds))

  turn_taken : (log list : List I) (id turn holder : ℕ) (v : D) → list ≡ log → Knows log home turn holder id v →
      0 < length v.numbers → Knows log home 1 id id (with_turn v list)
  turn_taken log list id turn holder v e k some_left = record {
    seen = ([], sym (append-nil list ∙ e));
    met = k.met;
    least = (omega arith, omega (arith, ap length e));
    root = k.root;
    spent = λ z. absurd (omega arith);
    turns = λ _. (refl, refl, sym e);
    stand = k.stand;
  }

  pub tries : (slots id : ℕ) (m : M) → m.1 ≡ [] → 0 < length m.0.numbers → Allows Rule slots id m 1 (λ _. 1)
      (tried items root (step slots 1 1 0 none) m)
  tries slots id m bare some_left s r _ at small = let v : D = m.0 in let k = r.each id v at in let n : ℕ = get_or s.words 1 0 in
      let is : n ≡ r.turn = ap (λ (ws : List ℕ). get_or ws 1 0) r.words in
      dite (ℕ_discrete r.turn 0)
      (λ free. let (y, homes, list, root_is) = r.at_home free in let w : D = with_turn v (items y) in
      let words' : set s.words 1 1 ≡ length r.log ∷ 1 ∷ [] = ap (λ (ws : List ℕ). set ws 1 1) r.words in
      let homes' : set s.homes 0 none ≡ none ∷ [] = ap (λ (hs : Homes). set hs 0 none) homes in (
        w,
        takes 0 (Some y),
        ap (λ (hs : Homes). get_elem? hs 0) homes,
        subst (λ (z : List ℕ × Homes). Rule record { words = z.0; homes = z.1; views = set s.views id w })
            (λ i. (sym words' i, sym homes' i))
            (acted s r r.log 1 id (none ∷ []) v w at (starts_self r.log) (λ z. absurd (omega arith)) (λ _. (refl, refl, refl))
            (turn_taken r.log (items y) id r.turn r.holder v list k some_left)
            (λ j d _ there. none_turns s r free j d there) refl (λ _. ((λ a b. absurd (omega arith)), (λ _. refl), (λ _. refl)))),
        (
          (λ ne. absurd (ne (is ∙ free))),
          (λ _. (
            y,
            record {
              carried = ap (λ cs. (0, Some y) ∷ cs) bare;
              root_is = k.root some_left ∙ ap (λ (h : R). Some h) (sym root_is);
              begins = subst (λ (l : List I). StartsWith l v.seen) (sym list) k.seen;
              at_least = subst (λ (l : List I). v.least ≤ length l) (sym list) k.least.1;
              view = refl;
            },
          )),
        ),
      ))
      (λ busy. let one : n ≡ 1 = is ∙ (r.away busy).0 in (
        v,
        keeps,
        tt,
        subst (λ (x : ℕ). Rule (stepped s 1 x id m.1 v keeps)) one (load_keeps s r 1 id m.1 v v at refl refl refl k),
        ((λ _. refl), (λ z. absurd (omega arith))),
      ))

  pub marks : (slots id : ℕ) (m : M) (x : I) → m.0.turning ≡ true → length m.0.seen + 1 < 2 ^ 64 →
      Allows Rule slots id m 0 (λ n. (n + 1) % 2 ^ 64) (marked (x ∷ []) (step slots 0 1 0 none) m)
  marks slots id m x turning room s r _ at small =
      let v : D = m.0 in let k = r.each id v at in let t = k.turns turning in let log' : List I = v.seen ++ x ∷ [] in
      let w : D = with_added v (x ∷ []) in
      let len : length r.log ≡ length v.seen = ap length t.2 in let len' : length log' ≡ length v.seen + 1 = length-append v.seen
      (x ∷ []) in
      let on : StartsWith log' r.log = (x ∷ [], ap (λ (l : List I). l ++ x ∷ []) (sym t.2)) in let busy : r.turn ≢ 0 =
      (λ z. let t₀ = t.0 in omega arith) in
      let next : (length r.log + 1) % 2 ^ 64 ≡ length log' = omega arith in
      let words' : set s.words 0 ((get_or s.words 0 0 + 1) % 2 ^ 64) ≡ length log' ∷ 1 ∷ [] =
      ap (λ (ws : List ℕ). set ws 0 ((get_or ws 0 0 + 1) % 2 ^ 64)) r.words ∙ (λ i. next i ∷ t.0 i ∷ []) in
      let known : Knows log' home 1 id id w = record {
        seen = starts_self log';
        met = each_trans log' r.log v.met on k.met;
        least = (omega arith, omega arith);
        root = k.root;
        spent = λ z. absurd (true_false v.turning turning (k.spent z).1);
        turns = λ _. (refl, refl, refl);
        stand = each_append _ v.own ((length v.seen, x) ∷ []) (stand_starts log' r.log v.own on k.stand) (
          get_here v.seen x [],
          tt,
        );
      } in
      let places' : (j : ℕ) → (length r.log ≤ j → j < length log' → placed j w.own ≡ placed j v.own + 1) ×
      (j < length r.log → placed j w.own ≡ placed j v.own) × (length log' ≤ j → placed j w.own ≡ placed j v.own) = λ j.
      let p = placed_append j v.own ((length v.seen, x) ∷ []) in let o = placed_one j (length v.seen) x in (
        (λ a b. let q = o.0 (omega arith) in omega arith),
        (λ a. let q = o.1 (λ e. omega arith) in omega arith),
        (λ a. let q = o.1 (λ e. omega arith) in omega arith),
      ) in (
        w,
        keeps,
        tt,
        subst (λ (ws : List ℕ). Rule record { words = ws; homes = s.homes; views = set s.views id w }) (sym words')
            (acted s r log' 1 id s.homes v w at on (λ z. absurd (omega arith)) (λ _. (refl, (r.away busy).1, turning)) known
            (others_idle s r id t.1) refl places'),
        (refl, refl),
      )

  pub marks_as : (slots id : ℕ) (m : M) (x : I) (added : List I) → added ≡ x ∷ [] → m.0.turning ≡ true →
      length m.0.seen + 1 < 2 ^ 64 → Allows Rule slots id m 0 (λ n. (n + 1) % 2 ^ 64) (marked added (step slots 0 1 0 none) m)
  marks_as slots id m x added is turning room = subst (λ (a : List I). Allows Rule slots id m 0 (λ n. (n + 1) % 2 ^ 64)
      (marked a (step slots 0 1 0 none) m)) (sym is) (marks slots id m x turning room)

  some_numbers : (v : D) (n : ℕ) → length v.numbers ≡ n → v.turning ≡ true → (length v.numbers ≡ 0 → (v.own ≡ []) ×
      (v.turning ≡ false)) → 0 < length v.numbers
  some_numbers v zero e turning spent = absurd (true_false v.turning turning (spent e).1)
  some_numbers v (suc n) e turning spent = omega arith

  each_one : (view : D) → Knows base home 0 0 0 view → (j : ℕ) (d : D) → get_elem? (view ∷ []) j ≡ some d →
      Knows base home 0 0 j d
  each_one view k zero d e = subst (λ (z : D). Knows base home 0 0 0 z) (some-injective view d e) k
  each_one view k (suc j) d e = absurd (some-ne-none d (sym e))

  pub frees : (slots id : ℕ) (m : M) (y : V) → m.0.turning ≡ true → m.1 ≡ (0, Some y) ∷ [] → items y ≡ m.0.seen →
      m.0.root ≡ Some (root y) → Allows Rule slots id m 1 (λ _. 0) (λ _. freed (step slots 1 0 0 none) m 0)
  frees slots id m y turning carried list root_is s r _ at small =
      let v : D = m.0 in let k = r.each id v at in let t = k.turns turning in let w : D = record v { turning = false } in
      let busy : r.turn ≢ 0 = (λ z. let t₀ = t.0 in omega arith) in
      let on : StartsWith v.seen r.log = ([], sym (append-nil r.log ∙ t.2)) in let len : length r.log ≡ length v.seen =
      ap length t.2 in let least = k.least in
      let words' : set s.words 1 0 ≡ length v.seen ∷ 0 ∷ [] = ap (λ (ws : List ℕ). set ws 1 0) r.words ∙
      (λ i. length (t.2 i) ∷ 0 ∷ []) in
      let homes' : homes_after s.homes m.1 gives ≡ some (Some y) ∷ [] = (λ i. put_back ((r.away busy).1 i) (carried i)) in
      let some_left : 0 < length v.numbers = some_numbers v (length v.numbers) refl turning k.spent in
      let known : Knows v.seen home 0 id id w = record {
        seen = starts_self v.seen;
        met = each_trans v.seen r.log v.met on k.met;
        least = (least.0, omega arith);
        root = k.root;
        spent = λ z. ((k.spent z).0, refl);
        turns = λ z. absurd cc;
        stand = stand_starts v.seen r.log v.own on k.stand;
      } in (
        w,
        gives,
        tt,
        subst (λ (z : List ℕ × Homes). Rule record { words = z.0; homes = z.1; views = set s.views id w })
            (λ i. (sym words' i, sym homes' i))
            (acted s r v.seen 0 id (some (Some y) ∷ []) v w at on (λ _. (y, refl, list, cc (k.root some_left, root_is)))
            (λ z. absurd (z refl)) known (others_idle s r id t.1) refl
            (λ j. ((λ a b. absurd (omega arith)), (λ _. refl), (λ _. refl)))),
        (ap (λ (cs : List (ℕ × Option V)). rest cs) carried, refl),
      )

  pub splits : (id : ℕ) (d : D) → d.turning ≡ false → 1 < length d.numbers → Splits Rule id d (split_left d) (split_right d)
  splits id d idle two s r at = let left : D = split_left d in let right : D = split_right d in let k = r.each id d at in
      let lens : (length (drop 1 d.numbers) + 1 ≡ length d.numbers) × (length (take 1 d.numbers) ≡ 1) = cut_lengths d.numbers two
      in let l₀ = lens.0 in let l₁ = lens.1 in
      let known : Knows r.log home r.turn r.holder id left = record {
        seen = k.seen;
        met = k.met;
        least = k.least;
        root = λ z. k.root (omega arith);
        spent = λ z. absurd (omega arith);
        turns = k.turns;
        stand = k.stand;
      } in
      let new : (j : ℕ) → Knows r.log home r.turn r.holder j right = λ j.
      record {
        seen = k.seen;
        met = tt;
        least = k.least;
        root = λ z. k.root (omega arith);
        spent = λ z. absurd (omega arith);
        turns = λ z. absurd cc;
        stand = tt;
      } in
      seats_change s r (set s.views id left ++ right ∷ [])
      (λ j e there. ⊎_elim (each_set (Knows r.log home r.turn r.holder) s.views id left known (λ i f _. r.each i f) j e)
      (λ (q : right ≡ e). subst (λ (z : D). Knows r.log home r.turn r.holder j z) q (new j)) (at_snoc (set s.views id left)
      right e j there))
      (λ h. let (e, there, turns) = still_there s.views id r.holder d left at refl h in
      (e, at_longer (set s.views id left) (right ∷ []) r.holder e there, turns))
      (λ j. let a = total_snoc (λ (d : D). times j d.numbers) (set s.views id left) right in
      let b = total_set (λ (d : D). times j d.numbers) s.views id d left at in let c = times_cut j d.numbers in omega arith)
      (λ j. let a = total_snoc (λ (d : D). placed j d.own) (set s.views id left) right in
      let b = total_set (λ (d : D). placed j d.own) s.views id d left at in omega arith)

  pub joins : (id other : ℕ) (d e : D) → d.turning ≡ false → e.turning ≡ false → 0 < length d.numbers →
      Joins Rule id d other e (joined d e) spent_view
  joins id other d e idle idle' some_left s r at ne at' = let both : D = joined d e in let vs : List D = set s.views id both in
      let there' : get_elem? s.views other ≡ some e = sym (set_else s.views id other both ne) ∙ at' in let k = r.each id d at in
      let k' = r.each other e there' in
      let least = k.least in let least' = k'.least in let len = length-append d.numbers e.numbers in
      let known : Knows r.log home r.turn r.holder id both = record {
        seen = k.seen;
        met = each_append _ d.met (e.seen ∷ e.met) k.met (k'.seen, k'.met);
        least = (omega arith, omega arith);
        root = λ _. k.root some_left;
        spent = λ z. absurd (omega arith);
        turns = k.turns;
        stand = each_append _ d.own e.own k.stand k'.stand;
      } in
      let gone : Knows r.log home r.turn r.holder other spent_view =
      record {
        seen = (r.log, refl);
        met = tt;
        least = (omega arith, omega arith);
        root = λ z. absurd (omega arith);
        spent = λ _. (refl, refl);
        turns = λ z. absurd cc;
        stand = tt;
      } in
      seats_change s r (set vs other spent_view)
      (each_set (Knows r.log home r.turn r.holder) vs other spent_view gone (λ i f _. each_set (Knows r.log home r.turn r.holder)
      s.views id both known (λ j g _. r.each j g) i f))
      (λ h. still_there vs other r.holder e spent_view at' (sym idle') (still_there s.views id r.holder d both at refl h))
      (λ j. let a = total_set (λ (d : D). times j d.numbers) vs other e spent_view at' in
      let b = total_set (λ (d : D). times j d.numbers) s.views id d both at in let c = times_append j d.numbers e.numbers in
      omega arith)
      (λ j. let a = total_set (λ (d : D). placed j d.own) vs other e spent_view at' in
      let b = total_set (λ (d : D). placed j d.own) s.views id d both at in let c = placed_append j d.own e.own in
      omega arith)

  -- a note of what a pass knows
  pub notes : (id : ℕ) (d : D) → Splits Rule id d d (note_of d)
  notes id d s r at = let note : D = note_of d in let k = r.each id d at in
      let new : (j : ℕ) → Knows r.log home r.turn r.holder j note = λ j.
      record {
        seen = k.seen;
        met = tt;
        least = k.least;
        root = λ z. absurd (omega arith);
        spent = λ _. (refl, refl);
        turns = λ z. absurd cc;
        stand = tt;
      } in
      seats_change s r (set s.views id d ++ note ∷ [])
      (λ j e there. ⊎_elim (each_set (Knows r.log home r.turn r.holder) s.views id d k (λ i f _. r.each i f) j e)
      (λ (q : note ≡ e). subst (λ (z : D). Knows r.log home r.turn r.holder j z) q (new j)) (at_snoc (set s.views id d) note e
      j there))
      (λ h. let (e, there, turns) = still_there s.views id r.holder d d at refl h in
      (e, at_longer (set s.views id d) (note ∷ []) r.holder e there, turns))
      (λ j. let a = total_snoc (λ (d : D). times j d.numbers) (set s.views id d) note in
      let b = total_set (λ (d : D). times j d.numbers) s.views id d d at in omega arith)
      (λ j. let a = total_snoc (λ (d : D). placed j d.own) (set s.views id d) note in
      let b = total_set (λ (d : D). placed j d.own) s.views id d d at in omega arith)

  -- a pass that takes a note in
  pub learns : (id other : ℕ) (d e : D) → e.turning ≡ false → e.numbers ≡ [] → e.own ≡ [] → Joins Rule id d other e (raised d e)
      spent_view
  learns id other d e idle spent bare s r at ne at' = let both : D = raised d e in let vs : List D = set s.views id both in
      let there' : get_elem? s.views other ≡ some e = sym (set_else s.views id other both ne) ∙ at' in let k = r.each id d at in
      let k' = r.each other e there' in
      let least = k.least in let least' = k'.least in
      let known : Knows r.log home r.turn r.holder id both = record {
        seen = k.seen;
        met = k.met;
        least = (omega arith, omega arith);
        root = k.root;
        spent = k.spent;
        turns = k.turns;
        stand = k.stand;
      } in
      let gone : Knows r.log home r.turn r.holder other spent_view =
      record {
        seen = (r.log, refl);
        met = tt;
        least = (omega arith, omega arith);
        root = λ z. absurd (omega arith);
        spent = λ _. (refl, refl);
        turns = λ z. absurd cc;
        stand = tt;
      } in
      seats_change s r (set vs other spent_view)
      (each_set (Knows r.log home r.turn r.holder) vs other spent_view gone (λ i f _. each_set (Knows r.log home r.turn r.holder)
      s.views id both known (λ j g _. r.each j g) i f))
      (λ h. still_there vs other r.holder e spent_view at' (sym idle) (still_there s.views id r.holder d both at refl h))
      (λ j. let a = total_set (λ (d : D). times j d.numbers) vs other e spent_view at' in
      let b = total_set (λ (d : D). times j d.numbers) s.views id d both at in let c = ap (times j) spent in omega arith)
      (λ j. let a = total_set (λ (d : D). placed j d.own) vs other e spent_view at' in
      let b = total_set (λ (d : D). placed j d.own) s.views id d both at in let c = ap (placed j) bare in omega arith)

  pub opens : (value : V) → 0 < count → items value ≡ base → root value ≡ home →
      Rule (opening (length base ∷ 0 ∷ []) (Some value ∷ []) (first_view base home count))
  opens value some_passes list root_is = let view : D = first_view base home count in record {
    log = base;
    turn = 0;
    holder = 0;
    words = refl;
    at_home = λ _. (value, refl, list, root_is);
    away = λ z. absurd (z refl);
    begins = starts_self base;
    each = each_one view (record {
      seen = starts_self base;
      met = tt;
      least = (omega arith, omega arith);
      root = λ _. refl;
      spent = λ _. (refl, refl);
      turns = λ z. absurd cc;
      stand = tt;
    });
    numbers = λ k. let t = times_up count 0 k in let t₀ = t.0 in let t₂ = t.2 in
        ((λ l. let a = t₀ (omega arith) (omega arith) in omega arith), (λ l. let a = t₂ (omega arith) in omega arith));
    places = λ k. ((λ _. refl), (λ a b. absurd (omega arith)), (λ _. refl));
  }

  pub closes : (id : ℕ) (v : D) (s : St) → Rule s → get_elem? s.views id ≡ some v → v.turning ≡ false → 0 < count →
      ((k : ℕ) → k < count → 0 < times k v.numbers)
      → (y : V) × (s.homes ≡ some (Some y) ∷ []) × (root y ≡ home) × Ends base (items y) v
  closes id v s r at idle some_passes all =
      let k = r.each id v at in
      let others : (j : ℕ) (w : D) → j ≢ id → get_elem? s.views j ≡ some w → length w.numbers ≡ 0 = λ j w ne there. no_times
      w.numbers
      (λ n. let t = total_two (λ (d : D). times n d.numbers) s.views id j v w ne at there in let a = r.numbers n in
      let a₀ = a.0 in let a₁ = a.1 in dite (dec_le count n)
      (λ past. let b = a₁ past in omega arith) (λ inside. let low : n < count = omega arith in let b = a₀ low in
      let c = all n low in omega arith)) in
      let free : r.turn ≡ 0 = dite (ℕ_discrete r.turn 0) (λ z. z) (λ busy. let (d, there, turns) = (r.away busy).2 in
      dite (ℕ_discrete r.holder id)
      (λ e. let same : v ≡ d = some-injective v d (sym at ∙ subst (λ (i : ℕ). get_elem? s.views i ≡ some d) e there) in
      absurd (true_false d.turning turns (ap (λ (z : D). z.turning) (sym same) ∙ idle)))
      (λ ne. absurd (true_false d.turning turns ((r.each r.holder d there).spent (others r.holder d ne there)).1))) in
      let (y, homes, list, root_is) = r.at_home free in
      let only : (n : ℕ) → total (λ (d : D). placed n d.own) s.views ≡ placed n v.own = λ n.
      total_only (λ (d : D). placed n d.own) s.views id v at (λ j w ne there. ap (placed n)
      ((r.each j w there).spent (others j w ne there)).0) in
      let ends : Ends base r.log v = record {
        begins = r.begins;
        fits = (k.seen, k.met, k.least.1, k.stand);
        before = λ n a. sym (only n) ∙ (r.places n).0 a;
        since = λ n a b. sym (only n) ∙ (r.places n).1 a b;
      } in (y, homes, root_is, subst (λ (l : List I). Ends base l v) (sym list) ends)

  pub finishes : (id : ℕ) (v : D) (ws : List ℕ) (xs : List (Option V)) (slot : Option V) → Final (Seen Rule id v) ws xs →
      v.turning ≡ false → 0 < count → ((k : ℕ) → k < count → 0 < times k v.numbers)
      → get_elem? xs 0 ≡ some slot → (y : V) × (slot ≡ Some y) × (root y ≡ home) × Ends base (items y) v
  finishes id v ws xs slot (s, (r, at), words, count_is, values) idle some_passes all there =
      let (y, homes, root_is, ends) = closes id v s r at idle some_passes all in
      let here : get_elem? xs 0 ≡ some (Some y) = values 0 (Some y) (ap (λ (hs : Homes). get_elem? hs 0) homes) in
      (y, some-injective slot (Some y) (sym there ∙ here), root_is, ends)

module _ {V I R : Type 0} (items : V → List I) (root : V → R) (count : ℕ) where
  -- the table as `new` lays it
  pub opens_as : (value said : V) (n : ℕ) (slots : List (Option V)) → 0 < count → said ≡ value → n ≡ length (items value) →
      slots ≡ Some value ∷ []
      → KeptByLock items root (items said) (root said) count (opening (n ∷ 0 ∷ []) slots (first_view (items said) (root said) count))
  opens_as value said n slots some_passes is len are =
      subst (λ (z : V × ℕ × List (Option V)). KeptByLock items root (items z.0) (root z.0) count
      (opening (z.1 ∷ 0 ∷ []) z.2 (first_view (items z.0) (root z.0) count)))
      (λ i. (sym is i, sym len i, sym are i)) (opens items root (items value) (root value) count value some_passes refl refl)
