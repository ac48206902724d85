-- The rule of the lock's table, and what each step tells.
use Rattle.std.specs.Prelude.{◌≡◌, ◌≢◌, ℕ, ◌<◌, ◌≤◌, true, false, List, [], ◌∷◌, ◌++◌, length, take, drop, max, Option, Some}
use Rattle.std.specs.Prelude.{None}
use Rattle.std.specs.List.{enumerate_from}
use mathlib.Core.Option.{some, none}
use lib.ListN.{get_elem?}
use Rattle.atomic_table.specs.Table.{State, Me, Step}
use Rattle.chain_lock.specs.declared.view.View.{View}
use Rattle.chain_lock.specs.Lists.{EachOf, StartsWith, Stand, times, placed, total, up_from, larger}
use Rattle.chain_lock.specs.Known.{Known}

module _ {I R : Type 0} where
  abbrev pub first_view : List I → R → ℕ → View I R
  first_view items root count = record {
    turning = false;
    numbers = up_from 0 count;
    seen = items;
    met = [];
    least = length items;
    own = [];
    root = Some root;
  }

  -- what a view holds for its pass's caller
  abbrev pub known_of : View I R → Known I R
  known_of d = record { numbers = d.numbers; seen = d.seen; least = d.least; own = d.own; root = d.root }

  -- What the view with the number j says is true of the list, the root, the turn's word and the holder.
  -- A view that holds no number is of a pass that was joined into another
  pub record Knows (log : List I) (home : R) (turn holder j : ℕ) (d : View I R) : Type 0 where
    pub seen : StartsWith log d.seen
    pub met : EachOf (StartsWith log) d.met
    pub least : (length d.seen ≤ d.least) × (d.least ≤ length log)
    pub root : 0 < length d.numbers → d.root ≡ Some home
    pub spent : length d.numbers ≡ 0 → (d.own ≡ []) × (d.turning ≡ false)
    pub turns : d.turning ≡ true → (turn ≡ 1) × (j ≡ holder) × (log ≡ d.seen)
    pub stand : Stand log d.own

-- What holds between any two steps, of the list `base` and the root `home` at opening and the count of passes
pub record KeptByLock {V I R : Type 0} (items : V → List I) (root : V → R) (base : List I) (home : R) (count : ℕ)
    (s : State (Option V) (View I R)) : Type 0 where
  pub log : List I
  pub turn : ℕ
  pub holder : ℕ
  pub words : s.words ≡ length log ∷ turn ∷ []
  pub at_home : turn ≡ 0 → (y : V) × (s.homes ≡ some (Some y) ∷ []) × (items y ≡ log) × (root y ≡ home)
  pub away : turn ≢ 0 → (turn ≡ 1) × (s.homes ≡ none ∷ []) × ((d : View I R) × (get_elem? s.views holder ≡ some d) ×
      (d.turning ≡ true))
  pub begins : StartsWith log base
  pub each : (j : ℕ) (d : View I R) → get_elem? s.views j ≡ some d → Knows log home turn holder j d
  -- each number below the count is held once
  pub numbers : (k : ℕ) → (k < count → total (λ (d : View I R). times k d.numbers) s.views ≡ 1) ×
      (count ≤ k → total (λ (d : View I R). times k d.numbers) s.views ≡ 0)
  -- each place since opening is owned once, and no other
  pub places : (k : ℕ) → (k < length base → total (λ (d : View I R). placed k d.own) s.views ≡ 0) ×
      (length base ≤ k → k < length log → total (λ (d : View I R). placed k d.own) s.views ≡ 1) ×
      (length log ≤ k → total (λ (d : View I R). placed k d.own) s.views ≡ 0)

module _ {V I R : Type 0} where
  -- a pass between two calls: it is not spent, holds no slot, and knows of as many items as it has seen
  abbrev pub IsAtRest : Me (Option V) (View I R) → Type 0
  IsAtRest m = (m.1 ≡ []) × (m.0.turning ≡ false) × (0 < length m.0.numbers) × (length m.0.seen ≤ m.0.least)

  abbrev pub glanced : Step (Option V) → Me (Option V) (View I R) → ℕ → Me (Option V) (View I R) → Type 0
  glanced st m n m' = (m.0.least ≤ n) × (m'.0 ≡ record m.0 { least = n }) × (m'.1 ≡ m.1)

module _ {I R : Type 0} where
  -- the pass that has just got the turn
  abbrev pub with_turn : View I R → List I → View I R
  with_turn d log = record d { turning = true; seen = log; least = length log }

  -- it has added these items
  abbrev pub with_added : View I R → List I → View I R
  with_added d added = record d {
    seen = d.seen ++ added;
    own = d.own ++ enumerate_from (length d.seen) added;
    least = length (d.seen ++ added);
  }

  -- it has all but one of its numbers, and the new pass has that one
  abbrev pub split_left : View I R → View I R
  split_left d = record d { numbers = drop 1 d.numbers }

  abbrev pub split_right : View I R → View I R
  split_right d = record {
    turning = false;
    numbers = take 1 d.numbers;
    seen = d.seen;
    met = [];
    least = d.least;
    own = [];
    root = d.root;
  }

  abbrev pub joined : View I R → View I R → View I R
  joined d e = record d {
    numbers = d.numbers ++ e.numbers;
    met = d.met ++ (e.seen ∷ e.met);
    least = larger d.least e.least;
    own = d.own ++ e.own;
  }

  -- a pass's knowledge alone, without numbers and items
  abbrev pub note_of : View I R → View I R
  note_of d = record { turning = false; numbers = []; seen = d.seen; met = []; least = d.least; own = []; root = None }

  -- it knows of as many items as the note does
  abbrev pub raised : View I R → View I R → View I R
  raised d note = record d { least = max d.least note.least }

  abbrev pub spent_view : View I R
  spent_view = record { turning = false; numbers = []; seen = []; met = []; least = 0; own = []; root = None }

module _ {V I R : Type 0} (items : V → List I) (root : V → R) where
  -- The pass has the turn, and this value is out with it. What it knew is true of the value
  pub record HasTurn (d : View I R) (y : V) (m : Me (Option V) (View I R)) : Type 0 where
    pub carried : m.1 ≡ (0, Some y) ∷ []
    pub root_is : d.root ≡ Some (root y)
    pub begins : StartsWith (items y) d.seen
    pub at_least : d.least ≤ length (items y)
    pub view : m.0 ≡ with_turn d (items y)

  -- nothing, where another has the turn; or the turn, and the value
  abbrev pub tried : Step (Option V) → Me (Option V) (View I R) → ℕ → Me (Option V) (View I R) → Type 0
  tried st m n m' = (n ≢ 0 → m' ≡ m) × (n ≡ 0 → (y : V) × HasTurn m.0 y m')

module _ {V I R : Type 0} where
  abbrev pub marked : List I → Step (Option V) → Me (Option V) (View I R) → ℕ → Me (Option V) (View I R) → Type 0
  marked added st m n m' = (m'.1 ≡ m.1) × (m'.0 ≡ with_added m.0 added)

  abbrev pub freed : Step (Option V) → Me (Option V) (View I R) → ℕ → Me (Option V) (View I R) → Type 0
  freed st m n m' = (m'.1 ≡ []) × (m'.0 ≡ record m.0 { turning = false })

module _ {I R : Type 0} where
  -- the pass has counted what its act added
  abbrev pub Counted : View I R → List I → View I R → Type 0
  Counted d after e = (added : List I) × (length added ≤ 1) × (after ≡ d.seen ++ added) × (e ≡ with_added d added)

  -- the list is as all that was joined into the view knows it
  abbrev pub FitsAll : List I → View I R → Type 0
  FitsAll log d = StartsWith log d.seen × EachOf (StartsWith log) d.met × (d.least ≤ length log) × Stand log d.own
