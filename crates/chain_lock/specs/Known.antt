-- What a pass knows of the list that the value records, and what holds of it.
use Rattle.std.specs.Prelude.{◌≡◌, ℕ, ◌≤◌, ◌<◌, ◌==◌, List, [], ◌++◌, length, sum_by, count_by, Option, Some, All, slice_get}
use Rattle.std.specs.List.{enumerate_from}
use Rattle.chain_lock.specs.Lists.{StartsWith}

pub record Known (I R : Type 0) : Type 0 where
  -- its share of the numbers below the count of passes that were made
  pub numbers : List ℕ
  -- the list as it was at opening, or as the last turn of this pass left it
  pub seen : List I
  -- the list has at least this many items
  pub least : ℕ
  -- what this pass added, each item with its place in the list
  pub own : List (ℕ × I)
  -- what no act changes
  pub root : Option R

module _ {I R : Type 0} where
  -- how often a pass holds the number n
  abbrev pub times_held : ℕ → Known I R → ℕ
  times_held n k = count_by (λ m. m == n) k.numbers

  -- how often passes hold it
  abbrev pub holders : ℕ → List (Known I R) → ℕ
  holders n ks = sum_by (times_held n) ks

  -- how often a pass owns the item at the place n
  abbrev pub times_owned : ℕ → Known I R → ℕ
  times_owned n k = count_by (λ x. x.0 == n) k.own

  -- how often passes own it
  abbrev pub owners : ℕ → List (Known I R) → ℕ
  owners n ks = sum_by (times_owned n) ks

  -- all that a pass owns stands before this place
  abbrev pub OwnsBelow : ℕ → Known I R → Type 0
  OwnsBelow n k = All (λ x. x.0 < n) k.own

  -- a pass knows of as many items as it has seen, or of more
  abbrev pub KnowsOfSeen : Known I R → Type 0
  KnowsOfSeen k = length k.seen ≤ k.least

  -- a pass that has taken no turn yet
  pub record IsNew (items : List I) (root : R) (k : Known I R) : Type 0 where
    pub seen : k.seen ≡ items
    pub least : k.least ≡ length items
    pub own : k.own ≡ []
    pub root_is : k.root ≡ Some root

  -- One turn. Its act found the list `before`, which goes on from all that the pass knew, and `relates` holds of the root, of
  -- `before` and of the list afterwards.
  -- The pass has then seen the list afterwards, and owns what was added
  pub record Turns (relates : R → List I → List I → Type 0) (old new : Known I R) : Type 0 where
    pub before : List I
    pub added : List I
    pub home : R
    pub root : old.root ≡ Some home
    pub begins : StartsWith before old.seen
    pub at_least : old.least ≤ length before
    pub at_most_one : length added ≤ 1
    pub related : relates home before (before ++ added)
    pub after : new ≡ record old {
      seen = before ++ added;
      least = length (before ++ added);
      own = old.own ++ enumerate_from (length before) added;
    }

  -- the list goes on from all that the pass knew, and has its own items at their places
  pub record Fits (log : List I) (k : Known I R) : Type 0 where
    pub begins : StartsWith log k.seen
    pub at_least : k.least ≤ length log
    pub own : All (λ x. slice_get log x.0 ≡ Some x.1) k.own
