-- The replies to a dialogue's commands, in the order of their lines and till by till.
use Rattle.std.proofs.Common.{◌≡◌, ◌∙◌, ◌⊎◌, inl, inr, ℕ, ◌+◌, ◌-◌, ◌==◌, Bool, true, false, List, [], ◌∷◌, length, map, refl}
use Rattle.std.proofs.Common.{ap, sym, subst, arith, Result}
use Rattle.std.specs.Int.{IsInRange}
use Rattle.std.specs.Prelude.{◌≢◌, ◌||◌, drop}
use Rattle.std.specs.List.{AllByRecursion, list_any, range_with_len}
use Rattle.std.proofs.lemmas.Bool.Decides.{eqb_tells, nat_tests}
use Rattle.std.proofs.lemmas.List.Folds.{list_any-append}
use Rattle.std.proofs.lemmas.List.FromFn.{get_or-range_with_len, length-range_with_len}
use Rattle.chain_store.specs.Replies.{Replies}
use Rattle.dialogue_loop.specs.InARow.{IsOfTill, replies_of}
use Rattle.journal.specs.declared.faults.StoreFault.{StoreFault}
use Rattle.record_codec.specs.declared.entry.Entry.{Entry}
use Rattle.record_codec.specs.declared.entry.TheConstants.{LAST_TILL}
use Rattle.shop_core.specs.Answer.Requests.{Asked}
use Rattle.shop_core.specs.declared.answer.Reply.{Reply}
use Rattle.sender_beside.specs.Days.{Day, TillReplies, all_replies}
use Rattle.sender_beside.specs.Tills.{AreTaken, TillServed, has_asks, own_of}
use Rattle.sender_session.proofs.Lists.{all_of_each, each_map}

-- a till that asks for nothing is told nothing
no_replies : (till : ℕ) (asks : List Asked) (replies : Replies) → has_asks asks till ≡ false → replies_of till asks replies ≡ []
no_replies till [] replies none = refl
no_replies till (ask ∷ asks) [] none = refl
no_replies till (ask ∷ asks) (told ∷ replies) none = by_test (ask.till == till) refl (no_replies till asks replies)
  where
    by_test : (b : Bool) → (ask.till == till) ≡ b → (has_asks asks till ≡ false → replies_of till asks replies ≡ []) →
        replies_of till (ask ∷ asks) (told ∷ replies) ≡ []
    by_test true e inner = absurd (let x = rw e at none in cc)
    by_test false e inner = rw e (inner (rw e at none))

or_true : (a b : Bool) → b ≡ true → (a || b) ≡ true
or_true true b e = refl
or_true false b e = e

true_or : (a b : Bool) → a ≡ true → (a || b) ≡ true
true_or true b e = refl
true_or false b e = absurd (let x = e in cc)

module _ (p : Result Reply StoreFault → Bool) where
  -- some till's reply
  record SomeTill (asks : List Asked) (replies : Replies) : Type 0 where
    till : ℕ
    range : IsInRange 1 LAST_TILL till
    some : list_any p (replies_of till asks replies) ≡ true

  first_of : (ask : Asked) (asks : List Asked) (told : Result Reply StoreFault) (replies : Replies) → p told ≡ true →
      list_any p (replies_of ask.till (ask ∷ asks) (told ∷ replies)) ≡ true
  first_of ask asks told replies is =
      let own : (ask.till == ask.till) ≡ true = grind (arith, nat_tests) in
      rw own (true_or (p told) (list_any p (replies_of ask.till asks replies)) is)

  later_of : (till : ℕ) (ask : Asked) (asks : List Asked) (told : Result Reply StoreFault) (replies : Replies) →
      list_any p (replies_of till asks replies) ≡ true → list_any p (replies_of till (ask ∷ asks) (told ∷ replies)) ≡ true
  later_of till ask asks told replies is = by_test (ask.till == till) refl
    where
      by_test : (b : Bool) → (ask.till == till) ≡ b → list_any p (replies_of till (ask ∷ asks) (told ∷ replies)) ≡ true
      by_test true e = rw e (or_true (p told) (list_any p (replies_of till asks replies)) is)
      by_test false e = rw e is

  some_till : (asks : List Asked) (replies : Replies) → length replies ≡ length asks → AllByRecursion IsOfTill asks →
      list_any p replies ≡ true → SomeTill asks replies
  some_till [] [] e h some = absurd (let x = some in cc)
  some_till [] (told ∷ replies) e h some = absurd (omega (arith, e))
  some_till (ask ∷ asks) [] e h some = absurd (omega (arith, e))
  some_till (ask ∷ asks) (told ∷ replies) e h some = by_test (p told) refl (λ rest. some_till asks replies (omega (arith, e)) h.1 rest)
    where
      by_test : (b : Bool) → p told ≡ b → (list_any p replies ≡ true → SomeTill asks replies) → SomeTill (ask ∷ asks) (told ∷ replies)
      by_test true is inner = record { till = ask.till; range = h.0; some = first_of ask asks told replies is }
      by_test false is inner =
          let more = inner (ap (λ (b : Bool). b || list_any p replies) (sym is) ∙ some) in
          record { till = more.till; range = more.range; some = later_of more.till ask asks told replies more.some }

  -- where it is one of these tills it is among all that they were told
  at_till : (asks : List Asked) (replies : Replies) (n : ℕ) (tills : List TillReplies) →
      AllByRecursion (λ (t : TillReplies). t.replies ≡ replies_of t.till asks replies) tills →
      list_any p (replies_of n asks replies) ≡ true →
      (list_any p (all_replies tills) ≡ true) ⊎ AllByRecursion (λ (t : TillReplies). t.till ≢ n) tills
  at_till asks replies n [] told some = inr tt
  at_till asks replies n (t ∷ tills) told some = elim (eqb_tells t.till n) [
    | inl same ↦
        (let own : list_any p t.replies ≡ true = ap (λ (rs : Replies). list_any p rs) told.0 ∙
        ap (λ (k : ℕ). list_any p (replies_of k asks replies)) same.1 ∙ some in
        inl (list_any-append p t.replies (all_replies tills) ∙ true_or (list_any p t.replies) (list_any p (all_replies tills)) own))
    | inr apart ↦ elim (at_till asks replies n tills told.1 some) [
      | inl is ↦ inl (list_any-append p t.replies (all_replies tills) ∙
          or_true (list_any p t.replies) (list_any p (all_replies tills)) is)
      | inr rest ↦ inr (apart.1, rest)
    ]
  ]

-- each number of a till is one of all
is_one : (n : ℕ) → IsInRange 1 LAST_TILL n → AllByRecursion (λ (m : ℕ). m ≢ n) (range_with_len 1 LAST_TILL) → ⊥
is_one n range none =
    let size = length-range_with_len 1 LAST_TILL in
    let at = get_or-range_with_len 1 LAST_TILL (n - 1) n (omega (arith, range)) in
    all_of_each (λ (m : ℕ). m ≢ n) (range_with_len 1 LAST_TILL) none (n - 1) n (omega (arith, size, range))
    (at ∙ (let e : 1 + (n - 1) ≡ n = omega (arith, range) in e))

-- what was told of some command was told some till
pub told_some : (p : Result Reply StoreFault → Bool) (asks : List Asked) (replies : Replies) (tills : List TillReplies) →
    length replies ≡ length asks → AllByRecursion IsOfTill asks → map (λ (t : TillReplies). t.till) tills ≡ range_with_len 1 LAST_TILL →
    AllByRecursion (λ (t : TillReplies). t.replies ≡ replies_of t.till asks replies) tills → list_any p replies ≡ true →
    list_any p (all_replies tills) ≡ true
told_some p asks replies tills even of_tills are told some =
    let one = some_till p asks replies even of_tills some in
    elim (at_till p asks replies one.till tills told one.some) [
      | inl is ↦ is
      | inr none ↦ absurd (is_one one.till one.range (subst (λ (l : List ℕ). AllByRecursion (λ (m : ℕ). m ≢ one.till) l) are
          (each_map (λ (t : TillReplies). t.till) (λ (m : ℕ). m ≢ one.till) tills none)))
    ]

-- a till that asked for nothing gained nothing, or is none of these
pub quiet : (d : Day) (asks : List Asked) (replies : Replies) (till : ℕ) (tills : List TillReplies) → has_asks asks till ≡ false →
    AllByRecursion (λ (t : TillReplies). t.replies ≡ replies_of t.till asks replies) tills → AllByRecursion (TillServed d) tills →
    (own_of till (drop (length d.start) d.end) ≡ []) ⊎ AllByRecursion (λ (t : TillReplies). t.till ≢ till) tills
quiet d asks replies till [] none told served = inr tt
quiet d asks replies till (t ∷ tills) none told served = elim (eqb_tells t.till till) [
  | inl same ↦
      (let gained : List Entry = drop (length d.start) d.end in
      let nothing : t.replies ≡ [] = told.0 ∙ ap (λ (k : ℕ). replies_of k asks replies) same.1 ∙ no_replies till asks replies none in
      let own : AreTaken [] (own_of t.till gained) = subst (λ (rs : Replies). AreTaken rs (own_of t.till gained)) nothing served.0.own in
      inl (ap (λ (k : ℕ). own_of k gained) (sym same.1) ∙ own))
  | inr apart ↦ elim (quiet d asks replies till tills none told.1 served.1) [
    | inl is ↦ inl is
    | inr rest ↦ inr (apart.1, rest)
  ]
]
