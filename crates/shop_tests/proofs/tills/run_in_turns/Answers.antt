use Rattle.std.proofs.Common.{◌≡◌, ◌∷◌, [], ◌++◌, ◌<◌, ◌+◌, ℕ, List, ◌∙◌, ap, sym, subst, arith}
use Rattle.std.proofs.lemmas.List.Sums.{sum_by_push}
use Rattle.chain_lock.specs.Known.{Known, holders, times_held}
use Rattle.till_calls.specs.Shop.{seat_knows, till_knows, tills_know}
use Rattle.shop_tests.proofs.tills.run_in_turns.Goals as goal

held : {I R : Type 0} (n : ℕ) (r : List (Known I R)) (a b seat : Known I R) → holders n (((r ++ a ∷ []) ++ b ∷ []) ++ seat ∷ []) ≡
    holders n r + times_held n a + times_held n b + times_held n seat
held n r a b seat =
    let x = sum_by_push (times_held n) ((r ++ a ∷ []) ++ b ∷ []) seat in
    let y = sum_by_push (times_held n) (r ++ a ∷ []) b in
    let z = sum_by_push (times_held n) r a in
    omega (arith, x, y, z)

same_held : {I R : Type 0} (n : ℕ) (a c : Known I R) → c.numbers ≡ a.numbers → times_held n c ≡ times_held n a
same_held n a c e = ap (λ (ns : List ℕ). times_held n (record a { numbers = ns })) e

still_held : {I R : Type 0} (n : ℕ) (all m r back : List (Known I R)) (a b seat c d : Known I R) → all ≡ m ++ b ∷ [] →
    m ≡ r ++ a ∷ [] → back ≡ (r ++ c ∷ []) ++ d ∷ [] → c.numbers ≡ a.numbers → d.numbers ≡ b.numbers →
    holders n (all ++ seat ∷ []) ≡ 1 → 0 < holders n (back ++ seat ∷ [])
still_held {I} {R} n all m r back a b seat c d last before whole e f one =
    let is : all ≡ (r ++ a ∷ []) ++ b ∷ [] = last ∙ ap (λ (l : List (Known I R)). l ++ b ∷ []) before in
    let was = subst (λ (l : List (Known I R)). holders n (l ++ seat ∷ []) ≡ 1) is one in
    let p = same_held n a c e in
    let q = same_held n b d f in
    let x = held n r a b seat in
    let y = held n r c d seat in
    subst (λ (l : List (Known I R)). 0 < holders n (l ++ seat ∷ [])) (sym whole) (omega (arith, was, p, q, x, y))

pub close-requires-clause-whole : goal.close-requires-clause-whole
close-requires-clause-whole g c = λ n l.
    let s = c.in-Ok.started in
    let numbers_of = λ (k : Known _ _). k.numbers in
    still_held n (tills_know s.tills) (tills_know c.pull.new.self) (tills_know c.pull-2.new.self) _
    (till_knows c.in-Some-pull.one) (till_knows c.in-Some.two) (seat_knows s.seat) _ _
    c.in-Some.ensures.knows c.in-Some-pull.ensures.knows (c.hand_back-2.ensures.knows ∙
    ap (λ l. l ++ till_knows c.count_now-count.new.till ∷ []) c.hand_back.ensures.knows)
    (ap numbers_of c.ask-again.ensures.asks.after ∙ (ap numbers_of c.inform.ensures.knows ∙
    ap numbers_of c.ask-first.ensures.asks.after))
    (ap numbers_of c.count_now-count.ensures.raised ∙ (ap numbers_of c.ask-second.ensures.asks.after ∙
    (ap numbers_of c.look-looked.ensures.looks.sees.same ∙ (ap numbers_of c.inform.ensures.raised ∙
    (ap numbers_of c.count_now-behind.ensures.raised ∙ ap numbers_of c.count_now-before.ensures.raised)))))
    (c.in-Ok.ensures.whole n l)
