use Rattle.std.proofs.Common.{◌≡◌, ℕ, ◌+◌, ◌==◌, List, ap, ◌∙◌, count_by, arith, rules}
use Rattle.std.proofs.lemmas.List.Sums.{sum_by_push}
use Rattle.chain_lock.specs.Known.{holders, times_held}
use Rattle.chain_lock.specs.Words.{all_known, known}
use Rattle.base_tests.proofs.chain_lock_tests.three_threads.Goals as goal

-- the numbers that went out with three passes are those that came back with them
pub close-ledger-requires-clause-whole : goal.close-ledger-requires-clause-whole
close-ledger-requires-clause-whole g c = λ n l.
    let times : List ℕ → ℕ = λ ns. count_by (λ m. m == n) ns in
    let first = ap times c.join-a.ensures.first.1 in let second = ap times c.join-a.ensures.second.1.0 in
    let third = ap times c.join-a.ensures.second.1.1 in
    let raised = ap (λ k. times k.numbers) c.glance-last.ensures.raised in
    let a_out : holders n (all_known c.in_ok-lock.passes) ≡ holders n (all_known c.pull.new.self) + times_held n
    (known c.in-Some.a) = ap (holders n) c.in-Some.ensures.some ∙ sum_by_push (times_held n) (all_known c.pull.new.self)
    (known c.in-Some.a) in
    let b_out : holders n (all_known c.pull.new.self) ≡ holders n (all_known c.pull-2.new.self) + times_held n
    (known c.in-Some-pull.b) = ap (holders n) c.in-Some-pull.ensures.some ∙ sum_by_push (times_held n)
    (all_known c.pull-2.new.self) (known c.in-Some-pull.b) in
    let c_out : holders n (all_known c.pull-2.new.self) ≡ holders n (all_known c.pull-3.new.self) + times_held n
    (known c.in-Some-pull-2.c) = ap (holders n) c.in-Some-pull-2.ensures.some ∙ sum_by_push (times_held n)
    (all_known c.pull-3.new.self) (known c.in-Some-pull-2.c) in
    let a_back : holders n (all_known c.hand_back.new.self) ≡ holders n (all_known c.pull-3.new.self) + times_held n
    (known c.join-a.result.0.0) = ap (holders n) c.hand_back.ensures.passes ∙ sum_by_push (times_held n)
    (all_known c.pull-3.new.self) (known c.join-a.result.0.0) in
    let c_back : holders n (all_known c.hand_back-2.new.self) ≡ holders n (all_known c.hand_back.new.self) + times_held n
    (known c.glance-last.new.pass) = ap (holders n) c.hand_back-2.ensures.passes ∙ sum_by_push (times_held n)
    (all_known c.hand_back.new.self) (known c.glance-last.new.pass) in
    let b_back : holders n (all_known c.hand_back-3.new.self) ≡ holders n (all_known c.hand_back-2.new.self) + times_held n
    (known c.join-a.result.1.0.0) = ap (holders n) c.hand_back-3.ensures.passes ∙ sum_by_push (times_held n)
    (all_known c.hand_back-2.new.self) (known c.join-a.result.1.0.0) in
    let whole = c.in_ok-lock.ensures.whole n (search rules) in omega arith
