use Rattle.std.proofs.Common.{◌≡◌, ◌++◌, ◌∷◌, [], ◌==◌, ℕ, List, Result, true, sym, subst, arith}
use Rattle.std.proofs.lemmas.Bool.Decides.{nat_tests}
use Rattle.journal.specs.declared.faults.StoreFault.{StoreFault}
use Rattle.shop_core.specs.Answer.Requests.{Asked}
use Rattle.shop_core.specs.declared.answer.Reply.{Reply}
use Rattle.till_calls.specs.Client.{TillRun}
use Rattle.till_calls.specs.Client.TillRun.{asked}
use Rattle.till_calls.specs.Shop.{Asks, till_knows, till_number}
use Rattle.sender_beside.specs.Tills.{asks_of}
use Rattle.sender_beside.proofs.TillDays.{one_more}
use Rattle.shop_day.proofs.tills.ask_own.Goals as goal

pub returns-then-ask-number-clause-run : goal.returns-then-ask-number-clause-run
returns-then-ask-number-clause-run g c = λ before start run.
    let x = c.args.ask.now in
    let n = till_number c.args.till.now in
    let reply = c.ask-answer.result in
    let old = till_knows c.args.till.now in
    let new = till_knows c.ask-answer.new.till in
    let same : x.till ≡ n = (let t = c.if-ask-number.true in let k = c.number-number.ensures.number in
    grind (arith, nat_tests, t, k)) in
    let inside : Asked = record { till = c.ask.inside.till; serial = c.ask.inside.serial; request = c.ask.inside.request } in
    let is : inside ≡ x = (let v = c.ask.view_is in cc) in
    let told : Asks g.C.Clock.coming (record inside { till = n }) reply old new = c.ask-answer.ensures.asks in
    let ask : Asks g.C.Clock.coming x reply old new = subst (λ (k : ℕ). Asks g.C.Clock.coming (record x { till = k }) reply old
    new) (sym same) (subst (λ (y : Asked). Asks g.C.Clock.coming (record y { till = n }) reply old new) is told) in
    let next = asked (asks_of n before) c.args.answers.now.items old new x reply run ask in
    subst (λ (rs : List (Result Reply StoreFault)). TillRun g.C.Clock.coming start (asks_of n (before ++ x ∷ [])) rs new)
    (sym c.push_reserved.ensures.items)
    (subst (λ (q : List Asked). TillRun g.C.Clock.coming start q (c.args.answers.now.items ++ reply ∷ []) new)
    (one_more (λ (a : Asked). a.till == n) before x (let t : (x.till == n) ≡ true = grind (arith, nat_tests, same) in t))
    next)
