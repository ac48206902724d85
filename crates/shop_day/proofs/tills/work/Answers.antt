use Rattle.std.proofs.Common.{◌==◌, ◌+◌, ◌≤◌, ◌∷◌, [], ℕ, List, Result, length, take, ap, sym, subst, refl, arith, vec_capacity}
use Rattle.journal.specs.declared.faults.StoreFault.{StoreFault}
use Rattle.shop_core.specs.Answer.Requests.{Asked}
use Rattle.shop_core.specs.declared.answer.Reply.{Reply}
use Rattle.till_calls.specs.Client.{TillRun}
use Rattle.till_calls.specs.Client.TillRun.{begun}
use Rattle.till_calls.specs.Shop.{till_knows, till_number}
use Rattle.sender_beside.specs.Tills.{asks_of}
use Rattle.sender_beside.proofs.TillDays.{filter_room}
use Rattle.shop_day.proofs.tills.work.Goals as goal

pub loop-ask-init : goal.loop-ask-init
loop-ask-init g c = record {
  shop = refl;
  number = refl;
  run = subst (λ (rs : List (Result Reply StoreFault)). TillRun g.C.Clock.coming (till_knows c.args.job.now.till) [] rs
      (till_knows c.args.job.now.till)) (sym c.requires.room.1) begun;
  room = c.requires.room.0;
  count = ap (λ (rs : List (Result Reply StoreFault)). length rs) c.requires.room.1;
}

pub ask_own-requires-clause-room : goal.ask_own-requires-clause-room
ask_own-requires-clause-room g c =
    let v = c.loop-ask.invariant in
    let x = c.ask-item.result in
    let fits : length (asks_of (till_number c.args.job.now.till) (take c.loop-ask.ask-index c.args.asks.now)) + length
    (asks_of (till_number c.args.job.now.till) (x ∷ [])) ≤ length (asks_of (till_number c.args.job.now.till) c.args.asks.now) =
    filter_room (λ (a : Asked). a.till == till_number c.args.job.now.till) c.args.asks.now c.loop-ask.ask-index x c.loop-ask-test.true
    c.ask-item.is in
    subst (λ (n : ℕ). length c.loop-ask.job.answers.items + length (asks_of n (x ∷ [])) ≤ vec_capacity c.loop-ask.job.answers)
    (sym v.number) (let a = v.count in let b = v.room in omega (arith, fits, a, b))
