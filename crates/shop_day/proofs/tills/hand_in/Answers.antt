use Rattle.std.proofs.Common.{◌≡◌, ◌≤◌, ◌++◌, ◌∷◌, [], ◌+◌, List, ℕ, All, length, max, ap, sym, ◌∙◌, rules, append_assoc, arith}
use Rattle.std.proofs.Common.{subst}
use Rattle.chain_lock.specs.Known.{Known}
use Rattle.shop_core.specs.declared.items.Item.{Item}
use Rattle.till_calls.specs.Root.{Root}
use Rattle.std.proofs.lemmas.List.{length_push}
use Rattle.std.proofs.lemmas.List.Elements.{All-weaker}
use Rattle.till_calls.specs.Shop.{numbers, seat_knows, till_knows, till_number, till_shop, tills_know, tills_shop}
use Rattle.shop_day.specs.TillJobs.{day_of, job_knows}
use Rattle.shop_day.specs.declared.tills.TillJob.{TillJob}
use Rattle.shop_day.specs.declared.tills.TillDay.{TillDay}
use Rattle.shop_day.proofs.TillJobs.{all_front, take_back, told_more}
use Rattle.shop_day.proofs.tills.hand_in.Goals as goal

pub loop-job-preserved : goal.loop-job-preserved
loop-job-preserved g c =
    let v = c.loop-job.invariant in
    let job = c.in-Some.job in
    let out = v.back.0 in
    let last = c.in-Some.ensures.items in
    let day : TillDay = record { till = c.number-number.result; answers = job.answers; saw = job.saw } in
    let jobs : c.args.jobs.items ≡ c.pop.new.self.items ++ (job ∷ out) =
    v.back.1 ∙ ap (λ (l : List (TillJob g.row.D.Denot g.row.C.Denot)). l ++ out) last ∙ append_assoc c.pop.new.self.items (job ∷ [])
    out in
    let days = take_back day_of out job c.loop-job.days.items c.push_reserved.new.self.items day v.back.2
    c.push_reserved.ensures.items (ap (λ (n : ℕ). record day { till = n }) c.number-number.ensures.number) in
    let knows = take_back job_knows out job (tills_know c.loop-job.tills) (tills_know c.hand_back.new.self)
    (till_knows c.tell_seat.new.till) v.back.3 c.hand_back.ensures.knows c.tell_seat.ensures.knows in
    let raised = c.tell_seat.ensures.raised in
    let first = seat_knows c.args.seat.now in
    let old = seat_knows c.loop-job.seat in
    let new = seat_knows c.tell_seat.new.seat in
    let most = max old.least (till_knows job.till).least in
    let is : new.least ≡ most = ap (λ (k : Known Item (Root g.row.C.Denot)). k.least) raised in
    record {
      shop = c.hand_back.ensures.shop.0 ∙ v.shop;
      made = c.hand_back.ensures.shop.1 ∙ v.made;
      back = (job ∷ out, jobs, days, knows);
      space = search rules;
      count = (let e : length (numbers c.hand_back.new.self) ≡ length (numbers c.loop-job.tills) + 1 =
          ap (λ (l : List ℕ). length l) c.hand_back.ensures.numbers ∙ length_push (numbers c.loop-job.tills)
          (till_number c.tell_seat.new.till) in
          let m = v.count in let k = c.hand_back.ensures.shop.1 in search rules);
      seat = (
        c.tell_seat.ensures.shop ∙ v.seat.0,
        raised ∙ ap (λ (k : Known Item (Root g.row.C.Denot)). record k { least = most }) v.seat.1 ∙
            ap (λ (n : ℕ). record first { least = n }) (sym is),
      );
      told = subst (λ (ks : List (Known Item (Root g.row.C.Denot))). All (λ k. k.least ≤ new.least) ks)
          (sym c.hand_back.ensures.knows) (told_more old.least new.least (tills_know c.loop-job.tills)
          (till_knows c.tell_seat.new.till) (omega (arith, is))
          (let e = ap (λ (k : Known Item (Root g.row.C.Denot)). k.least) c.tell_seat.ensures.knows in omega (arith, is, e))
          v.told);
      own = All-weaker (λ (j : TillJob g.row.D.Denot g.row.C.Denot). till_shop j.till ≡ tills_shop c.loop-job.tills)
          (λ (j : TillJob g.row.D.Denot g.row.C.Denot). till_shop j.till ≡ tills_shop c.hand_back.new.self)
          (λ j e. e ∙ sym c.hand_back.ensures.shop.0) c.pop.new.self.items
          (all_front (λ (j : TillJob g.row.D.Denot g.row.C.Denot). till_shop j.till ≡ tills_shop c.loop-job.tills)
          c.loop-job.jobs.items c.pop.new.self.items job last v.own);
    }
