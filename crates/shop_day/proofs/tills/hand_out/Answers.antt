use Rattle.std.proofs.Common.{◌≡◌, map, List, ℕ, ap, sym, ◌∙◌, refl, rules, subst, All}
use Rattle.std.proofs.lemmas.List.{map_push, same_from_push}
use Rattle.std.proofs.lemmas.List.Elements.{All-push}
use Rattle.till_calls.specs.Shop.{numbers, till_knows, till_number, till_shop, tills_know, tills_shop}
use Rattle.shop_day.specs.TillJobs.{day_of, job_knows}
use Rattle.shop_day.specs.declared.tills.TillJob.{TillJob}
use Rattle.shop_day.specs.declared.tills.TillDay.{TillDay}
use Rattle.shop_day.proofs.TillJobs.{put_back}
use Rattle.shop_day.proofs.tills.hand_out.Goals as goal

pub loop-day-preserved : goal.loop-day-preserved
loop-day-preserved g c =
    let v = c.loop-day.invariant in
    let day = c.in-Some.day in
    let till = c.in-Some-pull.till in
    let last = same_from_push (numbers c.pull.new.self) (map (λ (d : TillDay). d.till) c.pop.new.self.items) (till_number till)
    day.till
    (sym c.in-Some-pull.ensures.some ∙ v.numbers ∙ ap (λ (l : List TillDay). map (λ (d : TillDay). d.till) l)
    c.in-Some.ensures.items ∙ map_push (λ (d : TillDay). d.till) c.pop.new.self.items day) in
    let job : TillJob g.row.D.Denot g.row.C.Denot = record { till = till; answers = day.answers; saw = day.saw } in
    record {
      shop = c.in-Some-pull.ensures.shop.0 ∙ v.shop;
      made = c.in-Some-pull.ensures.shop.1 ∙ v.made;
      numbers = last.0;
      days = put_back day_of c.loop-day.jobs.items c.push_reserved.new.self.items job c.loop-day.days.items c.pop.new.self.items
          c.args.days.now.items day c.push_reserved.ensures.items (ap (λ (n : ℕ). record day { till = n }) last.1)
          c.in-Some.ensures.items v.days;
      knows = put_back job_knows c.loop-day.jobs.items c.push_reserved.new.self.items job (tills_know c.loop-day.tills)
          (tills_know c.pull.new.self) (tills_know c.args.tills.now) (till_knows till) c.push_reserved.ensures.items refl
          c.in-Some-pull.ensures.knows v.knows;
      room = search rules;
      space = search rules;
      own = subst (λ (l : List (TillJob g.row.D.Denot g.row.C.Denot)). All (λ (j : TillJob g.row.D.Denot g.row.C.Denot). till_shop j.till
          ≡ tills_shop c.args.tills.now) l) (sym c.push_reserved.ensures.items)
          (All-push (λ (j : TillJob g.row.D.Denot g.row.C.Denot). till_shop j.till ≡ tills_shop c.args.tills.now)
          c.loop-day.jobs.items job v.own (c.in-Some-pull.ensures.own ∙ v.shop));
    }
