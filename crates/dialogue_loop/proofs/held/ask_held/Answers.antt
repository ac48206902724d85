use Rattle.std.proofs.Common.{◌≡◌, ◌∙◌, ◌-◌, ◌<◌, ◌++◌, ◌∷◌, [], ℕ, List, length, map, ap, sym, subst, arith, rules, Some, slice_get}
use Rattle.std.specs.Int.{IsInRange}
use Rattle.std.specs.Prelude.{reverse}
use Rattle.std.specs.List.{range_with_len}
use Rattle.std.proofs.Math.ListN.{set}
use Rattle.std.proofs.Math.Seq.{map-set_same}
use Rattle.std.proofs.lemmas.List.{get_or-map, length-map, length-set, map-set}
use Rattle.chain_lock.specs.Known.{Known}
use Rattle.shop_core.specs.Answer.Requests.{Asked}
use Rattle.shop_core.specs.declared.items.Item.{Item}
use Rattle.till_calls.specs.Root.{Root}
use Rattle.till_calls.specs.declared.clockless.Clockless.{Clockless as NoClock}
use Rattle.chain_store.specs.Readings.{readings}
use Rattle.ports.specs.Readings.{IsTold}
use Rattle.till_calls.specs.Shop.{Asks, till_knows, till_number}
use Rattle.dialogue_loop.specs.Looked.{Informed}
use Rattle.dialogue_loop.proofs.InARow.{asked_on, at_place, informed_at, number_at, ran_informed, row_size}
use Rattle.dialogue_loop.proofs.Readings.{asked_by, told_next}
use Rattle.dialogue_loop.proofs.Looking.{informed_more, looked_asked, looked_kept}
use Rattle.dialogue_loop.proofs.held.ask_held.Goals as goal

pub inform_till-requires-clause-size : goal.inform_till-requires-clause-size
inform_till-requires-clause-size g c =
    let a = row_size (map till_number c.args.held.now.items) c.requires.numbers in
    let e = length-map c.args.held.now.items till_number in
    search rules

pub inform_first-requires-clause-size : goal.inform_first-requires-clause-size
inform_first-requires-clause-size g c =
    let a = row_size (map till_number c.args.held.now.items) c.requires.numbers in
    let b = ap (λ (l : List ℕ). length l) c.inform_till.ensures.numbers in
    let e = length-map c.args.held.now.items till_number in
    let f = length-map c.inform_till.new.held.items till_number in
    search rules

pub returns-clause-numbers : goal.returns-clause-numbers
returns-clause-numbers g c =
    let till = c.index_mut-till.result.now in
    c.inform_first.ensures.numbers ∙ map-set_same till_number c.inform_till.new.held.items c.from-place.result c.ask_at-reply.new.till till
    (c.ask_at-reply.ensures.same.1 ∙ ap till_number c.index_mut-till.ensures.value) ∙ c.inform_till.ensures.numbers

pub returns-clause-asks : goal.returns-clause-asks
returns-clause-asks g c = λ coming asks replies before even size moved ran.
    let K : Type 0 = Known Item (Root NoClock) in
    let items = c.inform_till.new.held.items in
    let place = c.from-place.result in
    let old = c.index_mut-till.result.now in
    let new = c.ask_at-reply.new.till in
    let seconds = c.now-seconds.result in
    let read : IsTold (coming (readings replies)) seconds =
    told_next coming (g.C.Clock.coming c.args.clock.now) (readings replies) seconds moved c.now-seconds.ensures.told in
    let ask = c.args.ask.now in
    let inside : Asked = record { till = c.ask.inside.till; serial = c.ask.inside.serial; request = c.ask.inside.request } in
    let is_ask : inside ≡ ask = (let v = c.ask.view_is in cc) in
    let range : IsInRange 1 64 inside.till = search rules in
    let at : place ≡ 64 - inside.till = (let f = c.from-place.ensures in omega (arith, f)) in
    let numbers : reverse (map till_number items) ≡ range_with_len 1 64 =
    ap (λ (l : List ℕ). reverse l) c.inform_till.ensures.numbers ∙ c.requires.numbers in
    let long : length items ≡ 64 =
    (let a = row_size (map till_number items) numbers in let e = length-map items till_number in omega (arith, a, e)) in
    let within : place < length items = omega (arith, at, long, range) in
    let first_within : place < length (map till_knows c.args.held.now.items) =
    (let a = row_size (map till_number c.args.held.now.items) c.requires.numbers in
    let e = length-map c.args.held.now.items till_number in let f = length-map c.args.held.now.items till_knows in
    omega (arith, a, e, f, at, range)) in
    let is = c.index_mut-till.ensures.value in
    let here : slice_get (map till_knows items) place ≡ Some (till_knows old) = at_place till_knows items place old within is in
    let told : Asks (λ k n. Some seconds) (record inside { till = till_number old }) c.ask_at-reply.result (till_knows old) (till_knows new) =
    c.ask_at-reply.ensures.asks in
    let number : till_number old ≡ inside.till =
    (let a = number_at (map till_number items) place (till_number old) numbers (omega (arith, at, range)) in
    let e = get_or-map till_number items place old (till_number old) within in
    let f = ap till_number is in
    let n : till_number old ≡ 64 - place = f ∙ sym e ∙ a in
    omega (arith, n, at, range)) in
    let step : Asks (λ k n. Some seconds) ask c.ask_at-reply.result (till_knows old) (till_knows new) =
    subst (λ (x : Asked). Asks (λ k n. Some seconds) x c.ask_at-reply.result (till_knows old) (till_knows new))
    (ap (λ (n : ℕ). record inside { till = n }) number ∙ is_ask) told in
    let informed : Informed (set (map till_knows items) place (till_knows new)) place 63 (map till_knows c.inform_first.new.held.items) =
    subst (λ (l : List K). Informed l place 63 (map till_knows c.inform_first.new.held.items)) (map-set till_knows items place new)
    c.inform_first.ensures.informed in
    let wide = length-map items till_knows in
    let asked = set (map till_knows items) place (till_knows new) in
    let tills : inside.till ≡ ask.till = ap (λ (x : Asked). x.till) is_ask in
    ran_informed (λ k. coming) c.who_sees_on_twice_sees_on.ensures (asks ++ ask ∷ []) (replies ++ c.ask_at-reply.result ∷ []) before asked
    (map till_knows c.inform_first.new.held.items) place 63
    (let e = length-set (map till_knows items) place (till_knows new) in omega (arith, e, wide, long)) informed
    (asked_on (λ k. coming) (c.an_ask_goes_on_from_what_was_known_before.ensures (λ k. coming)) asks replies ask c.ask_at-reply.result before
    (map till_knows items) place (till_knows old) (till_knows new) even (omega (arith, at, range, size))
    (omega (arith, at, range, size, tills)) here (asked_by coming (readings replies) seconds read ask c.ask_at-reply.result (till_knows old) (till_knows new) step)
    (ran_informed (λ k. coming) c.who_sees_on_twice_sees_on.ensures asks replies before (map till_knows c.args.held.now.items)
    (map till_knows items) 63 place first_within c.inform_till.ensures.informed ran))

pub returns-clause-looked : goal.returns-clause-looked
returns-clause-looked g c = λ coming from asks replies looks even moved h.
    let K : Type 0 = Known Item (Root NoClock) in
    let items = c.inform_till.new.held.items in
    let place = c.from-place.result in
    let old = c.index_mut-till.result.now in
    let new = c.ask_at-reply.new.till in
    let seconds = c.now-seconds.result in
    let read : IsTold (coming (readings replies)) seconds =
    told_next coming (g.C.Clock.coming c.args.clock.now) (readings replies) seconds moved c.now-seconds.ensures.told in
    let ask = c.args.ask.now in
    let inside : Asked = record { till = c.ask.inside.till; serial = c.ask.inside.serial; request = c.ask.inside.request } in
    let is_ask : inside ≡ ask = (let v = c.ask.view_is in cc) in
    let range : IsInRange 1 64 inside.till = search rules in
    let at : place ≡ 64 - inside.till = (let f = c.from-place.ensures in omega (arith, f)) in
    let numbers : reverse (map till_number items) ≡ range_with_len 1 64 =
    ap (λ (l : List ℕ). reverse l) c.inform_till.ensures.numbers ∙ c.requires.numbers in
    let long : length items ≡ 64 =
    (let a = row_size (map till_number items) numbers in let e = length-map items till_number in omega (arith, a, e)) in
    let within : place < length items = omega (arith, at, long, range) in
    let first_within : place < length (map till_knows c.args.held.now.items) =
    (let a = row_size (map till_number c.args.held.now.items) c.requires.numbers in
    let e = length-map c.args.held.now.items till_number in let f = length-map c.args.held.now.items till_knows in
    omega (arith, a, e, f, at, range)) in
    let is = c.index_mut-till.ensures.value in
    let here : slice_get (map till_knows items) place ≡ Some (till_knows old) = at_place till_knows items place old within is in
    let told : Asks (λ k n. Some seconds) (record inside { till = till_number old }) c.ask_at-reply.result (till_knows old) (till_knows new) =
    c.ask_at-reply.ensures.asks in
    let number : till_number old ≡ inside.till =
    (let a = number_at (map till_number items) place (till_number old) numbers (omega (arith, at, range)) in
    let e = get_or-map till_number items place old (till_number old) within in
    let f = ap till_number is in
    let n : till_number old ≡ 64 - place = f ∙ sym e ∙ a in
    omega (arith, n, at, range)) in
    let step : Asks (λ k n. Some seconds) ask c.ask_at-reply.result (till_knows old) (till_knows new) =
    subst (λ (x : Asked). Asks (λ k n. Some seconds) x c.ask_at-reply.result (till_knows old) (till_knows new))
    (ap (λ (n : ℕ). record inside { till = n }) number ∙ is_ask) told in
    let informed : Informed (set (map till_knows items) place (till_knows new)) place 63 (map till_knows c.inform_first.new.held.items) =
    subst (λ (l : List K). Informed l place 63 (map till_knows c.inform_first.new.held.items)) (map-set till_knows items place new)
    c.inform_first.ensures.informed in
    let wide = length-map items till_knows in
    let asked = set (map till_knows items) place (till_knows new) in
    looked_asked coming seconds ask c.a_list_fits_what_was_known_before.ensures from asks replies looks c.ask_at-reply.result
    (map till_knows items) (map till_knows c.inform_first.new.held.items) place (till_knows old) (till_knows new) even read
    (omega (arith, wide, long)) here
    (informed_at (map till_knows c.args.held.now.items) place (map till_knows items) (till_knows old) first_within
    c.inform_till.ensures.informed here) step informed
    (looked_kept (λ k. coming) from asks replies looks (map till_knows c.args.held.now.items) (map till_knows items)
    (informed_more c.a_list_fits_what_was_known_before.ensures (map till_knows c.args.held.now.items) (map till_knows items) 63 place
    c.inform_till.ensures.informed first_within) h)
