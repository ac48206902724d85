use Rattle.std.proofs.Common.{◌≡◌, ℕ, refl, None, Result, Some, length, map, subst, sym, arith}
use Rattle.std.proofs.lemmas.List.{length-map}
use Rattle.till_calls.specs.Shop.{till_knows, till_number}
use Rattle.dialogue_loop.specs.Speech.{ComesOnce, EndsOnce, Goes, clock_first, moment_of, moment_since}
use Rattle.dialogue_loop.specs.declared.listener.Listener.{Listener}
use Rattle.dialogue_loop.proofs.InARow.{row_size}
use Rattle.dialogue_loop.proofs.Readings.{later_both, later_unread}
use Rattle.dialogue.specs.declared.speaker.Action.{Action}
use Rattle.dialogue_loop.specs.declared.speaking.SpeechEnd.{SpeechEnd}
use Rattle.dialogue_loop.proofs.Dialogues.{began_first, carried_once, ended_first}
use Rattle.dialogue_loop.proofs.speaking.answer_lines.Goals as goal

pub returns-in-Err-clause-spoken : goal.returns-in-Err-clause-spoken
returns-in-Err-clause-spoken g c = λ left faults first later cause.
    ended_first (g.C.Clock.coming c.args.speech.now.clock) (g.C.Clock.coming c.args.speech.now.clock) (moment_since left faults (g.K.Sink.taken c.args.sink.now) (g.K.Sink.faults c.args.sink.now))
    (moment_of g.S.Source.left g.S.Source.faults g.K.Sink.taken g.K.Sink.faults c.args.source.now c.args.sink.now)
    c.args.speech.now.listener (map till_knows c.args.speech.now.held.items) (map till_knows c.args.speech.now.held.items)
    c.args.speech.now.lacked c.args.first.now c.in-Err.end c.in-Err.is c.requires.lacked first refl (omega arith) cause

pub returns-in-Some-clause-spoken : goal.returns-in-Some-clause-spoken
returns-in-Some-clause-spoken g c = λ left faults first later cause.
    let items = c.args.speech.now.held.items in
    let size : length (map till_knows items) ≡ 64 =
    (let a = row_size (map till_number items) c.requires.numbers in let e = length-map items till_number in
    let f = length-map items till_knows in omega (arith, a, e, f)) in
    began_first (g.C.Clock.coming c.args.speech.now.clock) (g.C.Clock.coming c.carry_out.new.speech.clock) (moment_since left faults (g.K.Sink.taken c.args.sink.now) (g.K.Sink.faults c.args.sink.now))
    (moment_of g.S.Source.left g.S.Source.faults g.K.Sink.taken g.K.Sink.faults c.args.source.now c.carry_out.new.sink)
    c.args.speech.now.listener (map till_knows items) (map till_knows c.carry_out.new.speech.held.items)
    c.args.speech.now.lacked c.carry_out.new.speech.lacked c.args.first.now c.in-Ok.action _ c.in-Ok.is c.requires.lacked size first later
    c.carry_out.ensures.later (c.in-Some.ensures.carries_out (g.C.Clock.coming c.args.speech.now.clock))

pub returns-in-None-clause-spoken : goal.returns-in-None-clause-spoken
returns-in-None-clause-spoken g c = λ left faults first later cause.
    let items = c.args.speech.now.held.items in
    let size : length (map till_knows items) ≡ 64 =
    (let a = row_size (map till_number items) c.requires.numbers in let e = length-map items till_number in
    let f = length-map items till_knows in omega (arith, a, e, f)) in
    let from = moment_since left faults (g.K.Sink.taken c.args.sink.now) (g.K.Sink.faults c.args.sink.now) in
    let now = moment_of g.S.Source.left g.S.Source.faults g.K.Sink.taken g.K.Sink.faults c.args.source.now c.carry_out.new.sink in
    let begun = began_first (g.C.Clock.coming c.args.speech.now.clock) (g.C.Clock.coming c.carry_out.new.speech.clock) from now c.args.speech.now.listener (map till_knows items)
    (map till_knows c.carry_out.new.speech.held.items) c.args.speech.now.lacked c.carry_out.new.speech.lacked c.args.first.now c.in-Ok.action
    None c.in-Ok.is c.requires.lacked size first later c.carry_out.ensures.later (c.in-None.ensures.carries_out (g.C.Clock.coming c.args.speech.now.clock)) in
    let on = subst (λ (l : Listener). Goes (g.C.Clock.coming c.args.speech.now.clock) (g.C.Clock.coming c.carry_out.new.speech.clock) (clock_first c.args.first.now) from now l c.carry_out.new.speech.lacked
    (map till_knows items) (map till_knows c.carry_out.new.speech.held.items) None) (sym c.carry_out.ensures.listener) begun in
    c.speak.ensures.spoken (g.C.Clock.coming c.args.speech.now.clock) (clock_first c.args.first.now) from (map till_knows items) size on.1 on.0

pub returns-in-Err-clause-time : goal.returns-in-Err-clause-time
returns-in-Err-clause-time g c = later_unread g.C.Clock.coming c.args.speech.now.clock c.args.speech.now.clock refl

pub returns-in-None-clause-time : goal.returns-in-None-clause-time
returns-in-None-clause-time g c =
    later_both g.C.Clock.coming c.args.speech.now.clock c.carry_out.new.speech.clock c.speak.new.speech.clock c.carry_out.ensures.time
    c.speak.ensures.time

pub returns-in-Some-clause-once : goal.returns-in-Some-clause-once
returns-in-Some-clause-once g c = λ counts faults first.
    let now = g.S.Source.faults c.args.source.now in
    let clock = g.C.Clock.coming c.args.speech.now.clock in
    let same : now ≡ faults = subst (λ (f : Result Action SpeechEnd). ComesOnce faults now f) c.in-Ok.is first in
    subst (λ (n : ℕ). EndsOnce faults n c.in-Some.end) (sym same)
    (carried_once clock clock (g.C.Clock.coming c.carry_out.new.speech.clock) c.in-Ok.action _ _ _
    (map till_knows c.args.speech.now.held.items) (map till_knows c.carry_out.new.speech.held.items) (Some c.in-Some.end) faults
    (c.in-Some.ensures.carries_out clock))
