use Rattle.till_calls.specs.Shop.{till_knows}
use Rattle.dialogue_loop.specs.Speech.{Goes, GoesOnce, moment_of}
use Rattle.dialogue_loop.specs.declared.listener.Listener.{Listener}
use Rattle.std.proofs.Common.{ℕ, map, refl, subst, sym}
use Rattle.dialogue_loop.proofs.Readings.{later_unread}
use Rattle.dialogue_loop.proofs.Dialogues.{ended_early, fault_told, carried_once, carried_out}
use Rattle.dialogue_loop.proofs.speaking.one_line.Goals as goal

pub returns-in-Err-clause-goes : goal.returns-in-Err-clause-goes
returns-in-Err-clause-goes g c = λ coming clock from olds size later said.
    let came = c.in-Err.ensures.line_read from.left said.said said.heard in
    ended_early coming (g.C.Clock.coming c.args.speech.now.clock) clock from (moment_of g.S.Source.left g.S.Source.faults g.K.Sink.taken g.K.Sink.faults c.args.source.now
    c.args.sink.now) (g.S.Source.left c.next_action.new.source) (g.S.Source.faults c.next_action.new.source) c.args.speech.now.listener
    c.args.speech.now.lacked olds (map till_knows c.args.speech.now.held.items) said c.in-Err.end size came.0 came.1
    (fault_told (moment_of g.S.Source.left g.S.Source.faults g.K.Sink.taken g.K.Sink.faults c.args.source.now c.args.sink.now)
    (g.S.Source.left c.next_action.new.source) (g.S.Source.faults c.next_action.new.source) c.in-Err.end c.in-Err.ensures.cause)

pub returns-in-Ok-clause-goes : goal.returns-in-Ok-clause-goes
returns-in-Ok-clause-goes g c = λ coming clock from olds size later said.
    subst (λ (l : Listener). Goes coming (g.C.Clock.coming c.carry_out.new.speech.clock) clock from (moment_of g.S.Source.left g.S.Source.faults g.K.Sink.taken g.K.Sink.faults
    c.next_action.new.source c.carry_out.new.sink) l c.carry_out.new.speech.lacked olds (map till_knows c.carry_out.new.speech.held.items) c.carry_out.result)
    (sym c.carry_out.ensures.listener)
    (carried_out coming (g.C.Clock.coming c.args.speech.now.clock) (g.C.Clock.coming c.carry_out.new.speech.clock) clock from (moment_of g.S.Source.left g.S.Source.faults g.K.Sink.taken g.K.Sink.faults c.args.source.now
    c.args.sink.now) (moment_of g.S.Source.left g.S.Source.faults g.K.Sink.taken g.K.Sink.faults c.next_action.new.source
    c.carry_out.new.sink) c.args.speech.now.listener c.next_action.new.self c.args.speech.now.lacked c.carry_out.new.speech.lacked olds
    (map till_knows c.args.speech.now.held.items) (map till_knows c.carry_out.new.speech.held.items) said size c.in-Ok.action c.carry_out.result
    c.next_action.ensures.later c.carry_out.ensures.later later
    (c.in-Ok.ensures.line_read from.left said.said said.heard)
    (c.carry_out.ensures.carries_out coming))

pub returns-in-Err-clause-time : goal.returns-in-Err-clause-time
returns-in-Err-clause-time g c = later_unread g.C.Clock.coming c.args.speech.now.clock c.args.speech.now.clock refl

pub returns-in-Ok-clause-once : goal.returns-in-Ok-clause-once
returns-in-Ok-clause-once g c = λ counts.
    let faults = g.S.Source.faults c.args.source.now in
    let clock = g.C.Clock.coming c.args.speech.now.clock in
    subst (λ (n : ℕ). GoesOnce faults n c.carry_out.result) (sym (c.in-Ok.ensures.once counts))
    (carried_once clock clock (g.C.Clock.coming c.carry_out.new.speech.clock) c.in-Ok.action _ _ _
    (map till_knows c.args.speech.now.held.items) (map till_knows c.carry_out.new.speech.held.items) c.carry_out.result faults
    (c.carry_out.ensures.carries_out clock))
