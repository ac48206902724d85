use Rattle.std.proofs.Common.{rules, inl, ℕ, List, map, sym, subst, refl}
use Rattle.dialogue.specs.declared.speaker.Action.{Action}
use Rattle.ports.specs.Sinks.{this_sink}
use Rattle.till_calls.specs.Shop.{till_knows}
use Rattle.dialogue_loop.specs.Speech.{CarriesOut, IsAnswered}
use Rattle.dialogue_loop.proofs.speaking.carry_out.Goals as goal

pub returns-after-speech-clause-carries_out : goal.returns-after-speech-clause-carries_out
returns-after-speech-clause-carries_out g c = λ coming.
    let told = c.ask_held-told in
    subst (λ (a : Action). CarriesOut coming (g.C.Clock.coming c.args.speech.now.clock) (g.C.Clock.coming told.new.clock) a
    (this_sink g.K.Sink.taken g.K.Sink.faults c.args.sink.now c.answer_reply.new.sink) c.args.speech.now.lacked c.if-speech.speech
    (map till_knows c.args.speech.now.held.items) (map till_knows told.new.held.items) c.answer_reply.result) (sym c.in-Ask.is)
    (record {
      told = told.result;
      moved = told.ensures.moved;
      asks_on = told.ensures.asks coming;
      looked = told.ensures.looked coming;
      of_till = told.ensures.of_till;
      lacked_is = search rules;
      replied = c.answer_reply.ensures.replied;
    })

pub returns-in-Ok-clause-carries_out : goal.returns-in-Ok-clause-carries_out
returns-in-Ok-clause-carries_out g c = λ coming.
    let mids = map till_knows c.args.speech.now.held.items in
    let news = map till_knows c.look_held.new.held.items in
    let clock = g.C.Clock.coming c.args.speech.now.clock in
    let s = this_sink g.K.Sink.taken g.K.Sink.faults c.args.sink.now c.answer-in-Ok.new.sink in
    subst (λ (a : Action). CarriesOut coming clock clock a s c.args.speech.now.lacked c.args.speech.now.lacked mids news
    c.answer-in-Ok.result) (sym c.in-Look.is)
    (let l = c.in-Ok.ensures.looked coming in (
      refl,
      c.in-Ok.ensures.runs coming,
      inl (record {
        history = l.0;
        text = c.in-Ok.text;
        is = l.1;
        looked = l.2;
        written = subst (λ (t : List ℕ). IsAnswered s t c.answer-in-Ok.result) c.as_slice-in-Ok.ensures c.answer-in-Ok.ensures.answered;
      }),
      refl,
    ))
