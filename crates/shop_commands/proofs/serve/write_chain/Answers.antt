use Rattle.std.proofs.Common.{◌≡◌, [], ◌∷◌, ◌++◌, List, ℕ, Some, inr, length, rules, sym, subst}
use Rattle.dialogue_loop.specs.Speech.{IsAnswered, IsWritten}
use Rattle.dialogue_loop.specs.declared.speaking.SpeechEnd.{SpeechEnd}
use Rattle.ports.specs.Sinks.{Wrote}
use Rattle.report.specs.Pieces.{chain_line}
use Rattle.shop_core.specs.History.{noted, recs}
use Rattle.shop_commands.specs.Serve.{sink_to}
use Rattle.shop_commands.proofs.SpeechTexts.{line_failed, line_unmade, line_written}
use Rattle.shop_commands.proofs.serve.write_chain.Goals as goal

pub returns-in-Err-clause-written : goal.returns-in-Err-clause-written
returns-in-Err-clause-written g c = λ taken faults answers w later.
    let es = c.args.state.now.entries in
    let now = g.K.Sink.taken c.args.sink.now in
    let count = g.K.Sink.faults c.args.sink.now in
    inr (line_unmade taken now now faults count count answers (chain_line (length (recs es)) (length (noted es))) w later)

pub returns-clause-written : goal.returns-clause-written
returns-clause-written g c = λ taken faults answers w later.
    let es = c.args.state.now.entries in
    let chain = chain_line (length (recs es)) (length (noted es)) in
    let now = g.K.Sink.taken c.args.sink.now in
    let count = g.K.Sink.faults c.args.sink.now in
    let after = g.K.Sink.taken c.answer.new.sink in
    let count_after = g.K.Sink.faults c.answer.new.sink in
    let is : c.as_slice.result.now ≡ chain = search rules in
    let f = line_failed taken now after faults count count_after answers chain w later c.in-Some.end
    (subst (λ (t : List ℕ). IsAnswered (sink_to now count after count_after) t (Some c.in-Some.end)) is c.in-Some.ensures.answered) in
    subst (λ (e : SpeechEnd). IsWritten e (sink_to taken faults after count_after) (answers ++ chain ∷ [])) (sym f.0) f.1

pub returns-in-None-clause-written : goal.returns-in-None-clause-written
returns-in-None-clause-written g c = λ taken faults answers w later.
    let es = c.args.state.now.entries in
    let chain = chain_line (length (recs es)) (length (noted es)) in
    let now = g.K.Sink.taken c.args.sink.now in
    let count = g.K.Sink.faults c.args.sink.now in
    let after = g.K.Sink.taken c.answer.new.sink in
    let count_after = g.K.Sink.faults c.answer.new.sink in
    let is : c.as_slice.result.now ≡ chain = search rules in
    line_written taken now after faults count count_after answers chain w later
    (subst (λ (t : List ℕ). Wrote (sink_to now count after count_after) t) is c.in-None.ensures.answered)
