use Rattle.std.proofs.Common.{◌≡◌, ◌∙◌, length, false, sym, subst}
use Rattle.std.specs.List.{list_any}
use Rattle.chain_store.specs.Replies.{is_no_memory}
use Rattle.report.specs.declared.status.Detail.{Detail}
use Rattle.shop_core.specs.History.{noted, recs}
use Rattle.command_ends.specs.DrainEnds.{sender_lacks_memory}
use Rattle.shop_commands.specs.Serve.{IsReadEnd, SpeechEnds}
use Rattle.shop_commands.specs.Serve.SpeechEnds.{no_memory}
use Rattle.shop_commands.proofs.ServeEnding.{read_end}
use Rattle.shop_commands.proofs.SpeechTexts.{ended_so, some_written}
use Rattle.shop_commands.proofs.serve.speech_end.Goals as goal

pub returns-then-lacked-clause-ends : goal.returns-then-lacked-clause-ends
returns-then-lacked-clause-ends c = λ began asks replies answers texts s k closes are lacked rose w. no_memory (some_written c.args.how k texts w)

pub returns-then-sender_lacks_memory-clause-ends : goal.returns-then-sender_lacks_memory-clause-ends
returns-then-sender_lacks_memory-clause-ends c = λ began asks replies answers texts s k closes are lacked rose w.
    no_memory (some_written c.args.how k texts w)

pub returns-clause-ends : goal.returns-clause-ends
returns-clause-ends c = λ began asks replies answers texts s k closes are lacked rose w.
    let n = length (noted c.args.state.now.entries) in
    let r = length (recs c.args.state.now.entries) in
    let memory : list_any is_no_memory replies ≡ false = sym lacked ∙ c.if-lacked.false in
    let sender : sender_lacks_memory c.args.sent.now ≡ false = sym c.sender_lacks_memory.ensures ∙ c.if-sender_lacks_memory.false in
    subst (λ (d : Detail). SpeechEnds began replies c.args.sent.now n r texts s k d) (sym c.end_of.ensures)
    (ended_so began asks replies answers c.args.sent.now n r texts s k memory sender c.args.how c.requires.counts closes are rose w)

pub returns-then-lacked-clause-read : goal.returns-then-lacked-clause-read
returns-then-lacked-clause-read c = λ is. tt

pub returns-then-sender_lacks_memory-clause-read : goal.returns-then-sender_lacks_memory-clause-read
returns-then-sender_lacks_memory-clause-read c = λ is. tt

pub returns-clause-read : goal.returns-clause-read
returns-clause-read c = λ is.
    subst (λ (d : Detail). IsReadEnd d) (sym c.end_of.ensures)
    (read_end c.args.how (length (noted c.args.state.now.entries)) (length (recs c.args.state.now.entries)) c.args.sent.now is)
