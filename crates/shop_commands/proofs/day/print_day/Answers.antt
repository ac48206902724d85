use Rattle.std.proofs.Common.{◌++◌, ℕ, List, subst, map, length}
use Rattle.file_commands.proofs.Bytewise.{took_nothing}
use Rattle.ports.specs.Sinks.{this_sink}
use Rattle.shop_core.specs.History.{recs}
use Rattle.shop_commands.specs.SenderEnds.{DayRunEnds}
use Rattle.shop_commands.specs.SenderEnds.DayRunEnds.{no_memory}
use Rattle.shop_commands.specs.Day.{day_text}
use Rattle.sender_beside.specs.Days.{all_replies}
use Rattle.shop_day.specs.TillJobs.{told_in}
use Rattle.shop_commands.proofs.day.print_day.Goals as goal

pub returns-in_default : goal.returns-in_default
returns-in_default g c = no_memory (0, took_nothing (g.K.Sink.taken c.args.sink.now))

pub returns : goal.returns
returns g c =
    let sink = this_sink g.K.Sink.taken g.K.Sink.faults c.args.sink.now c.write_texts-written.new.sink in
    let text = c.in-Ok.told.answers ++ c.in-Ok.told.listing in
    let written = rw (c.as_slice.ensures, c.as_slice-2.ensures) at c.write_texts-written.ensures in
    let es = c.args.state.now.entries in
    let replies = all_replies (map told_in c.args.tills.now) in
    let answer = c.args.answer.now in
    let end = c.day_end.result in
    subst (λ (n : ℕ). DayRunEnds replies answer n (length (recs es)) (day_text c.args.asks.now (map told_in c.args.tills.now) es)
    sink end) c.noted.ensures.count
    (subst (λ (r : ℕ). DayRunEnds replies answer c.noted.result r (day_text c.args.asks.now (map told_in c.args.tills.now) es)
    sink end) c.records.ensures.count
    (subst (λ (t : List ℕ). DayRunEnds replies answer c.noted.result c.records.result t sink end) c.in-Ok.ensures
    (c.day_end.ensures text sink written)))
