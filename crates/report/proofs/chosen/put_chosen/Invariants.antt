use Rattle.std.proofs.Common.{◌≡◌, ◌++◌, ◌+◌, drop}
use Rattle.std.specs.List.{enumerate_from}
use Rattle.shop_core.specs.History.{recs}
use Rattle.report.specs.Chosen.{chosen_lines, lines_among}
use Rattle.report.proofs.chosen.put_chosen.Given as goal

abbrev pub invariant-loop-n : goal.invariant-loop-n
invariant-loop-n l =
    l.text.items ++ lines_among l.choice l.state.entries (enumerate_from (l.n + 1) (drop l.n (recs l.state.entries)))
    ≡ l.initial.text.items ++ chosen_lines l.choice l.state.entries
