use Rattle.std.proofs.Common.{◌≡◌, ◌≤◌, length, take, vec_capacity}
use Rattle.chain_store.specs.Taking.{Along}
use Rattle.chain_store.proofs.runs.run_commands.Given as goal

abbrev pub invariant-loop-ask : goal.invariant-loop-ask
invariant-loop-ask g l = record {
  along : Along g.D.Disk g.C.Clock l.initial.store l.store (take l.ask-index l.asks) l.replies.items;
  replied : length l.replies.items ≡ l.ask-index;
  room : length l.asks ≤ vec_capacity l.replies;
}
