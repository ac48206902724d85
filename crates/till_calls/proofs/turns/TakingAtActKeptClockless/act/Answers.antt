use Rattle.std.proofs.Common.{ℕ, Some}
use Rattle.till_calls.specs.Root.{items_in}
use Rattle.till_calls.proofs.Asking.{till_adds}
use Rattle.till_calls.proofs.turns.TakingAtActKeptClockless.act.Goals as goal

pub returns-clause-items : goal.returns-clause-items
returns-clause-items g c =
    till_adds (λ (k : _) (n : ℕ). Some c.args.self.now.seconds) c.args.self.now.ask c.take_at.result c.args.value.now.root
    (items_in c.args.value.now.parts) (items_in c.take_at.new.self.parts) c.take_at.ensures.turn.does
