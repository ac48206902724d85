use Rattle.std.proofs.Common.{◌≡◌, ◌∙◌, List, ℕ, take, drop, subst}
use Rattle.journal.specs.Step.{IsStep}
use Rattle.journal.proofs.Windows.{ahead_window, step_longer}
use Rattle.journal.proofs.reading.scan_ahead.Goals as goal

pub returns-clause-step : goal.returns-clause-step
returns-clause-step g c = λ tells.
    let content = (g.D.Disk.on_disk c.args.disk.now).content in
    let window : c.window.result.now ≡ take 4102 (drop c.args.at content) = c.window.ensures ∙
    ahead_window content c.reach.new.self c.args.at (c.in_ok-reach.ensures.ok tells) c.in_ok-reach.ensures.covers in
    step_longer (drop c.args.at content) c.step_in.new.body c.step_in.result
    (subst (λ (l : List ℕ). IsStep l c.step_in.result c.step_in.new.body) window c.step_in.ensures.step)
