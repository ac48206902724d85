use Rattle.std.proofs.Common.{map, take}
use Rattle.many_issuers.specs.Dones.{IsWhole}
use Rattle.many_issuers.proofs.printing.whole_text.Given as goal

abbrev pub invariant-loop-done : goal.invariant-loop-done
invariant-loop-done g l = IsWhole (map (λ d. d.block) (take l.done-index l.dones)) l.text.items
