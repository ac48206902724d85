use Rattle.std.proofs.Common.{rules, ap, ◌∙◌}
use Rattle.chain_lock.proofs.Keeps.{notes, learns}
use Rattle.chain_lock.proofs.lock.ChainLock.inform.Goals as goal

pub split_seat-note-requires : goal.split_seat-note-requires
split_seat-note-requires g c = (c.requires.own.0, search rules, notes _ _ _ _ _ _ _)

pub join_seat-requires : goal.join_seat-requires
join_seat-requires g c = let s = c.split_seat-note.ensures in (
  c.requires.own.1,
  s.3 ∙ c.requires.own.0,
  ap (λ m. m.1) s.4,
  search rules,
  learns _ _ _ _ _ _ _ _ _ (ap (λ m. m.0.turning) s.4) (ap (λ m. m.0.numbers) s.4) (ap (λ m. m.0.own) s.4),
)
