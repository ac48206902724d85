-- What a clause reads of a lock and of its passes.
use Rattle.std.specs.Prelude.{ℕ, List, map, vec_capacity}
use Rattle.atomic_table.specs.Seated.{TableId}
use Rattle.chain_lock.specs.declared.lock.ChainLock.{ChainLock}
use Rattle.chain_lock.specs.declared.pass.Pass.{Pass}
use Rattle.chain_lock.specs.declared.pass.Passes.{Passes}
use Rattle.chain_lock.specs.Known.{Known}
use Rattle.chain_lock.specs.Rule.{known_of}

module _ {V I R : Type 0} where
  -- which lock a pass is of
  abbrev pub pass_lock : Pass V I R → TableId
  pass_lock p = p.seat.place.table_id

  -- what a pass knows
  abbrev pub known : Pass V I R → Known I R
  known p = known_of p.seat.place.me.0

  -- which lock the passes of a list are of
  abbrev pub passes_lock : Passes V I R → TableId
  passes_lock ps = ps.seats.of.value.table_id

  -- what each of them knows
  abbrev pub all_known : Passes V I R → List (Known I R)
  all_known ps = map (λ s. known_of s.place.me.0) ps.seats.list.items

  -- for how many passes the list has room
  abbrev pub room_of : Passes V I R → ℕ
  room_of ps = vec_capacity ps.seats.list

  abbrev pub lock_id : ChainLock V I R → TableId
  lock_id l = l.board.shared.table_id

  -- the value that the lock was made of
  abbrev pub opening : ChainLock V I R → V
  opening l = l.board.shared.key.value.value

  -- how many passes were made
  abbrev pub pass_count : ChainLock V I R → ℕ
  pass_count l = l.count
