-- An ask at a reading that is given is one at the clock that gave it.
use Rattle.std.proofs.Common.{◌≡◌, ℕ, subst, sym, Option, Some, None, Result, IsSome}
use Rattle.ports.specs.Readings.{IsTold, MovedBy}
use Rattle.ports.specs.declared.Clock as clock
use Rattle.chain_disk.specs.declared.disk.Disk as disk
use Rattle.journal.specs.Journal.{stopped_of}
use Rattle.journal.specs.declared.faults.StoreFault.{StoreFault}
use Rattle.shop_core.specs.Answer.Requests.{Asked}
use Rattle.shop_core.specs.declared.answer.Reply.{Reply}
use Rattle.chain_store.specs.Store.{journal_of}
use Rattle.chain_store.specs.Took.{Took, read_at}
use Rattle.chain_store.specs.declared.store.Store.{Store}

pub took_by_clock : {D C : Type 0} (d : disk.Ghosts D) (c : clock.Ghosts C) (old new : Store D C d) (read : C) (ask : Asked)
    (told : Result Reply StoreFault) (seconds : ℕ) → stopped_of (journal_of old) ≡ None → IsTold (c.coming old.clock 0) seconds →
    MovedBy 1 (c.coming old.clock) (c.coming read) → c.by_readings old.clock read →
    Took d (read_at seconds) (record old { clock = read }) new ask told → Took d c old new ask told
took_by_clock {C = C} d c old new read ask told seconds going is moved by t = record {
  ready = t.ready;
  takes = λ none. let k = t.takes none in record {
    seconds = k.seconds;
    reading = subst (λ (s : ℕ). IsTold (c.coming old.clock 0) s) (sym k.reading) is;
    moved = subst (λ (x : C). MovedBy 1 (c.coming old.clock) (c.coming x)) (sym t.read) moved;
    issuer = k.issuer;
    version = k.version;
    gained = k.gained;
    entries = k.entries;
    reply = k.reply;
    any_moment = k.any_moment;
  };
  never_loses = t.never_loses;
  appended = t.appended;
  content = t.content;
  acknowledged = t.acknowledged;
  going_on = t.going_on;
  nothing_taken = t.nothing_taken;
  no_memory = t.no_memory;
  fault = t.fault;
  torn = λ failed. let k = t.torn failed in record {
    entry = k.entry;
    entry_is = k.entry_is;
    seconds = k.seconds;
    reading = subst (λ (s : ℕ). IsTold (c.coming old.clock 0) s) (sym k.reading) is;
    made = k.made;
    continues = k.continues;
    room = k.room;
    any_moment = k.any_moment;
  };
  stopped = t.stopped;
  untouched = λ some. absurd (none_some (stopped_of (journal_of old)) going some);
  later = t.later;
  read = subst (λ (x : C). c.by_readings old.clock x) (sym t.read) by;
}
  where
    none_some : (o : Option ℕ) → o ≡ None → IsSome o → ⊥
    none_some None e some = absurd (let f = some in cc)
    none_some (Some count) e some = absurd cc
