-- The readings that stamped the records since the start of a day.
use Rattle.std.proofs.Common.{◌≡◌, ℕ, ◌+◌, List, [], ◌∷◌, ◌++◌, length, sym, subst, Option}
use Rattle.std.specs.Prelude.{drop}
use Rattle.std.proofs.Math.Seq.{drop-append_seam}
use Rattle.ports.specs.Readings.{IsTold}
use Rattle.record_codec.specs.declared.entry.Entry.{Entry}
use Rattle.record_codec.specs.declared.entry.Entry.TheVariants.{Rec, Notes}
use Rattle.till_calls.specs.InTurn.{ReadInTurn}
use Rattle.till_calls.specs.Root.{Root}
use Rattle.till_calls.specs.Sound.{StampedSince}
use Rattle.sender_beside.specs.Days.{Day}
use Rattle.shop_commands.specs.Day.{StampedInTurn}

-- entries that readings of one kind stamped in turn are stamped by readings of another kind that gives the same
read_by : (old new : ℕ → Option ℕ) → ((k : ℕ) → old k ≡ new k) → (first next : ℕ) (before es : List Entry) →
    ReadInTurn old first next before es → ReadInTurn new first next before es
read_by old new same first next before [] h = h
read_by old new same first next before (Rec till serial sealed ∷ es) h = (
  h.0,
  h.1,
  record {
    seconds = h.2.seconds;
    told = subst (λ (o : Option ℕ). IsTold o h.2.seconds) (same h.0) h.2.told;
    moment = h.2.moment;
  },
  read_by old new same (h.0 + 1) next (before ++ Rec till serial sealed ∷ []) es h.3,
)
read_by old new same first next before (Notes from lines ∷ es) h =
    read_by old new same first next (before ++ Notes from lines ∷ []) es h

pub stamped_by : (d : Day) (new : ℕ → Option ℕ) → ((k : ℕ) → d.coming k ≡ new k) → StampedInTurn d →
    StampedInTurn (record d { coming = new })
stamped_by d new same h = record {
  next = h.next;
  in_turn = read_by d.coming new same 0 h.next d.start (drop (length d.start) d.end) h.in_turn;
}

-- what a shop keeps of its clock, said of the entries behind those at its start
pub stamped_since : {C : Type 0} (coming : C → ℕ → Option ℕ) (root : Root C) (now : C) (entries : List Entry) →
    (s : StampedSince coming root now entries) →
    ReadInTurn (coming root.clock) 0 s.number root.history (drop (length root.history) entries)
stamped_since coming root now entries s =
    subst (λ (es : List Entry). ReadInTurn (coming root.clock) 0 s.number root.history (drop (length root.history) es))
    (sym s.since_is)
    (subst (λ (es : List Entry). ReadInTurn (coming root.clock) 0 s.number root.history es)
    (sym (drop-append_seam root.history s.since)) s.in_turn)
