-- A pair stays one over a note.
use Rattle.std.proofs.Common.{◌≡◌, inl, inr, ℕ, ◌≤◌, List, [], ◌∷◌, ◌++◌, refl, sym, ◌∙◌, ap, subst, append_assoc, arith, Bool}
use Rattle.std.proofs.Common.{Option, Some, None, Result, Ok, Err, false}
use Rattle.std.proofs.lemmas.List.{append-nil}
use Rattle.std.specs.List.{AllByRecursion}
use Rattle.std.specs.Prelude.{OnErr}
use Rattle.chain_disk.specs.OnDisk.{OnDisk}
use Rattle.chain_store.specs.Ready.{noted_next}
use Rattle.journal.specs.declared.faults.StoreFault.{StoreFault}
use Rattle.journal.specs.declared.faults.StoreFault.TheVariants.{DiskFault, Stopped, NoMemory}
use Rattle.ports.specs.Causes.{Rose}
use Rattle.record_codec.specs.declared.entry.Entry.{Entry}
use Rattle.record_fields.specs.declared.lines.Line.{Line}
use Rattle.shop_core.specs.History.{is_record}
use Rattle.shop_core.specs.declared.items.Item.TheVariants as item
use Rattle.standby.specs.Arriving.{KeepsEntry}
use Rattle.standby.specs.Chains.{ChainOnDisk, GoesTo, IsRoomy, IsSoundChain}
use Rattle.standby.specs.Pairs.{AddsNotes, AreBeside, Both, GoOn, IsAheadByNotes, IsPair, KeepsBoth, NotesBoth}
use Rattle.standby.specs.Pairs.{IsUnmoved, RoseTo, first_stop, stop_in}
use Rattle.standby.proofs.Chained.{goes_on, goes_roomy, goes_same, sound_roomy}

all_snoc : {A : Type 0} (P : A → Type 0) (xs : List A) (x : A) → AllByRecursion P xs → P x → AllByRecursion P (xs ++ x ∷ [])
all_snoc P [] x all one = (one, tt)
all_snoc P (y ∷ xs) x all one = (all.0, all_snoc P xs x all.1 one)

pub more_notes : (before after then : List Entry) (entry : Entry) → AddsNotes before after → then ≡ after ++ entry ∷ [] →
    is_record entry ≡ false → AddsNotes before then
more_notes before after then entry a is of = record {
  more = a.more ++ entry ∷ [];
  is = is ∙ ap (λ (es : List Entry). es ++ entry ∷ []) a.is ∙ append_assoc before a.more (entry ∷ []);
  are = all_snoc (λ (e : Entry). is_record e ≡ false) a.more entry a.are of;
}

pub no_notes : (before : List Entry) → AddsNotes before before
no_notes before = record { more = []; is = sym (append-nil before); are = tt }

same_notes : (before after then : List Entry) → AddsNotes before after → then ≡ after → AddsNotes before then
same_notes before after then a e = subst (λ (es : List Entry). AddsNotes before es) (sym e) a

none_first : (a b : Option ℕ) → a ≡ None → b ≡ None → first_stop a b ≡ None
none_first a b e f = rw (e, f) refl

first_by : (a b : Option ℕ) (count : ℕ) → a ≡ Some count → first_stop a b ≡ Some count
first_by a b count e = rw e refl

second_by : (a b : Option ℕ) (count : ℕ) → a ≡ None → b ≡ Some count → first_stop a b ≡ Some count
second_by a b count e f = rw (e, f) refl

rose_at : (a b c count : ℕ) → a ≤ b → Rose b c → ◌≡◌ {A = Option ℕ} (Some c) (Some count) → Rose a count
rose_at a b c count le rose e =
    let same : c ≡ count = cc in
    λ small. let strict = rose (omega (arith, small, same)) in omega (arith, le, strict, same)

beside_going : (a b : Option ℕ) (torn : Option Entry) (shop standby : List Entry) → a ≡ None → b ≡ None → shop ≡ standby →
    AreBeside a shop b torn standby
beside_going None None torn shop standby e f is = is
beside_going None (Some n) torn shop standby e f is = absurd (let x : ◌≡◌ {A = Option ℕ} (Some n) None = f in cc)
beside_going (Some n) b torn shop standby e f is = absurd (let x : ◌≡◌ {A = Option ℕ} (Some n) None = e in cc)

beside_shop : (a b : Option ℕ) (torn : Option Entry) (shop standby : List Entry) (count : ℕ) → a ≡ Some count → b ≡ None →
    shop ≡ standby → AreBeside a shop b torn standby
beside_shop a b torn shop standby count e f is =
    subst (λ (x : Option ℕ). AreBeside x shop b torn standby) (sym e)
    (subst (λ (y : Option ℕ). AreBeside (Some count) shop y torn standby) (sym f) is)

beside_standby : (a b : Option ℕ) (torn : Option Entry) (shop standby : List Entry) (count : ℕ) → a ≡ None → b ≡ Some count →
    IsAheadByNotes standby torn shop → AreBeside a shop b torn standby
beside_standby a b torn shop standby count e f is =
    subst (λ (x : Option ℕ). AreBeside x shop b torn standby) (sym e)
    (subst (λ (y : Option ℕ). AreBeside None shop y torn standby) (sym f) is)

pub equal_going : (a b : Option ℕ) (torn : Option Entry) (shop standby : List Entry) → a ≡ None → b ≡ None →
    AreBeside a shop b torn standby → shop ≡ standby
equal_going None None torn shop standby e f is = is
equal_going None (Some n) torn shop standby e f is = absurd (let x : ◌≡◌ {A = Option ℕ} (Some n) None = f in cc)
equal_going (Some n) b torn shop standby e f is = absurd (let x : ◌≡◌ {A = Option ℕ} (Some n) None = e in cc)

stop_first : (a b : Option ℕ) (torn others : Option Entry) (count : ℕ) (entry : Entry) → a ≡ Some count → torn ≡ Some entry →
    b ≡ None → stop_in a torn ++ stop_in b others ≡ item.Stop count entry ∷ []
stop_first a b torn others count entry e f g = rw (e, f, g) refl

stop_second : (a b : Option ℕ) (torn others : Option Entry) (count : ℕ) (entry : Entry) → a ≡ None → b ≡ Some count →
    others ≡ Some entry → stop_in a torn ++ stop_in b others ≡ item.Stop count entry ∷ []
stop_second a b torn others count entry e f g = rw (e, f, g) refl

module _ {D C M : Type 0} (tells : Bool) (on_disk : D → OnDisk) (faults : D → ℕ) (others_tell : Bool) (others_on_disk : M → OnDisk)
    (others_faults : M → ℕ) where
  abbrev IsOne : Both D C M → Both D C M → Type 0
  IsOne start present = IsPair tells on_disk faults others_tell others_on_disk others_faults start present

  abbrev Keeps : Both D C M → Both D C M → Entry → Result (Unit {0}) StoreFault → Type 0
  Keeps old new entry r = KeepsBoth tells on_disk faults others_tell others_on_disk others_faults old new entry r

  -- a pair that begins
  pub pair_new : (both : Both D C M) → IsSoundChain tells on_disk faults both.shop →
      IsSoundChain others_tell others_on_disk others_faults both.standby → both.shop.stopped ≡ None → both.standby.stopped ≡ None →
      both.standby.history.issuer ≡ both.shop.history.issuer → both.standby.history.version ≡ both.shop.history.version →
      both.standby.history.entries ≡ both.shop.history.entries →
      IsOne both both
  pair_new both s t going goes issuer version entries = record {
    shop = s;
    shop_goes = goes_same tells on_disk faults both.shop s;
    standby = t;
    standby_goes = goes_same others_tell others_on_disk others_faults both.standby t;
    clock = refl;
    issuer = issuer;
    version = version;
    equal = entries;
    beside = beside_going both.shop.stopped both.standby.stopped both.standby.torn both.shop.history.entries
        both.standby.history.entries going goes (sym entries);
    notes = no_notes both.shop.history.entries;
    shop_rose = λ count e. absurd (let x : ◌≡◌ {A = Option ℕ} None (Some count) = sym going ∙ e in cc);
    standby_rose = λ count e. absurd (let x : ◌≡◌ {A = Option ℕ} None (Some count) = sym goes ∙ e in cc);
  }

  beside_roomy : (old mid : Both D C M) → IsRoomy old.shop mid.shop → IsRoomy old.standby mid.standby →
      AreBeside old.shop.stopped old.shop.history.entries old.standby.stopped old.standby.torn old.standby.history.entries →
      AreBeside mid.shop.stopped mid.shop.history.entries mid.standby.stopped mid.standby.torn mid.standby.history.entries
  beside_roomy old mid r q is =
      subst (λ (o : Option ℕ). AreBeside o mid.shop.history.entries mid.standby.stopped mid.standby.torn
      mid.standby.history.entries) (sym r.stopped)
      (subst (λ (es : List Entry). AreBeside old.shop.stopped es mid.standby.stopped mid.standby.torn mid.standby.history.entries)
      (sym r.entries)
      (subst (λ (o : Option ℕ). AreBeside old.shop.stopped old.shop.history.entries o mid.standby.torn
      mid.standby.history.entries) (sym q.stopped)
      (subst (λ (o : Option Entry). AreBeside old.shop.stopped old.shop.history.entries old.standby.stopped o
      mid.standby.history.entries) (sym q.torn)
      (subst (λ (es : List Entry). AreBeside old.shop.stopped old.shop.history.entries old.standby.stopped old.standby.torn es)
      (sym q.entries) is))))

  -- with room made
  pub pair_roomy : (start old mid : Both D C M) → IsOne start old → IsRoomy old.shop mid.shop → IsRoomy old.standby mid.standby →
      mid.clock ≡ old.clock → IsOne start mid
  pair_roomy start old mid p r q clock = record {
    shop = sound_roomy tells on_disk faults old.shop mid.shop r p.shop;
    shop_goes = goes_roomy tells on_disk faults start.shop old.shop mid.shop p.shop_goes r;
    standby = sound_roomy others_tell others_on_disk others_faults old.standby mid.standby q p.standby;
    standby_goes = goes_roomy others_tell others_on_disk others_faults start.standby old.standby mid.standby p.standby_goes q;
    clock = clock ∙ p.clock;
    issuer = q.issuer ∙ p.issuer ∙ sym r.issuer;
    version = q.version ∙ p.version ∙ sym r.version;
    equal = p.equal;
    beside = beside_roomy old mid r q p.beside;
    notes = same_notes start.shop.history.entries old.shop.history.entries mid.shop.history.entries p.notes r.entries;
    shop_rose = λ count e. p.shop_rose count (sym r.stopped ∙ e);
    standby_rose = λ count e. p.standby_rose count (sym q.stopped ∙ e);
  }

  -- with notes kept or torn
  pub pair_kept : (start mid new : Both D C M) (lines : List Line) (entry : Entry) (r : Result (Unit {0}) StoreFault) →
      IsOne start mid → GoOn mid → IsSoundChain tells on_disk faults new.shop →
      IsSoundChain others_tell others_on_disk others_faults new.standby → new.clock ≡ mid.clock →
      entry ≡ noted_next mid.standby.history.entries lines → Keeps mid new entry r →
      IsOne start new × NotesBoth faults others_faults mid new lines r
  pair_kept start mid new lines entry (Ok done) p on s t clock is k =
      let equal = equal_going mid.shop.stopped mid.standby.stopped mid.standby.torn mid.shop.history.entries
      mid.standby.history.entries on.shop on.standby p.beside in
      let a = k.0 in
      let b = k.1 in (
        record {
          shop = s;
          shop_goes = goes_on tells on_disk faults start.shop mid.shop new.shop p.shop_goes a.goes;
          standby = t;
          standby_goes = goes_on others_tell others_on_disk others_faults start.standby mid.standby new.standby p.standby_goes b.goes;
          clock = clock ∙ p.clock;
          issuer = b.goes.issuer ∙ p.issuer ∙ sym a.goes.issuer;
          version = b.goes.version ∙ p.version ∙ sym a.goes.version;
          equal = p.equal;
          beside = beside_going new.shop.stopped new.standby.stopped new.standby.torn new.shop.history.entries
              new.standby.history.entries a.added.0 b.added.0
              (a.added.1 ∙ ap (λ (es : List Entry). es ++ entry ∷ []) equal ∙ sym b.added.1);
          notes = more_notes start.shop.history.entries mid.shop.history.entries new.shop.history.entries entry p.notes a.added.1
              (ap is_record is);
          shop_rose = λ count e. absurd (let x : ◌≡◌ {A = Option ℕ} None (Some count) = sym a.added.0 ∙ e in cc);
          standby_rose = λ count e. absurd (let x : ◌≡◌ {A = Option ℕ} None (Some count) = sym b.added.0 ∙ e in cc);
        },
        (
          on,
          record { shop = a.added.0; standby = b.added.0 },
          b.added.1 ∙ ap (λ (e : Entry). mid.standby.history.entries ++ e ∷ []) is,
        ),
      )
  pair_kept start mid new lines entry (Err DiskFault) p on s t clock is (inl k) =
      let equal = equal_going mid.shop.stopped mid.standby.stopped mid.standby.torn mid.shop.history.entries
      mid.standby.history.entries on.shop on.standby p.beside in
      let a = k.0 in
      let entries : new.shop.history.entries ≡ mid.shop.history.entries = a.same in
      let others : new.standby.history.entries ≡ mid.standby.history.entries = ap (λ (c : ChainOnDisk M). c.history.entries) k.1 in
      let none : new.standby.stopped ≡ None = ap (λ (c : ChainOnDisk M). c.stopped) k.1 ∙ on.standby in (
        record {
          shop = s;
          shop_goes = goes_on tells on_disk faults start.shop mid.shop new.shop p.shop_goes a.goes;
          standby = t;
          standby_goes = subst (λ (c : ChainOnDisk M). GoesTo others_tell others_on_disk others_faults start.standby c) (sym k.1)
              p.standby_goes;
          clock = clock ∙ p.clock;
          issuer = ap (λ (c : ChainOnDisk M). c.history.issuer) k.1 ∙ p.issuer ∙ sym a.goes.issuer;
          version = ap (λ (c : ChainOnDisk M). c.history.version) k.1 ∙ p.version ∙ sym a.goes.version;
          equal = p.equal;
          beside = beside_shop new.shop.stopped new.standby.stopped new.standby.torn new.shop.history.entries
              new.standby.history.entries (faults new.shop.disk) a.fault.1 none (entries ∙ equal ∙ sym others);
          notes = same_notes start.shop.history.entries mid.shop.history.entries new.shop.history.entries p.notes entries;
          shop_rose = λ count e. rose_at (faults start.shop.disk) (faults mid.shop.disk) (faults new.shop.disk) count
              p.shop_goes.later a.fault.0 (sym a.fault.1 ∙ e);
          standby_rose = λ count e. absurd (let x : ◌≡◌ {A = Option ℕ} None (Some count) = sym none ∙ e in cc);
        },
        record {
          going_on = on;
          count = faults new.shop.disk;
          rose = inl (a.fault.0, refl);
          stopped = first_by new.shop.stopped new.standby.stopped (faults new.shop.disk) a.fault.1;
          stop = stop_first new.shop.stopped new.standby.stopped new.shop.torn new.standby.torn (faults new.shop.disk)
              (noted_next mid.standby.history.entries lines) a.fault.1
              (a.torn ∙ ap (λ (e : Entry). Some e) is) none;
          entries = others;
        },
      )
  pair_kept start mid new lines entry (Err DiskFault) p on s t clock is (inr k) =
      let equal = equal_going mid.shop.stopped mid.standby.stopped mid.standby.torn mid.shop.history.entries
      mid.standby.history.entries on.shop on.standby p.beside in
      let a = k.0 in
      let b = k.1 in
      let others : new.standby.history.entries ≡ mid.standby.history.entries = b.same in
      let next : entry ≡ noted_next new.standby.history.entries lines = is ∙ ap (λ (es : List Entry). noted_next es lines)
      (sym others) in (
        record {
          shop = s;
          shop_goes = goes_on tells on_disk faults start.shop mid.shop new.shop p.shop_goes a.goes;
          standby = t;
          standby_goes = goes_on others_tell others_on_disk others_faults start.standby mid.standby new.standby p.standby_goes b.goes;
          clock = clock ∙ p.clock;
          issuer = b.goes.issuer ∙ p.issuer ∙ sym a.goes.issuer;
          version = b.goes.version ∙ p.version ∙ sym a.goes.version;
          equal = p.equal;
          beside = beside_standby new.shop.stopped new.standby.stopped new.standby.torn new.shop.history.entries
              new.standby.history.entries (others_faults new.standby.disk) a.added.0 b.fault.1 (record {
                lines = lines;
                torn_is = b.torn ∙ ap (λ (e : Entry). Some e) next;
                is = a.added.1 ∙ ap (λ (es : List Entry). es ++ entry ∷ []) (equal ∙ sym others) ∙
                    ap (λ (e : Entry). new.standby.history.entries ++ e ∷ []) next;
              });
          notes = more_notes start.shop.history.entries mid.shop.history.entries new.shop.history.entries entry p.notes a.added.1
              (ap is_record is);
          shop_rose = λ count e. absurd (let x : ◌≡◌ {A = Option ℕ} None (Some count) = sym a.added.0 ∙ e in cc);
          standby_rose = λ count e. rose_at (others_faults start.standby.disk) (others_faults mid.standby.disk)
              (others_faults new.standby.disk) count p.standby_goes.later b.fault.0 (sym b.fault.1 ∙ e);
        },
        record {
          going_on = on;
          count = others_faults new.standby.disk;
          rose = inr (b.fault.0, refl);
          stopped = second_by new.shop.stopped new.standby.stopped (others_faults new.standby.disk) a.added.0 b.fault.1;
          stop = stop_second new.shop.stopped new.standby.stopped new.shop.torn new.standby.torn (others_faults new.standby.disk)
              (noted_next mid.standby.history.entries lines) a.added.0 b.fault.1
              (b.torn ∙ ap (λ (e : Entry). Some e) is);
          entries = others;
        },
      )
  pair_kept start mid new lines entry (Err (Stopped count)) p on s t clock is k = absurd k
  pair_kept start mid new lines entry (Err NoMemory) p on s t clock is k = absurd k

  -- room was made first
  pub notes_from : (old mid new : Both D C M) (lines : List Line) (r : Result (Unit {0}) StoreFault) → GoOn old → GoOn mid →
      IsUnmoved old mid → NotesBoth faults others_faults mid new lines r → (r ≡ Err NoMemory → ⊥) →
      NotesBoth faults others_faults old new lines r
  notes_from old mid new lines (Ok done) on then room n no_memory = (
    on,
    n.1,
    n.2 ∙ ap (λ (es : List Entry). es ++ noted_next es lines ∷ []) room.standby.entries,
  )
  notes_from old mid new lines (Err DiskFault) on then room t no_memory = record {
    going_on = on;
    count = t.count;
    rose = rose_before t.rose;
    stop = t.stop ∙ ap (λ (es : List Entry). item.Stop t.count (noted_next es lines) ∷ []) room.standby.entries;
    stopped = t.stopped;
    entries = t.entries ∙ room.standby.entries;
  }
    where
      rose_before : RoseTo faults others_faults mid new t.count → RoseTo faults others_faults old new t.count
      rose_before (inl h) = inl (subst (λ (d : D). Rose (faults d) t.count) room.shop.disk h.0, h.1)
      rose_before (inr h) = inr (subst (λ (d : M). Rose (others_faults d) t.count) room.standby.disk h.0, h.1)
  notes_from old mid new lines (Err (Stopped count)) on then room n no_memory =
      absurd (let x : ◌≡◌ {A = Option ℕ} None (Some count) = sym (none_first mid.shop.stopped mid.standby.stopped then.shop
      then.standby) ∙ n.0 in cc)
  notes_from old mid new lines (Err NoMemory) on then room n no_memory = absurd (no_memory refl)

  -- what keeps in both never wants memory
  pub keeps_roomless : (old new : Both D C M) (entry : Entry) (r : Result (Unit {0}) StoreFault) → Keeps old new entry r →
      r ≡ Err NoMemory → ⊥
  keeps_roomless old new entry r k e = subst (λ (x : Result (Unit {0}) StoreFault). Keeps old new entry x) e k

  -- the store kept it, and then the standby was called
  pub both_by : (old new : Both D C M) (entry : Entry) (r : Result (Unit {0}) StoreFault) →
      KeepsEntry {E = StoreFault} tells on_disk faults old.shop new.shop entry (Ok tt) →
      KeepsEntry others_tell others_on_disk others_faults old.standby new.standby entry r →
      OnErr r (r ≡ Err DiskFault) → Keeps old new entry r
  both_by old new entry (Ok done) a b cause = (a, b)
  both_by old new entry (Err DiskFault) a b cause = inr (a, b)
  both_by old new entry (Err (Stopped count)) a b cause = absurd cc
  both_by old new entry (Err NoMemory) a b cause = absurd cc

  -- the store's disk failed
  pub shop_failed : (old new : Both D C M) (entry : Entry) (fault : StoreFault) →
      KeepsEntry {E = StoreFault} tells on_disk faults old.shop new.shop entry (Err fault) → new.standby ≡ old.standby →
      ◌≡◌ {A = Result (Unit {0}) StoreFault} (Err fault) (Err DiskFault) → Keeps old new entry (Err fault)
  shop_failed old new entry DiskFault a same cause = inl (a, same)
  shop_failed old new entry (Stopped count) a same cause = absurd cc
  shop_failed old new entry NoMemory a same cause = absurd cc
