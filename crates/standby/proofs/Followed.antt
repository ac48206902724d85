-- A standby follows each history that its pieces are of.
use Rattle.std.proofs.Common.{◌≡◌, inl, ℕ, List, [], ◌∷◌, ◌++◌, refl, sym, ◌∙◌, ap, subst, subst₂, append_assoc, Bool, IsTrue}
use Rattle.std.proofs.Common.{Option, Some, None, Result, Ok, Err}
use Rattle.std.specs.Prelude.{IsSome}
use Rattle.std.specs.List.{AllByRecursion}
use Rattle.chain_disk.specs.OnDisk.{OnDisk, LeavesNow, moment}
use Rattle.chain_disk.specs.Runs.{follows, started, weaker}
use Rattle.journal.specs.declared.faults.StoreFault.{StoreFault}
use Rattle.journal.specs.declared.faults.StoreFault.TheVariants.{DiskFault, Stopped, NoMemory}
use Rattle.shop_core.specs.Prefix.{IsPrefix}
use Rattle.record_codec.specs.Laws.{EncodingsAreApart}
use Rattle.record_codec.specs.Validity.{IsEncoding}
use Rattle.record_codec.specs.Writing.{entry_bytes}
use Rattle.record_codec.specs.declared.entry.Entry.{Entry}
use Rattle.record_codec.specs.declared.faults.BadEntry.TheVariants as bad
use Rattle.shop_core.specs.File.Laws.{OneHistory}
use Rattle.shop_core.specs.File.Files.{StandsBeforeOrWith}
use Rattle.shop_core.specs.Legal.{Legal}
use Rattle.record_fields.specs.declared.versions.Version.{Version}
use Rattle.standby.specs.Arriving.{ArrivesAs, Arrives, Brings}
use Rattle.standby.specs.Chains.{ChainOnDisk, GoesTo, IsSoundChain, longest, with_torn}
use Rattle.chain_store.specs.Crashes.{StandsBetween}
use Rattle.chain_store.specs.Losing.{none_lost, none_lost_in_both}
use Rattle.standby.specs.Following.{Follows, StandsForFront}
use Rattle.standby.specs.Pieces.{ArePiecesOf, IsPieceOf}
use Rattle.standby.specs.declared.arriving.Arrived.{Arrived}
use Rattle.standby.specs.declared.arriving.Arrived.TheVariants.{Kept, Old, Gap, Bad, Foreign}
use Rattle.standby.specs.declared.pieces.Piece.{Piece}
use Rattle.standby.proofs.Chained.{between_either, between_wider, between_with, goes_same, longest_begins}
use Rattle.standby.proofs.Fronts.{front_by, front_on, front_same, same_front}

pub all_parts : {A : Type 0} (P : A → Type 0) (xs ys : List A) → AllByRecursion P (xs ++ ys) →
    AllByRecursion P xs × AllByRecursion P ys
all_parts P [] ys all = (tt, all)
all_parts P (x ∷ xs) ys all = let rest = all_parts P xs ys all.1 in ((all.0, rest.0), rest.1)

-- an image of a sound chain, where it stands for a front of that history wherever the chain has stopped
image_follows : OneHistory → (version : Version) (issuer : List ℕ) (history : List Entry) (stopped : Option ℕ) (torn : Option Entry)
    (entries : List Entry) (c : List ℕ) → IsPrefix history entries →
    StandsBetween version issuer history (with_torn history stopped torn) c → (IsSome stopped → StandsForFront version issuer entries c) →
    StandsBetween version issuer history entries c
image_follows one version issuer history None torn entries c within b front = record {
  history = b.history;
  stands = b.stands;
  begins = b.begins;
  within = front_on b.history history entries b.within within;
}
image_follows one version issuer history (Some count) torn entries c within b front =
    let f : StandsForFront version issuer entries c = front refl in
    let same : f.history ≡ b.history = (one version version issuer issuer f.history b.history c f.stands b.stands).2 in
    record {
      history = b.history;
      stands = b.stands;
      begins = b.begins;
      within = subst (λ (es : List Entry). IsPrefix es entries) same f.within;
    }

module _ {D : Type 0} (tells : Bool) (on_disk : D → OnDisk) (faults : D → ℕ) where
  -- nothing came
  pub follows_same : OneHistory → (chain : ChainOnDisk D) → IsSoundChain tells on_disk faults chain → (pieces : List Piece) →
      Follows tells on_disk chain chain pieces
  follows_same one chain s pieces = λ entries legal within images are. record {
    issuer = refl;
    version = refl;
    within = within;
    begins = front_same chain.history.entries;
    images = λ says. started (on_disk chain.disk) (StandsBetween chain.history.version chain.history.issuer chain.history.entries entries)
        (λ c image. image_follows one chain.history.version chain.history.issuer chain.history.entries chain.stopped chain.torn entries c within
        (between_either chain.history.version chain.history.issuer chain.history.entries (longest chain) c
        (longest_begins chain.history.entries chain.stopped chain.torn) (s.images says c (inl (refl, image))))
        (λ some. images some says c (inl (refl, image))));
    never_loses = λ says. none_lost (on_disk chain.disk);
  }

  -- the one after the other
  pub follows_on : (a b c : ChainOnDisk D) (pieces others : List Piece) → Follows tells on_disk a b pieces →
      Follows tells on_disk b c others → Follows tells on_disk a c (pieces ++ others)
  follows_on a b c pieces others first second = λ entries legal within images are.
      let parts = all_parts (IsPieceOf a.history.version a.history.issuer entries) pieces others are in
      let f = first entries legal within images parts.0 in
      let there : IsSome b.stopped → IsTrue tells → LeavesNow (on_disk b.disk) (StandsForFront b.history.version b.history.issuer entries) =
      λ some says file left.
      let only = f.images says in
      let x = only.each (moment (on_disk b.disk)) file only.later left in
      subst₂ (λ (v : Version) (n : List ℕ). StandsForFront v n entries file) (sym f.version) (sym f.issuer)
      (record { history = x.history; stands = x.stands; within = x.within }) in
      let g = second entries (subst₂ (λ (v : Version) (n : List ℕ). Legal v n entries) (sym f.version) (sym f.issuer) legal) f.within there
      (subst₂ (λ (v : Version) (n : List ℕ). ArePiecesOf v n entries others) (sym f.version) (sym f.issuer) parts.1) in
      record {
        issuer = g.issuer ∙ f.issuer;
        version = g.version ∙ f.version;
        within = g.within;
        begins = front_on a.history.entries b.history.entries c.history.entries f.begins g.begins;
        images = λ says. follows (on_disk a.disk) (on_disk b.disk) (on_disk c.disk) _ _ _ (f.images says) (g.images says) (λ file h. h)
            (λ file h. between_wider a.history.version a.history.issuer a.history.entries b.history.entries entries entries file f.begins
            (front_same entries)
            (subst₂ (λ (v : Version) (n : List ℕ). StandsBetween v n b.history.entries entries file) f.version f.issuer h));
        never_loses = λ says. none_lost_in_both (on_disk a.disk) (on_disk b.disk) (on_disk c.disk) (f.never_loses says)
            (g.never_loses says);
      }

  -- pieces that weren't looked at do no harm
  pub follows_front : (a b : ChainOnDisk D) (pieces rest : List Piece) → Follows tells on_disk a b pieces →
      Follows tells on_disk a b (pieces ++ rest)
  follows_front a b pieces rest first = λ entries legal within images are.
      first entries legal within images (all_parts (IsPieceOf a.history.version a.history.issuer entries) pieces rest are).0

  -- an entry that a piece brought
  brought : EncodingsAreApart → (old new : ChainOnDisk D) (piece : Piece) (entry : Entry) →
      Brings tells on_disk faults old new piece entry → IsPrefix old.history.entries new.history.entries →
      IsPrefix new.history.entries (old.history.entries ++ entry ∷ []) → Follows tells on_disk old new (piece ∷ [])
  brought apart old new piece entry b begins short = λ entries legal within images are.
      let issuer = old.history.issuer in
      let version = old.history.version in
      let p : IsPieceOf version issuer entries piece = are.0 in
      let mine : IsEncoding version issuer entry piece.body = b.next.encoding in
      let bytes : entry_bytes version p.entry ≡ entry_bytes version entry = sym p.encoding.bytes ∙ mine.bytes in
      let same : p.entry ≡ entry = (apart version issuer p.entry entry [] [] p.encoding.issuer mine.issuer p.encoding.fields mine.fields
      (ap (λ (x : List ℕ). x ++ []) bytes)).0 in
      let parts = same_front old.history.entries p.before within.rest (p.entry ∷ p.after) (sym within.is ∙ p.stands)
      (sym b.next.place ∙ p.index) in
      let whole : entries ≡ (old.history.entries ++ entry ∷ []) ++ p.after =
      within.is ∙ ap (λ (l : List Entry). old.history.entries ++ l) parts.1 ∙
      ap (λ (e : Entry). old.history.entries ++ e ∷ p.after) same ∙
      sym (append_assoc old.history.entries (entry ∷ []) p.after) in
      let wider : IsPrefix (old.history.entries ++ entry ∷ []) entries = record { rest = p.after; is = whole } in
      record {
        issuer = b.goes.issuer;
        version = b.goes.version;
        within = front_on new.history.entries (old.history.entries ++ entry ∷ []) entries short wider;
        begins = begins;
        images = λ says. weaker (on_disk old.disk) (on_disk new.disk) (StandsBeforeOrWith version issuer old.history.entries entry) _
            (b.any_moment says)
            (λ c h. between_wider version issuer old.history.entries old.history.entries (old.history.entries ++ entry ∷ []) entries c
            (front_same old.history.entries) wider (between_with version issuer old.history.entries entry c h));
        never_loses = b.goes.never_loses;
      }

  module _ (one : OneHistory) (apart : EncodingsAreApart) (old new : ChainOnDisk D) (piece : Piece)
      (s : IsSoundChain tells on_disk faults old) where
    nothing : new ≡ old → Follows tells on_disk old new (piece ∷ [])
    nothing e = subst (λ (c : ChainOnDisk D). Follows tells on_disk old c (piece ∷ [])) (sym e) (follows_same one old s (piece ∷ []))

    going : (r : Result Arrived StoreFault) → Arrives tells on_disk faults old new piece r → Follows tells on_disk old new (piece ∷ [])
    going (Ok Old) a = nothing a.1
    going (Ok (Gap next)) a = nothing a.2
    going (Ok (Bad (bad.At at))) a = nothing a.1
    going (Ok (Bad bad.NoMemory)) a = absurd a
    going (Ok (Foreign why)) a = nothing a.1
    going (Ok Kept) k = brought apart old new piece k.entry k.brings (record { rest = k.entry ∷ []; is = k.entries })
        (front_by new.history.entries (old.history.entries ++ k.entry ∷ []) (sym k.entries))
    going (Err DiskFault) t = brought apart old new piece t.entry t.brings (front_by old.history.entries new.history.entries
        t.entries)
        (record { rest = t.entry ∷ []; is = ap (λ (es : List Entry). es ++ t.entry ∷ []) (sym t.entries) })
    going (Err (Stopped count)) a = absurd a
    going (Err NoMemory) a = nothing a

    by_stop : (stopped : Option ℕ) → old.stopped ≡ stopped → (r : Result Arrived StoreFault) →
        (old.stopped ≡ None → Arrives tells on_disk faults old new piece r) → (IsSome old.stopped → new ≡ old) →
        Follows tells on_disk old new (piece ∷ [])
    by_stop None e r arrives untouched = going r (arrives e)
    by_stop (Some count) e r arrives untouched =
        nothing (untouched (subst (λ (o : Option ℕ). IsSome o) (sym e) refl))

    pub arrived_follows : (r : Result Arrived StoreFault) → (old.stopped ≡ None → Arrives tells on_disk faults old new piece r) →
        (IsSome old.stopped → new ≡ old) → Follows tells on_disk old new (piece ∷ [])
    arrived_follows r arrives untouched = by_stop old.stopped refl r arrives untouched

  module _ (old new : ChainOnDisk D) (piece : Piece) (s : IsSoundChain tells on_disk faults old) where
    stayed : new ≡ old → GoesTo tells on_disk faults old new
    stayed e = subst (λ (c : ChainOnDisk D). GoesTo tells on_disk faults old c) (sym e) (goes_same tells on_disk faults old s)

    goes_going : (r : Result Arrived StoreFault) → Arrives tells on_disk faults old new piece r → GoesTo tells on_disk faults old new
    goes_going (Ok Old) a = stayed a.1
    goes_going (Ok (Gap next)) a = stayed a.2
    goes_going (Ok (Bad (bad.At at))) a = stayed a.1
    goes_going (Ok (Bad bad.NoMemory)) a = absurd a
    goes_going (Ok (Foreign why)) a = stayed a.1
    goes_going (Ok Kept) k = k.brings.goes
    goes_going (Err DiskFault) t = t.brings.goes
    goes_going (Err (Stopped count)) a = absurd a
    goes_going (Err NoMemory) a = stayed a

    goes_by_stop : (stopped : Option ℕ) → old.stopped ≡ stopped → (r : Result Arrived StoreFault) →
        (old.stopped ≡ None → Arrives tells on_disk faults old new piece r) → (IsSome old.stopped → new ≡ old) →
        GoesTo tells on_disk faults old new
    goes_by_stop None e r arrives untouched = goes_going r (arrives e)
    goes_by_stop (Some count) e r arrives untouched = stayed (untouched (subst (λ (o : Option ℕ). IsSome o) (sym e) refl))

    pub arrived_goes : (r : Result Arrived StoreFault) → (old.stopped ≡ None → Arrives tells on_disk faults old new piece r) →
        (IsSome old.stopped → new ≡ old) → GoesTo tells on_disk faults old new
    arrived_goes r arrives untouched = goes_by_stop old.stopped refl r arrives untouched

  -- what it answered says what became of the history
  pub arrived_as : (old new : ChainOnDisk D) (piece : Piece) (answer : Arrived) →
      Arrives tells on_disk faults old new piece (Ok answer) →
      ArrivesAs old.history.version old.history.issuer old.history.entries piece answer new.history.entries
  arrived_as old new piece Old a = (a.0, ap (λ (c : ChainOnDisk D). c.history.entries) a.1)
  arrived_as old new piece (Gap next) a = (a.0, a.1, ap (λ (c : ChainOnDisk D). c.history.entries) a.2)
  arrived_as old new piece (Bad (bad.At at)) a = (a.0, ap (λ (c : ChainOnDisk D). c.history.entries) a.1)
  arrived_as old new piece (Bad bad.NoMemory) a = absurd a
  arrived_as old new piece (Foreign why) a = (a.0, ap (λ (c : ChainOnDisk D). c.history.entries) a.1)
  arrived_as old new piece Kept k = (k.entry, k.brings.next, k.entries)
