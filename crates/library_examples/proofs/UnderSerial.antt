-- What stands under a till and a serial once an ask was taken, or told again.
use Rattle.std.proofs.Common.{◌≡◌, ◌⊎◌, inl, inr, ℕ, suc, ◌+◌, ◌-◌, ◌≤◌, Bool, true, false, cond, List, [], ◌∷◌, ◌++◌, length}
use Rattle.std.proofs.Common.{Option, Some, None, Result, Ok, option_map, slice_get, refl, ap, sym, ◌∙◌, subst, arith}
use Rattle.std.proofs.Common.{eqb, eqb-true, eq-eqb}
use Rattle.std.specs.Prelude.{find, ◌==◌, ◌&&◌, IsTrue, OnOk}
use Rattle.std.specs.List.{enumerate_from}
use Rattle.std.specs.Option.{option_map_or}
use Rattle.std.proofs.lemmas.Bool.{cases_Bool}
use Rattle.std.proofs.lemmas.List.{append-nil, length-map}
use Rattle.std.proofs.lemmas.List.Elements.{filter_map-append}
use Rattle.std.proofs.lemmas.Option.{slice_get-map}
use Rattle.record_fields.specs.declared.versions.Version.{Version}
use Rattle.chain_disk.specs.OnDisk.{OnDisk}
use Rattle.chain_store.specs.Ready.{StoreCall, Takes}
use Rattle.journal.specs.declared.faults.StoreFault.{StoreFault}
use Rattle.record_codec.specs.declared.entry.Entry.{Entry}
use Rattle.record_codec.specs.declared.entry.Entry.TheVariants.{Rec}
use Rattle.record_fields.specs.declared.records.Sealed.{Sealed}
use Rattle.recovery.specs.Opening.{IsFound}
use Rattle.shop_core.specs.Answer.Plans.{answer, kept, kept_row}
use Rattle.shop_core.specs.Answer.Requests.{Asked}
use Rattle.shop_core.specs.History.{History, Row, receipt as receipt_at, recs, row_in, rows, sealed_at}
use Rattle.shop_core.specs.Answer.Making.{made_sealed}
use Rattle.shop_core.specs.Answer.Refusals.{refusal}
use Rattle.shop_core.specs.Answer.Replies.{IsReply, Tells}
use Rattle.shop_core.specs.declared.answer.Planned.{Planned}
use Rattle.shop_core.specs.declared.answer.Planned.TheVariants as planned
use Rattle.shop_core.specs.declared.answer.refusals.Refusal.{Refusal}
use Rattle.shop_core.specs.declared.answer.Reply.{Reply}
use Rattle.shop_core.specs.declared.answer.Reply.TheVariants.{Again, Taken}
use Rattle.shop_core.specs.declared.answer.receipts.Receipt.{Receipt}
use Rattle.library_examples.specs.Taking.{Answers, IsTicketAt, IsTicketOf, Shows}
use Rattle.library_examples.specs.declared.taking.Ticket.{Ticket}

-- what is found among elements numbered from n stands at its number
record FoundAt {A : Type 0} (xs : List A) (n place : ℕ) (x : A) : Type 0 where
  above : n ≤ place
  at : slice_get xs (place - n) ≡ Some x

found_here : {A : Type 0} (y : A) (ys : List A) (n place : ℕ) (x : A) (b : Bool) (rest : Option (ℕ × A)) →
    (rest ≡ Some (place, x) → FoundAt ys (n + 1) place x) → cond b (Some (n, y)) rest ≡ Some (place, x) →
    FoundAt (y ∷ ys) n place x
found_here {A} y ys n place x true rest later h =
    let pair : (n, y) ≡ (place, x) = cc in
    let same = ap (λ (p : ℕ × A). p.0) pair in
    let it = ap (λ (p : ℕ × A). p.1) pair in
    let none : place - n ≡ 0 = omega (arith, same) in
    record {
      above = omega (arith, same);
      at = ap (λ (k : ℕ). slice_get (y ∷ ys) k) none ∙ ap (λ (z : A). Some z) it;
    }
found_here y ys n place x false rest later h =
    let more = later h in
    let above = more.above in
    let one : place - n ≡ suc (place - (n + 1)) = omega (arith, above) in
    record { above = omega (arith, above); at = ap (λ (k : ℕ). slice_get (y ∷ ys) k) one ∙ more.at }

found_at : {A : Type 0} (test : A → Bool) (xs : List A) (n place : ℕ) (x : A) →
    find (λ (p : ℕ × A). test p.1) (enumerate_from n xs) ≡ Some (place, x) → FoundAt xs n place x
found_at test [] n place x e = absurd cc
found_at {A} test (y ∷ ys) n place x e =
    found_here y ys n place x (test y) (find (λ (p : ℕ × A). test p.1) (enumerate_from (n + 1) ys))
    (found_at test ys (n + 1) place x) e

at_later : {A : Type 0} (xs : List A) (place : ℕ) (b : Bool) → b ≡ false → cond b None (slice_get xs (place - 1)) ≡ slice_get xs
    (place - 1)
at_later xs place true e = absurd cc
at_later xs place false e = refl

not_zero : (n : ℕ) → 1 ≤ n → eqb n 0 ≡ false
not_zero n more = elim (cases_Bool (eqb n 0)) [
  | inl is ↦ absurd (let none : n ≡ 0 = eqb-true n 0 is in omega arith)
  | inr isnt ↦ isnt
]

-- the row that stands under a till and serial is that of the record at its place
pub row_sealed : (entries : List Entry) (till serial place : ℕ) (row : Row) → kept_row entries till serial ≡ Some (place, row) →
    sealed_at entries place ≡ Some row.sealed
row_sealed entries till serial place row e =
    let f = found_at (λ (r : Row). (r.till == till) && (r.serial == serial)) (rows entries) 1 place row e in
    at_later (recs entries) place (eqb place 0) (not_zero place f.above) ∙
    slice_get-map (λ (r : Row). r.sealed) (rows entries) (place - 1) ∙ ap (option_map (λ (r : Row). r.sealed)) f.at

-- a row stands under a till and serial, at this place
pub record StandsAt (entries : List Entry) (till serial place : ℕ) : Type 0 where
  pub row : Row
  pub stands : kept_row entries till serial ≡ Some (place, row)

-- a kept receipt is that of the row that stands there
of_receipt : (o : Option (ℕ × Row)) (told : Receipt) → option_map (λ (p : ℕ × Row). receipt_at p.0 p.1.sealed) o ≡ Some told →
    (row : Row) × (o ≡ Some (told.place, row))
of_receipt None told e = absurd cc
of_receipt (Some p) told e =
    let same : receipt_at p.0 p.1.sealed ≡ told = cc in
    (p.1, ap (λ (r : Receipt). Some (r.place, p.1)) same)

none_kept : (o : Option (ℕ × Row)) → option_map (λ (p : ℕ × Row). receipt_at p.0 p.1.sealed) o ≡ None → o ≡ None
none_kept None e = refl
none_kept (Some p) e = absurd cc

last_here : {A : Type 0} (b : Bool) (p q : ℕ × A) (rest then : Option (ℕ × A)) → cond b (Some p) rest ≡ None →
    (rest ≡ None → then ≡ Some q) → cond b (Some p) then ≡ Some q
last_here true p q rest then e later = absurd cc
last_here false p q rest then e later = later e

-- where none was found, the next one is the one found
found_last : {A : Type 0} (test : A → Bool) (xs : List A) (n : ℕ) (x : A) → test x ≡ true →
    find (λ (p : ℕ × A). test p.1) (enumerate_from n xs) ≡ None →
    find (λ (p : ℕ × A). test p.1) (enumerate_from n (xs ++ x ∷ [])) ≡ Some (n + length xs, x)
found_last test [] n x is e = rw is (ap (λ (k : ℕ). Some (k, x)) (let z : n ≡ n + 0 = omega arith in z))
found_last {A} test (y ∷ ys) n x is e =
    last_here (test y) (n, y) (n + length (y ∷ ys), x) (find (λ (p : ℕ × A). test p.1) (enumerate_from (n + 1) ys))
    (find (λ (p : ℕ × A). test p.1) (enumerate_from (n + 1) (ys ++ x ∷ []))) e
    (λ none. found_last test ys (n + 1) x is none ∙
    ap (λ (k : ℕ). Some (k, x)) (let z : n + 1 + length ys ≡ n + suc (length ys) = omega arith in z))

is_own : (till serial : ℕ) → ((till == till) && (serial == serial)) ≡ true
is_own till serial = rw (eq-eqb till till refl, eq-eqb serial serial refl)

-- a record of a till and serial that the history lacked stands under them after it
row_last : (entries : List Entry) (till serial : ℕ) (sealed : Sealed) → kept_row entries till serial ≡ None →
    kept_row (entries ++ Rec till serial sealed ∷ []) till serial ≡ Some
    (length (recs entries) + 1, record { till = till; serial = serial; sealed = sealed })
row_last entries till serial sealed none =
    let row : Row = record { till = till; serial = serial; sealed = sealed } in
    let test = λ (r : Row). (r.till == till) && (r.serial == serial) in
    ap (λ (l : List Row). find (λ (p : ℕ × Row). test p.1) (enumerate_from 1 l))
    (filter_map-append row_in entries (Rec till serial sealed ∷ [])) ∙
    found_last test (rows entries) 1 row (is_own till serial) none ∙
    ap (λ (k : ℕ). Some (k, row)) (let m = length-map (rows entries) (λ (r : Row). r.sealed) in
    let z : 1 + length (rows entries) ≡ length (recs entries) + 1 = omega (arith, m) in z)

module _ (entries : List Entry) (till serial : ℕ) (sealed : Sealed) (told : Receipt) (gained : List Entry) where
  abbrev Plan : Option Receipt → Option Refusal → Planned
  Plan keep refused =
      option_map_or planned.Again keep (option_map_or planned.Refused refused (planned.Made (Rec till serial sealed)))

  taken_by : (keep : Option Receipt) (refused : Option Refusal) → kept entries till serial ≡ keep →
      Tells entries (Plan keep refused) (Taken told) gained → StandsAt (entries ++ gained) till serial told.place
  taken_by (Some r) refused e t = absurd (let x = t.0 in cc)
  taken_by None (Some why) e t = absurd (let x = t.0 in cc)
  taken_by None None e t =
      let same : told ≡ receipt_at (length (recs entries) + 1) sealed = (let x = t.0 in cc) in
      let last = row_last entries till serial sealed (none_kept (kept_row entries till serial) e) in
      record {
        row = record { till = till; serial = serial; sealed = sealed };
        stands = ap (λ (l : List Entry). kept_row (entries ++ l) till serial) t.1 ∙ last ∙
            ap (λ (r : Receipt). Some (r.place, record { till = till; serial = serial; sealed = sealed })) (sym same);
      }

  again_by : (keep : Option Receipt) (refused : Option Refusal) → kept entries till serial ≡ keep →
      Tells entries (Plan keep refused) (Again told) gained → StandsAt (entries ++ gained) till serial told.place
  again_by (Some r) refused e t =
      let same : r ≡ told = (let x = t.0 in cc) in
      let row = of_receipt (kept_row entries till serial) told (e ∙ ap (λ (k : Receipt). Some k) same) in
      record {
        row = row.0;
        stands = ap (λ (l : List Entry). kept_row (entries ++ l) till serial) t.1 ∙
            ap (λ (l : List Entry). kept_row l till serial) (append-nil entries) ∙ row.1;
      }
  again_by None (Some why) e t = absurd (let x = t.0 in cc)
  again_by None None e t = absurd (let x = t.0 in cc)

abbrev call_of : History → History → (ℕ → Option ℕ) → (ℕ → Option ℕ) → Bool → OnDisk → OnDisk → StoreCall
call_of old new coming after tells t u = record {
  old = old;
  new = new;
  coming = coming;
  coming_after = after;
  tells = tells;
  disk = t;
  disk_after = u;
}

-- what is told as taken, or told again, stands under the ask's till and serial
pub told_stands : (old new : History) (ask : Asked) (coming after : ℕ → Option ℕ) (tells : Bool) (t u : OnDisk)
    (told : Result Reply StoreFault) (receipt : Receipt) → (told ≡ Ok (Taken receipt)) ⊎ (told ≡ Ok (Again receipt)) →
    Takes (call_of old new coming after tells t u) ask told → StandsAt new.entries ask.till ask.serial receipt.place
told_stands old new ask coming after tells t u told receipt which k =
    subst (λ (l : List Entry). StandsAt l ask.till ask.serial receipt.place) (sym k.entries) (by which)
  where
    sealed : Sealed
    sealed = made_sealed old.issuer old.entries ask.request k.seconds

    by : (told ≡ Ok (Taken receipt)) ⊎ (told ≡ Ok (Again receipt)) → StandsAt (old.entries ++ k.gained) ask.till ask.serial
        receipt.place
    by (inl e) = taken_by old.entries ask.till ask.serial sealed receipt k.gained (kept old.entries ask.till ask.serial)
        (refusal old.version old.issuer old.entries ask k.seconds) refl
        (subst (λ (r : Result Reply StoreFault). IsReply old.version old.issuer old.entries ask k.seconds r k.gained) e k.reply)
    by (inr e) = again_by old.entries ask.till ask.serial sealed receipt k.gained (kept old.entries ask.till ask.serial)
        (refusal old.version old.issuer old.entries ask k.seconds) refl
        (subst (λ (r : Result Reply StoreFault). IsReply old.version old.issuer old.entries ask k.seconds r k.gained) e k.reply)

-- what holds after Ok holds after these two
pub if_told : (told : Result Reply StoreFault) (receipt : Receipt) (P : Type 0) → (told ≡ Ok (Taken receipt)) ⊎
    (told ≡ Ok (Again receipt)) → OnOk told P → P
if_told told receipt P (inl e) h = subst (λ (r : Result Reply StoreFault). OnOk r P) e h
if_told told receipt P (inr e) h = subst (λ (r : Result Reply StoreFault). OnOk r P) e h

-- an ask that was answered so at what was found
pub answers : (tells : Bool) (issuer file : List ℕ) (old new : History) (ask : Asked) (coming after : ℕ → Option ℕ) (t u : OnDisk)
    (told : Result Reply StoreFault) (receipt : Receipt) → (told ≡ Ok (Taken receipt)) ⊎ (told ≡ Ok (Again receipt)) →
    Takes (call_of old new coming after tells t u) ask told → old.issuer ≡ issuer →
    (IsTrue tells → IsFound old.version issuer old.entries file) →
    Answers tells issuer file coming ask new.entries
answers tells issuer file old new ask coming after t u told receipt which k same found = by which
  where
    with_reply : (reply : Reply) → told ≡ Ok reply → Answers tells issuer file coming ask new.entries
    with_reply reply e = record {
      version = old.version;
      history = old.entries;
      found = found;
      seconds = k.seconds;
      reading = k.reading;
      reply = reply;
      gained = k.gained;
      told = subst (λ (i : List ℕ). Tells old.entries (answer old.version i old.entries ask k.seconds) reply k.gained) same
          (subst (λ (r : Result Reply StoreFault). IsReply old.version old.issuer old.entries ask k.seconds r k.gained) e
          k.reply);
      chain_is = k.entries;
    }

    by : (told ≡ Ok (Taken receipt)) ⊎ (told ≡ Ok (Again receipt)) → Answers tells issuer file coming ask new.entries
    by (inl e) = with_reply (Taken receipt) e
    by (inr e) = with_reply (Again receipt) e

-- the ticket of the record at the place that stands under the ask's till and serial
pub ticket_of_ask : (entries : List Entry) (ask : Asked) (place : ℕ) (ticket : Ticket) →
    StandsAt entries ask.till ask.serial place → IsTicketAt entries place ticket → IsTicketOf entries ask ticket
ticket_of_ask entries ask place ticket s k =
    let there = row_sealed entries ask.till ask.serial place s.row s.stands in
    let same : k.sealed ≡ s.row.sealed = (let e = sym k.at ∙ there in cc) in
    record {
      place = place;
      row = s.row;
      stands = s.stands;
      shows = subst (λ (r : Sealed). Shows r ticket) same k.shows;
    }
