-- What a till's own items are after asks of its own.
use Rattle.std.proofs.Common.{◌≡◌, ℕ, ◌+◌, ◌<◌, ◌≤◌, ◌==◌, Bool, true, false, List, [], ◌∷◌, ◌++◌, length, map, Option, Some}
use Rattle.std.proofs.Common.{None, Result, Ok, Err, refl, ap, sym, ◌∙◌, subst, arith}
use Rattle.std.specs.Prelude.{◌≢◌}
use Rattle.std.specs.List.{enumerate_from}
use Rattle.std.specs.Option.{option_map_or}
use Rattle.std.proofs.lemmas.Bool.Decides.{nat_tests}
use Rattle.std.proofs.lemmas.List.{append-nil, map-append, length-append, append_cancel_left}
use Rattle.record_fields.specs.declared.versions.Version.{Version}
use Rattle.chain_lock.specs.Known.{Known, IsNew}
use Rattle.chain_lock.specs.Lists.{EachOf, StartsWith}
use Rattle.journal.specs.declared.faults.StoreFault.{StoreFault}
use Rattle.journal.specs.declared.faults.StoreFault.TheVariants.{DiskFault, Stopped, NoMemory}
use Rattle.record_codec.specs.declared.entry.Entry.{Entry}
use Rattle.record_codec.specs.declared.entry.Entry.TheVariants.{Rec, Notes}
use Rattle.shop_core.specs.Answer.Plans.{answer, kept}
use Rattle.shop_core.specs.Answer.Refusals.{refusal}
use Rattle.shop_core.specs.Answer.Requests.{Asked}
use Rattle.shop_core.specs.History.{recs}
use Rattle.shop_core.specs.declared.items.Item.{Item}
use Rattle.shop_core.specs.declared.items.Item.TheVariants as item
use Rattle.shop_core.specs.Answer.Making.{made_sealed}
use Rattle.shop_core.specs.Answer.Replies.{IsTakenAt, Tells}
use Rattle.shop_core.specs.declared.answer.Planned.{Planned}
use Rattle.shop_core.specs.declared.answer.Planned.TheVariants as planned
use Rattle.shop_core.specs.declared.answer.refusals.Refusal.{Refusal}
use Rattle.shop_core.specs.declared.answer.Reply.{Reply}
use Rattle.shop_core.specs.declared.answer.Reply.TheVariants.{Taken, Again, Refused}
use Rattle.shop_core.specs.declared.answer.receipts.Receipt.{Receipt}
use Rattle.till_calls.specs.Root.{Root}
use Rattle.till_calls.specs.Own.{is_by, is_of, records_of, AreTaken}
use Rattle.till_calls.specs.Client.{TillRun}
use Rattle.till_calls.specs.Client.TillRun.{begun, asked}
use Rattle.till_calls.specs.Shop.{Asks}
use Rattle.till_calls.specs.Turns.{TillDoes}
use Rattle.till_calls.proofs.Places.{Rises}

-- the items that a pass added, in order
abbrev added : {R : Type 0} → Known Item R → List Item
added k = map (λ (x : ℕ × Item). x.1) k.own

-- What a till has after asks of its own. Its own items are records of it that were told as taken, and stops over one, in order
pub record IsServed {R : Type 0} (till : ℕ) (replies : List (Result Reply StoreFault)) (start : ℕ) (k : Known Item R) : Type 0
  where
    pub rises : Rises start (length k.seen) k.own
    pub taken : AreTaken replies (records_of till (added k))
    pub others : (other : ℕ) → other ≢ till → EachOf (λ (x : ℕ × Item). is_of other x.1 ≡ false) k.own
    pub only : EachOf (λ (x : ℕ × Item). is_by till x.1 ≡ true) k.own

made_of : (o : Option Receipt) (w : Option Refusal) (m e : Entry) → option_map_or planned.Again o (option_map_or planned.Refused w
    (planned.Made m)) ≡ planned.Made e → e ≡ m
made_of (Some r) w m e h = absurd (let x = h in cc)
made_of None (Some why) m e h = absurd (let x = h in cc)
made_of None None m e h = let x = h in cc

-- what an ask makes is a record of its till
of_its_till : (version : Version) (issuer : List ℕ) (history : List Entry) (ask : Asked) (seconds : ℕ) (e : Entry) →
    answer version issuer history ask seconds
    ≡ planned.Made e → is_of ask.till (item.Entry e) ≡ true
of_its_till version issuer history ask seconds e h =
    let is : e ≡ Rec ask.till ask.serial (made_sealed issuer history ask.request seconds) =
    made_of (kept history ask.till ask.serial) (refusal version issuer history ask seconds)
    (Rec ask.till ask.serial (made_sealed issuer history ask.request seconds)) e h in
    subst (λ (x : Entry). is_of ask.till (item.Entry x) ≡ true) (sym is) (let t : (ask.till == ask.till) ≡ true =
    grind (arith, nat_tests) in t)

of_no_other : (other till : ℕ) (e : Entry) → other ≢ till → is_of till (item.Entry e) ≡ true → is_of other (item.Entry e) ≡ false
of_no_other other till (Rec own serial sealed) apart h = let x : own ≡ till = grind (arith, nat_tests, h) in
    let ne : own ≡ other → ⊥ = (λ y. apart (sym y ∙ x)) in let t : (own == other) ≡ false = grind (arith, nat_tests, ne) in t
of_no_other other till (Notes first lines) apart h = refl

-- what was told of an ask, and what its history gained
gains_taken : (history : List Entry) (p : Planned) (receipt : Receipt) (gained : List Entry) → Tells history p (Taken receipt)
    gained →
    (e : Entry) × (p ≡ planned.Made e) × IsTakenAt (length (recs history) + 1) e (Taken receipt) × (gained ≡ e ∷ [])
gains_taken history (planned.Again r) receipt gained t = absurd (let x = t.0 in cc)
gains_taken history (planned.Refused w) receipt gained t = absurd (let x = t.0 in cc)
gains_taken history (planned.Made e) receipt gained t = (e, refl, t.0, t.1)

not_told : (place : ℕ) (e : Entry) (reply : Reply) → ((r : Receipt) → reply ≡ Taken r → ⊥) → IsTakenAt place e reply → ⊥
not_told place (Rec till serial sealed) reply never t = never _ t
not_told place (Notes first lines) reply never t = t

gains_none : (history : List Entry) (p : Planned) (reply : Reply) (gained : List Entry) → ((r : Receipt) → reply ≡ Taken r → ⊥) →
    Tells history p reply gained → gained ≡ []
gains_none history (planned.Again r) reply gained never t = t.1
gains_none history (planned.Refused w) reply gained never t = t.1
gains_none history (planned.Made e) reply gained never t = absurd (not_told (length (recs history) + 1) e reply never t.0)

pub rises_more : {I : Type 0} (low high longer : ℕ) (own : List (ℕ × I)) → high ≤ longer → Rises low high own →
    Rises low longer own
rises_more low high longer [] le r = omega (arith, le, r)
rises_more low high longer (x ∷ xs) le r = (r.0, omega (arith, le, r.1), rises_more (x.0 + 1) high longer xs le r.2)

rises_snoc : {I : Type 0} (low high p longer : ℕ) (x : I) (own : List (ℕ × I)) → high ≤ p → p < longer → Rises low high own →
    Rises low longer (own ++ (p, x) ∷ [])
rises_snoc low high p longer x [] le lt r = (omega (arith, le, r), lt, omega (arith, lt))
rises_snoc low high p longer x (y ∷ ys) le lt r = (
  r.0,
  omega (arith, le, lt, r.1),
  rises_snoc (y.0 + 1) high p longer x ys le lt
      r.2,
)

pub each_snoc : {A : Type 0} (P : A → Type 0) (xs : List A) (y : A) → EachOf P xs → P y → EachOf P (xs ++ y ∷ [])
each_snoc P [] y h p = (p, tt)
each_snoc P (x ∷ xs) y h p = (h.0, each_snoc P xs y h.1 p)

pub each_front : {A : Type 0} (P : A → Type 0) (xs : List A) (y : A) → EachOf P (xs ++ y ∷ []) → EachOf P xs × P y
each_front P [] y h = (tt, h.0)
each_front P (x ∷ xs) y h = ((h.0, (each_front P xs y h.1).0), (each_front P xs y h.1).1)

taken_none : (replies : List (Result Reply StoreFault)) (reply : Result Reply StoreFault) (items : List Item) →
    ((r : Receipt) → reply ≡ Ok (Taken r) → ⊥) → AreTaken replies items →
    AreTaken (replies ++ reply ∷ []) items
taken_none [] (Ok (Taken r)) items never h = absurd (never r refl)
taken_none [] (Ok (Again r)) items never h = h
taken_none [] (Ok (Refused w)) items never h = h
taken_none [] (Err fault) items never h = h
taken_none (Ok (Taken r) ∷ rs) reply items never h = (h.0, h.1, h.2, h.3, h.4, taken_none rs reply h.2 never h.5)
taken_none (Ok (Again r) ∷ rs) reply items never h = taken_none rs reply items never h
taken_none (Ok (Refused w) ∷ rs) reply items never h = taken_none rs reply items never h
taken_none (Err fault ∷ rs) reply items never h = taken_none rs reply items never h

taken_snoc : (replies : List (Result Reply StoreFault)) (receipt : Receipt) (items : List Item) (e : Entry) (place : ℕ) →
    IsTakenAt place e (Taken receipt) → AreTaken replies items →
    AreTaken (replies ++ Ok (Taken receipt) ∷ []) (items ++ item.Entry e ∷ [])
taken_snoc [] receipt items e place told h = (e, place, [], ap (λ (l : List Item). l ++ item.Entry e ∷ []) h, told, refl)
taken_snoc (Ok (Taken r) ∷ rs) receipt items e place told h = (
  h.0,
  h.1,
  h.2 ++ item.Entry e ∷ [],
  ap (λ (l : List Item). l ++ item.Entry e ∷ []) h.3,
  h.4,
  taken_snoc rs receipt h.2 e place told h.5,
)
taken_snoc (Ok (Again r) ∷ rs) receipt items e place told h = taken_snoc rs receipt items e place told h
taken_snoc (Ok (Refused w) ∷ rs) receipt items e place told h = taken_snoc rs receipt items e place told h
taken_snoc (Err fault ∷ rs) receipt items e place told h = taken_snoc rs receipt items e place told h

filter_snoc : (till : ℕ) (xs : List Item) (x : Item) → records_of till (xs ++ x ∷ []) ≡ records_of till xs ++ records_of till
    (x ∷ [])
filter_snoc till [] x = refl
filter_snoc till (y ∷ ys) x = by_test (is_of till y) refl (filter_snoc till ys x)
  where
    by_test : (b : Bool) → is_of till y ≡ b → records_of till (ys ++ x ∷ []) ≡ records_of till ys ++ records_of till (x ∷ []) →
        records_of till ((y ∷ ys) ++ x ∷ []) ≡ records_of till (y ∷ ys) ++ records_of till (x ∷ [])
    by_test true e h = rw e (ap (λ (l : List Item). y ∷ l) h)
    by_test false e h = rw e h

turn_adds : (history gained : List Entry) (before more : List Item) → before ≡ map item.Entry history →
    before ++ more ≡ map item.Entry (history ++ gained) → more ≡ map item.Entry gained
turn_adds history gained before more going is =
    append_cancel_left before more (map item.Entry gained) (is ∙ map-append (λ (e : Entry). item.Entry e) history gained ∙
    ap (λ (l : List Item). l ++ map item.Entry gained) (sym going))

longer_than : (seen before : List Item) → StartsWith before seen → length seen ≤ length before
longer_than seen before h = let e = ap (λ (l : List Item). length l) h.1 in let f = length-append seen h.0 in omega (arith, e, f)

module _ {C : Type 0} (till : ℕ) (start : ℕ) where
  abbrev Served : List (Result Reply StoreFault) → Known Item (Root C) → Type 0
  Served replies k = IsServed till replies start k

  -- the pass after a turn that found these items and added those
  abbrev after : Known Item (Root C) → List Item → List Item → Known Item (Root C)
  after old before more = record old {
    seen = before ++ more;
    least = length (before ++ more);
    own = old.own ++ enumerate_from (length before) more;
  }

  serves_none : (replies : List (Result Reply StoreFault)) (reply : Result Reply StoreFault) (old : Known Item (Root C))
      (before : List Item) → length old.seen ≤ length before →
      ((r : Receipt) → reply ≡ Ok (Taken r) → ⊥) → Served replies old → Served (replies ++ reply ∷ []) (after old before [])
  serves_none replies reply old before longer never s = record {
    rises = subst (λ (o : List (ℕ × Item)). Rises start (length (before ++ [])) o) (sym (append-nil old.own))
        (rises_more start (length old.seen) (length (before ++ [])) old.own (let e = length-append before [] in
        omega (arith, e, longer)) s.rises);
    taken = subst (λ (o : List (ℕ × Item)). AreTaken (replies ++ reply ∷ []) (records_of till (map (λ (x : ℕ × Item). x.1) o)))
        (sym (append-nil old.own))
        (taken_none replies reply (records_of till (added old)) never s.taken);
    others = λ other apart. subst (λ (o : List (ℕ × Item)). EachOf (λ (x : ℕ × Item). is_of other x.1 ≡ false) o)
        (sym (append-nil old.own)) (s.others other apart);
    only = subst (λ (o : List (ℕ × Item)). EachOf (λ (x : ℕ × Item). is_by till x.1 ≡ true) o) (sym (append-nil old.own)) s.only;
  }

  serves_one : (replies : List (Result Reply StoreFault)) (reply : Result Reply StoreFault) (old : Known Item (Root C))
      (before : List Item) (x : Item) → length old.seen ≤ length before →
      ((other : ℕ) → other ≢ till → is_of other x ≡ false) → is_by till x ≡ true →
      (AreTaken replies (records_of till (added old)) → AreTaken (replies ++ reply ∷ []) (records_of till (added old) ++
      records_of till (x ∷ []))) →
      Served replies old → Served (replies ++ reply ∷ []) (after old before (x ∷ []))
  serves_one replies reply old before x longer apart mine told s = record {
    rises = rises_snoc start (length old.seen) (length before) (length (before ++ x ∷ [])) x old.own longer
        (let e = length-append before (x ∷ []) in omega (arith, e)) s.rises;
    taken = subst (λ (l : List Item). AreTaken (replies ++ reply ∷ []) l)
        (sym (ap (λ (l : List Item). records_of till l) (map-append (λ (y : ℕ × Item). y.1) old.own ((length before, x) ∷ [])) ∙
        filter_snoc till (added old) x)) (told s.taken);
    others = λ other ne. each_snoc (λ (y : ℕ × Item). is_of other y.1 ≡ false) old.own (length before, x) (s.others other ne)
        (apart other ne);
    only = each_snoc (λ (y : ℕ × Item). is_by till y.1 ≡ true) old.own (length before, x) s.only mine;
  }

  -- one more ask of the till
  serves_turn : (coming : C → ℕ → Option ℕ) (ask : Asked) (reply : Result Reply StoreFault)
      (replies : List (Result Reply StoreFault)) (old : Known Item (Root C)) (home : Root C) (before more : List Item) →
      ask.till ≡ till → length old.seen ≤ length before → TillDoes coming ask reply home before (before ++ more) →
      Served replies old → Served (replies ++ reply ∷ []) (after old before more)
  serves_turn coming ask (Ok (Taken receipt)) replies old home before more same longer a s =
      let g = gains_taken a.history (answer home.version home.issuer a.history ask a.seconds) receipt a.gained a.tells in
      let one : more ≡ item.Entry g.0 ∷ [] = turn_adds a.history a.gained before more a.going_on a.after_is ∙
      ap (λ (l : List Entry). map item.Entry l) g.3 in
      let own : is_of till (item.Entry g.0) ≡ true = subst (λ (n : ℕ). is_of n (item.Entry g.0) ≡ true) same
      (of_its_till home.version home.issuer a.history ask a.seconds g.0 g.1) in
      let told : AreTaken replies (records_of till (added old)) → AreTaken (replies ++ Ok (Taken receipt) ∷ [])
      (records_of till (added old) ++ records_of till (item.Entry g.0 ∷ [])) =
      λ h. subst (λ (l : List Item). AreTaken (replies ++ Ok (Taken receipt) ∷ []) (records_of till (added old) ++ l))
      (let e : item.Entry g.0 ∷ [] ≡ records_of till (item.Entry g.0 ∷ []) = rw own refl in e)
      (taken_snoc replies receipt (records_of till (added old)) g.0 (length (recs a.history) + 1) g.2 h) in
      subst (λ (l : List Item). Served (replies ++ Ok (Taken receipt) ∷ []) (after old before l)) (sym one)
      (serves_one replies (Ok (Taken receipt)) old before (item.Entry g.0) longer (λ other apart. of_no_other other till g.0 apart
      own) own told s)
  serves_turn coming ask (Ok (Again receipt)) replies old home before more same longer a s =
      let none : more ≡ [] = turn_adds a.history a.gained before more a.going_on a.after_is
      ∙ ap (λ (l : List Entry). map item.Entry l) (gains_none a.history (answer home.version home.issuer a.history ask a.seconds)
      (Again receipt) a.gained (λ r e. absurd (let x = e in cc)) a.tells) in
      subst (λ (l : List Item). Served (replies ++ Ok (Again receipt) ∷ []) (after old before l)) (sym none)
      (serves_none replies (Ok (Again receipt)) old before longer (λ r e. absurd (let x = e in cc)) s)
  serves_turn coming ask (Ok (Refused why)) replies old home before more same longer a s =
      let none : more ≡ [] = turn_adds a.history a.gained before more a.going_on a.after_is
      ∙ ap (λ (l : List Entry). map item.Entry l) (gains_none a.history (answer home.version home.issuer a.history ask a.seconds)
      (Refused why)
      a.gained (λ r e. absurd (let x = e in cc)) a.tells) in
      subst (λ (l : List Item). Served (replies ++ Ok (Refused why) ∷ []) (after old before l)) (sym none)
      (serves_none replies (Ok (Refused why)) old before longer (λ r e. absurd (let x = e in cc)) s)
  serves_turn coming ask (Err DiskFault) replies old home before more same longer t s =
      let one : more ≡ item.Stop t.count t.torn ∷ [] = append_cancel_left before more (item.Stop t.count t.torn ∷ [])
      (t.after_is ∙ ap (λ (l : List Item). l ++ item.Stop t.count t.torn ∷ []) (sym t.going_on)) in
      subst (λ (l : List Item). Served (replies ++ Err DiskFault ∷ []) (after old before l)) (sym one)
      (serves_one replies (Err DiskFault) old before (item.Stop t.count t.torn) longer (λ other apart. refl)
      (subst (λ (n : ℕ). is_of n (item.Entry t.torn) ≡ true) same (of_its_till home.version home.issuer t.history ask t.seconds
      t.torn t.made))
      (λ h. taken_none replies (Err DiskFault) (records_of till (added old) ++ []) (λ r e. absurd (let x = e in cc))
      (subst (λ (l : List Item). AreTaken replies l) (sym (append-nil (records_of till (added old)))) h)) s)
  serves_turn coming ask (Err (Stopped count)) replies old home before more same longer t s =
      let none : more ≡ [] = append_cancel_left before more [] (t.0 ∙ sym (append-nil before)) in
      subst (λ (l : List Item). Served (replies ++ Err (Stopped count) ∷ []) (after old before l)) (sym none)
      (serves_none replies (Err (Stopped count)) old before longer (λ r e. absurd (let x = e in cc)) s)
  serves_turn coming ask (Err NoMemory) replies old home before more same longer t s =
      let none : more ≡ [] = append_cancel_left before more [] (t.0 ∙ sym (append-nil before)) in
      subst (λ (l : List Item). Served (replies ++ Err NoMemory ∷ []) (after old before l)) (sym none)
      (serves_none replies (Err NoMemory) old before longer (λ r e. absurd (let x = e in cc)) s)

  serves_ask : (coming : C → ℕ → Option ℕ) (ask : Asked) (reply : Result Reply StoreFault)
      (replies : List (Result Reply StoreFault)) (old new : Known Item (Root C)) → ask.till ≡ till →
      Asks coming ask reply old new → Served replies old → Served (replies ++ reply ∷ []) new
  serves_ask coming ask reply replies old new same turn s =
      subst (λ (k : Known Item (Root C)). Served (replies ++ reply ∷ []) k) (sym turn.after)
      (serves_turn coming ask reply replies old turn.home turn.before turn.added same (longer_than old.seen turn.before
      turn.begins) turn.related.does s)

  -- a run of asks of the till
  pub serves_run : (coming : C → ℕ → Option ℕ) (old new : Known Item (Root C)) (asks : List Asked)
      (replies : List (Result Reply StoreFault)) → EachOf (λ (a : Asked). a.till ≡ till) asks →
      Served [] old → TillRun coming old asks replies new → Served replies new
  serves_run coming old new asks replies all s begun = s
  serves_run coming old new asks' replies' all s (asked asks replies mid _ ask reply run this) =
      serves_ask coming ask reply replies mid new (each_front (λ (a : Asked). a.till ≡ till) asks ask all).1 this
      (serves_run coming old mid asks replies (each_front (λ (a : Asked). a.till ≡ till) asks ask all).0 s run)

  pub served_new : (items : List Item) (root : Root C) (k : Known Item (Root C)) → start ≡ length items → IsNew items root k →
      Served [] k
  served_new items root k is new = record {
    rises = subst (λ (o : List (ℕ × Item)). Rises start (length k.seen) o) (sym new.own) (let e = ap (λ (l : List Item). length l)
        new.seen in omega (arith, e, is));
    taken = ap (λ (o : List (ℕ × Item)). records_of till (map (λ (x : ℕ × Item). x.1) o)) new.own;
    others = λ other apart. subst (λ (o : List (ℕ × Item)). EachOf (λ (x : ℕ × Item). is_of other x.1 ≡ false) o) (sym new.own)
        tt;
    only = subst (λ (o : List (ℕ × Item)). EachOf (λ (x : ℕ × Item). is_by till x.1 ≡ true) o) (sym new.own) tt;
  }
