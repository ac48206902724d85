-- The records of the commands that were answered as taken.
use Rattle.std.proofs.Common.{◌≡◌, ◌≤◌, ℕ, ◌+◌, ◌==◌, List, [], ◌∷◌, ◌++◌, append-nil, append_assoc, length, drop}
use Rattle.std.proofs.Common.{refl, sym, ◌∙◌, ap, subst, arith, Bool, true, false, cond, Option, Some, None, Result, Ok, Err}
use Rattle.std.specs.Prelude.{if◌then◌else◌}
use Rattle.std.specs.List.{AllByRecursion}
use Rattle.std.specs.Option.{option_map_or}
use Rattle.std.proofs.lemmas.List.{drop-append-le, length-append}
use Rattle.std.proofs.lemmas.List.Elements.{filter-append}
use Rattle.record_fields.specs.declared.versions.Version.{Version}
use Rattle.journal.specs.declared.faults.StoreFault.{StoreFault}
use Rattle.journal.specs.declared.faults.StoreFault.TheVariants as fault
use Rattle.shop_core.specs.Prefix.{IsPrefix}
use Rattle.record_codec.specs.declared.entry.Entry.{Entry}
use Rattle.record_codec.specs.declared.entry.Entry.TheVariants.{Rec}
use Rattle.record_fields.specs.declared.records.Sealed.{Sealed}
use Rattle.shop_core.specs.History.{recs}
use Rattle.shop_core.specs.Answer.Making.{made_sealed}
use Rattle.shop_core.specs.Answer.Plans.{answer, kept}
use Rattle.shop_core.specs.Answer.Refusals.{refusal}
use Rattle.shop_core.specs.Answer.Replies.{IsReply, IsTaken, Tells}
use Rattle.shop_core.specs.Answer.Requests.{Asked}
use Rattle.shop_core.specs.declared.answer.Planned.TheVariants.{Again, Refused, Made}
use Rattle.shop_core.specs.declared.answer.refusals.Refusal.{Refusal}
use Rattle.shop_core.specs.declared.answer.Reply.{Reply}
use Rattle.shop_core.specs.declared.answer.Reply.TheVariants as reply
use Rattle.shop_core.specs.declared.answer.receipts.Receipt.{Receipt}
use Rattle.verifactu.specs.TillPromise.{AreAccepted}
use Rattle.chain_store.specs.Replies.{Replies}
use Rattle.sender_beside.specs.Tills.{AreTaken, ServedRun, is_from, own_of}
use Rattle.sender_beside.specs.Tills.ServedRun.{unasked, answered, torn, stopped, without_memory}
use Rattle.sender_session.proofs.Lists.{each_front}

pub accepted_append : (asks more : List Asked) (first second : Replies) (es gs : List Entry) → AreAccepted asks first es →
    AreAccepted more second gs → AreAccepted (asks ++ more) (first ++ second) (es ++ gs)
accepted_append [] more [] second es gs none h = subst (λ (l : List Entry). AreAccepted more second (l ++ gs)) (sym none) h
accepted_append [] more (told ∷ first) second es gs h k = absurd h
accepted_append (ask ∷ asks) more [] second es gs h k = absurd h
accepted_append (ask ∷ asks) more (Ok (reply.Taken told) ∷ first) second es gs h k = (
  h.0,
  h.1,
  h.2 ++ gs,
  ap (λ (l : List Entry). l ++ gs) h.3,
  h.4,
  accepted_append asks more first second h.2 gs h.5 k,
)
accepted_append (ask ∷ asks) more (Ok (reply.Again told) ∷ first) second es gs h k =
    accepted_append asks more first second es gs h k
accepted_append (ask ∷ asks) more (Ok (reply.Refused why) ∷ first) second es gs h k =
    accepted_append asks more first second es gs h k
accepted_append (ask ∷ asks) more (Err why ∷ first) second es gs h k = accepted_append asks more first second es gs h k

again_accepted : (ask : Asked) (told : Reply) (old : Receipt) → told ≡ reply.Again old →
    AreAccepted (ask ∷ []) (Ok told ∷ []) []
again_accepted ask told old e = subst (λ (r : Reply). AreAccepted (ask ∷ []) (Ok r ∷ []) []) (sym e) refl

refused_accepted : (ask : Asked) (told : Reply) (why : Refusal) → told ≡ reply.Refused why →
    AreAccepted (ask ∷ []) (Ok told ∷ []) []
refused_accepted ask told why e = subst (λ (r : Reply). AreAccepted (ask ∷ []) (Ok r ∷ []) []) (sym e) refl

one_accepted : (entries : List Entry) (ask : Asked) (sealed : Sealed) (told : Reply) →
    IsTaken entries (Rec ask.till ask.serial sealed) told →
    AreAccepted (ask ∷ []) (Ok told ∷ []) (Rec ask.till ask.serial sealed ∷ [])
one_accepted entries ask sealed told e =
    subst (λ (r : Reply). AreAccepted (ask ∷ []) (Ok r ∷ []) (Rec ask.till ask.serial sealed ∷ [])) (sym e)
    (sealed, length (recs entries) + 1, [], refl, refl, refl)

-- a command of a till, or of another one
abbrev pub AcceptedIf : Bool → Asked → Result Reply StoreFault → List Entry → Type 0
AcceptedIf b ask told gained = AreAccepted (cond b (ask ∷ []) []) (if b then told ∷ [] else []) gained

none_gained : (b : Bool) (ask : Asked) (told : Result Reply StoreFault) (gained : List Entry) (till : ℕ) → gained ≡ [] →
    AreAccepted (ask ∷ []) (told ∷ []) [] → AcceptedIf b ask told (own_of till gained)
none_gained true ask told gained till none h =
    subst (λ (es : List Entry). AreAccepted (ask ∷ []) (told ∷ []) (own_of till es)) (sym none) h
none_gained false ask told gained till none h = ap (λ (es : List Entry). own_of till es) none

made_gained : (b : Bool) (entries : List Entry) (ask : Asked) (sealed : Sealed) (told : Reply) →
    IsTaken entries (Rec ask.till ask.serial sealed) told →
    AcceptedIf b ask (Ok told) (cond b (Rec ask.till ask.serial sealed ∷ []) [])
made_gained true entries ask sealed told h = one_accepted entries ask sealed told h
made_gained false entries ask sealed told h = refl

-- what an answer tells as taken is the record that the history gains
by_answer : (entries : List Entry) (ask : Asked) (sealed : Sealed) (k : Option Receipt) (r : Option Refusal) (told : Reply)
    (gained : List Entry) (till : ℕ) →
    Tells entries (option_map_or Again k (option_map_or Refused r (Made (Rec ask.till ask.serial sealed)))) told gained →
    AcceptedIf (ask.till == till) ask (Ok told) (own_of till gained)
by_answer entries ask sealed (Some old) r told gained till h =
    none_gained (ask.till == till) ask (Ok told) gained till h.1 (again_accepted ask told old h.0)
by_answer entries ask sealed None (Some why) told gained till h =
    none_gained (ask.till == till) ask (Ok told) gained till h.1 (refused_accepted ask told why h.0)
by_answer entries ask sealed None None told gained till h =
    subst (λ (es : List Entry). AcceptedIf (ask.till == till) ask (Ok told) (own_of till es)) (sym h.1)
    (made_gained (ask.till == till) entries ask sealed told h.0)

pub by_tells : (version : Version) (issuer : List ℕ) (entries : List Entry) (ask : Asked) (seconds : ℕ) (told : Reply)
    (gained : List Entry) (till : ℕ) → Tells entries (answer version issuer entries ask seconds) told gained →
    AcceptedIf (ask.till == till) ask (Ok told) (own_of till gained)
by_tells version issuer entries ask seconds told gained till h =
    by_answer entries ask (made_sealed issuer entries ask.request seconds) (kept entries ask.till ask.serial)
    (refusal version issuer entries ask seconds) told gained till h

pub by_reply : (version : Version) (issuer : List ℕ) (entries : List Entry) (ask : Asked) (seconds : ℕ)
    (told : Result Reply StoreFault) (gained : List Entry) (till : ℕ) → IsReply version issuer entries ask seconds told gained →
    AcceptedIf (ask.till == till) ask told (own_of till gained)
by_reply version issuer entries ask seconds (Ok told) gained till h =
    by_tells version issuer entries ask seconds told gained till h
by_reply version issuer entries ask seconds (Err why) gained till h =
    none_gained (ask.till == till) ask (Err why) gained till h refl

-- the first list is the second, with some left out
data Among : List Entry → List Entry → Type 0 where
  at_none : (ys : List Entry) → Among [] ys
  keeping : (x : Entry) (xs ys : List Entry) → Among xs ys → Among (x ∷ xs) (x ∷ ys)
  skipping : (y : Entry) (xs ys : List Entry) → Among xs ys → Among xs (y ∷ ys)

-- a list is among itself
itself : (xs : List Entry) → Among xs xs
itself [] = at_none []
itself (x ∷ xs) = keeping x xs xs (itself xs)

behind_all : (xs ys zs : List Entry) → Among ys zs → Among ys (xs ++ zs)
behind_all [] ys zs h = h
behind_all (x ∷ xs) ys zs h = skipping x ys (xs ++ zs) (behind_all xs ys zs h)

both_among : (xs ys us vs : List Entry) → Among xs ys → Among us vs → Among (xs ++ us) (ys ++ vs)
both_among xs ys us vs (at_none all) h = behind_all ys us vs h
both_among xs ys us vs (keeping x rest all inner) h = keeping x (rest ++ us) (all ++ vs) (both_among rest all us vs inner h)
both_among xs ys us vs (skipping y rest all inner) h = skipping y (rest ++ us) (all ++ vs) (both_among rest all us vs inner h)

no_more : (xs ys : List Entry) → Among xs ys → length xs ≤ length ys
no_more xs ys (at_none all) = omega arith
no_more xs ys (keeping x rest all inner) = let l = no_more rest all inner in omega (arith, l)
no_more xs ys (skipping y rest all inner) = let l = no_more rest all inner in omega (arith, l)

-- one that is no shorter is the whole
is_all : (xs ys : List Entry) → Among xs ys → length ys ≤ length xs → xs ≡ ys
is_all xs ys (at_none []) l = refl
is_all xs ys (at_none (y ∷ all)) l = absurd (omega (arith, l))
is_all xs ys (keeping x rest all inner) l = ap (λ (es : List Entry). x ∷ es) (is_all rest all inner (omega (arith, l)))
is_all xs ys (skipping y rest all inner) l = absurd (let m = no_more rest all inner in omega (arith, l, m))

-- how many of these replies tell of a new record
count_taken : Replies → ℕ
count_taken [] = 0
count_taken (Ok (reply.Taken told) ∷ replies) = 1 + count_taken replies
count_taken (Ok (reply.Again told) ∷ replies) = count_taken replies
count_taken (Ok (reply.Refused why) ∷ replies) = count_taken replies
count_taken (Err why ∷ replies) = count_taken replies

size_taken : (replies : Replies) (es : List Entry) → AreTaken replies es → length es ≡ count_taken replies
unfolding count_taken
size_taken [] es h = ap (λ (l : List Entry). length l) h
size_taken (Ok (reply.Taken told) ∷ replies) es h =
    let e = ap (λ (l : List Entry). length l) h.3 in
    let f = size_taken replies h.2 h.5 in
    omega (arith, e, f)
size_taken (Ok (reply.Again told) ∷ replies) es h = size_taken replies es h
size_taken (Ok (reply.Refused why) ∷ replies) es h = size_taken replies es h
size_taken (Err why ∷ replies) es h = size_taken replies es h

size_accepted : (asks : List Asked) (replies : Replies) (es : List Entry) → AreAccepted asks replies es →
    length es ≡ count_taken replies
unfolding count_taken
size_accepted [] [] es h = ap (λ (l : List Entry). length l) h
size_accepted [] (told ∷ replies) es h = absurd h
size_accepted (ask ∷ asks) [] es h = absurd h
size_accepted (ask ∷ asks) (Ok (reply.Taken told) ∷ replies) es h =
    let e = ap (λ (l : List Entry). length l) h.3 in
    let f = size_accepted asks replies h.2 h.5 in
    omega (arith, e, f)
size_accepted (ask ∷ asks) (Ok (reply.Again told) ∷ replies) es h = size_accepted asks replies es h
size_accepted (ask ∷ asks) (Ok (reply.Refused why) ∷ replies) es h = size_accepted asks replies es h
size_accepted (ask ∷ asks) (Err why ∷ replies) es h = size_accepted asks replies es h

-- of two fronts of one list the shorter is a front of the longer
shorter : (xs ys r s : List Entry) → xs ++ r ≡ ys ++ s → length xs ≤ length ys → IsPrefix xs ys
shorter [] ys r s e l = record { rest = ys; is = refl }
shorter (x ∷ xs) [] r s e l = absurd (omega (arith, l))
shorter (x ∷ xs) (y ∷ ys) r s e l =
    let heads : x ≡ y = cc in
    let tails : xs ++ r ≡ ys ++ s = cc in
    let inner = shorter xs ys r s tails (omega (arith, l)) in
    record { rest = inner.rest; is = ap (λ (z : Entry). z ∷ ys) (sym heads) ∙ ap (λ (zs : List Entry). x ∷ zs) inner.is }

module _ (version : Version) (issuer : List ℕ) (coming : ℕ → Option ℕ) (start end : List Entry) (till : ℕ) where
  -- how far a till run has come: its accepted records are among the till's in the front that it has seen
  record SoFar (asks : List Asked) (replies : Replies) (seen : ℕ) : Type 0 where
    made : List Entry
    accepted : AreAccepted asks replies made
    front : List Entry
    size : length front ≡ seen
    low : length start ≤ length front
    within : IsPrefix front end
    among : Among made (own_of till (drop (length start) front))

  -- an ask that was told of a fault
  faulty : (asks : List Asked) (replies : Replies) (seen : ℕ) (ask : Asked) (why : StoreFault) → SoFar asks replies seen →
      SoFar (asks ++ ask ∷ []) (replies ++ Err why ∷ []) seen
  faulty asks replies seen ask why s = record {
    made = s.made;
    accepted = subst (λ (es : List Entry). AreAccepted (asks ++ ask ∷ []) (replies ++ Err why ∷ []) es) (append-nil s.made)
        (accepted_append asks (ask ∷ []) replies (Err why ∷ []) s.made [] s.accepted refl);
    front = s.front;
    size = s.size;
    low = s.low;
    within = s.within;
    among = s.among;
  }

  -- the records of the till after those of a front
  own_behind : (front more : List Entry) → length start ≤ length front →
      own_of till (drop (length start) (front ++ more)) ≡ own_of till (drop (length start) front) ++ own_of till more
  own_behind front more low = ap (λ (es : List Entry). own_of till es) (drop-append-le (length start) front more low)
      ∙ filter-append (is_from till) (drop (length start) front) more

  -- an ask that was answered
  told_one : (asks : List Asked) (replies : Replies) (seen : ℕ) (ask : Asked) (told : Reply) (history gained : List Entry)
      (seconds : ℕ) → (ask.till == till) ≡ true → seen ≤ length history → IsPrefix (history ++ gained) end →
      Tells history (answer version issuer history ask seconds) told gained → SoFar asks replies seen →
      SoFar (asks ++ ask ∷ []) (replies ++ Ok told ∷ []) (length (history ++ gained))
  told_one asks replies seen ask told history gained seconds own low reaches tells s =
      let one : AreAccepted (ask ∷ []) (Ok told ∷ []) (own_of till gained) =
      subst (λ (b : Bool). AcceptedIf b ask (Ok told) (own_of till gained)) own
      (by_tells version issuer history ask seconds told gained till tells) in
      let same : s.front ++ s.within.rest ≡ history ++ (gained ++ reaches.rest) =
      sym s.within.is ∙ reaches.is ∙ append_assoc history gained reaches.rest in
      let further = shorter s.front history s.within.rest (gained ++ reaches.rest) same
      (let z = s.size in omega (arith, low, z)) in
      let more = further.rest ++ gained in
      let longer : s.front ++ more ≡ history ++ gained =
      sym (ap (λ (es : List Entry). es ++ gained) further.is ∙ append_assoc s.front further.rest gained) in
      let here : Among (s.made ++ own_of till gained) (own_of till (drop (length start) (s.front ++ more))) =
      subst (λ (es : List Entry). Among (s.made ++ own_of till gained) es)
      (sym (own_behind s.front more s.low ∙ ap (λ (es : List Entry). own_of till (drop (length start) s.front) ++ es)
      (filter-append (is_from till) further.rest gained)))
      (both_among s.made (own_of till (drop (length start) s.front)) (own_of till gained)
      (own_of till further.rest ++ own_of till gained) s.among
      (behind_all (own_of till further.rest) (own_of till gained) (own_of till gained) (itself (own_of till gained)))) in
      record {
        made = s.made ++ own_of till gained;
        accepted = accepted_append asks (ask ∷ []) replies (Ok told ∷ []) s.made (own_of till gained) s.accepted one;
        front = history ++ gained;
        size = refl;
        low = (let a = ap (λ (es : List Entry). length es) longer in let b = length-append s.front more in let c = s.low in
            omega (arith, a, b, c));
        within = reaches;
        among = subst (λ (es : List Entry). Among (s.made ++ own_of till gained) (own_of till (drop (length start) es))) longer
            here;
      }

  run_accepted : IsPrefix start end → {asks : List Asked} {replies : Replies} {seen : ℕ} {mark : Bool} →
      ServedRun version issuer coming start end asks replies seen mark →
      AllByRecursion (λ (a : Asked). (a.till == till) ≡ true) asks → SoFar asks replies seen
  run_accepted begins unasked own = record {
    made = [];
    accepted = refl;
    front = start;
    size = refl;
    low = omega arith;
    within = begins;
    among = at_none (own_of till (drop (length start) start));
  }
  run_accepted begins (answered asks replies seen ask told history gained seconds before low reaches reading tells) own =
      let split = each_front (λ (a : Asked). (a.till == till) ≡ true) asks ask own in
      told_one asks replies seen ask told history gained seconds split.1 low reaches tells (run_accepted begins before split.0)
  run_accepted begins (torn asks replies seen ask before) own =
      let split = each_front (λ (a : Asked). (a.till == till) ≡ true) asks ask own in
      faulty asks replies seen ask fault.DiskFault (run_accepted begins before split.0)
  run_accepted begins (stopped asks replies seen mark ask count before) own =
      let split = each_front (λ (a : Asked). (a.till == till) ≡ true) asks ask own in
      faulty asks replies seen ask (fault.Stopped count) (run_accepted begins before split.0)
  run_accepted begins (without_memory asks replies seen ask before) own =
      let split = each_front (λ (a : Asked). (a.till == till) ≡ true) asks ask own in
      faulty asks replies seen ask fault.NoMemory (run_accepted begins before split.0)

  -- a till's records are those of its accepted commands: they are among them, and as many
  pub all_accepted : IsPrefix start end → (asks : List Asked) (replies : Replies) (seen : ℕ) (mark : Bool) →
      ServedRun version issuer coming start end asks replies seen mark →
      AllByRecursion (λ (a : Asked). (a.till == till) ≡ true) asks →
      AreTaken replies (own_of till (drop (length start) end)) →
      AreAccepted asks replies (own_of till (drop (length start) end))
  all_accepted begins asks replies seen mark run own taken =
      let s = run_accepted begins run own in
      let all = own_of till (drop (length start) end) in
      let whole : own_of till (drop (length start) s.front) ++ own_of till s.within.rest ≡ all =
      sym (ap (λ (es : List Entry). own_of till (drop (length start) es)) s.within.is
      ∙ own_behind s.front s.within.rest s.low) in
      let among : Among s.made all = subst (λ (es : List Entry). Among s.made es) whole
      (subst (λ (es : List Entry). Among es (own_of till (drop (length start) s.front) ++ own_of till s.within.rest))
      (append-nil s.made)
      (both_among s.made (own_of till (drop (length start) s.front)) [] (own_of till s.within.rest) s.among
      (at_none (own_of till s.within.rest)))) in
      let count = size_taken replies all taken in
      let made = size_accepted asks replies s.made s.accepted in
      subst (λ (es : List Entry). AreAccepted asks replies es)
      (is_all s.made all among (omega (arith, count, made))) s.accepted
