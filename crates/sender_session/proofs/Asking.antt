-- Before the first submission of a session stands a consultation that was answered.
use Rattle.std.proofs.Common.{◌≡◌, ◌⊎◌, inl, inr, ℕ, List, [], ◌∷◌, ◌++◌, filter_map, length, refl, sym, ◌∙◌, ap, subst, Bool, true, false, Result, Ok, Err}
use Rattle.std.specs.Prelude.{◌||◌}
use Rattle.std.specs.List.{list_any}
use Rattle.record_fields.specs.declared.records.Sealed.{Sealed}
use Rattle.record_codec.specs.declared.entry.Entry.{Entry}
use Rattle.shop_core.specs.History.{recs, noted}
use Rattle.agency_port.specs.Reply.{Replied}
use Rattle.agency_port.specs.declared.answers.AgencyFault.{AgencyFault}
use Rattle.agency_port.specs.declared.answers.AgencyFault.TheVariants as agency
use Rattle.agency_port.specs.declared.messages.Message.{Message}
use Rattle.agency_port.specs.declared.messages.Message.TheVariants.{Begun, Submitted, Consulted}
use Rattle.agency_port.specs.declared.turns.Told.{Told}
use Rattle.sender_session.specs.Steps.{Step, Waits, Says, LacksMemory, Standing, after_step, doubt_behind, message_in, IsStep}
use Rattle.sender_session.specs.Sessions.{AreStepped, AsksFirst, IsMomentAfter, Stepped, after_all, after_stepped, is_answered, steps_in}

none_before : (front back : List Message) (m : Message) → [] ≡ front ++ m ∷ back → ⊥
none_before [] back m e = cc
none_before (x ∷ front) back m e = cc

or_true : (a b : Bool) → b ≡ true → (a || b) ≡ true
or_true true b e = refl
or_true false b e = e

-- where a doubt is over, it was asked and answered before, or among these messages ahead of the batch
abbrev Asked : Bool → List Message → Type 0
Asked seen front = (seen ≡ true) ⊎ (list_any is_answered front ≡ true)

one_more : (seen : Bool) (m : Message) (front : List Message) → Asked seen front → Asked seen (m ∷ front)
one_more seen m front (inl e) = inl e
one_more seen m front (inr e) = inr (or_true (is_answered m) (list_any is_answered front) e)

-- the messages of these steps, by a batch that is handed over among them
abbrev AsksIn : Bool → List Message → Type 0
AsksIn seen messages = (front back : List Message) (batch : List Sealed) (answer : Result Replied AgencyFault) →
    messages ≡ front ++ Submitted batch answer ∷ back → Asked seen front

module _ (exact : Bool) (records : List Sealed) (st : Standing) (seen : Bool) (know : st.doubt ≡ false → seen ≡ true)
    (rest : List Step) where
  doubts_still : (printed : Told) → doubt_behind st.doubt printed ≡ st.doubt → st.doubt ≡ true →
      doubt_behind st.doubt printed ≡ false → seen ≡ true
  doubts_still printed same doubt over = absurd (let e = sym doubt ∙ sym same ∙ over in cc)

  by_step : (s : Step) → IsStep exact records st s →
      (((after_step st s).doubt ≡ false → seen ≡ true) → AsksIn seen (filter_map message_in rest)) →
      AsksIn seen (filter_map message_in (s ∷ rest))
  by_step (Waits at) is tail front back batch answer e = tail know front back batch answer e
  by_step LacksMemory is tail front back batch answer e = tail know front back batch answer e
  by_step (Says (Begun plan pairs) printed) is tail front back batch answer e = absurd is
  by_step (Says (Submitted own reply) printed) is tail [] back batch answer e = inl (know is.0)
  by_step (Says (Submitted own reply) printed) is tail (m ∷ front) back batch answer e =
      one_more seen m front (tail (λ over. know is.0) front back batch answer cc)
  by_step (Says (Consulted asked (Ok told)) printed) is tail [] back batch answer e = absurd cc
  by_step (Says (Consulted asked (Ok told)) printed) is tail (m ∷ front) back batch answer e =
      let q : Consulted asked (Ok told) ≡ m = cc in
      inr (subst (λ (x : Message). list_any is_answered (x ∷ front) ≡ true) q refl)
  by_step (Says (Consulted asked (Err why)) printed) is tail [] back batch answer e = absurd cc
  by_step (Says (Consulted asked (Err agency.Failed)) printed) is tail (m ∷ front) back batch answer e =
      one_more seen m front (tail (doubts_still printed (ap (λ (l : Told). doubt_behind st.doubt l) is.2) is.0) front back batch answer cc)
  by_step (Says (Consulted asked (Err agency.NoMemory)) printed) is tail (m ∷ front) back batch answer e =
      one_more seen m front (tail (doubts_still printed (ap (λ (l : Told). doubt_behind st.doubt l) is.2) is.0) front back batch answer cc)

asks_in : (exact beside : Bool) (history : List Entry) (st : Standing) (xs : List Stepped) (end : List Entry) →
    AreStepped exact beside history st xs end → (seen : Bool) → (st.doubt ≡ false → seen ≡ true) →
    AsksIn seen (filter_map message_in (steps_in xs))
asks_in exact beside history st [] end h seen know front back batch answer e = absurd (none_before front back (Submitted batch answer) e)
asks_in exact beside history st (x ∷ xs) end h seen know front back batch answer e =
    by_step exact (recs x.look) st seen know (steps_in xs) x.step h.2
    (λ later. asks_in exact beside x.look (after_stepped st x) xs end h.4 seen later) front back batch answer e

-- from a doubt on
pub asks_first : (exact beside : Bool) (history : List Entry) (st : Standing) (xs : List Stepped) (end : List Entry) → st.doubt ≡ true →
    AreStepped exact beside history st xs end → AsksFirst (filter_map message_in (steps_in xs))
asks_first exact beside history st xs end doubt h front back batch answer e =
    elim (asks_in exact beside history st xs end h false (λ over. absurd (let f = sym doubt ∙ over in cc)) front back batch answer e) [
      | inl f ↦ absurd cc
      | inr f ↦ f
    ]

beside_by : (moment : ℕ) (s : Step) (then : ℕ) → IsMomentAfter false moment s then → IsMomentAfter true moment s then
beside_by moment (Waits at) then (inl e) = inl e
beside_by moment (Waits at) then (inr p) = absurd (let e = p.0 in cc)
beside_by moment (Says m printed) then e = e
beside_by moment LacksMemory then e = e

-- steps that wait until their seconds are steps beside tills too
pub beside_tills : (exact : Bool) (history : List Entry) (st : Standing) (xs : List Stepped) (end : List Entry) →
    AreStepped exact false history st xs end → AreStepped exact true history st xs end
beside_tills exact history st [] end h = h
beside_tills exact history st (x ∷ xs) end h =
    (h.0, h.1, h.2, beside_by st.moment x.step x.moment h.3, beside_tills exact x.look (after_stepped st x) xs end h.4)

-- what is noted at the end of steps
pub noted_behind : (exact beside : Bool) (history : List Entry) (st : Standing) (xs : List Stepped) (end : List Entry) →
    AreStepped exact beside history st xs end → length (noted end) ≡ (after_all st xs).noted
noted_behind exact beside history st [] end h = h.1
noted_behind exact beside history st (x ∷ xs) end h = noted_behind exact beside x.look (after_stepped st x) xs end h.4
