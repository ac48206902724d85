-- The image of a moment is one of those that the disk tells.
use Rattle.std.proofs.Common.{◌≡◌, ◌<◌, ◌≤◌, ◌+◌, inl, inr, ℕ, List, [], ◌∷◌, ◌++◌, length, get_or, take, drop, refl, sym, ◌∙◌}
use Rattle.std.proofs.Common.{ap, subst, arith, take-append-drop}
use Rattle.std.proofs.lemmas.List.{take_all, drop_all, append-nil, length-take-le, length_push, get_or_push, get_or_append_left}
use Rattle.std.proofs.lemmas.Bool.{cases_lt}
use Rattle.chain_disk.specs.OnDisk.{OnDisk, Pending, IsImage, IsLeft, IsCovered, furthest, moment, pasted}
use Rattle.chain_disk.specs.Fill.{IsInDoubt, IsFilled, fill_byte, filled_length}
use Rattle.chain_disk.specs.MemoryReads.{furthest_least}
use Rattle.chain_disk.specs.declared.image.Fill.{Fill}
use Rattle.chain_disk.specs.declared.image.Fill.TheVariants.{Old, New, Zeros, Ones}
use Rattle.chain_disk.specs.Memory.{after, replayed, on_disk_by, fresh}
use Rattle.chain_disk.specs.Image.{IsState, IsStep}
use Rattle.chain_disk.specs.declared.event.Event.{Event}
use Rattle.chain_disk.specs.declared.event.Event.TheVariants.{Wrote, Tore, Synced, Unsynced}
use Rattle.chain_disk.specs.declared.image.State.{State}
use Rattle.chain_disk.proofs.Replay.{told_push}

pub pasted_past : (at : ℕ) (bytes content : List ℕ) → length content ≤ at → content ++ bytes ≡ pasted at bytes content
pasted_past at bytes content past =
    sym (ap (λ (l : List ℕ). l ++ bytes ++ drop (at + length bytes) content) (take_all at content past)
    ∙ ap (λ (l : List ℕ). content ++ bytes ++ l) (drop_all (at + length bytes) content (omega (arith, past))) ∙
    append-nil (content ++ bytes))

moment_after : (event : Event) (t : OnDisk) → moment (after event t) ≡ moment t + 1
moment_after (Wrote at bytes) t = omega arith
moment_after (Tore at n) t = omega arith
moment_after Synced t = omega arith
moment_after Unsynced t = omega arith

moment_replayed : (events : List Event) (t : OnDisk) → moment (replayed events t) ≡ length events + moment t
moment_replayed [] t = omega arith
moment_replayed (e ∷ events) t = omega (arith, moment_replayed events (after e t), moment_after e t)

pub moment_told : (first : List ℕ) (events : List Event) → moment (on_disk_by first events) ≡ length events
moment_told first events = omega (arith, moment_replayed events (fresh first))

left_after : (event : Event) (t : OnDisk) (m : ℕ) (c : List ℕ) → IsLeft t m c → IsLeft (after event t) m c
left_after (Wrote at bytes) t m c left = inr left
left_after (Tore at n) t m c left = inr left
left_after Synced t m c left = inr left
left_after Unsynced t m c left = inr left

left_replayed : (events : List Event) (t : OnDisk) (m : ℕ) (c : List ℕ) → IsLeft t m c → IsLeft (replayed events t) m c
left_replayed [] t m c left = left
left_replayed (e ∷ events) t m c left = left_replayed events (after e t) m c (left_after e t m c left)

replayed-append : (a b : List Event) (t : OnDisk) → replayed (a ++ b) t ≡ replayed b (replayed a t)
replayed-append [] b t = refl
replayed-append (e ∷ a) b t = replayed-append a b (after e t)

-- an image of the state after the first events is left at their moment
pub image_left : (first : List ℕ) (events : List Event) (m : ℕ) (c : List ℕ) → m ≤ length events →
    IsImage (on_disk_by first (take m events)).now c → IsLeft (on_disk_by first events) m c
image_left first events m c within image =
    let t = on_disk_by first (take m events) in
    let at : m ≡ moment t = omega (arith, moment_replayed (take m events) (fresh first), length-take-le m events within) in
    let left : IsLeft t m c = inl (at, image) in
    let all : replayed (drop m events) t ≡ on_disk_by first events = sym (replayed-append (take m events) (drop m events)
    (fresh first)) ∙ ap (λ (l : List Event). replayed l (fresh first)) (take-append-drop m events) in
    subst (λ (u : OnDisk). IsLeft u m c) all (left_replayed (drop m events) t m c left)

pub state_start : (first : List ℕ) (state : State) → state.content.items ≡ first → state.synced.items ≡ first →
    state.ranges.items ≡ [] → IsState state (on_disk_by first [])
state_start first state content synced ranges = record { content = content; synced = synced; ranges = ranges }

pub state_more : (first : List ℕ) (events : List Event) (i : ℕ) (event : Event) (old new : State) → take (i + 1) events ≡ take i
    events ++ event ∷ [] → IsState old (on_disk_by first (take i events)) → IsStep event old new →
    IsState new (on_disk_by first (take (i + 1) events))
state_more first events i event old new more is step = subst (λ (t : OnDisk). IsState new t)
    (sym (told_push first (take i events) (take (i + 1) events) event more)) (step (on_disk_by first (take i events)) is)

-- the bytes so far
pub record AreFilled (fill : Fill) (content : List ℕ) (p : Pending) (c : List ℕ) : Type 0 where
  pub kept : (j : ℕ) → j < length c → (IsInDoubt p j → ⊥) → get_or c j 0 ≡ get_or p.synced j 0
  pub in_doubt : (j : ℕ) → j < length c → IsInDoubt p j → get_or c j 0 ≡ fill_byte fill p.synced content j

pub filled_more : (fill : Fill) (content : List ℕ) (p : Pending) (c : List ℕ) (b : ℕ) → AreFilled fill content p c →
    ((IsInDoubt p (length c) → ⊥) → b ≡ get_or p.synced (length c) 0) →
    (IsInDoubt p (length c) → b ≡ fill_byte fill p.synced content (length c)) → AreFilled fill content p (c ++ b ∷ [])
filled_more fill content p c b so_far sure doubtful = record {
  kept = λ j low free. elim (cases_lt j (length c)) [
    | inl before ↦ get_or_append_left c (b ∷ []) 0 j before ∙ so_far.kept j before free
    | inr last ↦ (
        let at : length c ≡ j = omega (arith, low, last, length_push c b) in
        get_or_push c b 0 j at ∙ sure (λ doubt. free (subst (IsInDoubt p) at doubt)) ∙ ap (λ (k : ℕ). get_or p.synced k 0) at)
  ];
  in_doubt = λ j low doubt. elim (cases_lt j (length c)) [
    | inl before ↦ get_or_append_left c (b ∷ []) 0 j before ∙ so_far.in_doubt j before doubt
    | inr last ↦ (
        let at : length c ≡ j = omega (arith, low, last, length_push c b) in
        get_or_push c b 0 j at ∙ doubtful (subst (IsInDoubt p) (sym at) doubt) ∙ ap (λ (k : ℕ). fill_byte fill p.synced content k)
        at)
  ];
}

pub filled_none : (fill : Fill) (content : List ℕ) (p : Pending) (c : List ℕ) → length c ≡ 0 → AreFilled fill content p c
filled_none fill content p c none = record {
  kept = λ j low free. absurd (omega (arith, low, none));
  in_doubt = λ j low doubt. absurd (omega (arith, low, none));
}

pub filled_all : (fill : Fill) (content : List ℕ) (p : Pending) (c : List ℕ) → AreFilled fill content p c →
    length c ≡ filled_length fill p → IsFilled fill content p c
filled_all fill content p c so_far size = record { size = size; kept = so_far.kept; in_doubt = so_far.in_doubt }

filled_long : (fill : Fill) (p : Pending) → length p.synced ≤ filled_length fill p
filled_long Old p = omega arith
filled_long New p = furthest_least (length p.synced) p.ranges
filled_long Zeros p = furthest_least (length p.synced) p.ranges
filled_long Ones p = furthest_least (length p.synced) p.ranges

filled_short : (fill : Fill) (p : Pending) → filled_length fill p ≤ furthest (length p.synced) p.ranges
filled_short Old p = furthest_least (length p.synced) p.ranges
filled_short New p = omega arith
filled_short Zeros p = omega arith
filled_short Ones p = omega arith

-- an image so filled is one that a crash may leave
pub filled_image : (fill : Fill) (content : List ℕ) (p : Pending) (c : List ℕ) → IsFilled fill content p c → IsImage p c
filled_image fill content p c filled = record {
  no_shorter = omega (arith, filled.size, filled_long fill p);
  no_longer = omega (arith, filled.size, filled_short fill p);
  kept = λ i within free. filled.kept i (omega (arith, filled.size, filled_long fill p, within)) (sure i within free);
}
  where
    sure : (i : ℕ) → i < length p.synced → (IsCovered p.ranges i → ⊥) → IsInDoubt p i → ⊥
    sure i within free (inl past) = omega (arith, within, past)
    sure i within free (inr covered) = free covered
