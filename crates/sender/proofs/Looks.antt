-- What a look shows fits.
use Rattle.std.proofs.Common.{◌≡◌, ◌≢◌, ◌+◌, ◌^◌, List, ◌++◌, drop, Option, Some, IfSome, sym, ◌∙◌, ap, subst, length, take, ◌<◌}
use Rattle.std.proofs.Common.{◌≤◌, arith}
use Rattle.std.proofs.lemmas.List.{length-take, length-drop, take_all, take-append-drop}
use Rattle.record_fields.specs.declared.records.Sealed.{Sealed}
use Rattle.shop_core.specs.History.{recs, noted, waiting}
use Rattle.shop_core.specs.declared.waiting.Waiting.{Waiting}
use Rattle.shop_core.specs.Legal.{Legal}
use Rattle.shop_core.specs.Spans.{RunsAreLinked, NotedWithinRecords}
use Rattle.record_fields.specs.Links.{LinkedRun}
use Rattle.once_world.specs.Outbox.{Sight, ShowsWaiting, history_of}
use Rattle.sender.specs.Turning.{IsLook}

-- the counts of a look
pub record Counts (look : Sight) (shown : Waiting) : Type 0 where
  pub some : 1 ≤ length shown.list
  pub few : length shown.list ≤ 1000
  pub fits : length shown.list ≤ length (waiting (history_of look))
  pub room : shown.noted + length shown.list ≤ shown.records

pub counts : (look : Sight) (shown : Waiting) → IsLook look shown → Counts look shown
counts look shown l =
    let entries = history_of look in
    let e : length shown.list ≡ length (take 1000 (waiting entries)) = ap length l.shows.first in
    let t = length-take 1000 (waiting entries) in
    let d = length-drop (length (noted entries)) (recs entries) in
    let some = l.some in
    let n = l.shows.noted_count in
    let r = l.shows.records_count in
    record { some = omega arith; few = omega arith; fits = omega arith; room = omega arith }

-- where the two counts differ some record waits
pub is_look : NotedWithinRecords → (look : Sight) (shown : Waiting) → ShowsWaiting look 1000 shown →
    Legal look.version look.issuer (history_of look) → (shown.noted ≢ shown.records) → shown.records < 2 ^ 32 → IsLook look shown
is_look within look shown shows legal differ small =
    let w = within look.version look.issuer (history_of look) legal in
    let n = shows.noted_count in
    let r = shows.records_count in
    record { shows = shows; legal = legal; some = omega arith; small = small }

-- the batch that is cut is all that is shown
pub cut_all : (look : Sight) (shown : Waiting) (records : List Sealed) (cut : Option (List Sealed)) (batch : List Sealed) →
    IsLook look shown → records ≡ shown.list → cut ≡ Some batch → IfSome cut (λ (b : List Sealed). b ≡ take 1000 records) →
    batch ≡ shown.list
cut_all look shown records cut batch l is e some =
    let few = (counts look shown l).few in
    let cut_is : batch ≡ take 1000 records = subst (λ (o : Option (List Sealed)). IfSome o (λ (b : List Sealed). b ≡ take 1000
    records)) e some in
    cut_is ∙ ap (λ (xs : List Sealed). take 1000 xs) is ∙ take_all 1000 shown.list few

-- what is shown is linked
pub shown_linked : RunsAreLinked → (look : Sight) (shown : Waiting) → IsLook look shown → LinkedRun shown.list
shown_linked linked look shown l =
    let entries = history_of look in
    let k = length (noted entries) in
    let split : recs entries ≡ take k (recs entries) ++ (take 1000 (waiting entries) ++ drop 1000 (waiting entries)) =
    sym (take-append-drop k (recs entries)) ∙ ap (λ (xs : List Sealed). take k (recs entries) ++ xs)
    (sym (take-append-drop 1000 (waiting entries))) in
    subst (λ (xs : List Sealed). LinkedRun xs) (sym l.shows.first)
    (linked look.version look.issuer entries (take k (recs entries)) (take 1000 (waiting entries))
    (drop 1000 (waiting entries)) l.legal split)
