-- The batch that is sent next.
use Rattle.std.proofs.Common.{◌≡◌, ℕ, List, [], sym, ◌∙◌, ap, subst, Bool, true, false, not, ◌&&◌, length, take, drop, ◌≤◌, arith}
use Rattle.std.proofs.Common.{nat_le, leb-true, is_none}
use Rattle.std.proofs.lemmas.List.{length-take, take_all}
use Rattle.record_fields.specs.declared.versions.Version.{Version}
use Rattle.record_fields.specs.Links.{LinkedRun}
use Rattle.record_fields.specs.declared.records.Sealed.{Sealed}
use Rattle.record_codec.specs.declared.entry.Entry.{Entry}
use Rattle.shop_core.specs.History.{recs, noted, waiting}
use Rattle.shop_core.specs.Legal.{Legal}
use Rattle.shop_core.specs.Spans.{RunsAreLinked}
use Rattle.once_world.specs.World.{may_send}
use Rattle.once_world.specs.declared.world.World.{World}
use Rattle.once_world.proofs.Agreements.{waiting_split}

and_both : (p q : Bool) → (p && q) ≡ true → (p ≡ true) × (q ≡ true)
and_both true q h = (cc, h)
and_both false q h = absurd cc

-- as many records wait as are sent, 1 to 1000
pub record IsSendable (w : World) (count : ℕ) : Type 0 where
  pub some : 1 ≤ count
  pub few : count ≤ 1000
  pub within : count ≤ length (waiting w.state.entries)

counts : (a b c : Bool) (count n : ℕ) → (a && b && c && nat_le 1 count && nat_le count 1000 && nat_le count n) ≡ true →
    (1 ≤ count) × (count ≤ 1000) × (count ≤ n)
counts a b c count n h =
    let p = and_both (a && b && c && nat_le 1 count && nat_le count 1000) (nat_le count n) h in
    let q = and_both (a && b && c && nat_le 1 count) (nat_le count 1000) p.0 in
    let r = and_both (a && b && c) (nat_le 1 count) q.0 in
    (leb-true 1 count r.1, leb-true count 1000 q.1, leb-true count n p.1)

pub sendable : (w : World) (count : ℕ) → may_send w count ≡ true → IsSendable w count
sendable w count h =
    let c = counts w.up (not w.doubt) (is_none w.learnt) count (length (waiting w.state.entries)) h in
    record { some = c.0; few = c.1; within = c.2 }

pub next_linked : RunsAreLinked → (version : Version) (issuer : List ℕ) (entries : List Entry) (count : ℕ) (batch : List Sealed) →
    Legal version issuer entries → batch ≡ take count (waiting entries) → LinkedRun batch
next_linked linked version issuer entries count batch legal e =
    subst (λ (xs : List Sealed). LinkedRun xs) (sym e)
    (linked version issuer entries (take (length (noted entries)) (recs entries)) (take count (waiting entries))
    (drop count (waiting entries)) legal (waiting_split entries count))

-- some are sent
pub next_some : (w : World) (count : ℕ) (batch : List Sealed) → may_send w count ≡ true →
    batch ≡ take count (waiting w.state.entries) → batch ≡ [] → ⊥
next_some w count batch may is none =
    let s = sendable w count may in
    let a = s.some in
    let b = s.within in
    let h = ap length (sym is ∙ none) in
    absurd (omega (arith, h, length-take count (waiting w.state.entries)))

-- and all of them
pub next_all : (w : World) (count : ℕ) (batch records : List Sealed) → may_send w count ≡ true →
    records ≡ take count (waiting w.state.entries) → batch ≡ take 1000 records → batch ≡ take count (waiting w.state.entries)
next_all w count batch records may is cut =
    let few = (sendable w count may).few in
    let short : length (take count (waiting w.state.entries)) ≤ 1000 = omega (arith, length-take count (waiting w.state.entries))
    in
    cut ∙ ap (λ (xs : List Sealed). take 1000 xs) is ∙ take_all 1000 (take count (waiting w.state.entries)) short
