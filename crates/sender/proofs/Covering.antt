-- A turn shows as many items as were known of before it.
use Rattle.std.proofs.Common.{◌≡◌, ◌⊎◌, inl, inr, ℕ, ◌≤◌, List, length, ap, arith, length-append, Bool, Result}
use Rattle.shop_core.specs.declared.items.Item.{Item}
use Rattle.sender.specs.declared.answers.Turn.{Turn}
use Rattle.sender.specs.declared.answers.SendFault.{SendFault}
use Rattle.once_world.specs.Outbox.{Sight}
use Rattle.sender.specs.Draining.{Scene, IsTurn}
use Rattle.sender.specs.Turning.{AgencyKind}
use Rattle.sender.proofs.Growing.{Growth}
use Rattle.sender.proofs.Sessions.{is_turn_growth}

pub longer : (n : ℕ) (a b : Sight) → Growth a b → n ≤ length a.items → n ≤ length b.items
longer n a b g le = let e = ap (λ (l : List Item). length l) g.items_is in let s = length-append a.items g.items in
    omega (arith, le, e, s)

-- what was known of at first is shown, whether this is the first turn or not
pub covers_on : (kind : AgencyKind) (exact : Bool) (scene then : Scene) (answer : Result Turn SendFault) (first now : ℕ) →
    (first ≡ now) ⊎ (first ≤ length scene.sight.items) → now ≤ length then.sight.items → IsTurn kind exact scene then answer →
    first ≤ length then.sight.items
covers_on kind exact scene then answer first now (inl e) le t = omega (arith, e, le)
covers_on kind exact scene then answer first now (inr h) le t =
    longer first scene.sight then.sight (is_turn_growth kind exact scene then answer t) h
