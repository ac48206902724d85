use Rattle.std.proofs.Common.{◌≡◌, ◌⊎◌, inl, inr, ℕ, to_z, w16, arith}
use Rattle.std.proofs.lemmas.Int.{ints}
use Rattle.stamps.specs.Clock.{IsStampOffset}
use Rattle.stamps.proofs.stamp.stamp_at.Goals as goal

offset : (n : ℕ) → (n ≡ 60) ⊎ (n ≡ 120) → IsStampOffset (to_z w16 n)
offset n (inl e) = inl (rw e (omega (arith, ints)))
offset n (inr e) = inr (rw e (omega (arith, ints)))

pub invariant_of-result : goal.invariant_of-result
invariant_of-result c = (
  c.is_stamp_seconds.ensures.0 c.if-not-is_stamp_seconds.false,
  offset c.offset_at.result
      c.offset_at.ensures.either,
)
