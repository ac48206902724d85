-- Batches that are runs of a chain stay so while it grows.
use Rattle.std.proofs.Common.{◌≡◌, ℕ, ◌≤◌, List, ◌++◌, append_assoc, sym, ◌∙◌, ap, subst, arith}
use Rattle.record_fields.specs.declared.records.Sealed.{Sealed}
use Rattle.sender.specs.Dark.{AreRunsBy, IsRunBy}
use Rattle.sender_session.proofs.Lists.{each_weaker}

longer_run : (records more : List Sealed) (from to : ℕ) → from ≤ to → (batch : List Sealed) → IsRunBy records batch from →
    IsRunBy (records ++ more) batch to
longer_run records more from to later batch r = record {
  before = r.before;
  after = r.after ++ more;
  run = ap (λ (rs : List Sealed). rs ++ more) r.run ∙ append_assoc r.before (batch ++ r.after) more
      ∙ ap (λ (rs : List Sealed). r.before ++ rs) (append_assoc batch r.after more);
  ends = (let e = r.ends in omega (arith, e, later));
}

pub runs_more : (all records more : List Sealed) (from to : ℕ) (batches : List (List Sealed)) → all ≡ records ++ more → from ≤ to →
    AreRunsBy records from batches → AreRunsBy all to batches
runs_more all records more from to batches is later runs =
    subst (λ (rs : List Sealed). AreRunsBy rs to batches) (sym is)
    (each_weaker (λ (batch : List Sealed). IsRunBy records batch from) (λ (batch : List Sealed). IsRunBy (records ++ more) batch to)
    batches (longer_run records more from to later) runs)
