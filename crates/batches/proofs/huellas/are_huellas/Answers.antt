use Rattle.std.proofs.Common.{[], ◌<◌, ◌∙◌, sym, ap, length, get_or, arith}
use Rattle.record_fields.specs.declared.records.Sealed.{Sealed}
use Rattle.batches.proofs.Copies.{equal_more, equal_at, differ, alike}
use Rattle.batches.proofs.huellas.are_huellas.Goals as goal

pub returns-then-ne : goal.returns-then-ne
returns-then-ne c =
    let i = c.loop-i.i in
    let lt : i < length c.args.records.now = omega arith in (
      λ no. absurd cc,
      λ same. differ (get_or c.args.list.now i []) (get_or c.args.records.now i c.index-records-i.result).huella c.if-ne.ensures
          (equal_at c.args.list.now c.args.records.now i c.index-records-i.result lt c.index-records-i.is same ∙
          ap (λ (s : Sealed). s.huella) c.index-records-i.is),
    )

pub loop-i-preserved : goal.loop-i-preserved
loop-i-preserved c =
    let i = c.loop-i.i in
    let lt : i < length c.args.records.now = omega arith in
    equal_more c.args.list.now c.args.records.now i c.index-records-i.result lt c.if-list-records.false c.index-records-i.is
    c.loop-i.invariant
    (alike (get_or c.args.list.now i []) (get_or c.args.records.now i c.index-records-i.result).huella c.if-ne.ensures ∙
    ap (λ (s : Sealed). s.huella) (sym c.index-records-i.is))
