use Rattle.std.proofs.Common.{◌++◌, ◌-◌, List, length, take, drop, subst}
use Rattle.tax_lines.specs.declared.lines.TaxLine.{TaxLine}
use Rattle.statements.proofs.Changing.{cut, none_left}
use Rattle.statements.proofs.Several.{has_one, has_others}
use Rattle.statements.specs.Rows.{AreRows}
use Rattle.statements.proofs.rows.Rows.subtract_all.Goals as goal

pub subtract-requires : goal.subtract-requires
subtract-requires c =
    let xs = c.loop-rest.rest.now in
    has_one xs c.line-item.result (take (length xs - 1) (drop 1 xs)) c.loop-rest.self
    (cut xs c.line-item.result c.in-len1-up.len_at_least c.line-item.is) c.loop-rest.invariant.has

pub loop-rest-preserved : goal.loop-rest-preserved
loop-rest-preserved c =
    let xs = c.loop-rest.rest.now in
    let e = cut xs c.line-item.result c.in-len1-up.len_at_least c.line-item.is in
    record {
      has = has_others xs c.line-item.result (take (length xs - 1) (drop 1 xs)) c.loop-rest.self c.subtract.new.self e
          c.loop-rest.invariant.has c.subtract.ensures;
      left = λ ls are. c.subtract.ensures (take (length xs - 1) (drop 1 xs) ++ ls)
          (subst (λ (ks : List TaxLine). AreRows (ks ++ ls) c.loop-rest.self) e (c.loop-rest.invariant.left ls are));
    }

pub returns : goal.returns
returns c ls are =
    subst (λ (ks : List TaxLine). AreRows (ks ++ ls) c.loop-rest.self) (none_left c.loop-rest.rest.now c.in_default.len_below)
    (c.loop-rest.invariant.left ls are)
