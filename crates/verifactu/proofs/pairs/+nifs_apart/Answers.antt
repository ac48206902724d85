use Rattle.std.proofs.Common.{sym, ◌∙◌, subst}
use Rattle.verifactu.specs.Pairs.{AreApart}
use Rattle.verifactu.proofs.Apart.{stands, stands_not}
use Rattle.verifactu.proofs.pairs.+nifs_apart.Goals as goal

pub returns-then-stands_in : goal.returns-then-stands_in
returns-then-stands_in t c = (
  λ wrong. absurd cc,
  λ own. absurd (stands c.in-Some.others.now c.in-Some.first.now (sym c.stands_in.ensures ∙ c.if-stands_in.true)
      (subst AreApart c.in-Some.ensures.cases.0 own).0),
)

pub returns : goal.returns
returns t c = (
  λ yes. subst AreApart (sym c.in-Some.ensures.cases.0) (
    stands_not c.in-Some.others.now c.in-Some.first.now (sym c.stands_in.ensures ∙ c.if-stands_in.false),
    c.nifs_apart.ensures.0 yes,
  ),
  λ own. c.nifs_apart.ensures.1 (subst AreApart c.in-Some.ensures.cases.0 own).1,
)
