use Rattle.std.proofs.Common.{◌≡◌, ◌∙◌, refl, sym, Option, Some, None, Result, Ok, Err}
use Rattle.ports.specs.declared.faults.Failed.{Failed}
use Rattle.report.specs.declared.status.Detail.{Detail}
use Rattle.report.specs.declared.status.Detail.TheVariants as detail
use Rattle.many_issuers.proofs.Dones.{ends_so}
use Rattle.many_issuers.proofs.printing.end_of.Goals as goal

none_some : {P : Type 0} (o : Option Detail) (b : Detail) → o ≡ None → o ≡ Some b → P
none_some o b none some = absurd (let e : None ≡ Some b = sym none ∙ some in cc)

same_some : (o : Option Detail) (a b : Detail) → o ≡ Some a → o ≡ Some b → a ≡ b
same_some o a b one other = let e : Some a ≡ Some b = sym one ∙ other in cc

ok_err : {P : Type 0} (r : Result (Unit {0}) Failed) (u : Unit {0}) (e : Failed) → r ≡ Ok u → r ≡ Err e → P
ok_err r u e ok err = absurd (let x : Ok u ≡ Err e = sym ok ∙ err in cc)

pub returns-in-Some : goal.returns-in-Some
returns-in-Some c = λ ends blocks text s is whole out. ends_so c.args.bad c.args.written c.in-Some.end ends blocks text s
    (λ u none w. none_some c.args.bad c.in-Some.end none c.in-Some.is) (λ e none w. none_some c.args.bad c.in-Some.end none c.in-Some.is)
    (λ b some. same_some c.args.bad c.in-Some.end b c.in-Some.is some) is whole out

pub returns-in-Ok : goal.returns-in-Ok
returns-in-Ok c = λ ends blocks text s is whole out. ends_so c.args.bad c.args.written detail.Done ends blocks text s
    (λ u none w. refl) (λ e none w. ok_err c.args.written _ e c.in-Ok.is w) (λ b some. none_some c.args.bad b c.in-None.is some) is whole out

pub returns-in-Err : goal.returns-in-Err
returns-in-Err c = λ ends blocks text s is whole out. ends_so c.args.bad c.args.written detail.WriteFault ends blocks text s
    (λ u none w. ok_err c.args.written u _ w c.in-Err.is) (λ e none w. refl) (λ b some. none_some c.args.bad b c.in-None.is some) is whole out
