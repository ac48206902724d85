use Rattle.record_fields.specs.declared.versions.Version.TheVariants.{Two}
use Rattle.recovery.proofs.rewriting.write_framed.Goals as goal

pub returns-in_err-next-clause-any_moment : goal.returns-in_err-next-clause-any_moment
returns-in_err-next-clause-any_moment g c = λ tells issuer bodies is. c.add_shut.ensures.any_moment tells Two issuer bodies is

pub returns-clause-any_moment : goal.returns-clause-any_moment
returns-clause-any_moment g c = λ tells issuer bodies is. c.add_shut.ensures.any_moment tells Two issuer bodies is
