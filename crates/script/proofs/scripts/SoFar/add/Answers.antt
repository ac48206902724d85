use Rattle.script.proofs.Reading.{read_skip, read_clock, read_customer, read_command, read_verdict, read_wait, read_link, same_known}
use Rattle.script.proofs.scripts.SoFar.add.Goals as goal

pub returns-in-Skip-clause-reads : goal.returns-in-Skip-clause-reads
returns-in-Skip-clause-reads c = λ lines r. rw c.in-Skip.is (read_skip lines c.args.self.now r)

pub returns-in-Clock-clause-reads : goal.returns-in-Clock-clause-reads
returns-in-Clock-clause-reads c = λ lines r. rw c.in-Clock.is (read_clock lines c.args.self.now c.in-Clock.start c.in-Clock.step r
    (rw c.in-Clock.is at c.requires))

pub returns-in_ok-push-in-Command-clause-reads : goal.returns-in_ok-push-in-Command-clause-reads
returns-in_ok-push-in-Command-clause-reads c = λ lines r. rw c.in-Command.is (read_command lines c.args.self.now c.in-Command.ask
    c.push.new.self r (rw c.in-Command.is at c.requires) c.in_ok-push-in-Command.ensures.items)

pub returns-in_ok-add-in-Customer-clause-reads : goal.returns-in_ok-add-in-Customer-clause-reads
returns-in_ok-add-in-Customer-clause-reads c = λ lines r.
    let old = c.args.self.now in
    rw c.in-Customer.is (read_customer lines old c.add.new.self c.in-Customer.key c.in-Customer.party r
    (rw c.in-Customer.is at c.requires)
    c.in_ok-add-in-Customer.ensures.count c.in_ok-add-in-Customer.ensures.found)

pub returns-in_ok-add-in-Verdict-clause-reads : goal.returns-in_ok-add-in-Verdict-clause-reads
returns-in_ok-add-in-Verdict-clause-reads c = λ lines r. rw c.in-Verdict.is (read_verdict lines c.args.self.now c.in-Verdict.verdict
    c.add-in-Verdict.new.self r c.in_ok-add-in-Verdict.ensures.ok)

pub returns-in-Wait-clause-reads : goal.returns-in-Wait-clause-reads
returns-in-Wait-clause-reads c = λ lines r. rw c.in-Wait.is (read_wait lines c.args.self.now c.in-Wait.seconds r
    (rw c.in-Wait.is at c.requires))

pub returns-in_ok-add-in-Link-clause-reads : goal.returns-in_ok-add-in-Link-clause-reads
returns-in_ok-add-in-Link-clause-reads c = λ lines r. rw c.in-Link.is (read_link lines c.args.self.now c.in-Link.fate c.add-in-Link.new.self r
    c.in_ok-add-in-Link.ensures.ok)

pub returns-in_err-add-in-Customer-clause-err : goal.returns-in_err-add-in-Customer-clause-err
returns-in_err-add-in-Customer-clause-err c = same_known c.from_residual.result c.args.self.now c.add.new.self c.in_err-add-in-Customer.ensures.err
