use Rattle.verify_link.specs.Parts.{joined_link}
use Rattle.verify_link.proofs.AsciiLemmas.{link_ascii}
use Rattle.verify_link.proofs.writing.joined.Goals as goal

pub returns-clause-text : goal.returns-clause-text
unfolding joined_link
returns-clause-text c = rw (
  c.of.ensures,
  c.into_bytes.ensures.value,
  c.in_ok-add-4.ensures,
  c.in_ok-add-3.ensures,
  c.in_ok-add-2.ensures,
  c.in_ok-add.ensures,
  c.in_ok-push_str.ensures.bytes,
  c.new-text.ensures.bytes,
  c.beginning.ensures,
)

pub returns-clause-ascii : goal.returns-clause-ascii
returns-clause-ascii c =
    rw (returns-clause-text c) (link_ascii c.args.host c.args.nif.now c.args.num.now c.args.date.now c.args.total.now)
