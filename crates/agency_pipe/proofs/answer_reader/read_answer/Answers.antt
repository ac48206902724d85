use Rattle.std.proofs.Common.{◌≡◌, ◌<◌, ℕ, List, [], ◌∷◌, ◌++◌, Option, Ok, Err, append-nil, arith, false, flat_map, length, length-append, le_refl, le_trans, lt_of_le_of_lt, refl, subst, sym}
use Rattle.std.proofs.KnownBytes.{Consumes-nil, Consumes-trans}
use Rattle.std.specs.Io.KnownBytes.{Consumes, IsAtEnd}
use Rattle.std.specs.List.{AllByRecursion}
use Rattle.agency_pipe.specs.Hearing.{Behind, IsEarlier, IsHeard}
use Rattle.ports.specs.Sources.{Sources, this_source}
use Rattle.agency_pipe.specs.Lines.{Comes, has_lf, with_lf}
use Rattle.agency_pipe.specs.declared.faults.Unheard.TheVariants as unheard
use Rattle.agency_pipe.specs.declared.reader.TheConstants.{MAX_ANSWER}
use Rattle.agency_pipe.specs.declared.answer_reader.TheConstants.{MOST_EARLIER}
use Rattle.agency_pipe.proofs.Greetings.{one_more}
use Rattle.agency_pipe.proofs.ListLemmas.{small_more}
use Rattle.agency_pipe.proofs.answer_reader.read_answer.Goals as goal

behind : (s : Sources) (mid : Option (List ℕ)) (number : ℕ) (passed : List (List ℕ)) (bytes : List ℕ) → length passed < MOST_EARLIER
    → AllByRecursion (IsEarlier number) passed → Consumes s.left mid (flat_map with_lf passed) → Consumes mid s.left_after bytes → Behind s number bytes
behind s mid number passed bytes few over before now = record {
  passed = passed;
  few = few;
  after = record { over = over; consumed = Consumes-trans s.left mid s.left_after (flat_map with_lf passed) bytes before now };
}

pub loop-init : goal.loop-init
loop-init g c = record {
  passed = [];
  count = refl;
  over = tt;
  consumed = Consumes-nil (g.S.Source.left c.args.source.now);
  later = le_refl (g.S.Source.faults c.args.source.now);
  room = c.requires.room;
}

pub returns-in-Err-clause-hears : goal.returns-in-Err-clause-hears
returns-in-Err-clause-hears g c =
    let inv = c.loop.invariant in
    let few : length inv.passed < MOST_EARLIER = omega (arith, inv.count, c.loop-test.true) in
    let line = c.read_line.new.text.items in
    let came = c.in-Err.ensures.comes in (
      (line, record { clean = came.0; behind = behind _ (g.S.Source.left c.loop.source) _ inv.passed line few inv.over inv.consumed came.1 }),
      λ below. lt_of_le_of_lt inv.later (c.in-Err.ensures.cause.failed below),
    )

pub returns-in-Ok-End-clause-hears : goal.returns-in-Ok-End-clause-hears
returns-in-Ok-End-clause-hears g c =
    let inv = c.loop.invariant in
    let few : length inv.passed < MOST_EARLIER = omega (arith, inv.count, c.loop-test.true) in
    let line = c.read_line.new.text.items in
    let came : (has_lf line ≡ false) × Consumes (g.S.Source.left c.loop.source) (g.S.Source.left c.read_line.new.source) line × IsAtEnd (g.S.Source.left c.read_line.new.source) =
    subst (λ k. Comes (this_source g.S.Source.left g.S.Source.faults c.loop.source c.read_line.new.source) line (Ok k)) c.in-Ok-End.field-0-is
    c.in-Ok-End.ensures.comes in (
      (line, record { clean = came.0; behind = behind _ (g.S.Source.left c.loop.source) _ inv.passed line few inv.over inv.consumed came.1 }),
      came.2,
    )

pub returns-in-Ok-TooLong-clause-hears : goal.returns-in-Ok-TooLong-clause-hears
returns-in-Ok-TooLong-clause-hears g c =
    let inv = c.loop.invariant in
    let few : length inv.passed < MOST_EARLIER = omega (arith, inv.count, c.loop-test.true) in
    let line = c.read_line.new.text.items in
    let came : (has_lf line ≡ false) × Consumes (g.S.Source.left c.loop.source) (g.S.Source.left c.read_line.new.source) line × (length line ≡ MAX_ANSWER) =
    subst (λ k. Comes (this_source g.S.Source.left g.S.Source.faults c.loop.source c.read_line.new.source) line (Ok k)) c.in-Ok-TooLong.field-0-is
    c.in-Ok-TooLong.ensures.comes in (
      line,
      record { clean = came.0; behind = behind _ (g.S.Source.left c.loop.source) _ inv.passed line few inv.over inv.consumed came.1 },
      came.2,
    )

pub returns-in-Ok-clause-hears : goal.returns-in-Ok-clause-hears
returns-in-Ok-clause-hears g c =
    let inv = c.loop.invariant in
    let few : length inv.passed < MOST_EARLIER = omega (arith, inv.count, c.loop-test.true) in
    let line = c.read_line.new.text.items in
    let came : (has_lf line ≡ false) × Consumes (g.S.Source.left c.loop.source) (g.S.Source.left c.read_line.new.source) (with_lf line) =
    subst (λ k. Comes (this_source g.S.Source.left g.S.Source.faults c.loop.source c.read_line.new.source) line (Ok k)) c.in-Ok-Line.field-0-is
    c.in-Ok-Line.ensures.comes in
    record {
      line = line;
      clean = came.0;
      behind = behind _ (g.S.Source.left c.loop.source) _ inv.passed (with_lf line) few inv.over inv.consumed came.1;
      meets = subst (λ l. IsHeard c.args.number l (Ok c.in-Ok.value)) c.deref.ensures.value c.in-Ok.ensures;
    }

pub returns-clause-hears : goal.returns-clause-hears
returns-clause-hears g c =
    let inv = c.loop.invariant in (
      inv.passed,
      record {
        over = inv.over;
        consumed = subst (Consumes (g.S.Source.left c.args.source.now) (g.S.Source.left c.loop.source)) (sym (append-nil (flat_map with_lf inv.passed))) inv.consumed;
      },
      omega (arith, inv.count, c.loop-test.false, c.loop.auto.counter-end),
    )

pub returns-in-Err-heard_in : goal.returns-in-Err-heard_in
returns-in-Err-heard_in g c =
    let inv = c.loop.invariant in
    let few : length inv.passed < MOST_EARLIER = omega (arith, inv.count, c.loop-test.true) in
    let line = c.read_line.new.text.items in
    let came : (has_lf line ≡ false) × Consumes (g.S.Source.left c.loop.source) (g.S.Source.left c.read_line.new.source) (with_lf line) =
    subst (λ k. Comes (this_source g.S.Source.left g.S.Source.faults c.loop.source c.read_line.new.source) line (Ok k)) c.in-Ok-Line.field-0-is
    c.in-Ok-Line.ensures.comes in
    record {
      hears = record {
        line = line;
        clean = came.0;
        behind = behind _ (g.S.Source.left c.loop.source) _ inv.passed (with_lf line) few inv.over inv.consumed came.1;
        meets = subst (λ l. IsHeard c.args.number l (Err c.in-Err-heard_in.why)) c.deref.ensures.value c.in-Err-heard_in.ensures;
      };
      room = c.in-Ok-Line.ensures.room;
    }

pub loop-preserved : goal.loop-preserved
loop-preserved g c =
    let inv = c.loop.invariant in
    let line = c.read_line.new.text.items in
    let came : (has_lf line ≡ false) × Consumes (g.S.Source.left c.loop.source) (g.S.Source.left c.read_line.new.source) (with_lf line) =
    subst (λ k. Comes (this_source g.S.Source.left g.S.Source.faults c.loop.source c.read_line.new.source) line (Ok k)) c.in-Ok-Line.field-0-is
    c.in-Ok-Line.ensures.comes in
    let earlier : IsHeard c.args.number c.deref.result.now (Err unheard.Earlier) =
    subst (λ why. IsHeard c.args.number c.deref.result.now (Err why)) c.in-Err-Earlier.field-0-is c.in-Err-Earlier.ensures in
    record {
      passed = inv.passed ++ line ∷ [];
      count = rw (length-append, inv.count);
      over = small_more (IsEarlier c.args.number) inv.passed line inv.over (record {
        clean = came.0;
        is = subst (λ l. IsHeard c.args.number l (Err unheard.Earlier)) c.deref.ensures.value earlier;
      });
      consumed = subst (λ l. Consumes (g.S.Source.left c.args.source.now) (g.S.Source.left c.read_line.new.source) l)
          (one_more with_lf inv.passed line)
          (Consumes-trans _ _ _ (flat_map with_lf inv.passed) (with_lf line) inv.consumed came.1);
      later = le_trans inv.later c.in-Ok-Line.ensures.cause.later;
      room = c.in-Ok-Line.ensures.room;
    }
