use Rattle.std.proofs.Common.{◌≡◌, Ok, false, length, refl, subst, sym, true}
use Rattle.std.specs.Io.KnownBytes.{Consumes}
use Rattle.export.specs.Lines.{value_read}
use Rattle.ports.specs.Sources.{this_source}
use Rattle.agency_pipe.specs.Greeting.{greeting_if}
use Rattle.agency_pipe.specs.Lines.{Comes, has_lf, with_lf}
use Rattle.agency_pipe.specs.declared.reader.TheConstants.{MAX_ANSWER}
use Rattle.agency_pipe.proofs.greet.heed.Goals as goal

pub returns-in-Ok-TooLong-clause-heeds : goal.returns-in-Ok-TooLong-clause-heeds
returns-in-Ok-TooLong-clause-heeds g c =
    let line = c.read_line.new.text.items in
    let came : (has_lf line ≡ false) × Consumes (g.S.Source.left c.args.source.now) (g.S.Source.left c.read_line.new.source) line × (length line ≡ MAX_ANSWER) =
    subst (λ k. Comes (this_source g.S.Source.left g.S.Source.faults c.args.source.now c.read_line.new.source) line (Ok k)) c.in-Ok-TooLong.field-0-is
    c.in-Ok-TooLong.ensures.comes in
    record {
      came = record { text = line; whole = false };
      piece = record { clean = came.0; long = λ _. came.2 };
      greeting = refl;
      consumed = came.1;
    }

pub returns-in-Ok-clause-heeds : goal.returns-in-Ok-clause-heeds
returns-in-Ok-clause-heeds g c =
    let line = c.read_line.new.text.items in
    let came : (has_lf line ≡ false) × Consumes (g.S.Source.left c.args.source.now) (g.S.Source.left c.read_line.new.source) (with_lf line) =
    subst (λ k. Comes (this_source g.S.Source.left g.S.Source.faults c.args.source.now c.read_line.new.source) line (Ok k)) c.in-Ok-Line.field-0-is
    c.in-Ok-Line.ensures.comes in
    record {
      came = record { text = line; whole = true };
      piece = record { clean = came.0; long = λ no. absurd cc };
      greeting = subst (λ l. greeting_if c.args.number (value_read l) ≡ c.in-Ok.greeting) c.deref.ensures.value (sym c.in-Ok.ensures);
      consumed = came.1;
    }

pub returns-in-Err-greeting_of-clause-heeds : goal.returns-in-Err-greeting_of-clause-heeds
returns-in-Err-greeting_of-clause-heeds g c =
    let line = c.read_line.new.text.items in
    let came : (has_lf line ≡ false) × Consumes (g.S.Source.left c.args.source.now) (g.S.Source.left c.read_line.new.source) (with_lf line) =
    subst (λ k. Comes (this_source g.S.Source.left g.S.Source.faults c.args.source.now c.read_line.new.source) line (Ok k)) c.in-Ok-Line.field-0-is
    c.in-Ok-Line.ensures.comes in (
      greeting_if c.args.number (value_read line),
      record {
        came = record { text = line; whole = true };
        piece = record { clean = came.0; long = λ no. absurd cc };
        greeting = refl;
        consumed = came.1;
      },
    )
