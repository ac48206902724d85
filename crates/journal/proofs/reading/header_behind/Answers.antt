use Rattle.journal.specs.Header.IsHeaderDamaged.{no_mark, other_version, cut_in_issuer, no_nif}
use Rattle.journal.proofs.reading.header_behind.Goals as goal

pub returns-then-not-is_mark : goal.returns-then-not-is_mark
returns-then-not-is_mark c = no_mark c.requires.long c.requires.first (λ is. let m = c.is_mark.ensures in
    cc (m.1 is, c.if-not-is_mark.true))

pub returns-in_default : goal.returns-in_default
returns-in_default c = other_version (record {
  long = c.requires.long;
  first = c.requires.first;
  mark = c.is_mark.ensures.0 c.if-not-is_mark.false;
}) (λ version is. c.in_default.not-Some version (c.of_number.ensures.complete version is))

pub returns-then-file-lt-HEADER : goal.returns-then-file-lt-HEADER
returns-then-file-lt-HEADER c = cut_in_issuer c.in-Some.version (record {
  marked = record {
    long = c.requires.long;
    first = c.requires.first;
    mark = c.is_mark.ensures.0 c.if-not-is_mark.false;
  };
  number = c.in-Some.ensures.value;
}) c.if-file-lt-HEADER.true

pub returns-in-None : goal.returns-in-None
returns-in-None c = no_nif c.in-Some.version (record {
  marked = record {
    long = c.requires.long;
    first = c.requires.first;
    mark = c.is_mark.ensures.0 c.if-not-is_mark.false;
  };
  number = c.in-Some.ensures.value;
}) c.if-file-lt-HEADER.false
    c.in-None.ensures.none
