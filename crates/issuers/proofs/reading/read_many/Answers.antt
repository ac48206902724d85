use Rattle.std.proofs.Common.{arith}
use Rattle.std.proofs.Common.{All, ◌≡◌, ◌+◌, ◌∷◌, ◌++◌, ◌∙◌, [], ℕ, List, take, ap, sym, subst}
use Rattle.std.proofs.lemmas.List.{take_more, append-nil}
use Rattle.script.specs.Cuts.{parts_of}
use Rattle.issuers.specs.Parts.{HasLines}
use Rattle.issuers.specs.Reading.{IsSoonest, PartsAre, section_faults}
use Rattle.issuers.specs.declared.parts.Part.{Part}
use Rattle.issuers.specs.declared.reading.BadLine.{BadLine}
use Rattle.issuers.proofs.Sections.{Many, lines_more, lines_stay, many_more}
use Rattle.issuers.proofs.reading.read_many.Goals as goal

pub loop-issuer-init : goal.loop-issuer-init
loop-issuer-init c =
    let faults = section_faults c.args.issuers.now (parts_of 10 c.args.bytes.now) in
    record {
      many = record {
        faults = [];
        each = tt;
        soonest = subst (λ (l : List BadLine). IsSoonest l c.bad_section-bad.result) (sym (append-nil faults)) c.bad_section-bad.ensures;
        parts_are = λ none. subst (λ (ps : List Part). PartsAre c.args.bytes.now [] ps) (sym c.new-parts.ensures.items) tt;
      };
      lines = subst (λ (ps : List Part). All HasLines ps) (sym c.new-parts.ensures.items) (λ k d below. absurd (omega (arith, below)));
    }

pub loop-issuer-preserved : goal.loop-issuer-preserved
loop-issuer-preserved c =
    let bytes = c.args.bytes.now in
    let issuers = c.args.issuers.now in
    let i = c.loop-issuer.issuer-index in
    let nif = c.issuer-item.result in
    let faults = section_faults issuers (parts_of 10 bytes) in
    let asked : take i issuers ++ nif ∷ [] ≡ take (i + 1) issuers =
    ap (λ (n : List ℕ). take i issuers ++ n ∷ []) c.issuer-item.is ∙ sym (take_more issuers i nif c.loop-issuer-test.true) in
    record {
      many = subst (λ (ns : List (List ℕ)). Many bytes ns faults c.in_ok-bad.bad c.add_part.new.parts.items) asked
          (many_more bytes (take i issuers) faults c.loop-issuer.bad c.loop-issuer.parts.items nif c.read_part.result c.in_ok-bad.bad
          c.add_part.new.parts.items c.loop-issuer.invariant.many c.read_part.ensures.part c.in_ok-bad.ensures);
      lines = lines_more c.read_part.result c.loop-issuer.bad c.loop-issuer.parts.items c.in_ok-bad.bad c.add_part.new.parts.items
          c.read_part.ensures.lines c.loop-issuer.invariant.lines c.in_ok-bad.ensures;
    }

pub returns-in-None-clause-stay : goal.returns-in-None-clause-stay
returns-in-None-clause-stay c nif = lines_stay nif c.args.bytes.now

pub returns-in-Some-clause-stay : goal.returns-in-Some-clause-stay
returns-in-Some-clause-stay c nif = lines_stay nif c.args.bytes.now

pub returns-in_err-bad-clause-stay : goal.returns-in_err-bad-clause-stay
returns-in_err-bad-clause-stay c nif = lines_stay nif c.args.bytes.now
