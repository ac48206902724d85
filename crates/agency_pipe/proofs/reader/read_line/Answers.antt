use Rattle.std.proofs.Common.{◌≡◌, ℕ, ◌+◌, List, [], ◌∷◌, ◌++◌, Option, Some, Ok, arith, false, length, length-append, append-nil, le_trans, subst, sym}
use Rattle.std.proofs.KnownBytes.{Consumes-kept, Consumes-trans}
use Rattle.std.proofs.lemmas.Grind.{common_steps}
use Rattle.std.proofs.lemmas.List.Folds.{list_any-append}
use Rattle.std.specs.Io.KnownBytes.{Consumes, IsAtEnd}
use Rattle.ports.specs.Sources.{this_source}
use Rattle.agency_pipe.specs.Lines.{GivesByte, has_lf}
use Rattle.agency_pipe.proofs.reader.read_line.Goals as goal

no_lf_more : (text : List ℕ) (byte : ℕ) → has_lf text ≡ false → (byte ≡ 10 → ⊥) → has_lf (text ++ byte ∷ []) ≡ false
no_lf_more text byte clean other = grind (arith, common_steps, list_any-append)

at_end : (a b c : Option (List ℕ)) (text : List ℕ) → Consumes a b text → Consumes b c [] → Consumes a c text
at_end a b c text before now = subst (Consumes a c) (append-nil text) (Consumes-trans a b c text [] before now)

pub returns-in-Err-clause-comes : goal.returns-in-Err-clause-comes
returns-in-Err-clause-comes g c = (c.loop.invariant.clean, Consumes-kept _ _ _ _ c.loop.invariant.consumed c.in-Err.ensures.byte)

pub returns-in-Ok-None-clause-comes : goal.returns-in-Ok-None-clause-comes
returns-in-Ok-None-clause-comes g c =
    let came : Consumes (g.S.Source.left c.loop.source) (g.S.Source.left c.next_byte.new.source) [] × IsAtEnd (g.S.Source.left c.next_byte.new.source) =
    subst (λ o. GivesByte (this_source g.S.Source.left g.S.Source.faults c.loop.source c.next_byte.new.source) (Ok o)) c.in-Ok-None.field-0-is
    c.in-Ok-None.ensures.byte in
    (c.loop.invariant.clean, at_end _ _ _ _ c.loop.invariant.consumed came.0, came.1)

pub returns-in-Ok-Some-eq10-clause-comes : goal.returns-in-Ok-Some-eq10-clause-comes
returns-in-Ok-Some-eq10-clause-comes g c =
    let lf : c.in-Ok-Some-eq10.field-0 ≡ Some 10 = cc in
    let came : Consumes (g.S.Source.left c.loop.source) (g.S.Source.left c.next_byte.new.source) (10 ∷ []) =
    subst (λ o. GivesByte (this_source g.S.Source.left g.S.Source.faults c.loop.source c.next_byte.new.source) (Ok o)) lf
    c.in-Ok-Some-eq10.ensures.byte in
    (c.loop.invariant.clean, Consumes-trans _ _ _ _ _ c.loop.invariant.consumed came)

pub loop-preserved : goal.loop-preserved
loop-preserved g c =
    let inv = c.loop.invariant in
    let byte = c.in-Ok-Some.byte in
    let grown : c.push.new.self.items ≡ c.loop.text.items ++ byte ∷ [] = c.in-Ok.ensures.items in
    let came : Consumes (g.S.Source.left c.loop.source) (g.S.Source.left c.next_byte.new.source) (byte ∷ []) =
    subst (λ o. GivesByte (this_source g.S.Source.left g.S.Source.faults c.loop.source c.next_byte.new.source) (Ok o)) c.in-Ok-Some.field-0-is
    c.in-Ok-Some.ensures.byte in
    record {
      clean = subst (λ l. has_lf l ≡ false) (sym grown) (no_lf_more c.loop.text.items byte inv.clean c.in-Ok-Some.byte-test.1);
      consumed = subst (Consumes (g.S.Source.left c.args.source.now) (g.S.Source.left c.next_byte.new.source)) (sym grown)
          (Consumes-trans _ _ _ _ _ inv.consumed came);
      count = subst (λ l. length l ≡ c.loop.counter + 1) (sym grown) (rw (length-append, inv.count));
      later = le_trans inv.later c.in-Ok-Some.ensures.cause.later;
      room = le_trans inv.room c.in-Ok.ensures.capacity;
    }
