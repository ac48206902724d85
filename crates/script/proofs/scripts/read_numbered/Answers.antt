use Rattle.std.proofs.Common.{◌∙◌, ◌++◌, ◌∷◌, ◌≤◌, ◌+◌, refl, sym, ap, subst, arith, length, List, ◌≡◌, ℕ, [], ◌==◌, unwrap_or, filter_map}
use Rattle.std.proofs.lemmas.List.Splits.{length-slice_split}
use Rattle.std.proofs.lemmas.List.Sums.{count_by-le-length}
use Rattle.std.specs.Str.Lines.{strip_carriage_return}
use Rattle.agency_rules.specs.declared.plans.Plan.{Plan}
use Rattle.pacing.specs.declared.pace.TheConstants.{FIRST_WAIT}
use Rattle.script.specs.Cuts.{lines_of}
use Rattle.script.specs.SoFar.{known}
use Rattle.script.specs.Forms.{has_commands}
use Rattle.script.specs.Lines.{Above}
use Rattle.script.specs.Script.{EachSays, plan_of}
use Rattle.script.specs.declared.scripts.Script.{Script}
use Rattle.script.specs.Planned.{IsPlanned}
use Rattle.script.specs.Numbered.{Rising, command_line}
use Rattle.script.proofs.Numbering.{each_length, lines_more, one_each, rise}
use Rattle.script.proofs.Plans.{plan_sound}
use Rattle.script.proofs.Reading.{to_come, said_is_new, next_line, all_read, no_asks}
use Rattle.script.proofs.scripts.read_numbered.Goals as goal

-- what the lines above plan
abbrev planned_above : Above → Plan
planned_above above = record { verdicts = above.verdicts; wait = unwrap_or above.wait FIRST_WAIT; fates = above.fates }

pub loop-text-init : goal.loop-text-init
loop-text-init c =
    let parts = length-slice_split (λ b. b == 10) c.args.bytes.now in
    let cuts = count_by-le-length (λ b. b == 10) c.args.bytes.now in
    let few : length c.of-lines.result ≤ 4_294_967_295 = rw c.of-lines.ensures (omega (arith, parts, cuts, c.requires)) in
    record {
      front = [];
      meanings = [];
      partway = record {
        split = ap to_come (sym c.of-lines.ensures);
        each = tt;
        numbered = refl;
        good = c.nothing-read.ensures;
      };
      numbers_are = c.new-numbers.ensures.items;
      size = omega (arith, few);
    }

pub add-requires : goal.add-requires
add-requires c = said_is_new c.args.form (known c.loop-text.read) c.without_return.result.now c.in-Ok.line c.in-Ok.ensures

pub loop-text-preserved : goal.loop-text-preserved
loop-text-preserved c =
    let inv = c.loop-text.invariant in
    record {
      front = inv.front ++ strip_carriage_return c.in-Some.text.now ∷ [];
      meanings = inv.meanings ++ c.in-Ok.line ∷ [];
      partway = next_line c.args.form (lines_of c.args.bytes.now) inv.front c.loop-text.lines c.next.new.self inv.meanings
          c.without_return.result.now c.in-Some.text.now
          c.in-Ok.line c.loop-text.number c.loop-text.read c.add.new.self inv.partway c.in-Some.ensures c.without_return.ensures
          c.in-Ok.ensures
          (c.in_ok-add-in-Ok.ensures.reads inv.meanings inv.partway.good);
      numbers_are = c.in_ok-number_line-in-Ok.ensures
          ∙ ap (λ (l : List ℕ). l ++ filter_map command_line ((c.loop-text.number + 1, c.in-Ok.line) ∷ [])) inv.numbers_are
          ∙ sym (lines_more inv.meanings c.in-Ok.line c.loop-text.number (inv.partway.numbered
          ∙ sym (each_length c.args.form [] inv.front inv.meanings inv.partway.each)));
      size = let fewer = ap length c.in-Some.ensures in omega (arith, inv.size, fewer);
    }

pub returns-clause-script : goal.returns-clause-script
returns-clause-script c =
    let inv = c.loop-text.invariant in
    record {
      whole = record {
        meanings = inv.meanings;
        each = subst (λ (lines : List (List ℕ)). EachSays c.args.form [] lines inv.meanings)
            (all_read (lines_of c.args.bytes.now) inv.front c.loop-text.lines inv.partway.split c.in_default.ensures)
            inv.partway.each;
        clock = ap (λ (script : Script). script.clock) c.into_script.ensures ∙ ap (λ (above : Above). above.clock)
            inv.partway.good.above;
        asks = ap (λ (script : Script). script.asks) c.into_script.ensures ∙ inv.partway.good.asks;
        plan = ap (λ (script : Script). script.plan) c.into_script.ensures ∙ ap planned_above inv.partway.good.above;
      };
      numbers_are = c.of.ensures ∙ inv.numbers_are;
    }

pub returns-clause-one_each : goal.returns-clause-one_each
returns-clause-one_each c =
    let inv = c.loop-text.invariant in
    ap length (c.of.ensures ∙ inv.numbers_are) ∙ one_each 1 inv.meanings
    ∙ sym (ap length (ap (λ (script : Script). script.asks) c.into_script.ensures ∙ inv.partway.good.asks))

pub returns-clause-rising : goal.returns-clause-rising
returns-clause-rising c =
    let inv = c.loop-text.invariant in
    subst Rising (sym (c.of.ensures ∙ inv.numbers_are)) (rise inv.meanings)

pub returns-clause-few : goal.returns-clause-few
returns-clause-few c = rw c.into_script.ensures c.loop-text.invariant.partway.good.few

pub returns-clause-commands : goal.returns-clause-commands
returns-clause-commands c = λ none.
    let inv = c.loop-text.invariant in
    ap (λ (script : Script). script.asks) c.into_script.ensures ∙ inv.partway.good.asks
    ∙ no_asks c.args.form [] inv.front inv.meanings (ap has_commands none) inv.partway.each

pub returns-clause-plan : goal.returns-clause-plan
returns-clause-plan c =
    let inv = c.loop-text.invariant in
    let is : c.into_script.result.plan ≡ plan_of inv.meanings =
    ap (λ (script : Script). script.plan) c.into_script.ensures ∙ ap planned_above inv.partway.good.above in
    subst IsPlanned (sym is) (plan_sound c.args.form inv.front inv.meanings inv.partway.each)
