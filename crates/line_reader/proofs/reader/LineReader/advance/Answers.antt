use Rattle.std.proofs.Common.{◌≡◌, ◌∙◌, ◌++◌, ◌∷◌, [], ℕ, List, inl, inr, ap, refl, subst, sym, arith}
use Rattle.std.proofs.KnownBytes.{Consumes-kept, Consumes-nil, Consumes-trans}
use Rattle.line_reader.specs.Held.{Held}
use Rattle.line_reader.specs.Lines.{IsAskedFor, front_of, kept_of}
use Rattle.line_reader.specs.Reading.{has_lf}
use Rattle.line_reader.proofs.Underway.{all_clean, all_of, begun, came_at_end, came_at_lf, clash, found_nowhere, found_there}
use Rattle.line_reader.proofs.Underway.{given_on, is_none, left_behind, lf_behind, none_left, other_way, paused, same_given, spent_on}
use Rattle.line_reader.proofs.Underway.{taken_on}
use Rattle.line_reader.proofs.reader.LineReader.advance.Goals as goal

pub loop-init : goal.loop-init
loop-init g c =
    let begin = c.begin.ensures in
    let same : kept_of c.args.self.now ≡ kept_of c.begin.new.self =
    ap (λ f. f ++ c.args.self.now.chunk.rest) (sym begin.front)
    ∙ ap (λ (h : Held). front_of c.begin.new.self.stage c.begin.new.self.text.items ++ h.rest) (sym begin.chunk) in
    record {
      next = tt;
      finite = tt;
      taken = [];
      let_go = [];
      consumed = Consumes-nil _;
      underway = begun _ _ _ _ _ same begin.underway begin.dropping;
      asked = inl refl;
      unread = λ h. (
        refl,
        lf_behind c.begin.new.self.stage c.begin.new.self.text.items c.begin.new.self.chunk.rest begin.clean (sym (ap has_lf same) ∙ h),
      );
      over = begin.over;
      rests = λ h. refl;
      asleep = λ h. refl;
      later = omega arith;
      once = λ counts. refl;
    }

pub loop-preserved : goal.loop-preserved
loop-preserved g c =
    let inv = c.loop.invariant in
    let nowhere = found_nowhere _ _ _ c.if-take_part.false c.take_part.ensures.cuts in
    let on = taken_on _ _ _ _ _ _ _ _ _ _ [] inv.underway c.take_part.ensures.clean nowhere.0 (all_of _ _ nowhere.1)
    c.take_part.ensures.absorbs in
    record {
      next = tt;
      finite = tt;
      taken = inv.taken ++ c.fill.new.self.rest;
      let_go = on.0;
      consumed = Consumes-trans _ _ _ inv.taken _ inv.consumed c.in-Ok.ensures.fills.0;
      underway = given_on _ _ _ c.fill.new.self.rest _ _ _ on.1;
      asked = inr (
        inv.taken,
        ap (λ (l : List ℕ). inv.taken ++ l) (sym c.in-Ok.ensures.fills.2),
        all_clean _ _ _ _ _ _ on.1 c.take_part.ensures.clean_after,
      );
      unread = λ h. absurd (clash _ _ nowhere.0 nowhere.1 (inv.unread h).1);
      over = c.take_part.ensures.over ∙ inv.over;
      rests = λ h. absurd (other_way _ c.if-self.false (c.take_part.ensures.over ∙ inv.over ∙ h));
      asleep = λ h. absurd (other_way _ c.if-self.false (c.take_part.ensures.over ∙ inv.over ∙ h));
      later = let more = c.in-Ok.ensures.cause.later in let before = inv.later in omega arith;
      once = λ counts. c.in-Ok.ensures.once counts ∙ inv.once counts;
    }

pub returns-then-take_part-clause-next : goal.returns-then-take_part-clause-next
returns-then-take_part-clause-next g c =
    let inv = c.loop.invariant in
    let there = found_there _ _ _ c.if-take_part.true c.take_part.ensures.cuts in
    let on = taken_on _ _ _ _ _ _ _ _ _ _ (10 ∷ there.1.0) inv.underway c.take_part.ensures.clean there.0 there.1.1
    c.take_part.ensures.absorbs in
    came_at_lf _ c.args.self.now c.take_part.new.self c.at_lf.new.self inv.taken on.0 there.1.0 _ inv.consumed inv.rests
    (subst (λ (l : List ℕ). IsAskedFor (kept_of c.args.self.now) inv.taken l)
    (sym (same_given 1 c.take_part.new.self.chunk c.at_lf.new.self.chunk c.at_lf.ensures.chunk
    ∙ same_given _ c.loop.self.chunk c.take_part.new.self.chunk c.take_part.ensures.chunk)) inv.asked) on.1 c.take_part.ensures.clean_after c.take_part.ensures.within c.at_lf.ensures.turns
    (c.at_lf.ensures.over ∙ c.take_part.ensures.over ∙ inv.over)
    (left_behind _ there.1.0 c.loop.self.chunk c.take_part.new.self.chunk c.at_lf.new.self.chunk there.1.1 c.take_part.ensures.chunk c.at_lf.ensures.chunk)

pub returns-in-Err-clause-next : goal.returns-in-Err-clause-next
returns-in-Err-clause-next g c =
    let inv = c.loop.invariant in
    let nowhere = found_nowhere _ _ _ c.if-take_part.false c.take_part.ensures.cuts in
    let on = taken_on _ _ _ _ _ _ _ _ _ _ [] inv.underway c.take_part.ensures.clean nowhere.0 (all_of _ _ nowhere.1)
    c.take_part.ensures.absorbs in
    paused _ c.args.self.now _ inv.taken on.0 (Consumes-kept _ _ _ inv.taken inv.consumed c.in-Err.ensures.fills.0)
    (sym (c.take_part.ensures.over ∙ inv.over) ∙ c.if-self.false) (c.take_part.ensures.over ∙ inv.over) on.1
    c.take_part.ensures.clean_after c.in-Err.ensures.fills.1

pub returns-then-self-clause-next : goal.returns-then-self-clause-next
returns-then-self-clause-next g c =
    let inv = c.loop.invariant in
    let nowhere = found_nowhere _ _ _ c.if-take_part.false c.take_part.ensures.cuts in
    let on = taken_on _ _ _ _ _ _ _ _ _ _ [] inv.underway c.take_part.ensures.clean nowhere.0 (all_of _ _ nowhere.1)
    c.take_part.ensures.absorbs in
    let over = sym (c.take_part.ensures.over ∙ inv.over) ∙ c.if-self.true in
    came_at_end _ c.args.self.now c.take_part.new.self c.at_end.new.self inv.taken on.0 _ inv.consumed inv.rests
    (subst (λ (l : List ℕ). IsAskedFor (kept_of c.args.self.now) inv.taken l) (sym (same_given _ c.loop.self.chunk c.take_part.new.self.chunk c.take_part.ensures.chunk))
    inv.asked) (λ going. absurd (other_way _ going over)) on.1 c.take_part.ensures.clean_after c.take_part.ensures.within
    (none_left _ c.loop.self.chunk c.take_part.new.self.chunk nowhere.1 c.take_part.ensures.chunk) c.at_end.ensures

pub returns-then-is_empty-clause-next : goal.returns-then-is_empty-clause-next
returns-then-is_empty-clause-next g c =
    let inv = c.loop.invariant in
    let nowhere = found_nowhere _ _ _ c.if-take_part.false c.take_part.ensures.cuts in
    let on = taken_on _ _ _ _ _ _ _ _ _ _ [] inv.underway c.take_part.ensures.clean nowhere.0 (all_of _ _ nowhere.1)
    c.take_part.ensures.absorbs in
    let none = is_none c.fill.new.self.rest c.bytes.result.now c.is_empty.result c.if-is_empty.true c.is_empty.ensures c.bytes.ensures in
    let u = spent_on _ _ _ c.fill.new.self.rest _ _ _ none on.1 in
    let consumed = Consumes-trans _ _ _ inv.taken _ inv.consumed c.in-Ok.ensures.fills.0 in
    came_at_end _ c.args.self.now _ c.at_end-then-is_empty.new.self (inv.taken ++ c.fill.new.self.rest) on.0 _ consumed
    (λ h. absurd (other_way _ c.if-self.false (c.take_part.ensures.over ∙ inv.over ∙ h)))
    (inr (
      inv.taken,
      ap (λ (l : List ℕ). inv.taken ++ l) (sym c.in-Ok.ensures.fills.2),
      all_clean _ _ _ _ _ _ on.1 c.take_part.ensures.clean_after,
    )) (λ going. c.in-Ok.ensures.fills.1 none) u
    c.take_part.ensures.clean_after c.take_part.ensures.within none c.at_end-then-is_empty.ensures
