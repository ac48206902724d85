use Rattle.std.proofs.Common.{sym, Some}
use Rattle.std.proofs.lemmas.List.{append-nil}
use Rattle.script.specs.declared.options.Item.TheVariants.{To, Rect, Ref, Line}
use Rattle.script.proofs.Gathering.{gathered_more, or_new, or_same, or_none}
use Rattle.script.proofs.drafts.Gathered.add.Goals as goal

pub returns-then-is_none : goal.returns-then-is_none
returns-then-is_none c = λ items g.
    let old = c.args.self.now in
    rw c.in-To.is (gathered_more items (To c.in-To.party) old (record old { customer = Some c.in-To.party }) g
    (or_new old.customer c.in-To.party c.is_none.result c.is_none.ensures c.if-is_none.true) (or_none old.rect)
    (sym (append-nil _)) (sym (append-nil _)))

pub returns-else-is_none : goal.returns-else-is_none
returns-else-is_none c = λ items g.
    let old = c.args.self.now in
    rw c.in-To.is (gathered_more items (To c.in-To.party) old old g
    (or_same old.customer c.in-To.party c.is_none.result c.is_none.ensures c.if-is_none.false) (or_none old.rect)
    (sym (append-nil _)) (sym (append-nil _)))

pub returns-then-is_none-2 : goal.returns-then-is_none-2
returns-then-is_none-2 c = λ items g.
    let old = c.args.self.now in
    rw c.in-Rect.is (gathered_more items (Rect c.in-Rect.rect) old (record old { rect = Some c.in-Rect.rect }) g
    (or_none old.customer) (or_new old.rect c.in-Rect.rect c.is_none-in-Rect.result c.is_none-in-Rect.ensures c.if-is_none-2.true)
    (sym (append-nil _)) (sym (append-nil _)))

pub returns-else-is_none-2 : goal.returns-else-is_none-2
returns-else-is_none-2 c = λ items g.
    let old = c.args.self.now in
    rw c.in-Rect.is (gathered_more items (Rect c.in-Rect.rect) old old g
    (or_none old.customer) (or_same old.rect c.in-Rect.rect c.is_none-in-Rect.result c.is_none-in-Rect.ensures
    c.if-is_none-2.false) (sym (append-nil _)) (sym (append-nil _)))

pub returns-in_ok-push-in-Ref : goal.returns-in_ok-push-in-Ref
returns-in_ok-push-in-Ref c = λ items g.
    let old = c.args.self.now in
    rw c.in-Ref.is (gathered_more items (Ref c.in-Ref.id) old (record old { refs = c.push.new.self }) g
    (or_none old.customer) (or_none old.rect) c.in_ok-push-in-Ref.ensures.items (sym (append-nil _)))

pub returns-in_ok-push-in-Line : goal.returns-in_ok-push-in-Line
returns-in_ok-push-in-Line c = λ items g.
    let old = c.args.self.now in
    rw c.in-Line.is (gathered_more items (Line c.in-Line.line) old (record old { lines = c.push-in-Line.new.self }) g
    (or_none old.customer) (or_none old.rect) (sym (append-nil _)) c.in_ok-push-in-Line.ensures.items)
