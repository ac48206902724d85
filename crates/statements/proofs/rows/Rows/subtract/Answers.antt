use Rattle.std.proofs.Common.{◌≡◌, ◌∷◌, List, sym, ◌∙◌, ap, subst, arith}
use Rattle.statements.proofs.Changing.{minus_at, remove_at, slot_of, small_there, some_lines}
use Rattle.statements.specs.Rows.{AreRows, rank_of, slot}
use Rattle.statements.specs.declared.rows.Row.{Row}
use Rattle.statements.proofs.rows.Rows.subtract.Goals as goal

pub index-requires : goal.index-requires
index-requires c =
    let rows = c.self.inside.rows.items in
    let line = c.args.line.now in
    let at : c.slot-i.result ≡ slot (rank_of line.key) rows =
    c.slot-i.ensures.value ∙ ap (λ n. slot n c.deref.result.now) c.rank.ensures ∙
    ap (slot (rank_of line.key)) c.deref.ensures.value in
    let lt = slot_of line c.requires.rest rows c.slot-i.result at c.requires.few.near.0.key
    (subst (λ (rs : List Row). AreRows (line ∷ c.requires.rest) rs) (sym c.self.view_is) c.requires.are) in
    omega (arith, lt, c.self.inside.rows.ok.0)

pub minus-row-requires-clause-some : goal.minus-row-requires-clause-some
minus-row-requires-clause-some c =
    let rows = c.self.inside.rows.items in
    let line = c.args.line.now in
    let at : c.slot-i.result ≡ slot (rank_of line.key) rows =
    c.slot-i.ensures.value ∙ ap (λ n. slot n c.deref.result.now) c.rank.ensures ∙
    ap (slot (rank_of line.key)) c.deref.ensures.value in
    some_lines line c.requires.rest rows c.slot-i.result c.index.result.now at c.index.ensures
    c.requires.few.near.0.key (subst (λ (rs : List Row). AreRows (line ∷ c.requires.rest) rs) (sym c.self.view_is) c.requires.are)

pub minus-row-requires-clause-small : goal.minus-row-requires-clause-small
minus-row-requires-clause-small c =
    let rows = c.self.inside.rows.items in
    let line = c.args.line.now in
    let at : c.slot-i.result ≡ slot (rank_of line.key) rows =
    c.slot-i.ensures.value ∙ ap (λ n. slot n c.deref.result.now) c.rank.ensures ∙
    ap (slot (rank_of line.key)) c.deref.ensures.value in
    small_there line c.requires.rest rows c.slot-i.result c.index.result.now at c.index.ensures
    c.requires.few.near.0.key (subst (λ (rs : List Row). AreRows (line ∷ c.requires.rest) rs) (sym c.self.view_is) c.requires.are)
    c.requires.few

pub remove-requires : goal.remove-requires
remove-requires c =
    let rows = c.self.inside.rows.items in
    let line = c.args.line.now in
    let at : c.slot-i.result ≡ slot (rank_of line.key) rows =
    c.slot-i.ensures.value ∙ ap (λ n. slot n c.deref.result.now) c.rank.ensures ∙
    ap (slot (rank_of line.key)) c.deref.ensures.value in
    let lt = slot_of line c.requires.rest rows c.slot-i.result at c.requires.few.near.0.key
    (subst (λ (rs : List Row). AreRows (line ∷ c.requires.rest) rs) (sym c.self.view_is) c.requires.are) in
    omega (arith, lt, c.self.inside.rows.ok.0)

pub index_mut-requires : goal.index_mut-requires
index_mut-requires c =
    let rows = c.self.inside.rows.items in
    let line = c.args.line.now in
    let at : c.slot-i.result ≡ slot (rank_of line.key) rows =
    c.slot-i.ensures.value ∙ ap (λ n. slot n c.deref.result.now) c.rank.ensures ∙
    ap (slot (rank_of line.key)) c.deref.ensures.value in
    let lt = slot_of line c.requires.rest rows c.slot-i.result at c.requires.few.near.0.key
    (subst (λ (rs : List Row). AreRows (line ∷ c.requires.rest) rs) (sym c.self.view_is) c.requires.are) in
    omega (arith, lt, c.self.inside.rows.ok.0)

pub returns-then-row-eq0 : goal.returns-then-row-eq0
returns-then-row-eq0 c ls are =
    let rows = c.self.inside.rows.items in
    let line = c.args.line.now in
    let at : c.slot-i.result ≡ slot (rank_of line.key) rows =
    c.slot-i.ensures.value ∙ ap (λ n. slot n c.deref.result.now) c.rank.ensures ∙
    ap (slot (rank_of line.key)) c.deref.ensures.value in
    remove_at line rows c.remove.new.self.items c.slot-i.result c.index.result.now c.minus-row.result ls at c.index.ensures
    c.minus-row.ensures c.if-row-eq0.true c.remove.ensures.items c.requires.few.near.0.key
    (subst (λ (rs : List Row). AreRows (line ∷ ls) rs) (sym c.self.view_is) are)

pub returns-else-row-eq0 : goal.returns-else-row-eq0
returns-else-row-eq0 c ls are =
    let rows = c.self.inside.rows.items in
    let line = c.args.line.now in
    let at : c.slot-i.result ≡ slot (rank_of line.key) rows =
    c.slot-i.ensures.value ∙ ap (λ n. slot n c.deref.result.now) c.rank.ensures ∙
    ap (slot (rank_of line.key)) c.deref.ensures.value in
    minus_at line rows c.slot-i.result c.index.result.now c.minus-row.result ls at c.index.ensures
    c.minus-row.ensures c.if-row-eq0.false c.requires.few.near.0.key
    (subst (λ (rs : List Row). AreRows (line ∷ ls) rs) (sym c.self.view_is) are)
