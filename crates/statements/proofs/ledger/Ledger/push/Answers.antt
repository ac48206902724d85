use Rattle.std.proofs.Common.{◌≡◌, ℕ, ◌++◌, ◌∷◌, [], List, sym, ◌∙◌, ap, subst}
use Rattle.record_codec.specs.declared.entry.Entry.{Entry}
use Rattle.shop_core.specs.History.{History}
use Rattle.shop_core.specs.Legal.{Continues}
use Rattle.statements.proofs.Booking.{drop_there, moved_in, plan_room, put_back}
use Rattle.statements.specs.Ledger.{IsKept}
use Rattle.statements.specs.Months.{month_at}
use Rattle.statements.specs.Postings.{AreMonths, HaveAll, HaveRoomFor, all_at}
use Rattle.statements.specs.Statement.{held_lines}
use Rattle.statements.specs.declared.postings.Posting.{Posting}
use Rattle.statements.proofs.ledger.Ledger.push.Goals as goal

pub put_all-requires-clause-room : goal.put_all-requires-clause-room
put_all-requires-clause-room c =
    let s = c.self.inside.state in
    subst (λ (ps : List Posting). HaveRoomFor (all_at ps) c.self.inside.months.items) (sym c.deref.ensures.value)
    (plan_room s.version s.issuer s.entries (s.entries ++ c.args.entry ∷ []) c.in_ok-plan.plan.put.items
    c.in_ok-plan.plan.drop.items
    c.self.inside.months.items c.is_bounded.ensures.legal c.is_bounded.ensures.few c.in_ok-plan.ensures c.self.invariant)

pub invariant_of-self : goal.invariant_of-self
invariant_of-self c =
    c.in_err-put_all.ensures.err (λ (i : ℕ). held_lines c.self.inside.state.entries (month_at i)) c.self.invariant

pub take_out_all-requires-clause-there : goal.take_out_all-requires-clause-there
take_out_all-requires-clause-there c =
    let s = c.self.inside.state in
    subst (λ (ps : List Posting). HaveAll (all_at ps) c.put_all.new.months.items) (sym c.deref-in-Err.ensures.value)
    (put_back s.version s.issuer s.entries (s.entries ++ c.args.entry ∷ []) c.in_ok-plan.plan.put.items
    c.in_ok-plan.plan.drop.items
    c.self.inside.months.items c.put_all.new.months.items c.is_bounded.ensures.legal c.is_bounded.ensures.few c.in_ok-plan.ensures
    c.self.invariant
    (λ f are. subst (λ (ps : List Posting). AreMonths (λ (i : ℕ). all_at ps i ++ f i) c.put_all.new.months.items)
    c.deref.ensures.value (c.in_ok-put_all.ensures.ok f are)))

pub invariant_of-self-in-Err : goal.invariant_of-self-in-Err
invariant_of-self-in-Err c =
    subst (λ (h : History). IsKept h.entries c.take_out_all.new.months.items) (sym c.in-Err.ensures.err)
    (c.take_out_all.ensures (λ (i : ℕ). held_lines c.self.inside.state.entries (month_at i))
    (subst (λ (ps : List Posting). AreMonths (λ (i : ℕ). all_at ps i ++ held_lines c.self.inside.state.entries (month_at i))
    c.put_all.new.months.items) (c.deref.ensures.value ∙ sym c.deref-in-Err.ensures.value)
    (c.in_ok-put_all.ensures.ok (λ (i : ℕ). held_lines c.self.inside.state.entries (month_at i)) c.self.invariant)))

pub take_out_all-requires-2-clause-there : goal.take_out_all-requires-2-clause-there
take_out_all-requires-2-clause-there c =
    let s = c.self.inside.state in
    subst (λ (ps : List Posting). HaveAll (all_at ps) c.put_all.new.months.items) (sym c.deref-2.ensures.value)
    (drop_there s.version s.issuer s.entries c.args.entry c.in_ok-plan.plan.put.items c.in_ok-plan.plan.drop.items
    c.self.inside.months.items
    c.put_all.new.months.items
    (c.a_legal_history_goes_on.ensures s.version s.issuer s.entries c.args.entry c.is_bounded.ensures.legal
    (subst (λ (h : History). Continues h.version h.issuer h.entries c.args.entry) (sym c.self.view_is) c.requires))
    c.is_bounded.ensures.few c.in_ok-plan.ensures c.self.invariant
    (λ f are. subst (λ (ps : List Posting). AreMonths (λ (i : ℕ). all_at ps i ++ f i) c.put_all.new.months.items)
    c.deref.ensures.value (c.in_ok-put_all.ensures.ok f are)))

pub invariant_of-self-2 : goal.invariant_of-self-2
invariant_of-self-2 c =
    let s = c.self.inside.state in
    let e : c.apply.new.self.entries ≡ c.self.inside.state.entries ++ c.args.entry ∷ [] =
    ap (λ (h : History). h.entries) c.apply.ensures
    ∙ ap (λ (h : History). h.entries ++ c.args.entry ∷ []) c.in_default.ensures.ok in
    subst (λ (es : List Entry). IsKept es c.take_out_all-2.new.months.items) (sym e)
    (c.take_out_all-2.ensures (λ (i : ℕ). held_lines (s.entries ++ c.args.entry ∷ []) (month_at i))
    (subst (λ (ps : List Posting). AreMonths (λ (i : ℕ). all_at ps i ++ held_lines (s.entries ++ c.args.entry ∷ []) (month_at i))
    c.put_all.new.months.items) (sym c.deref-2.ensures.value)
    (moved_in s.entries c.args.entry c.in_ok-plan.plan.put.items c.in_ok-plan.plan.drop.items c.self.inside.months.items
    c.put_all.new.months.items c.in_ok-plan.ensures c.self.invariant
    (λ f are. subst (λ (ps : List Posting). AreMonths (λ (i : ℕ). all_at ps i ++ f i) c.put_all.new.months.items)
    c.deref.ensures.value (c.in_ok-put_all.ensures.ok f are)))))
