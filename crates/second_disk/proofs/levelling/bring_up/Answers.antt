use Rattle.std.proofs.Common.{◌≡◌, ◌≤◌, ◌+◌, ◌∙◌, inl, inr, refl, sym, ap, subst, subst₂, length, arith}
use Rattle.shop_core.specs.History.{History}
use Rattle.shop_core.specs.Prefix.{IsPrefix}
use Rattle.standby.specs.Catching.{IsFirstApart}
use Rattle.standby.specs.Following.{IsFollowing}
use Rattle.second_disk.specs.Opened.{IsStopped}
use Rattle.second_disk.specs.declared.causes.Half.TheVariants.{First, Second}
use Rattle.second_disk.specs.declared.causes.LevelCause.{LevelCause}
use Rattle.second_disk.proofs.Brought.{none_so, one_index, some_so, stayed, stopped_by}
use Rattle.second_disk.proofs.Ups.{ends_apart, one_more}
use Rattle.second_disk.proofs.levelling.bring_up.Goals as goal

pub returns-in_default-clause-stops : goal.returns-in_default-clause-stops
returns-in_default-clause-stops g c =
    let a = c.args.first.now in
    let b = c.args.second.now in (
      a.history.entries,
      b.history.entries,
      record {
        first = inl refl;
        second = inl refl;
        first_follows = stayed g.D.Disk.tells g.D.Disk.on_disk g.D.Disk.faults c.a_file_has_one_meaning.ensures.history a
            c.is_sound.ensures c.requires.first;
        second_follows = stayed g.M.Disk.tells g.M.Disk.on_disk g.M.Disk.faults c.a_file_has_one_meaning.ensures.history b
            c.is_sound-2.ensures c.requires.second;
      },
    )

pub catch_up-requires-in-Some-3-clause-front : goal.catch_up-requires-in-Some-3-clause-front
catch_up-requires-in-Some-3-clause-front g c =
    let a = c.args.first.now.history.entries in
    let b = c.args.second.now.history.entries in
    let at = c.in-Some.entry in
    let apart : IsFirstApart a b at = subst₂ (λ (h k : History). IsFirstApart h.entries k.entries at) c.state-3.ensures
    c.state-4.ensures (some_so c.in-Ok.found _ at c.in-Ok.ensures.some c.in-Some.is) in
    let count : c.entries-held.result ≡ length a = c.entries-held.ensures.count ∙ ap (λ (h : History). length h.entries) c.state.ensures in
    let far : length a ≤ at = omega (arith, count, c.if-entry-held.false) in
    subst (λ (h : History). IsPrefix a h.entries) (sym c.state-in-Some-3.ensures) (ends_apart a b at apart far).0

pub returns-in-Ok-catch_up-clause-ok : goal.returns-in-Ok-catch_up-clause-ok
returns-in-Ok-catch_up-clause-ok g c =
    let a = c.args.first.now in
    let b = c.args.second.now in
    let b2 = c.catch_up.new.standby in
    let front : IsPrefix b.history.entries a.history.entries = subst₂ (λ (h k : History). IsPrefix k.entries h.entries)
    c.state-3.ensures c.state-4.ensures (none_so c.in-Ok.found c.in-Ok.ensures.none c.in-None.is) in
    let caught = c.in-Ok-catch_up.ensures.caught in (
      a.history.entries,
      record {
        first = inl refl;
        second = inr (front, refl);
        first_follows = stayed g.D.Disk.tells g.D.Disk.on_disk g.D.Disk.faults c.a_file_has_one_meaning.ensures.history a
            c.is_sound.ensures c.requires.first;
        second_follows = subst (λ (h : History). IsFollowing g.M.Disk.tells g.M.Disk.on_disk b b2 h.entries) c.state-in-None.ensures
            c.in-Ok-catch_up.ensures.follows;
      },
      record {
        first = refl;
        second = caught.1 ∙ ap (λ (h : History). h.entries) c.state-in-None.ensures;
        first_going = c.requires.first;
        second_going = caught.0;
      },
    )

pub returns-in-Err-clause-stops : goal.returns-in-Err-clause-stops
returns-in-Err-clause-stops g c =
    let a = c.args.first.now in
    let b = c.args.second.now in
    let b2 = c.catch_up.new.standby in
    let front : IsPrefix b.history.entries a.history.entries = subst₂ (λ (h k : History). IsPrefix k.entries h.entries)
    c.state-3.ensures c.state-4.ensures (none_so c.in-Ok.found c.in-Ok.ensures.none c.in-None.is) in
    subst (λ (cause : LevelCause). IsStopped g.D.Disk.tells g.D.Disk.on_disk g.M.Disk.tells g.M.Disk.on_disk a a b b2 cause)
    (sym c.store_cause.ensures) (stopped_by g.D.Disk.tells g.D.Disk.on_disk g.M.Disk.tells g.M.Disk.on_disk a a b b2
    a.history.entries a.history.entries Second c.in-Err.fault (record {
      first = inl refl;
      second = inr (front, refl);
      first_follows = stayed g.D.Disk.tells g.D.Disk.on_disk g.D.Disk.faults c.a_file_has_one_meaning.ensures.history a
          c.is_sound.ensures c.requires.first;
      second_follows = subst (λ (h : History). IsFollowing g.M.Disk.tells g.M.Disk.on_disk b b2 h.entries) c.state-in-None.ensures
          c.in-Err.ensures.follows;
    }))

pub returns-in-Some-2-clause-stops : goal.returns-in-Some-2-clause-stops
returns-in-Some-2-clause-stops g c =
    let a = c.args.first.now.history.entries in
    let b = c.args.second.now.history.entries in
    let at = c.in-Some-2.entry in
    let apart : IsFirstApart a b at = subst₂ (λ (h k : History). IsFirstApart h.entries k.entries at) c.state-3.ensures
    c.state-4.ensures (some_so c.in-Ok.found _ at c.in-Ok.ensures.some c.in-Some-2.is) in
    let count : c.entries-held.result ≡ length a = c.entries-held.ensures.count ∙ ap (λ (h : History). length h.entries) c.state.ensures in
    let others : c.entries-others.result ≡ length b = c.entries-others.ensures.count ∙ ap (λ (h : History). length h.entries) c.state-2.ensures in
    let same : c.in-Some.entry ≡ at = one_index c.in-Ok.found _ _ c.in-Some.is c.in-Some-2.is in
    let far : length a ≤ at = omega (arith, count, same, c.if-entry-held.false) in
    let both = ends_apart a b at apart far in
    (both.0, both.1, omega (arith, others, c.if-entry-others.true), refl, refl)

pub returns-in-Ok-catch_up-2-clause-ok : goal.returns-in-Ok-catch_up-2-clause-ok
returns-in-Ok-catch_up-2-clause-ok g c =
    let a = c.args.first.now in
    let b = c.args.second.now in
    let a2 = c.catch_up-in-Some-3.new.standby in
    let at = c.in-Some.entry in
    let apart : IsFirstApart a.history.entries b.history.entries at = subst₂ (λ (h k : History). IsFirstApart h.entries k.entries at)
    c.state-3.ensures c.state-4.ensures (some_so c.in-Ok.found _ at c.in-Ok.ensures.some c.in-Some.is) in
    let count : c.entries-held.result ≡ length a.history.entries = c.entries-held.ensures.count ∙ ap (λ (h : History). length h.entries) c.state.ensures in
    let others : c.entries-others.result ≡ length b.history.entries = c.entries-others.ensures.count ∙ ap (λ (h : History). length h.entries) c.state-2.ensures in
    let same : c.in-Some-2.entry ≡ at = one_index c.in-Ok.found _ _ c.in-Some-2.is c.in-Some.is in
    let far : length a.history.entries ≤ at = omega (arith, count, c.if-entry-held.false) in
    let few : length b.history.entries ≤ at + 1 = omega (arith, others, same, c.if-entry-others.false) in
    let caught = c.in-Ok-catch_up-2.ensures.caught in (
      b.history.entries,
      record {
        first = one_more a.history.entries b.history.entries at apart far few;
        second = inl refl;
        first_follows = subst (λ (h : History). IsFollowing g.D.Disk.tells g.D.Disk.on_disk a a2 h.entries) c.state-in-Some-3.ensures
            c.in-Ok-catch_up-2.ensures.follows;
        second_follows = stayed g.M.Disk.tells g.M.Disk.on_disk g.M.Disk.faults c.a_file_has_one_meaning.ensures.history b
            c.is_sound-2.ensures c.requires.second;
      },
      record {
        first = caught.1 ∙ ap (λ (h : History). h.entries) c.state-in-Some-3.ensures;
        second = refl;
        first_going = caught.0;
        second_going = c.requires.second;
      },
    )

pub returns-in-Err-catch_up-clause-stops : goal.returns-in-Err-catch_up-clause-stops
returns-in-Err-catch_up-clause-stops g c =
    let a = c.args.first.now in
    let b = c.args.second.now in
    let a2 = c.catch_up-in-Some-3.new.standby in
    let at = c.in-Some.entry in
    let apart : IsFirstApart a.history.entries b.history.entries at = subst₂ (λ (h k : History). IsFirstApart h.entries k.entries at)
    c.state-3.ensures c.state-4.ensures (some_so c.in-Ok.found _ at c.in-Ok.ensures.some c.in-Some.is) in
    let count : c.entries-held.result ≡ length a.history.entries = c.entries-held.ensures.count ∙ ap (λ (h : History). length h.entries) c.state.ensures in
    let others : c.entries-others.result ≡ length b.history.entries = c.entries-others.ensures.count ∙ ap (λ (h : History). length h.entries) c.state-2.ensures in
    let same : c.in-Some-2.entry ≡ at = one_index c.in-Ok.found _ _ c.in-Some-2.is c.in-Some.is in
    let far : length a.history.entries ≤ at = omega (arith, count, c.if-entry-held.false) in
    let few : length b.history.entries ≤ at + 1 = omega (arith, others, same, c.if-entry-others.false) in
    subst (λ (cause : LevelCause). IsStopped g.D.Disk.tells g.D.Disk.on_disk g.M.Disk.tells g.M.Disk.on_disk a a2 b b cause)
    (sym c.store_cause-in-Err-catch_up.ensures) (stopped_by g.D.Disk.tells g.D.Disk.on_disk g.M.Disk.tells g.M.Disk.on_disk a a2 b b
    b.history.entries b.history.entries First c.in-Err-catch_up.fault (record {
      first = one_more a.history.entries b.history.entries at apart far few;
      second = inl refl;
      first_follows = subst (λ (h : History). IsFollowing g.D.Disk.tells g.D.Disk.on_disk a a2 h.entries) c.state-in-Some-3.ensures
          c.in-Err-catch_up.ensures.follows;
      second_follows = stayed g.M.Disk.tells g.M.Disk.on_disk g.M.Disk.faults c.a_file_has_one_meaning.ensures.history b
          c.is_sound-2.ensures c.requires.second;
    }))
