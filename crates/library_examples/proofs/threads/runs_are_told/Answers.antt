use Rattle.library_examples.proofs.threads.runs_are_told.Goals as goal

pub returns-clause-told : goal.returns-clause-told
returns-clause-told g c = c.a_run_is_told_at_the_end.ensures g.C.Clock.coming

pub returns-clause-taken : goal.returns-clause-taken
returns-clause-taken g c = c.a_till_adds_what_is_taken.ensures g.C.Clock.coming

pub returns-clause-others : goal.returns-clause-others
returns-clause-others g c = c.a_till_adds_for_no_other.ensures g.C.Clock.coming
