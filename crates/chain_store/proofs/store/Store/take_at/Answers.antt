use Rattle.std.proofs.lemmas.Result.{on_ok_weaker}
use Rattle.std.proofs.Common.{rules, refl, sym, ◌∙◌, subst, Ok, Err}
use Rattle.journal.proofs.Appends.{appends_none}
use Rattle.journal.specs.Journal.{disk_of, end_of}
use Rattle.chain_store.specs.Losing.{none_lost}
use Rattle.journal.specs.declared.faults.StoreFault.{StoreFault}
use Rattle.record_codec.specs.declared.entry.Entry.{Entry}
use Rattle.shop_core.specs.Answer.Plans.{answer}
use Rattle.shop_core.specs.declared.answer.Reply.TheVariants as reply
use Rattle.chain_store.proofs.Stores.{leaves_its_history, untouched}
use Rattle.chain_store.specs.Store.{Writes}
use Rattle.chain_store.proofs.Taking.{made, none_gained, not_made, of_gained, told_again, told_refused}
use Rattle.chain_store.proofs.store.Store.take_at.Goals as goal

pub returns-in-Some : goal.returns-in-Some
returns-in-Some g c =
    record {
      taken = record {
        ready = search rules;
        takes = search rules;
        never_loses = λ tells. none_lost (g.D.Disk.on_disk (disk_of c.args.self.now.journal));
        appended = search rules;
        content = λ entry gained. absurd (none_gained c.args.self.now.state.entries entry gained);
        acknowledged = search rules;
        going_on = search rules;
        nothing_taken = search rules;
        no_memory = search rules;
        fault = search rules;
        torn = search rules;
        stopped = search rules;
        untouched = search rules;
        later = search rules;
        read = refl;
      };
    }

pub returns-in-Err : goal.returns-in-Err
returns-in-Err g c =
    record {
      taken = record {
        ready = search rules;
        takes = λ going_on.
            not_made c.args.self.now.state c.args.ask.now _ _ g.D.Disk.tells _ (Err StoreFault.NoMemory) c.args.seconds
            refl (λ k. refl) refl
            (λ tells. untouched c.args.self.now.state (end_of c.args.self.now.journal) _ (c.requires.holds going_on tells)
            c.is_legal.ensures);
        never_loses = λ tells. none_lost (g.D.Disk.on_disk (disk_of c.args.self.now.journal));
        appended = λ going_on tells. appends_none (end_of c.args.self.now.journal) _
            (c.requires.holds going_on tells).file.nothing_pending;
        content = λ entry gained. absurd (none_gained c.args.self.now.state.entries entry gained);
        acknowledged = search rules;
        going_on = search rules;
        nothing_taken = search rules;
        no_memory = search rules;
        fault = search rules;
        torn = search rules;
        stopped = search rules;
        untouched = search rules;
        later = search rules;
        read = refl;
      };
    }

pub returns-in-Ok-Again : goal.returns-in-Ok-Again
returns-in-Ok-Again g c =
    record {
      taken = record {
        ready = search rules;
        takes = λ going_on.
            let s = c.args.self.now.state in
            let planned = answer s.version s.issuer s.entries c.args.ask.now c.args.seconds in
            not_made s c.args.ask.now _ _ g.D.Disk.tells _ (Ok (reply.Again c.in-Ok-Again.receipt)) c.args.seconds
            refl (λ k. refl)
            (told_again s.issuer s.entries planned c.in-Ok-Again.receipt (sym c.in-Ok-Again.ensures.answer ∙ c.in-Ok-Again.field-0-is))
            (λ tells. untouched s (end_of c.args.self.now.journal) _ (c.requires.holds going_on tells) c.is_legal.ensures);
        never_loses = λ tells. none_lost (g.D.Disk.on_disk (disk_of c.args.self.now.journal));
        appended = λ going_on tells. appends_none (end_of c.args.self.now.journal) _
            (c.requires.holds going_on tells).file.nothing_pending;
        content = λ entry gained. absurd (none_gained c.args.self.now.state.entries entry gained);
        acknowledged = λ tells.
            leaves_its_history c.args.self.now.state (end_of c.args.self.now.journal) _ (c.requires.holds (sym c.in_default.ensures) tells)
            c.is_legal.ensures;
        going_on = search rules;
        nothing_taken = search rules;
        no_memory = search rules;
        fault = search rules;
        torn = search rules;
        stopped = search rules;
        untouched = search rules;
        later = search rules;
        read = refl;
      };
    }

pub returns-in-Ok-Refused : goal.returns-in-Ok-Refused
returns-in-Ok-Refused g c =
    record {
      taken = record {
        ready = search rules;
        takes = λ going_on.
            let s = c.args.self.now.state in
            let planned = answer s.version s.issuer s.entries c.args.ask.now c.args.seconds in
            not_made s c.args.ask.now _ _ g.D.Disk.tells _ (Ok (reply.Refused c.in-Ok-Refused.why)) c.args.seconds
            refl (λ k. refl)
            (told_refused s.issuer s.entries planned c.in-Ok-Refused.why (sym c.in-Ok-Refused.ensures.answer ∙
            c.in-Ok-Refused.field-0-is))
            (λ tells. untouched s (end_of c.args.self.now.journal) _ (c.requires.holds going_on tells) c.is_legal.ensures);
        never_loses = λ tells. none_lost (g.D.Disk.on_disk (disk_of c.args.self.now.journal));
        appended = λ going_on tells. appends_none (end_of c.args.self.now.journal) _
            (c.requires.holds going_on tells).file.nothing_pending;
        content = λ entry gained. absurd (none_gained c.args.self.now.state.entries entry gained);
        acknowledged = λ tells.
            leaves_its_history c.args.self.now.state (end_of c.args.self.now.journal) _ (c.requires.holds (sym c.in_default.ensures) tells)
            c.is_legal.ensures;
        going_on = search rules;
        nothing_taken = search rules;
        no_memory = search rules;
        fault = search rules;
        torn = search rules;
        stopped = search rules;
        untouched = search rules;
        later = search rules;
        read = refl;
      };
    }

pub returns-in-Ok-Made : goal.returns-in-Ok-Made
returns-in-Ok-Made g c =
    record {
      taken = record {
        ready = search rules;
        takes = λ going_on.
            let s = c.args.self.now.state in
            let entry = c.in-Ok-Made.entry in
            let t = c.take_made.ensures.adds in
            made s c.take_made.new.self.state c.args.ask.now _ _ g.D.Disk.tells _ _ c.take_made.result c.args.seconds entry
            refl
            (λ k. refl)
            t.issuer t.version (sym c.in-Ok-Made.ensures.answer ∙ c.in-Ok-Made.field-0-is) c.take_made.ensures.reply
            (on_ok_weaker c.take_made.result (λ both. both.1) t.added) t.same t.any_moment;
        never_loses = c.take_made.ensures.adds.never_loses;
        appended = c.take_made.ensures.adds.appended;
        content = λ gained is.
            let s = c.args.self.now in
            let t = c.take_made.ensures.adds in
            of_gained (λ (e : Entry). Writes g.D.Disk.tells g.D.Disk.on_disk s c.take_made.new.self e) s.state.entries
            c.take_made.new.self.state.entries c.take_made.result c.in-Ok-Made.entry gained
            (on_ok_weaker c.take_made.result (λ both. both.1) t.added) t.same t.content is;
        acknowledged = search rules;
        going_on = search rules;
        nothing_taken = search rules;
        no_memory = search rules;
        fault = search rules;
        torn = search rules;
        stopped = search rules;
        untouched = search rules;
        later = search rules;
        read = c.take_made.ensures.adds.clock;
      };
    }
