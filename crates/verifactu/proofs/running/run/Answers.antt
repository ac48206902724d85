use Rattle.std.proofs.Common.{◌∙◌, ◌+◌, ℕ, Some, sym, Global, map, string_bytes, ap, refl, subst}
use Rattle.ports.specs.Sinks.{this_sink}
use Rattle.ports.specs.Sources.{this_source}
use Rattle.verifactu.specs.CommandLine.{AsksFor}
use Rattle.shop_commands.specs.Further.{further, own_post}
use Rattle.sender_session.specs.Kinds.{agency_state_of}
use Rattle.shop_drain.specs.Devices.{this_call}
use Rattle.verifactu.specs.declared.command_line.Command.{Command}
use Rattle.verifactu.specs.declared.command_line.Command.TheVariants.{Follow, Many, Migrate}
use Rattle.verifactu.proofs.CommandLine.{guard_posts, many_posts, own_of}
use Rattle.verifactu.proofs.ManyPromised.{many_keeps}
use Rattle.verifactu.proofs.Promising.{promised, promised_nothing}
use Rattle.verifactu.proofs.running.run.Goals as goal

pub obey_first-requires-clause-further : goal.obey_first-requires-clause-further
obey_first-requires-clause-further g c = λ lifetimes live is.
    c.requires ∙ guard_posts (map (string_bytes {Z = Global}) c.args.words.now) c.in-Some.command c.in-Some.ensures is

pub returns-in-Some-clause-promise : goal.returns-in-Some-clause-promise
returns-in-Some-clause-promise g c =
    let after = c.obey_first.result.1 in
    let a = this_call (this_source g.S.Source.left g.S.Source.faults c.args.source.now c.obey_first.new.source)
    (this_sink g.K.Sink.taken g.K.Sink.faults c.args.sink.now c.obey_first.new.sink) g.D.Disk g.C.Clock g.Z.Sleeper g.G.Agency
    (own_post c.args.outside) (own_post after) in
    promised c.legal_is_chained.ensures.linked a (λ same. ap (λ (x : g.row.G.Denot). agency_state_of g.G.Agency x) same)
    c.what_a_disk_reads_is_an_image.ensures g.D.Disk g.C.Clock g.Z.Sleeper g.G.Agency
    c.a_file_has_one_meaning.ensures.history c.a_file_has_one_meaning.ensures.not_begun c.who_keeps_the_rules_tells.ensures
    (map (string_bytes {Z = Global}) c.args.words.now) (further c.args.outside after) c.in-Some.command
    c.obey_first.result.0.detail (many_keeps c.legal_is_chained.ensures.linked c.a_history_notes_its_records.ensures
    c.a_file_has_one_meaning.ensures.history c.a_file_has_one_meaning.ensures.not_begun g.D.Disk g.C.Clock g.Z.Sleeper g.G.Agency
    c.who_keeps_the_rules_tells.ensures c.what_a_disk_reads_is_an_image.ensures a (further c.args.outside after)) c.in-Some.ensures c.obey_first.ensures.ends

pub returns-in-Some-Migrate-clause-promise : goal.returns-in-Some-Migrate-clause-promise
returns-in-Some-Migrate-clause-promise g c =
    let words = map (string_bytes {Z = Global}) c.args.words.now in
    let after = c.move_to_further.result.1 in
    let e = c.move_to_further.ensures in
    let a = this_call (this_source g.S.Source.left g.S.Source.faults c.args.source.now c.args.source.now)
    (this_sink g.K.Sink.taken g.K.Sink.faults c.args.sink.now c.move_to_further.new.sink) g.D.Disk g.C.Clock g.Z.Sleeper
    g.G.Agency (own_post c.args.outside) (own_post after) in
    promised c.legal_is_chained.ensures.linked a (λ same. ap (λ (x : g.row.G.Denot). agency_state_of g.G.Agency x) same)
    c.what_a_disk_reads_is_an_image.ensures g.D.Disk g.C.Clock g.Z.Sleeper g.G.Agency
    c.a_file_has_one_meaning.ensures.history c.a_file_has_one_meaning.ensures.not_begun c.who_keeps_the_rules_tells.ensures
    words (further c.args.outside after) Migrate c.move_to_further.result.0.detail
    (many_keeps c.legal_is_chained.ensures.linked c.a_history_notes_its_records.ensures
    c.a_file_has_one_meaning.ensures.history c.a_file_has_one_meaning.ensures.not_begun g.D.Disk g.C.Clock g.Z.Sleeper g.G.Agency
    c.who_keeps_the_rules_tells.ensures c.what_a_disk_reads_is_an_image.ensures a (further c.args.outside after))
    (subst (λ (k : Command). AsksFor words k) c.in-Some-Migrate.field-0-is c.in-Some-Migrate.ensures)
    (record {
      moves = e.moves;
      reads = record { read = record { left = refl; faults = refl }; disk = e.same; clock = e.rest.0 };
      nobody = record { sleeper = e.rest.1; agency = e.rest.2 };
    })

pub returns-in-Some-Follow-clause-promise : goal.returns-in-Some-Follow-clause-promise
returns-in-Some-Follow-clause-promise g c =
    let words = map (string_bytes {Z = Global}) c.args.words.now in
    let after = c.follow_by_further.result.1 in
    let e = c.follow_by_further.ensures in
    let a = this_call (this_source g.S.Source.left g.S.Source.faults c.args.source.now c.args.source.now)
    (this_sink g.K.Sink.taken g.K.Sink.faults c.args.sink.now c.follow_by_further.new.sink) g.D.Disk g.C.Clock g.Z.Sleeper
    g.G.Agency (own_post c.args.outside) (own_post after) in
    promised c.legal_is_chained.ensures.linked a (λ same. ap (λ (x : g.row.G.Denot). agency_state_of g.G.Agency x) same)
    c.what_a_disk_reads_is_an_image.ensures g.D.Disk g.C.Clock g.Z.Sleeper g.G.Agency
    c.a_file_has_one_meaning.ensures.history c.a_file_has_one_meaning.ensures.not_begun c.who_keeps_the_rules_tells.ensures
    words (further c.args.outside after) Follow c.follow_by_further.result.0.detail
    (many_keeps c.legal_is_chained.ensures.linked c.a_history_notes_its_records.ensures
    c.a_file_has_one_meaning.ensures.history c.a_file_has_one_meaning.ensures.not_begun g.D.Disk g.C.Clock g.Z.Sleeper g.G.Agency
    c.who_keeps_the_rules_tells.ensures c.what_a_disk_reads_is_an_image.ensures a (further c.args.outside after))
    (subst (λ (k : Command). AsksFor words k) c.in-Some-Follow.field-0-is c.in-Some-Follow.ensures)
    (record {
      follows = e.follows;
      reads = record { read = record { left = refl; faults = refl }; disk = e.same; clock = e.rest.0 };
      nobody = record { sleeper = e.rest.1; agency = e.rest.2 };
    })

pub returns-in-None-clause-promise : goal.returns-in-None-clause-promise
returns-in-None-clause-promise g c =
    let out = own_post c.args.outside in
    let a = this_call (this_source g.S.Source.left g.S.Source.faults c.args.source.now c.args.source.now)
    (this_sink g.K.Sink.taken g.K.Sink.faults c.args.sink.now c.args.sink.now) g.D.Disk g.C.Clock g.Z.Sleeper g.G.Agency out
    out in
    promised_nothing c.legal_is_chained.ensures.linked a (λ same. ap (λ (x : g.row.G.Denot). agency_state_of g.G.Agency x) same)
    c.what_a_disk_reads_is_an_image.ensures g.D.Disk g.C.Clock g.Z.Sleeper g.G.Agency
    (map (string_bytes {Z = Global}) c.args.words.now) (further c.args.outside c.args.outside) c.in-None.ensures refl
    (record { sleeper = refl; agency = refl }) refl

pub run_issuers-requires-clause-few : goal.run_issuers-requires-clause-few
run_issuers-requires-clause-few g c κs within = c.as_slice.ensures.few

pub run_issuers-requires-clause-distinct : goal.run_issuers-requires-clause-distinct
run_issuers-requires-clause-distinct g c κs within =
    let words = map (string_bytes {Z = Global}) c.args.words.now in
    let asked = subst (λ (k : Command). AsksFor words k) (c.in-Some-Many.field-0-is ∙ ap Many (sym c.as_slice.ensures.all))
    c.in-Some-Many.ensures in
    own_of c.as_slice.result.now asked.0.are.issuers_apart

pub run_issuers-requires-clause-one_each : goal.run_issuers-requires-clause-one_each
run_issuers-requires-clause-one_each g c κs within =
    let words = map (string_bytes {Z = Global}) c.args.words.now in
    let asked = subst (λ (k : Command). AsksFor words k) (c.in-Some-Many.field-0-is ∙ ap Many (sym c.as_slice.ensures.all))
    c.in-Some-Many.ensures in
    ap (λ (n : ℕ). n + 1) c.requires ∙ many_posts words c.as_slice.result.now asked.0

pub returns-in-Some-Many-clause-ends : goal.returns-in-Some-Many-clause-ends
returns-in-Some-Many-clause-ends g c =
    let words = map (string_bytes {Z = Global}) c.args.words.now in
    record {
      status = c.run_issuers.ensures.status;
      command = Some (Many c.as_slice.result.now);
      asked = subst (λ (k : Command). AsksFor words k) (c.in-Some-Many.field-0-is ∙ ap Many (sym c.as_slice.ensures.all))
          c.in-Some-Many.ensures;
      cause = c.run_issuers.ensures.ends;
    }

pub returns-in-Some-Many-clause-promise : goal.returns-in-Some-Many-clause-promise
returns-in-Some-Many-clause-promise g c =
    let words = map (string_bytes {Z = Global}) c.args.words.now in
    let after = c.run_issuers.result.1 in
    let a = this_call (this_source g.S.Source.left g.S.Source.faults c.args.source.now c.run_issuers.new.source)
    (this_sink g.K.Sink.taken g.K.Sink.faults c.args.sink.now c.run_issuers.new.sink) g.D.Disk g.C.Clock g.Z.Sleeper
    g.G.Agency (own_post c.args.outside) (own_post after) in
    promised c.legal_is_chained.ensures.linked a (λ same. ap (λ (x : g.row.G.Denot). agency_state_of g.G.Agency x) same)
    c.what_a_disk_reads_is_an_image.ensures g.D.Disk g.C.Clock g.Z.Sleeper g.G.Agency
    c.a_file_has_one_meaning.ensures.history c.a_file_has_one_meaning.ensures.not_begun c.who_keeps_the_rules_tells.ensures
    words (further c.args.outside after) (Many c.as_slice.result.now) c.run_issuers.result.0.detail
    (many_keeps c.legal_is_chained.ensures.linked c.a_history_notes_its_records.ensures
    c.a_file_has_one_meaning.ensures.history c.a_file_has_one_meaning.ensures.not_begun g.D.Disk g.C.Clock g.Z.Sleeper g.G.Agency
    c.who_keeps_the_rules_tells.ensures c.what_a_disk_reads_is_an_image.ensures a (further c.args.outside after))
    (subst (λ (k : Command). AsksFor words k) (c.in-Some-Many.field-0-is ∙ ap Many (sym c.as_slice.ensures.all)) c.in-Some-Many.ensures)
    c.run_issuers.ensures.ends
