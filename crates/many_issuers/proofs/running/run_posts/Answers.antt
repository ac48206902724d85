use Rattle.std.proofs.Common.{◌≡◌, ℕ, List, length, map, ap, sym, ◌∙◌, subst, arith, Result}
use Rattle.std.proofs.lemmas.List.{length-map}
use Rattle.chain_disk.specs.declared.disk.Disk as disk
use Rattle.issuers.specs.declared.parts.Part.{Part}
use Rattle.ports.specs.Sinks.{this_sink}
use Rattle.ports.specs.declared.Clock as clock
use Rattle.ports.specs.declared.faults.NoMemory.{NoMemory}
use Rattle.report.specs.declared.status.Detail.{Detail}
use Rattle.many_issuers.specs.Ends.{Row}
use Rattle.many_issuers.specs.IssuerFiles.{AreOpenedOf, Start}
use Rattle.many_issuers.specs.Dones.{IssuersEnd, dones_in}
use Rattle.many_issuers.specs.IssuerTasks.{IsTasked}
use Rattle.many_issuers.specs.Work.{WorksJob}
use Rattle.many_issuers.specs.declared.working.Done.{Done}
use Rattle.many_issuers.specs.declared.opening.Installation.{Installation}
use Rattle.shop_drain.specs.declared.posts.Post.{Post}
use Rattle.many_issuers.proofs.Run.{dones_few, installed, rows_of}
use Rattle.many_issuers.proofs.IssuerTasks.{sides_long}
use Rattle.many_issuers.proofs.Pairwise.{both_long}
use Rattle.many_issuers.proofs.running.run_posts.Goals as goal

pub serve_installation-jobs-requires-clause-installed : goal.serve_installation-jobs-requires-clause-installed
serve_installation-jobs-requires-clause-installed g c =
    installed g.D.Disk g.C.Clock c.args.issuers.now c.args.parts.items c.args.posts.items c.open_all-installation.result
    c.open_all-installation.ensures.opened c.requires.few c.requires.distinct c.requires.lines

-- as many files were tried as there are issuers
tried : {D C Z G : Type 0} (d : disk.Ghosts D) (c : clock.Ghosts C) (issuers : List (List ℕ)) (parts : List Part) (posts : List (Post D C Z G))
    (installation : Installation D C Z G d) (o : AreOpenedOf d c issuers parts posts installation.issuer_files.items installation.stores.items installation.parts.items) →
    length o.starts ≡ length issuers
tried {D} {C} {Z} {G} d c issuers parts posts installation o =
    let a = ap (λ (l : List (List ℕ)). length l) o.issuers_are in
    let b = length-map o.starts (λ (s : Start D C Z G). s.issuer) in
    omega (arith, a, b)

pub serve_installation-jobs-requires-clause-room : goal.serve_installation-jobs-requires-clause-room
serve_installation-jobs-requires-clause-room g c =
    let installation = c.open_all-installation.result in
    let o = c.open_all-installation.ensures.opened in
    let a = sides_long g.D.Disk g.C.Clock o.starts installation.issuer_files.items installation.stores.items installation.parts.items o.opened in
    let b = tried g.D.Disk g.C.Clock c.args.issuers.now c.args.parts.items c.args.posts.items installation o in
    let k = installation.issuer_files.ok in
    let r = c.requires.room.jobs in
    omega (arith, a, b, k, r)

pub dones_of-dones-requires-clause-room : goal.dones_of-dones-requires-clause-room
dones_of-dones-requires-clause-room g c =
    let o = c.open_all-installation.ensures.opened in
    let a = tried g.D.Disk g.C.Clock c.args.issuers.now c.args.parts.items c.args.posts.items c.open_all-installation.result o in
    let b = both_long (IsTasked g.D.Disk g.C.Clock) o.starts c.serve_installation-jobs.result.items (c.serve_installation-jobs.ensures.tasked o.starts o.opened) in
    let e = both_long (WorksJob g.D.Disk g.Z.Sleeper g.G.Agency) c.serve_installation-jobs.result.items c.work_all-jobs.result.items c.work_all-jobs.ensures in
    let r = c.requires.room.dones in
    omega (arith, a, b, e, r)

pub print_blocks-end-requires : goal.print_blocks-end-requires
print_blocks-end-requires g c =
    let o = c.open_all-installation.ensures.opened in
    let a = tried g.D.Disk g.C.Clock c.args.issuers.now c.args.parts.items c.args.posts.items c.open_all-installation.result o in
    let b = both_long (IsTasked g.D.Disk g.C.Clock) o.starts c.serve_installation-jobs.result.items (c.serve_installation-jobs.ensures.tasked o.starts o.opened) in
    let e = both_long (WorksJob g.D.Disk g.Z.Sleeper g.G.Agency) c.serve_installation-jobs.result.items c.work_all-jobs.result.items c.work_all-jobs.ensures in
    let f = dones_few c.work_all-jobs.result.items in
    let h : length c.deref.result.now ≡ length (dones_in c.work_all-jobs.result.items) =
    (let x = c.deref.ensures.value in let y = c.dones_of-dones.ensures in cc) in
    let r = c.requires.few in
    omega (arith, a, b, e, f, h, r)

pub give_back-requires-clause-room : goal.give_back-requires-clause-room
give_back-requires-clause-room g c =
    let o = c.open_all-installation.ensures.opened in
    let a = tried g.D.Disk g.C.Clock c.args.issuers.now c.args.parts.items c.args.posts.items c.open_all-installation.result o in
    let b = both_long (IsTasked g.D.Disk g.C.Clock) o.starts c.serve_installation-jobs.result.items (c.serve_installation-jobs.ensures.tasked o.starts o.opened) in
    let e = both_long (WorksJob g.D.Disk g.Z.Sleeper g.G.Agency) c.serve_installation-jobs.result.items c.work_all-jobs.result.items c.work_all-jobs.ensures in
    let f = dones_few c.work_all-jobs.result.items in
    let h : length c.dones_of-dones.result.items ≡ length (dones_in c.work_all-jobs.result.items) =
    (let y = c.dones_of-dones.ensures in cc) in
    let k = c.args.posts.ok in
    let m = c.args.posts.small in
    let p = c.requires.one_each in
    let q = c.open_all-installation.ensures.posts.1 in
    omega (arith, a, b, e, f, h, k, m, p, q)

pub returns : goal.returns
returns g c =
    let o = c.open_all-installation.ensures.opened in
    let r = rows_of g.D.Disk g.C.Clock g.Z.Sleeper g.G.Agency c.a_history_notes_its_records.ensures c.who_keeps_the_rules_tells.ensures
    (λ x. (g.met.C.Clock g.world.𝓛 g.world.𝓜 g.world.𝓡 ((λ s y. y), (λ y. y), (λ y. y), λ y. y)).unread x) o.starts
    c.serve_installation-jobs.result.items c.work_all-jobs.result.items (c.serve_installation-jobs.ensures.tasked o.starts o.opened)
    c.work_all-jobs.ensures in
    let dones = c.dones_of-dones.result.items in
    let are = c.dones_of-dones.ensures in
    let sink = this_sink g.K.Sink.taken g.K.Sink.faults c.args.sink.now c.print_blocks-end.new.sink in
    let end = c.print_blocks-end.result in
    let Finished : Type 0 = Done g.row.D.Denot g.row.C.Denot g.row.Z.Denot g.row.G.Denot in
    let ends_are : map (λ (x : Row g.row.D.Denot g.row.C.Denot g.row.Z.Denot g.row.G.Denot). x.end) r.rows ≡ map (λ (x : Finished). x.end) dones =
    r.ends_are ∙ ap (λ (l : List Finished). map (λ (x : Finished). x.end) l) (sym are) in
    let blocks_are : map (λ (x : Row g.row.D.Denot g.row.C.Denot g.row.Z.Denot g.row.G.Denot). x.block) r.rows ≡
    map (λ (x : Finished). x.block) dones =
    r.blocks_are ∙ ap (λ (l : List Finished). map (λ (x : Finished). x.block) l) (sym are) in
    let told : IssuersEnd (map (λ (x : Finished). x.end) dones) (map (λ (x : Finished). x.block) dones) sink end =
    subst (λ (l : List Finished). IssuersEnd (map (λ (x : Finished). x.end) l) (map (λ (x : Finished). x.block) l) sink end)
    c.deref.ensures.value c.print_blocks-end.ensures in
    record {
      rows = r.rows;
      are = record {
        issuers_are = r.issuers_are ∙ o.issuers_are;
        parts_are = r.parts_are ∙ o.parts_are;
        posts_are = r.posts_are ∙ o.posts_are;
        after_are = r.after_are ∙ ap (λ (l : List Finished). map (λ (x : Finished). x.post) l) (sym are) ∙ sym c.give_back.ensures;
      };
      each = r.each;
      ends = subst (λ (l : List Detail). IssuersEnd l (map (λ (x : Row g.row.D.Denot g.row.C.Denot g.row.Z.Denot g.row.G.Denot). x.block)
          r.rows) sink end) (sym ends_are)
          (subst (λ (l : List (Result (List ℕ) NoMemory)). IssuersEnd (map (λ (x : Finished). x.end) dones) l sink end) (sym blocks_are) told);
    }
