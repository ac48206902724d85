use Rattle.std.proofs.Common.{◌≡◌, ◌∙◌, ℕ, List, All, length, sym, subst, arith}
use Rattle.issuers.specs.Parts.{HasLines}
use Rattle.issuers.specs.declared.parts.Part.{Part}
use Rattle.many_issuers.specs.IssuerJobs.{AreJobs}
use Rattle.issuers.specs.Serving.{replies_to}
use Rattle.many_issuers.specs.Served.{EachServed, ServedAt}
use Rattle.many_issuers.proofs.IssuerTasks.{all_waiting, parts_fit, parts_lined, sides_fit, stores_few, stores_own, stores_ready, tasked}
use Rattle.many_issuers.proofs.running.serve_installation.Goals as goal

pub serve_stores-stores-requires-clause-few : goal.serve_stores-stores-requires-clause-few
serve_stores-stores-requires-clause-few g c =
    let i = c.requires.installed in
    let e = stores_few g.D.Disk g.C.Clock i.starts c.args.installation.issuer_files.items c.args.installation.stores.items c.args.installation.parts.items i.opened in
    let f = i.few in
    omega (arith, e, f)

pub serve_stores-stores-requires-clause-distinct : goal.serve_stores-stores-requires-clause-distinct
serve_stores-stores-requires-clause-distinct g c =
    let i = c.requires.installed in
    stores_own g.D.Disk g.C.Clock i.starts c.args.installation.issuer_files.items c.args.installation.stores.items c.args.installation.parts.items i.opened i.distinct

pub serve_stores-stores-requires-clause-one_each : goal.serve_stores-stores-requires-clause-one_each
serve_stores-stores-requires-clause-one_each g c =
    let i = c.requires.installed in
    let e : length c.of-parts.result ≡ length c.args.installation.parts.items = (let x = c.of-parts.ensures in cc) in
    e ∙ parts_fit g.D.Disk g.C.Clock i.starts c.args.installation.issuer_files.items c.args.installation.stores.items c.args.installation.parts.items i.opened

pub serve_stores-stores-requires-clause-lines : goal.serve_stores-stores-requires-clause-lines
serve_stores-stores-requires-clause-lines g c =
    let i = c.requires.installed in
    subst (λ (l : List Part). All HasLines l) (sym c.of-parts.ensures)
    (parts_lined g.D.Disk g.C.Clock i.starts c.args.installation.issuer_files.items c.args.installation.stores.items c.args.installation.parts.items i.opened i.lines)

pub serve_stores-stores-requires-clause-ready : goal.serve_stores-stores-requires-clause-ready
serve_stores-stores-requires-clause-ready g c =
    let i = c.requires.installed in
    stores_ready g.D.Disk g.C.Clock i.starts c.args.installation.issuer_files.items c.args.installation.stores.items c.args.installation.parts.items i.opened

pub jobs_of-requires-clause-stores : goal.jobs_of-requires-clause-stores
jobs_of-requires-clause-stores g c =
    let i = c.requires.installed in
    sides_fit g.D.Disk g.C.Clock i.starts c.args.installation.issuer_files.items c.args.installation.stores.items c.args.installation.parts.items i.opened ∙
    sym c.serve_stores-stores.ensures.served.stores

pub jobs_of-requires-clause-parts : goal.jobs_of-requires-clause-parts
jobs_of-requires-clause-parts g c =
    let i = c.requires.installed in
    let e : length c.into_vec.result.items ≡ length c.args.installation.parts.items =
    (let x = c.into_vec.ensures in let y = c.of-parts.ensures in cc) in
    e ∙ parts_fit g.D.Disk g.C.Clock i.starts c.args.installation.issuer_files.items c.args.installation.stores.items c.args.installation.parts.items i.opened ∙
    sym c.serve_stores-stores.ensures.served.stores

pub jobs_of-requires-clause-few : goal.jobs_of-requires-clause-few
jobs_of-requires-clause-few g c =
    let i = c.requires.installed in
    let e = stores_few g.D.Disk g.C.Clock i.starts c.args.installation.issuer_files.items c.args.installation.stores.items c.args.installation.parts.items i.opened in
    let f = i.few in
    let s = c.serve_stores-stores.ensures.served.stores in
    omega (arith, e, f, s)

pub returns-clause-waiting : goal.returns-clause-waiting
returns-clause-waiting g c =
    let served = c.serve_stores-stores.result in
    all_waiting g.D.Disk g.C.Clock served.answers served.all 0 c.args.installation.issuer_files.items served.stores.items c.into_vec.result.items
    c.jobs_of.result.items c.serve_stores-stores.ensures.ready c.jobs_of.ensures

pub returns-clause-tasked : goal.returns-clause-tasked
returns-clause-tasked g c = λ starts opened.
    let installation = c.args.installation in
    let served = c.serve_stores-stores.result in
    let told = c.serve_stores-stores.ensures.served in
    let jobs = c.jobs_of.result.items in
    let made : AreJobs served.answers served.all 0 installation.issuer_files.items served.stores.items installation.parts.items jobs =
    subst (λ (l : List Part). AreJobs served.answers served.all 0 installation.issuer_files.items served.stores.items l jobs)
    (c.into_vec.ensures ∙ c.of-parts.ensures) c.jobs_of.ensures in
    let each : EachServed g.D.Disk g.C.Clock installation.parts.items installation.stores.items served.stores.items served.answers served.all =
    subst (λ (l : List Part). EachServed g.D.Disk g.C.Clock l installation.stores.items served.stores.items served.answers served.all)
    c.of-parts.ensures told in
    tasked g.D.Disk g.C.Clock served.answers served.all 0 starts installation.issuer_files.items installation.stores.items served.stores.items installation.parts.items
    jobs opened each.stores
    (λ i old new part a b e going. subst (λ (n : ℕ). ServedAt g.D.Disk g.C.Clock part old new (replies_to n served.answers) served.all)
    (omega arith) (each.each i old new part a b e going)) made
