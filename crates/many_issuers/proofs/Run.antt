-- The rows of a run for several issuers.
use Rattle.std.proofs.Common.{◌≡◌, ℕ, suc, ◌≤◌, List, [], ◌∷◌, length, map, refl, ap, sym, ◌∙◌, subst, arith, Some, None, Option, All, Result, IsTrue}
use Rattle.std.specs.List.{AllByRecursion}
use Rattle.std.proofs.lemmas.List.{length-map}
use Rattle.ports.specs.declared.Clock as clock
use Rattle.ports.specs.declared.faults.NoMemory.{NoMemory}
use Rattle.ports.specs.declared.sleeper.Sleeper as sleeper
use Rattle.chain_disk.specs.declared.disk.Disk as disk
use Rattle.agency_port.specs.declared.agency.Agency as agency
use Rattle.issuers.specs.Office.{AreOwn}
use Rattle.issuers.specs.Parts.{HasLines}
use Rattle.parties.specs.declared.limits.TheConstants.{MAX_ISSUERS}
use Rattle.issuers.specs.declared.parts.Part.{Part}
use Rattle.report.specs.declared.status.Detail.{Detail}
use Rattle.shop_core.specs.Spans.{NotedWithinRecords}
use Rattle.many_issuers.specs.Ends.{OwnRowEnds, Row}
use Rattle.many_issuers.specs.IssuerFiles.{AreOpenedOf, Start}
use Rattle.many_issuers.specs.Dones.{dones_in}
use Rattle.many_issuers.specs.IssuerTasks.{Installed, IsTasked}
use Rattle.many_issuers.specs.Work.{WorksJob}
use Rattle.many_issuers.specs.Pairwise.{Both}
use Rattle.many_issuers.specs.declared.opening.Installation.{Installation}
use Rattle.many_issuers.specs.declared.working.Done.{Done}
use Rattle.many_issuers.specs.declared.working.IssuerJob.{IssuerJob}
use Rattle.shop_drain.specs.declared.posts.Post.{Post}
use Rattle.sender_session.proofs.Lists.{all_of_each, each_of_all, each_unmap}
use Rattle.many_issuers.proofs.Rows.{row_ends, row_of}

module _ {D C Z G : Type 0} (d : disk.Ghosts D) (c : clock.Ghosts C) where
  pub installed : (issuers : List (List ℕ)) (parts : List Part) (posts : List (Post D C Z G)) (installation : Installation D C Z G d) →
      AreOpenedOf d c issuers parts posts installation.issuer_files.items installation.stores.items installation.parts.items → length issuers ≤ MAX_ISSUERS →
      AreOwn issuers → All HasLines parts → Installed d c installation
  installed issuers parts posts installation o few own lines = record {
    starts = o.starts;
    opened = o.opened;
    few = let e = ap length o.issuers_are in let f = length-map o.starts (λ (s : Start D C Z G). s.issuer) in omega (arith, e, f, few);
    distinct = subst AreOwn (sym o.issuers_are) own;
    lines = all_of_each (λ (s : Start D C Z G). HasLines s.part) o.starts (each_unmap (λ (s : Start D C Z G). s.part) HasLines o.starts
        (subst (λ (l : List Part). AllByRecursion HasLines l) (sym o.parts_are) (each_of_all HasLines parts lines)));
  }

dones_some : {D C Z G : Type 0} {d : disk.Ghosts D} (job : IssuerJob D C Z G d) (jobs : List (IssuerJob D C Z G d)) (done : Done D C Z G) →
    job.done ≡ Some done → dones_in (job ∷ jobs) ≡ done ∷ dones_in jobs
dones_some job jobs done is = rw is refl

one_more_few : {D C Z G : Type 0} {d : disk.Ghosts D} (job : IssuerJob D C Z G d) (jobs : List (IssuerJob D C Z G d)) (o : Option (Done D C Z G)) →
    job.done ≡ o → length (dones_in jobs) ≤ length jobs → length (dones_in (job ∷ jobs)) ≤ suc (length jobs)
one_more_few job jobs None is few = rw is (omega (arith, few))
one_more_few job jobs (Some done) is few = rw is (omega (arith, few))

pub dones_few : {D C Z G : Type 0} {d : disk.Ghosts D} (jobs : List (IssuerJob D C Z G d)) → length (dones_in jobs) ≤ length jobs
dones_few [] = omega arith
dones_few (job ∷ jobs) = one_more_few job jobs job.done refl (dones_few jobs)

module _ {D C Z G : Type 0} (d : disk.Ghosts D) (c : clock.Ghosts C) (z : sleeper.Ghosts Z) (g : agency.Ghosts G) where
  -- a row for each issuer, by what is done of its job
  pub record Rows (starts : List (Start D C Z G)) (jobs : List (IssuerJob D C Z G d)) : Type 0 where
    pub rows : List (Row D C Z G)
    pub issuers_are : map (λ (r : Row D C Z G). r.issuer) rows ≡ map (λ (s : Start D C Z G). s.issuer) starts
    pub parts_are : map (λ (r : Row D C Z G). r.part) rows ≡ map (λ (s : Start D C Z G). s.part) starts
    pub posts_are : map (λ (r : Row D C Z G). r.post) rows ≡ map (λ (s : Start D C Z G). s.post) starts
    pub after_are : map (λ (r : Row D C Z G). r.after) rows ≡ map (λ (x : Done D C Z G). x.post) (dones_in jobs)
    pub ends_are : map (λ (r : Row D C Z G). r.end) rows ≡ map (λ (x : Done D C Z G). x.end) (dones_in jobs)
    pub blocks_are : map (λ (r : Row D C Z G). r.block) rows ≡ map (λ (x : Done D C Z G). x.block) (dones_in jobs)
    pub each : AllByRecursion (OwnRowEnds d c.coming c.by_readings z g) rows

  pub rows_of : NotedWithinRecords → (IsTrue g.keeps_rules → IsTrue g.tells) → ((x : C) → c.by_readings x x) → (starts : List (Start D C Z G))
      (jobs jobs' : List (IssuerJob D C Z G d)) → Both (IsTasked d c) starts jobs → Both (WorksJob d z g) jobs jobs' → Rows starts jobs'
  rows_of within rules unread [] [] [] tasked works = record {
    rows = [];
    issuers_are = refl;
    parts_are = refl;
    posts_are = refl;
    after_are = refl;
    ends_are = refl;
    blocks_are = refl;
    each = tt;
  }
  rows_of within rules unread (s ∷ starts) (job ∷ jobs) (job' ∷ jobs') tasked works =
      let more = rows_of within rules unread starts jobs jobs' tasked.1 works.1 in
      let w = works.0.does tasked.0.task tasked.0.is in
      let done = w.0 in
      let dones : dones_in (job' ∷ jobs') ≡ done ∷ dones_in jobs' = dones_some job' jobs' done w.1 in
      record {
        rows = row_of d c z g s done ∷ more.rows;
        issuers_are = ap (λ (l : List (List ℕ)). s.issuer ∷ l) more.issuers_are;
        parts_are = ap (λ (l : List Part). s.part ∷ l) more.parts_are;
        posts_are = ap (λ (l : List (Post D C Z G)). s.post ∷ l) more.posts_are;
        after_are = ap (λ (l : List (Post D C Z G)). done.post ∷ l) more.after_are ∙
            ap (λ (l : List (Done D C Z G)). map (λ (x : Done D C Z G). x.post) l) (sym dones);
        ends_are = ap (λ (l : List Detail). done.end ∷ l) more.ends_are ∙
            ap (λ (l : List (Done D C Z G)). map (λ (x : Done D C Z G). x.end) l) (sym dones);
        blocks_are = ap (λ (l : List (Result (List ℕ) NoMemory)). done.block ∷ l) more.blocks_are ∙
            ap (λ (l : List (Done D C Z G)). map (λ (x : Done D C Z G). x.block) l) (sym dones);
        each = (row_ends d c z g within rules unread s tasked.0.task done tasked.0.own w.2, more.each);
      }
  rows_of within rules unread [] [] (job' ∷ jobs') tasked works = absurd works
  rows_of within rules unread [] (job ∷ jobs) jobs' tasked works = absurd tasked
  rows_of within rules unread (s ∷ starts) [] jobs' tasked works = absurd tasked
  rows_of within rules unread (s ∷ starts) (job ∷ jobs) [] tasked works = absurd works
