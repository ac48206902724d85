-- The issuers of an installation, from their posts to their jobs.
use Rattle.std.proofs.Common.{◌≡◌, ◌≢◌, ℕ, suc, ◌+◌, ◌≤◌, List, [], ◌∷◌, length, map, refl, ap, sym, ◌∙◌, subst, arith, slice_get}
use Rattle.std.proofs.Common.{Some, None, Result, Ok, Err, All}
use Rattle.std.specs.List.{AllByRecursion}
use Rattle.ports.specs.declared.Clock as clock
use Rattle.ports.specs.declared.faults.NoMemory.{NoMemory}
use Rattle.chain_disk.specs.declared.disk.Disk as disk
use Rattle.journal.specs.Journal.{stopped_of}
use Rattle.chain_store.specs.Store.{Ready, journal_of}
use Rattle.chain_store.specs.declared.store.Store.{Store}
use Rattle.issuers.specs.Office.{AreOwn, issuer_of}
use Rattle.issuers.specs.Parts.{HasLines}
use Rattle.issuers.specs.Serving.{replies_to}
use Rattle.issuers.specs.declared.answers.OfficeAnswer.{OfficeAnswer}
use Rattle.issuers.specs.declared.parts.Part.{Part}
use Rattle.many_issuers.specs.IssuerFiles.{AreOpened, IsOpenedFor, Start}
use Rattle.many_issuers.specs.IssuerJobs.{AreJobs, IsOpenTask, TellsIf, open_files}
use Rattle.many_issuers.specs.Served.{ServedAt}
use Rattle.many_issuers.specs.IssuerTasks.{IsTasked, TellsReplies}
use Rattle.many_issuers.specs.Work.{IsWaiting, Told}
use Rattle.many_issuers.specs.Pairwise.{Both}
use Rattle.many_issuers.specs.declared.opening.IssuerFile.{IssuerFile}
use Rattle.many_issuers.specs.declared.opening.IssuerFile.TheVariants as issuer_file
use Rattle.many_issuers.specs.declared.working.IssuerJob.{IssuerJob}
use Rattle.many_issuers.specs.declared.working.IssuerTask.{IssuerTask}
use Rattle.many_issuers.specs.declared.working.IssuerTask.TheVariants as task
use Rattle.sender_session.proofs.Lists.{all_of_each, each_of_all}

tells_by : (answers : List OfficeAnswer) (r : Result (Unit {0}) NoMemory) (index : ℕ) (told : Told) → TellsIf answers r index told →
    TellsReplies (replies_to index answers) r told
tells_by answers (Ok done) index told h = h
tells_by answers (Err fault) index told h = h

module _ {D C Z G : Type 0} (d : disk.Ghosts D) (c : clock.Ghosts C) where
  pub stores_few : (starts : List (Start D C Z G)) (issuer_files : List (IssuerFile D C Z G)) (stores : List (Store D C d)) (parts : List Part) →
      AreOpened d c starts issuer_files stores parts → length stores ≤ length starts
  stores_few [] [] [] [] h = omega arith
  stores_few (s ∷ starts) (issuer_file.Closed issuer u ∷ issuer_files) stores parts h = let e = stores_few starts issuer_files stores parts h.1 in omega (arith, e)
  stores_few (s ∷ starts) (issuer_file.Open issuer sleeper agency ∷ issuer_files) (store ∷ stores) (part ∷ parts) h =
      let e = stores_few starts issuer_files stores parts h.1 in omega (arith, e)
  stores_few _ _ _ _ h = absurd h

  pub parts_fit : (starts : List (Start D C Z G)) (issuer_files : List (IssuerFile D C Z G)) (stores : List (Store D C d)) (parts : List Part) →
      AreOpened d c starts issuer_files stores parts → length parts ≡ length stores
  parts_fit [] [] [] [] h = refl
  parts_fit (s ∷ starts) (issuer_file.Closed issuer u ∷ issuer_files) stores parts h = parts_fit starts issuer_files stores parts h.1
  parts_fit (s ∷ starts) (issuer_file.Open issuer sleeper agency ∷ issuer_files) (store ∷ stores) (part ∷ parts) h =
      let e = parts_fit starts issuer_files stores parts h.1 in omega (arith, e)
  parts_fit _ _ _ _ h = absurd h

  pub sides_fit : (starts : List (Start D C Z G)) (issuer_files : List (IssuerFile D C Z G)) (stores : List (Store D C d)) (parts : List Part) →
      AreOpened d c starts issuer_files stores parts → open_files issuer_files ≡ length stores
  sides_fit [] [] [] [] h = refl
  sides_fit (s ∷ starts) (issuer_file.Closed issuer u ∷ issuer_files) stores parts h = sides_fit starts issuer_files stores parts h.1
  sides_fit (s ∷ starts) (issuer_file.Open issuer sleeper agency ∷ issuer_files) (store ∷ stores) (part ∷ parts) h =
      let e = sides_fit starts issuer_files stores parts h.1 in omega (arith, e)
  sides_fit _ _ _ _ h = absurd h

  pub sides_long : (starts : List (Start D C Z G)) (issuer_files : List (IssuerFile D C Z G)) (stores : List (Store D C d)) (parts : List Part) →
      AreOpened d c starts issuer_files stores parts → length issuer_files ≡ length starts
  sides_long [] [] [] [] h = refl
  sides_long (s ∷ starts) (issuer_file.Closed issuer u ∷ issuer_files) stores parts h =
      let e = sides_long starts issuer_files stores parts h.1 in omega (arith, e)
  sides_long (s ∷ starts) (issuer_file.Open issuer sleeper agency ∷ issuer_files) (store ∷ stores) (part ∷ parts) h =
      let e = sides_long starts issuer_files stores parts h.1 in omega (arith, e)
  sides_long _ _ _ _ h = absurd h

  own_of : (P : List ℕ → Type 0) (starts : List (Start D C Z G)) (issuer_files : List (IssuerFile D C Z G)) (stores : List (Store D C d))
      (parts : List Part) → AreOpened d c starts issuer_files stores parts →
      AllByRecursion P (map (λ (s : Start D C Z G). s.issuer) starts) →
      AllByRecursion P (map (λ (s : Store D C d). issuer_of s) stores)
  own_of P [] [] [] [] h each = tt
  own_of P (s ∷ starts) (issuer_file.Closed issuer u ∷ issuer_files) stores parts h each = own_of P starts issuer_files stores parts h.1 each.1
  own_of P (s ∷ starts) (issuer_file.Open issuer sleeper agency ∷ issuer_files) (store ∷ stores) (part ∷ parts) h each =
      (subst P (sym h.0.opened.issuer_is) each.0, own_of P starts issuer_files stores parts h.1 each.1)
  own_of P _ _ _ _ h each = absurd h

  pub stores_own : (starts : List (Start D C Z G)) (issuer_files : List (IssuerFile D C Z G)) (stores : List (Store D C d)) (parts : List Part) →
      AreOpened d c starts issuer_files stores parts → AreOwn (map (λ (s : Start D C Z G). s.issuer) starts) →
      AreOwn (map (λ (s : Store D C d). issuer_of s) stores)
  stores_own [] [] [] [] h own = tt
  stores_own (s ∷ starts) (issuer_file.Closed issuer u ∷ issuer_files) stores parts h own = stores_own starts issuer_files stores parts h.1 own.1
  stores_own (s ∷ starts) (issuer_file.Open issuer sleeper agency ∷ issuer_files) (store ∷ stores) (part ∷ parts) h own = (
    own_of (λ (other : List ℕ). issuer_of store ≢ other) starts issuer_files stores parts h.1
        (subst (λ (n : List ℕ). AllByRecursion (λ (other : List ℕ). n ≢ other) (map (λ (s : Start D C Z G). s.issuer) starts))
        (sym h.0.opened.issuer_is) own.0),
    stores_own starts issuer_files stores parts h.1 own.1,
  )
  stores_own _ _ _ _ h own = absurd h

  each_ready : (starts : List (Start D C Z G)) (issuer_files : List (IssuerFile D C Z G)) (stores : List (Store D C d)) (parts : List Part) →
      AreOpened d c starts issuer_files stores parts → AllByRecursion (λ (s : Store D C d). Ready d.tells d.on_disk s) stores
  each_ready [] [] [] [] h = tt
  each_ready (s ∷ starts) (issuer_file.Closed issuer u ∷ issuer_files) stores parts h = each_ready starts issuer_files stores parts h.1
  each_ready (s ∷ starts) (issuer_file.Open issuer sleeper agency ∷ issuer_files) (store ∷ stores) (part ∷ parts) h =
      (h.0.ready, each_ready starts issuer_files stores parts h.1)
  each_ready _ _ _ _ h = absurd h

  pub stores_ready : (starts : List (Start D C Z G)) (issuer_files : List (IssuerFile D C Z G)) (stores : List (Store D C d)) (parts : List Part) →
      AreOpened d c starts issuer_files stores parts → All (λ (s : Store D C d). Ready d.tells d.on_disk s) stores
  stores_ready starts issuer_files stores parts h =
      all_of_each (λ (s : Store D C d). Ready d.tells d.on_disk s) stores (each_ready starts issuer_files stores parts h)

  each_lines : (starts : List (Start D C Z G)) (issuer_files : List (IssuerFile D C Z G)) (stores : List (Store D C d)) (parts : List Part) →
      AreOpened d c starts issuer_files stores parts → AllByRecursion (λ (s : Start D C Z G). HasLines s.part) starts →
      AllByRecursion HasLines parts
  each_lines [] [] [] [] h lines = tt
  each_lines (s ∷ starts) (issuer_file.Closed issuer u ∷ issuer_files) stores parts h lines = each_lines starts issuer_files stores parts h.1 lines.1
  each_lines (s ∷ starts) (issuer_file.Open issuer sleeper agency ∷ issuer_files) (store ∷ stores) (part ∷ parts) h lines =
      (subst HasLines (sym h.0.part_is) lines.0, each_lines starts issuer_files stores parts h.1 lines.1)
  each_lines _ _ _ _ h lines = absurd h

  pub parts_lined : (starts : List (Start D C Z G)) (issuer_files : List (IssuerFile D C Z G)) (stores : List (Store D C d)) (parts : List Part) →
      AreOpened d c starts issuer_files stores parts → All (λ (s : Start D C Z G). HasLines s.part) starts → All HasLines parts
  parts_lined starts issuer_files stores parts h lines =
      all_of_each HasLines parts (each_lines starts issuer_files stores parts h
      (each_of_all (λ (s : Start D C Z G). HasLines s.part) starts lines))

  module _ (answers : List OfficeAnswer) (all : Result (Unit {0}) NoMemory) where
    answered : (index : ℕ) (s : Start D C Z G) (issuer : List ℕ) (sleeper : Z) (agency : G) (old new : Store D C d) (part : Part)
        (job : IssuerJob D C Z G d) → IsOpenedFor d c s issuer sleeper agency old part →
        ServedAt d c part old new (replies_to index answers) all →
        (t : IssuerTask D C Z G d) × (job.task ≡ Some t) × IsOpenTask answers all index issuer sleeper agency new part t →
        IsTasked d c s job
    answered index s issuer sleeper agency old new part job o served j = record {
      task = task.Open issuer part j.2.told (record { store = new; sleeper = sleeper; agency = agency });
      is = j.1 ∙ ap (λ (t : IssuerTask D C Z G d). Some t) j.2.is;
      own = record {
        issuer_is = o.issuer_is;
        part_is = o.part_is;
        sleeper_is = o.sleeper_is;
        agency_is = o.agency_is;
        first = old;
        opened = o.opened;
        all = all;
        replies = replies_to index answers;
        served = served;
        tells = tells_by answers all index j.2.told j.2.tells;
      };
    }

    -- each issuer has its job
    pub tasked : (index : ℕ) (starts : List (Start D C Z G)) (issuer_files : List (IssuerFile D C Z G)) (stores stores' : List (Store D C d))
        (parts : List Part) (jobs : List (IssuerJob D C Z G d)) → AreOpened d c starts issuer_files stores parts → length stores' ≡ length stores →
        ((i : ℕ) (old new : Store D C d) (part : Part) → slice_get stores i ≡ Some old → slice_get stores' i ≡ Some new →
        slice_get parts i ≡ Some part → stopped_of (journal_of old) ≡ None →
        ServedAt d c part old new (replies_to (index + i) answers) all) →
        AreJobs answers all index issuer_files stores' parts jobs → Both (IsTasked d c) starts jobs
    tasked index [] [] [] [] [] [] h long served j = tt
    tasked index [] [] [] [] [] (job ∷ jobs) h long served j = absurd j
    tasked index [] [] [] (store ∷ stores') [] jobs h long served j = absurd (omega (arith, long))
    tasked index (s ∷ starts) (issuer_file.Closed issuer u ∷ issuer_files) stores stores' parts (job ∷ jobs) h long served j = (
      record { task = task.Closed issuer u; is = j.0; own = h.0 },
      tasked index starts issuer_files stores stores' parts jobs h.1 long served j.1,
    )
    tasked index (s ∷ starts) (issuer_file.Closed issuer u ∷ issuer_files) stores stores' parts [] h long served j = absurd j
    tasked index (s ∷ starts) (issuer_file.Open issuer sleeper agency ∷ issuer_files) (store ∷ stores) (store' ∷ stores') (part ∷ parts) (job ∷ jobs) h long
        served j =
        let here : ServedAt d c part store store' (replies_to index answers) all =
        subst (λ (n : ℕ). ServedAt d c part store store' (replies_to n answers) all) (omega arith)
        (served 0 store store' part refl refl refl h.0.going_on) in (
          answered index s issuer sleeper agency store store' part job h.0 here j.0,
          tasked (suc index) starts issuer_files stores stores' parts jobs h.1 (omega (arith, long))
              (λ i old new p a b e going. subst (λ (n : ℕ). ServedAt d c p old new (replies_to n answers) all) (omega arith)
              (served (suc i) old new p a b e going)) j.1,
        )
    tasked index (s ∷ starts) (issuer_file.Open issuer sleeper agency ∷ issuer_files) (store ∷ stores) [] (part ∷ parts) jobs h long served j =
        absurd (omega (arith, long))
    tasked index (s ∷ starts) (issuer_file.Open issuer sleeper agency ∷ issuer_files) (store ∷ stores) (store' ∷ stores') (part ∷ parts) [] h long served j =
        absurd j
    tasked index _ _ _ _ _ _ h long served j = absurd h

    each_waiting : (index : ℕ) (issuer_files : List (IssuerFile D C Z G)) (stores : List (Store D C d)) (parts : List Part)
        (jobs : List (IssuerJob D C Z G d)) → AllByRecursion (λ (s : Store D C d). Ready d.tells d.on_disk s) stores →
        AreJobs answers all index issuer_files stores parts jobs → AllByRecursion (λ (j : IssuerJob D C Z G d). IsWaiting d.tells d.on_disk j) jobs
    each_waiting index [] [] [] [] ready j = tt
    each_waiting index (issuer_file.Closed issuer u ∷ issuer_files) stores parts (job ∷ jobs) ready j = (
      record { task = task.Closed issuer u; is = j.0; ready = tt },
      each_waiting index issuer_files stores parts jobs ready j.1,
    )
    each_waiting index (issuer_file.Open issuer sleeper agency ∷ issuer_files) (store ∷ stores) (part ∷ parts) (job ∷ jobs) ready j = (
      record {
        task = task.Open issuer part j.0.2.told (record { store = store; sleeper = sleeper; agency = agency });
        is = j.0.1 ∙ ap (λ (t : IssuerTask D C Z G d). Some t) j.0.2.is;
        ready = ready.0;
      },
      each_waiting (suc index) issuer_files stores parts jobs ready.1 j.1,
    )
    each_waiting index _ _ _ _ ready j = absurd j

    pub all_waiting : (index : ℕ) (issuer_files : List (IssuerFile D C Z G)) (stores : List (Store D C d)) (parts : List Part)
        (jobs : List (IssuerJob D C Z G d)) → All (λ (s : Store D C d). Ready d.tells d.on_disk s) stores →
        AreJobs answers all index issuer_files stores parts jobs → All (λ (j : IssuerJob D C Z G d). IsWaiting d.tells d.on_disk j) jobs
    all_waiting index issuer_files stores parts jobs ready j =
        all_of_each (λ (j : IssuerJob D C Z G d). IsWaiting d.tells d.on_disk j) jobs
        (each_waiting index issuer_files stores parts jobs (each_of_all (λ (s : Store D C d). Ready d.tells d.on_disk s) stores ready) j)
