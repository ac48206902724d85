-- The jobs of an installation, from its issuers' files, their stores and their parts.
use Rattle.std.specs.Prelude.{◌≡◌, ◌+◌, ℕ, List, [], ◌∷◌, ◌++◌, length, suc, Some, Result, Ok, Err, IfOk}
use Rattle.ports.specs.declared.faults.NoMemory.{NoMemory}
use Rattle.chain_disk.specs.declared.disk.Disk as disk
use Rattle.chain_store.specs.declared.store.Store.{Store}
use Rattle.issuers.specs.Serving.{replies_to}
use Rattle.issuers.specs.declared.answers.OfficeAnswer.{OfficeAnswer}
use Rattle.issuers.specs.declared.parts.Part.{Part}
use Rattle.many_issuers.specs.Work.{Told}
use Rattle.many_issuers.specs.declared.opening.IssuerFile.{IssuerFile}
use Rattle.many_issuers.specs.declared.opening.IssuerFile.TheVariants as issuer_file
use Rattle.many_issuers.specs.declared.working.IssuerJob.{IssuerJob}
use Rattle.many_issuers.specs.declared.working.IssuerTask.{IssuerTask}
use Rattle.many_issuers.specs.declared.working.IssuerTask.TheVariants as task

-- how many of these issuers have an open file
abbrev pub open_files : {D C Z G : Type 0} → List (IssuerFile D C Z G) → ℕ
open_files [] = 0
open_files (issuer_file.Closed issuer unopened ∷ issuer_files) = open_files issuer_files
open_files (issuer_file.Open issuer sleeper agency ∷ issuer_files) = 1 + open_files issuer_files

-- the replies are those to the issuer of this index, and come only where there was memory for all answers
abbrev pub TellsIf : List OfficeAnswer → Result (Unit {0}) NoMemory → ℕ → Told → Type 0
TellsIf answers (Ok done) index replied = IfOk replied (λ replies. replies.items ≡ replies_to index answers)
TellsIf answers (Err fault) index replied = replied ≡ Err fault

module _ {D C Z G : Type 0} {d : disk.Ghosts D} (answers : List OfficeAnswer) (all : Result (Unit {0}) NoMemory) where
  -- the task of the issuer of this index among those with an open file
  pub record IsOpenTask (index : ℕ) (issuer : List ℕ) (sleeper : Z) (agency : G) (store : Store D C d) (part : Part)
      (t : IssuerTask D C Z G d) : Type 0 where
    pub told : Told
    pub is : t ≡ task.Open issuer part told (record { store = store; sleeper = sleeper; agency = agency })
    pub tells : TellsIf answers all index told

  -- the task of the last issuer that is left, by its file: what it takes of the stores and the parts
  abbrev pub IsJob : IssuerFile D C Z G → List (Store D C d) → List Part → List (Store D C d) → List Part → IssuerTask D C Z G d → Type 0
  IsJob (issuer_file.Closed issuer unopened) stores parts stores' parts' t =
      (t ≡ task.Closed issuer unopened) × (stores' ≡ stores) × (parts' ≡ parts)
  IsJob (issuer_file.Open issuer sleeper agency) stores parts stores' parts' t = (store : Store D C d) × (part : Part)
      × (stores ≡ stores' ++ store ∷ []) × (parts ≡ parts' ++ part ∷ [])
      × IsOpenTask (length stores') issuer sleeper agency store part t

  -- a job for each issuer, with the stores and the parts of those with an open file, from this index on
  abbrev pub AreJobs : ℕ → List (IssuerFile D C Z G) → List (Store D C d) → List Part → List (IssuerJob D C Z G d) → Type 0
  AreJobs index [] [] [] [] = Unit {0}
  AreJobs index (issuer_file.Closed issuer unopened ∷ issuer_files) stores parts (job ∷ jobs) =
      (job.task ≡ Some (task.Closed issuer unopened)) × AreJobs index issuer_files stores parts jobs
  AreJobs index (issuer_file.Open issuer sleeper agency ∷ issuer_files) (store ∷ stores) (part ∷ parts) (job ∷ jobs) =
      ((t : IssuerTask D C Z G d) × (job.task ≡ Some t) × IsOpenTask index issuer sleeper agency store part t)
      × AreJobs (suc index) issuer_files stores parts jobs
  AreJobs _ _ _ _ _ = ⊥
