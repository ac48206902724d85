-- The jobs of an installation, made from the last issuer to the first.
use Rattle.std.proofs.Common.{◌≡◌, ℕ, suc, ◌+◌, List, [], ◌∷◌, ◌++◌, length, ap, sym, ◌∙◌, subst, arith, append_assoc}
use Rattle.std.proofs.Common.{Some, Result}
use Rattle.std.specs.Prelude.{reverse}
use Rattle.std.proofs.lemmas.List.{append-nil}
use Rattle.ports.specs.declared.faults.NoMemory.{NoMemory}
use Rattle.chain_disk.specs.declared.disk.Disk as disk
use Rattle.chain_store.specs.declared.store.Store.{Store}
use Rattle.issuers.specs.declared.answers.OfficeAnswer.{OfficeAnswer}
use Rattle.issuers.specs.declared.parts.Part.{Part}
use Rattle.many_issuers.specs.IssuerJobs.{AreJobs, IsJob, open_files}
use Rattle.many_issuers.specs.declared.opening.IssuerFile.{IssuerFile}
use Rattle.many_issuers.specs.declared.opening.IssuerFile.TheVariants as issuer_file
use Rattle.many_issuers.specs.declared.working.IssuerJob.{IssuerJob}
use Rattle.many_issuers.specs.declared.working.IssuerTask.{IssuerTask}
use Rattle.many_issuers.specs.declared.working.IssuerTask.TheVariants as task
use Rattle.many_issuers.proofs.Opened.{reverse_push}

pub open_push : {D C Z G : Type 0} (issuer_files : List (IssuerFile D C Z G)) (x : IssuerFile D C Z G) →
    open_files (issuer_files ++ x ∷ []) ≡ open_files issuer_files + open_files (x ∷ [])
open_push [] x = sym (omega arith)
open_push (issuer_file.Closed issuer unopened ∷ issuer_files) x = open_push issuer_files x
open_push (issuer_file.Open issuer sleeper agency ∷ issuer_files) x = let e = open_push issuer_files x in omega (arith, e)

module _ {D C Z G : Type 0} {d : disk.Ghosts D} (answers : List OfficeAnswer) (all : Result (Unit {0}) NoMemory) where
  -- the jobs after those that are left
  pub record JobsRest (issuer_files : List (IssuerFile D C Z G)) (stores : List (Store D C d)) (parts : List Part) (sides_left : List (IssuerFile D C Z G))
      (stores_left : List (Store D C d)) (parts_left : List Part) (jobs : List (IssuerJob D C Z G d)) : Type 0 where
    pub rest_files : List (IssuerFile D C Z G)
    pub rest_stores : List (Store D C d)
    pub rest_parts : List Part
    pub sides_are : sides_left ++ rest_files ≡ issuer_files
    pub stores_are : stores_left ++ rest_stores ≡ stores
    pub parts_are : parts_left ++ rest_parts ≡ parts
    pub are : AreJobs answers all (length stores_left) rest_files rest_stores rest_parts (reverse jobs)

  pub jobs_none : (issuer_files : List (IssuerFile D C Z G)) (stores : List (Store D C d)) (parts : List Part) (jobs : List (IssuerJob D C Z G d)) → jobs ≡ [] →
      JobsRest issuer_files stores parts issuer_files stores parts jobs
  jobs_none issuer_files stores parts jobs none = record {
    rest_files = [];
    rest_stores = [];
    rest_parts = [];
    sides_are = append-nil issuer_files;
    stores_are = append-nil stores;
    parts_are = append-nil parts;
    are = subst (λ (l : List (IssuerJob D C Z G d)). AreJobs answers all (length stores) [] [] [] (reverse l)) (sym none) tt;
  }

  pub jobs_more : (issuer_files : List (IssuerFile D C Z G)) (stores : List (Store D C d)) (parts : List Part) (sides_left sides_then : List (IssuerFile D C Z G))
      (x : IssuerFile D C Z G) (stores_left stores_then : List (Store D C d)) (parts_left parts_then : List Part)
      (jobs jobs' : List (IssuerJob D C Z G d)) (job : IssuerJob D C Z G d) (t : IssuerTask D C Z G d) → sides_left ≡ sides_then ++ x ∷ [] →
      IsJob answers all x stores_left parts_left stores_then parts_then t → job.task ≡ Some t → jobs' ≡ jobs ++ job ∷ [] →
      length stores_then + open_files (x ∷ []) ≡ length stores_left →
      JobsRest issuer_files stores parts sides_left stores_left parts_left jobs →
      JobsRest issuer_files stores parts sides_then stores_then parts_then jobs'
  jobs_more issuer_files stores parts sides_left sides_then (issuer_file.Closed issuer unopened) stores_left stores_then parts_left parts_then jobs jobs'
      job t sides_are is_job is now long h = record {
        rest_files = issuer_file.Closed issuer unopened ∷ h.rest_files;
        rest_stores = h.rest_stores;
        rest_parts = h.rest_parts;
        sides_are = sym (append_assoc sides_then (issuer_file.Closed issuer unopened ∷ []) h.rest_files) ∙
            ap (λ (l : List (IssuerFile D C Z G)). l ++ h.rest_files) (sym sides_are) ∙ h.sides_are;
        stores_are = ap (λ (l : List (Store D C d)). l ++ h.rest_stores) is_job.1 ∙ h.stores_are;
        parts_are = ap (λ (l : List Part). l ++ h.rest_parts) is_job.2 ∙ h.parts_are;
        are = subst (λ (l : List (IssuerJob D C Z G d)). AreJobs answers all (length stores_then) (issuer_file.Closed issuer unopened ∷ h.rest_files)
            h.rest_stores h.rest_parts l) (sym (reverse_push jobs jobs' job now)) (
              is ∙ ap (λ (u : IssuerTask D C Z G d). Some u) is_job.0,
              subst (λ (l : List (Store D C d)). AreJobs answers all (length l) h.rest_files h.rest_stores h.rest_parts (reverse jobs))
                  (sym is_job.1) h.are,
            );
      }
  jobs_more issuer_files stores parts sides_left sides_then (issuer_file.Open issuer sleeper agency) stores_left stores_then parts_left parts_then jobs
      jobs' job t sides_are is_job is now long h =
      let store = is_job.0 in
      let part = is_job.1 in
      let next : length stores_left ≡ suc (length stores_then) = omega (arith, long) in
      record {
        rest_files = issuer_file.Open issuer sleeper agency ∷ h.rest_files;
        rest_stores = store ∷ h.rest_stores;
        rest_parts = part ∷ h.rest_parts;
        sides_are = sym (append_assoc sides_then (issuer_file.Open issuer sleeper agency ∷ []) h.rest_files) ∙
            ap (λ (l : List (IssuerFile D C Z G)). l ++ h.rest_files) (sym sides_are) ∙ h.sides_are;
        stores_are = sym (append_assoc stores_then (store ∷ []) h.rest_stores) ∙
            ap (λ (l : List (Store D C d)). l ++ h.rest_stores) (sym is_job.2) ∙ h.stores_are;
        parts_are = sym (append_assoc parts_then (part ∷ []) h.rest_parts) ∙
            ap (λ (l : List Part). l ++ h.rest_parts) (sym is_job.3) ∙ h.parts_are;
        are = subst (λ (l : List (IssuerJob D C Z G d)). AreJobs answers all (length stores_then) (issuer_file.Open issuer sleeper agency ∷ h.rest_files)
            (store ∷ h.rest_stores) (part ∷ h.rest_parts) l) (sym (reverse_push jobs jobs' job now)) (
              (t, is, is_job.4),
              subst (λ (n : ℕ). AreJobs answers all n h.rest_files h.rest_stores h.rest_parts (reverse jobs)) next h.are,
            );
      }

  pub jobs_all : (issuer_files : List (IssuerFile D C Z G)) (stores : List (Store D C d)) (parts : List Part) (sides_left : List (IssuerFile D C Z G))
      (stores_left : List (Store D C d)) (parts_left : List Part) (jobs : List (IssuerJob D C Z G d)) → sides_left ≡ [] → stores_left ≡ [] →
      parts_left ≡ [] → JobsRest issuer_files stores parts sides_left stores_left parts_left jobs →
      AreJobs answers all 0 issuer_files stores parts (reverse jobs)
  jobs_all issuer_files stores parts sides_left stores_left parts_left jobs a b c h =
      let s : h.rest_files ≡ issuer_files = ap (λ (l : List (IssuerFile D C Z G)). l ++ h.rest_files) (sym a) ∙ h.sides_are in
      let t : h.rest_stores ≡ stores = ap (λ (l : List (Store D C d)). l ++ h.rest_stores) (sym b) ∙ h.stores_are in
      let p : h.rest_parts ≡ parts = ap (λ (l : List Part). l ++ h.rest_parts) (sym c) ∙ h.parts_are in
      subst (λ (l : List (IssuerFile D C Z G)). AreJobs answers all 0 l stores parts (reverse jobs)) s
      (subst (λ (l : List (Store D C d)). AreJobs answers all 0 h.rest_files l parts (reverse jobs)) t
      (subst (λ (l : List Part). AreJobs answers all 0 h.rest_files h.rest_stores l (reverse jobs)) p
      (subst (λ (l : List (Store D C d)). AreJobs answers all (length l) h.rest_files h.rest_stores h.rest_parts (reverse jobs)) b h.are)))
