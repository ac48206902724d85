-- An append leaves the bytes before its gate as they are.
use Rattle.std.proofs.Common.{◌<◌, ◌+◌, inl, inr, ℕ, List, ◌∷◌, ◌++◌, length, take, drop, refl, sym, ◌∙◌, ap, arith}
use Rattle.std.proofs.Math.Logic.{∥∥₁_elim}
use Rattle.std.proofs.Props.{props}
use Rattle.std.proofs.lemmas.List.{length-take, take-take, take_at}
use Rattle.chain_disk.specs.OnDisk.{IsImage, IsSettled, LeavesOnly, OnDisk, moment}
use Rattle.chain_disk.specs.Props.{LeavesOnly-prop}
use Rattle.chain_disk.specs.Runs.{started_settled, weaker}
use Rattle.journal.specs.Commit.{IsCommitImage}
use Rattle.journal.specs.File.{IsAtSome}
use Rattle.journal.specs.Written.{AppendsFrom, KeepsFront}
use Rattle.journal.proofs.Files.{within}

-- where each file that a crash leaves has them, so has the file as it reads
pub appends_by : (gate : ℕ) (t u : OnDisk) → LeavesOnly t u (KeepsFront gate t.content) → IsImage u.now u.content →
    AppendsFrom gate t u
appends_by gate t u only image = record {
  file = only.each (moment u) u.content only.later (inl (refl, image));
  each_crash = only;
}

-- no call was made of a disk with nothing pending
pub appends_none : (gate : ℕ) (t : OnDisk) → IsSettled t → AppendsFrom gate t t
appends_none gate t quiet = record {
  file = refl;
  each_crash = started_settled t (KeepsFront gate t.content) quiet refl;
}

-- what a commit at the gate leaves has them
front_of_commit : (content : List ℕ) (gate : ℕ) (bytes c : List ℕ) → gate < length content → IsCommitImage content gate bytes c →
    KeepsFront gate content c
front_of_commit content gate bytes c inside (inl up) =
    sym (take-take gate (gate + 1) c (omega arith)) ∙ ap (λ (l : List ℕ). take gate l) up.same
    ∙ take-take gate (gate + 1) content (omega arith)
front_of_commit content gate bytes c inside (inr is) =
    ap (λ (l : List ℕ). take gate l) is.1
    ∙ take_at (take gate content) (is.0 ∷ (bytes ++ drop (gate + 1 + length bytes) content)) gate
    (omega (arith, length-take gate content, inside))

pub appends : (gate : ℕ) (t u : OnDisk) (bytes : List ℕ) → IsAtSome gate t →
    (IsSettled t → LeavesOnly t u (IsCommitImage t.content gate bytes)) → IsImage u.now u.content → AppendsFrom gate t u
appends gate t u bytes ready only image =
    let inside = within t gate ready in
    let each : LeavesOnly t u (KeepsFront gate t.content) =
    ∥∥₁_elim ready (LeavesOnly-prop t u (KeepsFront gate t.content) (λ c. hlevel props)) (λ at.
    weaker t u (IsCommitImage t.content gate bytes) (KeepsFront gate t.content) (only at.3.nothing_pending)
    (λ c is. front_of_commit t.content gate bytes c inside is)) in
    appends_by gate t u each image
