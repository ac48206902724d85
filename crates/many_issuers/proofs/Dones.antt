-- What is done of jobs, and how a run for several issuers ends.
use Rattle.std.proofs.Common.{◌≡◌, ℕ, zero, suc, ◌+◌, ◌<◌, ◌⊎◌, inl, inr, List, [], ◌∷◌, ◌++◌, length, map, take, drop, get_or, refl, ap, sym, ◌∙◌, subst, arith, append_assoc}
use Rattle.std.proofs.Common.{Some, None, Option, Result, Ok, Err, IsOk}
use Rattle.std.specs.Prelude.{reverse, flat_map}
use Rattle.std.proofs.lemmas.List.{append-nil, length-map, length-take-le, map-append}
use Rattle.ports.specs.Sinks.{FailedIn, OutputIs, Sinks, Wrote}
use Rattle.ports.specs.declared.faults.Failed.{Failed}
use Rattle.ports.specs.declared.faults.NoMemory.{NoMemory}
use Rattle.chain_disk.specs.declared.disk.Disk as disk
use Rattle.report.specs.Status.{status_of}
use Rattle.report.specs.declared.status.Detail.{Detail}
use Rattle.report.specs.declared.status.Detail.TheVariants as detail
use Rattle.many_issuers.specs.Dones.{AllEndWell, BadIs, IsFirstBad, IsWhole, IssuersEnd, PutsBlock, block_in, dones_in}
use Rattle.many_issuers.specs.Dones.IssuersEnd.{done, issuer, write_fault}
use Rattle.many_issuers.specs.declared.working.Done.{Done}
use Rattle.many_issuers.specs.declared.working.IssuerJob.{IssuerJob}
use Rattle.sender_session.proofs.Lists.{each_snoc}
use Rattle.many_issuers.proofs.Opened.{reverse_push}

module _ {D C Z G : Type 0} {g : disk.Ghosts D} where
  -- by what is done of the job in front
  dones_cons : (job : IssuerJob D C Z G g) (jobs : List (IssuerJob D C Z G g)) (o : Option (Done D C Z G)) → job.done ≡ o →
      dones_in (job ∷ jobs) ≡ dones_in (job ∷ []) ++ dones_in jobs
  dones_cons job jobs None is = rw is refl
  dones_cons job jobs (Some d) is = rw is refl

  dones_push : (jobs : List (IssuerJob D C Z G g)) (job : IssuerJob D C Z G g) → dones_in (jobs ++ job ∷ []) ≡ dones_in jobs ++ dones_in (job ∷ [])
  dones_push [] job = refl
  dones_push (j ∷ jobs) job =
      dones_cons j (jobs ++ job ∷ []) j.done refl ∙ ap (λ (l : List (Done D C Z G)). dones_in (j ∷ []) ++ l) (dones_push jobs job) ∙
      sym (append_assoc (dones_in (j ∷ [])) (dones_in jobs) (dones_in (job ∷ []))) ∙
      ap (λ (l : List (Done D C Z G)). l ++ dones_in (job ∷ [])) (sym (dones_cons j jobs j.done refl))

  few_turned : (job : IssuerJob D C Z G g) (o : Option (Done D C Z G)) → job.done ≡ o → (dones : List (Done D C Z G)) →
      reverse (dones ++ dones_in (job ∷ [])) ≡ dones_in (job ∷ []) ++ reverse dones
  few_turned job None is dones = rw is (ap reverse (append-nil dones))
  few_turned job (Some d) is dones = rw is (reverse_push dones (dones ++ d ∷ []) d refl)

  pub dones_more : (jobs all : List (IssuerJob D C Z G g)) (job : IssuerJob D C Z G g) (dones dones' whole : List (Done D C Z G)) →
      all ≡ jobs ++ job ∷ [] → dones' ≡ dones ++ dones_in (job ∷ []) → dones_in all ++ reverse dones ≡ whole →
      dones_in jobs ++ reverse dones' ≡ whole
  dones_more jobs all job dones dones' whole a b h =
      ap (λ (l : List (Done D C Z G)). dones_in jobs ++ reverse l) b ∙
      ap (λ (l : List (Done D C Z G)). dones_in jobs ++ l) (few_turned job job.done refl dones) ∙
      sym (append_assoc (dones_in jobs) (dones_in (job ∷ [])) (reverse dones)) ∙
      ap (λ (l : List (Done D C Z G)). l ++ reverse dones) (sym (dones_push jobs job)) ∙
      ap (λ (l : List (IssuerJob D C Z G g)). dones_in l ++ reverse dones) (sym a) ∙ h

-- a block more of the text
pub whole_more : (blocks blocks' : List (Result (List ℕ) NoMemory)) (block : List ℕ) (text text' : List ℕ) →
    blocks' ≡ blocks ++ Ok block ∷ [] → text' ≡ text ++ block → IsWhole blocks text → IsWhole blocks' text'
whole_more blocks blocks' block text text' is now h = subst (λ (l : List (Result (List ℕ) NoMemory)). IsWhole l text') (sym is) (record {
  each = each_snoc (λ (b : Result (List ℕ) NoMemory). IsOk b) blocks (Ok block) h.each refl;
  is = now ∙ ap (λ (t : List ℕ). t ++ block) h.is ∙ sym (pieces_push blocks);
})
  where
    pieces_push : (bs : List (Result (List ℕ) NoMemory)) → flat_map block_in (bs ++ Ok block ∷ []) ≡ flat_map block_in bs ++ block
    pieces_push [] = append-nil block
    pieces_push (b ∷ bs) = ap (λ (l : List ℕ). block_in b ++ l) (pieces_push bs) ∙
        sym (append_assoc (block_in b) (flat_map block_in bs) block)

-- the end by the first bad one, and by the sink
pub ends_so : (bad : Option Detail) (w : Result (Unit {0}) Failed) (end : Detail) (ends : List Detail) (blocks : List (Result (List ℕ) NoMemory))
    (text : List ℕ) (s : Sinks) → ((u : Unit {0}) → bad ≡ None → w ≡ Ok u → end ≡ detail.Done) →
    ((e : Failed) → bad ≡ None → w ≡ Err e → end ≡ detail.WriteFault) → ((b : Detail) → bad ≡ Some b → end ≡ b) →
    BadIs ends bad → IsWhole blocks text → OutputIs s text w → IssuersEnd ends blocks s end
ends_so None (Ok u) end ends blocks text s one two three is whole out =
    subst (λ (e : Detail). IssuersEnd ends blocks s e) (sym (one u refl refl)) (done text is whole out)
ends_so None (Err f) end ends blocks text s one two three is whole out =
    subst (λ (e : Detail). IssuersEnd ends blocks s e) (sym (two f refl refl)) (write_fault text is whole out)
ends_so (Some (detail.Issuer index status)) w end ends blocks text s one two three is whole out =
    subst (λ (e : Detail). IssuersEnd ends blocks s e) (sym (three (detail.Issuer index status) refl))
    (issuer text index status is whole (either w out))
  where
    either : (r : Result (Unit {0}) Failed) → OutputIs s text r → Wrote s text ⊎ FailedIn s text
    either (Ok u) h = inl h
    either (Err e) h = inr h
ends_so (Some b) w end ends blocks text s one two three is whole out = absurd is

-- a block more, where it was put
pub puts_more : (blocks blocks' : List (Result (List ℕ) NoMemory)) (block : Result (List ℕ) NoMemory) (text text' : List ℕ) (u : Unit {0}) →
    blocks' ≡ blocks ++ block ∷ [] → PutsBlock text block text' (Ok u) → IsWhole blocks text → IsWhole blocks' text'
puts_more blocks blocks' (Ok block) text text' u is now h = whole_more blocks blocks' block text text' is now h
puts_more blocks blocks' (Err fault) text text' u is now h = absurd cc

split_here : {X : Type 0} (xs : List X) (i : ℕ) (x : X) → i < length xs → x ≡ get_or xs i x → xs ≡ take i xs ++ x ∷ drop (suc i) xs
split_here [] i x within is = absurd (omega (arith, within))
split_here {X} (y ∷ xs) zero x within is = ap (λ (z : X). z ∷ xs) (sym is)
split_here {X} (y ∷ xs) (suc i) x within is = ap (λ (l : List X). y ∷ l) (split_here xs i x (omega (arith, within)) is)

-- the first of these whose status isn't 0
pub first_at : {X : Type 0} (f : X → Detail) (xs : List X) (i : ℕ) (x : X) (status : ℕ) → i < length xs → x ≡ get_or xs i x →
    AllEndWell (map f (take i xs)) → status ≡ status_of (f x) → (status ≡ 0 → ⊥) → IsFirstBad (map f xs) i status
first_at {X} f xs i x status within is well status_is bad = record {
  before = map f (take i xs);
  bad = f x;
  behind = map f (drop (suc i) xs);
  ends_are = ap (λ (l : List X). map f l) (split_here xs i x within is) ∙ map-append f (take i xs) (x ∷ drop (suc i) xs);
  well = well;
  index_is = (let a = length-map (take i xs) f in let b = length-take-le i xs (omega (arith, within)) in omega (arith, a, b));
  status_is = status_is;
  not_well = bad;
}
