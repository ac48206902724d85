-- What a disk tells of the moments since another.
use Rattle.std.proofs.Common.{◌≡◌, ◌≤◌, ◌-◌, inl, inr, ℕ, suc, List, [], ◌∷◌, length, take, sym, ◌∙◌, ap, subst, arith}
use Rattle.chain_disk.specs.OnDisk.{OnDisk, Pending, IsLeft, IsLeftOf, IsSyncFailed, IsWriteFailed, moment, moved, later}
use Rattle.std.proofs.lemmas.List.{length-take}
use Rattle.chain_disk.specs.OnDisk.{synced, written}
use Rattle.chain_disk.specs.Runs.{left_before}
use Rattle.mirror_disk.specs.Mirror.{since}

-- one moment more
pub since_moved : (made t : OnDisk) (content : List ℕ) (now : Pending) → moment made ≤ moment t →
    since made (moved content now t) ≡ moved content now (since made t)
since_moved made t content now later =
    let one : moment (moved content now t) - moment made ≡ suc (moment t - moment made) = omega (arith, later) in
    ap (λ (n : ℕ). let u : OnDisk = record { content = content; now = now; past = take n (t.now ∷ t.past) } in u) one

-- no moment more
pub since_none : (t : OnDisk) → (since t t).past ≡ []
since_none t =
    let none : moment t - moment t ≡ 0 = omega arith in
    ap (λ (n : ℕ). take n t.past) none

pub later_moved : (made t u : OnDisk) (content : List ℕ) (now : Pending) → moment made ≤ moment t → u ≡ moved content now t →
    moment made ≤ moment u
later_moved made t u content now later is = omega (arith, later, ap (λ (v : OnDisk). moment v) is)

pub later_same : (made t u : OnDisk) → moment made ≤ moment t → u ≡ t → moment made ≤ moment u
later_same made t u later is = omega (arith, later, ap (λ (v : OnDisk). moment v) is)

pub since_step : (made t u : OnDisk) (content : List ℕ) (now : Pending) → moment made ≤ moment t → u ≡ moved content now t →
    since made u ≡ moved content now (since made t)
since_step made t u content now later is = ap (λ (v : OnDisk). since made v) is ∙ since_moved made t content now later

pub since_written : (made t u : OnDisk) (at : ℕ) (bytes : List ℕ) → moment made ≤ moment t → u ≡ written at bytes t →
    since made u ≡ written at bytes (since made t)
since_written made t u at bytes later is = since_step made t u _ _ later is

pub since_synced : (made t u : OnDisk) → moment made ≤ moment t → u ≡ synced t → since made u ≡ synced (since made t)
since_synced made t u later is = since_step made t u _ _ later is

pub later_write_failed : (made t u : OnDisk) (at n : ℕ) → moment made ≤ moment t → IsWriteFailed at n t u → moment made ≤ moment u
later_write_failed made t u at n before (inl same) = later_same made t u before same
later_write_failed made t u at n before (inr torn) = later_moved made t u _ _ before torn.2

pub since_write_failed : (made t u : OnDisk) (at n : ℕ) → moment made ≤ moment t → IsWriteFailed at n t u →
    IsWriteFailed at n (since made t) (since made u)
since_write_failed made t u at n before (inl same) = inl (ap (λ (v : OnDisk). since made v) same)
since_write_failed made t u at n before (inr torn) = inr (torn.0, torn.1, since_step made t u _ _ before torn.2)

pub later_sync_failed : (made t u : OnDisk) → moment made ≤ moment t → IsSyncFailed t u → moment made ≤ moment u
later_sync_failed made t u before (inl same) = later_same made t u before same
later_sync_failed made t u before (inr is) = later_moved made t u _ _ before is

pub since_sync_failed : (made t u : OnDisk) → moment made ≤ moment t → IsSyncFailed t u →
    IsSyncFailed (since made t) (since made u)
since_sync_failed made t u before (inl same) = inl (ap (λ (v : OnDisk). since made v) same)
since_sync_failed made t u before (inr is) = inr (since_step made t u _ _ before is)

-- the moments from n on, counted from there
left_from : (all : List Pending) (n m : ℕ) (c : List ℕ) → n ≤ m → IsLeftOf all m c → IsLeftOf (take (length all - n) all) (m - n) c
left_from [] n m c from left = absurd left
left_from (p ∷ older) n m c from (inl here) =
    let one : length (p ∷ older) - n ≡ suc (length older - n) = omega (arith, from, here.0) in
    let size : m - n ≡ length (take (length older - n) older) = omega (arith, from, here.0, length-take (length older - n) older) in
    let now : IsLeftOf (take (suc (length older - n)) (p ∷ older)) (m - n) c = inl (size, here.1) in
    subst (λ (k : ℕ). IsLeftOf (take k (p ∷ older)) (m - n) c) (sym one) now
left_from (p ∷ older) n m c from (inr there) =
    let one : length (p ∷ older) - n ≡ suc (length older - n) = omega (arith, from, left_before older m c there) in
    let then : IsLeftOf (take (suc (length older - n)) (p ∷ older)) (m - n) c = inr (left_from older n m c from there) in
    subst (λ (k : ℕ). IsLeftOf (take k (p ∷ older)) (m - n) c) (sym one) then

pub left_since : (made t : OnDisk) (m : ℕ) (c : List ℕ) → moment made ≤ moment t → moment made ≤ m → IsLeft t m c →
    IsLeft (since made t) (m - moment made) c
left_since made t m c later from left =
    let one : length (t.now ∷ t.past) - moment made ≡ suc (moment t - moment made) = omega (arith, later) in
    let all : IsLeftOf (take (length (t.now ∷ t.past) - moment made) (t.now ∷ t.past)) (m - moment made) c =
    left_from (t.now ∷ t.past) (moment made) m c from left in
    subst (λ (k : ℕ). IsLeftOf (take k (t.now ∷ t.past)) (m - moment made) c) one all
