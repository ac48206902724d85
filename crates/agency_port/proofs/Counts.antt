-- Counts of faults.
use Rattle.std.proofs.Common.{◌≡◌, ℕ, ◌^◌, ◌<◌, ◌≤◌, arith, Option, Some, None, true}
use Rattle.ports.specs.Causes.{Rose}
use Rattle.ports.specs.Memory.{counted_up}
use Rattle.agency_rules.specs.declared.plans.Fate.{Fate}
use Rattle.agency_rules.specs.declared.plans.Fate.TheVariants.{Lost, Taken, Stale, Again, Late}
use Rattle.agency_port.specs.Ledger.{counted}
use Rattle.agency_port.specs.Practice.{is_faulty, faults_by}

pub counted_later : (n : ℕ) → counted n ≤ counted (counted_up n)
counted_later n = omega arith

pub counted_rose : (n : ℕ) → Rose (counted n) (counted (counted_up n))
counted_rose n below = omega arith

pub faults_later : (fate : Option Fate) (n : ℕ) → counted n ≤ counted (faults_by fate n)
faults_later None n = omega arith
faults_later (Some Lost) n = counted_later n
faults_later (Some Taken) n = counted_later n
faults_later (Some Stale) n = counted_later n
faults_later (Some Again) n = omega arith
faults_later (Some (Late calls)) n = counted_later n

pub faults_rose : (fate : Option Fate) (n : ℕ) → is_faulty fate ≡ true → Rose (counted n) (counted (faults_by fate n))
faults_rose None n e = absurd cc
faults_rose (Some Lost) n e = counted_rose n
faults_rose (Some Taken) n e = counted_rose n
faults_rose (Some Stale) n e = counted_rose n
faults_rose (Some Again) n e = absurd cc
faults_rose (Some (Late calls)) n e = counted_rose n
