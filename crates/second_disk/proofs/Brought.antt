-- The one file, brought up by the other.
use Rattle.std.proofs.Common.{◌≡◌, ℕ, List, Bool, Option, Some, None, refl}
use Rattle.std.specs.Prelude.{IfNone, IfSome}
use Rattle.std.proofs.Common.{subst}
use Rattle.chain_disk.specs.OnDisk.{OnDisk}
use Rattle.journal.specs.declared.faults.StoreFault.{StoreFault}
use Rattle.journal.specs.declared.faults.StoreFault.TheVariants.{DiskFault, Stopped, NoMemory}
use Rattle.record_codec.specs.declared.entry.Entry.{Entry}
use Rattle.shop_core.specs.File.Laws.{OneHistory}
use Rattle.standby.specs.Chains.{ChainOnDisk, IsSoundChain}
use Rattle.standby.specs.Following.{IsFollowing}
use Rattle.standby.proofs.CaughtUp.{following_same}
use Rattle.standby.proofs.Fronts.{front_same}
use Rattle.second_disk.specs.Causes.{store_cause}
use Rattle.second_disk.specs.Opened.{ComeUp, IsStopped}
use Rattle.second_disk.specs.declared.causes.Half.{Half}

pub none_so : {P : Type 0} (o : Option ℕ) → IfNone o P → o ≡ None → P
none_so {P = P} o so is = subst (λ (v : Option ℕ). IfNone v P) is so

pub some_so : (o : Option ℕ) (Q : ℕ → Type 0) (n : ℕ) → IfSome o Q → o ≡ Some n → Q n
some_so o Q n so is = subst (λ (v : Option ℕ). IfSome v Q) is so

pub one_index : (o : Option ℕ) (m n : ℕ) → o ≡ Some m → o ≡ Some n → m ≡ n
one_index o m n first second = cc

-- a file that wasn't called
pub stayed : {D : Type 0} (tells : Bool) (on_disk : D → OnDisk) (faults : D → ℕ) → OneHistory → (chain : ChainOnDisk D) →
    IsSoundChain tells on_disk faults chain → chain.stopped ≡ None → IsFollowing tells on_disk chain chain chain.history.entries
stayed tells on_disk faults one chain sound going = following_same tells on_disk faults one chain chain.history.version
    chain.history.issuer chain.history.entries sound refl refl going sound.legal (front_same chain.history.entries)

-- a fault on the way
pub stopped_by : {D M : Type 0} (tells : Bool) (on_disk : D → OnDisk) (others_tell : Bool) (others_on_disk : M → OnDisk)
    (a a_new : ChainOnDisk D) (b b_new : ChainOnDisk M) (first_end second_end : List Entry) (half : Half) (fault : StoreFault) →
    ComeUp tells on_disk others_tell others_on_disk a a_new b b_new first_end second_end →
    IsStopped tells on_disk others_tell others_on_disk a a_new b b_new (store_cause half fault)
stopped_by tells on_disk others_tell others_on_disk a a_new b b_new first_end second_end half DiskFault up = (first_end, second_end, up)
stopped_by tells on_disk others_tell others_on_disk a a_new b b_new first_end second_end half (Stopped count) up =
    (first_end, second_end, up)
stopped_by tells on_disk others_tell others_on_disk a a_new b b_new first_end second_end half NoMemory up = (first_end, second_end, up)
