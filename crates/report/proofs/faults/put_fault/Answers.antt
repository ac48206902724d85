use Rattle.report.proofs.faults.put_fault.Goals as goal

pub returns-in-Usage : goal.returns-in-Usage
returns-in-Usage c = rw c.in-Usage.is c.put.ensures

pub returns-in-Script : goal.returns-in-Script
returns-in-Script c = rw (c.in-Script.is, ← c.word_text.ensures) c.put_named.ensures

pub returns-in-ReadFault : goal.returns-in-ReadFault
returns-in-ReadFault c = rw c.in-ReadFault.is c.put-in-ReadFault.ensures

pub returns-in-WriteFault : goal.returns-in-WriteFault
returns-in-WriteFault c = rw c.in-WriteFault.is c.put-in-WriteFault.ensures

pub returns-in-DiskFault : goal.returns-in-DiskFault
returns-in-DiskFault c = rw c.in-DiskFault.is c.put-in-DiskFault.ensures

pub returns-in-Damaged : goal.returns-in-Damaged
returns-in-Damaged c = rw c.in-Damaged.is c.put_numbered.ensures

pub returns-in-Undelivered : goal.returns-in-Undelivered
returns-in-Undelivered c = rw c.in-Undelivered.is c.put_counts.ensures

pub returns-in-Broken : goal.returns-in-Broken
returns-in-Broken c = rw (c.in-Broken.is, ← c.what_text.ensures) c.put_named-in-Broken.ensures

pub returns-in-NoMemory : goal.returns-in-NoMemory
returns-in-NoMemory c = rw c.in-NoMemory.is c.put-in-NoMemory.ensures

pub returns-in-Contradiction : goal.returns-in-Contradiction
returns-in-Contradiction c = rw (c.in-Contradiction.is, ← c.unseen_place.ensures, ← c.from-place.ensures) c.put_numbered-in-Contradiction.ensures

pub returns-in-TooBig : goal.returns-in-TooBig
returns-in-TooBig c = rw c.in-TooBig.is c.put-in-TooBig.ensures

pub returns-in-OtherIssuer : goal.returns-in-OtherIssuer
returns-in-OtherIssuer c = rw c.in-OtherIssuer.is c.put_nif.ensures

pub returns-in-Unknown : goal.returns-in-Unknown
returns-in-Unknown c = rw c.in-Unknown.is c.put-in-Unknown.ensures

pub returns-in-Occupied : goal.returns-in-Occupied
returns-in-Occupied c = rw c.in-Occupied.is c.put-in-Occupied.ensures

pub returns-in-NotOld : goal.returns-in-NotOld
returns-in-NotOld c = rw (c.in-NotOld.is, ← c.from.ensures) c.put_numbered-in-NotOld.ensures

pub returns-in-Parted : goal.returns-in-Parted
returns-in-Parted c = rw c.in-Parted.is c.put_numbered-in-Parted.ensures

pub returns-in-Differs : goal.returns-in-Differs
returns-in-Differs c = rw c.in-Differs.is c.put_numbered-in-Differs.ensures

pub returns-in-Issuer : goal.returns-in-Issuer
returns-in-Issuer c = rw (c.in-Issuer.is, ← c.from-in-Issuer.ensures) c.put_numbered-in-Issuer.ensures
