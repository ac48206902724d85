-- The status of each end. The numbers are this project's own.
use Rattle.std.specs.Prelude.{ℕ}
use Rattle.report.specs.declared.status.Detail.{Detail}
use Rattle.report.specs.declared.status.Detail.TheVariants as detail

abbrev pub status_of : Detail → ℕ
status_of detail.Done = 0
status_of detail.Usage = 2
status_of (detail.Script line fault) = 3
status_of detail.ReadFault = 4
status_of detail.WriteFault = 5
status_of detail.DiskFault = 6
status_of (detail.Damaged at) = 7
status_of (detail.Undelivered noted records) = 8
status_of (detail.Broken place what) = 9
status_of detail.NoMemory = 10
status_of (detail.Contradiction evidence) = 11
status_of detail.TooBig = 12
status_of (detail.OtherIssuer held) = 13
status_of detail.Unknown = 14
status_of (detail.Occupied size) = 15
status_of (detail.NotOld held) = 16
status_of (detail.Parted entry) = 17
status_of (detail.Differs line) = 18
status_of (detail.Issuer index status) = status
