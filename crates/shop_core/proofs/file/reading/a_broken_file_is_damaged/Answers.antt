use Rattle.shop_core.proofs.FileReadings.{broken_is_damaged}
use Rattle.shop_core.proofs.file.reading.a_broken_file_is_damaged.Goals as goal

pub returns : goal.returns
returns c = broken_is_damaged
