use Rattle.shop_drain.proofs.kinds.what_a_disk_reads_is_an_image.Goals as goal

pub returns : goal.returns
returns g c = λ disk tells. g.met.D.Disk.reads_an_image disk tells
