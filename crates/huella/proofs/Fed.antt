-- What is fed piece by piece is the joined text.
use Rattle.std.proofs.Common.{◌≡◌, ℕ, List, [], ◌++◌, codes, append_assoc}
use Rattle.huella.specs.Texts.{joined_fields, joined_cancel}

pub fed_joined : (issuer num date kind cuota total previous moment : List ℕ) →
    (((((((([] ++ codes "IDEmisorFactura=" ++ issuer) ++ codes "&NumSerieFactura=" ++ num) ++ codes "&FechaExpedicionFactura=" ++
    date)
    ++ codes "&TipoFactura=" ++ kind) ++ codes "&CuotaTotal=" ++ cuota) ++ codes "&ImporteTotal=" ++ total) ++ codes "&Huella=" ++
    previous)
    ++ codes "&FechaHoraHusoGenRegistro=" ++ moment) ≡ joined_fields issuer num date kind cuota total previous moment
unfolding joined_fields
fed_joined issuer num date kind cuota total previous moment = simp append_assoc

pub fed_cancel : (issuer num date previous moment : List ℕ) →
    ((((([] ++ codes "IDEmisorFacturaAnulada=" ++ issuer) ++ codes "&NumSerieFacturaAnulada=" ++ num)
    ++ codes "&FechaExpedicionFacturaAnulada=" ++ date) ++ codes "&Huella=" ++ previous)
    ++ codes "&FechaHoraHusoGenRegistro=" ++ moment) ≡ joined_cancel issuer num date previous moment
unfolding joined_cancel
fed_cancel issuer num date previous moment = simp append_assoc
