-- What a script says for each issuer.
use Rattle.std.specs.Prelude.{◌≡◌, length}
use Rattle.script.specs.Numbered.{Rising}
use Rattle.issuers.specs.declared.parts.Part.{Part}

-- a part has a line for each ask, and its lines rise
pub record HasLines (part : Part) : Type 0 where
  pub one_each : length part.lines ≡ length part.script.asks
  pub rising : Rising part.lines
