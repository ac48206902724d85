-- The verification link of an invoice, and what it says: the tax agency's description of the QR code of invoices.
use Rattle.std.specs.Prelude.{ℕ, ◌≤◌, List, ◌++◌, codes, IsTrue}
use Rattle.amounts.specs.Cents.{IsCents}
use Rattle.amounts.specs.Text.{amount_text}
use Rattle.parties.specs.Nif.{IsNif}
use Rattle.series.specs.Numbers.{is_num_serie}
use Rattle.stamps.specs.Day.{last_day}
use Rattle.stamps.specs.Text.{date_text_of}
use Rattle.tax_lines.specs.Totals.{total}
use Rattle.record_fields.specs.declared.records.Alta.{Alta}
use Rattle.verify_link.specs.declared.parts.Host.{Host}
use Rattle.verify_link.specs.declared.parts.Host.TheVariants.{Real, Practice}
use Rattle.verify_link.specs.declared.parts.LinkParts.{LinkParts}
use Rattle.verify_link.specs.Writing.{encoded}

abbrev pub host_name : Host → List ℕ
host_name Real = codes "www2.agenciatributaria.gob.es"
host_name Practice = codes "prewww2.aeat.es"

-- what stands before the values, up to the question mark
abbrev pub beginning : Host → List ℕ
beginning host = codes "https://" ++ host_name host ++ codes "/wlpl/TIKE-CONT/ValidarQR?"

-- the link with these four values, which it encodes
unfoldable pub joined_link : Host → (nif num date importe : List ℕ) → List ℕ
joined_link host nif num date importe =
    beginning host ++ codes "nif=" ++ encoded nif ++ codes "&numserie=" ++ encoded num
    ++ codes "&fecha=" ++ encoded date ++ codes "&importe=" ++ encoded importe

-- the link that says these parts
abbrev pub link_text : LinkParts → List ℕ
link_text p = joined_link p.host p.nif p.num (date_text_of p.day) (amount_text p.total)

-- a tax number, a number of an invoice, a day up to 31-12-2100 and an amount
pub record IsLinkParts (p : LinkParts) : Type 0 where
  pub nif : IsNif p.nif
  pub num : IsTrue (is_num_serie p.num)
  pub day : p.day ≤ last_day
  pub total : IsCents p.total

-- what the link of an alta says
abbrev pub parts_of : Alta → Host → LinkParts
parts_of alta host = record {
  host = host;
  nif = alta.issuer;
  num = alta.id.num;
  day = alta.id.day;
  total = total alta.draft.lines;
}
