-- The numbers and names of the refusals of a lowering and of a conversion.
use Rattle.std.specs.Prelude.{ℕ, List, codes}
use Rattle.blast.specs.declared.fault.LowerFault.{LowerFault}
use Rattle.blast.specs.declared.fault.LowerFault.TheVariants as lower
use Rattle.blast.specs.declared.fault.ConvertFault.{ConvertFault}
use Rattle.blast.specs.declared.fault.ConvertFault.TheVariants as convert

-- the number of a refusal of a lowering
abbrev pub lower_number : LowerFault → ℕ
lower_number (lower.Justice id) = 90
lower_number (lower.Fair id) = 91
lower_number (lower.NoNext id) = 92
lower_number lower.TooBig = 93
lower_number lower.NoMemory = 94

-- and its name
abbrev pub lower_name : LowerFault → List ℕ
lower_name (lower.Justice id) = codes "Justice"
lower_name (lower.Fair id) = codes "Fair"
lower_name (lower.NoNext id) = codes "NoNext"
lower_name lower.TooBig = codes "TooBig"
lower_name lower.NoMemory = codes "NoMemory"

-- the number of a refusal of a conversion, whatever the number of the fault inside it
abbrev pub convert_number : ConvertFault → ℕ
convert_number (convert.Read e) = 95
convert_number (convert.Lower e) = 96
convert_number (convert.Write e) = 97

-- and its name
abbrev pub convert_name : ConvertFault → List ℕ
convert_name (convert.Read e) = codes "Read"
convert_name (convert.Lower e) = codes "Lower"
convert_name (convert.Write e) = codes "Write"
