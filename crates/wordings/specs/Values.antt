-- What the values of the code stand for.
use Rattle.wordings.specs.declared.parts.Part.{Part}
use Rattle.wordings.specs.declared.parts.Part.TheVariants as part
use Rattle.wordings.specs.Parts.{Said, a_file, a_flag, an_option}

-- the part that a value of the code is
abbrev pub said : Part → Said
said (part.File w) = a_file w.now
said (part.Flag n) = a_flag n.now
said (part.Valued n v) = an_option n.now v.now
