-- What is told of an engine form of which words do not say what it was made for (this project's).
use Rattle.std.specs.Prelude.{ℕ, List, [], ◌++◌, Option, Some, None, nat_lt, if◌then◌else◌, codes, decimal}

-- the line that tells that an engine form is taken to be of all bad properties, of which there are so many
abbrev pub assumed_line : ℕ → List ℕ
assumed_line count = (codes "taken as made for all " ++ decimal count) ++ codes " bad properties; --bad K says that it was made for one\n"

-- it is told where none is chosen of several
abbrev pub assumed_said : Option ℕ → ℕ → List ℕ
assumed_said (Some k) count = []
assumed_said None count = if nat_lt 1 count then assumed_line count else []
