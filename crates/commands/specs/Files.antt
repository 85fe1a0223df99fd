-- What the file of a result is called while it is written, and what is said of what it is written to.
use Rattle.std.specs.Prelude.{ℕ, zero, suc, List, ◌++◌, codes, decimal}
use Rattle.base.specs.declared.sinks.ToWriter.{ToWriter}
use Rattle.commands.specs.declared.destinations.FileOutput.{FileOutput}
use Rattle.commands.specs.declared.destinations.FileOutput.TheVariants as output
use Rattle.subcommands.specs.declared.files.NoFile.{NoFile}

-- its last name: a beginning, the number of a process, and a number from 1 where others have that name
abbrev pub part_name : List ℕ → ℕ → ℕ → List ℕ
part_name beginning process zero = beginning ++ (codes "." ++ (decimal process ++ codes ".part"))
part_name beginning process (suc n) = beginning ++ (codes "." ++ (decimal process ++ (codes "." ++ (decimal (suc n) ++ codes ".part"))))

-- what is said of what was opened, or of none
abbrev pub of_output : {F T : Type 0} → (ToWriter F → T) → (NoFile → T) → FileOutput F → T
of_output f n (output.File x) = f x
of_output f n (output.Missing x) = n x
