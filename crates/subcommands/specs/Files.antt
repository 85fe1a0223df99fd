-- What is said of what a command reads or writes, by what it is.
use Rattle.std.specs.Prelude.{ℕ, if◌then◌else◌, List, Option, None, Some}
use Rattle.invocation.specs.Files.{is_standard_input}
use Rattle.subcommands.specs.declared.files.NoFile.{NoFile}
use Rattle.subcommands.specs.declared.files.Stream.{Stream}
use Rattle.subcommands.specs.declared.files.Stream.TheVariants as stream
use Rattle.subcommands.specs.declared.files.Opened.{Opened}
use Rattle.subcommands.specs.declared.files.Opened.TheVariants as opened

-- what is said of a standard stream, of a file, or of none
abbrev pub of_stream : {S F T : Type 0} → (S → T) → (F → T) → (NoFile → T) → Stream S F → T
of_stream s f n (stream.Standard x) = s x
of_stream s f n (stream.File x) = f x
of_stream s f n (stream.Missing x) = n x

-- what is said of a file that was not opened yet, of one that was, or of one that can't be
abbrev pub of_opened : {S T : Type 0} → T → (S → T) → (NoFile → T) → Opened S → T
of_opened t f n opened.NotYet = t
of_opened t f n (opened.File x) = f x
of_opened t f n (opened.Missing x) = n x

-- the bytes that a command reads under a name, by those of the files of names and those of standard input: those of standard input where the name stands for it, else those of the file of that name; nothing is known where there is no name
abbrev pub text_of_name : (List ℕ → Option (List ℕ)) → Option (List ℕ) → Option (List ℕ) → Option (List ℕ)
text_of_name texts standard None = None
text_of_name texts standard (Some name) = if is_standard_input name then standard else texts name
