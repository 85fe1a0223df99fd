-- How the text of an invariant is read: what is left of a line, which latches were named, and what the lines so far say.
use Rattle.std.specs.Prelude.{◌≡◌, ℕ, suc, ◌+◌, ◌<◌, Bool, false, ◌&&◌, ◌==◌, nat_eq, nat_lt, List, [], length, Option, None, Some, Result, Ok, slice_index_or}
use Rattle.std.specs.List.{list_any}
use Rattle.base.specs.Lines.{whole_lines, unfinished}
use Rattle.base.specs.declared.sources.ReadAllFault.{ReadAllFault}
use Rattle.base.specs.declared.sources.ReadAllFault.TheVariants as all
use Rattle.certificates.specs.declared.why.InvariantFault.{InvariantFault}
use Rattle.certificates.specs.declared.why.InvariantWhy.TheVariants as why
use Rattle.certificates.specs.Reading.{line_words, CubesReading, at_start, read_cube_lines}

-- the words behind the first blank, where there is one
abbrev pub words_behind : Option (List ℕ) → List (List ℕ)
words_behind None = []
words_behind (Some rest) = line_words rest

-- how many bytes stand behind the first blank, and the blank
abbrev pub bytes_behind : Option (List ℕ) → ℕ
bytes_behind None = 0
bytes_behind (Some rest) = suc (length rest)

-- whether a zero stands at a place and a digit behind it
abbrev pub has_zero : List ℕ → ℕ → Bool
has_zero digits at = nat_lt (at + 1) (length digits) && slice_index_or digits at 0 == 48

-- a mark for each latch says whether it was named
pub record Marks (latches : ℕ) (marks : List Bool) (named : List ℕ) : Type 0 where
  pub many : length marks ≡ latches
  pub says : (k : ℕ) → k < latches → slice_index_or marks k false ≡ list_any (nat_eq k) named

-- a count of latches, and what the lines so far say over them
pub record Lines : Type 0 where
  pub latches : ℕ
  pub reading : CubesReading

-- what the lines so far, of which the last has this number, and known bytes behind them give
abbrev pub cubes_left : ℕ → Lines → List ℕ → Result (List (List ℕ)) InvariantFault
cubes_left number l text = read_cube_lines l.latches number (Ok l.reading) (whole_lines text) (unfinished text)

abbrev pub GivesCubes : ℕ → Lines → Option (List ℕ) → Result (List (List ℕ)) InvariantFault → Type 0
GivesCubes number l None answer = Unit {0}
GivesCubes number l (Some text) answer = cubes_left number l text ≡ answer

-- known bytes before lines were taken and those behind them give the same
abbrev pub AgreeAsLines : ℕ → Lines → Option (List ℕ) → ℕ → Lines → Option (List ℕ) → Type 0
AgreeAsLines n old None m new after = Unit {0}
AgreeAsLines n old (Some text) m new None = ⊥
AgreeAsLines n old (Some text) m new (Some rest) = cubes_left n old text ≡ cubes_left m new rest

-- before the first line of a text over so many latches
abbrev pub lines_begun : ℕ → Lines
lines_begun latches = record { latches = latches; reading = at_start }

-- the fault where a source could not be read
abbrev pub unread_invariant_fault : ReadAllFault → InvariantFault
unread_invariant_fault all.Device = record { line = 0; why = why.Device }
unread_invariant_fault all.NoMemory = record { line = 0; why = why.NoMemory }
