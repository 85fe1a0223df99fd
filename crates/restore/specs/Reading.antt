-- What a text of a counterexample over an engine form reads as: its input frames up to its first faulty line, and why that is refused.
use Rattle.std.specs.Prelude.{ℕ, Bool, not, ◌||◌, ◌==◌, List, [], ◌∷◌, length, map, Option, None, Some, if◌then◌else◌}
use Rattle.std.specs.List.{list_all}
use Rattle.base.specs.Lines.{all_lines, line_after}
use Rattle.restore.specs.declared.fault.RestoreFault.{RestoreFault}
use Rattle.restore.specs.declared.fault.RestoreWhy.{RestoreWhy}
use Rattle.restore.specs.declared.fault.RestoreWhy.TheVariants.{NoFrame, InitialOne, NoBit, WrongLength}

-- the bytes before the first mark, or all
abbrev pub before_mark : List ℕ → List ℕ
before_mark [] = []
before_mark (b ∷ bs) = if b == 35 then [] else b ∷ before_mark bs

-- what is wrong with a line of initial bits: the first byte that is no 0
abbrev pub initial_why : List ℕ → Option RestoreWhy
initial_why [] = None
initial_why (b ∷ bs) = if b == 48 then initial_why bs else (if b == 49 then Some InitialOne else Some NoBit)

-- what is wrong with the line of a frame of so many bits: a byte that is no bit, and else its length
abbrev pub frame_why : ℕ → List ℕ → Option RestoreWhy
frame_why width line =
    if not (list_all (λ b. b == 48 || b == 49) line) then Some NoBit
    else (if length line == width then None else Some WrongLength)

-- the bits of a line
abbrev pub line_bits : List ℕ → List Bool
line_bits line = map (λ b. b == 49) line

-- what lines give: their frames up to the first line with a fault, or all of them, and that fault, where there is one
pub record Found : Type 0 where
  pub frames : List (List Bool)
  pub fault : Option RestoreFault

-- frames with no fault behind them, and with one
abbrev pub whole : List (List Bool) → Found
whole frames = record { frames = frames; fault = None }

abbrev pub faulty : List (List Bool) → RestoreFault → Found
faulty frames e = record { frames = frames; fault = Some e }

-- a frame before others
abbrev pub read_before : List Bool → Found → Found
read_before bits more = record { frames = bits ∷ more.frames; fault = more.fault }

-- a line that is read by one way where nothing is wrong with it
abbrev pub unless_wrong : ℕ → Option RestoreWhy → Found → Found
unless_wrong number None found = found
unless_wrong number (Some why) found = faulty [] (record { line = number; why = why })

-- the frames of lines, of which the first has this number
abbrev pub read_frames : ℕ → ℕ → List (List ℕ) → Found
read_frames width number [] = whole []
read_frames width number (line ∷ more) = unless_wrong number (frame_why width line) (read_before (line_bits line) (read_frames width (line_after number) more))

-- at least one frame
abbrev pub read_some : ℕ → List (List ℕ) → Found
read_some width [] = faulty [] (record { line = 2; why = NoFrame })
read_some width (line ∷ more) = read_frames width 2 (line ∷ more)

-- the initial bits and the frames
abbrev pub read_found_lines : ℕ → List (List ℕ) → Found
read_found_lines width [] = faulty [] (record { line = 1; why = NoFrame })
read_found_lines width (line ∷ more) = unless_wrong 1 (initial_why line) (read_some width more)

-- what a text reads as, where each frame has so many bits
abbrev pub read_found : ℕ → List ℕ → Found
read_found width text = read_found_lines width (all_lines (before_mark text))
