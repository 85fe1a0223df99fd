-- What a restoring of a witness of an engine form holds behind lines of it.
use Rattle.std.specs.Prelude.{◌≡◌, ℕ, ◌<◌, ◌≤◌, Bool, false, List, [], ◌∷◌, ◌++◌, length, Option, None, Some, Result, Ok, Err}
use Rattle.std.specs.Io.KnownBytes.{Appends, Consumes}
use Rattle.base.specs.Device.{AppendsBeginning}
use Rattle.base.specs.declared.pen.Pen.{Pen}
use Rattle.base.specs.Writing.{WritesText}
use Rattle.aiger.specs.Circuit.{Circuit}
use Rattle.witness.specs.Readings.{reading}
use Rattle.witness.specs.BitAdmits.{BitRead, bit_reader, admitted_lines, is_done}
use Rattle.witness.specs.declared.bit_lines.BitLines.{BitLines}
use Rattle.witness.specs.BitStands.{StandsForBitLines}
use Rattle.restore.specs.declared.fault.RestoreFault.{RestoreFault}
use Rattle.restore.specs.declared.told.Restored.{Restored}
use Rattle.restore.specs.Answers.{form_lines_put}
use Rattle.restore.specs.FormWitness.{property_of}
use Rattle.restore.specs.Plays.{Play, IsFresh, play_told, taken}
use Rattle.restore.specs.Putting.{frames_put, end_put}

abbrev pub read_of : Circuit → List ℕ → BitRead
read_of d text = (reading (bit_reader d) text).read

-- before the claim
pub record IsHead (d : Circuit) (judge : BitLines) (text : List ℕ) : Type 0 where
  pub at : StandsForBitLines d judge text
  pub few : admitted_lines d text ≤ 1
  pub no_frame : (read_of d text).frames ≡ []
  pub not_done : is_done (read_of d text).place ≡ false

-- right behind it
pub record IsClaimed (d : Circuit) (judge : BitLines) (text : List ℕ) (j : ℕ) : Type 0 where
  pub at : StandsForBitLines d judge text
  pub many : admitted_lines d text ≡ 2
  pub claim : (read_of d text).claim ≡ j
  pub no_frame : (read_of d text).frames ≡ []
  pub not_done : is_done (read_of d text).place ≡ false
  pub below : j < length d.bads

abbrev pub IsHeadOrClaimed : Circuit → BitLines → List ℕ → Option ℕ → Type 0
IsHeadOrClaimed d judge text None = IsHead d judge text
IsHeadOrClaimed d judge text (Some j) = IsClaimed d judge text j

-- what is put for what admitted lines say
abbrev pub read_put : (ℕ → List ℕ → List ℕ) → Play → BitRead → List ℕ
read_put put first r = frames_put put first r.frames ++ end_put put (taken first r.frames) (is_done r.place)

-- further on: a circuit took the frames since it was fresh, and what is put for them was put since a pen began
pub record FormHolds {K : Type 0} (put : ℕ → List ℕ → List ℕ) (written : K → Option (List ℕ)) (failures : K → ℕ) (start s : K) (begun pen : Pen) (d : Circuit) (judge : BitLines) (first p : Play) (j : ℕ) (text : List ℕ) : Type 0 where
  pub at : StandsForBitLines d judge text
  pub many : 2 ≤ admitted_lines d text
  pub claim : (read_of d text).claim ≡ j
  pub play : p ≡ taken first (read_of d text).frames
  pub writes : WritesText written failures start s begun pen (read_put put first (read_of d text))

-- what the lines up to the claim of a source are: it claims so much, and the bytes behind are to come; or it was read to its end without one; or it could not be read
abbrev pub ReadsClaim : Result (Option ℕ) RestoreFault → Circuit → Option (List ℕ) → Option (List ℕ) → BitLines → Type 0
ReadsClaim (Ok (Some j)) d known now judge = (front : List ℕ) × (Consumes known now front × IsClaimed d judge front j)
ReadsClaim (Ok None) d known now judge = (front : List ℕ) × (Consumes known now front × IsHead d judge front)
ReadsClaim (Err e) d known now judge = Unit {0}

-- what is told of frames that were read, by a circuit that was fresh before them; of none nothing rises
abbrev pub TellsRead : Circuit → ℕ → List (List Bool) → Restored → Type 0
TellsRead c k [] told = told.first ≡ None
TellsRead c k (bits ∷ more) told = (first : Play) × (IsFresh c k first × ((k < length c.bads) × (told ≡ play_told (taken first (bits ∷ more)))))

-- A whole text was read, whose whole lines a judge took, with this behind them; what is put for what it is restored to was written, and this is told. At a fault a beginning was written.
abbrev pub ReadsForm : Result Restored RestoreFault → (ℕ → List ℕ → List ℕ) → Circuit → Option ℕ → Circuit → BitLines → List ℕ → Option (List ℕ) → Option (List ℕ) → List ℕ → Type 0
ReadsForm (Ok told) put c choice d judge rest old new text =
    (front : List ℕ) × ((front ++ rest ≡ text) × (StandsForBitLines d judge front × (TellsRead c (property_of choice (read_of d text).claim) (read_of d text).frames told × Appends old new (form_lines_put put c choice d text))))
ReadsForm (Err e) put c choice d judge rest old new text = AppendsBeginning old new (form_lines_put put c choice d text)
