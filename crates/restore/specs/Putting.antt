-- What is put of a witness that is restored, line by line.
use Rattle.std.specs.Prelude.{◌≡◌, ℕ, suc, Bool, true, false, ◌+◌, ◌-◌, ◌^◌, ◌==◌, min, List, [], ◌∷◌, ◌++◌, codes, length, Option, None, Some, Result, Ok, Err, if◌then◌else◌}
use Rattle.base.specs.declared.pen.Pen.{Pen}
use Rattle.base.specs.Writing.{WritesText}
use Rattle.witness.specs.Texts.{claim}
use Rattle.witness.specs.BitTexts.{bit_line}
use Rattle.restore.specs.declared.fault.RestoreFault.{RestoreFault}
use Rattle.restore.specs.Faults.{is_of_text}
use Rattle.restore.specs.Reading.{Found}
use Rattle.restore.specs.Plays.{Play, begun, own_frame, took, taken}

-- what is put for lines, of which the first stands behind so many others, told up to 2^64 - 1
abbrev pub put_lines : (ℕ → List ℕ → List ℕ) → ℕ → List (List ℕ) → List ℕ
put_lines put n [] = []
put_lines put n (line ∷ lines) = put (min n (2 ^ 64 - 1)) line ++ put_lines put (suc n) lines

-- a line as it is
abbrev pub as_it_is : ℕ → List ℕ → List ℕ
as_it_is number line = line ++ 10 ∷ []

-- ---- frame by frame

-- the lines before the first frame, by the bits that the latches begin with
abbrev pub lines_of_beginning : Play → List (List ℕ)
lines_of_beginning p = codes "1" ∷ (claim p.claim ∷ (bit_line p.begins ∷ []))

-- how many lines stand before the line of the frame that follows, told up to 2^64 - 1
abbrev pub lines_before : Play → ℕ
lines_before p = min (p.frames + 3) (2 ^ 64 - 1)

-- what is put for a frame of the engine form
abbrev pub frame_put : (ℕ → List ℕ → List ℕ) → Play → List Bool → List ℕ
frame_put put p bits =
    if p.risen then []
    else ((if p.frames == 0 then put_lines put 0 (lines_of_beginning (begun p bits)) else []) ++ put (lines_before p) (bit_line (own_frame p bits)))

abbrev pub frames_put : (ℕ → List ℕ → List ℕ) → Play → List (List Bool) → List ℕ
frames_put put p [] = []
frames_put put p (bits ∷ more) = frame_put put p bits ++ frames_put put (took p bits) more

-- and behind all frames, where they end
abbrev pub end_put : (ℕ → List ℕ → List ℕ) → Play → Bool → List ℕ
end_put put p true = put (lines_before p) (codes ".")
end_put put p false = []

-- a circuit took frames since it was fresh, and what is put for them was put since a pen began
pub record HasTaken {K : Type 0} (put : ℕ → List ℕ → List ℕ) (written : K → Option (List ℕ)) (failures : K → ℕ) (start s : K) (begun pen : Pen) (first : Play) (given : List (List Bool)) (p : Play) : Type 0 where
  pub play : p ≡ taken first given
  pub writes : WritesText written failures start s begun pen (frames_put put first given)

-- what the lines of a restorer hold: that of the claim, and room for the two others
pub record HoldsLines (p : Play) (line : List ℕ) (one other : ℕ) : Type 0 where
  pub claim : line ≡ claim p.claim
  pub begins : one ≡ length p.circuit.latches
  pub own : other ≡ p.circuit.inputs

-- of the frames that a text is found to have: all were taken where nothing is wrong with it or a fault of it is told, else some of the first
abbrev pub TakesAllBut : {K : Type 0} → Bool → RestoreFault → (ℕ → List ℕ → List ℕ) → (K → Option (List ℕ)) → (K → ℕ) → K → K → Pen → Pen → Play → Play → Found → Type 0
TakesAllBut true e put written failures start s from pen first p found = (found.fault ≡ Some e) × HasTaken put written failures start s from pen first found.frames p
TakesAllBut false e put written failures start s from pen first p found =
    (given : List (List Bool)) × (((rest : List (List Bool)) × (given ++ rest ≡ found.frames)) × HasTaken put written failures start s from pen first given p)

abbrev pub TakesAll : {K : Type 0} → Result (Unit {0}) RestoreFault → (ℕ → List ℕ → List ℕ) → (K → Option (List ℕ)) → (K → ℕ) → K → K → Pen → Pen → Play → Play → Found → Type 0
TakesAll (Ok u) put written failures start s from pen first p found = (found.fault ≡ None) × HasTaken put written failures start s from pen first found.frames p
TakesAll (Err e) put written failures start s from pen first p found = TakesAllBut (is_of_text e.why) e put written failures start s from pen first p found
