-- What a reader of lines keeps of a source, and what stands before the bytes that the source has still to give.
use Rattle.std.specs.Prelude.{◌≡◌, ℕ, ◌+◌, ◌*◌, Bool, true, false, List, [], ◌∷◌, ◌++◌, length, Option, Result, Ok, Err}
use Rattle.std.specs.Io.KnownBytes.{prepend_known, Keeps, Consumes, IsAtEnd}
use Rattle.base.specs.Lines.{IsLine}
use Rattle.base.specs.declared.sources.ReadAllFault.{ReadAllFault}

-- the line that was found last, and the bytes that were read behind it
pub record Held : Type 0 where
  pub line : List ℕ
  pub rest : List ℕ

-- what a step to the next line does to what is held and to the bytes that the source has to come: a line that is found
-- is taken with its byte 10 from the front of both; where there is none, what is held is all that is left and has no
-- byte 10; at a fault nothing is lost
abbrev pub Advances : Result Bool ReadAllFault → Held → Held → Option (List ℕ) → Option (List ℕ) → Type 0
Advances (Ok true) old new before after =
    IsLine new.line × Consumes (prepend_known old.rest before) (prepend_known new.rest after) (new.line ++ 10 ∷ [])
Advances (Ok false) old new before after =
    (IsLine new.rest × IsAtEnd after) × (Keeps (prepend_known old.rest before) (prepend_known new.rest after) × (new.line ≡ []))
Advances (Err e) old new before after =
    Keeps (prepend_known old.rest before) (prepend_known new.rest after) × (new.line ≡ [])

-- at most how many lines more can be found: one for each byte that is held, and one for each that the source can give in
-- the calls that it has left, 32768 in each
abbrev pub lines_left : List ℕ → ℕ → ℕ
lines_left rest calls = length rest + calls * 32768
