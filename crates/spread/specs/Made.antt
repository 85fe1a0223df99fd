-- What the lines of a text become before they are judged, each by the part that is open before it.
use Rattle.std.specs.Prelude.{ℕ, List, [], ◌∷◌, ◌++◌, Option, option_map}
use Rattle.base.specs.Lines.{text_of_lines, unfinished, whole_lines}
use Rattle.spread.specs.declared.spreader.Part.{Part}
use Rattle.spread.specs.declared.spreader.Part.TheVariants as part
use Rattle.spread.specs.Stands.{part_behind}

-- some lines, where a part is open before the first
abbrev pub lines_made : (Part → List ℕ → List ℕ) → Part → List (List ℕ) → List (List ℕ)
lines_made make p [] = []
lines_made make p (line ∷ lines) = make p line ∷ lines_made make (part_behind p line) lines

-- a text; the bytes behind its last line stay
abbrev pub text_made : (Part → List ℕ → List ℕ) → List ℕ → List ℕ
text_made make text = text_of_lines (lines_made make part.Outside (whole_lines text)) ++ unfinished text

-- the text of a source, where it is known
abbrev pub source_made : (Part → List ℕ → List ℕ) → Option (List ℕ) → Option (List ℕ)
source_made make source = option_map (text_made make) source
