-- What is given to the judge of the fitted model, what of it is written, and what a spreader holds and stands for.
use Rattle.std.specs.Prelude.{◌≡◌, ℕ, zero, suc, ◌+◌, ◌-◌, ◌<◌, ◌≤◌, ◌^◌, Bool, false, List, [], ◌∷◌, ◌++◌, Option, Some, None, Result, is_some, decimal, flat_map, IfSome, OnOk, OnErr, length, take, drop, ◌==◌, if◌then◌else◌}
use Rattle.std.specs.List.{AllByRecursion}
use Rattle.std.specs.Io.KnownBytes.{Appends}
use Rattle.base.specs.declared.pen.Pen.{Pen}
use Rattle.base.specs.Lines.{IsLine, text_of_lines, unfinished}
use Rattle.base.specs.Writing.{WritesText}
use Rattle.base.specs.Device.{BeginsWith, AppendsBeginning}
use Rattle.btor2.specs.declared.item.Item.{Item}
use Rattle.witness.specs.declared.why.Why.{Why}
use Rattle.witness.specs.Texts.{Shape, shape_of}
use Rattle.witness.specs.Readings.{Reading, next_line}
use Rattle.witness.specs.Admits.{Place, InStates, InFrame, Read, assignment_at, begins_part, word_reader}
use Rattle.witness.specs.ClosedWords.{word_reading}
use Rattle.witness.specs.declared.judgement.Judgement.{Judgement}
use Rattle.witness.specs.Judgements.{Judges}
use Rattle.witness.specs.WordStands.{WordJudge, StandsForWitness}
use Rattle.spread.specs.declared.spreader.Part.{Part}
use Rattle.spread.specs.declared.spreader.Part.TheVariants as part
use Rattle.rejoin.specs.Pieces.{cut_width, cut_shape}
use Rattle.wide.specs.WideModels.{greatest_width}
use Rattle.spread.specs.Spread.{lines_by, IsShort, spread_text}
use Rattle.spread.specs.Passing.{assigned_lines, passing_text, told}

-- a line, where it is not refused
abbrev pub kept : List ℕ → Option Why → List (List ℕ)
kept line None = line ∷ []
kept line (Some w) = []

-- those of some lines that are admitted
abbrev pub kept_lines : Shape → Reading Read → List (List ℕ) → List (List ℕ)
kept_lines shape g lines = lines_by shape (λ g line. kept line (next_line (word_reader shape) g line).refused) g lines

-- a judge was given these lines, and those of them that are admitted were put
pub record Gives {K : Type 0} (written : K → Option (List ℕ)) (failures : K → ℕ) (s t : K) (p q : Pen) (before after : WordJudge) (lines : List (List ℕ)) : Type 0 where
  pub out : List (List ℕ)
  pub writes : WritesText written failures s t p q (text_of_lines out)
  pub each : AllByRecursion IsLine lines
  pub takes : (items : List Item) (text : List ℕ) → StandsForWitness items before text → StandsForWitness items after (text ++ text_of_lines lines)
  pub keeps : (items : List Item) (text : List ℕ) → StandsForWitness items before text → unfinished text ≡ [] → out ≡ kept_lines (shape_of items) (word_reading (shape_of items) text) lines

-- the lines of so many pieces of a word, by its digits, the highest first; the lowest piece has this index
abbrev pub digit_lines : ℕ → ℕ → List ℕ → List (List ℕ)
digit_lines f zero digits = []
digit_lines f (suc m) digits = (decimal f ++ 32 ∷ drop (length digits - 64) digits) ∷ digit_lines (suc f) m (take (length digits - 64) digits)

-- ---- a spreader

-- the part that is open behind an admitted line
abbrev pub part_behind : Part → List ℕ → Part
part_behind p [] = p
part_behind p (b ∷ bs) = if b == 35 then part.States else (if b == 64 then part.Inputs else (if b == 46 then part.Outside else p))

-- the part that is open at a place
abbrev pub part_at : Place → Part
part_at InStates = part.States
part_at InFrame = part.Inputs
part_at _ = part.Outside

-- the lines that go on for a line where this part is open
abbrev pub passing_in_open : List ℕ → List ℕ → Part → List ℕ → List (List ℕ)
passing_in_open states inputs part.Outside line = line ∷ []
passing_in_open states inputs part.States line = assigned_lines states line (assignment_at states [] line)
passing_in_open states inputs part.Inputs line = assigned_lines inputs line (assignment_at inputs [] line)

-- and where the line may open another part or end the text
abbrev pub passing_in_part : List ℕ → List ℕ → Part → List ℕ → List (List ℕ)
passing_in_part states inputs p line = if begins_part line then line ∷ [] else passing_in_open states inputs p line

-- the judge of the fitted model, the widths of the states and of the inputs, the open part, how many lines are admitted, and whether one was refused
pub record Spreader : Type 0 where
  pub judge : WordJudge
  pub states : List ℕ
  pub inputs : List ℕ
  pub part : Part
  pub admitted : ℕ
  pub refused : Bool

-- What is known of the shape of a model with words of any width: a word has a bit and no more than a model may have, each state is free or not, and all pieces can
-- be counted.
pub record IsWideShape (shape : Shape) : Type 0 where
  pub states : AllByRecursion (λ n. (0 < n) × (n ≤ greatest_width)) shape.states
  pub inputs : AllByRecursion (λ n. (0 < n) × (n ≤ greatest_width)) shape.inputs
  pub free : length shape.free ≡ length shape.states
  pub bads : shape.bads < 2 ^ 64
  pub few_states : length (flat_map cut_width shape.states) < 2 ^ 64
  pub few_inputs : length (flat_map cut_width shape.inputs) < 2 ^ 64

-- it stands for whole lines over a model of this shape, which is fitted into this one
pub record StandsFor (shape : Shape) (narrow : List Item) (s : Spreader) (text : List ℕ) : Type 0 where
  pub judge : StandsForWitness narrow s.judge (passing_text shape text)
  pub states : s.states ≡ shape.states
  pub inputs : s.inputs ≡ shape.inputs
  pub admitted : s.admitted ≡ (word_reading shape text).admitted
  pub refused : s.refused ≡ is_some (word_reading shape text).refused
  pub part : s.refused ≡ false → s.part ≡ part_at (word_reading shape text).read.place
  pub ended : unfinished text ≡ []

-- It takes a line, and puts what the line adds to the spread text.
pub record Takes {K : Type 0} (written : K → Option (List ℕ)) (failures : K → ℕ) (s t : K) (p q : Pen) (before after : Spreader) (line : List ℕ) : Type 0 where
  pub out : List ℕ
  pub writes : WritesText written failures s t p q out
  pub takes :
      (shape : Shape) (narrow : List Item) (text : List ℕ) → IsWideShape shape → shape_of narrow ≡ cut_shape shape → IsShort (text ++ (line ++ 10 ∷ [])) → StandsFor shape narrow before text
      → StandsFor shape narrow after (text ++ (line ++ 10 ∷ [])) × (spread_text shape (text ++ (line ++ 10 ∷ [])) ≡ spread_text shape text ++ out)

-- it stands for a whole text
pub record EndsFor (shape : Shape) (narrow : List Item) (s : Spreader) (text : List ℕ) : Type 0 where
  pub judge : StandsForWitness narrow s.judge (passing_text shape text ++ unfinished text)
  pub states : s.states ≡ shape.states
  pub admitted : s.admitted ≡ (word_reading shape text).admitted

-- it tells of a text what is judged of what went on for it
pub record TellsOf (shape : Shape) (narrow : List Item) (text : List ℕ) (j : Judgement) : Type 0 where
  pub passed : Judgement
  pub judged : Judges narrow (passing_text shape text ++ unfinished text) passed
  pub is : j ≡ told shape ((word_reading shape text).admitted + 1) passed

-- ---- a whole source

-- What holds of the text of a source, where it is short and a spreader that stands for nothing takes it, over any model of a shape and the one that it is fitted into.
abbrev pub OfText : Spreader → Option (List ℕ) → (Shape → List Item → List ℕ → Type 0) → Type 0
OfText before source Holds =
    (shape : Shape) (narrow : List Item) → IsWideShape shape → shape_of narrow ≡ cut_shape shape → StandsFor shape narrow before [] → IfSome source (λ text. IsShort text → Holds shape narrow text)

-- behind all lines of a source whose bytes are known it stands for the text, and the spread text was put; at a fault a beginning of that
pub record TakesAll {K E : Type 0} (r : Result Unit E) (written : K → Option (List ℕ)) (failures : K → ℕ) (s t : K) (p q : Pen) (before after : Spreader) (source : Option (List ℕ)) : Type 0 where
  pub out : List ℕ
  pub writes : WritesText written failures s t p q out
  pub ends : OnOk r (OfText before source (λ shape narrow text. EndsFor shape narrow after text × (out ≡ spread_text shape text)))
  pub stops : OnErr r (OfText before source (λ shape narrow text. BeginsWith (spread_text shape text) out))

-- the same where what is put is written
pub record WritesAll {K E : Type 0} (r : Result Unit E) (written : K → Option (List ℕ)) (s t : K) (before after : Spreader) (source : Option (List ℕ)) : Type 0 where
  pub ends : OnOk r (OfText before source (λ shape narrow text. EndsFor shape narrow after text × Appends (written s) (written t) (spread_text shape text)))
  pub stops : OnErr r (OfText before source (λ shape narrow text. AppendsBeginning (written s) (written t) (spread_text shape text)))
