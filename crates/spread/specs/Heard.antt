-- What is heard of a text while it is judged.
use Rattle.std.specs.Prelude.{◌≡◌, ℕ, List, [], ◌∷◌, ◌++◌, Option, IfSome}
use Rattle.base.specs.Lines.{text_of_lines, unfinished, whole_lines}
use Rattle.btor2.specs.declared.item.Item.{Item}
use Rattle.witness.specs.Texts.{Shape, shape_of}
use Rattle.witness.specs.WordStands.{WordJudge, StandsForWitness}
use Rattle.rejoin.specs.Pieces.{cut_shape}
use Rattle.spread.specs.Spread.{IsShort}
use Rattle.spread.specs.Passing.{passing_text}
use Rattle.spread.specs.Stands.{IsWideShape, Spreader, StandsFor, OfText}

-- one that stood for whole lines stands for those with a line more, where a judge stands for what goes on for them
abbrev pub HearsLine : {O H : Type 0} → (O → H → Shape → List Item → List ℕ → Type 0) → H → H → WordJudge → List ℕ → Type 0
HearsLine {O} Stands h k judge line =
    (over : O) (shape : Shape) (narrow : List Item) (text : List ℕ) → IsWideShape shape → shape_of narrow ≡ cut_shape shape → unfinished text ≡ [] → IsShort (text ++ (line ++ 10 ∷ [])) → StandsForWitness narrow judge (passing_text shape (text ++ (line ++ 10 ∷ [])))
    → Stands over h shape narrow text → Stands over k shape narrow (text ++ (line ++ 10 ∷ []))

-- where a spreader does
abbrev pub Hears : {O H : Type 0} → (O → H → Shape → List Item → List ℕ → Type 0) → H → H → Spreader → List ℕ → Type 0
Hears {O} Stands h k after line =
    (over : O) (shape : Shape) (narrow : List Item) (text : List ℕ) → IsWideShape shape → shape_of narrow ≡ cut_shape shape → unfinished text ≡ [] → IsShort (text ++ (line ++ 10 ∷ [])) → StandsFor shape narrow after (text ++ (line ++ 10 ∷ []))
    → Stands over h shape narrow text → Stands over k shape narrow (text ++ (line ++ 10 ∷ []))

-- one that stood for no lines stands for the whole lines of a source, of which a spreader took all
abbrev pub HearsAll : {O H : Type 0} → (O → H → Shape → List Item → List ℕ → Type 0) → H → H → Spreader → Option (List ℕ) → Type 0
HearsAll {O} Stands h k before source = OfText before source (λ shape narrow text. (over : O) → Stands over h shape narrow [] → Stands over k shape narrow (text_of_lines (whole_lines text)))

-- the same over a list that is fitted into a model
abbrev pub HearsText : {O H : Type 0} → (O → H → Shape → List Item → List ℕ → Type 0) → H → H → List Item → List Item → Option (List ℕ) → Type 0
HearsText {O} Stands h k wide narrow source = IfSome source (λ text. IsShort text → (over : O) → Stands over h (shape_of wide) narrow [] → Stands over k (shape_of wide) narrow (text_of_lines (whole_lines text)))
