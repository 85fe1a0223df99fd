-- Runs of a model ("Btor2, BtorMC and Boolector 3.0", semantics of sequential models), as a relation of frames: a frame gives each node a word.
-- What a line leaves open is any word: that of an input in each frame, that of a state without an init line in the first frame,
-- and that of a state without a next line in each later one.
use Rattle.std.specs.Prelude.{◌≡◌, ℕ, ◌<◌, ◌^◌, Bool, true, List, [], ◌∷◌, Option, Some, None, IfSome, is_some, unwrap_or, slice_get, map, ◌==◌, if◌then◌else◌}
use Rattle.std.specs.List.{AllByRecursion}
use Rattle.base.specs.declared.operators.Unary.TheVariants as unary
use Rattle.base.specs.Operator.{unary_value, binary_value, ite_value, slice_value, uext_value, sext_value, concat_value}
use Rattle.base.specs.Shown.{Shown, rises_within}
use Rattle.btor2.specs.declared.item.Body.{Body}
use Rattle.btor2.specs.declared.item.Body.TheVariants as body
use Rattle.btor2.specs.Items.{constant_word, is_bad, is_constraint}
use Rattle.btor2.specs.Trace.{Frame}
use Rattle.full.specs.Lines.{Operand, Says, form, array_sort, read, write, FullLine, operands_of, full_nodes, Sort, words, arrays, sort_of_node, width_of, AtInit, AtNext}
use Rattle.full.specs.Cells.{read_value, write_value, repeat_value}

-- ---- words of lines

-- the word that a form gives a node of a width, by the widths and words of its operands from left to right; a leaf has none
abbrev pub word_by : ℕ → (ℕ → ℕ) → (ℕ → ℕ) → Body → Option ℕ
word_by n width word (body.Uext s a by) = Some (uext_value (word 0))
word_by n width word (body.Sext s a by) = Some (sext_value (width 0) (word 0) by)
word_by n width word (body.Slice s a u l) = Some (slice_value (word 0) u l)
word_by n width word (body.Unary op s a) = Some (unary_value op (width 0) (word 0))
word_by n width word (body.Binary op s a b) = Some (binary_value op (width 0) (word 0) (word 1))
word_by n width word (body.Concat s a b) = Some (concat_value (word 0) (width 1) (word 1))
word_by n width word (body.Ite s c t e) = Some (ite_value (word 0) (word 1) (word 2))
word_by n width word b = constant_word n b

-- the word of an operand: a minus inverts each bit
abbrev pub operand_word : List FullLine → Frame → Operand → ℕ
operand_word lines f o = if o.minus then unary_value unary.Not (width_of lines o.id) (f o.id) else f o.id

-- what stands at a place, and 0 beyond
abbrev pub at_place : List ℕ → ℕ → ℕ
at_place list k = unwrap_or (slice_get list k) 0

-- the widths of a line's operands, and their words in a frame, by place
abbrev pub widths_by_place : List FullLine → Says → ℕ → ℕ
widths_by_place lines b k = at_place (map (λ (o : Operand). width_of lines o.id) (operands_of b)) k

abbrev pub words_by_place : List FullLine → Frame → Says → ℕ → ℕ
words_by_place lines f b k = at_place (map (operand_word lines f) (operands_of b)) k

-- the word that a line gives its node, which has an id, in a frame: that of its form; the word of the array's cell that the index says; the array with a word there
abbrev pub word_of_line : List FullLine → Frame → ℕ → Says → Option ℕ
word_of_line lines f id (form b minuses) = word_by (width_of lines id) (widths_by_place lines (form b minuses)) (words_by_place lines f (form b minuses)) b
word_of_line lines f id (array_sort index element) = None
word_of_line lines f id (read s array index) = Some (read_value (width_of lines id) (f array) (operand_word lines f index))
word_of_line lines f id (write s array index word) = Some (write_value (width_of lines word.id) (f array) (operand_word lines f index) (operand_word lines f word))

-- ---- frames

-- what a line says of a frame: a leaf has a word of its width, any other node the word that the line gives it
abbrev pub LineSays : List FullLine → Frame → ℕ → Says → Type 0
LineSays lines f id (form (body.Input s) minuses) = f id < 2 ^ width_of lines id
LineSays lines f id (form (body.State s) minuses) = f id < 2 ^ width_of lines id
LineSays lines f id b = IfSome (word_of_line lines f id b) (λ w. f id ≡ w)

-- a leaf has a word of its width
abbrev pub LeafFits : List FullLine → Frame → ℕ → Says → Type 0
LeafFits lines f id (form (body.Input s) minuses) = f id < 2 ^ width_of lines id
LeafFits lines f id (form (body.State s) minuses) = f id < 2 ^ width_of lines id
LeafFits lines f id _ = Unit {0}

-- two frames have the same word at a leaf
abbrev pub LeafSame : Frame → Frame → ℕ → Says → Type 0
LeafSame f g id (form (body.Input s) minuses) = f id ≡ g id
LeafSame f g id (form (body.State s) minuses) = f id ≡ g id
LeafSame f g id _ = Unit {0}

-- a frame: each line holds
abbrev pub IsFullFrame : List FullLine → Frame → Type 0
IsFullFrame lines f = AllByRecursion (λ (x : FullLine). LineSays lines f x.id x.says) lines

-- two frames have one word at each node
abbrev pub SameAtNodes : List FullLine → Frame → Frame → Type 0
SameAtNodes lines f g = (id : ℕ) → is_some (sort_of_node lines id) ≡ true → f id ≡ g id

-- ---- runs

-- a word as one of a sort: of a sort of arrays, a word of an element stands in each cell
abbrev pub in_each_cell : Option Sort → Option Sort → ℕ → ℕ
in_each_cell (Some (arrays k n)) (Some (words m)) v = repeat_value n (2 ^ k) v
in_each_cell s t v = v

-- the word of an init's value as one of its state's sort
abbrev pub first_word : List FullLine → Frame → ℕ → Operand → ℕ
first_word lines f t o = in_each_cell (sort_of_node lines t) (sort_of_node lines o.id) (operand_word lines f o)

-- a frame may be the first: the state of each init line has the word of the line's value in this very frame
abbrev pub Begins : List FullLine → Frame → Type 0
Begins lines f = AllByRecursion (λ (x : FullLine). AtInit (λ t o. f t ≡ first_word lines f t o) x.says) lines

-- a frame may stand behind another: the state of each next line has the word that the line's value has in the frame before
abbrev pub Follows : List FullLine → Frame → Frame → Type 0
Follows lines f g = AllByRecursion (λ (x : FullLine). AtNext (λ t o. g t ≡ operand_word lines f o) x.says) lines

-- frames that follow each other, the first a given one
abbrev pub FollowEach : List FullLine → Frame → List Frame → Type 0
FollowEach lines f [] = Unit {0}
FollowEach lines f (g ∷ more) = Follows lines f g × FollowEach lines g more

-- a run of a model
abbrev pub IsRun : List FullLine → List Frame → Type 0
IsRun lines [] = Unit {0}
IsRun lines (f ∷ more) = AllByRecursion (IsFullFrame lines) (f ∷ more) × Begins lines f × FollowEach lines f more

-- ---- what rises

-- of the properties of a kind, which are 1 in a frame, and what a frame shows
abbrev pub full_values : (Body → Bool) → List FullLine → Frame → List Bool
full_values kind lines f = map (λ (o : Operand). operand_word lines f o == 1) (full_nodes kind lines)

abbrev pub full_shows : List FullLine → Frame → Shown
full_shows lines f = record { bads = full_values is_bad lines f; constraints = full_values is_constraint lines f }

-- a bad property can rise: it does so in a run, in a frame up to which all constraints hold
pub record CanRiseFull (lines : List FullLine) (b : ℕ) : Type 0 where
  pub frames : List Frame
  pub run : IsRun lines frames
  pub rises : rises_within b (map (full_shows lines) frames) ≡ true
