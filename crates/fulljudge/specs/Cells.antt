-- A list in which each word by which a value is told has a leaf of its own.
use Rattle.std.specs.Prelude.{◌≡◌, ℕ, false, ◌+◌, ◌<◌, ◌^◌, List, ◌++◌, Some, IfSome, flat_map, length, map}
use Rattle.std.specs.List.{AllByRecursion}
use Rattle.btor2.specs.declared.item.Item.{Item}
use Rattle.btor2.specs.Items.{is_input, is_state, is_free}
use Rattle.btor2.specs.Trace.{bits_of, IsInput, IsState}
use Rattle.fit.specs.Fitting.{Layout, ids_of, IsFittingOf}
use Rattle.full.specs.Lines.{FullLine}
use Rattle.full.specs.WrittenOut.{Places}
use Rattle.witness.specs.Texts.{shape_of}
use Rattle.witness.specs.Judgements.{Words, given, initial_part, initial_words, given_frames}
use Rattle.fulljudge.specs.Shapes.{Leaf, leaves_of, word_count, word_width, word_widths}
use Rattle.fulljudge.specs.Told.{ByIndex}

-- the pieces of a leaf are words of its sort
abbrev pub HasWords : Layout → List Item → (ℕ → ℕ) → Leaf → Type 0
HasWords layout celled place l = map (bits_of celled) (layout (place l.id)) ≡ word_widths l.sort

-- The list that a model is written out as is fitted into one whose inputs are the words of the model's inputs, in file order, and whose states are those of its states,
-- with more behind them, whose words are carried.
pub record HasWordsOf (full : List FullLine) (p : Places) (wide : List Item) (layout : Layout) (celled : List Item) : Type 0 where
  pub fits : IsFittingOf wide layout celled
  pub inputs : flat_map (λ (l : Leaf). layout (p.node l.id)) (leaves_of is_input full) ≡ ids_of (λ x. is_input x.body) celled
  pub more : List ℕ
  pub states : flat_map (λ (l : Leaf). layout (p.leaf l.id)) (leaves_of is_state full) ++ more ≡ ids_of (λ x. is_state x.body) celled
  pub carried : AllByRecursion (λ q. is_free celled q ≡ false) more
  pub input_words : AllByRecursion (HasWords layout celled p.node) (leaves_of is_input full)
  pub state_words : AllByRecursion (HasWords layout celled p.leaf) (leaves_of is_state full)

-- What a witness tells over such a list fits it: its words do, and those of the first states' part are words of the model's states.
pub record TellsWords (full : List FullLine) (celled : List Item) (w : Words) : Type 0 where
  pub state : IsState celled (initial_words celled w)
  pub inputs : AllByRecursion (IsInput celled) (given_frames celled w)
  pub words : ByIndex (λ i l. (c : ℕ) → c < word_count l.sort → IfSome (given (initial_part w.frames) (i + c)) (λ v. v < 2 ^ word_width l.sort)) 0 (leaves_of is_state full)
  pub few : (k v : ℕ) → given (initial_part w.frames) k ≡ Some v → k < length (flat_map (λ (l : Leaf). word_widths l.sort) (leaves_of is_state full))

-- its bad properties, states and inputs can be counted
pub record CanBeCounted (celled : List Item) : Type 0 where
  pub bads : (shape_of celled).bads < 2 ^ 64
  pub states : length (shape_of celled).states < 2 ^ 64
  pub inputs : length (shape_of celled).inputs < 2 ^ 64
