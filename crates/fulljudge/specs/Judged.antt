-- By what a witness of a model is judged.
use Rattle.std.specs.Prelude.{◌≡◌, List, ◌++◌, length}
use Rattle.std.specs.List.{AllZip}
use Rattle.btor2.specs.declared.item.Item.{Item}
use Rattle.fit.specs.Fitting.{Layout}
use Rattle.celled.specs.Whole.{HasStateNodes}
use Rattle.fitting.specs.Laid.{IsLaid}
use Rattle.fitting.specs.Models.{IsFit}
use Rattle.full.specs.Lines.{FullLine, Sort}
use Rattle.full.specs.WrittenOut.{Places, IsWrittenOut}
use Rattle.witness.specs.Texts.{Shape, shape_of}
use Rattle.spread.specs.Answers.{IsOfFitted}
use Rattle.fulljudge.specs.Shapes.{full_shape}
use Rattle.fulljudge.specs.Kept.{words_in}
use Rattle.fulljudge.specs.Cells.{HasWordsOf}
use Rattle.fulljudge.specs.Compared.{StateWords}

-- How many words there are by which the states of a model are told is how many states a list has: none is 1 in the first frame alone.
abbrev pub HasNoFirst : List FullLine → List Item → Type 0
HasNoFirst full celled = length (shape_of celled).states ≡ words_in (full_shape full).states

-- The nodes with the words of the states' leaves, and those with the states' words, are nodes of the list in which each word has a leaf, and their pieces stand at these
-- places of the model that this is fitted into.
pub record HasStateWords (full : List FullLine) (p : Places) (wide : List Item) (layout : Layout) (celled narrow : List Item) (fit : IsFit celled narrow) (w : StateWords) : Type 0 where
  pub state_nodes : HasStateNodes full p wide layout celled w.leaves w.nodes
  pub places : AllZip (IsLaid celled narrow fit.layout) (w.leaves ++ w.nodes) w.places

-- These are the sorts of a model's states and of its inputs, and where the words of the states stand. The model is written out as a list, which is fitted into one in
-- which each word by which a value is told has a leaf. That is of this shape, and fitted into a model.
pub record IsJudgeable (states inputs : List Sort) (w : StateWords) (shape : Shape) (narrow : List Item) (full : List FullLine) (p : Places) (wide : List Item) (layout : Layout) (celled : List Item) : Type 0 where
  pub is_states : states ≡ (full_shape full).states
  pub is_inputs : inputs ≡ (full_shape full).inputs
  pub written : IsWrittenOut full p wide
  pub words : HasWordsOf full p wide layout celled
  pub fitted : IsOfFitted shape narrow celled
  pub state_words : HasStateWords full p wide layout celled narrow fitted.fit w
