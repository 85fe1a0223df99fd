-- First rises of claims that are heard while a text is judged over a model with words of any width.
use Rattle.std.specs.Prelude.{◌≡◌, ℕ, List}
use Rattle.btor2.specs.declared.item.Item.{Item}
use Rattle.btor2.specs.Trace.{Frame}
use Rattle.rises.specs.FirstRises.{word_first_rises}
use Rattle.witness.specs.ClosedWords.{IsClosedTrace, closed_word_frames}
use Rattle.witness.specs.Texts.{Shape, shape_of}
use Rattle.spread.specs.Passing.{passing_text}
use Rattle.spread.specs.declared.rising.RiseHearer.{RiseHearer}

-- What is noted of whole lines over a list of a shape, which is fitted into a model: how many frames are closed of what goes on for them, and its first rises over that.
pub record HearsRises (h : RiseHearer) (shape : Shape) (narrow : List Item) (text : List ℕ) : Type 0 where
  pub closed : h.closed ≡ closed_word_frames (shape_of narrow) (passing_text shape text)
  pub firsts : (fs : List Frame) → IsClosedTrace narrow (passing_text shape text) fs → h.firsts ≡ word_first_rises narrow (passing_text shape text) fs
