-- Words of a witness over a list with words of any width, and words of one over the model of the profile that it is fitted into, that say the same.
use Rattle.std.specs.Prelude.{◌≡◌}
use Rattle.std.specs.List.{AllByRecursion, AllZip}
use Rattle.std.specs.Prelude.{List}
use Rattle.btor2.specs.declared.item.Item.{Item}
use Rattle.btor2.specs.Trace.{IsInput, IsState}
use Rattle.fit.specs.Fitting.{Layout, joined, given_ids, carried_ids}
use Rattle.witness.specs.Judgements.{Words, FrameWords, initial_words, given_words}

-- of one frame: the words that are given over the fitted model fit it, and make those that are given over the list
pub record FrameAlike (wide : List Item) (layout : Layout) (narrow : List Item) (f g : FrameWords) : Type 0 where
  pub fits : IsInput narrow (given_words narrow g)
  pub makes : AllByRecursion (λ id. joined narrow layout (given_words narrow g) id ≡ given_words wide f id) (given_ids wide)

-- of all: the same claims, as many frames, and initial words that make those over the list
pub record AreAlike (wide : List Item) (layout : Layout) (narrow : List Item) (w v : Words) : Type 0 where
  pub claims : v.claims ≡ w.claims
  pub fits : IsState narrow (initial_words narrow v)
  pub makes : AllByRecursion (λ id. joined narrow layout (initial_words narrow v) id ≡ initial_words wide w id) (carried_ids wide)
  pub frames : AllZip (FrameAlike wide layout narrow) w.frames v.frames
