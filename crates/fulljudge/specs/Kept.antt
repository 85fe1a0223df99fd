-- What is kept of the sorts of a model's states, or of its inputs.
use Rattle.std.specs.Prelude.{◌≡◌, ℕ, ◌+◌, ◌<◌, ◌^◌, Bool, List, [], ◌∷◌, length, map, flat_map, filter}
use Rattle.btor2.specs.declared.item.Body.{Body}
use Rattle.btor2.specs.Items.{is_input, is_state}
use Rattle.full.specs.Lines.{FullLine, Sort, is_form}
use Rattle.fullmodel.specs.Lines.{sort_value}
use Rattle.fulljudge.specs.declared.values.Kind.{Kind}
use Rattle.fulljudge.specs.declared.values.Kind.TheVariants as kind
use Rattle.fulljudge.specs.declared.values.Value.{Value}
use Rattle.fulljudge.specs.Shapes.{Leaf, leaf_of, word_count, word_widths}

-- a value's sort
abbrev pub sort_kept : Value → Sort
sort_kept v = sort_value v.sort

-- how many words there are by which values of these sorts are told
abbrev pub words_in : List Sort → ℕ
words_in sorts = length (flat_map word_widths sorts)

-- the first word of each stands behind those of the values before it, of which so many words stand before these
abbrev pub StandFrom : ℕ → List Value → Type 0
StandFrom n [] = Unit {0}
StandFrom n (v ∷ vs) = (v.first ≡ n) × StandFrom (n + word_count (sort_kept v)) vs

-- what is kept of values: where the words of each stand, and how many there are of all, which can be counted
pub record AreKept (list : List Value) (count : ℕ) : Type 0 where
  pub stand : StandFrom 0 list
  pub all : count ≡ words_in (map sort_kept list)
  pub few : count < 2 ^ 64

-- whether a form is of a kind
abbrev pub kind_of : Kind → Body → Bool
kind_of kind.States = is_state
kind_of kind.Inputs = is_input

-- the sorts of the states, or of the inputs, among some lines of a model
abbrev pub sorts_among : List FullLine → (Body → Bool) → List FullLine → List Sort
sorts_among full kind lines = map (λ (l : Leaf). l.sort) (map (leaf_of full) (filter (λ (x : FullLine). is_form kind x.says) lines))
