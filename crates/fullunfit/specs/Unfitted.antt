-- The text over a model of the whole language that says what the admitted lines of a text over the model say that it is fitted into.
use Rattle.std.specs.Prelude.{◌<◌, ◌⊎◌, ℕ, suc, Bool, List, [], ◌∷◌, filter, length, option_map}
use Rattle.btor2.specs.declared.item.Item.{Item}
use Rattle.full.specs.Lines.{FullLine, Sort}
use Rattle.witness.specs.declared.judgement.Judgement.{Judgement}
use Rattle.witness.specs.declared.judgement.Judgement.TheVariants as judgement
use Rattle.witness.specs.Texts.{Assignment, Parts, Shape, Witness}
use Rattle.unfit.specs.Joined.{Fronts, Names, Lined, is_told, listed, lined}
use Rattle.unfit.specs.Unfitted.{unfit_text_with, IsOfWitness}
use Rattle.fulljudge.specs.Compared.{StateWords}
use Rattle.fulljudge.specs.Judged.{HasNoFirst}
use Rattle.fulljudge.specs.Judgements.{JudgesFull}
use Rattle.fulljudge.specs.Shapes.{full_shape}
use Rattle.fullunfit.specs.Titles.{first_fronts, word_fronts, word_symbols}

-- The lines of words tell the values of states and of inputs of these sorts, with these names, where names are asked for: of a list of this shape in which each word by
-- which a value is told has a leaf. Where the words of states stand says of which nothing is told in the first frame.
abbrev pub by_values : List Sort → List Sort → Shape → Names → Bool → StateWords → Lined
by_values states inputs shape names named w =
    lined shape (word_symbols states names.states) (word_symbols inputs names.inputs) named (listed (first_fronts states w.leaves w.nodes) (word_fronts states)) (listed (word_fronts inputs) (word_fronts inputs))

-- The text with values that says what the lines of a text say that stand before the first faulty one, or all. It is that which `unfit` makes of it over the list, but
-- that the line of each word tells its value, `i 1101` the value i itself, `i [0101] 1101` the cell 5 of the array i. What is told in the first frame of a state that
-- begins with no constant, or has an init and no next, is left out, and in all frames what is told of the state that is 1 in the first alone.
abbrev pub unfit_full_text : List Sort → List Sort → Shape → Names → Bool → StateWords → List Item → List ℕ → List ℕ
unfit_full_text states inputs shape names named w narrow text = unfit_text_with (by_values states inputs shape names named w) narrow text

-- a part without the words that are not told in frame k, and a whole witness without them
abbrev pub told_part : Fronts → ℕ → List Assignment → List Assignment
told_part fronts k list = filter (λ a. is_told fronts k a.index) list

abbrev pub told_parts : Lined → ℕ → Parts → Parts
told_parts l k parts = record { states = option_map (told_part l.states k) parts.states; inputs = told_part l.inputs k parts.inputs }

abbrev pub told_frames : Lined → ℕ → List Parts → List Parts
told_frames l k [] = []
told_frames l k (parts ∷ more) = told_parts l k parts ∷ told_frames l (suc k) more

abbrev pub told_witness : Lined → Witness → Witness
told_witness l v = record { claims = v.claims; frames = told_frames l 0 v.frames }

-- ---- judgements

-- a judgement names a state of the model, where it names one: one that names another names the state that is 1 in the first frame alone
abbrev pub NamesOwnState : List FullLine → Judgement → Type 0
NamesOwnState full (judgement.InitDiffers i) = i < length (full_shape full).states
NamesOwnState full _ = Unit {0}

-- what is judged, where that is of a witness and names a state of the model, if one, is judged of what is written over the model; a list without the state that is 1 in the
-- first frame alone has no other
abbrev pub KeepsFullJudgement : List FullLine → List Item → List ℕ → Judgement → Type 0
KeepsFullJudgement full celled written j = IsOfWitness j → HasNoFirst full celled ⊎ NamesOwnState full j → JudgesFull full written j
