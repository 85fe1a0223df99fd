-- What a lifter holds, and which texts it stands for.
use Rattle.std.specs.Prelude.{◌≡◌, ℕ, ◌≤◌, Bool, List, [], ◌++◌, Option, Result, MatchResult, IfSome, if◌then◌else◌, length}
use Rattle.std.specs.Io.KnownBytes.{Appends}
use Rattle.base.specs.declared.pen.Pen.{Pen}
use Rattle.base.specs.Device.{AppendsBeginning}
use Rattle.base.specs.Lines.{unfinished}
use Rattle.base.specs.Writing.{WritesText}
use Rattle.btor2.specs.declared.item.Item.{Item}
use Rattle.aiger.specs.Circuit.{Circuit, IsCircuit}
use Rattle.rises.specs.declared.bit_noter.BitNoter.{BitNoter}
use Rattle.rises.specs.Notes.{NotesBits}
use Rattle.witness.specs.CutLines.{CutLine, cut_of}
use Rattle.lift.specs.Lifted.{lifted_with, piece}
use Rattle.lift.specs.Placed.{Pieces}

-- the model, with names or without, a judge that notes first rises where words are lifted with names, and what is kept of the line that has not ended
pub record Lifter : Type 0 where
  pub pieces : Pieces
  pub noter : BitNoter
  pub kept : CutLine

-- each line that is admitted fits
pub record HasRoom (c : Circuit) (room : ℕ) : Type 0 where
  pub claim : 21 ≤ room
  pub latches : length c.latches ≤ room
  pub inputs : c.inputs ≤ room

-- over what is lifted: with names or without, a model and a circuit
pub record Lifted : Type 0 where
  pub named : Bool
  pub items : List Item
  pub circuit : Circuit

-- it lifts with names or without over this model, and stands for this text of a witness of this circuit
pub record LiftsWith (named : Bool) (items : List Item) (c : Circuit) (l : Lifter) (text : List ℕ) : Type 0 where
  pub circuit : IsCircuit c
  pub pieces : l.pieces ≡ record { items = items; named = named }
  pub notes : NotesBits named c l.noter text
  pub kept : l.kept ≡ cut_of l.kept.room (unfinished text)
  pub room : HasRoom c l.kept.room

-- the piece of a line, where it is admitted
abbrev pub admitted_piece : Bool → Lifter → ℕ → List ℕ → List (List ℕ)
admitted_piece admitted l number line = if admitted then piece l.pieces.named l.pieces.items number line else []

-- it stands for a text, of which the lifted text was put since a pen began
pub record HasLifted {K : Type 0} (written : K → Option (List ℕ)) (failures : K → ℕ) (start s : K) (from pen : Pen) (named : Bool) (items : List Item) (c : Circuit) (l : Lifter) (text : List ℕ) : Type 0 where
  pub lifts : LiftsWith named items c l text
  pub writes : WritesText written failures start s from pen (lifted_with named items c text)

-- a call that takes bytes behind a text puts what is lifted of them
abbrev pub TakesText : {K : Type 0} → (K → Option (List ℕ)) → (K → ℕ) → K → K → Pen → Pen → Lifter → Lifter → List ℕ → Type 0
TakesText {K} written failures s t pen now before after bytes =
    (start : K) (from : Pen) (named : Bool) (items : List Item) (c : Circuit) (text : List ℕ) → HasLifted written failures start s from pen named items c before text → HasLifted written failures start t from now named items c after (text ++ bytes)

-- what a lifter that stands for nothing does with a whole source, whose bytes are known: it stands for the text, of which the lifted text was written; at a fault a beginning of that was
abbrev pub LiftsAll : {T E : Type 0} → Result T E → Option (List ℕ) → Option (List ℕ) → Option (List ℕ) → Lifter → Lifter → Type 0
LiftsAll r source old new before after =
    (named : Bool) (items : List Item) (c : Circuit) → LiftsWith named items c before []
    → IfSome source (λ text. MatchResult r (λ x. LiftsWith named items c after text × Appends old new (lifted_with named items c text)) (λ e. AppendsBeginning old new (lifted_with named items c text)))
