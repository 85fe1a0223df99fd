-- What a waver holds, and which texts it stands for.
use Rattle.std.specs.Prelude.{◌≡◌, ℕ, ◌≤◌, Bool, true, not, ◌&&◌, ◌||◌, ◌==◌, List, [], ◌∷◌, ◌++◌, Option, Some, None, Result, Ok, Err, filter, flat_map, length, map, take, unwrap_or, if◌then◌else◌}
use Rattle.std.specs.Io.KnownBytes.{Consumes}
use Rattle.std.specs.List.{last_or, list_any}
use Rattle.std.specs.Str.{bytes_eq}
use Rattle.base.specs.declared.device.DeviceFault.{DeviceFault}
use Rattle.base.specs.declared.pen.Pen.{Pen}
use Rattle.base.specs.Device.{HasRisen}
use Rattle.base.specs.Writing.{WritesText}
use Rattle.btor2.specs.declared.item.Item.{Item}
use Rattle.btor2.specs.Items.{position_of}
use Rattle.btor2.specs.Check.{IsWellFormed}
use Rattle.btor2.specs.Trace.{Frame}
use Rattle.witness.specs.WordStands.{WordJudge, StandsForWitness}
use Rattle.witness.specs.ClosedWords.{IsClosedTrace, said_in, is_behind_frame, word_at}
use Rattle.vcd.specs.declared.fault.WaveFault.{WaveFault}
use Rattle.vcd.specs.declared.fault.WaveFault.TheVariants as fault
use Rattle.vcd.specs.declared.scope.Scope.{Scope}
use Rattle.vcd.specs.declared.scope.Shown.{Shown}
use Rattle.vcd.specs.declared.signals.Signal.{Signal}
use Rattle.vcd.specs.Names.{code, stem_by}
use Rattle.vcd.specs.Signals.{is_in, scopes, shown_node, signals, signals_before, is_told_apart, signal_width, signal_word}
use Rattle.vcd.specs.Dumps.{value, frames_text}

-- ---- what is put

-- a text was put, of which this is said
pub record WritesSome {K : Type 0} (written : K → Option (List ℕ)) (failures : K → ℕ) (s t : K) (p q : Pen) (says : List ℕ → Type 0) : Type 0 where
  pub put : List ℕ
  pub writes : WritesText written failures s t p q put
  pub is : says put

-- ---- names

-- what names a signal of a scope, behind what stands before all names of the scope
abbrev pub stem_in : Shown → List Item → Scope → Item → List ℕ
stem_in s items c x = stem_by c (length (signals_before s items c x)) x.id x.symbol

-- the signals of a scope so far: what names them, each once, and how many they are
pub record Seen : Type 0 where
  pub names : List (List ℕ)
  pub number : ℕ

-- they are the signals of a scope before a place
pub record HasSeen (s : Shown) (items : List Item) (c : Scope) (place : ℕ) (seen : Seen) : Type 0 where
  pub named : (name : List ℕ) → list_any (bytes_eq name) seen.names ≡ list_any (λ y. bytes_eq name (stem_in s items c y)) (filter (is_in s c) (take place items))
  pub counted : seen.number ≡ length (filter (is_in s c) (take place items))
  pub few : seen.number ≤ place

-- a line is a signal of a scope that is told apart, and so for each line, scope by scope
abbrev pub is_marked_signal : Shown → List Item → Scope → Item → Bool
is_marked_signal s items c x = is_in s c x && is_told_apart s items c x

abbrev pub scope_marks : Shown → List Item → Scope → List Bool
scope_marks s items c = map (is_marked_signal s items c) items

abbrev pub marks : Shown → List Item → List Bool
marks s items = flat_map (scope_marks s items) scopes

-- ---- signals

-- the place of the node that a line shows
abbrev pub node_place : List Item → Item → ℕ
node_place items x = unwrap_or (position_of items (shown_node x)) 0

-- a signal before any frame
abbrev pub signal_of : List Item → Item → Signal
signal_of items x = record { id = x.id; node = node_place items x; width = signal_width items x; word = 0 }

-- the word that is kept of a signal: that of the frame that was closed last, where there is one
abbrev pub kept_word : Option Frame → Item → ℕ
kept_word None x = 0
kept_word (Some f) x = signal_word f x

abbrev pub kept_values : List Item → Option Frame → Item → Signal
kept_values items before x = record { id = x.id; node = node_place items x; width = signal_width items x; word = kept_word before x }

-- a signal with another word, and the line that is put for it: where it is the first, or is another than the kept one
abbrev pub with_word : (ℕ → ℕ) → Signal → Signal
with_word words s = record s { word = words s.node }

abbrev pub change : Bool → Signal → ℕ → List ℕ
change first s word = if first || not (s.word == word) then value s.width word ++ (code s.id ++ 10 ∷ []) else []

abbrev pub changes : Bool → (ℕ → ℕ) → List Signal → List ℕ
changes first words list = flat_map (λ s. change first s (words s.node)) list

-- ---- the judge

-- a judge that has just been given the line that closed this frame
pub record Shows (j : WordJudge) (items : List Item) (f : Frame) : Type 0 where
  pub text : List ℕ
  pub frames : List Frame
  pub stands : StandsForWitness items j text
  pub trace : IsClosedTrace items text frames
  pub behind : is_behind_frame (said_in items text) ≡ true
  pub last : last_or None frames ≡ Some f

-- the word that it tells of the node at a place, or 0
abbrev pub told_word : List Item → Frame → ℕ → ℕ
told_word items f node = unwrap_or (word_at items f node) 0

-- ---- the waver

pub record Waver : Type 0 where
  pub judge : WordJudge
  pub signals : List Signal

-- it stands for this text over a model, of which it shows these nodes, and this was put of the frames
pub record Waves (s : Shown) (items : List Item) (w : Waver) (text put : List ℕ) : Type 0 where
  pub well_formed : IsWellFormed items
  pub judge : StandsForWitness items w.judge text
  pub signals : (fs : List Frame) → IsClosedTrace items text fs → w.signals ≡ map (kept_values items (last_or None fs)) (signals s items)
  pub frames : (fs : List Frame) → IsClosedTrace items text fs → put ≡ frames_text s items fs

-- a call that takes bytes behind the text puts the changes of the frames that they close
pub record Takes {K : Type 0} (written : K → Option (List ℕ)) (failures : K → ℕ) (s t : K) (p q : Pen) (before after : Waver) (bytes : List ℕ) : Type 0 where
  pub put : List ℕ
  pub writes : WritesText written failures s t p q put
  pub waves : (shown : Shown) (items : List Item) (text so_far : List ℕ) → Waves shown items before text so_far → Waves shown items after (text ++ bytes) (so_far ++ put)

-- a front of what a source had to come was taken
pub record TakesFront {K : Type 0} (written : K → Option (List ℕ)) (failures : K → ℕ) (s t : K) (p q : Pen) (before after : Waver) (source source' : Option (List ℕ)) : Type 0 where
  pub front : List ℕ
  pub consumes : Consumes source source' front
  pub takes : Takes written failures s t p q before after front

-- why reading stopped: the sink has failed; or it has not, and the source has, or is at its end
abbrev pub Stops : Result Unit WaveFault → Result Unit DeviceFault → ℕ → ℕ → Type 0
Stops (Err fault.Write) (Err e) old new = new ≡ old
Stops (Err fault.Read) (Ok x) old new = HasRisen old new
Stops (Ok y) (Ok x) old new = new ≡ old
Stops _ _ _ _ = ⊥
