-- What a step of a reader of frames does: what is left of a text's reading before it is the frame that it gives and what is left behind it.
use Rattle.std.specs.Prelude.{◌≡◌, ◌≢◌, ℕ, suc, Bool, true, false, List, [], ◌∷◌, length, Option, None, Some, Result, Ok, Err, IfSome, if◌then◌else◌, ◌⊎◌}
use Rattle.std.specs.Io.KnownBytes.{IsAtEnd}
use Rattle.base.specs.Device.{HasRisen}
use Rattle.base.specs.Held.{lines_left}
use Rattle.base.specs.declared.sources.ReadAllFault.{ReadAllFault}
use Rattle.base.specs.declared.sources.ReadAllFault.TheVariants as all
use Rattle.restore.specs.declared.fault.RestoreFault.{RestoreFault}
use Rattle.restore.specs.declared.fault.RestoreWhy.{RestoreWhy}
use Rattle.restore.specs.declared.fault.RestoreWhy.TheVariants as why
use Rattle.restore.specs.declared.place.Place.{Place}
use Rattle.restore.specs.declared.place.Place.TheVariants as place
use Rattle.base.specs.Lines.{line_of, all_lines}
use Rattle.restore.specs.Reading.{before_mark, line_bits, Found, whole, faulty, read_before, read_frames, read_some, read_found_lines}

-- a reader of frames: the frame that was found last, which has as many bits as each frame; where it is; and the bytes that were read of what follows
pub record FramesReader : Type 0 where
  pub frame : List Bool
  pub place : Place
  pub rest : List ℕ

-- a line may follow
abbrev pub may_follow : Place → Bool
may_follow place.Start = true
may_follow place.First = true
may_follow (place.Going number) = true
may_follow place.Ended = false
may_follow (place.Failed e) = false

-- a fault is that of a text: neither of its source, nor for want of memory, nor of what is written to
abbrev pub IsTextFault : RestoreFault → Type 0
IsTextFault e = (e.why ≢ why.Device) × ((e.why ≢ why.NoMemory) × (e.why ≢ why.Write))

-- a fault that was found is that of a text
abbrev pub FailsByText : Place → Type 0
FailsByText place.Start = Unit {0}
FailsByText place.First = Unit {0}
FailsByText (place.Going number) = Unit {0}
FailsByText place.Ended = Unit {0}
FailsByText (place.Failed e) = IsTextFault e

-- what lines give from a place on
abbrev pub read_at : Place → ℕ → List (List ℕ) → Found
read_at place.Start width lines = read_found_lines width lines
read_at place.First width lines = read_some width lines
read_at (place.Going number) width lines = read_frames width number lines
read_at place.Ended width lines = whole []
read_at (place.Failed e) width lines = faulty [] e

-- what a reader still gives of the bytes to come
abbrev pub frames_to_come : FramesReader → List ℕ → Found
frames_to_come r text = read_at r.place (length r.frame) (all_lines (before_mark text))

-- known bytes before a step and those behind it give the same, in these two ways
abbrev pub AgreeAsGiven : {A : Type 0} → (List ℕ → A) → (List ℕ → A) → Option (List ℕ) → Option (List ℕ) → Type 0
AgreeAsGiven f g None after = Unit {0}
AgreeAsGiven f g (Some text) None = ⊥
AgreeAsGiven f g (Some text) (Some rest) = f text ≡ g rest

-- the fault of a source that could not be read to its end
abbrev pub unread_found_fault : ReadAllFault → RestoreFault
unread_found_fault all.Device = record { line = 0; why = why.Device }
unread_found_fault all.NoMemory = record { line = 0; why = why.NoMemory }

-- it is one of these
abbrev pub IsUnread : RestoreFault → Type 0
IsUnread e = (e ≡ unread_found_fault all.Device) ⊎ (e ≡ unread_found_fault all.NoMemory)

-- what a reader gives of known bytes, where it knows any
abbrev pub GivesFound : FramesReader → Option (List ℕ) → Found → Type 0
GivesFound r known found = IfSome known (λ text. frames_to_come r text ≡ found)

-- nothing is lost: what was left is what is left now, of which the bytes to come are no part once no line may follow
abbrev pub LosesNothing : FramesReader → FramesReader → Option (List ℕ) → Option (List ℕ) → Type 0
LosesNothing old new before after = AgreeAsGiven (frames_to_come old) (frames_to_come new) before after ⊎ ((may_follow new.place ≡ false) × GivesFound old before (frames_to_come new []))

-- a step of a reader: a frame is found, and what was left is this frame and what is left now; or there is none, and none was left; or a fault is told, of the source or of the text, and nothing is lost
abbrev pub StepsOn : Result Bool RestoreFault → FramesReader → FramesReader → Option (List ℕ) → Option (List ℕ) → Type 0
StepsOn (Ok true) old new before after = AgreeAsGiven (frames_to_come old) (λ rest. read_before new.frame (frames_to_come new rest)) before after
StepsOn (Ok false) old new before after = (new.place ≡ place.Ended) × GivesFound old before (whole [])
StepsOn (Err e) old new before after = (IsUnread e ⊎ ((new.place ≡ place.Failed e) × IsTextFault e)) × LosesNothing old new before after

-- why no frame more is told: the source failed, or the fault that was found is told once all of the source was read
abbrev pub TellsNoFrame : RestoreFault → Place → Option (List ℕ) → ℕ → ℕ → Type 0
TellsNoFrame e at after old new =
    ((e ≡ unread_found_fault all.Device) × HasRisen old new) ⊎ ((at ≡ place.Failed e) × (IsTextFault e × (IsAtEnd after × (new ≡ old))))

-- at most how many frames more can be found
abbrev pub frames_left : FramesReader → ℕ → ℕ
frames_left r calls = if may_follow r.place then suc (lines_left r.rest calls) else 0

-- ---- a line at a time

-- the lines behind one, of which there are none where it is the last
abbrev pub later_lines : Bool → List (List ℕ) → List (List ℕ)
later_lines true more = []
later_lines false more = more

-- a line, and those behind it; a last line with no byte is none
abbrev pub lines_from : List ℕ → Bool → List (List ℕ) → List (List ℕ)
lines_from line true more = line_of line
lines_from line false more = line ∷ more

-- what a frame, where there is one, and what is left behind it give
abbrev pub given_by : Bool → List Bool → Found → Found
given_by true frame more = read_before frame more
given_by false frame more = more

-- a line is a frame and is written, or this is wrong with it and nothing is written
abbrev pub ReadsFrame : Result (Unit {0}) RestoreWhy → Option RestoreWhy → List ℕ → List Bool → List Bool → Type 0
ReadsFrame (Ok u) why line old new = (why ≡ None) × (new ≡ line_bits line)
ReadsFrame (Err e) why line old new = (why ≡ Some e) × (new ≡ old)

-- a line is taken off known bytes, which may be the last one
abbrev pub TakesFound : List ℕ → Bool → Option (List ℕ) → Option (List ℕ) → Type 0
TakesFound line last None after = Unit {0}
TakesFound line last (Some text) None = ⊥
TakesFound line last (Some text) (Some rest) = all_lines (before_mark text) ≡ lines_from line last (all_lines (before_mark rest))
