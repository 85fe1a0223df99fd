-- The value change dump of a model's frames (IEEE 1364, "Value change dump (VCD) files"): declarations, and then for each frame the words that changed. The scopes, the
-- time unit, and that a frame takes one unit are this project's.
use Rattle.std.specs.Prelude.{ℕ, suc, ◌-◌, Bool, true, not, ◌==◌, List, [], ◌∷◌, ◌++◌, Option, Some, None, codes, decimal, map, filter, flat_map, length, if◌then◌else◌}
use Rattle.base.specs.Lines.{text_of_lines}
use Rattle.btor2.specs.declared.item.Item.{Item}
use Rattle.btor2.specs.Trace.{Frame}
use Rattle.witness.specs.Texts.{binary}
use Rattle.vcd.specs.declared.scope.Scope.{Scope}
use Rattle.vcd.specs.declared.scope.Shown.{Shown}
use Rattle.vcd.specs.Names.{code, title_bytes}
use Rattle.vcd.specs.Signals.{scope_name, scopes, signals_in, signals, signal_name, signal_width, signal_word}

-- ---- declarations

-- the places of a word of several bits
abbrev pub range : ℕ → List ℕ
range width = if width == 1 then [] else codes " [" ++ (decimal (width - 1) ++ codes ":0]")

-- `$var wire <width> <code> <name> $end`, with the places behind the name
abbrev pub var_line : Shown → List Item → Scope → Item → List ℕ
var_line s items c x =
    codes "$var wire " ++ (decimal (signal_width items x) ++ 32 ∷ (code x.id ++ 32 ∷ (signal_name s items c x ++ (range (signal_width items x) ++ codes " $end"))))

abbrev pub scope_lines : Shown → List Item → Scope → List (List ℕ)
scope_lines s items c =
    (codes "$scope module " ++ (scope_name c ++ codes " $end")) ∷ (map (var_line s items c) (signals_in s items c) ++ codes "$upscope $end" ∷ [])

abbrev pub declaration_lines : Shown → List ℕ → List Item → List (List ℕ)
declaration_lines s title items =
    (codes "$comment " ++ (title_bytes title ++ codes " $end"))
    ∷ codes "$timescale 1 ns $end"
    ∷ (flat_map (scope_lines s items) scopes ++ codes "$enddefinitions $end" ∷ [])

-- ---- frames

-- a moment, `#` and its number
abbrev pub moment : ℕ → List ℕ
moment k = 35 ∷ decimal k

-- the word of a signal: its digit, or `b` and its digits, the highest first, with a blank behind them; and the identifier code
abbrev pub value : ℕ → ℕ → List ℕ
value width word = if width == 1 then binary width word else 98 ∷ (binary width word ++ 32 ∷ [])

abbrev pub value_line : List Item → Frame → Item → List ℕ
value_line items f x = value (signal_width items x) (signal_word f x) ++ code x.id

-- a signal's word is another than in the frame before, where there is one
abbrev pub has_changed : Option Frame → Frame → Item → Bool
has_changed None f x = true
has_changed (Some before) f x = not (signal_word before x == signal_word f x)

-- a frame behind another, or the first: its moment, and the words of the signals that changed
abbrev pub frame_changes : List Item → List Item → ℕ → Option Frame → Frame → List (List ℕ)
frame_changes items shown k before f = moment k ∷ map (value_line items f) (filter (has_changed before f) shown)

-- the frames from number k on
abbrev pub frames_lines : List Item → List Item → ℕ → Option Frame → List Frame → List (List ℕ)
frames_lines items shown k before [] = []
frames_lines items shown k before (f ∷ fs) = frame_changes items shown k before f ++ frames_lines items shown (suc k) (Some f) fs

-- the moment behind the last frame, so that it is seen
abbrev pub end_lines : List Frame → List (List ℕ)
end_lines [] = []
end_lines (f ∷ fs) = moment (length (f ∷ fs)) ∷ []

-- ---- a whole dump

-- what stands of these frames before that
abbrev pub frames_text : Shown → List Item → List Frame → List ℕ
frames_text s items fs = text_of_lines (frames_lines items (signals s items) 0 None fs)

-- the dump of these frames
unfoldable pub vcd_text : Shown → List ℕ → List Item → List Frame → List ℕ
vcd_text s title items fs = text_of_lines (declaration_lines s title items) ++ (frames_text s items fs ++ text_of_lines (end_lines fs))
