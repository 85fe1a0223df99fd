-- The dumps of traces: of their fronts, and with a frame more.
use Rattle.std.proofs.Common.{◌≡◌, ℕ, suc, ◌+◌, ◌==◌, Bool, true, false, cond, not, List, [], ◌∷◌, ◌++◌, Option, Some, None, All, length, map, filter, is_none, is_some, refl, sym, ap, ap₂, ◌∙◌, append_assoc, append-nil, arith}
use Rattle.std.specs.List.{last_or}
use Rattle.std.proofs.lemmas.Bool.{ne_eqb}
use Rattle.std.proofs.lemmas.List.Concat.{flat_map-append}
use Rattle.std.proofs.lemmas.List.Elements.{All-nil, All-cons, All-head, All-tail}
use Rattle.base.specs.Lines.{text_of_lines}
use Rattle.btor2.specs.declared.item.Item.{Item}
use Rattle.btor2.specs.Items.{node_width}
use Rattle.btor2.specs.Trace.{Frame, SameFrame, SameTrace}
use Rattle.vcd.specs.declared.scope.Shown.{Shown}
use Rattle.vcd.specs.declared.signals.Signal.{Signal}
use Rattle.vcd.specs.Names.{code}
use Rattle.vcd.specs.Signals.{shown_node, signals, signal_width, signal_word}
use Rattle.vcd.specs.Dumps.{declaration_lines, moment, value, value_line, has_changed, frame_changes, frames_lines, end_lines, frames_text, vcd_text}
use Rattle.vcd.proofs.SignalLemmas.{told_at}
use Rattle.vcd.specs.Stands.{kept_values, with_word, change, changes, told_word, node_place}

-- ---- signals whose nodes have a value

abbrev pub IsThere : List Item → Item → Type 0
IsThere items x = is_some (node_width items (shown_node x)) ≡ true

-- ---- frames behind others

pub frames_append : (items shown : List Item) (k : ℕ) (before : Option Frame) (fs gs : List Frame)
    → frames_lines items shown k before (fs ++ gs) ≡ frames_lines items shown k before fs ++ frames_lines items shown (k + length fs) (last_or before fs) gs
frames_append items shown k before [] gs = ap (λ (n : ℕ). frames_lines items shown n before gs) (omega arith)
frames_append items shown k before (f ∷ fs) gs =
    let more : suc k + length fs ≡ k + suc (length fs) = omega arith in
    ap (λ (l : List (List ℕ)). frame_changes items shown k before f ++ l) (frames_append items shown (suc k) (Some f) fs gs ∙ ap (λ (n : ℕ). frames_lines items shown (suc k) (Some f) fs ++ frames_lines items shown n (last_or (Some f) fs) gs) more)
    ∙ sym (append_assoc (frame_changes items shown k before f) (frames_lines items shown (suc k) (Some f) fs) (frames_lines items shown (k + suc (length fs)) (last_or (Some f) fs) gs))

-- what a longer trace adds to its front
abbrev pub behind_text : Shown → List Item → List Frame → List Frame → List ℕ
behind_text s items fs gs = text_of_lines (frames_lines items (signals s items) (length fs) (last_or None fs) gs)

pub frames_more : (s : Shown) (items : List Item) (fs gs : List Frame) → frames_text s items (fs ++ gs) ≡ frames_text s items fs ++ behind_text s items fs gs
frames_more s items fs gs =
    let front : List (List ℕ) = frames_lines items (signals s items) 0 None fs in
    let rest : List (List ℕ) = frames_lines items (signals s items) (length fs) (last_or None fs) gs in
    ap text_of_lines (frames_append items (signals s items) 0 None fs gs ∙ ap (λ (n : ℕ). front ++ frames_lines items (signals s items) n (last_or None fs) gs) (omega arith))
    ∙ flat_map-append (λ line. line ++ 10 ∷ []) front rest

-- ---- the words of a frame

pub told_is : (items : List Item) (f : Frame) (x : Item) → IsThere items x → told_word items f (node_place items x) ≡ signal_word f x
told_is items f x there = told_at items f (shown_node x) there

line_is : (items : List Item) (f : Frame) (x : Item) → value (signal_width items x) (signal_word f x) ++ (code x.id ++ 10 ∷ []) ≡ text_of_lines (value_line items f x ∷ [])
line_is items f x =
    sym (append-nil (value_line items f x ++ 10 ∷ []) ∙ append_assoc (value (signal_width items x) (signal_word f x)) (code x.id) (10 ∷ []))

change_is : (first : Bool) (items : List Item) (before : Option Frame) (f : Frame) (x : Item) → first ≡ is_none before → IsThere items x
    → change first (kept_values items before x) (told_word items f (node_place items x)) ≡ text_of_lines (map (value_line items f) (filter (has_changed before f) (x ∷ [])))
change_is first items None f x e there =
    rw (e, told_is items f x there) (line_is items f x)
change_is first items (Some b) f x e there =
    rw (e, told_is items f x there)
    (elim (not (signal_word b x == signal_word f x)) as (λ c. cond c (value (signal_width items x) (signal_word f x) ++ (code x.id ++ 10 ∷ [])) [] ≡ text_of_lines (map (value_line items f) (cond c (x ∷ []) []))) [
      | true ↦ line_is items f x
      | false ↦ refl
    ])

pub changes_are : (first : Bool) (items : List Item) (before : Option Frame) (f : Frame) (xs : List Item) → first ≡ is_none before → All (IsThere items) xs
    → changes first (told_word items f) (map (kept_values items before) xs) ≡ text_of_lines (map (value_line items f) (filter (has_changed before f) xs))
changes_are first items before f [] e all = refl
changes_are first items before f (x ∷ xs) e all =
    ap₂ (λ (a b : List ℕ). a ++ b) (change_is first items before f x e (All-head (IsThere items) x xs all)) (changes_are first items before f xs e (All-tail (IsThere items) x xs all))
    ∙ joined (has_changed before f x)
  where
    rest : List (List ℕ)
    rest = map (value_line items f) (filter (has_changed before f) xs)

    joined : (b : Bool) → text_of_lines (map (value_line items f) (cond b (x ∷ []) [])) ++ text_of_lines rest ≡ text_of_lines (map (value_line items f) (cond b (x ∷ filter (has_changed before f) xs) (filter (has_changed before f) xs)))
    joined true = sym (flat_map-append (λ line. line ++ 10 ∷ []) (value_line items f x ∷ []) rest)
    joined false = refl

-- whether it is the first
is_last : (f : Frame) (fs : List Frame) → is_none (last_or (Some f) fs) ≡ false
is_last f [] = refl
is_last f (g ∷ fs) = is_last g fs

first_is : (fs : List Frame) → (length fs == 0) ≡ is_none (last_or None fs)
first_is [] = refl
first_is (f ∷ fs) = ne_eqb (length (f ∷ fs)) 0 (λ e. omega (arith, e)) ∙ sym (is_last f fs)

-- a frame more
pub frame_text : (s : Shown) (items : List Item) (fs : List Frame) (f : Frame) → All (IsThere items) (signals s items)
    → behind_text s items fs (f ∷ []) ≡ (moment (length fs) ++ 10 ∷ []) ++ changes (length fs == 0) (told_word items f) (map (kept_values items (last_or None fs)) (signals s items))
frame_text s items fs f all =
    ap text_of_lines (append-nil (frame_changes items (signals s items) (length fs) (last_or None fs) f))
    ∙ ap (λ (l : List ℕ). (moment (length fs) ++ 10 ∷ []) ++ l) (sym (changes_are (length fs == 0) items (last_or None fs) f (signals s items) (first_is fs) all))

-- the words that are kept behind it
pub kept_behind : (items : List Item) (before : Option Frame) (f : Frame) (xs : List Item) → All (IsThere items) xs → map (with_word (told_word items f)) (map (kept_values items before) xs) ≡ map (kept_values items (Some f)) xs
kept_behind items before f [] all = refl
kept_behind items before f (x ∷ xs) all =
    let word = told_is items f x (All-head (IsThere items) x xs all) in
    ap₂ (λ (n : ℕ) (l : List Signal). record { id = x.id; node = node_place items x; width = signal_width items x; word = n } ∷ l) word (kept_behind items before f xs (All-tail (IsThere items) x xs all))

-- ---- one dump

-- two frames, and two lists of frames, that have one word at each signal
abbrev pub Agree : List Item → Frame → Frame → Type 0
Agree xs f g = All (λ x. signal_word f x ≡ signal_word g x) xs

abbrev AgreeBefore : List Item → Option Frame → Option Frame → Type 0
AgreeBefore xs None None = Unit {0}
AgreeBefore xs (Some f) (Some g) = Agree xs f g
AgreeBefore xs _ _ = ⊥

abbrev pub AgreeAll : List Item → List Frame → List Frame → Type 0
AgreeAll xs [] [] = Unit {0}
AgreeAll xs (f ∷ fs) (g ∷ gs) = Agree xs f g × AgreeAll xs fs gs
AgreeAll xs _ _ = ⊥

before_tail : (x : Item) (xs : List Item) (b c : Option Frame) → AgreeBefore (x ∷ xs) b c → AgreeBefore xs b c
before_tail x xs None None h = tt
before_tail x xs None (Some c) h = absurd h
before_tail x xs (Some b) None h = absurd h
before_tail x xs (Some b) (Some c) h = All-tail (λ (y : Item). signal_word b y ≡ signal_word c y) x xs h

changed_same : (b c : Option Frame) (f g : Frame) (x : Item) (xs : List Item) → AgreeBefore (x ∷ xs) b c → signal_word f x ≡ signal_word g x → has_changed b f x ≡ has_changed c g x
changed_same None None f g x xs before same = refl
changed_same None (Some c) f g x xs before same = absurd before
changed_same (Some b) None f g x xs before same = absurd before
changed_same (Some b) (Some c) f g x xs before same = ap₂ (λ (m n : ℕ). not (m == n)) (All-head (λ (y : Item). signal_word b y ≡ signal_word c y) x xs before) same

lines_same : (items : List Item) (b c : Option Frame) (f g : Frame) (xs : List Item) → AgreeBefore xs b c → Agree xs f g → map (value_line items f) (filter (has_changed b f) xs) ≡ map (value_line items g) (filter (has_changed c g) xs)
lines_same items b c f g [] before agree = refl
lines_same items b c f g (x ∷ xs) before agree =
    let same : signal_word f x ≡ signal_word g x = All-head (λ (y : Item). signal_word f y ≡ signal_word g y) x xs agree in
    let rest = lines_same items b c f g xs (before_tail x xs b c before) (All-tail (λ (y : Item). signal_word f y ≡ signal_word g y) x xs agree) in
    let line : value_line items f x ≡ value_line items g x = ap (λ (n : ℕ). value (signal_width items x) n ++ code x.id) same in
    rw (changed_same b c f g x xs before same)
    (elim (has_changed c g x) as (λ t. map (value_line items f) (cond t (x ∷ filter (has_changed b f) xs) (filter (has_changed b f) xs)) ≡ map (value_line items g) (cond t (x ∷ filter (has_changed c g) xs) (filter (has_changed c g) xs))) [
      | true ↦ ap₂ (λ (h : List ℕ) (l : List (List ℕ)). h ∷ l) line rest
      | false ↦ rest
    ])

frames_same : (items shown : List Item) (k : ℕ) (b c : Option Frame) (fs gs : List Frame) → AgreeBefore shown b c → AgreeAll shown fs gs → frames_lines items shown k b fs ≡ frames_lines items shown k c gs
frames_same items shown k b c [] [] before agree = refl
frames_same items shown k b c [] (g ∷ gs) before agree = absurd agree
frames_same items shown k b c (f ∷ fs) [] before agree = absurd agree
frames_same items shown k b c (f ∷ fs) (g ∷ gs) before agree =
    ap₂ (λ (h l : List (List ℕ)). (moment k ∷ h) ++ l) (lines_same items b c f g shown before agree.0) (frames_same items shown (suc k) (Some f) (Some g) fs gs agree.0 agree.1)

as_many : (xs : List Item) (fs gs : List Frame) → AgreeAll xs fs gs → length fs ≡ length gs
as_many xs [] [] agree = refl
as_many xs [] (g ∷ gs) agree = absurd agree
as_many xs (f ∷ fs) [] agree = absurd agree
as_many xs (f ∷ fs) (g ∷ gs) agree = ap suc (as_many xs fs gs agree.1)

ends_same : (fs gs : List Frame) → length fs ≡ length gs → end_lines fs ≡ end_lines gs
ends_same [] [] e = refl
ends_same [] (g ∷ gs) e = absurd cc
ends_same (f ∷ fs) [] e = absurd cc
ends_same (f ∷ fs) (g ∷ gs) e = ap (λ (n : ℕ). moment n ∷ []) e

-- they have one dump
pub dumps_agree : (s : Shown) (title : List ℕ) (items : List Item) (fs gs : List Frame) → AgreeAll (signals s items) fs gs → vcd_text s title items fs ≡ vcd_text s title items gs
unfolding vcd_text
dumps_agree s title items fs gs agree =
    ap₂ (λ (l m : List (List ℕ)). text_of_lines (declaration_lines s title items) ++ (text_of_lines l ++ text_of_lines m)) (frames_same items (signals s items) 0 None None fs gs tt agree) (ends_same fs gs (as_many (signals s items) fs gs agree))

-- the same frames agree at signals
frame_agrees : (items xs : List Item) (f g : Frame) → SameFrame items f g → All (IsThere items) xs → Agree xs f g
frame_agrees items [] f g same all = All-nil (λ (x : Item). signal_word f x ≡ signal_word g x)
frame_agrees items (x ∷ xs) f g same all =
    All-cons (λ (y : Item). signal_word f y ≡ signal_word g y) x xs (same (shown_node x) (All-head (IsThere items) x xs all)) (frame_agrees items xs f g same (All-tail (IsThere items) x xs all))

trace_agrees : (items xs : List Item) (fs gs : List Frame) → SameTrace items fs gs → All (IsThere items) xs → AgreeAll xs fs gs
trace_agrees items xs [] [] same all = tt
trace_agrees items xs [] (g ∷ gs) same all = absurd same
trace_agrees items xs (f ∷ fs) [] same all = absurd same
trace_agrees items xs (f ∷ fs) (g ∷ gs) same all = (frame_agrees items xs f g same.0 all, trace_agrees items xs fs gs same.1 all)

pub dumps_same : (s : Shown) (title : List ℕ) (items : List Item) (fs gs : List Frame) → SameTrace items fs gs → All (IsThere items) (signals s items) → vcd_text s title items fs ≡ vcd_text s title items gs
dumps_same s title items fs gs same all = dumps_agree s title items fs gs (trace_agrees items (signals s items) fs gs same all)
