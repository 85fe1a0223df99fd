-- A text of a counterexample is read as the frames that it says, and says those that it is read as.
use Rattle.std.proofs.Common.{◌≡◌, ◌≢◌, if◌then◌else◌, ℕ, zero, suc, ◌<◌, Bool, true, false, not, ◌||◌, ◌==◌, List, [], ◌∷◌, ◌++◌, length, map, replicate, All, Option, None, Some, ◌⊎◌, inl, inr, refl, sym, ap, ap₂, subst, ◌∙◌, append_assoc, append-nil, ⊎_elim, arith}
use Rattle.std.specs.List.{list_all, list_any, AllByRecursion}
use Rattle.std.proofs.lemmas.Bool.{cases_Bool, eqb-true, eq-eqb, and_parts, or_parts}
use Rattle.std.proofs.lemmas.List.{length-map}
use Rattle.std.proofs.lemmas.List.Folds.{list_any-append}
use Rattle.std.proofs.lemmas.List.Elements.{All-nil, All-cons, All-head, All-tail}
use Rattle.base.specs.Lines.{text_of_lines, HasNone, whole_lines, unfinished, line_of, all_lines, line_after}
use Rattle.base.proofs.LineLemmas.{EachLine, whole_lines-line, unfinished-line, whole_lines-last, unfinished-last, parts_of_text, lines_of_text, unfinished_of_text}
use Rattle.witness.specs.Texts.{digit}
use Rattle.witness.specs.BitTexts.{bit_line}
use Rattle.restore.specs.declared.fault.RestoreFault.{RestoreFault}
use Rattle.restore.specs.declared.fault.RestoreWhy.{RestoreWhy}
use Rattle.restore.specs.declared.fault.RestoreWhy.TheVariants.{NoFrame, NoBit, WrongLength}
use Rattle.restore.specs.Counterexample.{IsEndOfLine, IsEndOfFrames, lines_joined, SaysFrames}
use Rattle.restore.specs.Reading.{before_mark, initial_why, frame_why, line_bits, Found, whole, faulty, read_before, unless_wrong, read_frames, read_some, read_found_lines, read_found}

-- ---- lines of bits

bits_have_none : (byte : ℕ) → (48 == byte) ≡ false → (49 == byte) ≡ false → (bits : List Bool) → HasNone byte (bit_line bits)
bits_have_none byte o l [] = refl
bits_have_none byte o l (true ∷ bits) = rw (l, bits_have_none byte o l bits) refl
bits_have_none byte o l (false ∷ bits) = rw (o, bits_have_none byte o l bits) refl

zeros_have_none : (byte : ℕ) → (48 == byte) ≡ false → (n : ℕ) → HasNone byte (replicate n 48)
zeros_have_none byte o zero = refl
zeros_have_none byte o (suc n) = rw (o, zeros_have_none byte o n) refl

are_bits : (bits : List Bool) → list_all (λ b. b == 48 || b == 49) (bit_line bits) ≡ true
are_bits [] = refl
are_bits (true ∷ bits) = are_bits bits
are_bits (false ∷ bits) = are_bits bits

bits_of_line : (bits : List Bool) → line_bits (bit_line bits) ≡ bits
bits_of_line [] = refl
bits_of_line (true ∷ bits) = ap (λ (bs : List Bool). true ∷ bs) (bits_of_line bits)
bits_of_line (false ∷ bits) = ap (λ (bs : List Bool). false ∷ bs) (bits_of_line bits)

line_of_bits : (line : List ℕ) → list_all (λ b. b == 48 || b == 49) line ≡ true → line ≡ bit_line (line_bits line)
line_of_bits [] h = refl
line_of_bits (b ∷ line) h =
    let parts = and_parts (b == 48 || b == 49) (list_all (λ b. b == 48 || b == 49) line) h in
    ap₂ ◌∷◌ (elim (cases_Bool (b == 49)) [
      | inl one ↦ rw one (eqb-true b 49 one)
      | inr not_one ↦ let zeroes : (b == 48) ≡ true = one_side (b == 48) (b == 49) parts.0 not_one in rw not_one (eqb-true b 48 zeroes)
    ]) (line_of_bits line parts.1)
  where
    one_side : (x y : Bool) → (x || y) ≡ true → y ≡ false → x ≡ true
    one_side true y e n = refl
    one_side false y e n = absurd (cc)

-- ---- single lines

initial_right : (n : ℕ) → initial_why (replicate n 48) ≡ None
initial_right zero = refl
initial_right (suc n) = initial_right n

initial_back : (line : List ℕ) → initial_why line ≡ None → line ≡ replicate (length line) 48
initial_back [] h = refl
initial_back (b ∷ line) h =
    elim (cases_Bool (b == 48)) [
      | inl zeroes ↦ ap₂ ◌∷◌ (eqb-true b 48 zeroes) (initial_back line (let rest = rw zeroes at h in rest))
      | inr other ↦
          elim (cases_Bool (b == 49)) [
            | inl one ↦ let e = rw (other, one) at h in absurd (cc)
            | inr none ↦ let e = rw (other, none) at h in absurd (cc)
          ]
    ]

frame_right : (width : ℕ) (bits : List Bool) → length bits ≡ width → frame_why width (bit_line bits) ≡ None
frame_right width bits e =
    let long : (length (bit_line bits) == width) ≡ true = eq-eqb (length (bit_line bits)) width (length-map bits _ ∙ e) in
    rw (are_bits bits, long) refl

frame_back : (width : ℕ) (line : List ℕ) → frame_why width line ≡ None → (line ≡ bit_line (line_bits line)) × (length (line_bits line) ≡ width)
frame_back width line h = by (list_all (λ b. b == 48 || b == 49) line) (length line == width) refl refl h
  where
    by : (all long : Bool) → list_all (λ b. b == 48 || b == 49) line ≡ all → (length line == width) ≡ long
        → (if not all then Some NoBit else (if long then None else Some WrongLength)) ≡ None
        → (line ≡ bit_line (line_bits line)) × (length (line_bits line) ≡ width)
    by false long a l h = absurd (cc)
    by true false a l h = absurd (cc)
    by true true a l h = (line_of_bits line a, length-map line _ ∙ eqb-true (length line) width l)

-- ---- frames

-- what is found with a fault or without
abbrev with_fault : List (List Bool) → Option RestoreFault → Found
with_fault frames fault = record { frames = frames; fault = fault }

not_whole : (found given : List (List Bool)) (e : RestoreFault) → faulty found e ≡ whole given → ⊥
not_whole found given e h = let some : Some e ≡ None = ap (λ (f : Found). f.fault) h in absurd (cc)

frames_right : (width n : ℕ) (given : List (List Bool)) → All (λ bits. length bits ≡ width) given → read_frames width n (map bit_line given) ≡ whole given
frames_right width n [] all = refl
frames_right width n (bits ∷ given) all =
    let own = frame_right width bits (All-head (λ (b : List Bool). length b ≡ width) bits given all) in
    let rest = frames_right width (line_after n) given (All-tail (λ (b : List Bool). length b ≡ width) bits given all) in
    ap₂ (unless_wrong n) own (ap₂ read_before (bits_of_line bits) rest)

frames_back : (width n : ℕ) (lines : List (List ℕ)) (given : List (List Bool)) → read_frames width n lines ≡ whole given → (lines ≡ map bit_line given) × All (λ bits. length bits ≡ width) given
frames_back width n [] [] h = (refl, All-nil (λ bits. length bits ≡ width))
frames_back width n [] (bits ∷ given) h = let e : [] ≡ bits ∷ given = ap (λ (f : Found). f.frames) h in absurd (cc)
frames_back width n (line ∷ lines) given h = by (frame_why width line) (read_frames width (line_after n) lines) refl (λ more e. frames_back width (line_after n) lines more e) h
  where
    Goal : List (List Bool) → Type 0
    Goal given = (line ∷ lines ≡ map bit_line given) × All (λ bits. length bits ≡ width) given

    by : (why : Option RestoreWhy) (rest : Found) → frame_why width line ≡ why
        → ((more : List (List Bool)) → rest ≡ whole more → (lines ≡ map bit_line more) × All (λ bits. length bits ≡ width) more)
        → unless_wrong n why (read_before (line_bits line) rest) ≡ whole given → Goal given
    by (Some why) rest e back h = absurd (not_whole [] given (record { line = n; why = why }) h)
    by None rest e back h =
        let own = frame_back width line e in
        let none : rest.fault ≡ None = ap (λ (f : Found). f.fault) h in
        let tail = back rest.frames (ap (with_fault rest.frames) none) in
        let is : line_bits line ∷ rest.frames ≡ given = ap (λ (f : Found). f.frames) h in
        subst Goal is (ap₂ ◌∷◌ own.0 tail.0, All-cons (λ (bits : List Bool). length bits ≡ width) (line_bits line) rest.frames own.1 tail.1)

-- ---- the lines of a text

-- the last of some lines has a byte
abbrev HasLast : List (List ℕ) → Type 0
HasLast [] = ⊥
HasLast (line ∷ []) = 0 < length line
HasLast (line ∷ next ∷ more) = HasLast (next ∷ more)

joined_text : (line : List ℕ) (lines : List (List ℕ)) → lines_joined (line ∷ lines) ++ 10 ∷ [] ≡ text_of_lines (line ∷ lines)
joined_text line [] = sym (append-nil (line ++ 10 ∷ []))
joined_text line (next ∷ more) =
    append_assoc line (10 ∷ lines_joined (next ∷ more)) (10 ∷ []) ∙ ap (λ (t : List ℕ). line ++ 10 ∷ t) (joined_text next more) ∙ sym (append_assoc line (10 ∷ []) (text_of_lines (next ∷ more)))

lines_closed : (line : List ℕ) (lines : List (List ℕ)) → EachLine (line ∷ lines) → all_lines (lines_joined (line ∷ lines) ++ 10 ∷ []) ≡ line ∷ lines
lines_closed line lines each =
    ap all_lines (joined_text line lines)
    ∙ ap₂ (λ (w : List (List ℕ)) (u : List ℕ). w ++ line_of u) (lines_of_text (line ∷ lines) each) (unfinished_of_text (line ∷ lines))
    ∙ append-nil (line ∷ lines)

lines_open : (line : List ℕ) (lines : List (List ℕ)) → EachLine (line ∷ lines) → HasLast (line ∷ lines) → all_lines (lines_joined (line ∷ lines)) ≡ line ∷ lines
lines_open line [] each last = ap₂ (λ (w : List (List ℕ)) (u : List ℕ). w ++ line_of u) (whole_lines-last line each.0) (unfinished-last line each.0) ∙ there line last
  where
    there : (line : List ℕ) → 0 < length line → line_of line ≡ line ∷ []
    there [] h = absurd (omega arith)
    there (b ∷ bs) h = refl
lines_open line (next ∷ more) each last =
    ap₂ (λ (w : List (List ℕ)) (u : List ℕ). w ++ line_of u) (whole_lines-line line (lines_joined (next ∷ more)) each.0) (unfinished-line line (lines_joined (next ∷ more)))
    ∙ ap (λ (l : List (List ℕ)). line ∷ l) (lines_open next more each.1 last)

joined_more : (lines : List (List ℕ)) (rest : List ℕ) → text_of_lines lines ++ rest ≡ lines_joined (lines ++ rest ∷ [])
joined_more [] rest = refl
joined_more (line ∷ []) rest = append_assoc (line ++ 10 ∷ []) [] rest ∙ append_assoc line (10 ∷ []) rest
joined_more (line ∷ next ∷ more) rest =
    append_assoc (line ++ 10 ∷ []) (text_of_lines (next ∷ more)) rest ∙ append_assoc line (10 ∷ []) (text_of_lines (next ∷ more) ++ rest) ∙ ap (λ (t : List ℕ). line ++ 10 ∷ t) (joined_more (next ∷ more) rest)

-- a text with these lines is these lines, with the end of the last one or without
lines_back : (text line : List ℕ) (lines : List (List ℕ)) → all_lines text ≡ line ∷ lines → (text ≡ lines_joined (line ∷ lines)) ⊎ (text ≡ lines_joined (line ∷ lines) ++ 10 ∷ [])
lines_back text line lines h = by (whole_lines text) (unfinished text) (parts_of_text text) h
  where
    by : (whole : List (List ℕ)) (rest : List ℕ) → text_of_lines whole ++ rest ≡ text → whole ++ line_of rest ≡ line ∷ lines → (text ≡ lines_joined (line ∷ lines)) ⊎ (text ≡ lines_joined (line ∷ lines) ++ 10 ∷ [])
    by whole [] parts h = inr (sym parts ∙ append-nil (text_of_lines whole) ∙ ap text_of_lines (sym (append-nil whole) ∙ h) ∙ sym (joined_text line lines))
    by whole (b ∷ rest) parts h = inl (sym parts ∙ joined_more whole (b ∷ rest) ∙ ap lines_joined h)

-- ---- the mark

pub before_front : (front rest : List ℕ) → HasNone 35 front → before_mark (front ++ rest) ≡ front ++ before_mark rest
before_front [] rest h = refl
before_front (b ∷ front) rest h =
    let parts = or_parts (b == 35) (list_any (λ c. c == 35) front) h in
    rw (parts.0, before_front front rest parts.1) refl

before_end : (end : List ℕ) → IsEndOfFrames end → (before_mark end ≡ []) ⊎ (before_mark end ≡ 10 ∷ [])
before_end [] h = inl refl
before_end (b ∷ rest) (inl mark) = inl (ap (λ (c : ℕ). before_mark (c ∷ rest)) mark)
before_end (b ∷ []) (inr ends) = inr (ap (λ (c : ℕ). before_mark (c ∷ [])) ends.0)
before_end (b ∷ d ∷ rest) (inr ends) = inr (ap₂ (λ (c e : ℕ). before_mark (c ∷ e ∷ rest)) ends.0 ends.1)

joined_none : (lines : List (List ℕ)) → AllByRecursion (HasNone 35) lines → HasNone 35 (lines_joined lines)
joined_none [] each = refl
joined_none (line ∷ []) each = each.0
joined_none (line ∷ next ∷ more) each = list_any-append (λ c. c == 35) line (10 ∷ lines_joined (next ∷ more)) ∙ rw (each.0, joined_none (next ∷ more) each.1) refl

mark_parts : (text : List ℕ) → (rest : List ℕ) × ((text ≡ before_mark text ++ rest) × IsEndOfLine rest)
mark_parts [] = ([], (refl, tt))
mark_parts (b ∷ bs) =
    elim (cases_Bool (b == 35)) [
      | inl mark ↦ rw mark (b ∷ bs, (refl, eqb-true b 35 mark))
      | inr other ↦ let more = mark_parts bs in rw other (more.0, (ap (λ (t : List ℕ). b ∷ t) more.1.0, more.1.1))
    ]

-- ---- whole texts

each_given : (byte : ℕ) → (48 == byte) ≡ false → (49 == byte) ≡ false → (given : List (List Bool)) → AllByRecursion (HasNone byte) (map bit_line given)
each_given byte o l [] = tt
each_given byte o l (bits ∷ given) = (bits_have_none byte o l bits, each_given byte o l given)

last_given : (width : ℕ) (first : List ℕ) (bits : List Bool) (given : List (List Bool)) → 0 < width → All (λ bits. length bits ≡ width) (bits ∷ given) → HasLast (first ∷ map bit_line (bits ∷ given))
last_given width first bits [] some all = let e = All-head (λ (b : List Bool). length b ≡ width) bits [] all in omega (arith, length-map bits digit)
last_given width first bits (next ∷ given) some all = last_given width (bit_line bits) next given some (All-tail (λ (b : List Bool). length b ≡ width) bits (next ∷ given) all)

pub said : (width : ℕ) (text : List ℕ) (given : List (List Bool)) → 0 < width → SaysFrames width text given → read_found width text ≡ whole given
said width text [] some s = absurd (s.some_frame refl)
said width text (bits ∷ given) some s =
    let first : List ℕ = replicate s.zeros 48 in
    let lines : List (List ℕ) = map bit_line (bits ∷ given) in
    let none = joined_none (first ∷ lines) (zeros_have_none 35 refl s.zeros, each_given 35 refl refl (bits ∷ given)) in
    let each : EachLine (first ∷ lines) = (zeros_have_none 10 refl s.zeros, each_given 10 refl refl (bits ∷ given)) in
    let front : before_mark text ≡ lines_joined (first ∷ lines) ++ before_mark s.end = ap before_mark s.whole ∙ before_front (lines_joined (first ∷ lines)) s.end none in
    let all : all_lines (before_mark text) ≡ first ∷ lines =
    ap all_lines front
    ∙ ⊎_elim
    (λ (e : before_mark s.end ≡ []). ap (λ (t : List ℕ). all_lines (lines_joined (first ∷ lines) ++ t)) e ∙ ap all_lines (append-nil (lines_joined (first ∷ lines))) ∙ lines_open first lines each (last_given width first bits given some s.frames))
    (λ (e : before_mark s.end ≡ 10 ∷ []). ap (λ (t : List ℕ). all_lines (lines_joined (first ∷ lines) ++ t)) e ∙ lines_closed first lines each)
    (before_end s.end s.ends) in
    ap (read_found_lines width) all ∙ ap₂ (unless_wrong 1) (initial_right s.zeros) (frames_right width 2 (bits ∷ given) s.frames)

closed_end : (rest : List ℕ) → IsEndOfLine rest → IsEndOfFrames rest
closed_end [] h = tt
closed_end (b ∷ rest) h = inl h

pub read : (width : ℕ) (text : List ℕ) (given : List (List Bool)) → read_found width text ≡ whole given → SaysFrames width text given
read width text given h = by (all_lines (before_mark text)) refl h
  where
    parts : (rest : List ℕ) × ((text ≡ before_mark text ++ rest) × IsEndOfLine rest)
    parts = mark_parts text

    made : (line : List ℕ) (lines : List (List ℕ)) → all_lines (before_mark text) ≡ line ∷ lines → line ≡ replicate (length line) 48 → lines ≡ map bit_line given → given ≢ [] → All (λ bits. length bits ≡ width) given → SaysFrames width text given
    made line lines is zeroes are some all =
        let same : lines_joined (line ∷ lines) ≡ lines_joined (replicate (length line) 48 ∷ map bit_line given) = ap₂ (λ (l : List ℕ) (ls : List (List ℕ)). lines_joined (l ∷ ls)) zeroes are in
        ⊎_elim
        (λ (e : before_mark text ≡ lines_joined (line ∷ lines)).
        let says : SaysFrames width text given = record { zeros = length line; end = parts.0; whole = parts.1.0 ∙ ap (λ (t : List ℕ). t ++ parts.0) (e ∙ same); some_frame = some; frames = all; ends = closed_end parts.0 parts.1.1 } in says)
        (λ (e : before_mark text ≡ lines_joined (line ∷ lines) ++ 10 ∷ []).
        let says : SaysFrames width text given = record {
          zeros = length line;
          end = 10 ∷ parts.0;
          whole = parts.1.0 ∙ ap (λ (t : List ℕ). t ++ parts.0) (e ∙ ap (λ (t : List ℕ). t ++ 10 ∷ []) same) ∙ append_assoc (lines_joined (replicate (length line) 48 ∷ map bit_line given)) (10 ∷ []) parts.0;
          some_frame = some;
          frames = all;
          ends = inr (refl, parts.1.1);
        } in says)
        (lines_back (before_mark text) line lines is)

    by_why : (line next : List ℕ) (more : List (List ℕ)) (why : Option RestoreWhy) → all_lines (before_mark text) ≡ line ∷ next ∷ more → initial_why line ≡ why
        → unless_wrong 1 why (read_frames width 2 (next ∷ more)) ≡ whole given → SaysFrames width text given
    by_why line next more (Some why) is e h = absurd (not_whole [] given (record { line = 1; why = why }) h)
    by_why line next more None is e h =
        let back = frames_back width 2 (next ∷ more) given h in
        made line (next ∷ more) is (initial_back line e) back.0 (λ empty. let none : next ∷ more ≡ [] = back.0 ∙ ap (map bit_line) empty in absurd (cc)) back.1

    no_frame : (why : Option RestoreWhy) → unless_wrong 1 why (faulty [] (record { line = 2; why = NoFrame })) ≡ whole given → ⊥
    no_frame None h = not_whole [] given (record { line = 2; why = NoFrame }) h
    no_frame (Some why) h = not_whole [] given (record { line = 1; why = why }) h

    by : (lines : List (List ℕ)) → all_lines (before_mark text) ≡ lines → read_found_lines width lines ≡ whole given → SaysFrames width text given
    by [] is h = absurd (not_whole [] given (record { line = 1; why = NoFrame }) h)
    by (line ∷ []) is h = absurd (no_frame (initial_why line) h)
    by (line ∷ next ∷ more) is h = by_why line next more (initial_why line) is refl h

-- ---- each frame that is found has as many bits

wide_frames : (width n : ℕ) (lines : List (List ℕ)) → All (λ bits. length bits ≡ width) (read_frames width n lines).frames
wide_frames width n [] = All-nil (λ bits. length bits ≡ width)
wide_frames width n (line ∷ lines) = by (frame_why width line) refl (wide_frames width (line_after n) lines)
  where
    by : (why : Option RestoreWhy) → frame_why width line ≡ why → All (λ bits. length bits ≡ width) (read_frames width (line_after n) lines).frames → All (λ bits. length bits ≡ width) (unless_wrong n why (read_before (line_bits line) (read_frames width (line_after n) lines))).frames
    by None is wide = All-cons (λ bits. length bits ≡ width) (line_bits line) (read_frames width (line_after n) lines).frames (frame_back width line is).1 wide
    by (Some w) is wide = All-nil (λ bits. length bits ≡ width)

pub wide_found : (width : ℕ) (text : List ℕ) → All (λ bits. length bits ≡ width) (read_found width text).frames
wide_found width text = by (all_lines (before_mark text))
  where
    some : (lines : List (List ℕ)) → All (λ bits. length bits ≡ width) (read_some width lines).frames
    some [] = All-nil (λ bits. length bits ≡ width)
    some (line ∷ lines) = wide_frames width 2 (line ∷ lines)

    behind : (why : Option RestoreWhy) (lines : List (List ℕ)) → All (λ bits. length bits ≡ width) (unless_wrong 1 why (read_some width lines)).frames
    behind None lines = some lines
    behind (Some w) lines = All-nil (λ bits. length bits ≡ width)

    by : (lines : List (List ℕ)) → All (λ bits. length bits ≡ width) (read_found_lines width lines).frames
    by [] = All-nil (λ bits. length bits ≡ width)
    by (line ∷ lines) = behind (initial_why line) lines
