-- Strict texts of witnesses of words.
use Rattle.std.proofs.Common.{◌≡◌, ◌≢◌, ℕ, suc, ◌+◌, ◌<◌, ◌≤◌, ◌^◌, ◌||◌, Bool, true, false, List, [], ◌∷◌, ◌++◌, Option, Some, None, IfSome, length, length-append, map, flat_map, codes, decimal, nat_le, slice_index, if◌then◌else◌, is_some, unwrap_or, option_and_then, slice_get, get_or, reverse, refl, sym, ap, ap₂, subst, ◌∙◌, arith, append_assoc, append-nil}
use Rattle.std.specs.List.{AllByRecursion}
use Rattle.std.specs.Str.{bytes_eq}
use Rattle.std.proofs.lemmas.Bool.{and_parts, leb-true, eqb-true, ne_eqb, false≢true}
use Rattle.std.proofs.lemmas.List.{length-map, length-reverse, get_or-map}
use Rattle.std.proofs.lemmas.List.Elements.{recursion_from_All, All-get_or}
use Rattle.base.specs.Decimals.{is_nothing, is_digit, are_digits}
use Rattle.base.specs.Word.{bits}
use Rattle.base.specs.Lines.{IsLine, text_of_lines}
use Rattle.base.proofs.LineLemmas.{EachLine}
use Rattle.base.proofs.DecimalLemmas.{digit_range, decimal_digits, decimal_without}
use Rattle.btor2.specs.declared.item.Item.{Item}
use Rattle.btor2.specs.declared.item.Body.{Body}
use Rattle.btor2.specs.Check.{IsWellFormed}
use Rattle.btor2.specs.Items.{is_input, is_state, width_of_body}
use Rattle.btor2.specs.Lists.{places, width_at}
use Rattle.btor2.proofs.ModelLemmas.{width_of_body-range}
use Rattle.base.proofs.BitLemmas.{length-bits}
use Rattle.btor2.specs.Symbols.{is_printed, is_symbol}
use Rattle.btor2.proofs.SymbolLemmas.{symbol_printed}
use Rattle.witness.specs.Texts.{Shape, shape_of, widths_of, digit, Assignment, Parts, Witness, binary, symbol_part, assignment_line, claim, claims_line, states_lines, frame_lines, witness_lines, is_comment, IsAssignment, IsPart, IsFreePart, AreFrames, most_lines, Says, AreParts}
use Rattle.witness.proofs.PieceLemmas.{binary_digits}
use Rattle.witness.proofs.AssignmentLemmas.{assignment_line_is_line, claims_line_is_line}
use Rattle.witness.proofs.ReadLemmas.{IsSmall, frames_have_lines}
use Rattle.witness.proofs.FitLemmas.{shape_is_small}
use Rattle.witness.proofs.ShapeLemmas.{HasBits, states_have_bits, inputs_have_bits, each_has_width, widths_at_places, length-widths}
use Rattle.tidy.specs.declared.place.Place.TheVariants as place
use Rattle.tidy.specs.Words.{words, joined, plain, begins_with}
use Rattle.tidy.specs.Tidied.{Stand, zero_value, is_progress, behind_words, behind, closed_by, tidy_line, tidied_lines, tidied}
use Rattle.meaning.proofs.PlainLemmas.{IsWord, words_word, words_cut, plain_word, none_blank, digits_no_blank, some_bytes, decimal_word, marked_word, zero_digits}
use Rattle.meaning.proofs.BitTextLemmas.{at, same_line, text_same}
use Rattle.tidy.proofs.WordLemmas.{plain_byte}

-- ---- lines of parts

-- a line of a part is tidied already, and is none of those that mean something else
pub record IsPartLine (line : List ℕ) : Type 0 where
  pub is_line : IsLine line
  pub plain_is : plain line ≡ line
  pub value : joined (zero_value (words line)) ≡ line
  pub some : is_nothing line ≡ false
  pub comment : begins_with 59 line ≡ false
  pub end' : bytes_eq line (codes ".") ≡ false

part_written : (line : List ℕ) → IsPartLine line → tidy_line (10 ∷ []) (at place.Parts) line ≡ line ++ 10 ∷ []
part_written line is =
    ap (λ (w : List ℕ). closed_by (10 ∷ []) (if is_nothing w || begins_with 59 w then None else Some (joined (zero_value (words line))))) is.plain_is
    ∙ rw (is.some, is.comment) (ap (λ (l : List ℕ). l ++ 10 ∷ []) is.value)

behind_part : (line : List ℕ) → IsPartLine line → behind (at place.Parts) line ≡ at place.Parts
behind_part line is = ap (behind_words (at place.Parts)) is.plain_is ∙ rw (is.end') refl

abbrev ArePartLines : List (List ℕ) → Type 0
ArePartLines lines = AllByRecursion IsPartLine lines

parts_same : (lines : List (List ℕ)) → ArePartLines lines → tidied_lines (at place.Parts) (lines ++ codes "." ∷ []) [] ≡ text_of_lines (lines ++ codes "." ∷ [])
parts_same [] all = refl
parts_same (line ∷ lines) all =
    ap₂ (λ (x : List ℕ) (u : Stand). x ++ tidied_lines u (lines ++ codes "." ∷ []) []) (part_written line all.0) (behind_part line all.0)
    ∙ ap (λ (l : List ℕ). (line ++ 10 ∷ []) ++ l) (parts_same lines all.1)

-- a line `#<k>` or `@<k>`
marked_line : (b k : ℕ) → 59 < b → k < 2 ^ 64 → IsPartLine (b ∷ decimal k)
marked_line b k above lt =
    let is = marked_word b k (omega arith) lt in
    record {
      is_line = rw (ne_eqb b 10 (λ e. omega arith)) (decimal_without 10 k (omega arith) lt);
      plain_is = plain_word (b ∷ decimal k) is.none;
      value = ap (λ (ws : List (List ℕ)). joined (zero_value ws)) (words_word (b ∷ decimal k) is) ∙ append-nil (b ∷ decimal k);
      some = refl;
      comment = ne_eqb b 59 (λ e. omega arith);
      end' = rw (ne_eqb b 46 (λ e. omega arith)) refl;
    }

hash_line : (k : ℕ) → k < 2 ^ 64 → IsPartLine (35 ∷ decimal k)
hash_line k lt =
    let is = marked_word 35 k (omega arith) lt in
    record {
      is_line = decimal_without 10 k (omega arith) lt;
      plain_is = plain_word (35 ∷ decimal k) is.none;
      value = ap (λ (ws : List (List ℕ)). joined (zero_value ws)) (words_word (35 ∷ decimal k) is) ∙ append-nil (35 ∷ decimal k);
      some = refl;
      comment = refl;
      end' = refl;
    }

-- ---- an assignment

-- bytes that begin with a digit
record BeginsDigit (line : List ℕ) : Type 0 where
  pub some : is_nothing line ≡ false
  pub comment : begins_with 59 line ≡ false
  pub end' : bytes_eq line (codes ".") ≡ false

digits_first : (digits rest : List ℕ) → are_digits digits ≡ true → is_nothing digits ≡ false → BeginsDigit (digits ++ rest)
digits_first [] rest all some = absurd cc
digits_first (b ∷ bs) rest all some =
    let range = digit_range b (and_parts (is_digit b) (are_digits bs) all).0 in
    record { some = refl; comment = ne_eqb b 59 (λ e. omega arith); end' = rw (ne_eqb b 46 (λ e. omega arith)) refl }

symbol_word : (name : List ℕ) → is_symbol name ≡ true → IsWord name
symbol_word [] is = absurd cc
symbol_word (b ∷ bs) is = record { none = none_blank is_printed (b ∷ bs) (λ c printed. let least = leb-true 33 c (and_parts (nat_le 33 c) (nat_le c 126) printed).0 in omega arith) (symbol_printed (b ∷ bs) is); some = refl }

-- the words behind an index
value_words : (v : List ℕ) (name : Option (List ℕ)) → IsWord v → IfSome name (λ bytes. is_symbol bytes ≡ true) → (more : List (List ℕ)) × ((words (v ++ symbol_part name) ≡ v ∷ more) × (v ++ flat_map (λ (x : List ℕ). 32 ∷ x) more ≡ v ++ symbol_part name))
value_words v None is name = ([], (ap words (append-nil v) ∙ words_word v is, refl))
value_words v (Some bytes) is name =
    let w = symbol_word bytes name in
    (bytes ∷ [], (words_cut v bytes is ∙ ap (λ (l : List (List ℕ)). v ∷ l) (words_word bytes w), ap (λ (l : List ℕ). v ++ 32 ∷ l) (append-nil bytes)))

-- a word of some bits
binary_word : (width x : ℕ) → 0 < length (binary width x) → IsWord (binary width x)
binary_word width x some = record { none = digits_no_blank (binary width x) (binary_digits width x); some = some_bytes (binary width x) some }

with_index : (i v : List ℕ) (name : Option (List ℕ)) (more : List (List ℕ)) → IsWord i → words (v ++ symbol_part name) ≡ v ∷ more → words (i ++ 32 ∷ (v ++ symbol_part name)) ≡ i ∷ v ∷ more
with_index i v name more is behind = words_cut i (v ++ symbol_part name) is ∙ ap (λ (l : List (List ℕ)). i ∷ l) behind

three_words : (i v : List ℕ) (name : Option (List ℕ)) → IsWord i → are_digits i ≡ true → IsWord v → are_digits v ≡ true → IfSome name (λ bytes. is_symbol bytes ≡ true) → IsLine (i ++ 32 ∷ (v ++ symbol_part name)) → IsPartLine (i ++ 32 ∷ (v ++ symbol_part name))
three_words i v name is digits value bits named line =
    let behind = value_words v name value named in
    let all : words (i ++ 32 ∷ (v ++ symbol_part name)) ≡ i ∷ v ∷ behind.0 = with_index i v name behind.0 is behind.1.0 in
    let first = digits_first i (32 ∷ (v ++ symbol_part name)) digits is.some in
    let spelled : i ++ (32 ∷ v ++ flat_map (λ (x : List ℕ). 32 ∷ x) behind.0) ≡ i ++ 32 ∷ (v ++ symbol_part name) = ap (λ (l : List ℕ). i ++ 32 ∷ l) behind.1.1 in
    record {
      is_line = line;
      plain_is = ap joined all ∙ spelled;
      value = ap (λ (ws : List (List ℕ)). joined (zero_value ws)) all ∙ ap (λ (z : List ℕ). i ++ (32 ∷ z ++ flat_map (λ (x : List ℕ). 32 ∷ x) behind.0)) (zero_digits v bits) ∙ spelled;
      some = first.some;
      comment = first.comment;
      end' = first.end';
    }

-- each node has a bit or more
abbrev pub HaveBits : List ℕ → Type 0
HaveBits widths = (i : ℕ) → i < length widths → 0 < slice_index widths i

length-binary : (width x : ℕ) → length (binary width x) ≡ width
length-binary width x = length-map (reverse (bits width x)) digit ∙ length-reverse (bits width x) ∙ length-bits width x

assignment_same : (widths : List ℕ) (a : Assignment) → length widths < 2 ^ 64 → HaveBits widths → IsAssignment widths a → IsPartLine (assignment_line widths a)
assignment_same widths a small have is =
    let within = is.index in
    let lt : a.index < 2 ^ 64 = omega arith in
    let width : ℕ = slice_index widths a.index in
    let i : List ℕ = decimal a.index in
    let v : List ℕ = binary width a.word in
    let parts : assignment_line widths a ≡ i ++ 32 ∷ (v ++ symbol_part a.symbol) = append_assoc i (32 ∷ v) (symbol_part a.symbol) in
    let some : 0 < length v = omega (arith, length-binary width a.word, have a.index within) in
    let line : IsLine (i ++ 32 ∷ (v ++ symbol_part a.symbol)) = subst IsLine parts (assignment_line_is_line widths a small is) in
    subst IsPartLine (sym parts) (three_words i v a.symbol (decimal_word a.index lt) (decimal_digits a.index lt) (binary_word width a.word some) (binary_digits width a.word) is.symbol line)

-- ---- frames

all_append : (front back : List (List ℕ)) → ArePartLines front → ArePartLines back → ArePartLines (front ++ back)
all_append [] back f b = b
all_append (line ∷ front) back f b = (f.0, all_append front back f.1 b)

assignments_same : (widths : List ℕ) (list : List Assignment) → length widths < 2 ^ 64 → HaveBits widths → AllByRecursion (IsAssignment widths) list → ArePartLines (map (assignment_line widths) list)
assignments_same widths [] small have each = tt
assignments_same widths (a ∷ list) small have each = (assignment_same widths a small have each.0, assignments_same widths list small have each.1)

states_same : (widths : List ℕ) (k : ℕ) (states : Option (List Assignment)) → length widths < 2 ^ 64 → HaveBits widths → k < 2 ^ 64 → IfSome states (IsPart widths) → ArePartLines (states_lines widths k states)
states_same widths k None small have lt part = tt
states_same widths k (Some list) small have lt part = (hash_line k lt, assignments_same widths list small have (recursion_from_All (IsAssignment widths) list part.each))

-- the nodes of a shape are few, and each has a bit or more
record IsSound (shape : Shape) : Type 0 where
  pub small : IsSmall shape
  pub states : HaveBits shape.states
  pub inputs : HaveBits shape.inputs

frames_same : (shape : Shape) (k : ℕ) (frames : List Parts) → IsSound shape → k + length frames ≤ 2 ^ 62 → AllByRecursion (AreParts shape (IsPart shape.states)) frames → ArePartLines (frame_lines shape k frames)
frames_same shape k [] sound few all = tt
frames_same shape k (parts ∷ more) sound few all =
    let lt : k < 2 ^ 64 = omega arith in
    let fewer : suc k + length more ≤ 2 ^ 62 = omega arith in
    let here = assignments_same shape.inputs parts.inputs sound.small.inputs sound.inputs (recursion_from_All (IsAssignment shape.inputs) parts.inputs all.0.inputs.each) in
    let behind_it = all_append (map (assignment_line shape.inputs) parts.inputs) (frame_lines shape (suc k) more) here (frames_same shape (suc k) more sound fewer all.1) in
    all_append (states_lines shape.states k parts.states) ((64 ∷ decimal k) ∷ (map (assignment_line shape.inputs) parts.inputs ++ frame_lines shape (suc k) more))
    (states_same shape.states k parts.states sound.small.states sound.states lt all.0.states) (marked_line 64 k (omega arith) lt, behind_it)

any_states : (shape : Shape) (states : Option (List Assignment)) → IfSome states (IsFreePart shape) → IfSome states (IsPart shape.states)
any_states shape None free = tt
any_states shape (Some list) free = free.part

later_is_first : (shape : Shape) (more : List Parts) → AllByRecursion (AreParts shape (IsFreePart shape)) more → AllByRecursion (AreParts shape (IsPart shape.states)) more
later_is_first shape [] later = tt
later_is_first shape (parts ∷ more) later = (record { states = any_states shape parts.states later.0.states; inputs = later.0.inputs }, later_is_first shape more later.1)

all_are_frames : (shape : Shape) (frames : List Parts) → AreFrames shape frames → AllByRecursion (AreParts shape (IsPart shape.states)) frames
all_are_frames shape [] valid = absurd valid
all_are_frames shape (first ∷ more) valid = (valid.0, later_is_first shape more (recursion_from_All (AreParts shape (IsFreePart shape)) more valid.1))

-- ---- claims

claims_words : (i : ℕ) (more : List ℕ) → AllByRecursion (λ j. j < 2 ^ 64) (i ∷ more) → words (claims_line (i ∷ more)) ≡ claim i ∷ map claim more
claims_words i [] below = words_word (claim i) (marked_word 98 i (omega arith) below.0)
claims_words i (j ∷ more) below =
    words_cut (claim i) (claims_line (j ∷ more)) (marked_word 98 i (omega arith) below.0) ∙ ap (λ (l : List (List ℕ)). claim i ∷ l) (claims_words j more below.1)

claims_joined : (i : ℕ) (more : List ℕ) → claim i ++ flat_map (λ (v : List ℕ). 32 ∷ v) (map claim more) ≡ claims_line (i ∷ more)
claims_joined i [] = append-nil (claim i)
claims_joined i (j ∷ more) = ap (λ (l : List ℕ). claim i ++ 32 ∷ l) (claims_joined j more)

claims_plain : (i : ℕ) (more : List ℕ) → AllByRecursion (λ j. j < 2 ^ 64) (i ∷ more) → plain (claims_line (i ∷ more)) ≡ claims_line (i ∷ more)
claims_plain i more below = ap joined (claims_words i more below) ∙ claims_joined i more

-- the first byte is `b`
claims_first : (i : ℕ) (more : List ℕ) → (is_nothing (claims_line (i ∷ more)) || begins_with 59 (claims_line (i ∷ more))) ≡ false
claims_first i [] = refl
claims_first i (j ∷ more) = refl

claims_written : (i : ℕ) (more : List ℕ) → AllByRecursion (λ j. j < 2 ^ 64) (i ∷ more) → tidy_line (10 ∷ []) (at place.Claims) (claims_line (i ∷ more)) ≡ claims_line (i ∷ more) ++ 10 ∷ []
claims_written i more below =
    ap (λ (w : List ℕ). closed_by (10 ∷ []) (if is_nothing w || begins_with 59 w then None else Some w)) (claims_plain i more below)
    ∙ ap (λ (b : Bool). closed_by (10 ∷ []) (if b then None else Some (claims_line (i ∷ more)))) (claims_first i more)

behind_claims : (i : ℕ) (more : List ℕ) → AllByRecursion (λ j. j < 2 ^ 64) (i ∷ more) → behind (at place.Claims) (claims_line (i ∷ more)) ≡ at place.Parts
behind_claims i more below =
    ap (behind_words (at place.Claims)) (claims_plain i more below)
    ∙ ap (λ (b : Bool). at (if b then place.Claims else place.Parts)) (claims_first i more)

below_all : (bads : ℕ) (list : List ℕ) → bads < 2 ^ 64 → AllByRecursion (λ j. j < bads) list → AllByRecursion (λ j. j < 2 ^ 64) list
below_all bads [] small all = tt
below_all bads (i ∷ more) small all = (omega (arith, all.0), below_all bads more small all.1)

claims_same : (claims : List ℕ) (lines : List (List ℕ)) → claims ≢ [] → AllByRecursion (λ j. j < 2 ^ 64) claims → tidied_lines (at place.Parts) lines [] ≡ text_of_lines lines
    → tidied_lines (at place.Claims) (claims_line claims ∷ lines) [] ≡ text_of_lines (claims_line claims ∷ lines)
claims_same [] lines some below rest = absurd (some refl)
claims_same (i ∷ more) lines some below rest = same_line (at place.Claims) (at place.Parts) (claims_line (i ∷ more)) lines (claims_written i more below) (behind_claims i more below) rest

-- ---- comments

comment_written : (bs : List ℕ) → tidy_line (10 ∷ []) (at place.Front) (59 ∷ bs) ≡ (59 ∷ bs) ++ 10 ∷ []
comment_written bs =
    ap (λ (w : List ℕ). closed_by (10 ∷ []) (if begins_with 59 w then Some (59 ∷ bs) else (if is_nothing w || is_progress w then None else Some w))) (plain_byte place.Front 59 bs (λ w. refl) refl)

behind_comment : (bs : List ℕ) → behind (at place.Front) (59 ∷ bs) ≡ at place.Front
behind_comment bs = ap (behind_words (at place.Front)) (plain_byte place.Front 59 bs (λ w. refl) refl)

comments_same : (comments lines : List (List ℕ)) → AllByRecursion (λ line. is_comment line ≡ true) comments → tidied_lines (at place.Front) lines [] ≡ text_of_lines lines
    → tidied_lines (at place.Front) (comments ++ lines) [] ≡ text_of_lines (comments ++ lines)
comments_same [] lines marked rest = rest
comments_same ([] ∷ comments) lines marked rest = absurd (false≢true marked.0)
comments_same ((b ∷ bs) ∷ comments) lines marked rest =
    let is : b ≡ 59 = eqb-true b 59 marked.0 in
    subst (λ (c : ℕ). tidied_lines (at place.Front) ((c ∷ bs) ∷ (comments ++ lines)) [] ≡ text_of_lines ((c ∷ bs) ∷ (comments ++ lines))) (sym is)
    (same_line (at place.Front) (at place.Front) (59 ∷ bs) (comments ++ lines) (comment_written bs) (behind_comment bs) (comments_same comments lines marked.1 rest))

-- ---- a text

each_append : (front back : List (List ℕ)) → EachLine front → EachLine back → EachLine (front ++ back)
each_append [] back f b = b
each_append (line ∷ front) back f b = (f.0, each_append front back f.1 b)

parts_are_lines : (lines : List (List ℕ)) → ArePartLines lines → EachLine lines
parts_are_lines [] all = tt
parts_are_lines (line ∷ lines) all = (all.0.is_line, parts_are_lines lines all.1)

few_frames : (shape : Shape) (comments : List (List ℕ)) (w : Witness) → length (witness_lines shape comments w) ≤ most_lines → 0 + length w.frames ≤ 2 ^ 62
few_frames shape comments w few =
    let frames : List (List ℕ) = frame_lines shape 0 w.frames in
    omega (arith, length-append comments (codes "sat" ∷ (claims_line w.claims ∷ (frames ++ codes "." ∷ []))), length-append frames (codes "." ∷ []), frames_have_lines shape 0 w.frames)

shape_same : (shape : Shape) (text : List ℕ) (w : Witness) → IsSound shape → Says shape text w → tidied 1 text ≡ text
shape_same shape text w sound says =
    let below = recursion_from_All (λ (i : ℕ). i < shape.bads) w.claims says.valid.claims in
    let parts = frames_same shape 0 w.frames sound (few_frames shape says.comments w says.few) (all_are_frames shape w.frames says.valid.frames) in
    let lines : List (List ℕ) = frame_lines shape 0 w.frames ++ codes "." ∷ [] in
    let claims = claims_same w.claims lines says.valid.some_claim (below_all shape.bads w.claims sound.small.bads below) (parts_same (frame_lines shape 0 w.frames) parts) in
    let status = same_line (at place.Front) (at place.Claims) (codes "sat") (claims_line w.claims ∷ lines) refl refl claims in
    let marked = recursion_from_All (λ (line : List ℕ). is_comment line ≡ true) says.comments says.marked in
    let each : EachLine lines = each_append (frame_lines shape 0 w.frames) (codes "." ∷ []) (parts_are_lines (frame_lines shape 0 w.frames) parts) (refl, tt) in
    text_same (witness_lines shape says.comments w) text says.whole
    (each_append says.comments (codes "sat" ∷ (claims_line w.claims ∷ lines)) (recursion_from_All IsLine says.comments says.lines) (refl, (claims_line_is_line shape.bads w.claims sound.small.bads below, each)))
    (comments_same says.comments (codes "sat" ∷ (claims_line w.claims ∷ lines)) marked status)

-- ---- a model

some_bits : (o : Option ℕ) → is_some o ≡ true → ((n : ℕ) → o ≡ Some n → 1 ≤ n) → 0 < unwrap_or o 0
some_bits None some least = absurd (false≢true some)
some_bits (Some n) some least = omega (arith, least n refl)

width_least : (items : List Item) (o : Option Item) (n : ℕ) → IsWellFormed items → option_and_then (λ (x : Item). width_of_body items x.body) o ≡ Some n → 1 ≤ n
width_least items None n w e = absurd cc
width_least items (Some x) n w e = (width_of_body-range items x.body n w e).0

widths_have_bits : (kind : Body → Bool) → HasBits kind → (items : List Item) → IsWellFormed items → HaveBits (widths_of kind items)
widths_have_bits kind has items w i within =
    let ps : List ℕ = places kind 0 items in
    let there : i < length ps = omega (arith, length-widths kind items) in
    let k : ℕ = get_or ps i 0 in
    let some = All-get_or (λ (k : ℕ). is_some (width_at items k) ≡ true) ps i 0 there (each_has_width kind has items w) in
    let above : 0 < unwrap_or (width_at items k) 0 = some_bits (width_at items k) some (λ n e. width_least items (slice_get items k) n w e) in
    let is : slice_index (widths_of kind items) i ≡ unwrap_or (width_at items k) 0 =
    ap (λ (l : List ℕ). slice_index l i) (sym (widths_at_places kind items w)) ∙ slice_map (λ (k : ℕ). unwrap_or (width_at items k) 0) ps i there in
    subst (λ (n : ℕ). 0 < n) (sym is) above
  where
    slice_map : (f : ℕ → ℕ) (ps : List ℕ) (i : ℕ) → i < length ps → slice_index (map f ps) i ≡ f (get_or ps i 0)
    slice_map f ps i within = get_or-map f ps i 0 0 within

pub words_same : (items : List Item) (text : List ℕ) (w : Witness) → IsWellFormed items → Says (shape_of items) text w → tidied 1 text ≡ text
words_same items text w well says =
    shape_same (shape_of items) text w
    (record { small = shape_is_small items well; states = widths_have_bits is_state states_have_bits items well; inputs = widths_have_bits is_input inputs_have_bits items well }) says
