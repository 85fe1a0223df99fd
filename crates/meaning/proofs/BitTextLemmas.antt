-- Strict texts of witnesses of bits.
use Rattle.std.proofs.Common.{◌≡◌, ◌≢◌, ℕ, ◌<◌, Bool, true, false, List, [], ◌∷◌, ◌++◌, length, map, codes, Some, None, if◌then◌else◌, refl, sym, ap, ap₂, subst, ◌∙◌, ◌^◌, arith}
use Rattle.std.specs.List.{AllByRecursion}
use Rattle.std.specs.Str.{bytes_eq}
use Rattle.std.proofs.lemmas.List.Elements.{recursion_from_All}
use Rattle.base.specs.Decimals.{is_nothing, are_digits}
use Rattle.base.specs.Lines.{text_of_lines, whole_lines, unfinished}
use Rattle.base.proofs.LineLemmas.{EachLine, lines_of_text, unfinished_of_text}
use Rattle.base.proofs.DecimalLemmas.{decimal_without}
use Rattle.aiger.specs.Circuit.{Circuit, IsCircuit}
use Rattle.witness.specs.Texts.{claim}
use Rattle.witness.specs.BitTexts.{BitWitness, bit_line, bit_witness_lines, BitSays}
use Rattle.witness.proofs.BitReadLemmas.{bits_are_a_line}
use Rattle.tidy.specs.declared.place.Place.{Place}
use Rattle.tidy.specs.declared.place.Place.TheVariants as place
use Rattle.tidy.specs.Words.{plain}
use Rattle.tidy.specs.Tidied.{Stand, zero_x, behind_words, behind, closed_by, tidy_line, tidied_lines, tidied}
use Rattle.meaning.proofs.PlainLemmas.{plain_word, digits_no_blank, marked_word, zero_digits}

abbrev pub at : Place → Stand
at p = record { skip = 0; place = p }

-- ---- a line of bits

bits_are_digits : (bits : List Bool) → are_digits (bit_line bits) ≡ true
bits_are_digits [] = refl
bits_are_digits (true ∷ bits) = bits_are_digits bits
bits_are_digits (false ∷ bits) = bits_are_digits bits

plain_bits : (bits : List Bool) → plain (bit_line bits) ≡ bit_line bits
plain_bits bits = plain_word (bit_line bits) (digits_no_blank (bit_line bits) (bits_are_digits bits))

zero_bits : (bits : List Bool) → map zero_x (plain (bit_line bits)) ≡ bit_line bits
zero_bits bits = ap (map zero_x) (plain_bits bits) ∙ zero_digits (bit_line bits) (bits_are_digits bits)

no_end : (bits : List Bool) → bytes_eq (bit_line bits) (codes ".") ≡ false
no_end [] = refl
no_end (true ∷ bits) = refl
no_end (false ∷ bits) = refl

-- a line that is written as it is, and what stands behind it
pub same_line : (s t : Stand) (line : List ℕ) (lines : List (List ℕ)) → tidy_line (10 ∷ []) s line ≡ line ++ 10 ∷ [] → behind s line ≡ t → tidied_lines t lines [] ≡ text_of_lines lines
    → tidied_lines s (line ∷ lines) [] ≡ text_of_lines (line ∷ lines)
same_line s t line lines written place rest =
    ap₂ (λ (x : List ℕ) (u : Stand). x ++ tidied_lines u lines []) written place ∙ ap (λ (l : List ℕ). (line ++ 10 ∷ []) ++ l) rest

-- at a place where an empty line is written
zero_written : (bits : List Bool) → closed_by (10 ∷ []) (Some (map zero_x (plain (bit_line bits)))) ≡ bit_line bits ++ 10 ∷ []
zero_written bits = ap (λ (l : List ℕ). l ++ 10 ∷ []) (zero_bits bits)

-- and where none is
some_written : (b : Bool) (bits : List Bool) → tidy_line (10 ∷ []) (at place.Frames) (bit_line (b ∷ bits)) ≡ bit_line (b ∷ bits) ++ 10 ∷ []
some_written b bits =
    ap (λ (w : List ℕ). closed_by (10 ∷ []) (if is_nothing w then None else Some (map zero_x w))) (plain_bits (b ∷ bits))
    ∙ ap (λ (l : List ℕ). l ++ 10 ∷ []) (zero_digits (bit_line (b ∷ bits)) (bits_are_digits (b ∷ bits)))

behind_frame : (bits : List Bool) → behind (at place.Frames) (bit_line bits) ≡ at place.Frames
behind_frame bits = ap (behind_words (at place.Frames)) (plain_bits bits) ∙ rw (no_end bits) refl

-- ---- frames

abbrev frames_and_end : List (List Bool) → List (List ℕ)
frames_and_end frames = map bit_line frames ++ codes "." ∷ []

none_left : (frames : List (List Bool)) → AllByRecursion (λ bits. length bits ≡ 0) frames → tidied_lines (at place.Empties) (frames_and_end frames) [] ≡ text_of_lines (frames_and_end frames)
none_left [] all = refl
none_left ([] ∷ frames) all = same_line (at place.Empties) (at place.Empties) [] (frames_and_end frames) refl refl (none_left frames all.1)
none_left ((b ∷ bs) ∷ frames) all = absurd (omega (arith, all.0))

some_left : (n : ℕ) (frames : List (List Bool)) → 0 < n → AllByRecursion (λ bits. length bits ≡ n) frames → tidied_lines (at place.Frames) (frames_and_end frames) [] ≡ text_of_lines (frames_and_end frames)
some_left n [] some all = refl
some_left n ([] ∷ frames) some all = absurd (omega (arith, all.0))
some_left n ((b ∷ bs) ∷ frames) some all = same_line (at place.Frames) (at place.Frames) (bit_line (b ∷ bs)) (frames_and_end frames) (some_written b bs) (behind_frame (b ∷ bs)) (some_left n frames some all.1)

behind_first : (b : Bool) (bits : List Bool) → behind (at place.First) (bit_line (b ∷ bits)) ≡ at place.Frames
behind_first b bits = ap (behind_words (at place.First)) (plain_bits (b ∷ bits)) ∙ rw (no_end (b ∷ bits)) refl

all_frames : (n : ℕ) (frames : List (List Bool)) → frames ≢ [] → AllByRecursion (λ bits. length bits ≡ n) frames → tidied_lines (at place.First) (frames_and_end frames) [] ≡ text_of_lines (frames_and_end frames)
all_frames n [] some all = absurd (some refl)
all_frames n ([] ∷ frames) some all =
    same_line (at place.First) (at place.Empties) [] (frames_and_end frames) refl refl (none_left frames (subst (λ (m : ℕ). AllByRecursion (λ (bits : List Bool). length bits ≡ m) frames) (sym all.0) all.1))
all_frames n ((b ∷ bs) ∷ frames) some all =
    let above : 0 < n = omega (arith, all.0) in
    same_line (at place.First) (at place.Frames) (bit_line (b ∷ bs)) (frames_and_end frames) (zero_written (b ∷ bs)) (behind_first b bs) (some_left n frames above all.1)

-- ---- all lines

claim_written : (i : ℕ) → i < 2 ^ 64 → tidy_line (10 ∷ []) (at place.BitClaim) (claim i) ≡ claim i ++ 10 ∷ []
claim_written i lt =
    ap (λ (w : List ℕ). closed_by (10 ∷ []) (if is_nothing w then None else Some w)) (plain_word (claim i) (marked_word 98 i (omega arith) lt).none)

behind_claim : (i : ℕ) → i < 2 ^ 64 → behind (at place.BitClaim) (claim i) ≡ at place.Initial
behind_claim i lt = ap (behind_words (at place.BitClaim)) (plain_word (claim i) (marked_word 98 i (omega arith) lt).none)

lines_same : (n : ℕ) (w : BitWitness) → w.claim < 2 ^ 64 → w.frames ≢ [] → AllByRecursion (λ bits. length bits ≡ n) w.frames → tidied_lines (at place.Front) (bit_witness_lines w) [] ≡ text_of_lines (bit_witness_lines w)
lines_same n w lt some all =
    let frames = all_frames n w.frames some all in
    let initial = same_line (at place.Initial) (at place.First) (bit_line w.initial) (frames_and_end w.frames) (zero_written w.initial) refl frames in
    let claims = same_line (at place.BitClaim) (at place.Initial) (claim w.claim) (bit_line w.initial ∷ frames_and_end w.frames) (claim_written w.claim lt) (behind_claim w.claim lt) initial in
    same_line (at place.Front) (at place.BitClaim) (codes "1") (claim w.claim ∷ (bit_line w.initial ∷ frames_and_end w.frames)) refl refl claims

-- ---- a text

each_frame : (frames : List (List Bool)) → EachLine (frames_and_end frames)
each_frame [] = (refl, tt)
each_frame (bits ∷ frames) = (bits_are_a_line bits, each_frame frames)

-- lines of a text that are tidied already
pub text_same : (lines : List (List ℕ)) (text : List ℕ) → text ≡ text_of_lines lines → EachLine lines → tidied_lines (at place.Front) lines [] ≡ text_of_lines lines → tidied 1 text ≡ text
unfolding tidied
text_same lines text is each same =
    ap₂ (λ (l : List (List ℕ)) (rest : List ℕ). tidied_lines (at place.Front) l rest) (ap whole_lines is ∙ lines_of_text lines each) (ap unfinished is ∙ unfinished_of_text lines)
    ∙ same ∙ sym is

pub bits_same : (c : Circuit) (text : List ℕ) (w : BitWitness) → IsCircuit c → BitSays c text w → tidied 1 text ≡ text
bits_same c text w circuit says =
    let small : length c.bads < 2 ^ 64 = omega (arith, circuit.few.bads) in
    let lt : w.claim < 2 ^ 64 = omega (arith, says.valid.claim) in
    let each : EachLine (bit_witness_lines w) = (refl, (decimal_without 10 w.claim (omega arith) lt, (bits_are_a_line w.initial, each_frame w.frames))) in
    text_same (bit_witness_lines w) text says.whole each
    (lines_same c.inputs w lt says.valid.some_frame (recursion_from_All (λ (bits : List Bool). length bits ≡ c.inputs) w.frames says.valid.frames))
