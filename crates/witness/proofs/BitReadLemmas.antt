-- Witnesses of circuits: a text that says one is read as it, what is read was said, and which whole lines further lines make a witness.
use Rattle.std.proofs.Common.{◌≡◌, ◌↔◌, ℕ, suc, ◌<◌, ◌≤◌, ◌^◌, ◌==◌, nat_lt, Bool, true, false, ◌&&◌, ◌||◌, List, [], ◌∷◌, ◌++◌, Option, Some, None, Result, Ok, Err, IfOk, map, length, codes, append_assoc, refl, sym, ap, ap₂, subst, ◌∙◌, arith, inl, inr, All, length-append, ◌+◌, replicate}
use Rattle.std.specs.List.{list_any, list_all, AllByRecursion}
use Rattle.std.specs.Str.{bytes_eq}
use Rattle.std.proofs.lemmas.Bool.{cases_Bool, and_parts, eqb-true, eq-eqb, ltb-true, lt-ltb}
use Rattle.std.proofs.lemmas.List.{length-map, append-nil, map-append, length-replicate}
use Rattle.std.proofs.lemmas.Slice.Eq.{bytes_eq-Decides}
use Rattle.std.proofs.lemmas.Result.{IfOk-at_ok}
use Rattle.std.proofs.lemmas.List.Elements.{recursion_from_All, All-push, All-nil, All-from_recursion}
use Rattle.base.specs.Lines.{text_of_lines, IsLine, whole_lines, unfinished}
use Rattle.base.proofs.LineLemmas.{EachLine, lines_of_text, unfinished_of_text, parts_of_text}
use Rattle.base.proofs.DecimalLemmas.{chosen, number_of-decimal, decimal_without}
use Rattle.aiger.specs.declared.circuit.Latch.{Latch}
use Rattle.aiger.specs.declared.circuit.Reset.{Reset}
use Rattle.aiger.specs.declared.circuit.Reset.TheVariants.{Zero, One, Free}
use Rattle.aiger.specs.Circuit.{Circuit, IsCircuit}
use Rattle.aiger.specs.Trace.{AgreesWithReset, AreInitial}
use Rattle.witness.specs.declared.why.Why.{Why}
use Rattle.witness.specs.Texts.{digit, claim, most_lines}
use Rattle.witness.specs.Readings.{next_line, lines_read, reading}
use Rattle.witness.specs.Admits.{Claim, claim_of, is_value_byte}
use Rattle.witness.specs.BitTexts.{BitWitness, bit_line, bit_witness_lines, IsBitWitness, BitSays}
use Rattle.witness.specs.BitAdmits.{judged_claim, claim_at, bits_at, BitPlace, AtClaim, AtInitial, AtFirst, AtLater, AtDone, BitRead, no_line_read, after_frame, bit_admit, is_done, bit_reader, read_bit_text, bit_witness_of, AtHeader, bit_admit_at, admitted_lines}
use Rattle.witness.specs.BitJudgements.{differs_from_reset, first_reset_differing, makes_no_bit_claim}
use Rattle.witness.proofs.ReadingLemmas.{by_test, admit_all, admit_parts, admitted, stopped, stays, text_is_read, text_was_read, Ends, no_more_lines, one_line, more_lines, Begins, admitted_begins, before_begins, none_begins, beginning_is_admitted as reading_is_admitted}
use Rattle.witness.proofs.PieceLemmas.{digits_are_values, digits_determine, bits_of_digits, digits_of_bits}
use Rattle.witness.proofs.ClaimLemmas.{piece_is_claim}
use Rattle.witness.specs.Beginnings.{IsBitBeginning}
use Rattle.witness.specs.declared.why.Why.TheVariants as why
use Rattle.witness.proofs.StepWords.{after_claim, after_initial}

-- ---- single lines

-- a line of bits is read as them
pub bits_at-bit_line : (count : ℕ) (bits : List Bool) → length bits ≡ count → bits_at count (bit_line bits) ≡ Ok bits
bits_at-bit_line count bits h =
    let long : (length (bit_line bits) == count) ≡ true = eq-eqb (length (bit_line bits)) count (length-map bits digit ∙ h) in
    rw (long, digits_are_values bits, digits_determine bits) (ap Ok (bits_of_digits bits))

pub record AreBitsOf (count : ℕ) (line : List ℕ) (bits : List Bool) : Type 0 where
  pub spelled : line ≡ bit_line bits
  pub many : length bits ≡ count
  pub are : bits ≡ map (λ b. b == 49) line

-- and a line that is read as bits is theirs
pub bits_are_line : (count : ℕ) (line : List ℕ) (bits : List Bool) → bits_at count line ≡ Ok bits → AreBitsOf count line bits
bits_are_line count line bits h =
    IfOk-at_ok (AreBitsOf count line) h
    (by_test (AreBitsOf count line) ((length line == count) && list_all is_value_byte line) _ _
    (λ e.
    let parts = and_parts (length line == count) (list_all is_value_byte line) e in
    by_test (AreBitsOf count line) (list_any (λ b. b == 120) line) _ _ (λ d. tt)
    (λ d. record { spelled = sym (digits_of_bits line parts.1 d); many = length-map line (λ b. b == 49) ∙ eqb-true (length line) count parts.0; are = refl }))
    (λ e. tt))

-- a line of bits is not the last line
pub bits_are_no_end : (bits : List Bool) → bytes_eq (bit_line bits) (codes ".") ≡ false
bits_are_no_end [] = refl
bits_are_no_end (true ∷ bits) = refl
bits_are_no_end (false ∷ bits) = refl

-- a claim is read as it
pub claim_at-claim : (bads i : ℕ) → i < bads → bads < 2 ^ 64 → claim_at bads (claim i) ≡ Ok i
claim_at-claim bads i below small = rw (number_of-decimal i (omega arith), lt-ltb i bads below) refl

pub record IsClaimOf (bads : ℕ) (line : List ℕ) (i : ℕ) : Type 0 where
  pub spelled : line ≡ claim i
  pub below : i < bads

pub claim_is_line : (bads : ℕ) (line : List ℕ) (i : ℕ) → bads < 2 ^ 64 → claim_at bads line ≡ Ok i → IsClaimOf bads line i
claim_is_line bads line i small h = IfOk-at_ok (IsClaimOf bads line) h (by (claim_of line) refl)
  where
    by : (o : Option Claim) → claim_of line ≡ o → IfOk (judged_claim bads o) (IsClaimOf bads line)
    by None of = tt
    by (Some c) of =
        by_test (IsClaimOf bads line) c.justice _ _ (λ e. tt)
        (λ e. by_test (IsClaimOf bads line) (nat_lt c.index bads) _ _ (λ d. let below = ltb-true c.index bads d in record { spelled = piece_is_claim line c of e (omega (arith, below)); below = below }) (λ d. tt))

-- ---- what is read at each place

abbrev pub bits_read : BitPlace → ℕ → List Bool → List (List Bool) → BitRead
bits_read place i initial frames = record { place = place; claim = i; initial = initial; frames = frames }

-- the lines of frames, and the last
abbrev frame_lines_and_end : List (List Bool) → List (List ℕ)
frame_lines_and_end frames = map bit_line frames ++ codes "." ∷ []

pub header_line : (c : Circuit) → bit_admit c no_line_read (codes "1") ≡ Ok (bits_read AtClaim 0 [] [])
unfolding bit_admit
header_line c = refl

pub claim_line : (c : Circuit) (i : ℕ) → length c.bads < 2 ^ 64 → i < length c.bads → bit_admit c (bits_read AtClaim 0 [] []) (claim i) ≡ Ok (bits_read AtInitial i [] [])
unfolding bit_admit
claim_line c i small below = rw (claim_at-claim (length c.bads) i below small) refl

module _ (c : Circuit) (i : ℕ) (initial : List Bool) where
  pub initial_line : length initial ≡ length c.latches → bit_admit c (bits_read AtInitial i [] []) (bit_line initial) ≡ Ok (bits_read AtFirst i initial [])
  unfolding bit_admit
  initial_line many = rw (bits_at-bit_line (length c.latches) initial many) refl

  pub first_frame_line : (bits : List Bool) → length bits ≡ c.inputs → bit_admit c (bits_read AtFirst i initial []) (bit_line bits) ≡ Ok (bits_read AtLater i initial (bits ∷ []))
  unfolding bit_admit
  first_frame_line bits many = rw (bits_are_no_end bits, bits_at-bit_line c.inputs bits many) refl

  pub frame_line : (before : List (List Bool)) (bits : List Bool) → length bits ≡ c.inputs → bit_admit c (bits_read AtLater i initial before) (bit_line bits) ≡ Ok (bits_read AtLater i initial (before ++ bits ∷ []))
  unfolding bit_admit
  frame_line before bits many = rw (bits_are_no_end bits, bits_at-bit_line c.inputs bits many) refl

  pub end_line : (frames : List (List Bool)) → bit_admit c (bits_read AtLater i initial frames) (codes ".") ≡ Ok (bits_read AtDone i initial frames)
  unfolding bit_admit
  end_line frames = refl

  frames_read : (before more : List (List Bool)) → AllByRecursion (λ bits. length bits ≡ c.inputs) more
      → admit_all (bit_reader c) (bits_read AtLater i initial before) (frame_lines_and_end more) ≡ Ok (bits_read AtDone i initial (before ++ more))
  frames_read before [] many =
      admitted (bit_reader c) (bits_read AtLater i initial before) (codes ".") (bits_read AtDone i initial before) [] (end_line before)
      ∙ ap (λ (frames : List (List Bool)). Ok (bits_read AtDone i initial frames)) (sym (append-nil before))
  frames_read before (bits ∷ more) many =
      admitted (bit_reader c) (bits_read AtLater i initial before) (bit_line bits) (bits_read AtLater i initial (before ++ bits ∷ [])) (frame_lines_and_end more) (frame_line before bits many.0)
      ∙ (frames_read (before ++ bits ∷ []) more many.1 ∙ ap (λ (frames : List (List Bool)). Ok (bits_read AtDone i initial frames)) (append_assoc before (bits ∷ []) more))

  all_frames_read : (frames : List (List Bool)) → (frames ≡ [] → ⊥) → AllByRecursion (λ bits. length bits ≡ c.inputs) frames
      → admit_all (bit_reader c) (bits_read AtFirst i initial []) (frame_lines_and_end frames) ≡ Ok (bits_read AtDone i initial frames)
  all_frames_read [] some many = absurd (some refl)
  all_frames_read (bits ∷ more) some many =
      admitted (bit_reader c) (bits_read AtFirst i initial []) (bit_line bits) (bits_read AtLater i initial (bits ∷ [])) (frame_lines_and_end more) (first_frame_line bits many.0)
      ∙ frames_read (bits ∷ []) more many.1

abbrev pub all_bits_read : BitWitness → BitRead
all_bits_read w = bits_read AtDone w.claim w.initial w.frames

-- all lines of a witness are read
witness_read : (c : Circuit) (w : BitWitness) → length c.bads < 2 ^ 64 → IsBitWitness c w → admit_all (bit_reader c) no_line_read (bit_witness_lines w) ≡ Ok (all_bits_read w)
witness_read c w small valid =
    let frames = frame_lines_and_end w.frames in
    admitted (bit_reader c) no_line_read (codes "1") (bits_read AtClaim 0 [] []) (claim w.claim ∷ (bit_line w.initial ∷ frames)) (header_line c)
    ∙ (admitted (bit_reader c) (bits_read AtClaim 0 [] []) (claim w.claim) (bits_read AtInitial w.claim [] []) (bit_line w.initial ∷ frames) (claim_line c w.claim small valid.claim)
    ∙ (admitted (bit_reader c) (bits_read AtInitial w.claim [] []) (bit_line w.initial) (bits_read AtFirst w.claim w.initial []) frames (initial_line c w.claim w.initial valid.initial)
    ∙ all_frames_read c w.claim w.initial w.frames valid.some_frame (recursion_from_All (λ bits. length bits ≡ c.inputs) w.frames valid.frames)))

-- ---- no line has a byte 10

pub bits_are_a_line : (bits : List Bool) → IsLine (bit_line bits)
bits_are_a_line [] = refl
bits_are_a_line (true ∷ bits) = bits_are_a_line bits
bits_are_a_line (false ∷ bits) = bits_are_a_line bits

pub frames_are_lines : (frames : List (List Bool)) → EachLine (frame_lines_and_end frames)
frames_are_lines [] = (refl, tt)
frames_are_lines (bits ∷ frames) = (bits_are_a_line bits, frames_are_lines frames)

-- ---- the whole text

-- a text that says a witness is read as it
pub bit_says_read : (c : Circuit) (text : List ℕ) (w : BitWitness) → IsCircuit c → BitSays c text w → read_bit_text c text ≡ Ok (all_bits_read w)
bit_says_read c text w circuit says =
    let small : length c.bads < 2 ^ 64 = omega (arith, circuit.few.bads) in
    let lines : List (List ℕ) = bit_witness_lines w in
    let lt : w.claim < 2 ^ 64 = omega (arith, says.valid.claim) in
    let each : EachLine lines = (refl, (decimal_without 10 w.claim (omega arith) lt, (bits_are_a_line w.initial, frames_are_lines w.frames))) in
    let whole : whole_lines text ≡ lines = ap whole_lines says.whole ∙ lines_of_text lines each in
    let rest : unfinished text ≡ [] = ap unfinished says.whole ∙ unfinished_of_text lines in
    text_is_read (bit_reader c) text (all_bits_read w) (ap (admit_all (bit_reader c) no_line_read) whole ∙ witness_read c w small says.valid) refl rest (omega (arith, says.few, ap length whole))

-- ---- what is read was said

-- the lines that are read as this
abbrev lines_of : BitRead → BitPlace → List (List ℕ)
lines_of r AtHeader = []
lines_of r AtClaim = codes "1" ∷ []
lines_of r AtInitial = codes "1" ∷ (claim r.claim ∷ [])
lines_of r AtDone = bit_witness_lines (bit_witness_of r)
lines_of r _ = codes "1" ∷ (claim r.claim ∷ (bit_line r.initial ∷ map bit_line r.frames))

abbrev Fits : Circuit → BitRead → BitPlace → Type 0
Fits c r AtHeader = r.frames ≡ []
Fits c r AtClaim = r.frames ≡ []
Fits c r AtInitial = (r.claim < length c.bads) × (r.frames ≡ [])
Fits c r AtFirst = (r.claim < length c.bads) × (length r.initial ≡ length c.latches) × (r.frames ≡ [])
Fits c r _ = IsBitWitness c (bit_witness_of r)

-- what is read of lines is what they say
record Told (c : Circuit) (lines : List (List ℕ)) (r : BitRead) (at : BitPlace) : Type 0 where
  spelled : lines ≡ lines_of r at
  fits : Fits c r at

module _ (c : Circuit) (small : length c.bads < 2 ^ 64) (lines : List (List ℕ)) (line : List ℕ) (r : BitRead) where
  abbrev Tells : BitRead → Type 0
  Tells s = Told c (lines ++ line ∷ []) s s.place

  behind : (front : List (List ℕ)) (same : List ℕ) → lines ≡ front → line ≡ same → lines ++ line ∷ [] ≡ front ++ same ∷ []
  behind front same whole is = ap₂ (λ (ls : List (List ℕ)) (l : List ℕ). ls ++ l ∷ []) whole is

  frame_told : (o : Result (List Bool) Why) → bits_at c.inputs line ≡ o → lines ≡ lines_of r AtLater → r.claim < length c.bads → length r.initial ≡ length c.latches → All (λ bits. length bits ≡ c.inputs) r.frames → IfOk (after_frame r o) Tells
  frame_told (Ok bits) is spelled below many all =
      let are = bits_are_line c.inputs line bits is in
      record {
        spelled =
            behind (lines_of r AtLater) (bit_line bits) spelled are.spelled
            ∙ ap (λ (ls : List (List ℕ)). codes "1" ∷ (claim r.claim ∷ (bit_line r.initial ∷ ls))) (sym (map-append bit_line r.frames (bits ∷ [])));
        fits = record { claim = below; initial = many; some_frame = λ e. omega (arith, ap length e, length-append r.frames (bits ∷ [])); frames = All-push (λ bits. length bits ≡ c.inputs) r.frames bits all are.many };
      }
  frame_told (Err w) is spelled below many all = tt

  line_told : (at : BitPlace) → Told c lines r at → IfOk (bit_admit_at c r line at) Tells
  line_told AtHeader told = by_test Tells (bytes_eq line (codes "1")) _ _ (λ e. record { spelled = behind [] (codes "1") told.spelled ((bytes_eq-Decides line (codes "1")).0 e); fits = told.fits }) (λ e. tt)
  line_told AtClaim told = by (claim_at (length c.bads) line) refl
    where
      by : (o : Result ℕ Why) → claim_at (length c.bads) line ≡ o → IfOk (after_claim r o) Tells
      by (Ok i) is = let one = claim_is_line (length c.bads) line i small is in record { spelled = behind (codes "1" ∷ []) (claim i) told.spelled one.spelled; fits = (one.below, told.fits) }
      by (Err w) is = tt
  line_told AtInitial told = by (bits_at (length c.latches) line) refl
    where
      by : (o : Result (List Bool) Why) → bits_at (length c.latches) line ≡ o → IfOk (after_initial r o) Tells
      by (Ok bits) is =
          let are = bits_are_line (length c.latches) line bits is in
          record {
            spelled = behind (codes "1" ∷ (claim r.claim ∷ [])) (bit_line bits) told.spelled are.spelled ∙ ap (λ (fs : List (List Bool)). codes "1" ∷ (claim r.claim ∷ (bit_line bits ∷ map bit_line fs))) (sym told.fits.1);
            fits = (told.fits.0, are.many, told.fits.1);
          }
      by (Err w) is = tt
  line_told AtFirst told =
      by_test Tells (bytes_eq line (codes ".")) _ _ (λ e. tt)
      (λ e. frame_told (bits_at c.inputs line) refl told.spelled told.fits.0 told.fits.1 (subst (All (λ bits. length bits ≡ c.inputs)) (sym told.fits.2) (All-nil (λ bits. length bits ≡ c.inputs))))
  line_told AtLater told =
      by_test Tells (bytes_eq line (codes ".")) _ _
      (λ e. record { spelled = behind (lines_of r AtLater) (codes ".") told.spelled ((bytes_eq-Decides line (codes ".")).0 e); fits = told.fits })
      (λ e. frame_told (bits_at c.inputs line) refl told.spelled told.fits.claim told.fits.initial told.fits.frames)
  line_told AtDone told = tt

lines_told : (c : Circuit) (before lines : List (List ℕ)) (r final : BitRead) → length c.bads < 2 ^ 64 → Told c before r r.place → admit_all (bit_reader c) r lines ≡ Ok final → Told c (before ++ lines) final final.place
unfolding bit_admit
lines_told c before [] r final small told h =
    let is : r ≡ final = cc in
    subst (λ (s : BitRead). Told c (before ++ []) s s.place) is (subst (λ (ls : List (List ℕ)). Told c ls r r.place) (sym (append-nil before)) told)
lines_told c before (line ∷ lines) r final small told h =
    let parts = admit_parts (bit_admit c r line) (λ next. admit_all (bit_reader c) next lines) final h in
    subst (λ (ls : List (List ℕ)). Told c ls final final.place) (append_assoc before (line ∷ []) lines)
    (lines_told c (before ++ line ∷ []) lines parts.0 final small (IfOk-at_ok (Tells c small before line r) parts.1.0 (line_told c small before line r r.place told)) parts.1.1)

-- the last line was read
pub done : (at : BitPlace) → is_done at ≡ true → at ≡ AtDone
done AtDone h = refl
done _ h = absurd cc

-- a text that is read says what it is read as
pub bit_read_says : (c : Circuit) (text : List ℕ) (r : BitRead) → IsCircuit c → read_bit_text c text ≡ Ok r → BitSays c text (bit_witness_of r)
bit_read_says c text r circuit h =
    let were = text_was_read (bit_reader c) text r h in
    let all = lines_told c [] (whole_lines text) no_line_read r (omega (arith, circuit.few.bads)) (record { spelled = refl; fits = refl }) were.all in
    let told : Told c (whole_lines text) r AtDone = subst (Told c (whole_lines text) r) (done r.place were.done) all in
    let whole : text ≡ text_of_lines (whole_lines text) =
    sym (parts_of_text text) ∙ (ap (λ (rest : List ℕ). text_of_lines (whole_lines text) ++ rest) were.rest ∙ append-nil (text_of_lines (whole_lines text))) in
    record { whole = whole ∙ ap text_of_lines told.spelled; valid = told.fits; few = subst (λ (ls : List (List ℕ)). length ls ≤ most_lines) told.spelled were.few }

-- a text says one witness
pub bit_says_one : (c : Circuit) (text : List ℕ) (w v : BitWitness) → IsCircuit c → BitSays c text w → BitSays c text v → w ≡ v
bit_says_one c text w v circuit first second =
    let one = bit_says_read c text w circuit first in
    let other = bit_says_read c text v circuit second in
    let same : all_bits_read w ≡ all_bits_read v = cc in
    ap bit_witness_of same

-- ---- no claim

-- a first line that says so is no status of a witness
other_header : (line : List ℕ) → (bytes_eq line (codes "0") || bytes_eq line (codes "2")) ≡ true → bytes_eq line (codes "1") ≡ false
other_header line h =
    elim (cases_Bool (bytes_eq line (codes "0"))) [
      | inl e ↦ ap (λ (l : List ℕ). bytes_eq l (codes "1")) ((bytes_eq-Decides line (codes "0")).0 e)
      | inr e ↦
          let two : bytes_eq line (codes "2") ≡ true = rw e at h in
          ap (λ (l : List ℕ). bytes_eq l (codes "1")) ((bytes_eq-Decides line (codes "2")).0 two)
    ]

refused_first : (c : Circuit) (lines : List (List ℕ)) → makes_no_bit_claim lines ≡ true → lines_read (bit_reader c) lines ≡ stopped 0 no_line_read why.BadHeader
unfolding next_line bit_admit
refused_first c [] h = absurd cc
refused_first c (line ∷ lines) h = rw (other_header line h) (stays (bit_reader c) 0 no_line_read why.BadHeader lines)

-- so it is refused
pub no_claim_is_refused : (c : Circuit) (text : List ℕ) → makes_no_bit_claim (whole_lines text) ≡ true → reading (bit_reader c) text ≡ stopped 0 no_line_read why.BadHeader
unfolding reading
no_claim_is_refused c text h = refused_first c (whole_lines text) h

-- ---- initial bits

-- a bit that is not that of its reset, by both definitions
agrees : (reset : Reset) (b : Bool) → differs_from_reset reset b ≡ false → AgreesWithReset reset b
agrees Zero b h = h
agrees One true h = refl
agrees One false h = absurd cc
agrees Free b h = tt

does_not_differ : (reset : Reset) (b : Bool) → AgreesWithReset reset b → differs_from_reset reset b ≡ false
does_not_differ Zero b h = h
does_not_differ One b h = rw h refl
does_not_differ Free b h = refl

none_differs : (k : ℕ) (latches : List Latch) (bits : List Bool) → length bits ≡ length latches → first_reset_differing k latches bits ≡ None → AreInitial latches bits
none_differs k [] [] many h = tt
none_differs k [] (b ∷ bits) many h = absurd (omega (arith, many))
none_differs k (l ∷ latches) [] many h = absurd (omega (arith, many))
none_differs k (l ∷ latches) (b ∷ bits) many h =
    elim (chosen (differs_from_reset l.reset b) (Some k) (first_reset_differing (suc k) latches bits) None h) [
      | inl e ↦ absurd (cc (e.1))
      | inr e ↦ (agrees l.reset b e.0, none_differs (suc k) latches bits (omega (arith, many)) e.1)
    ]

all_agree : (k : ℕ) (latches : List Latch) (bits : List Bool) → AreInitial latches bits → first_reset_differing k latches bits ≡ None
all_agree k [] bits h = refl
all_agree k (l ∷ latches) [] h = refl
all_agree k (l ∷ latches) (b ∷ bits) h = rw (does_not_differ l.reset b h.0) (all_agree (suc k) latches bits h.1)

pub differ_from_no_reset : (k : ℕ) (latches : List Latch) (bits : List Bool) → length bits ≡ length latches → (first_reset_differing k latches bits ≡ None) ↔ AreInitial latches bits
differ_from_no_reset k latches bits many = (none_differs k latches bits many, all_agree k latches bits)

-- ---- the lines that end a witness

module _ (c : Circuit) (i : ℕ) (initial : List Bool) (frames : List (List Bool)) where
  behind_a_frame : Ends (bit_reader c) 1 (bits_read AtLater i initial frames)
  unfolding bit_admit
  behind_a_frame =
      one_line (bit_reader c) 0 (bits_read AtLater i initial frames) (codes ".") (bits_read AtDone i initial frames) refl refl (no_more_lines (bit_reader c) (bits_read AtDone i initial frames) refl)

behind_initial : (c : Circuit) (i : ℕ) (initial : List Bool) (frames : List (List Bool)) → Ends (bit_reader c) 2 (bits_read AtFirst i initial frames)
unfolding bit_admit
behind_initial c i initial frames =
    let bits : List Bool = replicate c.inputs false in
    one_line (bit_reader c) 1 (bits_read AtFirst i initial frames) (bit_line bits) (bits_read AtLater i initial (frames ++ bits ∷ [])) (bits_are_a_line bits)
    (rw (bits_are_no_end bits, bits_at-bit_line c.inputs bits (length-replicate c.inputs false)) refl) (behind_a_frame c i initial (frames ++ bits ∷ []))

behind_claim : (c : Circuit) (i : ℕ) (initial : List Bool) (frames : List (List Bool)) → Ends (bit_reader c) 3 (bits_read AtInitial i initial frames)
unfolding bit_admit
behind_claim c i initial frames =
    let bits : List Bool = replicate (length c.latches) false in
    one_line (bit_reader c) 2 (bits_read AtInitial i initial frames) (bit_line bits) (bits_read AtFirst i bits frames) (bits_are_a_line bits)
    (rw (bits_at-bit_line (length c.latches) bits (length-replicate (length c.latches) false)) refl) (behind_initial c i bits frames)

module _ (c : Circuit) (small : length c.bads < 2 ^ 64) (some : 0 < length c.bads) where
  behind_status : (i : ℕ) (initial : List Bool) (frames : List (List Bool)) → Ends (bit_reader c) 4 (bits_read AtClaim i initial frames)
  unfolding bit_admit
  behind_status i initial frames =
      one_line (bit_reader c) 3 (bits_read AtClaim i initial frames) (claim 0) (bits_read AtInitial 0 initial frames) (decimal_without 10 0 (omega arith) (omega arith))
      (rw (claim_at-claim (length c.bads) 0 some small) refl) (behind_claim c 0 initial frames)

  -- whatever was read
  lines_end : (place : BitPlace) (i : ℕ) (initial : List Bool) (frames : List (List Bool)) → Ends (bit_reader c) 5 (bits_read place i initial frames)
  unfolding bit_admit
  lines_end AtHeader i initial frames =
      one_line (bit_reader c) 4 (bits_read AtHeader i initial frames) (codes "1") (bits_read AtClaim i initial frames) refl refl (behind_status i initial frames)
  lines_end AtClaim i initial frames = more_lines (bit_reader c) 4 5 (bits_read AtClaim i initial frames) (omega arith) (behind_status i initial frames)
  lines_end AtInitial i initial frames = more_lines (bit_reader c) 3 5 (bits_read AtInitial i initial frames) (omega arith) (behind_claim c i initial frames)
  lines_end AtFirst i initial frames = more_lines (bit_reader c) 2 5 (bits_read AtFirst i initial frames) (omega arith) (behind_initial c i initial frames)
  lines_end AtLater i initial frames = more_lines (bit_reader c) 1 5 (bits_read AtLater i initial frames) (omega arith) (behind_a_frame c i initial frames)
  lines_end AtDone i initial frames = more_lines (bit_reader c) 0 5 (bits_read AtDone i initial frames) (omega arith) (no_more_lines (bit_reader c) (bits_read AtDone i initial frames) refl)

-- ---- whole texts

-- of a text that others make that of a witness all whole lines are admitted
pub beginning_is_admitted : (c : Circuit) (text further : List ℕ) (w : BitWitness) → IsCircuit c → BitSays c (text ++ further) w → admitted_lines c text ≡ length (whole_lines text)
beginning_is_admitted c text further w circuit says = reading_is_admitted (bit_reader c) text further (all_bits_read w) (bit_says_read c (text ++ further) w circuit says)

module _ (c : Circuit) (circuit : IsCircuit c) (some : 0 < length c.bads) where
  each_ends : (lines : List (List ℕ)) (r : BitRead) → length lines ≤ most_lines → admit_all (bit_reader c) no_line_read lines ≡ Ok r → Ends (bit_reader c) 5 r
  each_ends lines r few h = lines_end c (omega (arith, circuit.few.bads)) some r.place r.claim r.initial r.frames

  is_beginning : (text : List ℕ) → Begins (bit_reader c) 5 text → IsBitBeginning c text
  is_beginning text b =
      record {
        more = b.more;
        lines = All-from_recursion IsLine b.more b.lines;
        five = b.few;
        witness = bit_witness_of b.final;
        says = bit_read_says c (text ++ text_of_lines b.more) b.final circuit b.read;
      }

  -- whole lines that are all admitted are the beginning of a witness
  pub admitted_is_beginning : (text : List ℕ) → unfinished text ≡ [] → length (whole_lines text) + 5 ≤ most_lines → admitted_lines c text ≡ length (whole_lines text) → IsBitBeginning c text
  admitted_is_beginning text ended few all = is_beginning text (admitted_begins (bit_reader c) 5 each_ends text ended few all)

  -- the lines before the first that is not admitted are the beginning of a witness
  pub beginning_before : (text : List ℕ) (before : List (List ℕ)) (line : List ℕ) (behind : List (List ℕ)) → whole_lines text ≡ before ++ line ∷ behind
      → admitted_lines c text ≡ length before → length before + 5 ≤ most_lines → IsBitBeginning c (text_of_lines before)
  beginning_before text before line behind split count few = is_beginning (text_of_lines before) (before_begins (bit_reader c) 5 each_ends text before line behind split count few)

-- with it they are none
pub no_beginning_with : (c : Circuit) (text : List ℕ) (before : List (List ℕ)) (line : List ℕ) (behind : List (List ℕ)) (further : List ℕ) (w : BitWitness) → IsCircuit c
    → whole_lines text ≡ before ++ line ∷ behind → admitted_lines c text ≡ length before → BitSays c (text_of_lines (before ++ line ∷ []) ++ further) w → ⊥
no_beginning_with c text before line behind further w circuit split count says =
    none_begins (bit_reader c) text before line behind further (all_bits_read w) split count (bit_says_read c (text_of_lines (before ++ line ∷ []) ++ further) w circuit says)

-- how many lines a witness has
pub many_lines : (w : BitWitness) → length (bit_witness_lines w) ≡ length w.frames + 4
many_lines w =
    let behind = length-append (map bit_line w.frames) (codes "." ∷ []) in
    let many = length-map w.frames bit_line in
    omega (arith, behind, many)
