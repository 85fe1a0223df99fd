-- How the lines that frames are restored to are read over the circuit: all are admitted, or as many as a witness may have.
use Rattle.std.proofs.Common.{◌≡◌, ℕ, zero, suc, ◌+◌, ◌-◌, ◌<◌, ◌≤◌, min, Bool, true, false, List, [], ◌∷◌, ◌++◌, Option, Some, Ok, Err, codes, length, map, take, All, refl, sym, ap, subst, ◌∙◌, arith, append_assoc, append-nil, inl, inr}
use Rattle.std.specs.List.{AllByRecursion}
use Rattle.std.proofs.lemmas.Bool.{cases_lt, le-leb}
use Rattle.std.proofs.lemmas.List.Elements.{recursion_from_All}
use Rattle.base.specs.Lines.{text_of_lines, whole_lines, unfinished}
use Rattle.base.proofs.LineLemmas.{EachLine, lines_of_text}
use Rattle.base.proofs.DecimalLemmas.{decimal_without}
use Rattle.aiger.specs.Circuit.{Circuit, IsCircuit}
use Rattle.engine_form.specs.EngineForm.{begins, input_count}
use Rattle.witness.specs.declared.judgement.Judgement.TheVariants as judgement
use Rattle.witness.specs.declared.why.Why.{Why}
use Rattle.witness.specs.declared.why.Why.TheVariants as why
use Rattle.witness.specs.Texts.{claim, most_lines}
use Rattle.witness.specs.Readings.{Reading, so_far, next_line, lines_behind, lines_read, reading, read_or_fault}
use Rattle.witness.specs.BitTexts.{bit_line}
use Rattle.witness.specs.BitAdmits.{BitRead, admitted_lines, AtClaim, AtInitial, AtFirst, AtLater, AtDone, no_line_read, is_done, bit_admit, bit_reader, read_bit_text, bit_witness_of}
use Rattle.witness.specs.BitJudgements.{makes_no_bit_claim, JudgesBits, BitJudges}
use Rattle.witness.proofs.BitReadLemmas.{bits_read, header_line, claim_line, initial_line, first_frame_line, frame_line, bits_are_a_line}
use Rattle.witness.proofs.JudgedLemmas.{read_judged}
use Rattle.witness.proofs.ReadingLemmas.{stopped, stays, line_admitted}
use Rattle.restore.specs.FormWitness.{restored_frame_lines, last_line}
use Rattle.restore.specs.Restored.{opening, written_frames}
use Rattle.restore.proofs.RestoredLemmas.{begins_length}
use Rattle.restore.proofs.RiseLemmas.{is_witness}

-- ---- line by line

-- of so many lines as many are admitted as may be there, and these say so much
pub record Goes (g : Reading BitRead) (many i : ℕ) (initial : List Bool) (frames : List (List Bool)) : Type 0 where
  pub admitted : g.admitted ≡ min many most_lines
  pub claim : g.read.claim ≡ i
  pub initial_bits : g.read.initial ≡ initial
  pub frames_are : g.read.frames ≡ frames
  pub too_long : most_lines < many → g.refused ≡ Some why.TooLong

-- behind as many as may be there none is admitted
full : (c : Circuit) (n : ℕ) (r : BitRead) (line : List ℕ) (lines : List (List ℕ)) → n ≡ most_lines → lines_behind (bit_reader c) (so_far n r) (line ∷ lines) ≡ stopped n r why.TooLong
unfolding next_line
full c n r line lines is =
    let next : next_line (bit_reader c) (so_far n r) line ≡ stopped n r why.TooLong = rw (le-leb most_lines n (omega (arith, is))) refl in
    ap (λ (g : Reading BitRead). lines_behind (bit_reader c) g lines) next ∙ stays (bit_reader c) n r why.TooLong lines

full_goes : (c : Circuit) (n i : ℕ) (initial : List Bool) (before : List (List Bool)) (line : List ℕ) (lines : List (List ℕ)) (frames : List (List Bool)) → n ≡ most_lines → before ≡ frames
    → Goes (lines_behind (bit_reader c) (so_far n (bits_read AtLater i initial before)) (line ∷ lines)) (n + suc (length lines)) i initial frames
full_goes c n i initial before line lines frames is same =
    subst (λ (g : Reading BitRead). Goes g (n + suc (length lines)) i initial frames) (sym (full c n (bits_read AtLater i initial before) line lines is))
    (record { admitted = omega (arith, is); claim = refl; initial_bits = refl; frames_are = same; too_long = λ h. refl })

-- a line before them is admitted
one_more : (c : Circuit) (n many i : ℕ) (r next : BitRead) (initial : List Bool) (frames : List (List Bool)) (line : List ℕ) (lines : List (List ℕ)) → n < most_lines → bit_admit c r line ≡ Ok next → Goes (lines_behind (bit_reader c) (so_far (n + 1) next) lines) many i initial frames
    → Goes (lines_behind (bit_reader c) (so_far n r) (line ∷ lines)) many i initial frames
one_more c n many i r next initial frames line lines room is later = subst (λ (g : Reading BitRead). Goes (lines_behind (bit_reader c) g lines) many i initial frames) (sym (line_admitted (bit_reader c) n r line next room is)) later

end_admitted : (c : Circuit) (i : ℕ) (initial : List Bool) (before : List (List Bool)) → bit_admit c (bits_read AtLater i initial before) (codes ".") ≡ Ok (bits_read AtDone i initial before)
unfolding bit_admit
end_admitted c i initial before = refl

-- no line follows, or the last one
last_goes : (c : Circuit) (i : ℕ) (initial : List Bool) (before frames : List (List Bool)) (n : ℕ) (b : Bool) → n ≤ most_lines → before ≡ frames → Goes (lines_behind (bit_reader c) (so_far n (bits_read AtLater i initial before)) (last_line b)) (n + length (last_line b)) i initial frames
last_goes c i initial before frames n false few same = record { admitted = omega (arith, few); claim = refl; initial_bits = refl; frames_are = same; too_long = λ h. absurd (omega (arith, few, h)) }
last_goes c i initial before frames n true few same = elim (cases_lt n most_lines) [
  | inl room ↦ one_more c n (n + 1) i (bits_read AtLater i initial before) (bits_read AtDone i initial before) initial frames (codes ".") [] room (end_admitted c i initial before)
      (record { admitted = omega (arith, room); claim = refl; initial_bits = refl; frames_are = same; too_long = λ h. absurd (omega (arith, room, h)) })
  | inr above ↦ full_goes c n i initial before (codes ".") [] frames (omega (arith, few, above)) same
]

frames_go : (c : Circuit) (i : ℕ) (initial : List Bool) (before more : List (List Bool)) (n : ℕ) (b : Bool) → n ≤ most_lines → AllByRecursion (λ bits. length bits ≡ c.inputs) more
    → Goes (lines_behind (bit_reader c) (so_far n (bits_read AtLater i initial before)) (map bit_line more ++ last_line b)) (n + length (map bit_line more ++ last_line b)) i initial (before ++ take (most_lines - n) more)
frames_go c i initial before [] n b few wide = last_goes c i initial before (before ++ take (most_lines - n) []) n b few (sym (append-nil before) ∙ ap (λ (l : List (List Bool)). before ++ l) (sym (none_taken (most_lines - n))))
  where
    none_taken : (n : ℕ) → let none : List (List Bool) = [] in take n none ≡ none
    none_taken zero = refl
    none_taken (suc n) = refl
frames_go c i initial before (bits ∷ more) n b few wide =
    elim (cases_lt n most_lines) [
      | inl room ↦
          let some : most_lines - n ≡ suc (most_lines - (n + 1)) = omega (arith, room) in
          let number : n + 1 + length (map bit_line more ++ last_line b) ≡ n + suc (length (map bit_line more ++ last_line b)) = omega arith in
          let frames : (before ++ bits ∷ []) ++ take (most_lines - (n + 1)) more ≡ before ++ take (most_lines - n) (bits ∷ more) =
          append_assoc before (bits ∷ []) (take (most_lines - (n + 1)) more) ∙ ap (λ (m : ℕ). before ++ take m (bits ∷ more)) (sym some) in
          one_more c n (n + suc (length (map bit_line more ++ last_line b))) i (bits_read AtLater i initial before) (bits_read AtLater i initial (before ++ bits ∷ [])) initial (before ++ take (most_lines - n) (bits ∷ more)) (bit_line bits) (map bit_line more ++ last_line b) room (frame_line c i initial before bits wide.0)
          (subst (λ (m : ℕ). Goes (lines_behind (bit_reader c) (so_far (n + 1) (bits_read AtLater i initial (before ++ bits ∷ []))) (map bit_line more ++ last_line b)) m i initial (before ++ take (most_lines - n) (bits ∷ more))) number
          (subst (λ (fs : List (List Bool)). Goes (lines_behind (bit_reader c) (so_far (n + 1) (bits_read AtLater i initial (before ++ bits ∷ []))) (map bit_line more ++ last_line b)) (n + 1 + length (map bit_line more ++ last_line b)) i initial fs) frames
          (frames_go c i initial (before ++ bits ∷ []) more (n + 1) b (omega (arith, room)) wide.1)))
      | inr above ↦
          let is : n ≡ most_lines = omega (arith, few, above) in
          let none : most_lines - n ≡ 0 = omega (arith, is) in
          full_goes c n i initial before (bit_line bits) (map bit_line more ++ last_line b) (before ++ take (most_lines - n) (bits ∷ more)) is (sym (append-nil before) ∙ ap (λ (m : ℕ). before ++ take m (bits ∷ more)) (sym none))
    ]

-- of no text none is
pub nothing_admitted : (c : Circuit) → admitted_lines c [] ≡ min 0 most_lines
unfolding reading
nothing_admitted c = refl

-- ---- all lines

module _ (c : Circuit) (k : ℕ) (bits : List Bool) (more : List (List Bool)) (b : Bool) (circuit : IsCircuit c) (below : k < length c.bads) (all : All (λ bits. length bits ≡ input_count c) (bits ∷ more)) where
  abbrev given : List (List Bool)
  given = bits ∷ more

  abbrev lines : List (List ℕ)
  lines = restored_frame_lines c k given ++ last_line b

  each_frame : (frames : List (List Bool)) (b : Bool) → EachLine (map bit_line frames ++ last_line b)
  each_frame [] true = (refl, tt)
  each_frame [] false = tt
  each_frame (frame ∷ frames) b = (bits_are_a_line frame, each_frame frames b)

  pub each_line : EachLine lines
  each_line = (refl, (decimal_without 10 k (omega arith) (omega (arith, below, circuit.few.bads)), (bits_are_a_line (begins c given), each_frame (written_frames c k given) b)))

  goes : Goes (lines_read (bit_reader c) lines) (length lines) k (begins c given) (take (most_lines - 3) (written_frames c k given))
  goes = by (written_frames c k given) refl
    where
      wide : AllByRecursion (λ bits. length bits ≡ c.inputs) (written_frames c k given)
      wide = recursion_from_All (λ bits. length bits ≡ c.inputs) (written_frames c k given) (is_witness c k given below (λ e. absurd cc) all).frames

      by : (frames : List (List Bool)) → written_frames c k given ≡ frames → Goes (lines_read (bit_reader c) lines) (length lines) k (begins c given) (take (most_lines - 3) (written_frames c k given))
      by [] is = absurd (cc is)
      by (frame ∷ frames) is =
          let wide' = subst (AllByRecursion (λ bits. length bits ≡ c.inputs)) is wide in
          let last : List (List ℕ) = map bit_line frames ++ last_line b in
          let initial : List Bool = begins c given in
          let counted : 4 + length last ≡ length (codes "1" ∷ (claim k ∷ (bit_line initial ∷ (bit_line frame ∷ last)))) = omega arith in
          subst (λ (fs : List (List Bool)). Goes (lines_read (bit_reader c) (opening c k given ++ (map bit_line fs ++ last_line b))) (length (opening c k given ++ (map bit_line fs ++ last_line b))) k initial (take (most_lines - 3) fs)) (sym is)
          (subst (λ (m : ℕ). Goes (lines_read (bit_reader c) (codes "1" ∷ (claim k ∷ (bit_line initial ∷ (bit_line frame ∷ last))))) m k initial (take (most_lines - 3) (frame ∷ frames))) counted
          (one_more c 0 (4 + length last) k no_line_read (bits_read AtClaim 0 [] []) initial (take (most_lines - 3) (frame ∷ frames)) (codes "1") (claim k ∷ (bit_line initial ∷ (bit_line frame ∷ last))) (omega arith) (header_line c)
          (one_more c 1 (4 + length last) k (bits_read AtClaim 0 [] []) (bits_read AtInitial k [] []) initial (take (most_lines - 3) (frame ∷ frames)) (claim k) (bit_line initial ∷ (bit_line frame ∷ last)) (omega arith) (claim_line c k (omega (arith, circuit.few.bads)) below)
          (one_more c 2 (4 + length last) k (bits_read AtInitial k [] []) (bits_read AtFirst k initial []) initial (take (most_lines - 3) (frame ∷ frames)) (bit_line initial) (bit_line frame ∷ last) (omega arith) (initial_line c k initial (begins_length c given))
          (one_more c 3 (4 + length last) k (bits_read AtFirst k initial []) (bits_read AtLater k initial (frame ∷ [])) initial (take (most_lines - 3) (frame ∷ frames)) (bit_line frame) last (omega arith) (first_frame_line c k initial frame wide'.0)
          (frames_go c k initial (frame ∷ []) frames 4 b (omega arith) wide'.1))))))

  -- their text
  module _ (text : List ℕ) (is : text ≡ text_of_lines lines) where
    pub whole : whole_lines text ≡ lines
    whole = ap whole_lines is ∙ lines_of_text lines each_line

    reads : reading (bit_reader c) text ≡ lines_read (bit_reader c) lines
    unfolding reading
    reads = ap (lines_read (bit_reader c)) whole

    pub text_goes : Goes (reading (bit_reader c) text) (length lines) k (begins c given) (take (most_lines - 3) (written_frames c k given))
    text_goes = subst (λ (g : Reading BitRead). Goes g (length lines) k (begins c given) (take (most_lines - 3) (written_frames c k given))) (sym reads) goes

    pub too_long_judged : most_lines < length lines → BitJudges c text (judgement.Malformed (most_lines + 1) why.TooLong)
    too_long_judged many =
        let g : Reading BitRead = reading (bit_reader c) text in
        let full = text_goes.admitted in
        let all : g.admitted ≡ most_lines = omega (arith, full, many) in
        read_judged (λ (r : BitRead). JudgesBits c (bit_witness_of r)) (makes_no_bit_claim (whole_lines text)) (read_bit_text c text) (Err (record { line = most_lines + 1; why = why.TooLong })) (judgement.Malformed (most_lines + 1) why.TooLong) (ap makes_no_bit_claim whole)
        (ap (λ (o : Option Why). read_or_fault (λ (r : BitRead). is_done r.place) g (unfinished text) o) (text_goes.too_long many) ∙ ap (λ (n : ℕ). Err (record { line = n + 1; why = why.TooLong })) all) refl
