-- Names in any order and a comment are read again.
use Rattle.std.proofs.Common.{◌≡◌, ◌≢◌, ℕ, ◌^◌, ◌<◌, ◌≤◌, true, false, List, [], ◌∷◌, ◌++◌, decimal, Some, None, Ok, codes, nat_eq, refl, ap, ◌∙◌, append_assoc, inl, inr, arith}
use Rattle.std.specs.Prelude.{flat_map, is_some, if◌then◌else◌, nat_le}
use Rattle.std.specs.Str.{bytes_eq}
use Rattle.std.specs.List.{list_all}
use Rattle.std.proofs.lemmas.Bool.{cases_Bool, and_parts, ne_eqb, or_from, leb-true, leb-false}
use Rattle.base.specs.Lines.{IsLine}
use Rattle.base.proofs.DecimalLemmas.{number_of-decimal, chosen}
use Rattle.base.proofs.LineLemmas.{whole_lines-line, unfinished-line}
use Rattle.aiger.specs.declared.circuit.Section.{Section}
use Rattle.aiger.specs.declared.circuit.Section.TheVariants as section
use Rattle.aiger.specs.declared.fault.CircuitFault.TheVariants.{NoSuchPosition, NameTaken, BadName}
use Rattle.aiger.proofs.SectionNameLemmas.{section_count-with_name}
use Rattle.aiger.specs.Limits.{greatest_count}
use Rattle.aiger.specs.Circuit.{Circuit, letter, section_count, name_of, with_name, name_refusal, is_name}
use Rattle.aiger.specs.Names.{is_printable}
use Rattle.aigertext.specs.Spelling.{Given, given_line, GiveNames, IsComment}
use Rattle.aigertext.specs.Reading.{cut_at_byte, section_with_letter, name_on, names_at}
use Rattle.aigertext.proofs.FieldLemmas.{cut-found, decimal_has_none, none_of_both}

-- a name that a circuit takes
record IsTaken (c : Circuit) (g : Given) : Type 0 where
  position : g.position < section_count g.section c
  name : list_all is_printable g.name ≡ true

section_of-letter : (s : Section) → section_with_letter (letter s) ≡ Some s
unfolding section_with_letter
section_of-letter section.Input = refl
section_of-letter section.Latch = refl
section_of-letter section.Output = refl
section_of-letter section.Bad = refl
section_of-letter section.Constraint = refl
section_of-letter section.Justice = refl
section_of-letter section.Fair = refl

letter_is_none : (s : Section) → letter s ≢ 10
letter_is_none section.Input = omega arith
letter_is_none section.Latch = omega arith
letter_is_none section.Output = omega arith
letter_is_none section.Bad = omega arith
letter_is_none section.Constraint = omega arith
letter_is_none section.Justice = omega arith
letter_is_none section.Fair = omega arith

-- a line of more than one byte is no line `c`
two_bytes : (b d : ℕ) (bs : List ℕ) → bytes_eq (b ∷ d ∷ bs) (codes "c") ≡ false
two_bytes b d bs =
    elim (cases_Bool (nat_eq b 99)) [
      | inl h ↦ rw h refl
      | inr h ↦ rw h refl
    ]

not_comment : (b : ℕ) (digits rest : List ℕ) → bytes_eq (b ∷ digits ++ 32 ∷ rest) (codes "c") ≡ false
not_comment b [] rest = two_bytes b 32 rest
not_comment b (d ∷ ds) rest = two_bytes b d (ds ++ 32 ∷ rest)

-- what a circuit takes
taken : (c : Circuit) (g : Given) → name_refusal c g.section g.position g.name ≡ None → IsTaken c g
taken c g e =
    elim (chosen (nat_le (section_count g.section c) g.position) (Some NoSuchPosition) (if is_some (name_of c g.section g.position) then Some NameTaken else (if is_name g.name then None else Some BadName)) None e) [
      | inl wrong ↦ absurd cc
      | inr there ↦
          elim (chosen (is_some (name_of c g.section g.position)) (Some NameTaken) (if is_name g.name then None else Some BadName) None there.1) [
            | inl wrong ↦ absurd cc
            | inr free ↦
                elim (chosen (is_name g.name) None (Some BadName) None free.1) [
                  | inl good ↦ record { position = leb-false (section_count g.section c) g.position there.0; name = (and_parts _ _ (and_parts _ _ good.0).1).1 }
                  | inr wrong ↦ absurd cc
                ]
          ]
    ]

printable_is_line : (bytes : List ℕ) → list_all is_printable bytes ≡ true → IsLine bytes
printable_is_line [] h = refl
printable_is_line (b ∷ bs) h =
    let parts = and_parts (is_printable b) (list_all is_printable bs) h in
    let low : 32 ≤ b = leb-true 32 b (and_parts _ _ parts.0).0 in
    let other : b ≢ 10 = omega arith in
    or_from _ _ (ne_eqb b 10 other) (printable_is_line bs parts.1)

-- the line of a name, without its byte 10
abbrev name_bytes : Given → List ℕ
name_bytes g = letter g.section ∷ decimal g.position ++ 32 ∷ g.name

-- the sections of a circuit have few positions
abbrev pub HasFewPositions : Circuit → Type 0
HasFewPositions c = (s : Section) → section_count s c ≤ greatest_count

-- one name
module _ (c : Circuit) (g : Given) (few : HasFewPositions c) (e : name_refusal c g.section g.position g.name ≡ None) where
  position_is_small : g.position < 2 ^ 64
  position_is_small = omega (arith, (taken c g e).position, few g.section)

  bytes_are_line : IsLine (name_bytes g)
  bytes_are_line =
      or_from _ _ (ne_eqb (letter g.section) 10 (letter_is_none g.section))
      (none_of_both 10 (decimal g.position) (32 ∷ g.name) (decimal_has_none 10 g.position (omega arith) position_is_small)
      (printable_is_line g.name (taken c g e).name))

  name-read : name_on c (name_bytes g) ≡ Ok (with_name c g.section g.position g.name)
  unfolding name_on
  name-read =
      let found : cut_at_byte 32 (decimal g.position ++ 32 ∷ g.name) ≡ Some (decimal g.position, g.name) = cut-found 32 (decimal g.position) g.name (decimal_has_none 32 g.position (omega arith) position_is_small) in
      rw (section_of-letter g.section, found, number_of-decimal g.position position_is_small, e) refl

  step-read : (rest : List ℕ) (d : Circuit) → names_at (with_name c g.section g.position g.name) rest ≡ Ok d → names_at c (name_bytes g ++ 10 ∷ rest) ≡ Ok d
  step-read rest d more =
      rw (whole_lines-line (name_bytes g) rest bytes_are_line, unfinished-line (name_bytes g) rest, not_comment (letter g.section) (decimal g.position) g.name, name-read) more

pub few_with_name : (c : Circuit) (g : Given) → HasFewPositions c → HasFewPositions (with_name c g.section g.position g.name)
few_with_name c g few s = omega (arith, few s, section_count-with_name s c g.section g.position g.name)

-- a name's line before a text
line_of_name : (g : Given) (others rest : List ℕ) → (given_line g ++ others) ++ rest ≡ name_bytes g ++ 10 ∷ (others ++ rest)
line_of_name g others rest = simp append_assoc

pub names-read : (c : Circuit) (given : List Given) (d : Circuit) (comment : List ℕ) → HasFewPositions c → GiveNames c given d → IsComment comment → names_at c (flat_map given_line given ++ comment) ≡ Ok d
names-read c [] d comment few is (inl none) = rw none (ap (λ (x : Circuit). Ok x) is)
names-read c [] d comment few is (inr some) = rw some.1 (ap (λ (x : Circuit). Ok x) is)
names-read c (g ∷ gs) d comment few gives is_comment =
    let others = names-read (with_name c g.section g.position g.name) gs d comment (few_with_name c g few) gives.1 is_comment in
    ap (names_at c) (line_of_name g (flat_map given_line gs) comment)
    ∙ step-read c g few gives.0 (flat_map given_line gs ++ comment) d others
