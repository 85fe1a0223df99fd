use Rattle.std.proofs.Common.{◌≡◌, ℕ, ◌<◌, List, [], ◌∷◌, ◌++◌, length, get_or, codes, refl, sym, ap, subst, ◌∙◌, append_assoc, inl, inr, arith}
use Rattle.std.specs.List.{concat}
use Rattle.std.proofs.lemmas.List.Elements.{All-from_recursion}
use Rattle.base.specs.Lines.{IsLine}
use Rattle.base.specs.Decimals.{number_of, capped_value, is_decimal}
use Rattle.deltas.specs.Deltas.{number_at}
use Rattle.aigertext.specs.declared.fault.Why.TheVariants as why
use Rattle.aigertext.specs.Worked.{nothing}
use Rattle.aigertext.specs.Reading.{stop, cut_at_byte, counts_of, fitting, header_form, header_fields, literal_on, properties_at, delta_at, gate_at, binary_at}
use Rattle.aigertext.specs.AsciiReading.{lists_of_file, AnswersText, IsAsciiFaultOf}
use Rattle.meaning.specs.Pieces.{IsWholeLine, IsFaulty, IsFirstFault}
use Rattle.meaning.specs.Circuits.{SaysAscii, BeginsCircuit, IsFirstInBinary}
use Rattle.meaning.proofs.LineLemmas.{one_cut}
use Rattle.meaning.proofs.FaultLemmas.{IsReadLaw, either_read, empty_text, no_delta_first, nothing_spelled}
use Rattle.meaning.proofs.first_faults.worked_first_faults.Goals as goal

-- a text with a second byte `i`
binary_word : (rest : List ℕ) → SaysAscii (codes "aig" ++ rest) → ⊥
binary_word rest is = let second : 105 ≡ 97 = ap (λ (l : List ℕ). get_or l 1 0) is.is in omega (arith, second)

delta_fault : IsAsciiFaultOf (codes "aig 3 2 0 1 1\n6\n" ++ 130 ∷ 0 ∷ 2 ∷ []) (record { place = 16; why = why.DeltaNotShortest })
unfolding AnswersText binary_at properties_at literal_on gate_at delta_at number_at header_fields header_form fitting counts_of number_of capped_value is_decimal
delta_fault = record { stop = stop (130 ∷ 0 ∷ 2 ∷ []) why.DeltaNotShortest; stops = refl; is = refl }

pub returns-clause-delta : goal.returns-clause-delta
returns-clause-delta c =
    let text : List ℕ = codes "aig 3 2 0 1 1\n6\n" ++ 130 ∷ 0 ∷ 2 ∷ [] in
    c.first_fault_of_binary_text.ensures text (record { place = 16; why = why.DeltaNotShortest }) (All-from_recursion (λ b. b < 256) text (omega arith)) (binary_word (codes " 3 2 0 1 1\n6\n" ++ 130 ∷ 0 ∷ 2 ∷ [])) delta_fault

header_fault : IsAsciiFaultOf (codes "aig 3 2 0 1 1") (record { place = 0; why = why.Truncated })
unfolding AnswersText
header_fault = record { stop = stop (codes "aig 3 2 0 1 1") why.Truncated; stops = refl; is = refl }

pub returns-clause-header : goal.returns-clause-header
returns-clause-header c =
    let text : List ℕ = codes "aig 3 2 0 1 1" in
    c.first_fault_of_binary_text.ensures text (record { place = 0; why = why.Truncated }) (All-from_recursion (λ b. b < 256) text (omega arith)) (binary_word (codes " 3 2 0 1 1")) header_fault

line_fault : IsAsciiFaultOf (codes "aag 1 0 0 1 0\n4\n") (record { place = 14; why = why.BadNumber })
unfolding AnswersText lists_of_file properties_at literal_on header_fields header_form fitting counts_of number_of capped_value is_decimal
line_fault = record { stop = stop (codes "4\n") why.BadNumber; stops = refl; is = refl }

defined : why.BadNumber ≡ why.Undefined → ⊥
defined e = cc

acyclic : why.BadNumber ≡ why.Cycle → ⊥
acyclic e = cc

pub returns-clause-line : goal.returns-clause-line
returns-clause-line c =
    c.first_fault_of_ascii_text.ensures (codes "aag 1 0 0 1 0\n4\n") (record { place = 14; why = why.BadNumber }) (record { rest = codes " 1 0 0 1 0\n4\n"; is = refl }) line_fault defined acyclic

-- ---- a text without a fault

told : why.BadHeader ≡ why.Truncated → ⊥
told e = cc

empty_list : (xs : List ℕ) → length xs ≡ 0 → xs ≡ []
empty_list [] e = refl
empty_list (x ∷ xs) e = absurd (omega (arith, e))

-- the first line of the text is the whole text
first_line : (line rest : List ℕ) → IsLine line → codes "aig 0 0 0 0 0\n" ≡ (line ++ 10 ∷ []) ++ rest → line ≡ codes "aig 0 0 0 0 0"
first_line line rest none is =
    ap (λ (x : List ℕ × List ℕ). x.0) (one_cut 10 line rest (codes "aig 0 0 0 0 0", []) none (ap (cut_at_byte 10) (sym (append_assoc line (10 ∷ []) rest)) ∙ ap (cut_at_byte 10) (sym is)))

pub returns-clause-none : goal.returns-clause-none
unfolding IsFirstInBinary
returns-clause-none c f = by f
  where
    reads : IsReadLaw
    reads = either_read c.one_ascii_circuit.ensures.read c.one_binary_circuit.ensures.read

    before : (g : IsFirstFault IsWholeLine IsWholeLine IsLine BeginsCircuit (why.BadHeader ≡ why.Truncated) (codes "aig 0 0 0 0 0\n") 0) → concat g.pieces ≡ []
    before g = empty_list (concat g.pieces) g.is

    faulty : (g : IsFirstFault IsWholeLine IsWholeLine IsLine BeginsCircuit (why.BadHeader ≡ why.Truncated) (codes "aig 0 0 0 0 0\n") 0) → IsFaulty IsWholeLine BeginsCircuit (concat g.pieces) g.behind → ⊥
    faulty g x =
        let text : codes "aig 0 0 0 0 0\n" ≡ (x.is_piece.line ++ 10 ∷ []) ++ x.rest =
        g.parts ∙ ap (λ (l : List ℕ). l ++ g.behind) (before g) ∙ x.parts ∙ ap (λ (l : List ℕ). l ++ x.rest) x.is_piece.whole in
        let line = first_line x.is_piece.line x.rest x.is_piece.is_line text in
        let piece : concat g.pieces ++ x.piece ≡ codes "aig 0 0 0 0 0\n" = ap (λ (l : List ℕ). l ++ x.piece) (before g) ∙ x.is_piece.whole ∙ ap (λ (l : List ℕ). l ++ 10 ∷ []) line in
        x.none (subst BeginsCircuit (sym piece) (record { more = []; circuit = nothing; spells = inr (empty_text c.binary_text_that_is_read.ensures) }))

    in_line : IsFirstFault IsWholeLine IsWholeLine IsLine BeginsCircuit (why.BadHeader ≡ why.Truncated) (codes "aig 0 0 0 0 0\n") 0 → ⊥
    in_line g =
        elim g.fault [
          | inl t ↦ told t.0
          | inr x ↦ faulty g x
        ]

    by : IsFirstInBinary (why.BadHeader ≡ why.Truncated) (codes "aig 0 0 0 0 0\n") 0 → ⊥
    by (inl a) = in_line a.1
    by (inr (inl b)) = no_delta_first c.one_answer.ensures.unique reads b.0
    by (inr (inr d)) = nothing_spelled c.one_answer.ensures.unique reads d.0.0 d.0.1
