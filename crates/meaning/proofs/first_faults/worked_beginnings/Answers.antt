use Rattle.std.proofs.Common.{◌≡◌, ℕ, ◌<◌, List, [], ◌∷◌, ◌++◌, All, codes, refl, inl, inr, arith}
use Rattle.std.proofs.lemmas.List.Elements.{All-from_recursion}
use Rattle.base.specs.Decimals.{number_of, capped_value, is_decimal}
use Rattle.aiger.specs.declared.circuit.Reset.TheVariants as reset
use Rattle.aiger.specs.Circuit.{Circuit}
use Rattle.aigerlists.specs.Loose.{Loose, empty_loose}
use Rattle.aigertext.specs.declared.fault.Why.TheVariants as why
use Rattle.aigertext.specs.Worked.{nothing}
use Rattle.deltas.specs.Deltas.{number_at}
use Rattle.aigertext.specs.Reading.{stop, delta_at, gate_at, counts_at, counts_of, fitting, header_form, header_fields, next_fields, literal_on, properties_at, binary_at, fault_of}
use Rattle.aigertext.specs.AsciiReading.{lists_of_file, AnswersText}
use Rattle.meaning.proofs.FaultLemmas.{IsRefusedText, either_read, begins_no_circuit, no_delta_first}
use Rattle.meaning.proofs.AsciiFaultLemmas.{begins_no_lists}
use Rattle.meaning.proofs.first_faults.worked_beginnings.Goals as goal

-- one latch that begins with 0 and takes its negation
abbrev toggler : Circuit
toggler = record nothing { latches = record { next = 3; reset = reset.Zero } ∷ [] }

pub returns-clause-header : goal.returns-clause-header
unfolding AnswersText binary_at properties_at header_fields header_form fitting counts_of next_fields number_of capped_value is_decimal
returns-clause-header c =
    let text : List ℕ = codes "aig 1 0 1 0 0\n3\n" in
    let bytes : All (λ b. b < 256) text = All-from_recursion (λ b. b < 256) text (omega arith) in
    record { more = codes "3\n"; circuit = toggler; spells = inr (c.binary_text_that_is_read.ensures text toggler (counts_at (1 ∷ 0 ∷ 1 ∷ 0 ∷ 0 ∷ [])) (codes "3\n") bytes refl refl) }

-- a header whose counts disagree is refused, whatever follows
disagree : (more : List ℕ) → IsRefusedText why.CountsDisagree ([] ++ (codes "aig 2 1 0 0 0\n" ++ more))
unfolding AnswersText header_fields header_form fitting counts_of number_of capped_value is_decimal
disagree more = (codes "aig 2 1 0 0 0\n" ++ more, refl)

pub returns-clause-counts : goal.returns-clause-counts
returns-clause-counts c =
    begins_no_circuit c.one_answer.ensures.unique (either_read c.one_ascii_circuit.ensures.read c.one_binary_circuit.ensures.read) why.CountsDisagree [] (codes "aig 2 1 0 0 0\n") disagree

-- the lists of a file with one output, of a variable that no line defines
abbrev lists : Loose
lists = record empty_loose { outputs = 2 ∷ [] }

undefined : (more : List ℕ) → IsRefusedText why.Undefined ([] ++ (codes "aag 1 0 0 1 0\n2\n" ++ more))
unfolding AnswersText lists_of_file properties_at literal_on header_fields header_form fitting counts_of number_of capped_value is_decimal
undefined more = (codes "2\n" ++ more, inr (inl (record { line = 0; undefined = refl; is = refl })))

pub returns-clause-undefined : goal.returns-clause-undefined
returns-clause-undefined c =
    let r = undefined [] in
    record { more = []; has = inr (record { fault = fault_of (codes "aag 1 0 0 1 0\n2\n") (stop r.0 why.Undefined); is = record { stop = stop r.0 why.Undefined; stops = r.1; is = refl }; why = inl refl }) }

pub returns-clause-no_circuit : goal.returns-clause-no_circuit
returns-clause-no_circuit c =
    begins_no_circuit c.one_answer.ensures.unique (either_read c.one_ascii_circuit.ensures.read c.one_binary_circuit.ensures.read) why.Undefined [] (codes "aag 1 0 0 1 0\n2\n") undefined

too_great : (more : List ℕ) → IsRefusedText why.BadNumber ([] ++ (codes "aag 1 0 0 1 0\n4\n" ++ more))
unfolding AnswersText lists_of_file properties_at literal_on header_fields header_form fitting counts_of number_of capped_value is_decimal
too_great more = (codes "4\n" ++ more, refl)

defined : why.BadNumber ≡ why.Undefined → ⊥
defined e = cc

acyclic : why.BadNumber ≡ why.Cycle → ⊥
acyclic e = cc

pub returns-clause-too_great : goal.returns-clause-too_great
returns-clause-too_great c =
    begins_no_lists c.one_answer.ensures.unique (either_read c.one_ascii_circuit.ensures.read c.one_binary_circuit.ensures.read) why.BadNumber defined acyclic [] (codes "aag 1 0 0 1 0\n4\n") too_great

-- two inputs, and a gate of the negation of the second
abbrev gated : Circuit
gated = record nothing { inputs = 2; gates = record { rhs0 = 5; rhs1 = 5 } ∷ []; outputs = 6 ∷ [] }

pub returns-clause-gate : goal.returns-clause-gate
unfolding AnswersText binary_at properties_at literal_on gate_at delta_at number_at header_fields header_form fitting counts_of number_of capped_value is_decimal
returns-clause-gate c =
    let text : List ℕ = codes "aig 3 2 0 1 1\n6\n" ++ 1 ∷ 0 ∷ [] in
    let bytes : All (λ b. b < 256) text = All-from_recursion (λ b. b < 256) text (omega arith) in
    inr (record { more = 0 ∷ []; circuit = gated; spells = inr (c.binary_text_that_is_read.ensures text gated (counts_at (3 ∷ 2 ∷ 0 ∷ 1 ∷ 1 ∷ [])) (codes "6\n" ++ 1 ∷ 0 ∷ []) bytes refl refl) })

pub returns-clause-no_gate : goal.returns-clause-no_gate
returns-clause-no_gate c = no_delta_first c.one_answer.ensures.unique (either_read c.one_ascii_circuit.ensures.read c.one_binary_circuit.ensures.read)
