-- What is written in the ascii form stands for the circuit that was written.
use Rattle.std.proofs.Common.{◌≡◌, ℕ, zero, suc, ◌+◌, ◌*◌, ◌≤◌, List, [], ◌∷◌, length, All, None, refl, sym, subst, arith}
use Rattle.std.specs.List.Sorted.{IsStrictlySortedBy}
use Rattle.std.proofs.lemmas.List.Elements.{All-nil, All-cons, All-head, All-tail}
use Rattle.aiger.specs.declared.circuit.Gate.{Gate}
use Rattle.aiger.specs.declared.circuit.Latch.{Latch}
use Rattle.aiger.specs.Net.{variables, AreOrderedFrom}
use Rattle.aiger.specs.Circuit.{Circuit, IsCircuit, IsNamed, net}
use Rattle.aigerlists.specs.Loose.{IsLoose}
use Rattle.aigerlists.specs.OwnLists.{own_input_lines, own_latches, own_gates, own_lists}
use Rattle.aigerlists.specs.Renumbering.{IsRenumbered, IsNumberingOf}
use Rattle.aigertext.specs.declared.reading.counts.Counts.{Counts}
use Rattle.aigertext.specs.declared.forms.Form.TheVariants.{Ascii}
use Rattle.aigertext.specs.Ascii.{numbers_line, header, reset_numbers, input_lines, all_names}
use Rattle.aigertext.specs.Binary.{latches_text, gates_text, ascii_text, circuit_text}
use Rattle.aigertext.specs.Counts.{counts_in, counts_of_file}
use Rattle.aigertext.specs.Spelling.{AreLines, IsHeader, IsInputLine, IsLatchLine, IsGateLine, AreUpTo, IsAsciiText}
use Rattle.aigertext.proofs.StandsLemmas.{circuit_up_to, nexts_below}
use Rattle.aigertext.proofs.WrittenLemmas.{written_header, written_reset, written_end}

-- ---- lines

pub written_inputs : (first n : ℕ) → AreLines IsInputLine (own_input_lines first n) (input_lines first n)
written_inputs first zero = refl
written_inputs first (suc n) = (numbers_line (2 * first ∷ []), (input_lines (suc first) n, (refl, refl, written_inputs (suc first) n)))

written_latches : (first : ℕ) (ls : List Latch) → AreLines IsLatchLine (own_latches first ls) (latches_text Ascii first ls)
written_latches first [] = refl
written_latches first (l ∷ ls) = (
  numbers_line (2 * first ∷ l.next ∷ reset_numbers (2 * first) l.reset),
  (
    latches_text Ascii (suc first) ls,
    (
      refl,
      record { reset = reset_numbers (2 * first) l.reset; is_reset = written_reset (2 * first) l.reset; spelled = refl },
      written_latches (suc first) ls,
    ),
  ),
)

pub written_gates : (first : ℕ) (gs : List Gate) → AreLines IsGateLine (own_gates first gs) (gates_text Ascii first gs)
written_gates first [] = refl
written_gates first (g ∷ gs) = (numbers_line (2 * first ∷ g.rhs0 ∷ g.rhs1 ∷ []), (gates_text Ascii (suc first) gs, (refl, refl, written_gates (suc first) gs)))

-- ---- literals

inputs_up_to : (m first n : ℕ) → first + n ≤ suc m → All (λ k. k ≤ 2 * m + 1) (own_input_lines first n)
inputs_up_to m first zero few = All-nil (λ k. k ≤ 2 * m + 1)
inputs_up_to m first (suc n) few = All-cons (λ k. k ≤ 2 * m + 1) (2 * first) (own_input_lines (suc first) n) (omega (arith, few)) (inputs_up_to m (suc first) n (omega (arith, few)))

latches_up_to : (m first : ℕ) (ls : List Latch) → first + length ls ≤ suc m → All (λ l. l.next ≤ 2 * m + 1) ls → All (λ line. (line.current ≤ 2 * m + 1) × (line.next ≤ 2 * m + 1)) (own_latches first ls)
latches_up_to m first [] few h = All-nil (λ line. (line.current ≤ 2 * m + 1) × (line.next ≤ 2 * m + 1))
latches_up_to m first (l ∷ ls) few h =
    All-cons (λ line. (line.current ≤ 2 * m + 1) × (line.next ≤ 2 * m + 1)) (record { current = 2 * first; next = l.next; reset = l.reset }) (own_latches (suc first) ls)
    (omega (arith, few), All-head (λ (l : Latch). l.next ≤ 2 * m + 1) l ls h) (latches_up_to m (suc first) ls (omega (arith, few)) (All-tail (λ (l : Latch). l.next ≤ 2 * m + 1) l ls h))

gates_up_to : (m first : ℕ) (gs : List Gate) → first + length gs ≤ suc m → AreOrderedFrom first gs → All (λ line. (line.lhs ≤ 2 * m + 1) × (line.rhs0 ≤ 2 * m + 1) × (line.rhs1 ≤ 2 * m + 1)) (own_gates first gs)
gates_up_to m first [] few h = All-nil (λ line. (line.lhs ≤ 2 * m + 1) × (line.rhs0 ≤ 2 * m + 1) × (line.rhs1 ≤ 2 * m + 1))
gates_up_to m first (g ∷ gs) few h =
    All-cons (λ line. (line.lhs ≤ 2 * m + 1) × (line.rhs0 ≤ 2 * m + 1) × (line.rhs1 ≤ 2 * m + 1)) (record { lhs = 2 * first; rhs0 = g.rhs0; rhs1 = g.rhs1 }) (own_gates (suc first) gs)
    (omega (arith, few), omega (arith, few, h.0), omega (arith, few, h.0, h.1)) (gates_up_to m (suc first) gs (omega (arith, few)) h.2)

-- ---- the text

-- a circuit without its names is one
bare_valid : (c : Circuit) → IsCircuit c → IsCircuit (record c { names = [] })
unfolding IsStrictlySortedBy
bare_valid c valid = record {
  small = valid.small;
  few = record { outputs = valid.few.outputs; bads = valid.few.bads; constraints = valid.few.constraints; justice = valid.few.justice; justice_literals = valid.few.justice_literals; fair = valid.few.fair };
  ordered = valid.ordered;
  defined = record { nexts = valid.defined.nexts; outputs = valid.defined.outputs; bads = valid.defined.bads; constraints = valid.defined.constraints; justice = valid.defined.justice; fair = valid.defined.fair };
  names = record { sorted = tt; named = All-nil (IsNamed (record c { names = [] })) };
}

-- the laws of a circuit's own lists
abbrev pub OwnValid : Type 0
OwnValid = (c : Circuit) → IsCircuit c → IsLoose (own_lists c)

abbrev pub OwnNumbered : Type 0
OwnNumbered = (c : Circuit) → IsCircuit c → IsRenumbered (own_lists c) c

abbrev pub OwnNumbering : Type 0
OwnNumbering = (c : Circuit) → IsCircuit c → IsNumberingOf (own_lists c) c None

abbrev pub OwnMany : Type 0
OwnMany = (c : Circuit) → (length (own_lists c).inputs ≡ c.inputs) × (length (own_lists c).latches ≡ length c.latches) × (length (own_lists c).gates ≡ length c.gates)

module _ (own_valid : OwnValid) (own_numbered : OwnNumbered) (own_many : OwnMany) (c : Circuit) (valid : IsCircuit c) where
  same_counts : counts_of_file (variables (net c)) (own_lists (record c { names = [] })) ≡ counts_in c
  same_counts = let many = own_many c in rw (many.0, many.1, many.2) refl

  pub up_to : AreUpTo (2 * variables (net c) + 1) (own_lists (record c { names = [] }))
  up_to =
      let uses = circuit_up_to c valid in
      record {
        inputs = inputs_up_to (variables (net c)) 1 c.inputs (omega arith);
        latches = latches_up_to (variables (net c)) (suc c.inputs) c.latches (omega arith) (nexts_below (net c) c.latches valid.defined.nexts);
        outputs = uses.outputs;
        bads = uses.bads;
        constraints = uses.constraints;
        justice = uses.justice;
        fair = uses.fair;
        gates = gates_up_to (variables (net c)) (suc (c.inputs + length c.latches)) c.gates (omega arith) valid.ordered;
      }

  pub written_ascii : IsAsciiText (ascii_text c) c
  unfolding circuit_text
  written_ascii =
      let bare = bare_valid c valid in
      let many = own_many c in
      record {
        lists = own_lists (record c { names = [] });
        valid = own_valid (record c { names = [] }) bare;
        unnamed = refl;
        greatest = variables (net c);
        small = valid.small;
        enough = omega (arith, many.0, many.1, many.2);
        literals = up_to;
        header = header Ascii c;
        is_header = subst (λ (h : Counts). IsHeader Ascii h (header Ascii c)) (sym same_counts) (written_header Ascii c);
        inputs = input_lines 1 c.inputs;
        are_inputs = written_inputs 1 c.inputs;
        latches = latches_text Ascii (suc c.inputs) c.latches;
        are_latches = written_latches (suc c.inputs) c.latches;
        gates = gates_text Ascii (suc (c.inputs + length c.latches)) c.gates;
        are_gates = written_gates (suc (c.inputs + length c.latches)) c.gates;
        end = all_names c;
        is_end = written_end c valid;
        is_renumbered = own_numbered (record c { names = [] }) bare;
        whole = refl;
      }
