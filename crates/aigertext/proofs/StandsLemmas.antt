-- A binary text that stands for a circuit is read as it, and what is written stands for what was written.
use Rattle.std.proofs.Common.{◌≡◌, ℕ, suc, ◌+◌, ◌*◌, ◌^◌, ◌<◌, ◌≤◌, List, [], ◌∷◌, ◌++◌, length, Result, Ok, refl, sym, ap, ◌∙◌, append_assoc, arith, Err, subst}
use Rattle.std.specs.Prelude.{All}
use Rattle.std.specs.List.{concat, sum_by}
use Rattle.std.proofs.lemmas.List.Elements.{All-weaker, All-nil, All-head, All-tail, All-append}
use Rattle.aiger.specs.declared.circuit.Latch.{Latch}
use Rattle.aiger.specs.Limits.{greatest_count}
use Rattle.aiger.specs.Net.{Net, variables, IsDefined}
use Rattle.aiger.specs.Circuit.{Circuit, IsCircuit, net}
use Rattle.aiger.proofs.SectionNameLemmas.{few_positions}
use Rattle.aigertext.specs.declared.reading.counts.Counts.{Counts}
use Rattle.aigertext.specs.declared.fault.Stop.{Stop}
use Rattle.aigertext.specs.Counts.{counts_in}
use Rattle.aigertext.specs.Ascii.{property_lines, literal_lines, size_lines}
use Rattle.aigertext.specs.Binary.{gates_text}
use Rattle.aigertext.specs.Spelling.{IsBinaryText}
use Rattle.aigertext.specs.Reading.{Properties, properties_at, nameless, binary_at, names_at, line_at, header_of}
use Rattle.aigertext.specs.AsciiReading.{AnswersHeader, AnswersText}
use Rattle.aigertext.specs.declared.forms.Form.{Form}
use Rattle.aigertext.specs.declared.forms.Form.TheVariants.{Binary}
use Rattle.aigertext.proofs.GateLemmas.{gates-read}
use Rattle.aigertext.proofs.HeaderLemmas.{circuit_counts, header-read}
use Rattle.aigertext.proofs.NameTextLemmas.{counts_kept}
use Rattle.aigertext.proofs.NameReadLemmas.{HasFewPositions, names-read}
use Rattle.aigertext.proofs.PropertyLemmas.{literals-read, justice-read, list_lines-concat, nexts-read}

-- a literal that is defined is at most the greatest one
defined_below : (n : Net) (l : ℕ) → IsDefined n l → l ≤ 2 * variables n + 1
defined_below n l h = omega (arith, h)

all_below : (n : Net) (ls : List ℕ) → All (IsDefined n) ls → All (λ l. l ≤ 2 * variables n + 1) ls
all_below n ls h = All-weaker (IsDefined n) (λ l. l ≤ 2 * variables n + 1) (defined_below n) ls h

lists_below : (n : Net) (lists : List (List ℕ)) → All (All (IsDefined n)) lists → All (λ l. l ≤ 2 * variables n + 1) (concat lists)
lists_below n [] h = All-nil (λ l. l ≤ 2 * variables n + 1)
lists_below n (ls ∷ lists) h =
    All-append (λ l. l ≤ 2 * variables n + 1) ls (concat lists) (all_below n ls (All-head (All (IsDefined n)) ls lists h)) (lists_below n lists (All-tail (All (IsDefined n)) ls lists h))

pub nexts_below : (n : Net) (ls : List Latch) → All (λ l. IsDefined n l.next) ls → All (λ l. l.next ≤ 2 * variables n + 1) ls
nexts_below n ls h = All-weaker (λ l. IsDefined n l.next) (λ l. l.next ≤ 2 * variables n + 1) (λ l d. defined_below n l.next d) ls h

-- the properties of a circuit
abbrev pub properties_in : Circuit → Properties
properties_in c =
    record {
      outputs = c.outputs;
      bads = c.bads;
      constraints = c.constraints;
      justice = c.justice;
      fair = c.fair;
    }

pub property_text : (c : Circuit) (rest : List ℕ)
    → property_lines c ++ rest ≡ literal_lines c.outputs ++ (literal_lines c.bads ++ (literal_lines c.constraints ++ (size_lines c.justice ++ (literal_lines (concat c.justice) ++ (literal_lines c.fair ++ rest)))))
property_text c rest = rw (← list_lines-concat c.justice) (simp append_assoc)

-- the properties of a circuit are at most the greatest literal
pub record HasUpTo (greatest : ℕ) (c : Circuit) : Type 0 where
  pub outputs : All (λ l. l ≤ greatest) c.outputs
  pub bads : All (λ l. l ≤ greatest) c.bads
  pub constraints : All (λ l. l ≤ greatest) c.constraints
  pub justice : All (λ l. l ≤ greatest) (concat c.justice)
  pub fair : All (λ l. l ≤ greatest) c.fair

-- the properties of a circuit are read again, whatever the other numbers of the header are
pub properties-read : (variables inputs latches gates : ℕ) (c : Circuit) (rest : List ℕ) → variables ≤ greatest_count → HasUpTo (2 * variables + 1) c → sum_by length c.justice ≤ greatest_count
    → properties_at
    (record { variables = variables; inputs = inputs; latches = latches; outputs = length c.outputs; gates = gates; bads = length c.bads; constraints = length c.constraints; justice = length c.justice; fair = length c.fair })
    (property_lines c ++ rest)
    ≡ Ok (properties_in c, rest)
unfolding properties_at
properties-read variables inputs latches gates c rest few below few_literals =
    let small : 2 * variables + 1 < 2 ^ 64 = omega (arith, few) in
    let five = literal_lines c.fair ++ rest in
    let four = literal_lines (concat c.justice) ++ five in
    let three = size_lines c.justice ++ four in
    let two = literal_lines c.constraints ++ three in
    let one = literal_lines c.bads ++ two in
    let outputs = literals-read (2 * variables + 1) c.outputs one below.outputs small in
    let bads = literals-read (2 * variables + 1) c.bads two below.bads small in
    let constraints = literals-read (2 * variables + 1) c.constraints three below.constraints small in
    let justice = justice-read (2 * variables + 1) c.justice five below.justice small few_literals in
    let fair = literals-read (2 * variables + 1) c.fair rest below.fair small in
    ap (properties_at (record { variables = variables; inputs = inputs; latches = latches; outputs = length c.outputs; gates = gates; bads = length c.bads; constraints = length c.constraints; justice = length c.justice; fair = length c.fair })) (property_text c rest)
    ∙ (rw (outputs, bads, constraints, justice, fair) refl)

pub circuit_up_to : (c : Circuit) → IsCircuit c → HasUpTo (2 * variables (net c) + 1) c
circuit_up_to c valid = record {
  outputs = all_below (net c) c.outputs valid.defined.outputs;
  bads = all_below (net c) c.bads valid.defined.bads;
  constraints = all_below (net c) c.constraints valid.defined.constraints;
  justice = lists_below (net c) c.justice valid.defined.justice;
  fair = all_below (net c) c.fair valid.defined.fair;
}

pub few_in : (c : Circuit) → IsCircuit c → HasFewPositions (record c { names = [] })
few_in c valid s = omega (arith, counts_kept s c [], few_positions s c valid)

-- what stands behind the header
body-read : (c : Circuit) (text : List ℕ) (t : IsBinaryText text c)
    → binary_at (counts_in c) (t.latches ++ (property_lines c ++ (gates_text Binary (suc (c.inputs + length c.latches)) c.gates ++ t.end))) ≡ Ok c
unfolding binary_at
body-read c text t =
    let valid = t.valid in
    let few : c.inputs + length c.latches + length c.gates ≤ greatest_count = valid.small in
    let third = gates_text Binary (suc (c.inputs + length c.latches)) c.gates ++ t.end in
    let second = property_lines c ++ third in
    let nexts = nexts-read (2 * variables (net c) + 1) (2 * suc c.inputs) c.latches t.latches second t.are_latches (nexts_below (net c) c.latches valid.defined.nexts) (omega (arith, few)) (omega arith) (omega (arith, few)) in
    let properties = properties-read (variables (net c)) c.inputs (length c.latches) (length c.gates) c third valid.small (circuit_up_to c valid) valid.few.justice_literals in
    let gates = gates-read (suc (c.inputs + length c.latches)) c.gates t.end valid.ordered (omega (arith, few)) in
    let names : names_at (nameless c.inputs c.latches (properties_in c) c.gates) t.end ≡ Ok c =
    ap (names_at (record c { names = [] })) t.is_end.spelled
    ∙ names-read (record c { names = [] }) t.is_end.given c t.is_end.comment (few_in c valid) t.is_end.names t.is_end.is_comment in
    rw (nexts, properties, gates) names

pub stands-read : (text : List ℕ) (c : Circuit) → IsBinaryText text c → AnswersText text (Ok c)
unfolding AnswersText
stands-read text c t =
    let behind = t.latches ++ (property_lines c ++ (gates_text Binary (suc (c.inputs + length c.latches)) c.gates ++ t.end)) in
    let header = ap (line_at header_of) t.whole ∙ header-read Binary (counts_in c) t.header behind t.is_header (circuit_counts c t.valid) refl in
    subst (λ (r : Result ((Form × Counts) × List ℕ) Stop). AnswersHeader r (Ok c)) (sym header) (sym (body-read c text t))

-- two circuits that are read are the same, and none is a stop
abbrev circuit_or : Circuit → Result Circuit Stop → Circuit
circuit_or c (Ok d) = d
circuit_or c (Err e) = c

pub ok_circuit : (c d : Circuit) → ◌≡◌ {A = Result Circuit Stop} (Ok c) (Ok d) → c ≡ d
ok_circuit c d e = ap (circuit_or c) e

abbrev is_read : Result Circuit Stop → Type 0
is_read (Ok c) = Unit {0}
is_read (Err e) = ⊥

pub not_stopped : (c : Circuit) (e : Stop) → ◌≡◌ {A = Result Circuit Stop} (Ok c) (Err e) → ⊥
not_stopped c e is = subst is_read is tt
