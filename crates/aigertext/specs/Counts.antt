-- The numbers of a header: of which circuit or file they are, and what holds of those that are read.
use Rattle.std.specs.Prelude.{◌≡◌, ℕ, ◌+◌, ◌≤◌, List, [], ◌∷◌, length}
use Rattle.aiger.specs.Limits.{greatest_count}
use Rattle.aiger.specs.Net.{variables}
use Rattle.aiger.specs.Circuit.{Circuit, net}
use Rattle.aigerlists.specs.Loose.{Loose, sections_of}
use Rattle.aigertext.specs.declared.reading.counts.Counts.{Counts}
use Rattle.aigertext.specs.declared.forms.Form.{Form}
use Rattle.aigertext.specs.declared.forms.Form.TheVariants.{Ascii, Binary}

-- each number is at most 2 ^ 30
pub record AreSmall (h : Counts) : Type 0 where
  pub variables : h.variables ≤ greatest_count
  pub inputs : h.inputs ≤ greatest_count
  pub latches : h.latches ≤ greatest_count
  pub outputs : h.outputs ≤ greatest_count
  pub gates : h.gates ≤ greatest_count
  pub bads : h.bads ≤ greatest_count
  pub constraints : h.constraints ≤ greatest_count
  pub justice : h.justice ≤ greatest_count
  pub fair : h.fair ≤ greatest_count

-- the greatest variable is the sum of inputs, latches and gates, or in the ascii form at least that
abbrev pub Fits : Form → Counts → Type 0
Fits Ascii h = h.inputs + h.latches + h.gates ≤ h.variables
Fits Binary h = h.variables ≡ h.inputs + h.latches + h.gates

-- the first five numbers of a header, and the last four
abbrev pub first_of_counts : Counts → List ℕ
first_of_counts h = h.variables ∷ h.inputs ∷ h.latches ∷ h.outputs ∷ h.gates ∷ []

abbrev pub last_of_counts : Counts → List ℕ
last_of_counts h = h.bads ∷ h.constraints ∷ h.justice ∷ h.fair ∷ []

-- the numbers of sections, beside which there are so many variables, inputs, latches and gates
abbrev pub counts_by : ℕ → ℕ → ℕ → ℕ → Circuit → Counts
counts_by greatest inputs latches gates c =
    record {
      variables = greatest;
      inputs = inputs;
      latches = latches;
      outputs = length c.outputs;
      gates = gates;
      bads = length c.bads;
      constraints = length c.constraints;
      justice = length c.justice;
      fair = length c.fair;
    }

-- the numbers of a circuit
abbrev pub counts_in : Circuit → Counts
counts_in c = counts_by (variables (net c)) c.inputs (length c.latches) (length c.gates) c

-- the numbers of the lists of a file with this greatest variable
abbrev pub counts_of_file : ℕ → Loose → Counts
counts_of_file greatest l = counts_by greatest (length l.inputs) (length l.latches) (length l.gates) (sections_of l)
