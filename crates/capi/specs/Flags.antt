-- What flags and positions of exported calls say.
use Rattle.std.specs.Prelude.{ℕ, Bool, true, false, List, Option, None, Some, decimal}
use Rattle.aigertext.specs.declared.forms.Form.{Form}
use Rattle.aigertext.specs.declared.forms.Form.TheVariants as form
use Rattle.certificates.specs.declared.proof_form.ProofForm.{ProofForm}
use Rattle.certificates.specs.declared.proof_form.ProofForm.TheVariants as proof
use Rattle.vcd.specs.declared.scope.Shown.{Shown}
use Rattle.vcd.specs.declared.scope.Shown.TheVariants as shown
use Rattle.invocation.specs.declared.tasks.Certificate.{Certificate}
use Rattle.invocation.specs.declared.tasks.Certificate.TheVariants as certificate
use Rattle.invocation.specs.declared.tasks.Certified.{Certified}
use Rattle.invocation.specs.declared.tasks.Given.{Given}
use Rattle.invocation.specs.declared.tasks.Given.TheVariants as given

-- the form of a circuit that is asked for
abbrev pub form_asked : Bool → Form
form_asked true = form.Binary
form_asked false = form.Ascii

-- the form of a proof that is said to be in LRAT, or is not
abbrev pub proof_form : Bool → ProofForm
proof_form true = proof.Hinted
proof_form false = proof.Plain

-- which nodes a dump shows
abbrev pub shown_of : Bool → Shown
shown_of true = shown.All
shown_of false = shown.Named

-- the bad property that is chosen, where one is
abbrev pub choice_of : Bool → ℕ → Option ℕ
choice_of true position = Some position
choice_of false position = None

-- the word that asks for it, as the program is asked
abbrev pub word_asked : Bool → ℕ → Option (List ℕ)
word_asked true position = Some (decimal position)
word_asked false position = None

-- what a text gives that is said to be in AIGER, or is not
abbrev pub given_of : Bool → Given
given_of true = given.Circuit
given_of false = given.Model

-- a witness circuit of an engine form, or of the circuit
abbrev pub guard_of : Bool → Certificate
guard_of true = certificate.CircuitOfForm
guard_of false = certificate.Circuit

-- what a certificate of a kind is about: the bad property at a position, of a text that is said to be in AIGER, or is not
abbrev pub about : Bool → Certificate → ℕ → Certified
about aiger kind position = record { given = given_of aiger; by = kind; choice = Some position }
