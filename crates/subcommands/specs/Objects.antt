-- The objects of JSON that tell judgements and refusals (RFC 8259; which members they have is this project's).
use Rattle.std.specs.Prelude.{ℕ, suc, Bool, true, false, not, ◌&&◌, ◌||◌, ◌==◌, ◌+◌, ◌/◌, ◌%◌, nat_le, if◌then◌else◌, List, [], ◌∷◌, ◌++◌, Option, Some, None, codes, decimal}
use Rattle.btor2text.specs.Whys.{printed_number, line_why_name}
use Rattle.aiger.specs.declared.circuit.Section.TheVariants as section
use Rattle.aiger.specs.Circuit.{Circuit, name_of}
use Rattle.aiger.specs.Refusal.{circuit_fault_number, circuit_fault_name}
use Rattle.aigertext.specs.Whys.{circuit_why_number, circuit_why_name}
use Rattle.blast.specs.declared.fault.LowerFault.{LowerFault}
use Rattle.blast.specs.declared.fault.LowerFault.TheVariants as lower
use Rattle.blast.specs.Faults.{lower_number, lower_name}
use Rattle.fitting.specs.Faults.{fit_fault_item, fit_fault_name, fit_fault_number}
use Rattle.writeout.specs.Numbers.{write_fault_item, write_fault_name, write_fault_number}
use Rattle.engine_form.specs.Faults.{engine_fault_number, engine_fault_name}
use Rattle.certificates.specs.Faults.{invariant_why_number, invariant_why_name, obligation_number, obligation_name}
use Rattle.witness_circuits.specs.Faults.{test_number, test_name}
use Rattle.drup.specs.declared.judgement.Judgement.{Judgement as Verdict}
use Rattle.drup.specs.declared.judgement.Judgement.TheVariants as verdict
use Rattle.drup.specs.Printed.{proof_why_number, proof_why_name}
use Rattle.witness.specs.declared.judgement.Judgement.{Judgement}
use Rattle.witness.specs.declared.judgement.Judgement.TheVariants as judgement
use Rattle.witness.specs.declared.fault.JudgeFault.TheVariants as judge
use Rattle.witness.specs.Answers.{judge_number, judge_name}
use Rattle.witness.specs.Printed.{why_number, why_name}
use Rattle.verbs.specs.declared.outcomes.Outcome.{Outcome}
use Rattle.verbs.specs.declared.outcomes.Outcome.TheVariants as outcome
use Rattle.verbs.specs.declared.refusals.Fault.{Fault}
use Rattle.verbs.specs.declared.refusals.Fault.TheVariants as fault
use Rattle.verbs.specs.declared.subjects.Subject.{Subject}
use Rattle.verbs.specs.declared.subjects.Subject.TheVariants as subject
use Rattle.verbs.specs.Subjects.{Name, Told, lines_told}

-- ---- strings and members

-- a digit of base 16
abbrev pub hex_digit : ℕ → ℕ
hex_digit d = if nat_le 10 d then 87 + d else 48 + d

-- a byte is printable in ASCII, and is no quotation mark and no backslash
abbrev pub is_plain : ℕ → Bool
is_plain b = (nat_le 32 b && nat_le b 126) && not (b == 34 || b == 92)

-- a byte within a string: as it is, or as the code point of its number (section 7 of the RFC). So a name may have any bytes
abbrev pub string_byte : ℕ → List ℕ
string_byte b = if is_plain b then b ∷ [] else codes "\\u00" ++ (hex_digit (b / 16) ∷ hex_digit (b % 16) ∷ [])

abbrev pub string_bytes_of : List ℕ → List ℕ
string_bytes_of [] = []
string_bytes_of (b ∷ bs) = string_byte b ++ string_bytes_of bs

-- a member of an object behind others: a number, a text
unfoldable pub number_member : List ℕ → ℕ → List ℕ
number_member key n = codes ", \"" ++ (key ++ (codes "\": " ++ decimal n))

unfoldable pub text_member : List ℕ → List ℕ → List ℕ
text_member key text = codes ", \"" ++ (key ++ (codes "\": \"" ++ (string_bytes_of text ++ codes "\"")))

-- an object on a line, which begins with a verdict
unfoldable pub object_begin : List ℕ → List ℕ
object_begin verdict = codes "{\"verdict\": \"" ++ (verdict ++ codes "\"")

unfoldable pub object_end : List ℕ
object_end = codes "}\n"

abbrev pub object : List ℕ → List ℕ → List ℕ
object verdict members = object_begin verdict ++ (members ++ object_end)

-- ---- what a judgement is about

-- the symbol or the name of something, where it has one
abbrev pub symbol_member : Option (List ℕ) → List ℕ
symbol_member None = []
symbol_member (Some symbol) = text_member (codes "symbol") symbol

-- a line of a model: its id and its symbol
abbrev pub line_members : Option Name → List ℕ
line_members None = []
line_members (Some x) = number_member (codes "id") x.id ++ symbol_member x.symbol

-- what names a bad property, a constraint, and a state or a latch by a number
pub record Names : Type 0 where
  pub bad : ℕ → List ℕ
  pub constraint : ℕ → List ℕ
  pub leaf : ℕ → List ℕ

abbrev pub line_names : Told → Names
line_names lines = record {
  bad = λ k. line_members (lines.bad k);
  constraint = λ k. line_members (lines.constraint k);
  leaf = λ k. number_member (codes "state") k ++ line_members (lines.state k);
}

abbrev pub circuit_names : Circuit → Names
circuit_names c = record {
  bad = λ k. symbol_member (name_of c section.Bad k);
  constraint = λ k. symbol_member (name_of c section.Constraint k);
  leaf = λ k. number_member (codes "latch") k ++ symbol_member (name_of c section.Latch k);
}

abbrev pub names : Subject → Names
names (subject.Model lines) = line_names (lines_told lines)
names (subject.Circuit c) = circuit_names c.now
names (subject.Lowered lines c) = record (line_names (lines_told lines)) { leaf = (circuit_names c.now).leaf }

-- a bad property
abbrev pub bad_members : Names → ℕ → List ℕ
bad_members all k = number_member (codes "bad") k ++ all.bad k

-- ---- a judgement of a witness

abbrev pub verdict_name : Judgement → List ℕ
verdict_name (judgement.Accepted frames) = codes "accepted"
verdict_name (judgement.NotReached claim) = codes "not reached"
verdict_name (judgement.Violated frame constraint) = codes "violated"
verdict_name (judgement.InitDiffers index) = codes "initial value differs"
verdict_name (judgement.Malformed line why) = codes "malformed"
verdict_name judgement.NoClaim = codes "no claim"

-- a claim that is reached first in a frame, behind another or not; and nothing of a bad property of which no frame is told
abbrev pub separator : Bool → List ℕ
separator false = []
separator true = codes ", "

unfoldable pub claim_begin : ℕ → List ℕ
claim_begin k = codes "{\"bad\": " ++ decimal k

unfoldable pub claim_end : List ℕ
claim_end = codes "}"

abbrev pub claim_object : Names → Bool → ℕ → Option ℕ → List ℕ
claim_object all behind k None = []
claim_object all behind k (Some frame) = separator behind ++ (claim_begin k ++ (number_member (codes "frame") frame ++ (all.bad k ++ claim_end)))

abbrev pub is_there : Option ℕ → Bool
is_there None = false
is_there (Some frame) = true

-- the same of the bad properties from number k on
abbrev pub claim_objects : Names → Bool → ℕ → List (Option ℕ) → List ℕ
claim_objects all behind k [] = []
claim_objects all behind k (first ∷ more) = claim_object all behind k first ++ claim_objects all (behind || is_there first) (suc k) more

-- a place that is counted, and the number and the name of what is wrong there
abbrev pub place_members : List ℕ → ℕ → List ℕ
place_members unit place = text_member (codes "unit") unit ++ number_member (codes "place") place

abbrev pub numbered_members : ℕ → List ℕ → List ℕ
numbered_members number name = number_member (codes "number") number ++ text_member (codes "name") name

abbrev pub faulty_members : List ℕ → ℕ → ℕ → List ℕ → List ℕ
faulty_members unit place number name = place_members unit place ++ numbered_members number name

unfoldable pub claims_begin : List ℕ
claims_begin = codes ", \"claims\": ["

unfoldable pub claims_end : List ℕ
claims_end = codes "]"

abbrev pub judgement_members : Names → List (Option ℕ) → Judgement → List ℕ
judgement_members all firsts (judgement.Accepted frames) = number_member (codes "frames") frames ++ (claims_begin ++ (claim_objects all false 0 firsts ++ claims_end))
judgement_members all firsts (judgement.NotReached claim) = bad_members all claim
judgement_members all firsts (judgement.Violated frame constraint) = number_member (codes "frame") frame ++ (number_member (codes "constraint") constraint ++ all.constraint constraint)
judgement_members all firsts (judgement.InitDiffers index) = all.leaf index
judgement_members all firsts (judgement.Malformed line why) = faulty_members (codes "line") line (why_number why) (why_name why)
judgement_members all firsts judgement.NoClaim = []

abbrev pub outcome_object : Names → List (Option ℕ) → Outcome → List ℕ
outcome_object all firsts (outcome.Judged j) = object (verdict_name j) (judgement_members all firsts j)
outcome_object all firsts (outcome.Unclaimed k) = object (codes "not claimed") (bad_members all k)

-- ---- a judgement of a certificate

abbrev pub proof_verdict : Verdict → List ℕ
proof_verdict (verdict.Derived line) = codes "holds"
proof_verdict (verdict.NotImplied line) = codes "not implied"
proof_verdict (verdict.Malformed line why) = codes "malformed"
proof_verdict verdict.NotDerived = codes "not derived"

abbrev pub proof_members : Verdict → List ℕ
proof_members (verdict.NotImplied line) = place_members (codes "line") line
proof_members (verdict.Malformed line why) = faulty_members (codes "line") line (proof_why_number why) (proof_why_name why)
proof_members _ = []

abbrev pub certificate_object : List ℕ → ℕ → Verdict → List ℕ
certificate_object named k j = object (proof_verdict j) (number_member (codes "bad") k ++ (named ++ proof_members j))

-- ---- a refusal

-- the item that a lowering is refused for, where it is one
abbrev pub item_place : LowerFault → List ℕ
item_place (lower.Justice id) = place_members (codes "item") id
item_place (lower.Fair id) = place_members (codes "item") id
item_place (lower.NoNext id) = place_members (codes "item") id
item_place _ = []

-- an item, where there is one
abbrev pub place_at : Option ℕ → List ℕ
place_at (Some id) = place_members (codes "item") id
place_at None = []

-- the member that tells why
abbrev pub why_member : List ℕ → List ℕ
why_member why = text_member (codes "why") why

-- what is wrong with a file
abbrev pub fault_members : Fault → List ℕ
fault_members (fault.Model e) = faulty_members (codes "line") e.line (printed_number e.why) (line_why_name e.why)
fault_members (fault.Circuit e) = faulty_members (codes "byte") e.place (circuit_why_number e.why) (circuit_why_name e.why)
fault_members (fault.Lowering e) = item_place e ++ numbered_members (lower_number e) (lower_name e)
fault_members (fault.Fitting e) = place_at (fit_fault_item e) ++ numbered_members (fit_fault_number e) (fit_fault_name e)
fault_members (fault.Writing e) = place_at (write_fault_item e) ++ numbered_members (write_fault_number e) (write_fault_name e)
fault_members (fault.Outputs e) = numbered_members (circuit_fault_number e) (circuit_fault_name e)
fault_members (fault.Engine e) = numbered_members (engine_fault_number e) (engine_fault_name e)
fault_members (fault.Invariant e) = faulty_members (codes "line") e.line (invariant_why_number e.why) (invariant_why_name e.why)
fault_members (fault.Obligation e) = numbered_members (obligation_number e) (obligation_name e)
fault_members (fault.Test e) = numbered_members (test_number e) (test_name e)
fault_members (fault.NoNext id) = faulty_members (codes "item") id (judge_number (judge.NoNext id)) (judge_name (judge.NoNext id))
fault_members (fault.Vector n) = place_members (codes "line") n ++ why_member (codes "bad vector")
fault_members (fault.Unchosen claimed) = why_member (codes "--bad K says which bad property it is")
fault_members (fault.SameName one other) = number_member (codes "bad") one ++ (number_member (codes "other") other ++ why_member (codes "two bad properties have this name"))

-- words that leave a choice open, or ask by a name that two have, are refused, and else the input is
abbrev pub refusal_verdict : Fault → List ℕ
refusal_verdict (fault.Unchosen claimed) = codes "left open"
refusal_verdict (fault.SameName one other) = codes "left open"
refusal_verdict _ = codes "refused"

abbrev pub fault_object : List ℕ → Fault → List ℕ
fault_object file f = object (refusal_verdict f) (text_member (codes "file") file ++ fault_members f)

-- what is written of a refused file: an object of JSON where one is asked for, and else nothing
abbrev pub refusal_written : Bool → List ℕ → Fault → List ℕ
refusal_written false file f = []
refusal_written true file f = fault_object file f
