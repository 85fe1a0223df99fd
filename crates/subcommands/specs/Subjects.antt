-- What a judgement is about, by name: the line of the model, or the name in the circuit, of the bad property, the constraint, the state or the latch that it tells by a number (this project's).
use Rattle.std.specs.Prelude.{ℕ, suc, Bool, true, false, List, [], ◌∷◌, ◌++◌, Option, Some, None, codes, decimal}
use Rattle.aiger.specs.declared.circuit.Section.TheVariants as section
use Rattle.aiger.specs.Circuit.{Circuit, name_of}
use Rattle.drup.specs.declared.judgement.Judgement.{Judgement as Verdict}
use Rattle.drup.specs.declared.judgement.Judgement.TheVariants as verdict
use Rattle.witness.specs.declared.judgement.Judgement.{Judgement}
use Rattle.witness.specs.declared.judgement.Judgement.TheVariants as judgement
use Rattle.verbs.specs.Subjects.{Name, Told, lines_told}
use Rattle.verbs.specs.declared.subjects.Subject.{Subject}
use Rattle.verbs.specs.declared.subjects.Subject.TheVariants as subject

-- what is said of the thing of a kind with a number: `b3 is f_full, line 64`
abbrev pub says : List ℕ → ℕ → List ℕ → List ℕ
says kind number what = kind ++ (decimal number ++ (codes " is " ++ (what ++ codes "\n")))

-- it is said where names are asked for, and else nothing is
abbrev pub where_named : Bool → List ℕ → List ℕ
where_named false what = []
where_named true what = what

-- ---- over a model

-- a line of a model: its symbol, where it has one, and the id by which the text names it
abbrev pub symbol_said : Option (List ℕ) → List ℕ
symbol_said None = []
symbol_said (Some symbol) = symbol ++ codes ", "

abbrev pub line_said : Name → List ℕ
line_said x = symbol_said x.symbol ++ (codes "line " ++ decimal x.id)

abbrev pub says_line : List ℕ → ℕ → Option Name → List ℕ
says_line kind number None = []
says_line kind number (Some x) = says kind number (line_said x)

-- the line that says which line of a model a bad property is
abbrev pub bad_line_said : Told → ℕ → List ℕ
bad_line_said lines k = says_line (codes "b") k (lines.bad k)

-- the line that says what a judgement over a model is about; none where it tells no number of a thing
abbrev pub line_judged : Told → Judgement → List ℕ
line_judged lines (judgement.NotReached claim) = bad_line_said lines claim
line_judged lines (judgement.Violated frame constraint) = says_line (codes "constraint ") constraint (lines.constraint constraint)
line_judged lines (judgement.InitDiffers index) = says_line (codes "state ") index (lines.state index)
line_judged lines _ = []

-- ---- over a circuit

abbrev pub says_name : List ℕ → ℕ → Option (List ℕ) → List ℕ
says_name kind number None = []
says_name kind number (Some name) = says kind number name

-- the line that says which name a bad property of a circuit has; none where it has none
abbrev pub bad_name_said : Circuit → ℕ → List ℕ
bad_name_said c k = says_name (codes "b") k (name_of c section.Bad k)

-- the line that says what a judgement over a circuit is about; none where it tells no number of a thing, or that has no name
abbrev pub name_said : Circuit → Judgement → List ℕ
name_said c (judgement.NotReached claim) = bad_name_said c claim
name_said c (judgement.Violated frame constraint) = says_name (codes "constraint ") constraint (name_of c section.Constraint constraint)
name_said c (judgement.InitDiffers index) = says_name (codes "latch ") index (name_of c section.Latch index)
name_said c _ = []

-- ---- over the circuit of a model

-- the line that says what a judgement over the circuit of a model is about: the line of the model, and of a latch the name
abbrev pub lifted_said : Told → Circuit → Judgement → List ℕ
lifted_said lines c (judgement.InitDiffers index) = name_said c (judgement.InitDiffers index)
lifted_said lines c j = line_judged lines j

-- ---- of a certificate

-- what is said with the judgement of a certificate: where a bad property holds, which one it is
abbrev pub holds_said : Verdict → List ℕ → List ℕ
holds_said (verdict.Derived line) what = what
holds_said _ what = []

-- ---- of an acceptance

-- in which frame something is reached
abbrev pub frame_said : ℕ → List ℕ
frame_said frame = codes "reached in frame " ++ decimal frame

-- of a claim that is reached first in a frame, that it is, and which bad property it is; and nothing of a bad property of which no frame is told
abbrev pub first_said : (ℕ → List ℕ) → ℕ → Option ℕ → List ℕ
first_said bad k None = []
first_said bad k (Some frame) = says (codes "b") k (frame_said frame) ++ bad k

-- the same of the bad properties from number k on
abbrev pub firsts_said : (ℕ → List ℕ) → ℕ → List (Option ℕ) → List ℕ
firsts_said bad k [] = []
firsts_said bad k (first ∷ more) = first_said bad k first ++ firsts_said bad (suc k) more

-- it is said where a witness is accepted
abbrev pub where_accepted : Judgement → List ℕ → List ℕ
where_accepted (judgement.Accepted frames) what = what
where_accepted _ what = []

-- what is said by name of a judgement: what it is about, and of an acceptance in which frames the claims are reached first
abbrev pub said_by_name : (Judgement → List ℕ) → (ℕ → List ℕ) → List (Option ℕ) → Judgement → List ℕ
said_by_name said bad firsts j = said j ++ where_accepted j (firsts_said bad 0 firsts)

-- ---- of a subject

-- the line that says what a judgement is about
abbrev pub subject_said : Subject → Judgement → List ℕ
subject_said (subject.Model lines) j = line_judged (lines_told lines) j
subject_said (subject.Circuit c) j = name_said c.now j
subject_said (subject.Lowered lines c) j = lifted_said (lines_told lines) c.now j

-- the line that says which bad property has a number
abbrev pub bad_said : Subject → ℕ → List ℕ
bad_said (subject.Model lines) k = bad_line_said (lines_told lines) k
bad_said (subject.Circuit c) k = bad_name_said c.now k
bad_said (subject.Lowered lines c) k = bad_line_said (lines_told lines) k
