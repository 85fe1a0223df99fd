-- What circuits that lower the models of single operators show.
use native.Mathlib.Omega.{arith}
use Rattle.std.proofs.Common.{◌≡◌, ℕ, ◌+◌, ◌^◌, ◌<◌, ◌≤◌, Bool, true, false, ◌==◌, List, [], ◌∷◌, ◌++◌, length, map, refl, sym, ap, ap₂, subst, ◌∙◌, if◌then◌else◌, length-append, append-nil, rules}
use Rattle.std.proofs.lemmas.List.{length-map}
use Rattle.std.proofs.lemmas.List.Elements.{All-cons}
use Rattle.base.specs.Word.{word, bits}
use Rattle.base.specs.declared.operators.Unary.{Unary}
use Rattle.base.specs.declared.operators.Binary.{Binary}
use Rattle.base.specs.Widths.{unary_width, binary_width, is_reduction, is_test}
use Rattle.base.specs.Operator.{unary_value, binary_value}
use Rattle.base.proofs.BitLemmas.{length-bits, word-bits}
use Rattle.base.proofs.ValueLaws.{unary_below, binary_below}
use Rattle.base.specs.Literal.{Valuation, literal_value}
use Rattle.aiger.specs.Circuit.{Circuit}
use Rattle.aiger.specs.Trace.{IsCircuitFrame, IsCircuitTrace}
use Rattle.aiger.proofs.TraceLemmas.{trace_exists}
use Rattle.blast.specs.Lowering.{Lowers}
use Rattle.runs.specs.CircuitRun.{CircuitRun, IsFrameNow}
use Rattle.vectors.specs.declared.lines.Vector.{Vector}
use Rattle.vectors.specs.declared.lines.Vector.TheVariants as vector
use Rattle.vectors.specs.Vectors.{IsVector, vector_value}
use Rattle.vectors.specs.OperatorModels.{items_of, operand_bits}
use Rattle.vectors.specs.CircuitRuns.{IsRunOf}

-- how many bits the result of a vector's operator has
abbrev pub result_width : Vector → ℕ
result_width (vector.Unary op n a r) = unary_width op n
result_width (vector.Binary op n a b r) = binary_width op n

pub input_count : (v : Vector) (c : Circuit) → Lowers (items_of v) c → c.inputs ≡ length (operand_bits v)
input_count (vector.Unary op n a r) c l = omega (arith, l.inputs, length-bits n a)
input_count (vector.Binary op n a b r) c l = omega (arith, l.inputs, length-append (bits n a) (bits n b), length-bits n a, length-bits n b)

-- the bits of a run's inputs are as many as its vector's operands have
pub unary_inputs : (v : Vector) (inputs : ℕ) (op : Unary) (n a r : ℕ) → inputs ≡ length (operand_bits v) → v ≡ vector.Unary op n a r → inputs ≡ n
unary_inputs v inputs op n a r e is = e ∙ (ap (λ (w : Vector). length (operand_bits w)) is ∙ length-bits n a)

pub binary_inputs : (v : Vector) (inputs : ℕ) (op : Binary) (n a b r : ℕ) → inputs ≡ length (operand_bits v) → v ≡ vector.Binary op n a b r → inputs ≡ n + n
binary_inputs v inputs op n a b r e is =
    e ∙ (ap (λ (w : Vector). length (operand_bits w)) is ∙ (length-append (bits n a) (bits n b) ∙ ap₂ (λ (i j : ℕ). i + j) (length-bits n a) (length-bits n b)))

no_latches : (v : Vector) (c : Circuit) → Lowers (items_of v) c → length c.latches ≡ 0
no_latches (vector.Unary op n a r) c l = sym (length-map c.latches (λ latch. latch.reset)) ∙ ap length l.resets
no_latches (vector.Binary op n a b r) c l = sym (length-map c.latches (λ latch. latch.reset)) ∙ ap length l.resets

-- in each frame the outputs are the bits of the value that the operator gives
pub shows_value : (v : Vector) (c : Circuit) (f : Valuation) → IsVector v → Lowers (items_of v) c → IsCircuitFrame c [] (operand_bits v) f
    → map (literal_value f) c.outputs ≡ bits (result_width v) (vector_value v)
shows_value (vector.Unary op n a r) c f fits l frame =
    (l.frames (λ id. 0) ((λ id. a) ∷ []) (record { fits = (tt, (tt, (tt, (tt, (tt, tt))))); inits = (tt, (tt, (tt, (tt, (tt, tt))))) }) ((tt, (tt, (fits.2, (tt, (tt, tt))))), tt)
    ((λ id. if id == 3 then a else unary_value op n a) ∷ []) ((tt, (tt, (refl, (refl, (tt, tt))))), tt)
    (f ∷ []) (subst (λ (given : List Bool). IsCircuitFrame c [] given f) (sym (append-nil (bits n a ++ []) ∙ append-nil (bits n a))) frame, tt)).0.outputs
    ∙ append-nil (bits (unary_width op n) (unary_value op n a))
shows_value (vector.Binary op n a b r) c f fits l frame =
    (l.frames (λ id. 0) ((λ id. if id == 3 then a else b) ∷ []) (record { fits = (tt, (tt, (tt, (tt, (tt, (tt, tt)))))); inits = (tt, (tt, (tt, (tt, (tt, (tt, tt)))))) }) ((tt, (tt, (fits.3, (fits.4, (tt, (tt, tt)))))), tt)
    ((λ id. if id == 3 then a else (if id == 4 then b else binary_value op n a b)) ∷ []) ((tt, (tt, (refl, (refl, (refl, (tt, tt)))))), tt)
    (f ∷ []) (subst (λ (given : List Bool). IsCircuitFrame c [] given f) (sym (append-nil (bits n a ++ (bits n b ++ [])) ∙ ap (λ (t : List Bool). bits n a ++ t) (append-nil (bits n b)))) frame, tt)).0.outputs
    ∙ append-nil (bits (binary_width op n) (binary_value op n a b))

width_few : (test : Bool) (n : ℕ) → n ≤ 64 → (if test then 1 else n) ≤ 64
width_few true n few = omega arith
width_few false n few = few

result_few : (v : Vector) → IsVector v → result_width v ≤ 64
result_few (vector.Unary op n a r) fits = width_few (is_reduction op) n fits.1
result_few (vector.Binary op n a b r) fits = width_few (is_test op) n fits.1

value_below : (v : Vector) → IsVector v → vector_value v < 2 ^ result_width v
value_below (vector.Unary op n a r) fits = unary_below op n a fits.0 fits.2
value_below (vector.Binary op n a b r) fits = binary_below op n a b fits.0 fits.3 fits.4

one_frame : (v : Vector) (c : Circuit) → Lowers (items_of v) c → (vs : List Valuation) → IsCircuitTrace c [] (operand_bits v ∷ []) vs → (f : Valuation) × IsCircuitFrame c [] (operand_bits v) f
one_frame v c l [] trace = absurd trace
one_frame v c l (f ∷ fs) trace = (f, trace.0)

-- there is a frame in which the inputs are the bits of the operands
frame_of : (v : Vector) (c : Circuit) → Lowers (items_of v) c → (f : Valuation) × IsCircuitFrame c [] (operand_bits v) f
frame_of v c l =
    let trace = trace_exists c [] (operand_bits v ∷ []) l.circuit (sym (no_latches v c l)) (All-cons (λ (input : List Bool). length input ≡ c.inputs) (operand_bits v) [] (sym (input_count v c l)) (search rules)) in
    one_frame v c l trace.0 trace.1

pub outputs_few : (v : Vector) (c : Circuit) → IsVector v → Lowers (items_of v) c → length c.outputs ≤ 64
outputs_few v c fits l =
    let frame = frame_of v c l in
    omega (arith, result_few v fits, length-map c.outputs (literal_value frame.0), ap length (shows_value v c frame.0 fits l frame.1), length-bits (result_width v) (vector_value v))

-- the word that the outputs of a run from the operands' bits read as is the value that the operator gives
pub word_is_value : (v : Vector) (c : Circuit) (r : CircuitRun) (told : ℕ) → IsVector v → Lowers (items_of v) c → IsRunOf c r → r.inputs ≡ operand_bits v → ((f : Valuation) → IsFrameNow r f → told ≡ word (map (literal_value f) c.outputs)) → told ≡ vector_value v
word_is_value v c r told fits l run inputs read =
    let frame = frame_of v c l in
    read frame.0 (rw (run.same, run.latches, inputs) frame.1)
    ∙ (ap word (shows_value v c frame.0 fits l frame.1) ∙ word-bits (result_width v) (vector_value v) (value_below v fits))

-- a run of a circuit is one of its own circuit
pub of_own : (c : Circuit) (r : CircuitRun) → IsRunOf c r → IsRunOf r.circuit r
of_own c r run = record { same = refl; latches = run.latches; inputs = run.inputs ∙ sym (ap (λ (d : Circuit). d.inputs) run.same) }

-- a run that is settled is of the same circuit
pub settled_run : (c : Circuit) (r s : CircuitRun) → s.circuit ≡ r.circuit → s.latches ≡ r.latches → s.inputs ≡ r.inputs → r.circuit ≡ c → IsRunOf r.circuit r → IsRunOf c s
settled_run c r s circuit latches inputs same run =
    record { same = circuit ∙ same; latches = latches ∙ run.latches; inputs = ap length inputs ∙ (run.inputs ∙ ap (λ (d : Circuit). d.inputs) same) }
