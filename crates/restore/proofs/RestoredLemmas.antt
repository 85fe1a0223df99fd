-- What is restored of input frames of an engine form: it is a witness of the circuit, and is accepted where the form's last frame is bad.
use Rattle.std.proofs.Common.{◌≡◌, ◌≢◌, ℕ, zero, suc, ◌+◌, ◌<◌, ◌≤◌, Bool, true, false, not, ◌&&◌, List, [], ◌∷◌, length, map, take, drop, replicate, All, None, Some, refl, sym, ap, ap₂, ◌∙◌, arith}
use Rattle.std.specs.Prelude.{slice_get, slice_index, unwrap_or}
use Rattle.std.specs.List.{list_all, position_from}
use Rattle.std.proofs.lemmas.Bool.{and_parts, or_right}
use Rattle.std.proofs.lemmas.Bool.Decides.{nat_tests}
use Rattle.std.proofs.lemmas.List.{length-map, length-take-le}
use Rattle.std.proofs.lemmas.List.Elements.{All-nil, All-cons, All-head, All-tail}
use Rattle.aiger.specs.declared.circuit.Latch.{Latch}
use Rattle.aiger.specs.declared.circuit.Reset.{Reset}
use Rattle.aiger.specs.declared.circuit.Reset.TheVariants as reset
use Rattle.base.specs.Literal.{Valuation, literal_value}
use Rattle.aiger.specs.Circuit.{Circuit}
use Rattle.aiger.specs.Trace.{IsCircuitTrace}
use Rattle.aiger.proofs.TraceLemmas.{trace_length}
use Rattle.engine_form.specs.EngineForm.{taken_bits, first_bit, first_bits, begins, chosen, has_chosen, all_hold, GoTogether, IsEngineFormOf}
use Rattle.witness.specs.declared.judgement.Judgement.TheVariants as judgement
use Rattle.witness.specs.Judgements.{violated_at}
use Rattle.witness.specs.BitTexts.{IsBitWitness}
use Rattle.witness.specs.BitPlays.{first_bit_violated, bit_rises}
use Rattle.witness.specs.Fits.{breach_from}
use Rattle.witness.specs.BitJudgements.{differs_from_reset, first_reset_differing, JudgesBits}
use Rattle.witness.proofs.ShownLemmas.{bits_verdict}
use Rattle.restore.specs.Counterexample.{restored, ends_bad}

-- ---- initial bits

pub first_length : (ls : List Latch) (given : List Bool) → length (first_bits ls given) ≡ length ls
first_length [] given = refl
first_length (l ∷ ls) given = ap suc (first_length ls (drop (taken_bits l.reset) given))

pub begins_length : (c : Circuit) (given : List (List Bool)) → length (begins c given) ≡ length c.latches
begins_length c [] = first_length c.latches []
begins_length c (bits ∷ given) = first_length c.latches (drop c.inputs bits)

none_differs : (k : ℕ) (ls : List Latch) (given : List Bool) → first_reset_differing k ls (first_bits ls given) ≡ None
none_differs k [] given = refl
none_differs k (l ∷ ls) given = rw (by l.reset) (none_differs (suc k) ls (drop (taken_bits l.reset) given))
  where
    by : (r : Reset) → differs_from_reset r (first_bit r given) ≡ false
    by reset.Zero = refl
    by reset.One = refl
    by reset.Free = refl

pub begins_as_reset : (c : Circuit) (given : List (List Bool)) → first_reset_differing 0 c.latches (begins c given) ≡ None
begins_as_reset c [] = none_differs 0 c.latches []
begins_as_reset c (bits ∷ given) = none_differs 0 c.latches (drop c.inputs bits)

-- ---- the claimed property

pub chosen_at : (k : ℕ) (bads : List ℕ) → k < length bads → chosen (Some k) bads ≡ slice_index bads k ∷ []
chosen_at k [] h = absurd (omega arith)
chosen_at zero (b ∷ bads) h = refl
chosen_at (suc k) (b ∷ bads) h = chosen_at k bads (omega arith)

is_there : (k : ℕ) (bads : List ℕ) → has_chosen (Some k) bads ≡ true → k < length bads
is_there k bads h = grind (arith, nat_tests)

-- ---- constraints

none_violated : (v : Valuation) (n : ℕ) (ls : List ℕ) → list_all (literal_value v) ls ≡ true → position_from (λ l. not (literal_value v l)) n ls ≡ None
none_violated v n [] h = refl
none_violated v n (l ∷ ls) h =
    let parts = and_parts (literal_value v l) (list_all (literal_value v) ls) h in
    let holds : not (literal_value v l) ≡ false = ap not parts.0 in
    rw holds (none_violated v (n + 1) ls parts.1)

pub unbroken_more : (c : Circuit) (n : ℕ) (v : Valuation) (vs : List Valuation) → all_hold c v ≡ true → breach_from (first_bit_violated c) (suc n) vs ≡ None → breach_from (first_bit_violated c) n (v ∷ vs) ≡ None
unbroken_more c n v vs holds rest = ap₂ (violated_at n) (none_violated v 0 c.constraints holds) rest

-- ---- all frames

-- what the frames of the circuit show where the last one of the form is bad
pub record Shows (c : Circuit) (k : ℕ) (met : Bool) (n : ℕ) (vs : List Valuation) : Type 0 where
  pub before : met ≡ true
  pub unbroken : breach_from (first_bit_violated c) n vs ≡ None
  pub rises : bit_rises c k vs ≡ true

shows_last : (c : Circuit) (k : ℕ) (d : Circuit) (first met : Bool) (n : ℕ) (vs ws : List Valuation) → k < length c.bads → GoTogether c (Some k) d first met vs ws → ends_bad d ws ≡ true → Shows c k met n vs
shows_last c k d first met n [] [] there same bad = absurd (cc)
shows_last c k d first met n [] (w ∷ ws) there same bad = absurd same
shows_last c k d first met n (v ∷ vs) [] there same bad = absurd same
shows_last c k d first met n (v ∷ []) (w ∷ []) there same bad =
    let own : literal_value v (slice_index c.bads k) && (met && all_hold c v) ≡ true =
    sym (ap (λ (bs : List Bool). unwrap_or (slice_get bs 0) false) (same.0.bads ∙ ap (map (λ l. literal_value v l && (met && all_hold c v))) (chosen_at k c.bads there))) ∙ bad in
    let parts = and_parts (literal_value v (slice_index c.bads k)) (met && all_hold c v) own in
    let more = and_parts met (all_hold c v) parts.1 in
    record { before = more.0; unbroken = unbroken_more c n v [] more.1 refl; rises = rw parts.0 refl }
shows_last c k d first met n (v ∷ []) (w ∷ x ∷ ws) there same bad = absurd same.1
shows_last c k d first met n (v ∷ u ∷ vs) (w ∷ []) there same bad = absurd same.1
shows_last c k d first met n (v ∷ u ∷ vs) (w ∷ x ∷ ws) there same bad =
    let rest = shows_last c k d false (met && all_hold c v) (suc n) (u ∷ vs) (x ∷ ws) there same.1 bad in
    let more = and_parts met (all_hold c v) rest.before in
    record { before = more.0; unbroken = unbroken_more c n v (u ∷ vs) more.1 rest.unbroken; rises = or_right (literal_value v (slice_index c.bads k)) (bit_rises c k (u ∷ vs)) rest.rises }

pub accepted : (c : Circuit) (k : ℕ) (d : Circuit) (given : List (List Bool)) (ws : List Valuation) → IsEngineFormOf c (Some k) d
    → IsCircuitTrace d (replicate (length d.latches) false) given ws → ends_bad d ws ≡ true → JudgesBits c (restored c k given) (judgement.Accepted (length given))
accepted c k d given ws form t bad vs own =
    let shows = shows_last c k d true true 0 vs ws (is_there k c.bads form.has_bad) (form.frames given vs ws own t) bad in
    let many : length vs ≡ length given = trace_length c (begins c given) (map (take c.inputs) given) vs own ∙ length-map given (take c.inputs) in
    let there = is_there k c.bads form.has_bad in
    sym (rw (begins_as_reset c given, shows.unbroken, shows.rises) (ap judgement.Accepted many)) ∙ bits_verdict c (first_reset_differing 0 c.latches (begins c given)) k vs there

-- ---- a witness

pub own_inputs : (n m : ℕ) (given : List (List Bool)) → n ≤ m → All (λ bits. length bits ≡ m) given → All (λ bits. length bits ≡ n) (map (take n) given)
own_inputs n m [] le all = All-nil (λ (b : List Bool). length b ≡ n)
own_inputs n m (bits ∷ given) le all =
    let own : length bits ≡ m = All-head (λ (b : List Bool). length b ≡ m) bits given all in
    All-cons (λ (b : List Bool). length b ≡ n) (take n bits) (map (take n) given) (length-take-le n bits (omega arith)) (own_inputs n m given le (All-tail (λ (b : List Bool). length b ≡ m) bits given all))

some_restored : (n : ℕ) (given : List (List Bool)) → given ≢ [] → map (take n) given ≢ []
some_restored n [] some e = some refl
some_restored n (bits ∷ given) some e = absurd (cc)

pub is_witness : (c : Circuit) (k : ℕ) (d : Circuit) (given : List (List Bool)) → IsEngineFormOf c (Some k) d → given ≢ [] → All (λ bits. length bits ≡ d.inputs) given → IsBitWitness c (restored c k given)
is_witness c k d given form some wide =
    let enough : c.inputs ≤ d.inputs = (let e = form.inputs in omega arith) in
    record {
      claim = is_there k c.bads form.has_bad;
      initial = begins_length c given;
      some_frame = some_restored c.inputs given some;
      frames = own_inputs c.inputs d.inputs given enough wide;
    }
