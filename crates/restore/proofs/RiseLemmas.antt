-- What a text is restored to is a witness, and is accepted where a bad property of the engine form is 1.
use Rattle.std.proofs.Common.{◌≡◌, ◌≢◌, ℕ, zero, suc, ◌+◌, ◌-◌, ◌<◌, ◌≤◌, Bool, true, false, ◌&&◌, if◌then◌else◌, List, [], ◌∷◌, length, map, take, replicate, get_or, All, Option, None, Some, refl, sym, ap, ap₂, subst, ◌∙◌, inl, inr, arith}
use Rattle.std.specs.List.{position_from}
use Rattle.std.proofs.lemmas.Bool.{cases_Bool, and_parts, or_right}
use Rattle.std.proofs.lemmas.List.{length-map, length-take-le}
use Rattle.std.proofs.lemmas.List.Elements.{All-nil, All-cons, All-head, All-tail}
use Rattle.base.specs.Lines.{text_of_lines}
use Rattle.base.specs.Literal.{Valuation, literal_value}
use Rattle.aiger.specs.Circuit.{Circuit}
use Rattle.aiger.specs.Trace.{IsCircuitTrace}
use Rattle.aiger.proofs.TraceLemmas.{trace_length, trace_taken}
use Rattle.engine_form.specs.EngineForm.{begins, input_count, all_hold, chosen, GoesTogether, GoTogether, IsEngineFormOf}
use Rattle.witness.specs.declared.judgement.Judgement.TheVariants as judgement
use Rattle.witness.specs.Texts.{claim, most_lines}
use Rattle.witness.specs.BitTexts.{bit_witness_lines, IsBitWitness, BitSays}
use Rattle.witness.specs.BitJudgements.{first_reset_differing, JudgesBits, BitJudges}
use Rattle.witness.proofs.AcceptLemmas.{judged_bits}
use Rattle.witness.proofs.ShownLemmas.{bits_verdict}
use Rattle.witness.proofs.BitReadLemmas.{many_lines}
use Rattle.restore.specs.Counterexample.{HasProperty, place_in, first_bad}
use Rattle.restore.specs.Reading.{Found, whole, read_found}
use Rattle.restore.specs.Frames.{trace_from}
use Rattle.restore.specs.Restored.{rises_in, up_to_rise, own_inputs, written_frames, restored_witness, restored_lines, restored_text}
use Rattle.restore.proofs.FrameOf.{trace_is}
use Rattle.restore.proofs.ReadingLemmas.{read}
use Rattle.restore.proofs.RestoredLemmas as frames

-- ---- frames up to the rise are some of the first

cut_all : {A : Type 0} (P : A → Type 0) (c : Circuit) (k : ℕ) (met : Bool) (vs : List Valuation) (xs : List A) → All P xs → All P (up_to_rise c k met vs xs)
cut_all P c k met [] xs all = All-nil P
cut_all P c k met (v ∷ vs) [] all = All-nil P
cut_all P c k met (v ∷ vs) (x ∷ xs) all =
    All-cons P x (if rises_in c k met v then [] else up_to_rise c k (met && all_hold c v) vs xs) (All-head P x xs all) (by (rises_in c k met v) (cut_all P c k (met && all_hold c v) vs xs (All-tail P x xs all)))
  where
    by : (b : Bool) → All P (up_to_rise c k (met && all_hold c v) vs xs) → All P (if b then [] else up_to_rise c k (met && all_hold c v) vs xs)
    by true later = All-nil P
    by false later = later

cut_few : {A : Type 0} (c : Circuit) (k : ℕ) (met : Bool) (vs : List Valuation) (xs : List A) → length (up_to_rise c k met vs xs) ≤ length xs
cut_few c k met [] xs = omega arith
cut_few c k met (v ∷ vs) [] = omega arith
cut_few c k met (v ∷ vs) (x ∷ xs) = by (rises_in c k met v) (cut_few c k (met && all_hold c v) vs xs)
  where
    by : (b : Bool) → length (up_to_rise c k (met && all_hold c v) vs xs) ≤ length xs → suc (length (if b then [] else up_to_rise c k (met && all_hold c v) vs xs)) ≤ suc (length xs)
    by true later = omega arith
    by false later = omega (arith, later)

-- ---- a witness

wide : (c : Circuit) (given : List (List Bool)) → All (λ bits. length bits ≡ input_count c) given → All (λ bits. length bits ≡ c.inputs) (own_inputs c given)
wide c given all = frames.own_inputs c.inputs (input_count c) given (omega arith) all

some_written : (c : Circuit) (k : ℕ) (given : List (List Bool)) → given ≢ [] → written_frames c k given ≢ []
some_written c k [] some e = some refl
some_written c k (bits ∷ given) some e = absurd (cc)

lines_of : (c : Circuit) (k : ℕ) (given : List (List Bool)) → given ≢ [] → restored_lines c k (whole given) ≡ bit_witness_lines (restored_witness c k given)
lines_of c k [] some = absurd (some refl)
lines_of c k (bits ∷ given) some = refl

pub is_witness : (c : Circuit) (k : ℕ) (given : List (List Bool)) → k < length c.bads → given ≢ [] → All (λ bits. length bits ≡ input_count c) given → IsBitWitness c (restored_witness c k given)
is_witness c k given below some all =
    let inputs : List (List Bool) = own_inputs c given in
    record {
      claim = below;
      initial = frames.begins_length c given;
      some_frame = some_written c k given some;
      frames = cut_all (λ (bits : List Bool). length bits ≡ c.inputs) c k true (trace_from c (begins c given) inputs) inputs (wide c given all);
    }

pub says_of : (c : Circuit) (k : ℕ) (text : List ℕ) (given : List (List Bool)) → k < length c.bads → given ≢ [] → All (λ bits. length bits ≡ input_count c) given → length given + 4 ≤ most_lines
    → text ≡ text_of_lines (bit_witness_lines (restored_witness c k given)) → BitSays c text (restored_witness c k given)
says_of c k text given below some all few spelled =
    let inputs : List (List Bool) = own_inputs c given in
    let fewer = cut_few c k true (trace_from c (begins c given) inputs) inputs in
    let many = many_lines (restored_witness c k given) in
    let as_many = length-map given (take c.inputs) in
    record { whole = spelled; valid = is_witness c k given below some all; few = omega (arith, many, fewer, as_many, few) }

pub spells : (c : Circuit) (k : ℕ) (text : List ℕ) (given : List (List Bool)) → given ≢ [] → read_found (input_count c) text ≡ whole given → restored_text c k text ≡ text_of_lines (bit_witness_lines (restored_witness c k given))
unfolding restored_text
spells c k text given some is = ap (λ (found : Found). text_of_lines (restored_lines c k found)) is ∙ ap text_of_lines (lines_of c k given some)

pub says : (c : Circuit) (k : ℕ) (text : List ℕ) (given : List (List Bool)) → k < length c.bads → read_found (input_count c) text ≡ whole given → length given + 4 ≤ most_lines → BitSays c (restored_text c k text) (restored_witness c k given)
says c k text given below is few =
    let said = read (input_count c) text given is in
    says_of c k (restored_text c k text) given below said.some_frame said.frames few (spells c k text given said.some_frame is)

-- ---- a bad property of the form and that of the circuit

get_map : (f : ℕ → Bool) (xs : List ℕ) (j : ℕ) → j < length xs → get_or (map f xs) j false ≡ f (get_or xs j 0)
get_map f [] j h = absurd (omega arith)
get_map f (x ∷ xs) zero h = refl
get_map f (x ∷ xs) (suc j) h = get_map f xs j (omega arith)

module _ (c : Circuit) (choice : Option ℕ) (k : ℕ) (d : Circuit) (has : HasProperty choice k) (below : k < length c.bads) where
  abbrev is_bad : Valuation → Bool
  is_bad w = literal_value w (get_or d.bads (place_in choice k) 0)

  kept_at : (g : ℕ → Bool) → (p : ℕ) × ((place_in choice k ≡ p) × ((p < length (chosen choice c.bads)) × (get_or (map g (chosen choice c.bads)) p false ≡ g (get_or c.bads k 0))))
  kept_at g = by choice has
    where
      by : (o : Option ℕ) → HasProperty o k → (p : ℕ) × ((place_in o k ≡ p) × ((p < length (chosen o c.bads)) × (get_or (map g (chosen o c.bads)) p false ≡ g (get_or c.bads k 0))))
      by None h = (k, (refl, (below, get_map g c.bads k below)))
      by (Some j) h =
          let one : chosen (Some j) c.bads ≡ get_or c.bads k 0 ∷ [] = ap (λ (m : ℕ). chosen (Some m) c.bads) h ∙ frames.chosen_at k c.bads below in
          (0, (refl, (rw one (omega arith), ap (λ (bs : List ℕ). get_or (map g bs) 0 false) one)))

  bad_same : (first met : Bool) (v w : Valuation) → GoesTogether c choice d first met v w → is_bad w ≡ rises_in c k met v
  bad_same first met v w s =
      let g : ℕ → Bool = λ l. literal_value v l && (met && all_hold c v) in
      let at = kept_at g in
      let long : length d.bads ≡ length (chosen choice c.bads) = sym (length-map d.bads (literal_value w)) ∙ ap length s.bads ∙ length-map (chosen choice c.bads) g in
      let inside : place_in choice k < length d.bads = omega (arith, at.1.0, at.1.1.0, long) in
      sym (get_map (literal_value w) d.bads (place_in choice k) inside) ∙ ap₂ (λ (bs : List Bool) (p : ℕ). get_or bs p false) s.bads at.1.0 ∙ at.1.1.1

  -- where the frames end
  record Cut {A : Type 0} (met : Bool) (m n : ℕ) (vs ws : List Valuation) (xs : List A) : Type 0 where
    above : m ≤ n
    inside : n - m < length ws
    cut : up_to_rise c k met vs xs ≡ take (suc (n - m)) xs

  cut_at : {A : Type 0} (first met : Bool) (m n : ℕ) (vs ws : List Valuation) (xs : List A) → GoTogether c choice d first met vs ws → length xs ≡ length vs → position_from is_bad m ws ≡ Some n → Cut met m n vs ws xs
  cut_at first met m n [] [] xs same many at = absurd (cc)
  cut_at first met m n [] (w ∷ ws) xs same many at = absurd same
  cut_at first met m n (v ∷ vs) [] xs same many at = absurd same
  cut_at first met m n (v ∷ vs) (w ∷ ws) [] same many at = absurd (cc)
  cut_at first met m n (v ∷ vs) (w ∷ ws) (x ∷ xs) same many at =
      let is = bad_same first met v w same.0 in
      elim (cases_Bool (is_bad w)) [
        | inl here ↦
            let found : Some m ≡ Some n = rw here at at in
            let e : m ≡ n = cc in
            let rises : rises_in c k met v ≡ true = sym is ∙ here in
            let none : n - m ≡ 0 = omega (arith, e) in
            record { above = omega (arith, e); inside = omega (arith, e); cut = rw (rises, none) refl }
        | inr other ↦
            let later : position_from is_bad (m + 1) ws ≡ Some n = rw other at at in
            let goes : rises_in c k met v ≡ false = sym is ∙ other in
            let rest = cut_at false (met && all_hold c v) (m + 1) n vs ws xs same.1 (omega (arith, many)) later in
            let above = rest.above in
            let inside = rest.inside in
            let one : n - m ≡ suc (n - (m + 1)) = omega (arith, above) in
            record { above = omega (arith, above); inside = omega (arith, above, inside); cut = rw (goes, one) (ap (λ l. x ∷ l) rest.cut) }
      ]

  -- the frames of the circuit where the form is bad in the last of its frames, and in none before
  shows : (first met : Bool) (m n q : ℕ) (vs ws : List Valuation) → GoTogether c choice d first met vs ws → position_from is_bad m ws ≡ Some n → length ws ≡ suc (n - m) → frames.Shows c k met q vs
  shows first met m n q [] [] same at many = absurd (cc)
  shows first met m n q [] (w ∷ ws) same at many = absurd same
  shows first met m n q (v ∷ vs) [] same at many = absurd same
  shows first met m n q (v ∷ vs) (w ∷ ws) same at many =
      let is = bad_same first met v w same.0 in
      elim (cases_Bool (is_bad w)) [
        | inl here ↦
            let found : Some m ≡ Some n = rw here at at in
            let e : m ≡ n = cc in
            last vs ws same.1 (omega (arith, many, e)) (sym is ∙ here)
        | inr other ↦
            let later : position_from is_bad (m + 1) ws ≡ Some n = rw other at at in
            let above = (cut_at false (met && all_hold c v) (m + 1) n vs ws vs same.1 refl later).above in
            let rest = shows false (met && all_hold c v) (m + 1) n (suc q) vs ws same.1 later (omega (arith, many, above)) in
            let more = and_parts met (all_hold c v) rest.before in
            record { before = more.0; unbroken = frames.unbroken_more c q v vs more.1 rest.unbroken; rises = or_right (literal_value v (get_or c.bads k 0)) _ rest.rises }
      ]
    where
      last : (vs ws : List Valuation) → GoTogether c choice d false (met && all_hold c v) vs ws → length ws ≡ 0 → rises_in c k met v ≡ true → frames.Shows c k met q (v ∷ vs)
      last [] [] same none own =
          let parts = and_parts (literal_value v (get_or c.bads k 0)) (met && all_hold c v) own in
          let more = and_parts met (all_hold c v) parts.1 in
          record { before = more.0; unbroken = frames.unbroken_more c q v [] more.1 refl; rises = rw parts.0 refl }
      last [] (w ∷ ws) same none own = absurd same
      last (u ∷ vs) [] same none own = absurd same
      last (u ∷ vs) (w ∷ ws) same none own = absurd (cc)

  position_taken : (m n : ℕ) (ws : List Valuation) → position_from is_bad m ws ≡ Some n → m ≤ n → position_from is_bad m (take (suc (n - m)) ws) ≡ Some n
  position_taken m n [] at above = at
  position_taken m n (w ∷ ws) at above =
      elim (cases_Bool (is_bad w)) [
        | inl here ↦ let found : Some m ≡ Some n = rw here at at in rw here found
        | inr other ↦
            let later : position_from is_bad (m + 1) ws ≡ Some n = rw other at at in
            let next = position_above (m + 1) n ws later in
            let one : n - m ≡ suc (n - (m + 1)) = omega (arith, next) in
            rw (other, one) (position_taken (m + 1) n ws later next)
      ]
    where
      position_above : (m n : ℕ) (ws : List Valuation) → position_from is_bad m ws ≡ Some n → m ≤ n
      position_above m n [] at = absurd (cc)
      position_above m n (w ∷ ws) at = elim (cases_Bool (is_bad w)) [
        | inl here ↦ let found : Some m ≡ Some n = rw here at at in let e : m ≡ n = cc in omega (arith, e)
        | inr other ↦ let later : position_from is_bad (m + 1) ws ≡ Some n = rw other at at in let rest = position_above (m + 1) n ws later in omega (arith, rest)
      ]

take_own : (c : Circuit) (n : ℕ) (given : List (List Bool)) → take n (own_inputs c given) ≡ own_inputs c (take n given)
take_own c zero given = refl
take_own c (suc n) [] = refl
take_own c (suc n) (bits ∷ given) = ap (λ (l : List (List Bool)). take c.inputs bits ∷ l) (take_own c n given)

begins_taken : (c : Circuit) (n : ℕ) (given : List (List Bool)) → begins c given ≡ begins c (take (suc n) given)
begins_taken c n [] = refl
begins_taken c n (bits ∷ given) = refl

pub accepted_of : (c : Circuit) (choice : Option ℕ) (k : ℕ) (d : Circuit) (text : List ℕ) (given : List (List Bool)) (ws : List Valuation) (n : ℕ)
    → IsEngineFormOf c choice d → HasProperty choice k → k < length c.bads → given ≢ [] → All (λ bits. length bits ≡ input_count c) given → length given + 4 ≤ most_lines
    → text ≡ text_of_lines (bit_witness_lines (restored_witness c k given))
    → IsCircuitTrace d (replicate (length d.latches) false) given ws → first_bad d (place_in choice k) ws ≡ Some n
    → BitJudges c text (judgement.Accepted (n + 1))
accepted_of c choice k d text given ws n form has below some wide_all few spelled trace at =
    let inputs : List (List Bool) = own_inputs c given in
    let vs : List Valuation = trace_from c (begins c given) inputs in
    let all = wide c given wide_all in
    let own : IsCircuitTrace c (begins c given) inputs vs = trace_is c (begins c given) inputs form.original (frames.begins_length c given) all in
    let many : length inputs ≡ length vs = sym (trace_length c (begins c given) inputs vs own) in
    let ends = cut_at c choice k d has below true true 0 n vs ws inputs (form.frames given vs ws own trace) many at in
    let inside = ends.inside in
    let cut : List (List Bool) = take (suc n) given in
    let zero_less : n - 0 ≡ n = omega arith in
    let written : written_frames c k given ≡ own_inputs c cut = ends.cut ∙ ap (λ (m : ℕ). take (suc m) inputs) zero_less ∙ take_own c (suc n) given in
    let at_end : first_bad d (place_in choice k) (take (suc n) ws) ≡ Some n = subst (λ (m : ℕ). first_bad d (place_in choice k) (take (suc m) ws) ≡ Some n) zero_less (position_taken c choice k d has below 0 n ws at ends.above) in
    let long : length (take (suc n) ws) ≡ suc n = length-take-le (suc n) ws (omega (arith, inside)) in
    let judged : JudgesBits c (restored_witness c k given) (judgement.Accepted (suc n)) = λ us t.
    let t' : IsCircuitTrace c (begins c cut) (own_inputs c cut) us = subst (λ (l : List (List Bool)). IsCircuitTrace c (begins c cut) l us) written (subst (λ (s : List Bool). IsCircuitTrace c s (written_frames c k given) us) (begins_taken c n given) t) in
    let last = trace_taken d (replicate (length d.latches) false) given ws (suc n) trace in
    let shown = shows c choice k d has below true true 0 n 0 us (take (suc n) ws) (form.frames cut us (take (suc n) ws) t' last) at_end (long ∙ ap suc (sym zero_less)) in
    let as_many : length us ≡ suc n = trace_length c (begins c cut) (own_inputs c cut) us t' ∙ length-map cut (take c.inputs) ∙ sym (trace_length d (replicate (length d.latches) false) cut (take (suc n) ws) last) ∙ long in
    sym (rw (frames.begins_as_reset c given, shown.unbroken, shown.rises) (ap judgement.Accepted as_many)) ∙ bits_verdict c (first_reset_differing 0 c.latches (begins c given)) k us below in
    let one : suc n ≡ n + 1 = omega arith in
    judged_bits c text (restored_witness c k given) (judgement.Accepted (n + 1)) form.original (says_of c k text given below some wide_all few spelled)
    (subst (λ (m : ℕ). JudgesBits c (restored_witness c k given) (judgement.Accepted m)) one judged)

pub accepted : (c : Circuit) (choice : Option ℕ) (k : ℕ) (d : Circuit) (text : List ℕ) (given : List (List Bool)) (ws : List Valuation) (n : ℕ)
    → IsEngineFormOf c choice d → HasProperty choice k → k < length c.bads → read_found (input_count c) text ≡ whole given → length given + 4 ≤ most_lines
    → IsCircuitTrace d (replicate (length d.latches) false) given ws → first_bad d (place_in choice k) ws ≡ Some n
    → BitJudges c (restored_text c k text) (judgement.Accepted (n + 1))
accepted c choice k d text given ws n form has below is few trace at =
    let said = read (input_count c) text given is in
    accepted_of c choice k d (restored_text c k text) given ws n form has below said.some_frame said.frames few (spells c k text given said.some_frame is) trace at
