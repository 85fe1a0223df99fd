-- First rises of texts that are accepted, and of traces that are the same.
use Rattle.std.proofs.Common.{All, inl, inr, ◌≡◌, ℕ, ◌+◌, ◌<◌, nat_eq, Bool, true, false, cond, ◌||◌, List, [], ◌∷◌, Option, Some, None, map, length, slice_get, refl, sym, ap, subst, ◌∙◌, arith}
use Rattle.std.specs.List.{list_any, position_from}
use Rattle.runs.proofs.RankLemmas.{length-places}
use Rattle.witness.proofs.FrameLemmas.{bad_names, length-nodes}
use Rattle.witness.proofs.FitLemmas.{shape_is_small}
use Rattle.witness.proofs.ReadTextLemmas.{read_says}
use Rattle.witness.proofs.BitReadLemmas.{bit_read_says}
use Rattle.std.proofs.lemmas.Bool.{or_cases, eqb-true}
use Rattle.std.proofs.lemmas.List.Elements.{All-head, All-tail}
use Rattle.base.specs.Lines.{whole_lines}
use Rattle.base.specs.Shown.{Shown, is_bad_in, rises_in_some}
use Rattle.btor2.specs.declared.item.Item.{Item}
use Rattle.btor2.specs.Items.{is_bad}
use Rattle.btor2.specs.Check.{IsWellFormed}
use Rattle.btor2.specs.Trace.{Frame, SameTrace}
use Rattle.btor2.specs.Reachability.{nodes_of, model_shows}
use Rattle.base.specs.Literal.{Valuation}
use Rattle.aiger.specs.Circuit.{Circuit, IsCircuit}
use Rattle.aiger.specs.Reachability.{circuit_shows}
use Rattle.aiger.specs.Trace.{SameCircuitTrace as SameBitTrace}
use Rattle.witness.specs.declared.judgement.Judgement.TheVariants as judgement
use Rattle.witness.specs.Texts.{shape_of}
use Rattle.witness.specs.Readings.{text_read}
use Rattle.witness.specs.Admits.{Read, word_reader, witness_of}
use Rattle.witness.specs.Judgements.{unreached_from, words_of, makes_no_claim, JudgesWords, Judges}
use Rattle.witness.specs.ClosedWords.{IsClosedTrace, said_in}
use Rattle.witness.specs.BitAdmits.{BitRead, bit_reader, bit_witness_of}
use Rattle.witness.specs.BitJudgements.{makes_no_bit_claim, JudgesBits, BitJudges}
use Rattle.witness.specs.Reached.{word_claimed, bits_said_in, IsClosedBitTrace, bit_claimed}
use Rattle.witness.proofs.OneJudgement.{shown_same}
use Rattle.witness.proofs.BitOneJudgement.{shown_same as bits_shown_same}
use Rattle.witness.proofs.ReadingLemmas.{was_all_read}
use Rattle.witness.proofs.JudgedLemmas.{accepted_reads, no_fault}
use Rattle.witness.proofs.ShownLemmas.{claim_reached}
use Rattle.rises.specs.FirstRises.{first_rise, first_rises_from, word_first_rises, bit_first_rises}
use Rattle.rises.proofs.RiseLemmas.{rises_there}

-- ---- a first rise is there

module _ {F : Type 0} (test : F → Bool) where
  pub some_first : (n : ℕ) (fs : List F) → list_any test fs ≡ true → (first : ℕ) × ((position_from test n fs ≡ Some first) × (first < n + length fs))
  some_first n [] h = absurd cc
  some_first n (f ∷ fs) h = by (some_first (n + 1) fs) (test f) refl
    where
      by : (list_any test fs ≡ true → (first : ℕ) × ((position_from test (n + 1) fs ≡ Some first) × (first < n + 1 + length fs))) → (b : Bool) → test f ≡ b
          → (first : ℕ) × ((position_from test n (f ∷ fs) ≡ Some first) × (first < n + length (f ∷ fs)))
      by later true e = (n, (ap (λ (b : Bool). cond b (Some n) (position_from test (n + 1) fs)) e, omega arith))
      by later false e =
          let rest = later (sym (ap (λ (b : Bool). b || list_any test fs) e) ∙ h) in
          let low = rest.1.1 in
          (rest.0, (ap (λ (b : Bool). cond b (Some n) (position_from test (n + 1) fs)) e ∙ rest.1.0, omega (arith, low)))

-- of a bad property that is there and claimed, and that rises
claim_rises : (claimed : ℕ → Bool) (shown : List Shown) (n k : ℕ) → k < n → claimed k ≡ true → rises_in_some k shown ≡ true → (first : ℕ) × ((slice_get (first_rises_from claimed shown 0 n) k ≡ Some (Some first)) × (first < length shown))
claim_rises claimed shown n k inside is some =
    let first = some_first (is_bad_in k) 0 shown some in
    let low = first.1.1 in
    (first.0, (rises_there claimed shown n k inside ∙ (ap (λ (b : Bool). Some (cond b (first_rise shown k) None)) is ∙ ap (λ (o : Option ℕ). Some o) first.1.0), omega (arith, low)))

pub other_rises : (claimed : ℕ → Bool) (shown : List Shown) (n k : ℕ) → k < n → claimed k ≡ false → slice_get (first_rises_from claimed shown 0 n) k ≡ Some None
other_rises claimed shown n k inside is = rises_there claimed shown n k inside ∙ ap (λ (b : Bool). Some (cond b (first_rise shown k) None)) is

-- where each claim is reached
claim_of_all : (claims : List ℕ) (shown : List Shown) (n k : ℕ) → k < n → list_any (λ c. nat_eq c k) claims ≡ true → unreached_from claims shown 0 n ≡ None → rises_in_some k shown ≡ true
claim_of_all claims shown n k inside claimed none =
    let e : 0 + k ≡ k = omega arith in
    sym (ap (λ (i : ℕ). rises_in_some i shown) e) ∙ claim_reached claims shown 0 k n inside (ap (λ (i : ℕ). list_any (λ c. nat_eq c i) claims) e ∙ claimed) none

-- ---- over a model

-- a number among some that are below another is below it
among : (claims : List ℕ) (bads k : ℕ) → All (λ i. i < bads) claims → list_any (λ c. nat_eq c k) claims ≡ true → k < bads
among [] bads k all h = absurd cc
among (c ∷ claims) bads k all h =
    let here : c < bads = All-head (λ i. i < bads) c claims all in
    elim (or_cases (nat_eq c k) (list_any (λ d. nat_eq d k) claims) h) [
      | inl e ↦ omega (arith, here, eqb-true c k e)
      | inr e ↦ among claims bads k (All-tail (λ i. i < bads) c claims all) e
    ]

pub accepted_words : (items : List Item) (text : List ℕ) (fs : List Frame) (frames k : ℕ) → IsWellFormed items → Judges items text (judgement.Accepted frames) → IsClosedTrace items text fs → word_claimed items text k ≡ true
    → (first : ℕ) × ((slice_get (word_first_rises items text fs) k ≡ Some (Some first)) × (first < frames))
accepted_words items text fs frames k well judges trace claimed =
    let says = accepted_reads (λ (r : Read). JudgesWords items (words_of (witness_of r))) (makes_no_claim 0 (whole_lines text)) (text_read (word_reader (shape_of items)) text) frames judges in
    let said : says.what ≡ said_in items text = sym (was_all_read (word_reader (shape_of items)) text says.what says.is) in
    let fits : All (λ i. i < (shape_of items).bads) (said_in items text).claims =
    subst (λ (r : Read). All (λ i. i < (shape_of items).bads) r.claims) said (read_says (shape_of items) text says.what (shape_is_small items well) says.is).valid.claims in
    let below : k < (shape_of items).bads = among (said_in items text).claims (shape_of items).bads k fits claimed in
    let inside : k < length (nodes_of is_bad items) = omega (arith, below, length-nodes is_bad items bad_names, length-places is_bad 0 items) in
    let whole : JudgesWords items (words_of (witness_of (said_in items text))) (judgement.Accepted frames) = subst (λ (r : Read). JudgesWords items (words_of (witness_of r)) (judgement.Accepted frames)) said says.judged in
    let shown : List Shown = map (model_shows items) fs in
    let all = no_fault _ _ (unreached_from (said_in items text).claims shown 0 (length (nodes_of is_bad items))) frames (length shown) (whole fs trace) in
    let first = claim_rises (word_claimed items text) shown (length (nodes_of is_bad items)) k inside claimed (claim_of_all (said_in items text).claims shown (length (nodes_of is_bad items)) k inside claimed all.reached) in
    let low = first.1.1 in
    let many = all.many in
    (first.0, (first.1.0, omega (arith, low, many)))

-- ---- over a circuit

pub accepted_bits : (c : Circuit) (text : List ℕ) (vs : List Valuation) (frames k : ℕ) → IsCircuit c → BitJudges c text (judgement.Accepted frames) → IsClosedBitTrace c text vs → bit_claimed c text k ≡ true
    → (first : ℕ) × ((slice_get (bit_first_rises c text vs) k ≡ Some (Some first)) × (first < frames))
accepted_bits c text vs frames k circuit judges trace claimed =
    let r : BitRead = bits_said_in c text in
    let says = accepted_reads (λ (r : BitRead). JudgesBits c (bit_witness_of r)) (makes_no_bit_claim (whole_lines text)) (text_read (bit_reader c) text) frames judges in
    let said : says.what ≡ r = sym (was_all_read (bit_reader c) text says.what says.is) in
    let fits : r.claim < length c.bads = subst (λ (x : BitRead). x.claim < length c.bads) said (bit_read_says c text says.what circuit says.is).valid.claim in
    let inside : k < length c.bads = omega (arith, fits, eqb-true r.claim k claimed) in
    let whole : JudgesBits c (bit_witness_of r) (judgement.Accepted frames) = subst (λ (r : BitRead). JudgesBits c (bit_witness_of r) (judgement.Accepted frames)) said says.judged in
    let shown : List Shown = map (circuit_shows c) vs in
    let all = no_fault _ _ (unreached_from (r.claim ∷ []) shown 0 (length c.bads)) frames (length shown) (whole vs trace) in
    let first = claim_rises (bit_claimed c text) shown (length c.bads) k inside claimed (claim_of_all (r.claim ∷ []) shown (length c.bads) k inside (ap (λ (b : Bool). b || false) claimed) all.reached) in
    let low = first.1.1 in
    let many = all.many in
    (first.0, (first.1.0, omega (arith, low, many)))

-- ---- traces that are the same

pub words_same_firsts : (items : List Item) (text : List ℕ) (fs gs : List Frame) → IsWellFormed items → SameTrace items fs gs → word_first_rises items text fs ≡ word_first_rises items text gs
words_same_firsts items text fs gs well same = ap (λ (l : List Shown). first_rises_from (word_claimed items text) l 0 (length (nodes_of is_bad items))) (shown_same items fs gs well same)

pub bits_same_firsts : (c : Circuit) (text : List ℕ) (vs us : List Valuation) → IsCircuit c → SameBitTrace c vs us → bit_first_rises c text vs ≡ bit_first_rises c text us
bits_same_firsts c text vs us circuit same = ap (λ (l : List Shown). first_rises_from (bit_claimed c text) l 0 (length c.bads)) (bits_shown_same c vs us circuit same)
