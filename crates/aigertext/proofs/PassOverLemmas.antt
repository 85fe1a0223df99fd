-- Lines that are passed over, and what the lists of a file keep while they are read.
use Rattle.std.proofs.Common.{◌≡◌, ℕ, zero, suc, ◌+◌, ◌<◌, ◌≤◌, nat_lt, true, false, List, [], ◌∷◌, ◌++◌, length, map, Some, Result, Ok, Err, refl, sym, ap, subst, ◌∙◌, length-append, take, get_or, arith, inl, inr}
use Rattle.std.specs.List.{concat, sum_by}
use Rattle.std.specs.List.{slice_get}
use Rattle.std.proofs.lemmas.List.{length-map}
use Rattle.std.proofs.lemmas.List.Sums.{sum_by-cons, sum_by_more}
use Rattle.std.proofs.lemmas.Option.{slice_get_within, get_or_from_slice_get}
use Rattle.std.proofs.lemmas.Bool.Decides.{nat_tests}
use Rattle.aigerlists.specs.declared.loose.GateLine.{GateLine}
use Rattle.aigerlists.specs.declared.loose.LatchLine.{LatchLine}
use Rattle.aigerlists.specs.Loose.{Loose, empty_loose, with_input_line, with_latch_line}
use Rattle.aigerlists.specs.Renumbering.{used_lines, alone, AnswersNumber, LeadsToCycle, LeadsAlong}
use Rattle.aigerlists.specs.declared.fault.LooseFault.{LooseFault}
use Rattle.aigerlists.specs.declared.fault.LooseFault.TheVariants.{Cycle}
use Rattle.aigertext.specs.declared.reading.counts.Counts.{Counts}
use Rattle.aigertext.specs.declared.fault.Stop.{Stop}
use Rattle.aigertext.specs.declared.fault.Why.{Why}
use Rattle.aigertext.specs.Reading.{◌>>=◌, cut_at_byte, line_at, Properties, properties_at}
use Rattle.aigertext.specs.AsciiReading.{behind_line, behind_lines, lines_before, onto_lists, with_properties_of}
use Rattle.aigertext.specs.Passes.{properties_onto}
use Rattle.aigertext.proofs.BackLemmas.{ok_same, err_same, not_err, bind-back, line-back}

-- ---- lines that are passed over

pub skip_one : (m n : ℕ) (text rest : List ℕ) → m ≡ suc n → rest ≡ behind_line text (cut_at_byte 10 text) → behind_lines n rest ≡ behind_lines m text
skip_one m n text rest left is = ap (behind_lines n) is ∙ ap (λ (k : ℕ). behind_lines k text) (sym left)

pub skip_both : (n k : ℕ) (text : List ℕ) → behind_lines k (behind_lines n text) ≡ behind_lines (n + k) text
skip_both zero k text = let same : 0 + k ≡ k = omega arith in ap (λ (j : ℕ). behind_lines j text) (sym same)
skip_both (suc n) k text =
    let same : suc n + k ≡ suc (n + k) = omega arith in
    skip_both n k (behind_line text (cut_at_byte 10 text)) ∙ ap (λ (j : ℕ). behind_lines j text) (sym same)

pub before_low : (h : Counts) (k n : ℕ) → k < h.latches + h.outputs + h.bads + h.constraints → n ≡ h.inputs → (text : List ℕ) → behind_lines k (behind_lines n text) ≡ behind_lines (lines_before h k) text
before_low h k n low is text =
    let t : nat_lt k (h.latches + h.outputs + h.bads + h.constraints) ≡ true = grind (arith, nat_tests) in
    let same : lines_before h k ≡ n + k = rw (t, is) refl in
    skip_both n k text ∙ ap (λ (j : ℕ). behind_lines j text) (sym same)

pub before_high : (h : Counts) (k n : ℕ) → h.latches + h.outputs + h.bads + h.constraints ≤ k → n ≡ h.inputs + h.justice → (text : List ℕ) → behind_lines k (behind_lines n text) ≡ behind_lines (lines_before h k) text
before_high h k n high is text =
    let t : nat_lt k (h.latches + h.outputs + h.bads + h.constraints) ≡ false = grind (arith, nat_tests) in
    let same : lines_before h k ≡ n + k = rw (t, is) refl in
    skip_both n k text ∙ ap (λ (j : ℕ). behind_lines j text) (sym same)

-- ---- how many lines use literals

length_concat : (lists : List (List ℕ)) → length (concat lists) ≡ sum_by length lists
length_concat [] = refl
length_concat (x ∷ xs) = omega (arith, length-append x (concat xs), length_concat xs, sum_by-cons length x xs)

six : (a b c d e f g : List (List ℕ)) → length (a ++ b ++ c ++ d ++ e ++ f ++ g) ≡ length a + length b + length c + length d + length e + length f + length g
six a b c d e f g =
    length-append (a ++ b ++ c ++ d ++ e ++ f) g ∙ ap (λ (k : ℕ). k + length g)
    (length-append (a ++ b ++ c ++ d ++ e) f ∙ ap (λ (k : ℕ). k + length f)
    (length-append (a ++ b ++ c ++ d) e ∙ ap (λ (k : ℕ). k + length e)
    (length-append (a ++ b ++ c) d ∙ ap (λ (k : ℕ). k + length d)
    (length-append (a ++ b) c ∙ ap (λ (k : ℕ). k + length c) (length-append a b)))))

pub many_used : (l : Loose) → length (used_lines l) ≡ length l.latches + length l.outputs + length l.bads + length l.constraints + sum_by length l.justice + length l.fair + length l.gates
many_used l =
    six (map (λ (line : LatchLine). line.next ∷ []) l.latches) (map alone l.outputs) (map alone l.bads) (map alone l.constraints) (map alone (concat l.justice)) (map alone l.fair) (map (λ (line : GateLine). line.rhs0 ∷ line.rhs1 ∷ []) l.gates)
    ∙ omega (arith, length-map l.latches (λ (line : LatchLine). line.next ∷ []), length-map l.outputs alone, length-map l.bads alone, length-map l.constraints alone, length-map (concat l.justice) alone, length-map l.fair alone, length-map l.gates (λ (line : GateLine). line.rhs0 ∷ line.rhs1 ∷ []), length_concat l.justice)

-- the sum of sizes with one more
pub sum_more : (lists : List (List ℕ)) (i sum : ℕ) (ls : List ℕ) → slice_get lists i ≡ Some ls → sum ≡ sum_by length (take i lists) → sum + length ls ≡ sum_by length (take (i + 1) lists)
sum_more lists i sum ls found is =
    let one : get_or lists i ls ≡ ls = get_or_from_slice_get lists i ls ls found in
    omega (arith, sum_by_more length lists i ls (slice_get_within lists i ls found), is, ap (length {A = ℕ}) one)

-- a gate that leads to a cycle is one of the gates
uses_within : (l : Loose) (j i : ℕ) (ks : List ℕ) → LeadsAlong l j ks i → j < length l.gates
uses_within l j i [] u = u.user
uses_within l j i (k ∷ ks) u = u.0.user

pub cyclic_within : (l : Loose) (j : ℕ) → LeadsToCycle l j → j < length l.gates
cyclic_within l j (i, (inl same, around)) = subst (λ (k : ℕ). k < length l.gates) (sym same) (uses_within l i i around.0 around.1)
cyclic_within l j (i, (inr reaches, around)) = uses_within l j i reaches.0 reaches.1

pub cycle_within : (l : Loose) (fault : LooseFault) (j : ℕ) → AnswersNumber l (Err fault) → fault ≡ Cycle j → j < length l.gates
cycle_within l fault j answers is = by (subst (λ (f : LooseFault). AnswersNumber l (Err f)) is answers)
  where
    by : AnswersNumber l (Err (Cycle j)) → j < length l.gates
    by a = cyclic_within l j a.1.leads

-- ---- what lists keep while lines are read onto them

pub onto_kept : {A : Type 0} (says : Loose → List ℕ → Result A Why) (with' : Loose → A → Loose) (P : ℕ → Loose → Type 0)
    → ((n : ℕ) (l : Loose) (x : A) (line : List ℕ) → says l line ≡ Ok x → P (suc n) l → P n (with' l x))
    → (n : ℕ) (l : Loose) (text : List ℕ) (m : Loose) (rest : List ℕ) → P n l → onto_lists says with' l n text ≡ Ok (m, rest) → P 0 m
onto_kept says with' P step zero l text m rest p e = subst (P 0) (ap (λ (x : Loose × List ℕ). x.0) (ok_same (l, text) (m, rest) e)) p
onto_kept {A} says with' P step (suc n) l text m rest p e =
    let b = bind-back (line_at (says l) text) (λ (x : A × List ℕ). onto_lists says with' (with' l x.0) n x.1) (m, rest) e in
    let s = line-back (says l) text b.value.0 b.value.1 b.was in
    onto_kept says with' P step n (with' l b.value.0) b.value.1 m rest (step n l b.value.0 s.line s.said p) b.then'

-- no names yet
pub no_names : (h : Counts) (text t1 t2 : List ℕ) (l0 l1 l2 : Loose) (says1 : Loose → List ℕ → Result ℕ Why) (says2 : Loose → List ℕ → Result LatchLine Why)
    → l0 ≡ empty_loose → onto_lists says1 with_input_line l0 h.inputs text ≡ Ok (l1, t1) → onto_lists says2 with_latch_line l1 h.latches t1 ≡ Ok (l2, t2) → l2.names ≡ []
no_names h text t1 t2 l0 l1 l2 says1 says2 none one two =
    let first : l1.names ≡ [] = onto_kept says1 with_input_line (λ n l. l.names ≡ []) (λ n l x line e k. k) h.inputs l0 text l1 t1 (ap (λ (l : Loose). l.names) none) one in
    onto_kept says2 with_latch_line (λ n l. l.names ≡ []) (λ n l x line e k. k) h.latches l1 t1 l2 t2 first two

-- ---- properties of a file

-- properties that were read onto lists, with what follows them
pub gates_left : {B : Type 0} (h : Counts) (l m : Loose) (text rest : List ℕ) (next : Loose → List ℕ → Result B Stop) → properties_onto h l text ≡ Ok (m, rest) → (properties_at h text >>= (λ p. next (with_properties_of l p.0) p.1)) ≡ next m rest
gates_left {B} h l m text rest next = by (properties_at h text)
  where
    by : (r : Result (Properties × List ℕ) Stop) → ◌>>=◌ {A = Properties × List ℕ} {B = Loose × List ℕ} {E = Stop} r (λ p. Ok (with_properties_of l p.0, p.1)) ≡ Ok (m, rest) → (r >>= (λ p. next (with_properties_of l p.0) p.1)) ≡ next m rest
    by (Ok p) e = ap (λ (x : Loose × List ℕ). next x.0 x.1) (ok_same (with_properties_of l p.0, p.1) (m, rest) e)
    by (Err w) e = absurd (not_err _ _ e)

pub gates_stop : {B : Type 0} (h : Counts) (l : Loose) (text : List ℕ) (next : Loose → List ℕ → Result B Stop) (e : Stop) → properties_onto h l text ≡ Err e → (properties_at h text >>= (λ p. next (with_properties_of l p.0) p.1)) ≡ Err e
gates_stop {B} h l text next e = by (properties_at h text)
  where
    by : (r : Result (Properties × List ℕ) Stop) → ◌>>=◌ {A = Properties × List ℕ} {B = Loose × List ℕ} {E = Stop} r (λ p. Ok (with_properties_of l p.0, p.1)) ≡ Err e → (r >>= (λ p. next (with_properties_of l p.0) p.1)) ≡ Err e
    by (Ok p) is = absurd (not_err _ _ (sym is))
    by (Err w) is = ap (λ (v : Stop). Err v) (err_same w e is)
