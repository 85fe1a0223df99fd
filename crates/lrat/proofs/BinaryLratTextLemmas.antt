-- Bytes that write steps are read as them.
use Rattle.std.proofs.Common.{◌≡◌, ℕ, suc, ◌+◌, ◌-◌, ◌/◌, ◌%◌, ◌^◌, ◌<◌, ◌≤◌, min, ◌==◌, ◌&&◌, Bool, true, false, if◌then◌else◌, List, [], ◌∷◌, ◌++◌, length, refl, sym, ap, ◌∙◌, append_assoc, append-nil, arith}
use Rattle.std.specs.Prelude.{nat_lt, All}
use Rattle.std.specs.List.{AllByRecursion}
use Rattle.std.specs.Str.{bytes_eq}
use Rattle.std.proofs.lemmas.Bool.{eqb-true, ne_eqb, lt-ltb, le-ltb}
use Rattle.base.specs.Decimals.{is_nothing}
use Rattle.drup.specs.Formula.{IsLiteral}
use Rattle.drup.specs.Proofs.{most_proof_lines}
use Rattle.drup.specs.BinaryProofs.{number_pieces, coded_number}
use Rattle.drup.specs.Hints.{HintedStep, addition, deletion, ended}
use Rattle.lrat.specs.HintedProofs.{Token, ends, adds, removes, number, negative, Mark, mark, between, literals, hints, deletions, goes_on, gives, by_id, taken, by_taken, behind_steps, reading_from, read_text_lrat}
use Rattle.lrat.specs.BinaryHintedProofs.{Spot, at_step, at_id, at_literal, at_other, number_in, literal_coded, step_marks, read_binary_lrat}
use Rattle.lrat.specs.HintedForms.{is_binary_lrat, read_lrat}
use Rattle.lrat.specs.LratTexts.{IsId, IsWritten, on_lines}
use Rattle.lrat.specs.BinaryLratTexts.{WritesNumber, WritesNumbers, WritesStep, WritesSteps}
use Rattle.lrat.specs.Worked.{reads}
use Rattle.drup.proofs.BytesLemmas.{pieces_end}
use Rattle.drup.proofs.NumberLemmas.{is_alone}
use Rattle.lrat.proofs.NumberLemmas.{says_number}
use Rattle.lrat.proofs.LratTextLemmas.{odd_one, with_is, id_is, id_low, to_recursion}

-- ---- a number

pieces_number : (n : ℕ) (bytes more : List ℕ) → WritesNumber n bytes → number_pieces (bytes ++ more) ≡ bytes ∷ number_pieces more
pieces_number n bytes more w =
    ap (λ (b : List ℕ). number_pieces (b ++ more)) w.is
    ∙ ap number_pieces (append_assoc w.front (w.last ∷ []) more)
    ∙ pieces_end w.front more w.last w.high (lt-ltb w.last 128 w.low)
    ∙ ap (λ (b : List ℕ). b ∷ number_pieces more) (sym w.is)

no_end : (n : ℕ) (bytes : List ℕ) → WritesNumber n bytes → bytes_eq bytes (0 ∷ []) ≡ false
no_end n bytes w =
    let some : (w.last == 0) ≡ false = ne_eqb w.last 0 (λ e. omega (arith, e, w.some)) in
    ap (λ (b : List ℕ). bytes_eq b (0 ∷ [])) w.is ∙ sym (is_alone w.front w.last 0) ∙ ap (λ (t : Bool). t && is_nothing w.front) some

number_is : (said : ℕ → Token) (n : ℕ) (bytes : List ℕ) → n < 2 ^ 64 → WritesNumber n bytes → number_in said bytes ≡ said n
number_is said n bytes low w =
    let some : (w.last == 0) ≡ false = ne_eqb w.last 0 (λ e. omega (arith, e, w.some)) in
    let value : coded_number (w.front ++ w.last ∷ []) ≡ n = ap coded_number (sym w.is) ∙ w.value in
    ap (number_in said) w.is ∙ sym (says_number said w.front w.last n w.low some (omega (arith, value, low)))

-- ---- what numbers do

abbrev pub rest_of : ℕ → Spot → List ℕ → List Mark
rest_of k spot bytes = step_marks k spot (number_pieces bytes)

coded_taken : (v id : ℕ) (before : List ℕ) (l : ℕ) → IsLiteral v l → taken v (literals id before) (literal_coded l) ≡ goes_on (literals id (before ++ l ∷ []))
coded_taken v id before l is = at (l % 2 == 0) refl
  where
    at : (b : Bool) → (l % 2 == 0) ≡ b → taken v (literals id before) (if b then number (l / 2) else negative (l / 2)) ≡ goes_on (literals id (before ++ l ∷ []))
    at true even = let zero : l % 2 ≡ 0 = eqb-true (l % 2) 0 even in with_is v id before 0 (l / 2) l (omega (arith, is.0)) (omega (arith, is.1)) (omega (arith, zero))
    at false odd = let one : l % 2 ≡ 1 = odd_one l odd in with_is v id before 1 (l / 2) l (omega (arith, is.0)) (omega (arith, is.1)) (omega (arith, one))

-- a number among literals, and among ids
pub literal_marks : (k n : ℕ) (bytes more : List ℕ) → n < 2 ^ 64 → WritesNumber n bytes → rest_of k at_literal (bytes ++ more) ≡ mark k (literal_coded n) ∷ rest_of k at_literal more
literal_marks k n bytes more low w =
    ap (step_marks k at_literal) (pieces_number n bytes more w)
    ∙ ap (λ (b : Bool). mark k (if b then ends else number_in literal_coded bytes) ∷ step_marks k (if b then at_other else at_literal) (number_pieces more)) (no_end n bytes w)
    ∙ ap (λ (t : Token). mark k t ∷ rest_of k at_literal more) (number_is literal_coded n bytes low w)

pub other_marks : (k n : ℕ) (bytes more : List ℕ) → n < 2 ^ 64 → WritesNumber n bytes → rest_of k at_other (bytes ++ more) ≡ mark k (number n) ∷ rest_of k at_other more
other_marks k n bytes more low w =
    ap (step_marks k at_other) (pieces_number n bytes more w)
    ∙ ap (λ (b : Bool). mark k (if b then ends else number_in number bytes) ∷ step_marks (if b then min (k + 1) (2 ^ 64 - 1) else k) (if b then at_step else at_other) (number_pieces more)) (no_end n bytes w)
    ∙ ap (λ (t : Token). mark k t ∷ rest_of k at_other more) (number_is number n bytes low w)

pub id_marks : (k n : ℕ) (bytes more : List ℕ) → n < 2 ^ 64 → WritesNumber n bytes → rest_of k at_id (bytes ++ more) ≡ mark k (number n) ∷ rest_of k at_literal more
id_marks k n bytes more low w = ap (step_marks k at_id) (pieces_number n bytes more w) ∙ ap (λ (t : Token). mark k t ∷ rest_of k at_literal more) (number_is number n bytes low w)

literals_read : (v k id : ℕ) (before clause bytes more : List ℕ) → v < 2 ^ 63 → AllByRecursion (IsLiteral v) clause → WritesNumbers clause bytes
    → reading_from v 0 (literals id before) (rest_of k at_literal (bytes ++ more)) ≡ reading_from v 0 (literals id (before ++ clause)) (rest_of k at_literal more)
literals_read v k id before [] bytes more few all w =
    ap (λ (b : List ℕ). reading_from v 0 (literals id before) (rest_of k at_literal (b ++ more))) w ∙ ap (λ (c : List ℕ). reading_from v 0 (literals id c) (rest_of k at_literal more)) (sym (append-nil before))
literals_read v k id before (l ∷ ls) bytes more few all w =
    let front : List ℕ = w.0 in
    let rest : List ℕ = w.1.0 in
    ap (λ (b : List ℕ). reading_from v 0 (literals id before) (rest_of k at_literal b)) (ap (λ (b : List ℕ). b ++ more) w.1.1.1.1 ∙ append_assoc front rest more)
    ∙ ap (reading_from v 0 (literals id before)) (literal_marks k l front (rest ++ more) (omega (arith, few, all.0.1)) w.1.1.0)
    ∙ ap (by_taken k (λ after. reading_from v 0 after (rest_of k at_literal (rest ++ more)))) (coded_taken v id before l all.0)
    ∙ literals_read v k id (before ++ l ∷ []) ls rest more few all.1 w.1.1.1.0
    ∙ ap (λ (c : List ℕ). reading_from v 0 (literals id c) (rest_of k at_literal more)) (append_assoc before (l ∷ []) ls)

hints_read : (v k id : ℕ) (clause before ids bytes more : List ℕ) → AllByRecursion IsId ids → WritesNumbers ids bytes
    → reading_from v 0 (hints id clause before) (rest_of k at_other (bytes ++ more)) ≡ reading_from v 0 (hints id clause (before ++ ids)) (rest_of k at_other more)
hints_read v k id clause before [] bytes more all w =
    ap (λ (b : List ℕ). reading_from v 0 (hints id clause before) (rest_of k at_other (b ++ more))) w ∙ ap (λ (c : List ℕ). reading_from v 0 (hints id clause c) (rest_of k at_other more)) (sym (append-nil before))
hints_read v k id clause before (h ∷ hs) bytes more all w =
    let front : List ℕ = w.0 in
    let rest : List ℕ = w.1.0 in
    ap (λ (b : List ℕ). reading_from v 0 (hints id clause before) (rest_of k at_other b)) (ap (λ (b : List ℕ). b ++ more) w.1.1.1.1 ∙ append_assoc front rest more)
    ∙ ap (reading_from v 0 (hints id clause before)) (other_marks k h front (rest ++ more) (id_low h all.0) w.1.1.0)
    ∙ ap (λ o. by_taken k (λ after. reading_from v 0 after (rest_of k at_other (rest ++ more))) (by_id (λ hint. goes_on (hints id clause (before ++ hint ∷ []))) o)) (id_is h all.0)
    ∙ hints_read v k id clause (before ++ h ∷ []) hs rest more all.1 w.1.1.1.0
    ∙ ap (λ (c : List ℕ). reading_from v 0 (hints id clause c) (rest_of k at_other more)) (append_assoc before (h ∷ []) hs)

-- ---- a step

pub addition_begins : (k : ℕ) (more : List ℕ) → k ≤ most_proof_lines → rest_of k at_step (97 ∷ more) ≡ mark k adds ∷ rest_of k at_id more
addition_begins k more few = let line : nat_lt most_proof_lines k ≡ false = le-ltb most_proof_lines k few in rw line refl

deletion_begins : (k : ℕ) (more : List ℕ) → k ≤ most_proof_lines → rest_of k at_step (100 ∷ more) ≡ mark k removes ∷ rest_of k at_other more
deletion_begins k more few = let line : nat_lt most_proof_lines k ≡ false = le-ltb most_proof_lines k few in rw line refl

step_ends : (k : ℕ) (more : List ℕ) → k ≤ most_proof_lines → rest_of k at_other (0 ∷ more) ≡ mark k ends ∷ rest_of (suc k) at_step more
step_ends k more few =
    let most : k ≤ 2 ^ 62 = few in
    let next : min (k + 1) (2 ^ 64 - 1) ≡ suc k = omega (arith, most) in
    ap (λ (n : ℕ). mark k ends ∷ rest_of n at_step more) next

addition_read : (v k id : ℕ) (clause ids bytes more : List ℕ) → v < 2 ^ 63 → k ≤ most_proof_lines → IsId id → AllByRecursion (IsLiteral v) clause → AllByRecursion IsId ids → WritesStep (addition id clause ids) bytes
    → reading_from v 0 between (rest_of k at_step (bytes ++ more)) ≡ behind_steps (ended k (addition id clause ids) ∷ []) (reading_from v 0 between (rest_of (suc k) at_step more))
addition_read v k id clause ids bytes more few line own literal_all id_all w =
    let i : List ℕ = w.0 in
    let c : List ℕ = w.1.0 in
    let h : List ℕ = w.1.1.0 in
    let tail : List ℕ = 0 ∷ (h ++ 0 ∷ more) in
    let apart : bytes ++ more ≡ 97 ∷ (i ++ (c ++ tail)) =
    ap (λ (b : List ℕ). b ++ more) w.1.1.1.1.1.1
    ∙ ap (λ (b : List ℕ). 97 ∷ b) (append_assoc i (c ++ (0 ∷ (h ++ 0 ∷ []))) more ∙ ap (λ (b : List ℕ). i ++ b) (append_assoc c (0 ∷ (h ++ 0 ∷ [])) more ∙ ap (λ (b : List ℕ). c ++ (0 ∷ b)) (append_assoc h (0 ∷ []) more))) in
    ap (λ (b : List ℕ). reading_from v 0 between (rest_of k at_step b)) apart
    ∙ ap (reading_from v 0 between) (addition_begins k (i ++ (c ++ tail)) line)
    ∙ ap (reading_from v 0 between) (id_marks k id i (c ++ tail) (id_low id own) w.1.1.1.0)
    ∙ ap (λ o. by_taken k (λ after. reading_from v 0 after (rest_of k at_literal (c ++ tail))) (by_id (λ n. goes_on (literals n [])) o)) (id_is id own)
    ∙ literals_read v k id [] clause c tail few literal_all w.1.1.1.1.0
    ∙ hints_read v k id clause [] ids h (0 ∷ more) id_all w.1.1.1.1.1.0
    ∙ ap (reading_from v 0 (hints id clause ids)) (step_ends k more line)

deletion_read : (v k id : ℕ) (bytes more : List ℕ) → k ≤ most_proof_lines → IsId id → WritesStep (deletion id) bytes
    → reading_from v 0 between (rest_of k at_step (bytes ++ more)) ≡ behind_steps (ended k (deletion id) ∷ []) (reading_from v 0 between (rest_of (suc k) at_step more))
deletion_read v k id bytes more line own w =
    let i : List ℕ = w.0 in
    let apart : bytes ++ more ≡ 100 ∷ (i ++ 0 ∷ more) = ap (λ (b : List ℕ). b ++ more) w.1.1 ∙ ap (λ (b : List ℕ). 100 ∷ b) (append_assoc i (0 ∷ []) more) in
    ap (λ (b : List ℕ). reading_from v 0 between (rest_of k at_step b)) apart
    ∙ ap (reading_from v 0 between) (deletion_begins k (i ++ 0 ∷ more) line)
    ∙ ap (reading_from v 0 deletions) (other_marks k id i (0 ∷ more) (id_low id own) w.1.0)
    ∙ ap (λ o. by_taken k (λ after. reading_from v 0 after (rest_of k at_other (0 ∷ more))) (by_id (λ n. gives (deletion n) deletions) o)) (id_is id own)
    ∙ ap (λ (ms : List Mark). behind_steps (ended k (deletion id) ∷ []) (reading_from v 0 deletions ms)) (step_ends k more line)

step_read : (v k : ℕ) (step : HintedStep) (bytes more : List ℕ) → v < 2 ^ 63 → k ≤ most_proof_lines → IsWritten v step → WritesStep step bytes
    → reading_from v 0 between (rest_of k at_step (bytes ++ more)) ≡ behind_steps (ended k step ∷ []) (reading_from v 0 between (rest_of (suc k) at_step more))
step_read v k (addition id clause ids) bytes more few line is w = addition_read v k id clause ids bytes more few line is.0 (to_recursion (IsLiteral v) clause is.1) (to_recursion IsId ids is.2) w
step_read v k (deletion id) bytes more few line is w = deletion_read v k id bytes more line is w

steps_read : (v k : ℕ) (steps : List HintedStep) (bytes : List ℕ) → v < 2 ^ 63 → AllByRecursion (IsWritten v) steps → k + length steps ≤ suc most_proof_lines → WritesSteps steps bytes
    → reading_from v 0 between (rest_of k at_step bytes) ≡ reads (on_lines k steps)
steps_read v k [] bytes few all enough w = ap (λ (b : List ℕ). reading_from v 0 between (rest_of k at_step b)) w
steps_read v k (step ∷ steps) bytes few all enough w =
    let bound : k + suc (length steps) ≤ suc most_proof_lines = enough in
    ap (λ (b : List ℕ). reading_from v 0 between (rest_of k at_step b)) w.1.1.1.1
    ∙ step_read v k step w.0 w.1.0 few (omega (arith, bound)) all.0 w.1.1.0
    ∙ ap (behind_steps (ended k step ∷ [])) (steps_read v (suc k) steps w.1.0 few all.1 (omega (arith, bound)) w.1.1.1.0)

-- ---- the text

step_form : (step : HintedStep) (front rest : List ℕ) → WritesStep step front → is_binary_lrat (front ++ rest) ≡ true
step_form (addition id clause ids) front rest w = ap (λ (b : List ℕ). is_binary_lrat (b ++ rest)) w.1.1.1.1.1.1
step_form (deletion id) front rest w = ap (λ (b : List ℕ). is_binary_lrat (b ++ rest)) w.1.1

pub bytes_read : (v : ℕ) (steps : List HintedStep) (bytes : List ℕ) → v < 2 ^ 63 → All (IsWritten v) steps → length steps ≤ most_proof_lines → WritesSteps steps bytes → read_lrat v bytes ≡ reads (on_lines 1 steps)
bytes_read v [] bytes few all enough w = ap (read_lrat v) w
bytes_read v (step ∷ steps) bytes few all enough w =
    let bound : suc (length steps) ≤ most_proof_lines = enough in
    ap (λ (b : Bool). if b then read_binary_lrat v bytes else read_text_lrat v bytes) (ap is_binary_lrat w.1.1.1.1 ∙ step_form step w.0 w.1.0 w.1.1.0)
    ∙ steps_read v 1 (step ∷ steps) bytes few (to_recursion (IsWritten v) (step ∷ steps) all) (omega (arith, bound)) w
