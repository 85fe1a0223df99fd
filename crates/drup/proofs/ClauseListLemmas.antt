-- Clauses in one list with their ends: how many there are, the one at a place, one more, and their literals.
use Rattle.std.proofs.Common.{◌≡◌, ℕ, zero, suc, ◌+◌, ◌-◌, ◌<◌, ◌≤◌, List, [], ◌∷◌, ◌++◌, length, get_or, drop, refl, ap, ap₂, ◌∙◌, arith, length-append}
use Rattle.std.proofs.lemmas.List.{length-drop, length-take-le}
use Rattle.std.specs.Prelude.{slice_range}
use Rattle.drup.specs.ClauseLists.{cut, AreEndsInTurn, literal_count}
use Rattle.drup.proofs.FlatLemmas.{range_kept, range_last}

pub length-cut_in_turn : (literals ends : List ℕ) (start : ℕ) → length (cut literals (start ∷ ends) ends) ≡ length ends
length-cut_in_turn literals [] start = refl
length-cut_in_turn literals (e ∷ es) start = ap suc (length-cut_in_turn literals es e)

pub cut_in_turn_at : (literals ends : List ℕ) (start k : ℕ) → k < length ends → get_or (cut literals (start ∷ ends) ends) k [] ≡ slice_range literals (get_or (start ∷ ends) k 0) (get_or ends k 0)
cut_in_turn_at literals [] start k h = absurd (omega arith)
cut_in_turn_at literals (e ∷ es) start zero h = refl
cut_in_turn_at literals (e ∷ es) start (suc k) h = cut_in_turn_at literals es e k (omega arith)

-- the literals end at or after the start
pub start_within : (start : ℕ) (ends : List ℕ) (size : ℕ) → AreEndsInTurn start ends size → start ≤ size
start_within start [] size h = omega (arith, h)
start_within start (e ∷ es) size h = omega (arith, h.0, start_within e es size h.1)

pub turn_bounds : (start : ℕ) (ends : List ℕ) (size k : ℕ) → AreEndsInTurn start ends size → k < length ends → (get_or (start ∷ ends) k 0 ≤ get_or ends k 0) × (get_or ends k 0 ≤ size)
turn_bounds start [] size k h below = absurd (omega arith)
turn_bounds start (e ∷ es) size zero h below = (h.0, start_within e es size h.1)
turn_bounds start (e ∷ es) size (suc k) h below = turn_bounds e es size k h.1 (omega arith)

-- one more clause, which may have no literals

AreInTurn-push : (start : ℕ) (ends : List ℕ) (size more : ℕ) → AreEndsInTurn start ends size → size ≤ more → AreEndsInTurn start (ends ++ more ∷ []) more
AreInTurn-push start [] size more h le = (omega (arith, h), refl)
AreInTurn-push start (e ∷ es) size more h le = (h.0, AreInTurn-push e es size more h.1 le)

cut-push : (literals clause ends : List ℕ) (start : ℕ) → AreEndsInTurn start ends (length literals)
    → cut (literals ++ clause) (start ∷ (ends ++ length (literals ++ clause) ∷ [])) (ends ++ length (literals ++ clause) ∷ []) ≡ cut literals (start ∷ ends) ends ++ clause ∷ []
cut-push literals clause [] start h =
    ap (λ (c : List ℕ). c ∷ []) (ap (λ (s : ℕ). slice_range (literals ++ clause) s (length (literals ++ clause))) h ∙ range_last literals clause)
cut-push literals clause (e ∷ es) start h =
    ap₂ (λ (c : List ℕ) (cs : List (List ℕ)). c ∷ cs) (range_kept literals clause start e h.0 (start_within e es (length literals) h.1))
    (cut-push literals clause es e h.1)

pub one_clause_more : (literals clause ends literals' ends' : List ℕ) (end' : ℕ) → literals' ≡ literals ++ clause → ends' ≡ ends ++ end' ∷ [] → end' ≡ length literals' → AreEndsInTurn 0 ends (length literals)
    → AreEndsInTurn 0 ends' (length literals') × (cut literals' (0 ∷ ends') ends' ≡ cut literals (0 ∷ ends) ends ++ clause ∷ [])
one_clause_more literals clause ends literals' ends' end' l e n h =
    let is : ends' ≡ ends ++ length (literals ++ clause) ∷ [] = e ∙ ap (λ (k : ℕ). ends ++ k ∷ []) (n ∙ ap length l) in
    (rw (is, l) (AreInTurn-push 0 ends (length literals) (length (literals ++ clause)) h (omega (arith, length-append literals clause))), rw (is, l) (cut-push literals clause ends 0 h))

-- ---- how many literals they have

length-range : (literals : List ℕ) (start end' : ℕ) → start ≤ end' → end' ≤ length literals → length (slice_range literals start end') ≡ end' - start
length-range literals start end' low high = length-take-le (end' - start) (drop start literals) (omega (arith, length-drop start literals))

count_in_turn : (literals : List ℕ) (start : ℕ) (ends : List ℕ) → AreEndsInTurn start ends (length literals) → start + literal_count (cut literals (start ∷ ends) ends) ≡ length literals
count_in_turn literals start [] h = omega (arith, h)
count_in_turn literals start (e ∷ es) h = omega (arith, h.0, length-range literals start e h.0 (start_within e es (length literals) h.1), count_in_turn literals e es h.1)

pub count_all : (literals ends : List ℕ) → AreEndsInTurn 0 ends (length literals) → length literals ≡ literal_count (cut literals (0 ∷ ends) ends)
count_all literals ends h = omega (arith, count_in_turn literals 0 ends h)

-- what is read at a place is the number there
pub read_there : (xs : List ℕ) (i e : ℕ) → i < length xs → e ≡ get_or xs i e → e ≡ get_or xs i 0
read_there [] i e l h = absurd (omega arith)
read_there (x ∷ xs) zero e l h = h
read_there (x ∷ xs) (suc i) e l h = read_there xs i e (omega arith) h
