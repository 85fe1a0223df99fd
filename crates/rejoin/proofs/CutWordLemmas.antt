-- A word cut into pieces of 64 bits: how many there are, of which widths, and that their words make it.
use Rattle.std.proofs.Common.{◌≡◌, ℕ, zero, suc, ◌+◌, ◌-◌, ◌*◌, ◌/◌, ◌%◌, ◌^◌, ◌<◌, ◌≤◌, min, List, [], ◌∷◌, map, length, refl, sym, ap, ap₂, subst, ◌∙◌, ⊎_elim, arith}
use Rattle.std.specs.List.{AllByRecursion}
use Rattle.std.proofs.lemmas.Bool.{cases_lt}
use Rattle.std.proofs.lemmas.List.{length-map}
use Rattle.std.proofs.lemmas.Nat.{mod_below, div-add-mod', shr_below}
use Rattle.std.proofs.Math.Nat.{mod-eq_of_lt, div-eq_of_lt, pow-le-pow_right}
use Rattle.base.specs.Operator.{concat_value}
use Rattle.btor2.specs.Trace.{Frame}
use Rattle.fit.specs.Fitting.{pieces_word, pieces_width}
use Rattle.fit.proofs.ListLemmas.{heads}
use Rattle.pieces.specs.Cuts.{IsCut}
use Rattle.rejoin.specs.Pieces.{piece_count, widths_from, cut_width}

-- ---- widths

count_more : (n : ℕ) → piece_count (n + 64) ≡ suc (piece_count n)
count_more n = omega arith

-- pieces of 64 bits, but for the last, have these widths
pub widths_are_cut : (width : ℕ → ℕ) (ps : List ℕ) → IsCut 64 (map width ps) → map width ps ≡ cut_width (pieces_width width ps)
widths_are_cut width [] h = refl
widths_are_cut width (p ∷ []) h =
    let one : 1 ≡ piece_count (0 + width p) = omega (arith, h.0, h.1) in
    let first : width p ≡ min (0 + width p) 64 = omega (arith, h.1) in
    ap (λ (w : ℕ). w ∷ []) first ∙ ap (λ (m : ℕ). widths_from m (0 + width p)) one
widths_are_cut width (p ∷ q ∷ qs) h =
    let n : ℕ = pieces_width width (q ∷ qs) in
    let first : width p ≡ min (n + width p) 64 = omega (arith, h.0) in
    let rest : n ≡ n + width p - 64 = omega (arith, h.0) in
    ap₂ ◌∷◌ first (widths_are_cut width (q ∷ qs) h.1 ∙ ap (widths_from (piece_count n)) rest)
    ∙ ap (λ (m : ℕ). widths_from m (n + width p)) (sym (count_more n) ∙ ap (λ (w : ℕ). piece_count (n + w)) (sym h.0))

pub length-widths_from : (m n : ℕ) → length (widths_from m n) ≡ m
length-widths_from zero n = refl
length-widths_from (suc m) n = ap (λ (k : ℕ). suc k) (length-widths_from m (n - 64))

-- and there are as many as that
pub count_of_cut : (width : ℕ → ℕ) (ps : List ℕ) (n : ℕ) → map width ps ≡ cut_width n → length ps ≡ piece_count n
count_of_cut width ps n e = sym (length-map ps width) ∙ ap length e ∙ length-widths_from (piece_count n) n

-- ---- words

-- the words of pieces in a frame are those of a word, the lowest first
abbrev pub ArePiecesOf : Frame → ℕ → List ℕ → Type 0
ArePiecesOf f x [] = Unit {0}
ArePiecesOf f x (p ∷ ps) = (f p ≡ x % 2 ^ 64) × ArePiecesOf f (x / 2 ^ 64) ps

-- such words fit the pieces, and make the word
abbrev pub Make : (ℕ → ℕ) → Frame → ℕ → List ℕ → Type 0
Make width f x ps = (pieces_word width f ps ≡ x) × AllByRecursion (λ p. f p < 2 ^ width p) ps

make_last : (width : ℕ → ℕ) (f : Frame) (p : ℕ) (ps : List ℕ) (n x : ℕ) → width p ≡ n → n ≤ 64 → x < 2 ^ n → f p ≡ x % 2 ^ 64 → Make width f (x / 2 ^ 64) ps → Make width f x (p ∷ ps)
make_last width f p ps n x w few fits own more =
    let below : x < 2 ^ 64 = omega (arith, fits, pow-le-pow_right {n = 2} (omega arith) few) in
    let high : x / 2 ^ 64 ≡ 0 = div-eq_of_lt below in
    let low : f p ≡ x = own ∙ mod-eq_of_lt below in (
      ap₂ (λ (v u : ℕ). concat_value v (width p) u) (more.0 ∙ high) low ∙ omega arith,
      (subst (λ (v : ℕ). v < 2 ^ width p) (sym low) (subst (λ (k : ℕ). x < 2 ^ k) (sym w) fits), more.1),
    )

make_more : (width : ℕ → ℕ) (f : Frame) (p : ℕ) (ps : List ℕ) (x : ℕ) → width p ≡ 64 → f p ≡ x % 2 ^ 64 → Make width f (x / 2 ^ 64) ps → Make width f x (p ∷ ps)
make_more width f p ps x w own more = (
  ap₂ (λ (high low : ℕ). concat_value high (width p) low) more.0 own ∙ ap (λ (k : ℕ). concat_value (x / 2 ^ 64) k (x % 2 ^ 64)) w ∙ div-add-mod' x (2 ^ 64),
  (subst (λ (k : ℕ). f p < 2 ^ k) (sym w) (subst (λ (v : ℕ). v < 2 ^ 64) (sym own) (mod_below x (2 ^ 64) (omega arith))), more.1),
)

cuts_make : (width : ℕ → ℕ) (f : Frame) (ps : List ℕ) (m n x : ℕ) → map width ps ≡ widths_from m n → n ≤ m * 64 → x < 2 ^ n → ArePiecesOf f x ps → Make width f x ps
cuts_make width f [] zero n x e many fits are =
    let none : n ≡ 0 = omega (arith, many) in
    let one : x < 2 ^ 0 = subst (λ (k : ℕ). x < 2 ^ k) none fits in
    (omega (arith, one), tt)
cuts_make width f [] (suc m) n x e many fits are = absurd (cc)
cuts_make width f (p ∷ ps) zero n x e many fits are = absurd (cc)
cuts_make width f (p ∷ ps) (suc m) n x e many fits are =
    let parts = heads (width p) (min n 64) (map width ps) (widths_from m (n - 64)) e in
    ⊎_elim
    (λ (l : n < 65).
    let none : n - 64 ≡ 0 = omega (arith, l) in
    let below : x < 2 ^ 64 = omega (arith, fits, pow-le-pow_right {n = 2} (omega arith) {i = n} {j = 64} (omega (arith, l))) in
    let high : x / 2 ^ 64 < 2 ^ (n - 64) = rw (none, div-eq_of_lt below) (omega arith) in
    make_last width f p ps n x (parts.0 ∙ omega (arith, l)) (omega (arith, l)) fits are.0 (cuts_make width f ps m (n - 64) (x / 2 ^ 64) parts.1 (omega (arith, many)) high are.1))
    (λ (l : 65 ≤ n).
    make_more width f p ps x (parts.0 ∙ omega (arith, l)) are.0
    (cuts_make width f ps m (n - 64) (x / 2 ^ 64) parts.1 (omega (arith, many)) (shr_below x (n - 64) 64 (subst (λ (k : ℕ). x < 2 ^ k) (omega (arith, l)) fits)) are.1))
    (cases_lt n 65)

-- The words of the pieces of a word fit pieces of such widths, and make it.
pub pieces_make : (width : ℕ → ℕ) (f : Frame) (ps : List ℕ) (n x : ℕ) → map width ps ≡ cut_width n → x < 2 ^ n → ArePiecesOf f x ps → Make width f x ps
pieces_make width f ps n x e fits are = cuts_make width f ps (piece_count n) n x e (omega arith) fits are
