-- What is told of a value is the value where it is so of each word that is told.
use Rattle.std.proofs.Common.{◌≡◌, ℕ, zero, suc, ◌+◌, ◌*◌, ◌^◌, ◌<◌, List, Option, Some, None, IfSome, unwrap_or, refl, sym, ap, subst, ◌∙◌, arith, pow_pos, lit<}
use Rattle.base.specs.Operator.{concat_value}
use Rattle.base.proofs.ValueLaws.{concat_below}
use Rattle.full.specs.Cells.{read_value}
use Rattle.full.specs.Lines.{Sort, words, arrays}
use Rattle.full.proofs.CellLemmas.{read_below, read_high, lowest_cell}
use Rattle.full.proofs.HalfLemmas.{cells_same}
use Rattle.witness.specs.Judgements.{given}
use Rattle.fulljudge.specs.Shapes.{word_count, word_width}
use Rattle.fulljudge.specs.Told.{told, told_cells}

-- the word of a value with an index
abbrev pub own_word : Sort → ℕ → ℕ → ℕ
own_word (words n) x c = x
own_word (arrays k n) x c = read_value n x c

-- the words that are told of a value fit it
abbrev pub WordsFit : List (ℕ × ℕ) → Sort → ℕ → Type 0
WordsFit list s first = (c : ℕ) → c < word_count s → IfSome (given list (first + c)) (λ v. v < 2 ^ word_width s)

chosen_below : (o : Option ℕ) (n a i : ℕ) → IfSome o (λ v. v < 2 ^ n) → unwrap_or o (read_value n a i) < 2 ^ n
chosen_below None n a i h = read_below n a i
chosen_below (Some v) n a i h = h

pub high_cell : (n hi lo j : ℕ) → lo < 2 ^ n → read_value n (concat_value hi n lo) (suc j) ≡ read_value n hi j
high_cell n hi lo j h =
    let one : 1 * n ≡ n = omega arith in
    let next : 1 + j ≡ suc j = omega arith in
    subst (λ (m : ℕ). read_value n (concat_value hi m lo) (suc j) ≡ read_value n hi j) one
    (subst (λ (k : ℕ). read_value n (concat_value hi (1 * n) lo) k ≡ read_value n hi j) next (read_high 1 n hi lo j (subst (λ (m : ℕ). lo < 2 ^ m) (sym one) h)))

-- a cell of an array that is told
read_told : (list : List (ℕ × ℕ)) (n first x c m j : ℕ) → ((i : ℕ) → i < m → IfSome (given list (first + (c + i))) (λ v. v < 2 ^ n)) → j < m
    → read_value n (told_cells list n first x c m) j ≡ unwrap_or (given list (first + (c + j))) (read_value n x (c + j))
read_told list n first x c zero j fit below = absurd (omega (arith, below))
read_told list n first x c (suc m) zero fit below =
    let same : c + 0 ≡ c = omega arith in
    let low = chosen_below (given list (first + c)) n x c (subst (λ (k : ℕ). IfSome (given list (first + k)) (λ v. v < 2 ^ n)) same (fit 0 below)) in
    lowest_cell n (told_cells list n first x (suc c) m) (unwrap_or (given list (first + c)) (read_value n x c)) low
    ∙ ap (λ (k : ℕ). unwrap_or (given list (first + k)) (read_value n x k)) (sym same)
read_told list n first x c (suc m) (suc j) fit below =
    let same : c + 0 ≡ c = omega arith in
    let low = chosen_below (given list (first + c)) n x c (subst (λ (k : ℕ). IfSome (given list (first + k)) (λ v. v < 2 ^ n)) same (fit 0 (omega arith))) in
    high_cell n (told_cells list n first x (suc c) m) (unwrap_or (given list (first + c)) (read_value n x c)) j low
    ∙ read_told list n first x (suc c) m j (λ i h. subst (λ (k : ℕ). IfSome (given list (first + k)) (λ v. v < 2 ^ n)) (omega arith) (fit (suc i) (omega (arith, h)))) (omega (arith, below))
    ∙ ap (λ (k : ℕ). unwrap_or (given list (first + k)) (read_value n x k)) (omega arith)

joined_below : (hi lo m n : ℕ) → hi < 2 ^ (m * n) → lo < 2 ^ n → concat_value hi n lo < 2 ^ (suc m * n)
joined_below hi lo m n h k = subst (λ (e : ℕ). concat_value hi n lo < 2 ^ e) (omega arith) (concat_below (m * n) n hi lo h k)

told_below : (list : List (ℕ × ℕ)) (n first x c m : ℕ) → ((i : ℕ) → i < m → IfSome (given list (first + (c + i))) (λ v. v < 2 ^ n)) → told_cells list n first x c m < 2 ^ (m * n)
told_below list n first x c zero fit = pow_pos (0 * n)
told_below list n first x c (suc m) fit =
    let same : c + 0 ≡ c = omega arith in
    let low = chosen_below (given list (first + c)) n x c (subst (λ (k : ℕ). IfSome (given list (first + k)) (λ v. v < 2 ^ n)) same (fit 0 (omega arith))) in
    joined_below (told_cells list n first x (suc c) m) (unwrap_or (given list (first + c)) (read_value n x c)) m n
    (told_below list n first x (suc c) m (λ i h. subst (λ (k : ℕ). IfSome (given list (first + k)) (λ v. v < 2 ^ n)) (omega arith) (fit (suc i) (omega (arith, h))))) low

-- told words that are those of the value make the value
abbrev pub WordsAre : List (ℕ × ℕ) → Sort → ℕ → ℕ → Type 0
WordsAre list s first x = (c v : ℕ) → c < word_count s → given list (first + c) ≡ Some v → v ≡ own_word s x c

chosen_own : (o : Option ℕ) (x : ℕ) → ((v : ℕ) → o ≡ Some v → v ≡ x) → unwrap_or o x ≡ x
chosen_own None x h = refl
chosen_own (Some v) x h = h v refl

pub told_own : (list : List (ℕ × ℕ)) (s : Sort) (first x : ℕ) → WordsFit list s first → WordsAre list s first x → x < 2 ^ (word_count s * word_width s) → told list s first x ≡ x
told_own list (words n) first x fit are below =
    chosen_own (given list first) x (λ v e. are 0 v (lit< tt) (ap (given list) (omega arith) ∙ e))
told_own list (arrays k n) first x fit are below =
    cells_same (2 ^ k) n (told_cells list n first x 0 (2 ^ k)) x
    (told_below list n first x 0 (2 ^ k) (λ i h. subst (λ (j : ℕ). IfSome (given list (first + j)) (λ v. v < 2 ^ n)) (omega arith) (fit i h))) below
    (λ i h.
    read_told list n first x 0 (2 ^ k) i (λ i h. subst (λ (j : ℕ). IfSome (given list (first + j)) (λ v. v < 2 ^ n)) (omega arith) (fit i h)) h
    ∙ ap (λ (j : ℕ). unwrap_or (given list (first + j)) (read_value n x j)) (omega arith)
    ∙ chosen_own (given list (first + i)) (read_value n x i) (λ v e. are i v h e))

-- a word that is told is that of what is told
pub told_word : (list : List (ℕ × ℕ)) (s : Sort) (first x c v : ℕ) → WordsFit list s first → c < word_count s → given list (first + c) ≡ Some v → own_word s (told list s first x) c ≡ v
told_word list (words n) first x c v fit within e =
    let zero : first + c ≡ first = omega (arith, within) in
    ap (λ (o : Option ℕ). unwrap_or o x) (ap (given list) (sym zero) ∙ e)
told_word list (arrays k n) first x c v fit within e =
    read_told list n first x 0 (2 ^ k) c (λ i h. subst (λ (j : ℕ). IfSome (given list (first + j)) (λ v. v < 2 ^ n)) (omega arith) (fit i h)) within
    ∙ ap (λ (j : ℕ). unwrap_or (given list (first + j)) (read_value n x j)) (omega arith) ∙ ap (λ (o : Option ℕ). unwrap_or o (read_value n x c)) e

-- and one that is another makes another value
pub told_other : (list : List (ℕ × ℕ)) (s : Sort) (first x c v : ℕ) → WordsFit list s first → c < word_count s → given list (first + c) ≡ Some v → (v ≡ own_word s x c → ⊥) → told list s first x ≡ x → ⊥
told_other list s first x c v fit within e other same = other (sym (told_word list s first x c v fit within e) ∙ ap (λ (y : ℕ). own_word s y c) same)

pub own_below : (s : Sort) (x c : ℕ) → c < word_count s → x < 2 ^ (word_count s * word_width s) → own_word s x c < 2 ^ word_width s
own_below (words n) x c within below = subst (λ (m : ℕ). x < 2 ^ m) (omega arith) below
own_below (arrays k n) x c within below = read_below n x c
