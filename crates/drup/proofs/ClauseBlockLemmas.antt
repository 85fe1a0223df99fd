-- Clauses in blocks.
use Rattle.std.proofs.Common.{◌≡◌, ℕ, zero, suc, ◌+◌, ◌-◌, ◌*◌, ◌<◌, ◌≤◌, List, [], ◌∷◌, ◌++◌, length, get_or, refl, sym, ap, ◌∙◌, append_assoc, append-nil, arith, length-append}
use Rattle.std.specs.Prelude.{All}
use Rattle.std.proofs.lemmas.List.{get_or_append_left, get_or-append_right}
use Rattle.std.proofs.lemmas.List.Elements.{All-nil, All-cons, All-head, All-tail}
use Rattle.drup.specs.ClauseBlocks.{joined, AreFull}

-- all of two lists, one behind the other, are all of each
pub all_parts : {X : Type 0} (P : X → Type 0) (xs ys : List X) → All P (xs ++ ys) → All P xs × All P ys
all_parts P [] ys h = (All-nil P, h)
all_parts P (x ∷ xs) ys h =
    let rest = all_parts P xs ys (All-tail P x (xs ++ ys) h) in
    (All-cons P x xs (All-head P x (xs ++ ys) h) rest.0, rest.1)

-- a block more
pub joined_more : (blocks : List (List (List ℕ))) (block : List (List ℕ)) → joined (blocks ++ block ∷ []) ≡ joined blocks ++ block
joined_more [] block = append-nil block
joined_more (b ∷ bs) block = ap (λ (l : List (List ℕ)). b ++ l) (joined_more bs block) ∙ sym (append_assoc b (joined bs) block)

pub joined_long : (blocks : List (List (List ℕ))) → AreFull blocks → length (joined blocks) ≡ 1048576 * length blocks
joined_long [] full = refl
joined_long (b ∷ bs) full = omega (arith, length-append b (joined bs), All-head (λ block. length block ≡ 1048576) b bs full, joined_long bs (All-tail (λ block. length block ≡ 1048576) b bs full))

-- the clause at a place of a block, and of the last one
pub block_at : (blocks : List (List (List ℕ))) (last : List (List ℕ)) (i r : ℕ) → AreFull blocks → i < length blocks → r < 1048576 → get_or (joined blocks ++ last) (1048576 * i + r) [] ≡ get_or (get_or blocks i []) r []
block_at [] last i r full inside low = absurd (omega (arith, inside))
block_at (b ∷ bs) last zero r full inside low =
    let long : length b ≡ 1048576 = All-head (λ block. length block ≡ 1048576) b bs full in
    let own : 1048576 * 0 + r ≡ r = omega arith in
    ap (λ (n : ℕ). get_or (joined (b ∷ bs) ++ last) n []) own ∙ ap (λ (l : List (List ℕ)). get_or l r []) (append_assoc b (joined bs) last) ∙ get_or_append_left b (joined bs ++ last) [] r (omega (arith, long, low))
block_at (b ∷ bs) last (suc i) r full inside low =
    let long : length b ≡ 1048576 = All-head (λ block. length block ≡ 1048576) b bs full in
    let rest : 1048576 * suc i + r - 1048576 ≡ 1048576 * i + r = omega arith in
    ap (λ (l : List (List ℕ)). get_or l (1048576 * suc i + r) []) (append_assoc b (joined bs) last)
    ∙ get_or-append_right b (joined bs ++ last) 1048576 (1048576 * suc i + r) [] long (omega arith)
    ∙ ap (λ (n : ℕ). get_or (joined bs ++ last) n []) rest
    ∙ block_at bs last i r (All-tail (λ block. length block ≡ 1048576) b bs full) (omega (arith, inside)) low

pub last_at : (blocks : List (List (List ℕ))) (last : List (List ℕ)) (k : ℕ) → AreFull blocks → 1048576 * length blocks ≤ k → get_or (joined blocks ++ last) k [] ≡ get_or last (k - 1048576 * length blocks) []
last_at blocks last k full behind = get_or-append_right (joined blocks) last (1048576 * length blocks) k [] (joined_long blocks full) behind
