-- What the lines of arrays give in frames.
use Rattle.std.proofs.Common.{◌≡◌, ℕ, ◌+◌, ◌-◌, ◌*◌, ◌%◌, ◌^◌, ◌<◌, ◌≤◌, List, Some, Result, IfOk, sym, ap, ap₂, subst, ◌∙◌, arith}
use Rattle.std.proofs.Math.Nat.{mod-eq_of_lt}
use Rattle.base.specs.Operator.{ite_value, slice_value, concat_value}
use Rattle.btor2.specs.declared.item.Item.{Item}
use Rattle.btor2.specs.Items.{node_width}
use Rattle.full.specs.Cells.{read_value, repeat_value}
use Rattle.full.specs.Gives.{InAllFrames, GivesWord}
use Rattle.full.proofs.GivesLemmas.{gives_itself, gives_same, gives_below}
use Rattle.cells.specs.declared.shortage.Shortage.{Shortage}
use Rattle.cells.specs.Lines.{Extends}
use Rattle.cells.proofs.LineLemmas.{node_stays, frames_stay, gives_stay}
use Rattle.cells.proofs.NodeLemmas.{ok_with}
use Rattle.cells.proofs.BitLemmas.{two_halves}
use Rattle.cells.proofs.ArrayLemmas.{read_half, read_one, repeat_half, repeat_once}

-- a node's word fits
fits : (items : List Item) (a n : ℕ) → node_width items a ≡ Some n → InAllFrames items (λ g. g a < 2 ^ n)
fits items a n h = gives_below items n (λ g. g a) a (gives_itself items n a h)

-- ---- reading

pub half_wide : (old mid : List Item) (handed : List ℕ) (array k n half : ℕ) → Extends old mid handed → half ≡ 2 ^ k * n → node_width old array ≡ Some (2 ^ (k + 1) * n) → node_width mid array ≡ Some (half + half)
half_wide old mid handed array k n half e is h =
    node_stays old mid handed array (2 ^ (k + 1) * n) e h ∙ ap (λ (m : ℕ). Some m) (two_halves k n ∙ ap₂ (λ (x y : ℕ). x + y) (sym is) (sym is))

pub half_reads : (mid new : List Item) (also : List ℕ) (array index bit k n half : ℕ) (r : Result ℕ Shortage) → 1 ≤ n → half ≡ 2 ^ k * n → Extends mid new also → node_width mid array ≡ Some (2 ^ (k + 1) * n)
    → GivesWord mid (k - k + 1) (λ g. slice_value (g index) k k) bit → IfOk r (GivesWord new half (λ g. ite_value (g bit) (slice_value (g array) (half + half - 1) half) (slice_value (g array) (half - 1) 0)))
    → IfOk r (λ id. InAllFrames new (λ g. read_value n (g array) (g index % 2 ^ (k + 1)) ≡ read_value n (g id) (g index % 2 ^ k)))
half_reads mid new also array index bit k n half r some is e wide top h =
    let own = fits new array (2 ^ (k + 1) * n) (node_stays mid new also array (2 ^ (k + 1) * n) e wide) in
    let bit_there = gives_stay mid new also (k - k + 1) (λ g. slice_value (g index) k k) bit e top in
    ok_with (GivesWord new half (λ g. ite_value (g bit) (slice_value (g array) (half + half - 1) half) (slice_value (g array) (half - 1) 0))) (λ id. InAllFrames new (λ g. read_value n (g array) (g index % 2 ^ (k + 1)) ≡ read_value n (g id) (g index % 2 ^ k))) r
    (λ id chosen more model state input g states inputs frame.
    read_half k n (g array) (g index) (g id) (g bit) half some (own more model state input g states inputs frame) is (bit_there.word more model state input g states inputs frame) (chosen.word more model state input g states inputs frame)) h

-- an array of one cell is its cell
pub one_read : (items : List Item) (array index n : ℕ) → node_width items array ≡ Some (2 ^ 0 * n) → GivesWord items n (λ g. read_value n (g array) (g index % 2 ^ 0)) array
one_read items array index n h =
    let one : 2 ^ 0 * n ≡ n = omega arith in
    let wide : node_width items array ≡ Some n = h ∙ ap (λ (m : ℕ). Some m) one in
    gives_same items n (λ g. g array) (λ g. read_value n (g array) (g index % 2 ^ 0)) array (gives_itself items n array wide)
    (λ more model state input g states inputs frame. read_one n (g array) (g index) (fits items array n wide more model state input g states inputs frame))

-- what is read of a half is read of the array
pub half_read : (mid new : List Item) (also : List ℕ) (array half index k n : ℕ) (r : Result ℕ Shortage) → Extends mid new also → InAllFrames mid (λ g. read_value n (g array) (g index % 2 ^ (k + 1)) ≡ read_value n (g half) (g index % 2 ^ k))
    → IfOk r (GivesWord new n (λ g. read_value n (g half) (g index % 2 ^ k))) → IfOk r (GivesWord new n (λ g. read_value n (g array) (g index % 2 ^ (k + 1))))
half_read mid new also array half index k n r e same h =
    let there = frames_stay mid new also (λ g. read_value n (g array) (g index % 2 ^ (k + 1)) ≡ read_value n (g half) (g index % 2 ^ k)) e same in
    ok_with (GivesWord new n (λ g. read_value n (g half) (g index % 2 ^ k))) (GivesWord new n (λ g. read_value n (g array) (g index % 2 ^ (k + 1)))) r
    (λ id k2. gives_same new n (λ g. read_value n (g half) (g index % 2 ^ k)) (λ g. read_value n (g array) (g index % 2 ^ (k + 1))) id k2
    (λ more model state input g states inputs frame. sym (there more model state input g states inputs frame))) h

-- by the whole index
pub whole_read : (new : List Item) (array index k n : ℕ) (r : Result ℕ Shortage) → node_width new index ≡ Some k → IfOk r (GivesWord new n (λ g. read_value n (g array) (g index % 2 ^ k))) → IfOk r (GivesWord new n (λ g. read_value n (g array) (g index)))
whole_read new array index k n r wide h =
    ok_with (GivesWord new n (λ g. read_value n (g array) (g index % 2 ^ k))) (GivesWord new n (λ g. read_value n (g array) (g index))) r
    (λ id given. gives_same new n (λ g. read_value n (g array) (g index % 2 ^ k)) (λ g. read_value n (g array) (g index)) id given
    (λ more model state input g states inputs frame. ap (λ (i : ℕ). read_value n (g array) i) (mod-eq_of_lt (fits new index k wide more model state input g states inputs frame)))) h

-- ---- repeating

pub one_repeated : (items : List Item) (word n : ℕ) → node_width items word ≡ Some n → GivesWord items (2 ^ 0 * n) (λ g. repeat_value n (2 ^ 0) (g word)) word
one_repeated items word n h =
    let one : n ≡ 2 ^ 0 * n = omega arith in
    gives_same items (2 ^ 0 * n) (λ g. g word) (λ g. repeat_value n (2 ^ 0) (g word)) word (gives_itself items (2 ^ 0 * n) word (h ∙ ap (λ (m : ℕ). Some m) one))
    (λ more model state input g states inputs frame. repeat_once n (g word))

pub twice_repeated : (mid new : List Item) (also : List ℕ) (word half k n size : ℕ) (r : Result ℕ Shortage) → Extends mid new also → size ≡ 2 ^ k * n → GivesWord mid (2 ^ k * n) (λ g. repeat_value n (2 ^ k) (g word)) half
    → IfOk r (GivesWord new (size + size) (λ g. concat_value (g half) size (g half))) → IfOk r (GivesWord new (2 ^ (k + 1) * n) (λ g. repeat_value n (2 ^ (k + 1)) (g word)))
twice_repeated mid new also word half k n size r e is own h =
    let both : size + size ≡ 2 ^ (k + 1) * n = ap₂ (λ (x y : ℕ). x + y) is is ∙ sym (two_halves k n) in
    let there = gives_stay mid new also (2 ^ k * n) (λ g. repeat_value n (2 ^ k) (g word)) half e own in
    ok_with (GivesWord new (size + size) (λ g. concat_value (g half) size (g half))) (GivesWord new (2 ^ (k + 1) * n) (λ g. repeat_value n (2 ^ (k + 1)) (g word))) r
    (λ id given. gives_same new (2 ^ (k + 1) * n) (λ g. concat_value (g half) size (g half)) (λ g. repeat_value n (2 ^ (k + 1)) (g word)) id
    (subst (λ (m : ℕ). GivesWord new m (λ g. concat_value (g half) size (g half)) id) both given)
    (λ more model state input g states inputs frame. repeat_half k n (g word) size (g half) is (there.word more model state input g states inputs frame))) h
