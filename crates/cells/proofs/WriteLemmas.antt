-- What is written into an array, half by half.
use Rattle.std.proofs.Common.{◌≡◌, ℕ, ◌+◌, ◌-◌, ◌*◌, ◌%◌, ◌^◌, ◌<◌, ◌≤◌, bit_and, List, [], ◌∷◌, ◌++◌, length, Some, Result, IfOk, inl, inr, ⊎_elim, append_assoc, refl, sym, ap, ap₂, subst, ◌∙◌, arith}
use Rattle.base.specs.declared.operators.Binary.TheVariants as binary
use Rattle.base.specs.Operator.{binary_value, ite_value, slice_value, concat_value}
use Rattle.btor2.specs.declared.item.Item.{Item}
use Rattle.btor2.specs.Items.{node_width}
use Rattle.btor2.specs.Trace.{Frame}
use Rattle.btor2.proofs.AppendLemmas.{node_width-append}
use Rattle.full.specs.Cells.{write_value}
use Rattle.full.specs.Gives.{InAllFrames, GivesWord}
use Rattle.full.proofs.GivesLemmas.{gives_kept, gives_itself, gives_same, gives_below}
use Rattle.full.proofs.ListLemmas.{all_with}
use Rattle.cells.specs.declared.maker.bits.Bit.{Bit}
use Rattle.cells.specs.declared.shortage.Shortage.{Shortage}
use Rattle.cells.specs.Lines.{MayName, MayNameAll, Extends}
use Rattle.cells.specs.Bits.{GivesBit, ids_of_bits}
use Rattle.cells.proofs.LineLemmas.{handed_over, extends_same, extends_twice}
use Rattle.cells.proofs.NodeLemmas.{ok_with}
use Rattle.cells.proofs.BitLemmas.{two_halves, ids_lower, ids_top}
use Rattle.cells.proofs.ArrayLemmas.{write_half, write_top, write_one}

-- ---- lists that go on, by whatever lines

abbrev pub GoesOn : List Item → List Item → Type 0
GoesOn old new = (more : List Item) × (new ≡ old ++ more)

pub goes : (old new : List Item) (handed : List ℕ) → Extends old new handed → GoesOn old new
goes old new handed e = (e.more, e.is)

pub goes_twice : (a b c : List Item) → GoesOn a b → GoesOn b c → GoesOn a c
goes_twice a b c e d = (e.0 ++ d.0, d.1 ∙ ap (λ (l : List Item). l ++ d.0) e.1 ∙ append_assoc a e.0 d.0)

pub given : (old new : List Item) (bits : ℕ) (value : Frame → ℕ) (w : ℕ) → GoesOn old new → GivesWord old bits value w → GivesWord new bits value w
given old new bits value w e h = subst (λ (l : List Item). GivesWord l bits value w) (sym e.1) (gives_kept old e.0 bits value w h)

pub node_given : (old new : List Item) (a n : ℕ) → GoesOn old new → node_width old a ≡ Some n → node_width new a ≡ Some n
node_given old new a n e h = ap (λ (l : List Item). node_width l a) e.1 ∙ node_width-append old e.0 a n h

own_word : (old new : List Item) (a n : ℕ) → GoesOn old new → node_width old a ≡ Some n → InAllFrames new (λ g. g a < 2 ^ n)
own_word old new a n e h = gives_below new n (λ g. g a) a (gives_itself new n a (node_given old new a n e h))

-- ---- words

both_is : (k n half : ℕ) → half ≡ 2 ^ k * n → half + half ≡ 2 ^ (k + 1) * n
both_is k n half is = ap₂ (λ (x y : ℕ). x + y) is is ∙ sym (two_halves k n)

pub half_node : (items : List Item) (k n half a : ℕ) → half ≡ 2 ^ k * n → node_width items a ≡ Some (2 ^ k * n) → node_width items a ≡ Some half
half_node items k n half a is h = h ∙ ap (λ (m : ℕ). Some m) (sym is)

pub whole_node : (items : List Item) (k n half a : ℕ) → half ≡ 2 ^ k * n → node_width items a ≡ Some half → node_width items a ≡ Some (2 ^ k * n)
whole_node items k n half a is h = h ∙ ap (λ (m : ℕ). Some m) is

-- where a condition is 1
pub write_given : (s0 s1 s2 s3 s4 s5 s6 : List Item) (k n array cond index word half high low one off above below : ℕ) (b : Bit) (r : Result ℕ Shortage)
    → GoesOn s0 s1 → GoesOn s1 s2 → GoesOn s2 s3 → GoesOn s3 s4 → GoesOn s4 s5 → GoesOn s5 s6
    → 1 ≤ n → half ≡ 2 ^ k * n → node_width s0 array ≡ Some (2 ^ (k + 1) * n) → node_width s0 cond ≡ Some 1 → GivesBit s0 index k b
    → GivesWord s1 half (λ g. slice_value (g array) (half + half - 1) half) high → GivesWord s1 half (λ g. slice_value (g array) (half - 1) 0) low
    → GivesWord s2 1 (λ g. binary_value binary.And 1 (g cond) (g b.one)) one → GivesWord s3 1 (λ g. binary_value binary.And 1 (g cond) (g b.zero)) off
    → GivesWord s4 (2 ^ k * n) (λ g. ite_value (g one) (write_value n (g high) (g index % 2 ^ k) (g word)) (g high)) above
    → GivesWord s5 (2 ^ k * n) (λ g. ite_value (g off) (write_value n (g low) (g index % 2 ^ k) (g word)) (g low)) below
    → IfOk r (GivesWord s6 (half + half) (λ g. concat_value (g above) half (g below)))
    → IfOk r (GivesWord s6 (2 ^ (k + 1) * n) (λ g. ite_value (g cond) (write_value n (g array) (g index % 2 ^ (k + 1)) (g word)) (g array)))
write_given s0 s1 s2 s3 s4 s5 s6 k n array cond index word half high low one off above below b r e1 e2 e3 e4 e5 e6 some is wide bit bits hi lo lit dark up down h =
    let g46 = goes_twice s4 s5 s6 e5 e6 in
    let g36 = goes_twice s3 s4 s6 e4 g46 in
    let g26 = goes_twice s2 s3 s6 e3 g36 in
    let g16 = goes_twice s1 s2 s6 e2 g26 in
    let g06 = goes_twice s0 s1 s6 e1 g16 in
    let array_fits = own_word s0 s6 array (2 ^ (k + 1) * n) g06 wide in
    let cond_fits = own_word s0 s6 cond 1 g06 bit in
    let bit_one = given s0 s6 1 (λ g. slice_value (g index) k k) b.one g06 bits.one in
    let bit_off = given s0 s6 1 (λ g. 1 - slice_value (g index) k k) b.zero g06 bits.zero in
    let hi6 = given s1 s6 half (λ g. slice_value (g array) (half + half - 1) half) high g16 hi in
    let lo6 = given s1 s6 half (λ g. slice_value (g array) (half - 1) 0) low g16 lo in
    let one6 = given s2 s6 1 (λ g. binary_value binary.And 1 (g cond) (g b.one)) one g26 lit in
    let off6 = given s3 s6 1 (λ g. binary_value binary.And 1 (g cond) (g b.zero)) off g36 dark in
    let up6 = given s4 s6 (2 ^ k * n) (λ g. ite_value (g one) (write_value n (g high) (g index % 2 ^ k) (g word)) (g high)) above g46 up in
    let down6 = given s5 s6 (2 ^ k * n) (λ g. ite_value (g off) (write_value n (g low) (g index % 2 ^ k) (g word)) (g low)) below e6 down in
    ok_with (GivesWord s6 (half + half) (λ g. concat_value (g above) half (g below))) (GivesWord s6 (2 ^ (k + 1) * n) (λ g. ite_value (g cond) (write_value n (g array) (g index % 2 ^ (k + 1)) (g word)) (g array))) r
    (λ id joined. gives_same s6 (2 ^ (k + 1) * n) (λ g. concat_value (g above) half (g below)) (λ g. ite_value (g cond) (write_value n (g array) (g index % 2 ^ (k + 1)) (g word)) (g array)) id
    (subst (λ (m : ℕ). GivesWord s6 m (λ g. concat_value (g above) half (g below)) id) (both_is k n half is) joined)
    (λ more model state input g states inputs frame.
    write_half k n (g array) (g index) (g word) half (g high) (g low) (g cond) (g one) (g off) (g above) (g below) some (array_fits more model state input g states inputs frame) is (cond_fits more model state input g states inputs frame)
    (hi6.word more model state input g states inputs frame) (lo6.word more model state input g states inputs frame)
    (one6.word more model state input g states inputs frame ∙ ap (λ (w : ℕ). bit_and (g cond) w) (bit_one.word more model state input g states inputs frame))
    (off6.word more model state input g states inputs frame ∙ ap (λ (w : ℕ). bit_and (g cond) w) (bit_off.word more model state input g states inputs frame))
    (up6.word more model state input g states inputs frame) (down6.word more model state input g states inputs frame))) h

-- by the whole index
pub write_whole : (s1 s2 s3 s4 s5 : List Item) (k n array index word half high low above below : ℕ) (b : Bit) (r : Result ℕ Shortage)
    → GoesOn s1 s2 → GoesOn s2 s3 → GoesOn s3 s4 → GoesOn s4 s5
    → 1 ≤ n → half ≡ 2 ^ k * n → node_width s1 array ≡ Some (2 ^ (k + 1) * n) → node_width s1 index ≡ Some (k + 1) → GivesBit s1 index k b
    → GivesWord s2 half (λ g. slice_value (g array) (half + half - 1) half) high → GivesWord s2 half (λ g. slice_value (g array) (half - 1) 0) low
    → GivesWord s3 (2 ^ k * n) (λ g. ite_value (g b.one) (write_value n (g high) (g index % 2 ^ k) (g word)) (g high)) above
    → GivesWord s4 (2 ^ k * n) (λ g. ite_value (g b.zero) (write_value n (g low) (g index % 2 ^ k) (g word)) (g low)) below
    → IfOk r (GivesWord s5 (half + half) (λ g. concat_value (g above) half (g below)))
    → IfOk r (GivesWord s5 (2 ^ (k + 1) * n) (λ g. write_value n (g array) (g index) (g word)))
write_whole s1 s2 s3 s4 s5 k n array index word half high low above below b r e2 e3 e4 e5 some is wide bits_wide bits hi lo up down h =
    let g35 = goes_twice s3 s4 s5 e4 e5 in
    let g25 = goes_twice s2 s3 s5 e3 g35 in
    let g15 = goes_twice s1 s2 s5 e2 g25 in
    let array_fits = own_word s1 s5 array (2 ^ (k + 1) * n) g15 wide in
    let index_fits = own_word s1 s5 index (k + 1) g15 bits_wide in
    let bit_one = given s1 s5 1 (λ g. slice_value (g index) k k) b.one g15 bits.one in
    let bit_off = given s1 s5 1 (λ g. 1 - slice_value (g index) k k) b.zero g15 bits.zero in
    let hi5 = given s2 s5 half (λ g. slice_value (g array) (half + half - 1) half) high g25 hi in
    let lo5 = given s2 s5 half (λ g. slice_value (g array) (half - 1) 0) low g25 lo in
    let up5 = given s3 s5 (2 ^ k * n) (λ g. ite_value (g b.one) (write_value n (g high) (g index % 2 ^ k) (g word)) (g high)) above g35 up in
    let down5 = given s4 s5 (2 ^ k * n) (λ g. ite_value (g b.zero) (write_value n (g low) (g index % 2 ^ k) (g word)) (g low)) below e5 down in
    ok_with (GivesWord s5 (half + half) (λ g. concat_value (g above) half (g below))) (GivesWord s5 (2 ^ (k + 1) * n) (λ g. write_value n (g array) (g index) (g word))) r
    (λ id joined. gives_same s5 (2 ^ (k + 1) * n) (λ g. concat_value (g above) half (g below)) (λ g. write_value n (g array) (g index) (g word)) id
    (subst (λ (m : ℕ). GivesWord s5 m (λ g. concat_value (g above) half (g below)) id) (both_is k n half is) joined)
    (λ more model state input g states inputs frame.
    write_top k n (g array) (g index) (g word) half (g high) (g low) (g b.one) (g b.zero) (g above) (g below) some (array_fits more model state input g states inputs frame) (index_fits more model state input g states inputs frame) is
    (hi5.word more model state input g states inputs frame) (lo5.word more model state input g states inputs frame) (bit_one.word more model state input g states inputs frame) (bit_off.word more model state input g states inputs frame)
    (up5.word more model state input g states inputs frame) (down5.word more model state input g states inputs frame))) h

-- in one cell
pub one_written : (old new : List Item) (array cond index word n : ℕ) (r : Result ℕ Shortage) → GoesOn old new → node_width old array ≡ Some n → IfOk r (GivesWord new n (λ g. ite_value (g cond) (g word) (g array)))
    → IfOk r (GivesWord new (2 ^ 0 * n) (λ g. ite_value (g cond) (write_value n (g array) (g index % 2 ^ 0) (g word)) (g array)))
one_written old new array cond index word n r e wide h =
    let one : n ≡ 2 ^ 0 * n = omega arith in
    let fits = own_word old new array n e wide in
    ok_with (GivesWord new n (λ g. ite_value (g cond) (g word) (g array))) (GivesWord new (2 ^ 0 * n) (λ g. ite_value (g cond) (write_value n (g array) (g index % 2 ^ 0) (g word)) (g array))) r
    (λ id given. gives_same new (2 ^ 0 * n) (λ g. ite_value (g cond) (g word) (g array)) (λ g. ite_value (g cond) (write_value n (g array) (g index % 2 ^ 0) (g word)) (g array)) id
    (subst (λ (m : ℕ). GivesWord new m (λ g. ite_value (g cond) (g word) (g array)) id) one given)
    (λ more model state input g states inputs frame. write_one n (g array) (g index) (g word) (g cond) (fits more model state input g states inputs frame))) h

-- ---- what is handed over

abbrev pub write_handed : ℕ → ℕ → ℕ → List Bit → List ℕ
write_handed array cond word bits = array ∷ cond ∷ word ∷ ids_of_bits bits

ids_may : (many array cond word : ℕ) (bits : List Bit) → MayNameAll many (write_handed array cond word bits) (ids_of_bits bits)
ids_may many array cond word bits = (handed_over many (write_handed array cond word bits)).1.1.1

pub bit_may : (many array cond word : ℕ) (bits lower : List Bit) (b : Bit) → bits ≡ lower ++ b ∷ [] → MayName many (write_handed array cond word bits) b.one × MayName many (write_handed array cond word bits) b.zero
bit_may many array cond word bits lower b is = ids_top (MayName many (write_handed array cond word bits)) bits lower b is (ids_may many array cond word bits)

-- what is new behind a later list
pub new_wider : (old mid : List Item) (handed : List ℕ) (a : ℕ) → length old ≤ length mid → MayName (length mid) [] a → MayName (length old) handed a
new_wider old mid handed a h named = ⊎_elim (λ behind. inl (omega arith)) (λ among. absurd among) named

pub to_halves : (s0 s1 : List Item) (array cond word : ℕ) (bits : List Bit) → Extends s0 s1 (array ∷ []) → Extends s0 s1 (write_handed array cond word bits)
to_halves s0 s1 array cond word bits e = extends_twice s0 s0 s1 (write_handed array cond word bits) (array ∷ []) (extends_same s0 (write_handed array cond word bits)) e (inr (inl refl), tt)

pub to_bit : (s0 s1 s2 : List Item) (array cond word node : ℕ) (bits : List Bit) → Extends s0 s1 (write_handed array cond word bits) → Extends s1 s2 (cond ∷ node ∷ []) → MayName (length s0) (write_handed array cond word bits) node → Extends s0 s2 (write_handed array cond word bits)
to_bit s0 s1 s2 array cond word node bits e d named = extends_twice s0 s1 s2 (write_handed array cond word bits) (cond ∷ node ∷ []) e d (inr (inr (inl refl)), (named, tt))

pub to_part : (s0 s1 s2 : List Item) (array cond word half on : ℕ) (bits lower : List Bit) (b : Bit) → bits ≡ lower ++ b ∷ [] → Extends s0 s1 (write_handed array cond word bits) → Extends s1 s2 (write_handed half on word lower)
    → MayName (length s0) (write_handed array cond word bits) half → MayName (length s0) (write_handed array cond word bits) on → Extends s0 s2 (write_handed array cond word bits)
to_part s0 s1 s2 array cond word half on bits lower b is e d part lit =
    extends_twice s0 s1 s2 (write_handed array cond word bits) (write_handed half on word lower) e d
    (part, (lit, (inr (inr (inr (inl refl))), ids_lower (MayName (length s0) (write_handed array cond word bits)) bits lower b is (ids_may (length s0) array cond word bits))))

-- the same of a whole index, whose bits are new
pub part_of_whole : (s0 s1 s2 : List Item) (array index word half on : ℕ) (lower : List Bit) → Extends s0 s1 (array ∷ index ∷ word ∷ []) → Extends s1 s2 (write_handed half on word lower)
    → MayName (length s0) (array ∷ index ∷ word ∷ []) half → MayName (length s0) (array ∷ index ∷ word ∷ []) on → MayNameAll (length s0) [] (ids_of_bits lower) → Extends s0 s2 (array ∷ index ∷ word ∷ [])
part_of_whole s0 s1 s2 array index word half on lower e d part lit fresh =
    extends_twice s0 s1 s2 (array ∷ index ∷ word ∷ []) (write_handed half on word lower) e d
    (part, (lit, (inr (inr (inr (inl refl))), all_with (MayName (length s0) []) (MayName (length s0) (array ∷ index ∷ word ∷ [])) (ids_of_bits lower) (λ a named. new_wider s0 s0 (array ∷ index ∷ word ∷ []) a (omega arith) named) fresh)))
