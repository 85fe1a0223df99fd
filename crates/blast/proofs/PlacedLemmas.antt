-- Rows that take no gate: those of constants, and those of operands' rows, placed.
use Rattle.std.proofs.Common.{◌≡◌, ℕ, zero, suc, ◌+◌, ◌-◌, ◌*◌, ◌/◌, ◌%◌, ◌^◌, ◌<◌, ◌≤◌, Bool, true, false, ◌==◌, cond, List, [], ◌∷◌, ◌++◌, length, map, take, drop, replicate, get_or, All, pos, ◌-ℤ◌, ◌+ℤ◌, refl, sym, ap, ap₂, ◌∙◌, arith, length-append, length-drop, add-one, lit<}
use Rattle.std.proofs.Math.Nat.{mod-eq_of_lt, pow-le-pow_right}
use Rattle.std.proofs.lemmas.Int.{ints}
use Rattle.std.proofs.lemmas.Nat.{pow_pos, pow-add, shr_high, mod_low}
use Rattle.std.proofs.lemmas.Nat.Bits.{bit_at-suc}
use Rattle.std.proofs.lemmas.List.{length-map, length-replicate, length-take-le}
use Rattle.std.proofs.lemmas.List.Elements.{All-nil, All-cons, All-append, All-replicate, All-take, All-drop, All-get_or}
use Rattle.base.specs.Word.{bit, bits}
use Rattle.base.specs.Operator.{ones, slice_value, uext_value, sext_value, concat_value}
use Rattle.base.specs.Signed.{signed, wrapped}
use Rattle.base.proofs.BitLemmas.{length-bits}
use Rattle.base.proofs.SignedLaws.{signed_low, signed_high}
use Rattle.base.proofs.WrapLemmas.{wrapped_is}
use Rattle.btor2.specs.declared.item.Item.{Item}
use Rattle.btor2.specs.Check.{IsWellFormed}
use Rattle.btor2.specs.Trace.{Frame, bits_of}
use Rattle.base.specs.Literal.{Valuation, literal_value}
use Rattle.aiger.specs.Net.{Net, IsDefined}
use Rattle.gates.specs.Made.{word_value}
use Rattle.gates.proofs.BitListLemmas.{word_value-below}
use Rattle.gates.proofs.GrowthLemmas.{Grows-refl}
use Rattle.gates.proofs.WindowLemmas.{word_value-append, word_value-split, word_value-replicate, sign-zero, sign-one}
use Rattle.blast.specs.Reads.{Together}
use Rattle.blast.specs.Rows.{bit_literal}
use Rattle.blast.specs.Table.{MakesNode, IsOperand}
use Rattle.blast.proofs.NodeLemmas.{bits_of_word, word_of_operand}

-- Constants.

-- the bits of a word, one more
bits-after : (n x : ℕ) → bits (suc n) x ≡ bits n x ++ (bit x n == 1) ∷ []
bits-after zero x = ap (λ (k : ℕ). (k == 1) ∷ []) (omega arith)
bits-after (suc n) x = ap (λ (l : List Bool). (x % 2 == 1) ∷ l) (bits-after n (x / 2) ∙ ap (λ (k : ℕ). bits n (x / 2) ++ (k == 1) ∷ []) (sym (bit_at-suc x n)))

pub bits-more : (n x : ℕ) → bits (n + 1) x ≡ bits n x ++ (bit x n == 1) ∷ []
bits-more n x = ap (λ (k : ℕ). bits k x) (add-one n) ∙ bits-after n x

pub literals-more : (n x l : ℕ) (row row' : List ℕ) → row ≡ map bit_literal (bits n x) → l ≡ bit_literal (bit x n == 1) → row' ≡ row ++ l ∷ [] → row' ≡ map bit_literal (bits (n + 1) x)
literals-more n x l row row' is is_l is' =
    is' ∙ ap₂ (λ (r : List ℕ) (k : ℕ). r ++ k ∷ []) is is_l ∙ sym (ap (map bit_literal) (bits-more n x) ∙ push (bits n x) (bit x n == 1))
  where
    push : (bs : List Bool) (b : Bool) → map bit_literal (bs ++ b ∷ []) ≡ map bit_literal bs ++ bit_literal b ∷ []
    push [] b = refl
    push (c ∷ bs) b = ap (λ (r : List ℕ). bit_literal c ∷ r) (push bs b)

pub length-literals : (n x : ℕ) (row : List ℕ) → row ≡ map bit_literal (bits n x) → length row ≡ n
length-literals n x row is = ap length is ∙ length-map (bits n x) bit_literal ∙ length-bits n x

literal-bit : (v : Valuation) (b : Bool) → literal_value v (bit_literal b) ≡ b
literal-bit v true = refl
literal-bit v false = refl

literals-bits : (v : Valuation) (bs : List Bool) → map (literal_value v) (map bit_literal bs) ≡ bs
literals-bits v [] = refl
literals-bits v (b ∷ bs) = ap₂ (λ (c : Bool) (l : List Bool). c ∷ l) (literal-bit v b) (literals-bits v bs)

literal-defined : (n : Net) (b : Bool) → IsDefined n (bit_literal b)
literal-defined n true = omega arith
literal-defined n false = omega arith

literals-defined : (n : Net) (bs : List Bool) → All (IsDefined n) (map bit_literal bs)
literals-defined n [] = All-nil (IsDefined n)
literals-defined n (b ∷ bs) = All-cons (IsDefined n) (bit_literal b) (map bit_literal bs) (literal-defined n b) (literals-defined n bs)

pub MakesNode-constant : (items : List Item) (n : Net) (width word : ℕ) → MakesNode items n n 0 width (λ f. word) (map bit_literal (bits width word))
MakesNode-constant items n width word =
    record {
      grows = Grows-refl n 0;
      wide = length-map (bits width word) bit_literal ∙ length-bits width word;
      defined = literals-defined n (bits width word);
      bits = λ state input f v t. literals-bits v (bits width word);
    }

-- Placed rows.

-- a row made of no gate that reads in each frame as a word
MakesNode-placed : (items : List Item) (n : Net) (width : ℕ) (value : Frame → ℕ) (row : List ℕ) → length row ≡ width → All (IsDefined n) row
    → ((state input f : Frame) (v : Valuation) → Together items n state input f v → word_value v row ≡ value f) → MakesNode items n n 0 width value row
MakesNode-placed items n width value row wide defined means =
    record {
      grows = Grows-refl n 0;
      wide = wide;
      defined = defined;
      bits = λ state input f v t. bits_of_word v row width (value f) wide (means state input f v t);
    }

-- wider by zeros
word-uext : (v : Valuation) (a : List ℕ) (by : ℕ) → word_value v (a ++ replicate by 0) ≡ word_value v a
word-uext v a by = word_value-append v a (replicate by 0) ∙ ap (λ (k : ℕ). word_value v a + 2 ^ length a * k) (word_value-replicate v by 0) ∙ omega arith

length-extended : (a : List ℕ) (l by n : ℕ) → length a ≡ n → length (a ++ replicate by l) ≡ n + by
length-extended a l by n e = omega (arith, length-append a (replicate by l), length-replicate {A = ℕ} by l)

defined-extended : (n : Net) (a : List ℕ) (l by : ℕ) → All (IsDefined n) a → IsDefined n l → All (IsDefined n) (a ++ replicate by l)
defined-extended n a l by all one = All-append (IsDefined n) a (replicate by l) all (All-replicate (IsDefined n) by l one)

pub MakesNode-uext : (items : List Item) (n : Net) (rows : List (List ℕ)) (id by : ℕ) → IsWellFormed items → (o : IsOperand items n rows id)
    → MakesNode items n n 0 (bits_of items id + by) (λ f. uext_value (f id)) (o.row ++ replicate by 0)
MakesNode-uext items n rows id by w o =
    MakesNode-placed items n (bits_of items id + by) (λ f. uext_value (f id)) (o.row ++ replicate by 0)
    (length-extended o.row 0 by (bits_of items id) o.reads.wide) (defined-extended n o.row 0 by o.reads.defined (omega arith))
    (λ state input f v t. word-uext v o.row by ∙ word_of_operand items n rows id w o state input f v t)

-- a word with its sign above it, so many times
wrapped-low : (n by x : ℕ) → x < 2 ^ (n - 1) → x < 2 ^ n → x + 2 ^ n * 0 ≡ wrapped (n + by) (signed n x)
wrapped-low n by x low whole =
    let more : 2 ^ n ≤ 2 ^ (n + by) = pow-le-pow_right (lit< tt) (omega arith) in
    let below : x < 2 ^ (n + by) = omega arith in
    let small : x % 2 ^ (n + by) ≡ x = mod-eq_of_lt below in
    omega arith ∙ sym (ap (wrapped (n + by)) (signed_low n x low) ∙ small)

wrapped-high : (n by x : ℕ) → 2 ^ (n - 1) ≤ x → x < 2 ^ n → x + 2 ^ n * ones by ≡ wrapped (n + by) (signed n x)
wrapped-high n by x high whole =
    let parts : 2 ^ (n + by) ≡ 2 ^ n * 2 ^ by = pow-add 2 n by in
    let some : 2 ^ by ≡ ones by + 1 = omega (arith, pow_pos by) in
    let spread : 2 ^ n * 2 ^ by ≡ 2 ^ n * ones by + 2 ^ n = ap (λ (k : ℕ). 2 ^ n * k) some ∙ omega arith in
    let below : x + 2 ^ n * ones by < 2 ^ (n + by) = omega (arith, parts, spread) in
    let is : (pos x -ℤ pos (2 ^ n)) +ℤ pos (1 * 2 ^ (n + by)) ≡ pos (x + 2 ^ n * ones by) = omega (arith, ints, parts, spread) in
    sym (ap (wrapped (n + by)) (signed_high n x high) ∙ wrapped_is (n + by) (pos x -ℤ pos (2 ^ n)) 1 (x + 2 ^ n * ones by) is ∙ mod-eq_of_lt below)

-- the highest literal of a row
abbrev pub top : List ℕ → ℕ
top a = get_or a (length a - 1) 0

get_or-own : (a : List ℕ) (k : ℕ) → k < length a → get_or a k 0 ≡ get_or a k (get_or a k 0)
get_or-own [] k h = absurd (omega arith)
get_or-own (l ∷ a) zero h = refl
get_or-own (l ∷ a) (suc k) h = same a k (omega arith) 0 (get_or a k 0)
  where
    same : (a : List ℕ) (k : ℕ) → k < length a → (x y : ℕ) → get_or a k x ≡ get_or a k y
    same [] k h x y = absurd (omega arith)
    same (l ∷ a) zero h x y = refl
    same (l ∷ a) (suc k) h x y = same a k (omega arith) x y

word-sext : (v : Valuation) (a : List ℕ) (n by : ℕ) → 1 ≤ n → length a ≡ n → word_value v (a ++ replicate by (top a)) ≡ sext_value n (word_value v a) by
word-sext v a n by some wide =
    word_value-append v a (replicate by (top a))
    ∙ ap₂ (λ (m k : ℕ). word_value v a + 2 ^ m * k) wide (word_value-replicate v by (top a))
    ∙ by_sign (literal_value v (top a)) refl
  where
    place : top a ≡ get_or a (n - 1) (top a)
    place = get_or-own a (length a - 1) (omega arith) ∙ ap (λ (m : ℕ). get_or a (m - 1) (top a)) wide

    whole : word_value v a < 2 ^ n
    whole = word_value-below v a n wide

    by_sign : (b : Bool) → literal_value v (top a) ≡ b → word_value v a + 2 ^ n * (cond b (ones by) 0) ≡ sext_value n (word_value v a) by
    by_sign true is = wrapped-high n by (word_value v a) (sign-one v a n (top a) some wide place is) whole
    by_sign false is = wrapped-low n by (word_value v a) (sign-zero v a n (top a) some wide place is) whole

pub MakesNode-sext : (items : List Item) (n : Net) (rows : List (List ℕ)) (id by : ℕ) → IsWellFormed items → (o : IsOperand items n rows id)
    → MakesNode items n n 0 (bits_of items id + by) (λ f. sext_value (bits_of items id) (f id) by) (o.row ++ replicate by (top o.row))
MakesNode-sext items n rows id by w o =
    let inside : length o.row - 1 < length o.row = omega (arith, o.reads.wide, o.some) in
    MakesNode-placed items n (bits_of items id + by) (λ f. sext_value (bits_of items id) (f id) by) (o.row ++ replicate by (top o.row))
    (length-extended o.row (top o.row) by (bits_of items id) o.reads.wide)
    (defined-extended n o.row (top o.row) by o.reads.defined (All-get_or (IsDefined n) o.row (length o.row - 1) 0 inside o.reads.defined))
    (λ state input f v t.
    word-sext v o.row (bits_of items id) by o.some o.reads.wide ∙ ap (λ (x : ℕ). sext_value (bits_of items id) x by) (word_of_operand items n rows id w o state input f v t))

-- the literals of a slice
word-drop : (v : Valuation) (a : List ℕ) (k : ℕ) → k ≤ length a → word_value v (drop k a) ≡ word_value v a / 2 ^ k
word-drop v a k le = sym (ap (λ w. w / 2 ^ k) (word_value-split v a k le) ∙ shr_high (word_value v (drop k a)) k (word_value v (take k a)) (word_value-below v (take k a) k (length-take-le k a le)))

word-take : (v : Valuation) (a : List ℕ) (k : ℕ) → k ≤ length a → word_value v (take k a) ≡ word_value v a % 2 ^ k
word-take v a k le = sym (ap (λ w. w % 2 ^ k) (word_value-split v a k le) ∙ mod_low (word_value v (drop k a)) k (word_value v (take k a)) (word_value-below v (take k a) k (length-take-le k a le)))

pub MakesNode-slice : (items : List Item) (n : Net) (rows : List (List ℕ)) (id u l : ℕ) → IsWellFormed items → (o : IsOperand items n rows id) → l ≤ u → u < bits_of items id
    → MakesNode items n n 0 (u - l + 1) (λ f. slice_value (f id) u l) (take (u - l + 1) (drop l o.row))
MakesNode-slice items n rows id u l w o order within =
    let left : length (drop l o.row) ≡ length o.row - l = length-drop l o.row in
    let enough : u - l + 1 ≤ length (drop l o.row) = omega (arith, left, o.reads.wide) in
    let below : l ≤ length o.row = omega (arith, o.reads.wide) in
    MakesNode-placed items n (u - l + 1) (λ f. slice_value (f id) u l) (take (u - l + 1) (drop l o.row))
    (length-take-le (u - l + 1) (drop l o.row) enough)
    (All-take (IsDefined n) (u - l + 1) (drop l o.row) (All-drop (IsDefined n) l o.row o.reads.defined))
    (λ state input f v t.
    word-take v (drop l o.row) (u - l + 1) enough ∙ ap (λ (x : ℕ). x % 2 ^ (u - l + 1)) (word-drop v o.row l below ∙ ap (λ (x : ℕ). x / 2 ^ l) (word_of_operand items n rows id w o state input f v t)))

-- a word before another
pub MakesNode-concat : (items : List Item) (n : Net) (rows : List (List ℕ)) (a b : ℕ) → IsWellFormed items → (high : IsOperand items n rows a) → (low : IsOperand items n rows b)
    → MakesNode items n n 0 (bits_of items a + bits_of items b) (λ f. concat_value (f a) (bits_of items b) (f b)) (low.row ++ high.row)
MakesNode-concat items n rows a b w high low =
    MakesNode-placed items n (bits_of items a + bits_of items b) (λ f. concat_value (f a) (bits_of items b) (f b)) (low.row ++ high.row)
    (omega (arith, length-append low.row high.row, low.reads.wide, high.reads.wide))
    (All-append (IsDefined n) low.row high.row low.reads.defined high.reads.defined)
    (λ state input f v t.
    word_value-append v low.row high.row
    ∙ ap₂ (λ (x y : ℕ). x + 2 ^ length low.row * y) (word_of_operand items n rows b w low state input f v t) (word_of_operand items n rows a w high state input f v t)
    ∙ ap (λ (m : ℕ). f b + 2 ^ m * f a) low.reads.wide ∙ omega arith)
