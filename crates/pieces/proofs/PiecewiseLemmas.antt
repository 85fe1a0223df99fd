-- Words of operators that go node by node. High sides have m bits, low sides n.
use Rattle.std.proofs.Common.{◌≡◌, ℕ, zero, suc, ◌+◌, ◌-◌, ◌*◌, ◌^◌, ◌<◌, Bool, true, false, cond, ◌==◌, bit_and, bit_or, bit_xor, List, [], ◌∷◌, ◌++◌, length, get_or, take, refl, sym, ap, ap₂, subst, subst₂, ◌∙◌, arith, pow_pos}
use Rattle.std.proofs.lemmas.Nat.{and_block, or_block, xor_block, pow-add}
use Rattle.base.specs.declared.operators.Binary.{Binary}
use Rattle.base.specs.declared.operators.Binary.TheVariants as binary
use Rattle.base.specs.Widths.{binary_width}
use Rattle.base.specs.Operator.{ones, binary_value, concat_value}
use Rattle.base.proofs.ValueLaws.{binary_below}
use Rattle.btor2.specs.declared.item.Item.{Item}
use Rattle.btor2.specs.Trace.{Frame}
use Rattle.pieces.specs.declared.node.Node.{Node}
use Rattle.pieces.specs.declared.piecewise.Each.{Each}
use Rattle.pieces.specs.declared.piecewise.Each.TheVariants as each
use Rattle.pieces.specs.Nodes.{word_of, bits_in, AreNodes, Extends, IsNode, Makes, MakesWord}
use Rattle.pieces.specs.Cuts.{widths}
use Rattle.pieces.specs.Piecewise.{is_bitwise, IsEach, piece_value}
use Rattle.pieces.proofs.NodeLemmas.{later, word_fits, node_kept}
use Rattle.pieces.proofs.ListLemmas.{word_more, bits_more, nodes_more, nodes_kept, nodes_taken, nodes_at, words_fit, same_length, same_bits, same_at, same_taken, taken, get_or_any}

pub bitwise_width : (op : Binary) (n : ℕ) → is_bitwise op ≡ true → binary_width op n ≡ n
bitwise_width binary.And n h = refl
bitwise_width binary.Nand n h = refl
bitwise_width binary.Or n h = refl
bitwise_width binary.Nor n h = refl
bitwise_width binary.Xor n h = refl
bitwise_width binary.Xnor n h = refl
bitwise_width _ n h = absurd (cc)

-- ---- words of a width

none : (x : ℕ) → x < 1 → x ≡ 0
none x h = omega arith

and_below : (n x y : ℕ) → x < 2 ^ n → y < 2 ^ n → bit_and x y < 2 ^ n
and_below zero x y h k = let zeros : bit_and x y ≡ 0 = ap₂ bit_and (none x h) (none y k) in omega (arith, zeros)
and_below (suc n) x y h k = binary_below binary.And (suc n) x y (omega arith) h k

or_below : (n x y : ℕ) → x < 2 ^ n → y < 2 ^ n → bit_or x y < 2 ^ n
or_below zero x y h k = let zeros : bit_or x y ≡ 0 = ap₂ bit_or (none x h) (none y k) in omega (arith, zeros)
or_below (suc n) x y h k = binary_below binary.Or (suc n) x y (omega arith) h k

xor_below : (n x y : ℕ) → x < 2 ^ n → y < 2 ^ n → bit_xor x y < 2 ^ n
xor_below zero x y h k = let zeros : bit_xor x y ≡ 0 = ap₂ (λ (i j : ℕ). bit_xor i j) (none x h) (none y k) in subst (λ (n : ℕ). n < 1) (sym zeros) (omega arith)
xor_below (suc n) x y h k = binary_below binary.Xor (suc n) x y (omega arith) h k

-- ---- words that are cut in two

ones_pieces : (m n : ℕ) → ones (m + n) ≡ concat_value (ones m) n (ones n)
ones_pieces m n =
    let high : ones m + 1 ≡ 2 ^ m = omega (arith, pow_pos m) in
    omega (arith, pow-add 2 m n, ap (λ k. k * 2 ^ n) high, pow_pos n)

not_pieces : (m n x A : ℕ) → x < 2 ^ m → A < 2 ^ n → ones (m + n) - concat_value x n A ≡ concat_value (ones m - x) n (ones n - A)
not_pieces m n x A h k =
    let high : (ones m - x) + x ≡ ones m = omega (arith, h) in
    omega (arith, ones_pieces m n, ap (λ k. k * 2 ^ n) high, k)

bitwise_pieces : (op : Binary) (m n x y A B : ℕ) → is_bitwise op ≡ true → x < 2 ^ m → y < 2 ^ m → A < 2 ^ n → B < 2 ^ n
    → binary_value op (m + n) (concat_value x n A) (concat_value y n B) ≡ concat_value (binary_value op m x y) n (binary_value op n A B)
bitwise_pieces binary.And m n x y A B is a b c d = and_block n x y A B c d
bitwise_pieces binary.Or m n x y A B is a b c d = or_block n x y A B c d
bitwise_pieces binary.Xor m n x y A B is a b c d = xor_block n x y A B c d
bitwise_pieces binary.Nand m n x y A B is a b c d =
    ap (λ k. ones (m + n) - k) (and_block n x y A B c d) ∙ not_pieces m n (bit_and x y) (bit_and A B) (and_below m x y a b) (and_below n A B c d)
bitwise_pieces binary.Nor m n x y A B is a b c d =
    ap (λ k. ones (m + n) - k) (or_block n x y A B c d) ∙ not_pieces m n (bit_or x y) (bit_or A B) (or_below m x y a b) (or_below n A B c d)
bitwise_pieces binary.Xnor m n x y A B is a b c d =
    ap (λ k. ones (m + n) - k) (xor_block n x y A B c d) ∙ not_pieces m n (bit_xor x y) (bit_xor A B) (xor_below m x y a b) (xor_below n A B c d)
bitwise_pieces _ m n x y A B is a b c d = absurd (cc)

value_pieces : (g : Frame) (by : Each) (items : List Item) (m n x y A B : ℕ) → IsEach items by → x < 2 ^ m → y < 2 ^ m → A < 2 ^ n → B < 2 ^ n
    → piece_value g by (m + n) (concat_value x n A) (concat_value y n B) ≡ concat_value (piece_value g by m x y) n (piece_value g by n A B)
value_pieces g each.Not items m n x y A B is a b c d = not_pieces m n x A a c
value_pieces g (each.Bitwise op) items m n x y A B is a b c d = bitwise_pieces op m n x y A B is a b c d
value_pieces g (each.Choice p) items m n x y A B is a b c d = by_bit (g p.id == 1)
  where
    by_bit : (t : Bool) → cond t (concat_value x n A) (concat_value y n B) ≡ concat_value (cond t x y) n (cond t A B)
    by_bit true = refl
    by_bit false = refl

-- of no bits
pub value_none : (g : Frame) (by : Each) (items : List Item) → IsEach items by → piece_value g by 0 0 0 ≡ 0
value_none g each.Not items is = refl
value_none g (each.Bitwise op) items is = bitwise_none op is
  where
    bitwise_none : (op : Binary) → is_bitwise op ≡ true → binary_value op 0 0 0 ≡ 0
    bitwise_none binary.And h = refl
    bitwise_none binary.Nand h = refl
    bitwise_none binary.Or h = refl
    bitwise_none binary.Nor h = refl
    bitwise_none binary.Xor h = refl
    bitwise_none binary.Xnor h = refl
    bitwise_none _ h = absurd (cc)
value_none g (each.Choice p) items is = by_bit (g p.id == 1)
  where
    by_bit : (t : Bool) → ◌≡◌ {A = ℕ} (cond t 0 0) 0
    by_bit true = refl
    by_bit false = refl

-- ---- one node more

pub each_kept : (old new : List Item) (by : Each) → Extends old new → IsEach old by → IsEach new by
each_kept old new each.Not e h = tt
each_kept old new (each.Bitwise op) e h = h
each_kept old new (each.Choice p) e h = (node_kept old new p e h.0, h.1)

pub node_more : (now new : List Item) (by : Each) (xs ys out : List Node) (a b r : Node) → IsEach now by → AreNodes now xs → AreNodes now ys → IsNode now a → IsNode now b → bits_in xs ≡ bits_in ys → a.width ≡ b.width → Extends now new
    → MakesWord now (bits_in xs) (λ g. piece_value g by (bits_in xs) (word_of g xs) (word_of g ys)) out → Makes new a.width (λ g. piece_value g by a.width (g a.id) (g b.id)) r
    → MakesWord new (bits_in (xs ++ a ∷ [])) (λ g. piece_value g by (bits_in (xs ++ a ∷ [])) (word_of g (xs ++ a ∷ [])) (word_of g (ys ++ b ∷ []))) (out ++ r ∷ [])
node_more now new by xs ys out a b r is in_xs in_ys in_a in_b same wide e h k =
    record {
      nodes = nodes_more new out r (nodes_kept now new out e h.nodes) k.node;
      wide = bits_more out r ∙ ap₂ (λ (i j : ℕ). i + j) k.wide h.wide ∙ sym (bits_more xs a);
      word = λ more state input g w states inputs frame.
          let low_side = later now new (λ g. word_of g out ≡ piece_value g by (bits_in xs) (word_of g xs) (word_of g ys)) e h.word more state input g w states inputs frame in
          let high_side = k.word more state input g w states inputs frame in
          let x = later now new (λ g. g a.id < 2 ^ a.width) e (word_fits now a in_a) more state input g w states inputs frame in
          let y = later now new (λ g. g b.id < 2 ^ b.width) e (word_fits now b in_b) more state input g w states inputs frame in
          let A = later now new (λ g. word_of g xs < 2 ^ bits_in xs) e (words_fit now xs in_xs) more state input g w states inputs frame in
          let B = later now new (λ g. word_of g ys < 2 ^ bits_in ys) e (words_fit now ys in_ys) more state input g w states inputs frame in
          word_more g out r ∙ ap₂ (λ (i j : ℕ). concat_value i (bits_in out) j) high_side low_side
          ∙ ap (λ (i : ℕ). concat_value (piece_value g by a.width (g a.id) (g b.id)) i (piece_value g by (bits_in xs) (word_of g xs) (word_of g ys))) h.wide
          ∙ sym (value_pieces g by now a.width (bits_in xs) (g a.id) (g b.id) (word_of g xs) (word_of g ys) is x (rw wide y) A (rw same B))
          ∙ ap (λ (i : ℕ). piece_value g by (a.width + bits_in xs) (concat_value (g a.id) (bits_in xs) (word_of g xs)) (concat_value (g b.id) i (word_of g ys))) same
          ∙ ap₂ (λ (i j : ℕ). piece_value g by (a.width + bits_in xs) i j) (sym (word_more g xs a)) (sym (word_more g ys b))
          ∙ ap (λ (i : ℕ). piece_value g by i (word_of g (xs ++ a ∷ [])) (word_of g (ys ++ b ∷ []))) (sym (bits_more xs a));
    }

-- the same of the nodes at a place of two words
pub node_step : (old now new : List Item) (by : Each) (xs ys out next : List Node) (i : ℕ) (d e r : Node) → IsEach old by → AreNodes old xs → AreNodes old ys → widths xs ≡ widths ys → i < length xs → Extends old now → Extends now new
    → MakesWord now (bits_in (take i xs)) (λ g. piece_value g by (bits_in (take i xs)) (word_of g (take i xs)) (word_of g (take i ys))) out
    → Makes new (get_or xs i d).width (λ g. piece_value g by (get_or xs i d).width (g (get_or xs i d).id) (g (get_or ys i e).id)) r → next ≡ out ++ r ∷ []
    → MakesWord new (bits_in (take (i + 1) xs)) (λ g. piece_value g by (bits_in (take (i + 1) xs)) (word_of g (take (i + 1) xs)) (word_of g (take (i + 1) ys))) next
node_step old now new by xs ys out next i d e r is in_xs in_ys alike within e1 e2 h k last =
    let also : i < length ys = subst (λ (n : ℕ). i < n) (same_length xs ys alike) within in
    let a = get_or xs i d in
    let b = get_or ys i e in
    let wide : a.width ≡ b.width = same_at xs ys i d alike ∙ ap (λ (p : Node). p.width) (get_or_any ys i d e also) in
    let made = node_more now new by (take i xs) (take i ys) out a b r (each_kept old now by e1 is) (nodes_kept old now (take i xs) e1 (nodes_taken old i xs in_xs)) (nodes_kept old now (take i ys) e1 (nodes_taken old i ys in_ys))
    (node_kept old now a e1 (nodes_at old xs i d within in_xs)) (node_kept old now b e1 (nodes_at old ys i e also in_ys)) (same_bits (take i xs) (take i ys) (same_taken xs ys i alike)) wide e2 h k in
    subst (MakesWord new (bits_in (take (i + 1) xs)) (λ g. piece_value g by (bits_in (take (i + 1) xs)) (word_of g (take (i + 1) xs)) (word_of g (take (i + 1) ys)))) (sym last)
    (subst₂ (λ (k l : List Node). MakesWord new (bits_in k) (λ g. piece_value g by (bits_in k) (word_of g k) (word_of g l)) (out ++ r ∷ [])) (sym (taken xs i d within)) (sym (taken ys i e also)) made)

-- no nodes
pub word_none : (items : List Item) (by : Each) (out : List Node) → IsEach items by → out ≡ [] → MakesWord items 0 (λ g. piece_value g by 0 0 0) out
word_none items by out is none =
    record {
      nodes = subst (AreNodes items) (sym none) tt;
      wide = ap bits_in none;
      word = λ more state input g w states inputs frame. ap (word_of g) none ∙ sym (value_none g by items is);
    }
