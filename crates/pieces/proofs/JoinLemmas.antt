-- Words one before another, and wider words.
use Rattle.std.proofs.Common.{◌≡◌, ℕ, zero, suc, ◌+◌, ◌-◌, ◌*◌, ◌/◌, ◌%◌, ◌^◌, ◌<◌, ◌≤◌, Bool, true, false, ◌==◌, if◌then◌else◌, ⊎_elim, pos, negsuc, ◌+ℤ◌, ◌-ℤ◌, List, [], ◌∷◌, ◌++◌, Option, Some, None, refl, sym, ap, ap₂, subst, ◌∙◌, arith, pow_pos, mod-eq_of_lt}
use Rattle.std.proofs.Math.Nat.{div-eq_of_lt, add_comm}
use Rattle.std.proofs.lemmas.Nat.{pow-add, div-mul-add}
use Rattle.std.proofs.lemmas.Bool.{cases_lt}
use Rattle.std.proofs.lemmas.Int.{ints}
use Rattle.base.specs.Operator.{ones, ite_value, uext_value, sext_value, concat_value}
use Rattle.base.specs.Signed.{wrapped}
use Rattle.base.proofs.SignedLaws.{half, signed_low, signed_high}
use Rattle.base.proofs.WrapLemmas.{wrapped_is}
use Rattle.base.proofs.ValueLaws.{wider_below, concat_below}
use Rattle.btor2.specs.declared.item.Item.{Item}
use Rattle.btor2.specs.Trace.{Frame}
use Rattle.fit.proofs.WordLemmas.{alone}
use Rattle.pieces.specs.declared.node.Node.{Node}
use Rattle.pieces.specs.Nodes.{word_of, bits_in, AreNodes, Extends, IsNode, Makes, MakesWord}
use Rattle.pieces.specs.Fills.{filled_word}
use Rattle.pieces.proofs.NodeLemmas.{later, extends_twice, makes_same, word_fits}
use Rattle.pieces.proofs.ListLemmas.{word_append, bits_append, word_more, bits_more, nodes_more, nodes_kept, words_fit}
use Rattle.pieces.proofs.TestLemmas.{ones_pieces, zero_pieces}
use Rattle.pieces.proofs.OrderLemmas.{whole_word}
use Rattle.pieces.proofs.SumLemmas.{word_same}

pub nodes_join : (items : List Item) (xs ys : List Node) → AreNodes items xs → AreNodes items ys → AreNodes items (xs ++ ys)
nodes_join items [] ys h k = k
nodes_join items (x ∷ xs) ys h k = (h.0, nodes_join items xs ys h.1 k)

pub stacked_word : (old new : List Item) (low high rs : List Node) (n : ℕ) → AreNodes old low → AreNodes old high → bits_in high + bits_in low ≡ n → Extends old new → MakesWord new n (λ g. word_of g (low ++ high) / 2 ^ 0 % 2 ^ n) rs
    → MakesWord new n (λ g. concat_value (word_of g high) (bits_in low) (word_of g low)) rs
stacked_word old new low high rs n in_low in_high is e h =
    word_same new n n (λ g. word_of g (low ++ high)) (λ g. concat_value (word_of g high) (bits_in low) (word_of g low)) rs
    (whole_word old new (low ++ high) rs n (nodes_join old low high in_low in_high) (bits_append low high ∙ is) e h) refl (λ more state input g w states inputs frame. word_append g low high)

-- ---- what fills places

filled_none : (g : Frame) (by : Option Node) → filled_word g by 0 ≡ 0
filled_none g None = refl
filled_none g (Some b) = one_of (g b.id == 1)
  where
    one_of : (t : Bool) → (if t then 2 ^ 0 - 1 else 0) ≡ 0
    one_of true = refl
    one_of false = refl

filled_more : (g : Frame) (by : Option Node) (m n : ℕ) → filled_word g by (m + n) ≡ concat_value (filled_word g by m) n (filled_word g by n)
filled_more g None m n = zero_pieces n
filled_more g (Some b) m n = one_of (g b.id == 1)
  where
    one_of : (t : Bool) → (if t then ones (m + n) else 0) ≡ concat_value (if t then ones m else 0) n (if t then ones n else 0)
    one_of true = ones_pieces m n
    one_of false = zero_pieces n

pub fill_none : (items : List Item) (by : Option Node) (n : ℕ) (out : List Node) → n ≡ 0 → out ≡ [] → MakesWord items n (λ g. filled_word g by n) out
fill_none items by n out none is =
    record {
      nodes = subst (AreNodes items) (sym is) tt;
      wide = ap bits_in is ∙ sym none;
      word = λ more state input g w states inputs frame. ap (word_of g) is ∙ sym (ap (filled_word g by) none ∙ filled_none g by);
    }

pub fill_more : (now new : List Item) (by : Option Node) (m taken n : ℕ) (out next : List Node) (r : Node) → taken + m ≡ n → Extends now new → MakesWord now m (λ g. filled_word g by m) out → Makes new taken (λ g. filled_word g by taken) r → next ≡ out ++ r ∷ []
    → MakesWord new n (λ g. filled_word g by n) next
fill_more now new by m taken n out next r is e h k last =
    subst (MakesWord new n (λ g. filled_word g by n)) (sym last)
    (record {
      nodes = nodes_more new out r (nodes_kept now new out e h.nodes) k.node;
      wide = bits_more out r ∙ ap₂ (λ (i j : ℕ). i + j) k.wide h.wide ∙ is;
      word = λ more state input g w states inputs frame.
          let low = later now new (λ g. word_of g out ≡ filled_word g by m) e h.word more state input g w states inputs frame in
          word_more g out r ∙ ap₂ (λ (i j : ℕ). concat_value i (bits_in out) j) (k.word more state input g w states inputs frame) low
          ∙ ap (λ (i : ℕ). concat_value (filled_word g by taken) i (filled_word g by m)) h.wide ∙ sym (filled_more g by taken m) ∙ ap (filled_word g by) is;
    })

-- a bit with itself before it
bit_before : (n b : ℕ) → 1 ≤ n → b < 2 → sext_value 1 b (n - 1) ≡ ite_value b (ones n) 0
bit_before n zero some h = let all : 1 + (n - 1) ≡ n = omega (arith, some) in ap (λ k. wrapped k (pos 0)) all ∙ mod-eq_of_lt (pow_pos n)
bit_before n (suc zero) some h =
    let all : 1 + (n - 1) ≡ n = omega (arith, some) in
    ap (λ k. wrapped k (negsuc 0)) all ∙ omega (arith, mod-eq_of_lt (pow_pos n))
bit_before n (suc (suc b)) some h = absurd (omega (arith, h))

pub filled_by : (old new : List Item) (b r : Node) (n : ℕ) → IsNode old b → b.width ≡ 1 → 1 ≤ n → Extends old new → Makes new n (λ g. sext_value b.width (g b.id) (n - b.width)) r → Makes new n (λ g. filled_word g (Some b) n) r
filled_by old new b r n in_b bit some e h =
    makes_same new n n (λ g. sext_value b.width (g b.id) (n - b.width)) (λ g. filled_word g (Some b) n) r h refl
    (λ more state input g w states inputs frame.
    let fits : g b.id < 2 = subst (λ (k : ℕ). g b.id < 2 ^ k) bit (later old new (λ g. g b.id < 2 ^ b.width) e (word_fits old b in_b) more state input g w states inputs frame) in
    ap (λ (k : ℕ). sext_value k (g b.id) (n - k)) bit ∙ bit_before n (g b.id) some fits)

-- a word with its highest bit before it
pub sext_pieces : (n a by : ℕ) → 1 ≤ n → a < 2 ^ n → concat_value (ite_value (a / 2 ^ (n - 1) % 2 ^ 1) (ones by) 0) n a ≡ sext_value n a by
sext_pieces n a by some fits = ⊎_elim (λ h. low h) (λ h. high h) (cases_lt a (2 ^ (n - 1)))
  where
    low : a < 2 ^ (n - 1) → concat_value (ite_value (a / 2 ^ (n - 1) % 2 ^ 1) (ones by) 0) n a ≡ sext_value n a by
    low h =
        let none : a / 2 ^ (n - 1) ≡ 0 = div-eq_of_lt h in
        ap (λ k. concat_value (ite_value (k % 2 ^ 1) (ones by) 0) n a) none ∙ alone n a ∙ sym (ap (wrapped (n + by)) (signed_low n a h) ∙ mod-eq_of_lt (wider_below n a by fits))

    high : 2 ^ (n - 1) ≤ a → concat_value (ite_value (a / 2 ^ (n - 1) % 2 ^ 1) (ones by) 0) n a ≡ sext_value n a by
    high h =
        let rest : a ≡ 1 * 2 ^ (n - 1) + (a - 2 ^ (n - 1)) = omega (arith, h) in
        let one : a / 2 ^ (n - 1) ≡ 1 = ap (λ k. k / 2 ^ (n - 1)) rest ∙ div-mul-add 1 (2 ^ (n - 1)) (a - 2 ^ (n - 1)) (omega (arith, fits, half n some)) in
        let all_ones : ones by + 1 ≡ 2 ^ by = omega (arith, pow_pos by) in
        let ones_below : ones by < 2 ^ by = omega (arith, pow_pos by) in
        let below : concat_value (ones by) n a < 2 ^ (n + by) = omega (arith, concat_below by n (ones by) a ones_below fits, ap (λ k. 2 ^ k) (add_comm n by)) in
        let back : (pos a -ℤ pos (2 ^ n)) +ℤ pos (1 * 2 ^ (n + by)) ≡ pos (concat_value (ones by) n a) = omega (arith, ints, pow-add 2 by n, ap (λ k. 2 ^ k) (add_comm n by), ap (λ k. k * 2 ^ n) all_ones) in
        ap (λ k. concat_value (ite_value (k % 2 ^ 1) (ones by) 0) n a) one
        ∙ sym (ap (wrapped (n + by)) (signed_high n a h) ∙ wrapped_is (n + by) (pos a -ℤ pos (2 ^ n)) 1 (concat_value (ones by) n a) back ∙ mod-eq_of_lt below)

pub signed_word : (old m1 m2 new : List Item) (xs zs rs : List Node) (n m by : ℕ) (sign : Node) → AreNodes old xs → 1 ≤ bits_in xs → n ≡ m → m ≡ bits_in xs + by → Extends old m1 → Extends m1 m2 → Extends m2 new → Makes m1 1 (λ g. word_of g xs / 2 ^ (bits_in xs - 1) % 2 ^ 1) sign → MakesWord m2 by (λ g. filled_word g (Some sign) by) zs
    → MakesWord new n (λ g. concat_value (word_of g zs) (bits_in xs) (word_of g xs)) rs → MakesWord new m (λ g. sext_value (bits_in xs) (word_of g xs) by) rs
signed_word old m1 m2 new xs zs rs n m by sign in_xs some is all e0 e1 e2 h k made =
    let e = extends_twice old m1 new e0 (extends_twice m1 m2 new e1 e2) in
    word_same new n m (λ g. concat_value (word_of g zs) (bits_in xs) (word_of g xs)) (λ g. sext_value (bits_in xs) (word_of g xs) by) rs made is
    (λ more state input g w states inputs frame.
    let fits = later old new (λ g. word_of g xs < 2 ^ bits_in xs) e (words_fit old xs in_xs) more state input g w states inputs frame in
    let bit = later m1 new (λ g. g sign.id ≡ word_of g xs / 2 ^ (bits_in xs - 1) % 2 ^ 1) (extends_twice m1 m2 new e1 e2) h.word more state input g w states inputs frame in
    let fill = later m2 new (λ g. word_of g zs ≡ filled_word g (Some sign) by) e2 k.word more state input g w states inputs frame in
    ap (λ (i : ℕ). concat_value i (bits_in xs) (word_of g xs)) (fill ∙ ap (λ (i : ℕ). ite_value i (ones by) 0) bit) ∙ sext_pieces (bits_in xs) (word_of g xs) by some fits)

-- a word before which zeros stand
pub wider_word : (m1 new : List Item) (xs zs rs : List Node) (n m by : ℕ) → n ≡ m → Extends m1 new → MakesWord m1 by (λ g. 0) zs → MakesWord new n (λ g. concat_value (word_of g zs) (bits_in xs) (word_of g xs)) rs → MakesWord new m (λ g. uext_value (word_of g xs)) rs
wider_word m1 new xs zs rs n m by is e zeros h =
    word_same new n m (λ g. concat_value (word_of g zs) (bits_in xs) (word_of g xs)) (λ g. uext_value (word_of g xs)) rs h is
    (λ more state input g w states inputs frame. ap (λ (k : ℕ). concat_value k (bits_in xs) (word_of g xs)) (later m1 new (λ g. word_of g zs ≡ 0) e zeros.word more state input g w states inputs frame) ∙ alone (bits_in xs) (word_of g xs))
