-- Words of one node, and of more.
use Rattle.std.proofs.Common.{◌≡◌, ℕ, ◌^◌, ◌<◌, ◌≤◌, Bool, true, false, List, [], ◌∷◌, length, get_or, refl, sym, ap, ap₂, subst, ◌∙◌, arith}
use Rattle.base.specs.declared.operators.Unary.{Unary}
use Rattle.base.specs.declared.operators.Binary.{Binary}
use Rattle.base.specs.Widths.{unary_width, binary_width, is_of_bits}
use Rattle.base.specs.Operator.{unary_value, binary_value, ite_value}
use Rattle.btor2.specs.declared.item.Item.{Item}
use Rattle.btor2.specs.Trace.{Frame}
use Rattle.fit.proofs.WordLemmas.{alone}
use Rattle.pieces.specs.declared.node.Node.{Node}
use Rattle.pieces.specs.Nodes.{word_of, bits_in, Extends, Makes, MakesWord}
use Rattle.pieces.specs.Cuts.{widths, IsCut, IsWord}
use Rattle.pieces.proofs.NodeLemmas.{in_frames, both_frames, makes_same}
use Rattle.pieces.proofs.ListLemmas.{words_fit, nodes_kept}
use Rattle.fitting.specs.Forms.{IsBit}

-- a word of one node is that node's
pub single_bits : (a : List Node) (d : Node) → length a ≡ 1 → bits_in a ≡ (get_or a 0 d).width
single_bits [] d h = absurd (omega (arith, h))
single_bits (x ∷ []) d h = omega arith
single_bits (x ∷ y ∷ more) d h = absurd (omega (arith, h))

pub single_word : (a : List Node) (d : Node) (g : Frame) → length a ≡ 1 → word_of g a ≡ g (get_or a 0 d).id
single_word [] d g h = absurd (omega (arith, h))
single_word (x ∷ []) d g h = alone x.width (g x.id)
single_word (x ∷ y ∷ more) d g h = absurd (omega (arith, h))

pub alone_word : (items : List Item) (n : ℕ) (value : Frame → ℕ) (r : Node) (rs : List Node) → rs ≡ r ∷ [] → Makes items n value r → MakesWord items n value rs
alone_word items n value r rs is h =
    let wide = h.wide in
    subst (MakesWord items n value) (sym is) (record {
      nodes = (h.node, tt);
      wide = omega (arith, wide);
      word = in_frames items (λ g. g r.id ≡ value g) (λ g. word_of g (r ∷ []) ≡ value g) h.word (λ g e. alone r.width (g r.id) ∙ e);
    })

pub unary_alone : (items : List Item) (op : Unary) (a : List Node) (d r : Node) (rs : List Node) → length a ≡ 1 → rs ≡ r ∷ [] → Makes items (unary_width op (get_or a 0 d).width) (λ g. unary_value op (get_or a 0 d).width (g (get_or a 0 d).id)) r
    → MakesWord items (unary_width op (bits_in a)) (λ g. unary_value op (bits_in a) (word_of g a)) rs
unary_alone items op a d r rs one is h =
    let bits = single_bits a d one in
    alone_word items (unary_width op (bits_in a)) (λ g. unary_value op (bits_in a) (word_of g a)) r rs is
    (makes_same items (unary_width op (get_or a 0 d).width) (unary_width op (bits_in a)) (λ g. unary_value op (get_or a 0 d).width (g (get_or a 0 d).id)) (λ g. unary_value op (bits_in a) (word_of g a)) r h (ap (unary_width op) (sym bits))
    (λ more state input g w states inputs frame. ap₂ (unary_value op) (sym bits) (sym (single_word a d g one))))

pub binary_alone : (old items : List Item) (op op' : Binary) (a b : List Node) (d e r : Node) (rs : List Node) → Extends old items → IsWord old a → IsWord old b → bits_in a ≡ bits_in b → length a ≡ 1 → length b ≡ 1
    → (is_of_bits op ≡ true → bits_in a ≡ 1) → ((n : ℕ) → binary_width op' n ≡ binary_width op n) → ((n v w : ℕ) → (is_of_bits op ≡ true → IsBit v × IsBit w) → binary_value op' n v w ≡ binary_value op n v w) → rs ≡ r ∷ []
    → Makes items (binary_width op' (get_or a 0 d).width) (λ g. binary_value op' (get_or a 0 d).width (g (get_or a 0 d).id) (g (get_or b 0 e).id)) r
    → MakesWord items (binary_width op (bits_in a)) (λ g. binary_value op (bits_in a) (word_of g a) (word_of g b)) rs
binary_alone old items op op' a b d e r rs ext in_a in_b same one one_b bit width value is h =
    let bits = single_bits a d one in
    alone_word items (binary_width op (bits_in a)) (λ g. binary_value op (bits_in a) (word_of g a) (word_of g b)) r rs is
    (makes_same items (binary_width op' (get_or a 0 d).width) (binary_width op (bits_in a)) (λ g. binary_value op' (get_or a 0 d).width (g (get_or a 0 d).id) (g (get_or b 0 e).id)) (λ g. binary_value op (bits_in a) (word_of g a) (word_of g b)) r h
    (ap (binary_width op') (sym bits) ∙ width (bits_in a))
    (both_frames items (λ g. word_of g a < 2 ^ bits_in a) (λ g. word_of g b < 2 ^ bits_in b) (λ g. binary_value op' (get_or a 0 d).width (g (get_or a 0 d).id) (g (get_or b 0 e).id) ≡ binary_value op (bits_in a) (word_of g a) (word_of g b))
    (words_fit items a (nodes_kept old items a ext in_a.nodes)) (words_fit items b (nodes_kept old items b ext in_b.nodes))
    (λ g fits_a fits_b.
    ap₂ (λ (n v : ℕ). binary_value op' n v (g (get_or b 0 e).id)) (sym bits) (sym (single_word a d g one)) ∙ ap (λ (w : ℕ). binary_value op' (bits_in a) (word_of g a) w) (sym (single_word b e g one_b))
    ∙ value (bits_in a) (word_of g a) (word_of g b) (λ of_bits. (subst (λ (n : ℕ). word_of g a < 2 ^ n) (bit of_bits) fits_a, subst (λ (n : ℕ). word_of g b < 2 ^ n) (sym same ∙ bit of_bits) fits_b)))))

-- a word of more nodes has more than 64 bits
cut_some : (w : ℕ) (ws : List ℕ) → IsCut 64 (w ∷ ws) → 1 ≤ w
cut_some w [] h = h.0
cut_some w (v ∷ more) h = let is = h.0 in omega (arith, is)

pub more_bits : (a : List Node) → IsCut 64 (widths a) → 1 ≤ bits_in a → (length a ≡ 1 → ⊥) → 64 < bits_in a
more_bits [] cut some many = absurd (omega (arith, some))
more_bits (x ∷ []) cut some many = absurd (many refl)
more_bits (x ∷ y ∷ more) cut some many = let is = cut.0 in let one = cut_some y.width (widths more) cut.1 in omega (arith, is, one)

pub wide_of_words : (op : Binary) (n : ℕ) → 64 < n → (is_of_bits op ≡ true → n ≡ 1) → is_of_bits op ≡ false
wide_of_words op n many bit = by (is_of_bits op) refl
  where
    by : (b : Bool) → is_of_bits op ≡ b → is_of_bits op ≡ false
    by false e = e
    by true e = absurd (let one = bit e in omega (arith, one, many))

pub words_same : (items : List Item) (n : ℕ) (value other : Frame → ℕ) (rs : List Node) → ((g : Frame) → value g ≡ other g) → MakesWord items n value rs → MakesWord items n other rs
words_same items n value other rs same h =
    record { nodes = h.nodes; wide = h.wide; word = in_frames items (λ g. word_of g rs ≡ value g) (λ g. word_of g rs ≡ other g) h.word (λ g e. e ∙ same g) }

-- a word of one bit has one node
pub bit_alone : (a : List Node) → IsCut 64 (widths a) → bits_in a ≡ 1 → length a ≡ 1
bit_alone [] cut bit = absurd (omega (arith, bit))
bit_alone (x ∷ []) cut bit = refl
bit_alone (x ∷ y ∷ more) cut bit = absurd (let many = more_bits (x ∷ y ∷ more) cut (omega (arith, bit)) (λ one. omega (arith, one)) in omega (arith, many, bit))

pub choice_word : (items : List Item) (n : ℕ) (c t e : List Node) (d : Node) (rs : List Node) → length c ≡ 1 → MakesWord items n (λ g. ite_value (g (get_or c 0 d).id) (word_of g t) (word_of g e)) rs
    → MakesWord items n (λ g. ite_value (word_of g c) (word_of g t) (word_of g e)) rs
choice_word items n c t e d rs one h =
    words_same items n (λ g. ite_value (g (get_or c 0 d).id) (word_of g t) (word_of g e)) (λ g. ite_value (word_of g c) (word_of g t) (word_of g e)) rs
    (λ g. ap (λ (b : ℕ). ite_value b (word_of g t) (word_of g e)) (sym (single_word c d g one))) h
