-- What is told of a state is its word where each told word's bits are those of the state's.
use Rattle.std.proofs.Common.{◌≡◌, ℕ, zero, suc, ◌+◌, ◌*◌, ◌^◌, ◌<◌, ◌==◌, Bool, true, false, List, [], ◌∷◌, slice_get, Option, Some, None, is_some, length, map, eqb-true, refl, sym, ap, subst, ◌∙◌, inl, inr, arith}
use Rattle.std.specs.List.{AllByRecursion, AllZip}
use Rattle.std.proofs.lemmas.Bool.{cases_Bool}
use Rattle.std.proofs.lemmas.Option.{none-some}
use Rattle.base.specs.Word.{bit}
use Rattle.full.specs.Lines.{Sort}
use Rattle.fit.specs.Fitting.{pieces_word}
use Rattle.pieces.specs.Cuts.{IsCut}
use Rattle.witness.specs.Judgements.{given}
use Rattle.fulljudge.specs.Shapes.{word_count, word_width}
use Rattle.fulljudge.specs.Told.{told}
use Rattle.fulljudge.specs.Compared.{bit_in, flag_at, IsToldOtherwise, Flag}
use Rattle.fulljudge.proofs.DigitLemmas.{same_bits, cell_bit, bit_is}
use Rattle.fulljudge.proofs.ToldLemmas.{own_word, WordsFit, WordsAre, told_word, told_own, told_other, own_below}

pub get_below : {A : Type 0} (xs : List A) (i : ℕ) (x : A) → slice_get xs i ≡ Some x → i < length xs
get_below [] i x e = absurd (none-some x e)
get_below (a ∷ xs) zero x e = omega arith
get_below (a ∷ xs) (suc i) x e = omega (arith, get_below xs i x e)

-- a word whose pieces stand at places, by the words of nodes
pub record IsRead (words : ℕ → Option ℕ) (width g : ℕ → ℕ) (ps places : List ℕ) (x : ℕ) : Type 0 where
  pub at : AllZip (λ p place. words place ≡ Some (g p)) ps places
  pub cut : IsCut 64 (map width ps)
  pub fit : AllByRecursion (λ p. g p < 2 ^ width p) ps
  pub is : x ≡ pieces_word width g ps

some_is : (o : Option ℕ) → is_some o ≡ true → (v : ℕ) × (o ≡ Some v)
some_is (Some v) h = (v, refl)
some_is None h = absurd (cc h)

-- two bits are the same where both are 1 or neither is
bits_alike : (x y : ℕ) → x < 2 → y < 2 → (x == 1) ≡ (y == 1) → x ≡ y
bits_alike x y few less same =
    elim (cases_Bool (x == 1)) [
      | inl e ↦ eqb-true x 1 e ∙ sym (eqb-true y 1 (sym same ∙ e))
      | inr e ↦ omega (arith, few, less, not_one x e, not_one y (sym same ∙ e))
    ]
  where
    not_one : (z : ℕ) → (z == 1) ≡ false → z ≡ 1 → ⊥
    not_one z e one = cc (e, subst (λ (k : ℕ). (k == 1) ≡ true) (sym one) refl)

or_else : (b c : Bool) → ((b ≡ c → ⊥) → ⊥) → b ≡ c
or_else true true h = refl
or_else false false h = refl
or_else true false h = absurd (h (λ e. cc e))
or_else false true h = absurd (h (λ e. cc e))

module _ (words : ℕ → Option ℕ) (width g : ℕ → ℕ) (leaf node leaf_places node_places : List ℕ) (t x : ℕ) (l : IsRead words width g leaf leaf_places t) (n : IsRead words width g node node_places x) (list : List (ℕ × ℕ)) (flags : List Bool) (s : Sort)
    (first : ℕ) (flag : Flag flags list) (many : first + word_count s < length flags + 1) (fit : WordsFit list s first) (is_told : t ≡ told list s first 0) (t_below : t < 2 ^ (word_count s * word_width s)) (x_below : x < 2 ^ (word_count s * word_width s)) where
  leaf_bit : (place : ℕ) → bit_in words leaf_places place ≡ (bit t place == 1)
  leaf_bit place = bit_is words width g leaf leaf_places place l.at l.cut l.fit ∙ ap (λ (y : ℕ). bit y place == 1) (sym l.is)

  node_bit : (place : ℕ) → bit_in words node_places place ≡ (bit x place == 1)
  node_bit place = bit_is words width g node node_places place n.at n.cut n.fit ∙ ap (λ (y : ℕ). bit y place == 1) (sym n.is)

  told_is : (c v : ℕ) → c < word_count s → given list (first + c) ≡ Some v → own_word s t c ≡ v
  told_is c v within e = ap (λ (y : ℕ). own_word s y c) is_told ∙ told_word list s first 0 c v fit within e

  inside : (c : ℕ) → c < word_count s → first + c < length flags
  inside c within = omega (arith, within, many)

  pub none_otherwise : (IsToldOtherwise words flags s first leaf_places node_places → ⊥) → told list s first x ≡ x
  none_otherwise none = told_own list s first x fit are x_below
    where
      are : WordsAre list s first x
      are c v within e =
          let flagged : flag_at flags (first + c) ≡ true = flag (first + c) (inside c within) ∙ ap is_some e in
          sym (told_is c v within e)
          ∙ same_bits (word_width s) (own_word s t c) (own_word s x c) (own_below s t c within t_below) (own_below s x c within x_below)
          (λ b small.
          cell_bit s t c b within small
          ∙ bits_alike (bit t (c * word_width s + b)) (bit x (c * word_width s + b)) (omega arith) (omega arith)
          (sym (leaf_bit (c * word_width s + b))
          ∙ or_else (bit_in words leaf_places (c * word_width s + b)) (bit_in words node_places (c * word_width s + b))
          (λ other. none (record { cell = c; within = within; is_told = flagged; differ = record { place = b; within = small; differs = other } }))
          ∙ node_bit (c * word_width s + b))
          ∙ sym (cell_bit s x c b within small))

  pub otherwise_differs : IsToldOtherwise words flags s first leaf_places node_places → told list s first x ≡ x → ⊥
  otherwise_differs o same =
      let c : ℕ = o.cell in
      let b : ℕ = o.differ.place in
      let given_some = some_is (given list (first + c)) (sym (flag (first + c) (inside c o.within)) ∙ o.is_told) in
      told_other list s first x c given_some.0 fit o.within given_some.1
      (λ own.
      let alike : own_word s t c ≡ own_word s x c = told_is c given_some.0 o.within given_some.1 ∙ own in
      o.differ.differs (leaf_bit (c * word_width s + b)
      ∙ ap (λ (y : ℕ). y == 1) (sym (cell_bit s t c b o.within o.differ.within) ∙ ap (λ (y : ℕ). bit y b) alike ∙ cell_bit s x c b o.within o.differ.within)
      ∙ sym (node_bit (c * word_width s + b)))) same

  -- where both are one node's they are the same
  pub same_word : t ≡ x → told list s first x ≡ x
  same_word same = told_own list s first x fit (λ c v within e. sym (told_is c v within e) ∙ ap (λ (y : ℕ). own_word s y c) same) x_below
