-- A form over the nodes of its operands is no line that a row refuses, and its node is that of the line.
use Rattle.std.proofs.Common.{◌≡◌, ℕ, ◌+◌, ◌-◌, Bool, true, false, not, ◌&&◌, ◌||◌, suc, List, [], ◌∷◌, drop, slice_get, Some, IfSome, unwrap_or, refl, sym, ap, ap₂, subst, ◌∙◌, eqb}
use Rattle.std.specs.List.{AllByRecursion, AllZip}
use Rattle.base.specs.Widths.{unary_width, binary_width, is_of_bits}
use Rattle.btor2.specs.declared.item.Body.{Body}
use Rattle.btor2.specs.declared.item.Body.TheVariants as body
use Rattle.btor2.specs.Items.{node_sort, named_sort, operands, is_input, is_state, constant_word}
use Rattle.btor2.specs.Check.{widths_agree}
use Rattle.wide.specs.WideModels.{greatest_width, constant_fits_within}
use Rattle.full.specs.Lines.{Operand, operand, with_minuses}
use Rattle.full.specs.Runs.{word_by}
use Rattle.writeout.specs.Forms.{is_value, renamed, minus_at}

-- ---- rows

-- something is so of the operand at a place
abbrev pub AtPlace : List ℕ → ℕ → (ℕ → Type 0) → Type 0
AtPlace ids k Of = IfSome (slice_get ids k) Of

-- widths agree where they are the same
pub widths_same : (sort node sort' node' : ℕ → ℕ) (r x y z : ℕ) (b : Body) → is_value b ≡ true → sort (unwrap_or (node_sort b) 0) ≡ sort' r
    → AtPlace (operands b) 0 (λ a. node a ≡ node' x) → AtPlace (operands b) 1 (λ a. node a ≡ node' y) → AtPlace (operands b) 2 (λ a. node a ≡ node' z)
    → widths_agree sort node b ≡ widths_agree sort' node' (renamed r x y z b)
widths_same sort node sort' node' r x y z (body.Zero s) value e f g h = refl
widths_same sort node sort' node' r x y z (body.One s) value e f g h = refl
widths_same sort node sort' node' r x y z (body.Ones s) value e f g h = refl
widths_same sort node sort' node' r x y z (body.Const s d v) value e f g h = refl
widths_same sort node sort' node' r x y z (body.Constd s v) value e f g h = refl
widths_same sort node sort' node' r x y z (body.Consth s d v) value e f g h = refl
widths_same sort node sort' node' r x y z (body.Uext s a by) value e f g h = ap₂ (λ (m n : ℕ). eqb m (n + by)) e f
widths_same sort node sort' node' r x y z (body.Sext s a by) value e f g h = ap₂ (λ (m n : ℕ). eqb m (n + by)) e f
widths_same sort node sort' node' r x y z (body.Slice s a u l) value e f g h = ap (λ (m : ℕ). eqb m (u - l + 1)) e
widths_same sort node sort' node' r x y z (body.Unary op s a) value e f g h = ap₂ (λ (m n : ℕ). eqb m (unary_width op n)) e f
widths_same sort node sort' node' r x y z (body.Binary op s a b) value e f g h =
    ap₂ (λ (m n : ℕ). (eqb n (node b)) && ((not (is_of_bits op) || (eqb n 1)) && (eqb m (binary_width op n)))) e f
    ∙ ap (λ (k : ℕ). (eqb (node' x) k) && ((not (is_of_bits op) || (eqb (node' x) 1)) && (eqb (sort' r) (binary_width op (node' x))))) g
widths_same sort node sort' node' r x y z (body.Concat s a b) value e f g h = ap₂ (λ (m n : ℕ). eqb m (n + node b)) e f ∙ ap (λ (k : ℕ). eqb (sort' r) (node' x + k)) g
widths_same sort node sort' node' r x y z (body.Ite s c t u) value e f g h =
    ap₂ (λ (m n : ℕ). (eqb n 1) && ((eqb m (node t)) && (eqb m (node u)))) e f
    ∙ ap₂ (λ (j k : ℕ). (eqb (node' x) 1) && ((eqb (sort' r) j) && (eqb (sort' r) k))) g h
widths_same sort node sort' node' r x y z _ value e f g h = absurd (cc)

-- a form over other operands gives the same word
pub word_same : (r x y z : ℕ) (b : Body) → is_value b ≡ true → (n : ℕ) (width word : ℕ → ℕ) → word_by n width word (renamed r x y z b) ≡ word_by n width word b
word_same r x y z (body.Zero s) value n width word = refl
word_same r x y z (body.One s) value n width word = refl
word_same r x y z (body.Ones s) value n width word = refl
word_same r x y z (body.Const s d v) value n width word = refl
word_same r x y z (body.Constd s v) value n width word = refl
word_same r x y z (body.Consth s d v) value n width word = refl
word_same r x y z (body.Uext s a by) value n width word = refl
word_same r x y z (body.Sext s a by) value n width word = refl
word_same r x y z (body.Slice s a u l) value n width word = refl
word_same r x y z (body.Unary op s a) value n width word = refl
word_same r x y z (body.Binary op s a b) value n width word = refl
word_same r x y z (body.Concat s a b) value n width word = refl
word_same r x y z (body.Ite s c t u) value n width word = refl
word_same r x y z _ value n width word = absurd (cc)

-- it is a node of its sort, no leaf, and as a constant the same
pub record IsForm (r : ℕ) (b c : Body) : Type 0 where
  pub value : is_value c ≡ true
  pub sort : node_sort c ≡ Some r
  pub named : named_sort c ≡ Some r
  pub input : is_input c ≡ false
  pub state : is_state c ≡ false
  pub constant : (n : ℕ) → constant_word n c ≡ constant_word n b
  pub fits : (n : ℕ) → constant_fits_within greatest_width n c ≡ constant_fits_within greatest_width n b

pub renamed_form : (r x y z : ℕ) (b : Body) → is_value b ≡ true → IsForm r b (renamed r x y z b)
renamed_form r x y z (body.Zero s) value = record { value = refl; sort = refl; named = refl; input = refl; state = refl; constant = λ n. refl; fits = λ n. refl }
renamed_form r x y z (body.One s) value = record { value = refl; sort = refl; named = refl; input = refl; state = refl; constant = λ n. refl; fits = λ n. refl }
renamed_form r x y z (body.Ones s) value = record { value = refl; sort = refl; named = refl; input = refl; state = refl; constant = λ n. refl; fits = λ n. refl }
renamed_form r x y z (body.Const s d v) value = record { value = refl; sort = refl; named = refl; input = refl; state = refl; constant = λ n. refl; fits = λ n. refl }
renamed_form r x y z (body.Constd s v) value = record { value = refl; sort = refl; named = refl; input = refl; state = refl; constant = λ n. refl; fits = λ n. refl }
renamed_form r x y z (body.Consth s d v) value = record { value = refl; sort = refl; named = refl; input = refl; state = refl; constant = λ n. refl; fits = λ n. refl }
renamed_form r x y z (body.Uext s a by) value = record { value = refl; sort = refl; named = refl; input = refl; state = refl; constant = λ n. refl; fits = λ n. refl }
renamed_form r x y z (body.Sext s a by) value = record { value = refl; sort = refl; named = refl; input = refl; state = refl; constant = λ n. refl; fits = λ n. refl }
renamed_form r x y z (body.Slice s a u l) value = record { value = refl; sort = refl; named = refl; input = refl; state = refl; constant = λ n. refl; fits = λ n. refl }
renamed_form r x y z (body.Unary op s a) value = record { value = refl; sort = refl; named = refl; input = refl; state = refl; constant = λ n. refl; fits = λ n. refl }
renamed_form r x y z (body.Binary op s a b) value = record { value = refl; sort = refl; named = refl; input = refl; state = refl; constant = λ n. refl; fits = λ n. refl }
renamed_form r x y z (body.Concat s a b) value = record { value = refl; sort = refl; named = refl; input = refl; state = refl; constant = λ n. refl; fits = λ n. refl }
renamed_form r x y z (body.Ite s c t u) value = record { value = refl; sort = refl; named = refl; input = refl; state = refl; constant = λ n. refl; fits = λ n. refl }
renamed_form r x y z _ value = absurd (cc)

-- something holds of the operands of a renamed form
pub renamed_operands : (P : ℕ → Type 0) (r x y z : ℕ) (b : Body) → is_value b ≡ true → AtPlace (operands b) 0 (λ a. P x) → AtPlace (operands b) 1 (λ a. P y) → AtPlace (operands b) 2 (λ a. P z)
    → AllByRecursion P (operands (renamed r x y z b))
renamed_operands P r x y z (body.Zero s) value f g h = tt
renamed_operands P r x y z (body.One s) value f g h = tt
renamed_operands P r x y z (body.Ones s) value f g h = tt
renamed_operands P r x y z (body.Const s d v) value f g h = tt
renamed_operands P r x y z (body.Constd s v) value f g h = tt
renamed_operands P r x y z (body.Consth s d v) value f g h = tt
renamed_operands P r x y z (body.Uext s a by) value f g h = (f, tt)
renamed_operands P r x y z (body.Sext s a by) value f g h = (f, tt)
renamed_operands P r x y z (body.Slice s a u l) value f g h = (f, tt)
renamed_operands P r x y z (body.Unary op s a) value f g h = (f, tt)
renamed_operands P r x y z (body.Binary op s a b) value f g h = (f, (g, tt))
renamed_operands P r x y z (body.Concat s a b) value f g h = (f, (g, tt))
renamed_operands P r x y z (body.Ite s c t u) value f g h = (f, (g, (h, tt)))
renamed_operands P r x y z _ value f g h = absurd (cc)

-- and of them beside those of the line
zip_step : (P : Operand → ℕ → Type 0) (a x : ℕ) (rest rest' : List ℕ) (minuses : List Bool) → P (operand a (minus_at minuses 0)) x → AllZip P (with_minuses rest (drop 1 minuses)) rest'
    → AllZip P (with_minuses (a ∷ rest) minuses) (x ∷ rest')
zip_step P a x rest rest' [] h k = (h, k)
zip_step P a x rest rest' (m ∷ minuses) h k = (h, k)

minus_behind : (minuses : List Bool) (k : ℕ) → minus_at (drop 1 minuses) k ≡ minus_at minuses (suc k)
minus_behind [] k = refl
minus_behind (m ∷ minuses) k = refl

one_zip : (P : Operand → ℕ → Type 0) (a x : ℕ) (minuses : List Bool) → P (operand a (minus_at minuses 0)) x → AllZip P (with_minuses (a ∷ []) minuses) (x ∷ [])
one_zip P a x minuses h = zip_step P a x [] [] minuses h tt

two_zip : (P : Operand → ℕ → Type 0) (a b x y : ℕ) (minuses : List Bool) → P (operand a (minus_at minuses 0)) x → P (operand b (minus_at minuses 1)) y → AllZip P (with_minuses (a ∷ b ∷ []) minuses) (x ∷ y ∷ [])
two_zip P a b x y minuses h k = zip_step P a x (b ∷ []) (y ∷ []) minuses h (one_zip P b y (drop 1 minuses) (subst (λ (m : Bool). P (operand b m) y) (sym (minus_behind minuses 0)) k))

three_zip : (P : Operand → ℕ → Type 0) (a b c x y z : ℕ) (minuses : List Bool) → P (operand a (minus_at minuses 0)) x → P (operand b (minus_at minuses 1)) y → P (operand c (minus_at minuses 2)) z
    → AllZip P (with_minuses (a ∷ b ∷ c ∷ []) minuses) (x ∷ y ∷ z ∷ [])
three_zip P a b c x y z minuses h k l =
    zip_step P a x (b ∷ c ∷ []) (y ∷ z ∷ []) minuses h
    (two_zip P b c y z (drop 1 minuses) (subst (λ (m : Bool). P (operand b m) y) (sym (minus_behind minuses 0)) k) (subst (λ (m : Bool). P (operand c m) z) (sym (minus_behind minuses 1)) l))

pub renamed_zip : (P : Operand → ℕ → Type 0) (r x y z : ℕ) (b : Body) (minuses : List Bool) → is_value b ≡ true
    → AtPlace (operands b) 0 (λ a. P (operand a (minus_at minuses 0)) x) → AtPlace (operands b) 1 (λ a. P (operand a (minus_at minuses 1)) y) → AtPlace (operands b) 2 (λ a. P (operand a (minus_at minuses 2)) z)
    → AllZip P (with_minuses (operands b) minuses) (operands (renamed r x y z b))
renamed_zip P r x y z (body.Zero s) minuses value f g h = tt
renamed_zip P r x y z (body.One s) minuses value f g h = tt
renamed_zip P r x y z (body.Ones s) minuses value f g h = tt
renamed_zip P r x y z (body.Const s d v) minuses value f g h = tt
renamed_zip P r x y z (body.Constd s v) minuses value f g h = tt
renamed_zip P r x y z (body.Consth s d v) minuses value f g h = tt
renamed_zip P r x y z (body.Uext s a by) minuses value f g h = one_zip P a x minuses f
renamed_zip P r x y z (body.Sext s a by) minuses value f g h = one_zip P a x minuses f
renamed_zip P r x y z (body.Slice s a u l) minuses value f g h = one_zip P a x minuses f
renamed_zip P r x y z (body.Unary op s a) minuses value f g h = one_zip P a x minuses f
renamed_zip P r x y z (body.Binary op s a b) minuses value f g h = two_zip P a b x y minuses f g
renamed_zip P r x y z (body.Concat s a b) minuses value f g h = two_zip P a b x y minuses f g
renamed_zip P r x y z (body.Ite s c t u) minuses value f g h = three_zip P c t u x y z minuses f g h
renamed_zip P r x y z _ minuses value f g h = absurd (cc)
