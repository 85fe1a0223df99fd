-- What the lines of operators give.
use Rattle.std.proofs.Common.{◌≡◌, ℕ, ◌+◌, ◌<◌, true, false, List, [], ◌∷◌, ◌++◌, Option, Some, None, Result, Ok, Err, IfOk, is_some, unwrap_or, refl, sym, ap, subst, ◌∙◌, arith}
use Rattle.std.specs.List.{AllByRecursion}
use Rattle.base.specs.declared.operators.Unary.TheVariants as unary
use Rattle.base.specs.declared.operators.Binary.TheVariants as binary
use Rattle.base.specs.Operator.{ones, unary_value, binary_value, ite_value, slice_value, concat_value}
use Rattle.btor2.specs.declared.item.Item.{Item}
use Rattle.btor2.specs.declared.item.Body.{Body}
use Rattle.btor2.specs.declared.item.Body.TheVariants as body
use Rattle.btor2.specs.Items.{find_item, node_sort, operands, is_input, is_state, node_width, sort_width, width_of_body}
use Rattle.btor2.specs.Trace.{bits_of}
use Rattle.btor2.proofs.AppendLemmas.{node_width-append, some_of, is_some_from}
use Rattle.full.specs.Gives.{GivesWord, form_word}
use Rattle.full.proofs.GivesLemmas.{gives_same, line_gives}
use Rattle.full.proofs.ListLemmas.{all_with}
use Rattle.cells.specs.declared.shortage.Shortage.{Shortage}
use Rattle.cells.specs.Lines.{named, Extends}
use Rattle.cells.proofs.PlaceLemmas.{found_last, width_last}
use Rattle.cells.proofs.LineLemmas.{node_stays}

pub ok_with : {A E : Type 0} (P Q : A → Type 0) (r : Result A E) → ((x : A) → P x → Q x) → IfOk r P → IfOk r Q
ok_with P Q (Ok x) f h = f x h
ok_with P Q (Err e) f h = tt

abbrev pub Put : List Item → List Item → Body → ℕ → Type 0
Put mid new b id = (new ≡ mid ++ named id None b ∷ []) × (find_item mid id ≡ None)

there_later : (items more : List Item) (a : ℕ) → is_some (node_width items a) ≡ true → is_some (node_width (items ++ more) a) ≡ true
there_later items more a h = let width = some_of (node_width items a) h in is_some_from (node_width (items ++ more) a) width.0 (node_width-append items more a width.0 width.1)

pub bits_later : (items more : List Item) (a n : ℕ) → node_width items a ≡ Some n → bits_of (items ++ more) a ≡ n
bits_later items more a n h = ap (λ (o : Option ℕ). unwrap_or o 0) (node_width-append items more a n h)

-- a line that was put gives what its form says
pub line_put : (mid new : List Item) (id n : ℕ) (b : Body) → Put mid new b id → width_of_body mid b ≡ Some n → is_some (node_sort b) ≡ true → is_input b ≡ false → is_state b ≡ false
    → AllByRecursion (λ a. is_some (node_width mid a) ≡ true) (operands b) → GivesWord new n (λ g. form_word new n g b) id
line_put mid new id n b put width node no_input no_state nodes =
    let more = named id None b ∷ [] in
    subst (λ (l : List Item). GivesWord l n (λ g. form_word l n g b) id) (sym put.0)
    (line_gives (mid ++ more) (named id None b) n (found_last mid id None b put.1) (width_last mid id n None b put.1 width) node no_input no_state
    (all_with (λ a. is_some (node_width mid a) ≡ true) (λ a. is_some (node_width (mid ++ more) a) ≡ true) (operands b) (there_later mid more) nodes))

width_there : (items : List Item) (a n : ℕ) → node_width items a ≡ Some n → is_some (node_width items a) ≡ true
width_there items a n h = is_some_from (node_width items a) n h

bits_put : (mid new : List Item) (id a n : ℕ) (b : Body) → Put mid new b id → node_width mid a ≡ Some n → bits_of new a ≡ n
bits_put mid new id a n b put h = ap (λ (l : List Item). bits_of l a) put.0 ∙ bits_later mid (named id None b ∷ []) a n h

-- a node that has a bit stays
has_bits : (items : List Item) (a u : ℕ) → u < bits_of items a → (n : ℕ) × (node_width items a ≡ Some n) × (u < n)
has_bits items a u h = by (node_width items a) refl h
  where
    by : (o : Option ℕ) → node_width items a ≡ o → u < unwrap_or o 0 → (n : ℕ) × (node_width items a ≡ Some n) × (u < n)
    by None e k = absurd (omega (arith, k))
    by (Some n) e k = (n, e, k)

pub slice_there : (old new : List Item) (handed : List ℕ) (a u : ℕ) → Extends old new handed → u < bits_of old a → is_some (node_width new a) ≡ true
slice_there old new handed a u e h = let n = has_bits old a u h in is_some_from (node_width new a) n.0 (node_stays old new handed a n.0 e n.1)

pub slice_within : (old new : List Item) (handed : List ℕ) (a u : ℕ) → Extends old new handed → u < bits_of old a → u < bits_of new a
slice_within old new handed a u e h = let n = has_bits old a u h in subst (λ (k : ℕ). u < k) (sym (ap (λ (o : Option ℕ). unwrap_or o 0) (node_stays old new handed a n.0 e n.1))) n.2

-- ---- each operator

pub gives_slice : (mid new : List Item) (s a u l n : ℕ) (r : Result ℕ Shortage) → sort_width mid s ≡ Some n → is_some (node_width mid a) ≡ true → IfOk r (Put mid new (body.Slice s a u l)) → IfOk r (GivesWord new n (λ g. slice_value (g a) u l))
gives_slice mid new s a u l n r sort there put =
    ok_with (Put mid new (body.Slice s a u l)) (GivesWord new n (λ g. slice_value (g a) u l)) r (λ id h. line_put mid new id n (body.Slice s a u l) h sort refl refl refl (there, tt)) put

pub gives_concat : (mid new : List Item) (s a b m n : ℕ) (r : Result ℕ Shortage) → sort_width mid s ≡ Some (m + n) → node_width mid a ≡ Some m → node_width mid b ≡ Some n → IfOk r (Put mid new (body.Concat s a b))
    → IfOk r (GivesWord new (m + n) (λ g. concat_value (g a) n (g b)))
gives_concat mid new s a b m n r sort in_a in_b put =
    ok_with (Put mid new (body.Concat s a b)) (GivesWord new (m + n) (λ g. concat_value (g a) n (g b))) r
    (λ id h. gives_same new (m + n) (λ g. concat_value (g a) (bits_of new b) (g b)) (λ g. concat_value (g a) n (g b)) id
    (line_put mid new id (m + n) (body.Concat s a b) h sort refl refl refl (width_there mid a m in_a, (width_there mid b n in_b, tt)))
    (λ more wide state input g states inputs frame. ap (λ (k : ℕ). concat_value (g a) k (g b)) (bits_put mid new id b n (body.Concat s a b) h in_b))) put

pub gives_ite : (mid new : List Item) (s c t e n : ℕ) (r : Result ℕ Shortage) → sort_width mid s ≡ Some n → node_width mid c ≡ Some 1 → node_width mid t ≡ Some n → node_width mid e ≡ Some n → IfOk r (Put mid new (body.Ite s c t e))
    → IfOk r (GivesWord new n (λ g. ite_value (g c) (g t) (g e)))
gives_ite mid new s c t e n r sort in_c in_t in_e put =
    ok_with (Put mid new (body.Ite s c t e)) (GivesWord new n (λ g. ite_value (g c) (g t) (g e))) r
    (λ id h. line_put mid new id n (body.Ite s c t e) h sort refl refl refl (width_there mid c 1 in_c, (width_there mid t n in_t, (width_there mid e n in_e, tt)))) put

pub gives_not : (mid new : List Item) (s a n : ℕ) (r : Result ℕ Shortage) → sort_width mid s ≡ Some n → node_width mid a ≡ Some n → IfOk r (Put mid new (body.Unary unary.Not s a)) → IfOk r (GivesWord new n (λ g. unary_value unary.Not n (g a)))
gives_not mid new s a n r sort in_a put =
    ok_with (Put mid new (body.Unary unary.Not s a)) (GivesWord new n (λ g. unary_value unary.Not n (g a))) r
    (λ id h. gives_same new n (λ g. unary_value unary.Not (bits_of new a) (g a)) (λ g. unary_value unary.Not n (g a)) id
    (line_put mid new id n (body.Unary unary.Not s a) h sort refl refl refl (width_there mid a n in_a, tt))
    (λ more wide state input g states inputs frame. ap (λ (k : ℕ). unary_value unary.Not k (g a)) (bits_put mid new id a n (body.Unary unary.Not s a) h in_a))) put

pub gives_and : (mid new : List Item) (s a b n : ℕ) (r : Result ℕ Shortage) → sort_width mid s ≡ Some n → node_width mid a ≡ Some n → node_width mid b ≡ Some n → IfOk r (Put mid new (body.Binary binary.And s a b))
    → IfOk r (GivesWord new n (λ g. binary_value binary.And n (g a) (g b)))
gives_and mid new s a b n r sort in_a in_b put =
    ok_with (Put mid new (body.Binary binary.And s a b)) (GivesWord new n (λ g. binary_value binary.And n (g a) (g b))) r
    (λ id h. line_put mid new id n (body.Binary binary.And s a b) h sort refl refl refl (width_there mid a n in_a, (width_there mid b n in_b, tt))) put

pub gives_zero : (mid new : List Item) (s n : ℕ) (r : Result ℕ Shortage) → sort_width mid s ≡ Some n → IfOk r (Put mid new (body.Zero s)) → IfOk r (GivesWord new n (λ g. 0))
gives_zero mid new s n r sort put = ok_with (Put mid new (body.Zero s)) (GivesWord new n (λ g. 0)) r (λ id h. line_put mid new id n (body.Zero s) h sort refl refl refl tt) put

pub gives_one : (mid new : List Item) (s n : ℕ) (r : Result ℕ Shortage) → sort_width mid s ≡ Some n → IfOk r (Put mid new (body.One s)) → IfOk r (GivesWord new n (λ g. 1))
gives_one mid new s n r sort put = ok_with (Put mid new (body.One s)) (GivesWord new n (λ g. 1)) r (λ id h. line_put mid new id n (body.One s) h sort refl refl refl tt) put

pub gives_ones : (mid new : List Item) (s n : ℕ) (r : Result ℕ Shortage) → sort_width mid s ≡ Some n → IfOk r (Put mid new (body.Ones s)) → IfOk r (GivesWord new n (λ g. ones n))
gives_ones mid new s n r sort put = ok_with (Put mid new (body.Ones s)) (GivesWord new n (λ g. ones n)) r (λ id h. line_put mid new id n (body.Ones s) h sort refl refl refl tt) put
