-- What a line that can be fitted asks of the words that it names, and what the words that its operator gives for them are.
use Rattle.std.proofs.Common.{◌≡◌, ℕ, ◌+◌, ◌^◌, ◌<◌, ◌≤◌, Bool, true, false, not, ◌&&◌, ◌||◌, ◌==◌, nat_le, nat_lt, leb-true, ltb-true, eqb-true, List, [], ◌∷◌, ◌++◌, Option, Some, None, is_some, is_none, unwrap_or, refl, sym, ap, ap₂, subst, ◌∙◌, arith}
use Rattle.std.specs.List.{AllByRecursion}
use Rattle.std.proofs.lemmas.Bool.{and_parts}
use Rattle.base.specs.Widths.{unary_width, binary_width, is_of_bits}
use Rattle.base.specs.Operator.{unary_value, binary_value, sext_value, concat_value}
use Rattle.btor2.specs.declared.item.Item.{Item}
use Rattle.btor2.specs.declared.item.Body.{Body}
use Rattle.btor2.specs.declared.item.Body.TheVariants as body
use Rattle.btor2.specs.Items.{find_item, node_width, node_sort, sort_width, width_of_body, operands}
use Rattle.btor2.specs.Check.{sort_is_missing, slice_is_out_of_range, widths_agree, widths_differ}
use Rattle.btor2.specs.Trace.{Frame, bits_of, line_word}
use Rattle.btor2.proofs.AppendLemmas.{then_parts, some_of}
use Rattle.fit.proofs.FrameLemmas.{operands_there}
use Rattle.pieces.specs.declared.node.Node.{Node}
use Rattle.pieces.specs.Nodes.{word_of, bits_in, MakesWord}
use Rattle.pieces.specs.Cuts.{widths, IsCut, IsWord}
use Rattle.fitting.specs.Forms.{is_operator, IsReady, form_width, form_value}
use Rattle.fitting.specs.Fitted.{Table, most_bits, words_in, IsSoundLine, IsWordOfLine, LineStands, IsFitted}
use Rattle.fitting.proofs.AssemblyLemmas.{nodes_of_word}
use Rattle.fitting.proofs.ValueLemmas.{sort_kept, bits_on}

not_false : (b : Bool) → not b ≡ false → b ≡ true
not_false true h = refl
not_false false h = absurd (cc)

either_true : (b c : Bool) → (not b || c) ≡ true → b ≡ true → c ≡ true
either_true true c h is = h
either_true false c h is = absurd (cc)

here : (o : Option ℕ) → is_none o ≡ false → o ≡ Some (unwrap_or o 0)
here None h = absurd (cc)
here (Some n) h = refl

-- a node has as many bits as a sort, and so at most the greatest number
node_most : (wide : List Item) (table : Table) (narrow : List Item) (a n : ℕ) → AllByRecursion (LineStands wide table narrow) wide → node_width wide a ≡ Some n → n ≤ most_bits
node_most wide table narrow a n stand h =
    let parts = then_parts (λ (x : Item). width_of_body wide x.body) (find_item wide a) n h in
    let sort = then_parts (sort_width wide) (node_sort parts.0.body) n parts.2 in
    (sort_kept wide table narrow sort.0 n stand sort.2).1.1

-- an operand: its word, and its width
pub record Operand (wide : List Item) (x : Item) (table : Table) (narrow : List Item) (a : ℕ) : Type 0 where
  pub word : IsWord narrow (table.words a)
  pub bits : unwrap_or (node_width wide a) 0 ≡ bits_in (table.words a)
  pub next : bits_of (wide ++ x ∷ []) a ≡ bits_in (table.words a)
  pub most : bits_in (table.words a) ≤ most_bits

pub operand : (wide : List Item) (x : Item) (table : Table) (narrow : List Item) (a : ℕ) → AllByRecursion (LineStands wide table narrow) wide → is_some (node_width wide a) ≡ true → Operand wide x table narrow a
operand wide x table narrow a stand there =
    let width = some_of (node_width wide a) there in
    let word = nodes_of_word wide table narrow a width.0 stand width.1 in
    let bits : unwrap_or (node_width wide a) 0 ≡ bits_in (table.words a) = ap (λ (o : Option ℕ). unwrap_or o 0) width.1 ∙ sym word.1 in
    record { word = word.0; bits = bits; next = bits_on wide (x ∷ []) a there ∙ bits; most = subst (λ (n : ℕ). n ≤ most_bits) (sym word.1) (node_most wide table narrow a width.0 stand width.1) }

-- a sort that is named
pub sort_there : (wide : List Item) (s : ℕ) → is_none (sort_width wide s) ≡ false → sort_width wide s ≡ Some (unwrap_or (sort_width wide s) 0)
sort_there wide s h = here (sort_width wide s) h

pub agree : (wide : List Item) (b : Body) → widths_differ wide b ≡ false → widths_agree (λ s. unwrap_or (sort_width wide s) 0) (λ a. unwrap_or (node_width wide a) 0) b ≡ true
unfolding widths_differ
agree wide b h = not_false _ h

-- what stands of a line of an operator
pub record Fits (wide : List Item) (x : Item) (table : Table) (narrow : List Item) (b : Body) : Type 0 where
  pub ready : IsReady narrow table.words b
  pub sort : ℕ
  pub names : node_sort b ≡ Some sort
  pub wide_sort : sort_width wide sort ≡ Some (form_width table.words b)
  pub says : (state input g : Frame) → line_word (wide ++ x ∷ []) state input (words_in table.words g) x.id b ≡ Some (form_value table.words b g)

fits_by : (wide : List Item) (x : Item) (table : Table) (narrow : List Item) (b : Body) → IsFitted wide table narrow → is_operator b ≡ true → AllByRecursion (λ a. is_some (node_width wide a) ≡ true) (operands b)
    → sort_is_missing wide b ≡ false → slice_is_out_of_range wide b ≡ false → widths_agree (λ s. unwrap_or (sort_width wide s) 0) (λ a. unwrap_or (node_width wide a) 0) b ≡ true → Fits wide x table narrow b
unfolding sort_is_missing slice_is_out_of_range
fits_by wide x table narrow (body.Uext s a by) h is named sort slice agree =
    let in_a = operand wide x table narrow a h.stand named.0 in
    let own = sort_there wide s sort in
    let wide_sort : sort_width wide s ≡ Some (bits_in (table.words a) + by) = own ∙ ap (λ (n : ℕ). Some n) (eqb-true _ _ agree ∙ ap (λ (n : ℕ). n + by) in_a.bits) in
    let most = (sort_kept wide table narrow s (bits_in (table.words a) + by) h.stand wide_sort).1.1 in
    record { ready = (in_a.word, omega (arith, most)); sort = s; names = refl; wide_sort = wide_sort; says = λ state input g. refl }
fits_by wide x table narrow (body.Sext s a by) h is named sort slice agree =
    let in_a = operand wide x table narrow a h.stand named.0 in
    let own = sort_there wide s sort in
    let wide_sort : sort_width wide s ≡ Some (bits_in (table.words a) + by) = own ∙ ap (λ (n : ℕ). Some n) (eqb-true _ _ agree ∙ ap (λ (n : ℕ). n + by) in_a.bits) in
    let most = (sort_kept wide table narrow s (bits_in (table.words a) + by) h.stand wide_sort).1.1 in
    record { ready = (in_a.word, omega (arith, most)); sort = s; names = refl; wide_sort = wide_sort; says = λ state input g. ap (λ (n : ℕ). Some (sext_value n (word_of g (table.words a)) by)) in_a.next }
fits_by wide x table narrow (body.Slice s a u l) h is named sort slice agree =
    let in_a = operand wide x table narrow a h.stand named.0 in
    let both = and_parts (nat_le l u) (nat_lt u (unwrap_or (node_width wide a) 0)) (not_false _ slice) in
    record {
      ready = (in_a.word, (leb-true l u both.0, subst (λ (n : ℕ). u < n) in_a.bits (ltb-true u (unwrap_or (node_width wide a) 0) both.1)));
      sort = s;
      names = refl;
      wide_sort = sort_there wide s sort ∙ ap (λ (n : ℕ). Some n) (eqb-true _ _ agree);
      says = λ state input g. refl;
    }
fits_by wide x table narrow (body.Unary op s a) h is named sort slice agree =
    let in_a = operand wide x table narrow a h.stand named.0 in
    record {
      ready = in_a.word;
      sort = s;
      names = refl;
      wide_sort = sort_there wide s sort ∙ ap (λ (n : ℕ). Some n) (eqb-true _ _ agree ∙ ap (unary_width op) in_a.bits);
      says = λ state input g. ap (λ (n : ℕ). Some (unary_value op n (word_of g (table.words a)))) in_a.next;
    }
fits_by wide x table narrow (body.Binary op s a b) h is named sort slice agree =
    let in_a = operand wide x table narrow a h.stand named.0 in
    let in_b = operand wide x table narrow b h.stand named.1.0 in
    let node : ℕ → ℕ = λ k. unwrap_or (node_width wide k) 0 in
    let parts = and_parts (node a == node b) ((not (is_of_bits op) || (node a == 1)) && (unwrap_or (sort_width wide s) 0 == binary_width op (node a))) agree in
    let more = and_parts (not (is_of_bits op) || (node a == 1)) (unwrap_or (sort_width wide s) 0 == binary_width op (node a)) parts.1 in
    let few : bits_in (table.words a) < 2 ^ 61 = (let most = in_a.most in omega (arith, most)) in
    record {
      ready = (in_a.word, (in_b.word, (sym in_a.bits ∙ eqb-true _ _ parts.0 ∙ in_b.bits, (λ bits. sym in_a.bits ∙ eqb-true _ _ (either_true (is_of_bits op) (node a == 1) more.0 bits), few))));
      sort = s;
      names = refl;
      wide_sort = sort_there wide s sort ∙ ap (λ (n : ℕ). Some n) (eqb-true _ _ more.1 ∙ ap (binary_width op) in_a.bits);
      says = λ state input g. ap (λ (n : ℕ). Some (binary_value op n (word_of g (table.words a)) (word_of g (table.words b)))) in_a.next;
    }
fits_by wide x table narrow (body.Concat s a b) h is named sort slice agree =
    let in_a = operand wide x table narrow a h.stand named.0 in
    let in_b = operand wide x table narrow b h.stand named.1.0 in
    let wide_sort : sort_width wide s ≡ Some (bits_in (table.words a) + bits_in (table.words b)) = sort_there wide s sort ∙ ap (λ (n : ℕ). Some n) (eqb-true _ _ agree ∙ ap₂ (λ (n m : ℕ). n + m) in_a.bits in_b.bits) in
    let most = (sort_kept wide table narrow s (bits_in (table.words a) + bits_in (table.words b)) h.stand wide_sort).1.1 in
    record {
      ready = (in_a.word, (in_b.word, omega (arith, most)));
      sort = s;
      names = refl;
      wide_sort = wide_sort;
      says = λ state input g. ap (λ (n : ℕ). Some (concat_value (word_of g (table.words a)) n (word_of g (table.words b)))) in_b.next;
    }
fits_by wide x table narrow (body.Ite s c t e) h is named sort slice agree =
    let in_c = operand wide x table narrow c h.stand named.0 in
    let in_t = operand wide x table narrow t h.stand named.1.0 in
    let in_e = operand wide x table narrow e h.stand named.1.1.0 in
    let node : ℕ → ℕ = λ k. unwrap_or (node_width wide k) 0 in
    let parts = and_parts (node c == 1) ((unwrap_or (sort_width wide s) 0 == node t) && (unwrap_or (sort_width wide s) 0 == node e)) agree in
    let more = and_parts (unwrap_or (sort_width wide s) 0 == node t) (unwrap_or (sort_width wide s) 0 == node e) parts.1 in
    record {
      ready = (in_c.word, (in_t.word, (in_e.word, (sym in_c.bits ∙ eqb-true _ _ parts.0, sym in_t.bits ∙ sym (eqb-true _ _ more.0) ∙ eqb-true _ _ more.1 ∙ in_e.bits))));
      sort = s;
      names = refl;
      wide_sort = sort_there wide s sort ∙ ap (λ (n : ℕ). Some n) (eqb-true _ _ more.0 ∙ in_t.bits);
      says = λ state input g. refl;
    }
fits_by wide x table narrow _ h is named sort slice agree = absurd (cc)

pub line_fits : (wide : List Item) (x : Item) (table : Table) (narrow : List Item) → IsFitted wide table narrow → IsSoundLine wide x → is_operator x.body ≡ true → Fits wide x table narrow x.body
line_fits wide x table narrow h sound is = fits_by wide x table narrow x.body h is (operands_there wide x.body sound.operands) sound.sort sound.slice (agree wide x.body sound.widths)

pub operator_line : (wide : List Item) (x : Item) (table : Table) (narrow narrow' : List Item) (rs : List Node) → Fits wide x table narrow x.body → MakesWord narrow' (form_width table.words x.body) (form_value table.words x.body) rs → IsCut 64 (widths rs)
    → IsWordOfLine wide table.words narrow' x rs
operator_line wide x table narrow narrow' rs fits makes cut =
    record { bits = form_width table.words x.body; value = form_value table.words x.body; sort = fits.sort; names = fits.names; wide_sort = fits.wide_sort; makes = makes; cut = cut; says = fits.says }
