-- Nodes of a model that grows, and what their lines say.
use Rattle.std.proofs.Common.{◌≡◌, ℕ, ◌+◌, ◌-◌, ◌/◌, ◌%◌, ◌^◌, ◌<◌, ◌≤◌, true, false, true≢false, le-leb, lt-ltb, eq-eqb, List, [], ◌∷◌, ◌++◌, Option, Some, None, Result, Ok, Err, IfOk, IfErr, option_and_then, unwrap_or, append_assoc, append-nil, refl, sym, ap, subst, ◌∙◌}
use Rattle.std.specs.Option.{option_or}
use Rattle.std.proofs.lemmas.Option.{none-some}
use Rattle.base.specs.declared.operators.Unary.{Unary}
use Rattle.base.specs.declared.operators.Binary.{Binary}
use Rattle.base.specs.Widths.{unary_width, binary_width, is_of_bits}
use Rattle.base.specs.Operator.{unary_value, binary_value, ite_value, sext_value, concat_value}
use Rattle.btor2.specs.declared.item.Item.{Item}
use Rattle.btor2.specs.declared.item.Body.{Body}
use Rattle.btor2.specs.declared.item.Body.TheVariants as body
use Rattle.btor2.specs.Items.{find_item, node_width, node_sort, sort_width, sort_bits, width_of_body, names_state, constant_word, constant_of_body, constant_of, init_value, init_for, next_value, next_for}
use Rattle.btor2.specs.Check.{sort_is_missing, operand_is_missing, state_is_none, width_is_out_of_range, widths_differ, init_is_not_constant, is_second_init, is_second_next, slice_is_out_of_range, constant_does_not_fit, justice_is_empty}
use Rattle.btor2.specs.Trace.{Frame, bits_of, LineHolds, IsFrame, IsInput, IsState}
use Rattle.btor2.specs.Worked.{line}
use Rattle.btor2.proofs.AppendLemmas.{names_state-append, constant_of_body-append, constant_of-append, node_width-append, sort_width-append, width_of_body-append, find_item-append, find_item-after, is_some_from}
use Rattle.btor2.proofs.ModelLemmas.{find_item-own}
use Rattle.btor2.proofs.ConstantLemmas.{init_value-after}
use Rattle.wide.specs.WideModels.{greatest_width, IsWideModel}
use Rattle.full.proofs.PlainLaw.{wide_words_fit}
use Rattle.fit.specs.Gives.{InFrames}
use Rattle.fit.proofs.LineLemmas.{line_found}
use Rattle.pieces.specs.declared.node.Node.{Node}
use Rattle.pieces.specs.Kept.{IsSound}
use Rattle.pieces.specs.Lines.{ArePlain, is_plain, named, AddsSorted}
use Rattle.pieces.specs.Nodes.{Extends, IsNode, Makes}
use Rattle.pieces.specs.declared.shortage.Shortage.{Shortage}

-- ---- a list that goes on

plain_join : (xs ys : List Item) → ArePlain xs → ArePlain ys → ArePlain (xs ++ ys)
plain_join [] ys h k = k
plain_join (x ∷ xs) ys h k = (h.0, plain_join xs ys h.1 k)

pub extends_same : (items : List Item) → Extends items items
extends_same items = record { more = []; is = sym (append-nil items); plain = tt }

pub extends_twice : (a b c : List Item) → Extends a b → Extends b c → Extends a c
extends_twice a b c e d = record { more = e.more ++ d.more; is = d.is ∙ ap (λ (l : List Item). l ++ d.more) e.is ∙ append_assoc a e.more d.more; plain = plain_join e.more d.more e.plain d.plain }

pub node_kept : (old new : List Item) (a : Node) → Extends old new → IsNode old a → IsNode new a
node_kept old new a e h = ap (λ (l : List Item). node_width l a.id) e.is ∙ node_width-append old e.more a.id a.width h

pub sort_kept : (old new : List Item) (s n : ℕ) → Extends old new → sort_width old s ≡ Some n → sort_width new s ≡ Some n
sort_kept old new s n e h = ap (λ (l : List Item). sort_width l s) e.is ∙ sort_width-append old e.more s n h

-- what holds in frames holds also once the list goes on
pub later : (old new : List Item) (Says : Frame → Type 0) → Extends old new → InFrames old Says → InFrames new Says
later old new Says e h more state input g =
    let same : new ++ more ≡ old ++ (e.more ++ more) = ap (λ (l : List Item). l ++ more) e.is ∙ append_assoc old e.more more in
    subst (λ (l : List Item). IsWideModel greatest_width l → IsState l state → IsInput l input → IsFrame l state input g → Says g) (sym same) (h (e.more ++ more) state input g)

-- a node's word fits its width
pub word_fits : (items : List Item) (a : Node) → IsNode items a → InFrames items (λ g. g a.id < 2 ^ a.width)
word_fits items a h more state input g w states inputs frame =
    let there = node_width-append items more a.id a.width h in
    subst (λ (k : ℕ). g a.id < 2 ^ k) (ap (λ (o : Option ℕ). unwrap_or o 0) there) (wide_words_fit (items ++ more) state input g w states inputs frame a.id (is_some_from (node_width (items ++ more) a.id) a.width there))

-- ---- a line that was put

bits_later : (items more : List Item) (a : Node) → IsNode items a → bits_of (items ++ more) a.id ≡ a.width
bits_later items more a h = ap (λ (o : Option ℕ). unwrap_or o 0) (node_width-append items more a.id a.width h)

found_last : (mid : List Item) (id : ℕ) (b : Body) → find_item mid id ≡ None → find_item (mid ++ line id b ∷ []) id ≡ Some (line id b)
found_last mid id b fresh = find_item-after mid (line id b ∷ []) id fresh ∙ find_item-own (line id b) []

made : (mid new : List Item) (id n : ℕ) (b : Body) (value : Frame → ℕ) → new ≡ mid ++ line id b ∷ [] → find_item mid id ≡ None → width_of_body mid b ≡ Some n
    → ((more : List Item) (state input g : Frame) → LineHolds (mid ++ more) state input g id b → g id ≡ value g) → Makes new n value (record { id = id; width = n })
made mid new id n b value is fresh width says =
    record {
      node = ap (λ (l : List Item). node_width l id) is ∙ ap (λ (o : Option Item). by o) (found_last mid id b fresh) ∙ width_of_body-append mid (line id b ∷ []) b n width;
      wide = refl;
      word = λ more state input g w states inputs frame.
          let same : new ++ more ≡ (mid ++ line id b ∷ []) ++ more = ap (λ (l : List Item). l ++ more) is in
          let other : new ++ more ≡ mid ++ (line id b ∷ more) = same ∙ append_assoc mid (line id b ∷ []) more in
          let found : find_item (new ++ more) id ≡ Some (line id b) = ap (λ (l : List Item). find_item l id) same ∙ find_item-append (mid ++ line id b ∷ []) more id (line id b) (found_last mid id b fresh) in
          says (line id b ∷ more) state input g (subst (λ (l : List Item). LineHolds l state input g id b) other (line_found (new ++ more) state input g id (line id b) frame found));
    }
  where
    by : Option Item → Option ℕ
    by None = None
    by (Some x) = width_of_body (mid ++ line id b ∷ []) x.body

pub made_unary : (mid new : List Item) (op : Unary) (s id n : ℕ) (a : Node) → new ≡ mid ++ line id (body.Unary op s a.id) ∷ [] → find_item mid id ≡ None → n ≡ unary_width op a.width → sort_width mid s ≡ Some n → IsNode mid a
    → Makes new (unary_width op a.width) (λ g. unary_value op a.width (g a.id)) (record { id = id; width = n })
made_unary mid new op s id n a is fresh wide sort in_a =
    subst (λ (k : ℕ). Makes new k (λ g. unary_value op a.width (g a.id)) (record { id = id; width = n })) wide
    (made mid new id n (body.Unary op s a.id) (λ g. unary_value op a.width (g a.id)) is fresh sort (λ more state input g h. h ∙ ap (λ (k : ℕ). unary_value op k (g a.id)) (bits_later mid more a in_a)))

pub made_binary : (mid new : List Item) (op : Binary) (s id n : ℕ) (a b : Node) → new ≡ mid ++ line id (body.Binary op s a.id b.id) ∷ [] → find_item mid id ≡ None → n ≡ binary_width op a.width → sort_width mid s ≡ Some n → IsNode mid a
    → Makes new (binary_width op a.width) (λ g. binary_value op a.width (g a.id) (g b.id)) (record { id = id; width = n })
made_binary mid new op s id n a b is fresh wide sort in_a =
    subst (λ (k : ℕ). Makes new k (λ g. binary_value op a.width (g a.id) (g b.id)) (record { id = id; width = n })) wide
    (made mid new id n (body.Binary op s a.id b.id) (λ g. binary_value op a.width (g a.id) (g b.id)) is fresh sort (λ more state input g h. h ∙ ap (λ (k : ℕ). binary_value op k (g a.id) (g b.id)) (bits_later mid more a in_a)))

pub made_concat : (mid new : List Item) (s id : ℕ) (a b : Node) → new ≡ mid ++ line id (body.Concat s a.id b.id) ∷ [] → find_item mid id ≡ None → sort_width mid s ≡ Some (a.width + b.width) → IsNode mid b
    → Makes new (a.width + b.width) (λ g. concat_value (g a.id) b.width (g b.id)) (record { id = id; width = a.width + b.width })
made_concat mid new s id a b is fresh sort in_b =
    made mid new id (a.width + b.width) (body.Concat s a.id b.id) (λ g. concat_value (g a.id) b.width (g b.id)) is fresh sort (λ more state input g h. h ∙ ap (λ (k : ℕ). concat_value (g a.id) k (g b.id)) (bits_later mid more b in_b))

pub made_slice : (mid new : List Item) (s id l u n : ℕ) (a : Node) → new ≡ mid ++ line id (body.Slice s a.id u l) ∷ [] → find_item mid id ≡ None → sort_width mid s ≡ Some n → u - l + 1 ≡ n
    → Makes new n (λ g. g a.id / 2 ^ l % 2 ^ n) (record { id = id; width = n })
made_slice mid new s id l u n a is fresh sort wide =
    made mid new id n (body.Slice s a.id u l) (λ g. g a.id / 2 ^ l % 2 ^ n) is fresh sort (λ more state input g h. h ∙ ap (λ (k : ℕ). g a.id / 2 ^ l % 2 ^ k) wide)

pub made_uext : (mid new : List Item) (s id by n : ℕ) (a : Node) → new ≡ mid ++ line id (body.Uext s a.id by) ∷ [] → find_item mid id ≡ None → sort_width mid s ≡ Some n → Makes new n (λ g. g a.id) (record { id = id; width = n })
made_uext mid new s id by n a is fresh sort = made mid new id n (body.Uext s a.id by) (λ g. g a.id) is fresh sort (λ more state input g h. h)

pub made_sext : (mid new : List Item) (s id by n : ℕ) (a : Node) → new ≡ mid ++ line id (body.Sext s a.id by) ∷ [] → find_item mid id ≡ None → sort_width mid s ≡ Some n → IsNode mid a
    → Makes new n (λ g. sext_value a.width (g a.id) by) (record { id = id; width = n })
made_sext mid new s id by n a is fresh sort in_a =
    made mid new id n (body.Sext s a.id by) (λ g. sext_value a.width (g a.id) by) is fresh sort (λ more state input g h. h ∙ ap (λ (k : ℕ). sext_value k (g a.id) by) (bits_later mid more a in_a))

pub made_ite : (mid new : List Item) (s id : ℕ) (c t e : Node) → new ≡ mid ++ line id (body.Ite s c.id t.id e.id) ∷ [] → find_item mid id ≡ None → sort_width mid s ≡ Some t.width
    → Makes new t.width (λ g. ite_value (g c.id) (g t.id) (g e.id)) (record { id = id; width = t.width })
made_ite mid new s id c t e is fresh sort = made mid new id t.width (body.Ite s c.id t.id e.id) (λ g. ite_value (g c.id) (g t.id) (g e.id)) is fresh sort (λ more state input g h. h)

pub made_zero : (mid new : List Item) (s id n : ℕ) → new ≡ mid ++ line id (body.Zero s) ∷ [] → find_item mid id ≡ None → sort_width mid s ≡ Some n → Makes new n (λ g. 0) (record { id = id; width = n })
made_zero mid new s id n is fresh sort = made mid new id n (body.Zero s) (λ g. 0) is fresh sort (λ more state input g h. h)

pub made_one : (mid new : List Item) (s id n : ℕ) → new ≡ mid ++ line id (body.One s) ∷ [] → find_item mid id ≡ None → sort_width mid s ≡ Some n → Makes new n (λ g. 1) (record { id = id; width = n })
made_one mid new s id n is fresh sort = made mid new id n (body.One s) (λ g. 1) is fresh sort (λ more state input g h. h)

pub made_constant : (mid new : List Item) (s id n d v : ℕ) → new ≡ mid ++ line id (body.Const s d v) ∷ [] → find_item mid id ≡ None → sort_width mid s ≡ Some n → Makes new n (λ g. v) (record { id = id; width = n })
made_constant mid new s id n d v is fresh sort = made mid new id n (body.Const s d v) (λ g. v) is fresh sort (λ more state input g h. h)

pub constant_put : (mid new : List Item) (s id n d v : ℕ) → new ≡ mid ++ line id (body.Const s d v) ∷ [] → find_item mid id ≡ None → sort_width mid s ≡ Some n → constant_of new id ≡ Some v
constant_put mid new s id n d v is fresh sort =
    ap (λ (l : List Item). constant_of l id) is ∙ ap (λ (o : Option Item). by o) (found_last mid id (body.Const s d v) fresh) ∙ constant_of_body-append mid (line id (body.Const s d v) ∷ []) (body.Const s d v) v own
  where
    by : Option Item → Option ℕ
    by None = None
    by (Some x) = constant_of_body (mid ++ line id (body.Const s d v) ∷ []) x.body

    own : constant_of_body mid (body.Const s d v) ≡ Some v
    own = ap (λ (o : Option ℕ). option_and_then (λ w. constant_word w (body.Const s d v)) o) sort

-- a sort that was put
pub sort_put : (mid new : List Item) (id n : ℕ) → new ≡ mid ++ line id (body.Sort n) ∷ [] → find_item mid id ≡ None → sort_width new id ≡ Some n
sort_put mid new id n is fresh = ap (λ (l : List Item). sort_width l id) is ∙ ap (λ (o : Option Item). by o) (found_last mid id (body.Sort n) fresh)
  where
    by : Option Item → Option ℕ
    by None = None
    by (Some x) = sort_bits x.body

-- ---- lines that no row refuses

pub sound_sort : (items : List Item) (n : ℕ) → 1 ≤ n → n ≤ 64 → IsSound items (body.Sort n)
unfolding IsSound sort_is_missing operand_is_missing state_is_none width_is_out_of_range slice_is_out_of_range widths_differ constant_does_not_fit init_is_not_constant is_second_init is_second_next justice_is_empty
sound_sort items n least most = rw (le-leb 1 n least, le-leb n 64 most) refl

pub sound_unary : (items : List Item) (op : Unary) (s n : ℕ) (a : Node) → n ≡ unary_width op a.width → sort_width items s ≡ Some n → IsNode items a → IsSound items (body.Unary op s a.id)
unfolding IsSound sort_is_missing operand_is_missing state_is_none width_is_out_of_range slice_is_out_of_range widths_differ constant_does_not_fit init_is_not_constant is_second_init is_second_next justice_is_empty
sound_unary items op s n a wide sort in_a = rw (sort, in_a, eq-eqb n (unary_width op a.width) wide) refl

pub sound_binary : (items : List Item) (op : Binary) (s n : ℕ) (a b : Node) → is_of_bits op ≡ false → a.width ≡ b.width → n ≡ binary_width op a.width → sort_width items s ≡ Some n → IsNode items a → IsNode items b → IsSound items (body.Binary op s a.id b.id)
unfolding IsSound sort_is_missing operand_is_missing state_is_none width_is_out_of_range slice_is_out_of_range widths_differ constant_does_not_fit init_is_not_constant is_second_init is_second_next justice_is_empty
sound_binary items op s n a b words same wide sort in_a in_b = rw (sort, in_a, in_b, words, eq-eqb a.width b.width same, eq-eqb n (binary_width op a.width) wide) refl

pub sound_concat : (items : List Item) (s n : ℕ) (a b : Node) → n ≡ a.width + b.width → sort_width items s ≡ Some n → IsNode items a → IsNode items b → IsSound items (body.Concat s a.id b.id)
unfolding IsSound sort_is_missing operand_is_missing state_is_none width_is_out_of_range slice_is_out_of_range widths_differ constant_does_not_fit init_is_not_constant is_second_init is_second_next justice_is_empty
sound_concat items s n a b wide sort in_a in_b = rw (sort, in_a, in_b, eq-eqb n (a.width + b.width) wide) refl

pub sound_slice : (items : List Item) (s l u n : ℕ) (a : Node) → l ≤ u → u < a.width → n ≡ u - l + 1 → sort_width items s ≡ Some n → IsNode items a → IsSound items (body.Slice s a.id u l)
unfolding IsSound sort_is_missing operand_is_missing state_is_none width_is_out_of_range slice_is_out_of_range widths_differ constant_does_not_fit init_is_not_constant is_second_init is_second_next justice_is_empty
sound_slice items s l u n a order within wide sort in_a = rw (sort, in_a, le-leb l u order, lt-ltb u a.width within, eq-eqb n (u - l + 1) wide) refl

pub sound_uext : (items : List Item) (s by n : ℕ) (a : Node) → n ≡ a.width + by → sort_width items s ≡ Some n → IsNode items a → IsSound items (body.Uext s a.id by)
unfolding IsSound sort_is_missing operand_is_missing state_is_none width_is_out_of_range slice_is_out_of_range widths_differ constant_does_not_fit init_is_not_constant is_second_init is_second_next justice_is_empty
sound_uext items s by n a wide sort in_a = rw (sort, in_a, eq-eqb n (a.width + by) wide) refl

pub sound_sext : (items : List Item) (s by n : ℕ) (a : Node) → n ≡ a.width + by → sort_width items s ≡ Some n → IsNode items a → IsSound items (body.Sext s a.id by)
unfolding IsSound sort_is_missing operand_is_missing state_is_none width_is_out_of_range slice_is_out_of_range widths_differ constant_does_not_fit init_is_not_constant is_second_init is_second_next justice_is_empty
sound_sext items s by n a wide sort in_a = rw (sort, in_a, eq-eqb n (a.width + by) wide) refl

pub sound_ite : (items : List Item) (s : ℕ) (c t e : Node) → c.width ≡ 1 → t.width ≡ e.width → sort_width items s ≡ Some t.width → IsNode items c → IsNode items t → IsNode items e → IsSound items (body.Ite s c.id t.id e.id)
unfolding IsSound sort_is_missing operand_is_missing state_is_none width_is_out_of_range slice_is_out_of_range widths_differ constant_does_not_fit init_is_not_constant is_second_init is_second_next justice_is_empty
sound_ite items s c t e bit same sort in_c in_t in_e = rw (sort, in_c, in_t, in_e, eq-eqb c.width 1 bit, eq-eqb t.width t.width refl, eq-eqb t.width e.width same) refl

pub sound_zero : (items : List Item) (s n : ℕ) → sort_width items s ≡ Some n → IsSound items (body.Zero s)
unfolding IsSound sort_is_missing operand_is_missing state_is_none width_is_out_of_range slice_is_out_of_range widths_differ constant_does_not_fit init_is_not_constant is_second_init is_second_next justice_is_empty
sound_zero items s n sort = rw sort refl

pub sound_one : (items : List Item) (s n : ℕ) → sort_width items s ≡ Some n → IsSound items (body.One s)
unfolding IsSound sort_is_missing operand_is_missing state_is_none width_is_out_of_range slice_is_out_of_range widths_differ constant_does_not_fit init_is_not_constant is_second_init is_second_next justice_is_empty
sound_one items s n sort = rw sort refl

pub sound_constant : (items : List Item) (s n v : ℕ) → v < 2 ^ n → sort_width items s ≡ Some n → IsSound items (body.Const s n v)
unfolding IsSound sort_is_missing operand_is_missing state_is_none width_is_out_of_range slice_is_out_of_range widths_differ constant_does_not_fit init_is_not_constant is_second_init is_second_next justice_is_empty
sound_constant items s n v fits sort = rw (sort, eq-eqb n n refl, lt-ltb v (2 ^ n) fits) refl

pub sound_input : (items : List Item) (s n : ℕ) → sort_width items s ≡ Some n → IsSound items (body.Input s)
unfolding IsSound sort_is_missing operand_is_missing state_is_none width_is_out_of_range slice_is_out_of_range widths_differ constant_does_not_fit init_is_not_constant is_second_init is_second_next justice_is_empty
sound_input items s n sort = rw sort refl

pub sound_state : (items : List Item) (s n : ℕ) → sort_width items s ≡ Some n → IsSound items (body.State s)
unfolding IsSound sort_is_missing operand_is_missing state_is_none width_is_out_of_range slice_is_out_of_range widths_differ constant_does_not_fit init_is_not_constant is_second_init is_second_next justice_is_empty
sound_state items s n sort = rw sort refl

pub sound_init : (items : List Item) (s w : ℕ) (t v : Node) → t.width ≡ v.width → names_state items t.id ≡ true → constant_of items v.id ≡ Some w → init_value items t.id ≡ None → sort_width items s ≡ Some t.width → IsNode items t → IsNode items v
    → IsSound items (body.Init s t.id v.id)
unfolding IsSound sort_is_missing operand_is_missing state_is_none width_is_out_of_range slice_is_out_of_range widths_differ constant_does_not_fit init_is_not_constant is_second_init is_second_next justice_is_empty
sound_init items s w t v same is constant first sort in_t in_v = rw (is, constant, first, sort, in_t, in_v, eq-eqb t.width t.width refl, eq-eqb t.width v.width same) refl

pub sound_next : (items : List Item) (s : ℕ) (t v : Node) → t.width ≡ v.width → names_state items t.id ≡ true → next_value items t.id ≡ None → sort_width items s ≡ Some t.width → IsNode items t → IsNode items v
    → IsSound items (body.Next s t.id v.id)
unfolding IsSound sort_is_missing operand_is_missing state_is_none width_is_out_of_range slice_is_out_of_range widths_differ constant_does_not_fit init_is_not_constant is_second_init is_second_next justice_is_empty
sound_next items s t v same is first sort in_t in_v = rw (is, first, sort, in_t, in_v, eq-eqb t.width t.width refl, eq-eqb t.width v.width same) refl

pub sound_bad : (items : List Item) (a : Node) → a.width ≡ 1 → IsNode items a → IsSound items (body.Bad a.id)
unfolding IsSound sort_is_missing operand_is_missing state_is_none width_is_out_of_range slice_is_out_of_range widths_differ constant_does_not_fit init_is_not_constant is_second_init is_second_next justice_is_empty
sound_bad items a bit in_a = rw (in_a, eq-eqb a.width 1 bit) refl

pub sound_constraint : (items : List Item) (a : Node) → a.width ≡ 1 → IsNode items a → IsSound items (body.Constraint a.id)
unfolding IsSound sort_is_missing operand_is_missing state_is_none width_is_out_of_range slice_is_out_of_range widths_differ constant_does_not_fit init_is_not_constant is_second_init is_second_next justice_is_empty
sound_constraint items a bit in_a = rw (in_a, eq-eqb a.width 1 bit) refl

pub sound_output : (items : List Item) (a : Node) → IsNode items a → IsSound items (body.Output a.id)
unfolding IsSound sort_is_missing operand_is_missing state_is_none width_is_out_of_range slice_is_out_of_range widths_differ constant_does_not_fit init_is_not_constant is_second_init is_second_next justice_is_empty
sound_output items a in_a = rw in_a refl

-- ---- lines of a model

pub put_extends : (old new : List Item) (b : Body) (r : Result ℕ Shortage) → is_plain b ≡ true → IfOk r (λ id. (new ≡ old ++ line id b ∷ []) × (find_item old id ≡ None)) → IfErr r (λ e. new ≡ old) → Extends old new
put_extends old new b (Ok id) plain made none = record { more = line id b ∷ []; is = made.0; plain = (plain, tt) }
put_extends old new b (Err e) plain made none = subst (Extends old) (sym none) (extends_same old)

-- a line that names a sort, which was made where there was none
pub added_sorted : (old mid new : List Item) (id n s : ℕ) (symbol : Option (List ℕ)) (of : ℕ → Body) → Extends old mid → sort_width mid s ≡ Some n → new ≡ mid ++ named id symbol (of s) ∷ [] → AddsSorted old new id n symbol of
added_sorted old mid new id n s symbol of e sort is =
    record {
      sort = s;
      wide = ap (λ (l : List Item). sort_width l s) is ∙ sort_width-append mid (named id symbol (of s) ∷ []) s n sort;
      adds = record { more = e.more; plain = e.plain; is = is ∙ ap (λ (l : List Item). l ++ named id symbol (of s) ∷ []) e.is };
    }

-- a leaf
pub leaf_node : (mid new : List Item) (id n s : ℕ) (symbol : Option (List ℕ)) (b : Body) → node_sort b ≡ Some s → sort_width mid s ≡ Some n → find_item mid id ≡ None → new ≡ mid ++ named id symbol b ∷ [] → IsNode new (record { id = id; width = n })
leaf_node mid new id n s symbol b names sort fresh is =
    ap (λ (l : List Item). node_width l id) is ∙ ap (λ (o : Option Item). by o) found ∙ width_of_body-append mid (named id symbol b ∷ []) b n (ap (λ (o : Option ℕ). option_and_then (sort_width mid) o) names ∙ sort)
  where
    by : Option Item → Option ℕ
    by None = None
    by (Some x) = width_of_body (mid ++ named id symbol b ∷ []) x.body

    found : find_item (mid ++ named id symbol b ∷ []) id ≡ Some (named id symbol b)
    found = find_item-after mid (named id symbol b ∷ []) id fresh ∙ find_item-own (named id symbol b) []

-- what was said of a state stands where plain lines follow
plain_init : (id : ℕ) (b : Body) → is_plain b ≡ true → init_for id b ≡ None
plain_init id (body.Init s t v) h = absurd (true≢false (sym h))
plain_init id _ h = refl

plain_inits : (xs : List Item) (id : ℕ) → ArePlain xs → init_value xs id ≡ None
plain_inits [] id h = refl
plain_inits (x ∷ xs) id h = rw (plain_init id x.body h.0) (plain_inits xs id h.1)

plain_next : (id : ℕ) (b : Body) → is_plain b ≡ true → next_for id b ≡ None
plain_next id (body.Next s t v) h = absurd (true≢false (sym h))
plain_next id _ h = refl

plain_nexts : (xs : List Item) (id : ℕ) → ArePlain xs → next_value xs id ≡ None
plain_nexts [] id h = refl
plain_nexts (x ∷ xs) id h = rw (plain_next id x.body h.0) (plain_nexts xs id h.1)

next_value-after : (before more : List Item) (id : ℕ) → next_value before id ≡ None → next_value (before ++ more) id ≡ next_value more id
next_value-after [] more id h = refl
next_value-after (x ∷ xs) more id h = by (next_for id x.body) (next_value-after xs more id) h
  where
    by : (o : Option ℕ) → (next_value xs id ≡ None → next_value (xs ++ more) id ≡ next_value more id) → option_or o (next_value xs id) ≡ None → option_or o (next_value (xs ++ more) id) ≡ next_value more id
    by None rest e = rest e
    by (Some v) rest e = absurd (none-some v (sym e))

pub init_none : (old new : List Item) (id : ℕ) → Extends old new → init_value old id ≡ None → init_value new id ≡ None
init_none old new id e h = ap (λ (l : List Item). init_value l id) e.is ∙ init_value-after old e.more id h ∙ plain_inits e.more id e.plain

pub next_none : (old new : List Item) (id : ℕ) → Extends old new → next_value old id ≡ None → next_value new id ≡ None
next_none old new id e h = ap (λ (l : List Item). next_value l id) e.is ∙ next_value-after old e.more id h ∙ plain_nexts e.more id e.plain

pub state_kept : (old new : List Item) (id : ℕ) → Extends old new → names_state old id ≡ true → names_state new id ≡ true
state_kept old new id e h = ap (λ (l : List Item). names_state l id) e.is ∙ names_state-append old e.more id h

pub constant_kept : (old new : List Item) (id w : ℕ) → Extends old new → constant_of old id ≡ Some w → constant_of new id ≡ Some w
constant_kept old new id w e h = ap (λ (l : List Item). constant_of l id) e.is ∙ constant_of-append old e.more id w h

-- ---- what holds in frames, put together

pub in_frames : (items : List Item) (P R : Frame → Type 0) → InFrames items P → ((g : Frame) → P g → R g) → InFrames items R
in_frames items P R h f more state input g w states inputs frame = f g (h more state input g w states inputs frame)

pub both_frames : (items : List Item) (P Q R : Frame → Type 0) → InFrames items P → InFrames items Q → ((g : Frame) → P g → Q g → R g) → InFrames items R
both_frames items P Q R h k f more state input g w states inputs frame = f g (h more state input g w states inputs frame) (k more state input g w states inputs frame)

-- a node that makes one word makes another that is the same in each frame
pub makes_same : (items : List Item) (n m : ℕ) (value other : Frame → ℕ) (r : Node) → Makes items n value r → n ≡ m → InFrames items (λ g. value g ≡ other g) → Makes items m other r
makes_same items n m value other r h is same =
    record { node = h.node; wide = h.wide ∙ is; word = both_frames items (λ g. g r.id ≡ value g) (λ g. value g ≡ other g) (λ g. g r.id ≡ other g) h.word same (λ g i j. i ∙ j) }

pub makes_later : (old new : List Item) (n : ℕ) (value : Frame → ℕ) (r : Node) → Extends old new → Makes old n value r → Makes new n value r
makes_later old new n value r e h = record { node = node_kept old new r e h.node; wide = h.wide; word = later old new (λ g. g r.id ≡ value g) e h.word }
