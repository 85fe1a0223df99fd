-- What stands of a line that is added as it is.
use Rattle.std.proofs.Common.{◌≡◌, ℕ, ◌*◌, Bool, true, false, cond, List, [], ◌∷◌, ◌++◌, map, length, Option, Some, None, IfSome, is_some, is_none, unwrap_or, option_and_then, option_map, slice_get, refl, sym, ap, ap₂, subst, ◌∙◌, arith, inl, nat_eq, eq-eqb}
use Rattle.std.specs.List.{AllByRecursion, AllZip}
use Rattle.std.specs.Option.{option_or, option_map_or}
use Rattle.std.proofs.lemmas.Option.{none-some}
use Rattle.base.specs.Operator.{unary_value, binary_value, ite_value, slice_value, uext_value, sext_value, concat_value}
use Rattle.btor2.specs.declared.item.Item.{Item}
use Rattle.btor2.specs.declared.item.Body.{Body}
use Rattle.btor2.specs.declared.item.Body.TheVariants as body
use Rattle.btor2.specs.Items.{find_item, node_sort, named_sort, operands, sort_bits, sort_width, node_width, width_of_body, constant_word, constant_of_body, constant_of, names_state, is_input, is_state, init_value, init_word, next_value}
use Rattle.btor2.specs.Check.{sort_is_missing}
use Rattle.btor2.specs.Trace.{Frame, bits_of, line_word, IsFrame, IsInput, IsState}
use Rattle.btor2.proofs.AppendLemmas.{find_item-append, sort_width-append, constant_of-append, then_parts, some_of, is_some_from}
use Rattle.wide.specs.WideModels.{greatest_width, wide_refusal, IsWideModel}
use Rattle.wide.proofs.GrowLemmas.{tests_false}
use Rattle.full.proofs.ListLemmas.{all_with}
use Rattle.full.proofs.WideLemmas.{line_found, if_word}
use Rattle.fit.specs.Fitting.{joined, pieces_word, init_words, Carries, InitIsCarried, IsInputPiece}
use Rattle.fit.proofs.FrameLemmas.{AreNodes, operands_there}
use Rattle.fit.proofs.LineLemmas.{carries_input}
use Rattle.fit.proofs.ModelLemmas.{found_names}
use Rattle.fitting.proofs.GrowLemmas.{next_value-append}
use Rattle.writeout.proofs.LateLemmas.{inits_joined, nexts_joined}
use Rattle.cells.specs.Lines.{named, IsAmong}
use Rattle.cells.proofs.PlaceLemmas.{found_last}
use Rattle.fitting.specs.Names.{IsNamed}
use Rattle.celled.specs.Names.{cell_names, CellsAreNamed}
use Rattle.celled.specs.Spots.{Spots, layout_by, ids_from}
use Rattle.celled.specs.Split.{renamed, GoesOn, Settled, HasWord, NextIsTaken, Stands, IsSplit}
use Rattle.celled.specs.Steps.{IsPut, IsSingle, IsSpotted}
use Rattle.celled.proofs.StandLemmas.{AllStand, goes_same, fresh_in, goes_back, spotted_same, sort_at, known_at, constant_at, cells_open, cells_loose}
use Rattle.celled.proofs.GrowLemmas.{init_word_on}
use Rattle.celled.proofs.CopyLemmas.{single_layout, init_said, next_said}

-- ---- renamed forms

renamed_node : (to : ℕ → ℕ) (b : Body) → node_sort (renamed to b) ≡ option_map to (node_sort b)
renamed_node to (body.Sort n) = refl
renamed_node to (body.Input s) = refl
renamed_node to _ = refl

renamed_bits : (to : ℕ → ℕ) (b : Body) → sort_bits (renamed to b) ≡ sort_bits b
renamed_bits to (body.Sort n) = refl
renamed_bits to _ = refl

pub renamed_input : (to : ℕ → ℕ) (b : Body) → is_input (renamed to b) ≡ is_input b
renamed_input to (body.Input s) = refl
renamed_input to _ = refl

pub renamed_state : (to : ℕ → ℕ) (b : Body) → is_state (renamed to b) ≡ is_state b
renamed_state to (body.State s) = refl
renamed_state to _ = refl

renamed_constant : (to : ℕ → ℕ) (n : ℕ) (b : Body) → constant_word n (renamed to b) ≡ constant_word n b
renamed_constant to n (body.Zero s) = refl
renamed_constant to n _ = refl

no_constant : (n : ℕ) (b : Body) → node_sort b ≡ None → constant_word n b ≡ None
no_constant n (body.Sort k) e = refl
no_constant n (body.Init s t v) e = refl
no_constant n (body.Next s t v) e = refl
no_constant n (body.Bad a) e = refl
no_constant n (body.Constraint a) e = refl
no_constant n (body.Fair a) e = refl
no_constant n (body.Output a) e = refl
no_constant n (body.Justice nodes) e = refl
no_constant n _ e = absurd (none-some _ (sym e))

-- a form over nodes with the same words and widths gives the same word
renamed_word : (w n : List Item) (to : ℕ → ℕ) (st inp f st' inp' g : Frame) (id a : ℕ) (b : Body) → is_input b ≡ false → is_state b ≡ false → AllByRecursion (λ o. (g (to o) ≡ f o) × (bits_of n (to o) ≡ bits_of w o)) (operands b)
    → IfSome (node_sort b) (λ s. bits_of n a ≡ bits_of w id) → line_word n st' inp' g a (renamed to b) ≡ line_word w st inp f id b
renamed_word w n to st inp f st' inp' g id a (body.Uext s o by) i j h e = ap (λ (v : ℕ). Some (uext_value v)) h.0.0
renamed_word w n to st inp f st' inp' g id a (body.Sext s o by) i j h e = ap₂ (λ (k v : ℕ). Some (sext_value k v by)) h.0.1 h.0.0
renamed_word w n to st inp f st' inp' g id a (body.Slice s o u l) i j h e = ap (λ (v : ℕ). Some (slice_value v u l)) h.0.0
renamed_word w n to st inp f st' inp' g id a (body.Unary op s o) i j h e = ap₂ (λ (k v : ℕ). Some (unary_value op k v)) h.0.1 h.0.0
renamed_word w n to st inp f st' inp' g id a (body.Binary op s o p) i j h e =
    ap₂ (λ (k v : ℕ). Some (binary_value op k v (g (to p)))) h.0.1 h.0.0 ∙ ap (λ (v : ℕ). Some (binary_value op (bits_of w o) (f o) v)) h.1.0.0
renamed_word w n to st inp f st' inp' g id a (body.Concat s o p) i j h e =
    ap₂ (λ (k v : ℕ). Some (concat_value (g (to o)) k v)) h.1.0.1 h.1.0.0 ∙ ap (λ (v : ℕ). Some (concat_value v (bits_of w p) (f p))) h.0.0
renamed_word w n to st inp f st' inp' g id a (body.Ite s c t u) i j h e =
    ap₂ (λ (x y : ℕ). Some (ite_value (g (to c)) x y)) h.1.0.0 h.1.1.0.0 ∙ ap (λ (v : ℕ). Some (ite_value v (f t) (f u))) h.0.0
renamed_word w n to st inp f st' inp' g id a (body.Ones s) i j h e = ap (λ (k : ℕ). constant_word k (body.Ones s)) e
renamed_word w n to st inp f st' inp' g id a (body.Constd s v) i j h e = ap (λ (k : ℕ). constant_word k (body.Constd s v)) e
renamed_word w n to st inp f st' inp' g id a (body.Input s) i j h e = absurd (cc)
renamed_word w n to st inp f st' inp' g id a (body.State s) i j h e = absurd (cc)
renamed_word w n to st inp f st' inp' g id a _ i j h e = refl

-- ---- what is known

-- a line is added as it is
pub record Copied (front : List Item) (t : Spots) (celled : List Item) (x : Item) (a : ℕ) (t' : Spots) (celled' : List Item) (place : ℕ) : Type 0 where
  pub wide_model : IsWideModel greatest_width front
  pub model : IsWideModel greatest_width celled
  pub stand : AllStand front t celled
  pub accepted : wide_refusal greatest_width front x ≡ None
  pub put : IsPut celled celled' a x.symbol (renamed t.node x.body)
  pub spots : IsSpotted t t' x.id a a 1 place
  pub at : length front ≡ place

-- in lists that go on
pub record In (front : List Item) (t : Spots) (celled : List Item) (x : Item) (a place : ℕ) (w : List Item) (u : Spots) (n : List Item) : Type 0 where
  pub back : GoesOn front t celled w u n
  pub node : u.node x.id ≡ a
  pub layout : layout_by u x.id ≡ a ∷ []
  pub count : u.count x.id ≡ 1
  pub first : u.first x.id ≡ a
  pub line : slice_get w (u.line x.id) ≡ Some x
  pub found : find_item n a ≡ Some (named a x.symbol (renamed t.node x.body))

pub line_at : (front : List Item) (x : Item) (more : List Item) → slice_get ((front ++ x ∷ []) ++ more) (length front) ≡ Some x
line_at [] x more = refl
line_at (y ∷ ys) x more = line_at ys x more

pub own_spot : (k : ℕ) (a b : ℕ) → cond (nat_eq k k) a b ≡ a
own_spot k a b = ap (λ (c : Bool). cond c a b) (eq-eqb k k refl)

pub own_there : (front : List Item) (x : Item) → find_item front x.id ≡ None → is_some (find_item (front ++ x ∷ []) x.id) ≡ true
own_there front x none = is_some_from (find_item (front ++ x ∷ []) x.id) x (found_last front x.id x.symbol x.body none)

pub copied_in : (front : List Item) (t : Spots) (celled : List Item) (x : Item) (a : ℕ) (t' : Spots) (celled' : List Item) (place : ℕ) (w : List Item) (u : Spots) (n : List Item) → Copied front t celled x a t' celled' place → GoesOn (front ++ x ∷ []) t' celled' w u n
    → In front t celled x a place w u n
copied_in front t celled x a t' celled' place w u n c g =
    let fresh = fresh_in front x c.accepted in
    let there = own_there front x fresh in
    let first : u.first x.id ≡ a = g.first x.id there ∙ c.spots.first_at x.id ∙ own_spot x.id a (t.first x.id) in
    let count : u.count x.id ≡ 1 = g.count x.id there ∙ c.spots.count_at x.id ∙ own_spot x.id 1 (t.count x.id) in
    let line : u.line x.id ≡ length front = g.line x.id there ∙ c.spots.line_at x.id ∙ own_spot x.id place (t.line x.id) ∙ sym c.at in
    record {
      back = goes_back front x t t' celled celled' _ w u n c.put.is (spotted_same front t t' x.id a a 1 place fresh c.spots) g;
      node = g.node x.id there ∙ c.spots.node_at x.id ∙ own_spot x.id a (t.node x.id);
      layout = ap₂ ids_from first count;
      count = count;
      first = first;
      line = ap₂ slice_get g.wide_is line ∙ line_at front x g.lines;
      found = ap (λ (l : List Item). find_item l a) (g.is ∙ ap (λ (l : List Item). l ++ g.more) c.put.is)
          ∙ find_item-append (celled ++ named a x.symbol (renamed t.node x.body) ∷ []) g.more a (named a x.symbol (renamed t.node x.body)) (found_last celled a x.symbol (renamed t.node x.body) c.put.fresh);
    }

-- ---- its width

alone : (g : Frame) (width : ℕ → ℕ) (a : ℕ) → pieces_word width g (a ∷ []) ≡ g a
alone g width a = omega arith

pub record Width (front w : List Item) (u : Spots) (n : List Item) (x : Item) (a s : ℕ) : Type 0 where
  pub bits : ℕ
  pub in_front : sort_width front s ≡ Some bits
  pub in_wide : sort_width w s ≡ Some bits
  pub own : node_width w x.id ≡ Some bits
  pub node : node_width n a ≡ Some bits

sort_found : (front : List Item) (s m : ℕ) → sort_width front s ≡ Some m → is_some (find_item front s) ≡ true
sort_found front s m e = let parts = then_parts (λ (x : Item). sort_bits x.body) (find_item front s) m e in is_some_from (find_item front s) parts.0 parts.1

sort_there : (front : List Item) (b : Body) (s : ℕ) → sort_is_missing front b ≡ false → node_sort b ≡ Some s → is_some (sort_width front s) ≡ true
unfolding sort_is_missing
sort_there front b s h e = there (sort_width front s) (ap (λ (o : Option ℕ). option_map_or (λ (k : ℕ). is_none (sort_width front k)) o false) (sym (named_is b s e)) ∙ h)
  where
    named_is : (b : Body) (s : ℕ) → node_sort b ≡ Some s → named_sort b ≡ Some s
    named_is (body.Init t u v) s e = absurd (none-some s e)
    named_is (body.Next t u v) s e = absurd (none-some s e)
    named_is b s e = e

    there : (o : Option ℕ) → is_none o ≡ false → is_some o ≡ true
    there None h = absurd (cc)
    there (Some n) h = refl

pub sort_of_line : (front : List Item) (x : Item) (s : ℕ) → wide_refusal greatest_width front x ≡ None → node_sort x.body ≡ Some s → (m : ℕ) × (sort_width front s ≡ Some m)
sort_of_line front x s accepted e = some_of (sort_width front s) (sort_there front x.body s (tests_false greatest_width front x accepted).1.1.1.0 e)

pub width_in : (front : List Item) (t : Spots) (celled : List Item) (x : Item) (a : ℕ) (t' : Spots) (celled' : List Item) (place : ℕ) (w : List Item) (u : Spots) (n : List Item) (s : ℕ) → Copied front t celled x a t' celled' place → GoesOn (front ++ x ∷ []) t' celled' w u n
    → In front t celled x a place w u n → node_sort x.body ≡ Some s → Width front w u n x a s
width_in front t celled x a t' celled' place w u n s c g i e =
    let sort = sort_of_line front x s c.accepted e in
    let there = sort_found front s sort.0 sort.1 in
    let at : sort_width n (u.node s) ≡ Some sort.0 = sort_at front t celled w u n s sort.0 c.stand i.back sort.1 in
    let renamed_at : node_sort (renamed t.node x.body) ≡ Some (t.node s) = renamed_node t.node x.body ∙ ap (option_map t.node) e in
    let wide : sort_width w s ≡ Some sort.0 = ap (λ (l : List Item). sort_width l s) i.back.wide_is ∙ sort_width-append front i.back.lines s sort.0 sort.1 in
    let own : find_item w x.id ≡ Some x = ap (λ (l : List Item). find_item l x.id) g.wide_is ∙ find_item-append (front ++ x ∷ []) g.lines x.id x (found_last front x.id x.symbol x.body (fresh_in front x c.accepted)) in
    record {
      bits = sort.0;
      in_front = sort.1;
      in_wide = wide;
      own = ap (option_and_then (λ (y : Item). width_of_body w y.body)) own ∙ ap (option_and_then (sort_width w)) e ∙ wide;
      node = ap (option_and_then (λ (y : Item). width_of_body n y.body)) i.found ∙ ap (option_and_then (sort_width n)) renamed_at ∙ ap (sort_width n) (sym (i.back.node s there)) ∙ at;
    }

-- ---- the parts of what stands

same_some : (o : Option ℕ) → IfSome o (λ c. o ≡ Some c)
same_some None = tt
same_some (Some c) = refl

at_some : {A : Type 0} (o : Option A) (P : A → Type 0) → ((v : A) → o ≡ Some v → P v) → IfSome o P
at_some None P h = tt
at_some (Some v) P h = h v refl

pub node_found : (front : List Item) (o : ℕ) → is_some (node_width front o) ≡ true → is_some (find_item front o) ≡ true
node_found front o h =
    let width = some_of (node_width front o) h in
    let parts = then_parts (λ (x : Item). width_of_body front x.body) (find_item front o) width.0 width.1 in is_some_from (find_item front o) parts.0 parts.1

-- its nodes have the words that their cells make
nodes_in : (front : List Item) (t : Spots) (celled : List Item) (w : List Item) (u : Spots) (n : List Item) (st inp g : Frame) (ids : List ℕ) → AllStand front t celled → GoesOn front t celled w u n → IsState n st → IsInput n inp → IsFrame n st inp g → AreNodes front ids
    → AllByRecursion (λ o. (g (t.node o) ≡ joined n (layout_by u) g o) × (bits_of n (t.node o) ≡ bits_of w o)) ids
nodes_in front t celled w u n st inp g ids stand go states inputs frame there =
    all_with (λ o. is_some (node_width front o) ≡ true) (λ o. (g (t.node o) ≡ joined n (layout_by u) g o) × (bits_of n (t.node o) ≡ bits_of w o)) ids
    (λ o own.
    let k = known_at front t celled w u n o stand go own in
    let same : u.node o ≡ t.node o = go.node o (node_found front o own) in (
      ap g (sym same) ∙ k.has.word st inp g states inputs frame,
      ap (bits_of n) (sym same) ∙ ap (λ (o : Option ℕ). unwrap_or o 0) (k.in_celled ∙ sym k.in_wide),
    )) there

carried_in : (front : List Item) (t : Spots) (celled : List Item) (x : Item) (a : ℕ) (t' : Spots) (celled' : List Item) (place : ℕ) (w : List Item) (u : Spots) (n : List Item) → Copied front t celled x a t' celled' place → GoesOn (front ++ x ∷ []) t' celled' w u n
    → In front t celled x a place w u n → is_input x.body ≡ false → is_state x.body ≡ false → Carries w (layout_by u) n x
carried_in front t celled x a t' celled' place w u n c g i input state st inp f states inputs frame =
    let nodes = nodes_in front t celled w u n st inp f (operands x.body) c.stand i.back states inputs frame (operands_there front x.body (tests_false greatest_width front x c.accepted).1.1.1.1.0) in
    let bits = at_some (node_sort x.body) (λ s. bits_of n a ≡ bits_of w x.id)
    (λ s e. let width = width_in front t celled x a t' celled' place w u n s c g i e in ap (λ (o : Option ℕ). unwrap_or o 0) (width.node ∙ sym width.own)) in
    let line = line_found n st inp f a (named a x.symbol (renamed t.node x.body)) i.found frame in
    let same = renamed_word w n t.node (joined n (layout_by u) st) (joined n (layout_by u) inp) (joined n (layout_by u) f) st inp f x.id a x.body input state nodes bits in
    if_word _ _ (f a) (joined n (layout_by u) f x.id) same (sym (ap (pieces_word (bits_of n) f) i.layout ∙ alone f (bits_of n) a)) line

input_in : (front : List Item) (t : Spots) (celled : List Item) (x : Item) (a place : ℕ) (w : List Item) (u : Spots) (n : List Item) → In front t celled x a place w u n → is_input x.body ≡ true → Carries w (layout_by u) n x
input_in front t celled x a place w u n i is =
    carries_input w n (layout_by u) x is
    (subst (AllByRecursion (IsInputPiece n)) (sym i.layout) ((named a x.symbol (renamed t.node x.body), i.found, renamed_input t.node x.body ∙ is), tt))

carries_in : (front : List Item) (t : Spots) (celled : List Item) (x : Item) (a : ℕ) (t' : Spots) (celled' : List Item) (place : ℕ) (w : List Item) (u : Spots) (n : List Item) → Copied front t celled x a t' celled' place → GoesOn (front ++ x ∷ []) t' celled' w u n
    → In front t celled x a place w u n → is_state x.body ≡ false → Carries w (layout_by u) n x
carries_in front t celled x a t' celled' place w u n c g i state = by (is_input x.body) refl
  where
    by : (b : Bool) → is_input x.body ≡ b → Carries w (layout_by u) n x
    by true is = input_in front t celled x a place w u n i is
    by false is = carried_in front t celled x a t' celled' place w u n c g i is state

word_in : (front : List Item) (t : Spots) (celled : List Item) (x : Item) (a : ℕ) (t' : Spots) (celled' : List Item) (place : ℕ) (w : List Item) (u : Spots) (n : List Item) (s : ℕ) → Copied front t celled x a t' celled' place → GoesOn (front ++ x ∷ []) t' celled' w u n
    → In front t celled x a place w u n → node_sort x.body ≡ Some s → HasWord w u n x.id s
word_in front t celled x a t' celled' place w u n s c g i e =
    let width = width_in front t celled x a t' celled' place w u n s c g i e in
    record {
      bits = width.bits;
      size = width.bits;
      sort_bits = width.in_wide;
      node = ap (node_width n) i.node ∙ width.node;
      cells = subst (AllByRecursion (λ p. node_width n p ≡ Some width.bits)) (sym i.layout) (width.node, tt);
      together = ap (λ (k : ℕ). k * width.bits) i.count ∙ omega arith;
      alone = λ one. i.first ∙ sym i.node;
      word = λ st inp f states inputs frame. ap f i.node ∙ sym (ap (pieces_word (bits_of n) f) i.layout ∙ alone f (bits_of n) a);
    }

constant_in : (front : List Item) (t : Spots) (celled : List Item) (x : Item) (a : ℕ) (t' : Spots) (celled' : List Item) (place : ℕ) (w : List Item) (u : Spots) (n : List Item) → Copied front t celled x a t' celled' place → GoesOn (front ++ x ∷ []) t' celled' w u n
    → In front t celled x a place w u n → IfSome (constant_word (bits_of w x.id) x.body) (λ k. constant_of n (u.node x.id) ≡ Some k)
constant_in front t celled x a t' celled' place w u n c g i = by (node_sort x.body) refl
  where
    by : (o : Option ℕ) → node_sort x.body ≡ o → IfSome (constant_word (bits_of w x.id) x.body) (λ k. constant_of n (u.node x.id) ≡ Some k)
    by None e = subst (λ (o : Option ℕ). IfSome o (λ k. constant_of n (u.node x.id) ≡ Some k)) (sym (no_constant (bits_of w x.id) x.body e)) tt
    by (Some s) e =
        let width = width_in front t celled x a t' celled' place w u n s c g i e in
        let own : constant_of n a ≡ option_and_then (λ (k : ℕ). constant_word k (renamed t.node x.body)) (width_of_body n (renamed t.node x.body)) = ap (option_and_then (λ (y : Item). constant_of_body n y.body)) i.found in
        let at : width_of_body n (renamed t.node x.body) ≡ Some width.bits = sym (ap (option_and_then (λ (y : Item). width_of_body n y.body)) i.found) ∙ width.node in
        let bits : width.bits ≡ bits_of w x.id = sym (ap (λ (o : Option ℕ). unwrap_or o 0) width.own) in
        let all : constant_of n (u.node x.id) ≡ constant_word (bits_of w x.id) x.body =
        ap (constant_of n) i.node ∙ own ∙ ap (option_and_then (λ (k : ℕ). constant_word k (renamed t.node x.body))) at ∙ renamed_constant t.node width.bits x.body ∙ ap (λ (k : ℕ). constant_word k x.body) bits in
        subst (λ (o : Option ℕ). IfSome (constant_word (bits_of w x.id) x.body) (λ k. o ≡ Some k)) (sym all) (same_some (constant_word (bits_of w x.id) x.body))

sort_in : (front : List Item) (t : Spots) (celled : List Item) (x : Item) (a place : ℕ) (w : List Item) (u : Spots) (n : List Item) → In front t celled x a place w u n → IfSome (sort_bits x.body) (λ k. sort_width n (u.node x.id) ≡ Some k)
sort_in front t celled x a place w u n i =
    let all : sort_width n (u.node x.id) ≡ sort_bits x.body = ap (sort_width n) i.node ∙ ap (option_and_then (λ (y : Item). sort_bits y.body)) i.found ∙ renamed_bits t.node x.body in
    subst (λ (o : Option ℕ). IfSome (sort_bits x.body) (λ k. o ≡ Some k)) (sym all) (same_some (sort_bits x.body))

leaf_in : (front : List Item) (t : Spots) (celled : List Item) (x : Item) (a place : ℕ) (w : List Item) (u : Spots) (n : List Item) → In front t celled x a place w u n → AllByRecursion (λ p. names_state n p ≡ is_state x.body) (layout_by u x.id)
leaf_in front t celled x a place w u n i =
    subst (AllByRecursion (λ p. names_state n p ≡ is_state x.body)) (sym i.layout) (found_names n (named a x.symbol (renamed t.node x.body)) (is_state x.body) i.found (renamed_state t.node x.body), tt)

names_in : (front : List Item) (t : Spots) (celled : List Item) (x : Item) (a place : ℕ) (w : List Item) (u : Spots) (n : List Item) → In front t celled x a place w u n → CellsAreNamed (layout_by u) n x
names_in front t celled x a place w u n i is =
    subst (λ (l : List ℕ). AllZip (IsNamed n) l (cell_names x.symbol l)) (sym i.layout) ((named a x.symbol (renamed t.node x.body), i.found, refl), tt)

-- ---- init and next lines

-- the state of an init line has one cell
pub single_at : (front : List Item) (t : Spots) (celled : List Item) (w : List Item) (u : Spots) (n : List Item) (id : ℕ) → AllStand front t celled → GoesOn front t celled w u n → is_some (node_width front id) ≡ true → t.count id ≡ 1 → layout_by u id ≡ t.node id ∷ []
single_at front t celled w u n id stand g there one =
    let k = known_at front t celled w u n id stand g there in
    let parts = then_parts (λ (x : Item). width_of_body front x.body) (find_item front id) k.bits k.in_front in
    let found = is_some_from (find_item front id) parts.0 parts.1 in
    single_layout front w u n id k (g.count id found ∙ one) ∙ ap (λ (p : ℕ). p ∷ []) (g.node id found)

init_line_word : (celled celled' : List Item) (a p c k : ℕ) (symbol : Option (List ℕ)) (s : ℕ) → celled' ≡ celled ++ named a symbol (body.Init s p c) ∷ [] → init_value celled p ≡ None → constant_of celled c ≡ Some k → init_word celled' p ≡ Some k
init_line_word celled celled' a p c k symbol s is none word =
    let line : Item = named a symbol (body.Init s p c) in
    let own : init_value (line ∷ []) p ≡ Some c = ap (λ (b : Bool). option_or (cond b (Some c) None) None) (eq-eqb p p refl) in
    let value : init_value celled' p ≡ Some c = ap (λ (l : List Item). init_value l p) is ∙ inits_joined celled (line ∷ []) p ∙ ap₂ option_or none own in
    ap (option_and_then (constant_of celled')) value ∙ ap (λ (l : List Item). constant_of l c) is ∙ constant_of-append celled (line ∷ []) c k word

next_line_value : (celled celled' : List Item) (a p c : ℕ) (symbol : Option (List ℕ)) (s : ℕ) → celled' ≡ celled ++ named a symbol (body.Next s p c) ∷ [] → next_value celled p ≡ None → next_value celled' p ≡ Some c
next_line_value celled celled' a p c symbol s is none =
    let line : Item = named a symbol (body.Next s p c) in
    let own : next_value (line ∷ []) p ≡ Some c = ap (λ (b : Bool). option_or (cond b (Some c) None) None) (eq-eqb p p refl) in
    ap (λ (l : List Item). next_value l p) is ∙ nexts_joined celled (line ∷ []) p ∙ ap₂ option_or none own

-- a list and a split before a line that is added as it is
pub record Ready (front : List Item) (t : Spots) (celled : List Item) (inputs states : List ℕ) (x : Item) (size : ℕ) : Type 0 where
  pub split : IsSplit front t celled inputs states
  pub single : IsSingle front t size x.body

init_in : (front : List Item) (t : Spots) (celled : List Item) (x : Item) (a : ℕ) (t' : Spots) (celled' : List Item) (place : ℕ) (w : List Item) (u : Spots) (n : List Item) (inputs states : List ℕ) (size : ℕ) → Copied front t celled x a t' celled' place → GoesOn (front ++ x ∷ []) t' celled' w u n
    → In front t celled x a place w u n → Ready front t celled inputs states x size → InitIsCarried w (layout_by u) n x.body
init_in front t celled x a t' celled' place w u n inputs states size c g i h = by x.body refl h.single
  where
    by : (b : Body) → x.body ≡ b → IsSingle front t size b → InitIsCarried w (layout_by u) n b
    by (body.Init s id v) e one =
        let said = init_said front x s id v c.accepted e in
        let p = t.node id in
        let layout = single_at front t celled w u n id c.stand i.back said.there one in
        let go = goes_same front t celled c.wide_model c.model in
        let own = single_at front t celled front t celled id c.stand go said.there one in
        let open_cell = cells_open front t celled inputs states id p h.split c.model said.state (subst (IsAmong p) (sym own) (inl refl)) said.first in
        let constant = constant_at front t celled front t celled v said.constant c.stand go said.word in
        let put : celled' ≡ celled ++ named a x.symbol (body.Init (t.node s) p (t.node v)) ∷ [] = c.put.is ∙ ap (λ (b : Body). celled ++ named a x.symbol (renamed t.node b) ∷ []) e in
        let begins = init_line_word celled celled' a p (t.node v) said.constant x.symbol (t.node s) put open_cell constant in
        let later : init_word n p ≡ Some said.constant = ap (λ (l : List Item). init_word l p) g.is ∙ init_word_on celled' g.more p said.constant begins in
        let wide : constant_of w v ≡ Some said.constant = ap (λ (l : List Item). constant_of l v) i.back.wide_is ∙ constant_of-append front i.back.lines v said.constant said.word in (
          subst (AllByRecursion (λ q. is_some (init_word n q) ≡ true)) (sym layout) (is_some_from (init_word n p) said.constant later, tt),
          wide ∙ ap (λ (k : ℕ). Some k) (sym (ap (pieces_word (bits_of n) (init_words n)) layout ∙ alone (init_words n) (bits_of n) p ∙ ap (λ (o : Option ℕ). unwrap_or o 0) later)),
        )
    by _ e one = tt

next_in : (front : List Item) (t : Spots) (celled : List Item) (x : Item) (a : ℕ) (t' : Spots) (celled' : List Item) (place : ℕ) (w : List Item) (u : Spots) (n : List Item) (inputs states : List ℕ) (size : ℕ) → Copied front t celled x a t' celled' place → GoesOn (front ++ x ∷ []) t' celled' w u n
    → In front t celled x a place w u n → Ready front t celled inputs states x size → NextIsTaken u n x.body
next_in front t celled x a t' celled' place w u n inputs states size c g i h = by x.body refl h.single
  where
    by : (b : Body) → x.body ≡ b → IsSingle front t size b → NextIsTaken u n b
    by (body.Next s id v) e one =
        let said = next_said front x s id v c.accepted e in
        let p = t.node id in
        let layout = single_at front t celled w u n id c.stand i.back said.there one in
        let go = goes_same front t celled c.wide_model c.model in
        let own = single_at front t celled front t celled id c.stand go said.there one in
        let loose = cells_loose front t celled inputs states id p h.split c.model said.state (subst (IsAmong p) (sym own) (inl refl)) said.first in
        let put : celled' ≡ celled ++ named a x.symbol (body.Next (t.node s) p (t.node v)) ∷ [] = c.put.is ∙ ap (λ (b : Body). celled ++ named a x.symbol (renamed t.node b) ∷ []) e in
        let takes = next_line_value celled celled' a p (t.node v) x.symbol (t.node s) put loose in
        let later : next_value n p ≡ Some (t.node v) = ap (λ (l : List Item). next_value l p) g.is ∙ next_value-append celled' g.more p (t.node v) takes in (
          t.node v ∷ [],
          ap (map (next_value n)) layout ∙ ap (λ (o : Option ℕ). o ∷ []) later,
          λ st inp f states inputs frame. alone f (bits_of n) (t.node v) ∙ (nodes_in front t celled w u n st inp f (v ∷ []) c.stand i.back states inputs frame (said.value, tt)).0.0,
        )
    by _ e one = tt

pub stands_in : (front : List Item) (t : Spots) (celled : List Item) (x : Item) (a : ℕ) (t' : Spots) (celled' : List Item) (place : ℕ) (inputs states : List ℕ) (size : ℕ) → Copied front t celled x a t' celled' place → Ready front t celled inputs states x size
    → Settled (front ++ x ∷ []) t' celled' (Stands x)
stands_in front t celled x a t' celled' place inputs states size c h w u n g =
    let i = copied_in front t celled x a t' celled' place w u n c g in
    record {
      line = i.line;
      sort = sort_in front t celled x a place w u n i;
      value = at_some (node_sort x.body) (HasWord w u n x.id) (λ s e. word_in front t celled x a t' celled' place w u n s c g i e);
      constant = constant_in front t celled x a t' celled' place w u n c g i;
      carried = carries_in front t celled x a t' celled' place w u n c g i;
      leaf = λ is. leaf_in front t celled x a place w u n i;
      names = names_in front t celled x a place w u n i;
      init = init_in front t celled x a t' celled' place w u n inputs states size c g i h;
      next = next_in front t celled x a t' celled' place w u n inputs states size c g i h;
    }
