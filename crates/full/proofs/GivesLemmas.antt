-- What nodes give once more lines stand behind them, and lines of a model that they carry.
use Rattle.std.proofs.Common.{◌≡◌, ℕ, ◌^◌, ◌<◌, Bool, true, false, List, [], ◌∷◌, ◌++◌, map, Option, Some, None, is_some, IfSome, unwrap_or, append_assoc, append-nil, refl, sym, ap, ap₂, subst, ◌∙◌}
use Rattle.std.specs.List.{AllByRecursion}
use Rattle.std.proofs.lemmas.Option.{none-some}
use Rattle.base.specs.declared.operators.Unary.TheVariants as unary
use Rattle.base.specs.Operator.{unary_value}
use Rattle.btor2.specs.declared.item.Item.{Item}
use Rattle.btor2.specs.declared.item.Body.{Body}
use Rattle.btor2.specs.declared.item.Body.TheVariants as body
use Rattle.btor2.specs.Items.{find_item, node_sort, node_width, is_input, is_state, operands}
use Rattle.btor2.specs.Trace.{Frame, bits_of, line_word, LineHolds}
use Rattle.btor2.proofs.AppendLemmas.{find_item-append, node_width-append, some_of, is_some_from}
use Rattle.wide.specs.WideModels.{greatest_width, IsWideModel}
use Rattle.full.specs.Lines.{Operand, operand, plain, Says, form, array_sort, FullLine, operands_of, Sort, words, arrays, is_form, sort_named, sort_of_node, width_of}
use Rattle.full.specs.Cells.{repeat_value}
use Rattle.full.specs.Runs.{word_by, at_place, word_of_line, operand_word, in_each_cell, LineSays}
use Rattle.full.specs.WrittenOut.{Places, InFrames, read_by, IsCarried, HasWord, HasFirstWord}
use Rattle.full.specs.Gives.{InAllFrames, GivesWord, OperandsGive, HaveTheirWords, form_word}
use Rattle.full.proofs.WideLemmas.{line_found, if_word}
use Rattle.full.proofs.PlainLaw.{wide_words_fit}

-- ---- what is given

bits_are : (items : List Item) (w bits : ℕ) → node_width items w ≡ Some bits → bits_of items w ≡ bits
bits_are items w bits e = ap (λ (o : Option ℕ). unwrap_or o 0) e

-- more lines behind
frames_kept : (items more : List Item) (Of : Frame → Type 0) → InAllFrames items Of → InAllFrames (items ++ more) Of
frames_kept items more Of h rest = subst (λ (l : List Item). IsWideModel greatest_width l → InFrames l Of) (sym (append_assoc items more rest)) (h (more ++ rest))

pub gives_kept : (items more : List Item) (bits : ℕ) (value : Frame → ℕ) (w : ℕ) → GivesWord items bits value w → GivesWord (items ++ more) bits value w
gives_kept items more bits value w h = record { width = node_width-append items more w bits h.width; word = frames_kept items more (λ g. g w ≡ value g) h.word }

-- a node gives its own word
pub gives_itself : (items : List Item) (bits w : ℕ) → node_width items w ≡ Some bits → GivesWord items bits (λ g. g w) w
gives_itself items bits w e = record { width = e; word = λ more wide state input g states inputs frame. refl }

-- and another value that is the same in each frame
pub gives_same : (items : List Item) (bits : ℕ) (value other : Frame → ℕ) (w : ℕ) → GivesWord items bits value w → InAllFrames items (λ g. value g ≡ other g) → GivesWord items bits other w
gives_same items bits value other w h same =
    record { width = h.width; word = λ more wide state input g states inputs frame. h.word more wide state input g states inputs frame ∙ same more wide state input g states inputs frame }

-- which fits
pub gives_below : (items : List Item) (bits : ℕ) (value : Frame → ℕ) (w : ℕ) → GivesWord items bits value w → InAllFrames items (λ g. value g < 2 ^ bits)
gives_below items bits value w h more wide state input g states inputs frame =
    let width = node_width-append items more w bits h.width in
    subst (λ (v : ℕ). v < 2 ^ bits) (h.word more wide state input g states inputs frame)
    (subst (λ (n : ℕ). g w < 2 ^ n) (bits_are (items ++ more) w bits width) (wide_words_fit (items ++ more) state input g wide states inputs frame w (is_some_from (node_width (items ++ more) w) bits width)))

-- ---- a line

-- the word that a line that is no leaf gives, by the widths and words of its operands
pub word_by_form : (items : List Item) (state input f : Frame) (id : ℕ) (b : Body) → is_input b ≡ false → is_state b ≡ false
    → line_word items state input f id b ≡ word_by (bits_of items id) (at_place (map (bits_of items) (operands b))) (at_place (map f (operands b))) b
word_by_form items state input f id (body.Input s) no_input no_state = absurd (cc)
word_by_form items state input f id (body.State s) no_input no_state = absurd (cc)
word_by_form items state input f id b no_input no_state = refl

widths_kept : (items more : List Item) (ids : List ℕ) → AllByRecursion (λ a. is_some (node_width items a) ≡ true) ids → map (bits_of (items ++ more)) ids ≡ map (bits_of items) ids
widths_kept items more [] h = refl
widths_kept items more (a ∷ rest) h =
    let width = some_of (node_width items a) h.0 in
    ap₂ ◌∷◌ (bits_are (items ++ more) a width.0 (node_width-append items more a width.0 width.1) ∙ sym (bits_are items a width.0 width.1)) (widths_kept items more rest h.1)

word_here : (o : Option ℕ) (x : ℕ) → is_some o ≡ true → IfSome o (λ w. x ≡ w) → x ≡ unwrap_or o 0
word_here None x there h = absurd (cc)
word_here (Some w) x there h = h

-- a node's form that is no leaf gives it a word
form_there : (bits : ℕ) (width word : ℕ → ℕ) (b : Body) → is_some (node_sort b) ≡ true → is_input b ≡ false → is_state b ≡ false → is_some (word_by bits width word b) ≡ true
form_there bits width word (body.Sort n) node no_input no_state = node
form_there bits width word (body.Input s) node no_input no_state = absurd (cc)
form_there bits width word (body.State s) node no_input no_state = absurd (cc)
form_there bits width word (body.Init s t v) node no_input no_state = node
form_there bits width word (body.Next s t v) node no_input no_state = node
form_there bits width word (body.Bad a) node no_input no_state = node
form_there bits width word (body.Constraint a) node no_input no_state = node
form_there bits width word (body.Fair a) node no_input no_state = node
form_there bits width word (body.Output a) node no_input no_state = node
form_there bits width word (body.Justice nodes) node no_input no_state = node
form_there bits width word _ node no_input no_state = refl

-- an item of a list that is no leaf gives what its form says of its operands, which are nodes
pub line_gives : (items : List Item) (x : Item) (bits : ℕ) → find_item items x.id ≡ Some x → node_width items x.id ≡ Some bits → is_some (node_sort x.body) ≡ true → is_input x.body ≡ false → is_state x.body ≡ false
    → AllByRecursion (λ a. is_some (node_width items a) ≡ true) (operands x.body) → GivesWord items bits (λ g. form_word items bits g x.body) x.id
line_gives items x bits found width node no_input no_state nodes =
    record {
      width = width;
      word = λ more wide state input g states inputs frame.
          let holds : LineHolds (items ++ more) state input g x.id x.body = line_found (items ++ more) state input g x.id x (find_item-append items more x.id x found) frame in
          let own : bits_of (items ++ more) x.id ≡ bits = bits_are (items ++ more) x.id bits (node_width-append items more x.id bits width) in
          let word : line_word (items ++ more) state input g x.id x.body ≡ word_by bits (at_place (map (bits_of items) (operands x.body))) (at_place (map g (operands x.body))) x.body =
          word_by_form (items ++ more) state input g x.id x.body no_input no_state
          ∙ ap₂ (λ (n : ℕ) (l : List ℕ). word_by n (at_place l) (at_place (map g (operands x.body))) x.body) own (widths_kept items more (operands x.body) nodes) in
          word_here _ (g x.id) (form_there bits (at_place (map (bits_of items) (operands x.body))) (at_place (map g (operands x.body))) x.body node no_input no_state) (subst (λ (o : Option ℕ). IfSome o (λ w. g x.id ≡ w)) word holds);
    }

-- ---- lines of a model

-- in the whole list a node gives what it gives in each list that begins so
pub gives_there : (items : List Item) (bits : ℕ) (value : Frame → ℕ) (w : ℕ) → IsWideModel greatest_width items → GivesWord items bits value w → InFrames items (λ g. g w ≡ value g)
gives_there items bits value w wide h =
    let all : IsWideModel greatest_width items → InFrames items (λ g. g w ≡ value g) = rw append-nil at (h.word []) in all wide

says_word : (full : List FullLine) (f : Frame) (id v : ℕ) (b : Says) → word_of_line full f id b ≡ Some v → f id ≡ v → LineSays full f id b
says_word full f id v (form (body.Input s) m) e h = absurd (none-some v e)
says_word full f id v (form (body.State s) m) e h = absurd (none-some v e)
says_word full f id v b e h = subst (λ (o : Option ℕ). IfSome o (λ w. f id ≡ w)) (sym e) h

-- a line is carried where the node gives the word that the line gives
pub carried_by : (full : List FullLine) (p : Places) (wide : List Item) (x : FullLine) (bits : ℕ) (value : Frame → ℕ) → IsWideModel greatest_width wide → GivesWord wide bits value (p.node x.id)
    → InFrames wide (λ g. word_of_line full (read_by p g) x.id x.says ≡ Some (value g)) → IsCarried full p wide x
carried_by full p wide x bits value w h same state input g states inputs frame =
    says_word full (read_by p g) x.id (value g) x.says (same state input g states inputs frame) (gives_there wide bits value (p.node x.id) w h state input g states inputs frame)

-- the word of an operand: that of its node, or the inverted one
pub plain_operand : (full : List FullLine) (p : Places) (wide : List Item) (id : ℕ) → HasWord full p wide (plain id) (p.node id)
plain_operand full p wide id state input g states inputs frame = refl

pub minus_operand : (full : List FullLine) (p : Places) (wide : List Item) (id bits w : ℕ) → IsWideModel greatest_width wide → width_of full id ≡ bits → GivesWord wide bits (λ g. unary_value unary.Not bits (g (p.node id))) w
    → HasWord full p wide (operand id true) w
minus_operand full p wide id bits w model width h state input g states inputs frame =
    gives_there wide bits (λ g. unary_value unary.Not bits (g (p.node id))) w model h state input g states inputs frame ∙ ap (λ (n : ℕ). unary_value unary.Not n (g (p.node id))) (sym width)

input_says : (full : List FullLine) (f : Frame) (id : ℕ) (b : Says) → is_form is_input b ≡ true → f id < 2 ^ width_of full id → LineSays full f id b
input_says full f id (form (body.Input s) m) is h = h
input_says full f id (form _ m) is h = absurd (cc)
input_says full f id _ is h = absurd (cc)

state_says : (full : List FullLine) (f : Frame) (id : ℕ) (b : Says) → is_form is_state b ≡ true → f id < 2 ^ width_of full id → LineSays full f id b
state_says full f id (form (body.State s) m) is h = h
state_says full f id (form _ m) is h = absurd (cc)
state_says full f id _ is h = absurd (cc)

node_fits : (full : List FullLine) (p : Places) (wide : List Item) (id : ℕ) → IsWideModel greatest_width wide → node_width wide (p.node id) ≡ Some (width_of full id) → InFrames wide (λ g. g (p.node id) < 2 ^ width_of full id)
node_fits full p wide id w width state input g states inputs frame =
    subst (λ (n : ℕ). g (p.node id) < 2 ^ n) (bits_are wide (p.node id) (width_of full id) width)
    (wide_words_fit wide state input g w states inputs frame (p.node id) (is_some_from (node_width wide (p.node id)) (width_of full id) width))

-- an input or a state is carried where its node is as wide
pub carried_input : (full : List FullLine) (p : Places) (wide : List Item) (x : FullLine) → IsWideModel greatest_width wide → is_form is_input x.says ≡ true → node_width wide (p.node x.id) ≡ Some (width_of full x.id)
    → IsCarried full p wide x
carried_input full p wide x w is width state input g states inputs frame = input_says full (read_by p g) x.id x.says is (node_fits full p wide x.id w width state input g states inputs frame)

pub carried_state : (full : List FullLine) (p : Places) (wide : List Item) (x : FullLine) → IsWideModel greatest_width wide → is_form is_state x.says ≡ true → node_width wide (p.node x.id) ≡ Some (width_of full x.id)
    → IsCarried full p wide x
carried_state full p wide x w is width state input g states inputs frame = state_says full (read_by p g) x.id x.says is (node_fits full p wide x.id w width state input g states inputs frame)

-- a line that says nothing of a frame is carried
says_nothing : (full : List FullLine) (f : Frame) (id : ℕ) (b : Says) → is_some (sort_named b) ≡ false → LineSays full f id b
says_nothing full f id (form (body.Sort n) m) h = tt
says_nothing full f id (form (body.Init s t v) m) h = tt
says_nothing full f id (form (body.Next s t v) m) h = tt
says_nothing full f id (form (body.Bad a) m) h = tt
says_nothing full f id (form (body.Constraint a) m) h = tt
says_nothing full f id (form (body.Fair a) m) h = tt
says_nothing full f id (form (body.Output a) m) h = tt
says_nothing full f id (form (body.Justice nodes) m) h = tt
says_nothing full f id (form _ m) h = absurd (cc)
says_nothing full f id (array_sort i e) h = tt
says_nothing full f id _ h = absurd (cc)

pub carried_nothing : (full : List FullLine) (p : Places) (wide : List Item) (x : FullLine) → is_some (sort_named x.says) ≡ false → IsCarried full p wide x
carried_nothing full p wide x h state input g states inputs frame = says_nothing full (read_by p g) x.id x.says h

-- ---- forms, by what their operands give

operands_there : (items : List Item) (ids : List ℕ) (values : List (ℕ × (Frame → ℕ))) → OperandsGive items ids values → AllByRecursion (λ a. is_some (node_width items a) ≡ true) ids
operands_there items [] [] h = tt
operands_there items [] (v ∷ values) h = absurd h
operands_there items (a ∷ ids) [] h = absurd h
operands_there items (a ∷ ids) (v ∷ values) h = (is_some_from (node_width items a) v.0 h.0.width, operands_there items ids values h.1)

give_widths : (items : List Item) (ids : List ℕ) (values : List (ℕ × (Frame → ℕ))) → OperandsGive items ids values → map (bits_of items) ids ≡ map (λ v. v.0) values
give_widths items [] [] h = refl
give_widths items [] (v ∷ values) h = absurd h
give_widths items (a ∷ ids) [] h = absurd h
give_widths items (a ∷ ids) (v ∷ values) h = ap₂ ◌∷◌ (bits_are items a v.0 h.0.width) (give_widths items ids values h.1)

give_words : (items : List Item) (ids : List ℕ) (values : List (ℕ × (Frame → ℕ))) → OperandsGive items ids values → InAllFrames items (λ g. map g ids ≡ map (λ v. v.1 g) values)
give_words items [] [] h more wide state input g states inputs frame = refl
give_words items [] (v ∷ values) h more wide state input g states inputs frame = absurd h
give_words items (a ∷ ids) [] h more wide state input g states inputs frame = absurd h
give_words items (a ∷ ids) (v ∷ values) h more wide state input g states inputs frame =
    ap₂ ◌∷◌ (h.0.word more wide state input g states inputs frame) (give_words items ids values h.1 more wide state input g states inputs frame)

-- so an item of a list that is no leaf gives what its form says of these
pub form_gives : (items : List Item) (x : Item) (bits : ℕ) (values : List (ℕ × (Frame → ℕ))) → find_item items x.id ≡ Some x → node_width items x.id ≡ Some bits → is_some (node_sort x.body) ≡ true → is_input x.body ≡ false → is_state x.body ≡ false
    → OperandsGive items (operands x.body) values → GivesWord items bits (λ g. unwrap_or (word_by bits (at_place (map (λ v. v.0) values)) (at_place (map (λ v. v.1 g) values)) x.body) 0) x.id
form_gives items x bits values found width node no_input no_state give =
    gives_same items bits (λ g. form_word items bits g x.body) (λ g. unwrap_or (word_by bits (at_place (map (λ v. v.0) values)) (at_place (map (λ v. v.1 g) values)) x.body) 0) x.id
    (line_gives items x bits found width node no_input no_state (operands_there items (operands x.body) values give))
    (λ more wide state input g states inputs frame.
    ap₂ (λ (l m : List ℕ). unwrap_or (word_by bits (at_place l) (at_place m) x.body) 0) (give_widths items (operands x.body) values give) (give_words items (operands x.body) values give more wide state input g states inputs frame))

operand_widths : (full : List FullLine) (p : Places) (wide : List Item) (os : List Operand) (ids : List ℕ) → HaveTheirWords full p wide os ids → map (bits_of wide) ids ≡ map (λ (o : Operand). width_of full o.id) os
operand_widths full p wide [] [] h = refl
operand_widths full p wide [] (a ∷ ids) h = absurd h
operand_widths full p wide (o ∷ os) [] h = absurd h
operand_widths full p wide (o ∷ os) (a ∷ ids) h = ap₂ ◌∷◌ (bits_are wide a (width_of full o.id) h.0.1) (operand_widths full p wide os ids h.1)

operand_words : (full : List FullLine) (p : Places) (wide : List Item) (os : List Operand) (ids : List ℕ) → HaveTheirWords full p wide os ids → InFrames wide (λ g. map g ids ≡ map (operand_word full (read_by p g)) os)
operand_words full p wide [] [] h state input g states inputs frame = refl
operand_words full p wide [] (a ∷ ids) h state input g states inputs frame = absurd h
operand_words full p wide (o ∷ os) [] h state input g states inputs frame = absurd h
operand_words full p wide (o ∷ os) (a ∷ ids) h state input g states inputs frame =
    ap₂ ◌∷◌ (h.0.0 state input g states inputs frame) (operand_words full p wide os ids h.1 state input g states inputs frame)

form_says : (full : List FullLine) (f : Frame) (id : ℕ) (b : Body) (minuses : List Bool) → is_input b ≡ false → is_state b ≡ false → IfSome (word_of_line full f id (form b minuses)) (λ w. f id ≡ w) → LineSays full f id (form b minuses)
form_says full f id (body.Input s) m no_input no_state h = absurd (cc)
form_says full f id (body.State s) m no_input no_state h = absurd (cc)
form_says full f id _ m no_input no_state h = h

-- A line of a form that is no leaf is carried by an item of the same form, whose operands have the words of the line's.
pub form_carried : (full : List FullLine) (p : Places) (wide : List Item) (x : FullLine) (b : Body) (minuses : List Bool) (y : Item) → x.says ≡ form b minuses → p.node x.id ≡ y.id → find_item wide y.id ≡ Some y
    → node_width wide y.id ≡ Some (width_of full x.id) → is_input b ≡ false → is_state b ≡ false → is_input y.body ≡ false → is_state y.body ≡ false
    → ((n : ℕ) (width word : ℕ → ℕ) → word_by n width word y.body ≡ word_by n width word b) → HaveTheirWords full p wide (operands_of (form b minuses)) (operands y.body) → IsCarried full p wide x
form_carried full p wide x b minuses y says node found width no_input no_state input_no state_no same nodes state input g states inputs frame =
    let holds : LineHolds wide state input g y.id y.body = line_found wide state input g y.id y found frame in
    let os = operands_of (form b minuses) in
    let word : line_word wide state input g y.id y.body ≡ word_of_line full (read_by p g) x.id (form b minuses) =
    word_by_form wide state input g y.id y.body input_no state_no ∙ same (bits_of wide y.id) (at_place (map (bits_of wide) (operands y.body))) (at_place (map g (operands y.body)))
    ∙ ap (λ (n : ℕ). word_by n (at_place (map (bits_of wide) (operands y.body))) (at_place (map g (operands y.body))) b) (bits_are wide y.id (width_of full x.id) width)
    ∙ ap₂ (λ (l m : List ℕ). word_by (width_of full x.id) (at_place l) (at_place m) b) (operand_widths full p wide os (operands y.body) nodes) (operand_words full p wide os (operands y.body) nodes state input g states inputs frame) in
    let own : g y.id ≡ read_by p g x.id = ap g (sym node) in
    subst (λ (z : Says). LineSays full (read_by p g) x.id z) (sym says)
    (form_says full (read_by p g) x.id b minuses no_input no_state (if_word (line_word wide state input g y.id y.body) (word_of_line full (read_by p g) x.id (form b minuses)) (g y.id) (read_by p g x.id) word own holds))

-- ---- first words

one_sort : (s : Option Sort) (v : ℕ) → in_each_cell s s v ≡ v
one_sort None v = refl
one_sort (Some (words n)) v = refl
one_sort (Some (arrays k n)) v = refl

-- the first word of a state is that of a value of its sort
pub first_word_of : (full : List FullLine) (p : Places) (wide : List Item) (t w : ℕ) (o : Operand) → sort_of_node full o.id ≡ sort_of_node full t → HasWord full p wide o w → HasFirstWord full p wide t o w
first_word_of full p wide t w o same h state input g states inputs frame =
    h state input g states inputs frame
    ∙ sym (ap (λ (s : Option Sort). in_each_cell (sort_of_node full t) s (operand_word full (read_by p g) o)) same ∙ one_sort (sort_of_node full t) (operand_word full (read_by p g) o))

-- and of an array by a word of an element, that of the array with it in each cell
pub first_word_cells : (full : List FullLine) (p : Places) (wide : List Item) (t w k n m : ℕ) (o : Operand) → sort_of_node full t ≡ Some (arrays k n) → sort_of_node full o.id ≡ Some (words m)
    → InFrames wide (λ g. g w ≡ repeat_value n (2 ^ k) (operand_word full (read_by p g) o)) → HasFirstWord full p wide t o w
first_word_cells full p wide t w k n m o array element h state input g states inputs frame =
    h state input g states inputs frame ∙ sym (ap₂ (λ (s z : Option Sort). in_each_cell s z (operand_word full (read_by p g) o)) array element)
