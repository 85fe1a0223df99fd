-- The nodes of lines of arrays.
use Rattle.std.proofs.Common.{◌≡◌, ℕ, ◌*◌, ◌^◌, ◌<◌, ◌≤◌, true, false, List, [], ◌∷◌, ◌++◌, length, Option, Some, is_some, IfSome, sym, ap, ap₂, subst, ◌∙◌, arith}
use Rattle.std.specs.List.{AllByRecursion}
use Rattle.std.proofs.lemmas.Bool.{false≢true}
use Rattle.btor2.specs.declared.item.Item.{Item}
use Rattle.btor2.specs.Items.{is_state}
use Rattle.btor2.specs.Trace.{Frame}
use Rattle.full.specs.Lines.{Operand, Says, read, write, FullLine, operands_of, Sort, words, arrays, is_form, sort_at, sort_of, sort_of_node, sort_size, size_of, width_of}
use Rattle.full.specs.Agreement.{IsFullModel, SaysAgree}
use Rattle.full.specs.Cells.{read_value, write_value}
use Rattle.full.specs.Gives.{GivesWord}
use Rattle.full.specs.Runs.{at_place, word_of_line, operand_word}
use Rattle.full.specs.WrittenOut.{Places, InFrames, read_by}
use Rattle.full.proofs.FullLookUps.{sort_on, node_on}
use Rattle.full.proofs.GivesLemmas.{carried_by}
use Rattle.cells.specs.Lines.{Extends, IsNew}
use Rattle.writeout.specs.Needs.{place_of}
use Rattle.writeout.specs.Writings.{Writing, IsGiven, IsOther, GoesOn, with_items}
use Rattle.writeout.specs.Nodes.{OperandStands, NodesStand, IsLine, IsMade, OperandsDone, IsConstantOf}
use Rattle.writeout.proofs.StepLemmas.{new_is_other, extends_grows}
use Rattle.writeout.proofs.OperandLemmas.{gives_on}
use Rattle.writeout.proofs.LineLemmas.{agrees_at, line_node, line_nodes}
use Rattle.writeout.proofs.LongerLemmas.{goes_back}

given_above : (m id : ℕ) → m < id → IsGiven id
given_above m id h = grind arith

-- a new node that gives the word of a line
pub value_made : (full : List FullLine) (w : Writing) (items : List Item) (handed : List ℕ) (t : FullLine) (leaf r bits : ℕ) (value : Frame → ℕ) → NodesStand full w → AllByRecursion (IsOther w.first) handed → Extends w.items items handed
    → IsNew w.items items r → GivesWord items bits value r → bits ≡ width_of full t.id → is_form is_state t.says ≡ false → IsConstantOf full (with_items w items) t.id t.says r
    → ((p : Places) (wide : List Item) → GoesOn full (with_items w items) p wide → InFrames wide (λ g. word_of_line full (read_by p g) t.id t.says ≡ Some (value g))) → IsMade full w items t leaf r
value_made full w items handed t leaf r bits value stands others e new gives same no_state constant word = record {
  node = record {
    width = gives.width ∙ ap (λ (n : ℕ). Some n) same;
    carried = λ p wide g here.
        carried_by full p wide t bits value g.model (subst (λ (n : ℕ). GivesWord wide bits value n) (sym here) (gives_on full (with_items w items) p wide bits value r g gives)) (word p wide g);
    other = new_is_other full w r stands new.0;
    constant = constant;
    state = λ is. absurd (false≢true (sym no_state ∙ is));
  };
  given = given_above (length w.items) r new.0;
  grows = extends_grows full w items handed stands others e;
}

-- ---- read

-- the sorts of a line that reads
pub record ReadLine (full : List FullLine) (t : FullLine) (array : ℕ) (index : Operand) : Type 0 where
  pub k : ℕ
  pub n : ℕ
  pub of_array : sort_of_node full array ≡ Some (arrays k n)
  pub of_index : sort_of_node full index.id ≡ Some (words k)
  pub width : width_of full t.id ≡ n

node_full : (full front rest : List FullLine) (x : FullLine) (a : ℕ) (s : Sort) → full ≡ front ++ x ∷ rest → sort_of_node front a ≡ Some s → sort_of_node full a ≡ Some s
node_full full front rest x a s e h = ap (λ (l : List FullLine). sort_of_node l a) e ∙ node_on front (x ∷ rest) a s h

sort_full : (full front rest : List FullLine) (x : FullLine) (a : ℕ) (s : Sort) → full ≡ front ++ x ∷ rest → sort_at front a ≡ Some s → sort_at full a ≡ Some s
sort_full full front rest x a s e h = ap (λ (l : List FullLine). sort_at l a) e ∙ sort_on front (x ∷ rest) a s h

pub read_line : (full : List FullLine) (t : FullLine) (s array : ℕ) (index : Operand) → IsFullModel full → IsLine full t → t.says ≡ read s array index → ReadLine full t array index
read_line full t s array index w line says =
    let own = agrees_at full t w line in
    let agrees : SaysAgree own.front (read s array index) = subst (SaysAgree own.front) says own.agrees.agrees in
    record {
      k = agrees.0;
      n = agrees.1;
      of_array = node_full full own.front own.rest t array (arrays agrees.0 agrees.1) own.is agrees.3;
      of_index = node_full full own.front own.rest t index.id (words agrees.0) own.is agrees.4;
      width = ap size_of (line_node full t w line ∙ ap (sort_of full) says ∙ sort_full full own.front own.rest t s (words agrees.1) own.is agrees.2);
    }

pub some_index : (o : Option Sort) (k : ℕ) → IfSome o (λ s. (1 ≤ sort_size s) × (sort_size s ≤ 1048576)) → o ≡ Some (words k) → 1 ≤ k
some_index o k h e = (subst (λ (o : Option Sort). IfSome o (λ s. (1 ≤ sort_size s) × (sort_size s ≤ 1048576))) e h).0

pub read_nodes : (full : List FullLine) (t : FullLine) (s array : ℕ) (index : Operand) → IsFullModel full → IsLine full t → t.says ≡ read s array index → (is_some (sort_of_node full array) ≡ true) × (is_some (sort_of_node full index.id) ≡ true)
read_nodes full t s array index w line says =
    let nodes = subst (λ (b : Says). AllByRecursion (λ (o : Operand). is_some (sort_of_node full o.id) ≡ true) (operands_of b)) says (line_nodes full t w line) in
    (nodes.0, nodes.1.0)

pub read_done : (full : List FullLine) (w : Writing) (b : Says) (s array : ℕ) (index : Operand) → b ≡ read s array index → OperandsDone full w b → IsGiven (at_place w.nodes (place_of full array)) × IsGiven (at_place w.nodes (place_of full index.id))
read_done full w b s array index says h = let d = subst (OperandsDone full w) says h in (d.0, d.1.0)

pub read_word : (full : List FullLine) (w : Writing) (items : List Item) (t : FullLine) (s array : ℕ) (index : Operand) (a i n : ℕ) → t.says ≡ read s array index → width_of full t.id ≡ n → OperandStands full w index i
    → ((p : Places) (wide : List Item) → GoesOn full (with_items w items) p wide → p.node array ≡ a) → (more : List Item) → items ≡ w.items ++ more
    → (p : Places) (wide : List Item) → GoesOn full (with_items w items) p wide → InFrames wide (λ g. word_of_line full (read_by p g) t.id t.says ≡ Some (read_value n (g a) (g i)))
read_word full w items t s array index a i n says width o place more is p wide go state input g states inputs frame =
    ap (word_of_line full (read_by p g) t.id) says
    ∙ ap (λ (m : ℕ). Some (read_value m (g (p.node array)) (operand_word full (read_by p g) index))) width
    ∙ ap₂ (λ (x y : ℕ). Some (read_value n x y)) (ap g (place p wide go)) (sym (o.word p wide (goes_back full w items more p wide is go) state input g states inputs frame))

read_is_no_state : (b : Says) (s array : ℕ) (index : Operand) → b ≡ read s array index → is_form is_state b ≡ false
read_is_no_state b s array index e = ap (is_form is_state) e

read_no_constant : (full : List FullLine) (w : Writing) (id r : ℕ) (b : Says) (s array : ℕ) (index : Operand) → b ≡ read s array index → IsConstantOf full w id b r
read_no_constant full w id r b s array index e = subst (λ (c : Says). IsConstantOf full w id c r) (sym e) tt

pub read_made : (full : List FullLine) (w : Writing) (items : List Item) (t : FullLine) (s array : ℕ) (index : Operand) (a i n r leaf : ℕ) → NodesStand full w → t.says ≡ read s array index → width_of full t.id ≡ n → OperandStands full w index i
    → IsOther w.first a → ((p : Places) (wide : List Item) → GoesOn full (with_items w items) p wide → p.node array ≡ a) → Extends w.items items (a ∷ i ∷ []) → IsNew w.items items r → GivesWord items n (λ g. read_value n (g a) (g i)) r
    → IsMade full w items t leaf r
read_made full w items t s array index a i n r leaf stands says width o other place e new gives =
    value_made full w items (a ∷ i ∷ []) t leaf r n (λ g. read_value n (g a) (g i)) stands (other, (o.other, tt)) e new gives (sym width) (read_is_no_state t.says s array index says) (read_no_constant full (with_items w items) t.id r t.says s array index says)
    (read_word full w items t s array index a i n says width o place e.more e.is)

-- ---- write

pub record WriteLine (full : List FullLine) (t : FullLine) (array : ℕ) (index word : Operand) : Type 0 where
  pub k : ℕ
  pub n : ℕ
  pub of_array : sort_of_node full array ≡ Some (arrays k n)
  pub of_index : sort_of_node full index.id ≡ Some (words k)
  pub of_word : sort_of_node full word.id ≡ Some (words n)
  pub width : width_of full t.id ≡ 2 ^ k * n

pub write_line : (full : List FullLine) (t : FullLine) (s array : ℕ) (index word : Operand) → IsFullModel full → IsLine full t → t.says ≡ write s array index word → WriteLine full t array index word
write_line full t s array index word w line says =
    let own = agrees_at full t w line in
    let agrees : SaysAgree own.front (write s array index word) = subst (SaysAgree own.front) says own.agrees.agrees in
    record {
      k = agrees.0;
      n = agrees.1;
      of_array = node_full full own.front own.rest t array (arrays agrees.0 agrees.1) own.is agrees.3;
      of_index = node_full full own.front own.rest t index.id (words agrees.0) own.is agrees.4;
      of_word = node_full full own.front own.rest t word.id (words agrees.1) own.is agrees.5;
      width = ap size_of (line_node full t w line ∙ ap (sort_of full) says ∙ sort_full full own.front own.rest t s (arrays agrees.0 agrees.1) own.is agrees.2);
    }

pub write_nodes : (full : List FullLine) (t : FullLine) (s array : ℕ) (index word : Operand) → IsFullModel full → IsLine full t → t.says ≡ write s array index word
    → (is_some (sort_of_node full array) ≡ true) × (is_some (sort_of_node full index.id) ≡ true) × (is_some (sort_of_node full word.id) ≡ true)
write_nodes full t s array index word w line says =
    let nodes = subst (λ (b : Says). AllByRecursion (λ (o : Operand). is_some (sort_of_node full o.id) ≡ true) (operands_of b)) says (line_nodes full t w line) in
    (nodes.0, nodes.1.0, nodes.1.1.0)

pub write_done : (full : List FullLine) (w : Writing) (b : Says) (s array : ℕ) (index word : Operand) → b ≡ write s array index word → OperandsDone full w b
    → IsGiven (at_place w.nodes (place_of full array)) × IsGiven (at_place w.nodes (place_of full index.id)) × IsGiven (at_place w.nodes (place_of full word.id))
write_done full w b s array index word says h = let d = subst (OperandsDone full w) says h in (d.0, d.1.0, d.1.1.0)

pub write_word : (full : List FullLine) (w : Writing) (items : List Item) (t : FullLine) (s array : ℕ) (index word : Operand) (a i v n : ℕ) → t.says ≡ write s array index word → width_of full word.id ≡ n → OperandStands full w index i
    → OperandStands full w word v → ((p : Places) (wide : List Item) → GoesOn full (with_items w items) p wide → p.node array ≡ a) → (more : List Item) → items ≡ w.items ++ more
    → (p : Places) (wide : List Item) → GoesOn full (with_items w items) p wide → InFrames wide (λ g. word_of_line full (read_by p g) t.id t.says ≡ Some (write_value n (g a) (g i) (g v)))
write_word full w items t s array index word a i v n says width o q place more is p wide go state input g states inputs frame =
    let back = goes_back full w items more p wide is go in
    ap (word_of_line full (read_by p g) t.id) says
    ∙ ap₂ (λ (m x : ℕ). Some (write_value m x (operand_word full (read_by p g) index) (operand_word full (read_by p g) word))) width (ap g (place p wide go))
    ∙ ap₂ (λ (x y : ℕ). Some (write_value n (g a) x y)) (sym (o.word p wide back state input g states inputs frame)) (sym (q.word p wide back state input g states inputs frame))

write_is_no_state : (b : Says) (s array : ℕ) (index word : Operand) → b ≡ write s array index word → is_form is_state b ≡ false
write_is_no_state b s array index word e = ap (is_form is_state) e

write_no_constant : (full : List FullLine) (w : Writing) (id r : ℕ) (b : Says) (s array : ℕ) (index word : Operand) → b ≡ write s array index word → IsConstantOf full w id b r
write_no_constant full w id r b s array index word e = subst (λ (c : Says). IsConstantOf full w id c r) (sym e) tt

pub write_made : (full : List FullLine) (w : Writing) (items : List Item) (t : FullLine) (s array : ℕ) (index word : Operand) (a i v k n r leaf : ℕ) → NodesStand full w → t.says ≡ write s array index word → width_of full t.id ≡ 2 ^ k * n
    → width_of full word.id ≡ n → OperandStands full w index i → OperandStands full w word v → IsOther w.first a → ((p : Places) (wide : List Item) → GoesOn full (with_items w items) p wide → p.node array ≡ a)
    → Extends w.items items (a ∷ i ∷ v ∷ []) → IsNew w.items items r → GivesWord items (2 ^ k * n) (λ g. write_value n (g a) (g i) (g v)) r → IsMade full w items t leaf r
write_made full w items t s array index word a i v k n r leaf stands says width wide_word o q other place e new gives =
    value_made full w items (a ∷ i ∷ v ∷ []) t leaf r (2 ^ k * n) (λ g. write_value n (g a) (g i) (g v)) stands (other, (o.other, (q.other, tt))) e new gives (sym width) (write_is_no_state t.says s array index word says)
    (write_no_constant full (with_items w items) t.id r t.says s array index word says) (write_word full w items t s array index word a i v n says wide_word o q place e.more e.is)
