-- The cells of an array, and the node of the word that they make.
use Rattle.std.proofs.Common.{◌≡◌, ℕ, zero, suc, ◌+◌, ◌*◌, ◌/◌, ◌^◌, ◌<◌, ◌≤◌, Bool, true, false, List, [], ◌∷◌, ◌++◌, length, length-append, Option, Some, ⊎_elim, append_assoc, refl, sym, ap, ap₂, subst, ◌∙◌, arith, pow_pos}
use Rattle.std.proofs.lemmas.Bool.{cases_lt}
use Rattle.std.proofs.Math.Nat.{pow-suc}
use Rattle.base.specs.Operator.{concat_value}
use Rattle.btor2.specs.declared.item.Item.{Item}
use Rattle.btor2.specs.Items.{sort_width, node_width, width_of_body}
use Rattle.btor2.specs.Trace.{Frame}
use Rattle.btor2.proofs.AppendLemmas.{node_width-append, sort_width-append}
use Rattle.full.specs.Gives.{GivesWord}
use Rattle.full.proofs.GivesLemmas.{gives_kept, gives_same}
use Rattle.fit.specs.Fitting.{pieces_word}
use Rattle.fitting.specs.Steps.{leaf_body}
use Rattle.cells.specs.Lines.{named, Extends}
use Rattle.cells.proofs.PlaceLemmas.{width_last}
use Rattle.celled.specs.Names.{cell_symbol}
use Rattle.celled.specs.Spots.{ids_from}
use Rattle.celled.specs.Steps.{IsPut, GrowsPlain, cell_lines, IsArray, HaveSize}
use Rattle.celled.proofs.CellLemmas.{all_ids_from, at_ids_from, word_joined}
use Rattle.celled.proofs.GrowLemmas.{grows_by, grows_twice, node_grown}

-- ---- halves

pub record Halved (count : ℕ) : Type 0 where
  pub k : ℕ
  pub power : count / 2 ≡ 2 ^ k
  pub both : count ≡ count / 2 + count / 2
  pub less : count / 2 < count
  pub some : 1 ≤ count / 2

pub halved : (count : ℕ) → (k : ℕ) × (count ≡ 2 ^ k) → (count ≡ 1 → ⊥) → Halved count
halved count h one = by h.0 h.1
  where
    by : (k : ℕ) → count ≡ 2 ^ k → Halved count
    by zero e = absurd (one e)
    by (suc k) e =
        let twice : count ≡ 2 ^ k + 2 ^ k = e ∙ pow-suc 2 k ∙ omega arith in
        let half : count / 2 ≡ 2 ^ k = omega (arith, twice) in
        let positive : 1 ≤ 2 ^ k = pow_pos k in
        record { k = k; power = half; both = twice ∙ ap₂ (λ (i j : ℕ). i + j) (sym half) (sym half); less = omega (arith, twice, half, positive); some = omega (arith, half, positive) }

pub low_cells : (items : List Item) (size first count : ℕ) → Halved count → HaveSize items size (ids_from first count) → HaveSize items size (ids_from first (count / 2))
low_cells items size first count h cells =
    all_ids_from (λ p. node_width items p ≡ Some size) first (count / 2) (λ i less. at_ids_from (λ p. node_width items p ≡ Some size) first count i cells (omega (arith, less, h.less)))

pub high_cells : (items mid : List Item) (size first count : ℕ) → Halved count → GrowsPlain items mid → HaveSize items size (ids_from first count) → HaveSize mid size (ids_from (first + count / 2) (count / 2))
high_cells items mid size first count h grows cells =
    all_ids_from (λ p. node_width mid p ≡ Some size) (first + count / 2) (count / 2)
    (λ i less.
    let same : first + (count / 2 + i) ≡ first + count / 2 + i = omega arith in
    node_grown items mid (first + count / 2 + i) size grows
    (subst (λ (p : ℕ). node_width items p ≡ Some size) same (at_ids_from (λ p. node_width items p ≡ Some size) first count (count / 2 + i) cells (omega (arith, less, h.both)))))

pub half_most : (count size most : ℕ) → Halved count → count * size ≤ most → count / 2 * size + count / 2 * size ≤ most
half_most count size most h k =
    let e : count * size ≡ count / 2 * size + count / 2 * size = ap (λ (n : ℕ). n * size) h.both ∙ grind arith in
    omega (arith, e, k)

gives_on : (old new : List Item) (bits : ℕ) (value : Frame → ℕ) (w : ℕ) → GrowsPlain old new → GivesWord old bits value w → GivesWord new bits value w
gives_on old new bits value w g h = subst (λ (l : List Item). GivesWord l bits value w) (sym g.is) (gives_kept old g.more bits value w h)

-- the node of both halves
pub joined_word : (a b c : List Item) (first count size low high node : ℕ) → Halved count → GrowsPlain a b → GrowsPlain b c
    → GivesWord a (count / 2 * size) (λ g. pieces_word (λ p. size) g (ids_from first (count / 2))) low
    → GivesWord b (count / 2 * size) (λ g. pieces_word (λ p. size) g (ids_from (first + count / 2) (count / 2))) high
    → GivesWord c (count / 2 * size + count / 2 * size) (λ g. concat_value (g high) (count / 2 * size) (g low)) node
    → GivesWord c (count * size) (λ g. pieces_word (λ p. size) g (ids_from first count)) node
joined_word a b c first count size low high node h ab bc lows highs whole =
    let half = count / 2 in
    let low_word = gives_on a c (half * size) (λ g. pieces_word (λ p. size) g (ids_from first half)) low (grows_twice a b c ab bc) lows in
    let high_word = gives_on b c (half * size) (λ g. pieces_word (λ p. size) g (ids_from (first + half) half)) high bc highs in
    let bits : half * size + half * size ≡ count * size = sym (ap (λ (n : ℕ). n * size) h.both ∙ grind arith) in
    let same = gives_same c (half * size + half * size) (λ g. concat_value (g high) (half * size) (g low)) (λ g. pieces_word (λ p. size) g (ids_from first count)) node whole
    (λ more w state input g states inputs frame.
    ap₂ (λ (i j : ℕ). concat_value i (half * size) j) (high_word.word more w state input g states inputs frame) (low_word.word more w state input g states inputs frame)
    ∙ sym (word_joined size g first half half) ∙ ap (λ (n : ℕ). pieces_word (λ p. size) g (ids_from first n)) (sym h.both)) in
    subst (λ (n : ℕ). GivesWord c n (λ g. pieces_word (λ p. size) g (ids_from first count)) node) bits same

-- one cell is its own word
pub alone_word : (items : List Item) (first count size : ℕ) → count ≡ 1 → GivesWord items size (λ g. g first) first → GivesWord items (count * size) (λ g. pieces_word (λ p. size) g (ids_from first count)) first
alone_word items first count size e h =
    let bits : size ≡ count * size = omega arith ∙ ap (λ (n : ℕ). n * size) (sym e) in
    let same = gives_same items size (λ g. g first) (λ g. pieces_word (λ p. size) g (ids_from first 1)) first h (λ more w state input g states inputs frame. omega arith) in
    subst (λ (n : ℕ). GivesWord items (count * size) (λ g. pieces_word (λ p. size) g (ids_from first n)) first) (sym e)
    (subst (λ (n : ℕ). GivesWord items n (λ g. pieces_word (λ p. size) g (ids_from first 1)) first) bits same)

-- ---- cells one after the other

pub length_cells : (input : Bool) (s : ℕ) (symbol : Option (List ℕ)) (id index count : ℕ) → length (cell_lines input s symbol id index count) ≡ count
length_cells input s symbol id index zero = refl
length_cells input s symbol id index (suc n) = ap suc (length_cells input s symbol (suc id) (suc index) n)

pub cells_more : (input : Bool) (s : ℕ) (symbol : Option (List ℕ)) (id index count : ℕ) → cell_lines input s symbol id index (count + 1) ≡ cell_lines input s symbol id index count ++ named (id + count) (cell_symbol symbol (index + count)) (leaf_body input s) ∷ []
cells_more input s symbol id index zero =
    let d : id ≡ id + zero = omega arith in
    let e : index ≡ index + zero = omega arith in
    ap₂ (λ (i k : ℕ). named i (cell_symbol symbol k) (leaf_body input s) ∷ []) d e
cells_more input s symbol id index (suc n) =
    let e : suc n + 1 ≡ suc (n + 1) = omega arith in
    let d : suc id + n ≡ id + suc n = omega arith in
    let f : suc index + n ≡ index + suc n = omega arith in
    ap (cell_lines input s symbol id index) e
    ∙ ap (λ (l : List Item). named id (cell_symbol symbol index) (leaf_body input s) ∷ l) (cells_more input s symbol (suc id) (suc index) n)
    ∙ ap₂ (λ (i k : ℕ). named id (cell_symbol symbol index) (leaf_body input s) ∷ (cell_lines input s symbol (suc id) (suc index) n ++ named i (cell_symbol symbol k) (leaf_body input s) ∷ [])) d f

pub cell_put : (old now new : List Item) (input : Bool) (s : ℕ) (symbol : Option (List ℕ)) (first index id : ℕ) → now ≡ old ++ cell_lines input s symbol first 0 index → first ≡ length old + 1
    → IsPut now new id (cell_symbol symbol index) (leaf_body input s) → (new ≡ old ++ cell_lines input s symbol first 0 (index + 1)) × (id ≡ first + index)
cell_put old now new input s symbol first index id is at put =
    let many : length now ≡ length old + index = ap length is ∙ length-append old (cell_lines input s symbol first 0 index) ∙ ap (λ (n : ℕ). length old + n) (length_cells input s symbol first 0 index) in
    let here : id ≡ first + index = put.next ∙ omega (arith, many, at) in
    let line : named id (cell_symbol symbol index) (leaf_body input s) ∷ [] ≡ named (first + index) (cell_symbol symbol (0 + index)) (leaf_body input s) ∷ [] =
    ap₂ (λ (i k : ℕ). named i (cell_symbol symbol k) (leaf_body input s) ∷ []) here (omega arith) in (
      put.is ∙ ap (λ (l : List Item). l ++ named id (cell_symbol symbol index) (leaf_body input s) ∷ []) is ∙ append_assoc old (cell_lines input s symbol first 0 index) _
          ∙ ap (λ (l : List Item). old ++ (cell_lines input s symbol first 0 index ++ l)) line ∙ ap (λ (l : List Item). old ++ l) (sym (cells_more input s symbol first 0 index)),
      here,
    )

leaf_width : (items : List Item) (input : Bool) (s n : ℕ) → sort_width items s ≡ Some n → width_of_body items (leaf_body input s) ≡ Some n
leaf_width items true s n h = h
leaf_width items false s n h = h

-- a cell that is added has the width of its sort
pub cell_width : (now new : List Item) (input : Bool) (s size id : ℕ) (symbol : Option (List ℕ)) → sort_width now s ≡ Some size → IsPut now new id symbol (leaf_body input s) → node_width new id ≡ Some size
cell_width now new input s size id symbol sort put = ap (λ (l : List Item). node_width l id) put.is ∙ width_last now id size symbol (leaf_body input s) put.fresh (leaf_width now input s size sort)

pub widths_first : (now new : List Item) (input : Bool) (s size first : ℕ) (symbol : Option (List ℕ)) → sort_width now s ≡ Some size → IsPut now new first symbol (leaf_body input s) → (i : ℕ) → i < 1 → node_width new (first + i) ≡ Some size
widths_first now new input s size first symbol sort put zero less = subst (λ (p : ℕ). node_width new p ≡ Some size) (omega arith) (cell_width now new input s size first symbol sort put)
widths_first now new input s size first symbol sort put (suc i) less = absurd (omega (arith, less))

pub widths_step : (now new : List Item) (input : Bool) (s size first index id : ℕ) (symbol : Option (List ℕ)) → sort_width now s ≡ Some size → IsPut now new id symbol (leaf_body input s) → id ≡ first + index → ((i : ℕ) → i < index → node_width now (first + i) ≡ Some size)
    → (i : ℕ) → i < index + 1 → node_width new (first + i) ≡ Some size
widths_step now new input s size first index id symbol sort put is before i less =
    ⊎_elim
    (λ (old : i < index). ap (λ (l : List Item). node_width l (first + i)) put.is ∙ node_width-append now (named id symbol (leaf_body input s) ∷ []) (first + i) size (before i old))
    (λ (last : index ≤ i). let here : id ≡ first + i = is ∙ omega (arith, less, last) in subst (λ (p : ℕ). node_width new p ≡ Some size) here (cell_width now new input s size id symbol sort put))
    (cases_lt i index)

pub sort_cells : (old now lines : List Item) (s n : ℕ) → now ≡ old ++ lines → sort_width old s ≡ Some n → sort_width now s ≡ Some n
sort_cells old now lines s n e h = ap (λ (l : List Item). sort_width l s) e ∙ sort_width-append old lines s n h

pub first_put : (old new : List Item) (input : Bool) (s : ℕ) (symbol : Option (List ℕ)) (first : ℕ) → IsPut old new first (cell_symbol symbol 0) (leaf_body input s) → new ≡ old ++ cell_lines input s symbol first 0 1
first_put old new input s symbol first put = put.is

pub is_array : (old before mid new : List Item) (input : Bool) (symbol : Option (List ℕ)) (s node first count size : ℕ) → Extends old before [] → sort_width before s ≡ Some size → mid ≡ before ++ cell_lines input s symbol first 0 count → first ≡ length before + 1
    → GrowsPlain mid new → GivesWord new (count * size) (λ g. pieces_word (λ p. size) g (ids_from first count)) node → IsArray old new input symbol node first count size
is_array old before mid new input symbol s node first count size e sort is at grows word =
    record {
      before = before;
      grows = grows_by old before [] e;
      sort = s;
      width = sort;
      is_first = at;
      behind = subst (λ (l : List Item). GrowsPlain l new) is grows;
      whole = word;
    }
