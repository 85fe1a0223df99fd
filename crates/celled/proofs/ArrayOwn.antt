-- What stands of a leaf that is added by its cells.
use Rattle.std.proofs.Common.{◌≡◌, ℕ, zero, suc, ◌+◌, ◌*◌, ◌<◌, ◌≤◌, Bool, true, false, cond, ◌||◌, List, [], ◌∷◌, ◌++◌, map, filter, flat_map, length, Option, Some, None, IfSome, unwrap_or, option_and_then, slice_get, append_assoc, refl, sym, ap, ap₂, subst, ◌∙◌, arith}
use Rattle.std.specs.List.{AllByRecursion, AllZip}
use Rattle.base.specs.Operator.{concat_value}
use Rattle.btor2.specs.declared.item.Item.{Item}
use Rattle.btor2.specs.declared.item.Body.{Body}
use Rattle.btor2.specs.declared.item.Body.TheVariants as body
use Rattle.btor2.specs.Items.{find_item, node_sort, operands, sort_bits, sort_width, node_width, width_of_body, constant_word, constant_of, names_state, is_input, is_state, is_bad, is_constraint}
use Rattle.btor2.specs.Reachability.{nodes_of}
use Rattle.btor2.specs.Trace.{Frame, bits_of}
use Rattle.btor2.proofs.AppendLemmas.{find_item-append, sort_width-append}
use Rattle.wide.specs.WideModels.{greatest_width, wide_refusal, IsWideModel}
use Rattle.full.specs.Gives.{GivesWord}
use Rattle.full.proofs.GivesLemmas.{gives_kept, gives_there}
use Rattle.full.proofs.ListLemmas.{all_with}
use Rattle.fit.specs.Fitting.{is_output, pieces_word, InitIsCarried, IsInputPiece}
use Rattle.fit.proofs.LineLemmas.{carries_input}
use Rattle.fit.proofs.ModelLemmas.{found_names}
use Rattle.fitting.specs.Fitted.{is_leaf, leaf_ids}
use Rattle.fitting.specs.Names.{IsNamed, names_of}
use Rattle.fitting.specs.Steps.{leaf_body}
use Rattle.writeout.specs.Faults.{is_live_body}
use Rattle.cells.specs.Lines.{named, is_plain, ArePlain, IsNumbered}
use Rattle.cells.proofs.PlaceLemmas.{found_at}
use Rattle.celled.specs.Names.{cell_symbol, names_from, cell_names}
use Rattle.celled.specs.Spots.{Spots, layout_by, ids_from}
use Rattle.celled.specs.Split.{GoesOn, Settled, HasWord, NextIsTaken, Stands}
use Rattle.celled.specs.Steps.{cell_lines, IsArray, IsSpotted}
use Rattle.celled.proofs.CellLemmas.{all_ids_from}
use Rattle.celled.proofs.StandLemmas.{goes_back, fresh_in, spotted_same}
use Rattle.celled.proofs.CopiedLemmas.{own_spot, own_there, line_at}
use Rattle.celled.proofs.OnLemmas.{ShowsMore}

-- ---- lines that show nothing

abbrev pub IsQuiet : Body → Type 0
IsQuiet b = (is_bad b ≡ false) × (is_constraint b ≡ false) × (is_output b ≡ false) × (is_live_body b ≡ false)

pub plain_is_quiet : (b : Body) → is_plain b ≡ true → IsQuiet b
plain_is_quiet (body.Bad a) h = absurd (cc)
plain_is_quiet (body.Constraint a) h = absurd (cc)
plain_is_quiet (body.Output a) h = absurd (cc)
plain_is_quiet (body.Fair a) h = absurd (cc)
plain_is_quiet (body.Justice nodes) h = absurd (cc)
plain_is_quiet _ h = (refl, refl, refl, refl)

pub no_nodes : (kind : Body → Bool) (xs : List Item) → AllByRecursion (λ (x : Item). kind x.body ≡ false) xs → nodes_of kind xs ≡ []
no_nodes kind [] h = refl
no_nodes kind (x ∷ xs) h = by (kind x.body) h.0 (no_nodes kind xs h.1)
  where
    by : (b : Bool) → b ≡ false → nodes_of kind xs ≡ [] → flat_map (λ (y : Item). operands y.body) (cond b (x ∷ filter (λ y. kind y.body) xs) (filter (λ y. kind y.body) xs)) ≡ []
    by true e rest = absurd (cc)
    by false e rest = rest

pub no_names : (kind : Body → Bool) (xs : List Item) → AllByRecursion (λ (x : Item). kind x.body ≡ false) xs → names_of kind xs ≡ []
no_names kind [] h = refl
no_names kind (x ∷ xs) h = by (kind x.body) h.0 (no_names kind xs h.1)
  where
    by : (b : Bool) → b ≡ false → names_of kind xs ≡ [] → map (λ (y : Item). y.symbol) (cond b (x ∷ filter (λ y. kind y.body) xs) (filter (λ y. kind y.body) xs)) ≡ []
    by true e rest = absurd (cc)
    by false e rest = rest

pub no_leaves : (xs : List Item) → AllByRecursion (λ (x : Item). is_leaf x ≡ false) xs → leaf_ids xs ≡ []
no_leaves [] h = refl
no_leaves (x ∷ xs) h = by (is_leaf x) h.0 (no_leaves xs h.1)
  where
    by : (b : Bool) → b ≡ false → leaf_ids xs ≡ [] → map (λ (y : Item). y.id) (cond b (x ∷ filter is_leaf xs) (filter is_leaf xs)) ≡ []
    by true e rest = absurd (cc)
    by false e rest = rest

pub shows_nothing : (kind : Body → Bool) (x : Item) (t' : Spots) (more : List Item) → kind x.body ≡ false → AllByRecursion (λ (y : Item). kind y.body ≡ false) more → ShowsMore kind x t' more
shows_nothing kind x t' more e h =
    record {
      nodes = ap (map t'.node) (no_nodes kind (x ∷ []) (e, tt)) ∙ sym (no_nodes kind more h);
      names = no_names kind (x ∷ []) (e, tt) ∙ sym (no_names kind more h);
    }

plain_is_no_leaf : (y : Item) → is_plain y.body ≡ true → is_leaf y ≡ false
plain_is_no_leaf y h = by y.body h
  where
    by : (b : Body) → is_plain b ≡ true → (is_input b || is_state b) ≡ false
    by (body.Input s) h = absurd (cc)
    by (body.State s) h = absurd (cc)
    by _ h = refl

pub plain_leaves : (xs : List Item) → ArePlain xs → leaf_ids xs ≡ []
plain_leaves xs h = no_leaves xs (all_with (λ (x : Item). is_plain x.body ≡ true) (λ (x : Item). is_leaf x ≡ false) xs plain_is_no_leaf h)

-- ---- cell lines

-- something is so of each cell line
pub all_cells : (P : Item → Type 0) (input : Bool) (s : ℕ) (symbol : Option (List ℕ)) (id index count : ℕ) → ((k j : ℕ) → P (named k (cell_symbol symbol j) (leaf_body input s))) → AllByRecursion P (cell_lines input s symbol id index count)
all_cells P input s symbol id index zero h = tt
all_cells P input s symbol id index (suc n) h = (h id index, all_cells P input s symbol (suc id) (suc index) n h)

pub leaf_is_quiet : (input : Bool) (s : ℕ) → IsQuiet (leaf_body input s)
leaf_is_quiet true s = (refl, refl, refl, refl)
leaf_is_quiet false s = (refl, refl, refl, refl)

pub cell_leaves : (input : Bool) (s : ℕ) (symbol : Option (List ℕ)) (id index count : ℕ) → leaf_ids (cell_lines input s symbol id index count) ≡ ids_from id count
cell_leaves input s symbol id index zero = refl
cell_leaves true s symbol id index (suc n) = ap (λ (l : List ℕ). id ∷ l) (cell_leaves true s symbol (suc id) (suc index) n)
cell_leaves false s symbol id index (suc n) = ap (λ (l : List ℕ). id ∷ l) (cell_leaves false s symbol (suc id) (suc index) n)

get_behind : (xs ys : List Item) (i : ℕ) → slice_get (xs ++ ys) (length xs + i) ≡ slice_get ys i
get_behind [] ys i = let e : 0 + i ≡ i = omega arith in ap (slice_get ys) e
get_behind (x ∷ xs) ys i = let e : suc (length xs) + i ≡ suc (length xs + i) = omega arith in ap (slice_get (x ∷ (xs ++ ys))) e ∙ get_behind xs ys i

get_cell : (input : Bool) (s : ℕ) (symbol : Option (List ℕ)) (id index count : ℕ) (rest : List Item) (i : ℕ) → i < count → slice_get (cell_lines input s symbol id index count ++ rest) i ≡ Some (named (id + i) (cell_symbol symbol (index + i)) (leaf_body input s))
get_cell input s symbol id index zero rest i h = absurd (omega (arith, h))
get_cell input s symbol id index (suc n) rest zero h =
    let d : id ≡ id + zero = omega arith in
    let e : index ≡ index + zero = omega arith in
    ap₂ (λ (k j : ℕ). Some (named k (cell_symbol symbol j) (leaf_body input s))) d e
get_cell input s symbol id index (suc n) rest (suc i) h =
    let d : suc id + i ≡ id + suc i = omega arith in
    let e : suc index + i ≡ index + suc i = omega arith in
    get_cell input s symbol (suc id) (suc index) n rest i (omega (arith, h)) ∙ ap₂ (λ (k j : ℕ). Some (named k (cell_symbol symbol j) (leaf_body input s))) d e

-- ---- what is known

pub record Arrayed (front : List Item) (t : Spots) (celled : List Item) (x : Item) (input : Bool) (s node first count size : ℕ) (t' : Spots) (celled' : List Item) (place : ℕ) : Type 0 where
  pub accepted : wide_refusal greatest_width front x ≡ None
  pub model : IsWideModel greatest_width celled'
  pub numbered : IsNumbered celled'
  pub leaf : x.body ≡ leaf_body input s
  pub width : sort_width front s ≡ Some (count * size)
  pub many : 2 ≤ count
  pub array : IsArray celled celled' input x.symbol node first count size
  pub spots : IsSpotted t t' x.id node first count place
  pub at : length front ≡ place

abbrev pub lines_of : (front : List Item) (t : Spots) (celled : List Item) (x : Item) (input : Bool) (s node first count size : ℕ) (t' : Spots) (celled' : List Item) (place : ℕ) → Arrayed front t celled x input s node first count size t' celled' place → List Item
lines_of front t celled x input s node first count size t' celled' place c = c.array.grows.more ++ (cell_lines input c.array.sort x.symbol first 0 count ++ c.array.behind.more)

pub lines_are : (front : List Item) (t : Spots) (celled : List Item) (x : Item) (input : Bool) (s node first count size : ℕ) (t' : Spots) (celled' : List Item) (place : ℕ) (c : Arrayed front t celled x input s node first count size t' celled' place)
    → celled' ≡ celled ++ lines_of front t celled x input s node first count size t' celled' place c
lines_are front t celled x input s node first count size t' celled' place c =
    let cells = cell_lines input c.array.sort x.symbol first 0 count in
    c.array.behind.is ∙ append_assoc c.array.before cells c.array.behind.more ∙ ap (λ (l : List Item). l ++ (cells ++ c.array.behind.more)) c.array.grows.is ∙ append_assoc celled c.array.grows.more (cells ++ c.array.behind.more)

-- each cell is found
cell_found : (front : List Item) (t : Spots) (celled : List Item) (x : Item) (input : Bool) (s node first count size : ℕ) (t' : Spots) (celled' : List Item) (place : ℕ) (c : Arrayed front t celled x input s node first count size t' celled' place) (i : ℕ) → i < count
    → find_item celled' (first + i) ≡ Some (named (first + i) (cell_symbol x.symbol i) (leaf_body input c.array.sort))
cell_found front t celled x input s node first count size t' celled' place c i less =
    let before = c.array.before in
    let cells = cell_lines input c.array.sort x.symbol first 0 count in
    let whole : celled' ≡ before ++ (cells ++ c.array.behind.more) = c.array.behind.is ∙ append_assoc before cells c.array.behind.more in
    let id : first + i ≡ length before + i + 1 = omega (arith, c.array.is_first) in
    ap (find_item celled') id ∙ found_at celled' (length before + i) c.numbered ∙ ap (λ (l : List Item). slice_get l (length before + i)) whole ∙ get_behind before (cells ++ c.array.behind.more) i
    ∙ get_cell input c.array.sort x.symbol first 0 count c.array.behind.more i less ∙ ap (λ (j : ℕ). Some (named (first + i) (cell_symbol x.symbol j) (leaf_body input c.array.sort))) (omega arith)

-- in lists that go on
pub record ArrayIn (front : List Item) (t : Spots) (celled : List Item) (x : Item) (input : Bool) (s node first count size sort : ℕ) (w : List Item) (u : Spots) (n : List Item) : Type 0 where
  pub back : GoesOn front t celled w u n
  pub node_is : u.node x.id ≡ node
  pub layout : layout_by u x.id ≡ ids_from first count
  pub count_is : u.count x.id ≡ count
  pub line : slice_get w (u.line x.id) ≡ Some x
  pub found : (i : ℕ) → i < count → find_item n (first + i) ≡ Some (named (first + i) (cell_symbol x.symbol i) (leaf_body input sort))
  pub sorted : sort_width n sort ≡ Some size
  pub whole : GivesWord n (count * size) (λ g. pieces_word (λ p. size) g (ids_from first count)) node
  pub model : IsWideModel greatest_width n

pub array_in : (front : List Item) (t : Spots) (celled : List Item) (x : Item) (input : Bool) (s node first count size : ℕ) (t' : Spots) (celled' : List Item) (place : ℕ) (w : List Item) (u : Spots) (n : List Item) (c : Arrayed front t celled x input s node first count size t' celled' place)
    → GoesOn (front ++ x ∷ []) t' celled' w u n → ArrayIn front t celled x input s node first count size c.array.sort w u n
array_in front t celled x input s node first count size t' celled' place w u n c g =
    let fresh = fresh_in front x c.accepted in
    let there = own_there front x fresh in
    let line : u.line x.id ≡ length front = g.line x.id there ∙ c.spots.line_at x.id ∙ own_spot x.id place (t.line x.id) ∙ sym c.at in
    let count_is : u.count x.id ≡ count = g.count x.id there ∙ c.spots.count_at x.id ∙ own_spot x.id count (t.count x.id) in
    let cells = cell_lines input c.array.sort x.symbol first 0 count in
    let sorted : sort_width celled' c.array.sort ≡ Some size =
    ap (λ (l : List Item). sort_width l c.array.sort) c.array.behind.is ∙ sort_width-append (c.array.before ++ cells) c.array.behind.more c.array.sort size (sort_width-append c.array.before cells c.array.sort size c.array.width) in
    record {
      back = goes_back front x t t' celled celled' _ w u n (lines_are front t celled x input s node first count size t' celled' place c) (spotted_same front t t' x.id node first count place fresh c.spots) g;
      node_is = g.node x.id there ∙ c.spots.node_at x.id ∙ own_spot x.id node (t.node x.id);
      layout = ap₂ ids_from (g.first x.id there ∙ c.spots.first_at x.id ∙ own_spot x.id first (t.first x.id)) count_is;
      count_is = count_is;
      line = ap₂ slice_get g.wide_is line ∙ line_at front x g.lines;
      found = λ i less. ap (λ (l : List Item). find_item l (first + i)) g.is ∙ find_item-append celled' g.more (first + i) _ (cell_found front t celled x input s node first count size t' celled' place c i less);
      sorted = ap (λ (l : List Item). sort_width l c.array.sort) g.is ∙ sort_width-append celled' g.more c.array.sort size sorted;
      whole = subst (λ (l : List Item). GivesWord l (count * size) (λ g. pieces_word (λ p. size) g (ids_from first count)) node) (sym g.is) (gives_kept celled' g.more (count * size) (λ g. pieces_word (λ p. size) g (ids_from first count)) node c.array.whole);
      model = g.model;
    }

-- ---- the parts of what stands

leaf_width : (items : List Item) (input : Bool) (s n : ℕ) → sort_width items s ≡ Some n → width_of_body items (leaf_body input s) ≡ Some n
leaf_width items true s n h = h
leaf_width items false s n h = h

leaf_sort : (input : Bool) (s : ℕ) → node_sort (leaf_body input s) ≡ Some s
leaf_sort true s = refl
leaf_sort false s = refl

leaf_input : (input : Bool) (s : ℕ) → is_input (leaf_body input s) ≡ input
leaf_input true s = refl
leaf_input false s = refl

leaf_state : (input : Bool) (s k : ℕ) → is_state (leaf_body input s) ≡ is_state (leaf_body input k)
leaf_state true s k = refl
leaf_state false s k = refl

pub widths_in : (front : List Item) (t : Spots) (celled : List Item) (x : Item) (input : Bool) (s node first count size sort : ℕ) (w : List Item) (u : Spots) (n : List Item) → ArrayIn front t celled x input s node first count size sort w u n → AllByRecursion (λ p. node_width n p ≡ Some size) (ids_from first count)
widths_in front t celled x input s node first count size sort w u n i =
    all_ids_from (λ p. node_width n p ≡ Some size) first count (λ k less. ap (option_and_then (λ (y : Item). width_of_body n y.body)) (i.found k less) ∙ leaf_width n input sort size i.sorted)

pub same_widths : (width : ℕ → ℕ) (size : ℕ) (g : Frame) (ps : List ℕ) → AllByRecursion (λ p. width p ≡ size) ps → pieces_word width g ps ≡ pieces_word (λ p. size) g ps
same_widths width size g [] h = refl
same_widths width size g (p ∷ ps) h = ap₂ (λ (hi k : ℕ). concat_value hi k (g p)) (same_widths width size g ps h.1) h.0

pub bits_are : (n : List Item) (size : ℕ) (ps : List ℕ) → AllByRecursion (λ p. node_width n p ≡ Some size) ps → AllByRecursion (λ p. bits_of n p ≡ size) ps
bits_are n size ps h = all_with (λ p. node_width n p ≡ Some size) (λ p. bits_of n p ≡ size) ps (λ p e. ap (λ (o : Option ℕ). unwrap_or o 0) e) h

array_word : (front : List Item) (t : Spots) (celled : List Item) (x : Item) (input : Bool) (s node first count size : ℕ) (t' : Spots) (celled' : List Item) (place : ℕ) (w : List Item) (u : Spots) (n : List Item) (c : Arrayed front t celled x input s node first count size t' celled' place)
    → ArrayIn front t celled x input s node first count size c.array.sort w u n → HasWord w u n x.id s
array_word front t celled x input s node first count size t' celled' place w u n c i =
    let widths = widths_in front t celled x input s node first count size c.array.sort w u n i in
    let many = c.many in
    record {
      bits = count * size;
      size = size;
      sort_bits = ap (λ (l : List Item). sort_width l s) i.back.wide_is ∙ sort_width-append front i.back.lines s (count * size) c.width;
      node = ap (node_width n) i.node_is ∙ i.whole.width;
      cells = subst (AllByRecursion (λ p. node_width n p ≡ Some size)) (sym i.layout) widths;
      together = ap (λ (k : ℕ). k * size) i.count_is;
      alone = λ one. let e = sym i.count_is ∙ one in absurd (omega (arith, e, many));
      word = λ st inp f states inputs frame.
          ap f i.node_is ∙ gives_there n (count * size) (λ g. pieces_word (λ p. size) g (ids_from first count)) node i.model i.whole st inp f states inputs frame
          ∙ sym (same_widths (bits_of n) size f (ids_from first count) (bits_are n size (ids_from first count) widths)) ∙ ap (pieces_word (bits_of n) f) (sym i.layout);
    }

names_zip : (n : List Item) (symbol : Option (List ℕ)) (input : Bool) (sort first index count : ℕ) → ((i : ℕ) → i < count → find_item n (first + i) ≡ Some (named (first + i) (cell_symbol symbol (index + i)) (leaf_body input sort)))
    → AllZip (IsNamed n) (ids_from first count) (names_from symbol index (ids_from first count))
names_zip n symbol input sort first index zero h = tt
names_zip n symbol input sort first index (suc k) h =
    let d : first + 0 ≡ first = omega arith in
    let e : index + 0 ≡ index = omega arith in
    let own : find_item n first ≡ Some (named first (cell_symbol symbol index) (leaf_body input sort)) = ap (find_item n) (sym d) ∙ h 0 (omega arith) ∙ ap₂ (λ (i j : ℕ). Some (named i (cell_symbol symbol j) (leaf_body input sort))) d e in (
      (named first (cell_symbol symbol index) (leaf_body input sort), own, refl),
      names_zip n symbol input sort (suc first) (suc index) k
          (λ i less.
          let f : first + suc i ≡ suc first + i = omega arith in
          let j : index + suc i ≡ suc index + i = omega arith in
          ap (find_item n) (sym f) ∙ h (suc i) (omega (arith, less)) ∙ ap₂ (λ (i j : ℕ). Some (named i (cell_symbol symbol j) (leaf_body input sort))) f j),
    )

many_names : (symbol : Option (List ℕ)) (first count : ℕ) → 2 ≤ count → cell_names symbol (ids_from first count) ≡ names_from symbol 0 (ids_from first count)
many_names symbol first zero h = absurd (omega (arith, h))
many_names symbol first (suc zero) h = absurd (omega (arith, h))
many_names symbol first (suc (suc n)) h = refl

pub array_stands : (front : List Item) (t : Spots) (celled : List Item) (x : Item) (input : Bool) (s node first count size : ℕ) (t' : Spots) (celled' : List Item) (place : ℕ) → Arrayed front t celled x input s node first count size t' celled' place → Settled (front ++ x ∷ []) t' celled' (Stands x)
array_stands front t celled x input s node first count size t' celled' place c w u n g =
    let i = array_in front t celled x input s node first count size t' celled' place w u n c g in
    let sort = c.array.sort in
    record {
      line = i.line;
      sort = by_sort x.body input c.leaf;
      value = subst (λ (o : Option ℕ). IfSome o (HasWord w u n x.id)) (sym (ap node_sort c.leaf ∙ leaf_sort input s)) (array_word front t celled x input s node first count size t' celled' place w u n c i);
      constant = by_constant x.body input c.leaf;
      carried = λ other. carries_input w n (layout_by u) x (is_input_line x.body input c.leaf other)
          (subst (AllByRecursion (IsInputPiece n)) (sym i.layout) (all_ids_from (IsInputPiece n) first count (λ k less. (named (first + k) (cell_symbol x.symbol k) (leaf_body input sort), i.found k less, leaf_input input sort ∙ sym (leaf_input input s) ∙ ap is_input (sym c.leaf) ∙ is_input_line x.body input c.leaf other))));
      leaf = λ is. subst (AllByRecursion (λ p. names_state n p ≡ is_state x.body)) (sym i.layout)
          (all_ids_from (λ p. names_state n p ≡ is_state x.body) first count (λ k less. found_names n (named (first + k) (cell_symbol x.symbol k) (leaf_body input sort)) (is_state x.body) (i.found k less) (leaf_state input sort s ∙ ap is_state (sym c.leaf))));
      names = λ is. subst (λ (l : List ℕ). AllZip (IsNamed n) l (cell_names x.symbol l)) (sym i.layout)
          (subst (AllZip (IsNamed n) (ids_from first count)) (sym (many_names x.symbol first count c.many))
          (names_zip n x.symbol input sort first 0 count (λ k less. i.found k less ∙ ap (λ (j : ℕ). Some (named (first + k) (cell_symbol x.symbol j) (leaf_body input sort))) (omega arith))));
      init = by_init x.body input c.leaf;
      next = by_next x.body input c.leaf;
    }
  where
    by_sort : (b : Body) (input : Bool) → b ≡ leaf_body input s → IfSome (sort_bits b) (λ k. sort_width n (u.node x.id) ≡ Some k)
    by_sort b true e = subst (λ (b : Body). IfSome (sort_bits b) (λ k. sort_width n (u.node x.id) ≡ Some k)) (sym e) tt
    by_sort b false e = subst (λ (b : Body). IfSome (sort_bits b) (λ k. sort_width n (u.node x.id) ≡ Some k)) (sym e) tt

    by_constant : (b : Body) (input : Bool) → b ≡ leaf_body input s → IfSome (constant_word (bits_of w x.id) b) (λ k. constant_of n (u.node x.id) ≡ Some k)
    by_constant b true e = subst (λ (b : Body). IfSome (constant_word (bits_of w x.id) b) (λ k. constant_of n (u.node x.id) ≡ Some k)) (sym e) tt
    by_constant b false e = subst (λ (b : Body). IfSome (constant_word (bits_of w x.id) b) (λ k. constant_of n (u.node x.id) ≡ Some k)) (sym e) tt

    is_input_line : (b : Body) (input : Bool) → b ≡ leaf_body input s → is_state b ≡ false → is_input b ≡ true
    is_input_line b true e other = ap is_input e
    is_input_line b false e other = absurd (let yes = ap is_state e in cc)

    by_init : (b : Body) (input : Bool) → b ≡ leaf_body input s → InitIsCarried w (layout_by u) n b
    by_init b true e = subst (InitIsCarried w (layout_by u) n) (sym e) tt
    by_init b false e = subst (InitIsCarried w (layout_by u) n) (sym e) tt

    by_next : (b : Body) (input : Bool) → b ≡ leaf_body input s → NextIsTaken u n b
    by_next b true e = subst (NextIsTaken u n) (sym e) tt
    by_next b false e = subst (NextIsTaken u n) (sym e) tt
