-- The latches of states.
use Rattle.std.proofs.Common.{◌≡◌, ℕ, zero, suc, ◌+◌, ◌*◌, ◌/◌, ◌%◌, ◌^◌, ◌<◌, ◌≤◌, Bool, true, false, cond, ◌==◌, List, [], ◌∷◌, ◌++◌, length, map, set, get_or, take, replicate, All, Option, Some, None, is_some, unwrap_or, option_map, slice_get, refl, sym, ap, ap₂, subst, ◌∙◌, length-append, arith, not}
use Rattle.std.proofs.Math.Nat.{pow-suc, div-div-eq-div-mul}
use Rattle.std.proofs.lemmas.List.{map-append, take_more, length-take-le}
use Rattle.std.proofs.lemmas.List.Elements.{All-nil, All-cons, All-append, All-get_or, All-head, All-tail}
use Rattle.std.proofs.lemmas.List.Sums.{sum_by-cons}
use Rattle.base.specs.Word.{bit, bits}
use Rattle.btor2.specs.declared.item.Item.{Item}
use Rattle.btor2.specs.Items.{node_width, is_state, is_carried_state, next_value, init_word}
use Rattle.btor2.specs.Check.{IsWellFormed}
use Rattle.btor2.specs.Lists.{places, first_init_without_next, is_free_at}
use Rattle.btor2.specs.Trace.{bits_of, next_state}
use Rattle.btor2.specs.Leaves.{kind_width}
use Rattle.btor2.proofs.AppendLemmas.{some_of}
use Rattle.btor2.proofs.ModelLemmas.{IsNextOf-from_value, node_width-range}
use Rattle.aiger.specs.declared.circuit.Latch.{Latch}
use Rattle.aiger.specs.declared.circuit.Reset.{Reset}
use Rattle.aiger.specs.declared.circuit.Reset.TheVariants as reset
use Rattle.base.specs.Literal.{literal_value}
use Rattle.aiger.specs.Net.{Net, IsDefined}
use Rattle.aiger.specs.Circuit.{Circuit, net, with_latch, fresh_latch}
use Rattle.blast.specs.Blocks.{block, blocks, written_over}
use Rattle.blast.specs.Cost.{carried_width}
use Rattle.blast.specs.Leaves.{by_body, given_by_kind, reset_of_bit, resets_of_word, leaf_resets, leaf_bits}
use Rattle.blast.specs.Reads.{ReadsWord, RowsRead, LatchesRead}
use Rattle.blast.specs.Rows.{row_at, reset_at, row_latches, state_latches, item_latches}
use Rattle.blast.proofs.KindBlocks.{written-nil, written-more, length-written, blocks-of_kind, of_kind-within, so_far, reached, so_far-none, so_far-all, so_far-room, so_far-more, reached-more}
use Rattle.blast.proofs.KindRows.{row_at-reads, carried_parts, head_next, tail_next, state_by_number, next-given}

-- The latches of a row.

pub length-row_latches : (init : Option ℕ) (i : ℕ) (row : List ℕ) → length (row_latches init i row) ≡ length row
unfolding row_latches
length-row_latches init i [] = refl
length-row_latches init i (l ∷ row) = ap suc (length-row_latches init (suc i) row)

nexts-row_latches : {A : Type 0} (f : ℕ → A) (init : Option ℕ) (i : ℕ) (row : List ℕ) → map (λ (latch : Latch). f latch.next) (row_latches init i row) ≡ map f row
unfolding row_latches
nexts-row_latches f init i [] = refl
nexts-row_latches f init i (l ∷ row) = ap (λ (rest : List _). f l ∷ rest) (nexts-row_latches f init (suc i) row)

defined-row_latches : (n : Net) (init : Option ℕ) (i : ℕ) (row : List ℕ) → All (IsDefined n) row → All (λ (latch : Latch). IsDefined n latch.next) (row_latches init i row)
unfolding row_latches
defined-row_latches n init i [] h = All-nil (λ (latch : Latch). IsDefined n latch.next)
defined-row_latches n init i (l ∷ row) h =
    All-cons (λ (latch : Latch). IsDefined n latch.next) (record { next = l; reset = reset_at init i }) (row_latches init (suc i) row)
    (All-head (IsDefined n) l row h)
    (defined-row_latches n init (suc i) row (All-tail (IsDefined n) l row h))

free-row_latches : (i : ℕ) (row : List ℕ) → map (λ (latch : Latch). latch.reset) (row_latches None i row) ≡ replicate (length row) reset.Free
unfolding row_latches
free-row_latches i [] = refl
free-row_latches i (l ∷ row) = ap (λ (rest : List Reset). reset.Free ∷ rest) (free-row_latches (suc i) row)

-- the bits of a word, one by one
given-row_latches : (x i : ℕ) (row : List ℕ) → map (λ (latch : Latch). latch.reset) (row_latches (Some x) i row) ≡ map reset_of_bit (bits (length row) (x / 2 ^ i))
unfolding row_latches
given-row_latches x i [] = refl
given-row_latches x i (l ∷ row) =
    let two : 2 ^ suc i ≡ 2 ^ i * 2 = omega (arith, pow-suc 2 i) in
    let half : x / 2 ^ suc i ≡ x / 2 ^ i / 2 = ap (λ (d : ℕ). x / d) two ∙ sym (div-div-eq-div-mul x (2 ^ i) 2) in
    ap (λ (rest : List Reset). reset_of_bit (x / 2 ^ i % 2 == 1) ∷ rest)
    (given-row_latches x (suc i) row ∙ ap (λ (y : ℕ). map reset_of_bit (bits (length row) y)) half)

resets-row_latches : (init : Option ℕ) (row : List ℕ) (width : ℕ) → length row ≡ width → map (λ (latch : Latch). latch.reset) (row_latches init 0 row) ≡ resets_of_word width init
resets-row_latches None row width e = free-row_latches 0 row ∙ ap (λ (n : ℕ). replicate n reset.Free) e
resets-row_latches (Some x) row width e =
    let whole : x / 2 ^ 0 ≡ x = omega arith in
    given-row_latches x 0 row ∙ ap₂ (λ (n y : ℕ). map reset_of_bit (bits n y)) e whole

-- a bit more
row_latches_after : (init : Option ℕ) (i : ℕ) (row : List ℕ) (l : ℕ) → row_latches init i (row ++ l ∷ []) ≡ row_latches init i row ++ record { next = l; reset = reset_at init (i + length row) } ∷ []
unfolding row_latches
row_latches_after init i [] l =
    let e : i ≡ i + zero = omega arith in
    let one : ℕ → List Latch = λ j. record { next = l; reset = reset_at init j } ∷ [] in
    ap one e
row_latches_after init i (m ∷ row) l =
    let e : suc i + length row ≡ i + suc (length row) = omega arith in
    let more : ℕ → List Latch = λ j. record { next = m; reset = reset_at init i } ∷ (row_latches init (suc i) row ++ record { next = l; reset = reset_at init j } ∷ []) in
    ap (λ (rest : List Latch). record { next = m; reset = reset_at init i } ∷ rest) (row_latches_after init (suc i) row l) ∙ ap more e

pub row_latches-more : (init : Option ℕ) (row : List ℕ) (i : ℕ) → i < length row
    → row_latches init 0 (take (i + 1) row) ≡ row_latches init 0 (take i row) ++ record { next = get_or row i 0; reset = reset_at init i } ∷ []
row_latches-more init row i h =
    let e : 0 + length (take i row) ≡ i = omega (arith, length-take-le i row (omega arith)) in
    let more : ℕ → List Latch = λ j. row_latches init 0 (take i row) ++ record { next = get_or row i 0; reset = reset_at init j } ∷ [] in
    ap (row_latches init 0) (take_more row i 0 h) ∙ row_latches_after init 0 (take i row) (get_or row i 0) ∙ ap more e

-- The latches of states.

-- what the row of a state's next node reads as
pub next_row-reads : (items : List Item) (n : Net) (rows : List (List ℕ)) (id : ℕ) → IsWellFormed items → RowsRead items n rows → length rows ≡ length items → is_some (next_value items id) ≡ true
    → (v : ℕ) × (w : ℕ) × (next_value items id ≡ Some v) × (node_width items id ≡ Some w) × ReadsWord items n v w (row_at items rows (next_value items id))
next_row-reads items n rows id h reads all some =
    let next = some_of (next_value items id) some in
    let line = IsNextOf-from_value items id next.0 h next.1 in (
      next.0,
      line.width,
      next.1,
      line.of_state,
      subst (λ (o : Option ℕ). ReadsWord items n next.0 line.width (row_at items rows o)) (sym next.1) (row_at-reads items n rows next.0 line.width reads all line.of_value),
    )

-- a state has at most 64 bits, each of which is defined
pub next_row-short : (items : List Item) (n : Net) (rows : List (List ℕ)) (id : ℕ) → IsWellFormed items → RowsRead items n rows → length rows ≡ length items → is_some (next_value items id) ≡ true
    → length (row_at items rows (next_value items id)) ≤ 64
next_row-short items n rows id h reads all some =
    let next = next_row-reads items n rows id h reads all some in
    let range : (1 ≤ next.1) × (next.1 ≤ 64) = node_width-range items id next.1 h next.3 in
    omega (arith, range.1, next.4.wide)

pub next_row-defined : (items : List Item) (n : Net) (rows : List (List ℕ)) (id : ℕ) → IsWellFormed items → RowsRead items n rows → length rows ≡ length items → is_some (next_value items id) ≡ true
    → All (IsDefined n) (row_at items rows (next_value items id))
next_row-defined items n rows id h reads all some = (next_row-reads items n rows id h reads all some).4.defined

-- what the latches of some items are: those of the state first, and of the rest
empty_latches : (items : List Item) (n : Net) → LatchesRead items n [] []
empty_latches items n = record { defined = All-nil (λ (latch : Latch). IsDefined n latch.next); resets = refl; nexts = λ state input f v t. refl }

state_first : (items : List Item) (n : Net) (rows : List (List ℕ)) (x : Item) (xs : List Item) (latches : List Latch) → IsWellFormed items → RowsRead items n rows → length rows ≡ length items
    → is_carried_state items x ≡ true → is_some (next_value items x.id) ≡ true → LatchesRead items n xs latches → LatchesRead items n (x ∷ xs) (state_latches items rows x ++ latches)
state_first items n rows x xs latches h reads all state some rest =
    let next = next_row-reads items n rows x.id h reads all some in
    let row = row_at items rows (next_value items x.id) in
    let width : bits_of items x.id ≡ next.1 = ap (λ (o : Option ℕ). unwrap_or o 0) next.3 in
    let init = init_word items x.id in
    record {
      defined = All-append (λ (latch : Latch). IsDefined n latch.next) (state_latches items rows x) latches (defined-row_latches n init 0 row next.4.defined) rest.defined;
      resets =
          map-append (λ (latch : Latch). latch.reset) (state_latches items rows x) latches
          ∙ ap₂ ◌++◌ (resets-row_latches init row (bits_of items x.id) (next.4.wide ∙ sym width)) rest.resets
          ∙ sym (ap (λ (b : Bool). cond b (leaf_resets items x) [] ++ given_by_kind (is_carried_state items) (leaf_resets items) xs) state);
      nexts = λ st input f v t.
          let word : next_state items f x.id ≡ f next.0 = ap (λ (o : Option ℕ). unwrap_or (option_map f o) 0) next.2 in
          map-append (λ (latch : Latch). literal_value v latch.next) (state_latches items rows x) latches
          ∙ ap₂ ◌++◌ (nexts-row_latches (literal_value v) init 0 row ∙ next.4.bits st input f v t ∙ ap₂ bits (sym width) (sym word)) (rest.nexts st input f v t)
          ∙ sym (ap (λ (b : Bool). cond b (leaf_bits items (next_state items f) x) [] ++ given_by_kind (is_carried_state items) (leaf_bits items (next_state items f)) xs) state);
    }

other_first : (items : List Item) (n : Net) (x : Item) (xs : List Item) (latches : List Latch) → is_carried_state items x ≡ false → LatchesRead items n xs latches → LatchesRead items n (x ∷ xs) latches
other_first items n x xs latches other rest =
    record {
      defined = rest.defined;
      resets = rest.resets ∙ sym (ap (λ (b : Bool). cond b (leaf_resets items x) [] ++ given_by_kind (is_carried_state items) (leaf_resets items) xs) other);
      nexts = λ st input f v t. rest.nexts st input f v t ∙ sym (ap (λ (b : Bool). cond b (leaf_bits items (next_state items f) x) [] ++ given_by_kind (is_carried_state items) (leaf_bits items (next_state items f)) xs) other);
    }

item_first : (items : List Item) (n : Net) (rows : List (List ℕ)) (x : Item) (xs : List Item) (latches : List Latch) (b : Bool) → IsWellFormed items → RowsRead items n rows → length rows ≡ length items
    → first_init_without_next items (x ∷ xs) ≡ None → is_carried_state items x ≡ b → LatchesRead items n xs latches → LatchesRead items n (x ∷ xs) (cond b (state_latches items rows x) [] ++ latches)
item_first items n rows x xs latches true h reads all nexts test rest = state_first items n rows x xs latches h reads all test (head_next items x xs nexts test) rest
item_first items n rows x xs latches false h reads all nexts test rest = other_first items n x xs latches test rest

-- the latches of states read as theirs
pub LatchesRead-made : (items : List Item) (n : Net) (rows : List (List ℕ)) (xs : List Item) → IsWellFormed items → RowsRead items n rows → length rows ≡ length items → first_init_without_next items xs ≡ None
    → LatchesRead items n xs (given_by_kind (is_carried_state items) (state_latches items rows) xs)
LatchesRead-made items n rows [] h reads all nexts = empty_latches items n
LatchesRead-made items n rows (x ∷ xs) h reads all nexts =
    item_first items n rows x xs (given_by_kind (is_carried_state items) (state_latches items rows) xs) (is_carried_state items x) h reads all nexts refl (LatchesRead-made items n rows xs h reads all (tail_next items x xs nexts))

-- the latches of a state are as many as its bits
pub length-state_latches : (items : List Item) (n : Net) (rows : List (List ℕ)) (x : Item) → IsWellFormed items → RowsRead items n rows → length rows ≡ length items → is_some (next_value items x.id) ≡ true
    → length (state_latches items rows x) ≡ bits_of items x.id
length-state_latches items n rows x h reads all some =
    let next = next_row-reads items n rows x.id h reads all some in
    length-row_latches (init_word items x.id) 0 (row_at items rows (next_value items x.id)) ∙ next.4.wide ∙ sym (ap (λ (o : Option ℕ). unwrap_or o 0) next.3)

latches_first : (items : List Item) (n : Net) (rows : List (List ℕ)) (x : Item) (xs : List Item) (b : Bool) → IsWellFormed items → RowsRead items n rows → length rows ≡ length items
    → first_init_without_next items (x ∷ xs) ≡ None → is_carried_state items x ≡ b → length (cond b (state_latches items rows x) []) ≡ cond b (bits_of items x.id) 0
latches_first items n rows x xs true h reads all nexts test = length-state_latches items n rows x h reads all (head_next items x xs nexts test)
latches_first items n rows x xs false h reads all nexts test = refl

pub length-latches : (items : List Item) (n : Net) (rows : List (List ℕ)) (xs : List Item) → IsWellFormed items → RowsRead items n rows → length rows ≡ length items → first_init_without_next items xs ≡ None
    → length (given_by_kind (is_carried_state items) (state_latches items rows) xs) ≡ kind_width items (is_carried_state items) xs
length-latches items n rows [] h reads all nexts = refl
length-latches items n rows (x ∷ xs) h reads all nexts =
    length-append (cond (is_carried_state items x) (state_latches items rows x) []) (given_by_kind (is_carried_state items) (state_latches items rows) xs)
    ∙ ap₂ ◌+◌ (latches_first items n rows x xs (is_carried_state items x) h reads all nexts refl) (length-latches items n rows xs h reads all (tail_next items x xs nexts))
    ∙ sym (sum_by-cons (λ (y : Item). cond (is_carried_state items y) (bits_of items y.id) 0) x xs)

-- Setting them.

-- a circuit with the first so many latches of a row
abbrev pub WithRow : Circuit → Circuit → ℕ → Option ℕ → List ℕ → ℕ → Type 0
WithRow old cur first init row bit = cur ≡ record old { latches = written_over old.latches first (row_latches init 0 (take bit row)) }

pub WithRow-none : (c : Circuit) (first : ℕ) (init : Option ℕ) (row : List ℕ) → WithRow c c first init row 0
unfolding row_latches
WithRow-none c first init row = sym (ap (λ (l : List Latch). record c { latches = l }) (written-nil c.latches first))

-- where the next latch of the row is
row_reached : (first : ℕ) (init : Option ℕ) (row : List ℕ) (bit : ℕ) → bit ≤ length row → first + length (row_latches init 0 (take bit row)) ≡ first + bit
row_reached first init row bit h = omega (arith, length-row_latches init 0 (take bit row), length-take-le bit row h)

-- as many latches as before
pub WithRow-length : (old cur : Circuit) (first : ℕ) (init : Option ℕ) (row : List ℕ) (bit : ℕ) → WithRow old cur first init row bit → bit ≤ length row → first + length row ≤ length old.latches
    → length cur.latches ≡ length old.latches
WithRow-length old cur first init row bit h low room =
    let n = row_reached first init row bit low in
    ap (λ (c : Circuit). length c.latches) h ∙ length-written old.latches first (row_latches init 0 (take bit row)) (omega arith)

-- and so the same net
same_net : (old : Circuit) (latches : List Latch) → length latches ≡ length old.latches → net (record old { latches = latches }) ≡ net old
same_net old latches e =
    let of_count : ℕ → Net = λ n. record { inputs = old.inputs; latches = n; gates = old.gates } in
    ap of_count e

pub WithRow-net : (old cur : Circuit) (first : ℕ) (init : Option ℕ) (row : List ℕ) (bit : ℕ) → WithRow old cur first init row bit → bit ≤ length row → first + length row ≤ length old.latches → net cur ≡ net old
WithRow-net old cur first init row bit h low room =
    let n = row_reached first init row bit low in
    ap net h ∙ same_net old (written_over old.latches first (row_latches init 0 (take bit row))) (length-written old.latches first (row_latches init 0 (take bit row)) (omega arith))

pub WithRow-defined : (old cur : Circuit) (first : ℕ) (init : Option ℕ) (row : List ℕ) (bit : ℕ) → WithRow old cur first init row bit → bit < length row → first + length row ≤ length old.latches
    → All (IsDefined (net old)) row → IsDefined (net cur) (get_or row bit 0)
WithRow-defined old cur first init row bit h low room defined =
    subst (λ (n : Net). IsDefined n (get_or row bit 0)) (sym (WithRow-net old cur first init row bit h (omega arith) room)) (All-get_or (IsDefined (net old)) row bit 0 low defined)

pub WithRow-more : (old cur new : Circuit) (first : ℕ) (init : Option ℕ) (row : List ℕ) (bit : ℕ) → WithRow old cur first init row bit → bit < length row → first + length row ≤ length old.latches
    → new ≡ with_latch cur (first + bit) (record { next = get_or row bit 0; reset = reset_at init bit }) → WithRow old new first init row (bit + 1)
WithRow-more old cur new first init row bit h low room given =
    let latch : Latch = record { next = get_or row bit 0; reset = reset_at init bit } in
    let so_far = row_latches init 0 (take bit row) in
    let n : first + length so_far ≡ first + bit = row_reached first init row bit (omega arith) in
    given ∙ ap (λ (c : Circuit). with_latch c (first + bit) latch) h
    ∙ ap (λ (l : List Latch). record old { latches = l })
    (ap (λ (k : ℕ). set (written_over old.latches first so_far) k latch) (sym n)
    ∙ written-more old.latches first so_far latch (omega arith)
    ∙ ap (written_over old.latches first) (sym (row_latches-more init row bit low)))

-- what the items at the places of the states give is what the states give that are not free
state_blocks : (items : List Item) (rows : List (List ℕ)) → blocks (item_latches items rows) items (places is_state 0 items) ≡ given_by_kind (is_carried_state items) (state_latches items rows) items
state_blocks items rows =
    blocks-of_kind is_state (item_latches items rows) items
    ∙ of_kind-within (by_body is_state) (is_carried_state items) (state_latches items rows) items (λ x h. (carried_parts items x h).0)

-- a circuit with the latches of the first so many states
abbrev pub WithStates : List Item → List (List ℕ) → List ℕ → Circuit → Circuit → ℕ → Type 0
WithStates items rows ps old cur k = cur ≡ record old { latches = so_far fresh_latch (item_latches items rows) items ps k }

pub WithStates-none : (items : List Item) (n : Net) (rows : List (List ℕ)) (ps : List ℕ) (c : Circuit) → IsWellFormed items → RowsRead items n rows → length rows ≡ length items → first_init_without_next items items ≡ None
    → ps ≡ places is_state 0 items → c.latches ≡ replicate (carried_width items) fresh_latch → WithStates items rows ps c c 0
WithStates-none items n rows ps c h reads all nexts e fresh =
    let own : blocks (item_latches items rows) items ps ≡ given_by_kind (is_carried_state items) (state_latches items rows) items =
    ap (blocks (item_latches items rows) items) e ∙ state_blocks items rows in
    sym (ap (λ (l : List Latch). record c { latches = l })
    (so_far-none fresh_latch (item_latches items rows) items ps
    ∙ ap (λ (l : ℕ). replicate l fresh_latch) (ap length own ∙ length-latches items n rows items h reads all nexts)
    ∙ sym fresh))

pub WithStates-all : (items : List Item) (rows : List (List ℕ)) (ps : List ℕ) (old cur : Circuit) (k : ℕ) → ps ≡ places is_state 0 items → length ps ≤ k → WithStates items rows ps old cur k
    → cur ≡ record old { latches = given_by_kind (is_carried_state items) (state_latches items rows) items }
WithStates-all items rows ps old cur k e end h =
    h ∙ ap (λ (l : List Latch). record old { latches = l })
    (so_far-all fresh_latch (item_latches items rows) items ps k end ∙ ap (blocks (item_latches items rows) items) e ∙ state_blocks items rows)

next_state_block : (items : List Item) (rows : List (List ℕ)) (ps : List ℕ) (k : ℕ) (x : Item) → slice_get items (get_or ps k 0) ≡ Some x → block (item_latches items rows) (slice_get items (get_or ps k 0)) ≡ item_latches items rows x
next_state_block items rows ps k x at = ap (block (item_latches items rows)) at

pub WithStates-room : (items : List Item) (rows : List (List ℕ)) (ps : List ℕ) (old cur : Circuit) (k : ℕ) (x : Item) → WithStates items rows ps old cur k → k < length ps → slice_get items (get_or ps k 0) ≡ Some x
    → reached (item_latches items rows) items ps k + length (item_latches items rows x) ≤ length cur.latches
WithStates-room items rows ps old cur k x h low at =
    let room = so_far-room fresh_latch (item_latches items rows) items ps k low in
    omega (arith, room, ap length (next_state_block items rows ps k x at), ap (λ (c : Circuit). length c.latches) h)

pub WithStates-more : (items : List Item) (rows : List (List ℕ)) (ps : List ℕ) (old cur new : Circuit) (k : ℕ) (x : Item) → WithStates items rows ps old cur k → k < length ps → slice_get items (get_or ps k 0) ≡ Some x
    → new ≡ record cur { latches = written_over cur.latches (reached (item_latches items rows) items ps k) (item_latches items rows x) } → WithStates items rows ps old new (k + 1)
WithStates-more items rows ps old cur new k x h low at given =
    given
    ∙ ap (λ (c : Circuit). record c { latches = written_over c.latches (reached (item_latches items rows) items ps k) (item_latches items rows x) }) h
    ∙ ap (λ (l : List Latch). record old { latches = l })
    (ap (written_over (so_far fresh_latch (item_latches items rows) items ps k) (reached (item_latches items rows) items ps k)) (sym (next_state_block items rows ps k x at))
    ∙ so_far-more fresh_latch (item_latches items rows) items ps k low)

pub reached-state : (items : List Item) (rows : List (List ℕ)) (ps : List ℕ) (k : ℕ) (x : Item) → k < length ps → slice_get items (get_or ps k 0) ≡ Some x
    → reached (item_latches items rows) items ps (k + 1) ≡ reached (item_latches items rows) items ps k + length (item_latches items rows x)
reached-state items rows ps k x low at =
    reached-more (item_latches items rows) items ps k low ∙ ap (λ (l : List Latch). reached (item_latches items rows) items ps k + length l) (next_state_block items rows ps k x at)

-- with other latches, as many, the net is the same
pub other_latches : (cur new : Circuit) (first : ℕ) (latches : List Latch) → new ≡ record cur { latches = written_over cur.latches first latches } → first + length latches ≤ length cur.latches
    → (length new.latches ≡ length cur.latches) × (net new ≡ net cur)
other_latches cur new first latches e room =
    let n = length-written cur.latches first latches room in
    (ap (λ (c : Circuit). length c.latches) e ∙ n, ap net e ∙ same_net cur (written_over cur.latches first latches) n)

-- a state that is not free has a next line, and latches
pub record CarriedState (items : List Item) (rows : List (List ℕ)) (x : Item) : Type 0 where
  pub next : is_some (next_value items x.id) ≡ true
  pub latches : item_latches items rows x ≡ state_latches items rows x

pub CarriedState-from : (items : List Item) (rows : List (List ℕ)) (k : ℕ) (x : Item) (b : Bool) → k < length (places is_state 0 items) → slice_get items (get_or (places is_state 0 items) k 0) ≡ Some x → first_init_without_next items items ≡ None
    → b ≡ is_free_at items (get_or (places is_state 0 items) k 0) → b ≡ false → CarriedState items rows x
CarriedState-from items rows k x b low at nexts free not_free =
    let carried : is_carried_state items x ≡ true = sym (state_by_number items k x b low at free).1 ∙ ap not not_free in
    record {
      next = next-given items items (get_or (places is_state 0 items) k 0) x nexts at carried;
      latches = ap (λ (b : Bool). cond b (state_latches items rows x) []) carried;
    }
