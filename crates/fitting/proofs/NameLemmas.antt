-- Names of pieces, and names of lists one behind the other.
use Rattle.std.proofs.Common.{◌≡◌, ℕ, zero, suc, ◌+◌, ◌-◌, ◌%◌, ◌^◌, ◌<◌, ◌≤◌, Bool, true, false, not, cond, ◌==◌, ◌&&◌, nat_le, List, [], ◌∷◌, ◌++◌, map, flat_map, length, take, decimal, Option, unwrap_or, append_assoc, refl, sym, ap, ap₂, ◌∙◌, arith}
use Rattle.std.specs.List.{AllByRecursion, list_all}
use Rattle.std.proofs.lemmas.Bool.{and_parts, le-leb}
use Rattle.std.proofs.lemmas.Bool.Decides.{nat_tests}
use Rattle.std.proofs.lemmas.Fmt.{decimal_by_steps}
use Rattle.std.proofs.lemmas.List.{length-append}
use Rattle.std.proofs.lemmas.List.Folds.{list_all-append}
use Rattle.btor2.specs.declared.item.Item.{Item}
use Rattle.btor2.specs.declared.item.Body.{Body}
use Rattle.btor2.specs.Items.{operands}
use Rattle.btor2.specs.Lists.{of_kind}
use Rattle.btor2.specs.Symbols.{is_symbol, is_printed}
use Rattle.btor2.specs.Trace.{bits_of}
use Rattle.pieces.specs.declared.node.Node.{Node}
use Rattle.pieces.specs.Nodes.{bits_in, AreNodes}
use Rattle.pieces.specs.Cuts.{widths, IsCut}
use Rattle.fitting.specs.Fitted.{node_ids}
use Rattle.fitting.specs.Names.{range_text, with_range, piece_symbol, names_from, word_names, shown_names, names_of}

-- ---- bytes

digit_is_printed : (n : ℕ) → n < 10 → is_printed (48 + n) ≡ true
digit_is_printed n h = grind (arith, nat_tests)

decimal_is_printed : (n : ℕ) → n < 2 ^ 64 → list_all is_printed (decimal n) ≡ true
decimal_is_printed n h =
    decimal_by_steps (λ n ds. list_all is_printed ds ≡ true)
    (λ n low. ap (λ (b : Bool). b && true) (digit_is_printed n low))
    (λ n ds high front. list_all-append is_printed ds ((48 + n % 10) ∷ []) ∙ ap₂ ◌&&◌ front (ap (λ (b : Bool). b && true) (digit_is_printed (n % 10) (omega arith))))
    n h

pub range_is_printed : (upper lower : ℕ) → upper < 2 ^ 64 → lower < 2 ^ 64 → list_all is_printed (range_text upper lower) ≡ true
range_is_printed upper lower h k =
    list_all-append is_printed (91 ∷ decimal upper ++ 58 ∷ decimal lower) (93 ∷ [])
    ∙ ap₂ ◌&&◌ (list_all-append is_printed (91 ∷ decimal upper) (58 ∷ decimal lower) ∙ ap₂ ◌&&◌ (decimal_is_printed upper h) (decimal_is_printed lower k)) refl

front_is_printed : (k : ℕ) (bs : List ℕ) → list_all is_printed bs ≡ true → list_all is_printed (take k bs) ≡ true
front_is_printed zero bs h = refl
front_is_printed (suc k) [] h = refl
front_is_printed (suc k) (b ∷ bs) h = let parts = and_parts (is_printed b) (list_all is_printed bs) h in ap₂ ◌&&◌ parts.0 (front_is_printed k bs parts.1)

front_is_short : (k : ℕ) (bs : List ℕ) → length (take k bs) ≤ k
front_is_short zero bs = omega arith
front_is_short (suc k) [] = omega arith
front_is_short (suc k) (b ∷ bs) = let rest = front_is_short k bs in omega (arith, rest)

-- a name in front of a range is a symbol's
pub symbol_with_range : (name range : List ℕ) → is_symbol name ≡ true → length range ≤ 83 → list_all is_printed range ≡ true → is_symbol (with_range name range) ≡ true
symbol_with_range [] range h short printed = absurd (cc)
symbol_with_range (b ∷ bs) range h short printed =
    let first = and_parts (not (b == 59)) (nat_le (length (b ∷ bs)) 255 && list_all is_printed (b ∷ bs)) h in
    let parts = and_parts (nat_le (length (b ∷ bs)) 255) (list_all is_printed (b ∷ bs)) first.1 in
    let own = and_parts (is_printed b) (list_all is_printed bs) parts.1 in
    let k = 254 - length range in
    let room : 255 - length range ≡ suc k = omega (arith, short) in
    let all = length-append (take k bs) range in
    let front = front_is_short k bs in
    let few : length (b ∷ take k bs ++ range) ≤ 255 = omega (arith, all, front, short) in
    ap (λ (n : ℕ). is_symbol (take n (b ∷ bs) ++ range)) room
    ∙ ap₂ ◌&&◌ first.0 (ap₂ ◌&&◌ (le-leb _ _ few) (ap₂ ◌&&◌ own.0 (list_all-append is_printed (take k bs) range ∙ ap₂ ◌&&◌ (front_is_printed k bs own.1) printed)))

-- ---- names of pieces

-- those of a word with a piece more
pub names_more : (symbol : Option (List ℕ)) (lower : ℕ) (ps : List Node) (r : Node) → names_from symbol lower (widths (ps ++ r ∷ [])) ≡ names_from symbol lower (widths ps) ++ piece_symbol symbol (lower + bits_in ps) r.width ∷ []
names_more symbol lower [] r = ap (λ (k : ℕ). piece_symbol symbol k r.width ∷ []) (omega arith)
names_more symbol lower (p ∷ ps) r =
    ap (λ (l : List (Option (List ℕ))). piece_symbol symbol lower p.width ∷ l)
    (names_more symbol (lower + p.width) ps r ∙ ap (λ (k : ℕ). names_from symbol (lower + p.width) (widths ps) ++ piece_symbol symbol k r.width ∷ []) (omega arith))

-- those of no single piece
pub many_names : (symbol : Option (List ℕ)) (ps : List Node) → (length ps ≡ 1 → ⊥) → word_names symbol (widths ps) ≡ names_from symbol 0 (widths ps)
many_names symbol [] many = refl
many_names symbol (p ∷ []) many = absurd (many refl)
many_names symbol (p ∷ q ∷ ps) many = refl

-- a single piece has no more than 64 bits
pub wide_is_many : (ps : List Node) → IsCut 64 (widths ps) → 64 < bits_in ps → length ps ≡ 1 → ⊥
wide_is_many [] cut many one = omega (arith, one)
wide_is_many (p ∷ []) cut many one = let most = cut.1 in omega (arith, many, most)
wide_is_many (p ∷ q ∷ ps) cut many one = omega (arith, one)

-- each piece of a word has a bit
pub pieces_have_bits : (ps : List Node) → IsCut 64 (widths ps) → AllByRecursion (λ (p : Node). 1 ≤ p.width) ps
pieces_have_bits [] cut = tt
pieces_have_bits (p ∷ []) cut = (cut.0, tt)
pieces_have_bits (p ∷ q ∷ ps) cut = let is = cut.0 in (omega (arith, is), pieces_have_bits (q ∷ ps) cut.1)

-- the widths of nodes by their ids
pub widths_known : (items : List Item) (ps : List Node) → AreNodes items ps → map (bits_of items) (node_ids ps) ≡ widths ps
widths_known items [] h = refl
widths_known items (p ∷ ps) h = ap₂ (λ (w : ℕ) (l : List ℕ). w ∷ l) (ap (λ (o : Option ℕ). unwrap_or o 0) h.0) (widths_known items ps h.1)

-- ---- lists one behind the other

pub split_names : (kind : Body → Bool) (xs ys : List Item) → names_of kind (xs ++ ys) ≡ names_of kind xs ++ names_of kind ys
split_names kind [] ys = refl
split_names kind (x ∷ xs) ys = by (kind x.body) (split_names kind xs ys)
  where
    by : (b : Bool) → names_of kind (xs ++ ys) ≡ names_of kind xs ++ names_of kind ys
        → map (λ (y : Item). y.symbol) (cond b (x ∷ of_kind kind (xs ++ ys)) (of_kind kind (xs ++ ys))) ≡ map (λ (y : Item). y.symbol) (cond b (x ∷ of_kind kind xs) (of_kind kind xs)) ++ names_of kind ys
    by true h = ap (λ (l : List (Option (List ℕ))). x.symbol ∷ l) h
    by false h = h

pub split_shown : (pieces : ℕ → List ℕ) (kind : Body → Bool) (xs ys : List Item)
    → flat_map (shown_names pieces) (of_kind kind (xs ++ ys)) ≡ flat_map (shown_names pieces) (of_kind kind xs) ++ flat_map (shown_names pieces) (of_kind kind ys)
split_shown pieces kind [] ys = refl
split_shown pieces kind (x ∷ xs) ys = by (kind x.body) (split_shown pieces kind xs ys)
  where
    by : (b : Bool) → flat_map (shown_names pieces) (of_kind kind (xs ++ ys)) ≡ flat_map (shown_names pieces) (of_kind kind xs) ++ flat_map (shown_names pieces) (of_kind kind ys)
        → flat_map (shown_names pieces) (cond b (x ∷ of_kind kind (xs ++ ys)) (of_kind kind (xs ++ ys)))
        ≡ flat_map (shown_names pieces) (cond b (x ∷ of_kind kind xs) (of_kind kind xs)) ++ flat_map (shown_names pieces) (of_kind kind ys)
    by true h = ap (λ (l : List (Option (List ℕ))). shown_names pieces x ++ l) h ∙ sym (append_assoc (shown_names pieces x) (flat_map (shown_names pieces) (of_kind kind xs)) (flat_map (shown_names pieces) (of_kind kind ys)))
    by false h = h

-- names by pieces of the same widths
same_shown : (f g : ℕ → List ℕ) (symbol : Option (List ℕ)) (ws : List ℕ) → AllByRecursion (λ a. f a ≡ g a) ws → flat_map (λ a. word_names symbol (f a)) ws ≡ flat_map (λ a. word_names symbol (g a)) ws
same_shown f g symbol [] h = refl
same_shown f g symbol (w ∷ ws) h = ap₂ (λ (k l : List (Option (List ℕ))). k ++ l) (ap (word_names symbol) h.0) (same_shown f g symbol ws h.1)

pub shown_alike : (f g : ℕ → List ℕ) (kind : Body → Bool) (xs : List Item) → AllByRecursion (λ (x : Item). AllByRecursion (λ a. f a ≡ g a) (operands x.body)) xs
    → flat_map (shown_names f) (of_kind kind xs) ≡ flat_map (shown_names g) (of_kind kind xs)
shown_alike f g kind [] h = refl
shown_alike f g kind (x ∷ xs) h = by (kind x.body) (shown_alike f g kind xs h.1)
  where
    by : (b : Bool) → flat_map (shown_names f) (of_kind kind xs) ≡ flat_map (shown_names g) (of_kind kind xs)
        → flat_map (shown_names f) (cond b (x ∷ of_kind kind xs) (of_kind kind xs)) ≡ flat_map (shown_names g) (cond b (x ∷ of_kind kind xs) (of_kind kind xs))
    by true rest = ap₂ (λ (k l : List (Option (List ℕ))). k ++ l) (same_shown f g x.symbol (operands x.body) h.0) rest
    by false rest = rest
