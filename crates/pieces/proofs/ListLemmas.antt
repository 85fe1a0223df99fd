-- Lists of nodes.
use Rattle.std.proofs.Common.{◌≡◌, ℕ, zero, suc, ◌+◌, ◌-◌, ◌*◌, ◌/◌, ◌^◌, ◌<◌, ◌≤◌, List, [], ◌∷◌, ◌++◌, length, get_or, take, take-suc, add-one, Result, Ok, Err, IfOk, refl, sym, ap, ap₂, subst, ◌∙◌, arith, add_assoc, pow_pos}
use Rattle.std.proofs.lemmas.Nat.{pow-add}
use Rattle.std.proofs.lemmas.List.{length-map}
use Rattle.base.specs.Operator.{concat_value}
use Rattle.base.proofs.ValueLaws.{concat_below}
use Rattle.btor2.specs.declared.item.Item.{Item}
use Rattle.btor2.specs.Check.{IsWellFormed}
use Rattle.btor2.specs.Trace.{Frame}
use Rattle.btor2.proofs.ModelLemmas.{node_width-range}
use Rattle.fit.specs.Gives.{InFrames}
use Rattle.pieces.specs.declared.node.Node.{Node}
use Rattle.pieces.specs.Nodes.{word_of, bits_in, AreNodes, Extends, HaveBits, IsNode}
use Rattle.pieces.specs.Cuts.{widths, IsCut, IsWord, IsBehind, IsInFirst}
use Rattle.pieces.proofs.NodeLemmas.{node_kept, word_fits}
use Rattle.pieces.proofs.WordLemmas.{field_high}

abbrev sum_of : List ℕ → ℕ
sum_of [] = 0
sum_of (w ∷ ws) = sum_of ws + w

bits_by : (xs : List Node) → bits_in xs ≡ sum_of (widths xs)
bits_by [] = refl
bits_by (x ∷ xs) = ap (λ k. k + x.width) (bits_by xs)

-- a word before two others
concat_twice : (m w a b x : ℕ) → concat_value a (m + w) (concat_value b w x) ≡ concat_value (concat_value a m b) w x
concat_twice m w a b x = omega (arith, ap (λ k. a * k) (pow-add 2 m w))

pub bits_append : (xs ys : List Node) → bits_in (xs ++ ys) ≡ bits_in ys + bits_in xs
bits_append [] ys = omega arith
bits_append (x ∷ xs) ys = ap (λ k. k + x.width) (bits_append xs ys) ∙ add_assoc (bits_in ys) (bits_in xs) x.width

pub word_append : (g : Frame) (xs ys : List Node) → word_of g (xs ++ ys) ≡ concat_value (word_of g ys) (bits_in xs) (word_of g xs)
word_append g [] ys = omega arith
word_append g (x ∷ xs) ys = ap (λ k. concat_value k x.width (g x.id)) (word_append g xs ys) ∙ sym (concat_twice (bits_in xs) x.width (word_of g ys) (word_of g xs) (g x.id))

-- one node more at the high end
pub word_more : (g : Frame) (xs : List Node) (p : Node) → word_of g (xs ++ p ∷ []) ≡ concat_value (g p.id) (bits_in xs) (word_of g xs)
word_more g xs p = word_append g xs (p ∷ []) ∙ ap (λ k. concat_value k (bits_in xs) (word_of g xs)) (omega arith)

pub bits_more : (xs : List Node) (p : Node) → bits_in (xs ++ p ∷ []) ≡ p.width + bits_in xs
bits_more xs p = bits_append xs (p ∷ []) ∙ omega arith

pub nodes_more : (items : List Item) (xs : List Node) (p : Node) → AreNodes items xs → IsNode items p → AreNodes items (xs ++ p ∷ [])
nodes_more items [] p h own = (own, tt)
nodes_more items (x ∷ xs) p h own = (h.0, nodes_more items xs p h.1 own)

pub nodes_kept : (old new : List Item) (xs : List Node) → Extends old new → AreNodes old xs → AreNodes new xs
nodes_kept old new [] e h = tt
nodes_kept old new (x ∷ xs) e h = (node_kept old new x e h.0, nodes_kept old new xs e h.1)

pub nodes_at : (items : List Item) (xs : List Node) (i : ℕ) (d : Node) → i < length xs → AreNodes items xs → IsNode items (get_or xs i d)
nodes_at items [] i d within h = absurd (omega (arith, within))
nodes_at items (x ∷ xs) zero d within h = h.0
nodes_at items (x ∷ xs) (suc i) d within h = nodes_at items xs i d (omega (arith, within)) h.1

pub nodes_behind : (items : List Item) (xs ys : List Node) → AreNodes items (xs ++ ys) → AreNodes items ys
nodes_behind items [] ys h = h
nodes_behind items (x ∷ xs) ys h = nodes_behind items xs ys h.1

pub nodes_before : (items : List Item) (xs ys : List Node) → AreNodes items (xs ++ ys) → AreNodes items xs
nodes_before items [] ys h = tt
nodes_before items (x ∷ xs) ys h = (h.0, nodes_before items xs ys h.1)

pub nodes_taken : (items : List Item) (k : ℕ) (xs : List Node) → AreNodes items xs → AreNodes items (take k xs)
nodes_taken items zero xs h = tt
nodes_taken items (suc k) [] h = tt
nodes_taken items (suc k) (x ∷ xs) h = (h.0, nodes_taken items k xs h.1)

pub taken : (xs : List Node) (i : ℕ) (d : Node) → i < length xs → take (i + 1) xs ≡ take i xs ++ get_or xs i d ∷ []
taken xs i d h = ap (λ (k : ℕ). take k xs) (add-one i) ∙ take-suc xs i d h

-- nodes' words fit their bits
pub words_fit : (items : List Item) (xs : List Node) → AreNodes items xs → InFrames items (λ g. word_of g xs < 2 ^ bits_in xs)
words_fit items [] h more state input g w states inputs frame = omega (arith, pow_pos 0)
words_fit items (x ∷ xs) h more state input g w states inputs frame =
    concat_below (bits_in xs) x.width (word_of g xs) (g x.id) (words_fit items xs h.1 more state input g w states inputs frame) (word_fits items x h.0 more state input g w states inputs frame)

-- ---- what is behind

pub behind_word : (items : List Item) (xs : List Node) (low : ℕ) (rest : List Node) (inside : ℕ) → AreNodes items xs → IsBehind xs low rest inside → InFrames items (λ g. word_of g xs / 2 ^ low ≡ word_of g rest / 2 ^ inside)
behind_word items xs low rest inside h b more state input g w states inputs frame =
    let fits = words_fit items b.front (nodes_before items b.front rest (subst (AreNodes items) b.splits h)) more state input g w states inputs frame in
    ap₂ (λ (k n : ℕ). k / 2 ^ n) (ap (word_of g) b.splits ∙ word_append g b.front rest) (sym b.passed) ∙ field_high (bits_in b.front) (word_of g rest) (word_of g b.front) inside fits

pub behind_bits : (xs : List Node) (low : ℕ) (rest : List Node) (inside : ℕ) → IsBehind xs low rest inside → bits_in xs + inside ≡ bits_in rest + low
behind_bits xs low rest inside b =
    let all = ap bits_in b.splits ∙ bits_append b.front rest in
    let passed = b.passed in
    omega (arith, all, passed)

pub behind_nodes : (items : List Item) (xs : List Node) (low : ℕ) (rest : List Node) (inside : ℕ) → AreNodes items xs → IsBehind xs low rest inside → AreNodes items rest
behind_nodes items xs low rest inside h b = nodes_behind items b.front rest (subst (AreNodes items) b.splits h)

-- nodes of a well-formed list have bits
pub nodes_have_bits : (items : List Item) (xs : List Node) → IsWellFormed items → AreNodes items xs → HaveBits xs
nodes_have_bits items [] w h = tt
nodes_have_bits items (x ∷ xs) w h = (node_width-range items x.id x.width w h.0, nodes_have_bits items xs w h.1)

pub bit_in_first : (xs : List Node) → HaveBits xs → IsInFirst xs 0
bit_in_first [] h = tt
bit_in_first (x ∷ xs) h = let some = h.0.0 in omega (arith, some)

-- ---- answers that hold something

pub ok_with : {A E : Type 0} (P Q : A → Type 0) (r : Result A E) → ((x : A) → P x → Q x) → IfOk r P → IfOk r Q
ok_with P Q (Ok x) f h = f x h
ok_with P Q (Err e) f h = tt

-- ---- lists of the same widths

pub same_length : (xs ys : List Node) → widths xs ≡ widths ys → length xs ≡ length ys
same_length xs ys e = sym (length-map xs (λ (p : Node). p.width)) ∙ ap length e ∙ length-map ys (λ (p : Node). p.width)

pub same_bits : (xs ys : List Node) → widths xs ≡ widths ys → bits_in xs ≡ bits_in ys
same_bits xs ys e = bits_by xs ∙ ap sum_of e ∙ sym (bits_by ys)

width_in : (xs : List Node) (i : ℕ) (d : Node) → (get_or xs i d).width ≡ get_or (widths xs) i d.width
width_in [] i d = refl
width_in (x ∷ xs) zero d = refl
width_in (x ∷ xs) (suc i) d = width_in xs i d

pub same_at : (xs ys : List Node) (i : ℕ) (d : Node) → widths xs ≡ widths ys → (get_or xs i d).width ≡ (get_or ys i d).width
same_at xs ys i d e = width_in xs i d ∙ ap (λ (l : List ℕ). get_or l i d.width) e ∙ sym (width_in ys i d)

pub widths_take : (k : ℕ) (xs : List Node) → widths (take k xs) ≡ take k (widths xs)
widths_take zero xs = refl
widths_take (suc k) [] = refl
widths_take (suc k) (x ∷ xs) = ap (λ (l : List ℕ). x.width ∷ l) (widths_take k xs)

pub same_taken : (xs ys : List Node) (k : ℕ) → widths xs ≡ widths ys → widths (take k xs) ≡ widths (take k ys)
same_taken xs ys k e = widths_take k xs ∙ ap (take k) e ∙ sym (widths_take k ys)

-- words of one width are cut alike
none_is_none : (size w : ℕ) (ws : List ℕ) → 1 ≤ size → IsCut size (w ∷ ws) → 1 ≤ sum_of (w ∷ ws)
none_is_none size w [] some h = let least = h.0 in omega (arith, least)
none_is_none size w (v ∷ more) some h = let is = h.0 in omega (arith, is, some)

cut_alike : (size : ℕ) (ws vs : List ℕ) → 1 ≤ size → IsCut size ws → IsCut size vs → sum_of ws ≡ sum_of vs → ws ≡ vs
cut_alike size [] [] some h k e = refl
cut_alike size [] (v ∷ vs) some h k e = absurd (omega (arith, e, none_is_none size v vs some k))
cut_alike size (w ∷ ws) [] some h k e = absurd (omega (arith, e, none_is_none size w ws some h))
cut_alike size (w ∷ []) (v ∷ []) some h k e = ap (λ (n : ℕ). n ∷ []) (omega (arith, e))
cut_alike size (w ∷ []) (v ∷ u ∷ more) some h k e =
    let most = h.1 in
    let is = k.0 in
    absurd (omega (arith, e, most, is, none_is_none size u more some k.1))
cut_alike size (w ∷ x ∷ ws) (v ∷ []) some h k e =
    let most = k.1 in
    let is = h.0 in
    absurd (omega (arith, e, most, is, none_is_none size x ws some h.1))
cut_alike size (w ∷ x ∷ ws) (v ∷ u ∷ more) some h k e =
    let first = h.0 in
    let second = k.0 in
    ap₂ (λ (n : ℕ) (l : List ℕ). n ∷ l) (first ∙ sym second) (cut_alike size (x ∷ ws) (u ∷ more) some h.1 k.1 (omega (arith, e, first, second)))

pub words_alike : (size : ℕ) (xs ys : List Node) → 1 ≤ size → IsCut size (widths xs) → IsCut size (widths ys) → bits_in xs ≡ bits_in ys → widths xs ≡ widths ys
words_alike size xs ys some h k e = cut_alike size (widths xs) (widths ys) some h k (sym (bits_by xs) ∙ e ∙ bits_by ys)

-- a place of a list has what it has, whatever stands for a place beyond
pub get_or_any : (xs : List Node) (i : ℕ) (d e : Node) → i < length xs → get_or xs i d ≡ get_or xs i e
get_or_any [] i d e h = absurd (omega (arith, h))
get_or_any (x ∷ xs) zero d e h = refl
get_or_any (x ∷ xs) (suc i) d e h = get_or_any xs i d e (omega (arith, h))

pub some_nodes : (xs : List Node) → 1 ≤ bits_in xs → 1 ≤ length xs
some_nodes [] h = absurd (omega (arith, h))
some_nodes (x ∷ xs) h = omega arith

pub bits_taken : (k : ℕ) (xs : List Node) → bits_in (take k xs) ≤ bits_in xs
bits_taken zero xs = omega arith
bits_taken (suc k) [] = omega arith
bits_taken (suc k) (x ∷ xs) = let rest = bits_taken k xs in omega (arith, rest)

-- no node of a word that is cut so has more bits
cut_most : (size w : ℕ) (ws : List ℕ) → IsCut size (w ∷ ws) → w ≤ size
cut_most size w [] h = h.1
cut_most size w (v ∷ more) h = let is = h.0 in omega (arith, is)

cut_tail : (size w : ℕ) (ws : List ℕ) → IsCut size (w ∷ ws) → IsCut size ws
cut_tail size w [] h = tt
cut_tail size w (v ∷ more) h = h.1

pub cut_at : (size : ℕ) (xs : List Node) (i : ℕ) (d : Node) → i < length xs → IsCut size (widths xs) → (get_or xs i d).width ≤ size
cut_at size [] i d within h = absurd (omega (arith, within))
cut_at size (x ∷ xs) zero d within h = cut_most size x.width (widths xs) h
cut_at size (x ∷ xs) (suc i) d within h = cut_at size xs i d (omega (arith, within)) (cut_tail size x.width (widths xs) h)

pub cut_taken : (size k : ℕ) (ws : List ℕ) → 1 ≤ size → IsCut size ws → IsCut size (take k ws)
cut_taken size zero ws some h = tt
cut_taken size (suc zero) [] some h = tt
cut_taken size (suc (suc k)) [] some h = tt
cut_taken size (suc zero) (w ∷ []) some h = h
cut_taken size (suc (suc k)) (w ∷ []) some h = h
cut_taken size (suc zero) (w ∷ v ∷ more) some h = let is = h.0 in (omega (arith, some, is), omega (arith, is))
cut_taken size (suc (suc k)) (w ∷ v ∷ more) some h = (h.0, cut_taken size (suc k) (v ∷ more) some h.1)

pub word_kept : (old new : List Item) (xs : List Node) → Extends old new → IsWord old xs → IsWord new xs
word_kept old new xs e h = record { nodes = nodes_kept old new xs e h.nodes; cut = h.cut; some = h.some; few = h.few }

-- the bits of the nodes so far, and of one more
pub total_next : (xs : List Node) (i : ℕ) (d : Node) (total : ℕ) → i < length xs → total ≡ bits_in (take i xs) → total + (get_or xs i d).width ≡ bits_in (take (i + 1) xs)
total_next xs i d total within h = let more = ap bits_in (taken xs i d within) ∙ bits_more (take i xs) (get_or xs i d) in omega (arith, more, h)

pub total_fits : (xs : List Node) (i : ℕ) (d : Node) (total : ℕ) → i < length xs → total ≡ bits_in (take i xs) → bits_in xs < 2 ^ 63 → total + (get_or xs i d).width < 2 ^ 64
total_fits xs i d total within h few = omega (arith, total_next xs i d total within h, bits_taken (i + 1) xs, few)

pub below_last : (xs : List Node) → 1 ≤ length xs → length xs - 1 < length xs
below_last xs h = omega (arith, h)

pub inside : (xs : List Node) (i : ℕ) → i < length xs - 1 → i < length xs
inside xs i h = omega (arith, h)
