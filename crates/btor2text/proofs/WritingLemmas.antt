-- Texts of items and of digits, piece by piece.
use Rattle.std.proofs.Common.{◌≡◌, ℕ, true, refl, suc, ◌+◌, ◌-◌, ◌<◌, ◌/◌, ◌%◌, List, [], ◌∷◌, ◌++◌, length, ◌==◌, eqb-true, get_or, take, drop, map, decimal, drop-cons, add-one, sym, ap, subst, ◌∙◌, append_assoc, append-nil, arith}
use Rattle.std.specs.Char.{digit_char}
use Rattle.std.proofs.lemmas.List.{take-append-drop}
use Rattle.std.specs.Option.{option_to_list}
use Rattle.btor2.specs.declared.item.Item.{Item}
use Rattle.btor2.specs.declared.item.Body.{Body}
use Rattle.btor2.specs.declared.item.Body.TheVariants as body
use Rattle.btor2.specs.Check.{IsWellFormed}
use Rattle.btor2.proofs.ModelLemmas.{IsIn, refusal-at, IsWellFormed-front}
use Rattle.btor2text.specs.Digits.{last_digits}
use Rattle.btor2text.specs.Spelling.{form_tokens}
use Rattle.btor2text.specs.Writing.{behind_spaces, in_front, head_tokens, justice_operands, HasFewDigits, written_line, written}
use Rattle.btor2text.proofs.BoundLemmas.{BodyFits, accepted_fits}

-- ---- lists

pub numbers_at : (i : ℕ) (numbers : List ℕ) (n d : ℕ) → i < length numbers → n ≡ get_or numbers i d
    → behind_spaces (map decimal (drop i numbers)) ≡ (32 ∷ decimal n) ++ behind_spaces (map decimal (drop (i + 1) numbers))
numbers_at i numbers n d lt e =
    subst (λ (x : ℕ). behind_spaces (map decimal (drop i numbers)) ≡ (32 ∷ decimal x) ++ behind_spaces (map decimal (drop (i + 1) numbers)))
    (sym e) (rw (drop-cons numbers i d, add-one i))

pub items_at : (i : ℕ) (items : List Item) (x d : Item) → i < length items → x ≡ get_or items i d → written (drop i items) ≡ written_line x ++ written (drop (i + 1) items)
items_at i items x d lt e =
    subst (λ (y : Item). written (drop i items) ≡ written_line y ++ written (drop (i + 1) items)) (sym e) (rw (drop-cons items i d, add-one i))

-- ---- tokens in front of other bytes

pub front_is : (tokens : List (List ℕ)) (rest : List ℕ) → behind_spaces tokens ++ rest ≡ in_front tokens rest
front_is [] rest = refl
front_is (token ∷ tokens) rest = append_assoc (32 ∷ token) (behind_spaces tokens) rest ∙ ap (λ (l : List ℕ). 32 ∷ token ++ l) (front_is tokens rest)

front_then : (xs ys : List (List ℕ)) (rest : List ℕ) → in_front (xs ++ ys) rest ≡ in_front xs (in_front ys rest)
front_then [] ys rest = refl
front_then (x ∷ xs) ys rest = ap (λ (l : List ℕ). 32 ∷ x ++ l) (front_then xs ys rest)

-- what stands in front of other bytes by itself, and then these
front_apart : (tokens : List (List ℕ)) (rest : List ℕ) → in_front tokens rest ≡ in_front tokens [] ++ rest
front_apart [] rest = refl
front_apart (token ∷ tokens) rest = ap (λ (l : List ℕ). 32 ∷ token ++ l) (front_apart tokens rest) ∙ sym (append_assoc (32 ∷ token) (in_front tokens []) rest)

-- a number behind a space that stands alone on a line
pub alone : (n : ℕ) (line old : List ℕ) → line ≡ in_front (decimal n ∷ []) old → old ≡ [] → line ≡ 32 ∷ decimal n
alone n line old is none = is ∙ ap (λ (l : List ℕ). 32 ∷ decimal n ++ l) none ∙ append-nil (32 ∷ decimal n)

form_parts : (b : Body) (rest : List ℕ) → in_front (form_tokens b) rest ≡ in_front (head_tokens b) (in_front (map decimal (justice_operands b)) rest)
form_parts (body.Justice nodes) rest = refl
form_parts _ rest = refl

-- a line from its end to its front
pub line_parts : (x : Item) → written_line x ≡ decimal x.id ++ in_front (head_tokens x.body) (in_front (map decimal (justice_operands x.body)) (in_front (option_to_list x.symbol) (10 ∷ [])))
line_parts x =
    ap (λ (l : List ℕ). decimal x.id ++ l)
    (front_is (form_tokens x.body ++ option_to_list x.symbol) (10 ∷ [])
    ∙ front_then (form_tokens x.body) (option_to_list x.symbol) (10 ∷ [])
    ∙ form_parts x.body (in_front (option_to_list x.symbol) (10 ∷ [])))

-- the line of an item without operands behind its form
pub whole_line : (x : Item) → justice_operands x.body ≡ [] → written_line x ≡ decimal x.id ++ in_front (head_tokens x.body) (in_front (option_to_list x.symbol) (10 ∷ []))
whole_line x none = line_parts x ∙ ap (λ (nodes : List ℕ). decimal x.id ++ in_front (head_tokens x.body) (in_front (map decimal nodes) (in_front (option_to_list x.symbol) (10 ∷ [])))) none

-- no operands, as a test tells it
pub no_operands : (nodes : List ℕ) → true ≡ (length nodes == 0) → nodes ≡ []
no_operands [] h = refl
no_operands (a ∷ nodes) h = absurd (omega (arith, eqb-true (suc (length nodes)) 0 (sym h)))

-- a line in its three pieces
pub line_pieces : (x : Item) → written_line x ≡ (decimal x.id ++ in_front (head_tokens x.body) []) ++ (behind_spaces (map decimal (justice_operands x.body)) ++ in_front (option_to_list x.symbol) (10 ∷ []))
line_pieces x =
    let end = in_front (option_to_list x.symbol) (10 ∷ []) in
    let operands = map decimal (justice_operands x.body) in
    line_parts x
    ∙ ap (λ (l : List ℕ). decimal x.id ++ l) (front_apart (head_tokens x.body) (in_front operands end) ∙ ap (λ (l : List ℕ). in_front (head_tokens x.body) [] ++ l) (sym (front_is operands end)))
    ∙ sym (append_assoc (decimal x.id) (in_front (head_tokens x.body) []) (behind_spaces operands ++ end))

-- ---- digits of a model's constants

few_digits : (b : Body) → BodyFits b → HasFewDigits b
few_digits (body.Const s d v) fits = fits.2
few_digits (body.Consth s d v) fits = omega (arith, fits.2)
few_digits _ fits = tt

is_in_at : (items : List Item) (i : ℕ) (d : Item) → i < length items → IsIn items (get_or items i d)
is_in_at items i d lt = record { before = take i items; after = drop (suc i) items; splits = sym (take-append-drop i items) ∙ ap (λ (l : List Item). take i items ++ l) (drop-cons items i d lt) }

pub few_digits_at : (items : List Item) (i : ℕ) (x d : Item) → IsWellFormed items → i < length items → x ≡ get_or items i d → HasFewDigits x.body
few_digits_at items i x d h lt e =
    let w = is_in_at items i d lt in
    let whole : IsWellFormed (w.before ++ get_or items i d ∷ w.after) = subst IsWellFormed w.splits h in
    let fits = accepted_fits w.before (get_or items i d) (IsWellFormed-front w.before (get_or items i d ∷ w.after) whole) (refusal-at w.before w.after (get_or items i d) whole) in
    rw e (few_digits (get_or items i d).body fits.body)

-- ---- the last digits of a number

pub digits_more : (radix count i rest : ℕ) (digits total : List ℕ) → i < count → last_digits radix (count - i) rest ++ digits ≡ total
    → last_digits radix (count - (i + 1)) (rest / radix) ++ digit_char (rest % radix) ∷ digits ≡ total
digits_more radix count i rest digits total lt e =
    let left : count - i ≡ suc (count - (i + 1)) = omega arith in
    sym (append_assoc (last_digits radix (count - (i + 1)) (rest / radix)) (digit_char (rest % radix) ∷ []) digits) ∙ rw left at e
