-- What tokens say of a line is read of them.
use Rattle.std.proofs.Common.{◌≡◌, ℕ, zero, suc, ◌+◌, ◌-◌, ◌^◌, ◌<◌, ◌≤◌, Bool, true, false, List, [], ◌∷◌, ◌++◌, length, map, Result, Ok, Err, codes, decimal, refl, sym, ap, ap₂, subst, ◌∙◌, append_assoc, arith}
use Rattle.std.specs.List.{list_any}
use Rattle.std.proofs.lemmas.List.{length-map, append-nil}
use Rattle.btor2.specs.declared.item.Body.{Body}
use Rattle.btor2.specs.declared.item.Body.TheVariants as body
use Rattle.btor2.specs.Items.{operands}
use Rattle.btor2.proofs.AcceptedLemmas.{Each}
use Rattle.btor2text.specs.declared.fault.Why.{Why}
use Rattle.btor2text.specs.declared.forms.Form.{Form}
use Rattle.btor2text.specs.declared.forms.Form.TheVariants as form
use Rattle.btor2text.specs.Words.{form_name}
use Rattle.btor2text.specs.Reading.{◌>>=◌, Tokens, plain_at, sort_at, operand_at, triple_at}
use Rattle.btor2text.proofs.BoundLemmas.{IsId}
use Rattle.btor2text.proofs.PlaceLemmas.{sort_at-decimal, operand_at-decimal, triple_at-again}
use Rattle.btor2text.proofs.BodyLemmas.{body_form}
use Rattle.widetext.specs.Reading.{wide_body_at}
use Rattle.widetext.specs.Spelling.{WideSaysBody}
use Rattle.widetext.proofs.BoundLemmas.{WideBodyFits}
use Rattle.widetext.proofs.BodyLemmas.{wide_says_again}
use Rattle.full.specs.Lines.{Operand, operand, Says, form as form_says, array_sort, read, write}
use Rattle.fulltext.specs.declared.kinds.Kind.{Kind}
use Rattle.fulltext.specs.declared.kinds.Kind.TheVariants as kind
use Rattle.fulltext.specs.Signs.{has_minus, with_sign, signed, signed_behind, signs, unsigned, signs_behind, unsigned_behind, kept_signs}
use Rattle.fulltext.specs.Reading.{places_before, operand_count, first_sign, second_sign, form_at, array_at, sort_said_at, read_at, write_at, says_at, said_at}
use Rattle.fulltext.specs.Spelling.{operand_token, tokens_before, AreSigns, SaysLine}
use Rattle.fulltext.proofs.SaysLemmas.{kind_word}
use Rattle.fulltext.proofs.BoundLemmas.{SaysFits}
use Rattle.fulltext.proofs.SignLemmas.{id_sign, id_unsigned, signed_front, filled, unsigned_ids, signs_ids, kept_none, kept_some, none_counted}
use Rattle.fulltext.proofs.SpellLemmas.{OperandsStand, operands_stand, ids_fit, places_same, count_unsigned, count_said, first_kept, both_kept}

-- the kind of the line that says something
abbrev pub kind_of : Says → Kind
kind_of (form_says b ms) = kind.Form (body_form b)
kind_of (array_sort index element) = kind.Form form.Sort
kind_of (read s array index) = kind.Read
kind_of (write s array index word) = kind.Write

-- tokens that say something are its kind's word and those that are read as it
pub record Again (b : Says) (tokens : Tokens) : Type 0 where
  pub behind : Tokens
  pub parts : tokens ≡ kind_word (kind_of b) ∷ behind
  pub again : (rest : Tokens) → said_at (kind_of b) (behind ++ rest) ≡ Ok (b, rest)

-- ---- minuses put behind a head, and taken

module _ (n : ℕ) (ms : List Bool) (ids : List ℕ) (tail : Tokens) (h : Each IsId ids) (few : length ms ≤ length ids) (count : n ≡ length ids) where
  put_front : (ts : Tokens) → signed ms (map decimal ids ++ ts) ≡ signed ms (map decimal ids) ++ ts
  put_front ts = signed_front ms (map decimal ids) ts (omega (arith, few, length-map ids decimal))

  -- the tokens with minuses, and more behind them
  marked : (k : ℕ) (head : Tokens) → length head ≡ k → signed_behind k ms (head ++ (map decimal ids ++ tail)) ≡ head ++ (signed ms (map decimal ids) ++ tail)
  marked zero [] e = put_front tail
  marked zero (t ∷ head) e = absurd (omega (arith, e))
  marked (suc k) [] e = absurd (omega (arith, e))
  marked (suc k) (t ∷ head) e = ap (λ (xs : Tokens). t ∷ xs) (marked k head (omega (arith, e)))

  bare_again : (k : ℕ) (head ts : Tokens) → length head ≡ k → unsigned_behind k n (head ++ (signed ms (map decimal ids) ++ ts)) ≡ head ++ (map decimal ids ++ ts)
  bare_again zero [] ts e = ap (λ (j : ℕ). unsigned j (signed ms (map decimal ids) ++ ts)) count ∙ unsigned_ids ms ids ts h few
  bare_again zero (t ∷ head) ts e = absurd (omega (arith, e))
  bare_again (suc k) [] ts e = absurd (omega (arith, e))
  bare_again (suc k) (t ∷ head) ts e = ap (λ (xs : Tokens). t ∷ xs) (bare_again k head ts (omega (arith, e)))

  signs_again : (k : ℕ) (head ts : Tokens) → length head ≡ k → signs_behind k n (head ++ (signed ms (map decimal ids) ++ ts)) ≡ filled (length ids) ms
  signs_again zero [] ts e = ap (λ (j : ℕ). signs j (signed ms (map decimal ids) ++ ts)) count ∙ signs_ids ms ids ts h
  signs_again zero (t ∷ head) ts e = absurd (omega (arith, e))
  signs_again (suc k) [] ts e = absurd (omega (arith, e))
  signs_again (suc k) (t ∷ head) ts e = signs_again k head ts (omega (arith, e))

few_signs : (n : ℕ) (ms : List Bool) → AreSigns n ms → length ms ≤ n
few_signs n [] h = omega arith
few_signs n (m ∷ ms) h = omega (arith, h.0)

kept_again : (n : ℕ) (ms : List Bool) → AreSigns n ms → kept_signs (filled n ms) ≡ ms
kept_again n [] h = kept_none n
kept_again n (m ∷ ms) h = kept_some n (m ∷ ms) h.0 h.1

-- ---- forms

abbrev is_sort : Body → Bool
is_sort (body.Sort n) = true
is_sort b = false

-- a form that is no sort is read as one
says_form : (b : Body) (ts : Tokens) (ms : List Bool) → is_sort b ≡ false → says_at (kind.Form (body_form b)) ts ms ≡ form_at (body_form b) ts ms
says_form (body.Sort n) ts ms h = absurd (cc)
says_form b ts ms h = refl

no_array : (n : ℕ) (rest : Tokens) → sort_said_at (codes "bitvec" ∷ decimal n ∷ rest) ≡ form_at form.Sort (codes "bitvec" ∷ decimal n ∷ rest) []
unfolding sort_said_at
no_array n rest = refl

no_signs_at_all : (ms : List Bool) → AreSigns 0 ms → ms ≡ []
no_signs_at_all [] h = refl
no_signs_at_all (m ∷ ms) h = absurd (omega (arith, h.0))

body_again : (f : Form) (ts rest : Tokens) (b : Body) (ms : List Bool) → wide_body_at f ts ≡ Ok (b, rest) → form_at f ts ms ≡ Ok (form_says b ms, rest)
unfolding form_at
body_again f ts rest b ms e = rw e refl

head_of : (w v : List ℕ) (a b : Tokens) → w ∷ a ≡ v ∷ b → a ≡ b
head_of w v a b e = cc

-- the head behind the word
behind_word : (b : Body) (bb head tail : Tokens) → form_name (body_form b) ∷ bb ≡ head ++ (map decimal (operands b) ++ tail) → length head ≡ suc (places_before (kind.Form (body_form b)))
    → (rest : Tokens) × (bb ≡ rest ++ (map decimal (operands b) ++ tail)) × (length rest ≡ places_before (kind.Form (body_form b)))
behind_word b bb [] tail e count = absurd (omega (arith, count))
behind_word b bb (t ∷ head) tail e count = (head, head_of (form_name (body_form b)) t bb (head ++ (map decimal (operands b) ++ tail)) e, omega (arith, count))

sort_again : (n : ℕ) (ms : List Bool) (tokens : Tokens) → SaysLine (form_says (body.Sort n) ms) tokens → WideBodyFits (body.Sort n) → Again (form_says (body.Sort n) ms) tokens
unfolding said_at
sort_again n ms tokens says fits =
    let none = no_signs_at_all ms says.3 in
    let a = wide_says_again (body.Sort n) (codes "sort" ∷ codes "bitvec" ∷ decimal n ∷ []) refl fits in
    let same : a.behind ≡ codes "bitvec" ∷ decimal n ∷ [] = sym (head_of (codes "sort") (form_name form.Sort) (codes "bitvec" ∷ decimal n ∷ []) a.behind a.parts) in
    record {
      behind = codes "bitvec" ∷ decimal n ∷ [];
      parts = says.1 ∙ ap₂ (λ (ns : List Bool) (l : Tokens). signed_behind 2 ns l) none says.2;
      again = λ rest.
          no_array n rest
          ∙ (body_again form.Sort (codes "bitvec" ∷ decimal n ∷ rest) rest (body.Sort n) [] (ap (λ (l : Tokens). wide_body_at form.Sort (l ++ rest)) (sym same) ∙ a.again rest) ∙ ap (λ (ns : List Bool). Ok (form_says (body.Sort n) ns, rest)) (sym none));
    }

plain_again : (b : Body) (ms : List Bool) (tokens : Tokens) → is_sort b ≡ false → SaysLine (form_says b ms) tokens → WideBodyFits b → Again (form_says b ms) tokens
unfolding said_at
plain_again b ms tokens no_sort says fits =
    let plain = says.0 in
    let f = body_form b in
    let k = places_before (kind.Form f) in
    let ids = operands b in
    let n = length ids in
    let a = wide_says_again b plain says.2 fits in
    let stand = operands_stand b plain says.2 in
    let head = behind_word b a.behind stand.head stand.tail (sym a.parts ∙ stand.parts) (stand.count ∙ places_same b) in
    let each = ids_fit b fits in
    let few = few_signs n ms says.3 in
    let behind = head.0 ++ (signed ms (map decimal ids) ++ stand.tail) in
    let is : signed_behind k ms a.behind ≡ behind = ap (signed_behind k ms) head.1 ∙ marked n ms ids stand.tail each few refl k head.0 head.2 in
    let own : WideSaysBody b (form_name f ∷ a.behind) = subst (WideSaysBody b) a.parts says.2 in
    record {
      behind = behind;
      parts = says.1 ∙ (ap₂ (λ (j : ℕ) (l : Tokens). signed_behind j ms l) (places_same b) a.parts ∙ ap (λ (l : Tokens). form_name f ∷ l) is);
      again = λ rest.
          let joined : behind ++ rest ≡ head.0 ++ (signed ms (map decimal ids) ++ (stand.tail ++ rest)) = append_assoc head.0 (signed ms (map decimal ids) ++ stand.tail) rest ∙ ap (λ (l : Tokens). head.0 ++ l) (append_assoc (signed ms (map decimal ids)) stand.tail rest) in
          let unjoined : head.0 ++ (map decimal ids ++ (stand.tail ++ rest)) ≡ a.behind ++ rest =
          sym (append_assoc head.0 (map decimal ids ++ stand.tail) rest ∙ ap (λ (l : Tokens). head.0 ++ l) (append_assoc (map decimal ids) stand.tail rest)) ∙ ap (λ (l : Tokens). l ++ rest) (sym head.1) in
          let bare : unsigned_behind k n (behind ++ rest) ≡ a.behind ++ rest = ap (unsigned_behind k n) joined ∙ (bare_again n ms ids [] each few refl k head.0 (stand.tail ++ rest) head.2 ∙ unjoined) in
          let kept : kept_signs (signs_behind k n (behind ++ rest)) ≡ ms =
          ap (λ (l : Tokens). kept_signs (signs_behind k n l)) joined ∙ (ap kept_signs (signs_again n ms ids [] each few refl k head.0 (stand.tail ++ rest) head.2) ∙ kept_again n ms says.3) in
          let count : operand_count (kind.Form f) (behind ++ rest) ≡ n = count_unsigned f n (behind ++ rest) ∙ (ap (operand_count (kind.Form f)) bare ∙ count_said b a.behind rest own) in
          ap (λ (j : ℕ). says_at (kind.Form f) (unsigned_behind k j (behind ++ rest)) (kept_signs (signs_behind k j (behind ++ rest)))) count
          ∙ (ap₂ (λ (l : Tokens) (ns : List Bool). says_at (kind.Form f) l ns) bare kept ∙ (says_form b (a.behind ++ rest) ms no_sort ∙ body_again f (a.behind ++ rest) rest b ms (a.again rest)));
    }

form_again : (b : Body) (ms : List Bool) (tokens : Tokens) → SaysLine (form_says b ms) tokens → WideBodyFits b → Again (form_says b ms) tokens
form_again (body.Sort n) ms tokens says fits = sort_again n ms tokens says fits
form_again b ms tokens says fits = plain_again b ms tokens refl says fits

-- ---- arrays

array_again : (index element : ℕ) (rest : Tokens) → IsId index → IsId element → said_at (kind.Form form.Sort) (codes "array" ∷ decimal index ∷ decimal element ∷ rest) ≡ Ok (array_sort index element, rest)
unfolding said_at sort_said_at array_at
array_again index element rest i e = rw (sort_at-decimal index (decimal element ∷ rest) i, sort_at-decimal element rest e) refl

read_again : (s a : ℕ) (o : Operand) (rest : Tokens) → IsId s → IsId a → IsId o.id → said_at kind.Read (decimal s ∷ decimal a ∷ operand_token o ∷ rest) ≡ Ok (read s a o, rest)
unfolding said_at read_at
read_again s a o rest hs ha ho =
    ap₂ (λ (t : List ℕ) (m : Bool). read_at (decimal s ∷ decimal a ∷ t ∷ rest) (kept_signs (m ∷ []))) (id_unsigned o.minus o.id ho) (id_sign o.minus o.id ho)
    ∙ (ap (λ (r : Result (ℕ × ℕ × ℕ × Tokens) Why). r >>= λ x. Ok (read x.0 x.1 (operand x.2 (first_sign (kept_signs (o.minus ∷ [])))), x.3)) (triple_at-again s a o.id rest hs ha ho)
    ∙ ap (λ (m : Bool). Ok (read s a (operand o.id m), rest)) (first_kept o.minus))

write_again : (s a : ℕ) (o w : Operand) (rest : Tokens) → IsId s → IsId a → IsId o.id → IsId w.id → said_at kind.Write (decimal s ∷ decimal a ∷ operand_token o ∷ operand_token w ∷ rest) ≡ Ok (write s a o w, rest)
unfolding said_at write_at
write_again s a o w rest hs ha ho hw =
    let both = both_kept o.minus w.minus in
    ap₂ (λ (t u : List ℕ). write_at (decimal s ∷ decimal a ∷ t ∷ u ∷ rest) (kept_signs (has_minus (operand_token o) ∷ has_minus (operand_token w) ∷ []))) (id_unsigned o.minus o.id ho) (id_unsigned w.minus w.id hw)
    ∙ (ap₂ (λ (m n : Bool). write_at (decimal s ∷ decimal a ∷ decimal o.id ∷ decimal w.id ∷ rest) (kept_signs (m ∷ n ∷ []))) (id_sign o.minus o.id ho) (id_sign w.minus w.id hw)
    ∙ (rw (triple_at-again s a o.id (decimal w.id ∷ rest) hs ha ho, operand_at-decimal w.id rest hw) (ap₂ (λ (m n : Bool). Ok (write s a (operand o.id m) (operand w.id n), rest)) both.0 both.1)))

-- ---- all

pub says_again : (b : Says) (tokens : Tokens) → SaysLine b tokens → SaysFits b → Again b tokens
says_again (form_says b ms) tokens says fits = form_again b ms tokens says fits
says_again (array_sort index element) tokens says fits = record { behind = codes "array" ∷ decimal index ∷ decimal element ∷ []; parts = says; again = λ rest. array_again index element rest fits.0 fits.1 }
says_again (read s a o) tokens says fits = record { behind = decimal s ∷ decimal a ∷ operand_token o ∷ []; parts = says; again = λ rest. read_again s a o rest fits.0 fits.1 fits.2 }
says_again (write s a o w) tokens says fits = record { behind = decimal s ∷ decimal a ∷ operand_token o ∷ operand_token w ∷ []; parts = says; again = λ rest. write_again s a o w rest fits.0 fits.1 fits.2 fits.3 }
