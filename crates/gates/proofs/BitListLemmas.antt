-- Words whose literals are made one after the other, place by place.
use Rattle.std.proofs.Common.{◌≡◌, ℕ, ◌+◌, ◌*◌, ◌^◌, ◌<◌, ◌≤◌, Bool, if◌then◌else◌, List, [], ◌∷◌, ◌++◌, length, map, take, get_or, All, refl, sym, ap, ap₂, ◌∙◌, subst, arith, length-take}
use Rattle.std.proofs.lemmas.List.{length-map, length_push, take_all, take_more, map-append}
use Rattle.std.proofs.lemmas.List.Elements.{All-nil, All-cons, All-push}
use Rattle.base.specs.Word.{word, bit_number}
use Rattle.base.proofs.BitLemmas.{word_below}
use Rattle.base.specs.Literal.{Valuation, literal_value}
use Rattle.aiger.specs.Net.{Net, IsDefined, Satisfies}
use Rattle.gates.specs.Made.{Grows, MakesLiteral, MakesWord, word_value}
use Rattle.gates.proofs.GrowthLemmas.{Grows-weaker, Grows-trans, Satisfies-earlier, All-defined-grown}
use Rattle.gates.proofs.WordLemmas.{zip_with, zip_with-push, word-push}

-- a row of literals for the first places of two lists, each made with at most so many gates and with one meaning
pub record IsRow (old new : Net) (cost i : ℕ) (f : Valuation → Bool → Bool → Bool) (a b bits : List ℕ) : Type 0 where
  pub grows : Grows old new (cost * i)
  pub wide : length bits ≡ i
  pub defined : All (IsDefined new) bits
  pub means : (v : Valuation) → Satisfies new v → map (literal_value v) bits ≡ zip_with (f v) (map (literal_value v) (take i a)) (map (literal_value v) (take i b))

-- two lists up to one place more
zip_with-more : (h : ℕ → Bool) (f : Bool → Bool → Bool) (a b : List ℕ) (i x y : ℕ) → i < length a → i < length b → x ≡ get_or a i x → y ≡ get_or b i y
    → zip_with f (map h (take (i + 1) a)) (map h (take (i + 1) b)) ≡ zip_with f (map h (take i a)) (map h (take i b)) ++ f (h x) (h y) ∷ []
zip_with-more h f a b i x y in_a in_b x_is y_is =
    let front_a : map h (take (i + 1) a) ≡ map h (take i a) ++ h x ∷ [] = rw (take_more a i x in_a, ← x_is) (map-append h (take i a) (x ∷ [])) in
    let front_b : map h (take (i + 1) b) ≡ map h (take i b) ++ h y ∷ [] = rw (take_more b i y in_b, ← y_is) (map-append h (take i b) (y ∷ [])) in
    rw (front_a, front_b) (zip_with-push f (map h (take i a)) (map h (take i b)) (h x) (h y) (omega (arith, length-map (take i a) h, length-map (take i b) h, length-take i a, length-take i b)))

-- one literal more
pub IsRow-push : (old mid new : Net) (cost i : ℕ) (f : Valuation → Bool → Bool → Bool) (a b bits : List ℕ) (x y l : ℕ) → i < length a → i < length b → x ≡ get_or a i x → y ≡ get_or b i y
    → IsRow old mid cost i f a b bits → MakesLiteral mid new cost (λ v. f v (literal_value v x) (literal_value v y)) l → IsRow old new cost (i + 1) f a b (bits ++ l ∷ [])
IsRow-push old mid new cost i f a b bits x y l in_a in_b x_is y_is row makes =
    record {
      grows = Grows-weaker old new (cost * i + cost) (cost * (i + 1)) (omega arith) (Grows-trans old mid new (cost * i) cost row.grows makes.grows);
      wide = (let w = row.wide in let e = length_push bits l in omega arith);
      defined = All-push (IsDefined new) bits l (All-defined-grown mid new cost makes.grows bits row.defined) makes.defined;
      means = λ v s.
          let before = row.means v (Satisfies-earlier mid new cost makes.grows v s) in
          map-append (literal_value v) bits (l ∷ []) ∙ rw (before, makes.means v s) (sym (zip_with-more (literal_value v) (f v) a b i x y in_a in_b x_is y_is));
    }

-- a row for all places makes a word
pub MakesWord-row : (old new : Net) (cost n i : ℕ) (f : Valuation → Bool → Bool → Bool) (meaning : Valuation → ℕ) (a b bits : List ℕ) → length a ≡ n → length b ≡ n → i ≡ n
    → ((v : Valuation) → word (zip_with (f v) (map (literal_value v) a) (map (literal_value v) b)) ≡ meaning v) → IsRow old new cost i f a b bits → MakesWord old new (cost * n) n meaning bits
MakesWord-row old new cost n i f meaning a b bits in_a in_b all reads row =
    record {
      grows = rw (← all) row.grows;
      wide = row.wide ∙ all;
      defined = row.defined;
      means = λ v s.
          let whole_a : take i a ≡ a = take_all i a (omega arith) in
          let whole_b : take i b ≡ b = take_all i b (omega arith) in
          let m : map (literal_value v) bits ≡ zip_with (f v) (map (literal_value v) a) (map (literal_value v) b) = rw (whole_a, whole_b) at (row.means v s) in
          ap word m ∙ reads v;
    }

-- the word that the first literals read as, with one literal more
pub word_value-more : (v : Valuation) (a : List ℕ) (i x : ℕ) → i < length a → x ≡ get_or a i x → word_value v (take (i + 1) a) ≡ word_value v (take i a) + 2 ^ i * bit_number (literal_value v x)
word_value-more v a i x inside is =
    let front : map (literal_value v) (take (i + 1) a) ≡ map (literal_value v) (take i a) ++ literal_value v x ∷ [] = rw (take_more a i x inside, ← is) (map-append (literal_value v) (take i a) (x ∷ [])) in
    let wide : length (map (literal_value v) (take i a)) ≡ i = omega (arith, length-map (take i a) (literal_value v), length-take i a) in
    ap word front ∙ word-push (map (literal_value v) (take i a)) (literal_value v x) ∙ ap (λ k. word_value v (take i a) + 2 ^ k * bit_number (literal_value v x)) wide

-- it is a word of their number
pub word_value-below : (v : Valuation) (a : List ℕ) (n : ℕ) → length a ≡ n → word_value v a < 2 ^ n
word_value-below v a n wide =
    let e : length (map (literal_value v) a) ≡ n = length-map a (literal_value v) ∙ wide in
    subst (λ k. word_value v a < 2 ^ k) e (word_below (map (literal_value v) a))

-- one literal makes a word of one bit
pub MakesWord-bit : (old new : Net) (most l : ℕ) (f : Valuation → Bool) (bits : List ℕ) → bits ≡ l ∷ [] → MakesLiteral old new most f l → MakesWord old new most 1 (λ v. bit_number (f v)) bits
MakesWord-bit old new most l f bits is m =
    rw is (record {
      grows = m.grows;
      wide = refl;
      defined = All-cons (IsDefined new) l [] m.defined (All-nil (IsDefined new));
      means = λ v s. rw (m.means v s) (omega arith);
    })

-- said in other words
pub MakesWord-same : (old new : Net) (most wide : ℕ) (f g : Valuation → ℕ) (bits : List ℕ) → ((v : Valuation) → f v ≡ g v) → MakesWord old new most wide f bits → MakesWord old new most wide g bits
MakesWord-same old new most wide f g bits same m = record { grows = m.grows; wide = m.wide; defined = m.defined; means = λ v s. m.means v s ∙ same v }

-- a literal of a word that was made before, what is known of that word put in
pub MakesLiteral-of_word : (old mid new : Net) (m n wide l : ℕ) (f : Valuation → ℕ) (g : Valuation → ℕ → Bool) (bits : List ℕ) → MakesWord old mid m wide f bits → MakesLiteral mid new n (λ v. g v (word_value v bits)) l → MakesLiteral old new (m + n) (λ v. g v (f v)) l
MakesLiteral-of_word old mid new m n wide l f g bits first second = record {
  grows = Grows-trans old mid new m n first.grows second.grows;
  defined = second.defined;
  means = λ v s. second.means v s ∙ ap (g v) (first.means v (Satisfies-earlier mid new n second.grows v s));
}

-- the word that one literal reads as
pub word_value-bit : (v : Valuation) (a : List ℕ) (x : ℕ) → length a ≡ 1 → x ≡ get_or a 0 x → word_value v a ≡ bit_number (literal_value v x)
word_value-bit v [] x one is = absurd (omega arith)
word_value-bit v (l ∷ []) x one is = rw is (omega arith)
word_value-bit v (l ∷ m ∷ rest) x one is = absurd (omega arith)

-- a word of a word that was made before, what is known of that one put in
pub MakesWord-of_word : (old mid new : Net) (m n wide width : ℕ) (f : Valuation → ℕ) (g : Valuation → ℕ → ℕ) (xs ys : List ℕ) → MakesWord old mid m wide f xs → MakesWord mid new n width (λ v. g v (word_value v xs)) ys → MakesWord old new (m + n) width (λ v. g v (f v)) ys
MakesWord-of_word old mid new m n wide width f g xs ys first second = record {
  grows = Grows-trans old mid new m n first.grows second.grows;
  wide = second.wide;
  defined = second.defined;
  means = λ v s. second.means v s ∙ ap (g v) (first.means v (Satisfies-earlier mid new n second.grows v s));
}

-- within a greater bound
pub MakesWord-weaker : (old new : Net) (few most wide : ℕ) (f : Valuation → ℕ) (bits : List ℕ) → few ≤ most → MakesWord old new few wide f bits → MakesWord old new most wide f bits
MakesWord-weaker old new few most wide f bits le m = record { grows = Grows-weaker old new few most le m.grows; wide = m.wide; defined = m.defined; means = m.means }

-- a word chosen by a literal, behind the word and the literal that were made before
pub MakesWord-choice : (a b c d : Net) (m n k wide x : ℕ) (f far : Valuation → ℕ) (h : Valuation → Bool) (bits row : List ℕ) → MakesWord a b m wide f bits → MakesLiteral b c n h x → MakesWord c d k wide (λ v. if literal_value v x then far v else word_value v bits) row
    → MakesWord a d (m + n + k) wide (λ v. if h v then far v else f v) row
MakesWord-choice a b c d m n k wide x f far h bits row word test choice = record {
  grows = Grows-trans a c d (m + n) k (Grows-trans a b c m n word.grows test.grows) choice.grows;
  wide = choice.wide;
  defined = choice.defined;
  means = λ v s.
      let tested = Satisfies-earlier c d k choice.grows v s in
      choice.means v s ∙ ap₂ (λ t w. if t then far v else w) (test.means v tested) (word.means v (Satisfies-earlier b c n test.grows v tested));
}
