-- What is kept of a word byte by byte is what its bytes say.
use Rattle.std.proofs.Common.{◌≡◌, ℕ, ◌==◌, Bool, true, false, ◌&&◌, List, [], ◌∷◌, ◌++◌, Option, Some, None, codes, inl, inr, refl, sym, ap, subst, ◌∙◌}
use Rattle.std.specs.Str.{bytes_eq}
use Rattle.std.proofs.lemmas.Bool.{cases_Bool, eqb-true}
use Rattle.base.specs.Decimals.{is_nothing, is_decimal, number_of}
use Rattle.base.proofs.DecimalLemmas.{nothing}
use Rattle.drup.specs.declared.word.Word.{Word}
use Rattle.base.specs.declared.numeral.Numeral.{Numeral}
use Rattle.base.specs.Numerals.{CountsDigits}
use Rattle.drup.specs.declared.why.Why.TheVariants as why
use Rattle.drup.specs.declared.word.Said.{Said}
use Rattle.drup.specs.declared.word.Said.TheVariants as said
use Rattle.drup.specs.Proofs.{Token, ends, deletes, faulty, variable_numbered, literal_said, token_of}
use Rattle.drup.specs.Words.{SpellsWord, decimal_said, number_word, word_said, with_minus, sign_of, IsFirstByte}

and-false : (b : Bool) → (b && false) ≡ false
and-false true = refl
and-false false = refl

and-true : (b : Bool) → (b && true) ≡ b
and-true true = refl
and-true false = refl

pub no_word : (n : Numeral) → CountsDigits n [] → SpellsWord (record { negative = false; deletes = false; numeral = n }) []
no_word n h = record { behind = []; is = refl; first = refl; numeral = h; deletes = refl }

-- there is no byte

pub behind_all : (w : Word) (bytes : List ℕ) (s : SpellsWord w bytes) → w.negative ≡ false → s.behind ≡ bytes
behind_all w bytes s is = ap (λ (n : Bool). with_minus n s.behind) (sym is) ∙ sym s.is

pub minus_there : (w : Word) (bytes : List ℕ) → SpellsWord w bytes → w.negative ≡ true → (false ≡ is_nothing bytes) × (false ≡ bytes_eq bytes (codes "0"))
minus_there w bytes s is =
    let all : bytes ≡ 45 ∷ s.behind = s.is ∙ ap (λ (n : Bool). with_minus n s.behind) is in
    rw all (refl, refl)

nothing_kept : (w : Word) (bytes : List ℕ) → SpellsWord w bytes → bytes ≡ [] → CountsDigits w.numeral []
nothing_kept w bytes s none = at w.negative s.behind s.numeral (sym none ∙ s.is)
  where
    at : (negative : Bool) (behind : List ℕ) → CountsDigits w.numeral behind → [] ≡ with_minus negative behind → CountsDigits w.numeral []
    at true behind c is = absurd (cc (is))
    at false [] c is = c
    at false (b ∷ bs) c is = absurd (cc (is))

-- ---- a byte more

not_delete : (bytes : List ℕ) (b : ℕ) → is_nothing bytes ≡ false → false ≡ bytes_eq (bytes ++ b ∷ []) (codes "d")
not_delete [] b some = absurd (cc)
not_delete (x ∷ []) b some = sym (and-false (x == 100))
not_delete (x ∷ y ∷ ys) b some = sym (and-false (x == 100))

pub spells_more : (w : Word) (bytes : List ℕ) (b : ℕ) (n : Numeral) → is_nothing bytes ≡ false → ((behind : List ℕ) → CountsDigits w.numeral behind → CountsDigits n (behind ++ b ∷ [])) → SpellsWord w bytes → SpellsWord (record { negative = w.negative; deletes = false; numeral = n }) (bytes ++ b ∷ [])
spells_more w bytes b n some more s =
    record {
      behind = s.behind ++ b ∷ [];
      is = ap (λ (t : List ℕ). t ++ b ∷ []) s.is ∙ over w.negative s.behind;
      first = first_more w.negative s.behind s.first (subst (λ (t : List ℕ). is_nothing t ≡ false) s.is some);
      numeral = more s.behind s.numeral;
      deletes = not_delete bytes b some;
    }
  where
    over : (negative : Bool) (behind : List ℕ) → with_minus negative behind ++ b ∷ [] ≡ with_minus negative (behind ++ b ∷ [])
    over true behind = refl
    over false behind = refl

    first_more : (negative : Bool) (behind : List ℕ) → IsFirstByte negative behind → is_nothing (with_minus negative behind) ≡ false → IsFirstByte negative (behind ++ b ∷ [])
    first_more true behind f some = tt
    first_more false [] f some = absurd (cc)
    first_more false (x ∷ xs) f some = f

pub spells_minus : (w : Word) (bytes : List ℕ) (b : ℕ) → is_nothing bytes ≡ true → (b == 45) ≡ true → SpellsWord w bytes → SpellsWord (record { negative = true; deletes = false; numeral = w.numeral }) (bytes ++ b ∷ [])
spells_minus w bytes b none is s =
    let no : bytes ≡ [] = nothing bytes none in
    let minus : b ≡ 45 = eqb-true b 45 is in
    rw (no, minus) (record { behind = []; is = refl; first = tt; numeral = nothing_kept w bytes s no; deletes = refl })

pub spells_first : (w : Word) (bytes : List ℕ) (b : ℕ) (n : Numeral) → is_nothing bytes ≡ true → (b == 45) ≡ false → ((behind : List ℕ) → CountsDigits w.numeral behind → CountsDigits n (behind ++ b ∷ [])) → SpellsWord w bytes → SpellsWord (record { negative = false; deletes = b == 100; numeral = n }) (bytes ++ b ∷ [])
spells_first w bytes b n none is_not more s =
    let no : bytes ≡ [] = nothing bytes none in
    rw no (record { behind = b ∷ []; is = refl; first = is_not; numeral = more [] (nothing_kept w bytes s no); deletes = sym (and-true (b == 100)) })

-- ---- what it says

pub says_zero : (bytes : List ℕ) → bytes_eq bytes (codes "0") ≡ true → said.Zero ≡ word_said bytes
says_zero bytes is = rw is refl

pub says_letter : (bytes : List ℕ) → bytes_eq bytes (codes "0") ≡ false → bytes_eq bytes (codes "d") ≡ true → said.Letter ≡ word_said bytes
says_letter bytes zero is = rw (zero, is) refl

number_is : (negative : Bool) (behind : List ℕ) → IsFirstByte negative behind → decimal_said negative (number_of behind) ≡ number_word (with_minus negative behind)
unfolding number_of is_decimal
number_is true behind f = refl
number_is false [] f = refl
number_is false (b ∷ bs) f = let not : (b == 45) ≡ false = f in rw not refl

pub says_number : (w : Word) (bytes : List ℕ) (number : Option ℕ) → SpellsWord w bytes → bytes_eq bytes (codes "0") ≡ false → bytes_eq bytes (codes "d") ≡ false → ((behind : List ℕ) → CountsDigits w.numeral behind → number ≡ number_of behind)
    → decimal_said w.negative number ≡ word_said bytes
says_number w bytes number s zero d is =
    let over : word_said bytes ≡ number_word bytes = rw (zero, d) refl in
    ap (decimal_said w.negative) (is s.behind s.numeral) ∙ number_is w.negative s.behind s.first ∙ ap number_word (sym s.is) ∙ sym over

-- ---- what it says over variables

-- what a word says over variables goes by what it says by itself
abbrev pub token_by : ℕ → Said → Token
token_by variables said.Zero = ends
token_by variables said.Letter = deletes
token_by variables (said.Number n) = variable_numbered variables 0 (Some n)
token_by variables (said.Negative n) = variable_numbered variables 1 (Some n)
token_by variables said.Nothing = faulty why.BadWord

decimal_by : (variables : ℕ) (minus : Bool) (number : Option ℕ) → token_by variables (decimal_said minus number) ≡ variable_numbered variables (sign_of minus) number
decimal_by variables minus None = refl
decimal_by variables true (Some n) = refl
decimal_by variables false (Some n) = refl

number_by : (variables : ℕ) (bytes : List ℕ) → token_by variables (number_word bytes) ≡ literal_said variables bytes
number_by variables [] = refl
number_by variables (b ∷ bs) =
    elim (cases_Bool (b == 45)) [
      | inl is ↦ rw is (decimal_by variables true (number_of bs))
      | inr not ↦ rw not (decimal_by variables false (number_of (b ∷ bs)))
    ]

pub says_token : (variables : ℕ) (bytes : List ℕ) → token_by variables (word_said bytes) ≡ token_of variables bytes
says_token variables bytes =
    elim (cases_Bool (bytes_eq bytes (codes "0"))) [
      | inl is ↦ rw is refl
      | inr zero ↦ elim (cases_Bool (bytes_eq bytes (codes "d"))) [
        | inl is ↦ rw (zero, is) refl
        | inr d ↦ rw (zero, d) (number_by variables bytes)
      ]
    ]
