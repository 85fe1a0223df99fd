-- How the words of forms that were read before are kept, and what is compared of them.
use Rattle.std.specs.Prelude.{◌≡◌, ℕ, ◌+◌, ◌<◌, ◌≤◌, false, List, [], ◌∷◌, ◌++◌, length, take, slice_index, ◌==◌}
use Rattle.btor2text.specs.declared.known_words.KnownWord.{KnownWord}
use Rattle.btor2text.specs.Words.{form_name}

-- a text begins with a form's word and a space
pub record IsKnown (known : KnownWord) : Type 0 where
  pub length : known.length ≡ length (form_name known.form) + 1
  pub short : known.length ≤ 8
  pub text : take known.length known.text ≡ form_name known.form ++ 32 ∷ []

-- eight bytes are those of a text, wherever that has another one than 0
abbrev pub BeginsAs : List ℕ → List ℕ → Type 0
BeginsAs text bytes = (j : ℕ) → j < 8 → (slice_index text j == 0) ≡ false → slice_index bytes j ≡ slice_index text j
