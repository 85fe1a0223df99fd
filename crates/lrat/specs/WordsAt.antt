-- Whole words of a text.
use Rattle.std.specs.Prelude.{◌≡◌, ℕ, ◌<◌, ◌^◌, decimal, Bool, true, false, ◌||◌, ◌==◌, List, ◌++◌, length, take, slice_index_or}
use Rattle.std.specs.List.{list_any}
use Rattle.base.specs.Decimals.{is_nothing}
use Rattle.drup.specs.Proofs.{is_proof_blank}
use Rattle.lrat.specs.declared.token.Token.{Token as CodeToken}
use Rattle.lrat.specs.declared.word_at.WordAt.{WordAt}
use Rattle.lrat.specs.HintedProofs.{token_of}
use Rattle.lrat.specs.Words.{token_said}

-- a byte parts words: it is a blank, or ends a line
abbrev pub parts_words : ℕ → Bool
parts_words b = b == 10 || is_proof_blank b

-- bytes none of which parts words, which say this
pub record IsWordOf (token : CodeToken) (word : List ℕ) : Type 0 where
  pub said : token_said token ≡ token_of word
  pub whole : list_any parts_words word ≡ false

-- a word stands at a place, and behind it a byte that parts words
pub record IsWordAt (bytes : List ℕ) (at : ℕ) (found : WordAt) : Type 0 where
  pub word : List ℕ
  pub is : take found.end bytes ≡ take at bytes ++ word
  pub some : is_nothing word ≡ false
  pub of : IsWordOf found.token word
  pub inside : found.end < length bytes
  pub behind : parts_words (slice_index_or bytes found.end 0) ≡ true

-- the decimal of a number from 1 on stands at a place up to another, and behind it a byte that parts words
pub record IsNumberAt (bytes : List ℕ) (at value end : ℕ) : Type 0 where
  pub is : take end bytes ≡ take at bytes ++ decimal value
  pub some : 0 < value
  pub low : value < 2 ^ 64
  pub order : at < end
  pub inside : end < length bytes
  pub behind : parts_words (slice_index_or bytes end 0) ≡ true
