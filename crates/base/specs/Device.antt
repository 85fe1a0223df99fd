-- What calls of a source or a sink do to its bytes and to its count of failures. `Rattle.std.specs.Io.KnownBytes` has the words for one read and one write.
use Rattle.std.specs.Prelude.{◌≡◌, ℕ, List, ◌++◌, Option, Result, MatchResult}
use Rattle.std.specs.Io.KnownBytes.{Appends}
use Rattle.base.specs.Steps.{one_more}

-- a count of failures has risen: there is one failure more; a count at its greatest value of 128 bits counts as risen
abbrev pub HasRisen : ℕ → ℕ → Type 0
HasRisen old new = new ≡ one_more old

-- a count of failures is as before where a call succeeds, and has risen where it answers a fault
abbrev pub CountsFaults : {T E : Type 0} → Result T E → ℕ → ℕ → Type 0
CountsFaults r old new = MatchResult r (λ _. new ≡ old) (λ _. HasRisen old new)

-- a list begins with another
abbrev pub BeginsWith : List ℕ → List ℕ → Type 0
BeginsWith whole front = (rest : List ℕ) × (front ++ rest ≡ whole)

-- known bytes grow by the front of a text, and this rest of it is still to come
pub record Sent (old new : Option (List ℕ)) (text rest : List ℕ) : Type 0 where
  pub front : List ℕ
  pub whole : front ++ rest ≡ text
  pub appends : Appends old new front

-- known bytes grow by a beginning of a text
abbrev pub AppendsBeginning : Option (List ℕ) → Option (List ℕ) → List ℕ → Type 0
AppendsBeginning old new text = (front : List ℕ) × BeginsWith text front × Appends old new front
