-- What the exported calls that lift and dump witnesses answer, said of the bytes that they are given.
use Rattle.std.specs.Prelude.{◌≡◌, ℕ, Bool, false, List, [], Option, Some}
use Rattle.vcd.specs.declared.scope.Shown.{Shown}
use Rattle.verbs.specs.Judging.{IsDumped}
use Rattle.verbs.specs.Lifting.{IsFormLifted, IsFoundLifted, IsLifted}
use Rattle.verbs.specs.declared.lifting.FoundLifted.{FoundLifted}
use Rattle.verbs.specs.declared.lifting.Lifted.{Lifted}
use Rattle.witness.specs.declared.judgement.Judgement.{Judgement}
use Rattle.capi.specs.Answers.{found_verdict_of, verdict_of}
use Rattle.capi.specs.declared.answers.Verdict.{Verdict}

-- the second text, a witness of the circuit of the first text's model, is lifted to some bytes, and is judged so
pub record CallLifts (model witness : List ℕ) (verdict : Verdict) (bytes : List ℕ) : Type 0 where
  pub answer : Lifted
  pub is : IsLifted false (Some model) (Some witness) (Some []) (Some bytes) answer
  pub told : verdict ≡ verdict_of answer.judgement

-- the second text, a witness of the engine form of that circuit, is lifted to some bytes, with names or without, and is judged so
pub record CallLiftsForm (named : Bool) (choice : Option ℕ) (model witness : List ℕ) (verdict : Verdict) (bytes : List ℕ) : Type 0 where
  pub answer : Lifted
  pub is : IsFormLifted named choice (Some model) (Some witness) (Some []) (Some bytes) answer
  pub told : verdict ≡ verdict_of answer.judgement

-- the second text, a counterexample over that form, is lifted to some bytes, with names or without, and this is told of it
pub record CallLiftsFound (named : Bool) (choice : Option ℕ) (model found : List ℕ) (verdict : Verdict) (bytes : List ℕ) : Type 0 where
  pub answer : FoundLifted
  pub is : IsFoundLifted named choice (Some model) (Some found) (Some []) (Some bytes) answer
  pub told : verdict ≡ found_verdict_of (λ judged. judged.0) answer.told

-- the second text, a witness of the first text's model, is judged so, and some bytes are the dump of its closed frames, with a title
pub record CallDumps (shown : Shown) (title model witness : List ℕ) (verdict : Verdict) (bytes : List ℕ) : Type 0 where
  pub judgement : Judgement
  pub is : IsDumped shown title (Some model) (Some witness) (Some []) (Some bytes) judgement
  pub told : verdict ≡ verdict_of judgement
