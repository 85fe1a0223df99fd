-- The lines of a list, one behind the other.
use Rattle.std.proofs.Common.{ℕ, suc, Bool, true, false, List, [], ◌++◌, Option, refl, subst}
use Rattle.std.specs.Io.KnownBytes.{Appends}
use Rattle.requests.specs.declared.told_lines.Totals.{Totals}
use Rattle.requests.specs.Judged.{JudgesLineBy}
use Rattle.requests.specs.Lists.{JudgesFirst, JudgesLines}
use Rattle.requests.specs.Told.{answer_said}

-- what is told of a line, in front of what is told of those behind it
pub record Begins (texts : List ℕ → Option (List ℕ)) (as_json : Bool) (b : Bool) (n : ℕ) (ws : List (List ℕ)) (ls : List (List ℕ)) (t t' : Totals) (o o' : Option (List ℕ)) : Type 0 where
  pub said : List ℕ
  pub told : Appends o o' said
  pub goes_on : (more : List ℕ) (behind : Totals) → JudgesLines texts as_json (suc n) ls t' more behind → JudgesFirst b (λ rest totals. JudgesLines texts as_json (suc n) ls totals rest behind) texts as_json n ws t (said ++ more)

pub begins : (texts : List ℕ → Option (List ℕ)) (as_json : Bool) (b : Bool) (n : ℕ) (ws : List (List ℕ)) (ls : List (List ℕ)) (t t' : Totals) (o o' : Option (List ℕ)) → JudgesLineBy b texts as_json n ws t t' o o' → Begins texts as_json b n ws ls t t' o o'
begins texts as_json false n ws ls t t' o o' h = record {
  said = [];
  told = h.1;
  goes_on = λ more behind rest. subst (λ (x : Totals). JudgesLines texts as_json (suc n) ls x more behind) h.0 rest;
}
begins texts as_json true n ws ls t t' o o' h = record {
  said = answer_said as_json n h.0;
  told = h.1.1.1;
  goes_on = λ more behind rest. (h.0, (more, (h.1.0, (refl, subst (λ (x : Totals). JudgesLines texts as_json (suc n) ls x more behind) h.1.1.0 rest))));
}
