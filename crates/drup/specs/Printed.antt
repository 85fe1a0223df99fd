-- What is printed of a why and of a judgement (the words are this project's).
use Rattle.std.specs.Prelude.{ℕ, List, ◌∷◌, ◌++◌, codes, decimal}
use Rattle.drup.specs.declared.why.Why.{Why}
use Rattle.drup.specs.declared.why.Why.TheVariants as why
use Rattle.drup.specs.declared.judgement.Judgement.{Judgement}
use Rattle.drup.specs.declared.judgement.Judgement.TheVariants as judgement

-- the number of a why
abbrev pub proof_why_number : Why → ℕ
proof_why_number why.BadWord = 161
proof_why_number why.BadVariable = 162
proof_why_number why.CutOff = 163
proof_why_number why.TooLong = 164
proof_why_number why.BadId = 167
proof_why_number why.NoClause = 168
proof_why_number why.RatStep = 169

-- the name of a why
abbrev pub proof_why_name : Why → List ℕ
proof_why_name why.BadWord = codes "BadWord"
proof_why_name why.BadVariable = codes "BadVariable"
proof_why_name why.CutOff = codes "CutOff"
proof_why_name why.TooLong = codes "TooLong"
proof_why_name why.BadId = codes "BadId"
proof_why_name why.NoClause = codes "NoClause"
proof_why_name why.RatStep = codes "RatStep"

-- the number of a why, a space and its name
abbrev pub proof_why_text : Why → List ℕ
proof_why_text w = decimal (proof_why_number w) ++ 32 ∷ proof_why_name w

-- the line of a judgement, without its end
abbrev pub proof_judgement_text : Judgement → List ℕ
proof_judgement_text (judgement.Derived line) = codes "derived: line " ++ decimal line
proof_judgement_text (judgement.NotImplied line) = codes "not implied: line " ++ decimal line
proof_judgement_text (judgement.Malformed line why) = codes "malformed line " ++ decimal line ++ codes ": " ++ proof_why_text why
proof_judgement_text judgement.NotDerived = codes "not derived"
