-- The numbers of the whys of a line, and what is printed of a why and of a judgement (the words are this project's).
use Rattle.std.specs.Prelude.{ℕ, List, ◌∷◌, ◌++◌, codes, decimal}
use Rattle.witness.specs.declared.why.Why.{Why}
use Rattle.witness.specs.declared.why.Why.TheVariants.{BadHeader, BadClaim, JusticeClaim, FrameOrder, BadIndex, IndexTwice, BadValue, Undetermined, Truncated, Trailing, TooLong, BadSymbol}
use Rattle.witness.specs.declared.judgement.Judgement.{Judgement}
use Rattle.witness.specs.declared.judgement.Judgement.TheVariants.{Accepted, NotReached, Violated, InitDiffers, Malformed, NoClaim}

-- the number that is printed for a why
abbrev pub why_number : Why → ℕ
why_number BadHeader = 110
why_number BadClaim = 111
why_number JusticeClaim = 112
why_number FrameOrder = 113
why_number BadIndex = 114
why_number IndexTwice = 115
why_number BadValue = 116
why_number Undetermined = 117
why_number Truncated = 118
why_number Trailing = 119
why_number TooLong = 120
why_number BadSymbol = 121

-- the name of a why
abbrev pub why_name : Why → List ℕ
why_name BadHeader = codes "BadHeader"
why_name BadClaim = codes "BadClaim"
why_name JusticeClaim = codes "JusticeClaim"
why_name FrameOrder = codes "FrameOrder"
why_name BadIndex = codes "BadIndex"
why_name IndexTwice = codes "IndexTwice"
why_name BadValue = codes "BadValue"
why_name Undetermined = codes "Undetermined"
why_name Truncated = codes "Truncated"
why_name Trailing = codes "Trailing"
why_name TooLong = codes "TooLong"
why_name BadSymbol = codes "BadSymbol"

-- the number of a why, a space and its name
abbrev pub why_text : Why → List ℕ
why_text w = decimal (why_number w) ++ 32 ∷ why_name w

-- the line of a judgement, without its end
abbrev pub judgement_text : Judgement → List ℕ
judgement_text (Accepted frames) = codes "accepted " ++ decimal frames ++ codes " frames"
judgement_text (NotReached claim) = codes "not reached: b" ++ decimal claim
judgement_text (Violated frame constraint) = codes "violated: frame " ++ (decimal frame ++ (codes ", constraint " ++ decimal constraint))
judgement_text (InitDiffers index) = codes "initial value differs at " ++ decimal index
judgement_text (Malformed line why) = codes "malformed line " ++ decimal line ++ codes ": " ++ why_text why
judgement_text NoClaim = codes "no claim"
