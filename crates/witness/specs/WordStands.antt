-- What a judge of witnesses over a model holds, and which texts it stands for.
use Rattle.std.specs.Prelude.{◌≡◌, ℕ, suc, ◌<◌, ◌^◌, ◌||◌, Bool, true, false, List, [], ◌∷◌, ◌++◌, None, Result, Ok, Err, codes, length, map}
use Rattle.std.specs.Str.{bytes_eq}
use Rattle.base.specs.Lines.{IsLine}
use Rattle.btor2.specs.declared.item.Item.{Item}
use Rattle.btor2.specs.Items.{is_input}
use Rattle.witness.specs.declared.why.Why.{Why}
use Rattle.witness.specs.declared.word_reader.Place.{Place as CodePlace}
use Rattle.witness.specs.declared.word_reader.Place.TheVariants as code
use Rattle.witness.specs.declared.word_claims.ClaimScan.{ClaimScan}
use Rattle.witness.specs.Texts.{widths_of, has_free, shape_of}
use Rattle.witness.specs.Admits.{Place, AtStatus, AtClaims, AtParts, InStates, InFrame, AtEnd, Read, word_reader, admit}
use Rattle.witness.specs.Judgements.{frame_words, makes_no_claim}
use Rattle.witness.specs.Fits.{AreClaimed}
pub use Rattle.witness.specs.ClosedWords.{here_of}
use Rattle.witness.specs.WordClaims.{AreClaims}
use Rattle.witness.specs.KeptLines.{kept}
use Rattle.witness.specs.WordPlays.{WordPlay, Plays, steps_of, steps_taken}
use Rattle.witness.specs.PlainLines.{NoFrameLine, NoAssignment}
use Rattle.witness.specs.Stands.{Judge, Judging, StandsForLines as JudgeStandsFor}

-- which line comes next, as the code has it
abbrev pub place_of : CodePlace → Place
place_of code.Status = AtStatus
place_of code.Claims = AtClaims
place_of code.Parts = AtParts
place_of code.States = InStates
place_of code.Frame = InFrame
place_of code.End = AtEnd

-- what is kept of the admitted lines: the frames, where the next line stands, the line of claims with a flag for each bad property whether it is claimed, and
-- whether there is a free state
pub record WordReader : Type 0 where
  pub play : WordPlay
  pub place : CodePlace
  pub claims : ClaimScan
  pub claimed : List Bool
  pub has_free : Bool

-- no frame is open
pub record NoFrame (r : Read) : Type 0 where
  pub closed : r.closed ≡ []
  pub states : r.states ≡ None
  pub open_part : r.open_part ≡ []

-- what the admitted lines can say at each place
abbrev pub SaidAt : Read → Place → Type 0
SaidAt r AtStatus = NoFrame r
SaidAt r AtClaims = NoFrame r
SaidAt r AtParts = NoFrame r
SaidAt r _ = Unit {0}

-- what is claimed, with these bytes of the next line
abbrev pub ClaimsAt : WordReader → Read → List ℕ → Place → Type 0
ClaimsAt q r line AtStatus = AreClaims q.claims q.claimed []
ClaimsAt q r line AtClaims = AreClaims q.claims q.claimed line
ClaimsAt q r line _ = AreClaimed q.claimed r.claims

-- what is kept is what these lines say over a model, and these bytes of the next
pub record ReadsWords (items : List Item) (q : WordReader) (r : Read) (line : List ℕ) : Type 0 where
  pub free : q.has_free ≡ has_free (shape_of items)
  pub many : length q.claimed ≡ (shape_of items).bads
  pub place : place_of q.place ≡ r.place
  pub said : SaidAt r r.place
  pub claims : ClaimsAt q r line r.place
  pub play : Plays items (map frame_words r.closed) (here_of r r.place) q.play

-- the next line is judged by its bytes alone: of that of the claims more is kept
abbrev pub is_alone : Place → Bool
is_alone AtClaims = false
is_alone _ = true

-- what a line behind them gives
abbrev pub GivesLine : List Item → Read → List ℕ → WordReader → Result (Unit {0}) Why → Type 0
GivesLine items r line q (Ok u) = (next : Read) × ((admit (shape_of items) r line ≡ Ok next) × ReadsWords items q next [])
GivesLine items r line q (Err w) = admit (shape_of items) r line ≡ Err w

-- the next line is a comment or the status
abbrev pub is_status : Place → Bool
is_status AtStatus = true
is_status _ = false

-- a text begins with a line that was taken at its place: it is admitted
pub record TakesLine (old new : WordReader) (text rest : List ℕ) : Type 0 where
  pub line : List ℕ
  pub is : text ≡ line ++ 10 ∷ rest
  pub whole : IsLine line
  pub alone : is_alone (place_of old.place) ≡ true
  pub behind : is_status (place_of old.place) ≡ false
  pub gives : (items : List Item) (r : Read) → ReadsWords items old r line → length r.closed < 2 ^ 62 → GivesLine items r line new (Ok tt)

-- a text begins neither with the line of an assignment to an input that has no word in the open frame, nor with that which opens the next frame
pub record NoPlainLine (q : WordReader) (text : List ℕ) : Type 0 where
  pub assignment : NoAssignment (widths_of is_input q.play.items) q.play.inputs_given text
  pub opening : NoFrameLine (suc q.play.frames) text

-- the frames that are closed, the steps that they took, and what is claimed where one is closed
pub record CountsWords (items : List Item) (q : WordReader) (r : Read) : Type 0 where
  pub items_are : q.play.items ≡ items
  pub frames : q.play.frames ≡ length r.closed
  pub steps : steps_taken q.play.items q.play.run ≡ steps_of items (length r.closed)
  pub plays : Plays items (map frame_words r.closed) (here_of r r.place) q.play
  pub claimed : (r.closed ≡ [] → ⊥) → AreClaimed q.claimed r.claims

-- what a judge holds, with the first bytes of the line that has not ended
abbrev pub WordJudge : Type 0
WordJudge = Judge WordReader (List ℕ)

abbrev pub word_judging : List Item → Judging Read WordReader (List ℕ)
word_judging items =
    record {
      reader = word_reader (shape_of items);
      awaits_status = λ r. is_status r.place;
      says_none = λ line. bytes_eq line (codes "unsat") || bytes_eq line (codes "unknown");
      makes_no_claim = makes_no_claim 0;
      Counts = CountsWords items;
      Reads = ReadsWords items;
      Keeps = λ bytes line. bytes ≡ kept line;
    }

-- it stands for a text
abbrev pub StandsForWitness : List Item → WordJudge → List ℕ → Type 0
StandsForWitness items j text = JudgeStandsFor (word_judging items) j text

-- a text begins with a line that a judge took: it stands for its text with that line
pub record JudgesLine (old new : WordJudge) (text rest : List ℕ) : Type 0 where
  pub line : List ℕ
  pub is : text ≡ (line ++ 10 ∷ []) ++ rest
  pub stands : (items : List Item) (before : List ℕ) → StandsForWitness items old before → StandsForWitness items new (before ++ (line ++ 10 ∷ []))

-- the same of lines
pub record JudgesLines (old new : WordJudge) (text rest : List ℕ) : Type 0 where
  pub front : List ℕ
  pub is : text ≡ front ++ rest
  pub stands : (items : List Item) (before : List ℕ) → StandsForWitness items old before → StandsForWitness items new (before ++ front)
