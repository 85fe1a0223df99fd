-- What is read of the text of a proof with hints, in the text form of LRAT (L. Cruz-Filipe, M. Heule, W. Hunt, M. Kaufmann, P. Schneider-Kamp, "Efficient
-- certified RAT verification", CADE 2017), as CaDiCaL writes it with `--lrat`: a step is an id, the literals of a clause, `0`, hints and `0`, which adds the
-- clause with the id; or it is an id, which says nothing, `d`, ids and `0`, which takes away the clause of each id behind the `d`, one after the other.
-- This project's own: blanks and ends of lines part words and mean nothing else, a line whose first byte is `c` is passed over, numbers have no zeros in
-- front and no plus, an id is at most 2 ^ 32 - 1, a hint with a minus, which is of a step by resolution on a literal (RAT), is refused, and what the first
-- fault is.
use Rattle.std.specs.Prelude.{ℕ, suc, ◌+◌, ◌*◌, ◌-◌, ◌^◌, Bool, true, false, ◌||◌, ◌==◌, nat_lt, if◌then◌else◌, List, [], ◌∷◌, ◌++◌, length, map, Option, Some, None}
use Rattle.base.specs.Decimals.{is_nothing}
use Rattle.base.specs.Lines.{whole_lines, all_lines}
use Rattle.drup.specs.declared.why.Why.{Why}
use Rattle.drup.specs.declared.why.Why.TheVariants as why
use Rattle.drup.specs.declared.word.Said.{Said}
use Rattle.drup.specs.declared.word.Said.TheVariants as said
use Rattle.drup.specs.Words.{word_said}
use Rattle.drup.specs.Proofs.{proof_words, is_proof_comment, most_proof_lines}
use Rattle.drup.specs.Hints.{HintedStep, addition, deletion, HintedEnded, ended, HintedReading}

-- ---- words

-- What a word says: the end of a list, that a step takes clauses away, a number, a number with a minus, or that it is faulty. In the binary form a step begins
-- with a word that says whether it adds a clause or takes clauses away.
pub data Token : Type 0 where
  ends : Token
  deletes : Token
  adds : Token
  removes : Token
  number : ℕ → Token
  negative : ℕ → Token
  faulty : Why → Token

-- by what it says by itself
abbrev pub token_by : Said → Token
token_by said.Zero = ends
token_by said.Letter = deletes
token_by (said.Number n) = number n
token_by (said.Negative n) = negative n
token_by said.Nothing = faulty why.BadWord

abbrev pub token_of : List ℕ → Token
token_of word = token_by (word_said word)

-- ---- lines

-- what a word says, and the line in which it stands
pub data Mark : Type 0 where
  mark : ℕ → Token → Mark

abbrev pub line_marks : ℕ → List ℕ → List Mark
line_marks n line =
    if nat_lt most_proof_lines n then mark n (faulty why.TooLong) ∷ []
    else (if is_proof_comment line then [] else map (λ word. mark n (token_of word)) (proof_words line))

-- of lines from one with a number on
abbrev pub lines_marks : ℕ → List (List ℕ) → List Mark
lines_marks n [] = []
lines_marks n (line ∷ lines) = line_marks n line ++ lines_marks (suc n) lines

-- ---- a word of a step

-- What has come of a step: nothing, its id and literals, these and hints, or the `d` by which it takes clauses away.
pub data Begun : Type 0 where
  between : Begun
  literals : ℕ → List ℕ → Begun
  hints : ℕ → List ℕ → List ℕ → Begun
  deletions : Begun

-- What a word does: what has come is more, or a step is there, or the word is refused.
pub data Taken : Type 0 where
  goes_on : Begun → Taken
  gives : HintedStep → Begun → Taken
  refuses : Why → Taken

-- the greatest id
abbrev pub most_id : ℕ
most_id = 2 ^ 32 - 1

-- a number as an id
abbrev pub id_numbered : ℕ → Option ℕ
id_numbered n = if n == 0 || nat_lt most_id n then None else Some n

-- a word that is to be an id
abbrev pub by_id : (ℕ → Taken) → Option ℕ → Taken
by_id rest None = refuses why.BadWord
by_id rest (Some id) = rest id

-- a variable's number, of a literal whose sign is 0 or of its negation whose sign is 1, behind an id and literals
abbrev pub with_literal : ℕ → ℕ → List ℕ → ℕ → ℕ → Taken
with_literal variables id clause sign n = if n == 0 then refuses why.BadWord else (if nat_lt variables n then refuses why.BadVariable else goes_on (literals id (clause ++ (2 * n + sign) ∷ [])))

-- the first word of a step; where it only says that the step adds a clause, the id is still to come
abbrev pub first_taken : Token → Taken
first_taken ends = refuses why.BadWord
first_taken deletes = refuses why.BadWord
first_taken adds = goes_on between
first_taken removes = goes_on deletions
first_taken (number n) = by_id (λ id. goes_on (literals id [])) (id_numbered n)
first_taken (negative n) = refuses why.BadWord
first_taken (faulty w) = refuses w

-- a word behind an id and literals: a `d` may stand right behind the id
abbrev pub literal_taken : ℕ → ℕ → List ℕ → Token → Taken
literal_taken variables id clause ends = goes_on (hints id clause [])
literal_taken variables id clause deletes = if is_nothing clause then goes_on deletions else refuses why.BadWord
literal_taken variables id clause adds = refuses why.BadWord
literal_taken variables id clause removes = refuses why.BadWord
literal_taken variables id clause (number n) = with_literal variables id clause 0 n
literal_taken variables id clause (negative n) = with_literal variables id clause 1 n
literal_taken variables id clause (faulty w) = refuses w

-- a word behind the `0` of a clause, and hints
abbrev pub hint_taken : ℕ → List ℕ → List ℕ → Token → Taken
hint_taken id clause before ends = gives (addition id clause before) between
hint_taken id clause before deletes = refuses why.BadWord
hint_taken id clause before adds = refuses why.BadWord
hint_taken id clause before removes = refuses why.BadWord
hint_taken id clause before (number n) = by_id (λ hint. goes_on (hints id clause (before ++ hint ∷ []))) (id_numbered n)
hint_taken id clause before (negative n) = by_id (λ hint. refuses why.RatStep) (id_numbered n)
hint_taken id clause before (faulty w) = refuses w

-- a word behind a `d`
abbrev pub deletion_taken : Token → Taken
deletion_taken ends = goes_on between
deletion_taken deletes = refuses why.BadWord
deletion_taken adds = refuses why.BadWord
deletion_taken removes = refuses why.BadWord
deletion_taken (number n) = by_id (λ id. gives (deletion id) deletions) (id_numbered n)
deletion_taken (negative n) = refuses why.BadWord
deletion_taken (faulty w) = refuses w

-- a word of a step over so many variables
abbrev pub taken : ℕ → Begun → Token → Taken
taken variables between token = first_taken token
taken variables (literals id clause) token = literal_taken variables id clause token
taken variables (hints id clause before) token = hint_taken id clause before token
taken variables deletions token = deletion_taken token

-- ---- steps

abbrev pub refused : ℕ → Why → HintedReading
refused n w = record { steps = []; fault = Some (record { line = n; why = w }) }

abbrev pub nothing_more : HintedReading
nothing_more = record { steps = []; fault = None }

-- steps in front of a reading
abbrev pub behind_steps : List HintedEnded → HintedReading → HintedReading
behind_steps steps reading = record { steps = steps ++ reading.steps; fault = reading.fault }

-- what follows a word in a line that does this
abbrev pub by_taken : ℕ → (Begun → HintedReading) → Taken → HintedReading
by_taken n rest (goes_on begun) = rest begun
by_taken n rest (gives step begun) = behind_steps (ended n step ∷ []) (rest begun)
by_taken n rest (refuses w) = refused n w

abbrev pub has_begun : Begun → Bool
has_begun between = false
has_begun (literals id clause) = true
has_begun (hints id clause before) = true
has_begun deletions = true

-- what marks read as behind what has come of a step, over so many variables, in a text that ends in a line
abbrev pub reading_from : ℕ → ℕ → Begun → List Mark → HintedReading
reading_from variables last begun [] = if has_begun begun then refused last why.CutOff else nothing_more
reading_from variables last begun (mark n token ∷ marks) = by_taken n (λ after. reading_from variables last after marks) (taken variables begun token)

-- what a text in this form reads as, over a formula of so many variables
abbrev pub read_text_lrat : ℕ → List ℕ → HintedReading
read_text_lrat variables text = reading_from variables (suc (length (whole_lines text))) between (lines_marks 1 (all_lines text))
