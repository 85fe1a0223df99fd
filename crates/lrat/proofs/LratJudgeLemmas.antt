-- Judges of proofs with hints in either form.
use Rattle.std.proofs.Common.{◌≡◌, ℕ, nat_lt, Bool, true, false, if◌then◌else◌, List, [], ◌∷◌, ◌++◌, refl, sym, ap, ap₂, subst, ◌∙◌, append_assoc, append-nil}
use Rattle.std.specs.Prelude.{Result, IfOk}
use Rattle.std.specs.List.{list_any}
use Rattle.drup.specs.declared.fault.ClauseFault.{ClauseFault}
use Rattle.drup.specs.declared.judgement.Judgement.{Judgement}
use Rattle.drup.specs.declared.why.Why.{Why}
use Rattle.drup.specs.Formula.{Formula}
use Rattle.drup.specs.Hints.{HintedReading, judge_hinted}
use Rattle.drup.specs.BinaryProofs.{number_pieces}
use Rattle.drup.specs.ProofJudges.{ends_number}
use Rattle.drup.proofs.BytesLemmas.{open_more}
use Rattle.lrat.specs.declared.lrat_judge.Form.{Form}
use Rattle.lrat.specs.declared.lrat_judge.Form.TheVariants as form
use Rattle.lrat.specs.declared.scan.Scan.{Scan}
use Rattle.lrat.specs.HintedProofs.{Token, faulty, Mark, mark, between, reading_from, read_text_lrat}
use Rattle.lrat.specs.BinaryHintedProofs.{Spot, piece_said, spot_behind, step_behind, step_marks, binary_marks, read_binary_lrat}
use Rattle.lrat.specs.HintedForms.{is_binary_lrat, read_lrat}
use Rattle.lrat.specs.LratJudgements.{judge_lrat}
use Rattle.drup.specs.Numbers.{SpellsNumber}
use Rattle.lrat.specs.Scans.{spot_of}
use Rattle.lrat.specs.StepReaders.{StepReader, StandsAtStep, StandsForWords}
use Rattle.lrat.specs.TextJudges.{TextJudge, StandsForLines}
use Rattle.lrat.specs.LratJudges.{LratJudge, ScannedBytes, ScannedBytesAt, StandsForBytes, AreWordsAt, EndsBytes, IsInForm, BeginsLrat, StandsIn, StandsForLrat, EndsIn, EndsLrat}
use Rattle.lrat.proofs.StepReaderLemmas.{stands_begun}
use Rattle.lrat.proofs.ByteLemmas.{piece_ends}

-- ---- what was scanned in the binary form

pub scanned_any : (j : LratJudge) (text : List ℕ) (marks : List Mark) (closed : Bool) → ScannedBytes j text marks → ScannedBytesAt j text marks closed
scanned_any j text marks true s = λ more. (step_marks j.scan.step (spot_of j.scan.spot) (number_pieces (s.bytes ++ more)), s.reads more)
scanned_any j text marks false s = s

pub scanned : (f : Formula) (j : LratJudge) (text : List ℕ) (b : StandsForBytes f j text) → j.text.reader.closed ≡ false → ScannedBytes j text b.marks
scanned f j text b is = subst (ScannedBytesAt j text b.marks) is b.scanned

-- where nothing more is read, a piece more changes nothing
pub piece_passed : (f : Formula) (j : LratJudge) (text piece : List ℕ) → j.text.reader.closed ≡ true → StandsForBytes f j text → StandsForBytes f j (text ++ piece)
piece_passed f j text piece is b =
    let s : ScannedBytesAt j text b.marks true = subst (ScannedBytesAt j text b.marks) is b.scanned in
    let now : ScannedBytesAt j (text ++ piece) b.marks true = λ more. ((s (piece ++ more)).0, ap binary_marks (append_assoc text piece more) ∙ (s (piece ++ more)).1) in
    record { variables = b.variables; marks = b.marks; words = b.words; scanned = subst (ScannedBytesAt j (text ++ piece) b.marks) (sym is) now }

no_more : (f : Formula) (r : StepReader) (marks : List Mark) → StandsForWords f r marks → StandsForWords f r (marks ++ [])
no_more f r marks s = subst (StandsForWords f r) (sym (append-nil marks)) s

-- ---- a byte

-- what a word that is taken does
abbrev pub TakesWord : LratJudge → TextJudge → Token → Type 0
TakesWord old new t = (f : Formula) (marks : List Mark) → StandsForWords f old.text.reader marks → StandsForWords f new.reader (marks ++ mark old.scan.step t ∷ [])

-- where the next piece stands behind one that ends with a byte
pub record Behind (old new : Scan) (byte : ℕ) : Type 0 where
  pub number : SpellsNumber new.number []
  pub step : (bytes : List ℕ) → SpellsNumber old.number bytes → new.step ≡ step_behind old.step (spot_of old.spot) (bytes ++ byte ∷ [])
  pub spot : (bytes : List ℕ) → SpellsNumber old.number bytes → spot_of new.spot ≡ spot_behind (spot_of old.spot) (bytes ++ byte ∷ [])

abbrev with_both : LratJudge → TextJudge → Scan → LratJudge
with_both j t s = record { text = t; variables = t.reader.variables; form = j.form; scan = s }

pub piece_ended : (f : Formula) (old : LratJudge) (t : TextJudge) (s : Scan) (text : List ℕ) (byte : ℕ) (token : Token) → old.text.reader.closed ≡ false → nat_lt byte 128 ≡ true
    → ((bytes : List ℕ) → SpellsNumber old.scan.number bytes → token ≡ piece_said old.scan.step (spot_of old.scan.spot) (bytes ++ byte ∷ [])) → t.reader.variables ≡ old.text.reader.variables → TakesWord old t token → Behind old.scan s byte
    → StandsForBytes f old text → StandsForBytes f (record { text = t; variables = t.reader.variables; form = old.form; scan = s }) (text ++ byte ∷ [])
piece_ended f old t s text byte token going low said same over behind b =
    let own : ScannedBytes old text b.marks = scanned f old text b going in
    let new : LratJudge = with_both old t s in
    let m : List Mark = mark old.scan.step token ∷ [] in
    let rest = λ (n : ℕ) (p : Spot) (more : List ℕ). step_marks n p (number_pieces more) in
    let reads = λ (more : List ℕ). ap binary_marks (append_assoc text (byte ∷ []) more) ∙ own.reads (byte ∷ more)
    ∙ ap (λ (ms : List Mark). b.marks ++ ms) (piece_ends old.scan.step (spot_of old.scan.spot) own.bytes more byte own.unended low)
    ∙ ap (λ (x : Token). b.marks ++ mark old.scan.step x ∷ rest (step_behind old.scan.step (spot_of old.scan.spot) (own.bytes ++ byte ∷ [])) (spot_behind (spot_of old.scan.spot) (own.bytes ++ byte ∷ [])) more) (sym (said own.bytes own.spells))
    ∙ ap₂ (λ (n : ℕ) (p : Spot). b.marks ++ mark old.scan.step token ∷ rest n p more) (sym (behind.step own.bytes own.spells)) (sym (behind.spot own.bytes own.spells))
    ∙ sym (append_assoc b.marks m (rest s.step (spot_of s.spot) more)) in
    let next : ScannedBytes new (text ++ byte ∷ []) (b.marks ++ m) = record { bytes = []; spells = behind.number; unended = refl; reads = reads } in
    record { variables = same ∙ b.variables; marks = b.marks ++ m; words = over f b.marks b.words; scanned = scanned_any new (text ++ byte ∷ []) (b.marks ++ m) t.reader.closed next }

pub piece_on : (f : Formula) (old : LratJudge) (s : Scan) (text : List ℕ) (byte : ℕ) → old.text.reader.closed ≡ false → nat_lt byte 128 ≡ false → ((bytes : List ℕ) → SpellsNumber old.scan.number bytes → SpellsNumber s.number (bytes ++ byte ∷ []))
    → s.step ≡ old.scan.step → s.spot ≡ old.scan.spot → StandsForBytes f old text → StandsForBytes f (record { text = old.text; variables = old.text.reader.variables; form = old.form; scan = s }) (text ++ byte ∷ [])
piece_on f old s text byte going high spells step spot_is b =
    let own : ScannedBytes old text b.marks = scanned f old text b going in
    let new : LratJudge = with_both old old.text s in
    let reads = λ (more : List ℕ). ap binary_marks (append_assoc text (byte ∷ []) more) ∙ own.reads (byte ∷ more)
    ∙ ap (λ (bs : List ℕ). b.marks ++ step_marks old.scan.step (spot_of old.scan.spot) (number_pieces bs)) (sym (append_assoc own.bytes (byte ∷ []) more))
    ∙ ap₂ (λ (n : ℕ) (p : Spot). b.marks ++ step_marks n p (number_pieces ((own.bytes ++ byte ∷ []) ++ more))) (sym step) (ap spot_of (sym spot_is)) in
    let next : ScannedBytes new (text ++ byte ∷ []) b.marks = record { bytes = own.bytes ++ byte ∷ []; spells = spells own.bytes own.spells; unended = open_more own.bytes byte own.unended high; reads = reads } in
    record { variables = b.variables; marks = b.marks; words = b.words; scanned = scanned_any new (text ++ byte ∷ []) b.marks old.text.reader.closed next }

-- ---- before any byte

bytes_begun : (f : Formula) (j : LratJudge) → BeginsLrat f j → StandsForBytes f j []
bytes_begun f j b =
    let now : ScannedBytes j [] [] = record {
      bytes = [];
      spells = b.number;
      unended = refl;
      reads = λ more. ap₂ (λ (n : ℕ) (p : Spot). step_marks n p (number_pieces more)) (sym b.step) (ap spot_of (sym b.spot));
    } in
    record { variables = b.text.variables; marks = []; words = stands_begun f j.text.reader b.text.reader; scanned = scanned_any j [] [] j.text.reader.closed now }

-- ---- the form

form_more : (binary : Bool) (text piece : List ℕ) → IsInForm binary text → IsInForm binary (text ++ piece)
form_more binary text piece is more = ap is_binary_lrat (append_assoc text piece more) ∙ is (piece ++ more)

form_first : (binary : Bool) (byte : ℕ) → ((bytes : List ℕ) → binary ≡ is_binary_lrat (byte ∷ bytes)) → IsInForm binary (byte ∷ [])
form_first binary byte is more = sym (is more)

text_in : (f : Formula) (j : LratJudge) (text : List ℕ) (p : Form) → j.form ≡ p → StandsForLrat f j text → StandsIn p f j text
text_in f j text p is b = subst (λ (q : Form). StandsIn q f j text) is b

-- what taking a piece does, in the text form and in the binary form
abbrev pub TakesLines : Formula → TextJudge → List ℕ → TextJudge → Type 0
TakesLines f old piece new = (text : List ℕ) → StandsForLines f old text → StandsForLines f new (text ++ piece)

abbrev pub TakesBytes : Formula → LratJudge → List ℕ → LratJudge → Type 0
TakesBytes f old piece new = (text : List ℕ) → StandsForBytes f old text → StandsForBytes f new (text ++ piece)

-- the same judge with another judge of texts and another form
abbrev pub with_text : LratJudge → TextJudge → Form → LratJudge
with_text j t p = record { text = t; variables = t.reader.variables; form = p; scan = j.scan }

abbrev pub with_form : LratJudge → Form → LratJudge
with_form j p = record { text = j.text; variables = j.variables; form = p; scan = j.scan }

-- ---- the first byte

pub first_piece : (f : Formula) (old new : LratJudge) (text : List ℕ) (byte : ℕ) → old.form ≡ form.Empty → ((bytes : List ℕ) → true ≡ is_binary_lrat (byte ∷ bytes)) → new.form ≡ form.Bytes → TakesBytes f (with_form old form.Bytes) (byte ∷ []) new
    → StandsForLrat f old text → StandsForLrat f new (text ++ byte ∷ [])
first_piece f old new text byte at letter now over b =
    let own : (text ≡ []) × BeginsLrat f old = text_in f old text form.Empty at b in
    let begins : BeginsLrat f (with_form old form.Bytes) = record { text = own.1.text; step = own.1.step; spot = own.1.spot; number = own.1.number } in
    let done : IsInForm true (byte ∷ []) × StandsForBytes f new (byte ∷ []) = (form_first true byte letter, over [] (bytes_begun f (with_form old form.Bytes) begins)) in
    subst (λ (t : List ℕ). StandsForLrat f new (t ++ byte ∷ [])) (sym own.0) (subst (λ (p : Form). StandsIn p f new (byte ∷ [])) (sym now) done)

pub first_line : (f : Formula) (old : LratJudge) (t : TextJudge) (text : List ℕ) (byte : ℕ) → old.form ≡ form.Empty → ((bytes : List ℕ) → false ≡ is_binary_lrat (byte ∷ bytes)) → TakesLines f old.text (byte ∷ []) t
    → StandsForLrat f old text → StandsForLrat f (with_text old t form.Lines) (text ++ byte ∷ [])
first_line f old t text byte at letter over b =
    let own : (text ≡ []) × BeginsLrat f old = text_in f old text form.Empty at b in
    subst (λ (x : List ℕ). StandsForLrat f (with_text old t form.Lines) (x ++ byte ∷ [])) (sym own.0) (form_first false byte letter, over [] own.1.text)

-- ---- a piece of a text whose form is known

pub lines_more : (f : Formula) (old : LratJudge) (t : TextJudge) (text piece : List ℕ) → old.form ≡ form.Lines → TakesLines f old.text piece t → StandsForLrat f old text → StandsForLrat f (with_text old t old.form) (text ++ piece)
lines_more f old t text piece at over b =
    let own : IsInForm false text × StandsForLines f old.text text = text_in f old text form.Lines at b in
    subst (λ (p : Form). StandsIn p f (with_text old t old.form) (text ++ piece)) (sym at) (form_more false text piece own.0, over text own.1)

pub bytes_more : (f : Formula) (old new : LratJudge) (text piece : List ℕ) → old.form ≡ form.Bytes → new.form ≡ old.form → TakesBytes f old piece new → StandsForLrat f old text → StandsForLrat f new (text ++ piece)
bytes_more f old new text piece at kept over b =
    let own : IsInForm true text × StandsForBytes f old text = text_in f old text form.Bytes at b in
    subst (λ (p : Form). StandsIn p f new (text ++ piece)) (sym (kept ∙ at)) (form_more true text piece own.0, over text own.1)

-- ---- clauses that are given

-- where no byte was taken
begins_empty : (f : Formula) (j : LratJudge) → StandsForLrat f j [] → (j.form ≡ form.Empty) × BeginsLrat f j
begins_empty f j = at j.form refl
  where
    at : (p : Form) → j.form ≡ p → StandsIn p f j [] → (j.form ≡ form.Empty) × BeginsLrat f j
    at form.Empty is b = (is, b.1)
    at form.Lines is b = let no : true ≡ false = b.0 (97 ∷ []) in absurd (cc (no))
    at form.Bytes is b = let no : false ≡ true = b.0 [] in absurd (cc (no))

pub given_lrat : (f g : Formula) (old : LratJudge) (t : TextJudge) → (StandsForLines f old.text [] → StandsForLines g t []) → StandsForLrat f old [] → StandsForLrat g (with_text old t old.form) []
given_lrat f g old t over b =
    let own = begins_empty f old b in
    subst (λ (p : Form). StandsIn p g (with_text old t old.form) []) (sym own.0) (refl, record { text = over own.1.text; step = own.1.step; spot = own.1.spot; number = own.1.number })

-- ---- the end of a text in the binary form

words_all : (text : List ℕ) (marks : List Mark) (closed : Bool) → binary_marks text ≡ marks → AreWordsAt text marks closed
words_all text marks true reads = ([], reads ∙ sym (append-nil marks))
words_all text marks false reads = reads

pub ends_closed : (f : Formula) (j : LratJudge) (text : List ℕ) → j.text.reader.closed ≡ true → StandsForBytes f j text → EndsBytes f j text
ends_closed f j text is b =
    let s : ScannedBytesAt j text b.marks true = subst (ScannedBytesAt j text b.marks) is b.scanned in
    let all : AreWordsAt text b.marks true = ((s []).0, ap binary_marks (sym (append-nil text)) ∙ (s []).1) in
    record { variables = b.variables; marks = b.marks; words = b.words; all = subst (AreWordsAt text b.marks) (sym is) all }

-- all words, where what is left says these
ends_with : (f : Formula) (j : LratJudge) (text : List ℕ) (b : StandsForBytes f j text) (s : ScannedBytes j text b.marks) (ms : List Mark) → step_marks j.scan.step (spot_of j.scan.spot) (number_pieces s.bytes) ≡ ms → binary_marks text ≡ b.marks ++ ms
ends_with f j text b s ms is =
    ap binary_marks (sym (append-nil text)) ∙ s.reads []
    ∙ ap (λ (bs : List ℕ). b.marks ++ step_marks j.scan.step (spot_of j.scan.spot) (number_pieces bs)) (append-nil s.bytes)
    ∙ ap (λ (xs : List Mark). b.marks ++ xs) is

pub ends_whole : (f : Formula) (j : LratJudge) (text : List ℕ) → j.text.reader.closed ≡ false
    → ((bytes : List ℕ) → SpellsNumber j.scan.number bytes → list_any ends_number bytes ≡ false → step_marks j.scan.step (spot_of j.scan.spot) (number_pieces bytes) ≡ []) → StandsForBytes f j text → EndsBytes f j text
ends_whole f j text going none b =
    let s : ScannedBytes j text b.marks = scanned f j text b going in
    let reads : binary_marks text ≡ b.marks = ends_with f j text b s [] (none s.bytes s.spells s.unended) ∙ append-nil b.marks in
    record { variables = b.variables; marks = b.marks; words = b.words; all = words_all text b.marks j.text.reader.closed reads }

pub ends_cut : (f : Formula) (old : LratJudge) (t : TextJudge) (text : List ℕ) (w : Why) → old.text.reader.closed ≡ false → t.reader.variables ≡ old.text.reader.variables → t.reader.closed ≡ true → TakesWord old t (faulty w)
    → ((bytes : List ℕ) → SpellsNumber old.scan.number bytes → list_any ends_number bytes ≡ false → (rest : List Mark) × (step_marks old.scan.step (spot_of old.scan.spot) (number_pieces bytes) ≡ mark old.scan.step (faulty w) ∷ rest))
    → StandsForBytes f old text → EndsBytes f (with_text old t old.form) text
ends_cut f old t text w going same closed over cut b =
    let s : ScannedBytes old text b.marks = scanned f old text b going in
    let m : List Mark = mark old.scan.step (faulty w) ∷ [] in
    let left = cut s.bytes s.spells s.unended in
    let reads : binary_marks text ≡ (b.marks ++ m) ++ left.0 = ends_with f old text b s (mark old.scan.step (faulty w) ∷ left.0) left.1 ∙ sym (append_assoc b.marks m left.0) in
    let all : AreWordsAt text (b.marks ++ m) true = (left.0, reads) in
    record { variables = same ∙ b.variables; marks = b.marks ++ m; words = over f b.marks b.words; all = subst (AreWordsAt text (b.marks ++ m)) (sym closed) all }

pub reads_bytes : (f : Formula) (j : LratJudge) (text : List ℕ) (e : EndsBytes f j text) → j.text.reader.failed ≡ false → read_binary_lrat f.variables text ≡ reading_from j.text.reader.variables 0 between e.marks
reads_bytes f j text e ok = ap (λ (v : ℕ). read_binary_lrat v text) (sym e.variables) ∙ at j.text.reader.closed (e.words ok) e.all
  where
    at : (closed : Bool) → StandsAtStep f j.text.reader e.marks closed → AreWordsAt text e.marks closed → read_binary_lrat j.text.reader.variables text ≡ reading_from j.text.reader.variables 0 between e.marks
    at true c all = ap (reading_from j.text.reader.variables 0 between) all.1 ∙ c.reads 0 all.0 ∙ sym (c.reads 0 []) ∙ ap (reading_from j.text.reader.variables 0 between) (append-nil e.marks)
    at false o all = ap (reading_from j.text.reader.variables 0 between) all

-- ---- the end

pub end_empty : (f : Formula) (j : LratJudge) (text : List ℕ) → j.form ≡ form.Empty → StandsForLrat f j text → EndsLrat f j text
end_empty f j text at b = subst (λ (p : Form). EndsIn p f j text) (sym at) (text_in f j text form.Empty at b)

pub end_lines : (f : Formula) (j : LratJudge) (text : List ℕ) → j.form ≡ form.Lines → StandsForLrat f j text → EndsLrat f j text
end_lines f j text at b = subst (λ (p : Form). EndsIn p f j text) (sym at) (text_in f j text form.Lines at b)

pub end_bytes : (f : Formula) (old new : LratJudge) (text : List ℕ) → old.form ≡ form.Bytes → new.form ≡ old.form → ((t : List ℕ) → StandsForBytes f old t → EndsBytes f new t) → StandsForLrat f old text → EndsLrat f new text
end_bytes f old new text at kept over b =
    let own : IsInForm true text × StandsForBytes f old text = text_in f old text form.Bytes at b in
    subst (λ (p : Form). EndsIn p f new text) (sym (kept ∙ at)) (own.0, over text own.1)

-- ---- the judgement

ended_in : (f : Formula) (j : LratJudge) (text : List ℕ) (p : Form) → j.form ≡ p → EndsLrat f j text → EndsIn p f j text
ended_in f j text p is b = subst (λ (q : Form). EndsIn q f j text) is b

as_read : (f : Formula) (one other : HintedReading) (result : Result Judgement ClauseFault) → one ≡ other → IfOk result (λ j. j ≡ judge_hinted f one) → IfOk result (λ j. j ≡ judge_hinted f other)
as_read f one other result same h = subst (λ (r : HintedReading). IfOk result (λ j. j ≡ judge_hinted f r)) same h

read_as : (variables : ℕ) (text : List ℕ) (binary : Bool) → IsInForm binary text → read_lrat variables text ≡ (if binary then read_binary_lrat variables text else read_text_lrat variables text)
read_as variables text binary is = let own : is_binary_lrat text ≡ binary = ap is_binary_lrat (sym (append-nil text)) ∙ is [] in rw own refl

-- a judge of texts judges each that it stands for
abbrev pub JudgesLines : Formula → TextJudge → Result Judgement ClauseFault → Type 0
JudgesLines f t result = (text : List ℕ) → StandsForLines f t text → IfOk result (λ j. j ≡ judge_hinted f (read_text_lrat f.variables text))

pub judges_empty : (f : Formula) (j : LratJudge) (text : List ℕ) (result : Result Judgement ClauseFault) → j.form ≡ form.Empty → JudgesLines f j.text result → EndsLrat f j text → IfOk result (λ i. i ≡ judge_lrat f text)
judges_empty f j text result at over b =
    let own : (text ≡ []) × BeginsLrat f j = ended_in f j text form.Empty at b in
    subst (λ (t : List ℕ). IfOk result (λ i. i ≡ judge_lrat f t)) (sym own.0) (over [] own.1.text)

pub judges_lines : (f : Formula) (j : LratJudge) (text : List ℕ) (result : Result Judgement ClauseFault) → j.form ≡ form.Lines → JudgesLines f j.text result → EndsLrat f j text → IfOk result (λ i. i ≡ judge_lrat f text)
judges_lines f j text result at over b =
    let own : IsInForm false text × StandsForLines f j.text text = ended_in f j text form.Lines at b in
    as_read f (read_text_lrat f.variables text) (read_lrat f.variables text) result (sym (read_as f.variables text false own.0)) (over text own.1)

pub judges_bytes : (f : Formula) (j : LratJudge) (text : List ℕ) (result : Result Judgement ClauseFault) → j.form ≡ form.Bytes
    → ((marks : List Mark) (reading : HintedReading) → StandsForWords f j.text.reader marks → (j.text.reader.failed ≡ false → reading ≡ reading_from j.text.reader.variables 0 between marks) → IfOk result (λ i. i ≡ judge_hinted f reading))
    → EndsLrat f j text → IfOk result (λ i. i ≡ judge_lrat f text)
judges_bytes f j text result at over b =
    let own : IsInForm true text × EndsBytes f j text = ended_in f j text form.Bytes at b in
    as_read f (read_binary_lrat f.variables text) (read_lrat f.variables text) result (sym (read_as f.variables text true own.0)) (over own.1.marks (read_binary_lrat f.variables text) own.1.words (reads_bytes f j text own.1))
