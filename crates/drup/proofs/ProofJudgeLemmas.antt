-- Judges of proofs in either form.
use Rattle.std.proofs.Common.{◌≡◌, ◌⊎◌, inl, inr, ℕ, suc, ◌+◌, ◌-◌, ◌^◌, ◌≤◌, ◌==◌, min, nat_lt, Bool, true, false, if◌then◌else◌, List, [], ◌∷◌, ◌++◌, refl, sym, ap, subst, ◌∙◌, append_assoc, append-nil, arith}
use Rattle.std.specs.Prelude.{Result, IfOk}
use Rattle.std.specs.List.{list_any}
use Rattle.std.specs.Str.{bytes_eq}
use Rattle.std.proofs.lemmas.Bool.{ltb-false}
use Rattle.drup.specs.declared.fault.ClauseFault.{ClauseFault}
use Rattle.drup.specs.declared.judgement.Judgement.{Judgement}
use Rattle.drup.specs.declared.number.Number.{Number}
use Rattle.drup.specs.declared.proof_judge.Form.{Form}
use Rattle.drup.specs.declared.proof_judge.Form.TheVariants as form
use Rattle.drup.specs.declared.why.Why.{Why}
use Rattle.drup.specs.declared.why.Why.TheVariants as why
use Rattle.drup.specs.Formula.{Formula}
use Rattle.drup.specs.Proofs.{ends, deletes, faulty, Token, Mark, mark, most_proof_lines, ProofReading, reading_from, read_text_proof}
use Rattle.drup.specs.BinaryProofs.{number_pieces, number_said, step_marks, binary_marks, read_binary_proof}
use Rattle.drup.specs.ProofForms.{is_binary_proof, read_proof}
use Rattle.drup.specs.Judgements.{JudgesReading, JudgesProof}
use Rattle.drup.specs.Numbers.{SpellsNumber}
use Rattle.drup.specs.StepReaders.{StepReader, StandsAtStep, StandsForWords}
use Rattle.drup.specs.TextJudges.{TextJudge, BeginsText, StandsForLines}
use Rattle.drup.specs.ProofJudges.{ProofJudge, is_within, ends_number, IsNumberAt, IsFewSteps, ScannedBytes, ScannedBytesAt, StandsAtBytes, StandsForBytesIn, StandsForBytes, AreWordsAt, EndsBytes, IsInForm, BeginsProof, StandsIn, StandsForText}
use Rattle.drup.proofs.StepReaderLemmas.{stands_begun}
use Rattle.drup.proofs.BytesLemmas.{open_more, begins_addition, begins_deletion, within_ends, within_number, cut_within}

-- ---- what was scanned in the binary form

scanned_any : (j : ProofJudge) (text : List ℕ) (marks : List Mark) (within closed : Bool) → ScannedBytes j text marks within → ScannedBytesAt j text marks within closed
scanned_any j text marks within true s = λ more. (step_marks j.text.variables j.step within (number_pieces (s.bytes ++ more)), s.reads more)
scanned_any j text marks within false s = s

scanned : (f : Formula) (j : ProofJudge) (text : List ℕ) (within : Bool) (b : StandsAtBytes f j text within) → j.text.reader.closed ≡ false → ScannedBytes j text b.marks within
scanned f j text within b is = subst (ScannedBytesAt j text b.marks within) is b.scanned

-- where nothing more is read, a byte more changes nothing
passed : (f : Formula) (j : ProofJudge) (text : List ℕ) (byte : ℕ) (within : Bool) → j.text.reader.closed ≡ true → StandsAtBytes f j text within → StandsAtBytes f j (text ++ byte ∷ []) within
passed f j text byte within is b =
    let s : ScannedBytesAt j text b.marks within true = subst (ScannedBytesAt j text b.marks within) is b.scanned in
    let now : ScannedBytesAt j (text ++ byte ∷ []) b.marks within true = λ more.
    ((s (byte ∷ more)).0, ap (binary_marks j.text.variables) (append_assoc text (byte ∷ []) more) ∙ (s (byte ∷ more)).1) in
    record { variables = b.variables; marks = b.marks; words = b.words; scanned = subst (ScannedBytesAt j (text ++ byte ∷ []) b.marks within) (sym is) now }

pub byte_passed : (f : Formula) (j : ProofJudge) (text : List ℕ) (byte : ℕ) → j.text.reader.closed ≡ true → StandsForBytes f j text → StandsForBytes f j (text ++ byte ∷ [])
byte_passed f j text byte is = at j.form
  where
    at : (p : Form) → StandsForBytesIn p f j text → StandsForBytesIn p f j (text ++ byte ∷ [])
    at form.Empty b = b
    at form.Letter b = b
    at form.Lines b = b
    at form.Steps b = passed f j text byte false is b
    at form.Literals b = passed f j text byte true is b

-- how a scan goes on over a byte, with words that it ends
record GoesOn (old : ProofJudge) (within : Bool) (before : List ℕ) (byte : ℕ) (added : List Mark) (number : Number) (step : ℕ) (now : Bool) : Type 0 where
  bytes : List ℕ
  spells : SpellsNumber number bytes
  unended : list_any ends_number bytes ≡ false
  begun : IsNumberAt now bytes
  few : IsFewSteps now step
  marks : (more : List ℕ) → step_marks old.text.variables old.step within (number_pieces (before ++ byte ∷ more)) ≡ added ++ step_marks old.text.variables step now (number_pieces (bytes ++ more))

goes_on : (f : Formula) (old new : ProofJudge) (text : List ℕ) (byte : ℕ) (within now : Bool) (added : List Mark) (b : StandsAtBytes f old text within) (s : ScannedBytes old text b.marks within)
    → new.text.variables ≡ old.text.variables → StandsForWords f new.text.reader (b.marks ++ added) → GoesOn old within s.bytes byte added new.number new.step now
    → StandsAtBytes f new (text ++ byte ∷ []) now
goes_on f old new text byte within now added b s same words on =
    let reads = λ (more : List ℕ). ap (binary_marks old.text.variables) (append_assoc text (byte ∷ []) more) ∙ s.reads (byte ∷ more)
    ∙ ap (λ (ms : List Mark). b.marks ++ ms) (on.marks more) ∙ sym (append_assoc b.marks added (step_marks old.text.variables new.step now (number_pieces (on.bytes ++ more)))) in
    let next : ScannedBytes new (text ++ byte ∷ []) (b.marks ++ added) now = record {
      bytes = on.bytes;
      spells = on.spells;
      unended = on.unended;
      begun = on.begun;
      few = on.few;
      reads = λ more. subst (λ (v : ℕ). binary_marks v ((text ++ byte ∷ []) ++ more) ≡ (b.marks ++ added) ++ step_marks v new.step now (number_pieces (on.bytes ++ more))) (sym same) (reads more);
    } in
    record { variables = same ∙ b.variables; marks = b.marks ++ added; words = words; scanned = scanned_any new (text ++ byte ∷ []) (b.marks ++ added) now new.text.reader.closed next }

-- a fault before a step, behind which nothing is read
stops : (f : Formula) (old new : ProofJudge) (text : List ℕ) (byte : ℕ) (now : Bool) (w : Why) (b : StandsAtBytes f old text false) (s : ScannedBytes old text b.marks false)
    → new.text.variables ≡ old.text.variables → new.text.reader.closed ≡ true
    → ((f : Formula) (marks : List Mark) → StandsForWords f old.text.reader marks → StandsForWords f new.text.reader (marks ++ mark old.step (faulty w) ∷ []))
    → ((more : List ℕ) → step_marks old.text.variables old.step false (number_pieces (byte ∷ more)) ≡ mark old.step (faulty w) ∷ []) → StandsAtBytes f new (text ++ byte ∷ []) now
stops f old new text byte now w b s same closed over is =
    let m : List Mark = mark old.step (faulty w) ∷ [] in
    let reads = λ (more : List ℕ). ap (binary_marks old.text.variables) (append_assoc text (byte ∷ []) more) ∙ s.reads (byte ∷ more)
    ∙ ap (λ (bs : List ℕ). b.marks ++ step_marks old.text.variables old.step false (number_pieces (bs ++ byte ∷ more))) s.begun ∙ ap (λ (ms : List Mark). b.marks ++ ms) (is more) ∙ sym (append-nil (b.marks ++ m)) in
    let next : ScannedBytesAt new (text ++ byte ∷ []) (b.marks ++ m) now true =
    λ more. ([], subst (λ (v : ℕ). binary_marks v ((text ++ byte ∷ []) ++ more) ≡ (b.marks ++ m) ++ []) (sym same) (reads more)) in
    record { variables = same ∙ b.variables; marks = b.marks ++ m; words = over f b.marks b.words; scanned = subst (ScannedBytesAt new (text ++ byte ∷ []) (b.marks ++ m) now) (sym closed) next }

no_more : (f : Formula) (r : StepReader) (marks : List Mark) → StandsForWords f r marks → StandsForWords f r (marks ++ [])
no_more f r marks s = subst (StandsForWords f r) (sym (append-nil marks)) s

-- ---- before a step, and within one

pub before : (f : Formula) (j : ProofJudge) (text : List ℕ) → j.form ≡ form.Steps → StandsForBytes f j text → StandsAtBytes f j text false
before f j text is b = subst (λ (p : Form). StandsForBytesIn p f j text) is b

pub inside : (f : Formula) (j : ProofJudge) (text : List ℕ) → j.form ≡ form.Literals → StandsForBytes f j text → StandsAtBytes f j text true
inside f j text is b = subst (λ (p : Form). StandsForBytesIn p f j text) is b

-- what a word that is taken does
abbrev pub TakesWord : ProofJudge → ProofJudge → Token → Type 0
TakesWord old new t = (f : Formula) (marks : List Mark) → StandsForWords f old.text.reader marks → StandsForWords f new.text.reader (marks ++ mark old.step t ∷ [])

-- ---- the byte by which a step begins

pub step_refused : (f : Formula) (old new : ProofJudge) (text : List ℕ) (byte : ℕ) (w : Why) → old.text.reader.closed ≡ false → old.form ≡ form.Steps → new.form ≡ old.form → new.text.variables ≡ old.text.variables → new.text.reader.closed ≡ true → TakesWord old new (faulty w)
    → ((more : List ℕ) → step_marks old.text.variables old.step false (number_pieces (byte ∷ more)) ≡ mark old.step (faulty w) ∷ []) → StandsForBytes f old text → StandsForBytes f new (text ++ byte ∷ [])
step_refused f old new text byte w going at kept same closed over is b =
    let own : StandsAtBytes f old text false = before f old text at b in
    subst (λ (p : Form). StandsForBytesIn p f new (text ++ byte ∷ [])) (sym (kept ∙ at)) (stops f old new text byte false w own (scanned f old text false own going) same closed over is)

few_steps : (n : ℕ) → nat_lt most_proof_lines n ≡ false → n ≤ most_proof_lines
few_steps n few = ltb-false most_proof_lines n few

-- a step that has begun
on_begun : (old : ProofJudge) (bytes : List ℕ) (byte : ℕ) (added : List Mark) → bytes ≡ [] → SpellsNumber old.number bytes → nat_lt most_proof_lines old.step ≡ false
    → ((more : List ℕ) → step_marks old.text.variables old.step false (number_pieces (byte ∷ more)) ≡ added ++ step_marks old.text.variables old.step true (number_pieces more))
    → GoesOn old false bytes byte added old.number old.step true
on_begun old bytes byte added none spells few on = record {
  bytes = [];
  spells = subst (SpellsNumber old.number) none spells;
  unended = refl;
  begun = tt;
  few = few_steps old.step few;
  marks = λ more. ap (λ (bs : List ℕ). step_marks old.text.variables old.step false (number_pieces (bs ++ byte ∷ more))) none ∙ on more;
}

pub addition_begins : (f : Formula) (old : ProofJudge) (text : List ℕ) (byte : ℕ) → old.text.reader.closed ≡ false → old.form ≡ form.Steps → nat_lt most_proof_lines old.step ≡ false → byte ≡ 97 → StandsForBytes f old text
    → StandsAtBytes f (record old { form = form.Literals }) (text ++ byte ∷ []) true
addition_begins f old text byte going at few is b =
    let own : StandsAtBytes f old text false = before f old text at b in
    let s : ScannedBytes old text own.marks false = scanned f old text false own going in
    goes_on f old (record old { form = form.Literals }) text byte false true [] own s refl (no_more f old.text.reader own.marks own.words)
    (on_begun old s.bytes byte [] s.begun s.spells few (λ more. begins_addition old.text.variables old.step byte more few is))

pub deletion_begins : (f : Formula) (old new : ProofJudge) (text : List ℕ) (byte : ℕ) → old.text.reader.closed ≡ false → old.form ≡ form.Steps → nat_lt most_proof_lines old.step ≡ false → byte ≡ 100
    → new.text.variables ≡ old.text.variables → new.step ≡ old.step → new.number ≡ old.number → TakesWord old new deletes → StandsForBytes f old text → StandsAtBytes f new (text ++ byte ∷ []) true
deletion_begins f old new text byte going at few is same step number over b =
    let own : StandsAtBytes f old text false = before f old text at b in
    let s : ScannedBytes old text own.marks false = scanned f old text false own going in
    let m : List Mark = mark old.step deletes ∷ [] in
    let on : GoesOn old false s.bytes byte m old.number old.step true = on_begun old s.bytes byte m s.begun s.spells few (λ more. begins_deletion old.text.variables old.step byte more few is) in
    goes_on f old new text byte false true m own s same (over f own.marks own.words)
    (subst (λ (n : Number). GoesOn old false s.bytes byte m n new.step true) (sym number) (subst (λ (n : ℕ). GoesOn old false s.bytes byte m old.number n true) (sym step) on))

-- ---- a byte within a step

pub number_on : (f : Formula) (old new : ProofJudge) (text : List ℕ) (byte : ℕ) → old.text.reader.closed ≡ false → old.form ≡ form.Literals → nat_lt byte 128 ≡ false → new.text ≡ old.text → new.form ≡ old.form → new.step ≡ old.step
    → ((bytes : List ℕ) → SpellsNumber old.number bytes → SpellsNumber new.number (bytes ++ byte ∷ [])) → StandsForBytes f old text → StandsForBytes f new (text ++ byte ∷ [])
number_on f old new text byte going at high judge kept step more_is b =
    let own : StandsAtBytes f old text true = inside f old text at b in
    let s : ScannedBytes old text own.marks true = scanned f old text true own going in
    let on : GoesOn old true s.bytes byte [] new.number old.step true = record {
      bytes = s.bytes ++ byte ∷ [];
      spells = more_is s.bytes s.spells;
      unended = open_more s.bytes byte s.unended high;
      begun = tt;
      few = s.few;
      marks = λ more. ap (λ (bs : List ℕ). step_marks old.text.variables old.step true (number_pieces bs)) (sym (append_assoc s.bytes (byte ∷ []) more));
    } in
    let words : StandsForWords f new.text.reader (own.marks ++ []) = subst (λ t. StandsForWords f t.reader (own.marks ++ [])) (sym judge) (no_more f old.text.reader own.marks own.words) in
    subst (λ (p : Form). StandsForBytesIn p f new (text ++ byte ∷ [])) (sym (kept ∙ at))
    (goes_on f old new text byte true true [] own s (ap (λ t. t.variables) judge) words (subst (λ (n : ℕ). GoesOn old true s.bytes byte [] new.number n true) (sym step) on))

pub step_ends : (f : Formula) (old new : ProofJudge) (text : List ℕ) (byte : ℕ) → old.text.reader.closed ≡ false → old.form ≡ form.Literals → nat_lt byte 128 ≡ true → ((bytes : List ℕ) → SpellsNumber old.number bytes → bytes_eq (bytes ++ byte ∷ []) (0 ∷ []) ≡ true)
    → new.text.variables ≡ old.text.variables → new.step ≡ min (old.step + 1) (2 ^ 64 - 1) → SpellsNumber new.number [] → TakesWord old new ends → StandsForBytes f old text → StandsAtBytes f new (text ++ byte ∷ []) false
step_ends f old new text byte going at low is same step number over b =
    let own : StandsAtBytes f old text true = inside f old text at b in
    let s : ScannedBytes old text own.marks true = scanned f old text true own going in
    let few : old.step ≤ 2 ^ 62 = s.few in
    let next : new.step ≡ suc old.step = omega (arith, few, step) in
    let m : List Mark = mark old.step ends ∷ [] in
    let on : GoesOn old true s.bytes byte m new.number (suc old.step) false = record {
      bytes = [];
      spells = number;
      unended = refl;
      begun = refl;
      few = tt;
      marks = λ more. within_ends old.text.variables old.step s.bytes more byte s.unended low (is s.bytes s.spells);
    } in
    goes_on f old new text byte true false m own s same (over f own.marks own.words) (subst (λ (n : ℕ). GoesOn old true s.bytes byte m new.number n false) (sym next) on)

pub number_ends : (f : Formula) (old new : ProofJudge) (text : List ℕ) (byte : ℕ) (t : Token) → old.text.reader.closed ≡ false → old.form ≡ form.Literals → nat_lt byte 128 ≡ true → ((bytes : List ℕ) → SpellsNumber old.number bytes → bytes_eq (bytes ++ byte ∷ []) (0 ∷ []) ≡ false)
    → ((bytes : List ℕ) → SpellsNumber old.number bytes → t ≡ number_said old.text.variables (bytes ++ byte ∷ [])) → new.text.variables ≡ old.text.variables → new.form ≡ old.form → new.step ≡ old.step → SpellsNumber new.number [] → TakesWord old new t
    → StandsForBytes f old text → StandsForBytes f new (text ++ byte ∷ [])
number_ends f old new text byte t going at low not said same kept step number over b =
    let own : StandsAtBytes f old text true = inside f old text at b in
    let s : ScannedBytes old text own.marks true = scanned f old text true own going in
    let m : List Mark = mark old.step t ∷ [] in
    let on : GoesOn old true s.bytes byte m new.number old.step true = record {
      bytes = [];
      spells = number;
      unended = refl;
      begun = tt;
      few = s.few;
      marks = λ more. within_number old.text.variables old.step s.bytes more byte t s.unended low (not s.bytes s.spells) (said s.bytes s.spells);
    } in
    subst (λ (p : Form). StandsForBytesIn p f new (text ++ byte ∷ [])) (sym (kept ∙ at))
    (goes_on f old new text byte true true m own s same (over f own.marks own.words) (subst (λ (n : ℕ). GoesOn old true s.bytes byte m new.number n true) (sym step) on))

-- ---- before any byte

pub bytes_begun : (f : Formula) (j : ProofJudge) → BeginsText f j.text → j.step ≡ 1 → SpellsNumber j.number [] → StandsAtBytes f j [] false
bytes_begun f j b step number =
    let now : ScannedBytes j [] [] false = record {
      bytes = [];
      spells = number;
      unended = refl;
      begun = refl;
      few = tt;
      reads = λ more. ap (λ (n : ℕ). step_marks j.text.variables n false (number_pieces more)) (sym step);
    } in
    record { variables = b.variables; marks = []; words = stands_begun f j.text.reader b.reader; scanned = scanned_any j [] [] false j.text.reader.closed now }

-- ---- the form

form_more : (binary : Bool) (text piece : List ℕ) → IsInForm binary text → IsInForm binary (text ++ piece)
form_more binary text piece is more = ap is_binary_proof (append_assoc text piece more) ∙ is (piece ++ more)

addition_form : (byte : ℕ) → byte ≡ 97 → IsInForm true (byte ∷ [])
addition_form byte is more = rw is refl

deletion_form : (byte : ℕ) → (byte == 32) ≡ false → IsInForm true (100 ∷ byte ∷ [])
deletion_form byte not more = rw not refl

spaced_form : (byte : ℕ) → byte ≡ 32 → IsInForm false (100 ∷ byte ∷ [])
spaced_form byte is more = rw is refl

lines_form : (byte : ℕ) → (byte == 97) ≡ false → (byte == 100) ≡ false → IsInForm false (byte ∷ [])
lines_form byte no_a no_d more = rw (no_a, no_d) refl

-- a text that is judged in the binary form, and is in it
bytes_text : (f : Formula) (j : ProofJudge) (text : List ℕ) → IsInForm true text → StandsForBytes f j text → StandsForText f j text
bytes_text f j text is = at j.form
  where
    at : (p : Form) → StandsForBytesIn p f j text → StandsIn p f j text
    at form.Empty b = absurd b
    at form.Letter b = absurd b
    at form.Lines b = absurd b
    at form.Steps b = (is, b)
    at form.Literals b = (is, b)

text_in : (f : Formula) (j : ProofJudge) (text : List ℕ) (p : Form) → j.form ≡ p → StandsForText f j text → StandsIn p f j text
text_in f j text p is b = subst (λ (q : Form). StandsIn q f j text) is b

-- what taking a piece does, in the text form and in the binary form
abbrev pub TakesLines : Formula → TextJudge → List ℕ → TextJudge → Type 0
TakesLines f old piece new = (text : List ℕ) → StandsForLines f old text → StandsForLines f new (text ++ piece)

abbrev pub TakesBytes : Formula → ProofJudge → List ℕ → ProofJudge → Type 0
TakesBytes f old piece new = (text : List ℕ) → StandsForBytes f old text → StandsForBytes f new (text ++ piece)

-- the same judge with another form, and with another judge of texts
abbrev pub with_form : ProofJudge → Form → ProofJudge
with_form j p = record { text = j.text; variables = j.variables; form = p; step = j.step; number = j.number }

abbrev pub with_text : ProofJudge → TextJudge → Form → ProofJudge
with_text j t p = record { text = t; variables = t.variables; form = p; step = j.step; number = j.number }

-- ---- the first byte

pub first_letter : (f : Formula) (old : ProofJudge) (text : List ℕ) (byte : ℕ) → old.form ≡ form.Empty → byte ≡ 100 → StandsForText f old text → StandsForText f (with_form old form.Letter) (text ++ byte ∷ [])
first_letter f old text byte at is b =
    let own : (text ≡ []) × BeginsProof f old = text_in f old text form.Empty at b in
    (rw (own.0, is) refl, record { text = own.1.text; step = own.1.step; number = own.1.number })

pub first_addition : (f : Formula) (old new : ProofJudge) (text : List ℕ) (byte : ℕ) → old.form ≡ form.Empty → byte ≡ 97 → TakesBytes f (with_form old form.Steps) (byte ∷ []) new → StandsForText f old text → StandsForText f new (text ++ byte ∷ [])
first_addition f old new text byte at is over b =
    let own : (text ≡ []) × BeginsProof f old = text_in f old text form.Empty at b in
    let begun : StandsAtBytes f (with_form old form.Steps) [] false = bytes_begun f (with_form old form.Steps) own.1.text own.1.step own.1.number in
    subst (λ (t : List ℕ). StandsForText f new (t ++ byte ∷ [])) (sym own.0) (bytes_text f new (byte ∷ []) (addition_form byte is) (over [] begun))

pub first_line : (f : Formula) (old : ProofJudge) (t : TextJudge) (text : List ℕ) (byte : ℕ) → old.form ≡ form.Empty → (byte == 97) ≡ false → (byte == 100) ≡ false → TakesLines f old.text (byte ∷ []) t
    → StandsForText f old text → StandsForText f (with_text old t form.Lines) (text ++ byte ∷ [])
first_line f old t text byte at no_a no_d over b =
    let own : (text ≡ []) × BeginsProof f old = text_in f old text form.Empty at b in
    subst (λ (x : List ℕ). StandsForText f (with_text old t form.Lines) (x ++ byte ∷ [])) (sym own.0) (lines_form byte no_a no_d, over [] own.1.text)

-- ---- the byte behind a first `d`

pub letter_line : (f : Formula) (old : ProofJudge) (mid t : TextJudge) (text : List ℕ) (byte : ℕ) → old.form ≡ form.Letter → byte ≡ 32 → TakesLines f old.text (100 ∷ []) mid → TakesLines f mid (byte ∷ []) t
    → StandsForText f old text → StandsForText f (with_text old t form.Lines) (text ++ byte ∷ [])
letter_line f old mid t text byte at is first second b =
    let own : (text ≡ 100 ∷ []) × BeginsProof f old = text_in f old text form.Letter at b in
    subst (λ (x : List ℕ). StandsForText f (with_text old t form.Lines) (x ++ byte ∷ [])) (sym own.0) (spaced_form byte is, second (100 ∷ []) (first [] own.1.text))

pub letter_deletion : (f : Formula) (old mid new : ProofJudge) (text : List ℕ) (byte : ℕ) → old.form ≡ form.Letter → (byte == 32) ≡ false → TakesBytes f (with_form old form.Steps) (100 ∷ []) mid → TakesBytes f mid (byte ∷ []) new
    → StandsForText f old text → StandsForText f new (text ++ byte ∷ [])
letter_deletion f old mid new text byte at not first second b =
    let own : (text ≡ 100 ∷ []) × BeginsProof f old = text_in f old text form.Letter at b in
    let begun : StandsAtBytes f (with_form old form.Steps) [] false = bytes_begun f (with_form old form.Steps) own.1.text own.1.step own.1.number in
    subst (λ (t : List ℕ). StandsForText f new (t ++ byte ∷ [])) (sym own.0) (bytes_text f new (100 ∷ byte ∷ []) (deletion_form byte not) (second (100 ∷ []) (first [] begun)))

-- ---- a piece of a text whose form is known

pub lines_more : (f : Formula) (old : ProofJudge) (t : TextJudge) (text piece : List ℕ) → old.form ≡ form.Lines → TakesLines f old.text piece t → StandsForText f old text → StandsForText f (with_text old t old.form) (text ++ piece)
lines_more f old t text piece at over b =
    let own : IsInForm false text × StandsForLines f old.text text = text_in f old text form.Lines at b in
    subst (λ (p : Form). StandsIn p f (with_text old t old.form) (text ++ piece)) (sym at) (form_more false text piece own.0, over text own.1)

in_bytes : (f : Formula) (j : ProofJudge) (text : List ℕ) → (j.form ≡ form.Steps) ⊎ (j.form ≡ form.Literals) → StandsForText f j text → IsInForm true text × StandsForBytes f j text
in_bytes f j text (inl is) b =
    let own : IsInForm true text × StandsAtBytes f j text false = text_in f j text form.Steps is b in
    (own.0, subst (λ (p : Form). StandsForBytesIn p f j text) (sym is) own.1)
in_bytes f j text (inr is) b =
    let own : IsInForm true text × StandsAtBytes f j text true = text_in f j text form.Literals is b in
    (own.0, subst (λ (p : Form). StandsForBytesIn p f j text) (sym is) own.1)

pub bytes_more : (f : Formula) (old new : ProofJudge) (text piece : List ℕ) → (old.form ≡ form.Steps) ⊎ (old.form ≡ form.Literals) → TakesBytes f old piece new → StandsForText f old text → StandsForText f new (text ++ piece)
bytes_more f old new text piece at over b =
    let own : IsInForm true text × StandsForBytes f old text = in_bytes f old text at b in
    bytes_text f new (text ++ piece) (form_more true text piece own.0) (over text own.1)

-- ---- clauses that are given

-- where no byte was taken
begins_empty : (f : Formula) (j : ProofJudge) → StandsForText f j [] → (j.form ≡ form.Empty) × BeginsProof f j
begins_empty f j = at j.form refl
  where
    at : (p : Form) → j.form ≡ p → StandsIn p f j [] → (j.form ≡ form.Empty) × BeginsProof f j
    at form.Empty is b = (is, b.1)
    at form.Letter is b = absurd (cc (b.0))
    at form.Lines is b = let no : true ≡ false = b.0 (97 ∷ []) in absurd (cc (no))
    at form.Steps is b = let no : false ≡ true = b.0 [] in absurd (cc (no))
    at form.Literals is b = let no : false ≡ true = b.0 [] in absurd (cc (no))

pub given_proof : (f g : Formula) (old : ProofJudge) (t : TextJudge) → (StandsForLines f old.text [] → StandsForLines g t []) → StandsForText f old [] → StandsForText g (with_text old t old.form) []
given_proof f g old t over b =
    let own = begins_empty f old b in
    subst (λ (p : Form). StandsIn p g (with_text old t old.form) []) (sym own.0) (refl, record { text = over own.1.text; step = own.1.step; number = own.1.number })

-- ---- the end of a text in the binary form

words_all : (j : ProofJudge) (text : List ℕ) (marks : List Mark) (closed : Bool) → binary_marks j.text.variables text ≡ marks → AreWordsAt j text marks closed
words_all j text marks true reads = ([], reads ∙ sym (append-nil marks))
words_all j text marks false reads = reads

ends_passed : (f : Formula) (j : ProofJudge) (text : List ℕ) (within : Bool) → j.text.reader.closed ≡ true → StandsAtBytes f j text within → EndsBytes f j text
ends_passed f j text within is b =
    let s : ScannedBytesAt j text b.marks within true = subst (ScannedBytesAt j text b.marks within) is b.scanned in
    let all : AreWordsAt j text b.marks true = ((s []).0, ap (binary_marks j.text.variables) (sym (append-nil text)) ∙ (s []).1) in
    record { variables = b.variables; marks = b.marks; words = b.words; all = subst (AreWordsAt j text b.marks) (sym is) all }

pub ends_closed : (f : Formula) (j : ProofJudge) (text : List ℕ) → j.text.reader.closed ≡ true → StandsForBytes f j text → EndsBytes f j text
ends_closed f j text is = at j.form
  where
    at : (p : Form) → StandsForBytesIn p f j text → EndsBytes f j text
    at form.Empty b = absurd b
    at form.Letter b = absurd b
    at form.Lines b = absurd b
    at form.Steps b = ends_passed f j text false is b
    at form.Literals b = ends_passed f j text true is b

ends_before : (f : Formula) (j : ProofJudge) (text : List ℕ) → j.text.reader.closed ≡ false → StandsAtBytes f j text false → EndsBytes f j text
ends_before f j text going b =
    let s : ScannedBytes j text b.marks false = scanned f j text false b going in
    let reads : binary_marks j.text.variables text ≡ b.marks =
    ap (binary_marks j.text.variables) (sym (append-nil text)) ∙ s.reads []
    ∙ ap (λ (bs : List ℕ). b.marks ++ step_marks j.text.variables j.step false (number_pieces (bs ++ []))) s.begun ∙ append-nil b.marks in
    record { variables = b.variables; marks = b.marks; words = b.words; all = words_all j text b.marks j.text.reader.closed reads }

pub ends_apart : (f : Formula) (j : ProofJudge) (text : List ℕ) → j.text.reader.closed ≡ false → is_within j.form ≡ false → StandsForBytes f j text → EndsBytes f j text
ends_apart f j text going = at j.form
  where
    at : (p : Form) → is_within p ≡ false → StandsForBytesIn p f j text → EndsBytes f j text
    at form.Empty apart b = absurd b
    at form.Letter apart b = absurd b
    at form.Lines apart b = absurd b
    at form.Steps apart b = ends_before f j text going b
    at form.Literals apart b = absurd (cc)

inside_by : (f : Formula) (j : ProofJudge) (text : List ℕ) → is_within j.form ≡ true → StandsForBytes f j text → StandsAtBytes f j text true
inside_by f j text = at j.form
  where
    at : (p : Form) → is_within p ≡ true → StandsForBytesIn p f j text → StandsAtBytes f j text true
    at form.Empty is b = absurd b
    at form.Letter is b = absurd b
    at form.Lines is b = absurd b
    at form.Steps is b = absurd (cc)
    at form.Literals is b = b

pub ends_within : (f : Formula) (old new : ProofJudge) (text : List ℕ) → old.text.reader.closed ≡ false → is_within old.form ≡ true → new.text.variables ≡ old.text.variables → new.text.reader.closed ≡ true → TakesWord old new (faulty why.CutOff)
    → StandsForBytes f old text → EndsBytes f new text
ends_within f old new text going at same closed over b =
    let own : StandsAtBytes f old text true = inside_by f old text at b in
    let s : ScannedBytes old text own.marks true = scanned f old text true own going in
    let m : List Mark = mark old.step (faulty why.CutOff) ∷ [] in
    let cut = cut_within old.text.variables old.step s.bytes s.unended in
    let reads : binary_marks old.text.variables text ≡ (own.marks ++ m) ++ cut.0 =
    ap (binary_marks old.text.variables) (sym (append-nil text)) ∙ s.reads []
    ∙ ap (λ (bs : List ℕ). own.marks ++ step_marks old.text.variables old.step true (number_pieces bs)) (append-nil s.bytes)
    ∙ ap (λ (ms : List Mark). own.marks ++ ms) cut.1 ∙ sym (append_assoc own.marks m cut.0) in
    let all : AreWordsAt new text (own.marks ++ m) true = (cut.0, subst (λ (v : ℕ). binary_marks v text ≡ (own.marks ++ m) ++ cut.0) (sym same) reads) in
    record { variables = same ∙ own.variables; marks = own.marks ++ m; words = over f own.marks own.words; all = subst (AreWordsAt new text (own.marks ++ m)) (sym closed) all }

pub reads_bytes : (f : Formula) (j : ProofJudge) (text : List ℕ) (e : EndsBytes f j text) → j.text.reader.failed ≡ false → read_binary_proof f.variables text ≡ reading_from 0 false [] e.marks
reads_bytes f j text e ok = ap (λ (v : ℕ). read_binary_proof v text) (sym e.variables) ∙ at j.text.reader.closed (e.words ok) e.all
  where
    at : (closed : Bool) → StandsAtStep f j.text.reader e.marks closed → AreWordsAt j text e.marks closed → read_binary_proof j.text.variables text ≡ reading_from 0 false [] e.marks
    at true c all = ap (reading_from 0 false []) all.1 ∙ c.reads 0 all.0 ∙ sym (c.reads 0 []) ∙ ap (reading_from 0 false []) (append-nil e.marks)
    at false o all = ap (reading_from 0 false []) all

-- ---- the judgement

as_read : (f : Formula) (one other : ProofReading) (result : Result Judgement ClauseFault) → one ≡ other → IfOk result (λ j. JudgesReading f one j) → IfOk result (λ j. JudgesReading f other j)
as_read f one other result same h = subst (λ (r : ProofReading). IfOk result (λ j. JudgesReading f r j)) same h

read_as : (variables : ℕ) (text : List ℕ) (binary : Bool) → IsInForm binary text → read_proof variables text ≡ (if binary then read_binary_proof variables text else read_text_proof variables text)
read_as variables text binary is = let own : is_binary_proof text ≡ binary = ap is_binary_proof (sym (append-nil text)) ∙ is [] in rw own refl

-- a judge of texts judges each that it stands for
abbrev pub JudgesLines : Formula → TextJudge → Result Judgement ClauseFault → Type 0
JudgesLines f t result = (text : List ℕ) → StandsForLines f t text → IfOk result (λ j. JudgesReading f (read_text_proof f.variables text) j)

pub judges_empty : (f : Formula) (j : ProofJudge) (text : List ℕ) (result : Result Judgement ClauseFault) → j.form ≡ form.Empty → JudgesLines f j.text result → StandsForText f j text → IfOk result (λ i. JudgesProof f text i)
judges_empty f j text result at over b =
    let own : (text ≡ []) × BeginsProof f j = text_in f j text form.Empty at b in
    subst (λ (t : List ℕ). IfOk result (λ i. JudgesProof f t i)) (sym own.0) (over [] own.1.text)

pub judges_letter : (f : Formula) (j : ProofJudge) (t : TextJudge) (text : List ℕ) (result : Result Judgement ClauseFault) → j.form ≡ form.Letter → TakesLines f j.text (100 ∷ []) t → JudgesLines f t result → StandsForText f j text
    → IfOk result (λ i. JudgesProof f text i)
judges_letter f j t text result at first over b =
    let own : (text ≡ 100 ∷ []) × BeginsProof f j = text_in f j text form.Letter at b in
    subst (λ (x : List ℕ). IfOk result (λ i. JudgesProof f x i)) (sym own.0) (over (100 ∷ []) (first [] own.1.text))

pub judges_lines : (f : Formula) (j : ProofJudge) (text : List ℕ) (result : Result Judgement ClauseFault) → j.form ≡ form.Lines → JudgesLines f j.text result → StandsForText f j text → IfOk result (λ i. JudgesProof f text i)
judges_lines f j text result at over b =
    let own : IsInForm false text × StandsForLines f j.text text = text_in f j text form.Lines at b in
    as_read f (read_text_proof f.variables text) (read_proof f.variables text) result (sym (read_as f.variables text false own.0)) (over text own.1)

pub judges_bytes : (f : Formula) (j : ProofJudge) (text : List ℕ) (result : Result Judgement ClauseFault) → (j.form ≡ form.Steps) ⊎ (j.form ≡ form.Literals)
    → ((t : List ℕ) → StandsForBytes f j t → IfOk result (λ i. JudgesReading f (read_binary_proof f.variables t) i)) → StandsForText f j text → IfOk result (λ i. JudgesProof f text i)
judges_bytes f j text result at over b =
    let own : IsInForm true text × StandsForBytes f j text = in_bytes f j text at b in
    as_read f (read_binary_proof f.variables text) (read_proof f.variables text) result (sym (read_as f.variables text true own.0)) (over text own.1)
