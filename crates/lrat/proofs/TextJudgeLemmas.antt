-- Judges of the texts of proofs with hints.
use Rattle.std.proofs.Common.{◌≡◌, ℕ, suc, ◌+◌, ◌-◌, ◌^◌, ◌<◌, ◌≤◌, ◌==◌, take, drop, get_or, min, Bool, true, false, List, [], ◌∷◌, ◌++◌, length, refl, sym, ap, subst, ◌∙◌, append_assoc, append-nil, arith}
use Rattle.std.specs.Prelude.{nat_lt}
use Rattle.std.proofs.lemmas.List.{take_more, take_all, take-append-drop, length-append}
use Rattle.lrat.specs.declared.word_at.WordAt.{WordAt}
use Rattle.std.specs.List.{list_any}
use Rattle.std.proofs.lemmas.Bool.{eqb-true, ltb-false, or_parts, or_from}
use Rattle.base.specs.Decimals.{is_nothing}
use Rattle.base.specs.Lines.{whole_lines, all_lines}
use Rattle.drup.specs.declared.why.Why.TheVariants as why
use Rattle.drup.specs.declared.word.Word.{Word}
use Rattle.drup.specs.declared.lines.Place.{Place}
use Rattle.drup.specs.declared.lines.Place.TheVariants as place
use Rattle.drup.specs.Formula.{Formula}
use Rattle.drup.specs.Proofs.{is_proof_blank, most_proof_lines}
use Rattle.drup.specs.Words.{SpellsWord}
use Rattle.drup.specs.TextJudges.{next_lines, IsTokenAt, IsFew}
use Rattle.drup.proofs.TextLemmas.{lines_same}
use Rattle.lrat.specs.HintedProofs.{token_of, Token, faulty, Mark, mark, lines_marks, between, reading_from, read_text_lrat}
use Rattle.lrat.specs.StepReaders.{StepReader, StandsAtStep, StandsForWords}
use Rattle.base.proofs.DecimalLemmas.{nothing}
use Rattle.lrat.specs.declared.token.Token.{Token as CodeToken}
use Rattle.lrat.specs.Words.{token_said}
use Rattle.lrat.specs.WordsAt.{parts_words, IsWordOf, IsWordAt}
use Rattle.lrat.specs.TextJudges.{TextJudge, IsBetweenAt, IsBetween, IsReady, word_marks, marks_behind, Scanned, ScannedAt, StandsBefore, StandsThrough, BeginsText, StandsForLines, AreMarksAt, EndsText}
use Rattle.lrat.proofs.StepReaderLemmas.{stands_begun}
use Rattle.lrat.proofs.TextLemmas.{marks_blank, marks_line, marks_letter, marks_end, marks_too_long, marks_comment, marks_within}

-- ---- what was scanned

scanned_any : (j : TextJudge) (text pending : List ℕ) (marks : List Mark) (closed : Bool) → Scanned j text pending marks → ScannedAt j text pending marks closed
scanned_any j text pending marks true s = λ more. (marks_behind j.place j.line s.word (pending ++ more), s.reads more)
scanned_any j text pending marks false s = s

scanned : (f : Formula) (j : TextJudge) (text pending : List ℕ) (b : StandsBefore f j text pending) → j.reader.closed ≡ false → Scanned j text pending b.marks
scanned f j text pending b is = subst (ScannedAt j text pending b.marks) is b.scanned

-- bytes that come are pending
pub bytes_come : (f : Formula) (j : TextJudge) (text bytes : List ℕ) → j.reader.closed ≡ false → StandsThrough f j text → StandsBefore f j (text ++ bytes) bytes
bytes_come f j text bytes is b =
    let s : Scanned j text [] b.marks = scanned f j text [] b is in
    let now : Scanned j (text ++ bytes) bytes b.marks = record {
      word = s.word;
      spells = s.spells;
      plain = s.plain;
      few = s.few;
      reads = λ more. ap (λ (t : List ℕ). lines_marks 1 (all_lines t)) (append_assoc text bytes more) ∙ s.reads (bytes ++ more);
      last = λ more. ap (λ (t : List ℕ). suc (length (whole_lines t))) (append_assoc text bytes more) ∙ s.last (bytes ++ more);
    } in
    record { variables = b.variables; marks = b.marks; words = b.words; scanned = scanned_any j (text ++ bytes) bytes b.marks j.reader.closed now }

-- where nothing more is read, bytes more change nothing
pub bytes_passed : (f : Formula) (j : TextJudge) (text bytes : List ℕ) → j.reader.closed ≡ true → StandsThrough f j text → StandsThrough f j (text ++ bytes)
bytes_passed f j text bytes is b =
    let s : ScannedAt j text [] b.marks true = subst (ScannedAt j text [] b.marks) is b.scanned in
    let now : ScannedAt j (text ++ bytes) [] b.marks true = λ more.
    ((s (bytes ++ more)).0, ap (λ (t : List ℕ). lines_marks 1 (all_lines t)) (append_assoc text bytes more) ∙ (s (bytes ++ more)).1) in
    record { variables = b.variables; marks = b.marks; words = b.words; scanned = subst (ScannedAt j (text ++ bytes) [] b.marks) (sym is) now }

-- how the state of a scan goes on over pending bytes, with words that end
record GoesOn (p : Place) (n : ℕ) (w : List ℕ) (before : List ℕ) (added : List Mark) (q : Place) (m : ℕ) (x : List ℕ) : Type 0 where
  marks : (more : List ℕ) → marks_behind p n w (before ++ more) ≡ added ++ marks_behind q m x more
  lines : (more : List ℕ) → n + length (whole_lines (before ++ more)) ≡ m + length (whole_lines more)

goes_on : (f : Formula) (old : TextJudge) (text before : List ℕ) (b : StandsBefore f old text before) (s : Scanned old text before b.marks) (reader : StepReader) (m : ℕ) (q : Place) (word : Word) (x : List ℕ) (added : List Mark)
    → reader.variables ≡ old.reader.variables → StandsForWords f reader (b.marks ++ added) → SpellsWord word x → IsTokenAt q x → IsFew q m → GoesOn old.place old.line s.word before added q m x
    → StandsThrough f (record { reader = reader; line = m; place = q; word = word }) text
goes_on f old text before b s reader m q word x added same words spells plain few on =
    let new : TextJudge = record { reader = reader; line = m; place = q; word = word } in
    let now : Scanned new text [] (b.marks ++ added) = record {
      word = x;
      spells = spells;
      plain = plain;
      few = few;
      reads = λ more. s.reads more ∙ ap (λ (ms : List Mark). b.marks ++ ms) (on.marks more) ∙ sym (append_assoc b.marks added (marks_behind q m x more));
      last = λ more. s.last more ∙ on.lines more;
    } in
    record { variables = same ∙ b.variables; marks = b.marks ++ added; words = words; scanned = scanned_any new text [] (b.marks ++ added) reader.closed now }

no_more : (f : Formula) (r : StepReader) (marks : List Mark) → StandsForWords f r marks → StandsForWords f r (marks ++ [])
no_more f r marks s = subst (StandsForWords f r) (sym (append-nil marks)) s

-- ---- a byte of a line of words

-- what ending a word does
abbrev pub EndsWord : TextJudge → StepReader → Word → Type 0
EndsWord old reader word =
    ((f : Formula) (marks : List Mark) (bytes : List ℕ) → SpellsWord old.word bytes → StandsForWords f old.reader marks → StandsForWords f reader (marks ++ word_marks old.line bytes))
    × ((bytes : List ℕ) → SpellsWord old.word bytes → SpellsWord word [])
    × (reader.variables ≡ old.reader.variables)

-- the line and what follows are the same
abbrev pub KeepsPlace : TextJudge → TextJudge → Type 0
KeepsPlace old mid = (mid.line ≡ old.line) × (mid.place ≡ old.place)

-- no word ends
pub end_none : (f : Formula) (r : StepReader) (marks : List Mark) (n : ℕ) (bytes : List ℕ) → is_nothing bytes ≡ true → StandsForWords f r marks → StandsForWords f r (marks ++ word_marks n bytes)
end_none f r marks n [] none s = no_more f r marks s
end_none f r marks n (b ∷ bs) none s = absurd (cc)

pub end_some : (f : Formula) (r : StepReader) (marks : List Mark) (n : ℕ) (bytes : List ℕ) (t : Token) → is_nothing bytes ≡ false → t ≡ token_of bytes → StandsForWords f r (marks ++ mark n t ∷ []) → StandsForWords f r (marks ++ word_marks n bytes)
end_some f r marks n [] t some is s = absurd (cc)
end_some f r marks n (b ∷ bs) t some is s = subst (λ (u : Token). StandsForWords f r (marks ++ mark n u ∷ [])) is s

plain_at : (p : Place) (w : List ℕ) → p ≡ place.Within → IsTokenAt p w → list_any is_proof_blank w ≡ false
plain_at p w is plain = subst (λ (q : Place). IsTokenAt q w) is plain

few_at : (p : Place) (n : ℕ) → p ≡ place.Within → IsFew p n → n ≤ 2 ^ 62
few_at p n is few = subst (λ (q : Place). IsFew q n) is few

on_line : (p : Place) (n : ℕ) (w : List ℕ) (byte m : ℕ) → p ≡ place.Within → list_any is_proof_blank w ≡ false → (byte == 10) ≡ true → m ≡ suc n → GoesOn p n w (byte ∷ []) (word_marks n w) place.Begins m []
on_line p n w byte m is plain ten next =
    rw (is, next) (record {
      marks = λ more. marks_line n w byte more plain ten;
      lines = λ more. let long : length (whole_lines (byte ∷ more)) ≡ suc (length (whole_lines more)) = rw ten refl in omega (arith, long);
    })

stands_line : (f : Formula) (old : TextJudge) (text : List ℕ) (byte : ℕ) (reader : StepReader) (word : Word) → old.reader.closed ≡ false → old.place ≡ place.Within → (byte == 10) ≡ true → EndsWord old reader word → StandsBefore f old text (byte ∷ [])
    → StandsThrough f (record { reader = reader; line = min (old.line + 1) (2 ^ 64 - 1); place = place.Begins; word = word }) text
stands_line f old text byte reader word going within ten end b =
    let s : Scanned old text (byte ∷ []) b.marks = scanned f old text (byte ∷ []) b going in
    let few : old.line ≤ 2 ^ 62 = few_at old.place old.line within s.few in
    let next : min (old.line + 1) (2 ^ 64 - 1) ≡ suc old.line = omega (arith, few) in
    let enough : min (old.line + 1) (2 ^ 64 - 1) ≤ suc (2 ^ 62) = omega (arith, few) in
    goes_on f old text (byte ∷ []) b s reader (min (old.line + 1) (2 ^ 64 - 1)) place.Begins word [] (word_marks old.line s.word)
    end.2 (end.0 f b.marks s.word s.spells b.words) (end.1 s.word s.spells) refl enough
    (on_line old.place old.line s.word byte (min (old.line + 1) (2 ^ 64 - 1)) within (plain_at old.place s.word within s.plain) ten next)

on_same : (n : ℕ) (byte : ℕ) (more : List ℕ) → (byte == 10) ≡ false → n + length (whole_lines (byte ∷ more)) ≡ n + length (whole_lines more)
on_same n byte more not = ap (λ (k : ℕ). n + k) (lines_same byte more not)

on_blank : (p : Place) (n : ℕ) (w : List ℕ) (byte : ℕ) → p ≡ place.Within → list_any is_proof_blank w ≡ false → (byte == 10) ≡ false → is_proof_blank byte ≡ true → GoesOn p n w (byte ∷ []) (word_marks n w) p n []
on_blank p n w byte is plain not blank = rw is (record { marks = λ more. marks_blank n w byte more plain not blank; lines = λ more. on_same n byte more not })

stands_blank : (f : Formula) (old : TextJudge) (text : List ℕ) (byte : ℕ) (reader : StepReader) (word : Word) → old.reader.closed ≡ false → old.place ≡ place.Within → (byte == 10) ≡ false → is_proof_blank byte ≡ true → EndsWord old reader word → StandsBefore f old text (byte ∷ [])
    → StandsThrough f (record { reader = reader; line = old.line; place = old.place; word = word }) text
stands_blank f old text byte reader word going within not blank end b =
    let s : Scanned old text (byte ∷ []) b.marks = scanned f old text (byte ∷ []) b going in
    goes_on f old text (byte ∷ []) b s reader old.line old.place word [] (word_marks old.line s.word)
    end.2 (end.0 f b.marks s.word s.spells b.words) (end.1 s.word s.spells) (subst (λ (p : Place). IsTokenAt p []) (sym within) refl) s.few
    (on_blank old.place old.line s.word byte within (plain_at old.place s.word within s.plain) not blank)

on_letter : (p : Place) (n : ℕ) (w : List ℕ) (byte : ℕ) → p ≡ place.Within → (byte == 10) ≡ false → GoesOn p n w (byte ∷ []) [] p n (w ++ byte ∷ [])
on_letter p n w byte is not = rw is (record { marks = λ more. marks_letter n w byte more not; lines = λ more. on_same n byte more not })

plain_more : (w : List ℕ) (byte : ℕ) → list_any is_proof_blank w ≡ false → is_proof_blank byte ≡ false → list_any is_proof_blank (w ++ byte ∷ []) ≡ false
plain_more [] byte plain apart = or_from (is_proof_blank byte) false apart refl
plain_more (x ∷ xs) byte plain apart = let parts = or_parts (is_proof_blank x) (list_any is_proof_blank xs) plain in or_from (is_proof_blank x) (list_any is_proof_blank (xs ++ byte ∷ [])) parts.0 (plain_more xs byte parts.1 apart)

pub stands_letter : (f : Formula) (old : TextJudge) (text : List ℕ) (byte : ℕ) (word : Word) → old.reader.closed ≡ false → old.place ≡ place.Within → (byte == 10) ≡ false → is_proof_blank byte ≡ false
    → ((bytes : List ℕ) → SpellsWord old.word bytes → SpellsWord word (bytes ++ byte ∷ [])) → StandsBefore f old text (byte ∷ [])
    → StandsThrough f (record { reader = old.reader; line = old.line; place = old.place; word = word }) text
stands_letter f old text byte word going within not apart more b =
    let s : Scanned old text (byte ∷ []) b.marks = scanned f old text (byte ∷ []) b going in
    let plain : list_any is_proof_blank (s.word ++ byte ∷ []) ≡ false = plain_more s.word byte (plain_at old.place s.word within s.plain) apart in
    goes_on f old text (byte ∷ []) b s old.reader old.line old.place word (s.word ++ byte ∷ []) []
    refl (no_more f old.reader b.marks b.words) (more s.word s.spells) (subst (λ (p : Place). IsTokenAt p (s.word ++ byte ∷ [])) (sym within) plain) s.few
    (on_letter old.place old.line s.word byte within not)

-- a judge of which the reader and the word are others
same_judge : (P : TextJudge → Type 0) (old mid : TextJudge) → KeepsPlace old mid → P (record { reader = mid.reader; line = old.line; place = old.place; word = mid.word }) → P mid
same_judge P old mid same h =
    subst (λ (p : Place). P (record { reader = mid.reader; line = mid.line; place = p; word = mid.word })) (sym same.1)
    (subst (λ (n : ℕ). P (record { reader = mid.reader; line = n; place = old.place; word = mid.word })) (sym same.0) h)

pub word_line : (f : Formula) (old mid new : TextJudge) (text : List ℕ) (byte : ℕ) → old.reader.closed ≡ false → old.place ≡ place.Within → (byte == 10) ≡ true → EndsWord old mid.reader mid.word → KeepsPlace old mid
    → new ≡ record mid { line = min (mid.line + 1) (2 ^ 64 - 1); place = place.Begins } → StandsBefore f old text (byte ∷ []) → StandsThrough f new text
word_line f old mid new text byte going within ten end same is b =
    subst (λ (x : TextJudge). StandsThrough f x text) (sym is)
    (same_judge (λ (x : TextJudge). StandsThrough f (record x { line = min (x.line + 1) (2 ^ 64 - 1); place = place.Begins }) text) old mid same
    (stands_line f old text byte mid.reader mid.word going within ten end b))

pub word_blank : (f : Formula) (old mid : TextJudge) (text : List ℕ) (byte : ℕ) → old.reader.closed ≡ false → old.place ≡ place.Within → (byte == 10) ≡ false → is_proof_blank byte ≡ true → EndsWord old mid.reader mid.word → KeepsPlace old mid
    → StandsBefore f old text (byte ∷ []) → StandsThrough f mid text
word_blank f old mid text byte going within not blank end same b = same_judge (λ (x : TextJudge). StandsThrough f x text) old mid same (stands_blank f old text byte mid.reader mid.word going within not blank end b)

-- ---- the first byte of a line

nothing_at : (p : Place) (w : List ℕ) → p ≡ place.Begins → IsTokenAt p w → w ≡ []
nothing_at p w is none = subst (λ (q : Place). IsTokenAt q w) is none

begins_at : (p : Place) (n : ℕ) (w rest : List ℕ) → p ≡ place.Begins → marks_behind p n w rest ≡ lines_marks n (all_lines rest)
begins_at p n w rest is = rw is refl

pub stands_too_long : (f : Formula) (old : TextJudge) (text : List ℕ) (byte : ℕ) (reader : StepReader) → old.reader.closed ≡ false → old.place ≡ place.Begins → nat_lt most_proof_lines old.line ≡ true → reader.closed ≡ true → reader.variables ≡ old.reader.variables
    → ((f : Formula) (marks : List Mark) → StandsForWords f old.reader marks → StandsForWords f reader (marks ++ mark old.line (faulty why.TooLong) ∷ [])) → StandsBefore f old text (byte ∷ [])
    → StandsThrough f (record { reader = reader; line = old.line; place = old.place; word = old.word }) text
stands_too_long f old text byte reader going begins many closed same over b =
    let s : Scanned old text (byte ∷ []) b.marks = scanned f old text (byte ∷ []) b going in
    let new : TextJudge = record { reader = reader; line = old.line; place = old.place; word = old.word } in
    let m : Mark = mark old.line (faulty why.TooLong) in
    let behind = λ (more : List ℕ). lines_marks (suc old.line) (all_lines (next_lines (byte ∷ more))) in
    let now : ScannedAt new text [] (b.marks ++ m ∷ []) true = λ more. (
      behind more,
      s.reads more
          ∙ ap (λ (ms : List Mark). b.marks ++ ms) (begins_at old.place old.line s.word (byte ∷ more) begins ∙ marks_too_long old.line byte more many)
          ∙ sym (append_assoc b.marks (m ∷ []) (behind more)),
    ) in
    record { variables = same ∙ b.variables; marks = b.marks ++ m ∷ []; words = over f b.marks b.words; scanned = subst (ScannedAt new text [] (b.marks ++ m ∷ [])) (sym closed) now }

few_lines : (n : ℕ) → nat_lt most_proof_lines n ≡ false → n ≤ most_proof_lines
few_lines n few = ltb-false most_proof_lines n few

pub stands_comment : (f : Formula) (old : TextJudge) (text : List ℕ) (byte : ℕ) → old.reader.closed ≡ false → old.place ≡ place.Begins → nat_lt most_proof_lines old.line ≡ false → (byte == 99) ≡ true → StandsBefore f old text (byte ∷ [])
    → StandsThrough f (record { reader = old.reader; line = old.line; place = place.Comment; word = old.word }) text
stands_comment f old text byte going begins few is b =
    let s : Scanned old text (byte ∷ []) b.marks = scanned f old text (byte ∷ []) b going in
    let none : s.word ≡ [] = nothing_at old.place s.word begins s.plain in
    let one : byte ≡ 99 = eqb-true byte 99 is in
    let not : (byte == 10) ≡ false = rw one refl in
    goes_on f old text (byte ∷ []) b s old.reader old.line place.Comment old.word s.word []
    refl (no_more f old.reader b.marks b.words) s.spells none (few_lines old.line few)
    (record {
      marks = λ more. begins_at old.place old.line s.word (byte ∷ more) begins ∙ marks_comment old.line byte more few not is;
      lines = λ more. on_same old.line byte more not;
    })

pub stands_within : (f : Formula) (old : TextJudge) (text : List ℕ) (byte : ℕ) → old.reader.closed ≡ false → old.place ≡ place.Begins → nat_lt most_proof_lines old.line ≡ false → (byte == 99) ≡ false → StandsBefore f old text (byte ∷ [])
    → StandsBefore f (record { reader = old.reader; line = old.line; place = place.Within; word = old.word }) text (byte ∷ [])
stands_within f old text byte going begins few not b =
    let s : Scanned old text (byte ∷ []) b.marks = scanned f old text (byte ∷ []) b going in
    let new : TextJudge = record { reader = old.reader; line = old.line; place = place.Within; word = old.word } in
    let none : s.word ≡ [] = nothing_at old.place s.word begins s.plain in
    let now : Scanned new text (byte ∷ []) b.marks = record {
      word = [];
      spells = subst (SpellsWord old.word) none s.spells;
      plain = refl;
      few = few_lines old.line few;
      reads = λ more. s.reads more ∙ ap (λ (ms : List Mark). b.marks ++ ms) (begins_at old.place old.line s.word (byte ∷ more) begins ∙ marks_within old.line byte more few not);
      last = s.last;
    } in
    record { variables = b.variables; marks = b.marks; words = b.words; scanned = scanned_any new text (byte ∷ []) b.marks old.reader.closed now }

-- ---- a byte of a comment

comment_at : (p : Place) (n : ℕ) (w rest : List ℕ) → p ≡ place.Comment → marks_behind p n w rest ≡ lines_marks (suc n) (all_lines (next_lines rest))
comment_at p n w rest is = rw is refl

pub stands_comment_end : (f : Formula) (old : TextJudge) (text : List ℕ) (byte : ℕ) → old.reader.closed ≡ false → old.place ≡ place.Comment → (byte == 10) ≡ true → StandsBefore f old text (byte ∷ [])
    → StandsThrough f (record { reader = old.reader; line = min (old.line + 1) (2 ^ 64 - 1); place = place.Begins; word = old.word }) text
stands_comment_end f old text byte going comment ten b =
    let s : Scanned old text (byte ∷ []) b.marks = scanned f old text (byte ∷ []) b going in
    let few : old.line ≤ 2 ^ 62 = subst (λ (q : Place). IsFew q old.line) comment s.few in
    let none : s.word ≡ [] = subst (λ (q : Place). IsTokenAt q s.word) comment s.plain in
    let next : min (old.line + 1) (2 ^ 64 - 1) ≡ suc old.line = omega (arith, few) in
    let enough : min (old.line + 1) (2 ^ 64 - 1) ≤ suc (2 ^ 62) = omega (arith, few) in
    goes_on f old text (byte ∷ []) b s old.reader (min (old.line + 1) (2 ^ 64 - 1)) place.Begins old.word s.word []
    refl (no_more f old.reader b.marks b.words) s.spells none enough
    (record {
      marks = λ more. comment_at old.place old.line s.word (byte ∷ more) comment ∙ over more next;
      lines = λ more. let long : length (whole_lines (byte ∷ more)) ≡ suc (length (whole_lines more)) = rw ten refl in omega (arith, long, next);
    })
  where
    over : (more : List ℕ) → min (old.line + 1) (2 ^ 64 - 1) ≡ suc old.line → lines_marks (suc old.line) (all_lines (next_lines (byte ∷ more))) ≡ lines_marks (min (old.line + 1) (2 ^ 64 - 1)) (all_lines more)
    over more next = rw (ten, next) refl

pub stands_comment_on : (f : Formula) (old : TextJudge) (text : List ℕ) (byte : ℕ) → old.reader.closed ≡ false → old.place ≡ place.Comment → (byte == 10) ≡ false → StandsBefore f old text (byte ∷ []) → StandsThrough f old text
stands_comment_on f old text byte going comment not b =
    let s : Scanned old text (byte ∷ []) b.marks = scanned f old text (byte ∷ []) b going in
    goes_on f old text (byte ∷ []) b s old.reader old.line old.place old.word s.word []
    refl (no_more f old.reader b.marks b.words) s.spells s.plain s.few
    (record {
      marks = λ more. comment_at old.place old.line s.word (byte ∷ more) comment ∙ over more ∙ sym (comment_at old.place old.line s.word more comment);
      lines = λ more. on_same old.line byte more not;
    })
  where
    over : (more : List ℕ) → lines_marks (suc old.line) (all_lines (next_lines (byte ∷ more))) ≡ lines_marks (suc old.line) (all_lines (next_lines more))
    over more = rw not refl

-- ---- before any byte

text_begun : (f : Formula) (j : TextJudge) → BeginsText f j → StandsThrough f j []
text_begun f j b =
    let now : Scanned j [] [] [] = record {
      word = [];
      spells = b.word;
      plain = subst (λ (p : Place). IsTokenAt p []) (sym b.place) refl;
      few = few j.line j.place b.line b.place;
      reads = λ more. sym (begins_at j.place j.line [] more b.place ∙ ap (λ (n : ℕ). lines_marks n (all_lines more)) b.line);
      last = λ more. omega (arith, b.line);
    } in
    record { variables = b.variables; marks = []; words = stands_begun f j.reader b.reader; scanned = scanned_any j [] [] [] j.reader.closed now }
  where
    few : (n : ℕ) (p : Place) → n ≡ 1 → p ≡ place.Begins → IsFew p n
    few n p one is = let enough : n ≤ suc (2 ^ 62) = omega (arith, one) in subst (λ (q : Place). IsFew q n) (sym is) enough

pub stands_through : (f : Formula) (j : TextJudge) (text : List ℕ) → StandsForLines f j text → StandsThrough f j text
stands_through f j [] b = text_begun f j b
stands_through f j (x ∷ xs) b = b

stands_again : (f : Formula) (j : TextJudge) (text : List ℕ) → 0 < length text → StandsThrough f j text → StandsForLines f j text
stands_again f j [] some b = absurd (omega (arith, some))
stands_again f j (x ∷ xs) some b = b

pub stands_behind : (f : Formula) (j : TextJudge) (text : List ℕ) (byte : ℕ) (bytes : List ℕ) → StandsThrough f j (text ++ byte ∷ bytes) → StandsForLines f j (text ++ byte ∷ bytes)
stands_behind f j [] byte bytes b = b
stands_behind f j (x ∷ xs) byte bytes b = b

-- ---- a whole word

-- no word has begun in a line of words, of a text but for its last bytes, which are pending
record AtWords (f : Formula) (j : TextJudge) (text pending : List ℕ) : Type 0 where
  variables : j.reader.variables ≡ f.variables
  marks : List Mark
  words : StandsForWords f j.reader marks
  spells : SpellsWord j.word []
  few : j.line ≤ most_proof_lines
  reads : (more : List ℕ) → lines_marks 1 (all_lines (text ++ more)) ≡ marks ++ marks_behind place.Within j.line [] (pending ++ more)
  last : (more : List ℕ) → suc (length (whole_lines (text ++ more))) ≡ j.line + length (whole_lines (pending ++ more))

within_at : (p : Place) (n : ℕ) (w rest : List ℕ) → p ≡ place.Within → w ≡ [] → marks_behind p n w rest ≡ marks_behind place.Within n [] rest
within_at p n w rest is none = rw (is, none) refl

at_words : (f : Formula) (j : TextJudge) (text : List ℕ) (first : ℕ) (rest : List ℕ) → j.reader.closed ≡ false → IsBetween j first → StandsBefore f j text (first ∷ rest) → AtWords f j text (first ∷ rest)
at_words f j text first rest going ready b = at j.place refl ready
  where
    s : Scanned j text (first ∷ rest) b.marks
    s = scanned f j text (first ∷ rest) b going

    at : (p : Place) → j.place ≡ p → IsBetweenAt p j first → AtWords f j text (first ∷ rest)
    at place.Begins is h =
        let none : s.word ≡ [] = nothing_at j.place s.word is s.plain in
        record {
          variables = b.variables;
          marks = b.marks;
          words = b.words;
          spells = subst (SpellsWord j.word) none s.spells;
          few = few_lines j.line h.0;
          reads = λ more. s.reads more ∙ ap (λ (ms : List Mark). b.marks ++ ms) (begins_at j.place j.line s.word (first ∷ (rest ++ more)) is ∙ marks_within j.line first (rest ++ more) h.0 h.1);
          last = s.last;
        }
    at place.Within is h =
        let none : s.word ≡ [] = nothing s.word (h s.word s.spells) in
        record {
          variables = b.variables;
          marks = b.marks;
          words = b.words;
          spells = subst (SpellsWord j.word) none s.spells;
          few = few_at j.place j.line is s.few;
          reads = λ more. s.reads more ∙ ap (λ (ms : List Mark). b.marks ++ ms) (within_at j.place j.line s.word (first ∷ (rest ++ more)) is none);
          last = s.last;
        }
    at place.Comment is h = absurd h

letters : (n : ℕ) (u w : List ℕ) → list_any parts_words w ≡ false → GoesOn place.Within n u w [] place.Within n (u ++ w)
letters n u [] whole = record { marks = λ more. ap (λ (x : List ℕ). marks_behind place.Within n x more) (sym (append-nil u)); lines = λ more. refl }
letters n u (b ∷ bs) whole =
    let parts = or_parts (parts_words b) (list_any parts_words bs) whole in
    let not : (b == 10) ≡ false = (or_parts (b == 10) (is_proof_blank b) parts.0).0 in
    let rest : GoesOn place.Within n (u ++ b ∷ []) bs [] place.Within n ((u ++ b ∷ []) ++ bs) = letters n (u ++ b ∷ []) bs parts.1 in
    record {
      marks = λ more. marks_letter n u b (bs ++ more) not ∙ rest.marks more ∙ ap (λ (x : List ℕ). marks_behind place.Within n x more) (append_assoc u (b ∷ []) bs);
      lines = λ more. on_same n b (bs ++ more) not ∙ rest.lines more;
    }

no_blanks : (w : List ℕ) → list_any parts_words w ≡ false → list_any is_proof_blank w ≡ false
no_blanks [] whole = refl
no_blanks (b ∷ bs) whole =
    let parts = or_parts (parts_words b) (list_any parts_words bs) whole in
    or_from (is_proof_blank b) (list_any is_proof_blank bs) (or_parts (b == 10) (is_proof_blank b) parts.0).1 (no_blanks bs parts.1)

-- a word, and then a byte that parts it from what follows
word_then : (n : ℕ) (w : List ℕ) (b : ℕ) (q : Place) (m : ℕ) → list_any parts_words w ≡ false → GoesOn place.Within n w (b ∷ []) (word_marks n w) q m [] → GoesOn place.Within n [] (w ++ b ∷ []) (word_marks n w) q m []
word_then n w b q m whole on =
    let front : GoesOn place.Within n [] w [] place.Within n w = letters n [] w whole in
    record {
      marks = λ more. ap (marks_behind place.Within n []) (append_assoc w (b ∷ []) more) ∙ front.marks (b ∷ more) ∙ on.marks more;
      lines = λ more. ap (λ (t : List ℕ). n + length (whole_lines t)) (append_assoc w (b ∷ []) more) ∙ front.lines (b ∷ more) ∙ on.lines more;
    }

goes_on_words : (f : Formula) (old : TextJudge) (text pending : List ℕ) (b : AtWords f old text pending) (reader : StepReader) (m : ℕ) (q : Place) (added : List Mark)
    → reader.variables ≡ old.reader.variables → StandsForWords f reader (b.marks ++ added) → IsTokenAt q [] → IsFew q m → GoesOn place.Within old.line [] pending added q m []
    → StandsThrough f (record { reader = reader; line = m; place = q; word = old.word }) text
goes_on_words f old text pending b reader m q added same words plain few on =
    let new : TextJudge = record { reader = reader; line = m; place = q; word = old.word } in
    let now : Scanned new text [] (b.marks ++ added) = record {
      word = [];
      spells = b.spells;
      plain = plain;
      few = few;
      reads = λ more. b.reads more ∙ ap (λ (ms : List Mark). b.marks ++ ms) (on.marks more) ∙ sym (append_assoc b.marks added (marks_behind q m [] more));
      last = λ more. b.last more ∙ on.lines more;
    } in
    record { variables = same ∙ b.variables; marks = b.marks ++ added; words = words; scanned = scanned_any new text [] (b.marks ++ added) reader.closed now }

pub ready_between : (j : TextJudge) (first : ℕ) → IsReady j → IsBetween j first
ready_between j first ready = subst (λ (p : Place). IsBetweenAt p j first) (sym ready.within) ready.none

-- a reader took a word that says this
abbrev pub TakesToken : TextJudge → CodeToken → StepReader → Type 0
TakesToken old token reader =
    ((f : Formula) (marks : List Mark) → StandsForWords f old.reader marks → StandsForWords f reader (marks ++ mark old.line (token_said token) ∷ []))
    × (reader.variables ≡ old.reader.variables)

-- a whole word was taken, and the byte behind it ends the line, or does not
pub whole_line : (f : Formula) (old : TextJudge) (text : List ℕ) (first : ℕ) (rest : List ℕ) (behind : ℕ) (token : CodeToken) (reader : StepReader) → old.reader.closed ≡ false → IsBetween old first → IsWordOf token (first ∷ rest) → (behind == 10) ≡ true
    → TakesToken old token reader → StandsForLines f old text → StandsForLines f (record { reader = reader; line = min (old.line + 1) (2 ^ 64 - 1); place = place.Begins; word = old.word }) (text ++ ((first ∷ rest) ++ behind ∷ []))
whole_line f old text first rest behind token reader going ready word ten takes stands =
    let pending : List ℕ = first ∷ (rest ++ behind ∷ []) in
    let b : AtWords f old (text ++ pending) pending = at_words f old (text ++ pending) first (rest ++ behind ∷ []) going ready (bytes_come f old text pending going (stands_through f old text stands)) in
    let few : old.line ≤ 2 ^ 62 = b.few in
    let next : min (old.line + 1) (2 ^ 64 - 1) ≡ suc old.line = omega (arith, few) in
    let enough : min (old.line + 1) (2 ^ 64 - 1) ≤ suc (2 ^ 62) = omega (arith, few) in
    stands_behind f (record { reader = reader; line = min (old.line + 1) (2 ^ 64 - 1); place = place.Begins; word = old.word }) text first (rest ++ behind ∷ [])
    (goes_on_words f old (text ++ pending) pending b reader (min (old.line + 1) (2 ^ 64 - 1)) place.Begins (word_marks old.line (first ∷ rest)) takes.1
    (end_some f reader b.marks old.line (first ∷ rest) (token_said token) refl word.said (takes.0 f b.marks b.words)) refl enough
    (word_then old.line (first ∷ rest) behind place.Begins (min (old.line + 1) (2 ^ 64 - 1)) word.whole
    (on_line place.Within old.line (first ∷ rest) behind (min (old.line + 1) (2 ^ 64 - 1)) refl (no_blanks (first ∷ rest) word.whole) ten next)))

pub whole_word : (f : Formula) (old : TextJudge) (text : List ℕ) (first : ℕ) (rest : List ℕ) (behind : ℕ) (token : CodeToken) (reader : StepReader) → old.reader.closed ≡ false → IsBetween old first → IsWordOf token (first ∷ rest) → (behind == 10) ≡ false → parts_words behind ≡ true
    → TakesToken old token reader → StandsForLines f old text → StandsForLines f (record { reader = reader; line = old.line; place = place.Within; word = old.word }) (text ++ ((first ∷ rest) ++ behind ∷ []))
whole_word f old text first rest behind token reader going ready word not parts takes stands =
    let pending : List ℕ = first ∷ (rest ++ behind ∷ []) in
    let b : AtWords f old (text ++ pending) pending = at_words f old (text ++ pending) first (rest ++ behind ∷ []) going ready (bytes_come f old text pending going (stands_through f old text stands)) in
    let blank : is_proof_blank behind ≡ true = rw not at parts in
    stands_behind f (record { reader = reader; line = old.line; place = place.Within; word = old.word }) text first (rest ++ behind ∷ [])
    (goes_on_words f old (text ++ pending) pending b reader old.line place.Within (word_marks old.line (first ∷ rest)) takes.1
    (end_some f reader b.marks old.line (first ∷ rest) (token_said token) refl word.said (takes.0 f b.marks b.words)) refl b.few
    (word_then old.line (first ∷ rest) behind place.Within old.line word.whole
    (on_blank place.Within old.line (first ∷ rest) behind refl (no_blanks (first ∷ rest) word.whole) not blank)))

-- a whole word where none has begun in a line of words, and a blank behind it
pub ready_word : (f : Formula) (old : TextJudge) (text : List ℕ) (first : ℕ) (rest : List ℕ) (behind : ℕ) (token : CodeToken) (reader : StepReader) → IsReady old → old.reader.closed ≡ false → IsWordOf token (first ∷ rest) → (behind == 10) ≡ false → parts_words behind ≡ true
    → TakesToken old token reader → StandsForLines f old text → StandsForLines f (record { reader = reader; line = old.line; place = old.place; word = old.word }) (text ++ ((first ∷ rest) ++ behind ∷ []))
ready_word f old text first rest behind token reader ready going word not parts takes stands =
    subst (λ (p : Place). StandsForLines f (record { reader = reader; line = old.line; place = p; word = old.word }) (text ++ ((first ∷ rest) ++ behind ∷ []))) (sym ready.within)
    (whole_word f old text first rest behind token reader going (ready_between old first ready) word not parts takes stands)

-- what was taken from a place on: all, where nothing more is read, or a whole word and the byte behind it
pub taken_all : (f : Formula) (j : TextJudge) (text bytes : List ℕ) (at : ℕ) → j.reader.closed ≡ true → at < length bytes → StandsForLines f j (text ++ take at bytes) → StandsForLines f j (text ++ take (length bytes) bytes)
taken_all f j text bytes at closed inside stands =
    let all : (text ++ take at bytes) ++ drop at bytes ≡ text ++ take (length bytes) bytes =
    append_assoc text (take at bytes) (drop at bytes) ∙ ap (λ (l : List ℕ). text ++ l) (take-append-drop at bytes ∙ sym (take_all (length bytes) bytes (omega arith))) in
    stands_again f j (text ++ take (length bytes) bytes) (omega (arith, inside, length-append text (take (length bytes) bytes), ap length (take_all (length bytes) bytes (omega arith))))
    (subst (StandsThrough f j) all (bytes_passed f j (text ++ take at bytes) (drop at bytes) closed (stands_through f j (text ++ take at bytes) stands)))

pub taken_word : (f : Formula) (j : TextJudge) (text bytes : List ℕ) (at b : ℕ) (w : WordAt) (h : IsWordAt bytes at w) (first : ℕ) (rest : List ℕ) → h.word ≡ first ∷ rest → get_or bytes w.end 0 ≡ b
    → StandsForLines f j ((text ++ take at bytes) ++ ((first ∷ rest) ++ b ∷ [])) → StandsForLines f j (text ++ take (w.end + 1) bytes)
taken_word f j text bytes at b w h first rest is there stands =
    let to : take (w.end + 1) bytes ≡ take at bytes ++ ((first ∷ rest) ++ b ∷ []) =
    take_more bytes w.end 0 h.inside ∙ ap (λ (t : List ℕ). t ++ get_or bytes w.end 0 ∷ []) (h.is ∙ ap (λ (t : List ℕ). take at bytes ++ t) is) ∙ append_assoc (take at bytes) (first ∷ rest) (get_or bytes w.end 0 ∷ []) ∙ ap (λ (x : ℕ). take at bytes ++ ((first ∷ rest) ++ x ∷ [])) there in
    subst (StandsForLines f j) (append_assoc text (take at bytes) ((first ∷ rest) ++ b ∷ []) ∙ ap (λ (t : List ℕ). text ++ t) (sym to)) stands

pub taken_byte : (f : Formula) (j : TextJudge) (text bytes : List ℕ) (at b : ℕ) → at < length bytes → get_or bytes at 0 ≡ b → StandsForLines f j ((text ++ take at bytes) ++ b ∷ []) → StandsForLines f j (text ++ take (at + 1) bytes)
taken_byte f j text bytes at b inside there stands =
    let to : take (at + 1) bytes ≡ take at bytes ++ b ∷ [] = take_more bytes at 0 inside ∙ ap (λ (x : ℕ). take at bytes ++ x ∷ []) there in
    subst (StandsForLines f j) (append_assoc text (take at bytes) (b ∷ []) ∙ ap (λ (t : List ℕ). text ++ t) (sym to)) stands

-- ---- the end of the text

pub ends_closed : (f : Formula) (j : TextJudge) (text : List ℕ) → j.reader.closed ≡ true → StandsThrough f j text → EndsText f j text
ends_closed f j text is b =
    let s : ScannedAt j text [] b.marks true = subst (ScannedAt j text [] b.marks) is b.scanned in
    let all : AreMarksAt j text b.marks true = ((s []).0, ap (λ (t : List ℕ). lines_marks 1 (all_lines t)) (sym (append-nil text)) ∙ (s []).1) in
    record { variables = b.variables; marks = b.marks; words = b.words; all = subst (AreMarksAt j text b.marks) (sym is) all }

last_word : (p : Place) (n : ℕ) (w : List ℕ) → IsTokenAt p w → marks_behind p n w [] ≡ word_marks n w
last_word place.Begins n w none = rw none refl
last_word place.Within n w plain = marks_end n w plain
last_word place.Comment n w none = rw none refl

marks_all : (j : TextJudge) (text : List ℕ) (marks : List Mark) (closed : Bool) → lines_marks 1 (all_lines text) ≡ marks → suc (length (whole_lines text)) ≡ j.line → AreMarksAt j text marks closed
marks_all j text marks true reads last = ([], reads ∙ sym (append-nil marks))
marks_all j text marks false reads last = (reads, last)

ends_open : (f : Formula) (old : TextJudge) (text : List ℕ) (reader : StepReader) (word : Word) → old.reader.closed ≡ false → EndsWord old reader word → StandsThrough f old text
    → EndsText f (record { reader = reader; line = old.line; place = old.place; word = word }) text
ends_open f old text reader word going end b =
    let s : Scanned old text [] b.marks = scanned f old text [] b going in
    let new : TextJudge = record { reader = reader; line = old.line; place = old.place; word = word } in
    let marks : List Mark = b.marks ++ word_marks old.line s.word in
    let reads : lines_marks 1 (all_lines text) ≡ marks =
    ap (λ (t : List ℕ). lines_marks 1 (all_lines t)) (sym (append-nil text)) ∙ s.reads [] ∙ ap (λ (ms : List Mark). b.marks ++ ms) (last_word old.place old.line s.word s.plain) in
    let none : old.line + 0 ≡ old.line = omega arith in
    let last : suc (length (whole_lines text)) ≡ old.line = ap (λ (t : List ℕ). suc (length (whole_lines t))) (sym (append-nil text)) ∙ s.last [] ∙ none in
    record { variables = end.2 ∙ b.variables; marks = marks; words = end.0 f b.marks s.word s.spells b.words; all = marks_all new text marks reader.closed reads last }

pub ends_over : (f : Formula) (old mid : TextJudge) (text : List ℕ) → old.reader.closed ≡ false → EndsWord old mid.reader mid.word → KeepsPlace old mid → StandsThrough f old text → EndsText f mid text
ends_over f old mid text going end same b = same_judge (λ (x : TextJudge). EndsText f x text) old mid same (ends_open f old text mid.reader mid.word going end b)

pub reads_text : (f : Formula) (j : TextJudge) (text : List ℕ) (e : EndsText f j text) → j.reader.failed ≡ false → read_text_lrat f.variables text ≡ reading_from j.reader.variables j.line between e.marks
reads_text f j text e ok = ap (λ (v : ℕ). read_text_lrat v text) (sym e.variables) ∙ at j.reader.closed (e.words ok) e.all
  where
    at : (closed : Bool) → StandsAtStep f j.reader e.marks closed → AreMarksAt j text e.marks closed → read_text_lrat j.reader.variables text ≡ reading_from j.reader.variables j.line between e.marks
    at true c all =
        ap (reading_from j.reader.variables (suc (length (whole_lines text))) between) all.1 ∙ c.reads (suc (length (whole_lines text))) all.0
        ∙ sym (c.reads j.line []) ∙ ap (reading_from j.reader.variables j.line between) (append-nil e.marks)
    at false o all = ap (λ (n : ℕ). reading_from j.reader.variables n between (lines_marks 1 (all_lines text))) all.1 ∙ ap (reading_from j.reader.variables j.line between) all.0
