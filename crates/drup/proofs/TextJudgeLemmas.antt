-- Judges of the texts of proofs.
use Rattle.std.proofs.Common.{◌≡◌, ℕ, suc, ◌+◌, ◌-◌, ◌^◌, ◌≤◌, ◌==◌, min, Bool, true, false, List, [], ◌∷◌, ◌++◌, length, refl, sym, ap, subst, ◌∙◌, append_assoc, append-nil, arith}
use Rattle.std.specs.Prelude.{nat_lt}
use Rattle.std.specs.List.{list_any}
use Rattle.std.proofs.lemmas.Bool.{eqb-true, ltb-false, or_parts, or_from}
use Rattle.base.specs.Decimals.{is_nothing}
use Rattle.base.specs.Lines.{whole_lines, all_lines}
use Rattle.drup.specs.declared.why.Why.TheVariants as why
use Rattle.drup.specs.declared.word.Word.{Word}
use Rattle.drup.specs.declared.lines.Place.{Place}
use Rattle.drup.specs.declared.lines.Place.TheVariants as place
use Rattle.drup.specs.Formula.{Formula}
use Rattle.drup.specs.Proofs.{is_proof_blank, token_of, Token, faulty, Mark, mark, most_proof_lines, lines_marks, reading_from, read_text_proof}
use Rattle.drup.specs.Words.{SpellsWord}
use Rattle.drup.specs.StepReaders.{StepReader, StandsAtStep, StandsForWords}
use Rattle.drup.specs.TextJudges.{TextJudge, next_lines, word_marks, marks_behind, IsTokenAt, IsFew, Scanned, ScannedAt, StandsBefore, StandsThrough, BeginsText, StandsForLines, AreMarksAt, EndsText}
use Rattle.drup.proofs.StepReaderLemmas.{stands_begun}
use Rattle.drup.proofs.TextLemmas.{lines_same, marks_blank, marks_line, marks_letter, marks_end, marks_too_long, marks_comment, marks_within}

-- ---- what was scanned

scanned_any : (j : TextJudge) (text pending : List ℕ) (marks : List Mark) (closed : Bool) → Scanned j text pending marks → ScannedAt j text pending marks closed
scanned_any j text pending marks true s = λ more. (marks_behind j.variables j.place j.line s.word (pending ++ more), s.reads more)
scanned_any j text pending marks false s = s

scanned : (f : Formula) (j : TextJudge) (text pending : List ℕ) (b : StandsBefore f j text pending) → j.reader.closed ≡ false → Scanned j text pending b.marks
scanned f j text pending b is = subst (ScannedAt j text pending b.marks) is b.scanned

-- a byte that comes is pending
pub byte_comes : (f : Formula) (j : TextJudge) (text : List ℕ) (byte : ℕ) → j.reader.closed ≡ false → StandsThrough f j text → StandsBefore f j (text ++ byte ∷ []) (byte ∷ [])
byte_comes f j text byte is b =
    let s : Scanned j text [] b.marks = scanned f j text [] b is in
    let now : Scanned j (text ++ byte ∷ []) (byte ∷ []) b.marks = record {
      word = s.word;
      spells = s.spells;
      plain = s.plain;
      few = s.few;
      reads = λ more. ap (λ (t : List ℕ). lines_marks j.variables 1 (all_lines t)) (append_assoc text (byte ∷ []) more) ∙ s.reads (byte ∷ more);
      last = λ more. ap (λ (t : List ℕ). suc (length (whole_lines t))) (append_assoc text (byte ∷ []) more) ∙ s.last (byte ∷ more);
    } in
    record { variables = b.variables; marks = b.marks; words = b.words; scanned = scanned_any j (text ++ byte ∷ []) (byte ∷ []) b.marks j.reader.closed now }

-- where nothing more is read, a byte more changes nothing
pub byte_passed : (f : Formula) (j : TextJudge) (text : List ℕ) (byte : ℕ) → j.reader.closed ≡ true → StandsThrough f j text → StandsThrough f j (text ++ byte ∷ [])
byte_passed f j text byte is b =
    let s : ScannedAt j text [] b.marks true = subst (ScannedAt j text [] b.marks) is b.scanned in
    let now : ScannedAt j (text ++ byte ∷ []) [] b.marks true = λ more.
    ((s (byte ∷ more)).0, ap (λ (t : List ℕ). lines_marks j.variables 1 (all_lines t)) (append_assoc text (byte ∷ []) more) ∙ (s (byte ∷ more)).1) in
    record { variables = b.variables; marks = b.marks; words = b.words; scanned = subst (ScannedAt j (text ++ byte ∷ []) [] b.marks) (sym is) now }

-- how the state of a scan goes on over pending bytes, with words that end
record GoesOn (v : ℕ) (p : Place) (n : ℕ) (w : List ℕ) (before : List ℕ) (added : List Mark) (q : Place) (m : ℕ) (x : List ℕ) : Type 0 where
  marks : (more : List ℕ) → marks_behind v p n w (before ++ more) ≡ added ++ marks_behind v q m x more
  lines : (more : List ℕ) → n + length (whole_lines (before ++ more)) ≡ m + length (whole_lines more)

goes_on : (f : Formula) (old : TextJudge) (text before : List ℕ) (b : StandsBefore f old text before) (s : Scanned old text before b.marks) (reader : StepReader) (m : ℕ) (q : Place) (word : Word) (x : List ℕ) (added : List Mark)
    → StandsForWords f reader (b.marks ++ added) → SpellsWord word x → IsTokenAt q x → IsFew q m → GoesOn old.variables old.place old.line s.word before added q m x
    → StandsThrough f (record { reader = reader; variables = old.variables; line = m; place = q; word = word }) text
goes_on f old text before b s reader m q word x added words spells plain few on =
    let new : TextJudge = record { reader = reader; variables = old.variables; line = m; place = q; word = word } in
    let now : Scanned new text [] (b.marks ++ added) = record {
      word = x;
      spells = spells;
      plain = plain;
      few = few;
      reads = λ more. s.reads more ∙ ap (λ (ms : List Mark). b.marks ++ ms) (on.marks more) ∙ sym (append_assoc b.marks added (marks_behind old.variables q m x more));
      last = λ more. s.last more ∙ on.lines more;
    } in
    record { variables = b.variables; marks = b.marks ++ added; words = words; scanned = scanned_any new text [] (b.marks ++ added) reader.closed now }

no_more : (f : Formula) (r : StepReader) (marks : List Mark) → StandsForWords f r marks → StandsForWords f r (marks ++ [])
no_more f r marks s = subst (StandsForWords f r) (sym (append-nil marks)) s

-- ---- a byte of a line of words

-- what ending a word does
abbrev pub EndsWord : TextJudge → StepReader → Word → Type 0
EndsWord old reader word =
    ((f : Formula) (marks : List Mark) (bytes : List ℕ) → SpellsWord old.word bytes → StandsForWords f old.reader marks → StandsForWords f reader (marks ++ word_marks old.variables old.line bytes))
    × ((bytes : List ℕ) → SpellsWord old.word bytes → SpellsWord word [])

-- the line and what follows are the same
abbrev pub KeepsPlace : TextJudge → TextJudge → Type 0
KeepsPlace old mid = (mid.variables ≡ old.variables) × (mid.line ≡ old.line) × (mid.place ≡ old.place)

-- no word ends
pub end_none : (f : Formula) (r : StepReader) (marks : List Mark) (v n : ℕ) (bytes : List ℕ) → is_nothing bytes ≡ true → StandsForWords f r marks → StandsForWords f r (marks ++ word_marks v n bytes)
end_none f r marks v n [] none s = no_more f r marks s
end_none f r marks v n (b ∷ bs) none s = absurd (cc)

pub end_some : (f : Formula) (r : StepReader) (marks : List Mark) (v n : ℕ) (bytes : List ℕ) (t : Token) → is_nothing bytes ≡ false → t ≡ token_of v bytes → StandsForWords f r (marks ++ mark n t ∷ []) → StandsForWords f r (marks ++ word_marks v n bytes)
end_some f r marks v n [] t some is s = absurd (cc)
end_some f r marks v n (b ∷ bs) t some is s = subst (λ (u : Token). StandsForWords f r (marks ++ mark n u ∷ [])) is s

plain_at : (p : Place) (w : List ℕ) → p ≡ place.Within → IsTokenAt p w → list_any is_proof_blank w ≡ false
plain_at p w is plain = subst (λ (q : Place). IsTokenAt q w) is plain

few_at : (p : Place) (n : ℕ) → p ≡ place.Within → IsFew p n → n ≤ 2 ^ 62
few_at p n is few = subst (λ (q : Place). IsFew q n) is few

on_line : (v : ℕ) (p : Place) (n : ℕ) (w : List ℕ) (byte m : ℕ) → p ≡ place.Within → list_any is_proof_blank w ≡ false → (byte == 10) ≡ true → m ≡ suc n → GoesOn v p n w (byte ∷ []) (word_marks v n w) place.Begins m []
on_line v p n w byte m is plain ten next =
    rw (is, next) (record {
      marks = λ more. marks_line v n w byte more plain ten;
      lines = λ more. let long : length (whole_lines (byte ∷ more)) ≡ suc (length (whole_lines more)) = rw ten refl in omega (arith, long);
    })

stands_line : (f : Formula) (old : TextJudge) (text : List ℕ) (byte : ℕ) (reader : StepReader) (word : Word) → old.reader.closed ≡ false → old.place ≡ place.Within → (byte == 10) ≡ true → EndsWord old reader word → StandsBefore f old text (byte ∷ [])
    → StandsThrough f (record { reader = reader; variables = old.variables; line = min (old.line + 1) (2 ^ 64 - 1); place = place.Begins; word = word }) text
stands_line f old text byte reader word going within ten end b =
    let s : Scanned old text (byte ∷ []) b.marks = scanned f old text (byte ∷ []) b going in
    let few : old.line ≤ 2 ^ 62 = few_at old.place old.line within s.few in
    let next : min (old.line + 1) (2 ^ 64 - 1) ≡ suc old.line = omega (arith, few) in
    let enough : min (old.line + 1) (2 ^ 64 - 1) ≤ suc (2 ^ 62) = omega (arith, few) in
    goes_on f old text (byte ∷ []) b s reader (min (old.line + 1) (2 ^ 64 - 1)) place.Begins word [] (word_marks old.variables old.line s.word)
    (end.0 f b.marks s.word s.spells b.words) (end.1 s.word s.spells) refl enough
    (on_line old.variables old.place old.line s.word byte (min (old.line + 1) (2 ^ 64 - 1)) within (plain_at old.place s.word within s.plain) ten next)

on_same : (n : ℕ) (byte : ℕ) (more : List ℕ) → (byte == 10) ≡ false → n + length (whole_lines (byte ∷ more)) ≡ n + length (whole_lines more)
on_same n byte more not = ap (λ (k : ℕ). n + k) (lines_same byte more not)

on_blank : (v : ℕ) (p : Place) (n : ℕ) (w : List ℕ) (byte : ℕ) → p ≡ place.Within → list_any is_proof_blank w ≡ false → (byte == 10) ≡ false → is_proof_blank byte ≡ true → GoesOn v p n w (byte ∷ []) (word_marks v n w) p n []
on_blank v p n w byte is plain not blank = rw is (record { marks = λ more. marks_blank v n w byte more plain not blank; lines = λ more. on_same n byte more not })

stands_blank : (f : Formula) (old : TextJudge) (text : List ℕ) (byte : ℕ) (reader : StepReader) (word : Word) → old.reader.closed ≡ false → old.place ≡ place.Within → (byte == 10) ≡ false → is_proof_blank byte ≡ true → EndsWord old reader word → StandsBefore f old text (byte ∷ [])
    → StandsThrough f (record { reader = reader; variables = old.variables; line = old.line; place = old.place; word = word }) text
stands_blank f old text byte reader word going within not blank end b =
    let s : Scanned old text (byte ∷ []) b.marks = scanned f old text (byte ∷ []) b going in
    goes_on f old text (byte ∷ []) b s reader old.line old.place word [] (word_marks old.variables old.line s.word)
    (end.0 f b.marks s.word s.spells b.words) (end.1 s.word s.spells) (subst (λ (p : Place). IsTokenAt p []) (sym within) refl) s.few
    (on_blank old.variables old.place old.line s.word byte within (plain_at old.place s.word within s.plain) not blank)

on_letter : (v : ℕ) (p : Place) (n : ℕ) (w : List ℕ) (byte : ℕ) → p ≡ place.Within → (byte == 10) ≡ false → GoesOn v p n w (byte ∷ []) [] p n (w ++ byte ∷ [])
on_letter v p n w byte is not = rw is (record { marks = λ more. marks_letter v n w byte more not; lines = λ more. on_same n byte more not })

plain_more : (w : List ℕ) (byte : ℕ) → list_any is_proof_blank w ≡ false → is_proof_blank byte ≡ false → list_any is_proof_blank (w ++ byte ∷ []) ≡ false
plain_more [] byte plain apart = or_from (is_proof_blank byte) false apart refl
plain_more (x ∷ xs) byte plain apart = let parts = or_parts (is_proof_blank x) (list_any is_proof_blank xs) plain in or_from (is_proof_blank x) (list_any is_proof_blank (xs ++ byte ∷ [])) parts.0 (plain_more xs byte parts.1 apart)

pub stands_letter : (f : Formula) (old : TextJudge) (text : List ℕ) (byte : ℕ) (word : Word) → old.reader.closed ≡ false → old.place ≡ place.Within → (byte == 10) ≡ false → is_proof_blank byte ≡ false
    → ((bytes : List ℕ) → SpellsWord old.word bytes → SpellsWord word (bytes ++ byte ∷ [])) → StandsBefore f old text (byte ∷ [])
    → StandsThrough f (record { reader = old.reader; variables = old.variables; line = old.line; place = old.place; word = word }) text
stands_letter f old text byte word going within not apart more b =
    let s : Scanned old text (byte ∷ []) b.marks = scanned f old text (byte ∷ []) b going in
    let plain : list_any is_proof_blank (s.word ++ byte ∷ []) ≡ false = plain_more s.word byte (plain_at old.place s.word within s.plain) apart in
    goes_on f old text (byte ∷ []) b s old.reader old.line old.place word (s.word ++ byte ∷ []) []
    (no_more f old.reader b.marks b.words) (more s.word s.spells) (subst (λ (p : Place). IsTokenAt p (s.word ++ byte ∷ [])) (sym within) plain) s.few
    (on_letter old.variables old.place old.line s.word byte within not)

-- a judge of which the reader and the word are others
same_judge : (P : TextJudge → Type 0) (old mid : TextJudge) → KeepsPlace old mid → P (record { reader = mid.reader; variables = old.variables; line = old.line; place = old.place; word = mid.word }) → P mid
same_judge P old mid same h =
    subst (λ (p : Place). P (record { reader = mid.reader; variables = mid.variables; line = mid.line; place = p; word = mid.word })) (sym same.2)
    (subst (λ (n : ℕ). P (record { reader = mid.reader; variables = mid.variables; line = n; place = old.place; word = mid.word })) (sym same.1)
    (subst (λ (v : ℕ). P (record { reader = mid.reader; variables = v; line = old.line; place = old.place; word = mid.word })) (sym same.0) h))

pub word_line : (f : Formula) (old mid new : TextJudge) (text : List ℕ) (byte : ℕ) → old.reader.closed ≡ false → old.place ≡ place.Within → (byte == 10) ≡ true → EndsWord old mid.reader mid.word → KeepsPlace old mid
    → new ≡ record mid { line = min (mid.line + 1) (2 ^ 64 - 1); place = place.Begins } → StandsBefore f old text (byte ∷ []) → StandsThrough f new text
word_line f old mid new text byte going within ten end same is b =
    subst (λ (x : TextJudge). StandsThrough f x text) (sym is)
    (same_judge (λ (x : TextJudge). StandsThrough f (record x { line = min (x.line + 1) (2 ^ 64 - 1); place = place.Begins }) text) old mid same
    (stands_line f old text byte mid.reader mid.word going within ten end b))

pub word_blank : (f : Formula) (old mid : TextJudge) (text : List ℕ) (byte : ℕ) → old.reader.closed ≡ false → old.place ≡ place.Within → (byte == 10) ≡ false → is_proof_blank byte ≡ true → EndsWord old mid.reader mid.word → KeepsPlace old mid
    → StandsBefore f old text (byte ∷ []) → StandsThrough f mid text
word_blank f old mid text byte going within not blank end same b = same_judge (λ (x : TextJudge). StandsThrough f x text) old mid same (stands_blank f old text byte mid.reader mid.word going within not blank end b)

-- ---- the first byte of a line

nothing_at : (p : Place) (w : List ℕ) → p ≡ place.Begins → IsTokenAt p w → w ≡ []
nothing_at p w is none = subst (λ (q : Place). IsTokenAt q w) is none

begins_at : (v : ℕ) (p : Place) (n : ℕ) (w rest : List ℕ) → p ≡ place.Begins → marks_behind v p n w rest ≡ lines_marks v n (all_lines rest)
begins_at v p n w rest is = rw is refl

pub stands_too_long : (f : Formula) (old : TextJudge) (text : List ℕ) (byte : ℕ) (reader : StepReader) → old.reader.closed ≡ false → old.place ≡ place.Begins → nat_lt most_proof_lines old.line ≡ true → reader.closed ≡ true
    → ((f : Formula) (marks : List Mark) → StandsForWords f old.reader marks → StandsForWords f reader (marks ++ mark old.line (faulty why.TooLong) ∷ [])) → StandsBefore f old text (byte ∷ [])
    → StandsThrough f (record { reader = reader; variables = old.variables; line = old.line; place = old.place; word = old.word }) text
stands_too_long f old text byte reader going begins many closed over b =
    let s : Scanned old text (byte ∷ []) b.marks = scanned f old text (byte ∷ []) b going in
    let new : TextJudge = record { reader = reader; variables = old.variables; line = old.line; place = old.place; word = old.word } in
    let m : Mark = mark old.line (faulty why.TooLong) in
    let behind = λ (more : List ℕ). lines_marks old.variables (suc old.line) (all_lines (next_lines (byte ∷ more))) in
    let now : ScannedAt new text [] (b.marks ++ m ∷ []) true = λ more. (
      behind more,
      s.reads more
          ∙ ap (λ (ms : List Mark). b.marks ++ ms) (begins_at old.variables old.place old.line s.word (byte ∷ more) begins ∙ marks_too_long old.variables old.line byte more many)
          ∙ sym (append_assoc b.marks (m ∷ []) (behind more)),
    ) in
    record { variables = b.variables; marks = b.marks ++ m ∷ []; words = over f b.marks b.words; scanned = subst (ScannedAt new text [] (b.marks ++ m ∷ [])) (sym closed) now }

few_lines : (n : ℕ) → nat_lt most_proof_lines n ≡ false → n ≤ most_proof_lines
few_lines n few = ltb-false most_proof_lines n few

pub stands_comment : (f : Formula) (old : TextJudge) (text : List ℕ) (byte : ℕ) → old.reader.closed ≡ false → old.place ≡ place.Begins → nat_lt most_proof_lines old.line ≡ false → (byte == 99) ≡ true → StandsBefore f old text (byte ∷ [])
    → StandsThrough f (record { reader = old.reader; variables = old.variables; line = old.line; place = place.Comment; word = old.word }) text
stands_comment f old text byte going begins few is b =
    let s : Scanned old text (byte ∷ []) b.marks = scanned f old text (byte ∷ []) b going in
    let none : s.word ≡ [] = nothing_at old.place s.word begins s.plain in
    let one : byte ≡ 99 = eqb-true byte 99 is in
    let not : (byte == 10) ≡ false = rw one refl in
    goes_on f old text (byte ∷ []) b s old.reader old.line place.Comment old.word s.word []
    (no_more f old.reader b.marks b.words) s.spells none (few_lines old.line few)
    (record {
      marks = λ more. begins_at old.variables old.place old.line s.word (byte ∷ more) begins ∙ marks_comment old.variables old.line byte more few not is;
      lines = λ more. on_same old.line byte more not;
    })

pub stands_within : (f : Formula) (old : TextJudge) (text : List ℕ) (byte : ℕ) → old.reader.closed ≡ false → old.place ≡ place.Begins → nat_lt most_proof_lines old.line ≡ false → (byte == 99) ≡ false → StandsBefore f old text (byte ∷ [])
    → StandsBefore f (record { reader = old.reader; variables = old.variables; line = old.line; place = place.Within; word = old.word }) text (byte ∷ [])
stands_within f old text byte going begins few not b =
    let s : Scanned old text (byte ∷ []) b.marks = scanned f old text (byte ∷ []) b going in
    let new : TextJudge = record { reader = old.reader; variables = old.variables; line = old.line; place = place.Within; word = old.word } in
    let none : s.word ≡ [] = nothing_at old.place s.word begins s.plain in
    let now : Scanned new text (byte ∷ []) b.marks = record {
      word = [];
      spells = subst (SpellsWord old.word) none s.spells;
      plain = refl;
      few = few_lines old.line few;
      reads = λ more. s.reads more ∙ ap (λ (ms : List Mark). b.marks ++ ms) (begins_at old.variables old.place old.line s.word (byte ∷ more) begins ∙ marks_within old.variables old.line byte more few not);
      last = s.last;
    } in
    record { variables = b.variables; marks = b.marks; words = b.words; scanned = scanned_any new text (byte ∷ []) b.marks old.reader.closed now }

-- ---- a byte of a comment

comment_at : (v : ℕ) (p : Place) (n : ℕ) (w rest : List ℕ) → p ≡ place.Comment → marks_behind v p n w rest ≡ lines_marks v (suc n) (all_lines (next_lines rest))
comment_at v p n w rest is = rw is refl

pub stands_comment_end : (f : Formula) (old : TextJudge) (text : List ℕ) (byte : ℕ) → old.reader.closed ≡ false → old.place ≡ place.Comment → (byte == 10) ≡ true → StandsBefore f old text (byte ∷ [])
    → StandsThrough f (record { reader = old.reader; variables = old.variables; line = min (old.line + 1) (2 ^ 64 - 1); place = place.Begins; word = old.word }) text
stands_comment_end f old text byte going comment ten b =
    let s : Scanned old text (byte ∷ []) b.marks = scanned f old text (byte ∷ []) b going in
    let few : old.line ≤ 2 ^ 62 = subst (λ (q : Place). IsFew q old.line) comment s.few in
    let none : s.word ≡ [] = subst (λ (q : Place). IsTokenAt q s.word) comment s.plain in
    let next : min (old.line + 1) (2 ^ 64 - 1) ≡ suc old.line = omega (arith, few) in
    let enough : min (old.line + 1) (2 ^ 64 - 1) ≤ suc (2 ^ 62) = omega (arith, few) in
    goes_on f old text (byte ∷ []) b s old.reader (min (old.line + 1) (2 ^ 64 - 1)) place.Begins old.word s.word []
    (no_more f old.reader b.marks b.words) s.spells none enough
    (record {
      marks = λ more. comment_at old.variables old.place old.line s.word (byte ∷ more) comment ∙ over more next;
      lines = λ more. let long : length (whole_lines (byte ∷ more)) ≡ suc (length (whole_lines more)) = rw ten refl in omega (arith, long, next);
    })
  where
    over : (more : List ℕ) → min (old.line + 1) (2 ^ 64 - 1) ≡ suc old.line → lines_marks old.variables (suc old.line) (all_lines (next_lines (byte ∷ more))) ≡ lines_marks old.variables (min (old.line + 1) (2 ^ 64 - 1)) (all_lines more)
    over more next = rw (ten, next) refl

pub stands_comment_on : (f : Formula) (old : TextJudge) (text : List ℕ) (byte : ℕ) → old.reader.closed ≡ false → old.place ≡ place.Comment → (byte == 10) ≡ false → StandsBefore f old text (byte ∷ []) → StandsThrough f old text
stands_comment_on f old text byte going comment not b =
    let s : Scanned old text (byte ∷ []) b.marks = scanned f old text (byte ∷ []) b going in
    goes_on f old text (byte ∷ []) b s old.reader old.line old.place old.word s.word []
    (no_more f old.reader b.marks b.words) s.spells s.plain s.few
    (record {
      marks = λ more. comment_at old.variables old.place old.line s.word (byte ∷ more) comment ∙ over more ∙ sym (comment_at old.variables old.place old.line s.word more comment);
      lines = λ more. on_same old.line byte more not;
    })
  where
    over : (more : List ℕ) → lines_marks old.variables (suc old.line) (all_lines (next_lines (byte ∷ more))) ≡ lines_marks old.variables (suc old.line) (all_lines (next_lines more))
    over more = rw not refl

-- ---- before any byte

text_begun : (f : Formula) (j : TextJudge) → BeginsText f j → StandsThrough f j []
text_begun f j b =
    let now : Scanned j [] [] [] = record {
      word = [];
      spells = b.word;
      plain = subst (λ (p : Place). IsTokenAt p []) (sym b.place) refl;
      few = few j.line j.place b.line b.place;
      reads = λ more. sym (begins_at j.variables j.place j.line [] more b.place ∙ ap (λ (n : ℕ). lines_marks j.variables n (all_lines more)) b.line);
      last = λ more. omega (arith, b.line);
    } in
    record { variables = b.variables; marks = []; words = stands_begun f j.reader b.reader; scanned = scanned_any j [] [] [] j.reader.closed now }
  where
    few : (n : ℕ) (p : Place) → n ≡ 1 → p ≡ place.Begins → IsFew p n
    few n p one is = let enough : n ≤ suc (2 ^ 62) = omega (arith, one) in subst (λ (q : Place). IsFew q n) (sym is) enough

pub stands_through : (f : Formula) (j : TextJudge) (text : List ℕ) → StandsForLines f j text → StandsThrough f j text
stands_through f j [] b = text_begun f j b
stands_through f j (x ∷ xs) b = b

pub stands_behind : (f : Formula) (j : TextJudge) (text : List ℕ) (byte : ℕ) → StandsThrough f j (text ++ byte ∷ []) → StandsForLines f j (text ++ byte ∷ [])
stands_behind f j [] byte b = b
stands_behind f j (x ∷ xs) byte b = b

-- ---- the end of the text

pub ends_closed : (f : Formula) (j : TextJudge) (text : List ℕ) → j.reader.closed ≡ true → StandsThrough f j text → EndsText f j text
ends_closed f j text is b =
    let s : ScannedAt j text [] b.marks true = subst (ScannedAt j text [] b.marks) is b.scanned in
    let all : AreMarksAt j text b.marks true = ((s []).0, ap (λ (t : List ℕ). lines_marks j.variables 1 (all_lines t)) (sym (append-nil text)) ∙ (s []).1) in
    record { variables = b.variables; marks = b.marks; words = b.words; all = subst (AreMarksAt j text b.marks) (sym is) all }

last_word : (v : ℕ) (p : Place) (n : ℕ) (w : List ℕ) → IsTokenAt p w → marks_behind v p n w [] ≡ word_marks v n w
last_word v place.Begins n w none = rw none refl
last_word v place.Within n w plain = marks_end v n w plain
last_word v place.Comment n w none = rw none refl

marks_all : (j : TextJudge) (text : List ℕ) (marks : List Mark) (closed : Bool) → lines_marks j.variables 1 (all_lines text) ≡ marks → suc (length (whole_lines text)) ≡ j.line → AreMarksAt j text marks closed
marks_all j text marks true reads last = ([], reads ∙ sym (append-nil marks))
marks_all j text marks false reads last = (reads, last)

ends_open : (f : Formula) (old : TextJudge) (text : List ℕ) (reader : StepReader) (word : Word) → old.reader.closed ≡ false → EndsWord old reader word → StandsThrough f old text
    → EndsText f (record { reader = reader; variables = old.variables; line = old.line; place = old.place; word = word }) text
ends_open f old text reader word going end b =
    let s : Scanned old text [] b.marks = scanned f old text [] b going in
    let new : TextJudge = record { reader = reader; variables = old.variables; line = old.line; place = old.place; word = word } in
    let marks : List Mark = b.marks ++ word_marks old.variables old.line s.word in
    let reads : lines_marks old.variables 1 (all_lines text) ≡ marks =
    ap (λ (t : List ℕ). lines_marks old.variables 1 (all_lines t)) (sym (append-nil text)) ∙ s.reads [] ∙ ap (λ (ms : List Mark). b.marks ++ ms) (last_word old.variables old.place old.line s.word s.plain) in
    let none : old.line + 0 ≡ old.line = omega arith in
    let last : suc (length (whole_lines text)) ≡ old.line = ap (λ (t : List ℕ). suc (length (whole_lines t))) (sym (append-nil text)) ∙ s.last [] ∙ none in
    record { variables = b.variables; marks = marks; words = end.0 f b.marks s.word s.spells b.words; all = marks_all new text marks reader.closed reads last }

pub ends_over : (f : Formula) (old mid : TextJudge) (text : List ℕ) → old.reader.closed ≡ false → EndsWord old mid.reader mid.word → KeepsPlace old mid → StandsThrough f old text → EndsText f mid text
ends_over f old mid text going end same b = same_judge (λ (x : TextJudge). EndsText f x text) old mid same (ends_open f old text mid.reader mid.word going end b)

pub reads_text : (f : Formula) (j : TextJudge) (text : List ℕ) (e : EndsText f j text) → j.reader.failed ≡ false → read_text_proof f.variables text ≡ reading_from j.line false [] e.marks
reads_text f j text e ok = ap (λ (v : ℕ). read_text_proof v text) (sym e.variables) ∙ at j.reader.closed (e.words ok) e.all
  where
    at : (closed : Bool) → StandsAtStep f j.reader e.marks closed → AreMarksAt j text e.marks closed → read_text_proof j.variables text ≡ reading_from j.line false [] e.marks
    at true c all =
        ap (reading_from (suc (length (whole_lines text))) false []) all.1 ∙ c.reads (suc (length (whole_lines text))) all.0
        ∙ sym (c.reads j.line []) ∙ ap (reading_from j.line false []) (append-nil e.marks)
    at false o all = ap (λ (n : ℕ). reading_from n false [] (lines_marks j.variables 1 (all_lines text))) all.1 ∙ ap (reading_from j.line false []) all.0
