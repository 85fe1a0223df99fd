-- A tidier writes the tidied text.
use Rattle.std.proofs.Common.{◌≡◌, ℕ, true, false, is_err, ◌==◌, List, [], ◌∷◌, ◌++◌, Option, Some, None, Result, Ok, Err, IfSome, refl, sym, ap, ap₂, subst, ◌∙◌, append_assoc, append-nil}
use Rattle.std.specs.Io.KnownBytes.{Consumes}
use Rattle.std.proofs.lemmas.Bool.{or_parts}
use Rattle.base.specs.declared.device.DeviceFault.{DeviceFault}
use Rattle.base.specs.declared.pen.Pen.{Pen}
use Rattle.base.specs.Device.{AppendsBeginning, CountsFaults, HasRisen}
use Rattle.base.specs.Lines.{IsLine, text_of_lines, whole_lines, unfinished}
use Rattle.base.specs.Pieces.{Puts}
use Rattle.base.specs.Taking.{TakesFront}
use Rattle.base.specs.Writing.{WritesText}
use Rattle.base.proofs.DeviceLemmas.{beginning_longer}
use Rattle.base.proofs.LineLemmas.{EachLine, lines_are_lines, unfinished_is_line, parts_of_text}
use Rattle.base.proofs.PenLemmas.{begins, counts_none, counts_one, writes_none, writes_then}
use Rattle.tidy.specs.declared.place.Place.{Place}
use Rattle.tidy.specs.declared.line.Line.{Line}
use Rattle.tidy.specs.declared.tidier.Tidier.{Tidier}
use Rattle.tidy.specs.declared.tidying.Tidying.{Tidying}
use Rattle.tidy.specs.Tidied.{Stand, at_front, behind_words, behind, closed_by, shown, tidy_line, tidied_lines, tidied}
use Rattle.tidy.specs.Steps.{spelled_line, end_bytes, line_more, place_more, bytes_more, new_line, at_line, stand_of, behind_byte, byte_written, behind_bytes, bytes_written, last_written, Takes, tidying_front}
use Rattle.tidy.proofs.ByteLemmas.{behind_bytes-append, bytes_written-append, shown-append}
use Rattle.tidy.proofs.StepLemmas.{left_of, close, step, closed, close_none, new_left}
use Rattle.tidy.proofs.BehindLemmas.{standing, words_left, fits, keeps, fits_more, new_fits, nothing_left, new_words}
use Rattle.base.proofs.TakingLemmas.{part_given}

abbrev at : ℕ → Place → Line → Tidier
at k p l = record { skip = k; place = p; line = l }

-- ---- a line

-- its end
written_end : (t : Tidier) → bytes_written t (10 ∷ []) ≡ shown t.skip (end_bytes t.place t.line)
written_end t = append-nil (shown t.skip (end_bytes t.place t.line))

byte_behind : (k : ℕ) (p : Place) (l : Line) (b : ℕ) → (b == 10) ≡ false → behind_byte (at k p l) b ≡ at k (place_more p l b) (line_more p l b)
byte_behind k p l b h = rw h refl

byte_shown : (k : ℕ) (p : Place) (l : Line) (b : ℕ) → (b == 10) ≡ false → byte_written (at k p l) b ≡ shown k (bytes_more p l b)
byte_shown k p l b h = rw h refl

-- what is written for these bytes, and where the line or the text ends behind them
abbrev closed_bytes : List ℕ → List ℕ → Tidier → List ℕ
closed_bytes e bytes t = bytes_written t bytes ++ shown (behind_bytes t bytes).skip (close e (behind_bytes t bytes).place (behind_bytes t bytes).line)

line_written : (e : List ℕ) (k : ℕ) (p : Place) (l : Line) (bytes : List ℕ) → IsLine bytes → closed_bytes e bytes (at k p l) ≡ shown k (closed_by e (left_of p l bytes))
line_written e k p l [] is = ap (shown k) (closed e p l)
line_written e k p l (b ∷ bs) is =
    let parts = or_parts (b == 10) _ is in
    let q = place_more p l b in
    let m = line_more p l b in
    append_assoc (byte_written (at k p l) b) (bytes_written (behind_byte (at k p l) b) bs) _
    ∙ ap₂ (λ (x : List ℕ) (u : Tidier). x ++ closed_bytes e bs u) (byte_shown k p l b parts.0) (byte_behind k p l b parts.0)
    ∙ ap (λ (x : List ℕ). shown k (bytes_more p l b) ++ x) (line_written e k q m bs parts.1)
    ∙ sym (shown-append k (bytes_more p l b) (closed_by e (left_of q m bs)))
    ∙ ap (shown k) (sym (step e p l b bs))

-- the place behind the line of which these bytes were known last
abbrev place_behind : List ℕ → Tidier → Stand
place_behind bytes t = behind_words (stand_of (behind_bytes t bytes)) (spelled_line (behind_bytes t bytes).line)

line_behind : (k : ℕ) (p : Place) (l : Line) (bytes : List ℕ) → IsLine bytes → fits p l ≡ true → place_behind bytes (at k p l) ≡ behind_words (standing k p) (words_left l bytes)
line_behind k p l [] is f = ap (behind_words (standing k p)) (nothing_left l)
line_behind k p l (b ∷ bs) is f =
    let parts = or_parts (b == 10) _ is in
    ap (place_behind bs) (byte_behind k p l b parts.0)
    ∙ line_behind k (place_more p l b) (line_more p l b) bs parts.1 (fits_more p l b)
    ∙ sym (keeps k p l b bs f)

-- ---- lines from their begin

whole_written : (s : Stand) (line : List ℕ) → IsLine line → bytes_written (at_line s) (line ++ 10 ∷ []) ≡ tidy_line (10 ∷ []) s line
whole_written s line is =
    bytes_written-append (at_line s) line (10 ∷ [])
    ∙ ap (λ (x : List ℕ). bytes_written (at_line s) line ++ x) (written_end (behind_bytes (at_line s) line))
    ∙ line_written (10 ∷ []) s.skip s.place (new_line s.place) line is
    ∙ ap (λ (o : Option (List ℕ)). shown s.skip (closed_by (10 ∷ []) o)) (new_left s.place line)

whole_behind : (s : Stand) (line : List ℕ) → IsLine line → behind_bytes (at_line s) (line ++ 10 ∷ []) ≡ at_line (behind s line)
whole_behind s line is =
    behind_bytes-append (at_line s) line (10 ∷ [])
    ∙ ap at_line (line_behind s.skip s.place (new_line s.place) line is (new_fits s.place) ∙ new_words s.skip s.place line)

last_line : (s : Stand) (rest : List ℕ) → IsLine rest → bytes_written (at_line s) rest ++ last_written (behind_bytes (at_line s) rest) ≡ tidy_line [] s rest
last_line s rest is =
    let t : Tidier = behind_bytes (at_line s) rest in
    ap (λ (x : List ℕ). bytes_written (at_line s) rest ++ shown t.skip x) (sym (close_none t.place t.line))
    ∙ line_written [] s.skip s.place (new_line s.place) rest is
    ∙ ap (λ (o : Option (List ℕ)). shown s.skip (closed_by [] o)) (new_left s.place rest)

-- ---- a text

abbrev all_written : List ℕ → Tidier → List ℕ
all_written bytes t = bytes_written t bytes ++ last_written (behind_bytes t bytes)

written_on : (t : Tidier) (xs ys : List ℕ) → all_written (xs ++ ys) t ≡ bytes_written t xs ++ all_written ys (behind_bytes t xs)
written_on t xs ys =
    ap₂ (λ (x : List ℕ) (u : Tidier). x ++ last_written u) (bytes_written-append t xs ys) (behind_bytes-append t xs ys)
    ∙ append_assoc (bytes_written t xs) (bytes_written (behind_bytes t xs) ys) (last_written (behind_bytes (behind_bytes t xs) ys))

lines_written : (s : Stand) (lines : List (List ℕ)) (rest : List ℕ) → EachLine lines → IsLine rest → all_written (text_of_lines lines ++ rest) (at_line s) ≡ tidied_lines s lines rest
lines_written s [] rest each is = last_line s rest is
lines_written s (line ∷ lines) rest each is =
    ap (λ (l : List ℕ). all_written l (at_line s)) (append_assoc (line ++ 10 ∷ []) (text_of_lines lines) rest)
    ∙ written_on (at_line s) (line ++ 10 ∷ []) (text_of_lines lines ++ rest)
    ∙ ap₂ (λ (x : List ℕ) (u : Tidier). x ++ all_written (text_of_lines lines ++ rest) u) (whole_written s line each.0) (whole_behind s line each.0)
    ∙ ap (λ (x : List ℕ). tidy_line (10 ∷ []) s line ++ x) (lines_written (behind s line) lines rest each.1 is)

pub text_written : (pick : ℕ) (text : List ℕ) → all_written text (at_line (at_front pick)) ≡ tidied pick text
unfolding tidied
text_written pick text =
    ap (λ (l : List ℕ). all_written l (at_line (at_front pick))) (sym (parts_of_text text))
    ∙ lines_written (at_front pick) (whole_lines text) (unfinished text) (lines_are_lines text) (unfinished_is_line text)

-- ---- a source

-- a front of it was taken since the tidier was new
pub taken_front : {K : Type 0} {written : K → Option (List ℕ)} {failures : K → ℕ} {start s : K} (pick : ℕ) {source source' : Option (List ℕ)} {a b : Tidying} → a.tidier ≡ at_line (at_front pick) → a.pen.outbox ≡ [] → a.pen.answer ≡ Ok tt
    → (front : TakesFront (λ (over : K × ℕ) sink t text. Takes written failures over.0 sink (tidying_front over.1) t text) source source' start s a b) → Takes written failures start s (tidying_front pick) b front.front
taken_front {written} {failures} {start} pick is kept well front =
    front.takes (start, pick) []
    (record { behind = is; writes = record { puts = rw (kept, well) (writes_none {written = written} {failures = failures} {s = start} {p = (tidying_front pick).pen}).puts } })

-- with what was held back, all of the tidied text is put
pub all_put : {K : Type 0} {written : K → Option (List ℕ)} {failures : K → ℕ} {start s t : K} (pick : ℕ) {a : Tidying} {q : Pen} {text : List ℕ} → Takes written failures start s (tidying_front pick) a text → WritesText written failures s t a.pen q (last_written a.tidier)
    → WritesText written failures start t (tidying_front pick).pen q (tidied pick text)
all_put {written} {failures} {start} {t = t} pick {q = q} {text} takes last =
    subst (WritesText written failures start t (tidying_front pick).pen q)
    (ap (λ (u : Tidier). bytes_written (at_line (at_front pick)) text ++ last_written u) takes.behind ∙ text_written pick text)
    (writes_then takes.writes last)

-- a beginning of it was written when a front of the text was taken
pub front_put : {K : Type 0} {written : K → Option (List ℕ)} {failures : K → ℕ} {start s : K} (pick : ℕ) (source source' : Option (List ℕ)) {a : Tidying} {front : List ℕ} → Consumes source source' front → Takes written failures start s (tidying_front pick) a front
    → IfSome source (λ text. AppendsBeginning (written start) (written s) (tidied pick text))
front_put {written} {start = start} {s} pick source source' {a} {front} consumes takes =
    part_given source source' front (λ text. AppendsBeginning (written start) (written s) (tidied pick text)) consumes (λ rest.
    subst (AppendsBeginning (written start) (written s)) (sym (written_on (at_line (at_front pick)) front rest) ∙ text_written pick (front ++ rest))
    (beginning_longer (written start) (written s) (bytes_written (at_line (at_front pick)) front) _ (begins refl takes.writes refl)))

-- how often the sink has failed
pub sink_well : {K : Type 0} {written : K → Option (List ℕ)} {failures : K → ℕ} {start s : K} (pick : ℕ) {a : Tidying} {text : List ℕ} → Takes written failures start s (tidying_front pick) a text → is_err a.pen.answer ≡ false → failures s ≡ failures start
sink_well pick takes well = counts_none refl takes.writes well

pub sink_failed : {K : Type 0} {written : K → Option (List ℕ)} {failures : K → ℕ} {start s : K} (pick : ℕ) {a : Tidying} {text : List ℕ} → Takes written failures start s (tidying_front pick) a text → is_err a.pen.answer ≡ true → HasRisen (failures start) (failures s)
sink_failed pick takes failed = counts_one refl takes.writes failed
