-- The frames of a text that are closed, and those of a longer text.
use Rattle.std.proofs.Common.{◌≡◌, ℕ, nat_le, Bool, true, false, cond, List, [], ◌∷◌, ◌++◌, Option, Some, None, Result, Ok, Err, refl, sym, ap, subst, ◌∙◌, append_assoc, append-nil, inl, inr}
use Rattle.std.proofs.lemmas.Bool.{cases_eq}
use Rattle.base.specs.Lines.{whole_lines, unfinished, IsLine}
use Rattle.btor2.specs.declared.item.Item.{Item}
use Rattle.witness.specs.declared.why.Why.{Why}
use Rattle.witness.specs.declared.why.Why.TheVariants as why
use Rattle.witness.specs.Texts.{Shape, Parts, shape_of, most_lines}
use Rattle.witness.specs.Readings.{Reading, one_more_line, next_line_of, next_line, lines_read, reading, so_far}
use Rattle.witness.specs.Admits.{Read, admit, word_reader}
use Rattle.witness.specs.ClosedWords.{said_in, ClosesAtMostOne}
use Rattle.witness.proofs.TextEndLemmas.{whole_lines-part, one_byte, whole_lines-line_end}
use Rattle.witness.proofs.ReadingLemmas.{lines_append}
use Rattle.witness.proofs.WordJudgeLemmas.{line_closes}

-- a line more
next_closes : (shape : Shape) (g : Reading Read) (line : List ℕ) → ClosesAtMostOne g.read (next_line (word_reader shape) g line).read
unfolding next_line
next_closes shape g line = by g.refused
  where
    admitted : (o : Result Read Why) → admit shape g.read line ≡ o → ClosesAtMostOne g.read (one_more_line g o).read
    admitted (Ok next) e = line_closes shape g.read next line e
    admitted (Err w) e = inl refl

    limit : (b : Bool) → ClosesAtMostOne g.read (cond b (record g { refused = Some why.TooLong }) (one_more_line g (admit shape g.read line))).read
    limit true = inl refl
    limit false = admitted (admit shape g.read line) refl

    by : (o : Option Why) → ClosesAtMostOne g.read (next_line_of (word_reader shape) g line o).read
    by (Some w) = inl refl
    by None = limit (nat_le most_lines g.admitted)

pub line_closes_one : (items : List Item) (text bytes : List ℕ) → IsLine bytes → ClosesAtMostOne (said_in items text) (said_in items (text ++ (bytes ++ 10 ∷ [])))
unfolding reading
line_closes_one items text bytes line =
    let reader = word_reader (shape_of items) in
    let all : lines_read reader (whole_lines (text ++ (bytes ++ 10 ∷ []))) ≡ next_line reader (lines_read reader (whole_lines text)) (unfinished text ++ bytes) =
    ap (lines_read reader) (whole_lines-line_end text bytes line) ∙ lines_append reader (so_far 0 reader.nothing) (whole_lines text) ((unfinished text ++ bytes) ∷ []) in
    subst (λ (g : Reading Read). ClosesAtMostOne (said_in items text) g.read) (sym all) (next_closes (shape_of items) (lines_read reader (whole_lines text)) (unfinished text ++ bytes))

-- bytes of a line that has not ended
pub part_closes_none : (items : List Item) (text bytes : List ℕ) → IsLine bytes → said_in items (text ++ bytes) ≡ said_in items text
unfolding reading
part_closes_none items text bytes line = ap (λ (lines : List (List ℕ)). (lines_read (word_reader (shape_of items)) lines).read) (whole_lines-part text bytes line)

-- the closed frames of a text are the first of those of a longer one
abbrev pub IsFront : Read → Read → Type 0
IsFront r next = (behind : List Parts) × (next.closed ≡ r.closed ++ behind)

front_by : (r next : Read) → ClosesAtMostOne r next → IsFront r next
front_by r next (inl same) = ([], same ∙ sym (append-nil r.closed))
front_by r next (inr more) = (more.parts ∷ [], more.closed)

byte_front : (items : List Item) (text : List ℕ) (b : ℕ) → IsFront (said_in items text) (said_in items (text ++ b ∷ []))
byte_front items text b =
    elim (cases_eq b 10) [
      | inl e ↦ subst (λ (x : ℕ). IsFront (said_in items text) (said_in items (text ++ x ∷ []))) (sym e) (front_by (said_in items text) (said_in items (text ++ 10 ∷ [])) (line_closes_one items text [] refl))
      | inr e ↦ ([], ap (λ (r : Read). r.closed) (part_closes_none items text (b ∷ []) (one_byte b e)) ∙ sym (append-nil (said_in items text).closed))
    ]

pub front_closes : (items : List Item) (text more : List ℕ) → IsFront (said_in items text) (said_in items (text ++ more))
front_closes items text [] = ([], ap (λ (t : List ℕ). (said_in items t).closed) (append-nil text) ∙ sym (append-nil (said_in items text).closed))
front_closes items text (b ∷ more) =
    let one = byte_front items text b in
    let rest = front_closes items (text ++ b ∷ []) more in (
      one.0 ++ rest.0,
      ap (λ (t : List ℕ). (said_in items t).closed) (sym (append_assoc text (b ∷ []) more))
          ∙ (rest.1 ∙ (ap (λ (l : List Parts). l ++ rest.0) one.1 ∙ append_assoc (said_in items text).closed one.0 rest.0)),
    )
