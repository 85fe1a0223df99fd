-- Lines that are read as those of words.
use Rattle.std.proofs.Common.{◌≡◌, ℕ, nat_le, cond, List, Option, Some, None, Result, refl, sym, ap}
use Rattle.witness.specs.declared.why.Why.{Why}
use Rattle.witness.specs.declared.why.Why.TheVariants as why
use Rattle.witness.specs.Texts.{Shape, most_lines}
use Rattle.witness.specs.Readings.{Reading, one_more_line, next_line, next_line_of}
use Rattle.witness.specs.Admits.{Read, admit, word_reader}
use Rattle.fulljudge.specs.Shapes.{FullShape, word_shape}
use Rattle.fulljudge.specs.Lines.{line_at, full_reader}

-- over a shape lines of words are admitted as they are over that of the words
abbrev pub AdmitsWords : FullShape → Shape → Type 0
AdmitsWords shape words = (r : Read) (line : List ℕ) → admit words r (line_at shape r.place line) ≡ admit (word_shape shape) r (line_at shape r.place line)

read_behind : (shape : FullShape) (words : Shape) (g : Reading Read) (line : List ℕ) (o : Option Why) → AdmitsWords shape words
    → next_line_of (full_reader shape) g line o ≡ next_line_of (word_reader words) g (line_at shape g.read.place line) o
read_behind shape words g line None admits = ap (λ (r : Result Read Why). cond (nat_le most_lines g.admitted) (record g { refused = Some why.TooLong }) (one_more_line g r)) (sym (admits g.read line))
read_behind shape words g line (Some w) admits = refl

-- a line is read as the line of a word that says the same
pub line_read : (shape : FullShape) (words : Shape) (g : Reading Read) (line : List ℕ) → AdmitsWords shape words → next_line (full_reader shape) g line ≡ next_line (word_reader words) g (line_at shape g.read.place line)
unfolding next_line
line_read shape words g line admits = read_behind shape words g line g.refused admits
