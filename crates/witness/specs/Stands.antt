-- What a judge of witnesses of either kind holds, and which texts it stands for.
use Rattle.std.specs.Prelude.{◌≡◌, ℕ, Bool, List, Option, None}
use Rattle.base.specs.Lines.{whole_lines, unfinished}
use Rattle.witness.specs.declared.why.Why.{Why}
use Rattle.witness.specs.Readings.{Reader, lines_read}

-- what is kept of the admitted lines and of the line that has not ended, how many lines are admitted, why the next whole line was refused, where there was
-- one, and whether the status says that there is no claim
pub record Judge (Q L : Type 0) : Type 0 where
  pub reader : Q
  pub line : L
  pub admitted : ℕ
  pub refused : Option Why
  pub no_claim : Bool

-- How a judge stands for lines: how they are read, whether the next may be the status, which line then says that there is no claim, and which lines say so; that
-- frames and steps are those of what was read, which holds behind a refused line too; that all is kept, with these bytes of the next line; that a line is kept.
pub record Judging (R Q L : Type 0) : Type 1 where
  pub reader : Reader R
  pub awaits_status : R → Bool
  pub says_none : List ℕ → Bool
  pub makes_no_claim : List (List ℕ) → Bool
  pub Counts : Q → R → Type 0
  pub Reads : Q → R → List ℕ → Type 0
  pub Keeps : L → List ℕ → Type 0

-- it is of these whole lines, and of these bytes behind them
pub record IsOfLines {R Q L : Type 0} (g : Judging R Q L) (j : Judge Q L) (lines : List (List ℕ)) (line : List ℕ) : Type 0 where
  pub admitted : j.admitted ≡ (lines_read g.reader lines).admitted
  pub refused : j.refused ≡ (lines_read g.reader lines).refused
  pub no_claim : j.no_claim ≡ g.makes_no_claim lines
  pub counts : g.Counts j.reader (lines_read g.reader lines).read
  pub reads : j.refused ≡ None → g.Reads j.reader (lines_read g.reader lines).read line

-- it stands for a text
pub record StandsForLines {R Q L : Type 0} (g : Judging R Q L) (j : Judge Q L) (text : List ℕ) : Type 0 where
  pub lines : IsOfLines g j (whole_lines text) (unfinished text)
  pub line : g.Keeps j.line (unfinished text)
