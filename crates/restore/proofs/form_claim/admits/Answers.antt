use Rattle.std.proofs.Common.{ℕ, [], ◌∷◌, ◌++◌, ◌==◌, not, ap₂}
use Rattle.restore.proofs.form_claim.admits.Goals as goal

pub returns-clause-admitted : goal.returns-clause-admitted
returns-clause-admitted c d text h =
    ap₂ (λ (a b : ℕ). not (a == b)) (c.admitted_lines.ensures d (text ++ (c.args.line.now ++ 10 ∷ [])) (c.take_line.ensures d text h)) (c.admitted_lines-number.ensures d text h)
