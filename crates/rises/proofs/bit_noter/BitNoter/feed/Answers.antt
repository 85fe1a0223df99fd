use Rattle.std.proofs.Common.{◌++◌, ◌∷◌, [], List, ℕ, append_assoc, append-nil, refl, subst, sym, ap, ◌∙◌}
use Rattle.rises.specs.Notes.{NotesBits}
use Rattle.rises.proofs.bit_noter.BitNoter.feed.Goals as goal

pub loop-line-init : goal.loop-line-init
loop-line-init c noted circuit text h = ([], (refl, subst (NotesBits noted circuit c.args.self.now) (sym (append-nil text)) h))

pub returns : goal.returns
returns c noted circuit text h =
    let was = c.loop-line.invariant noted circuit text h in
    subst (NotesBits noted circuit c.take_bytes.new.self) (append_assoc text was.0 c.loop-line.rest.now ∙ ap (λ (l : List ℕ). text ++ l) (sym was.1.0)) (c.take_bytes.ensures noted circuit (text ++ was.0) c.in_default.ensures was.1.1)

pub loop-line-preserved : goal.loop-line-preserved
loop-line-preserved c noted circuit text h =
    let was = c.loop-line.invariant noted circuit text h in
    let line : List ℕ = c.in-Some.line.now ++ 10 ∷ [] in
    let cut = was.1.0 ∙ (ap (λ (l : List ℕ). was.0 ++ l) (c.in-Some.ensures.0 ∙ sym (append_assoc c.in-Some.line.now (10 ∷ []) c.in-Some.behind.now)) ∙ sym (append_assoc was.0 line c.in-Some.behind.now)) in
    (was.0 ++ line, (cut, subst (NotesBits noted circuit c.take_line.new.self) (append_assoc text was.0 line) (c.take_line.ensures noted circuit (text ++ was.0) c.in-Some.ensures.1 was.1.1)))
