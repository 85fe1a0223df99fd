use Rattle.std.proofs.Common.{rules, ◌≡◌, ◌≢◌, ℕ, Bool, List, [], ◌∷◌, ◌++◌, None, Ok, refl, sym, subst, ◌∙◌}
use Rattle.std.specs.Io.KnownBytes.{prepend_known, Consumes}
use Rattle.base.specs.Held.{Advances}
use Rattle.restore.proofs.FormClaimLemmas.{head_begins, head_ends, head_more, head_only}
use Rattle.restore.proofs.form_claim.read_claim.Goals as goal

pub loop-judge-init : goal.loop-judge-init
loop-judge-init g c = record { given = head_begins _ _ _ c.requires; read = refl }

pub loop-judge-preserved : goal.loop-judge-preserved
loop-judge-preserved g c = record {
  given =
      let moved = subst (λ (b : Bool). Advances (Ok b) c.loop-judge.lines c.advance.new.self (g.S.Source.to_come c.loop-judge.source) (g.S.Source.to_come c.advance.new.source)) c.in-Ok-true.field-0-test c.in-Ok-true.ensures.bytes in
      let none : c.take_head_line-claimed.result ≡ None = search rules in
      head_more _ _ _ _ _ c.take_head_line-claimed.new.judge c.line.result.now c.take_head_line-claimed.result none c.loop-judge.invariant.given
      (subst (λ (l : List ℕ). Consumes (prepend_known c.loop-judge.lines.rest (g.S.Source.to_come c.loop-judge.source)) (prepend_known c.advance.new.self.rest (g.S.Source.to_come c.advance.new.source)) (l ++ 10 ∷ [])) (sym c.line.ensures) moved.1) c.take_head_line-claimed.ensures;
  read = c.in-Ok-true.ensures.counted ∙ c.loop-judge.invariant.read;
}

pub returns-in-Ok-false-clause-reads : goal.returns-in-Ok-false-clause-reads
returns-in-Ok-false-clause-reads g c =
    let moved = subst (λ (b : Bool). Advances (Ok b) c.loop-judge.lines c.advance.new.self (g.S.Source.to_come c.loop-judge.source) (g.S.Source.to_come c.advance.new.source)) c.in-Ok-false.field-0-test c.in-Ok-false.ensures.bytes in
    head_only _ _ _ _ _ c.loop-judge.invariant.given moved.1.0

pub returns-in-Ok-false-clause-rest : goal.returns-in-Ok-false-clause-rest
returns-in-Ok-false-clause-rest g c none =
    (subst (λ (b : Bool). Advances (Ok b) c.loop-judge.lines c.advance.new.self (g.S.Source.to_come c.loop-judge.source) (g.S.Source.to_come c.advance.new.source)) c.in-Ok-false.field-0-test c.in-Ok-false.ensures.bytes).0.0

pub returns-then-is_some-clause-reads : goal.returns-then-is_some-clause-reads
returns-then-is_some-clause-reads g c =
    let moved = subst (λ (b : Bool). Advances (Ok b) c.loop-judge.lines c.advance.new.self (g.S.Source.to_come c.loop-judge.source) (g.S.Source.to_come c.advance.new.source)) c.in-Ok-true.field-0-test c.in-Ok-true.ensures.bytes in
    let some : c.take_head_line-claimed.result ≢ None = search rules in
    head_ends _ _ _ _ _ c.take_head_line-claimed.new.judge c.line.result.now c.take_head_line-claimed.result some c.loop-judge.invariant.given
    (subst (λ (l : List ℕ). Consumes (prepend_known c.loop-judge.lines.rest (g.S.Source.to_come c.loop-judge.source)) (prepend_known c.advance.new.self.rest (g.S.Source.to_come c.advance.new.source)) (l ++ 10 ∷ [])) (sym c.line.ensures) moved.1) c.take_head_line-claimed.ensures
