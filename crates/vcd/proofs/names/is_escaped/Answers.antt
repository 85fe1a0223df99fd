use Rattle.std.proofs.Common.{ℕ, List, nat_eq, length, ap, sym, ◌∙◌}
use Rattle.vcd.proofs.NameLemmas.{escaped_apart, escaped_prefix, escaped_code}
use Rattle.vcd.proofs.names.is_escaped.Goals as goal
use Rattle.vcd.proofs.names.is_escaped.Goals.{then-apart-via-then-apart, then-apart-via-else-apart+then-not-is_empty}

pub returns-then-apart : goal.returns-then-apart
returns-then-apart c number =
    elim c.then-apart.branch [
      | then-apart-via-then-apart w ↦ escaped_apart c.args.scope number c.args.id c.args.symbol.now c.args.apart w.if-apart.true
      | then-apart-via-else-apart+then-not-is_empty w ↦
          escaped_prefix c.args.scope number c.args.id c.args.symbol.now c.args.apart (sym (ap (λ (l : List ℕ). nat_eq (length l) 0) w.prefix.ensures) ∙ (sym w.is_empty.ensures ∙ w.if-not-is_empty.true))
    ]

pub returns-in-None : goal.returns-in-None
returns-in-None c number =
    escaped_code c.args.scope number c.args.id c.args.symbol.now c.args.apart c.if-apart.false (sym (ap (λ (l : List ℕ). nat_eq (length l) 0) c.prefix.ensures) ∙ (sym c.is_empty.ensures ∙ c.if-not-is_empty.false)) c.in-None.is c.ranges.id.fits
