use Rattle.std.proofs.Common.{ℕ, ◌+◌, ap, sym, ◌∙◌, length}
use Rattle.std.specs.Option.{option_map}
use Rattle.aigerlists.specs.Numbering.{is_unknown}
use Rattle.aigerlists.proofs.UndefinedLemmas.{place_in_front, place_behind, unknown_gates}
use Rattle.aigerlists.proofs.loose.Loose.or_unknown_gate.Goals as goal

pub returns-in-Some : goal.returns-in-Some
returns-in-Some c lines found count = sym (place_in_front (is_unknown c.args.self.now) lines _ c.in-Some.line (sym found ∙ c.in-Some.is))

pub returns-in-None : goal.returns-in-None
returns-in-None c lines found count =
    c.behind.ensures ∙ (ap (λ (n : ℕ). option_map (λ (k : ℕ). n + k) c.unknown_gate.result) count
    ∙ (ap (option_map (λ (k : ℕ). length lines + k)) (c.unknown_gate.ensures ∙ unknown_gates c.args.self.now c.args.gates.now)
    ∙ sym (place_behind (is_unknown c.args.self.now) lines _ (sym found ∙ c.in-None.is))))
