use Rattle.std.proofs.Common.{◌≡◌, None, Result, Err, map, ap, sym, ◌∙◌, subst}
use Rattle.std.proofs.lemmas.Result.{err_from_is_err_and}
use Rattle.aigerlists.specs.declared.fault.LooseFault.{LooseFault}
use Rattle.aigerlists.specs.declared.fault.LooseFault.TheVariants.{NoMemory}
use Rattle.aiger.specs.Circuit.{Circuit, IsCircuit}
use Rattle.aigerlists.specs.Loose.{Loose}
use Rattle.aigerlists.specs.Renumbering.{AnswersNumber, first_undefined, new_gate, renumbered, circuit_by}
use Rattle.aigerlists.proofs.InOrderLemmas.{as_they_stand, is_order, is_circuit, by_places, numbered_as_they_stand}
use Rattle.aigerlists.proofs.KnownLemmas.{all_known}
use Rattle.aigerlists.proofs.UndefinedLemmas.{known_in_order, undefined_in_front}
use Rattle.aigerlists.proofs.loose.Loose.number_in_order.Goals as goal

pub returns-in-Some-clause-answers : goal.returns-in-Some-clause-answers
returns-in-Some-clause-answers c = undefined_in_front c.args.self.now c.in-Some.line (sym c.in-Some.ensures)

pub renumbered-requires-clause-valid : goal.renumbered-requires-clause-valid
renumbered-requires-clause-valid c =
    let l : Loose = c.args.self.now in
    let known : first_undefined l ≡ None = known_in_order l (sym c.in_default.ensures) c.requires.in_order in
    let is : circuit_by l c.args.places.now c.in_ok-gates.gates.items ≡ renumbered l (as_they_stand l) = by_places l c.args.places.now c.in_ok-gates.gates.items c.requires.places (c.in_ok-gates.ensures ∙ ap (map (new_gate c.args.places.now)) c.gates.ensures.items) in
    subst IsCircuit (sym is) (is_circuit l (all_known l known) c.requires.in_order c.requires.valid)

-- where memory is wanting each variable is defined
wanting : (l : Loose) (r : Result Circuit LooseFault) → (y : LooseFault) × (r ≡ Err y) × (y ≡ NoMemory) → first_undefined l ≡ None → AnswersNumber l r
wanting l r is known = subst (AnswersNumber l) (sym (is.1 ∙ ap (λ (y : LooseFault). Err y) is.2)) known

pub returns-in_err-gates-clause-answers : goal.returns-in_err-gates-clause-answers
returns-in_err-gates-clause-answers c = wanting c.args.self.now _ (err_from_is_err_and c.from_residual.result c.from_residual.ensures.1) (known_in_order c.args.self.now (sym c.in_default.ensures) c.requires.in_order)

pub returns-in_err-renumbered-clause-answers : goal.returns-in_err-renumbered-clause-answers
returns-in_err-renumbered-clause-answers c = wanting c.args.self.now _ (err_from_is_err_and c.from_residual-in_err-renumbered.result c.from_residual-in_err-renumbered.ensures.1) (known_in_order c.args.self.now (sym c.in_default.ensures) c.requires.in_order)

pub returns : goal.returns
returns c =
    let l : Loose = c.args.self.now in
    let known : first_undefined l ≡ None = known_in_order l (sym c.in_default.ensures) c.requires.in_order in
    let in_order = is_order l (all_known l known) c.requires.in_order in
    let circuit = c.in_ok-renumbered.ensures ∙ by_places l c.args.places.now c.in_ok-gates.gates.items c.requires.places (c.in_ok-gates.ensures ∙ ap (map (new_gate c.args.places.now)) c.gates.ensures.items) in
    record {
      answers = record { known = known; order = as_they_stand l; is_order = in_order; circuit = circuit };
      numbering = record { order = as_they_stand l; is_order = in_order; circuit = circuit; numbers = c.requires.places ∙ sym (numbered_as_they_stand l) };
    }
