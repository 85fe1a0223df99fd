use Rattle.std.proofs.Common.{◌≡◌, ◌++◌, List, ℕ, All, ap, sym, subst, ◌∙◌}
use Rattle.aiger.specs.Net.{Net, IsDefined}
use Rattle.aiger.specs.Circuit.{net}
use Rattle.engine_form.specs.Reads.{form_latches}
use Rattle.engine_form.proofs.AssemblyLemmas.{accepted_given, net_of_set, completed}
use Rattle.engine_form.proofs.form.completed.Goals as goal

pub push_bads-requires-clause-defined : goal.push_bads-requires-clause-defined
push_bads-requires-clause-defined c =
    let circuit = c.args.circuit.now in
    let l = c.args.literals.now in
    let set : c.set_latches.new.form ≡ record c.args.form { latches = form_latches circuit l.table l.met } = c.set_latches.ensures in
    subst (All (IsDefined (net c.set_latches.new.form))) (sym c.deref.ensures.value)
    (subst (λ (n : Net). All (IsDefined n) l.bads.items) (sym (net_of_set circuit c.args.choice c.args.form c.set_latches.new.form l.table l.met l.bads.items c.requires.made set)) c.requires.made.bads_defined)

pub returns-clause-ok : goal.returns-clause-ok
returns-clause-ok c =
    let circuit = c.args.circuit.now in
    let l = c.args.literals.now in
    let set : c.set_latches.new.form ≡ record c.args.form { latches = form_latches circuit l.table l.met } = c.set_latches.ensures in
    let pushed : c.push_bads.new.made ≡ record c.set_latches.new.form { bads = c.set_latches.new.form.bads ++ l.bads.items } =
    c.in_ok-push_bads.ensures ∙ ap (λ (b : List ℕ). record c.set_latches.new.form { bads = c.set_latches.new.form.bads ++ b }) c.deref.ensures.value in
    completed circuit c.args.choice c.args.form c.set_latches.new.form c.push_bads.new.made l.table l.met l.bads.items
    c.requires.valid (accepted_given circuit c.args.choice c.requires.accepted).0 c.variables.ensures.valid c.requires.bare c.requires.made set pushed
