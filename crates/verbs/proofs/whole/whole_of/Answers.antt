use Rattle.std.proofs.Common.{rules, ◌≡◌, Err}
use Rattle.verbs.specs.declared.refusals.Refusal.TheVariants as refusal
use Rattle.verbs.proofs.UnfittingLemmas.{memory_ends}
use Rattle.verbs.proofs.whole.whole_of.Goals as goal

pub returns-in_err-shape-clause-refused : goal.returns-in_err-shape-clause-refused
returns-in_err-shape-clause-refused c =
    let is : c.from_residual-in_err-shape.result ≡ Err refusal.NoMemory = search rules in
    rw is tt

pub returns-in_err-shape-clause-ends : goal.returns-in_err-shape-clause-ends
returns-in_err-shape-clause-ends c =
    let is : c.from_residual-in_err-shape.result ≡ Err refusal.NoMemory = search rules in
    rw is memory_ends

pub returns-in_err-states-clause-refused : goal.returns-in_err-states-clause-refused
returns-in_err-states-clause-refused c =
    let is : c.from_residual-in_err-states.result ≡ Err refusal.NoMemory = search rules in
    rw is tt

pub returns-in_err-states-clause-ends : goal.returns-in_err-states-clause-ends
returns-in_err-states-clause-ends c =
    let is : c.from_residual-in_err-states.result ≡ Err refusal.NoMemory = search rules in
    rw is memory_ends

pub returns-in_err-inputs-clause-ends : goal.returns-in_err-inputs-clause-ends
returns-in_err-inputs-clause-ends c =
    let is : c.from_residual-in_err-inputs.result ≡ Err refusal.NoMemory = search rules in
    rw is memory_ends

pub returns-clause-whole : goal.returns-clause-whole
returns-clause-whole c =
    let w = c.in_ok-celled.ensures.written in
    record {
      celled = c.in_ok-celled.celled.list;
      written = w.0;
      placed = c.in_ok-narrow.ensures.placed w.0 w.1;
      forms = c.in_ok-narrow.ensures.forms;
      shape = c.in_ok-shape.ensures;
      states = c.in_ok-states.ensures;
      inputs = c.in_ok-inputs.ensures;
    }
