use Rattle.std.proofs.Common.{◌≡◌, Bool, true, false, not, ◌&&◌, is_none, Some, None, if◌then◌else◌, sym, ap, ap₂, ◌∙◌, rules}
use Rattle.btor2.specs.Items.{next_value}
use Rattle.btor2.specs.Lists.{has_init_without_next}
use Rattle.blast.specs.declared.fault.LowerFault.TheVariants as fault
use Rattle.blast.proofs.RefusalLemmas.{next_missing, lacks_next}
use Rattle.blast.proofs.refusals.state_refusal.Goals as goal

pub returns-then-is_none : goal.returns-then-is_none
returns-then-is_none c =
    let free : c.is_free.result ≡ false = c.if-not-is_free.true in
    let none : is_none c.next_of.result ≡ true = search rules in
    let missing : is_none (next_value c.args.model.now c.args.item.now.id) ≡ true = sym (next_missing c.args.model.now c.args.k c.args.item.now c.next_of.result c.requires.well_formed c.requires.place c.next_of.ensures) ∙ none in
    let lacks : has_init_without_next c.args.model.now c.args.item.now.id ≡ true =
    sym (lacks_next c.args.model.now c.args.k c.args.item.now c.is_free.result c.requires.place c.is_free.ensures) ∙ ap₂ (λ (f n : Bool). not f && n) free missing in
    sym (ap (λ (b : Bool). if b then Some (fault.NoNext c.args.item.now.id) else None) lacks)
