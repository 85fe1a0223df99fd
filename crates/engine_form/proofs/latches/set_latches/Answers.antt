use Rattle.std.proofs.Common.{◌-◌, ap, length}
use Rattle.engine_form.specs.declared.sizes.Sizes.{Sizes}
use Rattle.engine_form.proofs.AssemblyLemmas.{latches_set}
use Rattle.engine_form.proofs.latches.set_latches.Goals as goal

pub returns : goal.returns
returns c =
    latches_set c.args.circuit.now c.args.table.now c.args.met c.broken.result (length c.latches-own.result.now) (c.args.sizes.latches - 1) c.args.sizes.has_free c.args.sizes.has_constraint c.latches.result.now
    c.args.form.now c.set_kept.new.circuit c.set_where.new.circuit c.set_where-2.new.circuit
    c.requires.fresh c.latches.ensures.items c.broken.ensures (ap length c.latches-own.ensures.items) (ap (λ (s : Sizes). s.latches - 1) c.requires.sizes) (ap (λ (s : Sizes). s.has_free) c.requires.sizes) (ap (λ (s : Sizes). s.has_constraint) c.requires.sizes)
    c.set_kept.ensures c.set_where.ensures c.set_where-2.ensures
