use Rattle.std.proofs.Common.{refl, sym, ap, ◌∙◌, arith}
use Rattle.aiger.specs.Circuit.{section_count}
use Rattle.aigerlists.specs.Loose.{Loose, IsSmall, sections_of}
use Rattle.aigerlists.specs.LooseView.{loose_of}
use Rattle.aiger.proofs.CircuitLemmas.{kept_name}
use Rattle.aigerlists.proofs.LooseLemmas.{IsLoose-kept, lists_kept}
use Rattle.aiger.proofs.NameLemmas.{IsName-from_test}
use Rattle.aigerlists.proofs.loose.Loose.set_name.Goals as goal

pub invariant_of-self : goal.invariant_of-self
invariant_of-self c =
    let l : Loose = loose_of c.self.inside in (
      IsLoose-kept l _ c.self.invariant.0 refl
          (kept_name IsSmall (sections_of l) _ _ _ c.give.new.self c.give.result c.give.ensures.ok (lists_kept l c.self.invariant.0)
          (omega (arith, c.count.ensures ∙ ap (λ (x : Loose). section_count c.args.section (sections_of x)) (sym c.self.view_is)))
          (IsName-from_test c.args.name.now (sym c.if-not-is_good_name.ensures)) c.give.ensures.sorted c.give.ensures.err),
      c.self.invariant.1,
    )
