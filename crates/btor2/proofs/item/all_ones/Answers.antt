use Rattle.std.proofs.Common.{◌≡◌, ℕ, zero, suc, ◌-◌, ◌^◌, ◌≤◌, ◌↔◌, Option, None, IsSome, is_some, refl, ap, sym, ◌∙◌, arith}
use Rattle.std.proofs.lemmas.Bool.{true≢false}
use Rattle.btor2.proofs.item.all_ones.Goals as goal

-- a width that is none and not above 64 is 0
no_bits : (o : Option ℕ) (n : ℕ) → (IsSome o ↔ ((1 ≤ n) × (n ≤ 64))) → o ≡ None → n ≤ 64 → 0 ≡ 2 ^ n - 1
no_bits o zero allowed none most = refl
no_bits o (suc n) allowed none most = absurd (true≢false (sym (allowed.1 (omega arith, most)) ∙ ap is_some none))

pub returns-in-None : goal.returns-in-None
returns-in-None c = no_bits c.new.result c.args.width c.new.ensures.allowed c.in-None.is c.requires
