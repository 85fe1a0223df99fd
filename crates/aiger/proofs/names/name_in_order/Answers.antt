use Rattle.std.proofs.Common.{◌<◌, ◌≤◌, sym, ◌∙◌, ap, ℕ, arith}
use Rattle.std.specs.Ordering.{nat_cmp}
use Rattle.std.specs.BTreeMap.{is_at}
use Rattle.std.specs.Map.{lookup}
use Rattle.aiger.proofs.PlacedNameLemmas.{lookup-at_places, lookup-too_far}
use Rattle.aiger.proofs.names.name_in_order.Goals as goal

pub returns-then-place-ge-KEYED_POSITIONS : goal.returns-then-place-ge-KEYED_POSITIONS
returns-then-place-ge-KEYED_POSITIONS c =
    let far : 4294967296 ≤ c.args.place.1 = omega arith in
    sym (lookup-too_far c.args.place c.args.names.now far)

pub returns : goal.returns
returns c =
    let small : c.args.place.1 < 4294967296 = omega arith in
    c.name.ensures ∙ (ap (λ (k : ℕ). lookup (is_at (nat_cmp k)) c.args.names.now) (c.key_of.ensures small) ∙ sym (lookup-at_places c.args.place c.args.names.now small))
