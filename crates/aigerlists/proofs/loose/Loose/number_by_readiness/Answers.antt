use Rattle.std.proofs.Common.{◌≡◌, ℕ, List, None, length, ap, sym, subst}
use Rattle.aigerlists.specs.declared.loose.GateLine.{GateLine}
use Rattle.aigerlists.specs.Loose.{Loose, IsLoose, defined_variables}
use Rattle.aigerlists.specs.Numbering.{IsReadyOrder, slots_of}
use Rattle.aigerlists.specs.Readiness.{IsWholeOrder}
use Rattle.aigerlists.specs.Renumbering.{first_undefined}
use Rattle.aigerlists.proofs.CompleteLemmas.{few_in_order}
use Rattle.aigerlists.proofs.KnownLemmas.{all_known}
use Rattle.aigerlists.proofs.PlacesLemmas.{leaf_count, are_slots, ready_order, left_is_cyclic, none_left_is_order}
use Rattle.aigerlists.proofs.loose.Loose.number_by_readiness.Goals as goal

pub order_of_readiness-requires : goal.order_of_readiness-requires
order_of_readiness-requires c =
    let l : Loose = c.args.self.now in
    let e : c.args.slots.items ≡ slots_of (defined_variables l) (leaf_count l) l.gates = c.requires.slots in
    rw (e, c.gates.ensures.items) (are_slots l c.gates.ensures.valid (all_known l c.requires.known))

-- the order of gates by their slots is their order of readiness
ready : (l : Loose) (slots order heads : List ℕ) (gates : List GateLine) → IsLoose l → first_undefined l ≡ None → slots ≡ slots_of (defined_variables l) (leaf_count l) l.gates → gates ≡ l.gates → IsWholeOrder slots (length gates) order heads → IsReadyOrder l order heads
ready l slots order heads gates valid known e f is =
    ready_order l order heads valid (all_known l known)
    (subst (λ (n : ℕ). IsWholeOrder (slots_of (defined_variables l) (leaf_count l) l.gates) n order heads) (ap length f) (subst (λ (s : List ℕ). IsWholeOrder s (length gates) order heads) e is))

pub number_by_order-requires-clause-few : goal.number_by_order-requires-clause-few
number_by_order-requires-clause-few c =
    rw (c.deref.ensures.value)
    (few_in_order c.args.self.now c.in_ok-order.order.items (ready c.args.self.now c.args.slots.items c.in_ok-order.order.items c.in_ok-order.heads.items c.gates.result.now c.gates.ensures.valid c.requires.known c.requires.slots c.gates.ensures.items c.in_ok-order.ensures).in_turn)

pub returns-in-Some : goal.returns-in-Some
returns-in-Some c =
    let l : Loose = c.args.self.now in (
      c.requires.known,
      left_is_cyclic l c.in_ok-order.order.items c.in_ok-order.heads.items c.in-Some.gate c.gates.ensures.valid (all_known l c.requires.known)
          (ready l c.args.slots.items c.in_ok-order.order.items c.in_ok-order.heads.items c.gates.result.now c.gates.ensures.valid c.requires.known c.requires.slots c.gates.ensures.items c.in_ok-order.ensures)
          (sym c.in-Some.ensures),
    )

pub number_by_order-requires-clause-order : goal.number_by_order-requires-clause-order
number_by_order-requires-clause-order c =
    rw (c.deref.ensures.value)
    (none_left_is_order c.args.self.now c.in_ok-order.order.items c.in_ok-order.heads.items
    (ready c.args.self.now c.args.slots.items c.in_ok-order.order.items c.in_ok-order.heads.items c.gates.result.now c.gates.ensures.valid c.requires.known c.requires.slots c.gates.ensures.items c.in_ok-order.ensures)
    (sym c.in-None.ensures))
