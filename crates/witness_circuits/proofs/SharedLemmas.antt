-- What is shared speaks of the inputs and latches of the witness circuit.
use Rattle.std.proofs.Common.{◌≡◌, ℕ, suc, Bool, true, false, List, Option, length, if◌then◌else◌}
use Rattle.std.proofs.lemmas.List.FromFn.{length-map-range_with_len}
use Rattle.aiger.specs.declared.circuit.Section.{Section}
use Rattle.aiger.specs.declared.circuit.Section.TheVariants as section
use Rattle.aiger.specs.Circuit.{Circuit, section_count, name_of}
use Rattle.witness_circuits.specs.Mapping.{IsMappingOf, Mapping, names_said_in, in_place, in_order, mapping_of, said_by_names, says_some, shared_literal}

names_many : (n : Option (List ℕ)) (s : Section) (w : Circuit) → length (names_said_in n s w) ≡ section_count s w
names_many n s w = length-map-range_with_len (λ position. shared_literal n (name_of w s position)) 0 (section_count s w)

in_order_many : (first count all : ℕ) → length (in_order first count all) ≡ all
in_order_many first count all = length-map-range_with_len (in_place first count) 0 all

pub shared_mapping : (n : Option (List ℕ)) (c w : Circuit) → IsMappingOf w (mapping_of n c w)
shared_mapping n c w = by (says_some (said_by_names n w))
  where
    other : Mapping
    other = record { inputs = in_order 1 c.inputs w.inputs; latches = in_order (suc c.inputs) (length c.latches) (length w.latches) }

    by : (b : Bool) → IsMappingOf w (if b then said_by_names n w else other)
    by true = record { inputs = names_many n section.Input w; latches = names_many n section.Latch w }
    by false = record { inputs = in_order_many 1 c.inputs w.inputs; latches = in_order_many (suc c.inputs) (length c.latches) (length w.latches) }
