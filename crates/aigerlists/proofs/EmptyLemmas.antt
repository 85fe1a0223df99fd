-- Empty lists are lists of a file.
use Rattle.std.proofs.Common.{rules}
use Rattle.std.proofs.lemmas.List.Elements.{All-nil}
use Rattle.std.specs.List.Sorted.{IsStrictlySortedBy}
use Rattle.aiger.specs.Circuit.{IsNamed}
use Rattle.aigerlists.specs.Loose.{IsLoose, HasDefinitions, HasSmall, HasFewLines, sections_of, empty_loose}

pub IsLoose-empty : IsLoose empty_loose
unfolding IsStrictlySortedBy
IsLoose-empty =
    let definitions : HasDefinitions empty_loose = search rules in
    let small : HasSmall empty_loose = search rules in
    let few : HasFewLines empty_loose = search rules in
    record { definitions = definitions; small = small; few = few; names = record { sorted = tt; named = All-nil (IsNamed (sections_of empty_loose)) } }
