use Rattle.std.proofs.Common.{◌≡◌, [], ◌∷◌, length}
use Rattle.cells.specs.Lines.{Extends, MayNameAll}
use Rattle.cells.specs.Bits.{GiveBits, ids_of_bits}
use Rattle.cells.proofs.maker.ListMaker.bits.Given as goal

abbrev pub invariant-loop-place : goal.invariant-loop-place
invariant-loop-place l = record {
  extends : Extends l.fn.self l.self (l.index ∷ []);
  bits : GiveBits l.self l.index l.bits.items;
  many : length l.bits.items ≡ l.place;
  fresh : MayNameAll (length l.fn.self) [] (ids_of_bits l.bits.items);
}
