-- What the types of an item's parts keep of it, whatever model it is in.
use Rattle.std.specs.Prelude.{◌≡◌, ◌-◌, ◌^◌, ◌<◌, true, List, [], ◌∷◌, length, IfSome}
use Rattle.btor2.specs.declared.item.Item.{Item}
use Rattle.btor2.specs.declared.item.Body.{Body}
use Rattle.btor2.specs.declared.item.Body.TheVariants as body
use Rattle.btor2.specs.Symbols.{is_symbol}

-- a justice line has less operands than the greatest number of 64 bits
abbrev pub HasFewOperands : Body → Type 0
HasFewOperands (body.Justice nodes) = length nodes < 2 ^ 64 - 1
HasFewOperands _ = Unit {0}

-- the parts of an item are as their types keep them: its name, where it has one, is a symbol's bytes
pub record HasSoundParts (x : Item) : Type 0 where
  pub symbol : IfSome x.symbol (λ bytes. is_symbol bytes ≡ true)
  pub operands : HasFewOperands x.body

-- so are those of each item
abbrev pub HaveSoundParts : List Item → Type 0
HaveSoundParts [] = Unit {0}
HaveSoundParts (x ∷ xs) = HasSoundParts x × HaveSoundParts xs
