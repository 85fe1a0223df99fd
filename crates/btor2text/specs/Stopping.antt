-- How the reading of a source's lines onto a model ends.
use Rattle.std.specs.Prelude.{◌≡◌, ◌≢◌, ℕ, List, [], Option, Result, Ok, Err, IfSome, ◌⊎◌}
use Rattle.std.specs.Io.KnownBytes.{IsAtEnd}
use Rattle.base.specs.Device.{HasRisen}
use Rattle.base.specs.Lines.{whole_lines, unfinished, line_after}
use Rattle.base.specs.declared.sources.ReadAllFault.{ReadAllFault}
use Rattle.base.specs.declared.sources.ReadAllFault.TheVariants as all
use Rattle.btor2.specs.declared.item.Item.{Item}
use Rattle.btor2text.specs.declared.fault.ReadFault.{ReadFault}
use Rattle.btor2text.specs.declared.fault.Why.{Why}
use Rattle.btor2text.specs.declared.fault.Why.TheVariants as why
use Rattle.btor2text.specs.Reading.{line_fault, lines_on}

-- the fault of a source that could not be read to its end
abbrev pub unread_text_fault : ReadAllFault → ReadFault
unread_text_fault all.Device = line_fault 0 why.Device
unread_text_fault all.NoMemory = line_fault 0 why.NoMemory

-- a reading stops: the device failed, which its count of failures tells; or a growth was refused, or there is another reason
abbrev pub Stops : ReadFault → ℕ → ℕ → Type 0 → Type 0
Stops e old new Other = ((e ≡ line_fault 0 why.Device) × HasRisen old new) ⊎ (((e ≡ line_fault 0 why.NoMemory) ⊎ Other) × (new ≡ old))

-- the other reason is this why at this line, and the source was read to its end
pub record IsOfLine (after : Option (List ℕ)) (line : ℕ) (w : Why) (e : ReadFault) : Type 0 where
  pub is : e ≡ line_fault line w
  pub no_memory : w ≢ why.NoMemory
  pub end : IsAtEnd after

-- the other reason is the fault that the source's text gives behind items, and the source was read to its end
pub record TextFails (before after : Option (List ℕ)) (items : List Item) (e : ReadFault) : Type 0 where
  pub no_device : e.why ≢ why.Device
  pub no_memory : e.why ≢ why.NoMemory
  pub end : IsAtEnd after
  pub is : IfSome before (λ text. lines_on 0 items (whole_lines text) (unfinished text) ≡ Err e)

-- what follows the last whole line, which is line n: nothing, or an unfinished line
abbrev pub Ends : Result (Unit {0}) ReadFault → ℕ → List ℕ → Type 0
Ends (Ok u) n rest = rest ≡ []
Ends (Err e) n rest = (rest ≢ []) × (e ≡ line_fault (line_after n) why.Unfinished)

-- lines of a source were read onto items, or the reading stopped
abbrev pub ReadsLines : Result (Unit {0}) ReadFault → List Item → List Item → Option (List ℕ) → Option (List ℕ) → ℕ → ℕ → Type 0
ReadsLines (Ok u) old new before after fails failed =
    (IsAtEnd after × (failed ≡ fails)) × IfSome before (λ text. lines_on 0 old (whole_lines text) (unfinished text) ≡ Ok new)
ReadsLines (Err e) old new before after fails failed = Stops e fails failed (TextFails before after old e)
