-- From how the reading of a source's lines ends to what is promised of reading a source.
use Rattle.std.proofs.Common.{◌≡◌, ℕ, List, [], Option, Some, None, Ok, Err, refl, sym, ap, subst, ◌∙◌, inl, inr, ◌⊎◌}
use Rattle.std.specs.Prelude.{IfSome}
use Rattle.base.specs.Lines.{whole_lines, unfinished}
use Rattle.btor2.specs.declared.item.Item.{Item}
use Rattle.btor2text.specs.declared.fault.Why.{Why}
use Rattle.btor2text.specs.declared.fault.Why.TheVariants as why
use Rattle.btor2text.specs.declared.fault.ReadFault.{ReadFault}
use Rattle.btor2text.specs.Spelling.{StandsFor}
use Rattle.btor2text.specs.Reading.{line_fault, lines_on, text_on, ReadsAs}
use Rattle.btor2text.specs.Stopping.{Stops, TextFails}
use Rattle.btor2text.specs.FirstFault.{IsFaultOf}
use Rattle.btor2text.proofs.FaultLemmas.{not_failed, text_fails}
use Rattle.btor2text.proofs.StandsLemmas.{ok_items, read_stands, stands_read}

-- what holds of known bytes
if_some : (known : Option (List ℕ)) (P : List ℕ → Type 0) → ((text : List ℕ) → known ≡ Some text → P text) → IfSome known P
if_some None P h = tt
if_some (Some text) P h = h text refl

at_some : (known : Option (List ℕ)) (P : List ℕ → Type 0) → IfSome known P → (text : List ℕ) → known ≡ Some text → P text
at_some None P h text is = absurd cc
at_some (Some other) P h text is =
    let same : other ≡ text = cc in
    subst P same h

-- the text that is known gives these items
abbrev pub GivesItems : Option (List ℕ) → List Item → Type 0
GivesItems known items = IfSome known (λ text. lines_on 0 [] (whole_lines text) (unfinished text) ≡ Ok items)

gives_items : (known : Option (List ℕ)) (items : List Item) → GivesItems known items → (text : List ℕ) → known ≡ Some text → text_on text ≡ Ok items
unfolding text_on
gives_items known items h text is = at_some known (λ text. lines_on 0 [] (whole_lines text) (unfinished text) ≡ Ok items) h text is

pub found : (known : Option (List ℕ)) (items : List Item) → GivesItems known items → IfSome known (λ text. StandsFor text items)
found known items h = if_some known (λ text. StandsFor text items) (λ text is. read_stands text items (gives_items known items h text is))

pub only : (known : Option (List ℕ)) (model : List Item) → GivesItems known model → (text : List ℕ) (items : List Item) → known ≡ Some text → StandsFor text items → model ≡ items
only known model h text items is stands = ok_items model items (sym (gives_items known model h text is) ∙ stands_read text items stands)

-- the reading stopped
why_is : (e : ReadFault) (w : Why) → e ≡ line_fault 0 w → e.why ≡ w
why_is e w is = ap (λ (f : ReadFault). f.why) is

gives_fault : (known after : Option (List ℕ)) (e : ReadFault) → TextFails known after [] e → (text : List ℕ) → known ≡ Some text → text_on text ≡ Err e
unfolding text_on
gives_fault known after e h text is = at_some known (λ text. lines_on 0 [] (whole_lines text) (unfinished text) ≡ Err e) h.is text is

module _ (known after : Option (List ℕ)) (e : ReadFault) (old new : ℕ) where
  -- it is the device, memory or the fault of the text
  told : Stops e old new (TextFails known after [] e) → (text : List ℕ) → known ≡ Some text → (e.why ≡ why.Device) ⊎ ((e.why ≡ why.NoMemory) ⊎ IsFaultOf text e)
  told (inl failed) text is = inl (why_is e why.Device failed.0)
  told (inr (inl full, same)) text is = inr (inl (why_is e why.NoMemory full))
  told (inr (inr fails, same)) text is = inr (inr (text_fails text e (gives_fault known after e fails text is)))

  pub fault : Stops e old new (TextFails known after [] e) → IfSome known (λ text. (e.why ≡ why.Device) ⊎ ((e.why ≡ why.NoMemory) ⊎ IsFaultOf text e))
  fault s = if_some known (λ text. (e.why ≡ why.Device) ⊎ ((e.why ≡ why.NoMemory) ⊎ IsFaultOf text e)) (told s)

  pub not_read : Stops e old new (TextFails known after [] e) → (text : List ℕ) (items : List Item) → known ≡ Some text → StandsFor text items → ReadsAs (Err e) items
  not_read (inl failed) text items is stands = inl (why_is e why.Device failed.0)
  not_read (inr (inl full, same)) text items is stands = inr (why_is e why.NoMemory full)
  not_read (inr (inr fails, same)) text items is stands =
      absurd (not_failed items e (sym (stands_read text items stands) ∙ gives_fault known after e fails text is))
