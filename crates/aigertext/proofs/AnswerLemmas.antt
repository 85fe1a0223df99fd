-- From what a text gives to what is promised of reading a source.
use Rattle.std.proofs.Common.{◌≡◌, ℕ, ◌-◌, List, [], length, get_or, Fits, w8, Bool, true, Option, Some, None, Result, Ok, Err, refl, sym, ap, subst, ◌∙◌, inl, inr, ◌⊎◌}
use Rattle.std.specs.Prelude.{IfOk, IfErr, IfSome}
use Rattle.std.specs.Io.KnownBytes.{prepend_known, Keeps}
use Rattle.base.specs.declared.sources.ReadAllFault.{ReadAllFault}
use Rattle.aiger.specs.Circuit.{Circuit}
use Rattle.aigerlists.specs.declared.numbered.Numbered.{Numbered}
use Rattle.aigertext.specs.declared.fault.Stop.{Stop}
use Rattle.aigertext.specs.declared.fault.Why.{Why}
use Rattle.aigertext.specs.declared.fault.Why.TheVariants as why
use Rattle.aigertext.specs.declared.fault.ReadFault.{ReadFault}
use Rattle.aigertext.specs.AsciiReading.{AnswersText, IsAsciiFaultOf, GivesCircuit}
use Rattle.aigertext.specs.Passes.{told, IsTextWhy, ReadsText}
use Rattle.aigertext.specs.declared.reading.taking.Taken.{Taken}
use Rattle.aigertext.specs.declared.reading.taking.Taken.TheVariants as taken
use Rattle.aigertext.specs.InOrder.{IsReadOf, IsReadFrom, IsTakenFrom}
use Rattle.aigertext.specs.Numbering.{IsNumberingOfText, without_numbers}
use Rattle.aigertext.specs.Spelling.{SpellsCircuit}
use Rattle.aigertext.proofs.AsciiStandsLemmas.{IsCircuitLaw, spells-read, read-spells}
use Rattle.aigertext.proofs.ReadStandsLemmas.{NameLaw}
use Rattle.aigertext.proofs.BackLemmas.{ok_same}
use Rattle.aigertext.proofs.GateBackLemmas.{bytes_of}
use Rattle.aigertext.proofs.StandsLemmas.{not_stopped}

pub text_spells : IsCircuitLaw → NameLaw → (text : List ℕ) (c : Circuit) → ((i : ℕ) → Fits w8 (get_or text i 0)) → AnswersText text (Ok c) → SpellsCircuit text c
text_spells circuit law text c bytes answers = read-spells circuit law text c (bytes_of text bytes) answers

-- ---- where reading stopped

-- the fault of a text of so many bytes at which reading stopped
fault_by : (w : Why) (text : List ℕ) (wanted : Bool) (total : ℕ) (s : Stop) (e : ReadFault) → s.why ≡ w → length text ≡ total → e ≡ told total s.left w → (w ≡ why.NoMemory) ⊎ AnswersText text (Err s) → ReadsText text wanted (Err e)
fault_by w text wanted total s e same long is (inl full) = inl (is ∙ ap (told total s.left) full)
fault_by why.NoMemory text wanted total s e same long is (inr stops) = inl is
fault_by why.Device text wanted total s e same long is (inr stops) = inl is
fault_by w text wanted total s e same long is (inr stops) =
    inr (
      subst IsTextWhy (sym (ap (λ (f : ReadFault). f.why) is)) tt,
      record { stop = s; stops = stops; is = is ∙ ap (λ (n : ℕ). record { place = n - s.left; why = w }) (sym long) ∙ ap (λ (v : Why). record { place = length text - s.left; why = v }) (sym same) },
    )

pub fault_read : (text : List ℕ) (wanted : Bool) (total : ℕ) (s : Stop) (e : ReadFault) → length text ≡ total → e ≡ told total s.left s.why → (s.why ≡ why.NoMemory) ⊎ AnswersText text (Err s) → ReadsText text wanted (Err e)
fault_read text wanted total s e long is stops = fault_by s.why text wanted total s e refl long is stops

-- ---- a source

-- a text has one answer at most
abbrev pub OneAnswer : Type 0
OneAnswer = (text : List ℕ) (a b : Result Circuit Stop) → AnswersText text a → AnswersText text b → a ≡ b

abbrev pub Explained : Option (List ℕ) → ReadFault → Type 0
Explained known e = IfSome known (λ text. (e.why ≡ why.Device) ⊎ ((e.why ≡ why.NoMemory) ⊎ IsAsciiFaultOf text e))

module _ (law : IsCircuitLaw) (one_answer : OneAnswer) where
  pub found : (known : Option (List ℕ)) (wanted : Bool) (r : Result Numbered ReadFault) → IsReadFrom known wanted r → IfOk r (λ x. IfSome known (λ all. AnswersText all (Ok x.circuit)))
  found None wanted (Ok x) read = tt
  found (Some all) wanted (Ok x) read = subst (λ (t : List ℕ). AnswersText t (Ok x.circuit)) read.is (spells-read law read.text x.circuit read.reads.0)
  found known wanted (Err e) read = tt

  gives : (text : List ℕ) (wanted : Bool) (r : Result Numbered ReadFault) (c : Circuit) → AnswersText text (Ok c) → ReadsText text wanted r → GivesCircuit (without_numbers r) c
  gives text wanted (Ok x) c is read = ok_same x.circuit c (one_answer text (Ok x.circuit) (Ok c) (spells-read law text x.circuit read.0) is)
  gives text wanted (Err e) c is (inl full) = inr (ap (λ (f : ReadFault). f.why) full)
  gives text wanted (Err e) c is (inr f) = absurd (not_stopped c f.1.stop (one_answer text (Ok c) (Err f.1.stop) is f.1.stops))

  gives_all : (known : Option (List ℕ)) (wanted : Bool) (r : Result Numbered ReadFault) → IsReadOf known wanted r → (all : List ℕ) (c : Circuit) → known ≡ Some all → AnswersText all (Ok c) → GivesCircuit (without_numbers r) c
  gives_all known wanted r read all c is answers =
      let same : read.text ≡ all = subst (λ (k : Option (List ℕ)). IfSome k (λ t. read.text ≡ t)) is read.is in
      gives read.text wanted r c (subst (λ (t : List ℕ). AnswersText t (Ok c)) (sym same) answers) read.reads

  pub only : (known : Option (List ℕ)) (wanted : Bool) (r : Result Numbered ReadFault) → IsReadFrom known wanted r → (all : List ℕ) (c : Circuit) → known ≡ Some all → AnswersText all (Ok c) → GivesCircuit (without_numbers r) c
  only known wanted (Ok x) read = gives_all known wanted (Ok x) read
  only known wanted (Err e) (inl failed) = λ all c is answers. inl (ap (λ (f : ReadFault). f.why) failed)
  only known wanted (Err e) (inr read) = gives_all known wanted (Err e) read

  pub each : (known : Option (List ℕ)) (wanted : Bool) (r : Result Numbered ReadFault) → IsReadFrom known wanted r → (all : List ℕ) (c : Circuit) → known ≡ Some all → SpellsCircuit all c → GivesCircuit (without_numbers r) c
  each known wanted r read all c is spells = only known wanted r read all c is (spells-read law all c spells)

pub spells : (known : Option (List ℕ)) (wanted : Bool) (r : Result Numbered ReadFault) → IsReadFrom known wanted r → IfOk r (λ x. IfSome known (λ all. SpellsCircuit all x.circuit))
spells None wanted (Ok x) read = tt
spells (Some all) wanted (Ok x) read = subst (λ (t : List ℕ). SpellsCircuit t x.circuit) read.is read.reads.0
spells known wanted (Err e) read = tt

pub numbers : (known : Option (List ℕ)) (r : Result Numbered ReadFault) → IsReadFrom known true r → IfOk r (λ x. IfSome known (λ all. IsNumberingOfText all x.circuit x.numbering))
numbers None (Ok x) read = tt
numbers (Some all) (Ok x) read = subst (λ (t : List ℕ). IsNumberingOfText t x.circuit x.numbering) read.is (read.reads.1 refl)
numbers known (Err e) read = tt

pub fault : (known : Option (List ℕ)) (wanted : Bool) (r : Result Numbered ReadFault) → IsReadFrom known wanted r → IfErr r (Explained known)
fault known wanted (Ok x) read = tt
fault None wanted (Err e) read = tt
fault (Some all) wanted (Err e) (inl failed) = inl (ap (λ (f : ReadFault). f.why) failed)
fault (Some all) wanted (Err e) (inr read) =
    elim read.reads [
      | inl full ↦ inr (inl (ap (λ (f : ReadFault). f.why) full))
      | inr f ↦ inr (inr (subst (λ (t : List ℕ). IsAsciiFaultOf t e) read.is f.1))
    ]

memory_is_no_device : why.NoMemory ≡ why.Device → ⊥
memory_is_no_device e = cc

no_device : (text : List ℕ) (wanted : Bool) (e : ReadFault) → ReadsText text wanted (Err e) → e.why ≡ why.Device → ⊥
no_device text wanted e (inl full) is = memory_is_no_device (sym (ap (λ (f : ReadFault). f.why) full) ∙ is)
no_device text wanted e (inr f) is = subst IsTextWhy is f.0

pub device : (known : Option (List ℕ)) (wanted : Bool) (r : Result Numbered ReadFault) (Risen : Type 0) → IsReadOf known wanted r → IfErr r (λ e. e.why ≡ why.Device → Risen)
device known wanted (Ok x) Risen read = tt
device known wanted (Err e) Risen read = λ is. absurd (no_device read.text wanted e read.reads is)

place_of : (text : List ℕ) (wanted : Bool) (e : ReadFault) → ReadsText text wanted (Err e) → (e.why ≡ why.Device) ⊎ (e.why ≡ why.NoMemory) → e.place ≡ 0
place_of text wanted e (inl full) is = ap (λ (f : ReadFault). f.place) full
place_of text wanted e (inr f) is = absurd (by is)
  where
    by : (e.why ≡ why.Device) ⊎ (e.why ≡ why.NoMemory) → ⊥
    by (inl d) = subst IsTextWhy d f.0
    by (inr d) = subst IsTextWhy d f.0

pub place : (known : Option (List ℕ)) (wanted : Bool) (r : Result Numbered ReadFault) → IsReadFrom known wanted r → IfErr r (λ e. (e.why ≡ why.Device) ⊎ (e.why ≡ why.NoMemory) → e.place ≡ 0)
place known wanted (Ok x) read = tt
place known wanted (Err e) (inl failed) = λ is. ap (λ (f : ReadFault). f.place) failed
place known wanted (Err e) (inr read) = place_of read.text wanted e read.reads

-- what was read of what was taken was read from the source
pub read_from : (known : Option (List ℕ)) (wanted : Bool) (r : Result Numbered ReadFault) → IsReadOf known wanted r → IsReadFrom known wanted r
read_from known wanted (Ok x) read = read
read_from known wanted (Err e) read = inr read

-- want of memory may be told of any source
pub no_memory : (known : Option (List ℕ)) (wanted : Bool) → IsReadFrom known wanted (Err (record { place = 0; why = why.NoMemory }))
no_memory None wanted = inr (record { text = []; is = tt; reads = inl refl })
no_memory (Some all) wanted = inr (record { text = all; is = refl; reads = inl refl })

-- ---- a source of which the first bytes are held

some_kept : (P : List ℕ → Type 0) (known now : Option (List ℕ)) → Keeps known now → IfSome now P → IfSome known P
some_kept P None now kept h = tt
some_kept P (Some all) None kept h = absurd kept
some_kept P (Some all) (Some other) kept h = subst P kept h

pub taken_kept : (known now : Option (List ℕ)) (wanted : Bool) (t : Taken) → Keeps known now → IsTakenFrom now wanted t → IsTakenFrom known wanted t
taken_kept known now wanted (taken.Circuit c) kept is = record { text = is.text; is = some_kept (λ all. is.text ≡ all) known now kept is.is; reads = is.reads }
taken_kept known now wanted (taken.Fault e) kept is = record { text = is.text; is = some_kept (λ all. is.text ≡ all) known now kept is.is; reads = is.reads }
taken_kept known now wanted (taken.Text text) kept is = some_kept (λ all. text.items ≡ all) known now kept is

nothing_held : (known now : Option (List ℕ)) → Keeps (prepend_known [] known) now → Keeps known now
nothing_held None now kept = tt
nothing_held (Some all) now kept = kept

pub all_taken : (known now : Option (List ℕ)) (wanted : Bool) (r : Result Taken ReadAllFault) → Keeps (prepend_known [] known) now → IfOk r (IsTakenFrom now wanted) → IfOk r (IsTakenFrom known wanted)
all_taken known now wanted (Ok t) kept is = taken_kept known now wanted t (nothing_held known now kept) is
all_taken known now wanted (Err e) kept is = tt
