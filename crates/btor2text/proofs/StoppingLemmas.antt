-- Lemmas on the reading of a source's lines onto a model.
use Rattle.std.proofs.Common.{◌≡◌, ◌≢◌, ℕ, List, [], ◌∷◌, ◌++◌, Option, Some, None, Result, Ok, Err, sym, ap, subst, ◌∙◌, inl, inr, append_assoc}
use Rattle.std.specs.Prelude.{IfSome}
use Rattle.std.specs.Io.KnownBytes.{prepend_known, Keeps, Consumes, IsAtEnd}
use Rattle.base.specs.Device.{HasRisen}
use Rattle.base.specs.Lines.{IsLine, whole_lines, unfinished, line_after}
use Rattle.std.proofs.lemmas.List.{append-nil}
use Rattle.btor2.specs.declared.item.Item.{Item}
use Rattle.btor2text.specs.declared.fault.Why.{Why}
use Rattle.btor2text.specs.declared.fault.Why.TheVariants as why
use Rattle.btor2text.specs.declared.fault.ReadFault.{ReadFault}
use Rattle.btor2text.specs.Tokens.{tokens}
use Rattle.btor2text.specs.Reading.{line_fault, line_on, lines_on, ReadsLine}
use Rattle.btor2text.specs.Stopping.{Stops, IsOfLine, TextFails, Ends, ReadsLines}
use Rattle.btor2text.proofs.TextLemmas.{goes_on, ends_at, is_done, is_unfinished}
use Rattle.btor2text.proofs.WhyLemmas.{not_device, line_on_told, Told}

abbrev failed_by : ReadFault → Result (List Item) ReadFault
failed_by e = Err e

unfinished_is_no_device : why.Unfinished ≢ why.Device
unfinished_is_no_device e = cc

unfinished_is_no_memory : why.Unfinished ≢ why.NoMemory
unfinished_is_no_memory e = cc

-- what a source's text gives behind items is what is still to come gives behind these items from line n on
abbrev pub Follows : Option (List ℕ) → List Item → Option (List ℕ) → ℕ → List Item → Type 0
Follows None items known n now = Unit {0}
Follows (Some text) items None n now = ⊥
Follows (Some text) items (Some rest) n now =
    lines_on n now (whole_lines rest) (unfinished rest) ≡ lines_on 0 items (whole_lines text) (unfinished text)

-- a line was read
line_in_front : (text line rest : List ℕ) → text ≡ (line ++ 10 ∷ []) ++ rest → text ≡ line ++ 10 ∷ rest
line_in_front text line rest is = is ∙ append_assoc line (10 ∷ []) rest

pub follows_line : (known a b : Option (List ℕ)) (items now next : List Item) (n m : ℕ) (line : List ℕ)
    → Follows known items a n now → Consumes a b (line ++ 10 ∷ []) → IsLine line → m ≡ line_after n → line_on now (tokens line) ≡ Ok next → Follows known items b m next
follows_line None a b items now next n m line f took whole number read = tt
follows_line (Some text) None b items now next n m line f took whole number read = absurd f
follows_line (Some text) (Some x) None items now next n m line f took whole number read = absurd took
follows_line (Some text) (Some x) (Some y) items now next n m line f took whole number read =
    goes_on n m now x line y _ (line_in_front x line y took) whole number f next read

-- a line has a fault
line_fails : (known a b : Option (List ℕ)) (items now : List Item) (n m : ℕ) (line : List ℕ) (w : Why)
    → Follows known items a n now → Consumes a b (line ++ 10 ∷ []) → IsLine line → m ≡ line_after n → line_on now (tokens line) ≡ Err w
    → IfSome known (λ text. lines_on 0 items (whole_lines text) (unfinished text) ≡ Err (line_fault m w))
line_fails None a b items now n m line w f took whole number read = tt
line_fails (Some text) None b items now n m line w f took whole number read = absurd f
line_fails (Some text) (Some x) None items now n m line w f took whole number read = absurd took
line_fails (Some text) (Some x) (Some y) items now n m line w f took whole number read =
    ends_at n m now x line y _ (line_in_front x line y took) whole number f w read

-- no whole line is left
at_rest : (known a b : Option (List ℕ)) (items now : List Item) (n : ℕ) (rest : List ℕ) → Follows known items a n now → Keeps a (prepend_known rest b) → IsAtEnd b
    → IfSome known (λ text. lines_on n now (whole_lines rest) (unfinished rest) ≡ lines_on 0 items (whole_lines text) (unfinished text))
at_rest None a b items now n rest f kept end = tt
at_rest (Some text) None b items now n rest f kept end = absurd f
at_rest (Some text) (Some x) None items now n rest f kept end = absurd kept
at_rest (Some text) (Some x) (Some y) items now n rest f kept end =
    subst (λ (t : List ℕ). lines_on n now (whole_lines t) (unfinished t) ≡ lines_on 0 items (whole_lines text) (unfinished text)) (sym kept ∙ ap (λ (l : List ℕ). rest ++ l) end ∙ append-nil rest) f

then_gives : (known : Option (List ℕ)) (items : List Item) (here gives : Result (List Item) ReadFault)
    → IfSome known (λ text. here ≡ lines_on 0 items (whole_lines text) (unfinished text)) → here ≡ gives → IfSome known (λ text. lines_on 0 items (whole_lines text) (unfinished text) ≡ gives)
then_gives None items here gives is e = tt
then_gives (Some text) items here gives is e = sym is ∙ e

pub lines_end : (r : Result (Unit {0}) ReadFault) (known a b : Option (List ℕ)) (items now : List Item) (n : ℕ) (rest : List ℕ) (fails failed : ℕ)
    → Follows known items a n now → Keeps a (prepend_known rest b) → IsAtEnd b → IsLine rest → Ends r n rest → failed ≡ fails → ReadsLines r items now known b fails failed
lines_end (Ok u) known a b items now n rest fails failed f kept end whole ends same =
    ((end, same), then_gives known items _ (Ok now) (at_rest known a b items now n rest f kept end) (is_done n now rest ends))
lines_end (Err e) known a b items now n rest fails failed f kept end whole ends same =
    inr (
      inr (record {
        no_device = λ is. unfinished_is_no_device (sym (ap (λ (g : ReadFault). g.why) ends.1) ∙ is);
        no_memory = λ is. unfinished_is_no_memory (sym (ap (λ (g : ReadFault). g.why) ends.1) ∙ is);
        end = end;
        is = then_gives known items _ (Err e) (at_rest known a b items now n rest f kept end) (is_unfinished n now rest whole ends.0 ∙ ap (λ (g : ReadFault). failed_by g) (sym ends.1));
      }),
      same,
    )

-- a line's fault was told
told_line : (known a b c : Option (List ℕ)) (items now : List Item) (n m : ℕ) (line : List ℕ) (w : Why) (e : ReadFault)
    → Follows known items a n now → Consumes a b (line ++ 10 ∷ []) → IsLine line → m ≡ line_after n → line_on now (tokens line) ≡ Err w
    → IsOfLine c m w e → TextFails known c items e
told_line known a b c items now n m line w e f took whole number read told =
    let is-why : e.why ≡ w = ap (λ (g : ReadFault). g.why) told.is in
    record {
      no_device = λ is. not_device w (subst Told read (line_on_told now (tokens line))) (sym is-why ∙ is);
      no_memory = λ is. told.no_memory (sym is-why ∙ is);
      end = told.end;
      is = subst (λ (g : ReadFault). IfSome known (λ text. lines_on 0 items (whole_lines text) (unfinished text) ≡ Err g)) (sym told.is) (line_fails known a b items now n m line w f took whole number read);
    }

pub line_stops : (known a b c : Option (List ℕ)) (items now mid : List Item) (n m : ℕ) (line : List ℕ) (w : Why) (e : ReadFault) (old mid_count new : ℕ)
    → Follows known items a n now → Consumes a b (line ++ 10 ∷ []) → IsLine line → m ≡ line_after n → ReadsLine (Err w) mid (line_on now (tokens line))
    → mid_count ≡ old → Stops e mid_count new (IsOfLine c m w e) → Stops e old new (TextFails known c items e)
line_stops known a b c items now mid n m line w e old mid_count new f took whole number read same (inl device) =
    inl (device.0, subst (λ (k : ℕ). HasRisen k new) same device.1)
line_stops known a b c items now mid n m line w e old mid_count new f took whole number read same (inr (inl memory, count)) = inr (inl memory, count ∙ same)
line_stops known a b c items now mid n m line w e old mid_count new f took whole number (inl full) same (inr (inr told, count)) = absurd (told.no_memory full)
line_stops known a b c items now mid n m line w e old mid_count new f took whole number (inr read) same (inr (inr told, count)) =
    inr (inr (told_line known a b c items now n m line w e f took whole number read told), count ∙ same)
