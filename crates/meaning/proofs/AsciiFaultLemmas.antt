-- From where an ascii text stops to its first fault.
use Rattle.std.proofs.Common.{◌≡◌, ◌≢◌, ℕ, List, [], ◌++◌, Result, Ok, Err, refl, sym, ap, subst, ◌∙◌, append_assoc, append-nil, inl, inr, ◌⊎◌}
use Rattle.base.specs.Lines.{IsLine}
use Rattle.aiger.specs.Circuit.{Circuit}
use Rattle.aigerlists.specs.Loose.{Loose}
use Rattle.aigertext.specs.declared.fault.Why.{Why}
use Rattle.aigertext.specs.declared.fault.Why.TheVariants as why
use Rattle.aigertext.specs.declared.fault.ReadFault.{ReadFault}
use Rattle.aigertext.specs.declared.forms.Form.{Form}
use Rattle.aigertext.specs.declared.forms.Form.TheVariants.{Ascii, Binary}
use Rattle.aigertext.specs.Reading.{stop, line_at, header_of, names_at, fault_of}
use Rattle.aigertext.specs.AsciiReading.{lists_of_file, AnswersNamed, AnswersLists, AnswersHeader, AnswersText, IsAsciiFaultOf}
use Rattle.aigertext.specs.Spelling.{IsAsciiText}
use Rattle.meaning.specs.Pieces.{IsWholeLine, IsFirstFault}
use Rattle.meaning.specs.Circuits.{SaysAscii, BeginsCircuit, HasLists, BeginsLists}
use Rattle.meaning.proofs.PieceLemmas.{AreWhole, Stops, no_pieces, more_pieces, stops_behind}
use Rattle.meaning.proofs.ReaderLemmas.{not_both, err_same, Completes, Finished, GoesOn, lines as by_lines, Took, StopsAt, IsRefused}
use Rattle.meaning.proofs.LineLemmas.{cut_view, line_view}
use Rattle.meaning.proofs.NameLemmas.{names_view}
use Rattle.meaning.proofs.HeaderLemmas.{empty_header, ascii_counts, not_binary}
use Rattle.meaning.proofs.FileLemmas.{lists_sound}
use Rattle.meaning.proofs.FaultLemmas.{IsRefusedText, first_fault_by, OneAnswer, IsReadLaw, header_refused, refused_answer}

-- ---- what is answered to a text whose header and lists are read

-- the answer where the lists are read, or are not
lists_answers : (text : List ℕ) (h : _) (rest : List ℕ) (r : _) (a : Result Circuit _) → line_at header_of text ≡ Ok ((Ascii, h), rest) → lists_of_file h rest ≡ r → AnswersLists h rest r a → AnswersText text a
unfolding AnswersText
lists_answers text h rest r a header lists answers = subst (λ x. AnswersHeader x a) (sym header) (subst (λ x. AnswersLists h rest x a) (sym lists) answers)

lists_answer : (text : List ℕ) (h : _) (rest : List ℕ) (r : _) (a : Result Circuit _) → line_at header_of text ≡ Ok ((Ascii, h), rest) → lists_of_file h rest ≡ r → AnswersText text a → AnswersLists h rest r a
unfolding AnswersText
lists_answer text h rest r a header lists answers = subst (λ x. AnswersLists h rest x a) lists (subst (λ x. AnswersHeader x a) header answers)

-- ---- lists that are whole

abbrev pub SpellsAscii : Type 0
SpellsAscii = (text : List ℕ) (c : Circuit) (h : _) (rest : List ℕ) → line_at header_of text ≡ Ok ((Ascii, h), rest) → AnswersText text (Ok c) → IsAsciiText text c

abbrev pub SomeAnswer : Type 0
SomeAnswer = (text : List ℕ) → (a : Result Circuit _) × AnswersText text a

-- a text that ends behind its lists has lists
whole_lists : SomeAnswer → SpellsAscii → (text : List ℕ) (h : _) (rest : List ℕ) (l : Loose) → line_at header_of text ≡ Ok ((Ascii, h), rest) → lists_of_file h rest ≡ Ok (l, []) → HasLists text
whole_lists some spells text h rest l header lists = by (some text).0 (some text).1
  where
    fault : (s : _) → AnswersText text (Err s) → (s.why ≡ why.Undefined) ⊎ (s.why ≡ why.Cycle) → HasLists text
    fault s answers because = inr (record { fault = fault_of text s; is = record { stop = s; stops = answers; is = refl }; why = because })

    stopped : (s : _) → AnswersText text (Err s) → AnswersLists h rest (Ok (l, [])) (Err s) → HasLists text
    stopped s answers (inl n) = absurd (not_both n.circuit s (sym n.is))
    stopped s answers (inr (inl u)) = fault s answers (inl (ap (λ x. x.why) (err_same s _ u.is)))
    stopped s answers (inr (inr u)) = fault s answers (inr (ap (λ x. x.why) (err_same s _ u.is)))

    by : (a : Result Circuit _) → AnswersText text a → HasLists text
    by (Ok c) answers = inl (c, inl (spells text c h rest header answers))
    by (Err s) answers = stopped s answers (lists_answer text h rest (Ok (l, [])) (Err s) header lists answers)

-- a text that is refused whatever follows, and not for its whole lists, begins none that has lists
pub begins_no_lists : OneAnswer → IsReadLaw → (w : Why) → w ≢ why.Undefined → w ≢ why.Cycle → (before piece : List ℕ) → ((more : List ℕ) → IsRefusedText w (before ++ (piece ++ more))) → ¬ BeginsLists (before ++ piece)
begins_no_lists one reads w defined acyclic before piece again b = by b.has
  where
    text : List ℕ
    text = (before ++ piece) ++ b.more

    refused : IsRefusedText w text
    refused = subst (IsRefusedText w) (sym (append_assoc before piece b.more)) (again b.more)

    by : HasLists text → ⊥
    by (inl c) = not_both c.0 (stop refused.0 w) (one text (Ok c.0) (Err (stop refused.0 w)) (reads text c.0 c.1) refused.1)
    by (inr f) =
        let same : f.is.stop ≡ stop refused.0 w = err_same f.is.stop (stop refused.0 w) (one text (Err f.is.stop) (Err (stop refused.0 w)) f.is.stops refused.1) in
        let because : f.fault.why ≡ w = ap (λ (x : ReadFault). x.why) f.is.is ∙ ap (λ x. x.why) same in
        elim f.why [
          | inl u ↦ defined (sym because ∙ u)
          | inr u ↦ acyclic (sym because ∙ u)
        ]

-- ---- the ascii form

module _ (one : OneAnswer) (reads : IsReadLaw) (some : SomeAnswer) (spells : SpellsAscii) (begins_empty : BeginsCircuit []) where
  nothing_begins : BeginsLists []
  nothing_begins = record { more = begins_empty.more; has = inl (begins_empty.circuit, begins_empty.spells) }

  -- behind a header of the ascii form
  module _ (h : _) (used : List ℕ) (gives : (more : List ℕ) → line_at header_of (used ++ more) ≡ Ok ((Ascii, h), more)) where
    refused_lists : (w : Why) (t : List ℕ) → IsRefused stop (lists_of_file h) w t → IsRefusedText w (used ++ t)
    refused_lists w t r = (r.0, lists_answers (used ++ t) h t (Err (stop r.0 w)) (Err (stop r.0 w)) (gives t) r.1 refl)

    go_on_lists : (t : List ℕ) → Completes (lists_of_file h) t → BeginsLists (used ++ t)
    go_on_lists t f =
        let text : List ℕ = (used ++ t) ++ (f.more ++ []) in
        let header : line_at header_of text ≡ Ok ((Ascii, h), t ++ (f.more ++ [])) = ap (line_at header_of) (append_assoc used t (f.more ++ [])) ∙ gives (t ++ (f.more ++ [])) in
        record { more = f.more ++ []; has = whole_lists some spells text h (t ++ (f.more ++ [])) f.value header (f.gives []) }

    -- and behind lists that are a circuit
    module _ (l : Loose) (lines : List ℕ) (lists : (more : List ℕ) → lists_of_file h (lines ++ more) ≡ Ok (l, more)) (names : List ℕ) (s : _) (n : AnswersNamed l names (Err s)) where
      named_text : (t : List ℕ) (a : Result Circuit _) → a ≡ names_at n.circuit t → AnswersText (used ++ (lines ++ t)) a
      named_text t a is = lists_answers (used ++ (lines ++ t)) h (lines ++ t) (Ok (l, t)) a (gives (lines ++ t)) (lists t) (inl (record { circuit = n.circuit; is_renumbered = n.is_renumbered; is = is }))

      refused_names : (w : Why) (t : List ℕ) → IsRefused stop (names_at n.circuit) w t → IsRefusedText w ((used ++ lines) ++ t)
      refused_names w t r = subst (IsRefusedText w) (sym (append_assoc used lines t)) (r.0, named_text t (Err (stop r.0 w)) (sym r.1))

      go_on_names : (t : List ℕ) → Finished (names_at n.circuit) t → BeginsLists ((used ++ lines) ++ t)
      go_on_names t f =
          let text : List ℕ = used ++ (lines ++ t) in
          let c : IsAsciiText text f.value = spells text f.value h (lines ++ t) (gives (lines ++ t)) (named_text t (Ok f.value) (sym f.gives)) in
          let same : text ≡ ((used ++ lines) ++ t) ++ [] = sym (append_assoc used lines t) ∙ sym (append-nil ((used ++ lines) ++ t)) in
          record { more = []; has = subst HasLists same (inl (f.value, inl c)) }

  -- where reading it stops
  module _ (text : List ℕ) (e : ReadFault) (f : IsAsciiFaultOf text e) (defined : e.why ≢ why.Undefined) (acyclic : e.why ≢ why.Cycle) where
    abbrev IsTold : Type 0
    IsTold = IsFirstFault IsWholeLine IsWholeLine IsLine BeginsLists (e.why ≡ why.Truncated) text e.place

    abbrev Stopped : List ℕ → Type 0
    Stopped t = StopsAt stop IsWholeLine IsLine (line_at header_of) BeginsLists t

    at_stop : (w : Why) (behind : List ℕ) → f.stop ≡ stop behind w → Stops IsWholeLine IsLine (IsRefusedText w) BeginsLists (w ≡ why.Truncated) text behind → IsTold
    at_stop w behind is s =
        let same : e ≡ fault_of text (stop behind w) = f.is ∙ ap (fault_of text) is in
        let because : e.why ≡ w = ap (λ (x : ReadFault). x.why) same in
        first_fault_by IsWholeLine IsWholeLine IsLine (IsRefusedText w) BeginsLists BeginsLists (λ l i. i) w [] text text behind refl (no_pieces IsWholeLine) e same s s.may_go_on (begins_no_lists one reads w (λ u. defined (because ∙ u)) (λ u. acyclic (because ∙ u)) s.before)

    in_header : Stopped text → IsTold
    in_header s =
        let same : f.stop ≡ stop s.behind s.because = err_same f.stop (stop s.behind s.because) (refused_answer text (stop s.behind s.because) (Err f.stop) s.stopped f.stops) in
        at_stop s.because s.behind same
        (stops_behind IsWholeLine IsLine (IsRefused stop (line_at header_of) s.because) BeginsLists (IsRefusedText s.because) BeginsLists (s.because ≡ why.Truncated) [] text text s.behind refl (no_pieces IsWholeLine) (λ t r. header_refused t s.because r) (λ t m. m) s.stops)

    module _ (h : _) (used rest : List ℕ) (parts : text ≡ used ++ rest) (whole : AreWhole IsWholeLine used) (gives : (more : List ℕ) → line_at header_of (used ++ more) ≡ Ok ((Ascii, h), more)) where
      header : line_at header_of text ≡ Ok ((Ascii, h), rest)
      header = ap (line_at header_of) parts ∙ gives rest

      in_lists : StopsAt stop IsWholeLine IsLine (lists_of_file h) (GoesOn stop by_lines (lists_of_file h)) rest → IsTold
      in_lists s =
          at_stop s.because s.behind (err_same f.stop (stop s.behind s.because) (lists_answer text h rest (Err (stop s.behind s.because)) (Err f.stop) header s.stopped f.stops))
          (stops_behind IsWholeLine IsLine (IsRefused stop (lists_of_file h) s.because) (GoesOn stop by_lines (lists_of_file h)) (IsRefusedText s.because) BeginsLists (s.because ≡ why.Truncated) used rest text s.behind parts whole (refused_lists h used gives s.because) (λ t g. go_on_lists h used gives t g.completes) s.stops)

      in_names : (t : Took IsWholeLine (lists_of_file h) rest) (n : AnswersNamed t.value t.rest (Err f.stop)) → ((c : Circuit) × (names_at n.circuit t.rest ≡ Ok c)) ⊎ StopsAt stop IsWholeLine IsLine (names_at n.circuit) (Finished (names_at n.circuit)) t.rest → IsTold
      in_names t n (inl c) = absurd (not_both c.0 f.stop (sym c.1 ∙ sym n.is))
      in_names t n (inr s) =
          let all : text ≡ (used ++ t.used) ++ t.rest = parts ∙ ap (λ (l : List ℕ). used ++ l) t.parts ∙ sym (append_assoc used t.used t.rest) in
          at_stop s.because s.behind (err_same f.stop (stop s.behind s.because) (n.is ∙ s.stopped))
          (stops_behind IsWholeLine IsLine (IsRefused stop (names_at n.circuit) s.because) (Finished (names_at n.circuit)) (IsRefusedText s.because) BeginsLists (s.because ≡ why.Truncated) (used ++ t.used) t.rest text s.behind all (more_pieces IsWholeLine used t.used whole t.whole)
          (refused_names h used gives t.value t.used t.gives t.rest f.stop n s.because) (go_on_names h used gives t.value t.used t.gives t.rest f.stop n) s.stops)

      behind_lists : (t : Took IsWholeLine (lists_of_file h) rest) → AnswersLists h rest (Ok (t.value, t.rest)) (Err f.stop) → IsTold
      behind_lists t (inl n) = in_names t n ((names_view IsWholeLine IsLine (λ l i. i) (λ l i. i) n.circuit t.rest))
      behind_lists t (inr (inl u)) = absurd (defined (ap (λ (x : ReadFault). x.why) f.is ∙ ap (λ x. x.why) (err_same f.stop _ u.is)))
      behind_lists t (inr (inr u)) = absurd (acyclic (ap (λ (x : ReadFault). x.why) f.is ∙ ap (λ x. x.why) (err_same f.stop _ u.is)))

      in_body : Took IsWholeLine (lists_of_file h) rest ⊎ StopsAt stop IsWholeLine IsLine (lists_of_file h) (GoesOn stop by_lines (lists_of_file h)) rest → IsTold
      in_body (inl t) = behind_lists t (lists_answer text h rest (Ok (t.value, t.rest)) (Err f.stop) header (ap (lists_of_file h) t.parts ∙ t.gives t.rest) f.stops)
      in_body (inr s) = in_lists s

    by_header : SaysAscii text → Took IsWholeLine (line_at header_of) text ⊎ Stopped text → IsTold
    by_header ascii (inr s) = in_header s
    by_header ascii (inl t) = by t.value.0 t.value.1 refl
      where
        told : (form : Form) (h : _) → t.value ≡ (form, h) → (more : List ℕ) → line_at header_of (t.used ++ more) ≡ Ok ((form, h), more)
        told form h is more = t.gives more ∙ ap (λ x. Ok (x, more)) is

        by : (form : Form) (h : _) → t.value ≡ (form, h) → IsTold
        by Binary h is = absurd (not_binary text h t.rest (ap (line_at header_of) t.parts ∙ told Binary h is t.rest) ascii)
        by Ascii h is =
            let counts = ascii_counts text h t.rest (ap (line_at header_of) t.parts ∙ told Ascii h is t.rest) in
            in_body h t.used t.rest t.parts t.whole (told Ascii h is) ((lists_sound IsWholeLine IsLine (λ l i. i) (λ l i. i) h counts.0 counts.1).view t.rest)

  pub ascii_fault : (text : List ℕ) (e : ReadFault) → SaysAscii text → IsAsciiFaultOf text e → e.why ≢ why.Undefined → e.why ≢ why.Cycle → IsFirstFault IsWholeLine IsWholeLine IsLine BeginsLists (e.why ≡ why.Truncated) text e.place
  ascii_fault text e ascii f defined acyclic =
      by_header text e f defined acyclic ascii (line_view IsWholeLine IsLine (λ l i. i) (λ l i. i) header_of empty_header BeginsLists nothing_begins text (cut_view 10 text))
