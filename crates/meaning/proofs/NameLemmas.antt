-- Names that are read one after the other to the end of a text.
use Rattle.std.proofs.Common.{◌≡◌, ℕ, true, false, List, [], ◌∷◌, ◌++◌, Result, Ok, Err, codes, if◌then◌else◌, refl, sym, ap, subst, ◌∙◌, append_assoc, inl, inr, ◌⊎◌}
use Rattle.std.specs.Str.{bytes_eq}
use Rattle.std.proofs.lemmas.Bool.{cases_Bool}
use Rattle.base.specs.Lines.{IsLine, text_of_lines, whole_lines, unfinished}
use Rattle.base.proofs.LineLemmas.{EachLine, whole_lines-line, unfinished-line, whole_lines-last, unfinished-last, lines_are_lines, unfinished_is_line, parts_of_text}
use Rattle.aiger.specs.Circuit.{Circuit}
use Rattle.aigertext.specs.declared.fault.Why.{Why}
use Rattle.aigertext.specs.declared.fault.Why.TheVariants as why
use Rattle.aigertext.specs.Reading.{◌>>=◌, stop, said_at_front, name_on, names_on, names_at}
use Rattle.meaning.specs.Pieces.{IsWholeLine}
use Rattle.meaning.proofs.LineLemmas.{whole_line}
use Rattle.meaning.proofs.PieceLemmas.{one_piece, stops_here, stops_behind}
use Rattle.meaning.proofs.ReaderLemmas.{Finished, StopsAt, IsRefused}

-- what a whole line says to what follows it
names_line : (c : Circuit) (line more : List ℕ) → IsLine line
    → names_at c ((line ++ 10 ∷ []) ++ more) ≡ (if bytes_eq line (codes "c") then Ok c else (said_at_front ((line ++ 10 ∷ []) ++ more) (name_on c line) >>= (λ d. names_at d more)))
names_line c line more is =
    let plain = append_assoc line (10 ∷ []) more in
    let whole : whole_lines ((line ++ 10 ∷ []) ++ more) ≡ line ∷ whole_lines more = ap whole_lines plain ∙ whole_lines-line line more is in
    let last : unfinished ((line ++ 10 ∷ []) ++ more) ≡ unfinished more = ap unfinished plain ∙ unfinished-line line more in
    let text : text_of_lines (line ∷ whole_lines more) ++ unfinished more ≡ (line ++ 10 ∷ []) ++ more =
    append_assoc (line ++ 10 ∷ []) (text_of_lines (whole_lines more)) (unfinished more) ∙ ap (λ (l : List ℕ). (line ++ 10 ∷ []) ++ l) (parts_of_text more) in
    ap (λ (ls : List (List ℕ)). names_on c ls (unfinished ((line ++ 10 ∷ []) ++ more))) whole ∙ ap (names_on c (line ∷ whole_lines more)) last
    ∙ ap (λ (t : List ℕ). if bytes_eq line (codes "c") then Ok c else (said_at_front t (name_on c line) >>= (λ d. names_on d (whole_lines more) (unfinished more)))) text

module _ (IsPiece IsPart : List ℕ → Type 0) (line_piece : (bytes : List ℕ) → IsWholeLine bytes → IsPiece bytes) (line_part : (bytes : List ℕ) → IsLine bytes → IsPart bytes) where
  abbrev View : Circuit → List ℕ → Type 0
  View c text = ((d : Circuit) × (names_at c text ≡ Ok d)) ⊎ StopsAt stop IsPiece IsPart (names_at c) (Finished (names_at c)) text

  pub names_finish : (c : Circuit) → Finished (names_at c) []
  names_finish c = record { value = c; gives = refl }

  -- a name, and what is read behind it
  module _ (c : Circuit) (line : List ℕ) (is : IsLine line) (name : bytes_eq line (codes "c") ≡ false) where
    named : (d : Circuit) (more : List ℕ) → name_on c line ≡ Ok d → names_at c ((line ++ 10 ∷ []) ++ more) ≡ names_at d more
    named d more said =
        names_line c line more is
        ∙ (rw name refl)
        ∙ ap (λ (x : Result Circuit Why). said_at_front ((line ++ 10 ∷ []) ++ more) x >>= (λ e. names_at e more)) said

    not_named : (w : Why) (more : List ℕ) → name_on c line ≡ Err w → names_at c ((line ++ 10 ∷ []) ++ more) ≡ Err (stop ((line ++ 10 ∷ []) ++ more) w)
    not_named w more said =
        names_line c line more is
        ∙ (rw name refl)
        ∙ ap (λ (x : Result Circuit Why). said_at_front ((line ++ 10 ∷ []) ++ more) x >>= (λ e. names_at e more)) said

    view_behind : (d : Circuit) (more : List ℕ) → name_on c line ≡ Ok d → View d more → View c ((line ++ 10 ∷ []) ++ more)
    view_behind d more said (inl x) = inl (x.0, named d more said ∙ x.1)
    view_behind d more said (inr s) =
        inr (
        record {
          because = s.because;
          behind = s.behind;
          stopped = named d more said ∙ s.stopped;
          stops = stops_behind IsPiece IsPart (IsRefused stop (names_at d) s.because) (Finished (names_at d)) (IsRefused stop (names_at c) s.because) (Finished (names_at c)) (s.because ≡ why.Truncated) (line ++ 10 ∷ []) more ((line ++ 10 ∷ []) ++ more) s.behind refl
              (one_piece IsPiece (line ++ 10 ∷ []) (line_piece (line ++ 10 ∷ []) (whole_line line is)))
              (λ t r. (r.0, named d t said ∙ r.1))
              (λ t f. record { value = f.value; gives = named d t said ∙ f.gives })
              s.stops;
        }
        )

    view_refused : (w : Why) (more : List ℕ) → name_on c line ≡ Err w → View c ((line ++ 10 ∷ []) ++ more)
    view_refused w more said =
        inr (
        record {
          because = w;
          behind = (line ++ 10 ∷ []) ++ more;
          stopped = not_named w more said;
          stops = stops_here IsPiece IsPart (IsRefused stop (names_at c) w) (Finished (names_at c)) (w ≡ why.Truncated) ((line ++ 10 ∷ []) ++ more) (names_finish c)
              (inr (record { piece = line ++ 10 ∷ []; rest = more; parts = refl; is_piece = line_piece (line ++ 10 ∷ []) (whole_line line is); again = λ m. ((line ++ 10 ∷ []) ++ m, not_named w m said) }));
        }
        )

  view_last : (c : Circuit) (last : List ℕ) → IsLine last → View c last
  view_last c [] is = inl (c, refl)
  view_last c (b ∷ bs) is =
      inr (
      record {
        because = why.Truncated;
        behind = b ∷ bs;
        stopped = ap (λ (ls : List (List ℕ)). names_on c ls (unfinished (b ∷ bs))) (whole_lines-last (b ∷ bs) is) ∙ ap (names_on c []) (unfinished-last (b ∷ bs) is);
        stops = stops_here IsPiece IsPart (IsRefused stop (names_at c) why.Truncated) (Finished (names_at c)) (why.Truncated ≡ why.Truncated) (b ∷ bs) (names_finish c) (inl (refl, line_part (b ∷ bs) is));
      }
      )

  view_lines : (c : Circuit) (lines : List (List ℕ)) (last : List ℕ) → EachLine lines → IsLine last → View c (text_of_lines lines ++ last)
  view_lines c [] last each is = view_last c last is
  view_lines c (line ∷ lines) last each is =
      subst (View c) (sym (append_assoc (line ++ 10 ∷ []) (text_of_lines lines) last)) (by (cases_Bool (bytes_eq line (codes "c"))) (name_on c line) refl (λ d. view_lines d lines last each.1 is))
    where
      by : (bytes_eq line (codes "c") ≡ true) ⊎ (bytes_eq line (codes "c") ≡ false) → (x : Result Circuit Why) → name_on c line ≡ x → ((d : Circuit) → View d (text_of_lines lines ++ last)) → View c ((line ++ 10 ∷ []) ++ (text_of_lines lines ++ last))
      by (inl comment) x said rest = inl (c, names_line c line (text_of_lines lines ++ last) each.0 ∙ rw comment refl)
      by (inr name) (Ok d) said rest = view_behind c line each.0 name d (text_of_lines lines ++ last) said (rest d)
      by (inr name) (Err w) said rest = view_refused c line each.0 name w (text_of_lines lines ++ last) said

  pub names_view : (c : Circuit) (text : List ℕ) → View c text
  names_view c text = subst (View c) (parts_of_text text) (view_lines c (whole_lines text) (unfinished text) (lines_are_lines text) (unfinished_is_line text))
