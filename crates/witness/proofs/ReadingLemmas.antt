-- Lines of a witness of either kind: how far they are admitted, and which whole lines further lines make a whole witness.
use Rattle.std.proofs.Common.{◌≡◌, ℕ, nat_le, Bool, true, false, cond, not, ◌&&◌, Some, None, refl, ◌⊎◌, suc, ◌+◌, ◌<◌, ◌≤◌, List, [], ◌∷◌, ◌++◌, Option, Result, Ok, Err, IfOk, length, append_assoc, length-append, inl, inr, sym, ap, ap₂, subst, ◌∙◌, arith}
use Rattle.witness.specs.Texts.{most_lines}
use Rattle.witness.specs.Readings.{last_refusal, Reader, Reading, so_far, one_more_line, next_line_of, next_line, lines_behind, lines_read, reading, is_nothing, refused_for, read_or_fault, text_read}
use Rattle.std.proofs.lemmas.Bool.{cases_lt, le-leb, lt-leb}
use Rattle.std.proofs.lemmas.List.{append-nil}
use Rattle.base.specs.Lines.{IsLine, text_of_lines, whole_lines, unfinished}
use Rattle.base.proofs.LineLemmas.{EachLine, each_front, lines_are_lines, lines_of_text, parts_of_text, unfinished_of_text, unfinished-lines}
use Rattle.witness.specs.declared.why.Why.{Why}
use Rattle.witness.proofs.TextEndLemmas.{lines_behind_text}
use Rattle.base.proofs.DecimalLemmas.{nothing}
use Rattle.witness.specs.declared.why.Why.TheVariants as why

whole : (ended many empty : Bool) → cond (ended && empty) None (cond (many && not empty) (Some why.TooLong) (cond ended (Some why.Trailing) (Some why.Truncated))) ≡ None → (ended ≡ true) × (empty ≡ true)
whole true many true h = (refl, refl)
whole true true false h = absurd cc
whole true false false h = absurd cc
whole false true true h = absurd cc
whole false false true h = absurd cc
whole false true false h = absurd cc
whole false false false h = absurd cc

-- it is refused, where it does not end a witness
pub whole_is : (ended : Bool) (n : ℕ) (empty : Bool) → last_refusal ended n empty ≡ None → (ended ≡ true) × (empty ≡ true)
whole_is ended n empty h = whole ended (nat_le most_lines n) empty h

-- ---- line by line

-- what holds of what is admitted by a test, by cases
pub by_test : {R : Type 0} (P : R → Type 0) (b : Bool) (x y : Result R Why) → (b ≡ true → IfOk x P) → (b ≡ false → IfOk y P) → IfOk (cond b x y) P
by_test P true x y f g = f refl
by_test P false x y f g = g refl

abbrev pub admit_then : {R : Type 0} → Result R Why → (R → Result R Why) → Result R Why
admit_then (Ok r) others = others r
admit_then (Err w) others = Err w

pub admit_parts : {R : Type 0} → (o : Result R Why) (others : R → Result R Why) (final : R) → admit_then o others ≡ Ok final → (next : R) × ((o ≡ Ok next) × (others next ≡ Ok final))
admit_parts (Ok r) others final h = (r, (refl, h))
admit_parts (Err w) others final h = absurd cc

abbrev pub stopped : {R : Type 0} → ℕ → R → Why → Reading R
stopped n r w = record { admitted = n; read = r; refused = Some w }

-- what some lines say behind those that were read
abbrev pub admit_all : {R : Type 0} → Reader R → R → List (List ℕ) → Result R Why
admit_all reader r [] = Ok r
admit_all reader r (line ∷ lines) = admit_then (reader.admit r line) (λ next. admit_all reader next lines)

-- lines behind n admitted ones are all admitted, or one of them is refused
pub data Goes {R : Type 0} (reader : Reader R) (n : ℕ) (r : R) (lines : List (List ℕ)) : Type 0 where
  On : (final : R) → n + length lines ≤ most_lines → admit_all reader r lines ≡ Ok final → lines_behind reader (so_far n r) lines ≡ so_far (n + length lines) final → Goes reader n r lines
  Until : (m : ℕ) (s : R) (w : Why) → n ≤ m → m < n + length lines → m ≤ most_lines → lines_behind reader (so_far n r) lines ≡ stopped m s w → Goes reader n r lines

module _ {R : Type 0} (reader : Reader R) where
  pub admitted : (r : R) (line : List ℕ) (next : R) (lines : List (List ℕ)) → reader.admit r line ≡ Ok next → admit_all reader r (line ∷ lines) ≡ admit_all reader next lines
  admitted r line next lines h = ap (λ (o : Result R Why). admit_then o (λ s. admit_all reader s lines)) h

  -- lines in front of others that are read
  read_front : (r : R) (front back : List (List ℕ)) (final : R) → admit_all reader r (front ++ back) ≡ Ok final → (middle : R) × (admit_all reader r front ≡ Ok middle)
  read_front r [] back final h = (r, refl)
  read_front r (line ∷ front) back final h =
      let parts = admit_parts (reader.admit r line) (λ next. admit_all reader next (front ++ back)) final h in
      let rest = read_front parts.0 front back final parts.1.1 in
      (rest.0, admitted r line parts.0 front parts.1.0 ∙ rest.1)

  -- lines behind others that are read
  read_behind : (r : R) (front back : List (List ℕ)) (middle : R) → admit_all reader r front ≡ Ok middle → admit_all reader r (front ++ back) ≡ admit_all reader middle back
  read_behind r [] back middle h =
      let is : r ≡ middle = cc in
      ap (λ (s : R). admit_all reader s back) is
  read_behind r (line ∷ front) back middle h =
      let parts = admit_parts (reader.admit r line) (λ next. admit_all reader next front) middle h in
      admitted r line parts.0 (front ++ back) parts.1.0 ∙ read_behind parts.0 front back middle parts.1.1

  -- behind a refused line nothing changes
  pub stays : (n : ℕ) (r : R) (w : Why) (lines : List (List ℕ)) → lines_behind reader (stopped n r w) lines ≡ stopped n r w
  unfolding next_line
  stays n r w [] = refl
  stays n r w (line ∷ lines) = stays n r w lines

  pub lines_append : (g : Reading R) (lines more : List (List ℕ)) → lines_behind reader g (lines ++ more) ≡ lines_behind reader (lines_behind reader g lines) more
  lines_append g [] more = refl
  lines_append g (line ∷ lines) more = lines_append (next_line reader g line) lines more

  pub line_admitted : (n : ℕ) (r : R) (line : List ℕ) (next : R) → n < most_lines → reader.admit r line ≡ Ok next → next_line reader (so_far n r) line ≡ so_far (n + 1) next
  unfolding next_line
  line_admitted n r line next room is = rw (lt-leb most_lines n room, is) refl

  -- lines that are all read are all admitted
  all_count : (n : ℕ) (r : R) (lines : List (List ℕ)) (final : R) → n + length lines ≤ most_lines → admit_all reader r lines ≡ Ok final → lines_behind reader (so_far n r) lines ≡ so_far (n + length lines) final
  all_count n r [] final few h =
      let is : r ≡ final = cc in
      ap₂ (λ (m : ℕ) (s : R). so_far m s) (omega arith) is
  all_count n r (line ∷ lines) final few h =
      let parts = admit_parts (reader.admit r line) (λ next. admit_all reader next lines) final h in
      ap (λ (g : Reading R). lines_behind reader g lines) (line_admitted n r line parts.0 (omega arith) parts.1.0)
      ∙ (all_count (n + 1) parts.0 lines final (omega arith) parts.1.1 ∙ ap (λ (m : ℕ). so_far m final) (omega arith))

  -- one line
  one_goes : (n : ℕ) (r : R) (line : List ℕ)
      → ((next : R) × ((n < most_lines) × ((reader.admit r line ≡ Ok next) × (next_line reader (so_far n r) line ≡ so_far (n + 1) next)))) ⊎ ((w : Why) × (next_line reader (so_far n r) line ≡ stopped n r w))
  unfolding next_line
  one_goes n r line =
      elim (cases_lt n most_lines) [
        | inl room ↦ by room (reader.admit r line) refl
        | inr above ↦ inr (why.TooLong, rw (le-leb most_lines n above) refl)
      ]
    where
      by : n < most_lines → (o : Result R Why) → reader.admit r line ≡ o
          → ((next : R) × ((n < most_lines) × ((reader.admit r line ≡ Ok next) × (next_line reader (so_far n r) line ≡ so_far (n + 1) next)))) ⊎ ((w : Why) × (next_line reader (so_far n r) line ≡ stopped n r w))
      by room (Ok next) is = inl (next, (room, (is, line_admitted n r line next room is)))
      by room (Err w) is = inr (w, rw (lt-leb most_lines n room, is) refl)

  pub goes : (n : ℕ) (r : R) (lines : List (List ℕ)) → n ≤ most_lines → Goes reader n r lines
  goes n r [] few = On r (omega arith) refl (ap (λ (m : ℕ). so_far m r) (omega arith))
  goes n r (line ∷ lines) few =
      elim (one_goes n r line) [
        | inl e ↦
            let room : n < most_lines = e.1.0 in
            further e.0 e.1.1.0 e.1.1.1 (goes (n + 1) e.0 lines (omega arith))
        | inr e ↦ Until n r e.0 (omega arith) (omega arith) few (ap (λ (g : Reading R). lines_behind reader g lines) e.1 ∙ stays n r e.0 lines)
      ]
    where
      further : (next : R) → reader.admit r line ≡ Ok next → next_line reader (so_far n r) line ≡ so_far (n + 1) next → Goes reader (n + 1) next lines → Goes reader n r (line ∷ lines)
      further next is step (On final fewer read behind) =
          On final (omega arith) (admitted r line next lines is ∙ read)
          (ap (λ (g : Reading R). lines_behind reader g lines) step ∙ (behind ∙ ap (λ (m : ℕ). so_far m final) (omega arith)))
      further next is step (Until m s w above below room behind) = Until m s w (omega arith) (omega arith) room (ap (λ (g : Reading R). lines_behind reader g lines) step ∙ behind)

  pub few_read : (lines : List (List ℕ)) → Goes reader 0 reader.nothing lines → (lines_read reader lines).admitted ≤ most_lines
  few_read lines (On final few read is) = omega (arith, few, ap (λ (g : Reading R). g.admitted) is)
  few_read lines (Until m s w above below room is) = omega (arith, room, ap (λ (g : Reading R). g.admitted) is)

  -- what holds of what is read before any line, and with each admitted line
  module _ (Holds : ℕ → R → Type 0) (line_more : (n : ℕ) (r next : R) (line : List ℕ) → reader.admit r line ≡ Ok next → Holds n r → Holds (n + 1) next) where
    holds_next : (g : Reading R) (line : List ℕ) (o : Option Why) → Holds g.admitted g.read → Holds (next_line_of reader g line o).admitted (next_line_of reader g line o).read
    holds_next g line (Some w) h = h
    holds_next g line None h =
        elim (nat_le most_lines g.admitted)
        as (λ b. Holds (cond b (record g { refused = Some why.TooLong }) (one_more_line g (reader.admit g.read line))).admitted (cond b (record g { refused = Some why.TooLong }) (one_more_line g (reader.admit g.read line))).read) [
          | true ↦ h
          | false ↦ by (reader.admit g.read line) refl
        ]
      where
        by : (o : Result R Why) → reader.admit g.read line ≡ o → Holds (one_more_line g o).admitted (one_more_line g o).read
        by (Ok next) is = line_more g.admitted g.read next line is h
        by (Err w) is = h

    pub holds_behind : (g : Reading R) (lines : List (List ℕ)) → Holds g.admitted g.read → Holds (lines_behind reader g lines).admitted (lines_behind reader g lines).read
    unfolding next_line
    holds_behind g [] h = h
    holds_behind g (line ∷ lines) h = holds_behind (next_line reader g line) lines (holds_next g line g.refused h)

  -- ---- whole texts

  -- whole lines that are all read, with the last, are a text's reading
  pub text_is_read : (text : List ℕ) (final : R) → admit_all reader reader.nothing (whole_lines text) ≡ Ok final → reader.ended final ≡ true → unfinished text ≡ [] → length (whole_lines text) ≤ most_lines → text_read reader text ≡ Ok final
  unfolding reading
  text_is_read text final read done rest few =
      ap₂ (λ (g : Reading R) (last : List ℕ). read_or_fault reader.ended g last g.refused) (all_count 0 reader.nothing (whole_lines text) final (omega arith) read) rest ∙ rw done refl

  pub record WasRead (text : List ℕ) (final : R) : Type 0 where
    pub all : admit_all reader reader.nothing (whole_lines text) ≡ Ok final
    pub done : reader.ended final ≡ true
    pub rest : unfinished text ≡ []
    pub few : length (whole_lines text) ≤ most_lines

  read_was : (text : List ℕ) (final : R) → Goes reader 0 reader.nothing (whole_lines text) → text_read reader text ≡ Ok final → WasRead text final
  unfolding reading
  read_was text final (On r few read behind) h =
      let last : List ℕ = unfinished text in
      let n : ℕ = 0 + length (whole_lines text) in
      let here : read_or_fault reader.ended (so_far n r) last None ≡ Ok final = sym (ap (λ (g : Reading R). read_or_fault reader.ended g last g.refused) behind) ∙ h in
      by (last_refusal (reader.ended r) n (is_nothing last)) refl here
    where
      by : (o : Option Why) → last_refusal (reader.ended r) (0 + length (whole_lines text)) (is_nothing (unfinished text)) ≡ o → refused_for (so_far (0 + length (whole_lines text)) r) o ≡ Ok final → WasRead text final
      by (Some w) e h = absurd cc
      by None e h =
          let whole = whole_is (reader.ended r) (0 + length (whole_lines text)) (is_nothing (unfinished text)) e in
          let is : r ≡ final = cc in
          record { all = read ∙ ap Ok is; done = subst (λ (s : R). reader.ended s ≡ true) is whole.0; rest = nothing (unfinished text) whole.1; few = omega arith }
  read_was text final (Until m s w above below room behind) h =
      let here : read_or_fault reader.ended (stopped m s w) (unfinished text) (Some w) ≡ Ok final = sym (ap (λ (g : Reading R). read_or_fault reader.ended g (unfinished text) g.refused) behind) ∙ h in
      absurd (cc here)

  pub text_was_read : (text : List ℕ) (final : R) → text_read reader text ≡ Ok final → WasRead text final
  text_was_read text final h = read_was text final (goes 0 reader.nothing (whole_lines text) (omega arith)) h

  -- what its lines say
  pub was_all_read : (text : List ℕ) (final : R) → text_read reader text ≡ Ok final → (reading reader text).read ≡ final
  unfolding reading
  was_all_read text final h =
      let were = text_was_read text final h in
      let few = were.few in
      ap (λ (g : Reading R). g.read) (all_count 0 reader.nothing (whole_lines text) final (omega (arith, few)) were.all)

  -- ---- beginnings

  -- whole lines that are all admitted are all read
  all_are_read : (lines : List (List ℕ)) → Goes reader 0 reader.nothing lines → (lines_read reader lines).admitted ≡ length lines → (final : R) × (admit_all reader reader.nothing lines ≡ Ok final)
  all_are_read lines (On final few read behind) count = (final, read)
  all_are_read lines (Until m s w above below room behind) count = absurd (omega (arith, below, count, ap (λ (g : Reading R). g.admitted) behind))

  -- of a text that others make one that is read all whole lines are admitted
  pub beginning_is_admitted : (text further : List ℕ) (final : R) → text_read reader (text ++ further) ≡ Ok final → (reading reader text).admitted ≡ length (whole_lines text)
  unfolding reading
  beginning_is_admitted text further final h =
      let were = text_was_read (text ++ further) final h in
      let few = were.few in
      let lines : List (List ℕ) = whole_lines text in
      let behind : List (List ℕ) = whole_lines (unfinished text ++ further) in
      let split = lines_behind_text text further in
      let front = read_front reader.nothing lines behind final (ap (admit_all reader reader.nothing) (sym split) ∙ were.all) in
      ap (λ (g : Reading R). g.admitted) (all_count 0 reader.nothing lines front.0 (omega (arith, few, ap length split, length-append lines behind)) front.1) ∙ omega arith

  -- at most so many lines behind what was read end a witness
  pub record Ends (most : ℕ) (r : R) : Type 0 where
    pub more : List (List ℕ)
    pub lines : EachLine more
    pub few : length more ≤ most
    pub final : R
    pub read : admit_all reader r more ≡ Ok final
    pub done : reader.ended final ≡ true

  pub no_more_lines : (r : R) → reader.ended r ≡ true → Ends 0 r
  no_more_lines r done = record { more = []; lines = tt; few = omega arith; final = r; read = refl; done = done }

  -- a line in front of them
  pub one_line : (most : ℕ) (r : R) (line : List ℕ) (next : R) → IsLine line → reader.admit r line ≡ Ok next → Ends most next → Ends (suc most) r
  one_line most r line next is step rest =
      let few = rest.few in
      record { more = line ∷ rest.more; lines = (is, rest.lines); few = omega arith; final = rest.final; read = admitted r line next rest.more step ∙ rest.read; done = rest.done }

  -- as many more are no fewer
  pub more_lines : (most n : ℕ) (r : R) → most ≤ n → Ends most r → Ends n r
  more_lines most n r less rest =
      let few = rest.few in
      record { more = rest.more; lines = rest.lines; few = omega arith; final = rest.final; read = rest.read; done = rest.done }

  -- at most so many lines more make a text one that is read
  pub record Begins (most : ℕ) (text : List ℕ) : Type 0 where
    pub more : List (List ℕ)
    pub lines : EachLine more
    pub few : length more ≤ most
    pub final : R
    pub read : text_read reader (text ++ text_of_lines more) ≡ Ok final

  module _ (most : ℕ) (each_ends : (lines : List (List ℕ)) (r : R) → length lines ≤ most_lines → admit_all reader reader.nothing lines ≡ Ok r → Ends most r) where
    -- whole lines that are all admitted are the beginning of one
    pub admitted_begins : (text : List ℕ) → unfinished text ≡ [] → length (whole_lines text) + most ≤ most_lines → (reading reader text).admitted ≡ length (whole_lines text) → Begins most text
    unfolding reading
    admitted_begins text ended few all =
        let lines : List (List ℕ) = whole_lines text in
        let were = all_are_read lines (goes 0 reader.nothing lines (omega arith)) all in
        let ends = each_ends lines were.0 (omega (arith, few)) were.1 in
        let short = ends.few in
        let behind : List ℕ = text_of_lines ends.more in
        let together : List (List ℕ) = lines ++ ends.more in
        let whole : whole_lines (text ++ behind) ≡ together =
        lines_behind_text text behind ∙ ap (λ (ls : List (List ℕ)). lines ++ ls) (ap (λ (t : List ℕ). whole_lines (t ++ behind)) ended ∙ lines_of_text ends.more ends.lines) in
        let is_text : text ≡ text_of_lines lines = sym (parts_of_text text) ∙ (ap (λ (t : List ℕ). text_of_lines lines ++ t) ended ∙ append-nil (text_of_lines lines)) in
        let rest : unfinished (text ++ behind) ≡ [] = ap (λ (t : List ℕ). unfinished (t ++ behind)) is_text ∙ (unfinished-lines lines behind ∙ unfinished_of_text ends.more) in
        let read : admit_all reader reader.nothing (whole_lines (text ++ behind)) ≡ Ok ends.final =
        ap (admit_all reader reader.nothing) whole ∙ (read_behind reader.nothing lines ends.more were.0 were.1 ∙ ends.read) in
        let count : length (whole_lines (text ++ behind)) ≤ most_lines = omega (arith, few, short, ap length whole, length-append lines ends.more) in
        record { more = ends.more; lines = ends.lines; few = short; final = ends.final; read = text_is_read (text ++ behind) ends.final read ends.done rest count }

    -- so are the lines before the first that is not admitted
    pub before_begins : (text : List ℕ) (before : List (List ℕ)) (line : List ℕ) (behind : List (List ℕ)) → whole_lines text ≡ before ++ line ∷ behind
        → (reading reader text).admitted ≡ length before → length before + most ≤ most_lines → Begins most (text_of_lines before)
    unfolding reading
    before_begins text before line behind split count few =
        let each : EachLine before = each_front before (line ∷ behind) (subst EachLine split (lines_are_lines text)) in
        let whole : whole_lines (text_of_lines before) ≡ before = lines_of_text before each in
        let nothing : Reading R = so_far 0 reader.nothing in
        let all : (lines_behind reader (lines_behind reader nothing before) (line ∷ behind)).admitted ≡ length before =
        ap (λ (g : Reading R). g.admitted) (sym (ap (lines_behind reader nothing) split ∙ lines_append nothing before (line ∷ behind))) ∙ count in
        admitted_begins (text_of_lines before) (unfinished_of_text before) (omega (arith, few, ap length whole))
        (ap (λ (ls : List (List ℕ)). (lines_behind reader nothing ls).admitted) whole ∙ (in_front before (line ∷ behind) (goes 0 reader.nothing before (omega arith)) all ∙ ap length (sym whole)))
      where
        in_front : (before behind : List (List ℕ)) → Goes reader 0 reader.nothing before → (lines_behind reader (lines_read reader before) behind).admitted ≡ length before
            → (lines_read reader before).admitted ≡ length before
        in_front before behind (On final few read is) all = ap (λ (g : Reading R). g.admitted) is ∙ omega arith
        in_front before behind (Until m s w above below room is) all =
            absurd (omega (arith, below, all, ap (λ (g : Reading R). g.admitted) (ap (λ (g : Reading R). lines_behind reader g behind) is ∙ stays m s w behind)))

  -- with it nothing is
  pub none_begins : (text : List ℕ) (before : List (List ℕ)) (line : List ℕ) (behind : List (List ℕ)) (further : List ℕ) (final : R) → whole_lines text ≡ before ++ line ∷ behind
      → (reading reader text).admitted ≡ length before → text_read reader (text_of_lines (before ++ line ∷ []) ++ further) ≡ Ok final → ⊥
  unfolding reading
  none_begins text before line behind further final split count h =
      let front : List (List ℕ) = before ++ line ∷ [] in
      let joined : whole_lines text ≡ front ++ behind = split ∙ sym (append_assoc before (line ∷ []) behind) in
      let each : EachLine front = each_front front behind (subst EachLine joined (lines_are_lines text)) in
      let whole : whole_lines (text_of_lines front) ≡ front = lines_of_text front each in
      let nothing : Reading R = so_far 0 reader.nothing in
      let all : (lines_behind reader nothing front).admitted ≡ length front =
      ap (λ (ls : List (List ℕ)). (lines_behind reader nothing ls).admitted) (sym whole) ∙ (beginning_is_admitted (text_of_lines front) further final h ∙ ap length whole) in
      let same : (lines_behind reader (lines_behind reader nothing front) behind).admitted ≡ length before =
      ap (λ (g : Reading R). g.admitted) (sym (ap (lines_behind reader nothing) joined ∙ lines_append nothing front behind)) ∙ count in
      too_many front behind (goes 0 reader.nothing front (omega arith)) all (omega (arith, same, length-append before (line ∷ [])))
    where
      behind_all : (n : ℕ) (r : R) (lines : List (List ℕ)) → Goes reader n r lines → n ≤ (lines_behind reader (so_far n r) lines).admitted
      behind_all n r lines (On final few read is) = omega (arith, ap (λ (g : Reading R). g.admitted) is)
      behind_all n r lines (Until m s w above below room is) = omega (arith, above, ap (λ (g : Reading R). g.admitted) is)

      too_many : (front behind : List (List ℕ)) → Goes reader 0 reader.nothing front → (lines_read reader front).admitted ≡ length front
          → (lines_behind reader (lines_read reader front) behind).admitted < length front → ⊥
      too_many front behind (On final few read is) all less =
          let n : ℕ = 0 + length front in
          let least = behind_all n final behind (goes n final behind few) in
          omega (arith, less, least, ap (λ (g : Reading R). (lines_behind reader g behind).admitted) is)
      too_many front behind (Until m s w above below room is) all less = omega (arith, below, all, ap (λ (g : Reading R). g.admitted) is)
