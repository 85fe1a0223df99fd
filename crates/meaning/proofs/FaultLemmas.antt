-- From where a text stops to its first fault.
use Rattle.std.proofs.Common.{◌≡◌, ℕ, zero, suc, take, ◌+◌, ◌-◌, ◌*◌, ◌<◌, List, [], ◌∷◌, ◌++◌, length, length-append, Result, Ok, Err, codes, refl, sym, ap, subst, ◌∙◌, append_assoc, append-nil, inl, inr, ◌⊎◌, arith}
use Rattle.std.specs.Prelude.{All}
use Rattle.std.specs.List.{concat}
use Rattle.std.proofs.lemmas.List.Elements.{All-from_recursion, recursion_from_All}
use Rattle.base.specs.Lines.{IsLine}
use Rattle.base.specs.Decimals.{number_of, capped_value, is_decimal}
use Rattle.aiger.specs.declared.circuit.Latch.{Latch}
use Rattle.aiger.specs.Circuit.{Circuit}
use Rattle.aigertext.specs.declared.fault.Why.{Why}
use Rattle.aigertext.specs.declared.fault.Why.TheVariants as why
use Rattle.aigertext.specs.declared.fault.ReadFault.{ReadFault}
use Rattle.aigertext.specs.declared.forms.Form.{Form}
use Rattle.aigertext.specs.declared.forms.Form.TheVariants.{Ascii, Binary}
use Rattle.aigertext.specs.Worked.{nothing}
use Rattle.aigertext.specs.Reading.{◌>>=◌, stop, nexts_at, properties_at, Properties, gates_at, names_at, nameless, line_at, counts_at, header_fields, header_form, fitting, counts_of, header_of, binary_at, fault_of}
use Rattle.aigertext.specs.AsciiReading.{AnswersHeader, AnswersText, IsAsciiFaultOf}
use Rattle.aigertext.specs.Spelling.{IsAsciiText, IsBinaryText, SpellsCircuit}
use Rattle.meaning.specs.Pieces.{IsWholeLine, IsWholeDelta, IsPartOfDelta, IsLineOrDelta, IsFaulty, IsFirstFault}
use Rattle.meaning.specs.Circuits.{SaysAscii, BeginsCircuit, TakesDelta, IsFirstInBinary}
use Rattle.meaning.proofs.PieceLemmas.{AreWhole, IsRefusedPiece, Stops, no_pieces, more_pieces, wider}
use Rattle.meaning.proofs.ReaderLemmas.{AreBytes, both_bytes, not_both, err_same, Completes, Finishes, Finished, GoesOn, lines, deltas, Took, StopsAt, IsRefused, IsSound}
use Rattle.meaning.proofs.LineLemmas.{cut_view, line_view, low_line}
use Rattle.meaning.proofs.DeltaLemmas.{gates_sound}
use Rattle.meaning.proofs.NameLemmas.{names_view}
use Rattle.meaning.proofs.SectionLemmas.{with_first, leaves_sound, binary_parts}
use Rattle.meaning.proofs.HeaderLemmas.{header_low, empty_header, says_form}

-- ---- what stands before a fault, and what does not go on

-- the answer to a text is a stop for this why
abbrev pub IsRefusedText : Why → List ℕ → Type 0
IsRefusedText w text = (behind : List ℕ) × AnswersText text (Err (stop behind w))

place_behind : (text before behind : List ℕ) → text ≡ before ++ behind → length text - length behind ≡ length before
place_behind text before behind is = let long : length text ≡ length before + length behind = ap (length {A = ℕ}) is ∙ length-append before behind in omega (arith, long)

take_front : (xs ys : List ℕ) → take (length xs) (xs ++ ys) ≡ xs
take_front [] ys = refl
take_front (x ∷ xs) ys = ap (λ (l : List ℕ). x ∷ l) (take_front xs ys)

module _ (IsBefore IsPiece IsPart Refused MayGoOn Begins : List ℕ → Type 0) (wide : (piece : List ℕ) → IsPiece piece → IsBefore piece) (w : Why) (used t text behind : List ℕ) (parts : text ≡ used ++ t) (front : AreWhole IsBefore used)
    (e : ReadFault) (is : e ≡ fault_of text (stop behind w)) (s : Stops IsPiece IsPart Refused MayGoOn (w ≡ why.Truncated) t behind) where
  pub before : List ℕ
  before = used ++ s.before

  cut : text ≡ before ++ behind
  unfolding before
  cut = parts ∙ ap (λ (l : List ℕ). used ++ l) s.parts ∙ sym (append_assoc used s.before behind)

  whole : AreWhole IsBefore before
  unfolding before
  whole = more_pieces IsBefore used s.before front (wider IsPiece IsBefore wide s.before s.whole)

  place_is : length before ≡ e.place
  place_is = sym (place_behind text before behind cut) ∙ ap (λ (f : ReadFault). f.place) (sym is)

  pub taken : take e.place text ≡ used ++ s.before
  unfolding before
  taken = ap (λ (n : ℕ). take n text) (sym place_is) ∙ ap (take (length before)) cut ∙ take_front before behind

  faulty_piece : ((piece : List ℕ) → ((more : List ℕ) → Refused (s.before ++ (piece ++ more))) → ¬ Begins ((used ++ s.before) ++ piece)) → IsRefusedPiece IsPiece Refused s.before behind → IsFaulty IsPiece Begins (concat whole.pieces) behind
  unfolding before
  faulty_piece never f =
      subst (λ (b : List ℕ). IsFaulty IsPiece Begins b behind) whole.are
      (record { piece = f.piece; rest = f.rest; parts = f.parts; is_piece = f.is_piece; none = never f.piece f.again })

  pub first_fault_by : Begins (used ++ s.before) → ((piece : List ℕ) → ((more : List ℕ) → Refused (s.before ++ (piece ++ more))) → ¬ Begins ((used ++ s.before) ++ piece)) → IsFirstFault IsBefore IsPiece IsPart Begins (e.why ≡ why.Truncated) text e.place
  unfolding before
  first_fault_by begins never =
      record {
        pieces = whole.pieces;
        whole = whole.whole;
        behind = behind;
        parts = cut ∙ ap (λ (l : List ℕ). l ++ behind) whole.are;
        is = ap (length {A = ℕ}) (sym whole.are) ∙ place_is;
        begins = subst Begins whole.are begins;
        fault =
            elim s.fault [
              | inl part ↦ inl (ap (λ (f : ReadFault). f.why) is ∙ part.0, part.1)
              | inr f ↦ inr (faulty_piece never f)
            ];
      }

-- ---- the laws of reading

abbrev pub OneAnswer : Type 0
OneAnswer = (text : List ℕ) (a b : Result Circuit _) → AnswersText text a → AnswersText text b → a ≡ b

abbrev pub IsReadLaw : Type 0
IsReadLaw = (text : List ℕ) (c : Circuit) → SpellsCircuit text c → AnswersText text (Ok c)

pub either_read : ((text : List ℕ) (c : Circuit) → IsAsciiText text c → AnswersText text (Ok c)) → ((text : List ℕ) (c : Circuit) → IsBinaryText text c → AnswersText text (Ok c)) → IsReadLaw
either_read ascii binary text c (inl t) = ascii text c t
either_read ascii binary text c (inr t) = binary text c t

-- a text that is refused whatever follows begins no circuit's
pub begins_no_circuit : OneAnswer → IsReadLaw → (w : Why) (before piece : List ℕ) → ((more : List ℕ) → IsRefusedText w (before ++ (piece ++ more))) → ¬ BeginsCircuit (before ++ piece)
begins_no_circuit one reads w before piece again b =
    let text : List ℕ = (before ++ piece) ++ b.more in
    let r = again b.more in
    let refused : AnswersText text (Err (stop r.0 w)) = subst (λ (t : List ℕ). AnswersText t (Err (stop r.0 w))) (sym (append_assoc before piece b.more)) r.1 in
    not_both b.circuit (stop r.0 w) (one text (Ok b.circuit) (Err (stop r.0 w)) (reads text b.circuit b.spells) refused)

front_bytes : (xs ys : List ℕ) → AreBytes (xs ++ ys) → AreBytes xs
front_bytes [] ys h = tt
front_bytes (b ∷ xs) ys h = (h.0, front_bytes xs ys h.1)

-- ---- the header

-- where the header is refused, the text is
pub header_refused : (text : List ℕ) (w : Why) → IsRefused stop (line_at header_of) w text → IsRefusedText w text
unfolding AnswersText
header_refused text w r = (r.0, subst (λ x. AnswersHeader x (Err (stop r.0 w))) (sym r.1) refl)

-- what stands behind a header of the binary form
binary_answers : (text : List ℕ) (h : _) (rest : List ℕ) (a : Result Circuit _) → line_at header_of text ≡ Ok ((Binary, h), rest) → a ≡ binary_at h rest → AnswersText text a
unfolding AnswersText
binary_answers text h rest a header is = subst (λ x. AnswersHeader x a) (sym header) is

binary_answer : (text : List ℕ) (h : _) (rest : List ℕ) (a : Result Circuit _) → line_at header_of text ≡ Ok ((Binary, h), rest) → AnswersText text a → a ≡ binary_at h rest
unfolding AnswersText
binary_answer text h rest a header answers = subst (λ x. AnswersHeader x a) header answers

pub refused_answer : (text : List ℕ) (e : _) (a : Result Circuit _) → line_at header_of text ≡ Err e → AnswersText text a → a ≡ Err e
unfolding AnswersText
refused_answer text e a header answers = subst (λ x. AnswersHeader x a) header answers

-- ---- the binary form

-- a text that is read stands for what it is read as
abbrev pub SpellsBinary : Type 0
SpellsBinary = (text : List ℕ) (c : Circuit) (h : _) (rest : List ℕ) → All (λ b. b < 256) text → line_at header_of text ≡ Ok ((Binary, h), rest) → AnswersText text (Ok c) → IsBinaryText text c

-- a text of nothing, which an empty one begins
pub empty_text : SpellsBinary → IsBinaryText (codes "aig 0 0 0 0 0\n") nothing
unfolding AnswersText binary_at properties_at header_fields header_form fitting counts_of number_of capped_value is_decimal
empty_text spells =
    let text : List ℕ = codes "aig 0 0 0 0 0\n" in
    spells text nothing (counts_at (0 ∷ 0 ∷ 0 ∷ 0 ∷ 0 ∷ [])) [] (All-from_recursion (λ b. b < 256) text (omega arith)) refl refl

pub begins_empty : SpellsBinary → BeginsCircuit []
begins_empty spells = record { more = codes "aig 0 0 0 0 0\n"; circuit = nothing; spells = inr (empty_text spells) }

-- ---- how far a text is read

-- what is answered to a text behind some bytes
record Reaches (used : List ℕ) (K : List ℕ → Result Circuit _) : Type 0 where
  answers : (t : List ℕ) (a : Result Circuit _) → a ≡ K t → AnswersText (used ++ t) a
  back : (t : List ℕ) (a : Result Circuit _) → AnswersText (used ++ t) a → a ≡ K t
  spelled : (t : List ℕ) (c : Circuit) → AreBytes (used ++ t) → K t ≡ Ok c → SpellsCircuit (used ++ t) c

reaches_on : (used more : List ℕ) (K J : List ℕ → Result Circuit _) → ((t : List ℕ) → K (more ++ t) ≡ J t) → Reaches used K → Reaches (used ++ more) J
reaches_on used more K J on r =
    record {
      answers = λ t a is. subst (λ (x : List ℕ). AnswersText x a) (sym (append_assoc used more t)) (r.answers (more ++ t) a (is ∙ sym (on t)));
      back = λ t a answers. r.back (more ++ t) a (subst (λ (x : List ℕ). AnswersText x a) (append_assoc used more t) answers) ∙ on t;
      spelled = λ t c bytes is. subst (λ (x : List ℕ). SpellsCircuit x c) (sym (append_assoc used more t)) (r.spelled (more ++ t) c (subst AreBytes (append_assoc used more t) bytes) (on t ∙ is));
    }

refused_by : (used : List ℕ) (K : List ℕ → Result Circuit _) → Reaches used K → (w : Why) (t : List ℕ) → (behind : List ℕ) × (K t ≡ Err (stop behind w)) → IsRefusedText w (used ++ t)
refused_by used K r w t x = (x.0, r.answers t (Err (stop x.0 w)) (sym x.1))

begins_by : (used : List ℕ) (K : List ℕ → Result Circuit _) → Reaches used K → (t : List ℕ) → AreBytes (used ++ t) → Finishes K t → BeginsCircuit (used ++ t)
begins_by used K r t bytes f =
    record {
      more = f.more;
      circuit = f.value;
      spells = subst (λ (x : List ℕ). SpellsCircuit x f.value) (sym (append_assoc used t f.more)) (r.spelled (t ++ f.more) f.value (subst AreBytes (append_assoc used t f.more) (both_bytes (used ++ t) f.more bytes f.bytes)) f.gives);
    }

-- bytes with which a text is refused whatever follows begin none
refused_low : OneAnswer → IsReadLaw → (text : List ℕ) (b : ℕ) → ((more : List ℕ) → (w : Why) × IsRefusedText w (text ++ b ∷ more)) → ¬ BeginsCircuit (text ++ b ∷ [])
refused_low one reads text b refused c =
    let r = refused c.more in
    let answers : AnswersText ((text ++ b ∷ []) ++ c.more) (Err (stop r.1.0 r.0)) = subst (λ (x : List ℕ). AnswersText x (Err (stop r.1.0 r.0))) (sym (append_assoc text (b ∷ []) c.more)) r.1.1 in
    not_both c.circuit (stop r.1.0 r.0) (one ((text ++ b ∷ []) ++ c.more) (Ok c.circuit) (Err (stop r.1.0 r.0)) (reads ((text ++ b ∷ []) ++ c.more) c.circuit c.spells) answers)

no_delta : OneAnswer → IsReadLaw → (text : List ℕ) → ((b : ℕ) → b < 2 → (more : List ℕ) → (w : Why) × IsRefusedText w (text ++ b ∷ more)) → ¬ TakesDelta text
no_delta one reads text refused (inl zero') = refused_low one reads text 0 (refused 0 (omega arith)) zero'
no_delta one reads text refused (inr one') = refused_low one reads text 1 (refused 1 (omega arith)) one'

a_delta : (text : List ℕ) (b : ℕ) → b < 2 → BeginsCircuit (text ++ b ∷ []) → TakesDelta text
a_delta text zero small begins = inl begins
a_delta text (suc zero) small begins = inr begins
a_delta text (suc (suc b)) small begins = absurd (omega (arith, small))

-- at the front of a text no delta stands, and no circuit is spelled
pub no_delta_first : OneAnswer → IsReadLaw → ¬ TakesDelta []
no_delta_first one reads = no_delta one reads [] (λ b small more. let n = low_line header_of header_low b small more in (n.0, header_refused (b ∷ more) n.0 n.1))

pub nothing_spelled : OneAnswer → IsReadLaw → (c : Circuit) → SpellsCircuit [] c → ⊥
unfolding AnswersText
nothing_spelled one reads c spells = not_both c (stop [] why.Truncated) (one [] (Ok c) (Err (stop [] why.Truncated)) (reads [] c spells) refl)

-- ---- where reading a text that is not of the ascii form stops

module _ (one : OneAnswer) (reads : IsReadLaw) (spells : SpellsBinary) (text : List ℕ) (e : ReadFault) (bytes : AreBytes text) (f : IsAsciiFaultOf text e) where
  abbrev IsTold : Type 0
  IsTold = IsFirstInBinary (e.why ≡ why.Truncated) text e.place

  -- behind bytes
  module _ (used t : List ℕ) (K : List ℕ → Result Circuit _) (r : Reaches used K) (parts : text ≡ used ++ t) where
    at_stop : (w : Why) (behind : List ℕ) → K t ≡ Err (stop behind w) → e ≡ fault_of text (stop behind w)
    at_stop w behind stopped =
        f.is ∙ ap (fault_of text) (err_same f.stop (stop behind w) (r.back t (Err f.stop) (subst (λ (x : List ℕ). AnswersText x (Err f.stop)) parts f.stops) ∙ stopped))

    front_of : (x y : List ℕ) → t ≡ x ++ y → AreBytes (used ++ x)
    front_of x y is = front_bytes (used ++ x) y (subst AreBytes (parts ∙ ap (λ (l : List ℕ). used ++ l) is ∙ sym (append_assoc used x y)) bytes)

    -- the first fault, of a reader that K begins with
    module _ (IsBefore IsPiece IsPart Refused MayGoOn : List ℕ → Type 0) (wide : (piece : List ℕ) → IsPiece piece → IsBefore piece) (w : Why) (behind : List ℕ) (front : AreWhole IsBefore used) (is : e ≡ fault_of text (stop behind w))
        (s : Stops IsPiece IsPart Refused MayGoOn (w ≡ why.Truncated) t behind) (refuse : (x : List ℕ) → Refused x → (b : List ℕ) × (K x ≡ Err (stop b w))) where
      told : BeginsCircuit (used ++ s.before) → IsFirstFault IsBefore IsPiece IsPart BeginsCircuit (e.why ≡ why.Truncated) text e.place
      told begins =
          first_fault_by IsBefore IsPiece IsPart Refused MayGoOn BeginsCircuit wide w used t text behind parts front e is s begins
          (λ piece again.
          begins_no_circuit one reads w (used ++ s.before) piece
          (λ more. subst (IsRefusedText w) (sym (append_assoc used s.before (piece ++ more))) (refused_by used K r w (s.before ++ (piece ++ more)) (refuse (s.before ++ (piece ++ more)) (again more)))))

      at_front : (P : List ℕ → Type 0) → P (used ++ s.before) → P (take e.place text)
      at_front P p = subst P (sym (taken IsBefore IsPiece IsPart Refused MayGoOn BeginsCircuit wide w used t text behind parts front e is s)) p

  -- in the header
  abbrev HeaderGoesOn : List ℕ → Type 0
  HeaderGoesOn x = (AreBytes x → BeginsCircuit x) × ¬ TakesDelta x

  in_header : StopsAt stop IsWholeLine IsLine (line_at header_of) HeaderGoesOn text → IsTold
  unfolding IsFirstInBinary
  in_header s =
      let w = s.because in
      let same : e ≡ fault_of text (stop s.behind w) = f.is ∙ ap (fault_of text) (err_same f.stop (stop s.behind w) (refused_answer text (stop s.behind w) (Err f.stop) s.stopped f.stops)) in
      let x = s.stops in
      let begins : BeginsCircuit x.before = x.may_go_on.0 (front_bytes x.before s.behind (subst AreBytes x.parts bytes)) in
      let Refused : List ℕ → Type 0 = IsRefused stop (line_at header_of) w in
      let first =
      first_fault_by IsWholeLine IsWholeLine IsLine Refused HeaderGoesOn BeginsCircuit (λ p i. i) w [] text text s.behind refl (no_pieces IsWholeLine) e same x begins
      (λ piece again. begins_no_circuit one reads w x.before piece (λ more. header_refused (x.before ++ (piece ++ more)) w (again more))) in
      inl (
        subst (λ (y : List ℕ). ¬ TakesDelta y) (sym (taken IsWholeLine IsWholeLine IsLine Refused HeaderGoesOn BeginsCircuit (λ p i. i) w [] text text s.behind refl (no_pieces IsWholeLine) e same x)) x.may_go_on.1,
        first,
      )

  -- behind a header of the binary form
  module _ (h : _) (head t0 : List ℕ) (parts0 : text ≡ head ++ t0) (lines0 : AreWhole IsWholeLine head) (gives0 : (more : List ℕ) → line_at header_of (head ++ more) ≡ Ok ((Binary, h), more)) where
    reaches0 : Reaches head (binary_at h)
    reaches0 =
        record {
          answers = λ t a is. binary_answers (head ++ t) h t a (gives0 t) is;
          back = λ t a answers. binary_answer (head ++ t) h t a (gives0 t) answers;
          spelled = λ t c all is.
              inr (spells (head ++ t) c h t (All-from_recursion (λ b. b < 256) (head ++ t) all) (gives0 t) (binary_answers (head ++ t) h t (Ok c) (gives0 t) (sym is)));
        }

    abbrev first_gate : ℕ
    first_gate = 2 * suc (h.inputs + h.latches)

    some : 0 < first_gate
    some = omega arith

    gates_first : (own : ℕ) → 0 < own → IsSound stop deltas IsWholeDelta IsPartOfDelta (gates_at own h.gates)
    gates_first own pos = gates_sound IsWholeDelta IsPartOfDelta (λ p i. i) (λ p i. i) h.gates own pos

    -- in the leaves
    in_leaves : StopsAt stop IsWholeLine IsLine (λ t. nexts_at (2 * h.variables + 1) (2 * suc h.inputs) h.latches t >>= (λ l. properties_at h l.1 >>= (λ p. with_first l.0 p)))
        (GoesOn stop lines (λ t. nexts_at (2 * h.variables + 1) (2 * suc h.inputs) h.latches t >>= (λ l. properties_at h l.1 >>= (λ p. with_first l.0 p)))) t0 → IsTold
    unfolding IsFirstInBinary
    in_leaves s =
        let w = s.because in
        let x = s.stops in
        let same = at_stop head t0 (binary_at h) reaches0 parts0 w s.behind (refuses w t0 (s.behind, s.stopped)).1 in
        let Refused : List ℕ → Type 0 = IsRefused stop (λ t. nexts_at (2 * h.variables + 1) (2 * suc h.inputs) h.latches t >>= (λ l. properties_at h l.1 >>= (λ p. with_first l.0 p))) w in
        let MayGoOn : List ℕ → Type 0 = GoesOn stop lines (λ t. nexts_at (2 * h.variables + 1) (2 * suc h.inputs) h.latches t >>= (λ l. properties_at h l.1 >>= (λ p. with_first l.0 p))) in
        inl (
          at_front head t0 (binary_at h) reaches0 parts0 IsWholeLine IsWholeLine IsLine Refused MayGoOn (λ p i. i) w s.behind lines0 same x (refuses w) (λ y. ¬ TakesDelta y) (low x.before x.may_go_on),
          told head t0 (binary_at h) reaches0 parts0 IsWholeLine IsWholeLine IsLine Refused MayGoOn (λ p i. i) w s.behind lines0 same x (refuses w)
              (begins_by head (binary_at h) reaches0 x.before (front_of head t0 (binary_at h) reaches0 parts0 x.before s.behind x.parts) (finishes x.before x.may_go_on.completes)),
        )
      where
        refuses : (w : Why) (t : List ℕ) → IsRefused stop (λ t. nexts_at (2 * h.variables + 1) (2 * suc h.inputs) h.latches t >>= (λ l. properties_at h l.1 >>= (λ p. with_first l.0 p))) w t → (b : List ℕ) × (binary_at h t ≡ Err (stop b w))
        refuses w t r = (r.0, binary_parts h t ∙ ap (λ y. y >>= (λ x. gates_at first_gate h.gates x.1 >>= (λ g. names_at (nameless h.inputs x.0.0 x.0.1 g.0) g.1))) r.1)

        finishes : (t : List ℕ) → Completes (λ t. nexts_at (2 * h.variables + 1) (2 * suc h.inputs) h.latches t >>= (λ l. properties_at h l.1 >>= (λ p. with_first l.0 p))) t → Finishes (binary_at h) t
        finishes t c =
            let d = (gates_first first_gate some).completes in
            record {
              more = c.more ++ (d.more ++ []);
              bytes = both_bytes c.more (d.more ++ []) c.bytes (both_bytes d.more [] d.bytes tt);
              value = nameless h.inputs c.value.0 c.value.1 d.value;
              gives = binary_parts h (t ++ (c.more ++ (d.more ++ [])))
                  ∙ ap (λ y. y >>= (λ x. gates_at first_gate h.gates x.1 >>= (λ g. names_at (nameless h.inputs x.0.0 x.0.1 g.0) g.1))) (c.gives (d.more ++ []))
                  ∙ ap (λ y. y >>= (λ g. names_at (nameless h.inputs c.value.0 c.value.1 g.0) g.1)) (d.gives []);
            }

        low : (t : List ℕ) → GoesOn stop lines (λ t. nexts_at (2 * h.variables + 1) (2 * suc h.inputs) h.latches t >>= (λ l. properties_at h l.1 >>= (λ p. with_first l.0 p))) t → ¬ TakesDelta (head ++ t)
        low t g = no_delta one reads (head ++ t) (λ b small more.
            let n = g.next b small more in
            (n.0, subst (IsRefusedText n.0) (sym (append_assoc head t (b ∷ more))) (refused_by head (binary_at h) reaches0 n.0 (t ++ b ∷ more) (refuses n.0 (t ++ b ∷ more) n.1))))

    -- behind the leaves
    module _ (l : List Latch) (p : Properties) (used1 t1 : List ℕ) (parts1 : text ≡ used1 ++ t1) (lines1 : AreWhole IsWholeLine used1) (reaches1 : Reaches used1 (λ t. gates_at first_gate h.gates t >>= (λ g. names_at (nameless h.inputs l p g.0) g.1))) where
      in_gates : StopsAt stop IsWholeDelta IsPartOfDelta (gates_at first_gate h.gates) (GoesOn stop deltas (gates_at first_gate h.gates)) t1 → IsTold
      unfolding IsFirstInBinary
      in_gates s =
          let w = s.because in
          let x = s.stops in
          let K : List ℕ → Result Circuit _ = λ t. gates_at first_gate h.gates t >>= (λ g. names_at (nameless h.inputs l p g.0) g.1) in
          let same = at_stop used1 t1 K reaches1 parts1 w s.behind (refuses w t1 (s.behind, s.stopped)).1 in
          let Refused : List ℕ → Type 0 = IsRefused stop (gates_at first_gate h.gates) w in
          let MayGoOn : List ℕ → Type 0 = GoesOn stop deltas (gates_at first_gate h.gates) in
          let front = wider IsWholeLine IsLineOrDelta (λ p i. inl i) used1 lines1 in
          let all = front_of used1 t1 K reaches1 parts1 x.before s.behind x.parts in
          inr (
          inl (
            at_front used1 t1 K reaches1 parts1 IsLineOrDelta IsWholeDelta IsPartOfDelta Refused MayGoOn (λ p i. inr i) w s.behind front same x (refuses w) TakesDelta (takes x.before all x.may_go_on),
            told used1 t1 K reaches1 parts1 IsLineOrDelta IsWholeDelta IsPartOfDelta Refused MayGoOn (λ p i. inr i) w s.behind front same x (refuses w) (gate_begins x.before all x.may_go_on.completes),
          )
          )
        where
          refuses : (w : Why) (t : List ℕ) → IsRefused stop (gates_at first_gate h.gates) w t → (b : List ℕ) × ((gates_at first_gate h.gates t >>= (λ g. names_at (nameless h.inputs l p g.0) g.1)) ≡ Err (stop b w))
          refuses w t r = (r.0, ap (λ y. y >>= (λ g. names_at (nameless h.inputs l p g.0) g.1)) r.1)

          gate_begins : (t : List ℕ) → AreBytes (used1 ++ t) → Completes (gates_at first_gate h.gates) t → BeginsCircuit (used1 ++ t)
          gate_begins t all c =
              begins_by used1 _ reaches1 t all
              (record { more = c.more ++ []; bytes = both_bytes c.more [] c.bytes tt; value = nameless h.inputs l p c.value; gives = ap (λ y. y >>= (λ g. names_at (nameless h.inputs l p g.0) g.1)) (c.gives []) })

          takes : (t : List ℕ) → AreBytes (used1 ++ t) → GoesOn stop deltas (gates_at first_gate h.gates) t → TakesDelta (used1 ++ t)
          takes t all g =
              let b = g.next.0 in
              let small = g.next.1.0 in
              let bytes' : AreBytes (used1 ++ (t ++ b ∷ [])) = subst AreBytes (append_assoc used1 t (b ∷ [])) (both_bytes (used1 ++ t) (b ∷ []) all (omega (arith, small), tt)) in
              a_delta (used1 ++ t) b small (subst BeginsCircuit (sym (append_assoc used1 t (b ∷ []))) (gate_begins (t ++ b ∷ []) bytes' g.next.1.1))

      -- behind the gates
      module _ (c : Circuit) (used2 t2 : List ℕ) (parts2 : text ≡ used2 ++ t2) (front2 : AreWhole IsLineOrDelta used2) (reaches2 : Reaches used2 (names_at c)) where
        in_names : ((d : Circuit) × (names_at c t2 ≡ Ok d)) ⊎ StopsAt stop IsWholeLine IsLine (names_at c) (Finished (names_at c)) t2 → IsTold
        unfolding IsFirstInBinary
        in_names (inl d) = absurd (not_both d.0 f.stop (sym (reaches2.back t2 (Err f.stop) (subst (λ (x : List ℕ). AnswersText x (Err f.stop)) parts2 f.stops) ∙ d.1)))
        in_names (inr s) =
            let w = s.because in
            let x = s.stops in
            let same = at_stop used2 t2 (names_at c) reaches2 parts2 w s.behind s.stopped in
            let Refused : List ℕ → Type 0 = IsRefused stop (names_at c) w in
            let all = front_of used2 t2 (names_at c) reaches2 parts2 x.before s.behind x.parts in
            let d = x.may_go_on in
            let spells_it : SpellsCircuit (used2 ++ x.before) d.value = reaches2.spelled x.before d.value all d.gives in
            inr (
            inr (
              at_front used2 t2 (names_at c) reaches2 parts2 IsLineOrDelta IsWholeLine IsLine Refused (Finished (names_at c)) (λ p i. inl i) w s.behind front2 same x (λ y r. r) (λ y. (d : Circuit) × SpellsCircuit y d) (d.value, spells_it),
              told used2 t2 (names_at c) reaches2 parts2 IsLineOrDelta IsWholeLine IsLine Refused (Finished (names_at c)) (λ p i. inl i) w s.behind front2 same x (λ y r. r)
                  (record { more = []; circuit = d.value; spells = subst (λ (y : List ℕ). SpellsCircuit y d.value) (sym (append-nil (used2 ++ x.before))) spells_it }),
            )
            )

      by_gates : Took IsWholeDelta (gates_at first_gate h.gates) t1 ⊎ StopsAt stop IsWholeDelta IsPartOfDelta (gates_at first_gate h.gates) (GoesOn stop deltas (gates_at first_gate h.gates)) t1 → IsTold
      by_gates (inr s) = in_gates s
      by_gates (inl g) =
          in_names (nameless h.inputs l p g.value) (used1 ++ g.used) g.rest (parts1 ∙ ap (λ (y : List ℕ). used1 ++ y) g.parts ∙ sym (append_assoc used1 g.used g.rest))
          (more_pieces IsLineOrDelta used1 g.used (wider IsWholeLine IsLineOrDelta (λ p i. inl i) used1 lines1) (wider IsWholeDelta IsLineOrDelta (λ p i. inr i) g.used g.whole))
          (reaches_on used1 g.used _ (names_at (nameless h.inputs l p g.value)) (λ t. ap (λ y. y >>= (λ g. names_at (nameless h.inputs l p g.0) g.1)) (g.gives t)) reaches1)
          (names_view IsWholeLine IsLine (λ p i. i) (λ p i. i) (nameless h.inputs l p g.value) g.rest)

    by_leaves : Took IsWholeLine (λ t. nexts_at (2 * h.variables + 1) (2 * suc h.inputs) h.latches t >>= (λ l. properties_at h l.1 >>= (λ p. with_first l.0 p))) t0
        ⊎ StopsAt stop IsWholeLine IsLine (λ t. nexts_at (2 * h.variables + 1) (2 * suc h.inputs) h.latches t >>= (λ l. properties_at h l.1 >>= (λ p. with_first l.0 p)))
        (GoesOn stop lines (λ t. nexts_at (2 * h.variables + 1) (2 * suc h.inputs) h.latches t >>= (λ l. properties_at h l.1 >>= (λ p. with_first l.0 p)))) t0
        → IsTold
    by_leaves (inr s) = in_leaves s
    by_leaves (inl v) =
        by_gates v.value.0 v.value.1 (head ++ v.used) v.rest (parts0 ∙ ap (λ (y : List ℕ). head ++ y) v.parts ∙ sym (append_assoc head v.used v.rest)) (more_pieces IsWholeLine head v.used lines0 v.whole)
        (reaches_on head v.used (binary_at h) _
        (λ t. binary_parts h (v.used ++ t) ∙ ap (λ y. y >>= (λ x. gates_at first_gate h.gates x.1 >>= (λ g. names_at (nameless h.inputs x.0.0 x.0.1 g.0) g.1))) (v.gives t)) reaches0)
        ((gates_first first_gate some).view v.rest)

  by_header : ¬ SaysAscii text → Took IsWholeLine (line_at header_of) text ⊎ StopsAt stop IsWholeLine IsLine (line_at header_of) HeaderGoesOn text → IsTold
  by_header other (inr s) = in_header s
  by_header other (inl v) = by v.value.0 v.value.1 refl
    where
      given : (form : Form) (h : _) → v.value ≡ (form, h) → (more : List ℕ) → line_at header_of (v.used ++ more) ≡ Ok ((form, h), more)
      given form h is more = v.gives more ∙ ap (λ x. Ok (x, more)) is

      by : (form : Form) (h : _) → v.value ≡ (form, h) → IsTold
      by Ascii h is =
          let a = says_form text Ascii h v.rest (ap (line_at header_of) v.parts ∙ given Ascii h is v.rest) in
          absurd (other (record { rest = a.0; is = a.1 }))
      by Binary h is = by_leaves h v.used v.rest v.parts v.whole (given Binary h is) ((leaves_sound IsWholeLine IsLine (λ p i. i) (λ p i. i) h).view v.rest)

  header_goes_on : HeaderGoesOn []
  header_goes_on = ((λ none. begins_empty spells), no_delta_first one reads)

  told_binary : ¬ SaysAscii text → IsTold
  told_binary other = by_header other (line_view IsWholeLine IsLine (λ p i. i) (λ p i. i) header_of empty_header HeaderGoesOn header_goes_on text (cut_view 10 text))

pub binary_fault : OneAnswer → IsReadLaw → SpellsBinary → (text : List ℕ) (e : ReadFault) → All (λ b. b < 256) text → ¬ SaysAscii text → IsAsciiFaultOf text e → IsFirstInBinary (e.why ≡ why.Truncated) text e.place
binary_fault one reads spells text e bytes other f = told_binary one reads spells text e (recursion_from_All (λ b. b < 256) text bytes) f other
