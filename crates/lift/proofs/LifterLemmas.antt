-- What a lifter puts for the bytes that it takes.
use Rattle.std.proofs.Common.{◌≡◌, ℕ, ◌+◌, ◌<◌, ◌^◌, ◌==◌, Bool, true, false, not, List, [], ◌∷◌, ◌++◌, Option, length, take, refl, sym, ap, ap₂, subst, ◌∙◌, append_assoc, append-nil, arith, ◌⊎◌, inl, inr}
use Rattle.std.proofs.lemmas.Bool.{ne_eqb, eq-eqb}
use Rattle.std.proofs.lemmas.List.Concat.{flat_map-append}
use Rattle.base.specs.declared.pen.Pen.{Pen}
use Rattle.base.specs.Lines.{IsLine, text_of_lines, whole_lines, unfinished}
use Rattle.base.specs.Writing.{WritesText}
use Rattle.base.proofs.PenLemmas.{writes_then}
use Rattle.btor2.specs.declared.item.Item.{Item}
use Rattle.aiger.specs.Circuit.{Circuit, IsCircuit}
use Rattle.witness.specs.Readings.{lines_read, reading}
use Rattle.witness.specs.BitAdmits.{admitted_lines, bit_reader}
use Rattle.witness.proofs.TextEndLemmas.{whole_lines-part, unfinished-part, whole_lines-end, unfinished-line_end}
use Rattle.rises.specs.Notes.{NotesBits}
use Rattle.lift.specs.Lifted.{piece, lifted_with}
use Rattle.witness.specs.CutLines.{CutLine, cut_of}
use Rattle.lift.specs.Placed.{Pieces}
use Rattle.lift.specs.Stands.{HasRoom, Lifter, LiftsWith, HasLifted, TakesText, admitted_piece}
use Rattle.lift.proofs.LineLemmas.{lifted_of, line_more, lifted_by_lines}
use Rattle.lift.proofs.AdmitLemmas.{is_admitted, kept_is_piece}

-- ---- bytes that end no line

pub same_lifted : (named : Bool) (items : List Item) (c : Circuit) (text bytes : List ℕ) → IsLine bytes → lifted_with named items c (text ++ bytes) ≡ lifted_with named items c text
same_lifted named items c text bytes is =
    lifted_by_lines named items c (text ++ bytes) ∙ ap (λ (ls : List (List ℕ)). text_of_lines (lifted_of named items c ls)) (whole_lines-part text bytes is) ∙ sym (lifted_by_lines named items c text)

pub lifts_bytes : (named : Bool) (items : List Item) (c : Circuit) (text bytes : List ℕ) (before after : Lifter) → IsLine bytes → LiftsWith named items c before text → after.pieces ≡ before.pieces
    → NotesBits named c after.noter (text ++ bytes) → after.kept ≡ cut_of before.kept.room (unfinished text ++ bytes) → LiftsWith named items c after (text ++ bytes)
lifts_bytes named items c text bytes before after is h same notes keeps =
    let room : after.kept.room ≡ before.kept.room = ap (λ (k : CutLine). k.room) keeps in
    record {
      circuit = h.circuit;
      pieces = same ∙ h.pieces;
      notes = notes;
      kept = keeps ∙ ap₂ cut_of (sym room) (sym (unfinished-part text bytes is));
      room = subst (HasRoom c) (sym room) h.room;
    }

-- ---- the end of a line

few_bads : (c : Circuit) → IsCircuit c → length c.bads < 2 ^ 64
few_bads c valid = omega (arith, valid.few.bads)

admitted_by_lines : (c : Circuit) (text : List ℕ) → admitted_lines c text ≡ (lines_read (bit_reader c) (whole_lines text)).admitted
unfolding reading
admitted_by_lines c text = refl

same_admitted : (c : Circuit) (text bytes : List ℕ) → IsLine bytes → admitted_lines c text ≡ admitted_lines c (text ++ bytes)
same_admitted c text bytes is = admitted_by_lines c text ∙ ap (λ (ls : List (List ℕ)). (lines_read (bit_reader c) ls).admitted) (sym (whole_lines-part text bytes is)) ∙ sym (admitted_by_lines c (text ++ bytes))

lifted_end_by_lines : (named : Bool) (items : List Item) (c : Circuit) (text : List ℕ) → lifted_with named items c (text ++ 10 ∷ []) ≡ text_of_lines (lifted_of named items c (whole_lines text ++ unfinished text ∷ []))
lifted_end_by_lines named items c text = lifted_by_lines named items c (text ++ 10 ∷ []) ∙ ap (λ (ls : List (List ℕ)). text_of_lines (lifted_of named items c ls)) (whole_lines-end text)

admitted_end : (c : Circuit) (text : List ℕ) → admitted_lines c (text ++ 10 ∷ []) ≡ (lines_read (bit_reader c) (whole_lines text ++ unfinished text ∷ [])).admitted
admitted_end c text = admitted_by_lines c (text ++ 10 ∷ []) ∙ ap (λ (ls : List (List ℕ)). (lines_read (bit_reader c) ls).admitted) (whole_lines-end text)

-- bytes are a line, or its first bytes, as many as a line may have that is admitted
abbrev pub AreOf : ℕ → List ℕ → List ℕ → Type 0
AreOf room bytes line = (bytes ≡ take room line) ⊎ (bytes ≡ line)

-- bytes are of this line, over the model and the circuit
record Holds (named : Bool) (items : List Item) (c : Circuit) (l : Lifter) (room : ℕ) (bytes line : List ℕ) : Type 0 where
  circuit : IsCircuit c
  pieces : l.pieces ≡ record { items = items; named = named }
  are : AreOf room bytes line
  enough : HasRoom c room

-- the piece that is put is what is lifted of the line
lifted_end : (named : Bool) (items : List Item) (c : Circuit) (text : List ℕ) (l : Lifter) (room : ℕ) (bytes : List ℕ) → Holds named items c l room bytes (unfinished text)
    → lifted_with named items c (text ++ 10 ∷ []) ≡ lifted_with named items c text ++ text_of_lines (admitted_piece (not (admitted_lines c (text ++ 10 ∷ []) == admitted_lines c text)) l (admitted_lines c text) bytes)
lifted_end named items c text l room bytes h =
    let old : ℕ = admitted_lines c text in
    let new : ℕ = admitted_lines c (text ++ 10 ∷ []) in
    elim (line_more named items c (whole_lines text) (unfinished text)) [
      | inl p ↦
          let same : (new == old) ≡ true = eq-eqb new old (admitted_end c text ∙ p.step.count ∙ sym (admitted_by_lines c text)) in
          lifted_end_by_lines named items c text ∙ ap text_of_lines p.lifted ∙ sym (lifted_by_lines named items c text)
          ∙ sym (append-nil (lifted_with named items c text)) ∙ ap (λ (b : Bool). lifted_with named items c text ++ text_of_lines (admitted_piece (not b) l old bytes)) (sym same)
      | inr a ↦
          let number : old ≡ length (whole_lines text) = admitted_by_lines c text ∙ a.step.before in
          let count : new ≡ length (whole_lines text) + 1 = admitted_end c text ∙ a.step.count in
          let other : (new == old) ≡ false = ne_eqb new old (λ e. omega (arith, number, count, e)) in
          let is : piece named items (length (whole_lines text)) bytes ≡ piece named items (length (whole_lines text)) (unfinished text) =
          elim h.are [
            | inl front ↦
                ap (piece named items (length (whole_lines text))) front
                ∙ kept_is_piece named items c (length (whole_lines text)) room (unfinished text) (few_bads c h.circuit) (is_admitted c (whole_lines text) _ (unfinished text) (few_bads c h.circuit) a.step.going a.step.reads) h.enough
            | inr all ↦ ap (piece named items (length (whole_lines text))) all
          ] in
          let put : admitted_piece (not (new == old)) l old bytes ≡ piece named items (length (whole_lines text)) (unfinished text) =
          ap (λ (b : Bool). admitted_piece (not b) l old bytes) other ∙ ap₂ (λ (p : Pieces) (n : ℕ). piece p.named p.items n bytes) h.pieces number ∙ is in
          lifted_end_by_lines named items c text ∙ ap text_of_lines a.lifted
          ∙ flat_map-append (λ line. line ++ 10 ∷ []) (lifted_of named items c (whole_lines text)) (piece named items (length (whole_lines text)) (unfinished text))
          ∙ ap₂ (λ (x y : List ℕ). x ++ y) (sym (lifted_by_lines named items c text)) (ap text_of_lines (sym put))
    ]

module _ {K : Type 0} (written : K → Option (List ℕ)) (failures : K → ℕ) (s t : K) (pen now_pen : Pen) (text line bytes : List ℕ) (before mid after : Lifter) (number now : ℕ) where
  abbrev whole : List ℕ
  whole = text ++ (line ++ 10 ∷ [])

  abbrev put : List ℕ
  put = text_of_lines (admitted_piece (not (now == number)) mid number bytes)

  module _ (named : Bool) (items : List Item) (c : Circuit) where
    held_line : IsLine line → LiftsWith named items c before text → mid.pieces ≡ before.pieces → AreOf before.kept.room bytes (unfinished text ++ line) → Holds named items c mid before.kept.room bytes (unfinished (text ++ line))
    held_line is h same are =
        record {
          circuit = h.circuit;
          pieces = same ∙ h.pieces;
          are = subst (AreOf before.kept.room bytes) (sym (unfinished-part text line is)) are;
          enough = h.room;
        }

    -- the piece is what the line adds to the lifted text
    adds_piece : IsLine line → Holds named items c mid before.kept.room bytes (unfinished (text ++ line)) → number ≡ admitted_lines c text → now ≡ admitted_lines c whole → lifted_with named items c text ++ put ≡ lifted_with named items c whole
    adds_piece is h n m =
        let joined : (text ++ line) ++ 10 ∷ [] ≡ whole = append_assoc text line (10 ∷ []) in
        let before_end : number ≡ admitted_lines c (text ++ line) = n ∙ same_admitted c text line is in
        let behind_end : now ≡ admitted_lines c ((text ++ line) ++ 10 ∷ []) = m ∙ ap (admitted_lines c) (sym joined) in
        ap (λ (l : List ℕ). l ++ put) (sym (same_lifted named items c text line is))
        ∙ (ap₂ (λ (a b : ℕ). lifted_with named items c (text ++ line) ++ text_of_lines (admitted_piece (not (a == b)) mid b bytes)) behind_end before_end
        ∙ (sym (lifted_end named items c (text ++ line) mid before.kept.room bytes h) ∙ ap (lifted_with named items c) joined))

    -- a line with its end
    pub line_takes : (start : K) (from : Pen) → IsLine line → HasLifted written failures start s from pen named items c before text → mid.pieces ≡ before.pieces → AreOf before.kept.room bytes (unfinished text ++ line)
        → number ≡ admitted_lines c text → now ≡ admitted_lines c whole → WritesText written failures s t pen now_pen put → after.pieces ≡ before.pieces → NotesBits named c after.noter whole → after.kept ≡ cut_of before.kept.room []
        → HasLifted written failures start t from now_pen named items c after whole
    line_takes start from is h same are n m puts pieces_same notes nothing =
        let room : after.kept.room ≡ before.kept.room = ap (λ (k : CutLine). k.room) nothing in
        record {
          lifts = record {
            circuit = h.lifts.circuit;
            pieces = pieces_same ∙ h.lifts.pieces;
            notes = notes;
            kept = nothing ∙ ap₂ cut_of (sym room) (sym (unfinished-line_end text line));
            room = subst (HasRoom c) (sym room) h.lifts.room;
          };
          writes = subst (WritesText written failures start t from now_pen) (adds_piece is (held_line is h.lifts same are) n m) (writes_then h.writes puts);
        }

-- ---- a piece of the witness

-- a front of some bytes was taken, and this rest is left
pub record Took {K : Type 0} (written : K → Option (List ℕ)) (failures : K → ℕ) (s t : K) (pen now : Pen) (before after : Lifter) (bytes rest : List ℕ) : Type 0 where
  pub done : List ℕ
  pub all : done ++ rest ≡ bytes
  pub takes : TakesText written failures s t pen now before after done

module _ {K : Type 0} {written : K → Option (List ℕ)} {failures : K → ℕ} where
  pub took_none : {s : K} {pen : Pen} {l : Lifter} {bytes : List ℕ} → Took written failures s s pen pen l l bytes bytes
  took_none {s} {pen} {l} = record {
    done = [];
    all = refl;
    takes = λ start from named items c text h. subst (HasLifted written failures start s from pen named items c l) (sym (append-nil text)) h;
  }

  pub took_line : {s t u : K} {pen mid now : Pen} {before l after : Lifter} {bytes rest behind : List ℕ} (line : List ℕ) → Took written failures s t pen mid before l bytes rest → rest ≡ line ++ 10 ∷ behind → TakesText written failures t u mid now l after (line ++ 10 ∷ [])
      → Took written failures s u pen now before after bytes behind
  took_line {s} {t} {u} {pen} {mid} {now} {before} {l} {after} {bytes} {rest} {behind} line so cut takes = record {
    done = so.done ++ (line ++ 10 ∷ []);
    all = append_assoc so.done (line ++ 10 ∷ []) behind ∙ ap (λ (l : List ℕ). so.done ++ l) (append_assoc line (10 ∷ []) behind ∙ sym cut) ∙ so.all;
    takes = λ start from named items c text h.
        subst (HasLifted written failures start u from now named items c after) (append_assoc text so.done (line ++ 10 ∷ [])) (takes start from named items c (text ++ so.done) (so.takes start from named items c text h));
  }

  pub took_all : {s t : K} {pen now : Pen} {before l after : Lifter} {bytes rest : List ℕ} → Took written failures s t pen now before l bytes rest → IsLine rest
      → ((named : Bool) (items : List Item) (c : Circuit) (text : List ℕ) → IsLine rest → LiftsWith named items c l text → LiftsWith named items c after (text ++ rest)) → TakesText written failures s t pen now before after bytes
  took_all {s} {t} {pen} {now} {before} {l} {after} {bytes} {rest} so is takes start from named items c text h =
      let one = so.takes start from named items c text h in
      subst (HasLifted written failures start t from now named items c after) (append_assoc text so.done rest ∙ ap (λ (l : List ℕ). text ++ l) so.all)
      (record {
        lifts = takes named items c (text ++ so.done) is one.lifts;
        writes = subst (WritesText written failures start t from now) (sym (same_lifted named items c (text ++ so.done) rest is)) one.writes;
      })
