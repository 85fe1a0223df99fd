use Rattle.std.proofs.Common.{ℕ, ◌≡◌, ◌<◌, true, List, [], ◌∷◌, Some, None, refl}
use Rattle.std.proofs.Math.Dec.{lit<, lit≤}
use Rattle.std.proofs.lemmas.List.Elements.{All-from_recursion, All-nil}
use Rattle.std.specs.Fmt.{digits}
use Rattle.base.specs.Lines.{IsLine}
use Rattle.base.specs.Decimals.{is_decimal, capped_value, number_of}
use Rattle.btor2.specs.Worked.{follower}
use Rattle.witness.specs.Texts.{Shape, shape_of, is_free_index, Assignment, Parts, is_comment, IsAssignment, IsPart, AreParts, IsFreePart}
use Rattle.witness.specs.Readings.{next_line, reading}
use Rattle.witness.specs.Admits.{AtEnd, Read, claims_at, value_of, assignment_at, state_assignment_at, admit}
use Rattle.witness.specs.Worked.{given_zero, follows}
use Rattle.witness.proofs.laws.worked_free_witnesses.Goals as goal

-- all was read of these frames
abbrev all_of : List Parts → Read
all_of frames = record { place = AtEnd; claims = 0 ∷ []; closed = frames; states = None; open_part = [] }

abbrev one : ℕ → ℕ → Assignment
one i x = record { index = i; word = x; symbol = None }

pub returns : goal.returns
unfolding digits reading next_line admit claims_at assignment_at state_assignment_at value_of number_of capped_value is_decimal
returns c =
    record {
      read = (all_of follows.frames, (refl, refl));
      said = let shape : Shape = shape_of follower in
          let inputs : IsPart (1 ∷ []) (one 0 0 ∷ []) =
          record { each = All-from_recursion (IsAssignment (1 ∷ [])) (one 0 0 ∷ []) (record { index = lit< tt; word = lit< tt; symbol = tt }, tt); distinct = refl } in
          let both : IsPart (1 ∷ 1 ∷ []) (one 0 1 ∷ one 1 0 ∷ []) =
          record {
            each = All-from_recursion (IsAssignment (1 ∷ 1 ∷ [])) (one 0 1 ∷ one 1 0 ∷ []) (record { index = lit< tt; word = lit< tt; symbol = tt }, (record { index = lit< tt; word = lit< tt; symbol = tt }, tt));
            distinct = refl;
          } in
          let first : IsPart (1 ∷ 1 ∷ []) (one 0 0 ∷ []) =
          record { each = All-from_recursion (IsAssignment (1 ∷ 1 ∷ [])) (one 0 0 ∷ []) (record { index = lit< tt; word = lit< tt; symbol = tt }, tt); distinct = refl } in
          let second : Parts = record { states = Some (one 0 0 ∷ []); inputs = one 0 0 ∷ [] } in
          let later : AreParts shape (IsFreePart shape) second =
          record {
            states = record { some = refl; part = first; free = All-from_recursion (λ (a : Assignment). is_free_index shape a.index ≡ true) (one 0 0 ∷ []) (refl, tt) };
            inputs = inputs;
          } in
          record {
            comments = [];
            lines = All-nil IsLine;
            marked = All-nil (λ (line : List ℕ). is_comment line ≡ true);
            whole = refl;
            valid =
                record {
                  some_claim = λ e. cc;
                  claims = All-from_recursion (λ i. i < 1) (0 ∷ []) (lit< tt, tt);
                  distinct = refl;
                  frames = (record { states = both; inputs = inputs }, All-from_recursion (AreParts shape (IsFreePart shape)) (second ∷ []) (later, tt));
                };
            few = lit≤ tt;
          };
      empty_part = (all_of (given_zero ∷ record { states = Some []; inputs = [] } ∷ []), (refl, refl));
      not_kept = (all_of (record { states = Some (one 0 1 ∷ []); inputs = [] } ∷ given_zero ∷ record { states = Some (one 0 1 ∷ []); inputs = [] } ∷ []), (refl, refl));
    }
