-- Whole pieces behind whole pieces, and where a text stops behind some.
use Rattle.std.proofs.Common.{◌≡◌, ℕ, List, [], ◌∷◌, ◌++◌, All, refl, sym, ap, subst, ◌∙◌, append_assoc, append-nil, inl, inr, ◌⊎◌}
use Rattle.std.specs.List.{concat}
use Rattle.std.proofs.lemmas.List.Elements.{All-nil, All-cons, All-append, All-weaker}

-- bytes are whole pieces
pub record AreWhole (IsPiece : List ℕ → Type 0) (bytes : List ℕ) : Type 0 where
  pub pieces : List (List ℕ)
  pub whole : All IsPiece pieces
  pub are : bytes ≡ concat pieces

pub no_pieces : (IsPiece : List ℕ → Type 0) → AreWhole IsPiece []
no_pieces IsPiece = record { pieces = []; whole = All-nil IsPiece; are = refl }

pub one_piece : (IsPiece : List ℕ → Type 0) (piece : List ℕ) → IsPiece piece → AreWhole IsPiece piece
one_piece IsPiece piece is = record { pieces = piece ∷ []; whole = All-cons IsPiece piece [] is (All-nil IsPiece); are = sym (append-nil piece) }

pub concat_both : (xs ys : List (List ℕ)) → concat (xs ++ ys) ≡ concat xs ++ concat ys
concat_both [] ys = refl
concat_both (x ∷ xs) ys = ap (λ (l : List ℕ). x ++ l) (concat_both xs ys) ∙ sym (append_assoc x (concat xs) (concat ys))

pub more_pieces : (IsPiece : List ℕ → Type 0) (front back : List ℕ) → AreWhole IsPiece front → AreWhole IsPiece back → AreWhole IsPiece (front ++ back)
more_pieces IsPiece front back f b =
    record {
      pieces = f.pieces ++ b.pieces;
      whole = All-append IsPiece f.pieces b.pieces f.whole b.whole;
      are = ap (λ (l : List ℕ). l ++ back) f.are ∙ ap (λ (l : List ℕ). concat f.pieces ++ l) b.are ∙ sym (concat_both f.pieces b.pieces);
    }

pub wider : (IsPiece IsBefore : List ℕ → Type 0) → ((piece : List ℕ) → IsPiece piece → IsBefore piece) → (bytes : List ℕ) → AreWhole IsPiece bytes → AreWhole IsBefore bytes
wider IsPiece IsBefore wide bytes a = record { pieces = a.pieces; whole = All-weaker IsPiece IsBefore wide a.pieces a.whole; are = a.are }

-- behind some bytes a piece stands with which each text is refused
pub record IsRefusedPiece (IsPiece Refused : List ℕ → Type 0) (before behind : List ℕ) : Type 0 where
  pub piece : List ℕ
  pub rest : List ℕ
  pub parts : behind ≡ piece ++ rest
  pub is_piece : IsPiece piece
  pub again : (more : List ℕ) → Refused (before ++ (piece ++ more))

-- a text stops behind whole pieces, with which it may go on
pub record Stops (IsPiece IsPart Refused MayGoOn : List ℕ → Type 0) (told : Type 0) (text behind : List ℕ) : Type 0 where
  pub before : List ℕ
  pub parts : text ≡ before ++ behind
  pub whole : AreWhole IsPiece before
  pub may_go_on : MayGoOn before
  pub fault : (told × IsPart behind) ⊎ IsRefusedPiece IsPiece Refused before behind

-- where a text stops at once
pub stops_here : (IsPiece IsPart Refused MayGoOn : List ℕ → Type 0) (told : Type 0) (text : List ℕ) → MayGoOn [] → (told × IsPart text) ⊎ IsRefusedPiece IsPiece Refused [] text → Stops IsPiece IsPart Refused MayGoOn told text text
stops_here IsPiece IsPart Refused MayGoOn told text may fault = record { before = []; parts = refl; whole = no_pieces IsPiece; may_go_on = may; fault = fault }

-- where a text stops behind other pieces
module _ (IsPiece IsPart Refused MayGoOn Refused' MayGoOn' : List ℕ → Type 0) (told : Type 0) (used text whole behind : List ℕ) (parts : whole ≡ used ++ text) (pieces : AreWhole IsPiece used)
    (refuse : (t : List ℕ) → Refused t → Refused' (used ++ t)) (go : (t : List ℕ) → MayGoOn t → MayGoOn' (used ++ t)) where
  refused_behind : (before : List ℕ) → IsRefusedPiece IsPiece Refused before behind → IsRefusedPiece IsPiece Refused' (used ++ before) behind
  refused_behind before f =
      record {
        piece = f.piece;
        rest = f.rest;
        parts = f.parts;
        is_piece = f.is_piece;
        again = λ more. subst Refused' (sym (append_assoc used before (f.piece ++ more))) (refuse (before ++ (f.piece ++ more)) (f.again more));
      }

  pub stops_behind : Stops IsPiece IsPart Refused MayGoOn told text behind → Stops IsPiece IsPart Refused' MayGoOn' told whole behind
  stops_behind s =
      record {
        before = used ++ s.before;
        parts = parts ∙ ap (λ (l : List ℕ). used ++ l) s.parts ∙ sym (append_assoc used s.before behind);
        whole = more_pieces IsPiece used s.before pieces s.whole;
        may_go_on = go s.before s.may_go_on;
        fault =
            elim s.fault [
              | inl part ↦ inl part
              | inr f ↦ inr (refused_behind s.before f)
            ];
      }
