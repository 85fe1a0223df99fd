-- What was taken of a source, piece by piece.
use Rattle.std.proofs.Common.{ℕ, List, [], ◌++◌, Option, Some, None, IfSome, sym, subst, append_assoc, append-nil}
use Rattle.std.specs.Io.KnownBytes.{Consumes}
use Rattle.std.proofs.KnownBytes.{Consumes-nil, Consumes-trans}
use Rattle.base.specs.Taking.{TakesFront}

pub front_nothing : {V O T : Type 0} (Stands : V → O → T → List ℕ → Type 0) (source : Option (List ℕ)) (o : O) (t : T) → TakesFront Stands source source o o t t
front_nothing Stands source o t = record { front = []; consumes = Consumes-nil source; takes = λ v text h. subst (Stands v o t) (sym (append-nil text)) h }

pub front_more : {V O T : Type 0} {Stands : V → O → T → List ℕ → Type 0} {old mid now : Option (List ℕ)} {o o' o'' : O} {before between after : T} {piece : List ℕ} → TakesFront Stands old mid o o' before between → Consumes mid now piece
    → ((v : V) (text : List ℕ) → Stands v o' between text → Stands v o'' after (text ++ piece)) → TakesFront Stands old now o o'' before after
front_more {Stands = Stands} {old = old} {mid = mid} {now = now} {o'' = o''} {after = after} {piece = piece} taken consumes takes =
    record {
      front = taken.front ++ piece;
      consumes = Consumes-trans old mid now taken.front piece taken.consumes consumes;
      takes = λ v text h. subst (Stands v o'' after) (append_assoc text taken.front piece) (takes v (text ++ taken.front) (taken.takes v text h));
    }

-- of a front of what a source gives something holds, whatever follows
pub part_given : (old now : Option (List ℕ)) (front : List ℕ) (P : List ℕ → Type 0) → Consumes old now front → ((rest : List ℕ) → P (front ++ rest)) → IfSome old P
part_given None now front P a h = tt
part_given (Some xs) None front P a h = absurd a
part_given (Some xs) (Some ys) front P a h = subst P (sym a) (h ys)
