-- What stands of the lines without a value.
use Rattle.std.specs.Prelude.{◌≡◌, ℕ, Bool, true, List, None, Some, ◌⊎◌}
use Rattle.std.specs.List.{AllByRecursion, AllZip}
use Rattle.btor2.specs.declared.item.Body.{Body}
use Rattle.btor2.specs.Items.{is_bad, is_constraint, init_value, init_word, next_value}
use Rattle.btor2.specs.Reachability.{nodes_of}
use Rattle.full.specs.Lines.{Operand, FullLine, full_nodes, AtInit, AtNext, init_of, next_of}
use Rattle.full.specs.Agreement.{names_full_state}
use Rattle.full.specs.Runs.{first_word}
use Rattle.full.specs.WrittenOut.{InFrames, read_by, HasWord, is_output}
use Rattle.writeout.specs.declared.way.Way.TheVariants as way
use Rattle.writeout.specs.Ways.{way_of}
use Rattle.writeout.specs.Faults.{NoneIsLiveItem}
use Rattle.writeout.specs.Leaves.{leaf_at}
use Rattle.writeout.specs.Writings.{Writing, Settled}

-- the state begins with a constant that is the first word of the model's state in each frame
pub record BeginsSo (full : List FullLine) (w : Writing) (id : ℕ) (o : Operand) : Type 0 where
  pub word : ℕ
  pub begins : init_word w.items (leaf_at full w id) ≡ Some word
  pub constant : Settled full w (λ p wide. InFrames wide (λ g. first_word full (read_by p g) id o ≡ word))

-- the init line of a state that is not written by its first word
abbrev pub InitStands : List FullLine → Writing → ℕ → Operand → Type 0
InitStands full w id o = (way_of full id ≡ way.First → ⊥) → BeginsSo full w id o

-- the state takes a node that has the word of a next line's value
pub record NextStands (full : List FullLine) (w : Writing) (id : ℕ) (o : Operand) : Type 0 where
  pub node : ℕ
  pub takes : next_value w.items (leaf_at full w id) ≡ Some node
  pub word : Settled full w (λ p wide. HasWord full p wide o node)

-- the nodes of the lines of a kind have the words of those lines' operands, in file order
abbrev pub PropertiesStand : List FullLine → List FullLine → Writing → (Body → Bool) → Type 0
PropertiesStand full done w kind = AllZip (λ o a. Settled full w (λ p wide. HasWord full p wide o a)) (full_nodes kind done) (nodes_of kind w.items)

-- The lines without a value among the first lines of the model, `done`, are written, and no others: a state whose init line is not among them has none, nor has one
-- that is written by its first word, and a state whose next line is not among them has none. No line is one of justice or of fairness.
pub record LateWritten (full done : List FullLine) (w : Writing) : Type 0 where
  pub inits : AllByRecursion (λ (x : FullLine). AtInit (InitStands full w) x.says) done
  pub nexts : AllByRecursion (λ (x : FullLine). AtNext (NextStands full w) x.says) done
  pub no_init : (id : ℕ) → names_full_state full id ≡ true → (init_of done id ≡ None) ⊎ (way_of full id ≡ way.First) → init_value w.items (leaf_at full w id) ≡ None
  pub no_next : (id : ℕ) → names_full_state full id ≡ true → next_of done id ≡ None → next_value w.items (leaf_at full w id) ≡ None
  pub bads : PropertiesStand full done w is_bad
  pub constraints : PropertiesStand full done w is_constraint
  pub outputs : PropertiesStand full done w is_output
  pub forms : NoneIsLiveItem w.items
