-- What the lines of a list are to the lines that name them.
use Rattle.std.specs.Prelude.{ℕ, Bool, true, false, List, Option, Some, None, option_map}
use Rattle.btor2.specs.Items.{is_state}
use Rattle.full.specs.Lines.{Says, FullLine, words, arrays, find_line, line_sort, is_form, sort_of}
use Rattle.full.specs.Lines as full
use Rattle.fullmodel.specs.declared.sorts.Sort.{Sort}
use Rattle.fullmodel.specs.declared.sorts.Sort.TheVariants as sort
use Rattle.fullmodel.specs.declared.entries.Entry.{Entry}
use Rattle.fullmodel.specs.declared.entries.Entry.TheVariants as entry
use Rattle.fullmodel.specs.Lines.{sort_value}

-- a sort as it is kept
abbrev pub kept_sort : full.Sort → Sort
kept_sort (words n) = sort.Words n
kept_sort (arrays k n) = sort.Arrays k n

-- of a line by the sort that it makes, the sort of its node, and whether it is a state
abbrev pub entry_by : Option full.Sort → Option full.Sort → Bool → Entry
entry_by (Some s) o state = entry.Sort (kept_sort s)
entry_by None None state = entry.Line
entry_by None (Some s) true = entry.State (kept_sort s)
entry_by None (Some s) false = entry.Node (kept_sort s)

-- what a line is to those that name it, in a list of lines
abbrev pub entry_of : List FullLine → Says → Entry
entry_of lines b = entry_by (line_sort lines b) (sort_of lines b) (is_form is_state b)

-- what the line with an id is, where there is one
abbrev pub entry_at : List FullLine → ℕ → Option Entry
entry_at lines id = option_map (λ (x : FullLine). entry_of lines x.says) (find_line lines id)

-- the sort that it is, and that of a node with a value
abbrev pub entry_sort : Option Entry → Option full.Sort
entry_sort (Some (entry.Sort s)) = Some (sort_value s)
entry_sort _ = None

abbrev pub entry_node : Option Entry → Option full.Sort
entry_node (Some (entry.State s)) = Some (sort_value s)
entry_node (Some (entry.Node s)) = Some (sort_value s)
entry_node _ = None

-- whether it is a state
abbrev pub is_state_entry : Option Entry → Bool
is_state_entry (Some (entry.State s)) = true
is_state_entry _ = false
