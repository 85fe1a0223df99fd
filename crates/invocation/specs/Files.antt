-- What an order asks of standard input and of standard output.
use Rattle.std.specs.Prelude.{ℕ, Bool, true, false, List, Option, Some, None, codes}
use Rattle.std.specs.Str.{bytes_eq}
use Rattle.aigertext.specs.declared.forms.Form.{Form}
use Rattle.aigertext.specs.declared.forms.Form.TheVariants as form

-- the name of a file stands for standard input
abbrev pub is_standard_input : List ℕ → Bool
is_standard_input name = bytes_eq name (codes "-")

-- there is a name of a file, and it stands for standard input
abbrev pub names_standard_input : Option (List ℕ) → Bool
names_standard_input None = false
names_standard_input (Some name) = is_standard_input name

-- the binary form of a circuit goes to standard output
abbrev pub shows_binary : Form → Option (List ℕ) → Bool
shows_binary form.Binary None = true
shows_binary _ _ = false
