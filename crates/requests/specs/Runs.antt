-- What a run of the program has done, by its words and by the bytes of the files that they name.
use Rattle.std.specs.Prelude.{◌≡◌, ◌⊎◌, ℕ, Bool, false, List, ◌++◌, Option, Some, IfSome}
use Rattle.std.specs.Io.KnownBytes.{Appends}
use Rattle.invocation.specs.declared.tasks.ListOrder.{ListOrder}
use Rattle.invocation.specs.declared.tasks.Order.{Order}
use Rattle.invocation.specs.declared.tasks.Request.{Request}
use Rattle.invocation.specs.declared.tasks.Request.TheVariants as request
use Rattle.wordings.specs.Orders.{Says}
use Rattle.command_line.specs.Requests.{with_progress}
use Rattle.subcommands.specs.declared.answers.Answer.TheVariants as answer
use Rattle.subcommands.specs.Files.{text_of_name}
use Rattle.commands.specs.Done.{Answers, name_of}
use Rattle.commands.specs.Results.{HasItsName, WritesTo}
use Rattle.commands.specs.Statuses.{IsLeftOpen, IsRefused}
use Rattle.requests.specs.declared.told_lines.Totals.{Totals}
use Rattle.requests.specs.Lists.{JudgesLines, lines}
use Rattle.requests.specs.Told.{no_totals, totals_said}

-- what was made for a name: the bytes in it, where they can be told, its name, and whether it has it
pub record Made : Type 0 where
  pub written : Option (List ℕ)
  pub name : Option (List ℕ)
  pub is_given : Bool

-- The words say an order, and what its status says was done: of the bytes of the files that it names, by `texts`, of standard input, and of where its result goes.
pub record DoesOrder (texts : List ℕ → Option (List ℕ)) (standard : Option (List ℕ)) (words : List (List ℕ)) (status : ℕ) (before now told told' : Option (List ℕ)) : Type 0 where
  pub order : Order
  pub progress : Bool
  pub says : Says words (with_progress progress (request.One order))
  pub made : Option Made
  pub named : HasItsName (λ m. m.name) (λ m. m.is_given) (name_of order.output) status made
  pub done : status ≡ 0 → WritesTo (λ m. m.written) made before now (λ b n. Answers order order.task answer.Done (text_of_name texts standard (Some order.first.now)) (text_of_name texts standard (name_of order.second)) (text_of_name texts standard (name_of order.third)) b n told told')
  pub not_accepted : status ≡ 1 → WritesTo (λ m. m.written) made before now (λ b n. Answers order order.task answer.NotAccepted (text_of_name texts standard (Some order.first.now)) (text_of_name texts standard (name_of order.second)) (text_of_name texts standard (name_of order.third)) b n told told')
  pub refused : status ≡ 2 → WritesTo (λ m. m.written) made before now (λ b n. IsRefused order (text_of_name texts standard (Some order.first.now)) (text_of_name texts standard (name_of order.second)) b n told told')
  pub left_open : status ≡ 4 → WritesTo (λ m. m.written) made before now (λ b n. IsLeftOpen order (text_of_name texts standard (Some order.first.now)) b n told told')

-- The judgements of the lines of a text were made, each was told, and last how many there are; the status is the highest.
pub record JudgesList (texts : List ℕ → Option (List ℕ)) (as_json : Bool) (text : List ℕ) (status : ℕ) (before now : Option (List ℕ)) : Type 0 where
  pub said : List ℕ
  pub totals : Totals
  pub lines : JudgesLines texts as_json 1 (lines text) no_totals said totals
  pub told : Appends before now (said ++ totals_said as_json totals)
  pub highest : status ≡ totals.status

-- The words say a list, and its judgements were made, told and counted; or its status is 3.
pub record DoesList (texts : List ℕ → Option (List ℕ)) (standard : Option (List ℕ)) (words : List (List ℕ)) (status : ℕ) (before now : Option (List ℕ)) : Type 0 where
  pub list : ListOrder
  pub says : Says words (request.Many list)
  pub judged : (status ≡ 3) ⊎ IfSome (text_of_name texts standard (Some list.list.now)) (λ text. JudgesList texts list.as_json text status before now)

-- Something stood in their place, as help or a refusal of words: where neither standard input nor standard output is a terminal, the words say nothing, or memory was wanting.
abbrev pub IsStopped : List (List ℕ) → Bool → Bool → ℕ → Type 0
IsStopped words input output status = input ≡ false → output ≡ false → (status ≡ 3) ⊎ ((r : Request) → ¬ Says words r)
