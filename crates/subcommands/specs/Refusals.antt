-- The line that tells why a task is not done.
use Rattle.std.specs.Prelude.{ℕ, List, [], ◌++◌, Option, None, Some, unwrap_or, unsigned_abs, codes, decimal}
use Rattle.base.specs.declared.reasons.Reason.{Reason}
use Rattle.base.specs.declared.reasons.Reason.TheVariants as reason
use Rattle.aiger.specs.Refusal.{circuit_fault_number, circuit_fault_name}
use Rattle.btor2text.specs.Whys.{printed_number, line_why_name}
use Rattle.aigertext.specs.Whys.{circuit_why_number, circuit_why_name}
use Rattle.blast.specs.declared.fault.LowerFault.{LowerFault}
use Rattle.blast.specs.declared.fault.LowerFault.TheVariants as lower
use Rattle.blast.specs.Faults.{lower_number, lower_name}
use Rattle.fitting.specs.Faults.{fit_fault_item, fit_fault_name, fit_fault_number}
use Rattle.writeout.specs.Numbers.{write_fault_item, write_fault_name, write_fault_number}
use Rattle.engine_form.specs.Faults.{engine_fault_number as engine_number, engine_fault_name as engine_name}
use Rattle.witness_circuits.specs.Faults.{test_number, test_name}
use Rattle.certificates.specs.Faults.{invariant_why_number as invariant_number, invariant_why_name as invariant_name, obligation_number, obligation_name}
use Rattle.witness.specs.Answers.{judge_number, judge_name}
use Rattle.witness.specs.declared.fault.JudgeFault.TheVariants as judge
use Rattle.verbs.specs.declared.refusals.Claimed.TheVariants as claimed
use Rattle.verbs.specs.declared.refusals.Device.{Device}
use Rattle.verbs.specs.declared.refusals.Device.TheVariants as device
use Rattle.verbs.specs.declared.refusals.Fault.{Fault}
use Rattle.verbs.specs.declared.refusals.Fault.TheVariants as fault
use Rattle.verbs.specs.declared.refusals.Refusal.{Refusal}
use Rattle.verbs.specs.declared.refusals.Refusal.TheVariants as refusal
use Rattle.subcommands.specs.Names.{harmless}

-- ---- lines

-- what is said of a file
abbrev pub about : List ℕ → List ℕ → List ℕ
about file says = file ++ (codes ": " ++ says)

-- what is said of a place, which is counted
abbrev pub place_said : List ℕ → ℕ → List ℕ → List ℕ
place_said counted n says = counted ++ (decimal n ++ (codes ": " ++ says))

-- a number and a name, which end a line
abbrev pub numbered_name : ℕ → List ℕ → List ℕ
numbered_name number name = decimal number ++ (codes " " ++ (name ++ codes "\n"))

-- what is said of an item of a file: a number and a name
abbrev pub item_said : ℕ → ℕ → List ℕ → List ℕ
item_said id number name = place_said (codes "item ") id (numbered_name number name)

-- what is said of the item that a lowering is refused for, or of the model as a whole
abbrev pub at_item : LowerFault → List ℕ → List ℕ
at_item (lower.Justice id) says = place_said (codes "item ") id says
at_item (lower.Fair id) says = place_said (codes "item ") id says
at_item (lower.NoNext id) says = place_said (codes "item ") id says
at_item _ says = says

-- what is said of an item, where there is one, or else of the model as a whole
abbrev pub of_item : Option ℕ → List ℕ → List ℕ
of_item (Some id) says = place_said (codes "item ") id says
of_item None says = says

-- what is said of a file of which two bad properties have one name
abbrev pub same_name_said : ℕ → ℕ → List ℕ
same_name_said one other =
    codes "b" ++ (decimal one
    ++ (codes " and b" ++ (decimal other
    ++ (codes " have this name: write --bad " ++ (decimal one
    ++ (codes " or --bad " ++ (decimal other ++ codes "\n")))))))

-- what is said of a file that has a fault
abbrev pub fault_said : Fault → List ℕ
fault_said (fault.Model e) = place_said (codes "line ") e.line (numbered_name (printed_number e.why) (line_why_name e.why))
fault_said (fault.Circuit e) = place_said (codes "byte ") e.place (numbered_name (circuit_why_number e.why) (circuit_why_name e.why))
fault_said (fault.Lowering e) = at_item e (numbered_name (lower_number e) (lower_name e))
fault_said (fault.Fitting e) = of_item (fit_fault_item e) (numbered_name (fit_fault_number e) (fit_fault_name e))
fault_said (fault.Writing e) = of_item (write_fault_item e) (numbered_name (write_fault_number e) (write_fault_name e))
fault_said (fault.Outputs e) = numbered_name (circuit_fault_number e) (circuit_fault_name e)
fault_said (fault.Engine e) = numbered_name (engine_number e) (engine_name e)
fault_said (fault.Invariant e) = place_said (codes "line ") e.line (numbered_name (invariant_number e.why) (invariant_name e.why))
fault_said (fault.Obligation e) = numbered_name (obligation_number e) (obligation_name e)
fault_said (fault.Test e) = numbered_name (test_number e) (test_name e)
fault_said (fault.NoNext id) = item_said id (judge_number (judge.NoNext id)) (judge_name (judge.NoNext id))
fault_said (fault.Vector n) = place_said (codes "line ") n (codes "bad vector\n")
fault_said (fault.Unchosen claimed.Found) = codes "--bad K says which bad property rises: the K that the engine form was made for, or of a form of all, that of ABC's Output K of miter\n"
fault_said (fault.Unchosen claimed.Certified) = codes "--bad K says which bad property holds: the K that the engine form of the invariant was made for\n"
fault_said (fault.Unchosen claimed.Guarded) = codes "--bad K says which bad property holds: the one that the witness circuit is a certificate of\n"
fault_said (fault.SameName one other) = same_name_said one other

-- the line that tells a fault of a file
abbrev pub fault_line : List ℕ → Fault → List ℕ
fault_line file f = about (harmless file) (fault_said f)

-- the exit status of a fault: words that leave a choice open, or ask by a name that two have, are refused, and else the input is
abbrev pub status_of_fault : Fault → ℕ
status_of_fault (fault.Unchosen c) = 4
status_of_fault (fault.SameName one other) = 4
status_of_fault _ = 2

-- the name by which the second file is told
abbrev pub second_name : Option (List ℕ) → List ℕ
second_name second = unwrap_or second (codes "-")

-- the name by which it is told that a result could not be written: that of its file, where it has one
abbrev pub output_name : Option (List ℕ) → List ℕ
output_name output = unwrap_or output (codes "output")

-- the name by which a file or a stream is told
abbrev pub device_name : List ℕ → Option (List ℕ) → Option (List ℕ) → Option (List ℕ) → Device → List ℕ
device_name first second third output device.First = first
device_name first second third output device.Second = second_name second
device_name first second third output device.Third = unwrap_or third (codes "-")
device_name first second third output device.Output = output_name output
device_name first second third output device.Error = []

-- the words of a reason, behind which its number stands where it has none of its own
abbrev pub reason_words : Reason → List ℕ
reason_words reason.NoSuchFile = codes "no such file"
reason_words reason.IsFolder = codes "is a folder"
reason_words reason.NotUnderFolder = codes "a part of its name is no folder"
reason_words reason.PermissionDenied = codes "permission denied"
reason_words reason.ReadOnlyFileSystem = codes "read-only file system"
reason_words reason.NoSpaceLeft = codes "no space left"
reason_words reason.QuotaExceeded = codes "quota exceeded"
reason_words reason.FileTooLarge = codes "file too large"
reason_words reason.ClosedByReader = codes "closed by its reader"
reason_words reason.NameTooLong = codes "name too long"
reason_words reason.TooManyLinks = codes "too many links"
reason_words reason.AlreadyThere = codes "is there already"
reason_words reason.Interrupted = codes "interrupted"
reason_words (reason.Number n) = codes "error "

-- the number of a reason that has no words of its own
abbrev pub reason_number : Reason → Option ℕ
reason_number (reason.Number n) = Some (unsigned_abs n)
reason_number _ = None

-- a number, where there is one
abbrev pub number_said : Option ℕ → List ℕ
number_said None = []
number_said (Some n) = decimal n

-- why a device failed, where that is told
abbrev pub reason_said : Option Reason → List ℕ
reason_said None = []
reason_said (Some r) = codes ": " ++ (reason_words r ++ number_said (reason_number r))

-- the line that tells that a file or a stream failed, and why, where that is told
abbrev pub device_line : List ℕ → Option Reason → List ℕ
device_line name why = about (harmless name) (codes "device" ++ (reason_said why ++ codes "\n"))

-- the line that tells a refusal, by the names of the files and, where a device failed, the reason
abbrev pub refusal_line : List ℕ → Option (List ℕ) → Option (List ℕ) → Option (List ℕ) → Option Reason → Refusal → List ℕ
refusal_line first second third output why (refusal.Input f) = fault_line first f
refusal_line first second third output why (refusal.Second f) = fault_line (second_name second) f
refusal_line first second third output why (refusal.Failed d) = device_line (device_name first second third output d) why
refusal_line first second third output why refusal.NoMemory = codes "no memory\n"
