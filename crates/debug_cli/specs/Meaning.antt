-- What the words of the command mean.
use Rattle.std.specs.Prelude.{if◌then◌else◌, ◌&&◌, ◌||◌, ◌∷◌, ◌≤◌, [], ℕ, Bool, List, None, Option, Some, codes, drop}
use Rattle.std.specs.Prelude.{is_some, length, nat_eq, nat_le, not, option_map}
use Rattle.std.specs.{Char.is_ascii_digit, List.list_all, List.starts_with, Str.Parse.digits_value}
use Rattle.clap.specs.Words.{Kinds, Row, Text, fault_of, first_of, matches_of}
use Rattle.debug_cli.specs.CommandLine.{command_line}

-- a source that is asked about: its name, the names of its input and of a session about it, if there are any, and the
-- steps that its run may take
pub record Requested : Type 0 where
  pub source : Text
  pub input : Option Text
  pub load : Option Text
  pub budget : ℕ

-- what is asked for: a source that a file holds, or the made source of a number
pub data Meant : Type 0 where
  Source : (request : Requested) → Meant
  Made : (number : ℕ) → Meant

-- ---- the budget

-- the steps that a run may take where no budget is given
abbrev pub default_budget : ℕ
default_budget = 1000000

-- one to seven decimal digits
abbrev pub is_spelled : Text → Bool
is_spelled text = nat_le 1 (length text) && nat_le (length text) 7 && list_all is_ascii_digit text

-- the steps that a text spells, from 1 to 4,000,000
abbrev pub budget_spelled : Text → Option ℕ
budget_spelled text =
    let steps = digits_value 10 text in
    if is_spelled text && nat_le 1 steps && nat_le steps 4000000 then Some steps else None

-- without a text it is the default
abbrev pub budget_meant : Option Text → Option ℕ
budget_meant None = Some default_budget
budget_meant (Some text) = budget_spelled text

-- ---- the number of a made source

-- decimal digits, the first of them not zero
abbrev pub is_plain_number : Text → Bool
is_plain_number text = list_all is_ascii_digit text && not (starts_with nat_eq text (codes "0"))

-- the number that a text spells, from 1 to 14
abbrev pub number_spelled : Text → Option ℕ
number_spelled text =
    let number = digits_value 10 text in
    if is_plain_number text && nat_le 1 number && nat_le number 14 then Some number else None

-- ---- what may be asked for

-- a run may take this many steps
abbrev pub IsBudget : ℕ → Type 0
IsBudget steps = (1 ≤ steps) × (steps ≤ 4000000)

-- a source is made for this number
abbrev pub IsMadeNumber : ℕ → Type 0
IsMadeNumber number = (1 ≤ number) × (number ≤ 14)

abbrev pub IsWithinLimits : Meant → Type 0
IsWithinLimits (Source request) = IsBudget request.budget
IsWithinLimits (Made number) = IsMadeNumber number

-- ---- the values of the arguments

-- what comes after `make:`, in the name of a source that no file holds
abbrev pub after_make : Text → Option Text
after_make source = if starts_with nat_eq source (codes "make:") then Some (drop 5 source) else None

-- a source that a file holds, by the text of the budget
abbrev pub source_meant : (source : Text) → (input budget load : Option Text) → Option Meant
source_meant source input budget load =
    option_map (λ steps. Source (record { source = source; input = input; load = load; budget = steps }))
    (budget_meant budget)

-- a made source, which stands without any option
abbrev pub made_meant : (text : Text) → (input budget load : Option Text) → Option Meant
made_meant text input budget load =
    if is_some input || is_some budget || is_some load then None else option_map Made (number_spelled text)

abbrev pub made_or_source : (made : Option Text) → (source : Text) → (input budget load : Option Text) → Option Meant
made_or_source None source input budget load = source_meant source input budget load
made_or_source (Some text) source input budget load = made_meant text input budget load

abbrev pub asked_of : (source input budget load : Option Text) → Option Meant
asked_of None input budget load = None
asked_of (Some source) input budget load = made_or_source (after_make source) source input budget load

-- by the value that each argument has
abbrev pub meant_by : (Text → Option Text) → Option Meant
meant_by value =
    asked_of (value (codes "source")) (value (codes "input")) (value (codes "budget")) (value (codes "load"))

-- the value of an argument among those that clap matched
abbrev pub value_among : List Row → Text → Option Text
value_among rows name = first_of name rows

-- ---- the words

-- where clap finds no fault
abbrev pub unless_fault : Kinds → Option Meant → Option Meant
unless_fault [] m = m
unless_fault (kind ∷ kinds) m = None

-- what the words mean, if anything; the first is the program's name
unfoldable pub meant : List Text → Option Meant
meant words = unless_fault (fault_of command_line words) (meant_by (value_among (matches_of command_line words)))
