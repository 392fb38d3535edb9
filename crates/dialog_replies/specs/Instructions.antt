-- What a line of the console asks for.
use Rattle.std.specs.Prelude.{if◌then◌else◌, ◌∷◌, [], ℕ, List, None, Option, Some}
use Rattle.std.specs.Str.{is_utf8}
use Rattle.session_file.specs.Notes.{is_note}
use Rattle.dialog_replies.specs.{Keywords.keyword_of, Numbers.number_of, Numbers.routine_number}
use Rattle.dialog_replies.specs.Words.{after_blanks, after_word, before_blanks, words}
use Rattle.dialog_replies.specs.declared.{instructions.Instruction.Instruction, keywords.Keyword.Keyword}
use Rattle.dialog_replies.specs.declared.instructions.DialogCommand.TheVariants as commands
use Rattle.dialog_replies.specs.declared.instructions.Instruction.TheVariants as ask
use Rattle.dialog_replies.specs.declared.keywords.Keyword.TheVariants as key

-- what is asked for with a number, where the word is one
abbrev pub with_number : Option ℕ → (ℕ → Instruction) → Instruction
with_number (Some number) asked = asked number
with_number None asked = ask.Command commands.Other

-- a word after `trust` that is no `#` with a number is a name
abbrev pub trust_by : (word : List ℕ) → Option ℕ → Instruction
trust_by word (Some routine) = ask.Command (commands.Trust routine)
trust_by word None = ask.Command (commands.TrustNamed word)

abbrev pub trust_in : List ℕ → Instruction
trust_in word = trust_by word (routine_number word)

-- a file has a name in UTF-8
abbrev pub file_named : (word : List ℕ) → Option (List ℕ)
file_named word = if is_utf8 word then Some word else None

-- what is asked for with a file, where the word names one
abbrev pub with_file : Option (List ℕ) → (List ℕ → Instruction) → Instruction
with_file (Some file) asked = asked file
with_file None asked = ask.Command commands.Other

-- two calls, where both words are numbers
abbrev pub carry_in : (call onto : List ℕ) → Instruction
carry_in call onto =
    with_number (number_of call) (λ call. with_number (number_of onto) (λ onto. ask.Command (commands.Carry call onto)))

-- a judgement on the call that is asked about and on all calls alike to it
abbrev pub shared_in : Keyword → Instruction
shared_in (key.Judge judgement) = ask.Command (commands.JudgeAlike judgement None)
shared_in keyword = ask.Command commands.Other

-- on a call of this number and on all calls alike to it; or such judgements are taken back
abbrev pub shared_on : Keyword → (call : ℕ) → Instruction
shared_on (key.Judge judgement) call = ask.Command (commands.JudgeAlike judgement (Some call))
shared_on key.Back call = ask.Command (commands.TakeBackAlike call)
shared_on keyword call = ask.Command commands.Other

-- a cell's name is the rest of a line without blanks at its ends, since it may have blanks inside, as `a[' ']`
abbrev pub rest_in : (rest : List ℕ) → List ℕ
rest_in rest = before_blanks (after_blanks rest)

-- a note is the rest of a line as well, from 32 to 126 each byte
abbrev pub note_by : (entry : ℕ) → (text : List ℕ) → Instruction
note_by entry text = if is_note text then ask.Command (commands.Note entry text) else ask.Command commands.Other

-- by the first word and those after it, and by what follows the second word
abbrev pub instruction_by : Keyword → List (List ℕ) → (rest : List ℕ) → Instruction
instruction_by (key.Judge judgement) [] rest = ask.Command (commands.Judge judgement None)
instruction_by (key.Judge judgement) (call ∷ []) rest =
    with_number (number_of call) (λ number. ask.Command (commands.Judge judgement (Some number)))
instruction_by key.Trust (routine ∷ []) rest = trust_in routine
instruction_by key.Back [] rest = ask.Command (commands.TakeBack None)
instruction_by key.Back (entry ∷ []) rest =
    with_number (number_of entry) (λ number. ask.Command (commands.TakeBack (Some number)))
instruction_by key.Show (call ∷ []) rest = with_number (number_of call) (λ number. ask.Command (commands.Show number))
instruction_by key.State (call ∷ name ∷ names) rest =
    with_number (number_of call) (λ number. ask.Command (commands.State number (rest_in rest)))
instruction_by key.Slice (call ∷ name ∷ names) rest =
    with_number (number_of call) (λ number. ask.Command (commands.Slice number (rest_in rest)))
instruction_by key.Trace (call ∷ []) rest = with_number (number_of call) (λ number. ask.Command (commands.Trace number))
instruction_by key.Carry (call ∷ onto ∷ []) rest = carry_in call onto
instruction_by key.Alike (call ∷ []) rest = with_number (number_of call) (λ number. ask.Command (commands.Alike number))
instruction_by key.Shared (word ∷ []) rest = shared_in (keyword_of word)
instruction_by key.Shared (word ∷ call ∷ []) rest = with_number (number_of call) (shared_on (keyword_of word))
instruction_by key.Tree [] rest = ask.Command commands.Tree
instruction_by key.Save (file ∷ []) rest = with_file (file_named file) ask.Save
instruction_by key.Reference (file ∷ []) rest = with_file (file_named file) ask.Reference
instruction_by key.Refer [] rest = ask.Refer None
instruction_by key.Refer (call ∷ []) rest = with_number (number_of call) (λ number. ask.Refer (Some number))
instruction_by key.Same [] rest = ask.Command commands.Same
instruction_by key.Note (entry ∷ word ∷ others) rest =
    with_number (number_of entry) (λ number. note_by number (rest_in rest))
instruction_by key.Quit [] rest = ask.Quit
instruction_by keyword others rest = ask.Command commands.Other

abbrev pub instruction_of_words : List (List ℕ) → (rest : List ℕ) → Instruction
instruction_of_words [] rest = ask.Command commands.Nothing
instruction_of_words (word ∷ others) rest = instruction_by (keyword_of word) others rest

-- what a line asks for
abbrev pub instruction_of : List ℕ → Instruction
instruction_of line = instruction_of_words (words line) (after_word (after_word line))
