-- What the tokens of a source spell, and the numbers of names.
use Rattle.std.specs.Prelude.{if◌then◌else◌, ◌++◌, ◌+◌, ◌∷◌, [], ℕ, Bool, List, None, Option, codes, fold, length, map}
use Rattle.std.specs.Prelude.{nat_eq, position, replicate, unwrap_or}
use Rattle.std.specs.{Cmp.Lexicographic.pointwise, Global.Vec, List.list_any}
use Rattle.pas_lexer.specs.Lexed.{Lexed, spelling_of, text_of}
use Rattle.pas_lexer.specs.declared.kinds.{Token.Token, TokenKind.TokenKind}
use Rattle.core_program.specs.ProgramRows.{blank_tables}
use Rattle.check_steps.specs.{Known.Known, declared.words.Spelled.Spelled, declared.words.SpelledToken.SpelledToken}

-- the required names in the order of their numbers: types, constants, functions, procedures, text files
abbrev pub required_types : List (List ℕ)
required_types = codes "integer" ∷ codes "boolean" ∷ codes "char" ∷ []

abbrev pub required_constants : List (List ℕ)
required_constants = codes "false" ∷ codes "true" ∷ codes "maxint" ∷ []

abbrev pub required_functions : List (List ℕ)
required_functions = codes "abs" ∷ codes "sqr" ∷ codes "odd" ∷ codes "ord" ∷ codes "chr" ∷ codes "succ" ∷ codes "pred"
    ∷ codes "eof" ∷ codes "eoln" ∷ []

abbrev pub required_procedures : List (List ℕ)
required_procedures = codes "read" ∷ codes "readln" ∷ codes "write" ∷ codes "writeln" ∷ codes "page" ∷ codes "new"
    ∷ codes "dispose" ∷ codes "pack" ∷ codes "unpack" ∷ []

abbrev pub required_files : List (List ℕ)
required_files = codes "input" ∷ codes "output" ∷ []

abbrev pub required_names : List (List ℕ)
required_names = required_types ++ required_constants ++ required_functions ++ required_procedures ++ required_files

-- ---- names

abbrev pub same_name : List ℕ → List ℕ → Bool
same_name a b = pointwise nat_eq a b

-- these names and one more, if it is not among them
abbrev pub with_name : List (List ℕ) → List ℕ → List (List ℕ)
with_name names s = if list_any (same_name s) names then names else names ++ s ∷ []

-- these names and the one that a token spells
abbrev pub with_name_of : TokenKind → List (List ℕ) → List ℕ → List (List ℕ)
with_name_of TokenKind.Name names s = with_name names s
with_name_of k names s = names

abbrev pub name_from : List ℕ → List (List ℕ) → Token → List (List ℕ)
name_from source names t = with_name_of t.kind names (spelling_of source t)

-- The spellings of names, each once: the required ones, and the others in the order in which they come.
abbrev pub names_of : Lexed → List (List ℕ)
names_of l = fold (name_from l.source) required_names l.tokens

-- a name's number is its place among the names
abbrev pub number_of_name : List (List ℕ) → List ℕ → Option ℕ
number_of_name names s = position (same_name s) names

abbrev pub name_number : List (List ℕ) → List ℕ → ℕ
name_number names s = unwrap_or (number_of_name names s) 0

-- the texts that vectors hold
abbrev pub texts_in : List (Vec ℕ) → List (List ℕ)
texts_in vs = map (λ v. v.items) vs

-- ---- words

abbrev pub spelled_by : List (List ℕ) → TokenKind → List ℕ → Spelled
spelled_by names TokenKind.Name s = Spelled.Name (name_number names s)
spelled_by names (TokenKind.Number n) s = Spelled.Number n
spelled_by names TokenKind.Text s = Spelled.Text
spelled_by names k s = Spelled.Other

abbrev pub word_of : List (List ℕ) → List ℕ → Token → SpelledToken
word_of names source t = record { spelled = spelled_by names t.kind (spelling_of source t); line = t.line }

abbrev pub words_of : List (List ℕ) → List ℕ → List Token → List SpelledToken
words_of names source tokens = map (word_of names source) tokens

-- of a name its text, of a string its characters, and nothing of another token
abbrev pub kept_text : TokenKind → List ℕ → List ℕ → List ℕ
kept_text TokenKind.Name text spelling = text
kept_text TokenKind.Text text spelling = spelling
kept_text k text spelling = []

abbrev pub kept_of : List ℕ → Token → List ℕ
kept_of source t = kept_text t.kind (text_of source t) (spelling_of source t)

abbrev pub texts_of : List ℕ → List Token → List (List ℕ)
texts_of source tokens = map (kept_of source) tokens

-- What is known before anything is checked. After the numbers of the tokens come those of the required names.
abbrev pub known_at_start : Lexed → Known
known_at_start l = record {
  names = names_of l;
  words = words_of (names_of l) l.source l.tokens;
  program = blank_tables (length l.tokens + length required_names) (texts_of l.source l.tokens);
  regions = [];
  frames = [];
  controls = [];
  threats = replicate (length l.tokens) None;
  block = record { first = 0; statements = 0 };
  choices = [];
}
