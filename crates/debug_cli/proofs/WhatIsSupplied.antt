-- What was fetched and read at several moments, where nothing changed outside between them.
use Rattle.std.proofs.Common.{◌∙◌, ◌≡◌, ◌≤◌, ℕ, Bor, IfSome, List, None, Option, Some, arith, length, option_map, refl, subst, sym}
use Rattle.edge_ports.specs.Files.{FileMap}
use Rattle.pas_lexer.specs.Limits.{source_bytes}
use Rattle.session_file.specs.Whole.{IsWhole}
use Rattle.ask_session.specs.Outside.{Outside}
use Rattle.debuggee.specs.{Limits.input_bytes, Program.IsProgram, declared.source.SourceProgram.SourceProgram}
use Rattle.debug_cli.specs.{Meaning.Requested, Refusals.IsSupplied}
use Rattle.debug_cli.specs.Named.{Checked, IsFetched, IsInput, IsSaved, Supplied}
use Rattle.debug_cli.specs.declared.files.Supplied as code

-- an input is short: there is none, or its file is
pub input_short : (files : Option FileMap) (name : Option (List ℕ)) (input : List ℕ) → IsInput files name input → length input ≤ input_bytes
input_short files None input is = subst (λ (b : List ℕ). length b ≤ input_bytes) (sym is) (omega arith)
input_short files (Some name) input is = is.1

-- where no file is named no session is gone on with
pub none_saved : (files : Option FileMap) (name : Option (Bor (List ℕ))) → ((x : Bor (List ℕ)) → name ≡ Some x → ⊥)
    → IsSaved files (option_map (λ n. n.now) name) None
none_saved files None none = refl
none_saved files (Some name) none = absurd (none name refl)

-- the bytes that were read are those that were fetched
pub is_checked : (r : Requested) {first second : Outside} → second ≡ first → (bytes read : List ℕ) (p : SourceProgram)
    → IsFetched first.files r.source source_bytes bytes → read ≡ bytes → IsProgram read p.tokens p.program → Checked r second.files
is_checked r same bytes read p fetched is program = record {
  bytes = bytes;
  fetched = subst (λ (x : Outside). IsFetched x.files r.source source_bytes bytes) (sym same) fetched;
  tokens = p.tokens;
  rows = p.program;
  program = subst (λ (b : List ℕ). IsProgram b p.tokens p.program) is program;
}

pub is_run : (r : Requested) {second third : Outside} → third ≡ second → Checked r second.files → (input : List ℕ) → IsInput second.files r.input input
    → Supplied r third.files
is_run r same checked input is = record {
  source = subst (λ (x : Outside). Checked r x.files) (sym same) checked;
  input = input;
  is_input = subst (λ (x : Outside). IsInput x.files r.input input) (sym same) is;
}

pub all_supplied : (r : Requested) {first second third last : Outside} → second ≡ first → third ≡ second → last ≡ third → (s : code.Supplied)
    → IsFetched first.files r.source source_bytes s.source → IsProgram s.source s.program.tokens s.program.program
    → IsInput second.files r.input s.input → IsSaved third.files r.load s.saved × IfSome s.saved IsWhole
    → IsSupplied r last.files s
all_supplied r source input saved s fetched program is_input is_saved = record {
  source = subst (λ (x : Outside). IsFetched x.files r.source source_bytes s.source) (sym (saved ∙ input ∙ source)) fetched;
  program = program;
  input = subst (λ (x : Outside). IsInput x.files r.input s.input) (sym (saved ∙ input)) is_input;
  saved = subst (λ (x : Outside). IsSaved x.files r.load s.saved) (sym saved) is_saved.0;
  whole = is_saved.1;
}
