-- A run, as the texts and the search see it.
use Rattle.std.specs.Prelude.{ℕ, List, length}
use Rattle.pas_lexer.specs.Lexed.{Lexed}
use Rattle.core_program.specs.{ProgramRows.ProgramRows, Run.input_items, Run.run}
use Rattle.call_tree.specs.declared.records.Call.{Call}
use Rattle.program_run.specs.History.{log_of, recording_of}
use Rattle.question_text.specs.Cards.{Recorded}
use Rattle.debuggee.specs.declared.runs.Debuggee.{Debuggee}

-- what a run is supplied with: the bytes of its input, and the steps that it may take
pub record Supply : Type 0 where
  pub input : List ℕ
  pub budget : ℕ

-- the tokens of a source, what the program that they are was supplied with, and its run, as its cards tell of it
pub record Execution : Type 0 where
  pub tokens : Lexed
  pub supply : Supply
  pub recorded : Recorded

-- the calls of the run of a program that is supplied so, in order of entry
unfoldable pub calls_with : Supply → ProgramRows → List Call
calls_with s p = (recording_of p (run p s.input s.budget)).calls

-- the run of a program: its calls, what was done, and the items of its input
abbrev pub execution_of : Lexed → ProgramRows → Supply → Execution
execution_of t p s = record {
  tokens = t;
  supply = s;
  recorded = record {
    program = p;
    tokens = length t.tokens;
    calls = calls_with s p;
    log = log_of (run p s.input s.budget);
    items = input_items s.input;
  };
}

-- the code keeps this execution
abbrev pub execution : Debuggee → Execution
execution d = record {
  tokens = d.tokens;
  supply = record { input = d.input.now; budget = d.history.budget };
  recorded = record {
    program = d.program;
    tokens = length d.tokens.tokens;
    calls = d.history.calls.calls;
    log = d.history.log;
    items = d.history.input;
  };
}
