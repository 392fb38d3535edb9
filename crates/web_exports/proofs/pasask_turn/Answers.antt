use Rattle.std.proofs.Common.{◌∙◌, ℕ, ap, map, take}
use Rattle.web_page.specs.Turns.{file_given}
use Rattle.web_exports.proofs.{MemoryRunsOut.memory_out, TurnIsPassed.given_same, TurnIsPassed.result_same, TurnIsPassed.turn_passed}
use Rattle.web_exports.proofs.pasask_turn.Goals as goal
use Rattle.web_exports.specs.{Passed.TurnPassed, Passed.given_in, Returned.result_in}

pub returns-in-Ok-clause-turn : goal.returns-in-Ok-clause-turn
returns-in-Ok-clause-turn c =
    let p : TurnPassed = record {
      source = c.args.source.now;
      input = c.args.input.now;
      budget = c.args.budget.now;
      has_session = c.args.has_session;
      session = c.args.session.now;
      sizes = c.args.sizes.now;
      files = c.args.files.now;
      console = c.args.console.now;
    } in
    turn_passed p c.in-Ok.ensures.files (given_same p c.text_of.ensures c.session_of.ensures (ap (map file_given) c.as_slice.ensures.value))
    (result_same c.take_turn.result c.came_of.result _ _ c.came_of.ensures.status c.came_of.ensures.screen c.came_of.ensures.saved)
    (record {
      headline = c.take_turn.ensures.headline;
      transcript = c.take_turn.ensures.transcript;
      prefix = c.take_turn.ensures.prefix;
      done = c.take_turn.ensures.done;
      spent = c.take_turn.ensures.spent;
      usage = c.take_turn.ensures.usage;
      no_program = c.take_turn.ensures.no_program;
      no_session = c.take_turn.ensures.no_session;
      goes = c.take_turn.ensures.goes;
      console = c.take_turn.ensures.console;
    })

pub returns-in-Err-Memory-clause-turn : goal.returns-in-Err-Memory-clause-turn
returns-in-Err-Memory-clause-turn c =
    memory_out (given_in (record {
      source = c.args.source.now;
      input = c.args.input.now;
      budget = c.args.budget.now;
      has_session = c.args.has_session;
      session = c.args.session.now;
      sizes = c.args.sizes.now;
      files = c.args.files.now;
      console = c.args.console.now;
    })) (result_in c.came_of-in-Err-Memory.result c.args.screen.now c.args.saved.now)
    (c.came_of-in-Err-Memory.ensures.status ∙ c.out_of_memory.ensures.status)
    (ap (λ (count : ℕ). take count c.args.screen.now) (c.came_of-in-Err-Memory.ensures.screen ∙ c.out_of_memory.ensures.screen))
    (c.came_of-in-Err-Memory.ensures.saved ∙ c.out_of_memory.ensures.saved)
