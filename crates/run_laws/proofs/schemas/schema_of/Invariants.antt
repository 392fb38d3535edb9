use Rattle.std.proofs.Common.{◌-◌, ◌≡◌, length}
use Rattle.run_laws.proofs.schemas.schema_of.Given as goal
use Rattle.run_laws.specs.LaidTests.{schema_of, schema_within, specs_before}

abbrev pub invariant-specs : goal.invariant-specs
invariant-specs l = schema_of l.program l.of ≡ specs_before l.passed (schema_within (length l.program.rows - l.passed) l.program l.at)
