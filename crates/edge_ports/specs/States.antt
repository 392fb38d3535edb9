-- What contracts see of the objects in memory.
use Rattle.std.specs.Prelude.{if◌then◌else◌, ℕ, Bool, Contains, List}
use Rattle.edge_ports.specs.Counts.{next_count}

-- which calls are to fail, the number of the next call, and how many failed
pub record PlanState : Type 0 where
  pub fails : List ℕ
  pub calls : ℕ
  pub faults : ℕ

-- the next call is to fail
abbrev pub IsListed : PlanState → Type 0
IsListed plan = Contains plan.fails plan.calls

-- the plan after a call that failed, or did not
abbrev pub plan_after : Bool → PlanState → PlanState
plan_after failed plan = record {
  fails = plan.fails;
  calls = next_count plan.calls;
  faults = if failed then next_count plan.faults else plan.faults;
}

-- a plan for an object that was not called yet
abbrev pub plan_of : List ℕ → PlanState
plan_of fails = record { fails = fails; calls = 0; faults = 0 }

-- the bytes still to come, and the plan
pub record TapeState : Type 0 where
  pub left : List ℕ
  pub plan : PlanState

-- the bytes given so far, how many fit in all, the plan, and whether the last call failed
pub record PageState : Type 0 where
  pub given : List ℕ
  pub room : ℕ
  pub plan : PlanState
  pub failed : Bool

-- the name of the loan of the room that bytes go to, where they go to none that is borrowed
abbrev pub no_loan : ℕ
no_loan = 0
