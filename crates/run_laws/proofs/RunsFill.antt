-- In each run of tables that are laid out, the arguments of each call fill the parameters of its routine.
use Rattle.std.proofs.Common.{if◌then◌else◌, ◌++◌, ◌+◌, ◌∷◌, ◌≡◌, ◌≤◌, [], ℕ, Bool, List, None, Option, Some, arith, false, nat_lt, refl, slice_get, subst, suc}
use Rattle.std.proofs.{Common.sym, Common.true, Common.zero, lemmas.Bool.Decides.nat_tests}
use Rattle.cell_value.specs.declared.{entries.Touch.Touch, values.Value.Value}
use Rattle.cell_value.specs.declared.ways_out.Which.{Which, TheVariants.Calls, TheVariants.Depth, TheVariants.Stack}
use Rattle.core_program.proofs.{Events.events_append, Events.unmarked, OutcomesCompose.none_some, OutcomesCompose.some_same}
use Rattle.core_program.proofs.Ways.{Ran, RanCall, RanFrame, front, of_call, run_gives}
use Rattle.core_program.proofs.Ways as ways
use Rattle.core_program.specs.{Acts.limit_passed, Passed.args_at, Passed.cells_entered, ProgramRows.ProgramRows, ProgramRows.routine_at, RunLaws.calls_in}
use Rattle.core_program.specs.{State.State, State.most_calls, State.most_depth, State.stack_end, Tree.ActTree, Tree.Out, declared.program.Routine.Routine}
use Rattle.core_program.specs.Run.{Call, End, Ended, Halted, Marked, Result, block, depth_enough, run, start}
use Rattle.run_laws.proofs.PartsFill.{Anything, Meets, NoCells, Want, Wants, block_meets, part_meets, want_of, whole_meets}
use Rattle.run_laws.specs.{LaidOut.LaidOut, ParameterLaws.FillsParameters}

-- where no limit is passed, the frame fits into the stack
frame_fits : (σ : State) (n : ℕ) → limit_passed σ n ≡ None → σ.top + n ≤ stack_end
frame_fits σ n e = by (nat_lt most_calls (σ.calls + 1)) (nat_lt most_depth σ.depth) (nat_lt stack_end (σ.top + n)) refl e
  where
    by : (a b c : Bool) → nat_lt stack_end (σ.top + n) ≡ c → (if a then Some Calls else if b then Some Depth else if c then Some Stack else None) ≡ None
        → σ.top + n ≤ stack_end
    by true b c f h = absurd (none_some (sym h))
    by false true c f h = absurd (none_some (sym h))
    by false false true f h = absurd (none_some (sym h))
    by false false false f h = grind (arith, nat_tests)

abbrev EndWants : Want → End → Type 0
EndWants w (Ended out) = Wants w out
EndWants w (Halted way) = Unit {0}

end_wants : (w : Want) (e : End) (out : Out) → e ≡ Ended out → EndWants w e → Wants w out
end_wants w e out q h = subst (EndWants w) q h

module _ (p : ProgramRows) (L : LaidOut p) where
  abbrev IsFilled : Call → Type 0
  IsFilled c = (r : Routine) → routine_at p c.routine ≡ Some r → FillsParameters p r c.base c.args

  abbrev EachFilled : List Call → Type 0
  EachFilled [] = Unit {0}
  EachFilled (c ∷ cs) = IsFilled c × EachFilled cs

  each_both : (cs ds : List Call) → EachFilled cs → EachFilled ds → EachFilled (cs ++ ds)
  each_both [] ds h k = k
  each_both (c ∷ cs) ds h k = (h.0, each_both cs ds h.1 k)

  each_at : (cs : List Call) (k : ℕ) (c : Call) → EachFilled cs → slice_get cs k ≡ Some c → IsFilled c
  each_at [] k c h e = absurd (none_some e)
  each_at (d ∷ cs) zero c h e = subst IsFilled (some_same e) h.0
  each_at (d ∷ cs) (suc k) c h e = each_at cs k c h.1 e

  record Fills (w : Want) (r : Result State Call) : Type 0 where
    end : EndWants w r.end
    calls : EachFilled (unmarked r.events)

  fills_front : (w : Want) (ts : List Touch) (es : List (Marked Call)) (r : Result State Call) → EachFilled (unmarked es) → Fills w r → Fills w (front ts es r)
  fills_front w ts es r h k = record {
    end = k.end;
    calls = subst EachFilled (sym (events_append _ es r.events)) (each_both (unmarked es) (unmarked r.events) h k.calls);
  }

  mutual
    ran_fills : {n : ℕ} {t : ActTree} {σ : State} {r : Result State Call} → Ran p n t σ r → (w : Want) → Meets p L w t → Fills w r
    ran_fills ways.Returned w c = record { end = c; calls = tt }
    ran_fills ways.Stopped w c = record { end = tt; calls = tt }
    ran_fills (ways.Refused q) w c = record { end = tt; calls = tt }
    ran_fills (ways.Acted {x = x} {w = ts} {r = r} q g) w c = fills_front w ts [] r tt (ran_fills g w (c x))
    ran_fills (ways.PartStopped {part = part} {r = r} {way = way} g e) w c =
        let a = ran_fills g (want_of p L part) (part_meets p L part) in
        record { end = subst (EndWants w) (sym e) tt; calls = a.calls }
    ran_fills (ways.PartEnded {part = part} {r = y} {out = out} {s = z} g e k) w c =
        let a = ran_fills g (want_of p L part) (part_meets p L part) in
        fills_front w y.log y.events z a.calls (ran_fills k w (c out (end_wants (want_of p L part) y.end out e a.end)))
    ran_fills (ways.AtLimit q) w c = record { end = tt; calls = tt }
    ran_fills (ways.CallStopped {e = e} {σ = σ} {y = y} {way = way} q g d) w c =
        let a = call_fills g in
        record { end = subst (EndWants w) (sym d) tt; calls = (λ r f. c.0 r f σ.top (frame_fits σ (cells_entered e) q), a.calls) }
    ran_fills (ways.CallEnded {e = e} {σ = σ} {y = y} {out = out} {s = z} q g d k) w c =
        let a = call_fills g in
        fills_front w y.log (of_call e.routine (args_at e σ.top) σ y).events z ((λ r f. c.0 r f σ.top (frame_fits σ (cells_entered e) q)), a.calls)
        (ran_fills k w (c.1 out (end_wants NoCells y.end out d a.end)))
    ran_fills (ways.NotBegun q) w c = record { end = tt; calls = tt }
    ran_fills (ways.Began {w = ts} {r = r} q g) w c = fills_front w ts [] (front [] [] r) tt (fills_front w [] [] r tt (ran_fills g w c))

    frame_fills : {n f : ℕ} {args : List Value} {σ : State} {r : Result State Call} → RanFrame p n f args σ r → Fills NoCells r
    frame_fills (ways.NoRoom e t) = record { end = tt; calls = tt }
    frame_fills (ways.NoSteps e t u) = record { end = tt; calls = tt }
    frame_fills (ways.Worked {f = f} {args = args} {σ = σ} {q = q} e t u g) =
        let a = ran_fills g NoCells (whole_meets p L f σ.top q) in
        record { end = a.end; calls = a.calls }

    call_fills : {n f : ℕ} {args : List Value} {σ : State} {r : Result State Call} → RanCall p n f args σ r → Fills NoCells r
    call_fills (ways.Closed c g) = let a = frame_fills g in record { end = a.end; calls = a.calls }

pub parameters_filled : (p : ProgramRows) (input : List ℕ) (budget : ℕ) (r : Result State Call) → run p input budget ≡ Some r → (number : ℕ) (c : Call)
    → slice_get (calls_in r) number ≡ Some c → LaidOut p → (q : Routine) → routine_at p c.routine ≡ Some q → FillsParameters p q c.base c.args
parameters_filled p input budget r e number c h L = each_at p L (calls_in r) number c
    (ran_fills p L (run_gives p (depth_enough p budget) block (start input budget) r e) Anything (block_meets p L)).calls h
