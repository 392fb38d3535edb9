-- In each run a jump out of a call leads into the frame of the call that made it, or out of that one, too.
use Rattle.std.proofs.Common.{◌++◌, ◌+◌, ◌∙◌, ◌∷◌, ◌≡◌, ◌≤◌, ◌⊎◌, [], ℕ, All, Bool, List, Some, ap, arith, drop, false, inl, inr, refl, slice_get, subst, sym}
use Rattle.std.proofs.{Common.take, Common.true, lemmas.Bool.Decides.nat_tests, lemmas.List.Elements.All-cons, lemmas.List.Elements.All-nil}
use Rattle.cell_value.specs.declared.{entries.Touch.Touch, values.Value.Value, ways_out.WayOut.WayOut}
use Rattle.core_program.proofs.{ActsLeave.MayEnter, ActsLeave.limits_hold, Events.events_append, Events.unmarked, LawsOfRuns.made, RunsRecord.MadeBy}
use Rattle.core_program.proofs.RunsLeave.{IsProper, act_left, call_leaves, ran_leaves, sound_framed, sound_opened}
use Rattle.core_program.proofs.Ways.{Ran, RanCall, RanFrame, front, of_call}
use Rattle.core_program.proofs.Ways as ways
use Rattle.core_program.specs.{Acts.Spend, Passed.args_at, Passed.cells_entered, ProgramRows.ProgramRows, RunLaws.calls_in, State.IsSound, State.State}
use Rattle.core_program.specs.Run.{Call, End, Ended, Halted, Marked, Result, run, way_out}
use Rattle.core_program.specs.Tree.{ActTree, Jump, Nothing, Out, Ret}
use Rattle.run_laws.proofs.PartsJump.{IsJump, JumpTree, Outward, part_jumps, whole_jumps}
use Rattle.run_laws.specs.JumpLaws.{LeadsOutward}

-- ---- ends

abbrev out_in : End → Out
out_in (Ended out) = out
out_in (Halted way) = Nothing

abbrev label_in : WayOut → ℕ
label_in (WayOut.Jumped label base) = label
label_in way = 0

abbrev base_in : WayOut → ℕ
base_in (WayOut.Jumped label base) = base
base_in way = 0

abbrev is_jumped : WayOut → Bool
is_jumped (WayOut.Jumped label base) = true
is_jumped way = false

never : {A : Type 0} (w : WayOut) (label b : ℕ) → is_jumped w ≡ false → w ≡ WayOut.Jumped label b → A
never w label b h e = absurd (let z : false ≡ true = sym h ∙ ap is_jumped e in cc)

-- a call whose way out is a jump ended by it
end_of : (e : End) (label b : ℕ) → IsProper e → way_out e ≡ WayOut.Jumped label b → e ≡ Ended (Jump label b)
end_of (Ended (Jump l c)) label b s q = let x : l ≡ label = ap label_in q in let y : c ≡ b = ap base_in q in λ i. Ended (Jump (x i) (y i))
end_of (Ended out) label b s q = never WayOut.Returned label b refl q
end_of (Halted WayOut.Returned) label b s q = absurd s
end_of (Halted (WayOut.Jumped l c)) label b s q = absurd s
end_of (Halted way) label b s q = never way label b refl q

jump_end : (label b : ℕ) (out : Out) → IsJump label b (Ret out) → Ended out ≡ Ended (Jump label b)
jump_end label b (Jump l c) h = λ i. Ended (Jump (h.0 i) (h.1 i))
jump_end label b out h = absurd h

jump_ran : {p : ProgramRows} {n : ℕ} {t : ActTree} {σ : State} {r : Result State Call} → Ran p n t σ r → (label b : ℕ) → IsJump label b t
    → r.end ≡ Ended (Jump label b)
jump_ran (ways.Returned {out = out}) label b h = jump_end label b out h
jump_ran ways.Stopped label b h = absurd h
jump_ran (ways.Refused q) label b h = absurd h
jump_ran (ways.Acted q g) label b h = absurd h
jump_ran (ways.PartStopped g e) label b h = absurd h
jump_ran (ways.PartEnded g e k) label b h = absurd h
jump_ran (ways.AtLimit q) label b h = absurd h
jump_ran (ways.CallStopped q g e) label b h = absurd h
jump_ran (ways.CallEnded q g e k) label b h = absurd h
jump_ran (ways.NotBegun q) label b h = absurd h
jump_ran (ways.Began q g) label b h = absurd h

-- ---- calls that were made at a depth, from the frame at a base, by what ended so

abbrev AllDeep : (depth : ℕ) → List Call → Type 0
AllDeep depth [] = Unit {0}
AllDeep depth (c ∷ cs) = (depth ≤ c.depth) × AllDeep depth cs

abbrev GoesOn : (base depth : ℕ) → End → Call → Type 0
GoesOn base depth e c = c.depth ≡ depth → (label b : ℕ) → c.way ≡ WayOut.Jumped label b → (b ≡ base) ⊎ (e ≡ Ended (Jump label b))

abbrev AllGoOn : (base depth : ℕ) → End → List Call → Type 0
AllGoOn base depth e [] = Unit {0}
AllGoOn base depth e (c ∷ cs) = GoesOn base depth e c × AllGoOn base depth e cs

deep_both : (depth : ℕ) (cs ds : List Call) → AllDeep depth cs → AllDeep depth ds → AllDeep depth (cs ++ ds)
deep_both depth [] ds h k = k
deep_both depth (c ∷ cs) ds h k = (h.0, deep_both depth cs ds h.1 k)

go_both : (base depth : ℕ) (e : End) (cs ds : List Call) → AllGoOn base depth e cs → AllGoOn base depth e ds → AllGoOn base depth e (cs ++ ds)
go_both base depth e [] ds h k = k
go_both base depth e (c ∷ cs) ds h k = (h.0, go_both base depth e cs ds h.1 k)

less_deep : (depth : ℕ) (cs : List Call) → AllDeep (depth + 1) cs → AllDeep depth cs
less_deep depth [] h = tt
less_deep depth (c ∷ cs) h = (let l = h.0 in omega (arith, l), less_deep depth cs h.1)

-- those that stand deeper were made by others
made_deeper : (base depth : ℕ) (e : End) (cs : List Call) → AllDeep (depth + 1) cs → AllGoOn base depth e cs
made_deeper base depth e [] h = tt
made_deeper base depth e (c ∷ cs) h = (λ q label b w. absurd (let l = h.0 in omega (arith, l, q)), made_deeper base depth e cs h.1)

-- a jump by which one end came goes on to another
abbrev Relays : (base : ℕ) → (e f : End) → Type 0
Relays base e f = (label b : ℕ) → e ≡ Ended (Jump label b) → (b ≡ base) ⊎ (f ≡ Ended (Jump label b))

go_further : (base depth : ℕ) (e f : End) (cs : List Call) → Relays base e f → AllGoOn base depth e cs → AllGoOn base depth f cs
go_further base depth e f [] k h = tt
go_further base depth e f (c ∷ cs) k h = (
  λ q label b w. elim (h.0 q label b w) [ inl x ↦ inl x | inr x ↦ k label b x ],
  go_further base depth e f cs k h.1,
)

-- what comes after a part or a call lets a jump go on
relayed : {p : ProgramRows} {n : ℕ} {σ : State} {z : Result State Call} (base : ℕ) (next : Out → ActTree) (e : End) (out : Out) → Outward base next
    → e ≡ Ended out → Ran p n (next out) σ z → Relays base e z.end
relayed {p = p} {n = n} {σ = σ} {z = z} base next e out o q g label b w = elim (o label b) [
  | inl x ↦ inl x
  | inr x ↦ inr (let s : out ≡ Jump label b = ap out_in (sym q ∙ w) in
      jump_ran (subst (λ out. Ran p n (next out) σ z) s g) label b x)
]

record Outs (base depth : ℕ) (r : Result State Call) : Type 0 where
  deep : AllDeep depth (unmarked r.events)
  led : AllGoOn base depth r.end (unmarked r.events)

outs_front : (base depth : ℕ) (w : List Touch) (es : List (Marked Call)) (r : Result State Call) → AllDeep depth (unmarked es)
    → AllGoOn base depth r.end (unmarked es) → Outs base depth r → Outs base depth (front w es r)
outs_front base depth w es r d g o = record {
  deep = subst (AllDeep depth) (sym (events_append _ es r.events)) (deep_both depth (unmarked es) (unmarked r.events) d o.deep);
  led = subst (AllGoOn base depth r.end) (sym (events_append _ es r.events)) (go_both base depth r.end (unmarked es) (unmarked r.events) g o.led);
}

-- the depth stays
same_depth : (base : ℕ) {depth depth' : ℕ} {r : Result State Call} → depth' ≡ depth → Outs base depth' r → Outs base depth r
same_depth base {r = r} e o = subst (λ d. Outs base d r) e o

call_deep : (f : ℕ) (args : List Value) (σ : State) (y : Result State Call) {base : ℕ} → Outs base (σ.depth + 1) y
    → AllDeep σ.depth (unmarked (of_call f args σ y).events)
call_deep f args σ y o = (let l : σ.depth ≤ σ.depth = omega arith in l, less_deep σ.depth (unmarked y.events) o.deep)

call_goes : (base : ℕ) (f : ℕ) (args : List Value) (σ : State) (y : Result State Call) (e : End) {inner : ℕ} → IsProper y.end → Relays base y.end e
    → Outs inner (σ.depth + 1) y → AllGoOn base σ.depth e (unmarked (of_call f args σ y).events)
call_goes base f args σ y e s k o =
    (λ q label b w. k label b (end_of y.end label b s w), made_deeper base σ.depth e (unmarked y.events) o.deep)

-- what stops the run is no jump
stopped_none : (base : ℕ) (e : End) (way : WayOut) → e ≡ Halted way → Relays base e e
stopped_none base e way q label b w = inr w

module _ (p : ProgramRows) where
  mutual
    ran_outs : {n : ℕ} {t : ActTree} {σ : State} {r : Result State Call} → Ran p n t σ r → IsSound σ → (base : ℕ) → JumpTree base t → Outs base σ.depth r
    ran_outs ways.Returned s base c = record { deep = tt; led = tt }
    ran_outs ways.Stopped s base c = record { deep = tt; led = tt }
    ran_outs (ways.Refused q) s base c = record { deep = tt; led = tt }
    ran_outs (ways.Acted {act = act} {σ = σ} {x = x} {w = w} {r = r} q g) s base c =
        let l = act_left act s q in
        outs_front base σ.depth w [] r tt tt (same_depth base l.depth (ran_outs g l.sound base (c x)))
    ran_outs (ways.PartStopped {part = part} g e) s base c = ran_outs g s base (part_jumps p base part c.0)
    ran_outs (ways.PartEnded {part = part} {next = next} {σ = σ} {r = y} {out = out} {s = z} g e k) s base c =
        let l = (ran_leaves p g s).leaves in
        let a = ran_outs g s base (part_jumps p base part c.0) in
        outs_front base σ.depth y.log y.events z a.deep
        (go_further base σ.depth y.end z.end (unmarked y.events) (relayed base next y.end out c.1 e k) a.led)
        (same_depth base l.depth (ran_outs k l.sound base (c.2 out)))
    ran_outs (ways.AtLimit q) s base c = record { deep = tt; led = tt }
    ran_outs (ways.CallStopped {e = e} {σ = σ} {y = y} {way = way} q g d) s base c =
        let m = limits_hold σ (cells_entered e) q in
        let a = call_outs g s m in
        record {
          deep = call_deep e.routine (args_at e σ.top) σ y a;
          led = call_goes base e.routine (args_at e σ.top) σ y y.end (call_leaves p g s m).proper (stopped_none base y.end way d) a;
        }
    ran_outs (ways.CallEnded {e = e} {next = next} {σ = σ} {y = y} {out = out} {s = z} q g d k) s base c =
        let m = limits_hold σ (cells_entered e) q in
        let l = call_leaves p g s m in
        let a = call_outs g s m in
        outs_front base σ.depth y.log (of_call e.routine (args_at e σ.top) σ y).events z (call_deep e.routine (args_at e σ.top) σ y a)
        (call_goes base e.routine (args_at e σ.top) σ y z.end l.proper (relayed base next y.end out c.0 d k) a)
        (same_depth base l.leaves.depth (ran_outs k l.leaves.sound base (c.1 out)))
    ran_outs (ways.NotBegun q) s base c = record { deep = tt; led = tt }
    ran_outs (ways.Began {σ = σ} {w = w} {r = r} q g) s base c =
        let l = act_left (Spend 1) s q in
        outs_front base σ.depth w [] (front [] [] r) tt tt (outs_front base σ.depth [] [] r tt tt (same_depth base l.depth (ran_outs g l.sound base c)))

    frame_outs : {n f : ℕ} {args : List Value} {σ : State} {r : Result State Call} → RanFrame p n f args σ r → IsSound σ → Outs σ.top σ.depth r
    frame_outs (ways.NoRoom e t) s = record { deep = tt; led = tt }
    frame_outs (ways.NoSteps e t u) s = record { deep = tt; led = tt }
    frame_outs (ways.Worked {f = f} {args = args} {σ = σ} {q = q} e t u g) s =
        let a = ran_outs g (sound_framed q args σ s (grind (arith, nat_tests))) σ.top (whole_jumps p f σ.top q) in
        record { deep = a.deep; led = a.led }

    call_outs : {n f : ℕ} {args : List Value} {σ : State} {r : Result State Call} → RanCall p n f args σ r → IsSound σ → MayEnter σ
        → Outs σ.top (σ.depth + 1) r
    call_outs (ways.Closed {σ = σ} c g) s m =
        let a = frame_outs g (sound_opened σ s m) in
        record { deep = a.deep; led = a.led }

all_lead : (c : Call) (e : End) → way_out e ≡ c.way → (cs : List Call) → AllGoOn c.base (c.depth + 1) e cs
    → All (λ d. d.depth ≡ c.depth + 1 → LeadsOutward c d) cs
all_lead c e q [] h = All-nil (λ (d : Call). d.depth ≡ c.depth + 1 → LeadsOutward c d)
all_lead c e q (d ∷ ds) h = All-cons (λ (d : Call). d.depth ≡ c.depth + 1 → LeadsOutward c d) d ds
    (λ k label b w. elim (h.0 k label b w) [ inl x ↦ inl x | inr x ↦ inr (sym q ∙ ap way_out x) ]) (all_lead c e q ds h.1)

pub jumps_outward : (p : ProgramRows) (input : List ℕ) (budget : ℕ) (r : Result State Call) → run p input budget ≡ Some r → (number : ℕ) (c : Call)
    → slice_get (calls_in r) number ≡ Some c
    → All (λ d. d.depth ≡ c.depth + 1 → LeadsOutward c d) (take c.below (drop (number + 1) (calls_in r)))
jumps_outward p input budget r e number c h =
    let m : MadeBy p c (drop (number + 1) (calls_in r)) = made p input budget r e number c h in
    let o = call_outs p m.ran m.sound m.limits in
    let base : c.entry.top ≡ c.base = ap (λ (d : Call). d.base) m.record' in
    let depth : c.entry.depth ≡ c.depth = ap (λ (d : Call). d.depth) m.record' in
    let way : way_out m.result.end ≡ c.way = ap (λ (d : Call). d.way) m.record' in
    subst (All (λ d. d.depth ≡ c.depth + 1 → LeadsOutward c d)) m.calls (all_lead c m.result.end way (unmarked m.result.events)
    (subst (λ b. AllGoOn b (c.depth + 1) m.result.end (unmarked m.result.events)) base
    (subst (λ d. AllGoOn c.entry.top (d + 1) m.result.end (unmarked m.result.events)) depth o.led)))
