-- Whose frame has an address of the stack while a call runs.
use Rattle.std.proofs.Common.{if◌then◌else◌, ◌&&◌, ◌++◌, ◌+◌, ◌-◌, ◌<◌, ◌==◌, ◌∙◌, ◌∷◌, ◌≡◌, ◌≤◌, [], ℕ, Bool, List, None, Option, Some, ap, append-nil, arith}
use Rattle.std.proofs.Common.{cond, false, filter, length, nat_le, nat_lt, refl, subst, suc, sym, true, zero}
use Rattle.std.proofs.lemmas.{Bool.Decides.nat_tests, List.Elements.filter-append, Option.slice_get-map, Option.slice_get_within}
use Rattle.std.specs.{List.slice_get, Option.IsSome, Option.option_map}
use Rattle.cell_value.specs.Effects.{heap_start, last_of}
use Rattle.core_program.specs.{ProgramRows.ProgramRows, ProgramRows.routine_at, Run.frame_size, WholeTables.WholeTables, declared.program.Routine.Routine}
use Rattle.run_laws.specs.LaidOut.{LaidOut}
use Rattle.call_tree.specs.declared.records.Call.{Call}
use Rattle.cell_names.specs.{Layouts.part, Places.is_begun, Places.last_at}
use Rattle.cell_names.specs.Names.{Scene, begins_there, frame, heap_root, is_link, local_at, local_root, root_at, root_in, stack_root}
use Rattle.cell_names.specs.declared.{names.Frame.Frame, names.Local.Local, names.Root.Root, places.PlacedPart.PlacedPart}
use Rattle.question_text.specs.{Cards.Recorded, Cards.scene_of, Frames.frame_by, Frames.opened_by, Frames.opened_from}
use Rattle.debuggee.proofs.FramesFilled.{HasCopies, copy_named, place_named}
use Rattle.debuggee.proofs.FramesFollow.{BeginsAt, EndsAt, IsFramed}

-- ---- one part more

last_pushed : (xs : List PlacedPart) (x : PlacedPart) → last_of (xs ++ x ∷ []) ≡ Some x
last_pushed [] x = refl
last_pushed (y ∷ []) x = refl
last_pushed (y ∷ z ∷ zs) x = last_pushed (z ∷ zs) x

kept : (test : PlacedPart → Bool) (x : PlacedPart) → test x ≡ true → filter test (x ∷ []) ≡ x ∷ []
kept test x e = ap (λ b. cond b (x ∷ []) []) e

dropped : (test : PlacedPart → Bool) (x : PlacedPart) → test x ≡ false → filter test (x ∷ []) ≡ []
dropped test x e = ap (λ b. cond b (x ∷ []) []) e

here : (at : ℕ) (parts : List PlacedPart) (x : PlacedPart) → is_begun at x ≡ true → last_at at (parts ++ x ∷ []) ≡ Some x
unfolding last_at
here at parts x e =
    ap last_of (filter-append (is_begun at) parts (x ∷ []) ∙ ap (λ l. filter (is_begun at) parts ++ l) (kept (is_begun at) x e))
    ∙ last_pushed (filter (is_begun at) parts) x

before : (at : ℕ) (parts : List PlacedPart) (x : PlacedPart) → is_begun at x ≡ false → last_at at (parts ++ x ∷ []) ≡ last_at at parts
unfolding last_at
before at parts x e =
    ap last_of (filter-append (is_begun at) parts (x ∷ []) ∙ ap (λ l. filter (is_begun at) parts ++ l) (dropped (is_begun at) x e)
    ∙ append-nil (filter (is_begun at) parts))

-- ---- open calls

module _ (p : ProgramRows) (calls : List Call) where
  -- the address lies in the frame of this open call
  pub record Found (a : ℕ) (o : Option PlacedPart) : Type 0 where
    pub found : PlacedPart
    pub is : o ≡ Some found
    pub call : Call
    pub stands : slice_get calls found.number ≡ Some call
    pub routine : Routine
    pub has : routine_at p call.routine ≡ Some routine
    pub top : found.place ≡ call.entry.top
    pub low : found.place ≤ a
    pub high : a < found.place + frame_size routine call.args

  pub found_in : ((n : ℕ) (c : Call) → slice_get calls n ≡ Some c → IsFramed p calls n c) → (most k : ℕ) (c : Call) → slice_get calls k ≡ Some c
      → k < most
      → (q : Routine) → routine_at p c.routine ≡ Some q → (a : ℕ) → a < c.entry.top + frame_size q c.args
      → Found a (last_at a (opened_from calls most (Some k)))
  found_in every zero k c e less q has a below = absurd (omega (arith, less))
  found_in every (suc most) k c e less q has a below =
      subst (Found a) (sym (ap (λ o. last_at a (opened_by (frame_by k o) (opened_from calls most))) e))
      (by (λ j d s l q h b. found_in every most j d s l q h a b) (nat_le c.entry.top a) refl)
    where
      outer : List PlacedPart
      outer = opened_from calls most c.parent

      further : ((j : ℕ) (d : Call) → slice_get calls j ≡ Some d → j < most → (q : Routine) → routine_at p d.routine ≡ Some q
          → a < d.entry.top + frame_size q d.args → Found a (last_at a (opened_from calls most (Some j))))
          → (o : Option ℕ) → BeginsAt p calls k o c.entry.top → a < c.entry.top
          → Found a (last_at a (opened_from calls most o))
      further go None b l = absurd (omega (arith, b, l))
      further go (Some j) b l =
          let d : EndsAt p calls j c.entry.top = b.1 in
          go j d.call d.is (let m = b.0 in omega (arith, m, less)) d.routine d.has (let z = d.ends in omega (arith, z, l))

      by : ((j : ℕ) (d : Call) → slice_get calls j ≡ Some d → j < most → (q : Routine) → routine_at p d.routine ≡ Some q → a < d.entry.top + frame_size q d.args
          → Found a (last_at a (opened_from calls most (Some j)))) → (b : Bool) → nat_le c.entry.top a ≡ b
          → Found a (last_at a (outer ++ part c.entry.top k ∷ []))
      by go true f = let l : c.entry.top ≤ a = grind (arith, nat_tests) in record {
        found = part c.entry.top k;
        is = here a outer (part c.entry.top k) f;
        call = c;
        stands = e;
        routine = q;
        has = has;
        top = refl;
        low = l;
        high = below;
      }
      by go false f = subst (Found a) (sym (before a outer (part c.entry.top k) f))
          (further go c.parent (every k c e).begins (let l : a < c.entry.top = grind (arith, nat_tests) in l))

-- ---- addresses

module _ (k : Recorded) (whole : WholeTables k.program) (laid : LaidOut k.program) (number : ℕ) where
  abbrev scene : Scene
  scene = scene_of k number

  -- the root of an address of the stack
  pub data OnStack (a : ℕ) (o : Option Root) : Type 0 where
    HasName : IsSome o → OnStack a o
    Begins : begins_there a (scene.opened a) ≡ true → OnStack a o

  local_some : (call routine : ℕ) (o : Option Local) → IsSome o → IsSome (local_root call routine o)
  local_some call routine None h = absurd (let z : false ≡ true = h in cc)
  local_some call routine (Some l) h = refl

  routine_of : (number : ℕ) (call : Call) → slice_get k.calls number ≡ Some call → slice_get scene.routines number ≡ Some call.routine
  routine_of number call e = slice_get-map (λ (c : Call). c.routine) k.calls number ∙ ap (option_map (λ (c : Call). c.routine)) e

  root_of : (a : ℕ) (found : PlacedPart) (call : Call) → slice_get k.calls found.number ≡ Some call
      → stack_root scene a (Some found) ≡ local_root found.number call.routine (local_at scene (frame found.number call.routine found.place) (a - found.place))
  root_of a found call e = ap (λ o. root_in scene found.number found.place (a - found.place) o) (routine_of found.number call e)

  -- the calls were given their copies
  abbrev pub AllHaveCopies : Type 0
  AllHaveCopies = (n : ℕ) (c : Call) → slice_get k.calls n ≡ Some c → HasCopies k whole laid number c

  on_stack : AllHaveCopies → (a : ℕ) → Found k.program k.calls a (scene.opened a) → OnStack a (stack_root scene a (scene.opened a))
  on_stack copies a f = subst (λ o. OnStack a (stack_root scene a o)) (sym f.is)
      (subst (OnStack a) (sym (root_of a f.found f.call f.stands)) (by (f.found.place == a) refl))
    where
      base : Frame
      base = frame f.found.number f.call.routine f.found.place

      own : (b : Bool) → nat_le f.routine.cells (a - f.found.place) ≡ b → 0 < a - f.found.place → IsSome (local_at scene base (a - f.found.place))
      own false q some = place_named k whole laid number base (a - f.found.place) f.routine f.has some (grind (arith, nat_tests))
      own true q some =
          let after : f.routine.cells ≤ a - f.found.place = grind (arith, nat_tests) in
          let low = f.low in
          let high = f.high in
          subst (λ top. IsSome (local_at scene (frame f.found.number f.call.routine top) (a - f.found.place))) (sym f.top)
          (copy_named k whole laid number f.found.number f.call f.stands (copies f.found.number f.call f.stands) (a - f.found.place) f.routine f.has some
          after (omega (arith, low, high)))

      by : (b : Bool) → (f.found.place == a) ≡ b → OnStack a (local_root f.found.number f.call.routine (local_at scene base (a - f.found.place)))
      by true q = Begins (ap (begins_there a) f.is ∙ q)
      by false q =
          let other : f.found.place ≡ a → ⊥ = grind (arith, nat_tests) in
          let low = f.low in
          HasName (local_some f.found.number f.call.routine (local_at scene base (a - f.found.place))
          (own (nat_le f.routine.cells (a - f.found.place)) refl (grind (arith, low, other))))

  -- the root of an address of a call's reads or changes
  pub data Rooted (a : ℕ) (o : Option Root) : Type 0 where
    HasRoot : IsSome o → Rooted a o
    IsLink : is_link scene a ≡ true → Rooted a o
    NoBlock : heap_start ≤ a → scene.finding.block a ≡ None → Rooted a o

  on_heap : (a : ℕ) → heap_start ≤ a → (o : Option PlacedPart) → scene.finding.block a ≡ o → Rooted a (heap_root a o)
  on_heap a l None e = NoBlock l e
  on_heap a l (Some x) e = HasRoot refl

  lower : (a : ℕ) (o : Option Root) → nat_lt a heap_start ≡ true → OnStack a o → Rooted a o
  lower a o l (HasName h) = HasRoot h
  lower a o l (Begins h) = IsLink (ap (λ b. b && begins_there a (scene.opened a)) l ∙ h)

  pub rooted : AllHaveCopies → (c : Call) → slice_get k.calls number ≡ Some c
      → ((n : ℕ) (c : Call) → slice_get k.calls n ≡ Some c → IsFramed k.program k.calls n c)
      → (a : ℕ) → (a < heap_start → a < c.entry.top) → Rooted a (root_at scene a)
  unfolding root_at
  rooted copies c e every a low = by (nat_le heap_start a) refl
    where
      framed : IsFramed k.program k.calls number c
      framed = every number c e

      by : (b : Bool) → nat_le heap_start a ≡ b → Rooted a (if b then heap_root a (scene.finding.block a) else stack_root scene a (scene.opened a))
      by true q = on_heap a (grind (arith, nat_tests)) (scene.finding.block a) refl
      by false q =
          let l : a < heap_start = grind (arith, nat_tests) in
          let m = low l in
          lower a (stack_root scene a (scene.opened a)) (grind (arith, nat_tests))
          (on_stack copies a (found_in k.program k.calls every (length k.calls) number c e (slice_get_within k.calls number c e) framed.routine framed.has a
          (omega (arith, m))))
