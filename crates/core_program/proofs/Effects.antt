-- The effect of touches does not depend on where in the input they begin, and it makes of a state what the touches did.
use Rattle.std.proofs.Common.{◌&&◌, ◌++◌, ◌+◌, ◌-◌, ◌||◌, ◌∙◌, ◌∷◌, ◌≡◌, ◌≤◌, [], ℕ, Bool, List, None, Option, ap, arith, false, filter_map, fold, map, max}
use Rattle.std.proofs.Common.{nat_le, nat_lt, refl, sum_by, sym, true}
use Rattle.std.proofs.lemmas.{Bool.Decides.nat_tests, List.map-append}
use Rattle.std.specs.{Cmp.nat_cmp_total, FinMap.get, FinMap.nat_cmp-IsAntisymmetric, FinMap.same_map, List.cons_option}
use Rattle.cell_value.specs.Effects.{asked_by, byte_by, change_at, change_by, changes_of, given_of, heap_end, heap_start, is_shared, last_of, listed, looked_by}
use Rattle.cell_value.specs.Effects.{looked_of, made_by, made_of, read_by, reads_of, seen_at, seen_by, shared, taken_by, taken_of}
use Rattle.cell_value.specs.declared.entries.Touch.{Touch}
use Rattle.core_program.proofs.{ActsLeave.Leaves, Cells.changed_other, Cells.changed_shared}
use Rattle.core_program.proofs.Touches.{first_asked, first_read, left_with, or_later, seen_is, written_is}
use Rattle.core_program.specs.{Apply.apply, Apply.changed_cells, Apply.steps_taken, Run.Call, State.IsSound, State.State}

-- a touch, where a look at the input is told from the place at which they began
abbrev pub relative : ℕ → Touch → Touch
relative p (Touch.Look at) = Touch.Look (at + 1 - p)
relative p t = t

-- the touches are the same, but for where in the input they began
abbrev pub SameLog : ℕ → ℕ → List Touch → List Touch → Type 0
SameLog p q w x = map (relative p) w ≡ map (relative q) x

pub same_append : (p q : ℕ) (v w x y : List Touch) → SameLog p q v x → SameLog p q w y → SameLog p q (v ++ w) (x ++ y)
same_append p q v w x y h k = map-append (relative p) v w ∙ ap (λ l. l ++ map (relative p) w) h ∙ ap (λ l. map (relative q) x ++ l) k
    ∙ sym (map-append (relative q) x y)

change_same : (p a : ℕ) (t : Touch) → change_by a (relative p t) ≡ change_by a t
change_same p a (Touch.Look at) = refl
change_same p a t = refl

read_same : (p a : ℕ) (t : Touch) → read_by a (relative p t) ≡ read_by a t
read_same p a (Touch.Look at) = refl
read_same p a t = refl

asked_same : (p a : ℕ) (t : Touch) → asked_by a (relative p t) ≡ asked_by a t
asked_same p a (Touch.Look at) = refl
asked_same p a t = refl

made_same : (p : ℕ) (t : Touch) → made_by (relative p t) ≡ made_by t
made_same p (Touch.Look at) = refl
made_same p t = refl

taken_same : (p : ℕ) (t : Touch) → taken_by (relative p t) ≡ taken_by t
taken_same p (Touch.Look at) = refl
taken_same p t = refl

byte_same : (p : ℕ) (t : Touch) → byte_by (relative p t) ≡ byte_by t
byte_same p (Touch.Look at) = refl
byte_same p t = refl

abbrev counted : Touch → ℕ
counted (Touch.Look n) = n
counted t = 0

looked_same : (p : ℕ) (t : Touch) → counted (relative p t) ≡ looked_by p t
looked_same p (Touch.Look at) = refl
looked_same p t = refl

filter_same : {Y : Type 0} (p : ℕ) (h : Touch → Option Y) → ((t : Touch) → h (relative p t) ≡ h t) → (w : List Touch)
    → filter_map h (map (relative p) w) ≡ filter_map h w
filter_same p h e [] = refl
filter_same p h e (t ∷ w) = ap (λ o. cons_option o (filter_map h (map (relative p) w))) (e t) ∙ ap (cons_option (h t)) (filter_same p h e w)

sum_same : (p : ℕ) (h : Touch → ℕ) → ((t : Touch) → h (relative p t) ≡ h t) → (n : ℕ) (w : List Touch)
    → fold (λ a x. a + h x) n (map (relative p) w) ≡ fold (λ a x. a + h x) n w
sum_same p h e n [] = refl
sum_same p h e n (t ∷ w) = ap (λ k. fold (λ a x. a + h x) (n + k) (map (relative p) w)) (e t) ∙ sum_same p h e (n + h t) w

-- what a function makes of touches that are the same
module _ (p q : ℕ) (w x : List Touch) (h : SameLog p q w x) where
  pub same_changes : (a : ℕ) → change_at a w ≡ change_at a x
  unfolding change_at
  same_changes a = ap last_of (sym (filter_same p (change_by a) (change_same p a) w) ∙ ap (filter_map (change_by a)) h
      ∙ filter_same q (change_by a) (change_same q a) x)

  pub same_seen : (a : ℕ) → seen_at a w ≡ seen_at a x
  same_seen a = seen_is a w ∙ ap (λ o. seen_by o (first_asked a w)) (sym (reads p w) ∙ ap (first_read a) h ∙ reads q x)
      ∙ ap (seen_by (first_read a x)) (sym (asks p w) ∙ ap (first_asked a) h ∙ asks q x) ∙ sym (seen_is a x)
    where
      reads : (p : ℕ) (w : List Touch) → first_read a (map (relative p) w) ≡ first_read a w
      reads p [] = refl
      reads p (t ∷ w) = ap (λ c. or_later c (read_by a (relative p t)) (first_read a (map (relative p) w))) (change_same p a t)
          ∙ ap (λ o. or_later (change_by a t) o (first_read a (map (relative p) w))) (read_same p a t) ∙ ap (or_later (change_by a t) (read_by a t)) (reads p w)

      asks : (p : ℕ) (w : List Touch) → first_asked a (map (relative p) w) ≡ first_asked a w
      asks p [] = refl
      asks p (t ∷ w) = ap (λ c. or_later c (asked_by a (relative p t)) (first_asked a (map (relative p) w))) (change_same p a t)
          ∙ ap (λ o. or_later (change_by a t) o (first_asked a (map (relative p) w))) (asked_same p a t)
          ∙ ap (or_later (change_by a t) (asked_by a t)) (asks p w)

  pub same_made : made_of w ≡ made_of x
  same_made = sym (sum_same p made_by (made_same p) 0 w) ∙ ap (sum_by made_by) h ∙ sum_same q made_by (made_same q) 0 x

  pub same_taken : taken_of w ≡ taken_of x
  same_taken = sym (sum_same p taken_by (taken_same p) 0 w) ∙ ap (sum_by taken_by) h ∙ sum_same q taken_by (taken_same q) 0 x

  pub same_given : given_of w ≡ given_of x
  same_given = sym (filter_same p byte_by (byte_same p) w) ∙ ap (filter_map byte_by) h ∙ filter_same q byte_by (byte_same q) x

  pub same_looked : looked_of p w ≡ looked_of q x
  same_looked = ap (fold max 0) (looks p w ∙ ap (map counted) h ∙ sym (looks q x))
    where
      looks : (p : ℕ) (w : List Touch) → map (looked_by p) w ≡ map counted (map (relative p) w)
      looks p [] = refl
      looks p (t ∷ w) = ap (λ n. n ∷ map (looked_by p) w) (sym (looked_same p t)) ∙ ap (λ l. counted (relative p t) ∷ l) (looks p w)

  pub same_reads_of : (base : ℕ) → reads_of base w ≡ reads_of base x
  same_reads_of base = ap (λ f. listed (shared base f)) (λ i a. same_seen a i)

  pub same_changes_of : (base : ℕ) → changes_of base w ≡ changes_of base x
  same_changes_of base = ap (λ f. listed (shared base f)) (λ i a. same_changes a i)

-- ---- the effect, applied

same_state : {σ τ : State} → σ.cells ≡ τ.cells → σ.top ≡ τ.top → σ.fresh ≡ τ.fresh → σ.items ≡ τ.items → σ.place ≡ τ.place → σ.output ≡ τ.output
    → σ.steps ≡ τ.steps → σ.calls ≡ τ.calls → σ.depth ≡ τ.depth → σ ≡ τ
same_state a b c d e f g h k = λ i. record {
  cells = a i;
  top = b i;
  fresh = c i;
  items = d i;
  place = e i;
  output = f i;
  steps = g i;
  calls = h i;
  depth = k i;
}

-- a cell that is not shared is none of a sound state
pub unshared : (σ : State) (a : ℕ) → IsSound σ → is_shared σ.top a ≡ false → get σ.cells a ≡ None
unshared σ a s h = by (nat_lt a heap_end) (nat_lt a σ.top) (nat_le heap_start a) refl refl refl h
  where
    by : (x y z : Bool) → nat_lt a heap_end ≡ x → nat_lt a σ.top ≡ y → nat_le heap_start a ≡ z → (x && (y || z)) ≡ false → get σ.cells a ≡ None
    by false y z e f g h = s.above_heap a (let k : heap_end ≤ a = grind (arith, nat_tests) in omega (arith, s.heap_fits))
    by true false false e f g h = s.above_stack a (grind (arith, nat_tests)) (grind (arith, nat_tests))
    by true true z e f g h = absurd (let k : true ≡ false = h in cc)
    by true false true e f g h = absurd (let k : true ≡ false = h in cc)

-- a run from a state that took what the call took and has the call's touches: the call's effect gives what it leaves
pub record Alike (c : Call) (σ τ : State) (w : List Touch) (n : ℕ) : Type 0 where
  pub base : c.base ≡ σ.top
  pub from : ℕ
  pub to : ℕ
  pub log : SameLog from to c.log w
  pub steps : τ.steps ≡ σ.steps - steps_taken c
  pub calls : n ≡ c.below + 1

pub effect_is : (c : Call) (σ τ : State) (w : List Touch) (n : ℕ) → IsSound σ → Leaves σ w n τ → Alike c σ τ w n → apply c σ ≡ τ
effect_is c σ τ w n s h e = same_state
    (same_map nat_cmp_total nat_cmp-IsAntisymmetric _ _ (λ a. by a (is_shared σ.top a) refl))
    (sym h.top)
    (omega (arith, h.fresh, same_made e.from e.to c.log w e.log))
    (sym h.items)
    (omega (arith, h.place, same_taken e.from e.to c.log w e.log))
    (ap (λ l. σ.output ++ l) (same_given e.from e.to c.log w e.log) ∙ sym h.output)
    (sym e.steps)
    (omega (arith, h.calls, e.calls))
    (sym h.depth)
  where
    by : (a : ℕ) (b : Bool) → is_shared σ.top a ≡ b → get (changed_cells (changes_of c.base c.log) σ.cells) a ≡ get τ.cells a
    by a true q = changed_shared c.base c.log σ.cells a (ap (λ t. is_shared t a) e.base ∙ q)
        ∙ ap (λ o. left_with o (get σ.cells a)) (same_changes e.from e.to c.log w e.log a) ∙ sym (written_is a w (get σ.cells a)) ∙ sym (h.cells a q)
    by a false q = changed_other c.base c.log σ.cells a (ap (λ t. is_shared t a) e.base ∙ q)
        ∙ unshared σ a s q ∙ sym (unshared τ a h.sound (ap (λ t. is_shared t a) h.top ∙ q))
