-- Outcomes, one after another.
use Rattle.std.proofs.Common.{◌++◌, ◌+◌, ◌∙◌, ◌∷◌, ◌≡◌, [], ℕ, List, None, Option, Some, ap, append_assoc, arith, length, length-append, refl, sym}
use Rattle.std.proofs.lemmas.List.{map-append}
use Rattle.cell_value.specs.declared.{entries.Touch.Touch, values.Value.Value, ways_out.Which.Which}
use Rattle.core_program.proofs.MoreDepthSameResult.{Less}
use Rattle.core_program.specs.Acts.{ActResult, Spend, Stops, Went, limit_passed, perform}
use Rattle.core_program.specs.Passed.{args_at, cells_entered}
use Rattle.core_program.specs.Run.{End, Ended, Halted, Marked, Result, Rules, ends, if_allowed, in_front, joined, later_by, on_done, on_end, walk}
use Rattle.core_program.specs.Tree.{ActTree, Do, Enter, Halt, Line, Meaningless, Out, Part, Ret, Sub, bind, way_of}

pub some_same : {A : Type 0} {x y : A} → Some x ≡ Some y → x ≡ y
some_same e = cc

pub none_some : {A : Type 0} {x : A} → None ≡ Some x → ⊥
none_some e = cc

pub less_then : {A : Type 0} {a b c : Option A} → Less a b → Less b c → Less a c
less_then f g = record { gives = λ r e. g.gives r (f.gives r e) }

pub less_is : {A : Type 0} {a b : Option A} → a ≡ b → Less a b
less_is e = record { gives = λ r f. sym e ∙ f }

pub later_none : {E : Type 0} (es : List (Marked E)) → later_by 0 es ≡ es
later_none [] = refl
later_none (e ∷ es) = λ i. (record { mark = (let x : 0 + e.mark ≡ e.mark = omega arith in x) i; event = e.event }) ∷ later_none es i

pub later_twice : {E : Type 0} (n m k : ℕ) (es : List (Marked E)) → k ≡ n + m → later_by n (later_by m es) ≡ later_by k es
later_twice n m k [] h = refl
later_twice n m k (e ∷ es) h = λ i. (record { mark = (let x : n + (m + e.mark) ≡ k + e.mark = omega (arith, h) in x) i; event = e.event })
    ∷ later_twice n m k es h i

pub later_append : {E : Type 0} (n : ℕ) (ds es : List (Marked E)) → later_by n (ds ++ es) ≡ later_by n ds ++ later_by n es
later_append n ds es = map-append (λ e. record { mark = n + e.mark; event = e.event }) ds es

module _ {S E : Type 0} where
  pub front_nothing : (x : Option (Result S E)) → in_front [] [] x ≡ x
  front_nothing None = refl
  front_nothing (Some r) = λ i. Some (record { end = r.end; after = r.after; log = r.log; events = later_none r.events i })

  -- what stands in front of what stands in front
  pub front_twice : (v w : List Touch) (ds es : List (Marked E)) (x : Option (Result S E))
      → in_front (v ++ w) (ds ++ later_by (length v) es) x ≡ in_front v ds (in_front w es x)
  front_twice v w ds es None = refl
  front_twice v w ds es (Some r) = λ i. Some (record { end = r.end; after = r.after; log = append_assoc v w r.log i; events = same i })
    where
      same : (ds ++ later_by (length v) es) ++ later_by (length (v ++ w)) r.events ≡ ds ++ later_by (length v) (es ++ later_by (length w) r.events)
      same = append_assoc ds (later_by (length v) es) (later_by (length (v ++ w)) r.events)
          ∙ ap (λ fs. ds ++ (later_by (length v) es ++ fs)) (sym (later_twice (length v) (length w) (length (v ++ w)) r.events (length-append v w)))
          ∙ ap (λ fs. ds ++ fs) (sym (later_append (length v) es (later_by (length w) r.events)))

  on_end_front : (v : List Touch) (ds : List (Marked E)) (end : End) (r : Result S E) (g : Out → S → Option (Result S E))
      → on_end end (record { end = r.end; after = r.after; log = v ++ r.log; events = ds ++ later_by (length v) r.events }) g ≡ in_front v ds (on_end end r g)
  on_end_front v ds (Ended out) r g = front_twice v r.log ds r.events (g out r.after)
  on_end_front v ds (Halted way) r g = refl

  -- what only logs something stands in front of what follows
  pub front_joined : (v : List Touch) (ds : List (Marked E)) (x : Option (Result S E)) (g : Out → S → Option (Result S E))
      → joined (in_front v ds x) g ≡ in_front v ds (joined x g)
  front_joined v ds None g = refl
  front_joined v ds (Some r) g = on_end_front v ds r.end r g

  on_end_joined : (end : End) (r : Result S E) (f g : Out → S → Option (Result S E)) → r.end ≡ end
      → joined (on_end end r f) g ≡ on_end end r (λ out τ. joined (f out τ) g)
  on_end_joined (Ended out) r f g e = front_joined r.log r.events (f out r.after) g
  on_end_joined (Halted way) r f g e = ap (λ d. on_end d r g) e

  pub joined_joined : (x : Option (Result S E)) (f g : Out → S → Option (Result S E)) → joined (joined x f) g ≡ joined x (λ out τ. joined (f out τ) g)
  joined_joined None f g = refl
  joined_joined (Some r) f g = on_end_joined r.end r f g refl

  on_done_joined : {A : Type 0} (rules : Rules S E) (line : ℕ) (σ : S) (d : ActResult A) (f h : A → S → Option (Result S E)) (g : Out → S → Option (Result S E))
      → ((x : A) (τ : S) → h x τ ≡ joined (f x τ) g) → on_done rules line σ d h ≡ joined (on_done rules line σ d f) g
  on_done_joined rules line σ (Went x w τ) f h g e = ap (in_front w []) (e x _) ∙ sym (front_joined w [] _ g)
  on_done_joined rules line σ (Stops why w τ) f h g e = sym (front_joined w [] (ends (Halted (way_of line why)) (rules.with_state σ τ)) g)

  allowed_joined : (o : Option Which) (σ : S) (x : Option (Result S E)) (g : Out → S → Option (Result S E))
      → joined (if_allowed o σ x) g ≡ if_allowed o σ (joined x g)
  allowed_joined None σ x g = refl
  allowed_joined (Some which) σ x g = refl

  pub walk_bind : (rules : Rules S E) (sub : Part → S → Option (Result S E)) (call : ℕ → List Value → S → Option (Result S E)) (t : ActTree) (f : Out → ActTree)
      (σ : S) → walk rules sub call (bind t f) σ ≡ joined (walk rules sub call t σ) (λ out τ. walk rules sub call (f out) τ)
  walk_bind rules sub call (Ret out) f σ = sym (front_nothing _)
  walk_bind rules sub call (Halt line why) f σ = refl
  walk_bind rules sub call Meaningless f σ = refl
  walk_bind rules sub call (Do line act next) f σ =
      on_done_joined rules line σ (perform act (rules.state_of σ)) _ _ _ (λ x τ. walk_bind rules sub call (next x) f τ)
  walk_bind rules sub call (Sub part next) f σ =
      ap (joined (sub part σ)) (λ i out τ. walk_bind rules sub call (next out) f τ i) ∙ sym (joined_joined (sub part σ) _ _)
  walk_bind rules sub call (Enter e next) f σ =
      ap (if_allowed (limit_passed (rules.state_of σ) (cells_entered e)) σ)
      (ap (joined (call e.routine (args_at e (rules.state_of σ).top) σ)) (λ i out τ. walk_bind rules sub call (next out) f τ i)
      ∙ sym (joined_joined (call e.routine (args_at e (rules.state_of σ).top) σ) _ _))
      ∙ sym (allowed_joined (limit_passed (rules.state_of σ) (cells_entered e)) σ _ (λ out τ. walk rules sub call (f out) τ))
  walk_bind rules sub call (Line line next) f σ =
      on_done_joined rules line σ (perform (Spend 1) (rules.state_of σ)) _ _ _
      (λ x τ. ap (in_front [] (rules.line line)) (walk_bind rules sub call next f τ)
      ∙ sym (front_joined [] (rules.line line) (walk rules sub call next τ) (λ out υ. walk rules sub call (f out) υ)))
