-- Bounds that are read from a frame, and tested.
use Rattle.std.proofs.Common.{◌++◌, ◌+◌, ◌-◌, ◌<◌, ◌∙◌, ◌∷◌, ◌≡◌, ◌≤◌, [], ℕ, List, None, Option, Some, ap, append-nil, append_assoc, arith, drop, length, refl}
use Rattle.std.proofs.{Common.slice_get, Common.subst, Common.suc, Common.sym, lemmas.List.drop_all, lemmas.List.length-drop}
use Rattle.cell_value.specs.declared.values.Value.{Value}
use Rattle.core_program.specs.{Cells.read_value, State.moved, declared.components.Extent.Extent, declared.components.HeldSpec.HeldSpec}
use Rattle.core_program.specs.Actions.{◌>>=◌, Action, Fail, Give, NoMeaning, Perform}
use Rattle.core_program.specs.Conformant.{and_extent, bound_cells, extent_held, extents_held, read_each}
use Rattle.eval_ops.proofs.{ActionsCompose.CameTo, Lists.drop_get}
use Rattle.eval_ops.specs.{Conformant.read_onto, Machines.Moment}

-- an action, another after it, and a third
then_then : {A B C : Type 0} (a : Action A) (f : A → Action B) (g : B → Action C) → (a >>= f) >>= g ≡ a >>= λ x. f x >>= g
then_then (Give x) f g = refl
then_then (Fail why) f g = refl
then_then NoMeaning f g = refl
then_then (Perform act next) f g = λ i. Perform act (λ x. then_then (next x) f g i)

onto_then : {B : Type 0} (vs : List Value) (addr : ℕ) (g : List Value → Action B) → read_value addr >>= (λ v. g (vs ++ v ∷ [])) ≡ read_onto vs addr >>= g
onto_then vs addr g = sym (then_then (read_value addr) (λ v. Give (vs ++ v ∷ [])) g)

next_place : (frame place : ℕ) → moved frame (place + 1) ≡ moved (moved frame place) 1
next_place frame place = omega arith

at : {A : Type 0} (xs : List A) (i : ℕ) (x : A) → slice_get xs i ≡ Some x → drop i xs ≡ x ∷ drop (i + 1) xs
at xs i x h = drop_get xs i x h ∙ ap (λ n. x ∷ drop n xs) (let e : suc i ≡ i + 1 = omega arith in e)

-- both bounds of a spec are read, and then those of the further ones
at_spec : {first : Action (List Value)} {m0 m : Moment} (vs : List Value) (frame : ℕ) (ss : List HeldSpec) (i : ℕ) (s : HeldSpec)
    → slice_get ss i ≡ Some s → CameTo first m0 (read_each vs (bound_cells frame (drop i ss))) m
    → CameTo first m0 (read_onto vs (moved frame s.place) >>= λ us. read_onto us (moved (moved frame s.place) 1) >>= λ ws.
    read_each ws (bound_cells frame (drop (i + 1) ss))) m
at_spec {first = first} {m0 = m0} {m = m} vs frame ss i s h = subst (λ a. CameTo first m0 a m)
    (ap (λ l. read_each vs (bound_cells frame l)) (at ss i s h)
    ∙ (λ j. read_value (moved frame s.place) >>= λ v. read_value (next_place frame s.place j) >>= λ w.
    read_each ((vs ++ v ∷ []) ++ w ∷ []) (bound_cells frame (drop (i + 1) ss)))
    ∙ (λ j. read_value (moved frame s.place) >>= λ v.
    onto_then (vs ++ v ∷ []) (moved (moved frame s.place) 1) (λ ws. read_each ws (bound_cells frame (drop (i + 1) ss))) j)
    ∙ onto_then vs (moved frame s.place) (λ us. read_onto us (moved (moved frame s.place) 1) >>= λ ws. read_each ws (bound_cells frame (drop (i + 1) ss))))

pub at_bounds : {first : Action (List Value)} {m0 m : Moment} (vs : List Value) (frame : ℕ) (ss : List HeldSpec) (i : ℕ) (s : HeldSpec) (cell after : ℕ)
    → slice_get ss i ≡ Some s → cell ≡ moved frame s.place → after ≡ moved cell 1 → CameTo first m0 (read_each vs (bound_cells frame (drop i ss))) m
    → CameTo first m0 (read_onto vs cell >>= λ us. read_onto us after >>= λ ws. read_each ws (bound_cells frame (drop (i + 1) ss))) m
at_bounds {first = first} {m0 = m0} {m = m} vs frame ss i s cell after h e f came = subst (λ a. CameTo first m0 a m)
    (λ j. read_onto vs (sym e j) >>= λ us. read_onto us (sym (f ∙ ap (λ n. moved n 1) e) j) >>= λ ws. read_each ws (bound_cells frame (drop (i + 1) ss)))
    (at_spec vs frame ss i s h came)

pub bounds_read : {first : Action (List Value)} {m0 m : Moment} (vs : List Value) (frame : ℕ) (ss : List HeldSpec) (i : ℕ) → length ss ≤ i
    → CameTo first m0 (read_each vs (bound_cells frame (drop i ss))) m → CameTo first m0 (Give vs) m
bounds_read {first = first} {m0 = m0} {m = m} vs frame ss i h = subst (λ l. CameTo first m0 (read_each vs (bound_cells frame l)) m) (drop_all i ss h)

-- ---- extents

pub none_of : {A : Type 0} (o : Option A) → ((x : A) → o ≡ Some x → ⊥) → o ≡ None
none_of None f = refl
none_of (Some x) f = absurd (f x refl)

-- extents, before those of further specs
abbrev pub and_extents : List Extent → Option (List Extent) → Option (List Extent)
and_extents es None = None
and_extents es (Some fs) = Some (es ++ fs)

pub no_extents : (o : Option (List Extent)) → and_extents [] o ≡ o
no_extents None = refl
no_extents (Some es) = refl

extent_more : (es : List Extent) (e : Extent) (o : Option (List Extent)) → and_extents es (and_extent (Some e) o) ≡ and_extents (es ++ e ∷ []) o
extent_more es e None = refl
extent_more es e (Some fs) = ap Some (sym (append_assoc es (e ∷ []) fs))

module _ (ss : List HeldSpec) (vs : List Value) (i j : ℕ) (es : List Extent) (s : HeldSpec) (spec : slice_get ss i ≡ Some s) where
  pub values_short : length vs - j < 2 → and_extents es (extents_held (drop i ss) (drop j vs)) ≡ None
  values_short h = ap (λ l. and_extents es (extents_held l (drop j vs))) (at ss i s spec)
      ∙ ap (and_extents es) (short (drop j vs) (let l = length-drop j vs in omega (arith, l, h)))
    where
      short : (l : List Value) → length l < 2 → extents_held (s ∷ drop (i + 1) ss) l ≡ None
      short [] h = refl
      short (v ∷ []) h = refl
      short (v ∷ w ∷ l) h = absurd (let q : ⊥ = omega arith in q)

  module _ (v w : Value) (least : slice_get vs j ≡ Some v) (greatest : slice_get vs (j + 1) ≡ Some w) where
    both : and_extents es (extents_held (drop i ss) (drop j vs))
        ≡ and_extents es (and_extent (extent_held s v w) (extents_held (drop (i + 1) ss) (drop (j + 2) vs)))
    both = (λ k. and_extents es (extents_held (at ss i s spec k) (at vs j v least k)))
        ∙ ap (λ l. and_extents es (extents_held (s ∷ drop (i + 1) ss) (v ∷ l)))
        (at vs (j + 1) w greatest ∙ ap (λ n. w ∷ drop n vs) (let e : j + 1 + 1 ≡ j + 2 = omega arith in e))

    pub values_broken : extent_held s v w ≡ None → and_extents es (extents_held (drop i ss) (drop j vs)) ≡ None
    values_broken h = both ∙ ap (λ x. and_extents es (and_extent x (extents_held (drop (i + 1) ss) (drop (j + 2) vs)))) h

    pub values_held : (e : Extent) → extent_held s v w ≡ Some e
        → and_extents es (extents_held (drop i ss) (drop j vs)) ≡ and_extents (es ++ e ∷ []) (extents_held (drop (i + 1) ss) (drop (j + 2) vs))
    values_held e h = both ∙ ap (λ x. and_extents es (and_extent x (extents_held (drop (i + 1) ss) (drop (j + 2) vs)))) h
        ∙ extent_more es e (extents_held (drop (i + 1) ss) (drop (j + 2) vs))

pub extents_whole : (ss : List HeldSpec) (vs : List Value) (i : ℕ) (es : List Extent) → length ss ≤ i → and_extents es (extents_held (drop i ss) vs) ≡ Some es
extents_whole ss vs i es h = ap (λ l. and_extents es (extents_held l vs)) (drop_all i ss h) ∙ ap Some (append-nil es)
