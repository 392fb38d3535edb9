-- Actions over many cells, at the next one.
use Rattle.std.proofs.Common.{◌++◌, ◌+◌, ◌-◌, ◌<◌, ◌∙◌, ◌∷◌, ◌≡◌, [], ℕ, List, Some, ap, arith, drop, length, slice_get, subst, suc}
use Rattle.std.proofs.lemmas.List.{length-append}
use Rattle.cell_value.specs.declared.values.Value.{Value}
use Rattle.core_program.specs.{Actions.◌>>=◌, Actions.Action, State.moved}
use Rattle.core_program.specs.Cells.{frame_out, linked, read_value, read_values, write, writes}
use Rattle.eval_ops.proofs.{ActionsCompose.CameTo, Lists.drop_get}
use Rattle.eval_ops.specs.Machines.{Moment}

pub at_link : {first : Action ℕ} {m0 m : Moment} (frame levels i : ℕ) → i < levels → CameTo first m0 (frame_out (levels - i) frame) m
    → CameTo first m0 (linked frame >>= frame_out (levels - (i + 1))) m
at_link {first = first} {m0 = m0} {m = m} frame levels i h = subst (λ n. CameTo first m0 (frame_out n frame) m)
    (let e : levels - i ≡ suc (levels - (i + 1)) = omega (arith, h) in e)

pub at_read : {first : Action (List Value)} {m0 m : Moment} (vs : List Value) (addr cells i : ℕ) → i < cells
    → CameTo first m0 (read_values vs addr (cells - i)) m
    → CameTo first m0 (read_value addr >>= λ v. read_values (vs ++ v ∷ []) (moved addr 1) (cells - (i + 1))) m
at_read {first = first} {m0 = m0} {m = m} vs addr cells i h = subst (λ n. CameTo first m0 (read_values vs addr n) m)
    (let e : cells - i ≡ suc (cells - (i + 1)) = omega (arith, h) in e)

pub at_write : {first : Action (Unit {0})} {m0 m : Moment} (vs : List Value) (addr i : ℕ) (v : Value) → slice_get vs i ≡ Some v
    → CameTo first m0 (writes addr (drop i vs)) m → CameTo first m0 (write addr v >>= λ _. writes (moved addr 1) (drop (i + 1) vs)) m
at_write {first = first} {m0 = m0} {m = m} vs addr i v h = subst (λ l. CameTo first m0 (writes addr l) m)
    (drop_get vs i v h ∙ ap (λ n. v ∷ drop n vs) (let e : suc i ≡ i + 1 = omega arith in e))

pub length_pushed : {A : Type 0} (xs : List A) (x : A) (n : ℕ) → length xs ≡ n → length (xs ++ x ∷ []) ≡ n + 1
length_pushed xs x n h = length-append xs (x ∷ []) ∙ ap (λ n. n + 1) h
