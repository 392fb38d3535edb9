-- Frames and blocks, made and removed a cell at a time.
use Rattle.std.proofs.Common.{◌+◌, ◌∙◌, ◌≡◌, ℕ, List, Some, ap, arith, drop, replicate, slice_get, suc}
use Rattle.std.specs.{FinMap.FinMap, FinMap.insert, FinMap.remove, Ordering.nat_cmp}
use Rattle.cell_value.specs.declared.values.Value.{Value, TheVariants.Undefined}
use Rattle.core_program.specs.Blocks.{cleared, filled}
use Rattle.eval_ops.proofs.Lists.{drop_get}

-- one cell more is made
pub filled_more : (base i : ℕ) (vs : List Value) (v : Value) (m : FinMap nat_cmp Value) → slice_get vs i ≡ Some v
    → filled (base + i) (drop i vs) m ≡ filled (base + (i + 1)) (drop (i + 1) vs) (insert m (base + i) v)
filled_more base i vs v m h =
    ap (λ l. filled (base + i) l m) (drop_get vs i v h)
    ∙ ap (λ b. filled b (drop (suc i) vs) (insert m (base + i) v)) (let e : base + i + 1 ≡ base + (i + 1) = omega arith in e)
    ∙ ap (λ n. filled (base + (i + 1)) (drop n vs) (insert m (base + i) v)) (let e : suc i ≡ i + 1 = omega arith in e)

-- one cell more of a block is made
pub block_more : (base i n k : ℕ) (m : FinMap nat_cmp Value) → n ≡ suc k → filled (base + i) (replicate n Undefined) m
    ≡ filled (base + (i + 1)) (replicate k Undefined) (insert m (base + i) Undefined)
block_more base i n k m e = ap (λ j. filled (base + i) (replicate j Undefined) m) e
    ∙ ap (λ a. filled a (replicate k Undefined) (insert m (base + i) Undefined)) (let e : base + i + 1 ≡ base + (i + 1) = omega arith in e)

-- one cell more is removed
pub cleared_more : (base i n k : ℕ) (m : FinMap nat_cmp Value) → n ≡ suc k
    → cleared (base + i) n m ≡ cleared (base + (i + 1)) k (remove m (base + i))
cleared_more base i n k m e = ap (λ j. cleared (base + i) j m) e ∙ ap (λ a. cleared a k (remove m (base + i))) (omega arith)
