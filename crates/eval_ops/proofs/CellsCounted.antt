-- The cells of an array, counted from the outermost extent inward, where a number stands for more.
use Rattle.std.proofs.Common.{◌*◌, ◌+◌, ◌<◌, ◌∙◌, ◌∷◌, ◌≡◌, ◌≤◌, [], ℕ, Bool, List, Some, ap, arith, drop, false, length, min, nat_le, refl, slice_get, suc}
use Rattle.std.proofs.{Common.sym, Common.true, Common.zero, lemmas.Bool.Decides.nat_tests, lemmas.List.drop_all}
use Rattle.std.proofs.Math.Nat.{le-mul_of_pos_right, mul_comm, mul_left_comm}
use Rattle.core_program.specs.Conformant.{cells_over, components_over, values_over}
use Rattle.core_program.specs.declared.components.{Components.Components, Extent.Extent}
use Rattle.eval_ops.proofs.Lists.{drop_get}

times_capped : (v y z : ℕ) → 0 < v → min z 1048577 ≡ min y 1048577 → min (v * z) 1048577 ≡ min (v * y) 1048577
times_capped v y z h e = by (nat_le 1048577 y) refl
  where
    by : (b : Bool) → nat_le 1048577 y ≡ b → min (v * z) 1048577 ≡ min (v * y) 1048577
    by true q =
        let large : 1048577 ≤ y = grind (arith, nat_tests) in
        let a = le-mul_of_pos_right y h in
        let b = le-mul_of_pos_right z h in
        let c = mul_comm v y in
        let d = mul_comm v z in
        omega (arith, large, e, a, b, c, d)
    by false q =
        let small : y < 1048577 = grind (arith, nat_tests) in
        let same : z ≡ y = omega (arith, small, e) in
        ap (λ n. min (v * n) 1048577) same

some_values : (e : Extent) → 0 < values_over e
some_values e = omega arith

capped : (es : List Extent) (n : ℕ) → min (cells_over es (min n 1048577)) 1048577 ≡ min (cells_over es n) 1048577
capped [] n = omega arith
capped (e ∷ es) n = times_capped (values_over e) (cells_over es n) (cells_over es (min n 1048577)) (some_values e) (capped es n)

scaled : (es : List Extent) (v n : ℕ) → cells_over es (n * v) ≡ v * cells_over es n
scaled [] v n = mul_comm n v
scaled (e ∷ es) v n = ap (λ k. values_over e * k) (scaled es v n) ∙ mul_left_comm (values_over e) v (cells_over es n)

pub cells_onward : (es : List Extent) (i n : ℕ) (e : Extent) → slice_get es i ≡ Some e
    → min (cells_over (drop (i + 1) es) (min (n * values_over e) 1048577)) 1048577 ≡ min (cells_over (drop i es) n) 1048577
cells_onward es i n e h =
    let k : suc i ≡ i + 1 = omega arith in
    capped (drop (i + 1) es) (n * values_over e)
    ∙ ap (λ m. min m 1048577) (scaled (drop (i + 1) es) (values_over e) n
    ∙ sym (ap (λ l. cells_over l n) (drop_get es i e h ∙ ap (λ m. e ∷ drop m es) k)))

pub cells_begun : (es : List Extent) (n : ℕ) → min (cells_over es (min n 1048577)) 1048577 ≡ min (cells_over es n) 1048577
cells_begun es n = capped es n

pub cells_counted : (es : List Extent) (i n : ℕ) → length es ≤ i → cells_over (drop i es) n ≡ n
cells_counted es i n h = ap (λ l. cells_over l n) (drop_all i es h)

capped_again : (k n : ℕ) → k ≡ min n 1048577 → min k 1048576 ≡ min n 1048576
capped_again k n e = omega (arith, e)

-- a component has the cells of the extents further in
pub components_first : (e : Extent) (es : List Extent) (n k : ℕ) (c : Components) → k ≡ min (cells_over es n) 1048577 → Some c ≡ components_over (e ∷ []) k
    → Some c ≡ components_over (e ∷ es) n
components_first e es n k c h q = q ∙ ap (λ m. Some (record { least = e.least; greatest = e.greatest; size = m })) (capped_again k (cells_over es n) h)
