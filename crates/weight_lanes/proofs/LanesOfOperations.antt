-- What the operations on vectors of 16 lanes hold, lane by lane.
use Rattle.std.proofs.Common.{◌+◌, ◌-◌, ◌<◌, ◌^◌, ◌∙◌, ◌≡◌, ◌≤◌, ℕ, Bool, List, ap, arith, cond, false, get_or, length, ltb, map, max, min, refl, subst, sym}
use Rattle.std.proofs.{Common.true, Common.w32, lemmas.Bool.ltb-false, lemmas.Bool.ltb-true, lemmas.List.get_or-map, lemmas.List.length-map}
use Rattle.std.proofs.lemmas.Simd.{get_or-chunk, get_or-sel_l, get_or-zip2, length-chunk, length-sel_l, length-zip2, tops_compared}
use Rattle.std.specs.Simd.Lanes.{chunk, sel_l, top, zip2}
use Rattle.weight_lanes.specs.Lanes.{HasLanes}

-- a load
pub HasLanes-chunk : (at : ℕ) (column : List ℕ) → at + 16 ≤ length column → HasLanes (λ lane. get_or column (at + lane) 0) (chunk at 16 column)
HasLanes-chunk at column room = record { long = length-chunk at 16 column room; each = λ lane l. get_or-chunk at 16 column lane 0 l }

-- a cast that keeps each lane
pub HasLanes-same : (f : ℕ → ℕ) (lanes : List ℕ) → HasLanes f lanes → HasLanes f (map (λ lane. lane) lanes)
HasLanes-same f lanes has = record {
  long = length-map lanes (λ lane. lane) ∙ has.long;
  each = λ lane l. get_or-map (λ (x : ℕ). x) lanes lane 0 0 (omega (arith, has.long)) ∙ has.each lane l;
}

-- an operator on two vectors
pub HasLanes-zip2 : (f : ℕ → ℕ → ℕ) (a b : List ℕ) → length a ≡ 16 → length b ≡ 16 → HasLanes (λ lane. f (get_or a lane 0) (get_or b lane 0)) (zip2 f a b)
HasLanes-zip2 f a b p q = record {
  long = length-zip2 f a b (p ∙ sym q) ∙ p;
  each = λ lane l. get_or-zip2 f a b lane 0 0 0 (omega arith) (omega arith);
}

-- a choice by the comparison of two vectors
pub HasLanes-select : (t : ℕ → ℕ → Bool) (a b x y : List ℕ) → length a ≡ 16 → length b ≡ 16 → length x ≡ 16 → length y ≡ 16
    → HasLanes (λ lane. cond (t (get_or a lane 0) (get_or b lane 0)) (get_or x lane 0) (get_or y lane 0))
    (sel_l (map (top 31) (zip2 (λ u v. cond (t u v) (2 ^ 32 - 1) 0) a b)) x y)
HasLanes-select t a b x y p q r s =
    let long : length (zip2 t a b) ≡ 16 = length-zip2 t a b (p ∙ sym q) ∙ p in
    let bare : HasLanes (λ lane. cond (t (get_or a lane 0) (get_or b lane 0)) (get_or x lane 0) (get_or y lane 0)) (sel_l (zip2 t a b) x y) = record {
      long = length-sel_l (zip2 t a b) x y (long ∙ sym r) (long ∙ sym s) ∙ long;
      each = λ lane l.
          get_or-sel_l (zip2 t a b) x y lane 0 (omega arith) (omega arith) (omega arith)
          ∙ ap (λ (m : Bool). cond m (get_or x lane 0) (get_or y lane 0)) (get_or-zip2 t a b lane 0 0 false (omega arith) (omega arith));
    } in
    subst (λ ms. HasLanes (λ lane. cond (t (get_or a lane 0) (get_or b lane 0)) (get_or x lane 0) (get_or y lane 0)) (sel_l ms x y))
    (sym (tops_compared w32 t a b)) bare

-- the same lanes by another rule
pub HasLanes-along : (f g : ℕ → ℕ) (lanes : List ℕ) → ((lane : ℕ) → lane < 16 → f lane ≡ g lane) → HasLanes f lanes → HasLanes g lanes
HasLanes-along f g lanes same has = record { long = has.long; each = λ lane l. has.each lane l ∙ same lane l }

chosen_max : (a b : ℕ) (t : Bool) → ltb a b ≡ t → cond t b a ≡ max a b
chosen_max a b true e = let l = ltb-true a b e in omega arith
chosen_max a b false e = let l = ltb-false a b e in omega arith

-- the larger, as a comparison and a choice
pub larger_is_max : (a b : ℕ) → cond (ltb a b) b a ≡ max a b
larger_is_max a b = chosen_max a b (ltb a b) refl

chosen_min : (a b : ℕ) (t : Bool) → ltb a b ≡ t → cond t a b ≡ min a b
chosen_min a b true e = let l = ltb-true a b e in omega arith
chosen_min a b false e = let l = ltb-false a b e in omega arith

-- the smaller, likewise
pub smaller_is_min : (a b : ℕ) → cond (ltb a b) a b ≡ min a b
smaller_is_min a b = chosen_min a b (ltb a b) refl
