-- The open calls follow one another.
use Rattle.std.proofs.Common.{◌++◌, ◌+◌, ◌<◌, ◌∙◌, ◌∷◌, ◌≡◌, ◌≤◌, [], ℕ, List, Option, Some, arith, get_or, inl, inr, length, length-append, slice_get}
use Rattle.std.proofs.Math.ListN.{get_or-append}
use Rattle.call_tree.proofs.Places.{get_snoc_before}
use Rattle.call_tree.specs.{Nesting.IsChain, Nesting.IsOpen, Numbering.IsParent}

-- each is a call
pub open_is_call : (parent : List (Option ℕ)) (depth open_calls : List ℕ) (call : ℕ) → IsChain parent depth open_calls → IsOpen call open_calls
    → call < length parent
open_is_call parent depth [] call chain h = absurd h
open_is_call parent depth (number ∷ outer) call chain (inl e) = let inside = chain.0.a_call in omega arith
open_is_call parent depth (number ∷ outer) call chain (inr h) = open_is_call parent depth outer call chain.1 h

-- none is later than the innermost
pub open_to_innermost : (parent : List (Option ℕ)) (depth open_calls : List ℕ) (call innermost : ℕ) → IsChain parent depth open_calls → IsOpen call open_calls
    → slice_get open_calls 0 ≡ Some innermost → call ≤ innermost
open_to_innermost parent depth [] call innermost chain h is = absurd h
open_to_innermost parent depth (number ∷ outer) call innermost chain (inl e) is = let same : number ≡ innermost = cc in omega arith
open_to_innermost parent depth (number ∷ outer) call innermost chain (inr h) is =
    let same : number ≡ innermost = cc in let before = chain.0.later call h in omega arith

pub innermost_is_open : (open_calls : List ℕ) (innermost : ℕ) → slice_get open_calls 0 ≡ Some innermost → IsOpen innermost open_calls
innermost_is_open [] innermost is = cc
innermost_is_open (number ∷ outer) innermost is = inl cc

pub innermost_depth : (parent : List (Option ℕ)) (depth open_calls : List ℕ) (innermost : ℕ) → IsChain parent depth open_calls
    → slice_get open_calls 0 ≡ Some innermost → get_or depth innermost 0 + 1 ≡ length open_calls
innermost_depth parent depth [] innermost chain is = cc
innermost_depth parent depth (number ∷ outer) innermost chain is =
    let same : innermost ≡ number = cc in
    let deep = chain.0.depth_is in
    rw same (omega (arith, deep))

-- what calls an open one is open
pub parent_is_open : (parent : List (Option ℕ)) (depth open_calls : List ℕ) (above call : ℕ) → IsChain parent depth open_calls → IsParent parent above call
    → IsOpen call open_calls → IsOpen above open_calls
parent_is_open parent depth [] above call chain is h = absurd h
parent_is_open parent depth (number ∷ outer) above call chain is (inl e) =
    let first : slice_get parent call ≡ Some (slice_get outer 0) = rw e chain.0.parent_is in
    let head : slice_get outer 0 ≡ Some above = cc in
    inr (innermost_is_open outer above head)
parent_is_open parent depth (number ∷ outer) above call chain is (inr h) = inr (parent_is_open parent depth outer above call chain.1 is h)

-- one more call leaves them as they were
pub chain_goes_on : (parent : List (Option ℕ)) (depth open_calls : List ℕ) (above : Option ℕ) (deep : ℕ) → length parent ≡ length depth
    → IsChain parent depth open_calls → IsChain (parent ++ above ∷ []) (depth ++ deep ∷ []) open_calls
chain_goes_on parent depth [] above deep same chain = tt
chain_goes_on parent depth (call ∷ outer) above deep same chain =
    let inside = chain.0.a_call in
    let inside_depth : call < length depth = omega arith in (
      record {
        a_call = simp length-append (omega arith);
        parent_is = get_snoc_before parent above call (slice_get outer 0) chain.0.parent_is;
        depth_is = get_or-append depth (deep ∷ []) 0 call inside_depth ∙ chain.0.depth_is;
        later = chain.0.later;
      },
      chain_goes_on parent depth outer above deep same chain.1,
    )
