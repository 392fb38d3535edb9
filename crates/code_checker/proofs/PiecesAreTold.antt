-- What is told of a piece that does not fit.
use Rattle.std.proofs.Common.{◌≡◌, ℕ, Err, List, refl, subst, sym}
use Rattle.pas_lexer.specs.{Division.IsFault, Division.IsLexed, declared.kinds.LexFault.LexFault, declared.kinds.Token.Token}
use Rattle.code_checker.specs.Pieces.{IsUnlexed, TokensAre, fault_of_piece}

-- beside a fault of the lexer there are no tokens, but where it is want of memory
pub piece_unlexed : (source : List ℕ) (fault : LexFault) → IsFault source fault
    → ((tokens : List Token) → IsLexed source tokens → fault ≡ LexFault.Memory) → IsUnlexed source (fault_of_piece source fault)
piece_unlexed source LexFault.Memory h only = tt
piece_unlexed source fault h only = ((λ tokens l. let e = only tokens l in let x : ⊥ = cc in x), (h, refl))

-- and that of a source that has tokens is want of memory
pub piece_only : (source : List ℕ) (fault : LexFault) → ((tokens : List Token) → IsLexed source tokens → fault ≡ LexFault.Memory)
    → (tokens : List Token) → IsLexed source tokens → TokensAre tokens (Err (fault_of_piece source fault))
piece_only source fault only tokens l =
    subst (λ (f : LexFault). TokensAre tokens (Err (fault_of_piece source f))) (sym (only tokens l)) tt
