-- From the pieces of a source to its tokens, its program and its run.
use Rattle.std.proofs.Common.{◌∙◌, ◌≡◌, ℕ, Err, List, inl, inr, subst, sym}
use Rattle.pas_lexer.specs.{Division.IsLexed, Lexed.Lexed, declared.kinds.Token.Token}
use Rattle.core_program.specs.ProgramRows.{ProgramRows}
use Rattle.code_checker.specs.{OneProgram.AtMostOneProgram, OneProgram.NeverBoth, Pieces.IsUnlexed, Pieces.TokensAre, Programs.IsChecked, Programs.IsUnchecked}
use Rattle.code_checker.specs.{Programs.RefusesText, declared.faults.SourceRefusal.SourceRefusal}
use Rattle.code_checker.specs.declared.faults.SourceFault.{SourceFault, TheVariants.Memory, TheVariants.Refused}
use Rattle.debuggee.specs.{Execution.Supply, Execution.execution_of, Program.IsProgram, Program.IsRefused, Program.Keeps}

-- ---- no tokens

pub no_tokens_only : (source : List ℕ) (e : SourceFault) → ((tokens : List Token) → IsLexed source tokens → TokensAre tokens (Err e))
    → (t : Lexed) (p : ProgramRows) → IsProgram source t p → Keeps t p (Err e)
no_tokens_only source (Refused why line byte) h t p r = h t.tokens r.lexed
no_tokens_only source Memory h t p r = tt

pub no_tokens_refused : (source : List ℕ) (e : SourceFault) → IsUnlexed source e → IsRefused source e
no_tokens_refused source (Refused why line byte) h = (λ t p is. h.0 t.tokens is.lexed, inl h.1)
no_tokens_refused source Memory h = tt

-- ---- tokens that are no program

no_text : NeverBoth → (t : Lexed) (p : ProgramRows) (why : SourceRefusal) (line byte : ℕ) → IsChecked t p → RefusesText t why line byte → ⊥
no_text law t p why line byte is refuses = let e = law t p (Refused why line byte) is refuses in let x : ⊥ = cc in x

-- the one list of tokens of a source
pub record IsDivided (source : List ℕ) (tokens : Lexed) : Type 0 where
  pub kept : tokens.source ≡ source
  pub lexed : IsLexed source tokens.tokens
  pub only : (others : List Token) → IsLexed source others → tokens.tokens ≡ others

module _ {source : List ℕ} {tokens : Lexed} (the : IsDivided source tokens) where
  -- a program of this source has these tokens
  same_tokens : (t : Lexed) (p : ProgramRows) → IsProgram source t p → tokens ≡ t
  same_tokens t p is = λ i. record { tokens = the.only t.tokens is.lexed i; source = (the.kept ∙ sym is.kept) i }

  checked_here : (t : Lexed) (p : ProgramRows) → IsProgram source t p → IsChecked tokens p
  checked_here t p is = subst (λ (u : Lexed). IsChecked u p) (sym (same_tokens t p is)) is.checked

  pub unchecked_only : NeverBoth → (e : SourceFault) → IsUnchecked tokens e → (t : Lexed) (p : ProgramRows) → IsProgram source t p → Keeps t p (Err e)
  unchecked_only law (Refused why line byte) h t p is = no_text law tokens p why line byte (checked_here t p is) h
  unchecked_only law Memory h t p is = tt

  pub unchecked_refused : NeverBoth → (e : SourceFault) → IsUnchecked tokens e → IsRefused source e
  unchecked_refused law (Refused why line byte) h =
      ((λ t p is. no_text law tokens p why line byte (checked_here t p is) h), inr (tokens, record { kept = the.kept; lexed = the.lexed }, h))
  unchecked_refused law Memory h = tt

  -- ---- a program

  pub checked_only : AtMostOneProgram → (program : ProgramRows) → IsChecked tokens program → (t : Lexed) (p : ProgramRows) → IsProgram source t p
      → (tokens ≡ t) × (program ≡ p)
  checked_only law program is t p so = (same_tokens t p so, law tokens program p is (checked_here t p so))

  pub checked_found : (program : ProgramRows) → IsChecked tokens program → IsProgram source tokens program
  checked_found program is = record { kept = the.kept; lexed = the.lexed; checked = is }

-- ---- one program of a source

pub one_run : AtMostOneProgram → (source : List ℕ) (t t' : Lexed) (p p' : ProgramRows) → IsProgram source t p → IsProgram source t' p'
    → t.tokens ≡ t'.tokens → (s : Supply) → execution_of t p s ≡ execution_of t' p' s
one_run law source t t' p p' a b e s =
    let same : t ≡ t' = λ i. record { tokens = e i; source = (a.kept ∙ sym b.kept) i } in
    let program : p ≡ p' = law t p p' a.checked (subst (λ (u : Lexed). IsChecked u p') (sym same) b.checked) in
    λ i. execution_of (same i) (program i) s
