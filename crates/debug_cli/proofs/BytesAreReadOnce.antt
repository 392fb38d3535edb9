-- What bytes are read as: a right program, or none, and then the one fault that is told of them.
use Rattle.std.proofs.Common.{◌∙◌, ◌≡◌, ◌≢◌, ℕ, List, None, Option, Some, ap, refl, subst, sym}
use Rattle.pas_lexer.specs.{Lexed.Lexed, declared.kinds.LexFault.LexFault, declared.kinds.LexReason.LexReason, declared.kinds.Token.Token}
use Rattle.pas_lexer.specs.Division.{FailsAt, FailsFor, IsFault, IsLexed, lex_fault}
use Rattle.pas_phrases.specs.declared.fault.ParseFault.{ParseFault}
use Rattle.core_program.specs.ProgramRows.{ProgramRows}
use Rattle.check_steps.specs.declared.breaks.CheckFault.{CheckFault}
use Rattle.code_checker.specs.{Declarations.HasTokens, OneProgram.AtMostOneProgram, OneProgram.NeverBoth, OneProgram.RefusedOnce, Programs.IsChecked}
use Rattle.code_checker.specs.{Programs.RefusesText, declared.faults.SourceFault.SourceFault, declared.faults.SourceRefusal.SourceRefusal}
use Rattle.reference_oracle.specs.{Reading.IsOfBytes, Reading.IsSourceOf, Reading.IsUnreadReference, declared.faults.RefFault.RefFault}
use Rattle.dialog_replies.specs.declared.references.Reading.{Reading}
use Rattle.debuggee.specs.References.{IsReading, fault_of_reference, told_of}

-- what is known of the pieces of a source, and of texts
pub record Known : Type 0 where
  pub one_list : (source : List ℕ) (tokens others : List Token) → IsLexed source tokens → IsLexed source others → tokens ≡ others
  pub one_fault : (source : List ℕ) (m n : ℕ) → FailsAt source m → FailsAt source n → m ≡ n
  pub one_reason : (source : List ℕ) (r q : LexReason) (m n : ℕ) → FailsFor source r m → FailsFor source q n → r ≡ q
  pub never_lexed : (source : List ℕ) (tokens : List Token) (n : ℕ) → IsLexed source tokens → FailsAt source n → ⊥
  pub one_program : AtMostOneProgram
  pub never_both : NeverBoth
  pub refused_once : RefusedOnce

-- ---- the fault of a piece

record Failed (source : List ℕ) (f : LexFault) : Type 0 where
  reason : LexReason
  at : ℕ
  fails : FailsFor source reason at
  is : f ≡ lex_fault reason at

failed : (source : List ℕ) (f : LexFault) → IsFault source f → IsOfBytes f → Failed source f
failed source (LexFault.BadByte n) x other = record { reason = LexReason.BadByte; at = n; fails = x; is = refl }
failed source (LexFault.OpenComment n) x other = record { reason = LexReason.OpenComment; at = n; fails = x; is = refl }
failed source (LexFault.OpenString n) x other = record { reason = LexReason.OpenString; at = n; fails = x; is = refl }
failed source (LexFault.EmptyString n) x other = record { reason = LexReason.EmptyString; at = n; fails = x; is = refl }
failed source (LexFault.RealWord n) x other = record { reason = LexReason.RealWord; at = n; fails = x; is = refl }
failed source (LexFault.TooLarge n) x other = record { reason = LexReason.TooLarge; at = n; fails = x; is = refl }
failed source (LexFault.Joined n) x other = record { reason = LexReason.Joined; at = n; fails = x; is = refl }
failed source LexFault.Memory x other = absurd (other refl)

-- ---- how bytes are read

-- as a program; or a piece does not fit; or all do, and their tokens are refused
data Way (bytes : List ℕ) : Reading ProgramRows → Type 0 where
  checked : (p : ProgramRows) → IsSourceOf bytes p → Way bytes (Reading.Program p)
  unlexed : (why : List ℕ) (f : LexFault) → Failed bytes f → told_of (fault_of_reference bytes (RefFault.Lex f)) ≡ Some why → Way bytes (Reading.Refused why)
  unchecked : (why : List ℕ) (t : Lexed) → HasTokens bytes t → (f : SourceRefusal) (line byte : ℕ) → RefusesText t f line byte
      → told_of (SourceFault.Refused f line byte) ≡ Some why → Way bytes (Reading.Refused why)

none_some : {why : List ℕ} → ◌≡◌ {A = Option (List ℕ)} None (Some why) → ⊥
none_some e = let x : ⊥ = cc in x

refused_way : (bytes why : List ℕ) (f : RefFault) → IsUnreadReference bytes f → told_of (fault_of_reference bytes f) ≡ Some why
    → Way bytes (Reading.Refused why)
refused_way bytes why (RefFault.Lex f) x told = unlexed why f (failed bytes f x.0 x.1) told
refused_way bytes why (RefFault.Parse (ParseFault.NotProgram token) line byte) (t, has, at) told =
    unchecked why t has SourceRefusal.NotProgram line byte (token, at.0, at.1) told
refused_way bytes why (RefFault.Parse (ParseFault.TooDeep token) line byte) (t, has, at) told =
    unchecked why t has SourceRefusal.TooDeep line byte (token, at.0, at.1) told
refused_way bytes why (RefFault.Parse ParseFault.Memory line byte) x told = absurd (none_some told)
refused_way bytes why (RefFault.Check (CheckFault.Rule rule token) line byte) (t, has, (tree, text, at)) told =
    unchecked why t has (SourceRefusal.Rule rule) line byte (tree, text, (token, at.0, at.1)) told
refused_way bytes why (RefFault.Check (CheckFault.TooBig token) line byte) (t, has, (tree, text, at)) told =
    unchecked why t has SourceRefusal.TooBig line byte (tree, text, (token, at.0, at.1)) told
refused_way bytes why (RefFault.Check CheckFault.Memory line byte) x told = absurd (none_some told)
refused_way bytes why RefFault.Memory x told = absurd (none_some told)

way : (bytes : List ℕ) (x : Reading ProgramRows) → IsReading bytes x → Way bytes x
way bytes (Reading.Program p) is = checked p is
way bytes (Reading.Refused why) (f, unread, told) = refused_way bytes why f unread told

-- ---- one way

same_some : {a b : List ℕ} → Some a ≡ Some b → a ≡ b
same_some e = cc

module _ (known : Known) (bytes : List ℕ) where
  same_fault : (f g : LexFault) → Failed bytes f → Failed bytes g → f ≡ g
  same_fault f g a b =
      let reason = known.one_reason bytes a.reason b.reason a.at b.at a.fails b.fails in
      let at = known.one_fault bytes a.at b.at (a.reason, a.fails) (b.reason, b.fails) in
      a.is ∙ (λ i. lex_fault (reason i) (at i)) ∙ sym b.is

  not_lexed : (f : LexFault) → Failed bytes f → (t : Lexed) → HasTokens bytes t → ⊥
  not_lexed f a t has = known.never_lexed bytes t.tokens a.at has.lexed (a.reason, a.fails)

  same_tokens : (t u : Lexed) → HasTokens bytes t → HasTokens bytes u → t ≡ u
  same_tokens t u a b = λ i. record {
    tokens = known.one_list bytes t.tokens u.tokens a.lexed b.lexed i;
    source = (a.kept ∙ sym b.kept) i;
  }

  -- want of memory is told as no reason at a place
  placed : (f : SourceRefusal) (line byte : ℕ) → SourceFault.Refused f line byte ≢ SourceFault.Memory
  placed f line byte e = let x : ⊥ = cc in x

  not_checked : (p : ProgramRows) → IsSourceOf bytes p → (t : Lexed) → HasTokens bytes t → (f : SourceRefusal) (line byte : ℕ)
      → RefusesText t f line byte → ⊥
  not_checked p (u, has, is) t also f line byte refuses =
      placed f line byte
      (known.never_both t p (SourceFault.Refused f line byte) (subst (λ (x : Lexed). IsChecked x p) (same_tokens u t has also) is) refuses)

  same_program : (p q : ProgramRows) → IsSourceOf bytes p → IsSourceOf bytes q → p ≡ q
  same_program p q (t, has, is) (u, also, so) =
      known.one_program u p q (subst (λ (x : Lexed). IsChecked x p) (same_tokens t u has also) is) so

  same_way : (x y : Reading ProgramRows) → Way bytes x → Way bytes y → x ≡ y
  same_way x y (checked p a) (checked q b) = ap Reading.Program (same_program p q a b)
  same_way x y (checked p a) (unlexed why f b told) = absurd (not_lexed f b a.0 a.1)
  same_way x y (checked p a) (unchecked why t has f line byte refuses told) = absurd (not_checked p a t has f line byte refuses)
  same_way x y (unlexed why f b told) (checked p a) = absurd (not_lexed f b a.0 a.1)
  same_way x y (unlexed why f a told) (unlexed because g b also) =
      ap Reading.Refused (same_some (sym told ∙ ap (λ (h : LexFault). told_of (fault_of_reference bytes (RefFault.Lex h))) (same_fault f g a b) ∙ also))
  same_way x y (unlexed why f b told) (unchecked because t has g line byte refuses also) = absurd (not_lexed f b t has)
  same_way x y (unchecked why t has f line byte refuses told) (checked p a) = absurd (not_checked p a t has f line byte refuses)
  same_way x y (unchecked why t has f line byte refuses told) (unlexed because g b also) = absurd (not_lexed g b t has)
  same_way x y (unchecked why t has f line byte refuses told) (unchecked because u too g line' byte' again also) =
      let here = subst (λ (v : Lexed). RefusesText v f line byte) (same_tokens t u has too) refuses in
      let same = known.refused_once u (SourceFault.Refused f line byte) (SourceFault.Refused g line' byte') here again
      (placed f line byte) (placed g line' byte') in
      ap Reading.Refused (same_some (sym told ∙ ap told_of same ∙ also))

  pub one_reading : (x y : Reading ProgramRows) → IsReading bytes x → IsReading bytes y → x ≡ y
  one_reading x y a b = same_way x y (way bytes x a) (way bytes y b)
