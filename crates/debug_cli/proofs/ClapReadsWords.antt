-- What clap finds in the words, as what they mean.
use Rattle.std.proofs.Common.{◌∙◌, ◌∷◌, ◌≡◌, [], Err, IfOk, IfSome, List, None, Ok, Option, Result, Some, ap, inl, inr, option_map, refl, sym, true}
use Rattle.std.specs.Option.{ok_or}
use Rattle.clap.specs.{Words.rows_of, declared.error.Error.Error, declared.error.kind.ErrorKind.ErrorKind, declared.parser.matches.ArgMatches.ArgMatches}
use Rattle.clap.specs.Words.{App, HasKind, HasMatchesOf, IsAmong, Kinds, Row, Text, fault_of, found_of, is_simple, is_simple_and_free, kind_of, matches_of}
use Rattle.debug_cli.specs.{CommandLine.command_line, Reading.meant_of}
use Rattle.debug_cli.specs.Meaning.{IsWithinLimits, meant, meant_by, unless_fault, value_among}
use Rattle.debug_cli.specs.declared.request.{Asked.Asked, WordFault.WordFault, WordFault.TheVariants.Memory, WordFault.TheVariants.Refused}

-- clap's clauses speak of this command
pub simple : is_simple command_line ≡ true
simple = refl

pub simple_and_free : is_simple_and_free command_line ≡ true
simple_and_free = refl

-- an answer that is handed on
module _ (words : List Text) (x : Result Asked WordFault) where
  pub answers : (r : Option Asked) → x ≡ ok_or r Refused → meant words ≡ option_map meant_of r → IfOk x (λ q. meant words ≡ Some (meant_of q))
  answers None e h = rw e tt
  answers (Some r) e h = rw e h

  pub refuses : (r : Option Asked) → x ≡ ok_or r Refused → meant words ≡ option_map meant_of r → x ≡ Err Refused → meant words ≡ None
  refuses None e h refused = h
  refuses (Some r) e h refused = absurd (let same : ◌≡◌ {A = Result Asked WordFault} (Ok r) (Err Refused) = sym e ∙ refused in let y : ⊥ = cc in y)

  pub allows : (r : Option Asked) → x ≡ ok_or r Refused → IfSome r (λ q. IsWithinLimits (meant_of q)) → IfOk x (λ q. IsWithinLimits (meant_of q))
  allows None e h = rw e tt
  allows (Some r) e h = rw e h

module _ (a : App) (is : a ≡ command_line) (words : List Text) where
  -- where clap takes the words
  pub taken : (m : ArgMatches) (r : Option Asked) → (is_simple_and_free a ≡ true → fault_of a words ≡ []) → HasMatchesOf a words m
      → option_map meant_of r ≡ meant_by (value_among (rows_of (found_of m))) → meant words ≡ option_map meant_of r
  unfolding meant
  taken m r kinds matches asks =
      let none : fault_of command_line words ≡ [] = ap (λ (b : App). fault_of b words) (sym is) ∙ kinds (ap is_simple_and_free is ∙ simple_and_free) in
      let rows : rows_of (found_of m) ≡ matches_of command_line words = (matches (ap is_simple is ∙ simple)).0 ∙ ap (λ (b : App). matches_of b words) is in
      ap (λ (ks : Kinds). unless_fault ks (meant_by (value_among (matches_of command_line words)))) none
      ∙ ap (λ (rs : List Row). meant_by (value_among rs)) (sym rows) ∙ sym asks

  means_nothing : (k : ErrorKind) (ks : Kinds) → fault_of command_line words ≡ ks → IsAmong k ks → meant words ≡ None
  unfolding meant
  means_nothing k [] e among = absurd among
  means_nothing k (x ∷ xs) e among = ap (λ (ks : Kinds). unless_fault ks (meant_by (value_among (matches_of command_line words)))) e

  -- where it does not
  pub not_taken : (e : Error) (f : WordFault) → (is_simple_and_free a ≡ true → HasKind (fault_of a words) e)
      → (kind_of e ≡ ErrorKind.OutOfMemory → f ≡ Memory) → f ≡ Refused → meant words ≡ None
  not_taken e f kinds memory refused = by (kinds (ap is_simple_and_free is ∙ simple_and_free))
    where
      by : HasKind (fault_of a words) e → meant words ≡ None
      by (inl out) = absurd (let same : Refused ≡ Memory = sym refused ∙ memory out in let x : ⊥ = cc in x)
      by (inr among) = means_nothing (kind_of e) (fault_of a words) (ap (λ (b : App). fault_of b words) (sym is)) among
