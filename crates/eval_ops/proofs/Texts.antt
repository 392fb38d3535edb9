-- Texts that are given, at the next char.
use Rattle.std.proofs.Common.{if◌then◌else◌, ◌++◌, ◌+◌, ◌-◌, ◌<◌, ◌∙◌, ◌∷◌, ◌≡◌, [], ℕ, Bool, Err, List, None, Option, Result, Some, ap, arith, drop, false}
use Rattle.std.proofs.Common.{length, map, refl, slice_get, subst, suc, sym, take, true}
use Rattle.std.proofs.lemmas.List.{length-map, take-map}
use Rattle.core_program.specs.{Actions.◌>>=◌, Actions.Action, Actions.performs, Input.space}
use Rattle.core_program.specs.Output.{give_byte, gives, in_width, kept, spaces}
use Rattle.eval_ops.proofs.{ActionsCompose.CameTo, ActionsCompose.does_bind, ActionsCompose.does_stop, Lists.drop_get}
use Rattle.eval_ops.specs.{Machines.ActionFinished, Machines.DoesAll, Machines.Moment, Output.give_one, Output.text_by, declared.halt.Halt.Halt}

give_first : (c : Option ℕ) (cs : List (Option ℕ)) → gives (c ∷ cs) ≡ (give_one c >>= λ _. gives cs)
give_first (Some byte) cs = refl
give_first None cs = refl

pub at_space : {first : Action (Unit {0})} {m0 m : Moment} (n i : ℕ) → i < n → CameTo first m0 (gives (spaces (n - i))) m
    → CameTo first m0 (give_byte space >>= λ _. gives (spaces (n - (i + 1)))) m
at_space {first = first} {m0 = m0} {m = m} n i h = subst (λ k. CameTo first m0 (gives (spaces k)) m)
    (let e : n - i ≡ suc (n - (i + 1)) = omega (arith, h) in e)

pub at_char : {C : Type 0} {first : Action (Unit {0})} {m0 m : Moment} (byte : C → Option ℕ) (cs : List C) (i : ℕ) (c : C) → slice_get cs i ≡ Some c
    → CameTo first m0 (gives (map byte (drop i cs))) m → CameTo first m0 (give_one (byte c) >>= λ _. gives (map byte (drop (i + 1) cs))) m
at_char {first = first} {m0 = m0} {m = m} byte cs i c h = subst (λ a. CameTo first m0 a m)
    (ap (λ l. gives (map byte l)) (drop_get cs i c h ∙ ap (λ n. c ∷ drop n cs) (let e : suc i ≡ i + 1 = omega arith in e))
    ∙ give_first (byte c) (map byte (drop (i + 1) cs)))

gives_append : (xs ys : List (Option ℕ)) → gives (xs ++ ys) ≡ (gives xs >>= λ _. gives ys)
gives_append [] ys = refl
gives_append (Some byte ∷ xs) ys = ap (λ a. give_byte byte >>= λ _. a) (gives_append xs ys)
gives_append (None ∷ xs) ys = refl

-- a text that is shown to a width by the chars that it has
module _ {C : Type 0} (byte : C → Option ℕ) (is_cut : Bool) (cs : List C) (width : ℕ) where
  abbrev left : List C
  left = if is_cut then take width cs else cs

  kept_chars : kept width (text_by byte is_cut cs) ≡ map byte left
  kept_chars = by is_cut
    where
      by : (b : Bool) → (if b then take width (map byte cs) else map byte cs) ≡ map byte (if b then take width cs else cs)
      by true = take-map byte width cs
      by false = refl

  in_two : gives (in_width width (text_by byte is_cut cs)) ≡ (gives (spaces (width - length cs)) >>= λ _. gives (map byte left))
  in_two = ap gives (ap (λ n. spaces (width - n) ++ kept width (text_by byte is_cut cs)) (length-map cs byte)
      ∙ ap (λ l. spaces (width - length cs) ++ l) kept_chars)
      ∙ gives_append (spaces (width - length cs)) (map byte left)

  abbrev DoesWide : Result (Unit {0}) Halt → Moment → Moment → Type 0
  DoesWide r old new = DoesAll (λ _. tt) (performs (gives (in_width width (text_by byte is_cut cs))) old.state) r old new

  pub wide_stops : (n : ℕ) → n ≡ width - length cs → (e : Halt) (old new : Moment)
      → DoesAll {X = Unit {0}} (λ _. tt) (performs (gives (spaces n)) old.state) (Err e) old new → DoesWide (Err e) old new
  wide_stops n q e old new h = subst (λ a. DoesAll {X = Unit {0}} (λ _. tt) (performs a old.state) (Err e) old new) (sym in_two)
      (does_stop {X = Unit {0}} {Y = Unit {0}} (λ _. tt) (λ _. tt) (gives (spaces (width - length cs))) (λ _. gives (map byte left)) old new e
      (subst (λ n. DoesAll {X = Unit {0}} (λ _. tt) (performs (gives (spaces n)) old.state) (Err e) old new) q h))

  pub wide_goes : (n : ℕ) → n ≡ width - length cs → (ds : List C) → ds ≡ left → (r : Result (Unit {0}) Halt) (old mid new : Moment)
      → ActionFinished (performs (gives (spaces n)) old.state) tt old mid → DoesAll (λ _. tt) (performs (gives (map byte ds)) mid.state) r mid new
      → DoesWide r old new
  wide_goes n q ds s r old mid new h k = subst (λ a. DoesAll (λ _. tt) (performs a old.state) r old new) (sym in_two)
      (does_bind (λ _. tt) (gives (spaces (width - length cs))) (λ _. gives (map byte left)) tt old mid new r
      (subst (λ n. ActionFinished (performs (gives (spaces n)) old.state) tt old mid) q h)
      (subst (λ ds. DoesAll (λ _. tt) (performs (gives (map byte ds)) mid.state) r mid new) s k))
