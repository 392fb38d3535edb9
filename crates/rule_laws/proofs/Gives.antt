-- What a step gives whose broken rules are all of a text's.
use Rattle.check_steps.specs.{Known.Known, Steps.◌>>=◌, Steps.Step, declared.breaks.Break.Break}
use Rattle.rule_laws.proofs.{Breaks.In, Breaks.in_left, Breaks.in_right, Keeping.Keeps}

-- Where the tables are so and all that the step breaks is told, this holds.
pub record Gives (I : Known → Type 0) (Told : Break → Type 0) {A : Type 0} (m : Step A) (X : Type 0) : Type 0 where
  pub of : (k : Known) → I k → ((b : Break) → In b (m k).broken → Told b) → X

pub gives_none : {I : Known → Type 0} {Told : Break → Type 0} {A : Type 0} {m : Step A} → Gives I Told m (Unit {0})
gives_none = record { of = λ k i w. tt }

pub gives_both : {I : Known → Type 0} {Told : Break → Type 0} {A X Y : Type 0} {m : Step A} → Gives I Told m X → Gives I Told m Y → Gives I Told m (X × Y)
gives_both x y = record { of = λ k i w. (x.of k i w, y.of k i w) }

-- by its first step
pub gives_first : {I : Known → Type 0} {Told : Break → Type 0} {A B X : Type 0} {m : Step A} (f : A → Step B) → Gives I Told m X
    → Gives I Told (m >>= f) X
unfolding ◌>>=◌
gives_first {m = m} f x = record {
  of = λ k i w. let d = m k in x.of k i (λ b here. w b (in_left b d.broken (f d.value d.known).broken here));
}

-- by what comes after it
pub gives_then : {I : Known → Type 0} {Told : Break → Type 0} {A B X : Type 0} {m : Step A} {f : A → Step B} → Keeps I m
    → ((a : A) → Gives I Told (f a) X) → Gives I Told (m >>= f) X
unfolding ◌>>=◌
gives_then {m = m} {f = f} kept x = record {
  of = λ k i w.
      let d = m k in
      (x d.value).of d.known (kept.of k i) (λ b here. w b (in_right b d.broken (f d.value d.known).broken here));
}
