-- What a step keeps, and what holds of all that it breaks, where that is told.
use Rattle.std.proofs.Common.{◌≡◌}
use Rattle.check_steps.specs.{Known.Known, Steps.◌>>=◌, Steps.Step, Steps.give, Steps.look, declared.breaks.Break.Break}
use Rattle.rule_laws.proofs.{Keeping.Keeps, Plain.Aim, Plain.Solely}
use Rattle.rule_laws.proofs.Breaks.{Each, In, both, in_left, in_right}

-- from these tables on
pub record Came (I : Known → Type 0) (Told P : Break → Type 0) {A : Type 0} (m : Step A) (k : Known) : Type 0 where
  pub kept : I (m k).known
  pub told : ((b : Break) → In b (m k).broken → Told b) → Each P (m k).broken

pub record Comes (I : Known → Type 0) (Told P : Break → Type 0) {A : Type 0} (m : Step A) : Type 0 where
  pub of : (k : Known) → I k → Came I Told P m k

pub bind-came : {I : Known → Type 0} {Told P : Break → Type 0} {A B : Type 0} {m : Step A} {f : A → Step B} (k : Known) → Came I Told P m k
    → ((a : A) → Comes I Told P (f a)) → Came I Told P (m >>= f) k
unfolding ◌>>=◌
bind-came {P = P} {m = m} {f = f} k c g =
    let d = m k in
    let e = f d.value d.known in
    let next = (g d.value).of d.known c.kept in
    record {
      kept = next.kept;
      told = λ w. both P d.broken e.broken (c.told (λ b here. w b (in_left b d.broken e.broken here)))
          (next.told (λ b here. w b (in_right b d.broken e.broken here)));
    }

pub bind-comes : {I : Known → Type 0} {Told P : Break → Type 0} {A B : Type 0} {m : Step A} {f : A → Step B} → Comes I Told P m
    → ((a : A) → Comes I Told P (f a)) → Comes I Told P (m >>= f)
bind-comes h g = record { of = λ k i. bind-came k (h.of k i) g }

-- a step that breaks nothing else
pub comes_of : {I : Known → Type 0} {Told : Break → Type 0} {aim : Aim} {A : Type 0} {m : Step A} → ((k : Known) → I k → k.words ≡ aim.words) → Keeps I m
    → Solely aim m → Comes I Told aim.P m
comes_of {m = m} spelled kept solely = record { of = λ k i. record { kept = kept.of k i; told = λ w. solely.of k (spelled k i) } }

pub give-comes : {I : Known → Type 0} {Told P : Break → Type 0} {A : Type 0} (x : A) → Comes I Told P (give x)
unfolding give
give-comes x = record { of = λ k i. record { kept = i; told = λ w. tt } }

pub look-comes : {I : Known → Type 0} {Told P : Break → Type 0} {A : Type 0} (f : Known → A) → Comes I Told P (look f)
unfolding look
look-comes f = record { of = λ k i. record { kept = i; told = λ w. tt } }
