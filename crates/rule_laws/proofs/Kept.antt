-- What a step leaves as it is, wherever it tells of rules.
use Rattle.std.proofs.Common.{ℕ, Bool}
use Rattle.check_steps.specs.{Known.Known, Steps.◌>>=◌, Steps.Step, Steps.ask, Steps.look, declared.breaks.Broken.Broken}
use Rattle.rule_laws.proofs.{Faces.loose, Touches.Same, Touches.Touches, Touches.same_in, Touches.same_then}

pub record Kept (Q : ℕ → Type 0) {A : Type 0} (m : Step A) : Type 0 where
  pub same : (k : Known) → Same Q loose k (m k).known

pub kept : {Q : ℕ → Type 0} {A : Type 0} {m : Step A} → Touches Q loose m → Kept Q m
kept t = record { same = λ k. t.same k }

pub bind_kept : {Q : ℕ → Type 0} {A B : Type 0} {m : Step A} {f : A → Step B} → Kept Q m → ((a : A) → Kept Q (f a)) → Kept Q (m >>= f)
unfolding ◌>>=◌
bind_kept {m = m} {f = f} h g = record {
  same = λ k. let d = m k in same_then k d.known (f d.value d.known).known (h.same k) ((g d.value).same d.known);
}

pub look_kept : {Q : ℕ → Type 0} {A : Type 0} (f : Known → A) → Kept Q (look f)
unfolding look
look_kept f = record { same = λ k. same_in k }

pub ask_kept : {Q : ℕ → Type 0} (what : Broken) (token : ℕ) (ok : Bool) → Kept Q (ask what token ok)
unfolding ask
ask_kept what token ok = record { same = λ k. same_in k }
