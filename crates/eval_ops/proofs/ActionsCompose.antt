-- Actions, one after another.
use Rattle.std.proofs.Common.{◌++◌, ◌∙◌, ◌≡◌, [], Err, List, Ok, Result, ap, append-nil, append_assoc, refl, subst, sym}
use Rattle.cell_value.specs.declared.entries.Touch.{Touch}
use Rattle.core_program.specs.Actions.{◌>>=◌, Action, Fail, Finished, Give, NoMeaning, NotMeant, Perform, Performed, Stopped, act, before, follow, performs}
use Rattle.core_program.specs.Acts.{Act, ActResult, Answer, Stops, Went, perform}
use Rattle.core_program.specs.State.{State}
use Rattle.eval_ops.specs.Machines.{ActionFinished, DoesAct, DoesAll, Gives, Moment}
use Rattle.eval_ops.specs.declared.halt.Halt.{Halt, TheVariants.Fault, TheVariants.Limited, TheVariants.Memory, TheVariants.OutOfSteps}

before_nothing : {A : Type 0} (x : Performed A) → before [] x ≡ x
before_nothing (Finished x w σ) = refl
before_nothing (Stopped x w σ) = refl
before_nothing NotMeant = refl

before_before : {A : Type 0} (w v : List Touch) (d : Performed A) → before w (before v d) ≡ before (w ++ v) d
before_before w v (Finished x u σ) = ap (λ l. Finished x l σ) (sym (append_assoc w v u))
before_before w v (Stopped why u σ) = ap (λ l. Stopped why l σ) (sym (append_assoc w v u))
before_before w v NotMeant = refl

-- what follows what was performed
abbrev then_performs : {A B : Type 0} → Performed A → (A → Action B) → Performed B
then_performs (Finished x w σ) f = before w (performs (f x) σ)
then_performs (Stopped why w σ) f = Stopped why w σ
then_performs NotMeant f = NotMeant

before_then : {A B : Type 0} (w : List Touch) (d : Performed A) (f : A → Action B) → before w (then_performs d f) ≡ then_performs (before w d) f
before_then w (Finished x v σ) f = before_before w v (performs (f x) σ)
before_then w (Stopped why v σ) f = refl
before_then w NotMeant f = refl

follow_then : {A B C : Type 0} (d : ActResult A) (g : A → State → Performed B) (h : A → State → Performed C) (f : B → Action C)
    → ((x : A) (σ : State) → h x σ ≡ then_performs (g x σ) f) → follow d h ≡ then_performs (follow d g) f
follow_then (Went x w σ) g h f e = ap (before w) (e x σ) ∙ before_then w (g x σ) f
follow_then (Stops why w σ) g h f e = refl

-- an action and what follows it: first the one, then the other
performs_bind : {A B : Type 0} (a : Action A) (f : A → Action B) (σ : State) → performs (a >>= f) σ ≡ then_performs (performs a σ) f
performs_bind (Give x) f σ = sym (before_nothing (performs (f x) σ))
performs_bind (Fail why) f σ = refl
performs_bind NoMeaning f σ = refl
performs_bind (Perform act next) f σ = follow_then (perform act σ) _ _ f (λ x τ. performs_bind (next x) f τ)

-- so far an action has come to this rest of it
pub record CameTo {A : Type 0} (first : Action A) (m0 : Moment) (rest : Action A) (m : Moment) : Type 0 where
  pub log : List Touch
  pub logs : m.log ≡ m0.log ++ log
  pub is : performs first m0.state ≡ before log (performs rest m.state)

all_logs : {A : Type 0} {first rest : Action A} {m0 m : Moment} {l : List Touch} (h : CameTo first m0 rest m) (w : List Touch) → l ≡ m.log ++ w
    → l ≡ m0.log ++ (h.log ++ w)
all_logs {m0 = m0} h w e = e ∙ ap (λ l. l ++ w) h.logs ∙ append_assoc m0.log h.log w

pub came_start : {A : Type 0} (a : Action A) (m : Moment) → CameTo a m a m
came_start a m = record { log = []; logs = sym (append-nil m.log); is = sym (before_nothing (performs a m.state)) }

-- the action at its head was done
pub came_next : {A B : Type 0} {first : Action B} {m0 : Moment} (a : Action A) (f : A → Action B) (x : A) (m m' : Moment) → CameTo first m0 (a >>= f) m
    → ActionFinished (performs a m.state) x m m' → CameTo first m0 (f x) m'
came_next a f x m m' h w = record {
  log = h.log ++ w.0;
  logs = all_logs h w.0 w.2;
  is = h.is ∙ ap (before h.log) (performs_bind a f m.state ∙ ap (λ d. then_performs d f) w.1) ∙ before_before h.log w.0 (performs (f x) m'.state);
}

-- the whole action was done
pub came_end : {A : Type 0} {first : Action A} {m0 : Moment} (x : A) (m : Moment) → CameTo first m0 (Give x) m
    → ActionFinished (performs first m0.state) x m0 m
came_end {m0 = m0} x m h = (h.log, h.is ∙ ap (λ l. Finished x l m.state) (append-nil h.log), h.logs)

-- the action at its head stopped
pub came_stop : {A B X Y : Type 0} {first : Action B} {m0 : Moment} (seen : X → A) (seen' : Y → B) (a : Action A) (f : A → Action B) (e : Halt)
    (m m' : Moment) → CameTo first m0 (a >>= f) m → DoesAll seen (performs a m.state) (Err e) m m' → DoesAll seen' (performs first m0.state) (Err e) m0 m'
came_stop seen seen' a f (Fault kind) m m' h w = (
  h.log ++ w.0,
  h.is ∙ ap (before h.log) (performs_bind a f m.state ∙ ap (λ d. then_performs d f) w.1),
  all_logs h w.0 w.2,
)
came_stop seen seen' a f OutOfSteps m m' h w = (
  h.log ++ w.0,
  h.is ∙ ap (before h.log) (performs_bind a f m.state ∙ ap (λ d. then_performs d f) w.1),
  all_logs h w.0 w.2,
)
came_stop seen seen' a f (Limited which) m m' h w = (
  h.log ++ w.0,
  h.is ∙ ap (before h.log) (performs_bind a f m.state ∙ ap (λ d. then_performs d f) w.1),
  all_logs h w.0 w.2,
)
came_stop seen seen' a f Memory m m' h w = tt

-- what comes last is the whole
pub came_last : {B Y : Type 0} {first : Action B} {m0 : Moment} (seen : Y → B) (a : Action B) (r : Result Y Halt) (m m' : Moment) → CameTo first m0 a m
    → DoesAll seen (performs a m.state) r m m' → DoesAll seen (performs first m0.state) r m0 m'
came_last seen a (Ok y) m m' h w = (h.log ++ w.0, h.is ∙ ap (before h.log) w.1, all_logs h w.0 w.2)
came_last seen a (Err (Fault kind)) m m' h w = (h.log ++ w.0, h.is ∙ ap (before h.log) w.1, all_logs h w.0 w.2)
came_last seen a (Err OutOfSteps) m m' h w = (h.log ++ w.0, h.is ∙ ap (before h.log) w.1, all_logs h w.0 w.2)
came_last seen a (Err (Limited which)) m m' h w = (h.log ++ w.0, h.is ∙ ap (before h.log) w.1, all_logs h w.0 w.2)
came_last seen a (Err Memory) m m' h w = tt

-- a call that needs no machine leaves the moment
pub does_given : {A X : Type 0} (seen : X → A) (a : Action A) (r : Result X Halt) (m : Moment) → Gives seen a r → DoesAll seen (performs a m.state) r m m
does_given seen a (Ok x) m h = ([], ap (λ a. performs a m.state) h, sym (append-nil m.log))
does_given seen a (Err (Fault kind)) m h = ([], ap (λ a. performs a m.state) h, sym (append-nil m.log))
does_given seen a (Err OutOfSteps) m h = absurd h
does_given seen a (Err (Limited which)) m h = absurd h
does_given seen a (Err Memory) m h = tt

-- an action, and another after it
pub does_bind : {A B Y : Type 0} (seen : Y → B) (a : Action A) (f : A → Action B) (x : A) (old mid new : Moment) (r : Result Y Halt)
    → ActionFinished (performs a old.state) x old mid → DoesAll seen (performs (f x) mid.state) r mid new
    → DoesAll seen (performs (a >>= f) old.state) r old new
does_bind seen a f x old mid new r h k = came_last seen (f x) r mid new (came_next a f x old mid (came_start (a >>= f) old) h) k

-- an action that stops, and what would be after it
pub does_stop : {A B X Y : Type 0} (seen : X → A) (seen' : Y → B) (a : Action A) (f : A → Action B) (old new : Moment) (e : Halt)
    → DoesAll seen (performs a old.state) (Err e) old new → DoesAll seen' (performs (a >>= f) old.state) (Err e) old new
does_stop seen seen' a f old new e h = came_stop seen seen' a f e old new (came_start (a >>= f) old) h

-- an act is an action
pub does_act : {X : Type 0} (a : Act) (seen : X → Answer a) (old new : Moment) (r : Result X Halt) → DoesAct seen (perform a old.state) r old new
    → DoesAll seen (performs (act a) old.state) r old new
does_act a seen old new (Ok x) w = (w.0, ap (λ d. follow d (λ x τ. Finished x [] τ)) w.1 ∙ ap (λ l. Finished (seen x) l new.state) (append-nil w.0), w.2)
does_act a seen old new (Err (Fault kind)) w = (w.0, ap (λ d. follow d (λ x τ. Finished x [] τ)) w.1, w.2)
does_act a seen old new (Err OutOfSteps) w = (w.0, ap (λ d. follow d (λ x τ. Finished x [] τ)) w.1, w.2)
does_act a seen old new (Err (Limited which)) w = (w.0, ap (λ d. follow d (λ x τ. Finished x [] τ)) w.1, w.2)
does_act a seen old new (Err Memory) w = tt

-- two actions, and what both gave
pub does_both : {A B C Y : Type 0} (seen : Y → C) (a : Action A) (b : A → Action B) (h : A → B → C) (x : A) (y : B) (z : Y) (old mid new : Moment)
    → ActionFinished (performs a old.state) x old mid → ActionFinished (performs (b x) mid.state) y mid new → h x y ≡ seen z
    → DoesAll seen (performs (a >>= λ x. b x >>= λ y. Give (h x y)) old.state) (Ok z) old new
does_both seen a b h x y z old mid new f g e = does_bind seen a (λ x. b x >>= λ y. Give (h x y)) x old mid new (Ok z) f
    (does_bind seen (b x) (λ y. Give (h x y)) y mid new new (Ok z) g (does_given seen (Give (h x y)) (Ok z) new (ap Give e)))

-- the second of them stops
pub stops_second : {A B C X Y : Type 0} (seen : X → B) (seen' : Y → C) (a : Action A) (b : A → Action B) (f : A → B → Action C) (x : A) (e : Halt)
    (old mid new : Moment) → ActionFinished (performs a old.state) x old mid → DoesAll seen (performs (b x) mid.state) (Err e) mid new
    → DoesAll seen' (performs (a >>= λ x. b x >>= λ y. f x y) old.state) (Err e) old new
stops_second seen seen' a b f x e old mid new g h =
    does_bind seen' a (λ x. b x >>= λ y. f x y) x old mid new (Err e) g (does_stop seen seen' (b x) (f x) mid new e h)

-- both were done, and what follows them
pub does_third : {A B C Y : Type 0} (seen : Y → C) (a : Action A) (b : A → Action B) (f : A → B → Action C) (x : A) (y : B) (old mid new last : Moment)
    (r : Result Y Halt) → ActionFinished (performs a old.state) x old mid → ActionFinished (performs (b x) mid.state) y mid new
    → DoesAll seen (performs (f x y) new.state) r new last → DoesAll seen (performs (a >>= λ x. b x >>= λ y. f x y) old.state) r old last
does_third seen a b f x y old mid new last r g h k =
    does_bind seen a (λ x. b x >>= λ y. f x y) x old mid last r g (does_bind seen (b x) (f x) y mid new last r h k)

-- an action that is the same
pub same_does : {A X : Type 0} (seen : X → A) (a b : Action A) (r : Result X Halt) (old new : Moment) → a ≡ b
    → DoesAll seen (performs a old.state) r old new → DoesAll seen (performs b old.state) r old new
same_does seen a b r old new e h = subst (λ d. DoesAll seen (performs d old.state) r old new) e h

pub same_gives : {A X : Type 0} (seen : X → A) (a b : Action A) (r : Result X Halt) → a ≡ b → Gives seen a r → Gives seen b r
same_gives seen a b r e h = subst (λ d. Gives seen d r) e h
