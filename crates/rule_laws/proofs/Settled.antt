-- What a step gives whose tokens have the rows at the end that it leaves.
use Rattle.std.proofs.Common.{◌<◌, ◌∙◌, ◌≡◌, [], ℕ, List, ap, arith, inl, inr, length, suc, sym}
use Rattle.grammar.specs.Nodes.{Node, Pair}
use Rattle.check_steps.specs.{Known.Known, Known.row_at, Steps.◌>>=◌, Steps.Step, declared.words.SpelledToken.SpelledToken}
use Rattle.rule_laws.proofs.{Every.Every, Every.every, ExpressionRows.left_none, ExpressionRows.right_none, Faces.Shown, Faces.face, Faces.loose, Keeping.Keeps}
use Rattle.rule_laws.proofs.{NamesFound.Ahead, NamesFound.ahead_before, NamesFound.outward_then, Once.every_has, Outward.Outward, Stood.Stood}
use Rattle.rule_laws.proofs.{Stood.stood_later, Touches.Same, Touches.Touches, WithFrames.Around, WithFrames.around_then}
use Rattle.rule_laws.specs.Tokens.{Has, IsDistinct}

-- a text before it is checked, and its tables at the end
pub record Checked : Type 0 where
  pub k : Known
  pub f : Known

-- At these tokens the rows at the end are those of the tables, and its constants and types stood there.
pub record Settled (y : Checked) (Q : ℕ → Type 0) (j : Known) : Type 0 where
  pub ahead : Ahead y.f j
  pub words : j.words ≡ y.k.words
  pub many : length j.program.rows ≡ length y.f.program.rows
  pub rows : (n : ℕ) → Q n → suc n < length y.k.words → face loose (row_at y.f n) ≡ face loose (row_at j n)

-- none of these tokens
abbrev pub Off : (ℕ → Type 0) → ℕ → Type 0
Off Q n = Q n → ⊥

pub every_off : (a b : Node) → ((n : ℕ) → Has a n → Has b n → ⊥) → Every (Off (Has a)) b
every_off a b apart = every {P = Has b} (λ n h i. apart n i h) b (every_has b)

-- A part of a text has each token once, none of them the last one.
pub record Inside (y : Checked) (x : Node) : Type 0 where
  pub distinct : IsDistinct x
  pub low : (n : ℕ) → Has x n → suc n < length y.k.words

pub left : {y : Checked} {a b : Node} → Inside y (Pair a b) → Inside y a
left i = record { distinct = i.distinct.0; low = λ n h. i.low n (inl h) }

pub right : {y : Checked} {a b : Node} → Inside y (Pair a b) → Inside y b
right i = record { distinct = i.distinct.1; low = λ n h. i.low n (inr h) }

-- ---- tables before

pub settled_sub : (y : Checked) (Q R : ℕ → Type 0) (j : Known) → ((n : ℕ) → Q n → R n) → Settled y R j → Settled y Q j
settled_sub y Q R j sub s = record { ahead = s.ahead; words = s.words; many = s.many; rows = λ n h low. s.rows n (sub n h) low }

pub settled_before : (y : Checked) (Q : ℕ → Type 0) (j i : Known) → Same (Off Q) loose j i → Settled y Q i → Settled y Q j
settled_before y Q j i s t = record {
  ahead = ahead_before y.f j i s t.ahead;
  words = sym s.words ∙ t.words;
  many = sym s.many ∙ t.many;
  rows = λ n h low.
      let same : length j.words ≡ length y.k.words = ap (λ (ws : List SpelledToken). length ws) (sym s.words ∙ t.words) in
      t.rows n h low ∙ s.rows n (record { none = λ o. o.is h; before_end = λ e. omega (arith, same, low, e) });
}

-- ---- steps

-- Where the tables are so, the step breaks no rule, and its tables are settled at these tokens, this holds.
pub record Tells (y : Checked) (I : Known → Type 0) (Q : ℕ → Type 0) {A : Type 0} (m : Step A) (X : Type 0) : Type 0 where
  pub of : (j : Known) → I j → (m j).broken ≡ [] → Settled y Q (m j).known → X

pub tells_none : {y : Checked} {I : Known → Type 0} {Q : ℕ → Type 0} {A : Type 0} {m : Step A} → Tells y I Q m (Unit {0})
tells_none = record { of = λ j i none s. tt }

pub tells_both : {y : Checked} {I : Known → Type 0} {Q : ℕ → Type 0} {A X Y : Type 0} {m : Step A} → Tells y I Q m X → Tells y I Q m Y
    → Tells y I Q m (X × Y)
tells_both a b = record { of = λ j i none s. (a.of j i none s, b.of j i none s) }

pub tells_sub : {y : Checked} {I : Known → Type 0} {Q R : ℕ → Type 0} {A X : Type 0} {m : Step A} → ((n : ℕ) → Q n → R n) → Tells y I Q m X
    → Tells y I R m X
tells_sub {y = y} {Q = Q} {R = R} {m = m} sub h = record { of = λ j i none s. h.of j i none (settled_sub y Q R (m j).known sub s) }

-- where they are so, they are so, too
pub tells_led : {y : Checked} {I J : Known → Type 0} {Q : ℕ → Type 0} {A X : Type 0} {m : Step A} → ((j : Known) → I j → J j) → Tells y J Q m X
    → Tells y I Q m X
tells_led leads h = record { of = λ j i none s. h.of j (leads j i) none s }

-- by its first step, where what comes after it is off the tokens
pub tells_given : {y : Checked} {I : Known → Type 0} {Q : ℕ → Type 0} {A B X : Type 0} (R : A → Type 0) {m : Step A} {f : A → Step B}
    → ((k : Known) → R (m k).value)
    → ((a : A) → R a → Touches (Off Q) loose (f a)) → Tells y I Q m X → Tells y I Q (m >>= f) X
unfolding ◌>>=◌
tells_given {y = y} {Q = Q} R {m = m} {f = f} gives touches h = record {
  of = λ j i none s.
      let d = m j in
      let e = f d.value d.known in
      h.of j i (left_none d.broken e.broken none) (settled_before y Q d.known e.known ((touches d.value (gives j)).same d.known) s);
}

pub tells_first : {y : Checked} {I : Known → Type 0} {Q : ℕ → Type 0} {A B X : Type 0} {m : Step A} {f : A → Step B}
    → ((a : A) → Touches (Off Q) loose (f a))
    → Tells y I Q m X → Tells y I Q (m >>= f) X
tells_first touches h = tells_given (λ a. Unit {0}) (λ k. tt) (λ a u. touches a) h

-- by what comes after it
pub tells_by : {y : Checked} {I : Known → Type 0} {Q : ℕ → Type 0} {A B X : Type 0} (m : Step A) (R : A → Type 0) {f : A → Step B} → Keeps I m
    → ((k : Known) → I k → R (m k).value) → ((a : A) → R a → Tells y I Q (f a) X) → Tells y I Q (m >>= f) X
unfolding ◌>>=◌
tells_by m R {f = f} kept gives h = record {
  of = λ j i none s.
      let d = m j in
      (h d.value (gives j i)).of d.known (kept.of j i) (right_none d.broken (f d.value d.known).broken none) s;
}

pub tells_then : {y : Checked} {I : Known → Type 0} {Q : ℕ → Type 0} {A B X : Type 0} (m : Step A) {f : A → Step B} → Keeps I m
    → ((a : A) → Tells y I Q (f a) X) → Tells y I Q (m >>= f) X
tells_then m kept h = tells_by m (λ a. Unit {0}) kept (λ k i. tt) (λ a u. h a)

-- ---- frames that lead outward

-- this frame leads outward to none, and is inside of records and a block's, and what the tables say stands at the end
pub record Led (f : Known) (block : ℕ) (slots : List ℕ) (frame : ℕ) (j : Known) : Type 0 where
  pub outward : Outward j.frames frame
  pub around : Around f j block slots frame
  pub stood : Stood f j

pub led_then : {Q : ℕ → Type 0} {strict : Shown} (f : Known) (block : ℕ) (slots : List ℕ) (frame : ℕ) (j i : Known) → Same Q strict j i
    → Led f block slots frame j → Led f block slots frame i
led_then f block slots frame j i same l = record {
  outward = outward_then j i frame same.frames l.outward;
  around = around_then f j i same.frames block slots frame l.around;
  stood = stood_later f j i same l.stood;
}

pub led : {Q : ℕ → Type 0} {strict : Shown} {f : Known} {block : ℕ} {slots : List ℕ} {frame : ℕ} {A : Type 0} {m : Step A} → Touches Q strict m
    → Keeps (Led f block slots frame) m
led {f = f} {block = block} {slots = slots} {frame = frame} {m = m} touches =
    record { of = λ j l. led_then f block slots frame j (m j).known (touches.same j) l }
