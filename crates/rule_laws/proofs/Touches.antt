-- What a step leaves as it is: all that is not at one of its tokens; and where it breaks rules.
use Rattle.std.proofs.Common.{if◌then◌else◌, ◌&&◌, ◌++◌, ◌-◌, ◌||◌, ◌∙◌, ◌∷◌, ◌≡◌, ◌⊎◌, [], ℕ, ℤ, Bool, List, ap, false, inl, inr, length, length-set, map}
use Rattle.std.proofs.Common.{nat_eq, refl, subst, sym, true}
use Rattle.std.{proofs.lemmas.Bool.ne_eqb, proofs.lemmas.List.append-nil, proofs.lemmas.List.append_assoc, specs.List.list_any, specs.Ordering.int_eq}
use Rattle.grammar.specs.Nodes.{Node, row}
use Rattle.core_program.specs.{ProgramRows.row_at as row_in, declared.rows.Row.Row}
use Rattle.check_steps.specs.{Breaks.number, Steps.threaten, Steps.too_big, Steps.when, declared.regions.Frame.Frame, declared.regions.Span.Span}
use Rattle.check_steps.specs.Known.{Known, and_choice, is_chosen, row_at, same_choice, with_row}
use Rattle.check_steps.specs.Steps.{◌>>=◌, Step, add_chosen, ask, change, each, early, enter_block, extend, give, hold, late, look, open_frame, put, release}
use Rattle.check_steps.specs.declared.breaks.{Break.Break, Broken.Broken, Broken.TheVariants.Early, Broken.TheVariants.Late, Broken.TheVariants.TooBig}
use Rattle.statement_checker.specs.Assignments.{assigned_in}
use Rattle.rule_laws.proofs.{Breaks.Each, Breaks.both, Every.Every, Every.Of}
use Rattle.rule_laws.proofs.Faces.{Shown, Shows, face, fine_in, row_either, said, unsaid_fine, unsaid_given}

-- ---- where rules are broken

-- a rule that definitions alone break
abbrev pub is_of_definitions : Broken → Bool
is_of_definitions (Early rule) = nat_eq rule 2 || nat_eq rule 8
is_of_definitions b = false

-- a rule that is told of labels in front of statements, or at the end of a function's block
abbrev pub is_of_ends : ℕ → Bool
is_of_ends rule = nat_eq rule 15 || nat_eq rule 12

-- At one of these tokens, but for threats by routines; no rule of definitions; and where it is `strict` neither rule 15 nor 12.
pub record Told (Q : ℕ → Type 0) (strict : Shown) (b : Break) : Type 0 where
  pub at : Of Q b.token ⊎ (number b.broken ≡ 20)
  pub quiet : strict.marks ≡ true → is_of_ends (number b.broken) ≡ false
  pub used : is_of_definitions b.broken ≡ false

-- ---- what stays

-- The row of all empty statements stands at the last token.
pub record IsBeside (Q : ℕ → Type 0) (k : Known) (n : ℕ) : Type 0 where
  pub none : Of Q n → ⊥
  pub before_end : n ≡ length k.words - 1 → ⊥

pub record Longer (xs ys : List Frame) : Type 0 where
  pub more : List Frame
  pub is : ys ≡ xs ++ more

-- What is said there is as before; or nothing is said there, at one of the tokens or the last one.
abbrev pub Says : (Q : ℕ → Type 0) (k j : Known) → ℕ → Type 0
Says Q k j n = ((Of Q n ⊎ (n ≡ length k.words - 1)) × (said (row_at j n) ≡ Row.Nothing)) ⊎ (said (row_at j n) ≡ said (row_at k n))

pub record Same (Q : ℕ → Type 0) (strict : Shown) (k j : Known) : Type 0 where
  pub words : j.words ≡ k.words
  pub texts : j.program.texts ≡ k.program.texts
  pub routines : j.program.routines ≡ k.program.routines
  pub regions : j.regions ≡ k.regions
  pub many : length j.program.rows ≡ length k.program.rows
  pub frames : Longer k.frames j.frames
  pub still : strict.frames ≡ true → j.frames ≡ k.frames
  pub rows : (n : ℕ) → IsBeside Q k n → face strict (row_at j n) ≡ face strict (row_at k n)
  pub sayings : (n : ℕ) → Says Q k j n
  pub chosen : (list : ℕ) → (Of Q list → ⊥) → (v : ℤ) → is_chosen j list v ≡ is_chosen k list v
  pub spent : (n level : ℕ) → fine_in level (row_at k n) ≡ false → fine_in level (row_at j n) ≡ false
  pub given : strict.results ≡ true → (n : ℕ) → assigned_in (row_at k n) ≡ false → assigned_in (row_at j n) ≡ false
  pub grows : (list : ℕ) (v : ℤ) → is_chosen k list v ≡ true → is_chosen j list v ≡ true

pub record Touches (Q : ℕ → Type 0) (strict : Shown) {A : Type 0} (m : Step A) : Type 0 where
  pub same : (k : Known) → Same Q strict k (m k).known
  pub told : (k : Known) → Each (Told Q strict) (m k).broken

-- ---- the relation

pub no_longer : (xs : List Frame) → Longer xs xs
no_longer xs = record { more = []; is = sym (append-nil xs) }

pub longer_still : (xs ys zs : List Frame) → Longer xs ys → Longer ys zs → Longer xs zs
longer_still xs ys zs a b = record {
  more = a.more ++ b.more;
  is = b.is ∙ ap (λ (l : List Frame). l ++ b.more) a.is ∙ append_assoc xs a.more b.more;
}

-- nothing but what none of it tells
pub same_in : {Q : ℕ → Type 0} {strict : Shown} (k : Known) → Same Q strict k k
same_in k = record {
  words = refl;
  texts = refl;
  routines = refl;
  regions = refl;
  many = refl;
  frames = no_longer k.frames;
  still = λ e. refl;
  rows = λ n h. refl;
  sayings = λ n. inr refl;
  chosen = λ list h v. refl;
  spent = λ n level e. e;
  given = λ _ n e. e;
  grows = λ list v e. e;
}

beside_after : {Q : ℕ → Type 0} {strict : Shown} (k j : Known) → Same Q strict k j → (n : ℕ) → IsBeside Q k n → IsBeside Q j n
beside_after k j s n h = record { none = h.none; before_end = λ e. h.before_end (e ∙ ap (λ ws. length ws - 1) s.words) }

said_then : {Q : ℕ → Type 0} (k j i : Known) (n : ℕ) → j.words ≡ k.words → Says Q k j n → Says Q j i n → Says Q k i n
said_then k j i n words a (inl b) = inl (
  elim b.0 [
    | inl q ↦ inl q
    | inr e ↦ inr (e ∙ ap (λ ws. length ws - 1) words)
  ],
  b.1,
)
said_then k j i n words (inl a) (inr b) = inl (a.0, b ∙ a.1)
said_then k j i n words (inr a) (inr b) = inr (b ∙ a)

pub same_then : {Q : ℕ → Type 0} {strict : Shown} (k j i : Known) → Same Q strict k j → Same Q strict j i → Same Q strict k i
same_then k j i a b = record {
  words = b.words ∙ a.words;
  texts = b.texts ∙ a.texts;
  routines = b.routines ∙ a.routines;
  regions = b.regions ∙ a.regions;
  many = b.many ∙ a.many;
  frames = longer_still k.frames j.frames i.frames a.frames b.frames;
  still = λ e. b.still e ∙ a.still e;
  rows = λ n h. b.rows n (beside_after k j a n h) ∙ a.rows n h;
  sayings = λ n. said_then k j i n a.words (a.sayings n) (b.sayings n);
  chosen = λ list h v. b.chosen list h v ∙ a.chosen list h v;
  spent = λ n level e. b.spent n level (a.spent n level e);
  given = λ strictly n e. b.given strictly n (a.given strictly n e);
  grows = λ list v e. b.grows list v (a.grows list v e);
}

-- ---- rows put

put_face : (strict : Shown) (k : Known) (m n : ℕ) (r : Row) → (n ≡ m → face strict r ≡ face strict (row_at k n))
    → face strict (row_at (with_row k m r) n) ≡ face strict (row_at k n)
put_face strict k m n r same = elim (row_either k m n r) [
  | inl e ↦ ap (face strict) e
  | inr p ↦ ap (face strict) p.1 ∙ same p.0
]

put_said : {Q : ℕ → Type 0} (k : Known) (m n : ℕ) (r : Row) → (Of Q m ⊎ (m ≡ length k.words - 1)) → said r ≡ Row.Nothing
    → Says Q k (with_row k m r) n
put_said {Q = Q} k m n r here none = elim (row_either k m n r) [
  | inl old ↦ inr (ap said old)
  | inr p ↦ inl (subst (λ x. Of Q x ⊎ (x ≡ length k.words - 1)) (sym p.0) here, ap said p.1 ∙ none)
]

changed_said : {Q : ℕ → Type 0} (k : Known) (m n : ℕ) (r : Row) → said r ≡ said (row_at k m) → Says Q k (with_row k m r) n
changed_said k m n r same = elim (row_either k m n r) [
  | inl old ↦ inr (ap said old)
  | inr p ↦ inr (ap said p.1 ∙ same ∙ ap (λ x. said (row_at k x)) (sym p.0))
]

put_spent : (k : Known) (m n level : ℕ) (r : Row) → (n ≡ m → fine_in level (row_at k n) ≡ false → fine_in level r ≡ false)
    → fine_in level (row_at k n) ≡ false → fine_in level (row_at (with_row k m r) n) ≡ false
put_spent k m n level r new e = elim (row_either k m n r) [
  | inl old ↦ ap (fine_in level) old ∙ e
  | inr p ↦ ap (fine_in level) p.1 ∙ new p.0 e
]

pub put_given : (k : Known) (m n : ℕ) (r : Row) → (n ≡ m → assigned_in (row_at k n) ≡ false → assigned_in r ≡ false)
    → assigned_in (row_at k n) ≡ false → assigned_in (row_at (with_row k m r) n) ≡ false
put_given k m n r new e = elim (row_either k m n r) [
  | inl old ↦ ap assigned_in old ∙ e
  | inr p ↦ ap assigned_in p.1 ∙ new p.0 e
]

same_put : {Q : ℕ → Type 0} {strict : Shown} (k : Known) (m : ℕ) (r : Row) → Of Q m → said r ≡ Row.Nothing → Same Q strict k (with_row k m r)
same_put {Q = Q} {strict = strict} k m r here none = record {
  words = refl;
  texts = refl;
  routines = refl;
  regions = refl;
  many = length-set k.program.rows m r;
  frames = no_longer k.frames;
  still = λ e. refl;
  rows = λ n h. put_face strict k m n r (λ e. absurd (h.none (subst (Of Q) (sym e) here)));
  sayings = λ n. put_said k m n r (inl here) none;
  chosen = λ list h v. refl;
  spent = λ n level e. put_spent k m n level r (λ _ x. unsaid_fine level r none) e;
  given = λ _ n e. put_given k m n r (λ _ x. unsaid_given r none) e;
  grows = λ list v e. e;
}

-- the last token's row
pub same_end : {Q : ℕ → Type 0} {strict : Shown} (k : Known) (r : Row) → said r ≡ Row.Nothing → Same Q strict k (with_row k (length k.words - 1) r)
same_end {Q = Q} {strict = strict} k r none = let m = length k.words - 1 in record {
  words = refl;
  texts = refl;
  routines = refl;
  regions = refl;
  many = length-set k.program.rows m r;
  frames = no_longer k.frames;
  still = λ e. refl;
  rows = λ n h. put_face strict k m n r (λ e. absurd (h.before_end e));
  sayings = λ n. put_said k m n r (inr refl) none;
  chosen = λ list h v. refl;
  spent = λ n level e. put_spent k m n level r (λ _ x. unsaid_fine level r none) e;
  given = λ _ n e. put_given k m n r (λ _ x. unsaid_given r none) e;
  grows = λ list v e. e;
}

pub same_changed : {Q : ℕ → Type 0} {strict : Shown} (k : Known) (m : ℕ) (g : Row → Row) → Shows strict g → Same Q strict k (with_row k m (g (row_at k m)))
same_changed {Q = Q} {strict = strict} k m g s = let r = g (row_at k m) in record {
  words = refl;
  texts = refl;
  routines = refl;
  regions = refl;
  many = length-set k.program.rows m r;
  frames = no_longer k.frames;
  still = λ e. refl;
  rows = λ n h. put_face strict k m n r (λ e. s.looks (row_at k m) ∙ ap (λ x. face strict (row_at k x)) (sym e));
  sayings = λ n. changed_said k m n r (s.says (row_at k m));
  chosen = λ list h v. refl;
  spent = λ n level e. put_spent k m n level r (λ at x. s.spends level (row_at k m) (ap (λ i. fine_in level (row_at k i)) (sym at) ∙ x)) e;
  given = λ strictly n e. put_given k m n r (λ at x. s.gives strictly (row_at k m) (ap (λ i. assigned_in (row_at k i)) (sym at) ∙ x)) e;
  grows = λ list v e. e;
}

-- ---- lists of values that choose

pub any-last : {X : Type 0} (f : X → Bool) (xs : List X) (x : X) → list_any f (xs ++ x ∷ []) ≡ (list_any f xs || f x)
any-last f [] x = by (f x)
  where
    by : (b : Bool) → (b || false) ≡ b
    by true = refl
    by false = refl
any-last f (y ∷ ys) x = by (f y) (any-last f ys x)
  where
    by : (b : Bool) → list_any f (ys ++ x ∷ []) ≡ (list_any f ys || f x) → (b || list_any f (ys ++ x ∷ [])) ≡ ((b || list_any f ys) || f x)
    by true rest = refl
    by false rest = rest

or_false : (b : Bool) → (b || false) ≡ b
or_false true = refl
or_false false = refl

other_list : (a b : ℕ × ℤ) → (a.0 ≡ b.0 → ⊥) → same_choice a b ≡ false
other_list a b apart = ap (λ t. t && int_eq a.1 b.1) (ne_eqb a.0 b.0 apart)

unchosen : (cs : List (ℕ × ℤ)) (a b : ℕ × ℤ) (t : Bool) → same_choice a b ≡ false
    → list_any (same_choice a) (if t then cs else cs ++ b ∷ []) ≡ list_any (same_choice a) cs
unchosen cs a b true apart = refl
unchosen cs a b false apart = any-last (same_choice a) cs b ∙ ap (λ t. list_any (same_choice a) cs || t) apart ∙ or_false (list_any (same_choice a) cs)

pub other_chosen : (k : Known) (list' list : ℕ) (v' v : ℤ) → (list ≡ list' → ⊥) → is_chosen (and_choice k list' v') list v ≡ is_chosen k list v
other_chosen k list' list v' v apart =
    unchosen k.choices (list, v) (list', v') (list_any (same_choice (list', v')) k.choices) (other_list (list, v) (list', v') apart)

-- one value more leaves those that are there
still_chosen : (cs : List (ℕ × ℤ)) (a b : ℕ × ℤ) (t : Bool) → list_any (same_choice a) cs ≡ true
    → list_any (same_choice a) (if t then cs else cs ++ b ∷ []) ≡ true
still_chosen cs a b true there = there
still_chosen cs a b false there = any-last (same_choice a) cs b ∙ ap (λ t. t || same_choice a b) there

same_choices : {Q : ℕ → Type 0} {strict : Shown} (k : Known) (list : ℕ) (v : ℤ) → Of Q list → Same Q strict k (and_choice k list v)
same_choices {Q = Q} k list v here = record {
  words = refl;
  texts = refl;
  routines = refl;
  regions = refl;
  many = refl;
  frames = no_longer k.frames;
  still = λ e. refl;
  rows = λ n h. refl;
  sayings = λ n. inr refl;
  chosen = λ l h w. other_chosen k list l v w (λ e. h (subst (Of Q) (sym e) here));
  spent = λ n level e. e;
  given = λ _ n e. e;
  grows = λ l w e. still_chosen k.choices (l, w) (list, v) (list_any (same_choice (list, v)) k.choices) e;
}

-- ---- steps

pub bind-touches : {Q : ℕ → Type 0} {strict : Shown} {A B : Type 0} {m : Step A} {f : A → Step B} → Touches Q strict m → ((a : A) → Touches Q strict (f a))
    → Touches Q strict (m >>= f)
unfolding ◌>>=◌
bind-touches {Q = Q} {strict = strict} {m = m} {f = f} h g = record {
  same = λ k. let d = m k in same_then k d.known (f d.value d.known).known (h.same k) ((g d.value).same d.known);
  told = λ k. let d = m k in both (Told Q strict) d.broken (f d.value d.known).broken (h.told k) ((g d.value).told d.known);
}

pub give-touches : {Q : ℕ → Type 0} {strict : Shown} {A : Type 0} (x : A) → Touches Q strict (give x)
unfolding give
give-touches x = record { same = λ k. same_in k; told = λ k. tt }

pub look-touches : {Q : ℕ → Type 0} {strict : Shown} {A : Type 0} (f : Known → A) → Touches Q strict (look f)
unfolding look
look-touches f = record { same = λ k. same_in k; told = λ k. tt }

-- what follows from what the tables say, where it is something that holds of all tables
pub looked-touches : {Q : ℕ → Type 0} {strict : Shown} {A B : Type 0} (P : A → Type 0) (f : Known → A) {g : A → Step B} → ((k : Known) → P (f k))
    → ((a : A) → P a → Touches Q strict (g a)) → Touches Q strict (look f >>= g)
unfolding look ◌>>=◌
looked-touches P f says h = record { same = λ k. (h (f k) (says k)).same k; told = λ k. (h (f k) (says k)).told k }

asks : {Q : ℕ → Type 0} {strict : Shown} (what : Broken) (token : ℕ) (ok : Bool) → Told Q strict (record { broken = what; token = token })
    → Touches Q strict (ask what token ok)
unfolding ask
asks what token true told = record { same = λ k. same_in k; told = λ k. tt }
asks what token false told = record { same = λ k. same_in k; told = λ k. (told, tt) }

neither : (a b : Bool) → (a || b) ≡ false → (a ≡ false) × (b ≡ false)
neither false b e = (refl, e)
neither true b e = absurd (let never : true ≡ false = e in cc)

pub early-touches : {Q : ℕ → Type 0} {strict : Shown} (rule token : ℕ) (ok : Bool) → (is_of_ends rule || is_of_definitions (Early rule)) ≡ false → Of Q token
    → Touches Q strict (early rule token ok)
early-touches rule token ok quiet there =
    let q = neither (is_of_ends rule) (is_of_definitions (Early rule)) quiet in
    asks (Early rule) token ok (record { at = inl there; quiet = λ e. q.0; used = q.1 })

pub late-touches : {Q : ℕ → Type 0} {strict : Shown} (rule token : ℕ) (ok : Bool) → is_of_ends rule ≡ false → Of Q token
    → Touches Q strict (late rule token ok)
late-touches rule token ok quiet there = asks (Late rule) token ok (record { at = inl there; quiet = λ e. quiet; used = refl })

-- rules 15 and 12 are not quiet, and a threat by a routine may stand elsewhere
ends-touches : {Q : ℕ → Type 0} {strict : Shown} → strict.marks ≡ false → (rule token : ℕ) (ok : Bool) → Of Q token → Touches Q strict (late rule token ok)
ends-touches lax rule token ok there =
    asks (Late rule) token ok (record { at = inl there; quiet = λ e. absurd (let never : false ≡ true = sym lax ∙ e in cc); used = refl })

pub label-touches : {Q : ℕ → Type 0} {strict : Shown} → strict.marks ≡ false → (token : ℕ) (ok : Bool) → Of Q token → Touches Q strict (late 15 token ok)
label-touches lax token ok there = ends-touches lax 15 token ok there

pub result-touches : {Q : ℕ → Type 0} {strict : Shown} → strict.marks ≡ false → (token : ℕ) (ok : Bool) → Of Q token → Touches Q strict (late 12 token ok)
result-touches lax token ok there = ends-touches lax 12 token ok there

pub threat-told : {Q : ℕ → Type 0} {strict : Shown} (token : ℕ) (ok : Bool) → Touches Q strict (late 20 token ok)
threat-told token ok = asks (Late 20) token ok (record { at = inr refl; quiet = λ e. refl; used = refl })

pub too_big-touches : {Q : ℕ → Type 0} {strict : Shown} (token : ℕ) (ok : Bool) → Of Q token → Touches Q strict (too_big token ok)
too_big-touches token ok there = asks TooBig token ok (record { at = inl there; quiet = λ e. refl; used = refl })

pub put-touches : {Q : ℕ → Type 0} {strict : Shown} (number : ℕ) (r : Row) → Of Q number → said r ≡ Row.Nothing → Touches Q strict (put number r)
unfolding change
put-touches number r here none = record { same = λ k. same_put k number r here none; told = λ k. tt }

-- a row that is changed in what it does not show
pub changed-touches : {Q : ℕ → Type 0} {strict : Shown} (number : ℕ) (g : Row → Row) → Shows strict g
    → Touches Q strict (look (λ k. g (row_at k number)) >>= λ r. put number r)
unfolding look ◌>>=◌ change
changed-touches number g shows = record { same = λ k. same_changed k number g shows; told = λ k. tt }

-- Where it is strict no frame is opened.
pub open_frame-touches : {Q : ℕ → Type 0} {strict : Shown} → strict.frames ≡ false → (f : Frame) → Touches Q strict (open_frame f)
unfolding extend
open_frame-touches lax f = record {
  same = λ k. record {
    words = refl;
    texts = refl;
    routines = refl;
    regions = refl;
    many = refl;
    frames = record { more = f ∷ []; is = refl };
    still = λ e. absurd (let never : false ≡ true = sym lax ∙ e in cc);
    rows = λ n h. refl;
    sayings = λ n. inr refl;
    chosen = λ list h v. refl;
    spent = λ n level e. e;
    given = λ _ n e. e;
    grows = λ list v e. e;
  };
  told = λ k. tt;
}

pub add_chosen-touches : {Q : ℕ → Type 0} {strict : Shown} (list : ℕ) (value : ℤ) → Of Q list → Touches Q strict (add_chosen list value)
unfolding change
add_chosen-touches list value here = record { same = λ k. same_choices k list value here; told = λ k. tt }

-- changes of what none of it tells
noted : {Q : ℕ → Type 0} {strict : Shown} (f : Known → Known) → ((k : Known) → Same Q strict k (f k)) → Touches Q strict (change f)
unfolding change
noted f same = record { same = same; told = λ k. tt }

unseen : {Q : ℕ → Type 0} {strict : Shown} (k j : Known) → j.words ≡ k.words → j.program ≡ k.program → j.regions ≡ k.regions → j.frames ≡ k.frames
    → j.choices ≡ k.choices → Same Q strict k j
unseen {strict = strict} k j words program regions frames choices = record {
  words = words;
  texts = ap (λ p. p.texts) program;
  routines = ap (λ p. p.routines) program;
  regions = regions;
  many = ap (λ p. length p.rows) program;
  frames = record { more = []; is = frames ∙ sym (append-nil k.frames) };
  still = λ e. frames;
  rows = λ n h. ap (λ p. face strict (row_in p n)) program;
  sayings = λ n. inr (ap (λ p. said (row_in p n)) program);
  chosen = λ list h v. ap (λ (cs : List (ℕ × ℤ)). list_any (same_choice (list, v)) cs) choices;
  spent = λ n level e. ap (λ p. fine_in level (row_in p n)) program ∙ e;
  given = λ _ n e. ap (λ p. assigned_in (row_in p n)) program ∙ e;
  grows = λ list v e. ap (λ (cs : List (ℕ × ℤ)). list_any (same_choice (list, v)) cs) choices ∙ e;
}

pub hold-touches : {Q : ℕ → Type 0} {strict : Shown} (variable : ℕ) → Touches Q strict (hold variable)
hold-touches variable = noted _ (λ k. unseen k _ refl refl refl refl refl)

pub release-touches : {Q : ℕ → Type 0} {strict : Shown} → Touches Q strict release
release-touches = noted _ (λ k. unseen k _ refl refl refl refl refl)

pub threaten-touches : {Q : ℕ → Type 0} {strict : Shown} (variable token : ℕ) → Touches Q strict (threaten variable token)
threaten-touches variable token = noted _ (λ k. unseen k _ refl refl refl refl refl)

pub enter_block-touches : {Q : ℕ → Type 0} {strict : Shown} (s : Span) → Touches Q strict (enter_block s)
enter_block-touches s = noted _ (λ k. unseen k _ refl refl refl refl refl)

pub when-touches : {Q : ℕ → Type 0} {strict : Shown} (ok : Bool) {m : Step (Unit {0})} → Touches Q strict m → Touches Q strict (when ok m)
unfolding when
when-touches true h = h
when-touches false h = give-touches tt

-- what is given has this, and what follows needs it
pub bind-gives : {Q : ℕ → Type 0} {strict : Shown} {A B : Type 0} (R : A → Type 0) {m : Step A} {f : A → Step B} → Touches Q strict m
    → ((k : Known) → R (m k).value) → ((a : A) → R a → Touches Q strict (f a)) → Touches Q strict (m >>= f)
unfolding ◌>>=◌
bind-gives {Q = Q} {strict = strict} R {m = m} {f = f} h gives g = record {
  same = λ k. let d = m k in same_then k d.known (f d.value d.known).known (h.same k) ((g d.value (gives k)).same d.known);
  told = λ k. let d = m k in both (Told Q strict) d.broken (f d.value d.known).broken (h.told k) ((g d.value (gives k)).told d.known);
}

pub each-touches : {Q : ℕ → Type 0} {strict : Shown} {A X : Type 0} (f : A → X → Step A) (node : X → Node)
    → ((a : A) (x : X) → Every Q (node x) → Touches Q strict (f a x)) → (a : A)
    (xs : List X) → Every Q (row (map node xs)) → Touches Q strict (each f a xs)
each-touches f node h a [] inside = give-touches a
each-touches f node h a (x ∷ xs) inside = bind-touches (h a x inside.0) (λ b. each-touches f node h b xs inside.1)
