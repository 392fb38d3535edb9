-- A part of a text while its procedures and functions are gone over: which of them are ahead, with what blocks.
use Rattle.std.proofs.Common.{◌++◌, ◌∙◌, ◌∷◌, ◌≡◌, ◌⊎◌, [], ℕ, Bool, List, None, Option, Some, ap, false, inl, inr, length, map, refl, subst, sym, true}
use Rattle.std.proofs.lemmas.{List.append_assoc, Option.none-some, Option.same_Some}
use Rattle.pas_tree.specs.BlockTrees.{BlockTree, BodyTree, RoutineTree, RoutineTrees, routine_body}
use Rattle.pas_tree.specs.BlockTrees as tree
use Rattle.pas_tree.specs.TreeNodes.{body_node, routine_node, routines_node}
use Rattle.core_program.specs.declared.rows.{NameRow.NameRow, PartRow.PartRow, Row.Row}
use Rattle.check_steps.specs.{Known.Known, Known.row_at, declared.breaks.Break.Break}
use Rattle.denoter_checker.specs.RoutineParts.{routine_at, routine_name}
use Rattle.rule_laws.proofs.{Listed.Listed, Paired.Off, Paired.paired, PartTurns.seat_of, PartWalk.StatedIn, Seats.AnyKind, Seats.SeatsIn, Seats.SomeAt}
use Rattle.rule_laws.proofs.Mated.{Block, Completes, Mate, Mates, apart_parts, is_or, listed_earlier, listed_one, mates_same, same_first}
use Rattle.rule_laws.proofs.TextForwards.{Apart, name_has, part_apart, routine_has}
use Rattle.rule_laws.specs.{ForwardHeadings.is_second, ForwardHeadings.routines_in, Laws.broken_at, NameLaws.block_routines, Tokens.Has, Tokens.IsDistinct}

-- ---- places in a part

record Found (all : List RoutineTree) (n : ℕ) : Type 0 where
  earlier : List RoutineTree
  r : RoutineTree
  later : List RoutineTree
  one : all ≡ earlier ++ r ∷ later
  at : routine_name r ≡ n

found_at : (all : List RoutineTree) (n : ℕ) → Listed (map routine_name all) n → Found all n
found_at [] n h = absurd h
found_at (q ∷ qs) n (inl e) = record { earlier = []; r = q; later = qs; one = refl; at = e }
found_at (q ∷ qs) n (inr h) = let f = found_at qs n h in
    record { earlier = q ∷ f.earlier; r = f.r; later = f.later; one = ap (λ l. q ∷ l) f.one; at = f.at }

pub listed_has : (rs : RoutineTrees) (n : ℕ) → Listed (map routine_name (routines_in rs)) n → Has (routines_node rs) n
listed_has tree.end_of_routines n h = h
listed_has (tree.more_routines r rest) n (inl e) = inl (subst (Has (routine_node r)) e (routine_has r))
listed_has (tree.more_routines r rest) n (inr h) = inr (listed_has rest n h)

no_routine : (earlier : List RoutineTree) (r : RoutineTree) (later : List RoutineTree) → [] ≡ earlier ++ r ∷ later → ⊥
no_routine [] r later e = cc
no_routine (y ∷ ys) r later e = cc

pub split_has : (rs : RoutineTrees) (earlier : List RoutineTree) (r : RoutineTree) (later : List RoutineTree) (n : ℕ) → routines_in rs ≡ earlier ++ r ∷ later
    → Has (routine_node r) n → Has (routines_node rs) n
split_has tree.end_of_routines earlier r later n e h = absurd (no_routine earlier r later e)
split_has (tree.more_routines q rest) [] r later n e h = let at : q ≡ r = cc in inl (subst (λ s. Has (routine_node s) n) (sym at) h)
split_has (tree.more_routines q rest) (y ∷ ys) r later n e h =
    let more : routines_in rest ≡ ys ++ r ∷ later = cc in inr (split_has rest ys r later n more h)

pub body_has : (r : RoutineTree) (n : ℕ) → Has (body_node (routine_body r)) n → Has (routine_node r) n
body_has (tree.a_routine heading semicolon body last_semicolon) n h = inr (inr (inl h))

pub split_distinct : (rs : RoutineTrees) (earlier : List RoutineTree) (r : RoutineTree) (later : List RoutineTree) → routines_in rs ≡ earlier ++ r ∷ later
    → IsDistinct (routines_node rs) → IsDistinct (routine_node r)
split_distinct tree.end_of_routines earlier r later e d = absurd (no_routine earlier r later e)
split_distinct (tree.more_routines q rest) [] r later e d = let at : q ≡ r = cc in subst (λ s. IsDistinct (routine_node s)) at d.0
split_distinct (tree.more_routines q rest) (y ∷ ys) r later e d =
    let more : routines_in rest ≡ ys ++ r ∷ later = cc in split_distinct rest ys r later more d.1

-- the name of one stands not in its body
pub own_off : (r : RoutineTree) → IsDistinct (routine_node r) → Has (body_node (routine_body r)) (routine_name r) → ⊥
own_off (tree.a_routine heading semicolon body last_semicolon) d h =
    d.2 (routine_name (tree.a_routine heading semicolon body last_semicolon)) (name_has heading) (inr (inl h))

-- two in which one token stands are one
pub record IsSame (e : List RoutineTree) (r : RoutineTree) (f : List RoutineTree) (s : RoutineTree) : Type 0 where
  pub earlier : e ≡ f
  pub one : r ≡ s

pub one_node : (rs : RoutineTrees) → IsDistinct (routines_node rs) → (e : List RoutineTree) (r : RoutineTree) (l f : List RoutineTree) (s : RoutineTree)
    (m : List RoutineTree) (n : ℕ)
    → routines_in rs ≡ e ++ r ∷ l → routines_in rs ≡ f ++ s ∷ m → Has (routine_node r) n → Has (routine_node s) n → IsSame e r f s
one_node tree.end_of_routines d e r l f s m n a b h i = absurd (no_routine e r l a)
one_node (tree.more_routines q rest) d [] r l [] s m n a b h i =
    let one : q ≡ r = cc in
    let other : q ≡ s = cc in
    record { earlier = refl; one = sym one ∙ other }
one_node (tree.more_routines q rest) d [] r l (z ∷ zs) s m n a b h i =
    let one : q ≡ r = cc in
    let more : routines_in rest ≡ zs ++ s ∷ m = cc in
    absurd (d.2 n (subst (λ x. Has (routine_node x) n) (sym one) h) (split_has rest zs s m n more i))
one_node (tree.more_routines q rest) d (y ∷ ys) r l [] s m n a b h i =
    let one : q ≡ s = cc in
    let more : routines_in rest ≡ ys ++ r ∷ l = cc in
    absurd (d.2 n (subst (λ x. Has (routine_node x) n) (sym one) i) (split_has rest ys r l n more h))
one_node (tree.more_routines q rest) d (y ∷ ys) r l (z ∷ zs) s m n a b h i =
    let one : q ≡ y = cc in
    let other : q ≡ z = cc in
    let more : routines_in rest ≡ ys ++ r ∷ l = cc in
    let next : routines_in rest ≡ zs ++ s ∷ m = cc in
    let same = one_node rest d.1 ys r l zs s m n more next h i in
    record { earlier = ap (λ x. x ∷ ys) (sym one ∙ other) ∙ ap (λ x. z ∷ x) same.earlier; one = same.one }

-- two at one position are one
pub one_place : (all e : List RoutineTree) (r : RoutineTree) (l f : List RoutineTree) (s : RoutineTree) (m : List RoutineTree)
    → all ≡ e ++ r ∷ l → all ≡ f ++ s ∷ m → length e ≡ length f → IsSame e r f s
one_place [] e r l f s m a b same = absurd (no_routine e r l a)
one_place (q ∷ qs) [] r l [] s m a b same =
    let one : q ≡ r = cc in
    let other : q ≡ s = cc in
    record { earlier = refl; one = sym one ∙ other }
one_place (q ∷ qs) [] r l (z ∷ zs) s m a b same = absurd cc
one_place (q ∷ qs) (y ∷ ys) r l [] s m a b same = absurd cc
one_place (q ∷ qs) (y ∷ ys) r l (z ∷ zs) s m a b same =
    let one : q ≡ y = cc in
    let other : q ≡ z = cc in
    let more : qs ≡ ys ++ r ∷ l = cc in
    let next : qs ≡ zs ++ s ∷ m = cc in
    let fewer : length ys ≡ length zs = cc in
    let i = one_place qs ys r l zs s m more next fewer in
    record { earlier = ap (λ x. x ∷ ys) (sym one ∙ other) ∙ ap (λ x. z ∷ x) i.earlier; one = i.one }

-- ---- bodies whose names are defined, and others

-- None of the names in a body was gone over.
abbrev pub IsBlank : BlockTree → BodyTree → Known → Type 0
IsBlank t body j = (n : ℕ) → Has (body_node body) n → SomeAt AnyKind n t → paired (row_at j n) ≡ Row.Nothing

-- The names of its part were, but of no part inside of it.
pub record IsLaid (k : Known) (t : BlockTree) (Told : Break → Type 0) (all : List RoutineTree) (j : Known) : Type 0 where
  pub mates : Mates k Told all j
  pub inner : (earlier : List RoutineTree) (r : RoutineTree) (later : List RoutineTree) → all ≡ earlier ++ r ∷ later → IsBlank t (routine_body r) j

abbrev pub LaidIn : Known → BlockTree → (Break → Type 0) → BodyTree → Known → Type 0
LaidIn k t Told (tree.a_directive directive) j = Unit {0}
LaidIn k t Told (tree.a_block_body b) j = IsLaid k t Told (block_routines b) j

pub seats_some : (t : BlockTree) (before : List RoutineTree) (rs : RoutineTrees) (n : ℕ) → SeatsIn t before rs → Listed (map routine_name (routines_in rs)) n
    → SomeAt AnyKind n t
seats_some t before tree.end_of_routines n seats h = absurd h
seats_some t before (tree.more_routines r rest) n seats (inl e) =
    subst (λ x. SomeAt AnyKind x t) e ((seat_of t before r seats.0).up AnyKind tt)
seats_some t before (tree.more_routines r rest) n seats (inr h) = seats_some t (before ++ r ∷ []) rest n seats.1 h

-- as before at the tokens of a node
abbrev pub SameIn : BlockTree → (ℕ → Type 0) → Known → Known → Type 0
SameIn t S j i = (n : ℕ) → S n → SomeAt AnyKind n t → paired (row_at i n) ≡ paired (row_at j n)

pub laid_same : (k : Known) (t : BlockTree) (Told : Break → Type 0) (body : BodyTree) (j i : Known) → StatedIn k t body
    → SameIn t (Has (body_node body)) j i → LaidIn k t Told body j → LaidIn k t Told body i
laid_same k t Told (tree.a_directive directive) j i st same laid = tt
laid_same k t Told (tree.a_block_body (tree.a_block labels constants types variables routines body)) j i st same laid = record {
  mates = mates_same k Told (routines_in routines) j i (λ n listed.
      same n (inr (inr (inr (inr (inl (listed_has routines n listed)))))) (seats_some t [] routines n st.seats listed)) laid.mates;
  inner = λ earlier r later e n has some.
      same n (inr (inr (inr (inr (inl (split_has routines earlier r later n e (body_has r n has))))))) some ∙ laid.inner earlier r later e n has some;
}

-- a first heading that was entered
pub record Home (j : Known) (n : ℕ) : Type 0 where
  pub number : ℕ
  pub region : ℕ
  pub row : paired (row_at j n) ≡ Row.Name (NameRow.Routine false number region)

-- ---- one that is ahead

pub record IsNew (t : BlockTree) (rest earlier : List RoutineTree) (r : RoutineTree) (j : Known) : Type 0 where
  pub blank : IsBlank t (routine_body r) j
  pub mate : (first : ℕ) → paired (row_at j (routine_name r)) ≡ Row.Part (PartRow.Completing first) → Listed (map routine_name rest) first
      × Mate earlier first j

pub record IsOpen (k : Known) (t : BlockTree) (Told : Break → Type 0) (P : List RoutineTree → RoutineTree → Type 0) (rest earlier : List RoutineTree)
    (r : RoutineTree) (j : Known) : Type 0 where
  pub first : ℕ
  pub row : paired (row_at j (routine_name r)) ≡ Row.Part (PartRow.Completing first)
  pub gone : Listed (map routine_name rest) first → ⊥
  pub behind : Listed (map routine_name earlier) first
  pub home : Home j first
  pub told : P earlier r
  pub laid : LaidIn k t Told (routine_body r) j

pub record Walking (k : Known) (t : BlockTree) (Told : Break → Type 0) (P : List RoutineTree → RoutineTree → Type 0) (all rest : List RoutineTree)
    (j : Known) : Type 0 where
  pub ahead : (earlier : List RoutineTree) (r : RoutineTree) (later : List RoutineTree) → all ≡ earlier ++ r ∷ later
      → Listed (map routine_name rest) (routine_name r) → IsNew t rest earlier r j ⊎ IsOpen k t Told P rest earlier r j
  pub again : (earlier : List RoutineTree) (r : RoutineTree) (later : List RoutineTree) → all ≡ earlier ++ r ∷ later
      → Listed (map routine_name rest) (routine_name r) → is_second k earlier r ≡ true
      → Completes j (routine_name r) ⊎ Told (broken_at 2 (routine_name r))
  pub blocks : (n position : ℕ) (function : Bool) → Listed (map routine_name rest) n
      → paired (row_at j n) ≡ Row.Part (PartRow.Forward function (Some position))
      → (b : Block all n position j) × Listed (map routine_name rest) (routine_name b.r)

-- where it begins
pub begin_walking : (k : Known) (t : BlockTree) (Told : Break → Type 0) (P : List RoutineTree → RoutineTree → Type 0) (all : List RoutineTree) (j : Known)
    → IsLaid k t Told all j → Walking k t Told P all all j
begin_walking k t Told P all j s = record {
  ahead = λ earlier r later e listed. inl (record {
    blank = s.inner earlier r later e;
    mate = λ first row.
        let m = s.mates.mates earlier r later first e row in
        (listed_earlier all earlier (r ∷ later) first e m.listed, m);
  });
  again = λ earlier r later e listed second. s.mates.again earlier r later e second;
  blocks = λ n position function listed row.
      let b = s.mates.blocks n position function listed row in
      (b, listed_one all b.earlier b.r b.later b.one);
}

-- ---- after one of them

-- the one that has its block, if there is one
abbrev pub HasBy : Option RoutineTree → ℕ → Type 0
HasBy None n = ⊥
HasBy (Some r) n = Has (body_node (routine_body r)) n

pub record Opens (k : Known) (t : BlockTree) (Told : Break → Type 0) (P : List RoutineTree → RoutineTree → Type 0) (all : List RoutineTree)
    (r other : RoutineTree) (j i : Known) : Type 0 where
  pub earlier : List RoutineTree
  pub later : List RoutineTree
  pub one : all ≡ earlier ++ other ∷ later
  pub listed : Listed (map routine_name earlier) (routine_name r)
  pub row : paired (row_at j (routine_name other)) ≡ Row.Part (PartRow.Completing (routine_name r))
  pub home : Home i (routine_name r)
  pub told : P earlier other
  pub laid : LaidIn k t Told (routine_body other) i

-- the position of that one
pub record AtPlace (all : List RoutineTree) (o : Option RoutineTree) (position : ℕ) : Type 0 where
  pub earlier : List RoutineTree
  pub other : RoutineTree
  pub later : List RoutineTree
  pub one : all ≡ earlier ++ other ∷ later
  pub at : length earlier ≡ position
  pub is : o ≡ Some other

pub record Passed (k : Known) (t : BlockTree) (Told : Break → Type 0) (P : List RoutineTree → RoutineTree → Type 0) (all : List RoutineTree)
    (r : RoutineTree) (o : Option RoutineTree) (j i : Known) : Type 0 where
  pub off : Off t (λ n. Has (routine_node r) n ⊎ HasBy o n) j i
  pub opens : (other : RoutineTree) → o ≡ Some other → Opens k t Told P all r other j i
  pub place : (position : ℕ) (function : Bool) → paired (row_at j (routine_name r)) ≡ Row.Part (PartRow.Forward function (Some position))
      → AtPlace all o position

-- what is known of the part
pub record Ground (k : Known) (t : BlockTree) (rs : RoutineTrees) (before : List RoutineTree) (r : RoutineTree) (rest : List RoutineTree) : Type 1 where
  pub one : routines_in rs ≡ before ++ r ∷ rest
  pub distinct : IsDistinct (routines_node rs)
  pub seats : SeatsIn t [] rs
  pub stated : (earlier : List RoutineTree) (q : RoutineTree) (later : List RoutineTree) → routines_in rs ≡ earlier ++ q ∷ later
      → StatedIn k t (routine_body q)

-- names ahead are not behind
ahead_off : (k : Known) (t : BlockTree) (rs : RoutineTrees) (before : List RoutineTree) (r : RoutineTree) (rest : List RoutineTree)
    → Ground k t rs before r rest → (n : ℕ) → Listed (map routine_name rest) n → Has (routine_node r) n → ⊥
ahead_off k t rs before r rest g n listed has =
    let f = found_at rest n listed in
    let own : routines_in rs ≡ (before ++ r ∷ f.earlier) ++ f.r ∷ f.later
    = g.one ∙ ap (λ l. before ++ r ∷ l) f.one ∙ sym (append_assoc before (r ∷ f.earlier) (f.r ∷ f.later)) in
    let same = one_node rs g.distinct before r rest (before ++ r ∷ f.earlier) f.r f.later n g.one own has
    (subst (Has (routine_node f.r)) f.at (routine_has f.r)) in
    more_than before r f.earlier same.earlier
  where
    more_than : (xs : List RoutineTree) (x : RoutineTree) (ys : List RoutineTree) → xs ≡ xs ++ x ∷ ys → ⊥
    more_than [] x ys e = cc
    more_than (z ∷ zs) x ys e = more_than zs x ys cc

pub behind_off : (k : Known) (t : BlockTree) (rs : RoutineTrees) (before : List RoutineTree) (r : RoutineTree) (rest : List RoutineTree)
    → Ground k t rs before r rest → (n : ℕ) → Listed (map routine_name before) n → Listed (map routine_name (r ∷ rest)) n → ⊥
behind_off k t rs before r rest g n h i = apart_parts before (r ∷ rest) (subst Apart g.one (part_apart rs g.distinct)) n h i

pub record IsBy (o : Option RoutineTree) (n : ℕ) : Type 0 where
  pub other : RoutineTree
  pub is : o ≡ Some other
  pub has : Has (body_node (routine_body other)) n

pub is_by : (o : Option RoutineTree) (n : ℕ) → HasBy o n → IsBy o n
is_by None n h = absurd h
is_by (Some r) n h = record { other = r; is = refl; has = h }

record IsOpened (o : Option RoutineTree) (r : RoutineTree) : Type 0 where
  other : RoutineTree
  is : o ≡ Some other
  named : routine_name r ≡ routine_name other

opened_or : (o : Option RoutineTree) (r : RoutineTree)
    → IsOpened o r ⊎ ((other : RoutineTree) → o ≡ Some other → routine_name r ≡ routine_name other → ⊥)
opened_or None r = inr (λ other is named. none-some other is)
opened_or (Some q) r = elim (is_or (routine_name r) (routine_name q)) [
  | inl same ↦ inl (record { other = q; is = refl; named = same })
  | inr never ↦ inr (λ other is named. never (named ∙ ap routine_name (sym (same_Some q other is))))
]

-- the tables before one was gone over, and after it
record Step (k : Known) (t : BlockTree) (Told : Break → Type 0) (P : List RoutineTree → RoutineTree → Type 0) (rs : RoutineTrees)
    (before : List RoutineTree) (r : RoutineTree) (rest : List RoutineTree) (o : Option RoutineTree) (j i : Known) : Type 1 where
  g : Ground k t rs before r rest
  w : Walking k t Told P (routines_in rs) (r ∷ rest) j
  p : Passed k t Told P (routines_in rs) r o j i

-- a name ahead
same_ahead : (k : Known) (t : BlockTree) (Told : Break → Type 0) (P : List RoutineTree → RoutineTree → Type 0) (rs : RoutineTrees) (before : List RoutineTree)
    (r : RoutineTree) (rest : List RoutineTree) (o : Option RoutineTree) (j i : Known) → Step k t Told P rs before r rest o j i
    → (n : ℕ) → Listed (map routine_name rest) n → paired (row_at i n) ≡ paired (row_at j n)
same_ahead k t Told P rs before r rest o j i s n listed =
    let f = found_at rest n listed in
    let own : routines_in rs ≡ (before ++ r ∷ f.earlier) ++ f.r ∷ f.later
    = s.g.one ∙ ap (λ l. before ++ r ∷ l) f.one ∙ sym (append_assoc before (r ∷ f.earlier) (f.r ∷ f.later)) in
    let all : Listed (map routine_name (routines_in rs)) n
    = subst (Listed (map routine_name (routines_in rs))) f.at (listed_one (routines_in rs) (before ++ r ∷ f.earlier) f.r f.later own) in
    s.p.off.of n (seats_some t [] rs n s.g.seats all) (λ x. elim x [
      | inl has ↦ ahead_off k t rs before r rest s.g n listed has
      | inr by ↦
          let b = is_by o n by in
          let c = s.p.opens b.other b.is in
          let same = one_node rs s.g.distinct c.earlier b.other c.later (before ++ r ∷ f.earlier) f.r f.later n c.one own (body_has b.other n b.has)
          (subst (Has (routine_node f.r)) f.at (routine_has f.r)) in
          own_off b.other (split_distinct rs c.earlier b.other c.later c.one s.g.distinct)
          (subst (Has (body_node (routine_body b.other))) (sym (ap routine_name same.one ∙ f.at)) b.has)
    ])

-- a name before one, but not that of the one that was gone over
same_behind : (k : Known) (t : BlockTree) (Told : Break → Type 0) (P : List RoutineTree → RoutineTree → Type 0) (rs : RoutineTrees) (before : List RoutineTree)
    (r : RoutineTree) (rest : List RoutineTree) (o : Option RoutineTree) (j i : Known) → Step k t Told P rs before r rest o j i
    → (earlier : List RoutineTree) (q : RoutineTree) (later : List RoutineTree) → routines_in rs ≡ earlier ++ q ∷ later
    → (n : ℕ) → Listed (map routine_name earlier) n → (routine_name r ≡ n → ⊥) → paired (row_at i n) ≡ paired (row_at j n)
same_behind k t Told P rs before r rest o j i s earlier q later e n listed other =
    let f = found_at earlier n listed in
    let own : routines_in rs ≡ f.earlier ++ f.r ∷ (f.later ++ q ∷ later)
    = e ∙ ap (λ l. l ++ q ∷ later) f.one ∙ append_assoc f.earlier (f.r ∷ f.later) (q ∷ later) in
    let here = subst (Has (routine_node f.r)) f.at (routine_has f.r) in
    s.p.off.of n (seats_some t [] rs n s.g.seats (listed_earlier (routines_in rs) earlier (q ∷ later) n e listed)) (λ x. elim x [
      | inl has ↦
          let same = one_node rs s.g.distinct before r rest f.earlier f.r (f.later ++ q ∷ later) n s.g.one own has here in
          other (ap routine_name same.one ∙ f.at)
      | inr by ↦
          let b = is_by o n by in
          let c = s.p.opens b.other b.is in
          let same = one_node rs s.g.distinct c.earlier b.other c.later f.earlier f.r (f.later ++ q ∷ later) n c.one own (body_has b.other n b.has) here in
          own_off b.other (split_distinct rs c.earlier b.other c.later c.one s.g.distinct)
          (subst (Has (body_node (routine_body b.other))) (sym (ap routine_name same.one ∙ f.at)) b.has)
    ])

-- one ahead that was not opened
same_other : (k : Known) (t : BlockTree) (Told : Break → Type 0) (P : List RoutineTree → RoutineTree → Type 0) (rs : RoutineTrees) (before : List RoutineTree)
    (r : RoutineTree) (rest : List RoutineTree) (o : Option RoutineTree) (j i : Known) → Step k t Told P rs before r rest o j i
    → (earlier : List RoutineTree) (q : RoutineTree) (later : List RoutineTree) → routines_in rs ≡ earlier ++ q ∷ later
    → Listed (map routine_name rest) (routine_name q) → ((other : RoutineTree) → o ≡ Some other → routine_name q ≡ routine_name other → ⊥)
    → SameIn t (Has (routine_node q)) j i
same_other k t Told P rs before r rest o j i s earlier q later e listed never n has some = s.p.off.of n some (λ x. elim x [
  | inl own ↦
      let same = one_node rs s.g.distinct earlier q later before r rest n e s.g.one has own in
      ahead_off k t rs before r rest s.g (routine_name r) (subst (λ x. Listed (map routine_name rest) (routine_name x)) same.one listed) (routine_has r)
  | inr by ↦
      let b = is_by o n by in
      let c = s.p.opens b.other b.is in
      let same = one_node rs s.g.distinct earlier q later c.earlier b.other c.later n e c.one has (body_has b.other n b.has) in
      never b.other b.is (ap routine_name same.one)
])

-- one ahead that was opened
now_open : (k : Known) (t : BlockTree) (Told : Break → Type 0) (P : List RoutineTree → RoutineTree → Type 0) (rs : RoutineTrees) (before : List RoutineTree)
    (r : RoutineTree) (rest : List RoutineTree) (o : Option RoutineTree) (j i : Known) → Step k t Told P rs before r rest o j i
    → (earlier : List RoutineTree) (q : RoutineTree) (later : List RoutineTree) → routines_in rs ≡ earlier ++ q ∷ later
    → Listed (map routine_name rest) (routine_name q) → IsOpened o q → IsOpen k t Told P rest earlier q i
now_open k t Told P rs before r rest o j i s earlier q later e listed x =
    let c = s.p.opens x.other x.is in
    let same = one_node rs s.g.distinct earlier q later c.earlier x.other c.later (routine_name q) e c.one (routine_has q)
    (subst (Has (routine_node x.other)) (sym x.named) (routine_has x.other)) in
    record {
      first = routine_name r;
      row = same_ahead k t Told P rs before r rest o j i s (routine_name q) listed ∙ ap (λ n. paired (row_at j n)) x.named ∙ c.row;
      gone = λ h. ahead_off k t rs before r rest s.g (routine_name r) h (routine_has r);
      behind = subst (λ b. Listed (map routine_name b) (routine_name r)) (sym same.earlier) c.listed;
      home = c.home;
      told = subst (λ b. P b q) (sym same.earlier) (subst (P c.earlier) (sym same.one) c.told);
      laid = subst (λ a. LaidIn k t Told (routine_body a) i) (sym same.one) c.laid;
    }

still_new : (k : Known) (t : BlockTree) (Told : Break → Type 0) (P : List RoutineTree → RoutineTree → Type 0) (rs : RoutineTrees) (before : List RoutineTree)
    (r : RoutineTree) (rest : List RoutineTree) (o : Option RoutineTree) (j i : Known) → Step k t Told P rs before r rest o j i
    → (earlier : List RoutineTree) (q : RoutineTree) (later : List RoutineTree) → routines_in rs ≡ earlier ++ q ∷ later
    → ((other : RoutineTree) → o ≡ Some other → routine_name q ≡ routine_name other → ⊥)
    → SameIn t (Has (routine_node q)) j i → SomeAt AnyKind (routine_name q) t → IsNew t (r ∷ rest) earlier q j → IsNew t rest earlier q i
still_new k t Told P rs before r rest o j i s earlier q later e never same some new = record {
  blank = λ n has there. same n (body_has q n has) there ∙ new.blank n has there;
  mate = λ first row.
      let m = new.mate first (sym (same (routine_name q) (routine_has q) some) ∙ row) in
      elim m.0 [
        | inl own ↦
            let a = s.p.place (length earlier) m.1.function (ap (λ n. paired (row_at j n)) own ∙ m.1.row) in
            let one = one_place (routines_in rs) earlier q later a.earlier a.other a.later e a.one (sym a.at) in
            absurd (never a.other a.is (ap routine_name one.one))
        | inr listed ↦ (
          listed,
          record {
            listed = m.1.listed;
            function = m.1.function;
            row = same_ahead k t Told P rs before r rest o j i s first listed ∙ m.1.row;
          },
        )
      ];
}

still_open : (k : Known) (t : BlockTree) (Told : Break → Type 0) (P : List RoutineTree → RoutineTree → Type 0) (rs : RoutineTrees) (before : List RoutineTree)
    (r : RoutineTree) (rest : List RoutineTree) (o : Option RoutineTree) (j i : Known) → Step k t Told P rs before r rest o j i
    → (earlier : List RoutineTree) (q : RoutineTree) (later : List RoutineTree) → routines_in rs ≡ earlier ++ q ∷ later
    → SameIn t (Has (routine_node q)) j i → SomeAt AnyKind (routine_name q) t → IsOpen k t Told P (r ∷ rest) earlier q j → IsOpen k t Told P rest earlier q i
still_open k t Told P rs before r rest o j i s earlier q later e same some opened = record {
  first = opened.first;
  row = same (routine_name q) (routine_has q) some ∙ opened.row;
  gone = λ h. opened.gone (inr h);
  behind = opened.behind;
  home =
      let h = opened.home in
      let row = same_behind k t Told P rs before r rest o j i s earlier q later e opened.first opened.behind (λ own. opened.gone (inl own)) in
      record { number = h.number; region = h.region; row = row ∙ h.row };
  told = opened.told;
  laid = laid_same k t Told (routine_body q) j i (s.g.stated earlier q later e) (λ n has there. same n (body_has q n has) there) opened.laid;
}

pub go_on : (k : Known) (t : BlockTree) (Told : Break → Type 0) (P : List RoutineTree → RoutineTree → Type 0) (rs : RoutineTrees) (before : List RoutineTree)
    (r : RoutineTree) (rest : List RoutineTree) (o : Option RoutineTree) (j i : Known) → Ground k t rs before r rest
    → Walking k t Told P (routines_in rs) (r ∷ rest) j → Passed k t Told P (routines_in rs) r o j i → Walking k t Told P (routines_in rs) rest i
go_on k t Told P rs before r rest o j i g w p =
    let s : Step k t Told P rs before r rest o j i = record { g = g; w = w; p = p } in
    record {
      ahead = λ earlier q later e listed.
          let some = seats_some t [] rs (routine_name q) g.seats (listed_one (routines_in rs) earlier q later e) in
          elim (opened_or o q) [
            | inl x ↦ inr (now_open k t Told P rs before r rest o j i s earlier q later e listed x)
            | inr never ↦
                let same = same_other k t Told P rs before r rest o j i s earlier q later e listed never in
                elim (w.ahead earlier q later e (inr listed)) [
                  | inl new ↦ inl (still_new k t Told P rs before r rest o j i s earlier q later e never same some new)
                  | inr opened ↦ inr (still_open k t Told P rs before r rest o j i s earlier q later e same some opened)
                ]
          ];
      again = λ earlier q later e listed second. elim (w.again earlier q later e (inr listed) second) [
        | inl c ↦ inl (record { first = c.first; row = same_ahead k t Told P rs before r rest o j i s (routine_name q) listed ∙ c.row })
        | inr told ↦ inr told
      ];
      blocks = λ n position function listed row.
          let found = w.blocks n position function (inr listed) (sym (same_ahead k t Told P rs before r rest o j i s n listed) ∙ row) in
          let b = found.0 in
          elim found.1 [
            | inl own ↦
                let completing : paired (row_at j (routine_name r)) ≡ Row.Part (PartRow.Completing n) = ap (λ x. paired (row_at j x)) own ∙ b.row in
                absurd (elim (w.ahead before r rest g.one (inl refl)) [
                  | inl new ↦ behind_off k t rs before r rest g n (new.mate n completing).1.listed (inr listed)
                  | inr opened ↦ opened.gone (inr (subst (Listed (map routine_name rest)) (sym (same_first (sym opened.row ∙ completing))) listed))
                ])
            | inr ahead ↦ (
              record {
                earlier = b.earlier;
                r = b.r;
                later = b.later;
                one = b.one;
                at = b.at;
                row = same_ahead k t Told P rs before r rest o j i s (routine_name b.r) ahead ∙ b.row;
              },
              ahead,
            )
          ];
    }

-- a token in a body is no name of its part
pub body_only : (rs : RoutineTrees) → IsDistinct (routines_node rs) → (earlier : List RoutineTree) (r : RoutineTree) (later : List RoutineTree) (n : ℕ)
    → routines_in rs ≡ earlier ++ r ∷ later → Has (body_node (routine_body r)) n → Listed (map routine_name (routines_in rs)) n → ⊥
body_only rs d earlier r later n e has listed =
    let f = found_at (routines_in rs) n listed in
    let same = one_node rs d earlier r later f.earlier f.r f.later n e f.one (body_has r n has) (subst (Has (routine_node f.r)) f.at (routine_has f.r)) in
    own_off r (split_distinct rs earlier r later e d) (subst (Has (body_node (routine_body r))) (sym (ap routine_name same.one ∙ f.at)) has)

pub at_split : (rs : RoutineTrees) (earlier : List RoutineTree) (r : RoutineTree) (later : List RoutineTree) (n : ℕ)
    → routines_in rs ≡ earlier ++ r ∷ later → length earlier ≡ n → routine_at rs n ≡ Some r
at_split tree.end_of_routines earlier r later n e place = absurd (no_routine earlier r later e)
at_split (tree.more_routines q rest) [] r later n e place =
    let one : q ≡ r = cc in ap (routine_at (tree.more_routines q rest)) (sym place) ∙ ap Some one
at_split (tree.more_routines q rest) (y ∷ ys) r later n e place =
    let more : routines_in rest ≡ ys ++ r ∷ later = cc in
    ap (routine_at (tree.more_routines q rest)) (sym place) ∙ at_split rest ys r later (length ys) more refl
