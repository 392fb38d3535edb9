-- Blocks by how deep they stand in a text, with the labels of their label parts and the names of their routines.
use Rattle.std.proofs.Common.{if◌then◌else◌, ◌&&◌, ◌++◌, ◌+◌, ◌<◌, ◌||◌, ◌∙◌, ◌∷◌, ◌≡◌, ◌≤◌, ◌⊎◌, [], ℕ, Bool, List, None, Option, Some, ap, arith, false, inl}
use Rattle.std.proofs.Common.{inr, length, map, nat_lt, not, refl, subst, suc, sym, true}
use Rattle.std.proofs.lemmas.{Bool.Decides.nat_tests, List.length-append, Option.none-some, Option.same_Some}
use Rattle.grammar.specs.Nodes.{Item, Leaf, Node, Pair, row, spell}
use Rattle.pas_tree.specs.{BlockTrees.routine_body, Blocks.next_label_node, StatementTrees.CompoundTree, declared.blocks.NextLabel.NextLabel}
use Rattle.pas_tree.specs.BlockTrees.{BlockTree, BodyTree, ConstantPartTree, LabelPartTree, RoutineTree, RoutineTrees, TypePartTree, VariablePartTree}
use Rattle.pas_tree.specs.BlockTrees as tree
use Rattle.pas_tree.specs.TreeNodes.{block_node, body_node, label_part_node, routine_node, routines_node}
use Rattle.check_steps.specs.Known.{Known, frame_at}
use Rattle.denoter_checker.specs.RoutineParts.{routine_name}
use Rattle.decl_checker.specs.Routines.{one_deeper}
use Rattle.rule_laws.proofs.{Breaks.Each, Laters.Way, Listed.Listed, Listed.each_listed, Mated.apart_parts, Mated.listed_earlier, PartTurns.SecondOf}
use Rattle.rule_laws.proofs.{PartTurns.first_token, PartTurns.or_neither, TextForwards.Apart, TextForwards.routine_has}
use Rattle.rule_laws.proofs.Walking.{IsSame, body_has, listed_has, own_off}
use Rattle.rule_laws.specs.{NameLaws.block_labels, RegionNames.label_token, RegionNames.labels_of, TextLaws.labels_in_body, Tokens.Has, Tokens.IsDistinct}
use Rattle.rule_laws.specs.ForwardHeadings.{are_completing, completes, has_forward, have_one_name, is_block, is_second, routines_in}

-- the text
pub record Chain : Type 0 where
  pub k : Known
  pub t : BlockTree

-- ---- labels

-- Wherever a block at a depth has this label in its label part, the depth is this level.
abbrev mutual
  pub AtBlock : ℕ → BlockTree → (token level : ℕ) → Type 0
  AtBlock n (tree.a_block labels constants types variables routines body) d a =
      (Listed (labels_of labels) d → a ≡ n) × AtPart (one_deeper n) routines d a

  pub AtPart : ℕ → RoutineTrees → (token level : ℕ) → Type 0
  AtPart n tree.end_of_routines d a = Unit {0}
  AtPart n (tree.more_routines r rest) d a = AtRoutine n r d a × AtPart n rest d a

  pub AtRoutine : ℕ → RoutineTree → (token level : ℕ) → Type 0
  AtRoutine n (tree.a_routine heading semicolon body last_semicolon) d a = AtBody n body d a

  pub AtBody : ℕ → BodyTree → (token level : ℕ) → Type 0
  AtBody n (tree.a_directive directive) d a = Unit {0}
  AtBody n (tree.a_block_body b) d a = AtBlock n b d a

-- the level of a label, as the text has it
abbrev pub IsLevel : Chain → (token level : ℕ) → Type 0
IsLevel c d a = AtBlock 0 c.t d a

-- so that it is further out than a level
abbrev pub Below : Chain → (level token : ℕ) → Type 0
Below c n d = (l : ℕ) → IsLevel c d l → l < n

-- ---- names

-- The frame of a procedure or function after others is that of the first heading of its name, at this token; else it is
-- its own.
abbrev pub IsHome : Known → (before : List RoutineTree) → RoutineTree → (token : ℕ) → Type 0
IsHome k before r x = ((routine_name r ≡ x) × (is_block (routine_body r) ≡ true)) ⊎ SecondOf k x before r

-- What is found from the frame of one of a part: labels of this depth or further out; and of one whose frame it is,
-- those that its label part has or that are further out.
pub record Scope (c : Chain) (n : ℕ) (rs : RoutineTrees) (x : ℕ) (i : Known) (g : ℕ) : Type 0 where
  pub level : (frame_at i g).level ≡ n
  pub path : Way (λ d. Below c (suc n) d) g i
  pub own : (before : List RoutineTree) (r : RoutineTree) (after : List RoutineTree) → routines_in rs ≡ before ++ r ∷ after → IsHome c.k before r x
      → Way (λ d. Listed (labels_in_body (routine_body r)) d ⊎ Below c n d) g i

-- So it is where a procedure or function has its name at this token.
abbrev pub NamesPart : Chain → ℕ → RoutineTrees → ℕ → Known → ℕ → Type 0
NamesPart c n rs x i g = Listed (map routine_name (routines_in rs)) x → Scope c n rs x i g

abbrev mutual
  pub NamesAt : Chain → ℕ → BlockTree → ℕ → Known → ℕ → Type 0
  NamesAt c n (tree.a_block labels constants types variables routines body) x i g =
      NamesPart c (one_deeper n) routines x i g × NamesEach c (one_deeper n) routines x i g

  pub NamesEach : Chain → ℕ → RoutineTrees → ℕ → Known → ℕ → Type 0
  NamesEach c n tree.end_of_routines x i g = Unit {0}
  NamesEach c n (tree.more_routines r rest) x i g = NamesRoutine c n r x i g × NamesEach c n rest x i g

  pub NamesRoutine : Chain → ℕ → RoutineTree → ℕ → Known → ℕ → Type 0
  NamesRoutine c n (tree.a_routine heading semicolon body last_semicolon) x i g = NamesBody c n body x i g

  pub NamesBody : Chain → ℕ → BodyTree → ℕ → Known → ℕ → Type 0
  NamesBody c n (tree.a_directive directive) x i g = Unit {0}
  NamesBody c n (tree.a_block_body b) x i g = NamesAt c n b x i g

abbrev pub Names : Chain → ℕ → Known → ℕ → Type 0
Names c x i g = NamesAt c 0 c.t x i g

-- ---- what the walk over the declarations needs of each part

pub record Site (c : Chain) (around : ℕ) (rs : RoutineTrees) : Type 0 where
  pub leveled : (before : List RoutineTree) (r : RoutineTree) (after : List RoutineTree) → routines_in rs ≡ before ++ r ∷ after
      → Each (λ d. IsLevel c d (one_deeper around)) (labels_in_body (routine_body r))
  pub fixed : (before : List RoutineTree) (r : RoutineTree) (after : List RoutineTree) → routines_in rs ≡ before ++ r ∷ after → (d l : ℕ)
      → Listed (labels_in_body (routine_body r)) d → IsLevel c d l → l ≡ one_deeper around
  pub deeper : (before : List RoutineTree) (r : RoutineTree) (after : List RoutineTree) → routines_in rs ≡ before ++ r ∷ after
      → around < one_deeper around
  pub named : (x : ℕ) (i : Known) (g : ℕ) → Listed (map routine_name (routines_in rs)) x → Scope c (one_deeper around) rs x i g → Names c x i g
  pub down : (x : ℕ) (i : Known) (g : ℕ) → Listed (map routine_name (routines_in rs)) x → Names c x i g → Scope c (one_deeper around) rs x i g

abbrev mutual
  pub Sites : Chain → ℕ → BlockTree → Type 0
  Sites c n (tree.a_block labels constants types variables routines body) = Site c n routines × SitesEach c (one_deeper n) routines

  pub SitesEach : Chain → ℕ → RoutineTrees → Type 0
  SitesEach c n tree.end_of_routines = Unit {0}
  SitesEach c n (tree.more_routines r rest) = SitesRoutine c n r × SitesEach c n rest

  pub SitesRoutine : Chain → ℕ → RoutineTree → Type 0
  SitesRoutine c n (tree.a_routine heading semicolon body last_semicolon) = SitesBody c n body

  pub SitesBody : Chain → ℕ → BodyTree → Type 0
  SitesBody c n (tree.a_directive directive) = Unit {0}
  SitesBody c n (tree.a_block_body b) = Sites c n b

-- ---- labels stand in their nodes

next_have : (ns : List NextLabel) (d : ℕ) → Listed (map label_token ns) d → Has (row (map next_label_node ns)) d
next_have [] d h = absurd h
next_have (n ∷ ns) d (inl e) = inl (inr e)
next_have (n ∷ ns) d (inr h) = inr (next_have ns d h)

pub labels_have : (p : Option LabelPartTree) (d : ℕ) → Listed (labels_of p) d → Has (label_part_node p) d
labels_have None d h = absurd h
labels_have (Some p) d (inl e) = inr (inl e)
labels_have (Some p) d (inr h) = inr (inr (inl (next_have p.others d h)))

-- ---- a label, and a name, that stands nowhere in a part

mutual
  none_block : (n : ℕ) (b : BlockTree) (d a : ℕ) → (Has (block_node b) d → ⊥) → AtBlock n b d a
  none_block n (tree.a_block labels constants types variables routines body) d a off = (
    (λ h. absurd (off (inl (labels_have labels d h)))),
    none_part (one_deeper n) routines d a (λ h. off (inr (inr (inr (inr (inl h)))))),
  )

  none_part : (n : ℕ) (rs : RoutineTrees) (d a : ℕ) → (Has (routines_node rs) d → ⊥) → AtPart n rs d a
  none_part n tree.end_of_routines d a off = tt
  none_part n (tree.more_routines r rest) d a off = (none_routine n r d a (λ h. off (inl h)), none_part n rest d a (λ h. off (inr h)))

  none_routine : (n : ℕ) (r : RoutineTree) (d a : ℕ) → (Has (routine_node r) d → ⊥) → AtRoutine n r d a
  none_routine n (tree.a_routine heading semicolon body last_semicolon) d a off = none_body n body d a (λ h. off (inr (inr (inl h))))

  none_body : (n : ℕ) (body : BodyTree) (d a : ℕ) → (Has (body_node body) d → ⊥) → AtBody n body d a
  none_body n (tree.a_directive directive) d a off = tt
  none_body n (tree.a_block_body b) d a off = none_block n b d a off

mutual
  unnamed_block : (c : Chain) (n : ℕ) (b : BlockTree) (x : ℕ) (i : Known) (g : ℕ) → (Has (block_node b) x → ⊥) → NamesAt c n b x i g
  unnamed_block c n (tree.a_block labels constants types variables routines body) x i g off = (
    (λ listed. absurd (off (inr (inr (inr (inr (inl (listed_has routines x listed)))))))),
    unnamed_each c (one_deeper n) routines x i g (λ h. off (inr (inr (inr (inr (inl h)))))),
  )

  unnamed_each : (c : Chain) (n : ℕ) (rs : RoutineTrees) (x : ℕ) (i : Known) (g : ℕ) → (Has (routines_node rs) x → ⊥) → NamesEach c n rs x i g
  unnamed_each c n tree.end_of_routines x i g off = tt
  unnamed_each c n (tree.more_routines r rest) x i g off =
      (unnamed_routine c n r x i g (λ h. off (inl (body_has r x h))), unnamed_each c n rest x i g (λ h. off (inr h)))

  unnamed_routine : (c : Chain) (n : ℕ) (r : RoutineTree) (x : ℕ) (i : Known) (g : ℕ) → (Has (body_node (routine_body r)) x → ⊥) → NamesRoutine c n r x i g
  unnamed_routine c n (tree.a_routine heading semicolon body last_semicolon) x i g off = unnamed_body c n body x i g off

  unnamed_body : (c : Chain) (n : ℕ) (body : BodyTree) (x : ℕ) (i : Known) (g : ℕ) → (Has (body_node body) x → ⊥) → NamesBody c n body x i g
  unnamed_body c n (tree.a_directive directive) x i g off = tt
  unnamed_body c n (tree.a_block_body b) x i g off = unnamed_block c n b x i g off

-- a name of the part itself
named_each : (c : Chain) (n : ℕ) (rs : RoutineTrees) (x : ℕ) (i : Known) (g : ℕ) → IsDistinct (routines_node rs)
    → Listed (map routine_name (routines_in rs)) x → NamesEach c n rs x i g
named_each c n tree.end_of_routines x i g d h = tt
named_each c n (tree.more_routines r rest) x i g d (inl e) = (
  unnamed_routine c n r x i g (λ h. own_off r d.0 (subst (Has (body_node (routine_body r))) (sym e) h)),
  unnamed_each c n rest x i g (λ h. d.2 x (subst (Has (routine_node r)) e (routine_has r)) h),
)
named_each c n (tree.more_routines r rest) x i g d (inr h) = (
  unnamed_routine c n r x i g (λ has. d.2 x (body_has r x has) (listed_has rest x h)),
  named_each c n rest x i g d.1 h,
)

-- ---- levels that are few

-- A level below the greatest is one less than the next.
deeper_by : (n : ℕ) → n < 4294967295 → one_deeper n ≡ suc n
deeper_by n less = ap (λ t. if t then n + 1 else n) (is_less less) ∙ next
  where
    is_less : n < 4294967295 → nat_lt n 4294967295 ≡ true
    is_less h = grind (arith, nat_tests)

    next : n + 1 ≡ suc n
    next = omega arith

deeper_most : (n : ℕ) → one_deeper n ≤ suc n
deeper_most n = by (nat_lt n 4294967295)
  where
    more : n + 1 ≤ suc n
    more = omega arith

    same : n ≤ suc n
    same = omega arith

    by : (t : Bool) → (if t then n + 1 else n) ≤ suc n
    by true = more
    by false = same

-- a part whose tokens and whose level together can be counted
pub record Fits (n : ℕ) (x : Node) : Type 0 where
  pub is : n + length (spell x) ≤ 4294967295

pub fits_left : {n : ℕ} {a b : Node} → Fits n (Pair a b) → Fits n a
fits_left {a = a} {b = b} fits = record { is = (let is = fits.is in let all = length-append (spell a) (spell b) in omega (arith, is, all)) }

pub fits_right : {n : ℕ} {a b : Node} → Fits n (Pair a b) → Fits n b
fits_right {a = a} {b = b} fits = record { is = (let is = fits.is in let all = length-append (spell a) (spell b) in omega (arith, is, all)) }

-- what stands inside of two tokens
fits_inside : (n : ℕ) (x y : Item) (b : Node) → Fits n (Pair (Leaf x) (Pair b (Leaf y))) → Fits (one_deeper n) b
fits_inside n x y b fits = record {
  is =
      let is : n + suc (length (spell b ++ y ∷ [])) ≤ 4294967295 = fits.is in
      let more = length-append (spell b) (y ∷ []) in
      let next = deeper_most n in
      omega (arith, is, more, next);
}

fits_less : (n : ℕ) (x y : Item) (b : Node) → Fits n (Pair (Leaf x) (Pair b (Leaf y))) → n < one_deeper n
fits_less n x y b fits =
    let is : n + suc (length (spell b ++ y ∷ [])) ≤ 4294967295 = fits.is in
    let more = length-append (spell b) (y ∷ []) in
    let next = deeper_by n (omega (arith, is, more)) in
    omega (arith, next)

-- ---- what a part says of a label and of a name is all that the text says of it

record Ground (c : Chain) (n : ℕ) (x : Node) (In : ℕ → Type 0) (At : ℕ → ℕ → Type 0) (Named : ℕ → Known → ℕ → Type 0) : Type 0 where
  up : (d a : ℕ) → Has x d → At d a → IsLevel c d a
  down : (d a : ℕ) → IsLevel c d a → At d a
  name : (y : ℕ) (i : Known) (g : ℕ) → In y → Named y i g → Names c y i g
  back : (y : ℕ) (i : Known) (g : ℕ) → Names c y i g → Named y i g
  fits : Fits n x

abbrev BodyGround : Chain → ℕ → BodyTree → Type 0
BodyGround c n body = Ground c n (body_node body) (Has (body_node body)) (λ d a. AtBody n body d a) (λ y i g. NamesBody c n body y i g)

-- the tokens of a part but for its names
abbrev Inside : RoutineTrees → ℕ → Type 0
Inside rs y = Has (routines_node rs) y × (Listed (map routine_name (routines_in rs)) y → ⊥)

abbrev EachGround : Chain → ℕ → RoutineTrees → Type 0
EachGround c n rs =
    Ground c n (routines_node rs) (Inside rs) (λ d a. AtPart (one_deeper n) rs d a) (λ y i g. NamesEach c (one_deeper n) rs y i g)

abbrev RoutineGround : Chain → ℕ → RoutineTree → Type 0
RoutineGround c n r = Ground c n (routine_node r) (Has (body_node (routine_body r))) (λ d a. AtRoutine (one_deeper n) r d a)
    (λ y i g. NamesRoutine c (one_deeper n) r y i g)

own_level : (c : Chain) (n : ℕ) (body : BodyTree) → BodyGround c n body → IsDistinct (body_node body) → Each (λ d. IsLevel c d n) (labels_in_body body)
own_level c n (tree.a_directive directive) g distinct = tt
own_level c n (tree.a_block_body (tree.a_block labels constants types variables routines body)) g distinct =
    each_listed (λ d. IsLevel c d n) (labels_of labels) (λ d l. g.up d n (inl (labels_have labels d l))
    ((λ h. refl), none_part (one_deeper n) routines d n (λ h. distinct.2 d (labels_have labels d l) (inr (inr (inr (inl h)))))))

own_fixed : (c : Chain) (n : ℕ) (body : BodyTree) → BodyGround c n body → (d l : ℕ) → Listed (labels_in_body body) d → IsLevel c d l → l ≡ n
own_fixed c n (tree.a_directive directive) g d l h level = absurd h
own_fixed c n (tree.a_block_body (tree.a_block labels constants types variables routines body)) g d l h level = (g.down d l level).0 h

first_ground : (c : Chain) (n : ℕ) (r : RoutineTree) (rest : RoutineTrees) → EachGround c n (tree.more_routines r rest)
    → IsDistinct (routines_node (tree.more_routines r rest)) → RoutineGround c n r
first_ground c n r rest g distinct = record {
  up = λ d a h at. g.up d a (inl h) (at, none_part (one_deeper n) rest d a (λ i. distinct.2 d h i));
  down = λ d a level. (g.down d a level).0;
  name = λ y i f h named.
      let out : (Has (routines_node rest) y → ⊥) = λ j. distinct.2 y (body_has r y h) j in
      g.name y i f (
        inl (body_has r y h),
        (λ listed. elim listed [
          | inl e ↦ own_off r distinct.0 (subst (Has (body_node (routine_body r))) (sym e) h)
          | inr l ↦ out (listed_has rest y l)
        ]),
      ) (named, unnamed_each c (one_deeper n) rest y i f out);
  back = λ y i f names. (g.back y i f names).0;
  fits = fits_left g.fits;
}

rest_ground : (c : Chain) (n : ℕ) (r : RoutineTree) (rest : RoutineTrees) → EachGround c n (tree.more_routines r rest)
    → IsDistinct (routines_node (tree.more_routines r rest)) → EachGround c n rest
rest_ground c n r rest g distinct = record {
  up = λ d a h at. g.up d a (inr h) (none_routine (one_deeper n) r d a (λ i. distinct.2 d i h), at);
  down = λ d a level. (g.down d a level).1;
  name = λ y i f h named. g.name y i f (
    inr h.0,
    (λ listed. elim listed [
      | inl e ↦ distinct.2 y (subst (Has (routine_node r)) e (routine_has r)) h.0
      | inr l ↦ h.1 l
    ]),
  ) (unnamed_routine c (one_deeper n) r y i f (λ j. distinct.2 y (body_has r y j) h.0), named);
  back = λ y i f names. (g.back y i f names).1;
  fits = fits_right g.fits;
}

-- what the text says of one of a part
record Stands (c : Chain) (n : ℕ) (r : RoutineTree) : Type 0 where
  leveled : Each (λ d. IsLevel c d (one_deeper n)) (labels_in_body (routine_body r))
  fixed : (d l : ℕ) → Listed (labels_in_body (routine_body r)) d → IsLevel c d l → l ≡ one_deeper n
  deeper : n < one_deeper n

body_ground : (c : Chain) (n : ℕ) (r : RoutineTree) → RoutineGround c n r → BodyGround c (one_deeper n) (routine_body r)
body_ground c n (tree.a_routine heading semicolon body last_semicolon) g = record {
  up = λ d a h at. g.up d a (inr (inr (inl h))) at;
  down = λ d a level. g.down d a level;
  name = λ y i f h named. g.name y i f h named;
  back = λ y i f names. g.back y i f names;
  fits = fits_inside n _ _ (body_node body) (fits_right g.fits);
}

one_stands : (c : Chain) (n : ℕ) (r : RoutineTree) → RoutineGround c n r → IsDistinct (routine_node r) → Stands c n r
one_stands c n (tree.a_routine heading semicolon body last_semicolon) g distinct =
    let r = tree.a_routine heading semicolon body last_semicolon in
    let inner = body_ground c n r g in
    record {
      leveled = own_level c (one_deeper n) body inner distinct.1.1.0;
      fixed = own_fixed c (one_deeper n) body inner;
      deeper = fits_less n _ _ (body_node body) (fits_right g.fits);
    }

part_stands : (c : Chain) (n : ℕ) (rs : RoutineTrees) → EachGround c n rs → IsDistinct (routines_node rs) → (before : List RoutineTree) (r : RoutineTree)
    (after : List RoutineTree) → routines_in rs ≡ before ++ r ∷ after → Stands c n r
part_stands c n tree.end_of_routines g d before r after e = absurd (nothing before r after e)
  where
    nothing : (before : List RoutineTree) (r : RoutineTree) (after : List RoutineTree) → [] ≡ before ++ r ∷ after → ⊥
    nothing [] r after e = cc
    nothing (y ∷ ys) r after e = cc
part_stands c n (tree.more_routines q rest) g d [] r after e =
    let same : q ≡ r = cc in subst (Stands c n) same (one_stands c n q (first_ground c n q rest g d) d.0)
part_stands c n (tree.more_routines q rest) g d (y ∷ ys) r after e =
    let more : routines_in rest ≡ ys ++ r ∷ after = cc in part_stands c n rest (rest_ground c n q rest g d) d.1 ys r after more

each_ground : (c : Chain) (n : ℕ) (labels : Option LabelPartTree) (constants : Option ConstantPartTree) (types : Option TypePartTree)
    (variables : Option VariablePartTree) (routines : RoutineTrees) (body : CompoundTree)
    → let b = tree.a_block labels constants types variables routines body in
    Ground c n (block_node b) (Has (block_node b)) (λ d a. AtBlock n b d a) (λ y i g. NamesAt c n b y i g) → IsDistinct (block_node b)
    → EachGround c n routines
each_ground c n labels constants types variables routines body g distinct = record {
  up = λ d a h at. g.up d a (inr (inr (inr (inr (inl h))))) ((λ l. absurd (distinct.2 d (labels_have labels d l) (inr (inr (inr (inl h)))))), at);
  down = λ d a level. (g.down d a level).1;
  name = λ y i f h named. g.name y i f (inr (inr (inr (inr (inl h.0))))) ((λ listed. absurd (h.1 listed)), named);
  back = λ y i f names. (g.back y i f names).1;
  fits = fits_left (fits_right (fits_right (fits_right (fits_right g.fits))));
}

mutual
  sites_block : (c : Chain) (n : ℕ) (b : BlockTree)
      → Ground c n (block_node b) (Has (block_node b)) (λ d a. AtBlock n b d a) (λ y i g. NamesAt c n b y i g) → IsDistinct (block_node b) → Sites c n b
  sites_block c n (tree.a_block labels constants types variables routines body) g distinct =
      let d = distinct.1.1.1.1.0 in
      let each = each_ground c n labels constants types variables routines body g distinct in (
        record {
          leveled = λ before r after e. (part_stands c n routines each d before r after e).leveled;
          fixed = λ before r after e. (part_stands c n routines each d before r after e).fixed;
          deeper = λ before r after e. (part_stands c n routines each d before r after e).deeper;
          named = λ x i f listed scope. g.name x i f (inr (inr (inr (inr (inl (listed_has routines x listed))))))
              ((λ l. scope), named_each c (one_deeper n) routines x i f d listed);
          down = λ x i f listed names. (g.back x i f names).0 listed;
        },
        sites_each c n routines each d,
      )

  sites_each : (c : Chain) (n : ℕ) (rs : RoutineTrees) → EachGround c n rs → IsDistinct (routines_node rs) → SitesEach c (one_deeper n) rs
  sites_each c n tree.end_of_routines g d = tt
  sites_each c n (tree.more_routines r rest) g d =
      (sites_routine c n r (first_ground c n r rest g d) d.0, sites_each c n rest (rest_ground c n r rest g d) d.1)

  sites_routine : (c : Chain) (n : ℕ) (r : RoutineTree) → RoutineGround c n r → IsDistinct (routine_node r) → SitesRoutine c (one_deeper n) r
  sites_routine c n (tree.a_routine heading semicolon body last_semicolon) g d =
      sites_body c (one_deeper n) body (body_ground c n (tree.a_routine heading semicolon body last_semicolon) g) d.1.1.0

  sites_body : (c : Chain) (n : ℕ) (body : BodyTree) → BodyGround c n body → IsDistinct (body_node body) → SitesBody c n body
  sites_body c n (tree.a_directive directive) g d = tt
  sites_body c n (tree.a_block_body b) g d = sites_block c n b g d

-- ---- a text

-- what the walk over a text needs; the labels of the program's own label part are at level 0
pub record Ways (c : Chain) : Type 0 where
  pub leveled : Each (λ d. IsLevel c d 0) (block_labels c.t)
  pub fixed : (d l : ℕ) → Listed (block_labels c.t) d → IsLevel c d l → l ≡ 0
  pub sites : Sites c 0 c.t

pub text_ways : (c : Chain) → IsDistinct (block_node c.t) → length (spell (block_node c.t)) ≤ 4294967295 → Ways c
text_ways c distinct few =
    let g : BodyGround c 0 (tree.a_block_body c.t) = record {
      up = λ d a h at. at;
      down = λ d a level. level;
      name = λ y i f h named. named;
      back = λ y i f names. names;
      fits = record { is = omega (arith, few) };
    } in
    record {
      leveled = own_level c 0 (tree.a_block_body c.t) g distinct;
      fixed = λ d l h level. own_fixed c 0 (tree.a_block_body c.t) g d l h level;
      sites = sites_block c 0 c.t g distinct;
    }

-- ---- which has the block of one heading

-- what completes one of some alone
first_same : (k : Known) (q : RoutineTree) (all e : List RoutineTree) (r : RoutineTree) (l f : List RoutineTree) (s : RoutineTree) (m : List RoutineTree)
    → all ≡ e ++ r ∷ l → all ≡ f ++ s ∷ m → completes k q r ≡ true → completes k q s ≡ true → are_completing k q e ≡ false → are_completing k q f ≡ false
    → IsSame e r f s
first_same k q [] e r l f s m a b x y none other = absurd (nothing e r l a)
  where
    nothing : (e : List RoutineTree) (r : RoutineTree) (l : List RoutineTree) → [] ≡ e ++ r ∷ l → ⊥
    nothing [] r l e = cc
    nothing (y ∷ ys) r l e = cc
first_same k q (p ∷ ps) [] r l [] s m a b x y none other =
    let one : p ≡ r = cc in
    let two : p ≡ s = cc in
    record { earlier = refl; one = sym one ∙ two }
first_same k q (p ∷ ps) [] r l (z ∷ zs) s m a b x y none other =
    let one : p ≡ r = cc in
    let two : p ≡ z = cc in
    let is : completes k q z ≡ true = ap (completes k q) (sym two ∙ one) ∙ x in
    absurd (let never : true ≡ false = sym (ap (λ c. c || are_completing k q zs) is) ∙ other in cc)
first_same k q (p ∷ ps) (w ∷ ws) r l [] s m a b x y none other =
    let one : p ≡ s = cc in
    let two : p ≡ w = cc in
    let is : completes k q w ≡ true = ap (completes k q) (sym two ∙ one) ∙ y in
    absurd (let never : true ≡ false = sym (ap (λ c. c || are_completing k q ws) is) ∙ none in cc)
first_same k q (p ∷ ps) (w ∷ ws) r l (z ∷ zs) s m a b x y none other =
    let one : p ≡ w = cc in
    let two : p ≡ z = cc in
    let more : ps ≡ ws ++ r ∷ l = cc in
    let next : ps ≡ zs ++ s ∷ m = cc in
    let i = first_same k q ps ws r l zs s m more next x y (or_neither (completes k q w) (are_completing k q ws) none).1
    (or_neither (completes k q z) (are_completing k q zs) other).1 in
    record { earlier = ap (λ c. c ∷ ws) (sym one ∙ two) ∙ ap (λ c. z ∷ c) i.earlier; one = i.one }

-- what is so of the first of a name
record FirstSecond (k : Known) (q : RoutineTree) (qs : List RoutineTree) (r : RoutineTree) : Type 0 where
  forward : has_forward k (routine_body q) ≡ true
  is : completes k q r ≡ true
  none : are_completing k q qs ≡ false

first_second : (k : Known) (q : RoutineTree) (qs : List RoutineTree) (r : RoutineTree) → have_one_name k q r ≡ true → is_second k (q ∷ qs) r ≡ true
    → FirstSecond k q qs r
first_second k q qs r same e = by (has_forward k (routine_body q)) (completes k q r) (are_completing k q qs) refl refl refl
    (sym (ap (λ b. if b then has_forward k (routine_body q) && (completes k q r && not (are_completing k q qs)) else is_second k qs r) same) ∙ e)
  where
    by : (f c a : Bool) → has_forward k (routine_body q) ≡ f → completes k q r ≡ c → are_completing k q qs ≡ a → (f && (c && not a)) ≡ true
        → FirstSecond k q qs r
    by true true false x y z w = record { forward = x; is = y; none = z }
    by true true true x y z w = absurd (let never : false ≡ true = w in cc)
    by true false a x y z w = absurd (let never : false ≡ true = w in cc)
    by false c a x y z w = absurd (let never : false ≡ true = w in cc)

later_second : (k : Known) (q : RoutineTree) (qs : List RoutineTree) (r : RoutineTree) (x : ℕ) → have_one_name k q r ≡ false → SecondOf k x (q ∷ qs) r
    → SecondOf k x qs r
later_second k q qs r x no_name s = (
  sym (ap (λ b. if b then has_forward k (routine_body q) && (completes k q r && not (are_completing k q qs)) else is_second k qs r) no_name) ∙ s.0,
  sym (ap (λ b. if b then Some (routine_name q) else first_token k qs r) no_name) ∙ s.1,
)

pub first_listed : (k : Known) (before : List RoutineTree) (r : RoutineTree) (x : ℕ) → first_token k before r ≡ Some x → Listed (map routine_name before) x
first_listed k [] r x e = absurd (none-some x e)
first_listed k (q ∷ qs) r x e = by (have_one_name k q r) e (λ h. first_listed k qs r x h)
  where
    by : (b : Bool) → (if b then Some (routine_name q) else first_token k qs r) ≡ Some x
        → (first_token k qs r ≡ Some x → Listed (map routine_name qs) x) → Listed (map routine_name (q ∷ qs)) x
    by true h next = inl (same_Some (routine_name q) x h)
    by false h next = inr (next h)

own_token : (k : Known) (q : RoutineTree) (qs : List RoutineTree) (r : RoutineTree) (x : ℕ) → have_one_name k q r ≡ true
    → first_token k (q ∷ qs) r ≡ Some x → routine_name q ≡ x
own_token k q qs r x same e =
    same_Some (routine_name q) x (sym (ap (λ b. if b then Some (routine_name q) else first_token k qs r) same) ∙ e)

pub seconds_same : (k : Known) (all e : List RoutineTree) (r : RoutineTree) (l f : List RoutineTree) (s : RoutineTree) (m : List RoutineTree) (x : ℕ)
    → Apart all → all ≡ e ++ r ∷ l → all ≡ f ++ s ∷ m → SecondOf k x e r → SecondOf k x f s → IsSame e r f s
seconds_same k all [] r l f s m x apart a b u v = absurd (let never : false ≡ true = u.0 in cc)
seconds_same k all (w ∷ ws) r l [] s m x apart a b u v = absurd (let never : false ≡ true = v.0 in cc)
seconds_same k [] (w ∷ ws) r l (z ∷ zs) s m x apart a b u v = absurd cc
seconds_same k (p ∷ ps) (w ∷ ws) r l (z ∷ zs) s m x apart a b u v =
    let one : p ≡ w = cc in
    let two : p ≡ z = cc in
    let more : ps ≡ ws ++ r ∷ l = cc in
    let next : ps ≡ zs ++ s ∷ m = cc in
    let u1 : SecondOf k x (p ∷ ws) r = subst (λ c. SecondOf k x (c ∷ ws) r) (sym one) u in
    let v1 : SecondOf k x (p ∷ zs) s = subst (λ c. SecondOf k x (c ∷ zs) s) (sym two) v in
    let i = by (have_one_name k p r) (have_one_name k p s) refl refl more next u1 v1
    (λ h g. seconds_same k ps ws r l zs s m x apart.1 more next h g) in
    record { earlier = ap (λ c. c ∷ ws) (sym one ∙ two) ∙ ap (λ c. z ∷ c) i.earlier; one = i.one }
  where
    off : (n : ℕ) → routine_name p ≡ n → Listed (map routine_name ps) n → ⊥
    off n e h = apart_parts (p ∷ []) ps apart n (inl e) h

    by : (c d : Bool) → have_one_name k p r ≡ c → have_one_name k p s ≡ d → ps ≡ ws ++ r ∷ l → ps ≡ zs ++ s ∷ m → SecondOf k x (p ∷ ws) r
        → SecondOf k x (p ∷ zs) s → (SecondOf k x ws r → SecondOf k x zs s → IsSame ws r zs s) → IsSame ws r zs s
    by true true is same more next u v rest =
        let g = first_second k p ws r is u.0 in
        let h = first_second k p zs s same v.0 in
        first_same k p ps ws r l zs s m more next g.is h.is g.none h.none
    by true false is other more next u v rest =
        absurd (off x (own_token k p ws r x is u.1)
        (listed_earlier ps zs (s ∷ m) x next (first_listed k zs s x (later_second k p zs s x other v).1)))
    by false true other same more next u v rest =
        absurd (off x (own_token k p zs s x same v.1)
        (listed_earlier ps ws (r ∷ l) x more (first_listed k ws r x (later_second k p ws r x other u).1)))
    by false false other another more next u v rest = rest (later_second k p ws r x other u) (later_second k p zs s x another v)

-- the first of a second is forward
pub record Forward (k : Known) (before : List RoutineTree) (x : ℕ) : Type 0 where
  pub earlier : List RoutineTree
  pub q : RoutineTree
  pub later : List RoutineTree
  pub one : before ≡ earlier ++ q ∷ later
  pub at : routine_name q ≡ x
  pub forward : has_forward k (routine_body q) ≡ true

pub first_forward : (k : Known) (before : List RoutineTree) (r : RoutineTree) (x : ℕ) → SecondOf k x before r → Forward k before x
first_forward k [] r x s = absurd (let never : false ≡ true = s.0 in cc)
first_forward k (q ∷ qs) r x s = by (have_one_name k q r) refl (λ h. first_forward k qs r x h)
  where
    by : (b : Bool) → have_one_name k q r ≡ b → (SecondOf k x qs r → Forward k qs x) → Forward k (q ∷ qs) x
    by true is next = record {
      earlier = [];
      q = q;
      later = qs;
      one = refl;
      at = own_token k q qs r x is s.1;
      forward = (first_second k q qs r is s.0).forward;
    }
    by false other next =
        let f = next (later_second k q qs r x other s) in
        record { earlier = q ∷ f.earlier; q = f.q; later = f.later; one = ap (λ l. q ∷ l) f.one; at = f.at; forward = f.forward }
