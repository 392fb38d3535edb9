-- Where in a text no procedure or function has its name, and how many there are in a part.
use Rattle.std.proofs.Common.{◌++◌, ◌+◌, ◌∷◌, ◌≡◌, ◌≤◌, [], ℕ, List, Option, arith, inl, inr, length, subst, suc, sym}
use Rattle.std.proofs.lemmas.List.{length-append}
use Rattle.grammar.specs.Nodes.{Item, spell}
use Rattle.pas_tree.specs.{HeadingPlaces.heading_name, HeadingTrees.HeadingTree, StatementTrees.CompoundTree}
use Rattle.pas_tree.specs.BlockTrees.{BlockTree, BodyTree, ConstantPartTree, LabelPartTree, RoutineTree, RoutineTrees, TypePartTree, VariablePartTree}
use Rattle.pas_tree.specs.BlockTrees as tree
use Rattle.pas_tree.specs.TreeNodes.{block_node, body_node, compound_node, constant_part_node, heading_node, label_part_node, routine_node, routines_node}
use Rattle.pas_tree.specs.TreeNodes.{type_part_node, variable_part_node}
use Rattle.rule_laws.proofs.{Chains.Fits, Chains.fits_left, Chains.fits_right, Every.Every, Paired.But, TextForwards.name_has}
use Rattle.rule_laws.proofs.Seats.{AnyKind, SomeAt, SomeIn, SomeInside, SomeOf, every_has, inside_has, one_has, part_has}
use Rattle.rule_laws.specs.{ForwardHeadings.routines_in, Tokens.Has, Tokens.IsDistinct}

abbrev pub Nowhere : ℕ → Type 0
Nowhere n = ⊥

-- a block, but for its procedures and functions, and these as a part
pub record CalmBlock (t : BlockTree) (label_part : Option LabelPartTree) (consts : Option ConstantPartTree) (kinds : Option TypePartTree)
    (variable_part : Option VariablePartTree) (routines : RoutineTrees) (body : CompoundTree) : Type 0 where
  pub labels : Every (But t Nowhere) (label_part_node label_part)
  pub constants : Every (But t Nowhere) (constant_part_node consts)
  pub types : Every (But t Nowhere) (type_part_node kinds)
  pub variables : Every (But t Nowhere) (variable_part_node variable_part)
  pub statements : Every (But t Nowhere) (compound_node body)
  pub distinct : IsDistinct (routines_node routines)
  pub few : length (routines_in routines) ≤ 4294967295

-- So it is with a block and those inside of it, and in headings each has no name but its own.
abbrev mutual
  pub Calm : BlockTree → BlockTree → Type 0
  Calm t (tree.a_block labels constants types variables routines body) =
      CalmBlock t labels constants types variables routines body × CalmPart t routines

  pub CalmPart : BlockTree → RoutineTrees → Type 0
  CalmPart t tree.end_of_routines = Unit {0}
  CalmPart t (tree.more_routines r rest) = CalmOf t r × CalmPart t rest

  pub CalmOf : BlockTree → RoutineTree → Type 0
  CalmOf t (tree.a_routine heading semicolon body last_semicolon) =
      Every (But t (λ n. n ≡ heading_name heading)) (heading_node heading) × CalmBody t body

  pub CalmBody : BlockTree → BodyTree → Type 0
  CalmBody t (tree.a_directive directive) = Unit {0}
  CalmBody t (tree.a_block_body b) = Calm t b

-- ---- of few tokens

more_than : (xs : List Item) (x : Item) (ys : List Item) → 1 ≤ length (xs ++ x ∷ ys)
more_than xs x ys = by (length-append xs (x ∷ ys))
  where
    by : length (xs ++ x ∷ ys) ≡ length xs + suc (length ys) → 1 ≤ length (xs ++ x ∷ ys)
    by all = omega (arith, all)

few_routines : (rs : RoutineTrees) → length (routines_in rs) ≤ length (spell (routines_node rs))
few_routines tree.end_of_routines = omega arith
few_routines (tree.more_routines (tree.a_routine heading semicolon body last_semicolon) rest) =
    let r = tree.a_routine heading semicolon body last_semicolon in
    let more = few_routines rest in
    let both = length-append (spell (routine_node r)) (spell (routines_node rest)) in
    let own : 1 ≤ length (spell (routine_node r)) = more_than (spell (heading_node heading)) _ _ in
    omega (arith, more, both, own)

few_part : (rs : RoutineTrees) → Fits 0 (routines_node rs) → length (routines_in rs) ≤ 4294967295
few_part rs fits = let is = fits.is in let few = few_routines rs in omega (arith, is, few)

-- ---- a text

heading_calm : (t : BlockTree) (before : List RoutineTree) (heading : HeadingTree) (semicolon : ℕ) (body : BodyTree) (last_semicolon : ℕ)
    → let r = tree.a_routine heading semicolon body last_semicolon in
    ((n : ℕ) → Has (routine_node r) n → SomeAt AnyKind n t → SomeOf AnyKind n before r) → IsDistinct (routine_node r)
    → Every (But t (λ n. n ≡ heading_name heading)) (heading_node heading)
heading_calm t before heading semicolon body last_semicolon own d = every_has (But t (λ n. n ≡ heading_name heading)) (heading_node heading)
    (λ n has some. elim (own n (inl has) some) [
      | inl l ↦ sym l.0
      | inr m ↦ absurd (d.2 n has (inr (inl (inside_has AnyKind n body m))))
    ])

mutual
  pub block_calm : (t b : BlockTree) → ((n : ℕ) → Has (block_node b) n → SomeAt AnyKind n t → SomeAt AnyKind n b) → IsDistinct (block_node b)
      → Fits 0 (block_node b) → Calm t b
  block_calm t (tree.a_block labels constants types variables routines body) own d fits = (
    record {
      labels = every_has (But t Nowhere) (label_part_node labels) (λ n has some.
          d.2 n has (inr (inr (inr (inl (part_has AnyKind n [] routines (own n (inl has) some)))))));
      constants = every_has (But t Nowhere) (constant_part_node constants) (λ n has some.
          d.1.2 n has (inr (inr (inl (part_has AnyKind n [] routines (own n (inr (inl has)) some))))));
      types = every_has (But t Nowhere) (type_part_node types) (λ n has some.
          d.1.1.2 n has (inr (inl (part_has AnyKind n [] routines (own n (inr (inr (inl has))) some)))));
      variables = every_has (But t Nowhere) (variable_part_node variables) (λ n has some.
          d.1.1.1.2 n has (inl (part_has AnyKind n [] routines (own n (inr (inr (inr (inl has)))) some))));
      statements = every_has (But t Nowhere) (compound_node body) (λ n has some.
          d.1.1.1.1.2 n (part_has AnyKind n [] routines (own n (inr (inr (inr (inr (inr has))))) some)) has);
      distinct = d.1.1.1.1.0;
      few = few_part routines (fits_left (fits_right (fits_right (fits_right (fits_right fits)))));
    },
    part_calm t [] routines (λ n has some. own n (inr (inr (inr (inr (inl has))))) some) d.1.1.1.1.0
        (fits_left (fits_right (fits_right (fits_right (fits_right fits))))),
  )

  part_calm : (t : BlockTree) (before : List RoutineTree) (rs : RoutineTrees)
      → ((n : ℕ) → Has (routines_node rs) n → SomeAt AnyKind n t → SomeIn AnyKind n before rs) → IsDistinct (routines_node rs)
      → Fits 0 (routines_node rs) → CalmPart t rs
  part_calm t before tree.end_of_routines own d fits = tt
  part_calm t before (tree.more_routines r rest) own d fits = (
    routine_calm t before r (λ n has some. elim (own n (inl has) some) [
      | inl l ↦ l
      | inr m ↦ absurd (d.2 n has (part_has AnyKind n (before ++ r ∷ []) rest m))
    ]) d.0 (fits_left fits),
    part_calm t (before ++ r ∷ []) rest (λ n has some. elim (own n (inr has) some) [
      | inl l ↦ absurd (d.2 n (one_has AnyKind n before r l) has)
      | inr m ↦ m
    ]) d.1 (fits_right fits),
  )

  routine_calm : (t : BlockTree) (before : List RoutineTree) (r : RoutineTree)
      → ((n : ℕ) → Has (routine_node r) n → SomeAt AnyKind n t → SomeOf AnyKind n before r) → IsDistinct (routine_node r) → Fits 0 (routine_node r)
      → CalmOf t r
  routine_calm t before (tree.a_routine heading semicolon body last_semicolon) own d fits = (
    heading_calm t before heading semicolon body last_semicolon own d,
    body_calm t body (λ n has some. elim (own n (inr (inr (inl has))) some) [
      | inl l ↦ absurd (d.2 n (subst (Has (heading_node heading)) l.0 (name_has heading)) (inr (inl has)))
      | inr m ↦ m
    ]) d.1.1.0 (fits_left (fits_right (fits_right fits))),
  )

  body_calm : (t : BlockTree) (body : BodyTree) → ((n : ℕ) → Has (body_node body) n → SomeAt AnyKind n t → SomeInside AnyKind n body)
      → IsDistinct (body_node body) → Fits 0 (body_node body) → CalmBody t body
  body_calm t (tree.a_directive directive) own d fits = tt
  body_calm t (tree.a_block_body b) own d fits = block_calm t b own d fits
