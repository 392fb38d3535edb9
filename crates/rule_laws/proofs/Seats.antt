-- Where a text has its procedures and functions: each after others in a part, with its name at a token that no other has.
use Rattle.std.proofs.Common.{◌++◌, ◌∷◌, ◌≡◌, ◌⊎◌, [], ℕ, Bool, List, inl, inr, map, refl, subst, true}
use Rattle.grammar.specs.Nodes.{Leaf, Node, Nothing, Pair}
use Rattle.pas_tree.specs.{HeadingPlaces.heading_name, HeadingTrees.HeadingTree, TreeNodes.variable_part_node}
use Rattle.pas_tree.specs.BlockTrees.{BlockTree, BodyTree, RoutineTree, RoutineTrees, routine_body, routine_heading}
use Rattle.pas_tree.specs.BlockTrees as tree
use Rattle.pas_tree.specs.HeadingTrees as headings
use Rattle.pas_tree.specs.TreeNodes.{block_node, body_node, constant_part_node, heading_node, held_formals_node, routine_node, routines_node, type_part_node}
use Rattle.check_steps.specs.Known.{Known}
use Rattle.denoter_checker.specs.{Formals.formals_of, Formals.is_function, RoutineParts.routine_name}
use Rattle.rule_laws.proofs.{Breaks.Each, Every.Every, Listed.Listed, NamesIn.block_names-in, NamesIn.held-formals-in}
use Rattle.rule_laws.proofs.TextForwards.{Apart, name_has, part_apart, routine_has}
use Rattle.rule_laws.specs.{ForwardHeadings.has_forward, RegionNames.heading_names, Tokens.Has, Tokens.IsDistinct}
use Rattle.rule_laws.specs.TextLaws.{names_in_body, routines_in_body}

-- ---- one of a text's procedures and functions

-- what may hold of one, after those before it in its part
abbrev pub Kind : Type 1
Kind = List RoutineTree → RoutineTree → Type 0

-- Some procedure or function in a block has its name at this token, and is of this kind.
abbrev mutual
  pub SomeAt : Kind → ℕ → BlockTree → Type 0
  SomeAt R n (tree.a_block labels constants types variables routines body) = SomeIn R n [] routines

  pub SomeIn : Kind → ℕ → List RoutineTree → RoutineTrees → Type 0
  SomeIn R n before tree.end_of_routines = ⊥
  SomeIn R n before (tree.more_routines r rest) = SomeOf R n before r ⊎ SomeIn R n (before ++ r ∷ []) rest

  pub SomeOf : Kind → ℕ → List RoutineTree → RoutineTree → Type 0
  SomeOf R n before (tree.a_routine heading semicolon body last_semicolon) =
      ((heading_name heading ≡ n) × R before (tree.a_routine heading semicolon body last_semicolon)) ⊎ SomeInside R n body

  pub SomeInside : Kind → ℕ → BodyTree → Type 0
  SomeInside R n (tree.a_directive directive) = ⊥
  SomeInside R n (tree.a_block_body b) = SomeAt R n b

abbrev pub AnyKind : Kind
AnyKind before r = Unit {0}

-- a procedure or function, by whether it is a function, that is forward
abbrev pub ForwardKind : Known → Bool → Kind
ForwardKind k function before r = (has_forward k (routine_body r) ≡ true) × (is_function (routine_heading r) ≡ function)

-- ---- it stands there

mutual
  pub block_has : (R : Kind) (n : ℕ) (b : BlockTree) → SomeAt R n b → Has (block_node b) n
  block_has R n (tree.a_block labels constants types variables routines body) s = inr (inr (inr (inr (inl (part_has R n [] routines s)))))

  pub part_has : (R : Kind) (n : ℕ) (before : List RoutineTree) (rs : RoutineTrees) → SomeIn R n before rs → Has (routines_node rs) n
  part_has R n before tree.end_of_routines s = absurd s
  part_has R n before (tree.more_routines r rest) (inl s) = inl (one_has R n before r s)
  part_has R n before (tree.more_routines r rest) (inr s) = inr (part_has R n (before ++ r ∷ []) rest s)

  pub one_has : (R : Kind) (n : ℕ) (before : List RoutineTree) (r : RoutineTree) → SomeOf R n before r → Has (routine_node r) n
  one_has R n before (tree.a_routine heading semicolon body last_semicolon) (inl s) = inl (subst (Has (heading_node heading)) s.0 (name_has heading))
  one_has R n before (tree.a_routine heading semicolon body last_semicolon) (inr s) = inr (inr (inl (inside_has R n body s)))

  pub inside_has : (R : Kind) (n : ℕ) (body : BodyTree) → SomeInside R n body → Has (body_node body) n
  inside_has R n (tree.a_directive directive) s = absurd s
  inside_has R n (tree.a_block_body b) s = block_has R n b s

mutual
  pub some_map : (R S : Kind) (n : ℕ) (b : BlockTree) → ((before : List RoutineTree) (r : RoutineTree) → R before r → S before r) → SomeAt R n b → SomeAt S n b
  some_map R S n (tree.a_block labels constants types variables routines body) f s = map_part R S n [] routines f s

  map_part : (R S : Kind) (n : ℕ) (before : List RoutineTree) (rs : RoutineTrees)
      → ((before : List RoutineTree) (r : RoutineTree) → R before r → S before r) → SomeIn R n before rs → SomeIn S n before rs
  map_part R S n before tree.end_of_routines f s = absurd s
  map_part R S n before (tree.more_routines r rest) f (inl s) = inl (map_one R S n before r f s)
  map_part R S n before (tree.more_routines r rest) f (inr s) = inr (map_part R S n (before ++ r ∷ []) rest f s)

  map_one : (R S : Kind) (n : ℕ) (before : List RoutineTree) (r : RoutineTree)
      → ((before : List RoutineTree) (r : RoutineTree) → R before r → S before r) → SomeOf R n before r → SomeOf S n before r
  map_one R S n before (tree.a_routine heading semicolon body last_semicolon) f (inl s) =
      inl (s.0, f before (tree.a_routine heading semicolon body last_semicolon) s.1)
  map_one R S n before (tree.a_routine heading semicolon body last_semicolon) f (inr s) = inr (map_inside R S n body f s)

  map_inside : (R S : Kind) (n : ℕ) (body : BodyTree) → ((before : List RoutineTree) (r : RoutineTree) → R before r → S before r) → SomeInside R n body
      → SomeInside S n body
  map_inside R S n (tree.a_directive directive) f s = absurd s
  map_inside R S n (tree.a_block_body b) f s = some_map R S n b f s

pub some_any : (R : Kind) (n : ℕ) (b : BlockTree) → SomeAt R n b → SomeAt AnyKind n b
some_any R n b s = some_map R AnyKind n b (λ before r p. tt) s

pub every_has : (Q : ℕ → Type 0) (x : Node) → ((n : ℕ) → Has x n → Q n) → Every Q x
every_has Q (Leaf item) h = record { is = h item.number refl }
every_has Q Nothing h = tt
every_has Q (Pair a b) h = (every_has Q a (λ n i. h n (inl i)), every_has Q b (λ n i. h n (inr i)))

-- ---- the seat of each

-- No procedure or function of the text has its name at this token.
abbrev pub Nobody : BlockTree → ℕ → Type 0
Nobody t n = SomeAt AnyKind n t → ⊥

-- What the text says of one at this token is what holds of this one; its formal parameters and the names of its block
-- stand elsewhere, and those before it in its part.
pub record Seat (t : BlockTree) (before : List RoutineTree) (r : RoutineTree) : Type 1 where
  pub up : (R : Kind) → R before r → SomeAt R (routine_name r) t
  pub own : (R : Kind) → SomeAt R (routine_name r) t → R before r
  pub formals : Each (Nobody t) (heading_names (routine_heading r))
  pub names : Each (Nobody t) (names_in_body (routine_body r))
  pub fresh : Listed (map routine_name before) (routine_name r) → ⊥
  pub apart : Apart (routines_in_body (routine_body r))

abbrev mutual
  pub Seats : BlockTree → BlockTree → Type 1
  Seats t (tree.a_block labels constants types variables routines body) = SeatsIn t [] routines

  pub SeatsIn : BlockTree → List RoutineTree → RoutineTrees → Type 1
  SeatsIn t before tree.end_of_routines = Unit {1}
  SeatsIn t before (tree.more_routines r rest) = SeatsOf t before r × SeatsIn t (before ++ r ∷ []) rest

  pub SeatsOf : BlockTree → List RoutineTree → RoutineTree → Type 1
  SeatsOf t before (tree.a_routine heading semicolon body last_semicolon) =
      Seat t before (tree.a_routine heading semicolon body last_semicolon) × SeatsInside t body

  pub SeatsInside : BlockTree → BodyTree → Type 1
  SeatsInside t (tree.a_directive directive) = Unit {1}
  SeatsInside t (tree.a_block_body b) = Seats t b

-- What a part of the text says of its tokens is all that the text says of them.
record Ground (t : BlockTree) (x : Node) (Here : Kind → ℕ → Type 0) : Type 1 where
  up : (R : Kind) (n : ℕ) → Here R n → SomeAt R n t
  own : (R : Kind) (n : ℕ) → Has x n → SomeAt R n t → Here R n

-- a token of a heading other than the name
formals_apart : (h : HeadingTree) → IsDistinct (heading_node h) → (n : ℕ) → Has (held_formals_node (formals_of h)) n → heading_name h ≡ n → ⊥
formals_apart (headings.a_procedure (headings.procedure_heading word name formals)) d n has e = d.1.2 n e has
formals_apart (headings.a_function (headings.function_heading word name formals result)) d n has e = d.1.2 n e (inl has)

formals_has : (h : HeadingTree) (n : ℕ) → Has (held_formals_node (formals_of h)) n → Has (heading_node h) n
formals_has (headings.a_procedure (headings.procedure_heading word name formals)) n has = inr (inr has)
formals_has (headings.a_function (headings.function_heading word name formals result)) n has = inr (inr (inl has))

body_names : (t : BlockTree) (body : BodyTree) → IsDistinct (body_node body) → Ground t (body_node body) (λ R n. SomeInside R n body)
    → Each (Nobody t) (names_in_body body)
body_names t (tree.a_directive directive) d g = tt
body_names t (tree.a_block_body (tree.a_block labels constants types variables routines body)) d g = block_names-in (Nobody t) constants types variables
    (every_has (Nobody t) (constant_part_node constants) (λ n has s.
    d.1.2 n has (inr (inr (inl (part_has AnyKind n [] routines (g.own AnyKind n (inr (inl has)) s)))))))
    (every_has (Nobody t) (type_part_node types) (λ n has s.
    d.1.1.2 n has (inr (inl (part_has AnyKind n [] routines (g.own AnyKind n (inr (inr (inl has))) s))))))
    (every_has (Nobody t) (variable_part_node variables) (λ n has s.
    d.1.1.1.2 n has (inl (part_has AnyKind n [] routines (g.own AnyKind n (inr (inr (inr (inl has)))) s)))))

body_apart : (body : BodyTree) → IsDistinct (body_node body) → Apart (routines_in_body body)
body_apart (tree.a_directive directive) d = tt
body_apart (tree.a_block_body (tree.a_block labels constants types variables routines body)) d = part_apart routines d.1.1.1.1.0

-- those before it stand nowhere in what is left of the part
abbrev Past : List RoutineTree → Node → Type 0
Past before x = (n : ℕ) → Listed (map routine_name before) n → Has x n → ⊥

past_more : (before : List RoutineTree) (r : RoutineTree) (x : Node) → Past before (Pair (routine_node r) x)
    → ((n : ℕ) → Has (routine_node r) n → Has x n → ⊥) → Past (before ++ r ∷ []) x
past_more before r x past apart n listed has = elim (last before n listed) [
  | inl l ↦ past n l (inr has)
  | inr e ↦ apart n (subst (Has (routine_node r)) e (routine_has r)) has
]
  where
    last : (xs : List RoutineTree) (n : ℕ) → Listed (map routine_name (xs ++ r ∷ [])) n → Listed (map routine_name xs) n ⊎ (routine_name r ≡ n)
    last [] n (inl e) = inr e
    last [] n (inr h) = absurd h
    last (y ∷ ys) n (inl e) = inl (inl e)
    last (y ∷ ys) n (inr h) = elim (last ys n h) [
      | inl l ↦ inl (inr l)
      | inr e ↦ inr e
    ]

mutual
  seats_block : (t b : BlockTree) → Ground t (block_node b) (λ R n. SomeAt R n b) → IsDistinct (block_node b) → Seats t b
  seats_block t (tree.a_block labels constants types variables routines body) g d = seats_part t [] routines (record {
    up = λ R n s. g.up R n s;
    own = λ R n has s. g.own R n (inr (inr (inr (inr (inl has))))) s;
  }) (λ n listed has. listed) d.1.1.1.1.0

  seats_part : (t : BlockTree) (before : List RoutineTree) (rs : RoutineTrees) → Ground t (routines_node rs) (λ R n. SomeIn R n before rs)
      → Past before (routines_node rs) → IsDistinct (routines_node rs) → SeatsIn t before rs
  seats_part t before tree.end_of_routines g past d = tt
  seats_part t before (tree.more_routines r rest) g past d = (
    seats_one t before r (record {
      up = λ R n s. g.up R n (inl s);
      own = λ R n has s. elim (g.own R n (inl has) s) [
        | inl l ↦ l
        | inr m ↦ absurd (d.2 n has (part_has R n (before ++ r ∷ []) rest m))
      ];
    }) (λ n listed has. past n listed (inl has)) d.0,
    seats_part t (before ++ r ∷ []) rest (record {
      up = λ R n s. g.up R n (inr s);
      own = λ R n has s. elim (g.own R n (inr has) s) [
        | inl l ↦ absurd (d.2 n (one_has R n before r l) has)
        | inr m ↦ m
      ];
    }) (past_more before r (routines_node rest) past d.2) d.1,
  )

  seats_one : (t : BlockTree) (before : List RoutineTree) (r : RoutineTree) → Ground t (routine_node r) (λ R n. SomeOf R n before r)
      → Past before (routine_node r) → IsDistinct (routine_node r) → SeatsOf t before r
  seats_one t before (tree.a_routine heading semicolon body last_semicolon) g past d =
      let name = heading_name heading in
      let inner : Ground t (body_node body) (λ R n. SomeInside R n body) = record {
        up = λ R n s. g.up R n (inr s);
        own = λ R n has s. elim (g.own R n (inr (inr (inl has))) s) [
          | inl l ↦ absurd (d.2 n (subst (Has (heading_node heading)) l.0 (name_has heading)) (inr (inl has)))
          | inr m ↦ m
        ];
      } in (
        record {
          up = λ R p. g.up R name (inl (refl, p));
          own = λ R s. elim (g.own R name (inl (name_has heading)) s) [
            | inl l ↦ l.1
            | inr m ↦ absurd (d.2 name (name_has heading) (inr (inl (inside_has R name body m))))
          ];
          formals = held-formals-in (Nobody t) (formals_of heading) (every_has (Nobody t) (held_formals_node (formals_of heading)) (λ n has s.
              elim (g.own AnyKind n (inl (formals_has heading n has)) s) [
                | inl l ↦ formals_apart heading d.0 n has l.0
                | inr m ↦ d.2 n (formals_has heading n has) (inr (inl (inside_has AnyKind n body m)))
              ]));
          names = body_names t body d.1.1.0 inner;
          fresh = λ listed. past name listed (inl (name_has heading));
          apart = body_apart body d.1.1.0;
        },
        seats_inside t body inner d.1.1.0,
      )

  seats_inside : (t : BlockTree) (body : BodyTree) → Ground t (body_node body) (λ R n. SomeInside R n body) → IsDistinct (body_node body)
      → SeatsInside t body
  seats_inside t (tree.a_directive directive) g d = tt
  seats_inside t (tree.a_block_body b) g d = seats_block t b g d

-- ---- a text

whole : (t : BlockTree) → Ground t (block_node t) (λ R n. SomeAt R n t)
whole t = record { up = λ R n s. s; own = λ R n has s. s }

pub text_seats : (t : BlockTree) → IsDistinct (block_node t) → Seats t t
text_seats t d = seats_block t t (whole t) d

-- the names of the program's block
pub text_names : (t : BlockTree) → IsDistinct (block_node t) → Each (Nobody t) (names_in_body (tree.a_block_body t))
text_names t d = body_names t (tree.a_block_body t) d (record { up = λ R n s. s; own = λ R n has s. s })
