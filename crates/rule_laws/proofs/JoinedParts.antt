-- The block of each forward heading of a text, by the position that is put down for it.
use Rattle.std.proofs.Common.{if◌then◌else◌, ◌++◌, ◌||◌, ◌∙◌, ◌∷◌, ◌≡◌, ◌⊎◌, [], ℕ, Bool, Contains, List, None, Some, ap, arith, false, inl, inr, length, refl}
use Rattle.std.proofs.Common.{subst, suc, sym, true, zero}
use Rattle.pas_tree.specs.BlockTrees.{BlockTree, BodyTree, RoutineTree, RoutineTrees, routine_body, routine_heading}
use Rattle.pas_tree.specs.BlockTrees as tree
use Rattle.pas_tree.specs.TreeNodes.{block_node, body_node, heading_node, routine_node, routines_node}
use Rattle.core_program.specs.declared.rows.{NameRow.NameRow, PartRow.PartRow, Row.Row, TypeRow.TypeRow}
use Rattle.check_steps.specs.Known.{Known, row_at, with_row}
use Rattle.denoter_checker.specs.RoutineParts.{routine_at, routine_name}
use Rattle.rule_laws.proofs.{Faces.row_either, Lasting.Declaring, Lasting.Lasting, TextForwards.name_has, TextForwards.routine_has}
use Rattle.rule_laws.proofs.PartTurns.{NoRoutine, Orderly, orderly_all, orderly_lasts}
use Rattle.rule_laws.proofs.TextHeadings.{no_forward, no_name, no_record}
use Rattle.rule_laws.specs.{OnlyLaws.IsNoSecondIn, RegionNames.heading_names, TextLaws.first_formals, Tokens.Has, Tokens.IsDistinct}
use Rattle.rule_laws.specs.ForwardHeadings.{have_one_name, is_named, is_second, routines_in}

-- a text and a token of it
pub record Looked : Type 0 where
  pub k : Known
  pub t : BlockTree
  pub n : ℕ

-- ---- the procedures and functions of a part

-- one of a list
abbrev pub Member : RoutineTree → List RoutineTree → Type 0
Member r [] = ⊥
Member r (q ∷ qs) = (q ≡ r) ⊎ Member r qs

pub contains : (r : RoutineTree) (rs : List RoutineTree) → Member r rs → Contains rs r
contains r [] h = absurd h
contains r (q ∷ qs) (inl e) = (0, omega arith, e)
contains r (q ∷ qs) (inr h) = let c = contains r qs h in (suc c.0, omega (arith, c.1), c.2)

pub member_left : (r : RoutineTree) (xs ys : List RoutineTree) → Member r xs → Member r (xs ++ ys)
member_left r [] ys h = absurd h
member_left r (x ∷ xs) ys (inl e) = inl e
member_left r (x ∷ xs) ys (inr h) = inr (member_left r xs ys h)

pub member_at : (rs : RoutineTrees) (position : ℕ) (c : RoutineTree) → routine_at rs position ≡ Some c → Member c (routines_in rs)
member_at tree.end_of_routines position c e = absurd (let never : None ≡ Some c = e in cc)
member_at (tree.more_routines r rest) zero c e = inl (let same : Some r ≡ Some c = e in cc)
member_at (tree.more_routines r rest) (suc position) c e = inr (member_at rest position c e)

pub at_position : (rs : RoutineTrees) (before : List RoutineTree) (s : RoutineTree) (after : List RoutineTree) → routines_in rs ≡ before ++ s ∷ after
    → routine_at rs (length before) ≡ Some s
at_position tree.end_of_routines [] s after e = absurd (let never : [] ≡ s ∷ after = e in cc)
at_position tree.end_of_routines (y ∷ ys) s after e = absurd (let never : [] ≡ y ∷ (ys ++ s ∷ after) = e in cc)
at_position (tree.more_routines r rest) [] s after e = let at : r ∷ routines_in rest ≡ s ∷ after = e in cc
at_position (tree.more_routines r rest) (y ∷ ys) s after e =
    at_position rest ys s after (let more : r ∷ routines_in rest ≡ y ∷ (ys ++ s ∷ after) = e in cc)

-- the first of some routines that has the name of one, or else this one
abbrev pub first_named : Known → List RoutineTree → RoutineTree → RoutineTree
first_named k [] r = r
first_named k (q ∷ qs) r = if have_one_name k q r then q else first_named k qs r

formals_by : (k : Known) (q : RoutineTree) (qs : List RoutineTree) (r : RoutineTree) (b : Bool) → have_one_name k q r ≡ b
    → (is_named k qs r ≡ true → first_formals k qs r ≡ heading_names (routine_heading (first_named k qs r))) → is_named k (q ∷ qs) r ≡ true
    → first_formals k (q ∷ qs) r ≡ heading_names (routine_heading (first_named k (q ∷ qs) r))
formals_by k q qs r true one later e = ap (λ (c : Bool). if c then heading_names (routine_heading q) else first_formals k qs r) one
    ∙ sym (ap (λ (c : Bool). heading_names (routine_heading (if c then q else first_named k qs r))) one)
formals_by k q qs r false one later e = ap (λ (c : Bool). if c then heading_names (routine_heading q) else first_formals k qs r) one
    ∙ later (sym (ap (λ c. c || is_named k qs r) one) ∙ e)
    ∙ sym (ap (λ (c : Bool). heading_names (routine_heading (if c then q else first_named k qs r))) one)

-- its formal parameters
pub formals_first : (k : Known) (qs : List RoutineTree) (r : RoutineTree) → is_named k qs r ≡ true
    → first_formals k qs r ≡ heading_names (routine_heading (first_named k qs r))
formals_first k [] r e = absurd (let never : false ≡ true = e in cc)
formals_first k (q ∷ qs) r e = formals_by k q qs r (have_one_name k q r) refl (λ h. formals_first k qs r h) e

first_by : (k : Known) (q : RoutineTree) (qs : List RoutineTree) (r : RoutineTree) (b : Bool) → have_one_name k q r ≡ b
    → (is_named k qs r ≡ true → Member (first_named k qs r) qs) → is_named k (q ∷ qs) r ≡ true → Member (first_named k (q ∷ qs) r) (q ∷ qs)
first_by k q qs r true one later e = inl (sym (ap (λ (c : Bool). if c then q else first_named k qs r) one))
first_by k q qs r false one later e = inr (subst (λ (s : RoutineTree). Member s qs) (sym (ap (λ (c : Bool). if c then q else first_named k qs r) one))
    (later (sym (ap (λ c. c || is_named k qs r) one) ∙ e)))

-- the first one of a name is one of them
pub first_member : (k : Known) (qs : List RoutineTree) (r : RoutineTree) → is_named k qs r ≡ true → Member (first_named k qs r) qs
first_member k [] r e = absurd (let never : false ≡ true = e in cc)
first_member k (q ∷ qs) r e = first_by k q qs r (have_one_name k q r) refl (λ h. first_member k qs r h) e

second_by : (a b c d : Bool) → (d ≡ true → c ≡ true) → (if a then b else d) ≡ true → (a || c) ≡ true
second_by true b c d h e = refl
second_by false b c d h e = h e

-- what has the block of an earlier one has its name
pub second_named : (k : Known) (qs : List RoutineTree) (r : RoutineTree) → is_second k qs r ≡ true → is_named k qs r ≡ true
second_named k [] r e = absurd (let never : false ≡ true = e in cc)
second_named k (q ∷ qs) r e = second_by (have_one_name k q r) _ (is_named k qs r) (is_second k qs r) (second_named k qs r) e

-- ---- where they stand

pub member_has : (q : RoutineTree) (rs : RoutineTrees) → Member q (routines_in rs) → Has (routines_node rs) (routine_name q)
member_has q tree.end_of_routines h = absurd h
member_has q (tree.more_routines r rest) (inl e) = inl (subst (λ (s : RoutineTree). Has (routine_node r) (routine_name s)) e (routine_has r))
member_has q (tree.more_routines r rest) (inr h) = inr (member_has q rest h)

pub body_has : (r : RoutineTree) (m : ℕ) → Has (body_node (routine_body r)) m → Has (routine_node r) m
body_has (tree.a_routine heading semicolon body last_semicolon) m h = inr (inr (inl h))

bodies_have : (r : RoutineTree) (rs : RoutineTrees) (m : ℕ) → Member r (routines_in rs) → Has (body_node (routine_body r)) m → Has (routines_node rs) m
bodies_have r tree.end_of_routines m among h = absurd among
bodies_have r (tree.more_routines s rest) m (inl e) h = inl (subst (λ (q : RoutineTree). Has (routine_node q) m) (sym e) (body_has r m h))
bodies_have r (tree.more_routines s rest) m (inr among) h = inr (bodies_have r rest m among h)

own_apart : (r : RoutineTree) (m : ℕ) → IsDistinct (routine_node r) → routine_name r ≡ m → Has (body_node (routine_body r)) m → ⊥
own_apart (tree.a_routine heading semicolon body last_semicolon) m d e h =
    d.2 m (subst (Has (heading_node heading)) e (name_has heading)) (inr (inl h))

-- no name of theirs stands in a block of theirs
pub names_apart : (rs : RoutineTrees) (q r : RoutineTree) (m : ℕ) → IsDistinct (routines_node rs) → Member q (routines_in rs) → Member r (routines_in rs)
    → routine_name q ≡ m → Has (body_node (routine_body r)) m → ⊥
names_apart tree.end_of_routines q r m d a b e h = absurd a
names_apart (tree.more_routines s rest) q r m d (inl a) (inl b) e h =
    own_apart s m d.0 (ap routine_name a ∙ e) (subst (λ (y : RoutineTree). Has (body_node (routine_body y)) m) (sym b) h)
names_apart (tree.more_routines s rest) q r m d (inl a) (inr b) e h =
    d.2 m (subst (Has (routine_node s)) (ap routine_name a ∙ e) (routine_has s)) (bodies_have r rest m b h)
names_apart (tree.more_routines s rest) q r m d (inr a) (inl b) e h =
    d.2 m (body_has s m (subst (λ (y : RoutineTree). Has (body_node (routine_body y)) m) (sym b) h))
    (subst (Has (routines_node rest)) e (member_has q rest a))
names_apart (tree.more_routines s rest) q r m d (inr a) (inr b) e h = names_apart rest q r m d.1 a b e h

-- their names stand at different tokens
pub one_of_name : (rs : RoutineTrees) (q r : RoutineTree) → IsDistinct (routines_node rs) → Member q (routines_in rs) → Member r (routines_in rs)
    → routine_name q ≡ routine_name r → q ≡ r
one_of_name tree.end_of_routines q r d a b e = absurd a
one_of_name (tree.more_routines s rest) q r d (inl a) (inl b) e = sym a ∙ b
one_of_name (tree.more_routines s rest) q r d (inl a) (inr b) e =
    absurd (d.2 (routine_name r) (subst (Has (routine_node s)) (ap routine_name a ∙ e) (routine_has s)) (member_has r rest b))
one_of_name (tree.more_routines s rest) q r d (inr a) (inl b) e =
    absurd (d.2 (routine_name q) (subst (Has (routine_node s)) (ap routine_name b ∙ sym e) (routine_has s)) (member_has q rest a))
one_of_name (tree.more_routines s rest) q r d (inr a) (inr b) e = one_of_name rest q r d.1 a b e

-- ---- what is told of a position

-- Among these the one at this position stands well in one region with each that has its name at this token.
abbrev pub JoinedAt : Looked → (m position : ℕ) → RoutineTrees → Type 0
JoinedAt x m position rs = (q c : RoutineTree) → Member q (routines_in rs) → routine_name q ≡ m → routine_at rs position ≡ Some c
    → IsNoSecondIn x.k x.n (heading_names (routine_heading q)) (routine_body c)

-- this holds of each part with procedures and functions in a block
abbrev mutual
  pub OfParts : (RoutineTrees → Type 0) → BlockTree → Type 0
  OfParts P (tree.a_block labels constants types variables routines body) = P routines × PartsInEach P routines

  pub PartsInEach : (RoutineTrees → Type 0) → RoutineTrees → Type 0
  PartsInEach P tree.end_of_routines = Unit {0}
  PartsInEach P (tree.more_routines r rest) = PartsInOne P r × PartsInEach P rest

  pub PartsInOne : (RoutineTrees → Type 0) → RoutineTree → Type 0
  PartsInOne P (tree.a_routine heading semicolon body last_semicolon) = PartsInBody P body

  pub PartsInBody : (RoutineTrees → Type 0) → BodyTree → Type 0
  PartsInBody P (tree.a_directive directive) = Unit {0}
  PartsInBody P (tree.a_block_body b) = OfParts P b

abbrev pub AllJoined : Looked → (m position : ℕ) → Type 0
AllJoined x m position = OfParts (JoinedAt x m position) x.t

-- where no name stands at the token
mutual
  off_block : (x : Looked) (m p : ℕ) (b : BlockTree) → (Has (block_node b) m → ⊥) → OfParts (JoinedAt x m p) b
  off_block x m p (tree.a_block labels constants types variables routines body) off = (
    (λ q c among e at. absurd (off (inr (inr (inr (inr (inl (subst (Has (routines_node routines)) e (member_has q routines among))))))))),
    off_each x m p routines (λ h. off (inr (inr (inr (inr (inl h)))))),
  )

  pub off_each : (x : Looked) (m p : ℕ) (rs : RoutineTrees) → (Has (routines_node rs) m → ⊥) → PartsInEach (JoinedAt x m p) rs
  off_each x m p tree.end_of_routines off = tt
  off_each x m p (tree.more_routines r rest) off = (off_one x m p r (λ h. off (inl h)), off_each x m p rest (λ h. off (inr h)))

  pub off_one : (x : Looked) (m p : ℕ) (r : RoutineTree) → (Has (routine_node r) m → ⊥) → PartsInOne (JoinedAt x m p) r
  off_one x m p (tree.a_routine heading semicolon body last_semicolon) off = off_body x m p body (λ h. off (inr (inr (inl h))))

  off_body : (x : Looked) (m p : ℕ) (body : BodyTree) → (Has (body_node body) m → ⊥) → PartsInBody (JoinedAt x m p) body
  off_body x m p (tree.a_directive directive) off = tt
  off_body x m p (tree.a_block_body b) off = off_block x m p b off

own_off : (x : Looked) (m p : ℕ) (r : RoutineTree) → IsDistinct (routine_node r) → routine_name r ≡ m → PartsInOne (JoinedAt x m p) r
own_off x m p (tree.a_routine heading semicolon body last_semicolon) d e =
    off_body x m p body (λ h. d.2 m (subst (Has (heading_node heading)) e (name_has heading)) (inr (inl h)))

-- inside of those of a part, at a name of one of them
pub inside_each : (x : Looked) (m p : ℕ) (rs : RoutineTrees) (q : RoutineTree) → IsDistinct (routines_node rs) → Member q (routines_in rs)
    → routine_name q ≡ m → PartsInEach (JoinedAt x m p) rs
inside_each x m p tree.end_of_routines q d among e = tt
inside_each x m p (tree.more_routines r rest) q d (inl a) e =
    let here : routine_name r ≡ m = ap routine_name a ∙ e in
    (own_off x m p r d.0 here, off_each x m p rest (λ h. d.2 m (subst (Has (routine_node r)) here (routine_has r)) h))
inside_each x m p (tree.more_routines r rest) q d (inr a) e =
    (off_one x m p r (λ h. d.2 m h (subst (Has (routines_node rest)) e (member_has q rest a))), inside_each x m p rest q d.1 a e)

-- ---- the tables

-- each position that is put down for a forward heading is such
abbrev pub WellJoined : Looked → Known → Type 0
WellJoined x j = (m : ℕ) (function : Bool) (position : ℕ) → row_at j m ≡ Row.Part (PartRow.Forward function (Some position)) → AllJoined x m position

pub put_joined : (x : Looked) (j : Known) (m : ℕ) (r : Row)
    → ((function : Bool) (position : ℕ) → r ≡ Row.Part (PartRow.Forward function (Some position)) → AllJoined x m position) → WellJoined x j
    → WellJoined x (with_row j m r)
put_joined x j m r new s n function position e = elim (row_either j m n r) [
  | inl old ↦ s n function position (sym old ∙ e)
  | inr at ↦ subst (λ a. AllJoined x a position) (sym at.0) (new function position (sym at.1 ∙ e))
]

pub record Tables (x : Looked) (j : Known) : Type 0 where
  pub orderly : Orderly x.k x.t j
  pub joined : WellJoined x j

pub tables_last : (x : Looked) → Lasting NoRoutine (Tables x)
tables_last x = let c = orderly_lasts x.k x.t in record {
  puts = λ j m r quiet s. record {
    orderly = c.puts j m r quiet s.orderly;
    joined = put_joined x j m r (λ function position e. absurd (no_forward r function (Some position) quiet e)) s.joined;
  };
  stays = λ j m s. record {
    orderly = c.stays j m s.orderly;
    joined = put_joined x j m (row_at j m) (λ function position e. s.joined m function position e) s.joined;
  };
  bodies = λ j n r same s. record { orderly = c.bodies j n r same s.orderly; joined = s.joined };
  routines = λ j r s. record { orderly = c.routines j r s.orderly; joined = s.joined };
  frames = λ j f s. record { orderly = c.frames j f s.orderly; joined = s.joined };
  regions = λ j token f s. record { orderly = c.regions j token f s.orderly; joined = s.joined };
  defines = λ j region d at s. record { orderly = c.defines j region d at s.orderly; joined = s.joined };
  requires = λ j name d behind s. record { orderly = c.requires j name d behind s.orderly; joined = s.joined };
  chooses = λ j list value s. record { orderly = c.chooses j list value s.orderly; joined = s.joined };
  records = λ j word packed region cells variants fresh s. record {
    orderly = c.records j word packed region cells variants (record {
      before = fresh.before;
      held = fresh.held.orderly;
      opened = fresh.opened;
      there = fresh.there;
      none = fresh.none;
    }) s.orderly;
    joined = put_joined x j word (Row.Type (TypeRow.Record packed region cells variants))
        (λ function position e. absurd (no_record packed region cells variants e)) s.joined;
  };
  waits = λ j r g none s. absurd g;
  completes = λ j region first position r g e s. absurd g;
}

pub tables_all : (x : Looked) → Declaring NoRoutine (Tables x)
tables_all x = let c = orderly_all x.k x.t in record {
  kept = tables_last x;
  ends = λ j region d s. record { orderly = c.ends j region d s.orderly; joined = s.joined };
  declares = λ j region value token s. record { orderly = c.declares j region value token s.orderly; joined = s.joined };
  labels = λ j token value level s. record {
    orderly = c.labels j token value level s.orderly;
    joined = put_joined x j token (Row.Name (NameRow.Label false value level 0)) (λ function position e. absurd (no_name e)) s.joined;
  };
  heads = λ j name number region named few s. record {
    orderly = c.heads j name number region named few s.orderly;
    joined = put_joined x j name (Row.Name (NameRow.Routine false number region)) (λ function position e. absurd (no_name e)) s.joined;
  };
}
