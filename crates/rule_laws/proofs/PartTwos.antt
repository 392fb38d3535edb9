-- A part with procedures and functions breaks rule 2 at second names alone, and puts down for each forward heading the
-- position of its block.
use Rattle.std.proofs.Common.{◌&&◌, ◌++◌, ◌+◌, ◌||◌, ◌∙◌, ◌∷◌, ◌≡◌, ◌≤◌, [], ℕ, Bool, List, None, Option, Some, ap, arith, false, inl, inr, is_some, length}
use Rattle.std.proofs.Common.{map, min, nat_eq, not, refl, subst, sym, true}
use Rattle.std.proofs.lemmas.{Bool.eq-eqb, Bool.eqb-true, List.append-nil, List.append_assoc, List.length-append, Option.none-some, Option.same_Some}
use Rattle.pas_tree.specs.BlockTrees.{BlockTree, RoutineTree, RoutineTrees, routine_body, routine_heading}
use Rattle.pas_tree.specs.BlockTrees as tree
use Rattle.core_program.specs.declared.rows.{PartRow.PartRow, Row.Row}
use Rattle.check_steps.specs.{Known.Known, Known.name_at, Known.row_at, Known.with_row, Regions.defined_in, Steps.◌>>=◌, Steps.give, Steps.look}
use Rattle.check_steps.specs.declared.{breaks.Break.Break, regions.Definition.Definition, words.SpelledToken.SpelledToken}
use Rattle.denoter_checker.specs.{Formals.is_function, RoutineParts.have_blocks, RoutineParts.routine_name}
use Rattle.denoter_checker.specs.RoutineParts.{complete_or_define, completed_by, completing, define_each_routine, define_routine, define_routines, has_block}
use Rattle.rule_laws.proofs.{JoinedParts.put_joined, JoinedParts.second_named, LastsRoutineParts.completed, LastsRoutineParts.have_blocks-lasts}
use Rattle.rule_laws.proofs.{NameTurns.Region, NameTurns.Turn, NameTurns.named, SecondHeadings.has_turn, TextHeadings.IsOfText, TextHeadings.awaited}
use Rattle.rule_laws.proofs.{TextHeadings.completed_found, TextHeadings.spelled_as, TurnEnds.in_front, TurnEnds.other, TurnEnds.routine_ends}
use Rattle.rule_laws.proofs.Breaks.{Each, In, both, in_either, of_each}
use Rattle.rule_laws.proofs.JoinedParts.{AllJoined, JoinedAt, Looked, Member, Tables, WellJoined, at_position, first_member, first_named, member_left}
use Rattle.rule_laws.proofs.PartTurns.{Clean, Part, Stay, leaves, part_begun, seat_of, turn}
use Rattle.rule_laws.proofs.Seats.{AnyKind, ForwardKind, Nobody, Seat, SeatsIn, SomeAt, some_any}
use Rattle.rule_laws.proofs.SecondTurns.{Exact, Only, exact_completing, exact_defining, open_completed}
use Rattle.rule_laws.proofs.Telling.{Misses, completing-only, has_block-only, no_two, other_rule}
use Rattle.rule_laws.specs.{Laws.broken_at, OnlyLaws.IsNoSecondHeading, OnlyLaws.IsNoSecondIn, OnlyLaws.is_again, RegionNames.heading_names, TextLaws.has_name}
use Rattle.rule_laws.specs.ForwardHeadings.{have_one_name, is_named, is_second, routines_in}

-- ---- what the text says of a part

pub record PartOf (x : Looked) (all : RoutineTrees) : Type 0 where
  pub few : length (routines_in all) ≤ 4294967295
  pub one : (q r : RoutineTree) → Member q (routines_in all) → Member r (routines_in all) → routine_name q ≡ routine_name r → q ≡ r
  pub joined : (before : List RoutineTree) (s : RoutineTree) (after : List RoutineTree) → routines_in all ≡ before ++ s ∷ after
      → is_second x.k before s ≡ true → IsNoSecondIn x.k x.n (heading_names (routine_heading (first_named x.k before s))) (routine_body s)
  pub forward : (m position : ℕ) (q : RoutineTree) → Member q (routines_in all) → routine_name q ≡ m → JoinedAt x m position all
      → AllJoined x m position

-- ---- a part after some of its procedures and functions

-- the names of a region where nothing was defined, which is looked at from these tables on
pub record Begun (x : Looked) (i : Known) (region : ℕ) : Type 0 where
  pub words : i.words ≡ x.k.words
  pub empty : (name : ℕ) → defined_in i.regions region name ≡ None

abbrev pub place : Looked → Known → ℕ → Region
place x i region = record { k = i; region = region; t = x.n }

pub record Fold (x : Looked) (i : Known) (region : ℕ) (names : List ℕ) (done : List RoutineTree) (j : Known) : Type 0 where
  pub part : Part x.k x.t region names done j
  pub turn : Turn (place x i region) (names ++ map routine_name done) j
  pub exact : Exact x.k region names done j
  pub joined : WellJoined x j

nat_swap : (a b : ℕ) → nat_eq a b ≡ nat_eq b a
nat_swap a b = by (nat_eq a b) (nat_eq b a) refl refl
  where
    by : (p q : Bool) → nat_eq a b ≡ p → nat_eq b a ≡ q → nat_eq a b ≡ nat_eq b a
    by true true e f = e ∙ sym f
    by false false e f = e ∙ sym f
    by true false e f = absurd (let never : true ≡ false = sym (eq-eqb b a (sym (eqb-true a b e))) ∙ f in cc)
    by false true e f = absurd (let never : true ≡ false = sym (eq-eqb a b (sym (eqb-true b a f))) ∙ e in cc)

named_both : (k : Known) (xs ys : List ℕ) (n : ℕ) → named k (xs ++ ys) n ≡ (named k xs n || named k ys n)
named_both k [] ys n = refl
named_both k (x ∷ xs) ys n = ap (λ b. nat_eq n (name_at k x) || b) (named_both k xs ys n)
    ∙ assoc (nat_eq n (name_at k x)) (named k xs n) (named k ys n)
  where
    assoc : (a b c : Bool) → (a || (b || c)) ≡ ((a || b) || c)
    assoc true b c = refl
    assoc false b c = refl

named_heads : (k : Known) (done : List RoutineTree) (r : RoutineTree) → named k (map routine_name done) (name_at k (routine_name r)) ≡ is_named k done r
named_heads k [] r = refl
named_heads k (q ∷ qs) r =
    ap (λ b. b || named k (map routine_name qs) (name_at k (routine_name r))) (nat_swap (name_at k (routine_name r)) (name_at k (routine_name q)))
    ∙ ap (λ b. have_one_name k q r || b) (named_heads k qs r)

named_all : (x : Looked) (i : Known) (names : List ℕ) (done : List RoutineTree) (r : RoutineTree) → i.words ≡ x.k.words
    → named i (names ++ map routine_name done) (name_at x.k (routine_name r)) ≡ (has_name x.k names (routine_name r) || is_named x.k done r)
named_all x i names done r words =
    ap (λ (ws : List SpelledToken). named (record x.k { words = ws }) (names ++ map routine_name done) (name_at x.k (routine_name r))) words
    ∙ named_both x.k names (map routine_name done) (name_at x.k (routine_name r))
    ∙ ap (λ b. has_name x.k names (routine_name r) || b) (named_heads x.k done r)

-- what is defined is named
only : (x : Looked) (i : Known) (region : ℕ) (names : List ℕ) (done : List RoutineTree) (j : Known) → Begun x i region
    → Turn (place x i region) (names ++ map routine_name done) j → Only x.k region names done j
only x i region names done j begun t r d found =
    let n = name_at x.k (routine_name r) in
    sym (named_all x i names done r begun.words)
    ∙ ap (λ o. is_some o || named i (names ++ map routine_name done) n) (sym (begun.empty n))
    ∙ sym (t.names n) ∙ ap is_some found

-- ---- rule 2 at one of them

not_completing : (n region position : ℕ) (s : RoutineTree) (j : Known) (o : Option ℕ)
    → In (broken_at 2 n) (complete_or_define o region position (routine_heading s) (routine_body s) j).broken → o ≡ None
not_completing n region position s j None told = refl
not_completing n region position s j (Some first) told =
    absurd (of_each (Misses 2 n) (broken_at 2 n) (completing first position (routine_heading s) j).broken
    ((completing-only (no_two (n + 1) n (other n)) first position (routine_heading s)).of j) told refl)

told_none : (n region position : ℕ) (s : RoutineTree) (j : Known) → In (broken_at 2 n) (define_routine region position s j).broken
    → completed_by j region (routine_heading s) (routine_body s) ≡ None
unfolding define_routine look ◌>>=◌ give
told_none n region position s j told =
    let o = completed_by j region (routine_heading s) (routine_body s) in
    not_completing n region position s j o
    (in_front (broken_at 2 n) (complete_or_define o region position (routine_heading s) (routine_body s) j).broken told)

never : (a b c : Bool) → (a || (b && not c)) ≡ false → (a || b) ≡ true → (c ≡ true → a ≡ false → ⊥) → ⊥
never true b c e n h = let no : true ≡ false = e in cc
never false true true e n h = h refl refl
never false true false e n h = let no : true ≡ false = e in cc
never false false c e n h = let no : false ≡ true = n in cc

own_none : (x : Looked) (i : Known) (region position : ℕ) (names : List ℕ) (done : List RoutineTree) (s : RoutineTree) (j : Known) → Begun x i region
    → Fold x i region names done j → (routine_name s ≡ x.n → is_again x.k names done s ≡ false)
    → In (broken_at 2 x.n) (define_routine region position s j).broken → ⊥
own_none x i region position names done s j begun f heads told =
    let all = names ++ map routine_name done in
    let n = name_at i (routine_name s) in
    let here = (routine_ends (place x i region) all position s j f.turn).forth told in
    let held : named i all n ≡ true = ap (λ o. is_some o || named i all n) (sym (begun.empty n)) ∙ here.1 in
    let spelled = spelled_as x.k i (routine_name s) begun.words in
    let both : (has_name x.k names (routine_name s) || is_named x.k done s) ≡ true
    = sym (named_all x i names done s begun.words) ∙ ap (named i all) (sym spelled) ∙ held in
    let words = f.part.orderly.both.sound.words in
    never (has_name x.k names (routine_name s)) (is_named x.k done s) (is_second x.k done s) (heads here.0) both (λ second unnamed.
    none-some (routine_name (first_named x.k done s)) (sym (told_none x.n region position s j told)
    ∙ open_completed x.k region done j s words second (f.exact s second unnamed)))

-- ---- what is put down

waits_none : {function forward : Bool} {position : ℕ} → Row.Part (PartRow.Forward function None) ≡ Row.Part (PartRow.Forward forward (Some position)) → ⊥
waits_none e = cc

no_completing : {first position : ℕ} {function : Bool} → Row.Part (PartRow.Completing first) ≡ Row.Part (PartRow.Forward function (Some position)) → ⊥
no_completing e = cc

same_position : {f g : Bool} {p q : ℕ} → Row.Part (PartRow.Forward f (Some p)) ≡ Row.Part (PartRow.Forward g (Some q)) → p ≡ q
same_position e = cc

-- no other name of the region is that of one that is completed
unnamed : (k : Known) (t : BlockTree) (region : ℕ) (names : List ℕ) (done : List RoutineTree) (s : RoutineTree) (first : ℕ) (j : Known)
    → Part k t region names done j → completed_by j region (routine_heading s) (routine_body s) ≡ Some first → (b : Bool)
    → has_name k names (routine_name s) ≡ b → b ≡ false
unnamed k t region names done s first j p e false has = refl
unnamed k t region names done s first j p e true has =
    let old = p.old (name_at k (routine_name s)) has in
    let f = completed_found j region (routine_heading s) (routine_body s) first e in
    let waiting = awaited (is_function (routine_heading s)) (row_at j first) f.waiting in
    let some = some_any (ForwardKind k waiting.kind) first t (p.orderly.marked.forward first waiting.kind None waiting.is) in
    let spelled = spelled_as k j (routine_name s) p.orderly.both.sound.words in
    let same : old.d ≡ f.d = same_Some old.d f.d (sym old.is ∙ ap (defined_in j.regions region) (sym spelled) ∙ f.is) in
    absurd (old.apart (subst (λ n. SomeAt AnyKind n t) (sym (ap (λ (d : Definition). d.token) same ∙ f.token)) some))

joined_here : (x : Looked) (i : Known) (region : ℕ) (names : List ℕ) (all : RoutineTrees) (done : List RoutineTree) (s : RoutineTree)
    (after : List RoutineTree) (first : ℕ) (j : Known) → PartOf x all → routines_in all ≡ done ++ s ∷ after → Fold x i region names done j
    → completed_by j region (routine_heading s) (routine_body s) ≡ Some first → AllJoined x first (length done)
joined_here x i region names all done s after first j own same f e =
    let k = x.k in
    let q = first_named k done s in
    let second = f.part.second s first e in
    let free = unnamed k x.t region names done s first j f.part e (has_name k names (routine_name s)) refl in
    let at : first ≡ routine_name q = same_Some first (routine_name q) (sym e
    ∙ open_completed k region done j s f.part.orderly.both.sound.words second (f.exact s second free)) in
    let among : Member q (routines_in all) = subst (Member q) (sym same) (member_left q done (s ∷ after) (first_member k done s
    (second_named k done s second))) in
    own.forward first (length done) q among (sym at) (λ p c there here found.
    let one : q ≡ p = own.one q p among there (sym at ∙ sym here) in
    let other : s ≡ c = same_Some s c (sym (at_position all done s after same) ∙ found) in
    subst (λ (y : RoutineTree). IsNoSecondIn k x.n (heading_names (routine_heading y)) (routine_body c)) one
    (subst (λ (y : RoutineTree). IsNoSecondIn k x.n (heading_names (routine_heading q)) (routine_body y)) other (own.joined done s after same second)))

turn_joined : (x : Looked) (i : Known) (region position : ℕ) (names : List ℕ) (all : RoutineTrees) (done : List RoutineTree) (s : RoutineTree)
    (after : List RoutineTree) (j : Known) → PartOf x all → routines_in all ≡ done ++ s ∷ after → position ≡ length done → Fold x i region names done j
    → (o : Option ℕ) → completed_by j region (routine_heading s) (routine_body s) ≡ o
    → WellJoined x (complete_or_define o region position (routine_heading s) (routine_body s) j).known
turn_joined x i region position names all done s after j own same at f None e = λ m function p row.
    elim ((leaves x.k x.t region s j f.part.orderly.both).rows m) [
      | inl old ↦ f.joined m function p (sym old ∙ row)
      | inr new ↦ absurd (waits_none (sym new.row ∙ row))
    ]
turn_joined x i region position names all done s after j own same at f (Some first) e =
    let one = Row.Part (PartRow.Forward (is_function (routine_heading s)) (Some position)) in
    let here = joined_here x i region names all done s after first j own same f e in
    subst (WellJoined x) (sym (completed first position (routine_heading s) j))
    (put_joined x (with_row j first one) (routine_name s) (Row.Part (PartRow.Completing first)) (λ function p row. absurd (no_completing row))
    (put_joined x j first one (λ function p row. subst (AllJoined x first) (sym at ∙ same_position row) here) f.joined))

turn_exact : (x : Looked) (i : Known) (region position : ℕ) (names : List ℕ) (done : List RoutineTree) (s : RoutineTree) (j : Known) → Begun x i region
    → IsOfText x.k x.t s → Seat x.t done s → Fold x i region names done j → (o : Option ℕ)
    → completed_by j region (routine_heading s) (routine_body s) ≡ o
    → let e = (complete_or_define o region position (routine_heading s) (routine_body s) j).known in
    Stay region j e → Exact x.k region names (done ++ s ∷ []) e
turn_exact x i region position names done s j begun of seat f None e stay =
    exact_defining x.k x.t region names done s j of seat f.part (only x i region names done j begun f.turn) f.exact stay
turn_exact x i region position names done s j begun of seat f (Some first) e stay =
    subst (Exact x.k region names (done ++ s ∷ [])) (sym (completed first position (routine_heading s) j))
    (exact_completing x.k x.t region position names done s first j seat f.part f.exact e)

-- ---- one procedure or function

map_last : (done : List RoutineTree) (s : RoutineTree) → map routine_name (done ++ s ∷ []) ≡ map routine_name done ++ routine_name s ∷ []
map_last [] s = refl
map_last (q ∷ qs) s = ap (λ l. routine_name q ∷ l) (map_last qs s)

fold_turn : (x : Looked) (i : Known) (region position : ℕ) (names : List ℕ) (all : RoutineTrees) (done : List RoutineTree) (s : RoutineTree)
    (after : List RoutineTree) (j : Known) → Begun x i region → PartOf x all → routines_in all ≡ done ++ s ∷ after → position ≡ length done
    → IsOfText x.k x.t s → Seat x.t done s → Fold x i region names done j → Fold x i region names (done ++ s ∷ []) (define_routine region position s j).known
unfolding define_routine look ◌>>=◌ give
fold_turn x i region position names all done s after j begun own same at of seat f =
    let o = completed_by j region (routine_heading s) (routine_body s) in
    let e = (define_routine region position s j).known in
    let stay : Stay region j e = λ n d is. (has_turn region n d position s j (record { there = f.part.there; is = is })).is in
    let turned = (routine_ends (place x i region) (names ++ map routine_name done) position s j f.turn).turn in
    let listed : (names ++ map routine_name done) ++ routine_name s ∷ [] ≡ names ++ map routine_name (done ++ s ∷ [])
    = append_assoc names (map routine_name done) (routine_name s ∷ []) ∙ ap (λ l. names ++ l) (sym (map_last done s)) in
    record {
      part = turn x.k x.t region position names done s j of seat f.part;
      turn = subst (λ l. Turn (place x i region) l e) listed turned;
      exact = turn_exact x i region position names done s j begun of seat f o refl stay;
      joined = turn_joined x i region position names all done s after j own same at f o refl;
    }

next_position : (region position : ℕ) (s : RoutineTree) (j : Known) → (define_routine region position s j).value ≡ min (position + 1) 4294967295
unfolding define_routine look ◌>>=◌ give
next_position region position s j = refl

-- ---- a part

-- what steps come to: the tables, and that rule 2 is not broken at the token
pub record Comes (x : Looked) (i : Known) (bs : List Break) : Type 0 where
  pub tables : Tables x i
  pub none : In (broken_at 2 x.n) bs → ⊥

more_done : (done : List RoutineTree) (s : RoutineTree) (after : List RoutineTree) → done ++ s ∷ after ≡ (done ++ s ∷ []) ++ after
more_done done s after = sym (append_assoc done (s ∷ []) after)

each_come : (x : Looked) (i : Known) (region position : ℕ) (names : List ℕ) (all : RoutineTrees) (done : List RoutineTree) (rs : RoutineTrees) (j : Known)
    → Begun x i region → PartOf x all → IsNoSecondHeading x.k x.n names (routines_in all) → routines_in all ≡ done ++ routines_in rs
    → position ≡ length done → Each (IsOfText x.k x.t) (routines_in rs) → SeatsIn x.t done rs → Fold x i region names done j
    → let d = define_each_routine region position rs j in Comes x d.known d.broken
unfolding ◌>>=◌ give
each_come x i region position names all done tree.end_of_routines j begun own heads same at of seats f =
    record { tables = record { orderly = f.part.orderly; joined = f.joined }; none = λ told. told }
each_come x i region position names all done (tree.more_routines s rest) j begun own heads same at of seats f =
    let b = broken_at 2 x.n in
    let d = define_routine region position s j in
    let after = routines_in rest in
    let more = fold_turn x i region position names all done s after j begun own same at of.0 (seat_of x.t done s seats.0) f in
    let few = own.few in
    let sizes = ap (λ (l : List RoutineTree). length l) same in
    let long = length-append done (s ∷ after) in
    let longer = length-append done (s ∷ []) in
    let value = next_position region position s j in
    let next : d.value ≡ length (done ++ s ∷ []) = omega (arith, few, sizes, long, longer, value, at) in
    let rest_comes = each_come x i region d.value names all (done ++ s ∷ []) rest d.known begun own heads (same ∙ more_done done s after) next of.1 seats.1
    more in
    record {
      tables = rest_comes.tables;
      none = λ told. elim (in_either b d.broken (define_each_routine region d.value rest d.known).broken told) [
        | inl here ↦ own_none x i region position names done s j begun f (λ e. heads done s after same e) here
        | inr later ↦ rest_comes.none later
      ];
    }

blocks_none : (n : ℕ) (rs : RoutineTrees) (j : Known) → Each (Misses 2 n) (have_blocks rs j).broken
unfolding ◌>>=◌ give
blocks_none n tree.end_of_routines j = tt
blocks_none n (tree.more_routines r rest) j = both (Misses 2 n) (has_block r j).broken (have_blocks rest (has_block r j).known).broken
    ((has_block-only {P = Misses 2 n} r (other_rule 8 (routine_name r) 2 n (λ e. omega (arith, e)))).of j) (blocks_none n rest (has_block r j).known)

pub part_comes : (x : Looked) (i : Known) (region : ℕ) (names : List ℕ) (rs : RoutineTrees) (j : Known) → Begun x i region → PartOf x rs
    → IsNoSecondHeading x.k x.n names (routines_in rs) → Each (IsOfText x.k x.t) (routines_in rs) → SeatsIn x.t [] rs → Each (Nobody x.t) names
    → Turn (place x i region) names j → Tables x j → let d = define_routines region rs j in Comes x d.known d.broken
unfolding ◌>>=◌
part_comes x i region names rs j begun own heads of seats nobody turned s =
    let b = broken_at 2 x.n in
    let clean : Clean x.t region i = λ n d found. absurd (none-some d (sym (begun.empty n) ∙ found)) in
    let f : Fold x i region names [] j = record {
      part = part_begun x.k x.t (place x i region) names j begun.words clean nobody turned s.orderly;
      turn = subst (λ l. Turn (place x i region) l j) (sym (append-nil names)) turned;
      exact = λ r second free. absurd (let no : false ≡ true = second in cc);
      joined = s.joined;
    } in
    let c = each_come x i region 0 names rs [] rs j begun own heads refl refl of seats f in
    let d = define_each_routine region 0 rs j in
    let e = have_blocks rs d.known in
    record {
      tables = (have_blocks-lasts {I = Tables x} rs).of d.known c.tables;
      none = λ told. elim (in_either b d.broken e.broken told) [
        | inl early ↦ c.none early
        | inr late ↦ of_each (Misses 2 x.n) b e.broken (blocks_none x.n rs d.known) late refl
      ];
    }
