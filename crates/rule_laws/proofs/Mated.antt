-- The headings of a part that find one another, as the names of its procedures and functions are defined.
use Rattle.std.proofs.Common.{if◌then◌else◌, ◌++◌, ◌+◌, ◌<◌, ◌||◌, ◌∙◌, ◌∷◌, ◌≡◌, ◌≤◌, ◌⊎◌, [], ℕ, Bool, List, None, Option, Some, ap, arith, false, inl, inr}
use Rattle.std.proofs.Common.{is_some, length, length-set, map, min, nat_eq, refl, subst, sym, true}
use Rattle.std.proofs.Math.Nat.{min-eq_left}
use Rattle.std.proofs.lemmas.{Bool.eq-eqb, Bool.eqb-true, List.append-nil, List.append_assoc, List.length-append}
use Rattle.pas_tree.specs.BlockTrees.{BlockTree, RoutineTree, RoutineTrees, routine_body, routine_heading}
use Rattle.pas_tree.specs.BlockTrees as tree
use Rattle.core_program.specs.declared.rows.{PartRow.PartRow, Row.Row}
use Rattle.check_steps.specs.{Known.Known, Known.row_at, Known.with_row, Regions.defined_in, Steps.◌>>=◌, Steps.give, Steps.look, declared.breaks.Break.Break}
use Rattle.denoter_checker.specs.Formals.{is_function}
use Rattle.denoter_checker.specs.RoutineParts.{complete_or_define, completed_by, define_each_routine, define_routine, defining, routine_name}
use Rattle.rule_laws.proofs.{Breaks.Each, Breaks.In, Breaks.in_left, Breaks.in_right, Lasting.with_completion, LastsRoutineParts.completed, Listed.Listed}
use Rattle.rule_laws.proofs.{Paired.paired, Tables.row_beside, Tables.row_put, TextForwards.Apart, TextRoutines.defining_here}
use Rattle.rule_laws.proofs.PartTurns.{Part, leaves, listed_done, listed_last, seat_of, turn}
use Rattle.rule_laws.proofs.Seats.{AnyKind, ForwardKind, Seat, SeatsIn, SomeAt, some_any}
use Rattle.rule_laws.proofs.TextHeadings.{IsOfText, awaited, completed_found, completion_sound, spelled_as}
use Rattle.rule_laws.specs.{ForwardHeadings.have_one_name, ForwardHeadings.is_named, ForwardHeadings.is_second, ForwardHeadings.routines_in, Laws.broken_at}

-- ---- what rows of headings say of one another

-- one before some, whose row says that its block comes after these
pub record Mate (earlier : List RoutineTree) (first : ℕ) (j : Known) : Type 0 where
  pub listed : Listed (map routine_name earlier) first
  pub function : Bool
  pub row : paired (row_at j first) ≡ Row.Part (PartRow.Forward function (Some (length earlier)))

-- and the one at that position, whose row says that its heading is that one
pub record Block (all : List RoutineTree) (n position : ℕ) (j : Known) : Type 0 where
  pub earlier : List RoutineTree
  pub r : RoutineTree
  pub later : List RoutineTree
  pub one : all ≡ earlier ++ r ∷ later
  pub at : length earlier ≡ position
  pub row : paired (row_at j (routine_name r)) ≡ Row.Part (PartRow.Completing n)

-- a heading that completes another
pub record Completes (j : Known) (n : ℕ) : Type 0 where
  pub first : ℕ
  pub row : paired (row_at j n) ≡ Row.Part (PartRow.Completing first)

-- So it is with all of some. One that has the block of an earlier one completes it, or rule 2 is told at its name.
pub record Mates (k : Known) (Told : Break → Type 0) (all : List RoutineTree) (j : Known) : Type 0 where
  pub mates : (earlier : List RoutineTree) (r : RoutineTree) (later : List RoutineTree) (first : ℕ) → all ≡ earlier ++ r ∷ later
      → paired (row_at j (routine_name r)) ≡ Row.Part (PartRow.Completing first) → Mate earlier first j
  pub blocks : (n position : ℕ) (function : Bool) → Listed (map routine_name all) n
      → paired (row_at j n) ≡ Row.Part (PartRow.Forward function (Some position)) → Block all n position j
  pub again : (earlier : List RoutineTree) (r : RoutineTree) (later : List RoutineTree) → all ≡ earlier ++ r ∷ later → is_second k earlier r ≡ true
      → Completes j (routine_name r) ⊎ Told (broken_at 2 (routine_name r))

-- ---- lists of them

listed_at : (earlier : List RoutineTree) (r : RoutineTree) (later : List RoutineTree) → Listed (map routine_name (earlier ++ r ∷ later)) (routine_name r)
listed_at [] r later = inl refl
listed_at (q ∷ qs) r later = inr (listed_at qs r later)

pub listed_one : (all earlier : List RoutineTree) (r : RoutineTree) (later : List RoutineTree) → all ≡ earlier ++ r ∷ later
    → Listed (map routine_name all) (routine_name r)
listed_one all earlier r later e = subst (λ rs. Listed (map routine_name rs) (routine_name r)) (sym e) (listed_at earlier r later)

listed_before : (earlier more : List RoutineTree) (n : ℕ) → Listed (map routine_name earlier) n → Listed (map routine_name (earlier ++ more)) n
listed_before [] more n h = absurd h
listed_before (q ∷ qs) more n (inl e) = inl e
listed_before (q ∷ qs) more n (inr h) = inr (listed_before qs more n h)

pub listed_earlier : (all earlier more : List RoutineTree) (n : ℕ) → all ≡ earlier ++ more → Listed (map routine_name earlier) n
    → Listed (map routine_name all) n
listed_earlier all earlier more n e h = subst (λ rs. Listed (map routine_name rs) n) (sym e) (listed_before earlier more n h)

each_off : (rs : List RoutineTree) (n m : ℕ) → Each (λ (s : RoutineTree). routine_name s ≡ m → ⊥) rs → n ≡ m → Listed (map routine_name rs) n → ⊥
each_off [] n m off e h = h
each_off (q ∷ qs) n m off e (inl same) = off.0 (same ∙ e)
each_off (q ∷ qs) n m off e (inr h) = each_off qs n m off.1 e h

each_end : (xs ys : List RoutineTree) (m : ℕ) → Each (λ (s : RoutineTree). routine_name s ≡ m → ⊥) (xs ++ ys)
    → Each (λ (s : RoutineTree). routine_name s ≡ m → ⊥) ys
each_end [] ys m off = off
each_end (x ∷ xs) ys m off = each_end xs ys m off.1

pub apart_parts : (xs ys : List RoutineTree) → Apart (xs ++ ys) → (n : ℕ) → Listed (map routine_name xs) n → Listed (map routine_name ys) n → ⊥
apart_parts [] ys a n h i = h
apart_parts (x ∷ xs) ys a n (inl e) i = each_off ys n (routine_name x) (each_end xs ys (routine_name x) a.0) (sym e) i
apart_parts (x ∷ xs) ys a n (inr h) i = apart_parts xs ys a.1 n h i

-- a part of a list with one more at its end
record IsBefore (done : List RoutineTree) (s : RoutineTree) (earlier : List RoutineTree) (r : RoutineTree) : Type 0 where
  later : List RoutineTree
  one : done ≡ earlier ++ r ∷ later

record IsLast (done : List RoutineTree) (s : RoutineTree) (earlier : List RoutineTree) (r : RoutineTree) : Type 0 where
  before : earlier ≡ done
  same : r ≡ s

split_last : (done : List RoutineTree) (s : RoutineTree) (earlier : List RoutineTree) (r : RoutineTree) (later : List RoutineTree)
    → done ++ s ∷ [] ≡ earlier ++ r ∷ later
    → IsBefore done s earlier r ⊎ IsLast done s earlier r
split_last [] s [] r later e = inr (record { before = refl; same = cc })
split_last [] s (y ∷ ys) r later e = absurd (nothing ys r later cc)
  where
    nothing : (ys : List RoutineTree) (r : RoutineTree) (later : List RoutineTree) → [] ≡ ys ++ r ∷ later → ⊥
    nothing [] r later e = cc
    nothing (y ∷ ys) r later e = cc
split_last (x ∷ xs) s [] r later e = let at : x ≡ r = cc in inl (record { later = xs; one = ap (λ q. q ∷ xs) at })
split_last (x ∷ xs) s (y ∷ ys) r later e =
    let at : x ≡ y = cc in
    let rest : xs ++ s ∷ [] ≡ ys ++ r ∷ later = cc in
    elim (split_last xs s ys r later rest) [
      | inl b ↦ inl (record { later = b.later; one = ap (λ q. q ∷ xs) at ∙ ap (λ l. y ∷ l) b.one })
      | inr l ↦ inr (record { before = ap (λ q. q ∷ ys) (sym at) ∙ ap (λ q. x ∷ q) l.before; same = l.same })
    ]

-- ---- they are as before where rows are

pub mates_same : (k : Known) (Told : Break → Type 0) (all : List RoutineTree) (j i : Known)
    → ((n : ℕ) → Listed (map routine_name all) n → paired (row_at i n) ≡ paired (row_at j n)) → Mates k Told all j → Mates k Told all i
mates_same k Told all j i same s = record {
  mates = λ earlier r later first e row.
      let m = s.mates earlier r later first e (sym (same (routine_name r) (listed_one all earlier r later e)) ∙ row) in
      record { listed = m.listed; function = m.function; row = same first (listed_earlier all earlier (r ∷ later) first e m.listed) ∙ m.row };
  blocks = λ n position function listed row.
      let b = s.blocks n position function listed (sym (same n listed) ∙ row) in
      record {
        earlier = b.earlier;
        r = b.r;
        later = b.later;
        one = b.one;
        at = b.at;
        row = same (routine_name b.r) (listed_one all b.earlier b.r b.later b.one) ∙ b.row;
      };
  again = λ earlier r later e second. elim (s.again earlier r later e second) [
    | inl c ↦ inl (record { first = c.first; row = same (routine_name r) (listed_one all earlier r later e) ∙ c.row })
    | inr told ↦ inr told
  ];
}

-- ---- one more of them

pub no_mark : {r : PartRow} → Row.Nothing ≡ Row.Part r → ⊥
no_mark e = cc

pub no_both : {function : Bool} {position : Option ℕ} {first : ℕ} → Row.Part (PartRow.Forward function position) ≡ Row.Part (PartRow.Completing first) → ⊥
no_both e = cc

pub same_first : {a b : ℕ} → Row.Part (PartRow.Completing a) ≡ Row.Part (PartRow.Completing b) → a ≡ b
same_first e = cc

pub same_place : {f g : Bool} {a b : ℕ} → Row.Part (PartRow.Forward f (Some a)) ≡ Row.Part (PartRow.Forward g (Some b)) → a ≡ b
same_place e = cc

-- one that completes none
one_alone : (k : Known) (Told : Break → Type 0) (done : List RoutineTree) (s : RoutineTree) (j i : Known) → Mates k Told done j
    → ((n : ℕ) → paired (row_at i n) ≡ paired (row_at j n)) → paired (row_at j (routine_name s)) ≡ Row.Nothing
    → (is_second k done s ≡ true → Told (broken_at 2 (routine_name s))) → Mates k Told (done ++ s ∷ []) i
one_alone k Told done s j i old same blank told =
    let m = mates_same k Told done j i (λ n listed. same n) old in
    let none : paired (row_at i (routine_name s)) ≡ Row.Nothing = same (routine_name s) ∙ blank in
    record {
      mates = λ earlier r later first e row. elim (split_last done s earlier r later e) [
        | inl b ↦ m.mates earlier r b.later first b.one row
        | inr l ↦ absurd (no_mark (sym none ∙ ap (λ q. paired (row_at i (routine_name q))) (sym l.same) ∙ row))
      ];
      blocks = λ n position function listed row. elim (listed_last done s n listed) [
        | inl before ↦
            let b = m.blocks n position function before row in
            record {
              earlier = b.earlier;
              r = b.r;
              later = b.later ++ s ∷ [];
              one = ap (λ l. l ++ s ∷ []) b.one ∙ append_assoc b.earlier (b.r ∷ b.later) (s ∷ []);
              at = b.at;
              row = b.row;
            }
        | inr own ↦ absurd (no_mark (sym none ∙ ap (λ x. paired (row_at i x)) own ∙ row))
      ];
      again = λ earlier r later e second. elim (split_last done s earlier r later e) [
        | inl b ↦ m.again earlier r b.later b.one second
        | inr l ↦ inr (subst (λ q. Told (broken_at 2 (routine_name q))) (sym l.same)
            (told (subst (λ q. is_second k done q ≡ true) l.same (subst (λ b. is_second k b r ≡ true) l.before second))))
      ];
    }

-- the rows of one that completes another before it
record Joins (done : List RoutineTree) (s : RoutineTree) (first : ℕ) (j i : Known) : Type 0 where
  function : Bool
  own : paired (row_at i (routine_name s)) ≡ Row.Part (PartRow.Completing first)
  other : paired (row_at i first) ≡ Row.Part (PartRow.Forward function (Some (length done)))
  rest : (n : ℕ) → (n ≡ routine_name s → ⊥) → (n ≡ first → ⊥) → paired (row_at i n) ≡ paired (row_at j n)
  listed : Listed (map routine_name done) first
  was : paired (row_at j first) ≡ Row.Nothing

pub is_or : (n m : ℕ) → (n ≡ m) ⊎ (n ≡ m → ⊥)
is_or n m = by (nat_eq n m) refl
  where
    by : (b : Bool) → nat_eq n m ≡ b → (n ≡ m) ⊎ (n ≡ m → ⊥)
    by true e = inl (eqb-true n m e)
    by false e = inr (λ same. let never : true ≡ false = sym (eq-eqb n m same) ∙ e in cc)

one_joined : (k : Known) (Told : Break → Type 0) (done : List RoutineTree) (s : RoutineTree) (first : ℕ) (j i : Known) → Mates k Told done j
    → (Listed (map routine_name done) (routine_name s) → ⊥) → Joins done s first j i → Mates k Told (done ++ s ∷ []) i
one_joined k Told done s first j i old fresh c =
    let name = routine_name s in
    let apart : (n : ℕ) → Listed (map routine_name done) n → n ≡ name → ⊥ = λ n listed e. fresh (subst (Listed (map routine_name done)) e listed) in
    let marked : (n : ℕ) (r : PartRow) → Listed (map routine_name done) n → paired (row_at j n) ≡ Row.Part r → paired (row_at i n) ≡ Row.Part r
    = λ n r listed row. c.rest n (apart n listed) (λ e. no_mark (sym c.was ∙ ap (λ x. paired (row_at j x)) (sym e) ∙ row)) ∙ row in
    record {
      mates = λ earlier r later at e row. elim (split_last done s earlier r later e) [
        | inl b ↦
            let here = listed_one done earlier r b.later b.one in
            let other : routine_name r ≡ first → ⊥ = λ same. no_both (sym c.other ∙ ap (λ x. paired (row_at i x)) (sym same) ∙ row) in
            let m = old.mates earlier r b.later at b.one (sym (c.rest (routine_name r) (apart (routine_name r) here) other) ∙ row) in
            record {
              listed = m.listed;
              function = m.function;
              row = marked at (PartRow.Forward m.function (Some (length earlier))) (listed_earlier done earlier (r ∷ b.later) at b.one m.listed) m.row;
            }
        | inr l ↦
            let same : first ≡ at = same_first (sym c.own ∙ ap (λ q. paired (row_at i (routine_name q))) (sym l.same) ∙ row) in
            record {
              listed = subst (λ b. Listed (map routine_name b) at) (sym l.before) (subst (Listed (map routine_name done)) same c.listed);
              function = c.function;
              row = ap (λ x. paired (row_at i x)) (sym same) ∙ c.other ∙ ap (λ b. Row.Part (PartRow.Forward c.function (Some (length b)))) (sym l.before);
            }
      ];
      blocks = λ n position function listed row. elim (listed_last done s n listed) [
        | inl before ↦ elim (is_or n first) [
          | inl same ↦ record {
            earlier = done;
            r = s;
            later = [];
            one = refl;
            at = same_place (sym c.other ∙ ap (λ x. paired (row_at i x)) (sym same) ∙ row);
            row = c.own ∙ ap (λ x. Row.Part (PartRow.Completing x)) (sym same);
          }
          | inr other ↦
              let b = old.blocks n position function before (sym (c.rest n (apart n before) other) ∙ row) in
              record {
                earlier = b.earlier;
                r = b.r;
                later = b.later ++ s ∷ [];
                one = ap (λ l. l ++ s ∷ []) b.one ∙ append_assoc b.earlier (b.r ∷ b.later) (s ∷ []);
                at = b.at;
                row = marked (routine_name b.r) (PartRow.Completing n) (listed_one done b.earlier b.r b.later b.one) b.row;
              }
        ]
        | inr own ↦ absurd (no_both (sym row ∙ ap (λ x. paired (row_at i x)) (sym own) ∙ c.own))
      ];
      again = λ earlier r later e second. elim (split_last done s earlier r later e) [
        | inl b ↦ elim (old.again earlier r b.later b.one second) [
          | inl x ↦ inl (record { first = x.first; row = marked (routine_name r) (PartRow.Completing x.first) (listed_one done earlier r b.later b.one) x.row })
          | inr told ↦ inr told
        ]
        | inr l ↦ inl (record { first = first; row = ap (λ q. paired (row_at i (routine_name q))) l.same ∙ c.own })
      ];
    }

-- ---- their turns

pub record Turned (k : Known) (Told : Break → Type 0) (all : List RoutineTree) (j i : Known) : Type 0 where
  pub mates : Mates k Told all i
  pub off : (n : ℕ) → (Listed (map routine_name all) n → ⊥) → paired (row_at i n) ≡ paired (row_at j n)

second_named : (k : Known) (done : List RoutineTree) (r : RoutineTree) → is_second k done r ≡ true → is_named k done r ≡ true
second_named k [] r e = e
second_named k (q ∷ qs) r e = by (have_one_name k q r) _ (is_second k qs r) (is_named k qs r) (second_named k qs r) e
  where
    by : (b c d n : Bool) → (d ≡ true → n ≡ true) → (if b then c else d) ≡ true → (b || n) ≡ true
    by true c d n f e = refl
    by false c d n f e = f e

turn_by : (k : Known) (t : BlockTree) (Told : Break → Type 0) (region position : ℕ) (names : List ℕ) (done : List RoutineTree) (s : RoutineTree) (j : Known)
    → IsOfText k t s → Seat t done s → Part k t region names done j → position ≡ length done → Mates k Told done j
    → paired (row_at j (routine_name s)) ≡ Row.Nothing → (o : Option ℕ) → completed_by j region (routine_heading s) (routine_body s) ≡ o
    → let d = complete_or_define o region position (routine_heading s) (routine_body s) j in
    ((b : Break) → In b d.broken → Told b) → Turned k Told (done ++ s ∷ []) j d.known
turn_by k t Told region position names done s j of seat p place old blank None e w =
    let i = (defining region (routine_heading s) (routine_body s) j).known in
    let l = leaves k t region s j p.orderly.both in
    let same : (n : ℕ) → paired (row_at i n) ≡ paired (row_at j n) = λ n. elim (l.rows n) [
      | inl old ↦ ap paired old
      | inr new ↦ ap paired new.row ∙ sym (ap (λ x. paired (row_at j x)) new.at ∙ blank)
    ] in
    record {
      mates = one_alone k Told done s j i old same blank (λ second. w (broken_at 2 (routine_name s))
          ((defining_here region s j p.there).told
          (ap (λ n. is_some (defined_in j.regions region n)) (spelled_as k j (routine_name s) p.orderly.both.sound.words)
          ∙ p.heads s (second_named k done s second))));
      off = λ n out. same n;
    }
turn_by k t Told region position names done s j of seat p place old blank (Some first) e w =
    let function = is_function (routine_heading s) in
    let name = routine_name s in
    let settled = Row.Part (PartRow.Forward function (Some position)) in
    let x = with_row j first settled in
    let i = with_completion j first position function name in
    let f = completed_found j region (routine_heading s) (routine_body s) first e in
    let waiting = awaited function (row_at j first) f.waiting in
    let some = some_any (ForwardKind k waiting.kind) first t (p.orderly.marked.forward first waiting.kind None waiting.is) in
    let listed : Listed (map routine_name done) first = elim (p.tokens (_) f.d f.is) [
      | inl nobody ↦ absurd (nobody (subst (λ n. SomeAt AnyKind n t) (sym f.token) some))
      | inr h ↦ subst (Listed (map routine_name done)) f.token h
    ] in
    let apart : first ≡ name → ⊥ = λ same. seat.fresh (subst (Listed (map routine_name done)) same listed) in
    let room = p.orderly.both.roomy.room in
    let below : first < length j.program.rows = (
    let spelled = (completion_sound k t j region first s e p.orderly.both.sound).forward.spelled in
    omega (arith, spelled, room)) in
    let own_below : name < length x.program.rows
    = subst (λ size. name < size) (sym (length-set j.program.rows first settled)) (let spelled = of.spelled in omega (arith, spelled, room)) in
    let c : Joins done s first j i = record {
      function = function;
      own = ap paired (row_put x name (Row.Part (PartRow.Completing first)) own_below);
      other = ap paired (row_beside x name first (Row.Part (PartRow.Completing first)) apart ∙ row_put j first settled below)
          ∙ ap (λ m. Row.Part (PartRow.Forward function (Some m))) place;
      rest = λ n out other. ap paired (row_beside x name n (Row.Part (PartRow.Completing first)) out ∙ row_beside j first n settled other);
      listed = listed;
      was = ap paired waiting.is;
    } in
    subst (Turned k Told (done ++ s ∷ []) j) (sym (completed first position (routine_heading s) j)) (record {
      mates = one_joined k Told done s first j i old seat.fresh c;
      off = λ n out. c.rest n (λ same. out (subst (Listed (map routine_name (done ++ s ∷ []))) (sym same) (listed_one (done ++ s ∷ []) done s [] refl)))
          (λ same. out (subst (Listed (map routine_name (done ++ s ∷ []))) (sym same) (listed_done done s first listed)));
    })

turn_mates : (k : Known) (t : BlockTree) (Told : Break → Type 0) (region position : ℕ) (names : List ℕ) (done : List RoutineTree) (s : RoutineTree)
    (j : Known)
    → IsOfText k t s → Seat t done s → Part k t region names done j → position ≡ length done → Mates k Told done j
    → paired (row_at j (routine_name s)) ≡ Row.Nothing
    → let d = define_routine region position s j in
    ((b : Break) → In b d.broken → Told b) → Turned k Told (done ++ s ∷ []) j d.known
unfolding define_routine look ◌>>=◌ give
turn_mates k t Told region position names done s j of seat p place old blank w =
    let o = completed_by j region (routine_heading s) (routine_body s) in
    turn_by k t Told region position names done s j of seat p place old blank o refl (λ b here.
    w b (in_left b (complete_or_define o region position (routine_heading s) (routine_body s) j).broken [] here))

next_place : (done : List RoutineTree) (s : RoutineTree) (more : List RoutineTree) (position : ℕ) → position ≡ length done
    → length (done ++ s ∷ more) ≤ 4294967295 → min (position + 1) 4294967295 ≡ length (done ++ s ∷ [])
next_place done s more position place few =
    let all = length-append done (s ∷ more) in
    let next = length-append done (s ∷ []) in
    let below : position + 1 ≤ 4294967295 = by place few all in
    min-eq_left below ∙ omega (arith, place, next)
  where
    by : position ≡ length done → length (done ++ s ∷ more) ≤ 4294967295 → length (done ++ s ∷ more) ≡ length done + length (s ∷ more)
        → position + 1 ≤ 4294967295
    by place few all = omega (arith, place, few, all)

pub each_mates : (k : Known) (t : BlockTree) (Told : Break → Type 0) (region position : ℕ) (names : List ℕ) (done : List RoutineTree) (rs : RoutineTrees)
    (j : Known)
    → Each (IsOfText k t) (routines_in rs) → SeatsIn t done rs → Part k t region names done j → position ≡ length done → Mates k Told done j
    → length (done ++ routines_in rs) ≤ 4294967295 → Apart (done ++ routines_in rs)
    → ((n : ℕ) → Listed (map routine_name (routines_in rs)) n → paired (row_at j n) ≡ Row.Nothing)
    → let d = define_each_routine region position rs j in
    ((b : Break) → In b d.broken → Told b) → Turned k Told (done ++ routines_in rs) j d.known
unfolding ◌>>=◌ give define_routine look
each_mates k t Told region position names done tree.end_of_routines j all seats p place old few apart blank w =
    subst (λ l. Turned k Told l j j) (sym (append-nil done)) (record { mates = old; off = λ n out. refl })
each_mates k t Told region position names done (tree.more_routines r rest) j all seats p place old few apart blank w =
    let d = define_routine region position r j in
    let e = define_each_routine region d.value rest d.known in
    let seat = seat_of t done r seats.0 in
    let listed : (done ++ r ∷ []) ++ routines_in rest ≡ done ++ r ∷ routines_in rest = append_assoc done (r ∷ []) (routines_in rest) in
    let one = turn_mates k t Told region position names done r j all.0 seat p place old (blank (routine_name r) (inl refl))
    (λ b here. w b (in_left b d.broken e.broken here)) in
    let apart_next : Apart ((done ++ r ∷ []) ++ routines_in rest) = subst Apart (sym listed) apart in
    let more = each_mates k t Told region d.value names (done ++ r ∷ []) rest d.known all.1 seats.1
    (turn k t region position names done r j all.0 seat p) (next_place done r (routines_in rest) position place few) one.mates
    (subst (λ l. length l ≤ 4294967295) (sym listed) few) apart_next
    (λ n h. one.off n (λ l. apart_parts (done ++ r ∷ []) (routines_in rest) apart_next n l h) ∙ blank n (inr h))
    (λ b here. w b (in_right b d.broken e.broken here)) in
    subst (λ l. Turned k Told l j e.known) listed (record {
      mates = more.mates;
      off = λ n out. more.off n out ∙ one.off n (λ l. out (listed_earlier ((done ++ r ∷ []) ++ routines_in rest) (done ++ r ∷ []) (routines_in rest) n refl l));
    })
