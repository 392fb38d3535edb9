-- The procedures and functions of a text's part in turn: which forward headings wait for their blocks.
use Rattle.std.proofs.Common.{if◌then◌else◌, ◌&&◌, ◌++◌, ◌||◌, ◌∙◌, ◌∷◌, ◌≡◌, ◌⊎◌, [], ℕ, Bool, List, None, Option, Some, ap, false, inl, inr, is_some, map}
use Rattle.std.proofs.Common.{nat_eq, not, refl, subst, sym, true}
use Rattle.std.proofs.lemmas.Bool.{eq-eqb, eqb-true}
use Rattle.pas_tree.specs.BlockTrees.{BlockTree, RoutineTree, routine_body, routine_heading}
use Rattle.core_program.specs.declared.rows.{PartRow.PartRow, Row.Row}
use Rattle.check_steps.specs.{Known.Known, Known.name_at, Known.row_at, Known.with_row, Regions.defined_in, declared.regions.Definition.Definition}
use Rattle.denoter_checker.specs.{Formals.is_function, RoutineParts.awaits, RoutineParts.completed_by, RoutineParts.defining, RoutineParts.routine_name}
use Rattle.rule_laws.proofs.{Faces.row_either, JoinedParts.Member, JoinedParts.first_member, JoinedParts.first_named, Lasting.with_completion, Listed.Listed}
use Rattle.rule_laws.proofs.{PartWalk.no_forward_block, Seats.Seat, TextForwards.completing_has, TextForwards.defining_waits, TextForwards.found_block}
use Rattle.rule_laws.proofs.{TextHeadings.IsOfText, TextHeadings.spelled_as, TextRoutines.defining_here, Touches.any-last}
use Rattle.rule_laws.proofs.PartTurns.{Leaves, Part, Stay, both_three, found_back, leaves}
use Rattle.rule_laws.specs.ForwardHeadings.{are_completing, completes, has_forward, have_one_name, is_block, is_named, is_second, same_kind}
use Rattle.rule_laws.specs.TextLaws.{has_name}

-- ---- the first of a name, after one more

-- one that has the block of one among these, which another comes after
record Before (k : Known) (done : List RoutineTree) (s r : RoutineTree) : Type 0 where
  named : is_named k done r ≡ true
  second : is_second k done r ≡ true
  other : completes k (first_named k done r) s ≡ false
  same : first_named k (done ++ s ∷ []) r ≡ first_named k done r

-- or of this other
record Last (k : Known) (done : List RoutineTree) (s r : RoutineTree) : Type 0 where
  none : is_named k done r ≡ false
  one : have_one_name k s r ≡ true
  forward : has_forward k (routine_body s) ≡ true
  same : first_named k (done ++ s ∷ []) r ≡ s

four_true : (f c a m : Bool) → (f && (c && not (a || m))) ≡ true → (f ≡ true) × (c ≡ true) × (a ≡ false) × (m ≡ false)
four_true true true false false e = (refl, refl, refl, refl)
four_true true true false true e = absurd (let never : false ≡ true = e in cc)
four_true true true true m e = absurd (let never : false ≡ true = e in cc)
four_true true false a m e = absurd (let never : false ≡ true = e in cc)
four_true false c a m e = absurd (let never : false ≡ true = e in cc)

two_true : (f c : Bool) → (f && (c && true)) ≡ true → f ≡ true
two_true true c e = refl
two_true false c e = absurd (let never : false ≡ true = e in cc)

split_first : (k : Known) (s r : RoutineTree) (b : Bool) → have_one_name k s r ≡ b → is_second k (s ∷ []) r ≡ true → Last k [] s r
split_first k s r true one e = record {
  none = refl;
  one = one;
  forward = two_true (has_forward k (routine_body s)) (completes k s r)
      (sym (ap (λ (b : Bool). if b then has_forward k (routine_body s) && (completes k s r && true) else false) one) ∙ e);
  same = ap (λ (b : Bool). if b then s else r) one;
}
split_first k s r false one e = absurd (
    let never : false ≡ true = sym (ap (λ (b : Bool). if b then has_forward k (routine_body s) && (completes k s r && true) else false) one) ∙ e in cc)

split_more : (k : Known) (q : RoutineTree) (qs : List RoutineTree) (s r : RoutineTree) (b : Bool) → have_one_name k q r ≡ b
    → (is_second k (qs ++ s ∷ []) r ≡ true → Before k qs s r ⊎ Last k qs s r) → is_second k (q ∷ (qs ++ s ∷ [])) r ≡ true
    → Before k (q ∷ qs) s r ⊎ Last k (q ∷ qs) s r
split_more k q qs s r true one later e =
    let forward = has_forward k (routine_body q) in
    let all : (forward && (completes k q r && not (are_completing k q qs || completes k q s))) ≡ true
    = ap (λ a. forward && (completes k q r && not a)) (sym (any-last (completes k q) qs s))
    ∙ sym (ap (λ (b : Bool). if b then forward && (completes k q r && not (are_completing k q (qs ++ s ∷ []))) else is_second k (qs ++ s ∷ []) r) one) ∙ e in
    let four = four_true forward (completes k q r) (are_completing k q qs) (completes k q s) all in
    let first : first_named k (q ∷ qs) r ≡ q = ap (λ (b : Bool). if b then q else first_named k qs r) one in
    inl (record {
      named = ap (λ b. b || is_named k qs r) one;
      second = ap (λ (b : Bool). if b then forward && (completes k q r && not (are_completing k q qs)) else is_second k qs r) one
          ∙ ap (λ f. f && (completes k q r && not (are_completing k q qs))) four.0
          ∙ ap (λ c. c && not (are_completing k q qs)) four.1 ∙ ap not four.2;
      other = ap (λ (y : RoutineTree). completes k y s) first ∙ four.3;
      same = ap (λ (b : Bool). if b then q else first_named k (qs ++ s ∷ []) r) one ∙ sym first;
    })
split_more k q qs s r false one later e =
    let forward = has_forward k (routine_body q) in
    let first : first_named k (q ∷ qs) r ≡ first_named k qs r = ap (λ (b : Bool). if b then q else first_named k qs r) one in
    let more : first_named k (q ∷ (qs ++ s ∷ [])) r ≡ first_named k (qs ++ s ∷ []) r
    = ap (λ (b : Bool). if b then q else first_named k (qs ++ s ∷ []) r) one in
    elim (later (sym (ap (λ (b : Bool).
    if b then forward && (completes k q r && not (are_completing k q (qs ++ s ∷ []))) else is_second k (qs ++ s ∷ []) r) one) ∙ e)) [
      | inl b ↦ inl (record {
        named = ap (λ c. c || is_named k qs r) one ∙ b.named;
        second = ap (λ (c : Bool). if c then forward && (completes k q r && not (are_completing k q qs)) else is_second k qs r) one ∙ b.second;
        other = ap (λ (y : RoutineTree). completes k y s) first ∙ b.other;
        same = more ∙ b.same ∙ sym first;
      })
      | inr l ↦ inr (record {
        none = ap (λ c. c || is_named k qs r) one ∙ l.none;
        one = l.one;
        forward = l.forward;
        same = more ∙ l.same;
      })
    ]

split_second : (k : Known) (done : List RoutineTree) (s r : RoutineTree) → is_second k (done ++ s ∷ []) r ≡ true → Before k done s r ⊎ Last k done s r
split_second k [] s r e = inr (split_first k s r (have_one_name k s r) refl e)
split_second k (q ∷ qs) s r e = split_more k q qs s r (have_one_name k q r) refl (λ h. split_second k qs s r h) e

second_more : (k : Known) (q : RoutineTree) (qs : List RoutineTree) (r : RoutineTree) (b : Bool) → have_one_name k q r ≡ b
    → (is_second k qs r ≡ true → completes k (first_named k qs r) r ≡ true) → is_second k (q ∷ qs) r ≡ true
    → completes k (first_named k (q ∷ qs) r) r ≡ true
second_more k q qs r true one later e =
    let forward = has_forward k (routine_body q) in
    let all : (forward && (completes k q r && not (are_completing k q qs || false))) ≡ true
    = ap (λ a. forward && (completes k q r && not a)) (or_none (are_completing k q qs))
    ∙ sym (ap (λ (b : Bool). if b then forward && (completes k q r && not (are_completing k q qs)) else is_second k qs r) one) ∙ e in
    ap (λ (b : Bool). completes k (if b then q else first_named k qs r) r) one
    ∙ (four_true forward (completes k q r) (are_completing k q qs) false all).1
  where
    or_none : (b : Bool) → (b || false) ≡ b
    or_none true = refl
    or_none false = refl
second_more k q qs r false one later e =
    ap (λ (b : Bool). completes k (if b then q else first_named k qs r) r) one
    ∙ later (sym (ap (λ (b : Bool).
    if b then has_forward k (routine_body q) && (completes k q r && not (are_completing k q qs)) else is_second k qs r) one) ∙ e)

-- it completes that one
pub second_completes : (k : Known) (qs : List RoutineTree) (r : RoutineTree) → is_second k qs r ≡ true → completes k (first_named k qs r) r ≡ true
second_completes k [] r e = absurd (let never : false ≡ true = e in cc)
second_completes k (q ∷ qs) r e = second_more k q qs r (have_one_name k q r) refl (λ h. second_completes k qs r h) e

-- ---- it waits

-- The name of one in a region is that of the first of its name among some, which waits for a block.
pub record Open (k : Known) (region : ℕ) (done : List RoutineTree) (j : Known) (r : RoutineTree) : Type 0 where
  pub d : Definition
  pub is : defined_in j.regions region (name_at k (routine_name r)) ≡ Some d
  pub token : d.token ≡ routine_name (first_named k done r)
  pub row : row_at j (routine_name (first_named k done r)) ≡ Row.Part (PartRow.Forward (is_function (routine_heading (first_named k done r))) None)

-- So it is with each that has the block of one of these, where none of these names is its name.
abbrev pub Exact : Known → ℕ → List ℕ → List RoutineTree → Known → Type 0
Exact k region names done j = (r : RoutineTree) → is_second k done r ≡ true → has_name k names (routine_name r) ≡ false → Open k region done j r

-- what it completes
pub open_completed : (k : Known) (region : ℕ) (done : List RoutineTree) (j : Known) (r : RoutineTree) → j.words ≡ k.words → is_second k done r ≡ true
    → Open k region done j r
    → completed_by j region (routine_heading r) (routine_body r) ≡ Some (routine_name (first_named k done r))
open_completed k region done j r words second o =
    let q = first_named k done r in
    let c = both_three (is_block (routine_body r)) (same_kind (routine_heading q) (routine_heading r))
    (nat_eq (name_at k (routine_name q)) (name_at k (routine_name r))) (second_completes k done r second) in
    found_back j region (routine_heading r) (routine_body r) o.d (routine_name q) c.0
    (ap (defined_in j.regions region) (spelled_as k j (routine_name r) words) ∙ o.is) o.token
    (ap (awaits (is_function (routine_heading r))) o.row ∙ c.1)

-- a name among these is defined no more
abbrev pub Only : Known → ℕ → List ℕ → List RoutineTree → Known → Type 0
Only k region names done j = (r : RoutineTree) (d : Definition) → defined_in j.regions region (name_at k (routine_name r)) ≡ Some d
    → (has_name k names (routine_name r) || is_named k done r) ≡ true

member_listed : (q : RoutineTree) (rs : List RoutineTree) → Member q rs → Listed (map routine_name rs) (routine_name q)
member_listed q [] h = absurd h
member_listed q (r ∷ rs) (inl e) = inl (ap routine_name e)
member_listed q (r ∷ rs) (inr h) = inr (member_listed q rs h)

-- the first of the name stands elsewhere
first_off : (k : Known) (t : BlockTree) (done : List RoutineTree) (s r : RoutineTree) → Seat t done s → is_named k done r ≡ true
    → routine_name (first_named k done r) ≡ routine_name s → ⊥
first_off k t done s r seat named e = seat.fresh (subst (Listed (map routine_name done)) e
    (member_listed (first_named k done r) done (first_member k done r named)))

both_false : (a b : Bool) → a ≡ false → b ≡ false → (a || b) ≡ true → ⊥
both_false a b x y e = let never : false ≡ true = sym (ap (λ c. c || b) x ∙ y) ∙ e in cc

new_open : (k : Known) (t : BlockTree) (region : ℕ) (names : List ℕ) (done : List RoutineTree) (s r : RoutineTree) (j i : Known)
    → Part k t region names done j → Only k region names done j → Leaves k region s j i
    → is_some (defined_in i.regions region (name_at k (routine_name s))) ≡ true
    → row_at i (routine_name s) ≡ Row.Part (PartRow.Forward (is_function (routine_heading s)) None)
    → has_name k names (routine_name r) ≡ false → Last k done s r → (o : Option Definition)
    → defined_in i.regions region (name_at k (routine_name r)) ≡ o → Open k region (done ++ s ∷ []) i r
new_open k t region names done s r j i p only l own waits unnamed last None e = absurd (
    let one = eqb-true (name_at k (routine_name s)) (name_at k (routine_name r)) last.one in
    let never : false ≡ true = sym (ap is_some (ap (defined_in i.regions region) one ∙ e)) ∙ own in cc)
new_open k t region names done s r j i p only l own waits unnamed last (Some d) e = record {
  d = d;
  is = e;
  token = elim (l.definitions (name_at k (routine_name r)) d e) [
    | inl old ↦ absurd (both_false (has_name k names (routine_name r)) (is_named k done r) unnamed last.none (only r d old))
    | inr new ↦ sym new.token ∙ ap routine_name (sym last.same)
  ];
  row = subst (λ (q : RoutineTree). row_at i (routine_name q) ≡ Row.Part (PartRow.Forward (is_function (routine_heading q)) None)) (sym last.same) waits;
}

-- after one that completes none
pub exact_defining : (k : Known) (t : BlockTree) (region : ℕ) (names : List ℕ) (done : List RoutineTree) (s : RoutineTree) (j : Known) → IsOfText k t s
    → Seat t done s
    → Part k t region names done j → Only k region names done j → Exact k region names done j
    → let i = (defining region (routine_heading s) (routine_body s) j).known in
    Stay region j i → Exact k region names (done ++ s ∷ []) i
exact_defining k t region names done s j of seat p only exact stay r second unnamed =
    let i = (defining region (routine_heading s) (routine_body s) j).known in
    let l = leaves k t region s j p.orderly.both in
    let spelled = spelled_as k j (routine_name s) p.orderly.both.sound.words in
    let here = defining_here region s j p.there in
    elim (split_second k done s r second) [
      | inl b ↦
          let o = exact r b.second unnamed in
          let q = first_named k done r in
          let row : row_at i (routine_name q) ≡ row_at j (routine_name q) = elim (l.rows (routine_name q)) [
            | inl same ↦ same
            | inr new ↦ absurd (first_off k t done s r seat b.named new.at)
          ] in
          record {
            d = o.d;
            is = stay (name_at k (routine_name r)) o.d o.is;
            token = o.token ∙ ap routine_name (sym b.same);
            row = subst (λ (y : RoutineTree). row_at i (routine_name y) ≡ Row.Part (PartRow.Forward (is_function (routine_heading y)) None)) (sym b.same)
                (row ∙ o.row);
          }
      | inr last ↦
          let own : is_some (defined_in i.regions region (name_at k (routine_name s))) ≡ true
          = ap (λ n. is_some (defined_in i.regions region n)) (sym spelled) ∙ here.more (name_at j (routine_name s))
          ∙ ap (λ b. is_some (defined_in j.regions region (name_at j (routine_name s))) || (b || false))
          (eq-eqb (name_at j (routine_name s)) (name_at j (routine_name s)) refl)
          ∙ or_true (is_some (defined_in j.regions region (name_at j (routine_name s)))) in
          new_open k t region names done s r j i p only l own
          (defining_waits k t region (routine_heading s) (routine_body s) j p.orderly.both.roomy last.forward of.spelled) unnamed last
          (defined_in i.regions region (name_at k (routine_name r))) refl
    ]
  where
    or_true : (b : Bool) → (b || true) ≡ true
    or_true true = refl
    or_true false = refl

-- after one that completes another
pub exact_completing : (k : Known) (t : BlockTree) (region position : ℕ) (names : List ℕ) (done : List RoutineTree) (s : RoutineTree) (first : ℕ) (j : Known)
    → Seat t done s → Part k t region names done j → Exact k region names done j
    → completed_by j region (routine_heading s) (routine_body s) ≡ Some first
    → Exact k region names (done ++ s ∷ []) (with_completion j first position (is_function (routine_heading s)) (routine_name s))
exact_completing k t region position names done s first j seat p exact e r second unnamed =
    let name = routine_name s in
    let one = Row.Part (PartRow.Forward (is_function (routine_heading s)) (Some position)) in
    let x = with_row j first one in
    let i = with_completion j first position (is_function (routine_heading s)) name in
    elim (split_second k done s r second) [
      | inl b ↦
          let o = exact r b.second unnamed in
          let q = first_named k done r in
          let sound = p.orderly.both.sound in
          let other : routine_name q ≡ first → ⊥ = λ at.
          let has = completing_has k t j region q s sound o.row (e ∙ ap Some (sym at)) in
          (let never : false ≡ true = sym b.other ∙ has in cc) in
          let own : row_at i (routine_name q) ≡ row_at x (routine_name q) = elim (row_either x name (routine_name q) (Row.Part (PartRow.Completing first))) [
            | inl same ↦ same
            | inr new ↦ absurd (first_off k t done s r seat b.named new.0)
          ] in
          let old : row_at x (routine_name q) ≡ row_at j (routine_name q) = elim (row_either j first (routine_name q) one) [
            | inl same ↦ same
            | inr new ↦ absurd (other new.0)
          ] in
          record {
            d = o.d;
            is = o.is;
            token = o.token ∙ ap routine_name (sym b.same);
            row = subst (λ (y : RoutineTree). row_at i (routine_name y) ≡ Row.Part (PartRow.Forward (is_function (routine_heading y)) None)) (sym b.same)
                (own ∙ old ∙ o.row);
          }
      | inr last ↦ absurd (no_forward_block k (routine_body s) (found_block j region (routine_heading s) (routine_body s) first e) last.forward)
    ]
