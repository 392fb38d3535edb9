-- Where a shaped tree breaks off, a shaped tree closes it with few tokens.
use Rattle.std.proofs.Common.{◌*◌, ◌++◌, ◌+◌, ◌<◌, ◌∷◌, ◌≡◌, ◌≤◌, [], ℕ, Bool, List, None, arith, false, inl, inr, length, suc, true, zero}
use Rattle.std.proofs.lemmas.Bool.{and_parts, leb-true, ltb-true}
use lib.Dec.{leb, ltb}
use Rattle.grammar.proofs.{Deepest.level_forget, Larger.IsPart, Larger.all_in, Larger.free_up, Somewhere.nested, Somewhere.whole_nested}
use Rattle.grammar.proofs.Complete.{brief, level_fits, rule_completes, whole_completes}
use Rattle.grammar.proofs.LevelsTested.{every_level, level_parts, rule_sane, whole_parts}
use Rattle.grammar.specs.{Completing.IsCompleted, Completing.brief_of, Deciding.IsDecided, Deciding.LevelTables, Deciding.all_levels, Deciding.both, Nodes.Item}
use Rattle.grammar.specs.{Nodes.Node, Nodes.Nothing, Nodes.spell, Terminals.every_of, declared.terminals.Terminal.Terminal}
use Rattle.grammar.specs.Grammars.{FreeIn, FreeWithin, Grammar, IsNone, Level}
use Rattle.grammar.specs.Nesting.{BeginsAt, BeginsDeep, IsShaped, Nested, Places, nowhere}
use Rattle.pas_tree.proofs.{Closing.Around, Closing.Roomy, Closing.closes, PlacesMove.level_places_move, SoundParts.Sound}
use Rattle.pas_tree.proofs.Parting.{Closes, at_once, begun_by, closed_map, closing, times}
use Rattle.pas_tree.proofs.PlacesClosed.{KeepsPlace, Near, keeps}

-- ---- the check

-- A level of a rank begins only with levels of a lower one, at most this many tokens close it, and its short tree has at
-- most as many.
abbrev pub level_is_brief : (Level → Grammar) → (Level → Node) → (Level → ℕ) → ℕ → Level → Bool
level_is_brief rule brief rank k l =
    both (both (leb (rank l) 1) (leb (length (spell (brief l))) k))
    (both (leb (closing brief (rule l) Nothing) k) (begun_by (λ w. ltb (rank w) (rank l)) (rule l)))

abbrev pub IsBrief : LevelTables → Grammar → (Level → Node) → (Level → ℕ) → ℕ → Bool
IsBrief t g brief rank k =
    both (every_of (level_is_brief t.rule brief rank k) all_levels) (both (leb (closing brief g Nothing) k) (begun_by (λ w. false) g))

pub record LevelBrief (t : LevelTables) (short : Level → Node) (rank : Level → ℕ) (k : ℕ) (l : Level) : Type 0 where
  pub low : rank l ≤ 1
  pub brief_few : length (spell (short l)) ≤ k
  pub few : closing short (t.rule l) Nothing ≤ k
  pub begun : begun_by (λ w. ltb (rank w) (rank l)) (t.rule l) ≡ true

module _ (calm : Terminal → Bool) (t : LevelTables) (g : Grammar) (ok : IsDecided t g ≡ true) (d : ℕ) (full : IsCompleted calm d t g ≡ true)
    (rank : Level → ℕ) (k : ℕ) (small : IsBrief t g (brief_of calm t.rule d) rank k ≡ true) where
  abbrev brief_at : Level → Node
  brief_at = brief_of calm t.rule d

  levels_brief : (every_of (level_is_brief t.rule brief_at rank k) all_levels ≡ true) ×
      (both (leb (closing brief_at g Nothing) k) (begun_by (λ w. false) g) ≡ true)
  levels_brief = and_parts (every_of (level_is_brief t.rule brief_at rank k) all_levels)
      (both (leb (closing brief_at g Nothing) k) (begun_by (λ w. false) g)) small

  level_brief : (l : Level) → LevelBrief t brief_at rank k l
  level_brief l =
      let begun = begun_by (λ w. ltb (rank w) (rank l)) (t.rule l) in
      let p = and_parts (both (leb (rank l) 1) (leb (length (spell (brief_at l))) k))
      (both (leb (closing brief_at (t.rule l) Nothing) k) begun) (every_level (level_is_brief t.rule brief_at rank k) levels_brief.0 l) in
      let q = and_parts (leb (rank l) 1) (leb (length (spell (brief_at l))) k) p.0 in
      let r = and_parts (leb (closing brief_at (t.rule l) Nothing) k) begun p.1 in
      record {
        low = leb-true (rank l) 1 q.0;
        brief_few = leb-true (length (spell (brief_at l))) k q.1;
        few = leb-true (closing brief_at (t.rule l) Nothing) k r.0;
        begun = r.1;
      }

  low : (l : Level) → rank l ≤ 1
  low l = (level_brief l).low

  in_nested : (m : ℕ) (b : Grammar) → IsPart (FreeIn (FreeWithin t.rule m) b IsNone) (FreeIn (Nested t.rule) b IsNone)
  in_nested m b x h r = free_up (FreeWithin t.rule m) (Nested t.rule) (λ v x h r. (m, r)) b IsNone IsNone (all_in IsNone) x h r

  by_rule : (m : ℕ) (l : Level) → IsPart (FreeWithin t.rule m l) (FreeIn (Nested t.rule) (t.rule l) IsNone)
  unfolding FreeWithin
  by_rule zero l x h r = absurd r
  by_rule (suc m) l x h r = in_nested m (t.rule l) x h r

  none_around : Around calm t g ok d full rank Nothing false IsNone IsNone
  none_around = record { part = λ x h r. r; move = λ x h i c r. absurd r; shorts = λ e. absurd cc }

  rule_roomy : (room : ℕ) (l : Level) (front : List Item) → 2 * length front + rank l < suc room → Roomy calm t g ok d full rank room (t.rule l) front
  rule_roomy room l front p =
      let lower : (w : Level) → ltb (rank w) (rank l) ≡ true → 2 * length front + rank w < room = λ w q. let m = ltb-true (rank w) (rank l) q in omega arith in
      inr ((λ w. ltb (rank w) (rank l)), (level_brief l).begun, omega arith, lower)

  rule_sound : (room : ℕ) (l : Level) → Sound calm t g ok d full (times room k) (t.rule l) Nothing false (times (suc room) k)
  rule_sound room l = record {
    sound = rule_sane t g ok l;
    good = rule_completes calm t g ok d full l;
    few = let m = (level_brief l).few in omega arith;
  }

  level_closes : (room : ℕ) (l : Level)
      → Closes calm (Nested t.rule l) (Nested t.rule l) (λ front. 2 * length front + rank l < room) (times room k)
  level_closes zero l x h front z rest p r e = absurd (omega arith)
  level_closes (suc room) l x h [] z rest p r e = at_once calm (Nested t.rule l) (brief_at l) (times (suc room) k) (level_fits calm t g ok d full l)
      (let m = (level_brief l).brief_few in omega arith)
  level_closes (suc room) l x h (y ∷ front) z rest p r e =
      let n = times (suc room) k in
      closed_map calm (FreeIn (Nested t.rule) (t.rule l) IsNone) (Nested t.rule l) (y ∷ front) n n (omega arith) (nested t.rule l)
      (closes calm t g ok d full rank room (times room k) low (level_closes room) (t.rule l) (rule_sound room l) none_around
      (inl (level_parts t g ok l).whole) x h (y ∷ front) z rest (rule_roomy room l (y ∷ front) p) (by_rule r.0 l x h r.1) e)

  none_near : (D : Level → Places) → Near calm t g ok d full rank D Nothing false IsNone nowhere
  none_near D = record {
    move = λ x h i c r. absurd r;
    shorts = λ e. absurd cc;
    place_moves = λ x h i f c r. absurd r;
    is_tree = λ x h f r. r;
  }

  level_keeps : (room n : ℕ) (l : Level) → KeepsPlace calm (BeginsAt t.rule n l) (λ front. 2 * length front + rank l < room) (times room k)
  unfolding BeginsAt
  level_keeps zero n l x h f z y rest p r e = absurd (omega arith)
  level_keeps (suc room) zero l x h f z y rest p r e =
      let most = times (suc room) k in
      closed_map calm (Nested t.rule l) (λ x h. BeginsAt t.rule zero l x h f) (f ++ z ∷ []) most most (omega arith) (λ x h s. (r.0, s))
      (level_closes (suc room) l x h (f ++ z ∷ []) y rest p r.1 e)
  level_keeps (suc room) (suc n) l x h f z y rest p r e =
      let D = BeginsAt t.rule n in
      keeps calm t g ok d full rank D room (times room k) low (level_places_move calm t g ok d full rank n) (level_forget t.rule n)
      (level_closes room) (level_keeps room n) (t.rule l) (rule_sound room l) (none_near D) (inl (level_parts t g ok l).whole) x h f z y rest
      (rule_roomy room l (f ++ z ∷ []) p) r e

  -- a tree of these that begins with the tokens and has few more
  pub record Goes (P : Node → Type 0) (front : List Item) : Type 0 where
    pub tree : Node
    pub fits : P tree
    pub more : List Item
    pub begins : spell tree ≡ front ++ more
    pub few : length more ≤ times (suc (2 * length front)) k

  whole_sound : (room : ℕ) → Sound calm t g ok d full (times room k) g Nothing false (times (suc room) k)
  whole_sound room =
      let p = and_parts (leb (closing brief_at g Nothing) k) (begun_by (λ w. false) g) levels_brief.1 in
      let m = leb-true (closing brief_at g Nothing) k p.0 in
      record { sound = (whole_parts t g ok).sound; good = whole_completes calm t g ok d full; few = omega arith }

  whole_roomy : (front : List Item) → Roomy calm t g ok d full rank (2 * length front) g front
  whole_roomy front =
      let p = and_parts (leb (closing brief_at g Nothing) k) (begun_by (λ w. false) g) levels_brief.1 in
      inr ((λ w. false), p.1, omega arith, λ w q. absurd cc)

  -- where a shaped tree breaks off
  pub whole_closes : (x : Node) → IsShaped t g x → (front : List Item) (z : Item) (rest : List Item) → spell x ≡ front ++ z ∷ rest
      → Goes (IsShaped t g) front
  whole_closes x r front z rest e =
      let room = 2 * length front in
      let s = closes calm t g ok d full rank room (times room k) low (level_closes room) g (whole_sound room) none_around
      (inl (whole_parts t g ok).whole) x None front z rest (whole_roomy front) (in_nested r.0 g x None r.1) e in
      record { tree = s.tree; fits = whole_nested t.rule g s.tree None (s.fits None tt); more = s.more; begins = s.begins; few = s.few }

  -- and where one does behind a token in front of which a node begins too deep
  pub whole_keeps : (n : ℕ) (x : Node) (f : List Item) (z y : Item) (rest : List Item) → BeginsDeep t n g x f → spell x ≡ (f ++ z ∷ []) ++ y ∷ rest
      → Goes (λ x. BeginsDeep t n g x f) (f ++ z ∷ [])
  whole_keeps n x f z y rest r e =
      let front : List Item = f ++ z ∷ [] in
      let room = 2 * length front in
      let D = BeginsAt t.rule n in
      let s = keeps calm t g ok d full rank D room (times room k) low (level_places_move calm t g ok d full rank n) (level_forget t.rule n)
      (level_closes room) (level_keeps room n) g (whole_sound room) (none_near D) (inl (whole_parts t g ok).whole) x None f z y rest (whole_roomy front) r e in
      record { tree = s.tree; fits = s.fits None tt; more = s.more; begins = s.begins; few = s.few }
