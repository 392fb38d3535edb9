-- The levels of a decided grammar: their free trees are those to which the tests lead.
use Rattle.std.proofs.Common.{◌≡◌, ℕ, Bool, None, Option, false, suc, true, zero}
use Rattle.std.proofs.lemmas.Bool.{and_parts}
use Rattle.grammar.proofs.{Every.every_at, Larger.IsPart, Larger.none_in}
use Rattle.grammar.proofs.Decided.{Begun, Tested, begun, freed, none_begun, none_tested, starts_up, tested}
use Rattle.grammar.specs.{Nodes.Node, Nodes.spell, Terminals.every, Terminals.every_of, Tested.Is, Tested.Within, declared.terminals.Terminal.Terminal}
use Rattle.grammar.specs.Deciding.{IsDecided, LevelTables, all_levels, both, closed, decides, first, implies, level_is_decided, none, nullable, sane}
use Rattle.grammar.specs.Grammars.{Free, FreeWithin, Grammar, IsNone, Level, block, by_end, by_until, denoter, factor, heading, schema, statement, variant_part}

pub every_level : (t : Level → Bool) → every_of t all_levels ≡ true → (l : Level) → t l ≡ true
every_level t e block = every_at t 0 all_levels e
every_level t e heading = every_at t 1 all_levels e
every_level t e (statement false by_end) = every_at t 2 all_levels e
every_level t e (statement true by_end) = every_at t 3 all_levels e
every_level t e (statement false by_until) = every_at t 4 all_levels e
every_level t e (statement true by_until) = every_at t 5 all_levels e
every_level t e denoter = every_at t 6 all_levels e
every_level t e schema = every_at t 7 all_levels e
every_level t e variant_part = every_at t 8 all_levels e
every_level t e factor = every_at t 9 all_levels e

pub record LevelParts (t : LevelTables) (l : Level) : Type 0 where
  pub sound : sane (t.rule l) ≡ true
  pub whole : closed (t.rule l) ≡ true
  pub decided : decides t (t.rule l) none false none (t.follow_of l) ≡ true
  pub heads : every (λ k. implies (first t (t.rule l) none false k) (t.first_of l k)) ≡ true
  pub gaps : implies (nullable t (t.rule l) false) (t.nullable_of l) ≡ true

pub record WholeParts (t : LevelTables) (g : Grammar) : Type 0 where
  pub sound : sane g ≡ true
  pub whole : closed g ≡ true
  pub decided : decides t g none false none none ≡ true

module _ (t : LevelTables) (g : Grammar) (ok : IsDecided t g ≡ true) where
  pub level_parts : (l : Level) → LevelParts t l
  level_parts l =
      let at = every_level (level_is_decided t) (and_parts (every_of (level_is_decided t) all_levels)
      (both (both (sane g) (closed g)) (decides t g none false none none)) ok).0 l in
      let p = and_parts (both (sane (t.rule l)) (closed (t.rule l)))
      (both (decides t (t.rule l) none false none (t.follow_of l))
      (both (every (λ k. implies (first t (t.rule l) none false k) (t.first_of l k))) (implies (nullable t (t.rule l) false) (t.nullable_of l)))) at in
      let q = and_parts (sane (t.rule l)) (closed (t.rule l)) p.0 in
      let r = and_parts (decides t (t.rule l) none false none (t.follow_of l))
      (both (every (λ k. implies (first t (t.rule l) none false k) (t.first_of l k))) (implies (nullable t (t.rule l) false) (t.nullable_of l))) p.1 in
      let s = and_parts (every (λ k. implies (first t (t.rule l) none false k) (t.first_of l k)))
      (implies (nullable t (t.rule l) false) (t.nullable_of l)) r.1 in
      record { sound = q.0; whole = q.1; decided = r.0; heads = s.0; gaps = s.1 }

  pub whole_parts : WholeParts t g
  whole_parts =
      let p = and_parts (every_of (level_is_decided t) all_levels) (both (both (sane g) (closed g)) (decides t g none false none none)) ok in
      let q = and_parts (both (sane g) (closed g)) (decides t g none false none none) p.1 in
      let r = and_parts (sane g) (closed g) q.0 in
      record { sound = r.0; whole = r.1; decided = q.1 }

  pub rule_sane : (l : Level) → sane (t.rule l) ≡ true
  rule_sane l = (level_parts l).sound

  pub free_begun : (n : ℕ) (l : Level) → Begun (t.first_of l) (t.nullable_of l) (FreeWithin t.rule n l)
  unfolding FreeWithin
  free_begun zero l x h r = absurd r
  free_begun (suc n) l x h r =
      let p = level_parts l in
      starts_up (first t (t.rule l) none false) (t.first_of l) (nullable t (t.rule l) false) (t.nullable_of l) (spell x) p.heads p.gaps
      (begun t (FreeWithin t.rule n) (free_begun n) (t.rule l) none false none (t.follow_of l) p.decided IsNone none_begun x h r)

  pub tested_within : (n : ℕ) (l : Level) → Tested (t.follow_of l) (FreeWithin t.rule n l) (Within t.rule n l)
  unfolding FreeWithin Within
  tested_within zero l x h al r = r
  tested_within (suc n) l x h al r =
      tested t (FreeWithin t.rule n) (Within t.rule n) (free_begun n) (tested_within n) (t.rule l) none false none (t.follow_of l)
      (level_parts l).decided IsNone IsNone none_begun none_tested x h al r

  pub free_within : (n : ℕ) (l : Level) → IsPart (Within t.rule n l) (FreeWithin t.rule n l)
  unfolding FreeWithin Within
  free_within zero l x h r = r
  free_within (suc n) l x h r = freed (Within t.rule n) (FreeWithin t.rule n) (free_within n) (t.rule l) IsNone IsNone (none_in IsNone) x h r

  pub whole_tested : (n : ℕ) (x : Node) → Free (FreeWithin t.rule n) g x None → Is (Within t.rule n) g IsNone x None
  whole_tested n x r = tested t (FreeWithin t.rule n) (Within t.rule n) (free_begun n)
      (tested_within n) g none false none none whole_parts.decided IsNone IsNone none_begun none_tested x None tt r

  pub whole_freed : (n : ℕ) (x : Node) (h : Option Terminal) → Is (Within t.rule n) g IsNone x h → Free (FreeWithin t.rule n) g x h
  whole_freed n x h r = freed (Within t.rule n) (FreeWithin t.rule n) (free_within n) g IsNone IsNone (none_in IsNone) x h r
