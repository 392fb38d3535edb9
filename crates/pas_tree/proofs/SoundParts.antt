-- Parts of a grammar that short trees complete, and the number of tokens that close them.
use Rattle.std.proofs.Common.{◌+◌, ◌≡◌, ◌≤◌, ℕ, Bool, List, arith, false, inl, inr, length, refl, true}
use Rattle.std.proofs.lemmas.Bool.{and_parts}
use Rattle.grammar.proofs.{Bools.both_make, Bools.either_parts, Complete.brief, Complete.calls, Complete.good, Complete.shortest}
use Rattle.grammar.specs.{Nodes.Node, Nodes.Nothing, Nodes.spell, declared.terminals.Terminal.Terminal}
use Rattle.grammar.specs.Completing.{IsCompleted, begins_calm, spares}
use Rattle.grammar.specs.Deciding.{IsDecided, LevelTables, both, closed, either, guarded, linear, sane, solid}
use Rattle.grammar.specs.Grammars.{Grammar, again, choice, greedy, level, loop, nothing, seq, token}
use Rattle.pas_tree.proofs.Parting.{closing}

-- what goes on after a token alone goes on at its end alone
guarded_linear : (g : Grammar) → guarded g ≡ true → linear g ≡ true
guarded_linear (token ks) e = refl
guarded_linear nothing e = refl
guarded_linear (seq a b) e =
    let p = and_parts (closed a) (either (both (solid a) (linear b)) (guarded b)) e in
    both_make (closed a) (linear b) p.0 (elim (either_parts (both (solid a) (linear b)) (guarded b) p.1) [
      | inl q ↦ (and_parts (solid a) (linear b) q).1
      | inr q ↦ guarded_linear b q
    ])
guarded_linear (choice ks a b) e =
    let p = and_parts (guarded a) (guarded b) e in both_make (linear a) (linear b) (guarded_linear a p.0) (guarded_linear b p.1)
guarded_linear (greedy ks a) e = guarded_linear a e
guarded_linear (level l) e = refl
guarded_linear (loop a) e = refl
guarded_linear again e = absurd cc

module _ (calm : Terminal → Bool) (t : LevelTables) (g : Grammar) (ok : IsDecided t g ≡ true) (d : ℕ) (full : IsCompleted calm d t g ≡ true) where
  abbrev good_at : Grammar → Node → Bool → Bool
  good_at = good calm t g ok d full

  abbrev calls_at : Grammar → Node → Bool → Bool
  calls_at = calls calm t g ok d full

  abbrev short_at : Grammar → Node → Node
  short_at = shortest calm t g ok d full

  abbrev pub close_at : Grammar → Node → ℕ
  close_at = closing (brief calm t g ok d full)

  -- Short trees complete a part, where s is that of the loop around it, with at most m tokens, if a level in it is
  -- closed by at most `most`.
  pub record Sound (most : ℕ) (b : Grammar) (s : Node) (v : Bool) (m : ℕ) : Type 0 where
    pub sound : sane b ≡ true
    pub good : good_at b s v ≡ true
    pub few : most + close_at b s ≤ m

  pub record SoundPair (most : ℕ) (a b : Grammar) (s : Node) (v : Bool) (m : ℕ) : Type 0 where
    pub first : Sound most a s v (most + close_at a s)
    pub second : Sound most b s v m
    pub calls : calls_at b s v ≡ true
    pub calms : begins_calm calm (spell (short_at b s)) ≡ true
    pub both_few : most + close_at a s + length (spell (short_at b s)) ≤ m
    pub short_few : length (spell (short_at b s)) ≤ m

  pub record SoundLoop (most : ℕ) (a : Grammar) (m : ℕ) : Type 0 where
    pub round : Sound most a (short_at a Nothing) true m
    pub calls : calls_at a Nothing false ≡ true
    pub at_end : linear a ≡ true

  module _ {most : ℕ} {s : Node} {v : Bool} {m : ℕ} where
    pub pair_sound : (a b : Grammar) → Sound most (seq a b) s v m → SoundPair most a b s v m
    pair_sound a b c =
        let o = and_parts (sane a) (sane b) c.sound in
        let w = spell (short_at b s) in
        let j = and_parts (both (good_at a s v) (good_at b s v)) (both (calls_at b s v) (begins_calm calm w)) c.good in
        let k = and_parts (good_at a s v) (good_at b s v) j.0 in
        let f = and_parts (calls_at b s v) (begins_calm calm w) j.1 in
        let few = c.few in
        record {
          first = record { sound = o.0; good = k.0; few = omega arith };
          second = record { sound = o.1; good = k.1; few = omega arith };
          calls = f.0;
          calms = f.1;
          both_few = omega arith;
          short_few = omega arith;
        }

    pub fork_sound : (ks : List Terminal) (a b : Grammar) → Sound most (choice ks a b) s v m → Sound most a s v m × Sound most b s v m
    fork_sound ks a b c =
        let o = and_parts (sane a) (sane b) c.sound in
        let k = and_parts (good_at a s v) (good_at b s v) c.good in
        let few = c.few in
        (record { sound = o.0; good = k.0; few = omega arith }, record { sound = o.1; good = k.1; few = omega arith })

    pub greedy_sound : (ks : List Terminal) (a : Grammar) → Sound most (greedy ks a) s v m → Sound most a s v m
    greedy_sound ks a c = record { sound = c.sound; good = (and_parts (good_at a s v) (spares calm ks) c.good).0; few = c.few }

    pub loop_sound : (a : Grammar) → Sound most (loop a) s v m → SoundLoop most a m
    loop_sound a c =
        let o = and_parts (sane a) (guarded a) c.sound in
        let k = and_parts (good_at a (short_at a Nothing) true) (calls_at a Nothing false) c.good in
        record { round = record { sound = o.0; good = k.0; few = c.few }; calls = k.1; at_end = guarded_linear a o.1 }
