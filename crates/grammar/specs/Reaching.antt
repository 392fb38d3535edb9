-- The check that each token in front of which a level is tried may stand there in some tree.
use Rattle.std.specs.Prelude.{ℕ, Bool, List, false, not, suc, true, zero}
use Rattle.grammar.specs.{Terminals.every, Terminals.every_of, Terminals.one_of, declared.terminals.Terminal.Terminal}
use Rattle.grammar.specs.Deciding.{LevelTables, all_levels, both, either, first, implies, none, nullable}
use Rattle.grammar.specs.Grammars.{Grammar, Level, again, choice, greedy, level, loop, nothing, seq, token}

-- ---- tables with nothing to spare

-- whether there is an empty tree in front of each token, where `has` says so of the levels
abbrev pub blank : (Level → Bool) → Grammar → Bool
blank has (token ks) = false
blank has nothing = true
blank has (seq a b) = both (blank has a) (blank has b)
blank has (choice ks a b) = either (blank has a) (blank has b)
blank has (greedy ks a) = false
blank has (level l) = has l
blank has (loop a) = blank has a
blank has again = false

-- what begins the trees of the levels in which at most d levels are nested, and which of them may be empty
abbrev pub tables_at : LevelTables → ℕ → LevelTables
tables_at t zero = record { rule = t.rule; first_of = λ l k. false; nullable_of = λ l. false; follow_of = t.follow_of }
tables_at t (suc d) = record {
  rule = t.rule;
  first_of = λ l. first (tables_at t d) (t.rule l) none false;
  nullable_of = λ l. blank (tables_at t d).nullable_of (t.rule l);
  follow_of = t.follow_of;
}

-- the part begins with each of the terminals that lead to it
abbrev pub leads : List Terminal → Grammar → Bool
leads ks (token js) = every (λ k. implies (one_of ks k) (one_of js k))
leads ks nothing = false
leads ks (seq a b) = leads ks a
leads ks (choice js a b) = false
leads ks (greedy js a) = false
leads ks (level l) = false
leads ks (loop a) = false
leads ks again = false

-- so do the greedy parts
abbrev pub eager : Grammar → Bool
eager (token ks) = true
eager nothing = true
eager (seq a b) = both (eager a) (eager b)
eager (choice ks a b) = both (eager a) (eager b)
eager (greedy ks a) = both (eager a) (leads ks a)
eager (level l) = true
eager (loop a) = eager a
eager again = true

-- ---- levels at the end

module _ (t : LevelTables) where
  -- The terminals in front of which a tree may end in a level that is empty. Of the loop around it `f` and `v` tell
  -- what
  -- begins it and whether it has an empty tree, and `c` tells the same of it.
  abbrev pub ends : Grammar → (Terminal → Bool) → Bool → (Terminal → Bool) → Terminal → Bool
  ends (token ks) f v c k = false
  ends nothing f v c k = false
  ends (seq a b) f v c k = either (ends b f v c k)
      (both (ends a f v c k) (both (nullable t b v) (not (first t b f v k))))
  ends (choice ks a b) f v c k = either (ends a f v c k) (ends b f v c k)
  ends (greedy ks a) f v c k = ends a f v c k
  ends (level l) f v c k = both (t.nullable_of l) (t.follow_of l k)
  ends (loop a) f v c k = ends a (first t a none false) (nullable t a false) none k
  ends again f v c k = c k

  abbrev pub tail : Grammar → Terminal → Bool
  tail a = ends a (first t a none false) (nullable t a false) none

  -- what follows such a tree may begin with that terminal, or be empty too
  abbrev pub goes_on : Grammar → (Terminal → Bool) → Bool → (Terminal → Bool) → Bool
  goes_on (token ks) f v c = true
  goes_on nothing f v c = true
  goes_on (seq a b) f v c = both (both (goes_on a f v c) (goes_on b f v c))
      (every (λ k. implies (ends a f v c k) (either (first t b f v k) (nullable t b v))))
  goes_on (choice ks a b) f v c = both (goes_on a f v c) (goes_on b f v c)
  goes_on (greedy ks a) f v c = goes_on a f v c
  goes_on (level l) f v c = true
  goes_on (loop a) f v c =
      both (goes_on a (first t a none false) (nullable t a false) (tail a))
      (every (λ k. implies (ends a (first t a none false) (nullable t a false) (tail a) k) (tail a k)))
  goes_on again f v c = true

  -- the tables have nothing to spare of a level, and what follows it in its rule goes on
  abbrev pub level_reaches : ℕ → Level → Bool
  level_reaches d l =
      both (both (every (λ k. implies (t.first_of l k) ((tables_at t d).first_of l k)))
      (implies (t.nullable_of l) ((tables_at t d).nullable_of l)))
      (both (eager (t.rule l))
      (both (goes_on (t.rule l) none false none)
      (every (λ k. implies (ends (t.rule l) none false none k) (both (t.nullable_of l) (t.follow_of l k))))))

  -- Each token in front of which a level is tried may stand there.
  abbrev pub IsReaching : ℕ → Grammar → Bool
  IsReaching d g =
      both (every_of (level_reaches d) all_levels)
      (both (eager g) (both (goes_on g none false none) (every (λ k. not (ends g none false none k)))))
