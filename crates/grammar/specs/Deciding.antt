-- The check that one token decides each choice of a grammar: what is LL(1).
use Rattle.std.specs.Prelude.{◌&&◌, ◌||◌, ◌∷◌, [], Bool, List, None, Option, Some, cond, false, not, true}
use Rattle.grammar.specs.{Terminals.every, Terminals.every_of, Terminals.one_of, declared.terminals.Terminal.Terminal}
use Rattle.grammar.specs.Grammars.{Grammar, Level, again, block, by_end, by_until, choice, denoter, factor, greedy}
use Rattle.grammar.specs.Grammars.{heading, level, loop, nothing, schema, seq, statement, token, variant_part}

abbrev pub both : Bool → Bool → Bool
both a b = a && b

abbrev pub either : Bool → Bool → Bool
either a b = a || b

abbrev pub implies : Bool → Bool → Bool
implies a b = cond a b true

-- The rules of the levels, and of each level the terminals that begin its trees, whether it has an empty tree,
-- and the terminals that may follow it.
pub record LevelTables : Type 0 where
  pub rule : Level → Grammar
  pub first_of : Level → Terminal → Bool
  pub nullable_of : Level → Bool
  pub follow_of : Level → Terminal → Bool

-- whether a tree of the level may begin in front of the next token
abbrev pub expects : LevelTables → Level → Option Terminal → Bool
expects t l None = t.nullable_of l
expects t l (Some k) = either (t.first_of l k) (both (t.nullable_of l) (t.follow_of l k))

-- ---- loops

-- it does not speak of the loop around it
abbrev pub closed : Grammar → Bool
closed (token ks) = true
closed nothing = true
closed (seq a b) = both (closed a) (closed b)
closed (choice ks a b) = both (closed a) (closed b)
closed (greedy ks a) = closed a
closed (level l) = true
closed (loop a) = true
closed again = false

-- it surely takes a token
abbrev pub solid : Grammar → Bool
solid (token ks) = true
solid nothing = false
solid (seq a b) = either (solid a) (solid b)
solid (choice ks a b) = both (solid a) (solid b)
solid (greedy ks a) = false
solid (level l) = false
solid (loop a) = false
solid again = false

-- it goes on with the loop around it at its end alone
abbrev pub linear : Grammar → Bool
linear (token ks) = true
linear nothing = true
linear (seq a b) = both (closed a) (linear b)
linear (choice ks a b) = both (linear a) (linear b)
linear (greedy ks a) = linear a
linear (level l) = true
linear (loop a) = true
linear again = true

-- and after a token alone
abbrev pub guarded : Grammar → Bool
guarded (token ks) = true
guarded nothing = true
guarded (seq a b) = both (closed a) (either (both (solid a) (linear b)) (guarded b))
guarded (choice ks a b) = both (guarded a) (guarded b)
guarded (greedy ks a) = guarded a
guarded (level l) = true
guarded (loop a) = true
guarded again = false

-- each loop goes on so
abbrev pub sane : Grammar → Bool
sane (token ks) = true
sane nothing = true
sane (seq a b) = both (sane a) (sane b)
sane (choice ks a b) = both (sane a) (sane b)
sane (greedy ks a) = sane a
sane (level l) = true
sane (loop a) = both (sane a) (guarded a)
sane again = true

-- ---- what begins and follows

abbrev pub none : Terminal → Bool
none k = false

module _ (t : LevelTables) where
  -- whether there is an empty tree, if `v` says so of the loop around it
  abbrev pub nullable : Grammar → Bool → Bool
  nullable (token ks) v = false
  nullable nothing v = true
  nullable (seq a b) v = both (nullable a v) (nullable b v)
  nullable (choice ks a b) v = either (nullable a v) (nullable b v)
  nullable (greedy ks a) v = true
  nullable (level l) v = t.nullable_of l
  nullable (loop a) v = nullable a false
  nullable again v = v

  -- the terminals that begin a tree, if `f` and `v` tell those of the loop around it
  abbrev pub first : Grammar → (Terminal → Bool) → Bool → Terminal → Bool
  first (token ks) f v k = one_of ks k
  first nothing f v k = false
  first (seq a b) f v k = either (first a f v k) (both (nullable a v) (first b f v k))
  first (choice ks a b) f v k = either (first a f v k) (first b f v k)
  first (greedy ks a) f v k = first a f v k
  first (level l) f v k = t.first_of l k
  first (loop a) f v k = first a none false k
  first again f v k = f k

  -- One token decides, where a terminal of `after` may follow. Of the loop around it `f`, `v` and `w` tell what
  -- begins it, whether it has an empty tree, and what may follow it.
  abbrev pub decides : Grammar → (Terminal → Bool) → Bool → (Terminal → Bool) → (Terminal → Bool) → Bool
  decides (token ks) f v w after = true
  decides nothing f v w after = true
  decides (seq a b) f v w after =
      both (decides a f v w (λ k. either (first b f v k) (both (nullable b v) (after k)))) (decides b f v w after)
  decides (choice ks a b) f v w after =
      both (both (decides a f v w after) (decides b f v w after))
      (both (not (nullable a v))
      (every (λ k. both (implies (first a f v k) (one_of ks k))
      (both (implies (first b f v k) (not (one_of ks k)))
      (implies (both (nullable b v) (after k)) (not (one_of ks k)))))))
  decides (greedy ks a) f v w after = both (decides a f v w after)
      (both (not (nullable a v)) (every (λ k. implies (first a f v k) (one_of ks k))))
  decides (level l) f v w after = every (λ k. implies (after k) (t.follow_of l k))
  decides (loop a) f v w after =
      both (decides a (first a none false) (nullable a false) after after)
      (both (every (λ k. implies (first a (first a none false) (nullable a false) k) (first a none false k)))
      (implies (nullable a (nullable a false)) (nullable a false)))
  decides again f v w after = every (λ k. implies (after k) (w k))

  -- a level's rule is decided, and the tables are right of it
  abbrev pub level_is_decided : Level → Bool
  level_is_decided l =
      both (both (sane (t.rule l)) (closed (t.rule l)))
      (both (decides (t.rule l) none false none (t.follow_of l))
      (both (every (λ k. implies (first (t.rule l) none false k) (t.first_of l k)))
      (implies (nullable (t.rule l) false) (t.nullable_of l))))

abbrev pub all_levels : List Level
all_levels =
    block ∷ heading ∷ statement false by_end ∷ statement true by_end ∷ statement false by_until
    ∷ statement true by_until
    ∷ denoter ∷ schema ∷ variant_part ∷ factor ∷ []

-- One token decides each choice, in the grammar of whole texts and in the rules of all levels.
abbrev pub IsDecided : LevelTables → Grammar → Bool
IsDecided t g =
    both (every_of (level_is_decided t) all_levels)
    (both (both (sane g) (closed g)) (decides t g none false none none))
