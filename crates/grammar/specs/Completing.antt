-- The shortest trees, and the check that they complete whatever a reader took.
use Rattle.std.specs.Prelude.{◌∷◌, [], ℕ, Bool, List, cond, false, not, suc, true, zero}
use Rattle.grammar.specs.Deciding.{LevelTables, all_levels, both, implies}
use Rattle.grammar.specs.Grammars.{Grammar, Level, again, choice, greedy, level, loop, nothing, seq, token}
use Rattle.grammar.specs.Nodes.{Item, Node, Nothing, Pair, leaf, spell}
use Rattle.grammar.specs.Terminals.{every, every_of, one_of}
use Rattle.grammar.specs.declared.terminals.Terminal.{Terminal, TheVariants.End}

-- the first of a list of terminals
abbrev pub first_in : List Terminal → Terminal
first_in [] = End
first_in (k ∷ ks) = k

-- whether its last choice is an empty tree
abbrev pub ends_empty : Grammar → Bool
ends_empty (token ks) = false
ends_empty nothing = true
ends_empty (seq a b) = both (ends_empty a) (ends_empty b)
ends_empty (choice ks a b) = ends_empty b
ends_empty (greedy ks a) = true
ends_empty (level l) = false
ends_empty (loop a) = ends_empty a
ends_empty again = false

-- A short tree, where `brief` has those of the levels and s is that of the loop around. Its tokens have the number 0.
abbrev pub short : (Level → Node) → Grammar → Node → Node
short brief (token ks) s = leaf (first_in ks) 0
short brief nothing s = Nothing
short brief (seq a b) s = Pair (short brief a s) (short brief b s)
short brief (choice ks a b) s = cond (ends_empty b) (short brief b s) (short brief a s)
short brief (greedy ks a) s = Nothing
short brief (level l) s = brief l
short brief (loop a) s = short brief a Nothing
short brief again s = s

-- A terminal is calm if it leads into no greedy part: in front of it each such part may be left out.
module _ (calm : Terminal → Bool) where
  abbrev pub begins_calm : List Item → Bool
  begins_calm [] = true
  begins_calm (x ∷ l) = calm x.kind

  abbrev pub spares : List Terminal → Bool
  spares ks = every (λ k. implies (calm k) (not (one_of ks k)))

  -- the short tree is one in front of each calm terminal, where `has` says so of the levels and v of the loop around
  abbrev pub sure : (Level → Node) → (Level → Bool) → Grammar → Node → Bool → Bool
  sure brief has (token ks) s v = one_of ks (first_in ks)
  sure brief has nothing s v = true
  sure brief has (seq a b) s v = both (both (sure brief has a s v) (sure brief has b s v))
      (begins_calm (spell (short brief b s)))
  sure brief has (choice ks a b) s v = cond (ends_empty b) (sure brief has b s v) (sure brief has a s v)
  sure brief has (greedy ks a) s v = spares ks
  sure brief has (level l) s v = has l
  sure brief has (loop a) s v = sure brief has a Nothing false
  sure brief has again s v = v

  -- where a part breaks off, short trees of what comes after it complete the whole
  abbrev pub completes : (Level → Node) → (Level → Bool) → Grammar → Node → Bool → Bool
  completes brief has (token ks) s v = one_of ks (first_in ks)
  completes brief has nothing s v = true
  completes brief has (seq a b) s v = both (both (completes brief has a s v) (completes brief has b s v))
      (both (sure brief has b s v) (begins_calm (spell (short brief b s))))
  completes brief has (choice ks a b) s v = both (completes brief has a s v) (completes brief has b s v)
  completes brief has (greedy ks a) s v = both (completes brief has a s v) (spares ks)
  completes brief has (level l) s v = true
  completes brief has (loop a) s v = both (completes brief has a (short brief a Nothing) true)
      (sure brief has a Nothing false)
  completes brief has again s v = v

  -- short trees of the levels, in which at most d levels are nested, and whether they are trees
  module _ (rule : Level → Grammar) where
    abbrev pub brief_of : ℕ → Level → Node
    brief_of zero l = Nothing
    brief_of (suc d) l = short (brief_of d) (rule l) Nothing

    abbrev pub has_brief : ℕ → Level → Bool
    has_brief zero l = false
    has_brief (suc d) l = sure (brief_of d) (has_brief d) (rule l) Nothing false

    -- each level has a short tree, and short trees complete its rule
    abbrev pub level_completes : ℕ → Level → Bool
    level_completes d l = both (has_brief d l) (completes (brief_of d) (has_brief d) (rule l) Nothing false)

  -- short trees complete what was read of a whole text
  abbrev pub IsCompleted : ℕ → LevelTables → Grammar → Bool
  IsCompleted d t g = both (every_of (level_completes t.rule d) all_levels)
      (completes (brief_of t.rule d) (has_brief t.rule d) g Nothing false)
