-- Steps in the statements of a function's block, one after another: whether one of them assigns to the function.
use Rattle.std.proofs.Common.{◌++◌, ◌+◌, ◌-◌, ◌<◌, ◌||◌, ◌∙◌, ◌≡◌, ◌≤◌, ℕ, Bool, List, Some, ap, arith, false, length, refl, subst, suc, sym, true, zero}
use Rattle.std.proofs.lemmas.List.{length-append}
use Rattle.grammar.specs.Nodes.{Node, Pair, spell}
use Rattle.check_steps.specs.{Known.Known, Steps.◌>>=◌, Steps.Step, Steps.look, declared.words.SpelledToken.SpelledToken}
use Rattle.statement_checker.specs.Assignments.{is_inside, is_inside_from}
use Rattle.rule_laws.proofs.{Faces.assigning, ResultScopes.Leads, ResultScopes.inside_records, ResultScopes.leads_on, ResultTurns.IsSpot, ResultTurns.Spot}
use Rattle.rule_laws.proofs.{ResultTurns.Turn, ResultTurns.turn_after, ResultTypes.longer_of, Touches.Longer, Touches.Touches, Touches.longer_still}
use Rattle.rule_laws.specs.{FunctionAssignments.Search, Tokens.Has}

-- a statement part that is gone over, seen from the frame of its block
pub record PartAt : Type 0 where
  pub p : Spot
  pub is : IsSpot p
  pub block : ℕ
  pub below : block < length p.k.frames
  pub here : is_inside_from (length p.k.words - length (spell p.part)) p.k (Some block) p.function ≡ true

abbrev pub search_of : PartAt → Search
search_of a = record { k = a.p.k; function = a.p.function; frame = a.block }

pub record Ends (a : PartAt) (seen : Bool) (j i : Known) : Type 0 where
  pub turn : Turn a.p a.is seen i
  pub longer : Longer j.frames i.frames

-- a step that is seen from inside of some records
pub record Sets (a : PartAt) (records : List ℕ) (f : ℕ) (assigns : Bool) {A : Type 0} (m : Step A) : Type 0 where
  pub of : (seen : Bool) (j : Known) → Turn a.p a.is seen j → Leads j.frames a.block records f → Ends a (seen || assigns) j (m j).known

pub or_assoc : (a b c : Bool) → ((a || b) || c) ≡ (a || (b || c))
or_assoc true b c = refl
or_assoc false b c = refl

pub or_false : (b : Bool) → (b || false) ≡ b
or_false true = refl
or_false false = refl

pub sets_gives : {a : PartAt} {records : List ℕ} {f : ℕ} {b c : Bool} {A B : Type 0} (R : A → Type 0) {m : Step A} {g : A → Step B} → Sets a records f b m
    → ((k : Known) → R (m k).value) → ((x : A) → R x → Sets a records f c (g x)) → Sets a records f (b || c) (m >>= g)
unfolding ◌>>=◌
sets_gives {a = a} {records = records} {f = f} {b = b} {c = c} R {m = m} {g = g} h gives next = record {
  of = λ seen j t l.
      let d = m j in
      let i = (g d.value d.known).known in
      let one = h.of seen j t l in
      let two = (next d.value (gives j)).of (seen || b) d.known one.turn (leads_on j.frames d.known.frames one.longer a.block records f l) in
      record {
        turn = subst (λ x. Turn a.p a.is x i) (or_assoc seen b c) two.turn;
        longer = longer_still j.frames d.known.frames i.frames one.longer two.longer;
      };
}

pub sets_then : {a : PartAt} {records : List ℕ} {f : ℕ} {b c : Bool} {A B : Type 0} {m : Step A} {g : A → Step B} → Sets a records f b m
    → ((x : A) → Sets a records f c (g x)) → Sets a records f (b || c) (m >>= g)
sets_then h next = sets_gives (λ _. Unit {0}) h (λ k. tt) (λ x u. next x)

pub sets_calm : (a : PartAt) (records : List ℕ) (f : ℕ) {A : Type 0} {m : Step A} → Touches (Has a.p.part) assigning m → Sets a records f false m
sets_calm a records f {m = m} touches = record {
  of = λ seen j t l.
      let s = touches.same j in
      record { turn = subst (λ x. Turn a.p a.is x (m j).known) (sym (or_false seen)) (turn_after a.p a.is seen j (m j).known t s); longer = s.frames };
}

pub calm_gives : {a : PartAt} {records : List ℕ} {f : ℕ} {b : Bool} {A B : Type 0} (R : A → Type 0) {m : Step A} {g : A → Step B}
    → Touches (Has a.p.part) assigning m → ((k : Known) → R (m k).value) → ((x : A) → R x → Sets a records f b (g x)) → Sets a records f b (m >>= g)
calm_gives {a = a} {records = records} {f = f} R touches gives next = sets_gives R (sets_calm a records f touches) gives next

pub calm_then : {a : PartAt} {records : List ℕ} {f : ℕ} {b : Bool} {A B : Type 0} {m : Step A} {g : A → Step B} → Touches (Has a.p.part) assigning m
    → ((x : A) → Sets a records f b (g x)) → Sets a records f b (m >>= g)
calm_then {a = a} {records = records} {f = f} touches next = sets_then (sets_calm a records f touches) next

pub gives_calm : {a : PartAt} {records : List ℕ} {f : ℕ} {b : Bool} {A B : Type 0} (R : A → Type 0) {m : Step A} {g : A → Step B} → Sets a records f b m
    → ((k : Known) → R (m k).value) → ((x : A) → R x → Touches (Has a.p.part) assigning (g x)) → Sets a records f b (m >>= g)
gives_calm {a = a} {records = records} {f = f} {b = b} R {m = m} {g = g} h gives touches =
    subst (λ x. Sets a records f x (m >>= g)) (or_false b) (sets_gives R h gives (λ x r. sets_calm a records f (touches x r)))

pub sets_after : {a : PartAt} {records : List ℕ} {f : ℕ} {b : Bool} {A B : Type 0} {m : Step A} {g : A → Step B} → Sets a records f b m
    → ((x : A) → Touches (Has a.p.part) assigning (g x)) → Sets a records f b (m >>= g)
sets_after h touches = gives_calm (λ _. Unit {0}) h (λ k. tt) (λ x u. touches x)

-- what follows from what the tables say there
pub sets_looked : {a : PartAt} {records : List ℕ} {f : ℕ} {b : Bool} {A B : Type 0} (P : A → Type 0) (g : Known → A) {h : A → Step B}
    → ((seen : Bool) (j : Known) → Turn a.p a.is seen j → Leads j.frames a.block records f → P (g j)) → ((x : A) → P x → Sets a records f b (h x))
    → Sets a records f b (look g >>= h)
unfolding look ◌>>=◌
sets_looked P g says next = record { of = λ seen j t l. (next (g j) (says seen j t l)).of seen j t l }

-- ---- records around are fewer than tokens

pub record Room (p : Spot) (records : List ℕ) (x : Node) : Type 0 where
  pub enough : length records + length (spell x) ≤ length (spell p.part)

pub room_left : {p : Spot} {records : List ℕ} {x y : Node} → Room p records (Pair x y) → Room p records x
room_left {p = p} {records = records} {x = x} {y = y} r =
    let both : length (spell x ++ spell y) ≡ length (spell x) + length (spell y) = length-append (spell x) (spell y) in
    let enough : length records + length (spell x ++ spell y) ≤ length (spell p.part) = r.enough in
    record { enough = omega (arith, both, enough) }

pub room_right : {p : Spot} {records : List ℕ} {x y : Node} → Room p records (Pair x y) → Room p records y
room_right {p = p} {records = records} {x = x} {y = y} r =
    let both : length (spell x ++ spell y) ≡ length (spell x) + length (spell y) = length-append (spell x) (spell y) in
    let enough : length records + length (spell x ++ spell y) ≤ length (spell p.part) = r.enough in
    record { enough = omega (arith, both, enough) }

some_turn : (k : Known) (block token m : ℕ) → is_inside_from m k (Some block) token ≡ true → 0 < m
some_turn k block token zero e = absurd (let never : false ≡ true = e in cc)
some_turn k block token (suc m) e = omega arith

-- a frame inside of records is inside of the function's region
pub still_inside : (a : PartAt) (records : List ℕ) (f : ℕ) (x : Node) → Room a.p records x → (seen : Bool) (j : Known) → Turn a.p a.is seen j
    → Leads j.frames a.block records f → is_inside j f a.p.function ≡ true
still_inside a records f x room seen j t leads =
    let many = length a.p.k.words in
    let tokens = length (spell a.p.part) in
    let some : 0 < many - tokens = some_turn a.p.k a.block a.p.function (many - tokens) a.here in
    let enough : length records + length (spell x) ≤ tokens = room.enough in
    ap (λ (ws : List SpelledToken). is_inside_from (length ws) j (Some f) a.p.function) t.words
    ∙ inside_records a.p.k j (longer_of a.p a.is seen j t) a.block a.below a.p.function (many - tokens) a.here records f many leads
    (omega (arith, some, enough))
