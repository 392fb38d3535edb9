-- Refusals by the numbers of tokens.
use Rattle.std.proofs.Common.{◌++◌, ◌+◌, ◌<◌, ◌∙◌, ◌∷◌, ◌≡◌, ◌≤◌, ◌⊎◌, [], ℕ, Bool, Err, List, None, Ok, add-one, ap, append_assoc, arith, drop, false, inl}
use Rattle.std.proofs.Common.{inr, length, length-append, refl, subst, suc, sym, take, true, zero}
use Rattle.std.proofs.lemmas.List.{append-nil, append_cancel_left, append_cancel_right, drop_at, length-take-le, take-append-drop, take_at}
use Rattle.grammar.proofs.{DeepIsBegun.whole_reached, Deepest.deep_shaped, Deepest.whole_deep, Larger.none_in, Somewhere.whole_nested, Texts.exact}
use Rattle.grammar.proofs.Complete.{brief, freed_at, has, level_moves, moves, whole_completed, whole_completes}
use Rattle.grammar.proofs.Exact.{done, err_is, failed, ok_no_err, same_next}
use Rattle.grammar.proofs.Hopeless.{surplus_hopeless, unfit_hopeless, unfit_no_deep, whole_local}
use Rattle.grammar.specs.{Completing.IsCompleted, Deciding.IsDecided, Deciding.LevelTables, Grammars.FreeIn, Grammars.Grammar, Grammars.IsNone, Laws.NoneGoesOn}
use Rattle.grammar.specs.{Nesting.BeginsDeep, Nesting.IsShaped, Nesting.Nested, Reaching.IsReaching, declared.terminals.Terminal.Terminal}
use Rattle.grammar.specs.Nodes.{Item, Node, Nothing, next, spell}
use Rattle.grammar.specs.Reading.{Deep, Read, Refusal, Unfit, read, unread_of}
use Rattle.grammar.specs.Refusals.{BeginsWith, IsFirstHopelessBy, IsFirstTooDeepBy, IsHopeless, IsLeast, IsTooDeep, NoneTooDeep, StopsAt}

-- ---- lists cut at a token

pub record Cut (l : List Item) (i : ℕ) : Type 0 where
  pub here : Item
  pub rest : List Item
  pub whole : l ≡ take i l ++ here ∷ rest
  pub upto : take (suc i) l ≡ take i l ++ here ∷ []
  pub from : drop i l ≡ here ∷ rest

pub cut : (l : List Item) (i : ℕ) → i < length l → Cut l i
cut [] i h = absurd (omega arith)
cut (x ∷ l) zero h = record { here = x; rest = l; whole = refl; upto = refl; from = refl }
cut (x ∷ l) (suc i) h =
    let c = cut l i (omega arith) in
    record { here = c.here; rest = c.rest; whole = ap (λ (m : List Item). x ∷ m) c.whole; upto = ap (λ (m : List Item). x ∷ m) c.upto; from = c.from }

-- after a front of this many tokens
pub record Behind (l front : List Item) (z : Item) (rest : List Item) : Type 0 where
  pub inside : length front < length l
  pub front_is : take (length front) l ≡ front
  pub upto : take (length front + 1) l ≡ front ++ z ∷ []
  pub from : drop (length front) l ≡ z ∷ rest

pub behind : (l front : List Item) (z : Item) (rest : List Item) → l ≡ front ++ z ∷ rest → Behind l front z rest
behind l front z rest e =
    let more : l ≡ (front ++ z ∷ []) ++ rest = e ∙ sym (append_assoc front (z ∷ []) rest) in
    let len : length (front ++ z ∷ []) ≡ length front + 1 = omega (arith, length-append front (z ∷ [])) in
    record {
      inside = omega (arith, ap length e, length-append front (z ∷ rest));
      front_is = ap (take (length front)) e ∙ take_at front (z ∷ rest) (length front) refl;
      upto = ap (take (length front + 1)) more ∙ take_at (front ++ z ∷ []) rest (length front + 1) len;
      from = ap (drop (length front)) e ∙ drop_at front (z ∷ rest) (length front) refl;
    }

-- what begins with a front begins with each of its tokens
begins_before : (spelling l front left more : List Item) (j : ℕ) → spelling ≡ front ++ more → l ≡ front ++ left → j < length front → BeginsWith spelling l j
begins_before spelling l front left more j e whole h =
    let c = cut front j h in
    let len : length (take j front) ≡ j = length-take-le j front (omega arith) in
    let cuts : (w : List Item) → front ++ w ≡ (take j front ++ c.here ∷ []) ++ (c.rest ++ w) =
    λ w. ap (λ (f : List Item). f ++ w) c.whole ∙ append_assoc (take j front) (c.here ∷ c.rest) w ∙ sym
    (append_assoc (take j front) (c.here ∷ []) (c.rest ++ w)) in
    let here : take (j + 1) l ≡ take j front ++ c.here ∷ [] =
    ap (take (j + 1)) (whole ∙ cuts left) ∙ take_at (take j front ++ c.here ∷ []) (c.rest ++ left) (j + 1)
    (omega (arith, length-append (take j front) (c.here ∷ []), len)) in
    (c.rest ++ more, e ∙ cuts more ∙ ap (λ (f : List Item). f ++ (c.rest ++ more)) (sym here))

-- the least number is one
pub same_least : (P : ℕ → Type 0) (i j : ℕ) → IsLeast P i → IsLeast P j → i ≡ j
same_least P i j p q = let a : i < j → ⊥ = λ h. q.1 i h p.0 in let b : j < i → ⊥ = λ h. p.1 j h q.0 in omega arith

module _ (t : LevelTables) (g : Grammar) (ok : IsDecided t g ≡ true) (n : ℕ) where
  -- ---- a token that is too deep is refused as too deep there or before

  found_deep : (front : List Item) (z : Item) (rest more : List Item) (x : Node) → spell x ≡ front ++ z ∷ more → BeginsDeep t n g x front
      → (a : List Item) × (b : List Item) × (front ≡ a ++ b) × (read t n g (front ++ z ∷ rest) ≡ Err (Deep (b ++ z ∷ rest)))
  found_deep front z rest more x e m =
      let d = whole_deep t g ok n x front m in
      let a = d.0.0 in
      let back = d.0.1 in
      let s = whole_local t g ok n (spell x ++ []) (Deep (back ++ [])) d.0.3 in
      let same : s.front ≡ a = append_cancel_right s.front a (back ++ []) (sym s.whole ∙ ap (λ (l : List Item). l ++ []) d.0.2 ∙ append_assoc a back []) in
      let back_is : back ≡ d.1 ++ z ∷ more = append_cancel_left a back (d.1 ++ z ∷ more)
      (sym d.0.2 ∙ e ∙ ap (λ (l : List Item). l ++ z ∷ more) d.2 ∙ append_assoc a d.1 (z ∷ more)) in
      let at : next (d.1 ++ z ∷ rest) ≡ next (back ++ []) = same_next d.1 (z ∷ rest) (z ∷ more) refl ∙ ap next (sym (append-nil back ∙ back_is)) in
      let list : front ++ z ∷ rest ≡ s.front ++ (d.1 ++ z ∷ rest) =
      ap (λ (l : List Item). l ++ z ∷ rest) d.2 ∙ append_assoc a d.1 (z ∷ rest) ∙ ap (λ (l : List Item). l ++ (d.1 ++ z ∷ rest)) (sym same) in
      (a, d.1, d.2, ap (read t n g) list ∙ s.again (d.1 ++ z ∷ rest) at)

  -- the text from a token on that is refused, and is not after token i
  pub record DeepUpTo (l : List Item) (i : ℕ) : Type 0 where
    pub front : List Item
    pub here : Item
    pub rest : List Item
    pub whole : l ≡ front ++ here ∷ rest
    pub before : length front ≤ i
    pub refused : read t n g l ≡ Err (Deep (here ∷ rest))

  begun_here : (b : List Item) (z : Item) (rest : List Item) → (y : Item) × (more : List Item) × (b ++ z ∷ rest ≡ y ∷ more)
  begun_here [] z rest = (z, rest, refl)
  begun_here (y ∷ b) z rest = (y, b ++ z ∷ rest, refl)

  found_up_to : (l front a b : List Item) (z : Item) (rest : List Item) (i : ℕ) → l ≡ front ++ z ∷ rest → length front ≡ i → front ≡ a ++ b
      → read t n g (front ++ z ∷ rest) ≡ Err (Deep (b ++ z ∷ rest)) → DeepUpTo l i
  found_up_to l front a b z rest i whole len parts e =
      let y = begun_here b z rest in
      record {
        front = a;
        here = y.0;
        rest = y.1;
        whole = whole ∙ ap (λ (p : List Item). p ++ z ∷ rest) parts ∙ append_assoc a b (z ∷ rest) ∙ ap (λ (p : List Item). a ++ p) y.2;
        before = omega (arith, length-append a b, ap length parts);
        refused = ap (read t n g) whole ∙ e ∙ ap (λ (p : List Item). failed (Deep p)) y.2;
      }

  pub deep_up_to : (l : List Item) (i : ℕ) → IsTooDeep t n g l i → DeepUpTo l i
  deep_up_to l i m =
      let c = cut l i m.0 in
      let more = m.1.2.0 in
      let spells : spell m.1.0 ≡ take i l ++ c.here ∷ more =
      m.1.2.1 ∙ ap (λ (k : ℕ). take k l ++ more) (add-one i) ∙ ap (λ (f : List Item). f ++ more) c.upto ∙ append_assoc (take i l) (c.here ∷ []) more in
      let f = found_deep (take i l) c.here c.rest more m.1.0 spells m.1.3 in
      found_up_to l (take i l) f.0 f.1 c.here c.rest i c.whole (length-take-le i l (let h = m.0 in omega arith)) f.2 f.3

  pub read_none_deep : (l : List Item) (y : Node × List Item) → read t n g l ≡ Ok y → NoneTooDeep t n g l
  read_none_deep l y e i m = let d = deep_up_to l i m in ok_no_err y (Deep (d.here ∷ d.rest)) (sym e ∙ d.refused)

  pub unfit_none_deep : (l left : List Item) → read t n g l ≡ Err (Unfit left) → NoneTooDeep t n g l
  unfit_none_deep l left e i m = let d = deep_up_to l i m in unfit_no_deep left (d.here ∷ d.rest) (sym e ∙ d.refused)

  -- ---- a token that is unfit is hopeless

  none_begins : (l : List Item) (i : ℕ) → i < length l → NoneGoesOn (IsShaped t g) l (drop i l) → IsHopeless t g l i
  none_begins l i h r =
      let c = cut l i h in
      let front : r.0 ≡ take i l = append_cancel_right r.0 (take i l) (drop i l) (sym r.1 ∙ sym (take-append-drop i l)) in (
        h,
        λ x s b.
            let same : spell x ≡ r.0 ++ (c.here ∷ b.0) =
            b.1 ∙ ap (λ (k : ℕ). take k l ++ b.0) (add-one i) ∙ ap (λ (f : List Item). f ++ b.0) c.upto ∙ append_assoc (take i l) (c.here ∷ []) b.0 ∙ ap
            (λ (f : List Item). f ++ c.here ∷ b.0) (sym front) in
            r.2 x (c.here ∷ b.0) s same (sym (ap next c.from)),
      )

  pub stop_hopeless : (l : List Item) (i : ℕ) → i < length l → StopsAt t n g l i → IsHopeless t g l i
  stop_hopeless l i h s =
      elim s [
        | inl e ↦ none_begins l i h (unfit_hopeless t g ok n l (drop i l) e)
        | inr e ↦
            let c = cut l i h in
            let e' : read t n g l ≡ Ok (e.0, c.here ∷ c.rest) = e.1 ∙ ap (λ (p : List Item). done (e.0, p)) c.from in
            none_begins l i h (subst (NoneGoesOn (IsShaped t g) l) (sym c.from) (surplus_hopeless t g ok n l e.0 c.here c.rest e'))
      ]

  pub stop_none_deep : (l : List Item) (i : ℕ) → StopsAt t n g l i → NoneTooDeep t n g l
  stop_none_deep l i s = elim s [ inl e ↦ unfit_none_deep l (drop i l) e | inr e ↦ read_none_deep l (e.0, drop i l) e.1 ]

  module _ (calm : Terminal → Bool) (d : ℕ) (full : IsCompleted calm d t g ≡ true) where
    -- ---- no token before the refused one is

    -- what was read begins the spelling of a shaped tree
    record Begun (l left : List Item) : Type 0 where
      pub front : List Item
      pub whole : l ≡ front ++ left
      pub tree : Node
      pub more : List Item
      pub shaped : IsShaped t g tree
      pub begins : spell tree ≡ front ++ more

    refused_begun : (l : List Item) (r : Refusal) → read t n g l ≡ Err r → Begun l (unread_of r)
    refused_begun l r e = let s = whole_completed calm t g ok d full n l r e in record {
      front = s.0;
      whole = s.1;
      tree = s.2;
      more = s.3;
      shaped = s.4;
      begins = s.5;
    }

    -- a tree in front of a token is one in front of the end
    read_begun : (l : List Item) (x : Node) (rest : List Item) → read t n g l ≡ Ok (x, rest) → Begun l rest
    read_begun l x rest e =
        let s = (exact t g ok n).sound l x rest e in
        let free : FreeIn (Nested t.rule) g IsNone x (next rest) = freed_at calm t g ok d full n g IsNone IsNone (none_in IsNone) x (next rest) s.1 in
        let there = moves calm (brief calm t g ok d full) (has calm t g ok d full) (Nested t.rule) (level_moves calm t g ok d full) g Nothing false
        (whole_completes calm t g ok d full) IsNone (λ x h i c r. absurd r) x (next rest) None tt free in
        record { front = spell x; whole = s.0; tree = x; more = []; shaped = whole_nested t.rule g x None there; begins = sym (append-nil (spell x)) }

    begun_not : (l left : List Item) → Begun l left → (j : ℕ) → j + length left < length l → IsHopeless t g l j → ⊥
    begun_not l left b j h m =
        m.1 b.tree b.shaped (begins_before (spell b.tree) l b.front left b.more j b.begins b.whole
        (omega (arith, h, ap length b.whole, length-append b.front left)))

    length-from : (l : List Item) (i : ℕ) → i < length l → i + length (drop i l) ≡ length l
    length-from l i h = omega (arith, ap length (take-append-drop i l), length-append (take i l) (drop i l), length-take-le i l (omega arith))

    stop_begun : (l : List Item) (i : ℕ) → StopsAt t n g l i → Begun l (drop i l)
    stop_begun l i s = elim s [ inl e ↦ refused_begun l (Unfit (drop i l)) e | inr e ↦ read_begun l e.0 (drop i l) e.1 ]

    pub stop_first : (l : List Item) (i : ℕ) → i < length l → StopsAt t n g l i → IsFirstHopelessBy t n g l i
    stop_first l i h s =
        (stop_none_deep l i s, (stop_hopeless l i h s, λ j less m. begun_not l (drop i l) (stop_begun l i s) j (let e = length-from l i h in omega arith) m))

    -- nothing is hopeless in a text that is read
    pub read_none_hopeless : (l : List Item) (x : Node) → read t n g l ≡ Ok (x, []) → (j : ℕ) → IsHopeless t g l j → ⊥
    read_none_hopeless l x e j m = begun_not l [] (read_begun l x [] e) j (let h = m.0 in omega arith) m

    refused_none_hopeless : (l : List Item) (r : Refusal) → read t n g l ≡ Err r → unread_of r ≡ [] → (j : ℕ) → IsHopeless t g l j → ⊥
    refused_none_hopeless l r e z j m = begun_not l (unread_of r) (refused_begun l r e) j (let h = m.0 in omega (arith, ap length z)) m

    -- ---- and back

    module _ (reaching : IsReaching t d g ≡ true) where
      -- where reading comes too deep, the token is too deep, and none before it
      pub deep_first : (l : List Item) (i : ℕ) → i < length l → read t n g l ≡ Err (Deep (drop i l)) → IsFirstTooDeepBy t n g l i
      deep_first l i h e =
          let c = cut l i h in
          let e' : read t n g l ≡ Err (Deep (c.here ∷ c.rest)) = e ∙ ap (λ (p : List Item). failed (Deep p)) c.from in
          let s = whole_reached calm t g ok d full reaching n l c.here c.rest e' in
          let front : s.0 ≡ take i l = append_cancel_right s.0 (take i l) (c.here ∷ c.rest) (sym s.1 ∙ c.whole) in
          let spells : spell s.2 ≡ take (i + 1) l ++ s.3 =
          s.4 ∙ ap (λ (f : List Item). f ++ c.here ∷ s.3) front ∙ sym (append_assoc (take i l) (c.here ∷ []) s.3) ∙ ap (λ (f : List Item). f ++ s.3)
          (sym c.upto) ∙ ap (λ (k : ℕ). take k l ++ s.3) (sym (add-one i)) in (
            (h, (s.2, deep_shaped t n g s.2 s.0 s.5, (s.3, spells), subst (BeginsDeep t n g s.2) front s.5)),
            λ j less m.
                let p = deep_up_to l j m in
                let rests : p.here ∷ p.rest ≡ c.here ∷ c.rest = ap unread_of (err_is (Deep (p.here ∷ p.rest)) (Deep (c.here ∷ c.rest)) (sym p.refused ∙ e')) in
                let lens : length p.front ≡ length (take i l) = ap length
                (append_cancel_right p.front (take i l) (c.here ∷ c.rest) (sym (ap (λ (q : List Item). p.front ++ q) rests) ∙ sym p.whole ∙ c.whole)) in
                omega (arith, p.before, length-take-le i l (omega arith), lens),
          )

      -- the place of a refused token
      deep_at : (l front : List Item) (z : Item) (rest : List Item) → l ≡ front ++ z ∷ rest → read t n g l ≡ Err (Deep (z ∷ rest))
          → IsFirstTooDeepBy t n g l (length front)
      deep_at l front z rest whole e = let b = behind l front z rest whole in deep_first l (length front) b.inside
          (e ∙ ap (λ (p : List Item). failed (Deep p)) (sym b.from))

      stop_at : (l front : List Item) (z : Item) (rest : List Item) → l ≡ front ++ z ∷ rest
          → ((read t n g l ≡ Err (Unfit (z ∷ rest))) ⊎ ((x : Node) × (read t n g l ≡ Ok (x, z ∷ rest)))) → StopsAt t n g l (length front)
      stop_at l front z rest whole s =
          let b = behind l front z rest whole in
          elim s [
            | inl e ↦ inl (e ∙ ap (λ (p : List Item). failed (Unfit p)) (sym b.from))
            | inr e ↦ inr
                (e.0, e.1 ∙ ap (λ (p : List Item). done (e.0, p)) (sym b.from))
          ]

      -- the first token that is too deep is refused so
      pub first_deep : (l : List Item) (i : ℕ) → IsFirstTooDeepBy t n g l i → read t n g l ≡ Err (Deep (drop i l))
      first_deep l i m =
          let p = deep_up_to l i m.0 in
          let b = behind l p.front p.here p.rest p.whole in
          let same : length p.front ≡ i = same_least (IsTooDeep t n g l) (length p.front) i (deep_at l p.front p.here p.rest p.whole p.refused) m in
          p.refused ∙ ap (λ (q : List Item). failed (Deep q)) (sym b.from) ∙ ap (λ (k : ℕ). failed (Deep (drop k l))) same

      -- at the first hopeless one reading stops
      stops_so : (l front : List Item) (z : Item) (rest : List Item) (i : ℕ) → l ≡ front ++ z ∷ rest
          → ((read t n g l ≡ Err (Unfit (z ∷ rest))) ⊎ ((x : Node) × (read t n g l ≡ Ok (x, z ∷ rest)))) → IsLeast (IsHopeless t g l) i → StopsAt t n g l i
      stops_so l front z rest i whole s m =
          let b = behind l front z rest whole in
          let there = stop_at l front z rest whole s in
          subst (StopsAt t n g l) (same_least (IsHopeless t g l) (length front) i (stop_first l (length front) b.inside there).1 m) there

      by_rest : (l front left : List Item) (i : ℕ) → l ≡ front ++ left → ((read t n g l ≡ Err (Unfit left)) ⊎ ((x : Node) × (read t n g l ≡ Ok (x, left))))
          → IsLeast (IsHopeless t g l) i → StopsAt t n g l i
      by_rest l front [] i whole s m = elim s [
        | inl e ↦ absurd (refused_none_hopeless l (Unfit []) e refl i m.0)
        | inr e ↦ absurd (read_none_hopeless l e.0 e.1 i m.0)
      ]
      by_rest l front (z ∷ rest) i whole s m = stops_so l front z rest i whole s m

      never_deep : (l front left : List Item) (i : ℕ) → l ≡ front ++ left → read t n g l ≡ Err (Deep left) → NoneTooDeep t n g l → IsHopeless t g l i → ⊥
      never_deep l front [] i whole e no_deep m = refused_none_hopeless l (Deep []) e refl i m
      never_deep l front (z ∷ rest) i whole e no_deep m = no_deep (length front) (deep_at l front z rest whole e).0

      by_answer : (l : List Item) (i : ℕ) (r : Read) → read t n g l ≡ r → IsFirstHopelessBy t n g l i → StopsAt t n g l i
      by_answer l i (Ok x) e m = let s = (exact t g ok n).sound l x.0 x.1 e in by_rest l (spell x.0) x.1 i s.0 (inr (x.0, e)) m.1
      by_answer l i (Err (Unfit left)) e m = let s = whole_local t g ok n l (Unfit left) e in by_rest l s.front left i s.whole (inl e) m.1
      by_answer l i (Err (Deep left)) e m = let s = whole_local t g ok n l (Deep left) e in absurd (never_deep l s.front left i s.whole e m.0 m.1.0)

      pub first_stop : (l : List Item) (i : ℕ) → IsFirstHopelessBy t n g l i → StopsAt t n g l i
      first_stop l i m = by_answer l i (read t n g l) refl m
