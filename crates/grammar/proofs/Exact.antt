-- A reader is exact for a set of trees where it reads what they spell, reads nothing else, and refuses no token
-- with which the spelling of one of them goes on.
use Rattle.std.proofs.Common.{◌++◌, ◌∙◌, ◌∷◌, ◌≡◌, ◌⊎◌, [], Bool, Err, List, None, Ok, Option, ap, append_assoc, cond, false, inl, inr, refl, subst, sym, true}
use Rattle.grammar.specs.{Terminals.one_of, Terminals.passes, Tested.IsChoice, declared.terminals.Terminal.Terminal}
use Rattle.grammar.specs.Grammars.{IsLeaf, IsNone, IsNothing, IsPair}
use Rattle.grammar.specs.Nodes.{Item, Leaf, Node, Nothing, Pair, ahead, next, spell}
use Rattle.grammar.specs.Reading.{◌>>=◌, Read, Refusal, Unfit, then_pair, token_at, unfit_here, unread_of}

-- No tree has a spelling that begins as the list does, up to the token where `left` begins.
abbrev pub Refuses : (Node → Option Terminal → Type 0) → List Item → List Item → Type 0
Refuses P l left = (front : List Item) × (l ≡ front ++ left) ×
    ((x : Node) (rest more : List Item) → P x (next rest) → spell x ++ rest ≡ front ++ more → next more ≡ next left → ⊥)

pub record Exact (P : Node → Option Terminal → Type 0) (p : List Item → Read) : Type 0 where
  pub sound : (l : List Item) (x : Node) (rest : List Item) → p l ≡ Ok (x, rest) → (l ≡ spell x ++ rest) × P x (next rest)
  pub again : (x : Node) (rest : List Item) → P x (next rest) → p (spell x ++ rest) ≡ Ok (x, rest)
  pub refused : (l : List Item) (r : Refusal) → p l ≡ Err r → Refuses P l (unread_of r)

-- ---- tools

pub bind_ok : (r : Read) (f : Node × List Item → Read) (y : Node × List Item) → (r >>= f) ≡ Ok y → (x : Node × List Item) × (r ≡ Ok x) × (f x ≡ Ok y)
bind_ok (Ok x) f y e = (x, refl, e)
bind_ok (Err d) f y e = absurd cc

pub bind_err : (r : Read) (f : Node × List Item → Read) (d : Refusal) → (r >>= f) ≡ Err d → (r ≡ Err d) ⊎ ((x : Node × List Item) × (r ≡ Ok x) × (f x ≡ Err d))
bind_err (Ok x) f d e = inr (x, refl, e)
bind_err (Err r) f d e = inl e

abbrev pub done : Node × List Item → Read
done x = Ok x

abbrev pub failed : Refusal → Read
failed x = Err x

pub ok_is : (x y : Node × List Item) → done x ≡ done y → x ≡ y
ok_is x y e = cc

pub err_is : (x y : Refusal) → failed x ≡ failed y → x ≡ y
err_is x y e = cc

pub ok_no_err : (x : Node × List Item) (r : Refusal) → done x ≡ failed r → ⊥
ok_no_err x r e = cc

pub ahead_append : (a b : List Item) (h : Option Terminal) → ahead (a ++ b) h ≡ ahead a (ahead b h)
ahead_append [] b h = refl
ahead_append (x ∷ a) b h = refl

-- a list that begins as another does up to the token after front
pub same_next : (front more left : List Item) → next more ≡ next left → next (front ++ more) ≡ next (front ++ left)
same_next [] more left e = e
same_next (x ∷ front) more left e = refl

pub ok_or_err : (b : Bool) (x y : Read) (z : Read) → cond b x y ≡ z → ((b ≡ true) × (x ≡ z)) ⊎ ((b ≡ false) × (y ≡ z))
ok_or_err true x y z e = inl (refl, e)
ok_or_err false x y z e = inr (refl, e)

-- ---- one token

token_sound : (ks : List Terminal) (l : List Item) (x : Node) (rest : List Item) → token_at ks l ≡ Ok (x, rest) → (l ≡ spell x ++ rest) × IsLeaf ks x
token_sound ks [] x rest e = absurd cc
token_sound ks (y ∷ l) x rest e =
    elim (ok_or_err (one_of ks y.kind) (Ok (Leaf y, l)) (Err (Unfit (y ∷ l))) (Ok (x, rest)) e) [
      | inl h ↦ subst (λ (z : Node × List Item). (y ∷ l ≡ spell z.0 ++ z.1) × IsLeaf ks z.0) (ok_is (Leaf y, l) (x, rest) h.1) (refl, h.0)
      | inr h ↦ absurd (ok_no_err (x, rest) (Unfit (y ∷ l)) (sym h.1))
    ]

token_again : (ks : List Terminal) (x : Node) (rest : List Item) → IsLeaf ks x → token_at ks (spell x ++ rest) ≡ Ok (x, rest)
token_again ks (Leaf item) rest h = rw h refl
token_again ks Nothing rest h = absurd h
token_again ks (Pair a b) rest h = absurd h

-- no leaf that passes is where the list has another kind
no_leaf : (ks : List Terminal) (x : Node) (rest more : List Item) → IsLeaf ks x → spell x ++ rest ≡ more → passes ks (next more) ≡ true
no_leaf ks (Leaf item) rest more h e = subst (λ (m : List Item). passes ks (next m) ≡ true) e h
no_leaf ks Nothing rest more h e = absurd h
no_leaf ks (Pair a b) rest more h e = absurd h

-- where a token is refused
pub token_fails : (ks : List Terminal) (l : List Item) (r : Refusal) → token_at ks l ≡ Err r → (failed (Unfit l) ≡ Err r) × (passes ks (next l) ≡ false)
token_fails ks [] r e = (e, refl)
token_fails ks (x ∷ l) r e =
    elim (ok_or_err (one_of ks x.kind) (Ok (Leaf x, l)) (Err (Unfit (x ∷ l))) (Err r) e) [
      | inl h ↦ absurd (ok_no_err (Leaf x, l) r h.1)
      | inr h ↦ (h.1, h.0)
    ]

token_refused : (ks : List Terminal) (l : List Item) (r : Refusal) → token_at ks l ≡ Err r → Refuses (λ x h. IsLeaf ks x) l (unread_of r)
token_refused ks l r e =
    let f = token_fails ks l r e in
    let is : l ≡ unread_of r = ap unread_of (err_is (Unfit l) r f.0) in (
      [],
      is,
      λ x rest more h same at.
          let p : passes ks (next more) ≡ true = no_leaf ks x rest more h same in
          let q : passes ks (next more) ≡ false = subst (λ (k : Option Terminal). passes ks k ≡ false) (sym (at ∙ ap next (sym is))) f.1 in
          cc,
    )

pub token_exact : (ks : List Terminal) → Exact (λ x h. IsLeaf ks x) (token_at ks)
token_exact ks = record { sound = token_sound ks; again = λ x rest h. token_again ks x rest h; refused = token_refused ks }

-- ---- nothing

nothing_again : (x : Node) (rest : List Item) → IsNothing x → done (Nothing, spell x ++ rest) ≡ Ok (x, rest)
nothing_again (Leaf item) rest h = absurd h
nothing_again Nothing rest h = refl
nothing_again (Pair a b) rest h = absurd h

pub nothing_exact : Exact (λ x h. IsNothing x) (λ l. Ok (Nothing, l))
nothing_exact = record {
  sound = λ l x rest e. subst (λ (z : Node × List Item). (l ≡ spell z.0 ++ z.1) × IsNothing z.0) (ok_is (Nothing, l) (x, rest) e) (refl, tt);
  again = nothing_again;
  refused = λ l r e. absurd (ok_no_err (Nothing, l) r e);
}

-- ---- no tree at all

pub none_exact : Exact IsNone unfit_here
none_exact = record {
  sound = λ l x rest e. absurd (ok_no_err (x, rest) (Unfit l) (sym e));
  again = λ x rest h. absurd h;
  refused = λ l r e. ([], ap unread_of (err_is (Unfit l) r e), λ x rest more h same at. h);
}

-- ---- one after the other

module _ (P Q : Node → Option Terminal → Type 0) (p q : List Item → Read) (exact : Exact P p) (exact' : Exact Q q) where
  pair_sound : (l : List Item) (x : Node) (rest : List Item) → then_pair (p l) q ≡ Ok (x, rest) → (l ≡ spell x ++ rest) × IsPair P Q x (next rest)
  pair_sound l x rest e =
      let a = bind_ok (p l) (λ x. q x.1 >>= λ y. Ok (Pair x.0 y.0, y.1)) (x, rest) e in
      let b = bind_ok (q a.0.1) (λ y. Ok (Pair a.0.0 y.0, y.1)) (x, rest) a.2 in
      let s = exact.sound l a.0.0 a.0.1 a.1 in
      let t = exact'.sound a.0.1 b.0.0 b.0.1 b.1 in
      let whole : l ≡ (spell a.0.0 ++ spell b.0.0) ++ b.0.1 =
      s.0 ∙ ap (λ (m : List Item). spell a.0.0 ++ m) t.0 ∙ sym (append_assoc (spell a.0.0) (spell b.0.0) b.0.1) in
      let at : next a.0.1 ≡ ahead (spell b.0.0) (next b.0.1) = ap next t.0 ∙ ahead_append (spell b.0.0) b.0.1 None in
      subst (λ (z : Node × List Item). (l ≡ spell z.0 ++ z.1) × IsPair P Q z.0 (next z.1)) (ok_is (Pair a.0.0 b.0.0, b.0.1) (x, rest) b.2)
      (whole, (subst (P a.0.0) at s.1, t.1))

  pair_again : (x : Node) (rest : List Item) → IsPair P Q x (next rest) → then_pair (p (spell x ++ rest)) q ≡ Ok (x, rest)
  pair_again (Leaf item) rest h = absurd h
  pair_again Nothing rest h = absurd h
  pair_again (Pair a b) rest h =
      let at : ahead (spell b) (next rest) ≡ next (spell b ++ rest) = sym (ahead_append (spell b) rest None) in
      let first : p (spell a ++ (spell b ++ rest)) ≡ Ok (a, spell b ++ rest) = exact.again a (spell b ++ rest) (subst (P a) at h.0) in
      rw (append_assoc (spell a) (spell b) rest, first, exact'.again b rest h.1) refl

  no_first : (front left : List Item) → ((x : Node) (rest more : List Item) → P x (next rest) → spell x ++ rest ≡ front ++ more → next more ≡ next left → ⊥)
      → (x : Node) (rest more : List Item) → IsPair P Q x (next rest) → spell x ++ rest ≡ front ++ more → next more ≡ next left → ⊥
  no_first front left none (Leaf item) rest more h same at = h
  no_first front left none Nothing rest more h same at = h
  no_first front left none (Pair a b) rest more h same at =
      none a (spell b ++ rest) more (subst (P a) (sym (ahead_append (spell b) rest None)) h.0) (sym (append_assoc (spell a) (spell b) rest) ∙ same) at

  no_second : (a : Node) (front m left : List Item) → P a (next m) → m ≡ front ++ left
      → ((x : Node) (rest more : List Item) → Q x (next rest) → spell x ++ rest ≡ front ++ more → next more ≡ next left → ⊥)
      → (x : Node) (rest more : List Item) → IsPair P Q x (next rest) → spell x ++ rest ≡ (spell a ++ front) ++ more → next more ≡ next left → ⊥
  no_second a front m left fits whole none (Leaf item) rest more h same at = h
  no_second a front m left fits whole none Nothing rest more h same at = h
  no_second a front m left fits whole none (Pair x y) rest more h same at =
      let e : spell x ++ (spell y ++ rest) ≡ spell a ++ (front ++ more) =
      sym (append_assoc (spell x) (spell y) rest) ∙ same ∙ append_assoc (spell a) front more in
      let one : p (spell x ++ (spell y ++ rest)) ≡ Ok (x, spell y ++ rest) =
      exact.again x (spell y ++ rest) (subst (P x) (sym (ahead_append (spell y) rest None)) h.0) in
      let head : next m ≡ next (front ++ more) = ap next whole ∙ sym (same_next front more left at) in
      let two : p (spell a ++ (front ++ more)) ≡ Ok (a, front ++ more) = exact.again a (front ++ more) (subst (P a) head fits) in
      let both : (x, spell y ++ rest) ≡ (a, front ++ more) = ok_is (x, spell y ++ rest) (a, front ++ more) (sym one ∙ ap p e ∙ two) in
      none y rest more h.1 (ap (λ (z : Node × List Item). z.1) both) at

  pair_refused : (l : List Item) (r : Refusal) → then_pair (p l) q ≡ Err r → Refuses (IsPair P Q) l (unread_of r)
  pair_refused l r e =
      elim (bind_err (p l) (λ x. q x.1 >>= λ y. Ok (Pair x.0 y.0, y.1)) r e) [
        | inl h ↦ let s = exact.refused l r h in (s.0, s.1, no_first s.0 (unread_of r) s.2)
        | inr h ↦
            elim (bind_err (q h.0.1) (λ y. Ok (Pair h.0.0 y.0, y.1)) r h.2) [
              | inl g ↦
                  let s = exact.sound l h.0.0 h.0.1 h.1 in
                  let t = exact'.refused h.0.1 r g in (
                    spell h.0.0 ++ t.0,
                    s.0 ∙ ap (λ (m : List Item). spell h.0.0 ++ m) t.1 ∙ sym (append_assoc (spell h.0.0) t.0 (unread_of r)),
                    no_second h.0.0 t.0 h.0.1 (unread_of r) s.1 t.1 t.2,
                  )
              | inr g ↦ absurd (ok_no_err (Pair h.0.0 g.0.0, g.0.1) r g.2)
            ]
      ]

  pub pair_exact : Exact (IsPair P Q) (λ l. then_pair (p l) q)
  pair_exact = record { sound = pair_sound; again = pair_again; refused = pair_refused }

-- ---- a choice by the next token

abbrev pub choose : List Terminal → (List Item → Read) → (List Item → Read) → List Item → Read
choose ks p q l = cond (passes ks (next l)) (p l) (q l)

-- the first token of a tree and what follows
pub first_of_tree : (l : List Item) (x : Node) (rest : List Item) → l ≡ spell x ++ rest → next l ≡ ahead (spell x) (next rest)
first_of_tree l x rest e = ap next e ∙ ahead_append (spell x) rest None

-- what begins as l does begins with the same token
pub first_again : (l front left : List Item) (x : Node) (rest more : List Item) → l ≡ front ++ left → spell x ++ rest ≡ front ++ more → next more ≡ next left
    → ahead (spell x) (next rest) ≡ next l
first_again l front left x rest more whole same at =
    sym (ahead_append (spell x) rest None) ∙ ap next same ∙ same_next front more left at ∙ sym (ap next whole)

pub tests_differ : (ks : List Terminal) (j k : Option Terminal) → passes ks j ≡ true → passes ks k ≡ false → j ≡ k → ⊥
tests_differ ks j k a b e = let c : passes ks k ≡ true = subst (λ (i : Option Terminal). passes ks i ≡ true) e a in absurd cc

module _ (ks : List Terminal) (P Q : Node → Option Terminal → Type 0) (p q : List Item → Read) (exact : Exact P p) (exact' : Exact Q q) where
  choice_sound : (l : List Item) (x : Node) (rest : List Item) → choose ks p q l ≡ Ok (x, rest) → (l ≡ spell x ++ rest) × IsChoice ks P Q x (next rest)
  choice_sound l x rest e =
      elim (ok_or_err (passes ks (next l)) (p l) (q l) (Ok (x, rest)) e) [
        | inl h ↦ let s = exact.sound l x rest h.1 in (s.0, inl (subst (λ (k : Option Terminal). passes ks k ≡ true) (first_of_tree l x rest s.0) h.0, s.1))
        | inr h ↦ let s = exact'.sound l x rest h.1 in (s.0, inr (subst (λ (k : Option Terminal). passes ks k ≡ false) (first_of_tree l x rest s.0) h.0, s.1))
      ]

  choice_again : (x : Node) (rest : List Item) → IsChoice ks P Q x (next rest) → choose ks p q (spell x ++ rest) ≡ Ok (x, rest)
  choice_again x rest h =
      elim h [
        | inl g ↦ let b : passes ks (next (spell x ++ rest)) ≡ true =
            subst (λ (k : Option Terminal). passes ks k ≡ true) (sym (ahead_append (spell x) rest None)) g.0 in rw b (exact.again x rest g.1)
        | inr g ↦ let b : passes ks (next (spell x ++ rest)) ≡ false =
            subst (λ (k : Option Terminal). passes ks k ≡ false) (sym (ahead_append (spell x) rest None)) g.0 in rw b (exact'.again x rest g.1)
      ]

  choice_refused : (l : List Item) (r : Refusal) → choose ks p q l ≡ Err r → Refuses (IsChoice ks P Q) l (unread_of r)
  choice_refused l r e =
      elim (ok_or_err (passes ks (next l)) (p l) (q l) (Err r) e) [
        | inl h ↦ let s = exact.refused l r h.1 in (
          s.0,
          s.1,
          λ x rest more f same at. elim f [
            | inl g ↦ s.2 x rest more g.1 same at
            | inr g ↦ tests_differ ks (next l) (ahead (spell x) (next rest)) h.0 g.0 (sym (first_again l s.0 (unread_of r) x rest more s.1 same at))
          ],
        )
        | inr h ↦ let s = exact'.refused l r h.1 in (
          s.0,
          s.1,
          λ x rest more f same at. elim f [
            | inl g ↦ tests_differ ks (ahead (spell x) (next rest)) (next l) g.0 h.0 (first_again l s.0 (unread_of r) x rest more s.1 same at)
            | inr g ↦ s.2 x rest more g.1 same at
          ],
        )
      ]

  pub choice_exact : Exact (IsChoice ks P Q) (choose ks p q)
  choice_exact = record { sound = choice_sound; again = choice_again; refused = choice_refused }
