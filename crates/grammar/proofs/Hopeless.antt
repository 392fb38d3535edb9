-- With a token that is refused as unfit no tree goes on, at whatever nesting.
use Rattle.std.proofs.Common.{◌++◌, ◌∙◌, ◌∷◌, ◌≡◌, [], ℕ, Err, List, Ok, Some, ap, inl, inr, subst, sym, true}
use Rattle.std.proofs.lemmas.List.{append-nil}
use Rattle.grammar.proofs.{LevelsTested.rule_sane, LevelsTested.whole_parts, Local.Local, Local.read_local, ReadOrTooDeep.shaped_goes, Texts.exact}
use Rattle.grammar.proofs.Exact.{err_is, failed, ok_is, ok_no_err}
use Rattle.grammar.specs.{Deciding.IsDecided, Deciding.LevelTables, Grammars.Grammar, Grammars.IsNone, Laws.NoneGoesOn, Nesting.IsShaped, Nodes.Item}
use Rattle.grammar.specs.{Nodes.Node, Nodes.next, Nodes.spell, Reading.Deep, Reading.Refusal, Reading.Unfit, Reading.read, Tested.Is, Tested.Within}

pub unfit_no_deep : (l m : List Item) → failed (Unfit l) ≡ failed (Deep m) → ⊥
unfit_no_deep l m e = let f : Unfit l ≡ Deep m = err_is (Unfit l) (Deep m) e in cc

module _ (t : LevelTables) (g : Grammar) (ok : IsDecided t g ≡ true) (n : ℕ) where
  pub whole_local : (l : List Item) (r : Refusal) → read t n g l ≡ Err r → Local (read t n g) l r
  whole_local = read_local t (rule_sane t g ok) n g (whole_parts t g ok).sound

  -- a shaped tree is read, or reading comes too deep in it
  goes_not : (x : Node) → IsShaped t g x → (left : List Item) → read t n g (spell x) ≡ Err (Unfit left) → ⊥
  goes_not x s left e =
      let nil : read t n g (spell x ++ []) ≡ Err (Unfit left) = ap (read t n g) (append-nil (spell x)) ∙ e in
      elim (shaped_goes t g ok n x s) [
        | inl h ↦ ok_no_err (x, []) (Unfit left) (sym h ∙ nil)
        | inr d ↦ unfit_no_deep left (d.1 ++ []) (sym nil ∙ d.3)
      ]

  pub unfit_hopeless : (l left : List Item) → read t n g l ≡ Err (Unfit left) → NoneGoesOn (IsShaped t g) l left
  unfit_hopeless l left e =
      let s = whole_local l (Unfit left) e in
      (s.front, s.whole, λ x more h same at. goes_not x h more (ap (read t n g) same ∙ s.again more at))

  pub surplus_hopeless : (l : List Item) (x : Node) (z : Item) (rest : List Item) → read t n g l ≡ Ok (x, z ∷ rest) → NoneGoesOn (IsShaped t g) l (z ∷ rest)
  surplus_hopeless l x z rest e =
      let s = (exact t g ok n).sound l x (z ∷ rest) e in (
        spell x,
        s.0,
        λ y more h same at.
            let two : read t n g (spell x ++ more) ≡ Ok (x, more) = (exact t g ok n).again x more (subst (Is (Within t.rule n) g IsNone x) (sym at) s.1) in
            let here : read t n g (spell y ++ []) ≡ Ok (x, more) = ap (read t n g) (append-nil (spell y) ∙ same) ∙ two in
            elim (shaped_goes t g ok n y h) [
              | inl one ↦
                  let rests : [] ≡ more = ap (λ (z : Node × List Item). z.1) (ok_is (y, []) (x, more) (sym one ∙ here)) in
                  let end : next [] ≡ Some z.kind = ap next rests ∙ at in
                  cc
              | inr d ↦ ok_no_err (x, more) (Deep (d.1 ++ [])) (sym here ∙ d.3)
            ],
      )
