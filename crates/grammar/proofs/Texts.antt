-- What reading says of whole texts.
use Rattle.std.proofs.Common.{◌++◌, ◌∙◌, ◌∷◌, ◌≡◌, [], ℕ, Err, List, None, Ok, Some, ap, subst, sym, true}
use Rattle.std.proofs.lemmas.List.{append-nil}
use Rattle.grammar.proofs.{Exact.Exact, Exact.ok_is, Wholes.read_exact}
use Rattle.grammar.proofs.LevelsTested.{rule_sane, whole_freed, whole_parts, whole_tested}
use Rattle.grammar.specs.{Deciding.IsDecided, Deciding.LevelTables, Grammars.Grammar, Grammars.IsNone, Laws.IsFormedBy, Laws.NoneGoesOn, Nodes.Item, Nodes.Node}
use Rattle.grammar.specs.{Nodes.next, Nodes.spell, Reading.Refusal, Reading.read, Reading.unread_of, Tested.Is, Tested.Within}

module _ (t : LevelTables) (g : Grammar) (ok : IsDecided t g ≡ true) (n : ℕ) where
  pub exact : Exact (Is (Within t.rule n) g IsNone) (read t n g)
  unfolding read
  exact = read_exact t (rule_sane t g ok) n g (whole_parts t g ok).sound

  pub found : (l : List Item) (x : Node) → read t n g l ≡ Ok (x, []) → IsFormedBy t n g x × (spell x ≡ l)
  found l x e = let s = exact.sound l x [] e in (whole_freed t g ok n x None s.1, sym (s.0 ∙ append-nil (spell x)))

  pub formed_found : (x : Node) → IsFormedBy t n g x → read t n g (spell x) ≡ Ok (x, [])
  formed_found x f = ap (read t n g) (sym (append-nil (spell x))) ∙ exact.again x [] (whole_tested t g ok n x f)

  pub one_tree : (x y : Node) → IsFormedBy t n g x → IsFormedBy t n g y → spell x ≡ spell y → x ≡ y
  one_tree x y f h e = ap (λ (z : Node × List Item). z.0) (ok_is (x, []) (y, []) (sym (formed_found x f) ∙ ap (read t n g) e ∙ formed_found y h))

  pub refused_wrong : (l : List Item) (r : Refusal) → read t n g l ≡ Err r → NoneGoesOn (IsFormedBy t n g) l (unread_of r)
  refused_wrong l r e =
      let s = exact.refused l r e in
      (s.0, s.1, λ x more f same at. s.2 x [] more (whole_tested t g ok n x f) (append-nil (spell x) ∙ same) at)

  pub surplus_wrong : (l : List Item) (x : Node) (z : Item) (rest : List Item) → read t n g l ≡ Ok (x, z ∷ rest) → NoneGoesOn (IsFormedBy t n g) l (z ∷ rest)
  surplus_wrong l x z rest e =
      let s = exact.sound l x (z ∷ rest) e in (
        spell x,
        s.0,
        λ y more f same at.
            let one = exact.again y [] (whole_tested t g ok n y f) in
            let two : read t n g (spell x ++ more) ≡ Ok (x, more) = exact.again x more (subst (Is (Within t.rule n) g IsNone x) (sym at) s.1) in
            let rests : [] ≡ more = ap (λ (z : Node × List Item). z.1)
            (ok_is (y, []) (x, more) (sym one ∙ ap (read t n g) (append-nil (spell y) ∙ same) ∙ two)) in
            let end : next [] ≡ Some z.kind = ap next rests ∙ at in
            cc,
      )
