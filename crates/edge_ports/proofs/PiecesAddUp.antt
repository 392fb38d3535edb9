-- Bytes that are given or taken piece by piece add up.
use Rattle.std.proofs.Common.{◌++◌, ◌+◌, ◌∙◌, ◌≡◌, [], ℕ, List, None, Option, Some, ap, append_assoc, drop, refl, sym, take}
use Rattle.std.proofs.{KnownBytes.prepend_known-nil, Math.Seq.take-add, lemmas.List.append-nil, lemmas.List.take-append-drop}
use Rattle.std.specs.Io.KnownBytes.{append_known, prepend_known}
use Rattle.edge_ports.specs.{Lines.Moves, Told.GaveAll, Told.GavePrefix, Told.TookAll}

append_known-append : (known : Option (List ℕ)) (a b : List ℕ) → append_known (append_known known a) b ≡ append_known known (a ++ b)
append_known-append None a b = refl
append_known-append (Some xs) a b = ap Some (append_assoc xs a b)

append_known-nil : (known : Option (List ℕ)) → append_known known [] ≡ known
append_known-nil None = refl
append_known-nil (Some xs) = ap Some (append-nil xs)

prepend_known-append : (known : Option (List ℕ)) (a b : List ℕ) → prepend_known a (prepend_known b known) ≡ prepend_known (a ++ b) known
prepend_known-append None a b = refl
prepend_known-append (Some xs) a b = ap Some (sym (append_assoc a b xs))

-- nothing was given
pub gave_nothing : (known : Option (List ℕ)) → GaveAll known known []
gave_nothing known = sym (append_known-nil known)

-- one text after another
pub gave_more : {now new : Option (List ℕ)} (old : Option (List ℕ)) (a b : List ℕ) → GaveAll old now a → GaveAll now new b → GaveAll old new (a ++ b)
gave_more old a b p q = q ∙ ap (λ k. append_known k b) p ∙ append_known-append old a b

-- a text, and then a part of the next
pub gave_prefix_after : {now new : Option (List ℕ)} {b : List ℕ} (old : Option (List ℕ)) (a : List ℕ) → GaveAll old now a → GavePrefix now new b
    → GavePrefix old new (a ++ b)
gave_prefix_after old a p q = record {
  front = a ++ q.front;
  back = q.back;
  whole = ap (λ l. a ++ l) q.whole ∙ sym (append_assoc a q.front q.back);
  gave = gave_more old a q.front p q.gave;
}

-- a prefix of a text is one of a longer text
pub gave_prefix_before : (old new : Option (List ℕ)) (a b : List ℕ) → GavePrefix old new a → GavePrefix old new (a ++ b)
gave_prefix_before old new a b p = record {
  front = p.front;
  back = p.back ++ b;
  whole = ap (λ l. l ++ b) p.whole ∙ append_assoc p.front p.back b;
  gave = p.gave;
}

-- all of a text is a prefix of it
pub gave_prefix_whole : (old new : Option (List ℕ)) (a : List ℕ) → GaveAll old new a → GavePrefix old new a
gave_prefix_whole old new a p = record { front = a; back = []; whole = sym (append-nil a); gave = p }

-- the first n bytes of a text are a prefix of it
pub gave_prefix_take : {new : Option (List ℕ)} (old : Option (List ℕ)) (a : List ℕ) (n : ℕ) → GaveAll old new (take n a) → GavePrefix old new a
gave_prefix_take old a n p = record { front = take n a; back = drop n a; whole = sym (take-append-drop n a); gave = p }

-- one more piece of a text: n bytes, and then m of those after them
pub gave_piece : {now new : Option (List ℕ)} (old : Option (List ℕ)) (a : List ℕ) (n m : ℕ) → GaveAll old now (take n a)
    → GaveAll now new (take m (drop n a)) → GaveAll old new (take (n + m) a)
gave_piece old a n m p q = gave_more old (take n a) (take m (drop n a)) p q ∙ ap (append_known old) (sym (take-add n m a))

-- one piece after another was taken
took_more : {old now : Option (List ℕ)} (new : Option (List ℕ)) (a b : List ℕ) → TookAll old now a → TookAll now new b → TookAll old new (a ++ b)
took_more new a b p q = p ∙ ap (prepend_known a) q ∙ prepend_known-append new a b

-- nothing was taken
pub took_nothing : (known : Option (List ℕ)) → TookAll known known []
took_nothing known = sym (prepend_known-nil known)

-- bytes moved, and then more
pub moves_more : {old now new : List ℕ} {left left' left'' : Option (List ℕ)} → Moves old now left left' → Moves now new left' left''
    → Moves old new left left''
moves_more {old} {now} {new} {left} {left'} {left''} p q = record {
  more = p.more ++ q.more;
  grown = q.grown ∙ ap (λ l. l ++ q.more) p.grown ∙ append_assoc old p.more q.more;
  took = took_more left'' p.more q.more p.took q.took;
}
