-- Lists one after another.
use Rattle.std.proofs.Common.{◌++◌, ◌∙◌, ◌∷◌, ◌≡◌, [], List, ap, append_assoc, map}
use Rattle.std.proofs.lemmas.List.{map-append}

-- what is made of one more, before the rest
pub made_next : {X Y : Type 0} (f : X → Y) (done : List X) (x : X) (y : Y) (rest : List Y) → f x ≡ y → map f (done ++ x ∷ []) ++ rest ≡ map f done ++ y ∷ rest
made_next f done x y rest made =
    ap (λ l. l ++ rest) (map-append f done (x ∷ [])) ∙ append_assoc (map f done) (f x ∷ []) rest ∙ ap (λ z. map f done ++ z ∷ rest) made
