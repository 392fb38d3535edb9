use Rattle.pas_tree.proofs.Beginnings.{places_begin}
use Rattle.pas_tree.proofs.place_laws.places_begin.Goals as goal

-- src/place_laws.rt:6:1
pub returns : goal.returns
returns c = places_begin
