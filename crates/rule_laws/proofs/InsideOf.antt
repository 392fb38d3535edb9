-- What the frames of with statements touch: nothing.
use Rattle.std.proofs.Common.{◌≡◌, ℕ, None, Option, Some, false}
use Rattle.check_steps.specs.Known.{frame_at}
use Rattle.decl_checker.specs.Statements.{inside_of, one_more_with, open_fields}
use Rattle.rule_laws.proofs.Faces.{Shown}
use Rattle.rule_laws.proofs.Touches.{Touches, bind-touches, give-touches, look-touches, open_frame-touches}

open_fields-touches : {Q : ℕ → Type 0} {strict : Shown} → strict.frames ≡ false → (frame : ℕ) (region : ℕ) → Touches Q strict (open_fields frame region)
unfolding open_fields
open_fields-touches lax frame region = bind-touches (look-touches (λ k. frame_at k frame)) (λ outer.
    open_frame-touches lax (record { region = region; outer = Some frame; level = outer.level; withs = one_more_with outer.withs }))

pub inside_of-touches : {Q : ℕ → Type 0} {strict : Shown} → strict.frames ≡ false → (frame : ℕ) (x : Option ℕ) → Touches Q strict (inside_of frame x)
inside_of-touches lax frame None = give-touches frame
inside_of-touches lax frame (Some region) = open_fields-touches lax frame region
