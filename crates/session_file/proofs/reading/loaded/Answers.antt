use Rattle.std.proofs.Common.{◌≡◌, ◌⊎◌, Err, subst}
use Rattle.session_file.proofs.reading.loaded.Goals as goal
use Rattle.session_file.specs.{Reading.session_or_fault, Reading.text_read, declared.session.LoadFault.TheVariants.Memory}

pub returns-in-Ok : goal.returns-in-Ok
returns-in-Ok c = subst (λ ts. (c.session_read.result ≡ Err Memory) ⊎ (c.session_read.result ≡ session_or_fault (text_read ts))) c.in-Ok.ensures.ok
    c.session_read.ensures
