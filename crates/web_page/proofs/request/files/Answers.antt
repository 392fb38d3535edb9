use Rattle.std.proofs.Common.{refl}
use Rattle.web_page.proofs.request.files.Goals as goal

pub returns : goal.returns
returns c =
    rw (c.new-2.ensures, c.in_ok-put-2.ensures.ok, c.in_ok-put.ensures.ok, c.in_ok-put_session.ensures, c.in_ok-put_files.ensures, c.in_ok-shelf.ensures.empty)
    refl
