-- What was done, in four ways: a whole text was said, or a part of it, or nothing; or a session was held.
use Rattle.std.proofs.Common.{Option, inl, inr}
use Rattle.ask_session.specs.{Outside.Outside, declared.dialog.Ending.Ending}
use Rattle.debug_cli.specs.{Meaning.Meant, Status.session_status, declared.status.Status.Status}
use Rattle.debug_cli.specs.Goes.{Goes, Says, SaysNothing, SaysPart, Talks}

pub data View (m : Option Meant) (before after : Outside) : Status → Type 0 where
  said : (s : Status) → Says m before after s → View m before after s
  part : SaysPart m before after → View m before after Status.Screen
  nothing : SaysNothing before after → View m before after Status.Memory
  talked : (e : Ending) → Talks m before after e → View m before after (session_status e)

pub view : (m : Option Meant) (before after : Outside) (s : Status) → Goes m before after s → View m before after s
view m before after Status.Done (inl x) = said Status.Done x
view m before after Status.Done (inr t) = talked Ending.Done t
view m before after Status.Words x = said Status.Words x
view m before after Status.Source x = said Status.Source x
view m before after Status.File x = said Status.File x
view m before after Status.Console t = talked Ending.Console t
view m before after Status.Screen (inl x) = part x
view m before after Status.Screen (inr t) = talked Ending.Screen t
view m before after Status.Memory (inl x) = nothing x
view m before after Status.Memory (inr t) = talked Ending.Memory t
view m before after Status.Session (inl x) = said Status.Session x
view m before after Status.Session (inr t) = talked Ending.Refused t
view m before after Status.Spent t = talked Ending.Spent t
