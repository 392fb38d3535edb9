use Rattle.optimal_query.proofs.WhatStands.{depends_on_what_stands}
use Rattle.optimal_query.proofs.laws.search_depends_on_what_stands.Goals as goal

pub returns : goal.returns
returns c = depends_on_what_stands
