-- What was read, as what the words mean.
use Rattle.std.specs.Prelude.{option_map}
use Rattle.debug_cli.specs.Meaning.{Made, Meant, Requested, Source}
use Rattle.debug_cli.specs.declared.request.{Asked.Asked, Request.Request}

-- the source that a request is about
abbrev pub requested_by : Request → Requested
requested_by r = record {
  source = r.source.now;
  input = option_map (λ name. name.now) r.input;
  load = option_map (λ name. name.now) r.load;
  budget = r.budget;
}

abbrev pub meant_of : Asked → Meant
meant_of (Asked.Source request) = Source (requested_by request)
meant_of (Asked.Made number) = Made number
