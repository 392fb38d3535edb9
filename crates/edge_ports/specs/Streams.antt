-- What a port is made over, and what std tells of it.
use Rattle.std.specs.Prelude.{ℕ, List, Option}
use Rattle.edge_ports.specs.declared.{disk.FileKeeper.FileKeeper, streams.StdSink.StdSink, streams.StdSource.StdSource}

-- the reader that the port is made over
abbrev pub reader_of : {R : Type 0} → StdSource R → R
reader_of source = source.reader

-- the writer that the port is made over
abbrev pub writer_of : {W : Type 0} → StdSink W → W
writer_of sink = sink.writer

-- what opens files for the keeper
abbrev pub opener_of : {R : Type 0} → FileKeeper R → R
opener_of keeper = keeper.files

-- the bytes that the reader has left
abbrev pub reader_left : {R : Type 0} → (R → Option (List ℕ)) → StdSource R → Option (List ℕ)
reader_left remaining source = remaining (reader_of source)

-- the bytes that the writer holds
abbrev pub writer_holds : {W : Type 0} → (W → Option (List ℕ)) → StdSink W → Option (List ℕ)
writer_holds contents sink = contents (writer_of sink)
