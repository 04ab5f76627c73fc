-- A decoder that an image opens: its graph, and the first state on it.
use Rattle.rules.specs.State.{first_state}
use Rattle.rules.specs.declared.graph.Opened.{Opened}
use Rattle.comb.specs.declared.Decoder.{Decoder}

abbrev pub decoder_of : Opened → Decoder
decoder_of o = record { graph = o.graph; state = first_state o.graph; opening = o.opening }
