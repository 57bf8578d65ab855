-- What is being made, as the definition sees it.
use Rattle.hls_gen.specs.Generated.{Made}
use Rattle.hls_gen.specs.declared.making.Making.{Making}

abbrev pub made_of : Making → Made
made_of making = record { items = making.items.items; state = making.draws.state }
