-- The servers of a table, which has none at first.
use Rattle.std.specs.Prelude.{List, [], Option, Some, None}
use Rattle.std.specs.Global.{Box}
use Rattle.hls_book.specs.declared.server.Server.{Server}

abbrev pub servers_there : Option (Box (List Server)) → List Server
servers_there None = []
servers_there (Some held) = held.value
