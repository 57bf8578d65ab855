-- Answers on seats that are wanted.
use Rattle.std.proofs.Common.{Option, Some, None, refl}
use Rattle.std.specs.Prelude.{IfSome, IsNone}
use Rattle.hls_chron.specs.declared.plain.Config.{Config}
use Rattle.hls_chron.specs.declared.plain.Terms.{Terms}
use Rattle.hls_chron.specs.Ledger.{Ledger}
use Rattle.hls_kinds.specs.Faults.{IsFirstFaultIfAny, IsFirstFault}
use Rattle.hls_kinds.specs.declared.fault.SeatFault.{SeatFault}
use Rattle.hls_tree_nodes.specs.Shown.{HasNoFault}

pub no_fault : (config : Config) (b : Ledger) (terms : Terms) (answer : Option SeatFault)
    → IsFirstFaultIfAny config b terms answer → IsNone answer → HasNoFault config b terms
no_fault config b terms None is none = record { none = is }
no_fault config b terms (Some fault) is none = cc

-- and both ways together
pub answer_of : (config : Config) (b : Ledger) (terms : Terms) (answer : Option SeatFault)
    → IfSome answer (IsFirstFault config b terms) → (IsNone answer → HasNoFault config b terms)
    → IsFirstFaultIfAny config b terms answer
answer_of config b terms None some none = (none refl).none
answer_of config b terms (Some fault) some none = some
