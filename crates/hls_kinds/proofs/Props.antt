-- Ranges, what is to be served, and disciplines are facts, of whichever kind.
use Rattle.std.proofs.Common.{ℕ}
use Rattle.std.proofs.Props.{props}
use Rattle.hls_chron.specs.declared.plain.Config.{Config}
use Rattle.hls_chron.specs.Ledger.{Ledger}
use Rattle.hls_chron.specs.Ranges.{ConfigInRange}
use Rattle.hls_chron.proofs.ConfigLaws.{by_kind}
use Rattle.hls_kinds.specs.Discipline.{Serves, KeepsDiscipline}
use Rattle.hls_kinds.specs.Shares.{KeepsShares}

pub ranges_prop : (config : Config) → IsProp (ConfigInRange config)
ranges_prop =
    by_kind (λ config. IsProp (ConfigInRange config)) (hlevel props) (hlevel props) (hlevel props)
    (λ sharing. hlevel props) (λ quantum. hlevel props) (λ frame. hlevel props) (λ ports. hlevel props)

pub serves_prop : (config : Config) (b : Ledger) (mask slot : ℕ) → IsProp (Serves config b mask slot)
serves_prop config b mask slot =
    by_kind (λ config. IsProp (Serves config b mask slot)) (hlevel props) (hlevel props) (hlevel props)
    (λ sharing. hlevel props) (λ quantum. hlevel props) (λ frame. hlevel props) (λ ports. hlevel props) config

pub shares_prop : (config : Config) (b : Ledger) → IsProp (KeepsShares config b)
shares_prop config b =
    by_kind (λ config. IsProp (KeepsShares config b)) (hlevel props) (hlevel props) (hlevel props)
    (λ sharing. hlevel props) (λ quantum. hlevel props) (λ frame. hlevel props) (λ ports. hlevel props) config

pub discipline_prop : (config : Config) (b : Ledger) → IsProp (KeepsDiscipline config b)
discipline_prop config b = hlevel (props, serves_prop, shares_prop)
