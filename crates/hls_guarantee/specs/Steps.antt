-- The step of a derivation at a scheduler: what a seat is lent of what the scheduler has.
use Rattle.std.specs.Prelude.{◌≡◌, ℕ, ◌+◌, ◌*◌, ◌≤◌, ◌<◌, ◌⊎◌, true, List, length}
use Rattle.hls_frac.specs.declared.Frac.{Frac}
use Rattle.hls_frac.specs.Frac.{IsQuotient}
use Rattle.hls_chron.specs.declared.plain.Config.{Config}
use Rattle.hls_chron.specs.declared.plain.Config.TheVariants as configs
use Rattle.hls_chron.specs.declared.plain.Sharing.{Sharing}
use Rattle.hls_chron.specs.declared.plain.Terms.{Terms}
use Rattle.hls_chron.specs.declared.plain.Terms.TheVariants as terms
use Rattle.hls_guarantee.specs.declared.Guarantee.{Guarantee}
use Rattle.hls_guarantee.specs.declared.Guarantee.TheVariants.{All, Null, Resb, Resc, Psbe}
use Rattle.hls_guarantee.specs.Satisfaction.{IsSoft}
use Rattle.hls_guarantee.specs.Limits.{IsValid}
use Rattle.hls_chron.specs.Kinds.{IsPort}

-- the share s' with the error d' that a seat has of s with d, beside at most `others` seats of at most `rest`, in turns
-- of a quantum
pub record IsFairShare (sharing : Sharing) (weight : ℕ) (s d s' d' : Frac) : Type 0 where
  pub others : ℕ
  pub rest : ℕ
  pub seats : others + 1 ≡ sharing.most
  pub weights : weight + rest ≡ sharing.total
  -- s * weight / total
  pub rate : IsQuotient s' (s.num * weight) (s.den * sharing.total)
  -- ((d + others * quantum) * weight + rest * quantum) / total
  pub error : IsQuotient d' ((d.num + others * sharing.quantum * d.den) * weight + rest * sharing.quantum * d.den)
      (d.den * sharing.total)

-- the share s' with the error d' that a seat has of s with d, beside 31 seats that have a quantum each in turn
pub record IsTurnShare (quantum : ℕ) (s d s' d' : Frac) : Type 0 where
  -- s / 32
  pub rate : IsQuotient s' s.num (s.den * 32)
  -- (d + 31 * quantum) / 32
  pub error : IsQuotient d' (d.num + 31 * quantum * d.den) (d.den * 32)

-- what terms of the scheduler's kind lend
abbrev pub LendsByTerms : Config → Terms → Guarantee → Guarantee → Type 0
-- the processor lends every tick
LendsByTerms configs.Cpu terms.Cpu All h = h ≡ All
-- the least priority number is served first
LendsByTerms configs.Fp (terms.Prio priority) g h = (priority ≡ 0) × (h ≡ g)
-- a reservation gets its budget in each of its periods
LendsByTerms configs.Edf (terms.Res hard x y) All h = h ≡ Resb hard x y
-- places of a frame come round with it
LendsByTerms (configs.Wheel frame) (terms.Slots places) All h =
    (places ≤ frame) × (h ≡ Resc true places frame)
-- a weight is a part of a share
LendsByTerms (configs.Sfq total most quantum) (terms.Weight weight) (Psbe s d) (Psbe s' d') =
    IsFairShare (record { total = total; most = most; quantum = quantum }) weight s d s' d'
-- a seat in a round is one of 32 at most
LendsByTerms (configs.Rr quantum) terms.Turn (Psbe s d) (Psbe s' d') = IsTurnShare quantum s d s' d'
-- other ports may add to what one port gives
LendsByTerms (configs.Join ports) terms.Sole g h = IsSoft g × (h ≡ g)
LendsByTerms _ _ _ _ = ⊥

-- every scheduler lends nothing on any terms, and the processor is none
abbrev pub LendsNothing : Config → Guarantee → Type 0
LendsNothing configs.Cpu h = ⊥
LendsNothing _ h = h ≡ Null

-- what has g through this port lends h to a seat on these terms
pub record LendsThrough (config : Config) (terms : Terms) (port : ℕ) (g h : Guarantee) : Type 0 where
  pub from : IsValid g
  pub to : IsValid h
  pub port_of : IsPort config port
  pub lends : LendsByTerms config terms g h ⊎ LendsNothing config h

-- the same of a place whose ports have these guarantees, with a derivation that starts from one of them
pub record Lends (config : Config) (terms : Terms) (haves : List Guarantee) (port : ℕ) (g h : Guarantee)
    : Type 0 where
  pub has : port < length haves
  pub through : LendsThrough config terms port g h
