-- What holds of configurations by cases: their ports, their seats, and what is of one kind. Above, nobody goes by the
-- numbers of a configuration for these.
use Rattle.std.proofs.Common.{◌≡◌, ◌≢◌, ◌⊎◌, ℕ, ◌≤◌, ◌<◌, true, false, inl, inr, refl, sym, ◌∙◌, arith, ap}
use Rattle.std.specs.Prelude.{Some, None}
use Rattle.hls_chron.specs.declared.plain.Kind.TheVariants as kinds
use Rattle.hls_chron.specs.declared.plain.Config.{Config}
use Rattle.hls_chron.specs.declared.plain.Config.TheVariants as configs
use Rattle.hls_chron.specs.declared.plain.Sharing.{Sharing}
use Rattle.hls_chron.specs.Kinds.{kind_of, port_count, IsPort, is_join_config, fair_queue, by_shares, sharing_of}
use Rattle.hls_chron.specs.Ranges.{ConfigInRange}
use Rattle.hls_chron.specs.Seats.{most_seats}

-- ---- ports

pub one_port : (config : Config) → kind_of config ≢ kinds.Join → 1 ≡ port_count config
one_port configs.Cpu ne = refl
one_port configs.Fp ne = refl
one_port configs.Edf ne = refl
one_port (configs.Sfq total most quantum) ne = refl
one_port (configs.Rr quantum) ne = refl
one_port (configs.Wheel frame) ne = refl
one_port (configs.Join ports) ne = absurd (ne refl)

pub few_ports : (config : Config) → ConfigInRange config → port_count config ≤ 4
few_ports configs.Cpu range = omega arith
few_ports configs.Fp range = omega arith
few_ports configs.Edf range = omega arith
few_ports (configs.Sfq total most quantum) range = omega arith
few_ports (configs.Rr quantum) range = omega arith
few_ports (configs.Wheel frame) range = omega arith
few_ports (configs.Join ports) range = range.1

pub some_port : (config : Config) → ConfigInRange config → 1 ≤ port_count config
some_port configs.Cpu range = omega arith
some_port configs.Fp range = omega arith
some_port configs.Edf range = omega arith
some_port (configs.Sfq total most quantum) range = omega arith
some_port (configs.Rr quantum) range = omega arith
some_port (configs.Wheel frame) range = omega arith
some_port (configs.Join ports) range = let two = range.0 in omega (arith, two)

pub is_port : (config : Config) (port : ℕ) → port < port_count config → IsPort config port
is_port configs.Cpu port lt = omega arith
is_port configs.Fp port lt = omega arith
is_port configs.Edf port lt = omega arith
is_port (configs.Sfq total most quantum) port lt = omega arith
is_port (configs.Rr quantum) port lt = omega arith
is_port (configs.Wheel frame) port lt = omega arith
is_port (configs.Join ports) port lt = lt

pub port_within : (config : Config) (port : ℕ) → IsPort config port → port < port_count config
port_within configs.Cpu port is = omega (arith, is)
port_within configs.Fp port is = omega (arith, is)
port_within configs.Edf port is = omega (arith, is)
port_within (configs.Sfq total most quantum) port is = omega (arith, is)
port_within (configs.Rr quantum) port is = omega (arith, is)
port_within (configs.Wheel frame) port is = omega (arith, is)
port_within (configs.Join ports) port is = is

pub first_port : (config : Config) → ConfigInRange config → IsPort config 0
first_port config range = is_port config 0 (some_port config range)

pub sole_port : (config : Config) (port : ℕ) → kind_of config ≢ kinds.Join → IsPort config port → port ≡ 0
sole_port config port ne is =
    let one = one_port config ne in
    let within = port_within config port is in
    omega (arith, one, within)

-- ---- seats and paths

pub few_seats : (config : Config) → ConfigInRange config → most_seats config ≤ 32
few_seats configs.Cpu range = omega arith
few_seats configs.Fp range = omega arith
few_seats configs.Edf range = omega arith
few_seats (configs.Sfq total most quantum) range = let le = range.1.1 in omega (arith, le)
few_seats (configs.Rr quantum) range = omega arith
few_seats (configs.Wheel frame) range = omega arith
few_seats (configs.Join ports) range = omega arith

pub one_queue : (config : Config) → fair_queue config ≤ 1
one_queue configs.Cpu = omega arith
one_queue configs.Fp = omega arith
one_queue configs.Edf = omega arith
one_queue (configs.Sfq total most quantum) = omega arith
one_queue (configs.Rr quantum) = omega arith
one_queue (configs.Wheel frame) = omega arith
one_queue (configs.Join ports) = omega arith

-- ---- what holds of each kind

module _ (P : Config → Type 0) where
  pub by_kind : P configs.Cpu → P configs.Fp → P configs.Edf → ((sharing : Sharing) → P (by_shares sharing))
      → ((quantum : ℕ) → P (configs.Rr quantum)) → ((frame : ℕ) → P (configs.Wheel frame))
      → ((ports : ℕ) → P (configs.Join ports)) → (config : Config) → P config
  by_kind cpu fp edf sfq rr wheel join configs.Cpu = cpu
  by_kind cpu fp edf sfq rr wheel join configs.Fp = fp
  by_kind cpu fp edf sfq rr wheel join configs.Edf = edf
  by_kind cpu fp edf sfq rr wheel join (configs.Sfq total most quantum) =
      sfq (record { total = total; most = most; quantum = quantum })
  by_kind cpu fp edf sfq rr wheel join (configs.Rr quantum) = rr quantum
  by_kind cpu fp edf sfq rr wheel join (configs.Wheel frame) = wheel frame
  by_kind cpu fp edf sfq rr wheel join (configs.Join ports) = join ports

  pub join_or_not : ((config : Config) → kind_of config ≢ kinds.Join → P config)
      → ((ports : ℕ) → P (configs.Join ports)) → (config : Config) → P config
  join_or_not other join =
      by_kind (other configs.Cpu (λ e. cc)) (other configs.Fp (λ e. cc)) (other configs.Edf (λ e. cc))
      (λ sharing. other (by_shares sharing) (λ e. cc)) (λ quantum. other (configs.Rr quantum) (λ e. cc))
      (λ frame. other (configs.Wheel frame) (λ e. cc)) join

  pub sharing_or_not : ((sharing : Sharing) → P (by_shares sharing))
      → ((config : Config) → kind_of config ≢ kinds.Sfq → P config) → (config : Config) → P config
  sharing_or_not sfq other =
      by_kind (other configs.Cpu (λ e. cc)) (other configs.Fp (λ e. cc)) (other configs.Edf (λ e. cc)) sfq
      (λ quantum. other (configs.Rr quantum) (λ e. cc)) (λ frame. other (configs.Wheel frame) (λ e. cc))
      (λ ports. other (configs.Join ports) (λ e. cc))

-- ---- what holds of one kind: shown of a configuration with its numbers, it holds of each of the kind

module _ (P : Config → Type 0) where
  pub of_fp : P configs.Fp → (config : Config) → kind_of config ≡ kinds.Fp → P config
  of_fp p configs.Fp is = p
  of_fp p configs.Cpu is = absurd cc
  of_fp p configs.Edf is = absurd cc
  of_fp p (configs.Sfq total most quantum) is = absurd cc
  of_fp p (configs.Rr quantum) is = absurd cc
  of_fp p (configs.Wheel frame) is = absurd cc
  of_fp p (configs.Join ports) is = absurd cc

  pub of_edf : P configs.Edf → (config : Config) → kind_of config ≡ kinds.Edf → P config
  of_edf p configs.Edf is = p
  of_edf p configs.Cpu is = absurd cc
  of_edf p configs.Fp is = absurd cc
  of_edf p (configs.Sfq total most quantum) is = absurd cc
  of_edf p (configs.Rr quantum) is = absurd cc
  of_edf p (configs.Wheel frame) is = absurd cc
  of_edf p (configs.Join ports) is = absurd cc

  pub of_sfq : ((sharing : Sharing) → P (by_shares sharing)) → (config : Config) → kind_of config ≡ kinds.Sfq
      → P config
  of_sfq p (configs.Sfq total most quantum) is = p (record { total = total; most = most; quantum = quantum })
  of_sfq p configs.Cpu is = absurd cc
  of_sfq p configs.Fp is = absurd cc
  of_sfq p configs.Edf is = absurd cc
  of_sfq p (configs.Rr quantum) is = absurd cc
  of_sfq p (configs.Wheel frame) is = absurd cc
  of_sfq p (configs.Join ports) is = absurd cc

  pub of_rr : ((quantum : ℕ) → P (configs.Rr quantum)) → (config : Config) → kind_of config ≡ kinds.Rr → P config
  of_rr p (configs.Rr quantum) is = p quantum
  of_rr p configs.Cpu is = absurd cc
  of_rr p configs.Fp is = absurd cc
  of_rr p configs.Edf is = absurd cc
  of_rr p (configs.Sfq total most quantum) is = absurd cc
  of_rr p (configs.Wheel frame) is = absurd cc
  of_rr p (configs.Join ports) is = absurd cc

  pub of_wheel : ((frame : ℕ) → P (configs.Wheel frame)) → (config : Config) → kind_of config ≡ kinds.Wheel
      → P config
  of_wheel p (configs.Wheel frame) is = p frame
  of_wheel p configs.Cpu is = absurd cc
  of_wheel p configs.Fp is = absurd cc
  of_wheel p configs.Edf is = absurd cc
  of_wheel p (configs.Sfq total most quantum) is = absurd cc
  of_wheel p (configs.Rr quantum) is = absurd cc
  of_wheel p (configs.Join ports) is = absurd cc

  pub of_join : ((ports : ℕ) → P (configs.Join ports)) → (config : Config) → kind_of config ≡ kinds.Join → P config
  of_join p (configs.Join ports) is = p ports
  of_join p configs.Cpu is = absurd cc
  of_join p configs.Fp is = absurd cc
  of_join p configs.Edf is = absurd cc
  of_join p (configs.Sfq total most quantum) is = absurd cc
  of_join p (configs.Rr quantum) is = absurd cc
  of_join p (configs.Wheel frame) is = absurd cc

-- ---- of one kind or not

pub edf_or_not : (config : Config) → (config ≡ configs.Edf) ⊎ (kind_of config ≢ kinds.Edf)
edf_or_not configs.Edf = inl refl
edf_or_not configs.Cpu = inr (λ e. cc)
edf_or_not configs.Fp = inr (λ e. cc)
edf_or_not (configs.Sfq total most quantum) = inr (λ e. cc)
edf_or_not (configs.Rr quantum) = inr (λ e. cc)
edf_or_not (configs.Wheel frame) = inr (λ e. cc)
edf_or_not (configs.Join ports) = inr (λ e. cc)

pub join_if_kind : (config : Config) → kind_of config ≡ kinds.Join → is_join_config config ≡ true
join_if_kind = of_join (λ c. is_join_config c ≡ true) (λ ports. refl)

pub no_join_config : (config : Config) → kind_of config ≢ kinds.Join → is_join_config config ≡ false
no_join_config configs.Cpu ne = refl
no_join_config configs.Fp ne = refl
no_join_config configs.Edf ne = refl
no_join_config (configs.Sfq total most quantum) ne = refl
no_join_config (configs.Rr quantum) ne = refl
no_join_config (configs.Wheel frame) ne = refl
no_join_config (configs.Join ports) ne = absurd (ne refl)

pub kind_of_join : (config : Config) → is_join_config config ≡ true → kind_of config ≡ kinds.Join
kind_of_join configs.Cpu e = absurd (cc)
kind_of_join configs.Fp e = absurd (cc)
kind_of_join configs.Edf e = absurd (cc)
kind_of_join (configs.Sfq total most quantum) e = absurd (cc)
kind_of_join (configs.Rr quantum) e = absurd (cc)
kind_of_join (configs.Wheel frame) e = absurd (cc)
kind_of_join (configs.Join ports) e = refl

pub kind_no_join : (config : Config) → is_join_config config ≡ false → kind_of config ≢ kinds.Join
kind_no_join config off e = let on = join_if_kind config e in let no : true ≡ false = sym on ∙ off in cc

-- ---- the numbers of fair queueing

pub no_sharing : (config : Config) → kind_of config ≢ kinds.Sfq → sharing_of config ≡ None
no_sharing configs.Cpu ne = refl
no_sharing configs.Fp ne = refl
no_sharing configs.Edf ne = refl
no_sharing (configs.Sfq total most quantum) ne = absurd (ne refl)
no_sharing (configs.Rr quantum) ne = refl
no_sharing (configs.Wheel frame) ne = refl
no_sharing (configs.Join ports) ne = refl

pub with_sharing : (config : Config) (sharing : Sharing) → sharing_of config ≡ Some sharing → config ≡ by_shares sharing
with_sharing = sharing_or_not (λ config. (sharing : Sharing) → sharing_of config ≡ Some sharing
    → config ≡ by_shares sharing)
    (λ mine sharing is. let same : mine ≡ sharing = cc in ap by_shares same)
    (λ config ne sharing is. let no = no_sharing config ne in absurd cc)
