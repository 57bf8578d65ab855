-- What holds of a load by cases: a join with its perches, or another scheduler with one perch.
use Rattle.std.proofs.Common.{◌≢◌, refl, ℕ, List, [], ◌∷◌}
use Rattle.hls_chron.specs.declared.plain.Kind.TheVariants as kinds
use Rattle.hls_chron.specs.declared.plain.Config.{Config}
use Rattle.hls_chron.specs.declared.plain.Config.TheVariants as configs
use Rattle.hls_chron.specs.Kinds.{kind_of, by_shares}
use Rattle.hls_chron.proofs.ConfigLaws.{by_kind}
use Rattle.hls_scenario.specs.declared.scenario.Perch.{Perch}
use Rattle.hls_scenario.specs.Grammar.{IsConfig, IsLoad, IsPerch}

-- a configuration for one perch
pub record IsSolo (version : ℕ) (config : Config) : Type 0 where
  pub no_cpu : kind_of config ≢ kinds.Cpu
  pub no_join : kind_of config ≢ kinds.Join
  pub within : IsConfig version config

module _ (version : ℕ) (P : Config → List Perch → Type 0) where
  pub by_load : ((config : Config) (perch : Perch) → IsSolo version config → IsPerch perch → P config (perch ∷ []))
      → ((ports : ℕ) (perches : List Perch) → IsLoad version (configs.Join ports) perches
      → P (configs.Join ports) perches)
      → (config : Config) (perches : List Perch) → IsLoad version config perches → P config perches
  by_load one join config [] is =
      by_kind (λ c. IsLoad version c [] → P c []) (λ no. absurd no) (λ no. absurd no) (λ no. absurd no)
      (λ sharing no. absurd no) (λ quantum no. absurd no) (λ frame no. absurd no) (λ ports so. join ports [] so)
      config is
  by_load one join config (perch ∷ []) is =
      let solo : (c : Config) → kind_of c ≢ kinds.Cpu → kind_of c ≢ kinds.Join → IsConfig version c × IsPerch perch
      → P c (perch ∷ []) =
      λ c no_cpu no_join so.
      one c perch (record { no_cpu = no_cpu; no_join = no_join; within = so.0 }) so.1 in
      by_kind (λ c. IsLoad version c (perch ∷ []) → P c (perch ∷ [])) (λ no. absurd no)
      (solo configs.Fp (λ e. cc) (λ e. cc)) (solo configs.Edf (λ e. cc) (λ e. cc))
      (λ sharing. solo (by_shares sharing) (λ e. cc) (λ e. cc))
      (λ quantum. solo (configs.Rr quantum) (λ e. cc) (λ e. cc))
      (λ frame. solo (configs.Wheel frame) (λ e. cc) (λ e. cc)) (λ ports so. join ports (perch ∷ []) so) config is
  by_load one join config (perch ∷ other ∷ perches) is =
      by_kind (λ c. IsLoad version c (perch ∷ other ∷ perches) → P c (perch ∷ other ∷ perches)) (λ no. absurd no)
      (λ no. absurd no) (λ no. absurd no) (λ sharing no. absurd no) (λ quantum no. absurd no) (λ frame no. absurd no)
      (λ ports so. join ports (perch ∷ other ∷ perches) so) config is

-- such a configuration and a perch are a load
pub solo_load : (version : ℕ) (perch : Perch) (config : Config) → IsSolo version config → IsPerch perch
    → IsLoad version config (perch ∷ [])
solo_load version perch =
    by_kind (λ c. IsSolo version c → IsPerch perch → IsLoad version c (perch ∷ []))
    (λ solo is. absurd (solo.no_cpu refl)) (λ solo is. (solo.within, is)) (λ solo is. (solo.within, is))
    (λ sharing solo is. (solo.within, is)) (λ quantum solo is. (solo.within, is)) (λ frame solo is. (solo.within, is))
    (λ ports solo is. absurd (solo.no_join refl))

-- the configuration of a load
pub load_config : (version : ℕ) (config : Config) (perches : List Perch) → IsLoad version config perches
    → IsConfig version config
load_config version =
    by_load version (λ config perches. IsConfig version config) (λ config perch solo is. solo.within)
    (λ ports perches is. (is.1, tt))
