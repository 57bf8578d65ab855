-- Schedulers that are not granted.
use Rattle.std.proofs.Common.{◌≡◌, ℕ, true, false, Option, refl}
use Rattle.hls_chron.specs.declared.plain.Config.{Config}
use Rattle.hls_chron.specs.Ledger.{Ledger}
use Rattle.hls_chron.proofs.ConfigLaws.{by_kind}
use Rattle.hls_kinds.specs.Stands.{always, stands_of, stands_idle}

pub stands_while_idle : (config : Config) (b : Ledger) (mask : ℕ) (choice : Option ℕ)
    → stands_idle config ≡ true → stands_of config b mask false choice ≡ always
stands_while_idle config b mask choice =
    by_kind (λ config. stands_idle config ≡ true → stands_of config b mask false choice ≡ always)
    (λ idle. refl) (λ idle. refl) (λ idle. absurd (let no : false ≡ true = idle in cc)) (λ sharing idle. refl)
    (λ quantum idle. refl) (λ frame idle. absurd (let no : false ≡ true = idle in cc)) (λ ports idle. refl) config
