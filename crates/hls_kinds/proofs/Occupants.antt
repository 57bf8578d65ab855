-- Who takes up a slot, whatever the kind: only reservations hold slots that are left.
use Rattle.std.proofs.Common.{◌≡◌, ◌≢◌, ℕ, None, refl, sym, ◌∙◌, cond, inl, inr}
use Rattle.hls_chron.specs.declared.plain.Kind.TheVariants as kinds
use Rattle.hls_chron.specs.declared.plain.Config.{Config}
use Rattle.hls_chron.specs.declared.plain.Config.TheVariants.{Edf}
use Rattle.hls_chron.specs.declared.plain.Terms.{Terms}
use Rattle.hls_chron.specs.Kinds.{kind_of}
use Rattle.hls_chron.specs.Ledger.{Ledger}
use Rattle.hls_chron.specs.Seats.{terms_at}
use Rattle.hls_chron.proofs.ConfigLaws.{by_kind, edf_or_not}
use Rattle.hls_kinds.specs.declared.tenant.Tenant.{Tenant}
use Rattle.hls_kinds.specs.declared.tenant.Tenant.TheVariants.{Vacant, Sits, Left}
use Rattle.hls_kinds.specs.Tenants.{tenant_at}
use Rattle.hls_kinds.specs.Reservations.{is_held, is_held_in}
use Rattle.hls_kinds.specs.Room.{occupant_at, terms_left}
use Rattle.hls_kinds.proofs.MarkLaws.{sits_on}
use Rattle.hls_kinds.proofs.TenantLaws.{seated_in, seated-terms}

pub occupant_plain : (config : Config) (b : Ledger) (slot : ℕ) → kind_of config ≢ kinds.Edf
    → occupant_at config b slot ≡ terms_at b slot
occupant_plain config b slot =
    by_kind (λ config. kind_of config ≢ kinds.Edf → occupant_at config b slot ≡ terms_at b slot) (λ unheld. refl)
    (λ unheld. refl) (λ unheld. absurd (unheld refl)) (λ sharing unheld. refl) (λ quantum unheld. refl)
    (λ frame unheld. refl) (λ ports unheld. refl) config

-- what holds of slots that hold nothing, and of those of reservations
pub by_holding : (P : Config → Type 0) (config : Config) → P Edf → (kind_of config ≢ kinds.Edf → P config)
    → P config
by_holding P config held plain = elim (edf_or_not config) [
  | inl same ↦ rw same held
  | inr other ↦ plain other
]

-- a seat takes up its slot
pub occupied : (config : Config) (b : Ledger) (slot since : ℕ) (terms : Terms)
    → tenant_at b slot ≡ Sits terms since → occupant_at config b slot ≢ None
unfolding is_held
occupied config b slot since terms e =
    let has = sits_on b slot since terms e in
    by_holding (λ c. occupant_at c b slot ≢ None) config
    (λ none. let no = rw (e, has) at none in cc)
    (λ other none. let plain = sym (occupant_plain config b slot other) in cc)

vacant_by : (b : Ledger) (slot : ℕ) (t : Tenant) → seated_in t ≡ terms_at b slot
    → cond (is_held_in b slot t) (terms_left t) (terms_at b slot) ≡ None → terms_at b slot ≡ None
vacant_by b slot Vacant e none = sym e
vacant_by b slot (Sits terms since) e none = none
vacant_by b slot (Left terms since at) e none = sym e

-- nobody sits at a slot that is free
pub vacant : (config : Config) (b : Ledger) (slot : ℕ) → occupant_at config b slot ≡ None → terms_at b slot ≡ None
unfolding is_held
vacant config b slot =
    by_holding (λ c. occupant_at c b slot ≡ None → terms_at b slot ≡ None) config
    (λ none. vacant_by b slot (tenant_at b slot) (seated-terms b slot) none)
    (λ other none. let plain = sym (occupant_plain config b slot other) in plain ∙ none)
