-- What a telling leaves of a scheduler.
use Rattle.std.proofs.Common.{◌≡◌, ◌≢◌, inl, inr, ℕ, ◌^◌, ◌<◌, ◌==◌, Bool, true, false, Option, None, refl, sym, ap}
use Rattle.std.proofs.Common.{◌∙◌}
use Rattle.std.proofs.Common.{subst, arith, w32}
use Rattle.std.specs.Int.{bit_at, bit_not}
use Rattle.std.proofs.Math.Pow.{pow-lt}
use Rattle.std.proofs.lemmas.Bool.{cases_eq, cases_lt, eq-eqb}
use Rattle.std.proofs.lemmas.Nat.Bits.{bit_at_or, bit_at_and, bit_at_not, bit_at-pow_same}
use Rattle.std.proofs.lemmas.Nat.Bits.{bit_at-pow_other, bit_at-lt, bit_at_above}
use Rattle.hls_chron.specs.declared.plain.Config.{Config}
use Rattle.hls_chron.specs.Seats.{terms_at}
use Rattle.hls_kinds.specs.Asks.{slot_asks}
use Rattle.hls_kinds.specs.Asks.{with_slot, without_slot}
use Rattle.hls_sched.specs.Seen.{Seen, requested, released}
use Rattle.hls_tree_nodes.specs.Shown.{Post, IsPosted, IsTold}
use Rattle.hls_tree_nodes.specs.declared.station.Lag.{Lag}

set_same : (mask slot : ℕ) → slot_asks (with_slot slot mask) slot ≡ true
set_same mask slot =
    eq-eqb _ 1 (omega (arith, bit_at_or mask (2 ^ slot) slot, bit_at-pow_same slot, bit_at-lt mask slot))

set_other : (mask slot k : ℕ) → k ≢ slot → slot_asks (with_slot slot mask) k ≡ slot_asks mask k
set_other mask slot k ne =
    let same : bit_at (with_slot slot mask) k ≡ bit_at mask k =
    omega (arith, bit_at_or mask (2 ^ slot) k, bit_at-pow_other slot k ne) in
    ap (λ b. b == 1) same

clear_same : (mask slot : ℕ) → slot < 32 → slot_asks (without_slot slot mask) slot ≡ false
clear_same mask slot lt =
    let small : 2 ^ slot < 2 ^ 32 = pow-lt lt in
    let off : bit_at (without_slot slot mask) slot ≡ 0 =
    omega (
      arith,
      bit_at_and mask (bit_not w32 (2 ^ slot)) slot,
      bit_at_not w32 (2 ^ slot) slot small lt,
      bit_at-pow_same slot,
    ) in
    ap (λ b. b == 1) off

kept_within : (mask slot k : ℕ) → slot < 32 → k < 32 → k ≢ slot → bit_at (without_slot slot mask) k ≡ bit_at mask k
kept_within mask slot k lt in32 ne =
    let small : 2 ^ slot < 2 ^ 32 = pow-lt lt in
    omega (
      arith,
      bit_at_and mask (bit_not w32 (2 ^ slot)) k,
      bit_at_not w32 (2 ^ slot) k small in32,
      bit_at-pow_other slot k ne,
      bit_at-lt mask k,
    )

pub clear_within : (mask slot k : ℕ) → slot < 32 → k < 32 → k ≢ slot
    → slot_asks (without_slot slot mask) k ≡ slot_asks mask k
clear_within mask slot k lt in32 ne = ap (λ b. b == 1) (kept_within mask slot k lt in32 ne)

clear_other : (mask slot k : ℕ) → slot < 32 → mask < 2 ^ 32 → k ≢ slot
    → slot_asks (without_slot slot mask) k ≡ slot_asks mask k
clear_other mask slot k lt fits ne =
    let same : bit_at (without_slot slot mask) k ≡ bit_at mask k = elim (cases_lt k 32) [
      | inl in32 ↦ kept_within mask slot k lt in32 ne
      | inr out ↦ omega (
        arith,
        bit_at_and mask (bit_not w32 (2 ^ slot)) k,
        bit_at_above mask 32 k fits out,
      )
    ] in
    ap (λ b. b == 1) same

post_is : {new : Post} {unit : Seen} {config : Config} {mask : ℕ} {granted : Bool} {lag : Option Lag} → new.unit ≡ unit
    → new.config ≡ config → new.mask ≡ mask → new.granted ≡ granted → new.lag ≡ lag
    → new ≡ record { unit = unit; config = config; mask = mask; granted = granted; lag = lag }
post_is u c m g l = λ i. record { unit = u i; config = c i; mask = m i; granted = g i; lag = l i }

pub told_set : (slot : ℕ) (asks : Bool) (old new : Post) → asks ≡ true → IsPosted old
    → terms_at old.unit.book slot ≢ None
    → new.unit ≡ requested slot old.unit → new.mask ≡ with_slot slot old.mask → new.granted ≡ old.granted
    → new.config ≡ old.config → new.lag ≡ old.lag → IsTold slot asks old new
told_set slot asks old new is posted taken unit mask granted config lag =
    let same : IsTold slot true old
    (record {
      unit = requested slot old.unit;
      config = old.config;
      mask = with_slot slot old.mask;
      granted = old.granted;
      lag = old.lag;
    }) =
    record {
      here = set_same old.unit.mask slot;
      others = λ k ne. set_other old.unit.mask slot k ne;
      config = refl;
      book = refl;
      grant = refl;
      lag = refl;
      posted = record {
        configured = posted.configured;
        mask = ap (with_slot slot) posted.mask;
        granted = posted.granted;
        ranges = posted.ranges;
        config = posted.config;
        only = λ k asks. elim (cases_eq k slot) [
          | inl e ↦ subst (λ n. terms_at old.unit.book n ≢ None) (sym e) taken
          | inr ne ↦ posted.only k (sym (set_other old.unit.mask slot k ne) ∙ asks)
        ];
      };
    } in
    let whole = post_is unit config mask granted lag in
    rw is (subst (IsTold slot true old) (sym whole) same)

pub told_clear : (slot : ℕ) (asks : Bool) (old new : Post) → asks ≡ false → slot < 32 → old.mask < 2 ^ 32 → IsPosted old
    → new.unit ≡ released slot old.unit → new.mask ≡ without_slot slot old.mask → new.granted ≡ old.granted
    → new.config ≡ old.config → new.lag ≡ old.lag → IsTold slot asks old new
told_clear slot asks old new is lt range posted unit mask granted config lag =
    let fits : old.unit.mask < 2 ^ 32 = subst (λ m. m < 2 ^ 32) posted.mask range in
    let same : IsTold slot false old
    (record {
      unit = released slot old.unit;
      config = old.config;
      mask = without_slot slot old.mask;
      granted = old.granted;
      lag = old.lag;
    }) =
    record {
      here = clear_same old.unit.mask slot lt;
      others = λ k ne. clear_other old.unit.mask slot k lt fits ne;
      config = refl;
      book = refl;
      grant = refl;
      lag = refl;
      posted = record {
        configured = posted.configured;
        mask = ap (without_slot slot) posted.mask;
        granted = posted.granted;
        ranges = posted.ranges;
        config = posted.config;
        only = λ k asks. elim (cases_eq k slot) [
          | inl e ↦ absurd (let off = clear_same old.unit.mask slot lt in let on : slot_asks
              (without_slot slot old.unit.mask) slot ≡ true = subst
              (λ n. slot_asks (without_slot slot old.unit.mask) n ≡ true) e asks in cc)
          | inr ne ↦ posted.only k (sym (clear_other old.unit.mask slot k lt fits ne) ∙ asks)
        ];
      };
    } in
    let whole = post_is unit config mask granted lag in
    rw is (subst (IsTold slot false old) (sym whole) same)
