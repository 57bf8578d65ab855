-- Each rule of conversion is sound: for what is promised, and for what is capped.
use Rattle.std.proofs.Common.{◌≡◌, ℕ, ◌+◌, ◌*◌, ◌-◌, ◌≤◌, Bool, true, false, arith, sym, subst, ap, ◌∙◌, inl, inr}
use Rattle.std.proofs.Common.{mul-le-mul_right}
use Rattle.std.proofs.lemmas.Bool.{cases_lt}
use Rattle.hls_frac.specs.declared.Frac.{Frac}
use Rattle.hls_guarantee.specs.declared.Guarantee.{Guarantee}
use Rattle.hls_guarantee.specs.declared.Guarantee.TheVariants.{All, Null, Resb, Resc, Psbe}
use Rattle.hls_guarantee.specs.declared.rule.RuleName.{RuleName}
use Rattle.hls_guarantee.specs.declared.rule.RuleName.TheVariants.{R1, R2, R3, R4, R5, R6, R7, R8, R9, R10, R11}
use Rattle.hls_chron.specs.Ticks.{count}
use Rattle.hls_guarantee.specs.Satisfaction.{Satisfies}
use Rattle.hls_guarantee.specs.Cap.{KeepsCap}
use Rattle.hls_guarantee.specs.Supply.{Supplies}
use Rattle.hls_guarantee.specs.Limits.{IsReservation, IsValid}
use Rattle.hls_guarantee.specs.Conversions.{HasTimes, Leads, Converts}
use Rattle.hls_guarantee.proofs.Shares.{HasFew, span-share, piece-share}
use Rattle.hls_guarantee.proofs.Spans.{piece_spans}
use Rattle.hls_guarantee.proofs.Times.{shorter, times}
use Rattle.hls_guarantee.proofs.Fractions.{share-less, all-shares}
use Rattle.hls_guarantee.proofs.Readings.{soft, windows-spans, blocks-spans, spans-windows, windows-blocks}
use Rattle.hls_guarantee.proofs.Readings.{few-share, all-served, all-windows, share-windows}
use Rattle.hls_guarantee.proofs.Caps.{windows_cap-blocks}

soft_windows : (hard : Bool) (x y : ℕ) (f : ℕ → Bool) (lo hi : ℕ) → Satisfies (Resc hard x y) f lo hi →
    Satisfies (Resc false x y) f lo hi
soft_windows hard x y f lo hi s = λ i n from to short.
    let reserved = s i n from to short in
    soft x y n (count f i n) reserved.enough

-- less time of the same blocks
soft_blocks : (hard : Bool) (x y x' : ℕ) (f : ℕ → Bool) (lo hi : ℕ) → x' ≤ x →
    Satisfies (Resb hard x y) f lo hi → Satisfies (Resb false x' y) f lo hi
soft_blocks hard x y x' f lo hi le s = (
  s.0,
  s.1,
  λ i n from to piece.
      let reserved = s.2 i n from to piece in
      soft x' y n (count f i n) (omega (arith, reserved.enough)),
)

shorter_windows : (x y x' y' : ℕ) (f : ℕ → Bool) (lo hi : ℕ) → IsReservation x y → IsReservation x' y' →
    x' ≤ x → y ≤ y' → Satisfies (Resc false x y) f lo hi → Satisfies (Resc false x' y') f lo hi
shorter_windows x y x' y' f lo hi from to less wide s =
    let fits = from.fits in
    let spans = windows-spans false x y f lo hi fits s in
    spans-windows x' y' (y - x) y f lo hi to.fits spans wide (omega arith)

blocks_windows : (hard : Bool) (x y x' y' : ℕ) (f : ℕ → Bool) (lo hi : ℕ) → IsReservation x y →
    IsReservation x' y' → x' ≤ x → 2 * y ≤ x + y' → Satisfies (Resb hard x y) f lo hi →
    Satisfies (Resc false x' y') f lo hi
blocks_windows hard x y x' y' f lo hi from to less wide s =
    let c : ℕ = y - x in
    let fits = from.fits in
    let pieces = blocks-spans hard x y f lo hi fits s in
    let spans = piece_spans x c s.0 y f lo hi s.1 (omega arith) pieces in
    spans-windows x' y' (c + c) (y + c) f lo hi to.fits spans (omega arith) (omega arith)

-- the fewer, the sooner
fewer_windows : (hard : Bool) (x y x' y' : ℕ) (f : ℕ → Bool) (lo hi : ℕ) → IsReservation x y → IsReservation x' y'
    → x' ≤ x → 2 * y + x' ≤ 2 * x + y' → Satisfies (Resb hard x y) f lo hi → Satisfies (Resc false x' y') f lo hi
fewer_windows hard x y x' y' f lo hi from to less wide s =
    let c : ℕ = y - x in
    let fits = from.fits in
    let pieces = blocks-spans hard x y f lo hi fits s in
    let spans = piece_spans x c s.0 y f lo hi s.1 (omega arith) pieces in
    elim (cases_lt y' (y + c)) [
      | inl short ↦
          spans-windows x' y' (c + c) y' f lo hi to.fits
          (shorter (c + c) (y + c) y' f lo hi spans (omega (arith, short)))
          (omega arith) (omega (arith, fits, wide))
      | inr long ↦
          spans-windows x' y' (c + c) (y + c) f lo hi to.fits spans long (omega (arith, fits, long, less))
    ]

many_windows : (hard : Bool) (x y x' y' : ℕ) (f : ℕ → Bool) (lo hi : ℕ) → IsReservation x y → IsReservation x' y'
    → HasTimes x y x' y' → Satisfies (Resc hard x y) f lo hi → Satisfies (Resc false x' y') f lo hi
many_windows hard x y x' y' f lo hi from to has s =
    let c : ℕ = y - x in
    let k : ℕ = has.times in
    let sum : y ≡ c + x = (let fits = from.fits in omega arith) in
    let all : k * y ≡ k * c + k * x = ap (λ n. k * n) sum ∙ omega arith in
    spans-windows x' y' (k * c) (k * y) f lo hi to.fits
    (times c y k f lo hi (windows-spans hard x y f lo hi from.fits s)) has.within
    (omega (arith, all, has.enough, has.within))

windows-few : (hard : Bool) (x y : ℕ) (f : ℕ → Bool) (lo hi : ℕ) → IsReservation x y →
    Satisfies (Resc hard x y) f lo hi → (i j : ℕ) → lo ≤ i → i ≤ j → j ≤ hi → HasFew (y - x) y x f i j
windows-few hard x y f lo hi valid s i j from up to =
    let fits = valid.fits in
    let some = valid.some in
    let spans = windows-spans hard x y f lo hi fits s in
    let far = mul-le-mul_right {m = 1} {n = y} j (omega arith) in
    span-share x (y - x) y j f lo hi (omega arith) spans i j from up to (omega (arith, far))

blocks-few : (hard : Bool) (x y : ℕ) (f : ℕ → Bool) (lo hi : ℕ) → IsReservation x y →
    Satisfies (Resb hard x y) f lo hi → (i j : ℕ) → lo ≤ i → i ≤ j → j ≤ hi → HasFew (y - x) y (2 * x) f i j
blocks-few hard x y f lo hi valid s i j from up to =
    let fits = valid.fits in
    let pieces = blocks-spans hard x y f lo hi fits s in
    piece-share x (y - x) s.0 y f lo hi s.1 (omega arith) pieces i j from up to

lower_share : (s d s' d' : Frac) (f : ℕ → Bool) (lo hi : ℕ) → IsValid (Psbe s d) →
    Leads R1 (Psbe s d) (Psbe s' d') → Satisfies (Psbe s d) f lo hi → Satisfies (Psbe s' d') f lo hi
lower_share s d s' d' f lo hi valid leads share = λ i n from to.
    share-less s.num s.den d.num d.den s'.num s'.den d'.num d'.den n (count f i n)
    valid.some d.positive (omega (arith, leads.0)) (omega (arith, leads.1)) (share i n from to)

all-share : (s d : Frac) (f : ℕ → Bool) (lo hi : ℕ) → s.num ≤ s.den → Satisfies All f lo hi →
    Satisfies (Psbe s d) f lo hi
all-share s d f lo hi one all = λ i n from to.
    rw (all-served f lo hi i n all from to) (all-shares s.num s.den d.num d.den n one)

some-y : (x y : ℕ) → IsReservation x y → 1 ≤ y
some-y x y valid =
    let some = valid.some in
    let fits = valid.fits in
    omega arith

sound : (rule : RuleName) (g h : Guarantee) (f : ℕ → Bool) (lo hi : ℕ) → IsValid g → IsValid h →
    Leads rule g h → Satisfies g f lo hi → Satisfies h f lo hi
sound R1 (Resc false x y) (Resc false x' y') f lo hi from to leads s =
    shorter_windows x y x' y' f lo hi from to (omega (arith, leads.0)) (omega (arith, leads.1)) s
sound R1 (Resb false x y) (Resb false x' y') f lo hi from to leads s =
    rw leads.1 (soft_blocks false x y x' f lo hi (omega (arith, leads.0)) s)
sound R1 (Psbe s d) (Psbe s' d') f lo hi from to leads share =
    lower_share s d s' d' f lo hi from leads share
sound R2 (Resb true x y) h f lo hi from to leads s =
    subst (λ k. Satisfies k f lo hi) (sym leads) (soft_blocks true x y x f lo hi (omega arith) s)
sound R2 (Resc true x y) h f lo hi from to leads s =
    subst (λ k. Satisfies k f lo hi) (sym leads) (soft_windows true x y f lo hi s)
sound R3 (Resb hard x y) (Resc false x' y') f lo hi from to leads s =
    blocks_windows hard x y x' y' f lo hi from to (omega (arith, leads.0)) (omega (arith, leads.1)) s
sound R4 (Resb hard x y) (Psbe s d) f lo hi from to leads own =
    few-share s d x y (2 * x) f lo hi (some-y x y from) from.fits leads.0 (omega (arith, leads.1))
    (blocks-few hard x y f lo hi from own)
sound R5 (Resc hard x y) (Psbe s d) f lo hi from to leads own =
    few-share s d x y x f lo hi (some-y x y from) from.fits leads.0 (omega (arith, leads.1))
    (windows-few hard x y f lo hi from own)
sound R6 (Psbe s d) (Resc false x' y') f lo hi from to leads share =
    share-windows s d x' y' f lo hi from.fits (omega (arith, leads)) share
sound R6 (Psbe s d) (Resb false x' y') f lo hi from to leads share =
    let windows = share-windows s d x' y' f lo hi from.fits (omega (arith, leads)) share in
    windows-blocks false x' y' f lo hi to.some to.fits windows
sound R7 (Resc hard x y) h f lo hi from to leads s =
    subst (λ k. Satisfies k f lo hi) (sym leads) (windows-blocks hard x y f lo hi from.some from.fits s)
sound R8 All (Resb false x' y') f lo hi from to leads s =
    windows-blocks false x' y' f lo hi to.some to.fits (all-windows x' y' f lo hi to.fits s)
sound R8 All (Resc false x' y') f lo hi from to leads s = all-windows x' y' f lo hi to.fits s
sound R8 All (Psbe s' d') f lo hi from to leads s = all-share s' d' f lo hi to.fits s
sound R9 g h f lo hi from to leads s = subst (λ k. Satisfies k f lo hi) (sym leads) tt
sound R10 (Resb hard x y) (Resc false x' y') f lo hi from to leads s =
    fewer_windows hard x y x' y' f lo hi from to leads.0 leads.1 s
sound R11 (Resc hard x y) (Resc false x' y') f lo hi from to leads s =
    many_windows hard x y x' y' f lo hi from to leads s
sound _ _ _ f lo hi from to leads s = absurd leads

pub converts-satisfies : (rule : RuleName) (g h : Guarantee) (f : ℕ → Bool) (lo hi : ℕ) → Converts rule g h →
    Satisfies g f lo hi → Satisfies h f lo hi
converts-satisfies rule g h f lo hi c s = sound rule g h f lo hi c.from c.to c.leads s

-- the cap of windows is that of blocks, and no other rule leads to a cap
capped : (rule : RuleName) (g h : Guarantee) (f : ℕ → Bool) (lo hi : ℕ) → IsValid g → Leads rule g h →
    KeepsCap g f lo hi → KeepsCap h f lo hi
capped R7 (Resc true x y) h f lo hi from leads kept =
    subst (λ k. KeepsCap k f lo hi) (sym leads) (windows_cap-blocks x y f lo hi (some-y x y from) kept)
capped R7 (Resc false x y) h f lo hi from leads kept = subst (λ k. KeepsCap k f lo hi) (sym leads) tt
capped R2 (Resb true x y) h f lo hi from leads kept = subst (λ k. KeepsCap k f lo hi) (sym leads) tt
capped R2 (Resc true x y) h f lo hi from leads kept = subst (λ k. KeepsCap k f lo hi) (sym leads) tt
capped R9 g h f lo hi from leads kept = subst (λ k. KeepsCap k f lo hi) (sym leads) tt
capped rule g All f lo hi from leads kept = tt
capped rule g Null f lo hi from leads kept = tt
capped rule g (Resb false x' y') f lo hi from leads kept = tt
capped rule g (Resc false x' y') f lo hi from leads kept = tt
capped rule g (Psbe s' d') f lo hi from leads kept = tt
capped _ All _ f lo hi from leads kept = absurd leads
capped _ Null _ f lo hi from leads kept = absurd leads
capped _ (Resb true x y) _ f lo hi from leads kept = absurd leads
capped _ (Resb false x y) _ f lo hi from leads kept = absurd leads
capped _ (Resc true x y) _ f lo hi from leads kept = absurd leads
capped _ (Resc false x y) _ f lo hi from leads kept = absurd leads
capped _ (Psbe s d) _ f lo hi from leads kept = absurd leads

pub converts-keeps_cap : (rule : RuleName) (g h : Guarantee) (f : ℕ → Bool) (lo hi : ℕ) → Converts rule g h →
    KeepsCap g f lo hi → KeepsCap h f lo hi
converts-keeps_cap rule g h f lo hi c kept = capped rule g h f lo hi c.from c.leads kept

pub converts-supplies : (rule : RuleName) (g h : Guarantee) (f a : ℕ → Bool) (lo hi : ℕ) → Converts rule g h →
    Supplies g f a lo hi → Supplies h f a lo hi
converts-supplies rule g h f a lo hi c s = record {
  met = λ i j from to all. converts-satisfies rule g h f i j c (s.met i j from to all);
  capped = converts-keeps_cap rule g h f lo hi c s.capped;
}
