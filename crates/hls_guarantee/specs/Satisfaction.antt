-- What a guarantee promises of the ticks from lo on and before hi of a schedule.
use Rattle.std.specs.Prelude.{◌≡◌, ℕ, ◌+◌, ◌*◌, ◌≤◌, ◌<◌, Bool, true, false, List, length}
use Rattle.hls_frac.specs.declared.Frac.{Frac}
use Rattle.hls_guarantee.specs.declared.Guarantee.{Guarantee}
use Rattle.hls_guarantee.specs.declared.Guarantee.TheVariants.{All, Null, Resb, Resc, Psbe}
use Rattle.hls_guarantee.specs.Service.{EveryPart, schedule_of}

-- of n ticks, n ≤ y, at least x - (y - n) are served, and where it is hard at most x
pub record IsReserved (hard : Bool) (x y n got : ℕ) : Type 0 where
  pub enough : x + n ≤ y + got
  pub capped : hard ≡ true → got ≤ x

-- the n ticks from i on lie in one piece, where the ticks are cut before e, e + y, e + 2 * y and so on
pub record InPiece (e y i n : ℕ) : Type 0 where
  pub cut : ℕ
  pub starts : e + cut * y ≤ i + y
  pub ends : i + n ≤ e + cut * y

-- of n ticks at least s * n - d are served
abbrev pub HasShare : (s d : Frac) (n got : ℕ) → Type 0
HasShare s d n got = s.num * n * d.den ≤ (got * d.den + d.num) * s.den

-- every tick; nothing; by sliding windows; by the pieces of one offset; by a share
abbrev pub Satisfies : Guarantee → (served : ℕ → Bool) (lo hi : ℕ) → Type 0
Satisfies All served lo hi = (t : ℕ) → lo ≤ t → t < hi → served t ≡ true
Satisfies Null served lo hi = Unit {0}
Satisfies (Resc hard x y) served lo hi =
    EveryPart (λ i n got. n ≤ y → IsReserved hard x y n got) served lo hi
Satisfies (Resb hard x y) served lo hi =
    (e : ℕ) × (e < y) × EveryPart (λ i n got. InPiece e y i n → IsReserved hard x y n got) served lo hi
Satisfies (Psbe s d) served lo hi = EveryPart (λ i n got. HasShare s d n got) served lo hi

-- the same of a list of served and unserved ticks
abbrev pub ListSatisfies : Guarantee → List Bool → Type 0
ListSatisfies g list = Satisfies g (schedule_of list) 0 (length list)

-- a promise that more service never breaks
abbrev pub IsSoft : Guarantee → Type 0
IsSoft (Resb hard x y) = hard ≡ false
IsSoft (Resc hard x y) = hard ≡ false
IsSoft _ = Unit {0}
