-- The later releases of a periodic wake, one after the other.
use Rattle.std.proofs.Common.{◌≡◌, ℕ, zero, suc, ◌+◌, ◌-◌, ◌*◌, ◌/◌, ◌<◌, ◌≤◌}
use Rattle.std.proofs.Common.{List, [], ◌∷◌, ◌++◌, Bool, true, false, refl}
use Rattle.std.proofs.Common.{sym, ap, ◌∙◌, subst, arith, append_assoc, append-nil}
use Rattle.std.specs.Prelude.{Option, Some, None, if◌then◌else◌}
use Rattle.std.proofs.Math.Nat.{suc-mul, div-mul-le_self}
use Rattle.hls_scenario.specs.Grammar.{IsBurst}
use Rattle.hls_view_jobs.specs.declared.job.Sort.{Sort}
use Rattle.hls_view_jobs.specs.declared.job.Sort.TheVariants.{Wakes}
use Rattle.hls_view_jobs.specs.declared.job.Word.{Word}
use Rattle.hls_view_jobs.specs.declared.words.Repeat.{Repeat}
use Rattle.hls_view_jobs.specs.Words.{first, again, last_by, later, end_in}
use Rattle.hls_view_jobs.specs.Inside.Sound.{HasBurst, AreWords}

-- so many periods fit
pub fits : (n period : ℕ) → n / period * period ≤ n
fits n period = div-mul-le_self n period

pub fits_behind : (tick last period : ℕ) → tick ≤ last → tick + (last - tick) / period * period ≤ last
fits_behind tick last period le = let most = fits (last - tick) period in omega (arith, most, le)

-- ---- they come in their order, before what comes behind them

pub words_since : (horizon last later : ℕ) (words : List Word) → last ≤ later → AreWords horizon later words
    → AreWords horizon last words
words_since horizon last later [] le are = tt
words_since horizon last later (word ∷ words) le are =
    let order = are.1 in (are.0, omega (arith, le, order), are.2, are.3)

again_sound : (horizon count period tick last : ℕ) (sort : Sort) (rest : List Word) → HasBurst sort
    → tick + count * period ≤ last → last < horizon → AreWords horizon last rest
    → AreWords horizon tick (again count period tick sort ++ rest)
again_sound horizon zero period tick last sort rest burst most early are =
    let le : tick ≤ last = omega (arith, most) in words_since horizon tick last rest le are
again_sound horizon (suc count) period tick last sort rest burst most early are =
    let long : suc count * period ≡ count * period + period = suc-mul count period in (
      burst,
      omega arith,
      omega (arith, long, most, early),
      again_sound horizon count period (tick + period) last sort rest burst (omega (arith, long, most)) early are,
    )

-- the last tick that may have one comes before the horizon
pub last_early : (horizon tick : ℕ) (rest : List Word) → tick < horizon → AreWords horizon tick rest
    → last_by horizon (first rest) < horizon
last_early horizon tick [] early are = omega (arith, early)
last_early horizon tick (word ∷ words) early are = are.2

pub last_since : (horizon tick : ℕ) (rest : List Word) → tick < horizon → AreWords horizon tick rest
    → tick ≤ last_by horizon (first rest)
last_since horizon tick [] early are = omega (arith, early)
last_since horizon tick (word ∷ words) early are = are.1

last_sound : (horizon tick : ℕ) (rest : List Word) → AreWords horizon tick rest
    → AreWords horizon (last_by horizon (first rest)) rest
last_sound horizon tick [] are = tt
last_sound horizon tick (word ∷ words) are = (are.0, omega arith, are.2, are.3)

abbrev pub HasTicks : Option Repeat → Type 0
HasTicks None = Unit {0}
HasTicks (Some r) = IsBurst (Some r.ticks)

pub later_sound : (horizon tick : ℕ) (r : Option Repeat) (rest behind : List Word) → HasTicks r → tick < horizon
    → AreWords horizon tick rest → AreWords horizon (last_by horizon (first rest)) behind
    → AreWords horizon tick (later tick (last_by horizon (first rest)) r ++ behind)
later_sound horizon tick None rest behind burst early are sound =
    words_since horizon tick (last_by horizon (first rest)) behind (last_since horizon tick rest early are) sound
later_sound horizon tick (Some r) rest behind burst early are sound =
    let last : ℕ = last_by horizon (first rest) in
    again_sound horizon ((last - tick) / r.period) r.period tick last (Wakes (Some r.ticks)) behind burst
    (fits_behind tick last r.period (last_since horizon tick rest early are)) (last_early horizon tick rest early are)
    sound

pub rest_sound : (horizon tick : ℕ) (rest : List Word) (end : Bool) → AreWords horizon tick rest
    → AreWords horizon (last_by horizon (first rest)) (if end then [] else rest)
rest_sound horizon tick rest end are = by end
  where
    by : (b : Bool) → AreWords horizon (last_by horizon (first rest)) (if b then [] else rest)
    by true = tt
    by false = last_sound horizon tick rest are

-- ---- none of them ends the thread

again_goes_on : (horizon count period tick : ℕ) (burst : Option ℕ) (rest : List Word)
    → end_in horizon (again count period tick (Wakes burst) ++ rest) ≡ end_in horizon rest
again_goes_on horizon zero period tick burst rest = refl
again_goes_on horizon (suc count) period tick burst rest =
    again_goes_on horizon count period (tick + period) burst rest

pub later_goes_on : (horizon tick last : ℕ) (r : Option Repeat) (rest : List Word)
    → end_in horizon (later tick last r ++ rest) ≡ end_in horizon rest
later_goes_on horizon tick last None rest = refl
later_goes_on horizon tick last (Some r) rest =
    again_goes_on horizon ((last - tick) / r.period) r.period tick (Some r.ticks) rest

-- ---- one by one

-- what is put so far, and what is left of them
pub record IsPutTo (old : List Word) (many period tick : ℕ) (sort : Sort) (new : List Word) (at left : ℕ) : Type 0 where
  pub whole : new ++ again left period at sort ≡ old ++ again many period tick sort
  pub room : at + left * period ≡ tick + many * period

pub put_none : (old : List Word) (many period tick : ℕ) (sort : Sort)
    → IsPutTo old many period tick sort old tick many
put_none old many period tick sort = record { whole = refl; room = refl }

pub put_next : (old new more : List Word) (many period tick at left : ℕ) (sort : Sort)
    → more ≡ new ++ record { tick = at + period; sort = sort } ∷ []
    → IsPutTo old many period tick sort new at (suc left) → IsPutTo old many period tick sort more (at + period) left
put_next old new more many period tick at left sort put so =
    let long : suc left * period ≡ left * period + period = suc-mul left period in
    let room = so.room in
    record {
      whole = ap (λ (l : List Word). l ++ again left period (at + period) sort) put
          ∙ append_assoc new (record { tick = at + period; sort = sort } ∷ []) (again left period (at + period) sort)
          ∙ so.whole;
      room = omega (arith, long, room);
    }

pub put_all : (old new : List Word) (many period tick at left : ℕ) (sort : Sort) → left ≡ 0
    → IsPutTo old many period tick sort new at left → new ≡ old ++ again many period tick sort
put_all old new many period tick at left sort none so =
    sym (append-nil new)
    ∙ ap (λ (n : ℕ). new ++ again n period at sort) (sym none)
    ∙ so.whole

-- the next one comes no later than the last tick
pub put_early : (old new : List Word) (many period tick last at left : ℕ) (sort : Sort) → many ≡ (last - tick) / period
    → 1 ≤ period → 1 ≤ left → IsPutTo old many period tick sort new at left → left ≤ many → at + period ≤ last
put_early old new many period tick last at zero sort is some left so few = absurd (omega (arith, left))
put_early old new zero period tick last at (suc more) sort is some left so few = absurd (omega (arith, few))
put_early old new (suc many) period tick last at (suc more) sort is some left so few =
    let long : suc more * period ≡ more * period + period = suc-mul more period in
    let wide : suc many * period ≡ many * period + period = suc-mul many period in
    let room = so.room in
    let most : suc many * period ≤ last - tick =
    subst (λ (n : ℕ). n * period ≤ last - tick) (sym is) (fits (last - tick) period) in
    omega (arith, long, wide, room, most, some)
