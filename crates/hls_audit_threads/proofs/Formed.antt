-- What a well-formed report says of its commands and stays.
use Rattle.std.proofs.Common.{◌≡◌, ℕ, zero, suc, ◌<◌, ◌≤◌, List, [], ◌∷◌}
use Rattle.std.proofs.Common.{sym, subst, arith}
use Rattle.std.specs.Prelude.{Some, All, slice_get}
use Rattle.std.specs.List.{AllByRecursion}
use Rattle.std.proofs.lemmas.Option.{slice_get_within, get_or_from_slice_get}
use Rattle.hls_guarantee.specs.Limits.{IsValid}
use Rattle.hls_report_text.specs.declared.report.Answered.{Answered}
use Rattle.hls_report_text.specs.Content.{Content}
use Rattle.hls_report_text.specs.WellFormed.{AreAnswered, IsContent}
use Rattle.hls_legal.specs.declared.stay.Stay.{Stay}
use Rattle.hls_legal.specs.Stays.{stays}
use Rattle.hls_legal.specs.Accounts.{end_of}
use Rattle.hls_audit_threads.specs.Inside.Order.{AreInOrder, IsSound, IsOfGrammar}
use Rattle.hls_legal.proofs.GoodStays.{IsFit, IsGoodStay, answered_fit, stays_good, end_within}

all_good : (c : Content) → IsContent c → All (IsGoodStay c.horizon) (stays c.answered)
all_good c formed = stays_good c.version c.horizon c.answered formed.answered

pub stays_valid : (c : Content) (all : List Stay) → IsContent c → all ≡ stays c.answered
    → All (λ (stay : Stay). IsValid stay.kept) all
stays_valid c all formed e =
    subst (All (λ (stay : Stay). IsValid stay.kept)) (sym e)
    (λ k d lt. (all_good c formed k d lt).kept)

each : {A : Type 0} (P : A → Type 0) (xs : List A) (k : ℕ) (x : A) → All P xs → slice_get xs k ≡ Some x → P x
each P xs k x all e = subst P (get_or_from_slice_get xs k x x e) (all k x (slice_get_within xs k x e))

-- a stay ends by the horizon, and a command comes before it
pub stay_ends : (c : Content) (stay : Stay) (number : ℕ) → IsContent c
    → slice_get (stays c.answered) number ≡ Some stay
    → end_of c stay ≤ c.horizon
stay_ends c stay number formed e =
    let good = each (IsGoodStay c.horizon) (stays c.answered) number stay (all_good c formed) e in
    end_within c.horizon stay.until good.ends

-- ticks never fall
tail_late : (version horizon last : ℕ) (xs : List Answered) (j : ℕ) (b : Answered) → AreAnswered version horizon last xs
    → slice_get xs j ≡ Some b → last ≤ b.tick
tail_late version horizon last [] j b are e = absurd (cc)
tail_late version horizon last (a ∷ xs) zero b are e =
    let same : a ≡ b = cc in
    subst (λ (x : Answered). last ≤ x.tick) same are.2
tail_late version horizon last (a ∷ xs) (suc j) b are e =
    let first = are.2 in
    let rest = tail_late version horizon a.tick xs j b are.4 e in omega (arith, first, rest)

in_order : (version horizon last : ℕ) (xs : List Answered) (i j : ℕ) (a b : Answered)
    → AreAnswered version horizon last xs → i ≤ j → slice_get xs i ≡ Some a → slice_get xs j ≡ Some b → a.tick ≤ b.tick
in_order version horizon last [] i j a b are le e f = absurd (cc)
in_order version horizon last (x ∷ xs) zero zero a b are le e f =
    let same : a ≡ b = cc in
    subst (λ (y : Answered). a.tick ≤ y.tick) same (omega arith)
in_order version horizon last (x ∷ xs) zero (suc j) a b are le e f =
    let same : x ≡ a = cc in
    subst (λ (y : Answered). y.tick ≤ b.tick) same (tail_late version horizon x.tick xs j b are.4 f)
in_order version horizon last (x ∷ xs) (suc i) zero a b are le e f = absurd (omega (arith, le))
in_order version horizon last (x ∷ xs) (suc i) (suc j) a b are le e f =
    in_order version horizon x.tick xs i j a b are.4 (omega (arith, le)) e f

pub are_in_order : (c : Content) (all : List Answered) → IsContent c → all ≡ c.answered → AreInOrder all
are_in_order c all formed e =
    subst AreInOrder (sym e) (λ i j a b. in_order c.version c.horizon 0 c.answered i j a b formed.answered)

sound_from : (version horizon last : ℕ) (xs : List Answered) → AreAnswered version horizon last xs
    → AllByRecursion IsSound xs
sound_from version horizon last [] are = tt
sound_from version horizon last (a ∷ xs) are =
    let command : IsOfGrammar a.command = record { version = version; is = are.0 } in
    (record { command = command; answer = are.1 }, sound_from version horizon a.tick xs are.4)

pub all_sound : (c : Content) (all : List Answered) → IsContent c → all ≡ c.answered → AllByRecursion IsSound all
all_sound c all formed e =
    subst (AllByRecursion IsSound) (sym e) (sound_from c.version c.horizon 0 c.answered formed.answered)

pub command_early : (c : Content) (a : Answered) (at : ℕ) → IsContent c → slice_get c.answered at ≡ Some a
    → a.tick < c.horizon
command_early c a at formed e =
    let fit = answered_fit c.version c.horizon 0 c.answered formed.answered in
    (each (IsFit c.version c.horizon) c.answered at a fit e).early
