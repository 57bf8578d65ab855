-- Jobs that are dropped, command by command.
use Rattle.std.proofs.Common.{◌≡◌, ℕ, zero, suc, ◌+◌, ◌<◌, ◌≤◌, List, [], ◌∷◌}
use Rattle.std.proofs.Common.{◌++◌, Bool, true, false, refl, sym, ap, ◌∙◌}
use Rattle.std.proofs.Common.{◌&&◌, ◌||◌, ◌==◌, drop, length, subst, arith}
use Rattle.std.specs.Prelude.{Option, Some, None, IfSome, slice_get}
use Rattle.std.specs.List.{list_any, AllByRecursion}
use Rattle.std.proofs.lemmas.Bool.{ne_eqb}
use Rattle.std.proofs.lemmas.List.{drop_all}
use Rattle.std.proofs.lemmas.Option.{slice_get_within, get_or_from_slice_get}
use Rattle.std.proofs.lemmas.List.Folds.{list_any-append}
use Rattle.hls_text.specs.Lines.{Text}
use Rattle.hls_report_text.specs.declared.report.Answered.{Answered}
use Rattle.hls_report_text.specs.Content.{Content}
use Rattle.hls_report_text.specs.WellFormed.{AreAnswered, IsContent}
use Rattle.hls_view_jobs.specs.declared.job.Sort.{Sort}
use Rattle.hls_view_jobs.specs.declared.job.Sort.TheVariants.{Wakes, Blocks, Ends}
use Rattle.hls_view_jobs.specs.declared.job.Word.{Word}
use Rattle.hls_view_jobs.specs.declared.job.Release.{Release}
use Rattle.hls_view_jobs.specs.Words.{is_wake, words_on, first}
use Rattle.hls_view_jobs.specs.Inside.Sound.{AreWords}
use Rattle.hls_view_jobs.specs.Jobs.{release_of, releases}
use Rattle.hls_view_jobs.proofs.WordLaws.{dropped_at}
use Rattle.hls_view_jobs.proofs.WordsSound.{words_sound}
use Rattle.hls_view_signs.specs.Happenings.{is_woken, is_dropped}
use Rattle.hls_view_signs.specs.Inside.Words.{released, any_released, AreEarly, AreRising, last_of}

-- ---- one word more

behind_word : (f : Release → Bool) (last : Option Word) (w : Word) (ws : List Word)
    → any_released f last (w ∷ ws) ≡ (list_any f (released last (Some w)) || any_released f (Some w) ws)
behind_word f last w ws =
    list_any-append f (released last (Some w)) (release_of w.tick w.sort (first ws) ++ releases ws)

word_at : (f : Release → Bool) (last : Option Word) (ws : List Word) (i : ℕ) (w : Word) → slice_get ws i ≡ Some w
    → any_released f last (drop i ws)
    ≡ (list_any f (released last (Some w)) || any_released f (Some w) (drop (i + 1) ws))
word_at f last ws i w there =
    ap (any_released f last) (dropped_at ws i w (slice_get_within ws i w there)
    (sym (get_or_from_slice_get ws i w w there)))
    ∙ behind_word f last w (drop (i + 1) ws)

-- the word at a place cuts the job before it short
pub cut_at : (f : Release → Bool) (last : Option Word) (ws : List Word) (i : ℕ) (w : Word) → slice_get ws i ≡ Some w
    → list_any f (released last (Some w)) ≡ true → any_released f last (drop i ws) ≡ true
cut_at f last ws i w there cut =
    word_at f last ws i w there ∙ ap (λ b. b || any_released f (Some w) (drop (i + 1) ws)) cut

-- it does not
pub left_at : (f : Release → Bool) (last : Option Word) (ws : List Word) (i : ℕ) (w : Word) → slice_get ws i ≡ Some w
    → list_any f (released last (Some w)) ≡ false
    → any_released f last (drop i ws) ≡ any_released f (Some w) (drop (i + 1) ws)
left_at f last ws i w there whole =
    word_at f last ws i w there ∙ ap (λ b. b || any_released f (Some w) (drop (i + 1) ws)) whole

-- ---- a job that no further word came to is not dropped

open_left : (c : Content) (t : ℕ) (name : Text) (last : Option Word)
    → list_any (is_dropped c t name) (released last None ++ []) ≡ false
open_left c t name None = refl
open_left c t name (Some w) = by w.tick w.sort
  where
    by : (tick : ℕ) (sort : Sort) → list_any (is_dropped c t name) (release_of tick sort None ++ []) ≡ false
    by tick (Wakes (Some asked)) = refl
    by tick (Wakes None) = refl
    by tick Blocks = refl
    by tick Ends = refl

pub none_left : (c : Content) (t : ℕ) (name : Text) (last : Option Word) (ws : List Word) (i : ℕ)
    → length ws ≤ i → any_released (is_dropped c t name) last (drop i ws) ≡ false
none_left c t name last ws i end =
    ap (any_released (is_dropped c t name) last) (drop_all i ws end) ∙ open_left c t name last

-- in a tick none is cut by a word of another
not_now : (c : Content) (t : ℕ) (name : Text) (last : Option Word) (w : Word) → (w.tick == t) ≡ false
    → list_any (is_dropped c t name) (released last (Some w)) ≡ false
not_now c t name None w off = refl
not_now c t name (Some v) w off = by v.tick v.sort
  where
    by : (tick : ℕ) (sort : Sort) → list_any (is_dropped c t name) (release_of tick sort (Some w)) ≡ false
    by tick (Wakes (Some asked)) = rw off refl
    by tick (Wakes None) = refl
    by tick Blocks = refl
    by tick Ends = refl

past_none : (ws : List Word) (i : ℕ) → slice_get ws i ≡ None → i < length ws → ⊥
past_none [] i none lt = omega (arith, lt)
past_none (w ∷ ws) zero none lt = cc
past_none (w ∷ ws) (suc i) none lt = past_none ws i none (omega (arith, lt))

other_word : (w : Word) (t : ℕ) → (w.tick ≡ t → ⊥) → (w.tick == t) ≡ false
other_word w t other = ne_eqb w.tick t other

one_over : (c : Content) (t : ℕ) (name : Text) (ws : List Word) (i : ℕ) (got : Option Word) → slice_get ws i ≡ got
    → i < length ws → ((w : Word) → got ≡ Some w → w.tick < t)
    → any_released (is_dropped c t name) (last_of ws i) (drop i ws)
    ≡ any_released (is_dropped c t name) got (drop (suc i) ws)
one_over c t name ws i None is lt early = absurd (past_none ws i is lt)
one_over c t name ws i (Some w) is lt early =
    let next : i + 1 ≡ suc i = omega arith in
    let soon : w.tick < t = early w refl in
    left_at (is_dropped c t name) (last_of ws i) ws i w is
    (not_now c t name (last_of ws i) w (other_word w t (λ same. omega (arith, soon, same))))
    ∙ ap (λ n. any_released (is_dropped c t name) (Some w) (drop n ws)) next

-- words before it are passed over
pub passed_over : (c : Content) (t : ℕ) (name : Text) (ws : List Word) (i : ℕ)
    → ((k : ℕ) (w : Word) → k < i → slice_get ws k ≡ Some w → w.tick < t) → i ≤ length ws
    → list_any (is_dropped c t name) (releases ws) ≡ any_released (is_dropped c t name) (last_of ws i) (drop i ws)
passed_over c t name ws zero early within = refl
passed_over c t name ws (suc i) early within =
    passed_over c t name ws i (λ k w lt. early k w (omega (arith, lt))) (omega (arith, within))
    ∙ one_over c t name ws i (slice_get ws i) refl (omega (arith, within)) (λ w is. early i w (omega arith) is)

none_late : (c : Content) (t : ℕ) (name : Text) (last : Option Word) (ws : List Word)
    → AllByRecursion (λ (w : Word). t < w.tick) ws → any_released (is_dropped c t name) last ws ≡ false
none_late c t name last [] late = open_left c t name last
none_late c t name last (w ∷ ws) late =
    let far = late.0 in
    behind_word (is_dropped c t name) last w ws
    ∙ ap (λ b. b || any_released (is_dropped c t name) (Some w) ws)
    (not_now c t name last w (other_word w t (λ same. omega (arith, far, same))))
    ∙ none_late c t name (Some w) ws late.1

all_late : (t : ℕ) (ws : List Word) (i : ℕ)
    → ((k : ℕ) (w : Word) → i ≤ k → slice_get ws k ≡ Some w → t < w.tick)
    → AllByRecursion (λ (w : Word). t < w.tick) (drop i ws)
all_late t [] zero late = tt
all_late t (w ∷ ws) zero late =
    (late 0 w (omega arith) refl, all_late t ws zero (λ k v le. late (suc k) v (omega arith)))
all_late t [] (suc i) late = tt
all_late t (w ∷ ws) (suc i) late = all_late t ws i (λ k v le. late (suc k) v (omega (arith, le)))

-- behind a word of a later tick none is cut
pub none_behind : (c : Content) (t : ℕ) (name : Text) (last : Option Word) (ws : List Word) (i : ℕ) (w : Word)
    → AreRising ws → slice_get ws i ≡ Some w → t < w.tick
    → any_released (is_dropped c t name) last (drop i ws) ≡ false
none_behind c t name last ws i w rising there late =
    none_late c t name last (drop i ws)
    (all_late t ws i (λ k v le at. let more = rising i k w v le there at in omega (arith, late, more)))

-- ---- commands come before the horizon, and so do words

answered_since : (version h last later : ℕ) (all : List Answered) → last ≤ later → AreAnswered version h later all
    → AreAnswered version h last all
answered_since version h last later [] le are = tt
answered_since version h last later (a ∷ all) le are =
    let order = are.2 in (are.0, are.1, omega (arith, le, order), are.3, are.4)

answered_behind : (version k h last : ℕ) (all : List Answered) → AreAnswered version h last all
    → AreAnswered version h last (drop k all)
answered_behind version zero h last all are = are
answered_behind version (suc k) h last [] are = are
answered_behind version (suc k) h last (a ∷ all) are =
    answered_since version h last a.tick (drop k all) are.2 (answered_behind version k h a.tick all are.4)

words_early : (h last : ℕ) (ws : List Word) → AreWords h last ws → AreEarly h ws
words_early h last [] are = tt
words_early h last (w ∷ ws) are = (are.2, words_early h w.tick ws are.3)

pub words_behind : (c : Content) (name : Text) (k : ℕ) → IsContent c
    → AreWords c.horizon 0 (words_on c.horizon name (drop k c.answered))
words_behind c name k formed =
    words_sound c.version c.horizon 0 name (drop k c.answered)
    (answered_behind c.version k c.horizon 0 c.answered formed.answered)

pub early_behind : (c : Content) (name : Text) (k : ℕ) → IsContent c
    → AreEarly c.horizon (words_on c.horizon name (drop k c.answered))
early_behind c name k formed =
    words_early c.horizon 0 (words_on c.horizon name (drop k c.answered)) (words_behind c name k formed)

pub early_more : (t h : ℕ) (ws : List Word) → t ≤ h → AreEarly t ws → AreEarly h ws
early_more t h [] le early = tt
early_more t h (w ∷ ws) le early = (let first = early.0 in omega (arith, le, first), early_more t h ws le early.1)

pub early_at : (t : ℕ) (ws : List Word) (i : ℕ) (w : Word) → slice_get ws i ≡ Some w → AreEarly t ws → w.tick < t
early_at t [] i w there early = absurd (cc)
early_at t (v ∷ ws) zero w there early = let same : v ≡ w = cc in subst (λ (x : Word). x.tick < t) same early.0
early_at t (v ∷ ws) (suc i) w there early = early_at t ws i w there early.1

some_early : (t : ℕ) (ws : List Word) (i : ℕ) (got : Option Word) → slice_get ws i ≡ got → AreEarly t ws
    → IfSome got (λ (w : Word). w.tick < t)
some_early t ws i None is early = tt
some_early t ws i (Some w) is early = early_at t ws i w is early

pub last_early : (t : ℕ) (ws : List Word) (i : ℕ) → AreEarly t ws → IfSome (last_of ws i) (λ (w : Word). w.tick < t)
last_early t ws zero early = tt
last_early t ws (suc i) early = some_early t ws i (slice_get ws i) refl early

-- ---- and their ticks never fall

abbrev rises_from : ℕ → List Word → Type 0
rises_from t [] = Unit {0}
rises_from t (w ∷ ws) = (t ≤ w.tick) × rises_from w.tick ws

words_rise : (h last : ℕ) (ws : List Word) → AreWords h last ws → rises_from last ws
words_rise h last [] are = tt
words_rise h last (w ∷ ws) are = (are.1, words_rise h w.tick ws are.3)

rise_at : (t : ℕ) (ws : List Word) (j : ℕ) (b : Word) → rises_from t ws → slice_get ws j ≡ Some b → t ≤ b.tick
rise_at t [] j b rise there = absurd (cc)
rise_at t (w ∷ ws) zero b rise there = let same : w ≡ b = cc in subst (λ (x : Word). t ≤ x.tick) same rise.0
rise_at t (w ∷ ws) (suc j) b rise there =
    let first = rise.0 in
    let rest = rise_at w.tick ws j b rise.1 there in omega (arith, first, rest)

in_order : (t : ℕ) (ws : List Word) → rises_from t ws → AreRising ws
in_order t [] rise i j a b le e f = absurd (cc)
in_order t (w ∷ ws) rise zero zero a b le e f =
    let same : a ≡ b = cc in
    subst (λ (x : Word). a.tick ≤ x.tick) same (omega arith)
in_order t (w ∷ ws) rise zero (suc j) a b le e f =
    let same : w ≡ a = cc in
    subst (λ (x : Word). x.tick ≤ b.tick) same (rise_at w.tick ws j b rise.1 f)
in_order t (w ∷ ws) rise (suc i) zero a b le e f = absurd (omega (arith, le))
in_order t (w ∷ ws) rise (suc i) (suc j) a b le e f = in_order w.tick ws rise.1 i j a b (omega (arith, le)) e f

pub rising_behind : (c : Content) (name : Text) (k : ℕ) → IsContent c
    → AreRising (words_on c.horizon name (drop k c.answered))
rising_behind c name k formed =
    in_order 0 (words_on c.horizon name (drop k c.answered))
    (words_rise c.horizon 0 (words_on c.horizon name (drop k c.answered)) (words_behind c name k formed))

-- ---- who is woken

-- words of earlier ticks are passed over
pub woken_passed : (t : ℕ) (ws : List Word) (i : ℕ)
    → ((k : ℕ) (w : Word) → k < i → slice_get ws k ≡ Some w → w.tick < t)
    → list_any (is_woken t) ws ≡ list_any (is_woken t) (drop i ws)
woken_passed t ws zero early = refl
woken_passed t [] (suc i) early = refl
woken_passed t (w ∷ ws) (suc i) early =
    let soon : w.tick < t = early 0 w (omega arith) refl in
    ap (λ b. (b && is_wake w.sort) || list_any (is_woken t) ws)
    (other_word w t (λ same. omega (arith, soon, same)))
    ∙ woken_passed t ws i (λ k v lt. early (suc k) v (omega (arith, lt)))

none_woken : (t : ℕ) (ws : List Word) → AllByRecursion (λ (w : Word). t < w.tick) ws
    → list_any (is_woken t) ws ≡ false
none_woken t [] late = refl
none_woken t (w ∷ ws) late =
    let far = late.0 in
    ap (λ b. (b && is_wake w.sort) || list_any (is_woken t) ws)
    (other_word w t (λ same. omega (arith, far, same)))
    ∙ none_woken t ws late.1

pub woken_late : (t : ℕ) (ws : List Word) (i : ℕ) (w : Word) → AreRising ws → slice_get ws i ≡ Some w → t < w.tick
    → list_any (is_woken t) (drop i ws) ≡ false
woken_late t ws i w rising there late =
    none_woken t (drop i ws)
    (all_late t ws i (λ k v le at. let more = rising i k w v le there at in omega (arith, late, more)))

woken_at : (t : ℕ) (ws : List Word) (i : ℕ) (w : Word) → slice_get ws i ≡ Some w
    → list_any (is_woken t) (drop i ws) ≡ (is_woken t w || list_any (is_woken t) (drop (i + 1) ws))
woken_at t ws i w there =
    ap (list_any (is_woken t)) (dropped_at ws i w (slice_get_within ws i w there)
    (sym (get_or_from_slice_get ws i w w there)))

pub woken_here : (t : ℕ) (ws : List Word) (i : ℕ) (w : Word) → slice_get ws i ≡ Some w → is_woken t w ≡ true
    → list_any (is_woken t) (drop i ws) ≡ true
woken_here t ws i w there on =
    woken_at t ws i w there ∙ ap (λ b. b || list_any (is_woken t) (drop (i + 1) ws)) on

pub woken_past : (t : ℕ) (ws : List Word) (i : ℕ) (w : Word) → slice_get ws i ≡ Some w → is_woken t w ≡ false
    → list_any (is_woken t) (drop i ws) ≡ list_any (is_woken t) (drop (i + 1) ws)
woken_past t ws i w there off =
    woken_at t ws i w there ∙ ap (λ b. b || list_any (is_woken t) (drop (i + 1) ws)) off

pub woken_end : (t : ℕ) (ws : List Word) (i : ℕ) → length ws ≤ i → list_any (is_woken t) (drop i ws) ≡ false
woken_end t ws i end = ap (list_any (is_woken t)) (drop_all i ws end)
