-- What matches tell of words that stand as those of the table is what the words ask for.
use Rattle.std.proofs.Common.{codes, List, [], ◌∷◌, ◌≡◌, ℕ, ◌≤◌, ◌+◌, arith, refl, sym, ap, ◌∙◌, subst, inl, inr}
use Rattle.std.specs.Prelude.{Option, Some, None, decimal, IfSome, IsNone, MatchOption}
use Rattle.hls_text.specs.Lines.{Text}
use Rattle.hls_top_words.specs.Table.{HasDepth, HasNumber, IsJob, IsNoJob}
use Rattle.hls_top_words.specs.Inside.Shapes.{States, HasShape, TellsJob, TellsDepth, TellsNumber}
use Rattle.hls_top_words.specs.declared.jobs.Job.{Job}
use Rattle.hls_top_words.specs.declared.jobs.Job.TheVariants.{Run, Check, Gen, Trial}
use Rattle.hls_top_words.proofs.Digits.{is_digits, number_is_digits}
use Rattle.hls_top_words.proofs.Options.{apart}
use Rattle.hls_top_words.proofs.Telling.{told_by, told_run, told_check, told_joined, told_apart, told_gen, told_trial}

-- a value is told as it stands, where it is no option
pub apart_value : (value : Text) (first : ℕ) (rest : Text) → first ≤ 9 → value ≡ (48 + first) ∷ rest
    → told_by (codes "run" ∷ codes "--depth" ∷ value ∷ []) ≡ Some (codes "run", Some value, None)
apart_value value first rest small is = rw is (told_apart first rest small)

gen_value : (value : Text) (first : ℕ) (rest : Text) → first ≤ 9 → value ≡ (48 + first) ∷ rest
    → told_by (codes "gen" ∷ value ∷ []) ≡ Some (codes "gen", None, Some value)
gen_value value first rest small is = rw is (told_gen first rest small)

trial_value : (value : Text) (first : ℕ) (rest : Text) → first ≤ 9 → value ≡ (48 + first) ∷ rest
    → told_by (codes "trial" ∷ value ∷ []) ≡ Some (codes "trial", None, Some value)
trial_value value first rest small is = rw is (told_trial first rest small)

-- ---- what is told is asked for

some_same : (one two : Text) → Some one ≡ Some two → one ≡ two
some_same one two e = cc

stated : (options : List Text) (value : Option Text) (depth : ℕ) → States options value → TellsDepth value depth
    → HasDepth options depth
stated options None depth states tells = inl (states, tells)
stated options (Some value) depth (inl (is, digit)) (small, spelled) = inr (small, inl (rw spelled at is))
stated options (Some value) depth (inr is) (small, spelled) = inr (small, inr (rw spelled at is))

told_stated : (options : List Text) (value : Option Text) → States options value
    → told_by (codes "run" ∷ options) ≡ Some (codes "run", value, None)
told_stated options None is = rw is told_run
told_stated options (Some value) (inl (is, digit)) =
    let d = is_digits value digit in rw is (apart_value value d.first d.rest d.small d.is)
told_stated options (Some value) (inr is) = rw is (told_joined value)

given : (options : List Text) (value : Text) (number : ℕ) → options ≡ value ∷ [] → TellsNumber (Some value) number
    → HasNumber options number
given options value number is (small, spelled) = (small, rw (some_same _ _ spelled) at is)

run_asks : (words options : List Text) (value : Option Text) (job : Job) → words ≡ codes "run" ∷ options
    → States options value → TellsJob (Some (codes "run", value, None)) job → IsJob words job
run_asks words options value (Run depth) is states (named, tells) =
    (options, is, stated options value depth states tells)
run_asks words options value Check is states named =
    absurd (apart _ _ named (λ (n : 114 ≡ 99). omega arith))
run_asks words options value (Gen number) is states (named, tells) =
    absurd (apart _ _ named (λ (n : 114 ≡ 103). omega arith))
run_asks words options value (Trial number) is states (named, tells) =
    absurd (apart _ _ named (λ (n : 114 ≡ 116). omega arith))

check_asks : (words : List Text) (job : Job) → words ≡ codes "check" ∷ []
    → TellsJob (Some (codes "check", None, None)) job → IsJob words job
check_asks words (Run depth) is (named, tells) = absurd (apart _ _ named (λ (n : 99 ≡ 114). omega arith))
check_asks words Check is named = is
check_asks words (Gen number) is (named, tells) = absurd (apart _ _ named (λ (n : 99 ≡ 103). omega arith))
check_asks words (Trial number) is (named, tells) = absurd (apart _ _ named (λ (n : 99 ≡ 116). omega arith))

gen_asks : (words options : List Text) (value : Text) (job : Job) → words ≡ codes "gen" ∷ options
    → options ≡ value ∷ [] → TellsJob (Some (codes "gen", None, Some value)) job → IsJob words job
gen_asks words options value (Run depth) is one (named, tells) =
    absurd (apart _ _ named (λ (n : 103 ≡ 114). omega arith))
gen_asks words options value Check is one named = absurd (apart _ _ named (λ (n : 103 ≡ 99). omega arith))
gen_asks words options value (Gen number) is one (named, tells) = (options, is, given options value number one tells)
gen_asks words options value (Trial number) is one (named, tells) =
    absurd (apart _ _ named (λ (n : 103 ≡ 116). omega arith))

trial_asks : (words options : List Text) (value : Text) (job : Job) → words ≡ codes "trial" ∷ options
    → options ≡ value ∷ [] → TellsJob (Some (codes "trial", None, Some value)) job → IsJob words job
trial_asks words options value (Run depth) is one (named, tells) =
    absurd (apart _ _ named (λ (n : 116 ≡ 114). omega arith))
trial_asks words options value Check is one named = absurd (apart _ _ named (λ (n : 116 ≡ 99). omega arith))
trial_asks words options value (Gen number) is one (named, tells) =
    absurd (apart _ _ named (λ (n : 116 ≡ 103). omega arith))
trial_asks words options value (Trial number) is one (named, tells) =
    (options, is, given options value number one tells)

pub asks : (words : List Text) (job : Job) → HasShape words → TellsJob (told_by words) job → IsJob words job
asks words job (inl (options, is, (value, states))) tells =
    run_asks words options value job is states
    (subst (λ t. TellsJob t job) (ap told_by is ∙ told_stated options value states) tells)
asks words job (inr (inl is)) tells =
    check_asks words job is (subst (λ t. TellsJob t job) (ap told_by is ∙ told_check) tells)
asks words job (inr (inr (inl (options, is, gives)))) tells =
    let d = is_digits gives.value gives.digit in
    gen_asks words options gives.value job is gives.is
    (subst (λ t. TellsJob t job) (ap told_by is ∙ ap (λ o. told_by (codes "gen" ∷ o)) gives.is
    ∙ gen_value gives.value d.first d.rest d.small d.is) tells)
asks words job (inr (inr (inr (options, is, gives)))) tells =
    let d = is_digits gives.value gives.digit in
    trial_asks words options gives.value job is gives.is
    (subst (λ t. TellsJob t job) (ap told_by is ∙ ap (λ o. told_by (codes "trial" ∷ o)) gives.is
    ∙ trial_value gives.value d.first d.rest d.small d.is) tells)

-- ---- what is asked for is told

depth_told : (options : List Text) (depth : ℕ) → HasDepth options depth
    → TellsJob (told_by (codes "run" ∷ options)) (Run depth)
depth_told options depth (inl (is, usual)) = rw (is, told_run) (refl, usual)
depth_told options depth (inr (small, inl is)) =
    let d = number_is_digits depth (omega (arith, small)) in
    rw (is, apart_value (decimal depth) d.first d.rest d.small d.is) (refl, (small, refl))
depth_told options depth (inr (small, inr is)) = rw (is, told_joined (decimal depth)) (refl, (small, refl))

pub tells : (words : List Text) (job : Job) → IsJob words job → TellsJob (told_by words) job
tells words (Run depth) (options, is, has) = rw is (depth_told options depth has)
tells words Check is = rw (is, told_check) refl
tells words (Gen number) (options, is, (small, one)) =
    let d = number_is_digits number small in
    rw (is, one, gen_value (decimal number) d.first d.rest d.small d.is) (refl, (small, refl))
tells words (Trial number) (options, is, (small, one)) =
    let d = number_is_digits number small in
    rw (is, one, trial_value (decimal number) d.first d.rest d.small d.is) (refl, (small, refl))

-- so the job that is told, where there is one, is the one that is asked for
pub answered : (words : List Text) (found : Option Job) (facts : Option (Text × Option Text × Option Text))
    → HasShape words → facts ≡ told_by words → IfSome found (TellsJob facts)
    → (IsNone found → (job : Job) → ¬ TellsJob facts job) → MatchOption found (IsNoJob words) (IsJob words)
answered words None facts shape is found none = λ job asked.
    none refl job (subst (λ t. TellsJob t job) (sym is) (tells words job asked))
answered words (Some job) facts shape is found none = asks words job shape (subst (λ t. TellsJob t job) is found)
