-- Clap takes the words of the table.
use Rattle.std.proofs.Common.{codes, true, List, [], ◌∷◌, ◌++◌, ◌≡◌, ℕ, ◌≤◌, ◌+◌, suc, zero, arith}
use Rattle.std.proofs.Common.{inl, inr, refl}
use Rattle.std.specs.Prelude.{decimal}
use Rattle.std.proofs.lemmas.Fmt.{decimal_digit}
use Rattle.clap.specs.Words.{Text, takes}
use Rattle.clap.proofs.OnLiterals.{clap_on_literals}
use Rattle.hls_top_words.specs.Table.{HasDepth, HasNumber, IsJob}
use Rattle.hls_top_words.specs.Inside.Commands.{hls}
use Rattle.hls_top_words.proofs.Digits.{number_is_digits}
use Rattle.hls_top_words.specs.declared.jobs.Job.{Job}
use Rattle.hls_top_words.specs.declared.jobs.Job.TheVariants.{Run, Check, Gen, Trial}

-- ---- run and check

takes_run : takes hls (codes "run" ∷ []) ≡ true
unfolding clap_on_literals
takes_run = refl

takes_check : takes hls (codes "check" ∷ []) ≡ true
unfolding clap_on_literals
takes_check = refl

takes_digit : (k : ℕ) → k ≤ 6 → takes hls (codes "run" ∷ codes "--depth" ∷ ((48 + k) ∷ []) ∷ []) ≡ true
unfolding clap_on_literals
takes_digit zero le = refl
takes_digit (suc zero) le = refl
takes_digit (suc (suc zero)) le = refl
takes_digit (suc (suc (suc zero))) le = refl
takes_digit (suc (suc (suc (suc zero)))) le = refl
takes_digit (suc (suc (suc (suc (suc zero))))) le = refl
takes_digit (suc (suc (suc (suc (suc (suc zero)))))) le = refl
takes_digit (suc (suc (suc (suc (suc (suc (suc k))))))) le = absurd (omega arith)

takes_depth_is : (v : Text) → takes hls (codes "run" ∷ (codes "--depth=" ++ v) ∷ []) ≡ true
unfolding clap_on_literals
takes_depth_is v = refl

takes_depth : (options : List Text) (depth : ℕ) → HasDepth options depth
    → takes hls (codes "run" ∷ options) ≡ true
takes_depth options depth (inl none) = rw none.0 takes_run
takes_depth options depth (inr (small, inl apart)) =
    rw (apart, decimal_digit depth (omega (arith, small))) (takes_digit depth small)
takes_depth options depth (inr (small, inr joined)) = rw joined (takes_depth_is (decimal depth))

-- ---- gen and trial: a word that begins with a digit is no option

gen_digit : (k : ℕ) (rest : Text) → k ≤ 9 → takes hls (codes "gen" ∷ ((48 + k) ∷ rest) ∷ []) ≡ true
unfolding clap_on_literals
gen_digit zero rest le = refl
gen_digit (suc zero) rest le = refl
gen_digit (suc (suc zero)) rest le = refl
gen_digit (suc (suc (suc zero))) rest le = refl
gen_digit (suc (suc (suc (suc zero)))) rest le = refl
gen_digit (suc (suc (suc (suc (suc zero))))) rest le = refl
gen_digit (suc (suc (suc (suc (suc (suc zero)))))) rest le = refl
gen_digit (suc (suc (suc (suc (suc (suc (suc zero))))))) rest le = refl
gen_digit (suc (suc (suc (suc (suc (suc (suc (suc zero)))))))) rest le = refl
gen_digit (suc (suc (suc (suc (suc (suc (suc (suc (suc zero))))))))) rest le = refl
gen_digit (suc (suc (suc (suc (suc (suc (suc (suc (suc (suc k)))))))))) rest le = absurd (omega arith)

trial_digit : (k : ℕ) (rest : Text) → k ≤ 9 → takes hls (codes "trial" ∷ ((48 + k) ∷ rest) ∷ []) ≡ true
unfolding clap_on_literals
trial_digit zero rest le = refl
trial_digit (suc zero) rest le = refl
trial_digit (suc (suc zero)) rest le = refl
trial_digit (suc (suc (suc zero))) rest le = refl
trial_digit (suc (suc (suc (suc zero)))) rest le = refl
trial_digit (suc (suc (suc (suc (suc zero))))) rest le = refl
trial_digit (suc (suc (suc (suc (suc (suc zero)))))) rest le = refl
trial_digit (suc (suc (suc (suc (suc (suc (suc zero))))))) rest le = refl
trial_digit (suc (suc (suc (suc (suc (suc (suc (suc zero)))))))) rest le = refl
trial_digit (suc (suc (suc (suc (suc (suc (suc (suc (suc zero))))))))) rest le = refl
trial_digit (suc (suc (suc (suc (suc (suc (suc (suc (suc (suc k)))))))))) rest le = absurd (omega arith)

takes_gen : (options : List Text) (number : ℕ) → HasNumber options number
    → takes hls (codes "gen" ∷ options) ≡ true
takes_gen options number (small, is) =
    let d = number_is_digits number small in
    rw (is, d.is) (gen_digit d.first d.rest d.small)

takes_trial : (options : List Text) (number : ℕ) → HasNumber options number
    → takes hls (codes "trial" ∷ options) ≡ true
takes_trial options number (small, is) =
    let d = number_is_digits number small in
    rw (is, d.is) (trial_digit d.first d.rest d.small)

pub takes_job : (words : List Text) (job : Job) → IsJob words job → takes hls words ≡ true
takes_job words (Run depth) (options, is, has) = rw is (takes_depth options depth has)
takes_job words Check is = rw is takes_check
takes_job words (Gen number) (options, is, has) = rw is (takes_gen options number has)
takes_job words (Trial number) (options, is, has) = rw is (takes_trial options number has)
