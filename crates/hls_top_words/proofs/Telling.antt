-- What clap's matches tell of words that stand as those of the table.
use Rattle.std.proofs.Common.{codes, true, List, [], ◌∷◌, ◌++◌, ◌≡◌, ℕ, ◌≤◌, ◌+◌, suc, zero, arith, refl}
use Rattle.std.specs.Prelude.{Option, Some, None}
use Rattle.clap.specs.Words.{Text, is_simple, subcommand_of}
use Rattle.clap.proofs.OnLiterals.{clap_on_literals}
use Rattle.hls_top_words.specs.Inside.Commands.{hls}
use Rattle.hls_top_words.specs.Inside.Shapes.{told}

abbrev pub told_by : List Text → Option (Text × Option Text × Option Text)
told_by words = told (subcommand_of hls words)

pub simple : is_simple hls ≡ true
unfolding clap_on_literals
simple = refl

pub told_run : told_by (codes "run" ∷ []) ≡ Some (codes "run", None, None)
unfolding clap_on_literals
told_run = refl

pub told_check : told_by (codes "check" ∷ []) ≡ Some (codes "check", None, None)
unfolding clap_on_literals
told_check = refl

pub told_joined : (v : Text) → told_by (codes "run" ∷ (codes "--depth=" ++ v) ∷ []) ≡ Some (codes "run", Some v, None)
unfolding clap_on_literals
told_joined v = refl

pub told_apart : (k : ℕ) (rest : Text) → k ≤ 9
    → told_by (codes "run" ∷ codes "--depth" ∷ ((48 + k) ∷ rest) ∷ []) ≡ Some (
      codes "run",
      Some
          ((48 + k) ∷ rest),
      None,
    )
unfolding clap_on_literals
told_apart zero rest le = refl
told_apart (suc zero) rest le = refl
told_apart (suc (suc zero)) rest le = refl
told_apart (suc (suc (suc zero))) rest le = refl
told_apart (suc (suc (suc (suc zero)))) rest le = refl
told_apart (suc (suc (suc (suc (suc zero))))) rest le = refl
told_apart (suc (suc (suc (suc (suc (suc zero)))))) rest le = refl
told_apart (suc (suc (suc (suc (suc (suc (suc zero))))))) rest le = refl
told_apart (suc (suc (suc (suc (suc (suc (suc (suc zero)))))))) rest le = refl
told_apart (suc (suc (suc (suc (suc (suc (suc (suc (suc zero))))))))) rest le = refl
told_apart (suc (suc (suc (suc (suc (suc (suc (suc (suc (suc k)))))))))) rest le = absurd (omega arith)

pub told_gen : (k : ℕ) (rest : Text) → k ≤ 9
    → told_by (codes "gen" ∷ ((48 + k) ∷ rest) ∷ []) ≡ Some (codes "gen", None, Some ((48 + k) ∷ rest))
unfolding clap_on_literals
told_gen zero rest le = refl
told_gen (suc zero) rest le = refl
told_gen (suc (suc zero)) rest le = refl
told_gen (suc (suc (suc zero))) rest le = refl
told_gen (suc (suc (suc (suc zero)))) rest le = refl
told_gen (suc (suc (suc (suc (suc zero))))) rest le = refl
told_gen (suc (suc (suc (suc (suc (suc zero)))))) rest le = refl
told_gen (suc (suc (suc (suc (suc (suc (suc zero))))))) rest le = refl
told_gen (suc (suc (suc (suc (suc (suc (suc (suc zero)))))))) rest le = refl
told_gen (suc (suc (suc (suc (suc (suc (suc (suc (suc zero))))))))) rest le = refl
told_gen (suc (suc (suc (suc (suc (suc (suc (suc (suc (suc k)))))))))) rest le = absurd (omega arith)

pub told_trial : (k : ℕ) (rest : Text) → k ≤ 9
    → told_by (codes "trial" ∷ ((48 + k) ∷ rest) ∷ []) ≡ Some (codes "trial", None, Some ((48 + k) ∷ rest))
unfolding clap_on_literals
told_trial zero rest le = refl
told_trial (suc zero) rest le = refl
told_trial (suc (suc zero)) rest le = refl
told_trial (suc (suc (suc zero))) rest le = refl
told_trial (suc (suc (suc (suc zero)))) rest le = refl
told_trial (suc (suc (suc (suc (suc zero))))) rest le = refl
told_trial (suc (suc (suc (suc (suc (suc zero)))))) rest le = refl
told_trial (suc (suc (suc (suc (suc (suc (suc zero))))))) rest le = refl
told_trial (suc (suc (suc (suc (suc (suc (suc (suc zero)))))))) rest le = refl
told_trial (suc (suc (suc (suc (suc (suc (suc (suc (suc zero))))))))) rest le = refl
told_trial (suc (suc (suc (suc (suc (suc (suc (suc (suc (suc k)))))))))) rest le = absurd (omega arith)
