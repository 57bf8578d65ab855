-- First words whose options are none of theirs ask for nothing.
use Rattle.std.proofs.Common.{◌≡◌, ℕ, ◌≢◌, List, [], ◌∷◌, codes, subst, sym, ap, get_or, arith}
use Rattle.hls_text.specs.Lines.{Text}
use Rattle.hls_top_words.specs.Table.{HasDepth, HasNumber, IsNoJob}
use Rattle.hls_top_words.specs.declared.jobs.Job.TheVariants.{Run, Check, Gen, Trial}

same_word : (first second : Text) (options others : List Text) → first ∷ options ≡ second ∷ others
    → first ≡ second
same_word first second options others e = cc

same_options : (first second : Text) (options others : List Text) → first ∷ options ≡ second ∷ others
    → others ≡ options
same_options first second options others e = cc

pub nothing : IsNoJob []
nothing (Run depth) (others, is, has) = absurd cc
nothing Check is = absurd cc
nothing (Gen number) (others, is, has) = absurd cc
nothing (Trial number) (others, is, has) = absurd cc

-- each word that the program knows has none of its options behind it
pub no_job : (first : Text) (options : List Text)
    → (first ≡ codes "run" → (depth : ℕ) → ¬ HasDepth options depth)
    → (first ≡ codes "check" → options ≡ [] → ⊥)
    → (first ≡ codes "gen" → (number : ℕ) → ¬ HasNumber options number)
    → (first ≡ codes "trial" → (number : ℕ) → ¬ HasNumber options number)
    → IsNoJob (first ∷ options)
no_job first options run check gen trial (Run depth) (others, is, has) =
    run (same_word first (codes "run") options others is) depth
    (subst (λ (o : List Text). HasDepth o depth) (same_options first (codes "run") options others is) has)
no_job first options run check gen trial Check is =
    check (same_word first (codes "check") options [] is) (sym (same_options first (codes "check") options [] is))
no_job first options run check gen trial (Gen number) (others, is, has) =
    gen (same_word first (codes "gen") options others is) number
    (subst (λ (o : List Text). HasNumber o number) (same_options first (codes "gen") options others is) has)
no_job first options run check gen trial (Trial number) (others, is, has) =
    trial (same_word first (codes "trial") options others is) number
    (subst (λ (o : List Text). HasNumber o number) (same_options first (codes "trial") options others is) has)

-- words that begin with different letters differ
pub apart : (first second : Text) → first ≡ second → get_or first 0 0 ≢ get_or second 0 0 → ⊥
apart first second same different = different (ap (λ (word : Text). get_or word 0 0) same)

pub no_run : (options : List Text) → ((depth : ℕ) → ¬ HasDepth options depth) → IsNoJob (codes "run" ∷ options)
no_run options none =
    no_job (codes "run") options (λ e. none)
    (λ e. absurd (apart (codes "run") (codes "check") e (λ (n : 114 ≡ 99). omega arith)))
    (λ e. absurd (apart (codes "run") (codes "gen") e (λ (n : 114 ≡ 103). omega arith)))
    (λ e. absurd (apart (codes "run") (codes "trial") e (λ (n : 114 ≡ 116). omega arith)))

pub no_gen : (options : List Text) → ((number : ℕ) → ¬ HasNumber options number)
    → IsNoJob (codes "gen" ∷ options)
no_gen options none =
    no_job (codes "gen") options
    (λ e. absurd (apart (codes "gen") (codes "run") e (λ (n : 103 ≡ 114). omega arith)))
    (λ e. absurd (apart (codes "gen") (codes "check") e (λ (n : 103 ≡ 99). omega arith))) (λ e. none)
    (λ e. absurd (apart (codes "gen") (codes "trial") e (λ (n : 103 ≡ 116). omega arith)))

pub no_trial : (options : List Text) → ((number : ℕ) → ¬ HasNumber options number)
    → IsNoJob (codes "trial" ∷ options)
no_trial options none =
    no_job (codes "trial") options
    (λ e. absurd (apart (codes "trial") (codes "run") e (λ (n : 116 ≡ 114). omega arith)))
    (λ e. absurd (apart (codes "trial") (codes "check") e (λ (n : 116 ≡ 99). omega arith)))
    (λ e. absurd (apart (codes "trial") (codes "gen") e (λ (n : 116 ≡ 103). omega arith))) (λ e. none)
