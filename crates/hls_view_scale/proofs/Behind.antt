-- A bar or two behind others.
use Rattle.std.proofs.Common.{◌≡◌, ℕ, ◌==◌, false, List, [], ◌∷◌, ◌++◌, refl, ap, sym, ◌∙◌, append_assoc}
use Rattle.std.specs.Prelude.{if◌then◌else◌}
use Rattle.hls_view_scale.specs.declared.bars.Bar.{Bar}
use Rattle.hls_view_scale.specs.Bars.{with_high, with_column, go_on, touches, one_wide}

pub with_high_behind : (bs : List Bar) (b : Bar) (column high : ℕ)
    → with_high (bs ++ b ∷ []) column high ≡ bs ++ go_on b column high
with_high_behind [] b column high = refl
with_high_behind (a ∷ []) b column high = refl
with_high_behind (a ∷ c ∷ bs) b column high = ap (λ (rest : List Bar). a ∷ rest)
    (with_high_behind (c ∷ bs) b column high)

-- a column that no bar reaches to
pub apart : (old rest with_bar new : List Bar) (bar one : Bar) (column high : ℕ) → (high == 0) ≡ false
    → touches bar column high ≡ false → one ≡ one_wide column high → old ≡ rest ++ bar ∷ []
    → with_bar ≡ rest ++ bar ∷ [] → new ≡ with_bar ++ one ∷ [] → new ≡ with_column old column high
apart old rest with_bar new bar one column high some ends is was pushed made =
    made
    ∙ ap (λ (bs : List Bar). bs ++ one ∷ []) pushed
    ∙ ap (λ (b : Bar). (rest ++ bar ∷ []) ++ b ∷ []) is
    ∙ append_assoc rest (bar ∷ []) (one_wide column high ∷ [])
    ∙ sym (ap (λ v. if v then rest ++ bar ∷ [] else with_high (rest ++ bar ∷ []) column high) some
    ∙ with_high_behind rest bar column high
    ∙ ap (λ v. rest ++ (if v then record { first = bar.first; last = column; high = high } ∷ []
    else bar ∷ one_wide column high ∷ [])) ends)
    ∙ sym (ap (λ (bs : List Bar). with_column bs column high) was)
