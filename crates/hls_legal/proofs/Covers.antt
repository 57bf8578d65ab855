-- The stretches of a report are determined by the paths of its ticks.
use Rattle.std.proofs.Common.{◌≡◌, ℕ, ◌+◌, ◌<◌, ◌≤◌, inl, inr, List, [], ◌∷◌, Option, Some}
use Rattle.std.proofs.Common.{true, false, refl, sym, ap, ◌∙◌, subst, arith}
use Rattle.std.specs.Prelude.{nat_le, ◌&&◌}
use Rattle.std.proofs.lemmas.Bool.{cases_lt}
use Rattle.hls_text.specs.Lines.{Text}
use Rattle.hls_report_text.specs.declared.stretch.Stretch.{Stretch}
use Rattle.hls_report_text.specs.WellFormed.{Cover}
use Rattle.hls_legal.specs.Schedule.{path_at}
use Rattle.hls_legal.proofs.TickLists.{path_first}

path_here : (s : Stretch) (stretches : List Stretch) (t : ℕ) → s.from ≤ t → t ≤ s.to
    → path_at (s ∷ stretches) t ≡ s.path
path_here s stretches t lo hi =
    path_first s stretches t true (λ i. le_true s.from t lo i && le_true t s.to hi i)
  where
    le_true : (a b : ℕ) → a ≤ b → nat_le a b ≡ true
    le_true a b le = grind (arith, le)

path_later : (s : Stretch) (stretches : List Stretch) (t : ℕ) → s.from ≤ t → s.to < t
    → path_at (s ∷ stretches) t ≡ path_at stretches t
path_later s stretches t lo past =
    path_first s stretches t false ((λ i. le_true s.from t lo i && lt_false t s.to past i))
  where
    le_true : (a b : ℕ) → a ≤ b → nat_le a b ≡ true
    le_true a b le = grind (arith, le)

    lt_false : (a b : ℕ) → b < a → nat_le a b ≡ false
    lt_false a b lt = grind (arith, lt)

cover_le : (from : ℕ) (last : Option (Option (List Text))) (ss : List Stretch) (end : ℕ) → Cover from last ss end
    → from ≤ end
cover_le from last [] end cover = omega (arith, cover)
cover_le from last (s ∷ ss) end cover =
    let ahead = cover.1 in
    let rest = cover_le (s.to + 1) (Some s.path) ss end cover.4 in
    omega (arith, ahead, rest)

-- one stretch does not end before another of the same path begins to differ
no_sooner : (s t : Stretch) (ss tt : List Stretch) (from end : ℕ) → s.from ≡ from → t.from ≡ from → s.path ≡ t.path
    → s.to < t.to → from ≤ s.to → Cover (s.to + 1) (Some s.path) ss end → Cover (t.to + 1) (Some t.path) tt end
    → ((n : ℕ) → from ≤ n → n < end → path_at (s ∷ ss) n ≡ path_at (t ∷ tt) n) → ⊥
no_sooner s t [] tt from end e f path lt ahead one two same =
    (let le = cover_le (t.to + 1) (Some t.path) tt end two in omega (arith, lt, one, le))
no_sooner s t (next ∷ ss) tt from end e f path lt ahead one two same =
    let le = cover_le (t.to + 1) (Some t.path) tt end two in
    let starts = one.0 in
    let longer = one.1 in
    let here : path_at (s ∷ next ∷ ss) (s.to + 1) ≡ next.path =
    path_later s (next ∷ ss) (s.to + 1) (omega (arith, e, ahead)) (omega arith)
    ∙ path_here next ss (s.to + 1) (omega (arith, starts)) (omega (arith, longer)) in
    let there : path_at (t ∷ tt) (s.to + 1) ≡ t.path =
    path_here t tt (s.to + 1) (omega (arith, f, ahead)) (omega (arith, lt)) in
    let both : next.path ≡ s.path =
    sym here ∙ same (s.to + 1) (omega (arith, ahead)) (omega (arith, lt, le)) ∙ there ∙ sym path in
    one.3 (ap (λ p. Some p) (sym both))

pub cover_one : (ss tt : List Stretch) (from : ℕ) (last other : Option (Option (List Text))) (end : ℕ)
    → Cover from last ss end → Cover from other tt end
    → ((n : ℕ) → from ≤ n → n < end → path_at ss n ≡ path_at tt n) → ss ≡ tt
cover_one [] [] from last other end one two same = refl
cover_one [] (t ∷ tt) from last other end one two same =
    absurd (let ahead = two.1 in let le = cover_le (t.to + 1) (Some t.path) tt end two.4 in
    omega (arith, one, ahead, le))
cover_one (s ∷ ss) [] from last other end one two same =
    absurd (let ahead = one.1 in let le = cover_le (s.to + 1) (Some s.path) ss end one.4 in
    omega (arith, two, ahead, le))
cover_one (s ∷ ss) (t ∷ tt) from last other end one two same =
    let e = one.0 in
    let f = two.0 in
    let ahead = one.1 in
    let along = two.1 in
    let le = cover_le (s.to + 1) (Some s.path) ss end one.4 in
    let path : s.path ≡ t.path =
    sym (path_here s ss from (omega (arith, e)) ahead) ∙ same from (omega arith) (omega (arith, ahead, le))
    ∙ path_here t tt from (omega (arith, f)) along in
    let backward : (n : ℕ) → from ≤ n → n < end → path_at (t ∷ tt) n ≡ path_at (s ∷ ss) n =
    λ n lo hi. sym (same n lo hi) in
    elim (cases_lt s.to t.to) [
      | inl lt ↦ absurd (no_sooner s t ss tt from end e f path lt ahead one.4 two.4 same)
      | inr ge ↦ elim (cases_lt t.to s.to) [
        | inl lt ↦ absurd (no_sooner t s tt ss from end f e (sym path) lt along two.4 one.4 backward)
        | inr le_too ↦
            let to : s.to ≡ t.to = omega (arith, ge, le_too) in
            let starts : s.from ≡ t.from = e ∙ sym f in
            let theirs : Cover (s.to + 1) (Some t.path) tt end =
            subst (λ n. Cover (n + 1) (Some t.path) tt end) (sym to) two.4 in
            let rest = cover_one ss tt (s.to + 1) (Some s.path) (Some t.path) end one.4 theirs (λ n lo hi.
            sym (path_later s ss n (omega (arith, lo, e, ahead)) (omega (arith, lo)))
            ∙ same n (omega (arith, lo, ahead)) hi
            ∙ path_later t tt n (omega (arith, lo, f, ahead)) (omega (arith, lo, to))) in
            λ i. (record { from = starts i; to = to i; path = path i }) ∷ rest i
      ]
    ]
