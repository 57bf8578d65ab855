-- A part of a list.
use Rattle.std.proofs.Common.{◌≡◌, ℕ, zero, suc, ◌+◌, ◌-◌, ◌≤◌, List, [], ◌∷◌, refl, sym, ap, ◌∙◌, arith, inl, inr}
use Rattle.std.proofs.Common.{length, take, drop}
use Rattle.std.specs.Prelude.{min}
use Rattle.std.proofs.Math.ListN.{drop_of_length-le}
use Rattle.std.proofs.lemmas.Bool.{cases_lt}
use Rattle.std.proofs.lemmas.List.{drop-take, length-take-le}

take_all : {X : Type 0} (n : ℕ) (xs : List X) → length xs ≤ n → take n xs ≡ xs
take_all zero [] le = refl
take_all zero (x ∷ xs) le = absurd (omega (arith, le))
take_all (suc n) [] le = refl
take_all (suc n) (x ∷ xs) le = ap (λ l. x ∷ l) (take_all n xs (omega (arith, le)))

-- where a part would begin behind its end, it is empty
begins_within : {X : Type 0} (xs : List X) (from end least : ℕ) → end ≤ length xs → least ≡ min from end
    → drop least (take end xs) ≡ drop from (take end xs)
begins_within xs from end least le e =
    elim (cases_lt from end) [
      | inl before ↦ ap (λ n. drop n (take end xs)) (let same : least ≡ from = omega (arith, before, e) in same)
      | inr behind ↦
          let long = length-take-le end xs le in
          drop_of_length-le (take end xs) (omega (arith, long, behind, e))
          ∙ sym (drop_of_length-le (take end xs) (omega (arith, long, behind, e)))
    ]

same_end : {X : Type 0} (xs : List X) (to end : ℕ) → end ≡ min (to + 1) (length xs) → take end xs ≡ take (to + 1) xs
same_end xs to end e =
    elim (cases_lt to (length xs)) [
      | inl before ↦ ap (λ n. take n xs) (let same : end ≡ to + 1 = omega (arith, before, e) in same)
      | inr behind ↦ take_all end xs (omega (arith, behind, e)) ∙ sym (take_all (to + 1) xs (omega (arith, behind)))
    ]

pub part_of : {X : Type 0} (xs : List X) (from to end least : ℕ) → end ≡ min (to + 1) (length xs)
    → least ≡ min from end → take (end - least) (drop least xs) ≡ drop from (take (to + 1) xs)
part_of xs from to end least e f =
    sym (drop-take least (end - least) xs)
    ∙ ap (λ n. drop least (take n xs)) (let same : least + (end - least) ≡ end = omega (arith, f) in same)
    ∙ begins_within xs from end least (omega (arith, e)) f
    ∙ ap (drop from) (same_end xs to end e)
