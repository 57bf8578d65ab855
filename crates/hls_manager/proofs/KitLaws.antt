-- What a load leaves of the boxes of a kit.
use Rattle.std.proofs.Common.{◌≡◌, ◌≢◌, ℕ, zero, suc, List, refl, sym, ap, ◌∙◌}
use Rattle.std.proofs.Common.{◌<◌, ◌+◌, ◌-◌, ◌^◌, arith, subst, length, min, Bool, true, false}
use Rattle.std.specs.Prelude.{if◌then◌else◌, slice_index}
use Rattle.std.proofs.lemmas.List.{get_or-set_same, get_or-set_other, length-take-le}
use Rattle.hls_chron.specs.declared.plain.Kind.{Kind}
use Rattle.hls_chron.specs.declared.plain.Kind.TheVariants as kinds
use Rattle.hls_sched.specs.Blank.{without_last}
use Rattle.hls_sched.specs.GoodKit.{boxes_of, place_of}
use Rattle.hls_sched.specs.declared.kit.Kit.{Kit}
use Rattle.hls_legal.specs.Kit.{is_kind, with_taken}
use Rattle.hls_legal.proofs.KindLaws.{kind_same, kind_other}
use Rattle.hls_tree.specs.Kits.{IsTakenFrom}
use Rattle.hls_manager.specs.Outcomes.{boxes_in}

kind_at : ℕ → Kind
kind_at zero = kinds.Fp
kind_at (suc zero) = kinds.Edf
kind_at (suc (suc zero)) = kinds.Sfq
kind_at (suc (suc (suc zero))) = kinds.Rr
kind_at (suc (suc (suc (suc zero)))) = kinds.Wheel
kind_at (suc (suc (suc (suc (suc zero))))) = kinds.Join
kind_at (suc (suc (suc (suc (suc (suc n)))))) = kinds.Cpu

at_place : (a : Kind) → kind_at (place_of a) ≡ a
unfolding kind_at
at_place kinds.Cpu = refl
at_place kinds.Fp = refl
at_place kinds.Edf = refl
at_place kinds.Sfq = refl
at_place kinds.Rr = refl
at_place kinds.Wheel = refl
at_place kinds.Join = refl

place_other : (a b : Kind) → a ≢ b → place_of a ≢ place_of b
place_other a b ne e = ne (sym (at_place a) ∙ ap kind_at e ∙ at_place b)

place_within : (a : Kind) → a ≢ kinds.Cpu → place_of a < 6
place_within kinds.Cpu ne = absurd (ne refl)
place_within kinds.Fp ne = omega arith
place_within kinds.Edf ne = omega arith
place_within kinds.Sfq ne = omega arith
place_within kinds.Rr ne = omega arith
place_within kinds.Wheel ne = omega arith
place_within kinds.Join ne = omega arith

length_without : {A : Type 0} (xs : List A) → length (without_last xs) ≡ length xs - 1
length_without xs = length-take-le (length xs - 1) xs (omega arith)

-- V and P are what the checker knows a box by
module _ {V : Type 0} {P : V → Type 0} (old new : Kit V P) (kind : Kind) (is : IsTakenFrom old new kind)
    (boxed : kind ≢ kinds.Cpu) (six : length old.used ≡ 6) where
  left_by : (other : Kind) (b : Bool) → is_kind other kind ≡ b → length (boxes_of other new)
      ≡ if b then length (boxes_of other old) - 1 else length (boxes_of other old)
  left_by other true e =
      let same = kind_same other kind e in
      subst (λ (k : Kind). length (boxes_of k new) ≡ length (boxes_of k old) - 1) (sym same)
      (ap length is.taken ∙ length_without (boxes_of kind old))
  left_by other false e = ap length (is.others other (kind_other other kind e))

  used_here : slice_index new.used (place_of kind) ≡ min (slice_index old.used (place_of kind) + 1) (2 ^ 32 - 1)
  used_here =
      let within = place_within kind boxed in
      ap (λ (xs : List ℕ). slice_index xs (place_of kind)) is.counted
      ∙ get_or-set_same old.used (place_of kind) _ 0 (omega (arith, within, six))

  used_by : (other : Kind) (b : Bool) → is_kind other kind ≡ b → slice_index new.used (place_of other)
      ≡ if b then min (slice_index old.used (place_of other) + 1) (2 ^ 32 - 1)
      else slice_index old.used (place_of other)
  used_by other true e =
      let same = kind_same other kind e in
      subst (λ (k : Kind). slice_index new.used (place_of k)
      ≡ min (slice_index old.used (place_of k) + 1) (2 ^ 32 - 1)) (sym same) used_here
  used_by other false e =
      ap (λ (xs : List ℕ). slice_index xs (place_of other)) is.counted
      ∙ get_or-set_other old.used (place_of kind) (place_of other) _ 0
      (place_other other kind (kind_other other kind e))

  pub boxes_taken : boxes_in new ≡ with_taken kind (boxes_in old)
  boxes_taken = λ i. record {
    left = λ other. left_by other (is_kind other kind) refl i;
    used = λ other. used_by other (is_kind other kind) refl i;
  }
