-- Kinds can be told apart.
use Rattle.std.proofs.Common.{◌≡◌, ◌≢◌, ◌⊎◌, inl, inr, true, false, refl, ap}
use Rattle.std.proofs.lemmas.Bool.{cases_Bool}
use Rattle.hls_chron.specs.declared.plain.Kind.{Kind}
use Rattle.hls_chron.specs.declared.plain.Kind.TheVariants as kinds
use Rattle.hls_legal.specs.Kit.{is_kind}

pub kind_itself : (a : Kind) → is_kind a a ≡ true
kind_itself kinds.Cpu = refl
kind_itself kinds.Fp = refl
kind_itself kinds.Edf = refl
kind_itself kinds.Sfq = refl
kind_itself kinds.Rr = refl
kind_itself kinds.Wheel = refl
kind_itself kinds.Join = refl

pub kind_same : (a b : Kind) → is_kind a b ≡ true → a ≡ b
kind_same kinds.Cpu kinds.Cpu e = refl
kind_same kinds.Fp kinds.Fp e = refl
kind_same kinds.Edf kinds.Edf e = refl
kind_same kinds.Sfq kinds.Sfq e = refl
kind_same kinds.Rr kinds.Rr e = refl
kind_same kinds.Wheel kinds.Wheel e = refl
kind_same kinds.Join kinds.Join e = refl
kind_same _ _ e = absurd (cc)

pub kind_other : (a b : Kind) → is_kind a b ≡ false → a ≢ b
kind_other a b off e = (let itself = kind_itself a in let same = ap (is_kind a) e in cc)

pub kind_cases : (a b : Kind) → (a ≡ b) ⊎ (a ≢ b)
kind_cases a b = elim (cases_Bool (is_kind a b)) [
  | inl on ↦ inl (kind_same a b on)
  | inr off ↦ inr (kind_other a b off)
]
