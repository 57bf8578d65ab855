-- How many boxes of each kind there are while a kit is filled.
use Rattle.std.proofs.Common.{◌≡◌, ◌≢◌, ℕ, ◌+◌, List, [], ◌∷◌, ◌++◌, length, refl, ap, ◌∙◌, false}
use Rattle.std.specs.Prelude.{replicate, slice_index}
use Rattle.std.specs.declared.dyn_box.DynBox.{DynBox}
use Rattle.std.specs.declared.alloc.Global.{Global}
use Rattle.std.proofs.lemmas.List.{length-append}
use Rattle.hls_chron.specs.declared.plain.Kind.{Kind}
use Rattle.hls_chron.specs.declared.plain.Kind.TheVariants as kinds
use Rattle.hls_sched.specs.GoodKit.{boxes_of, place_of}
use Rattle.hls_sched.specs.declared.kit.Kit.{Kit}
use Rattle.hls_legal.specs.Kit.{is_kind}
use Rattle.hls_legal.proofs.KindLaws.{kind_other}
use Rattle.hls_manager.specs.Outcomes.{boxes_in}
use Rattle.hls_prog_start.specs.FullKit.{of_each, full_kit}

none_used : (kind : Kind) → slice_index (replicate 6 0) (place_of kind) ≡ 0
none_used kinds.Cpu = refl
none_used kinds.Fp = refl
none_used kinds.Edf = refl
none_used kinds.Sfq = refl
none_used kinds.Rr = refl
none_used kinds.Wheel = refl
none_used kinds.Join = refl

-- V and P are what the checker knows a box by
module _ {V : Type 0} {P : V → Type 0} where
  -- there are so many boxes of each kind, and none was taken
  pub record IsFilled (count : ℕ) (kit : Kit V P) : Type 0 where
    pub each : (kind : Kind) → length (boxes_of kind kit) ≡ of_each count kind
    pub unused : kit.used ≡ replicate 6 0

  -- a box of a kind was put behind the others
  pub record IsPut (kind : Kind) (old new : Kit V P) : Type 0 where
    pub box : DynBox V Global P
    pub put : boxes_of kind new ≡ boxes_of kind old ++ box ∷ []
    pub others : (other : Kind) → other ≢ kind → boxes_of other new ≡ boxes_of other old
    pub uncounted : new.used ≡ old.used

  here : {kind : Kind} {old new : Kit V P} → IsPut kind old new
      → length (boxes_of kind new) ≡ length (boxes_of kind old) + 1
  here {kind} {old} p = ap length p.put ∙ length-append (boxes_of kind old) (p.box ∷ [])

  there : {kind : Kind} {old new : Kit V P} (other : Kind) → is_kind other kind ≡ false → IsPut kind old new
      → length (boxes_of other new) ≡ length (boxes_of other old)
  there {kind} other off p = ap length (p.others other (kind_other other kind off))

  module _ (count : ℕ) {k0 k1 k2 k3 k4 k5 k6 : Kit V P} (is : IsFilled count k0) (sfq : IsPut kinds.Sfq k0 k1)
      (rr : IsPut kinds.Rr k1 k2) (fp : IsPut kinds.Fp k2 k3) (edf : IsPut kinds.Edf k3 k4)
      (wheel : IsPut kinds.Wheel k4 k5) (join : IsPut kinds.Join k5 k6) where
    one_more : (kind : Kind) → length (boxes_of kind k6) ≡ of_each (count + 1) kind
    one_more kinds.Cpu = refl
    one_more kinds.Fp = there kinds.Fp refl join ∙ there kinds.Fp refl wheel ∙ there kinds.Fp refl edf ∙ here fp
        ∙ ap (λ n. n + 1) (there kinds.Fp refl rr ∙ there kinds.Fp refl sfq ∙ is.each kinds.Fp)
    one_more kinds.Edf = there kinds.Edf refl join ∙ there kinds.Edf refl wheel ∙ here edf
        ∙ ap (λ n. n + 1) (there kinds.Edf refl fp ∙ there kinds.Edf refl rr ∙ there kinds.Edf refl sfq
        ∙ is.each kinds.Edf)
    one_more kinds.Sfq = there kinds.Sfq refl join ∙ there kinds.Sfq refl wheel ∙ there kinds.Sfq refl edf
        ∙ there kinds.Sfq refl fp ∙ there kinds.Sfq refl rr ∙ here sfq ∙ ap (λ n. n + 1) (is.each kinds.Sfq)
    one_more kinds.Rr = there kinds.Rr refl join ∙ there kinds.Rr refl wheel ∙ there kinds.Rr refl edf
        ∙ there kinds.Rr refl fp ∙ here rr ∙ ap (λ n. n + 1) (there kinds.Rr refl sfq ∙ is.each kinds.Rr)
    one_more kinds.Wheel = there kinds.Wheel refl join ∙ here wheel
        ∙ ap (λ n. n + 1) (there kinds.Wheel refl edf ∙ there kinds.Wheel refl fp ∙ there kinds.Wheel refl rr
        ∙ there kinds.Wheel refl sfq ∙ is.each kinds.Wheel)
    one_more kinds.Join = here join
        ∙ ap (λ n. n + 1) (there kinds.Join refl wheel ∙ there kinds.Join refl edf ∙ there kinds.Join refl fp
        ∙ there kinds.Join refl rr ∙ there kinds.Join refl sfq ∙ is.each kinds.Join)

    -- a round of boxes, one of each kind
    pub filled_more : IsFilled (count + 1) k6
    filled_more = record {
      each = one_more;
      unused = join.uncounted ∙ wheel.uncounted ∙ edf.uncounted ∙ fp.uncounted ∙ rr.uncounted ∙ sfq.uncounted
          ∙ is.unused;
    }

  pub filled_whole : {kit : Kit V P} → IsFilled 64 kit → boxes_in kit ≡ full_kit
  filled_whole is = λ i. record {
    left = λ kind. is.each kind i;
    used = λ kind. (ap (λ (xs : List ℕ). slice_index xs (place_of kind)) is.unused ∙ none_used kind) i;
  }
