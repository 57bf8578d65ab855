-- The best slot of a ranking, one slot more at a time.
use Rattle.std.proofs.Common.{◌≡◌, ℕ, ◌+◌, Bool, true, false, arith, refl, sym, ◌∙◌}
use Rattle.std.specs.Prelude.{Option, Some, None, is_some, nat_le, if◌then◌else◌}
use Rattle.std.proofs.lemmas.Bool.{leb-true, leb-false}
use Rattle.hls_kinds_lookup.specs.declared.choice.Ranked.{Ranked}
use Rattle.hls_kinds.specs.Slots.{any_below, IsFirst}
use Rattle.hls_kinds_lookup.specs.Rankings.{better_of}
use Rattle.hls_kinds.proofs.SlotLaws.{any_below-zero, any_below-hit, any_below-miss}
use Rattle.hls_kinds.proofs.SlotLaws.{first-alone, first-better, first-held, first-missed}

pub record FirstAt (test : ℕ → Bool) (key : ℕ → ℕ) (n : ℕ) (ranked : Ranked) : Type 0 where
  pub is_first : IsFirst n test key ranked.slot
  pub its_key : ranked.key ≡ key ranked.slot

abbrev pub FirstIn : (test : ℕ → Bool) (key : ℕ → ℕ) (n : ℕ) → Option Ranked → Type 0
FirstIn test key n None = Unit {0}
FirstIn test key n (Some ranked) = FirstAt test key n ranked

pub record IsBest (test : ℕ → Bool) (key : ℕ → ℕ) (n : ℕ) (best : Option Ranked) : Type 0 where
  pub any : is_some best ≡ any_below test n
  pub found : FirstIn test key n best

pub best-none : (test : ℕ → Bool) (key : ℕ → ℕ) → IsBest test key 0 None
best-none test key = record { any = sym (any_below-zero test); found = tt }

found-missed : (test : ℕ → Bool) (key : ℕ → ℕ) (n : ℕ) (best : Option Ranked) → FirstIn test key n best
    → test n ≡ false → FirstIn test key (n + 1) best
found-missed test key n None is miss = tt
found-missed test key n (Some held) is miss =
    record { is_first = first-missed test key n held.slot is.is_first miss; its_key = is.its_key }

pub best-miss : (test : ℕ → Bool) (key : ℕ → ℕ) (n : ℕ) (best : Option Ranked) → IsBest test key n best
    → test n ≡ false → IsBest test key (n + 1) best
best-miss test key n best is miss = record {
  any = is.any ∙ sym (any_below-miss test n miss);
  found = found-missed test key n best is.found miss;
}

held_or : (test : ℕ → Bool) (key : ℕ → ℕ) (n : ℕ) (held : Ranked) → FirstAt test key n held → test n ≡ true
    → (keeps : Bool) → nat_le held.key (key n) ≡ keeps
    → FirstAt test key (n + 1) (if keeps then held else record { slot = n; key = key n })
held_or test key n held is hit true keeps =
    record {
      is_first = first-held test key n held.slot is.is_first (omega (
        arith,
        leb-true held.key (key n) keeps,
        is.its_key,
      ));
      its_key = is.its_key;
    }
held_or test key n held is hit false keeps =
    record {
      is_first = first-better test key n held.slot is.is_first hit (omega (
        arith,
        leb-false held.key (key n) keeps,
        is.its_key,
      ));
      its_key = refl;
    }

found-hit : (test : ℕ → Bool) (key : ℕ → ℕ) (n : ℕ) (best : Option Ranked) → IsBest test key n best
    → test n ≡ true → FirstAt test key (n + 1) (better_of best (record { slot = n; key = key n }))
found-hit test key n None is hit =
    record { is_first = first-alone test key n (sym is.any) hit; its_key = refl }
found-hit test key n (Some held) is hit =
    held_or test key n held is.found hit (nat_le held.key (key n)) refl

pub best-hit : (test : ℕ → Bool) (key : ℕ → ℕ) (n : ℕ) (best : Option Ranked) → IsBest test key n best
    → test n ≡ true → IsBest test key (n + 1) (Some (better_of best (record { slot = n; key = key n })))
best-hit test key n best is hit = record {
  any = sym (any_below-hit test n hit);
  found = found-hit test key n best is hit;
}

pub ruleset best_laws = (best-none, best-miss, best-hit)
