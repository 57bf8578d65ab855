-- What a watch knows at first.
use Rattle.std.proofs.Common.{◌≡◌, ℕ, ◌*◌, ◌%◌, ◌<◌, ◌≤◌, Bool, true, false, List, [], ◌∷◌, ◌++◌, length, refl, sym}
use Rattle.std.proofs.Common.{subst, arith, ap, ◌∙◌}
use Rattle.std.proofs.Math.Nat.{mod-eq_of_lt}
use Rattle.std.specs.Prelude.{IsTrue, ◌↔◌}
use Rattle.hls_chron.specs.Parts.{all_parts, parts}
use Rattle.hls_guarantee.specs.declared.Guarantee.{Guarantee}
use Rattle.hls_guarantee.specs.declared.Guarantee.TheVariants.{All, Null, Resb, Resc, Psbe}
use Rattle.hls_guarantee.specs.Cap.{ListKeepsCap}
use Rattle.hls_guarantee.specs.Limits.{IsValid}
use Rattle.hls_guarantee.specs.Satisfaction.{ListSatisfies}
use Rattle.hls_guarantee.specs.Service.{schedule_of}
use Rattle.hls_guarantee.proofs.Debts.{no_debt}
use Rattle.hls_guarantee.proofs.Excesses.{no_excess}
use Rattle.hls_audit_watch.specs.declared.capping.Excess.{Excess}
use Rattle.hls_audit_watch.specs.declared.cuts.Cuts.{Cuts}
use Rattle.hls_audit_watch.specs.Inside.Carried.{HasPlaces, HasRate, IsCarried, IsCapCarried}
use Rattle.hls_audit_watch.specs.Inside.Lately.{Lately}
use Rattle.hls_audit_watch.specs.Inside.Periods.{IsPeriodOf, IsCapPeriodOf}
use Rattle.hls_audit_watch.specs.Inside.Watching.{IsKeeping, IsCapping}
use Rattle.hls_audit_watch.proofs.Carrying.{satisfies_none, keeps_cap_none}
use Rattle.hls_audit_watch.proofs.Cutting.{cuts_none}
use Rattle.hls_audit_watch.proofs.Endings.{length-more}

carried_none : (g : Guarantee) (w : ℕ) (cuts : Cuts) → cuts.from ≡ 0 → cuts.free ≡ 0 → IsCarried g w 0 cuts []
carried_none All w cuts from free = tt
carried_none Null w cuts from free = tt
carried_none (Resb hard x y) w cuts from free = rw (from, free) (cuts_none hard x y w cuts.broken.items)
carried_none (Resc hard x y) w cuts from free = tt
carried_none (Psbe s d) w cuts from free =
    no_debt (s.num * d.den) (d.den * s.den) (d.num * s.den) (schedule_of [])

cap_carried_none : (g : Guarantee) → IsCapCarried g 0 []
cap_carried_none All = tt
cap_carried_none Null = tt
cap_carried_none (Resb true x y) = no_excess (parts x y) all_parts (2 * x * all_parts) (schedule_of [])
cap_carried_none (Resb false x y) = tt
cap_carried_none (Resc hard x y) = tt
cap_carried_none (Psbe s d) = tt

pub keeping_none : (g : Guarantee) (ticks w : ℕ) (cuts : Cuts) (list : List Bool) → IsValid g →
    ticks ≤ 1000000 → ((n : ℕ) → n ≤ ticks → IsPeriodOf g w n) → HasPlaces g w (length cuts.broken.items) → 1 ≤ w →
    cuts.from ≡ 0 → cuts.place ≡ 0 → cuts.free ≡ 0 → list ≡ [] → IsKeeping g ticks w 0 cuts true list
keeping_none g ticks w cuts list valid few period room some from place free none =
    let placed : cuts.place ≡ cuts.from % w =
    let start : 0 % w ≡ 0 = mod-eq_of_lt (let s : 0 < w = omega arith in s) in
    place ∙ (sym start ∙ ap (λ (n : ℕ). n % w) (sym from)) in
    subst (λ l. IsKeeping g ticks w 0 cuts true l) (sym none) (record {
      valid = valid;
      few = few;
      within = omega arith;
      some = some;
      period = period;
      room = room;
      placed = placed;
      kept_is = (λ is. satisfies_none g valid, λ s. refl);
      carried = λ is. carried_none g w cuts from free;
    })

pub capping_none : (g : Guarantee) (ticks w : ℕ) (excess : Excess) (list : List Bool) → IsValid g →
    ticks ≤ 1000000 → ((n : ℕ) → n ≤ ticks → IsCapPeriodOf g w n) → HasRate g excess.rate → excess.had ≡ 0 →
    list ≡ [] → IsCapping g ticks w excess true list
capping_none g ticks w excess list valid few period rate had none =
    subst (λ l. IsCapping g ticks w excess true l) (sym none) (record {
      valid = valid;
      few = few;
      within = omega arith;
      period = period;
      rate = rate;
      capped_is = (λ is. keeps_cap_none g, λ s. refl);
      carried = λ is. subst (λ n. IsCapCarried g n []) (sym had) (cap_carried_none g);
    })

-- and with one tick more
pub keeping_more : (g : Guarantee) (ticks w debt : ℕ) (cuts : Cuts) (kept : Bool) (l : List Bool) (b : Bool)
    (now : Lately) (owed : ℕ) (left : Cuts) (keeps : Bool) → IsKeeping g ticks w debt cuts kept l → length l < ticks →
    now ≡ record { period = w; list = l ++ b ∷ [] } → HasPlaces g w (length left.broken.items) →
    left.place ≡ left.from % w → (IsTrue keeps ↔ ListSatisfies g (l ++ b ∷ [])) →
    (IsTrue keeps → IsCarried g w owed left (l ++ b ∷ [])) → IsKeeping g ticks now.period owed left keeps now.list
keeping_more g ticks w debt cuts kept l b now owed left keeps v few is room placed k c =
    let long = length-more l b in
    subst (λ (r : Lately). IsKeeping g ticks r.period owed left keeps r.list) (sym is) (record {
      valid = v.valid;
      few = v.few;
      within = omega arith;
      some = v.some;
      period = v.period;
      room = room;
      placed = placed;
      kept_is = k;
      carried = c;
    })

pub capping_more : (g : Guarantee) (ticks w : ℕ) (excess : Excess) (capped : Bool) (l : List Bool) (b : Bool)
    (now : Lately) (left : Excess) (caps : Bool) → IsCapping g ticks w excess capped l → length l < ticks →
    now ≡ record { period = w; list = l ++ b ∷ [] } → left.rate ≡ excess.rate →
    (IsTrue caps ↔ ListKeepsCap g (l ++ b ∷ [])) → (IsTrue caps → IsCapCarried g left.had (l ++ b ∷ [])) →
    IsCapping g ticks now.period left caps now.list
capping_more g ticks w excess capped l b now left caps v few is same k c =
    let long = length-more l b in
    subst (λ (r : Lately). IsCapping g ticks r.period left caps r.list) (sym is) (record {
      valid = v.valid;
      few = v.few;
      within = omega arith;
      period = v.period;
      rate = subst (λ n. HasRate g n) (sym same) v.rate;
      capped_is = k;
      carried = c;
    })
