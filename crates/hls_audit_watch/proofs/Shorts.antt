-- A watch that is told a window of a list tick by tick.
use Rattle.std.proofs.Common.{◌≡◌, ℕ, ◌+◌, ◌-◌, ◌<◌, ◌≤◌, Bool, true, false, List, [], ◌∷◌, ◌++◌, length, sym, ap}
use Rattle.std.proofs.Common.{◌∙◌, subst, arith, inl, inr}
use Rattle.std.proofs.lemmas.Bool.{cases_lt}
use Rattle.std.proofs.lemmas.List.{get_or_past}
use Rattle.hls_guarantee.specs.declared.Guarantee.{Guarantee}
use Rattle.hls_guarantee.specs.Service.{schedule_of}
use Rattle.hls_guarantee.specs.Satisfaction.{Satisfies, ListSatisfies}
use Rattle.hls_guarantee.proofs.Windows.{IsWindow, window-satisfies, satisfies-window}
use Rattle.hls_audit_watch.specs.First.{IsFirstAt}
use Rattle.hls_audit_watch.specs.Shortages.{IsShort}
use Rattle.hls_audit_watch.specs.Watched.{Watched}
use Rattle.hls_audit_watch.proofs.Endings.{length-more, old-at, new-at}

-- the list is that of the longest window that ends before tick i
pub record IsTold (ready served list : List Bool) (i : ℕ) : Type 0 where
  pub from : ℕ
  pub ends : from + length list ≡ i
  pub window : IsWindow list (schedule_of served) from
  pub all : (t : ℕ) → from ≤ t → t < i → schedule_of ready t ≡ true
  pub began : 0 < from → schedule_of ready (from - 1) ≡ false

pub told_none : (ready served list : List Bool) → list ≡ [] → IsTold ready served list 0
told_none ready served list none =
    let z : length list ≡ 0 = ap (λ (l : List Bool). length l) none in
    record {
      from = 0;
      ends = omega arith;
      window = record { same = λ t lt. absurd (omega arith) };
      all = λ t lo hi. absurd (omega arith);
      began = λ some. absurd (omega arith);
    }

-- a tick in which it is not ready
pub told_anew : (ready served list : List Bool) (i : ℕ) → list ≡ [] → schedule_of ready i ≡ false →
    IsTold ready served list (i + 1)
told_anew ready served list i none off =
    let z : length list ≡ 0 = ap (λ (l : List Bool). length l) none in
    let back : i ≡ i + 1 - 1 = omega arith in
    record {
      from = i + 1;
      ends = omega arith;
      window = record { same = λ t lt. absurd (omega arith) };
      all = λ t lo hi. absurd (omega arith);
      began = λ some. sym (ap (λ (t : ℕ). schedule_of ready t) back) ∙ off;
    }

-- and one in which it is
pub told_more : (ready served list : List Bool) (i : ℕ) (b : Bool) → schedule_of ready i ≡ true →
    b ≡ schedule_of served i → IsTold ready served list i → IsTold ready served (list ++ b ∷ []) (i + 1)
told_more ready served list i b on is told =
    let long = length-more list b in
    let ends = told.ends in
    record {
      from = told.from;
      ends = omega arith;
      window = record {
        same = λ t lt. elim (cases_lt t (length list)) [
          | inl old ↦ old-at list b t old ∙ told.window.same t old
          | inr new ↦
              let here : t ≡ length list = omega arith in
              let there : i ≡ t + told.from = omega arith in
              ap (λ (k : ℕ). schedule_of (list ++ b ∷ []) k) here ∙
              (new-at list b ∙ (is ∙ ap (λ (k : ℕ). schedule_of served k) there))
        ];
      };
      all = λ t lo hi. elim (cases_lt t i) [
        | inl old ↦ told.all t lo old
        | inr new ↦
            let here : t ≡ i = omega arith in
            ap (λ (k : ℕ). schedule_of ready k) here ∙ on
      ];
      began = told.began;
    }

-- windows that end together begin together
no_later : (ready : List Bool) (a b i : ℕ) → a ≤ i → ((t : ℕ) → b ≤ t → t < i → schedule_of ready t ≡ true) →
    (0 < a → schedule_of ready (a - 1) ≡ false) → a ≤ b
no_later ready a b i within all began = elim (cases_lt b a) [
  | inr le ↦ le
  | inl lt ↦
      let off = began (omega arith) in
      let on = all (a - 1) (omega arith) (omega arith) in
      absurd (let no : false ≡ true = sym off ∙ on in cc)
]

upto : (g : Guarantee) (f : ℕ → Bool) (a b c d : ℕ) → a ≡ b → c ≡ d → Satisfies g f a c → Satisfies g f b d
upto g f a b c d p q s = subst (λ k. Satisfies g f k d) p (subst (λ k. Satisfies g f a k) q s)

-- where the tick is short, the list does not satisfy the guarantee, and the other way round
pub short_lacks : (g : Guarantee) (ready served list : List Bool) (i : ℕ) (b : Bool) → schedule_of ready i ≡ true →
    b ≡ schedule_of served i → IsTold ready served list i → IsShort g ready served i →
    ListSatisfies g (list ++ b ∷ []) → ⊥
unfolding told_more
short_lacks g ready served list i b on is told s kept =
    let more = told_more ready served list i b on is told in
    let ends = told.ends in
    let ends_more = more.ends in
    let begins = s.begins in
    let first = no_later ready told.from s.from i (omega arith) s.all told.began in
    let last = no_later ready s.from told.from i begins told.all s.began in
    let same : told.from ≡ s.from = omega arith in
    s.short
    (upto g (schedule_of served) told.from s.from (told.from + length (list ++ b ∷ [])) (i + 1) same ends_more
    (satisfies-window g (list ++ b ∷ []) (schedule_of served) told.from more.window kept))

pub lacks_short : (g : Guarantee) (ready served list : List Bool) (i : ℕ) (b : Bool) → schedule_of ready i ≡ true →
    b ≡ schedule_of served i → IsTold ready served list i → (ListSatisfies g (list ++ b ∷ []) → ⊥) →
    IsShort g ready served i
unfolding told_more
lacks_short g ready served list i b on is told lost =
    let more = told_more ready served list i b on is told in
    let ends = told.ends in
    let ends_more = more.ends in
    record {
      now = on;
      from = told.from;
      begins = omega arith;
      all = told.all;
      began = told.began;
      short = λ s. lost
          (window-satisfies g (list ++ b ∷ []) (schedule_of served) told.from more.window
          (subst (λ k. Satisfies g (schedule_of served) told.from k) (sym ends_more) s));
    }

-- the watch is told the window, and no tick before is short
pub record IsShortless (g : Guarantee) (ready served : List Bool) (w : Watched) (i : ℕ) : Type 0 where
  pub same : w.guarantee ≡ g
  pub room : w.ticks ≡ length served
  pub told : IsTold ready served w.list i
  pub none : (k : ℕ) → k < i → IsShort g ready served k → ⊥

none-more : (P : ℕ → Type 0) (i : ℕ) → ((k : ℕ) → k < i → P k → ⊥) → (P i → ⊥) → (k : ℕ) → k < i + 1 → P k → ⊥
none-more P i before here k lt p = elim (cases_lt k i) [
  | inl old ↦ before k old p
  | inr new ↦ let e : k ≡ i = omega arith in here (subst P e p)
]

pub shortless_none : (g : Guarantee) (ready served : List Bool) (w : Watched) → w.guarantee ≡ g →
    w.ticks ≡ length served → w.list ≡ [] → IsShortless g ready served w 0
shortless_none g ready served w same room none = record {
  same = same;
  room = room;
  told = told_none ready served w.list none;
  none = λ k lt s. absurd (omega arith);
}

pub shortless_off : (g : Guarantee) (ready served : List Bool) (old now : Watched) (i : ℕ) →
    now ≡ record old { list = [] } → schedule_of ready i ≡ false → IsShortless g ready served old i →
    IsShortless g ready served now (i + 1)
shortless_off g ready served old now i is off s = record {
  same = ap (λ (w : Watched). w.guarantee) is ∙ s.same;
  room = ap (λ (w : Watched). w.ticks) is ∙ s.room;
  told = told_anew ready served now.list i (ap (λ (w : Watched). w.list) is) off;
  none = none-more (IsShort g ready served) i s.none
      (λ short. absurd (let no : false ≡ true = sym off ∙ short.now in cc));
}

pub shortless_on : (g : Guarantee) (ready served : List Bool) (old now : Watched) (i : ℕ) (b : Bool) →
    now ≡ record old { list = old.list ++ b ∷ [] } → schedule_of ready i ≡ true → b ≡ schedule_of served i →
    ListSatisfies now.guarantee now.list → IsShortless g ready served old i →
    IsShortless g ready served now (i + 1)
shortless_on g ready served old now i b is on at kept s =
    let same : now.guarantee ≡ g = ap (λ (w : Watched). w.guarantee) is ∙ s.same in
    let list : now.list ≡ old.list ++ b ∷ [] = ap (λ (w : Watched). w.list) is in
    let satisfied : ListSatisfies g (old.list ++ b ∷ []) =
    subst (λ l. ListSatisfies g l) list (subst (λ h. ListSatisfies h now.list) same kept) in
    record {
      same = same;
      room = ap (λ (w : Watched). w.ticks) is ∙ s.room;
      told = subst (λ l. IsTold ready served l (i + 1)) (sym list) (told_more ready served old.list i b on at s.told);
      none = none-more (IsShort g ready served) i s.none
          (λ short. short_lacks g ready served old.list i b on at s.told short satisfied);
    }

pub short_found : (g : Guarantee) (ready served : List Bool) (old now : Watched) (i : ℕ) (b : Bool) →
    now ≡ record old { list = old.list ++ b ∷ [] } → schedule_of ready i ≡ true → b ≡ schedule_of served i →
    (ListSatisfies now.guarantee now.list → ⊥) → IsShortless g ready served old i →
    IsFirstAt (IsShort g ready served) i
short_found g ready served old now i b is on at lost s =
    let same : now.guarantee ≡ g = ap (λ (w : Watched). w.guarantee) is ∙ s.same in
    let list : now.list ≡ old.list ++ b ∷ [] = ap (λ (w : Watched). w.list) is in
    record {
      here = lacks_short g ready served old.list i b on at s.told
          (λ kept. lost
          (subst (λ h. ListSatisfies h now.list) (sym same) (subst (λ l. ListSatisfies g l) (sym list) kept)));
      earliest = s.none;
    }

pub short_nowhere : (g : Guarantee) (ready served : List Bool) (w : Watched) (i : ℕ) → length ready ≤ i →
    IsShortless g ready served w i → (k : ℕ) → IsShort g ready served k → ⊥
short_nowhere g ready served w i long s k short = elim (cases_lt k i) [
  | inl old ↦ s.none k old short
  | inr past ↦
      let off = get_or_past ready k false (omega arith) in
      absurd (let no : false ≡ true = sym off ∙ short.now in cc)
]
